-- A byte with one bit made 0 or 1, as the code makes it: each law is one computed test over every byte and place.
use mathlib.Core.Path.{◌≡◌, refl}
use mathlib.Core.Bool.{true}
use Prim.Native.Nat.{ℕ, ◌+◌, ◌-◌, ◌*◌, ◌/◌, ◌%◌, ◌^◌, ◌<◌}
use lib.Bits.{bit_and, bit_or}
use lib.Dec.{eqb}
use borrow.Author.Tests.{eqb-true}
use Rattle.lists.specs.Lists.{◌and◌, all, range}
use Rattle.volume.proofs.Bits.{all-range}

cleared : all (λ b. all (λ k. eqb (bit_and b (255 - 1 * 2 ^ (7 - k) % 256)) (b - b / 2 ^ (7 - k) % 2 * 2 ^ (7 - k))) (range 0 8)) (range 0 256) ≡ true
unfolding all range ◌and◌
cleared = refl

pub bit_cleared : (b k : ℕ) → b < 256 → k < 8 → bit_and b (255 - 1 * 2 ^ (7 - k) % 256) ≡ b - b / 2 ^ (7 - k) % 2 * 2 ^ (7 - k)
bit_cleared b k hb hk =
    eqb-true _ _ (all-range (λ j. eqb (bit_and b (255 - 1 * 2 ^ (7 - j) % 256)) (b - b / 2 ^ (7 - j) % 2 * 2 ^ (7 - j))) 8
    (all-range (λ x. all (λ j. eqb (bit_and x (255 - 1 * 2 ^ (7 - j) % 256)) (x - x / 2 ^ (7 - j) % 2 * 2 ^ (7 - j))) (range 0 8)) 256 cleared b hb) k hk)

set : all (λ b. all (λ k. eqb (bit_or b (1 * 2 ^ (7 - k) % 256)) (b - b / 2 ^ (7 - k) % 2 * 2 ^ (7 - k) + 2 ^ (7 - k))) (range 0 8)) (range 0 256) ≡ true
unfolding all range ◌and◌
set = refl

pub bit_set : (b k : ℕ) → b < 256 → k < 8 → bit_or b (1 * 2 ^ (7 - k) % 256) ≡ b - b / 2 ^ (7 - k) % 2 * 2 ^ (7 - k) + 2 ^ (7 - k)
bit_set b k hb hk =
    eqb-true _ _ (all-range (λ j. eqb (bit_or b (1 * 2 ^ (7 - j) % 256)) (b - b / 2 ^ (7 - j) % 2 * 2 ^ (7 - j) + 2 ^ (7 - j))) 8
    (all-range (λ x. all (λ j. eqb (bit_or x (1 * 2 ^ (7 - j) % 256)) (x - x / 2 ^ (7 - j) % 2 * 2 ^ (7 - j) + 2 ^ (7 - j))) (range 0 8)) 256 set b hb) k hk)
