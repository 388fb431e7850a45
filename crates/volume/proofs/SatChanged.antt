-- A SAT that stands for some owners, with bits changed, stands for others.
use Rattle.std.specs.Prelude.{if◌then◌else◌}
use mathlib.Core.Bool.{Bool, true}
use mathlib.Core.List.{List}
use mathlib.Core.Path.{◌≡◌, ap, ◌∙◌}
use Prim.Native.Nat.{◌≤◌, ℕ, ◌+◌, ◌<◌, ◌*◌}
use native.Mathlib.Omega.{arith}
use native.Mathlib.Decide.{dec_lt}
use lib.ListN.{length, get_or-eq_default}
use lib.Dec.{eqb}
use Rattle.numbers.specs.Numbers.{most_sectors}
use Rattle.lists.specs.Lists.{among}
use Rattle.lists.proofs.AreBytes.{Bytes}
use Rattle.volume.specs.Sat.{packed, owns, sat_of, marked, with_bits}
use Rattle.volume.proofs.Bits.{get_or-map-range, length-sat_of, marked-sat_of, sat_is, one-le}
use Rattle.volume.proofs.BitsSet.{sat_numbers, length-with_bits, Bytes-with_bits, marked-with_bits}

packed-lt : (f : ℕ → Bool) (s : ℕ) → packed f s < 256
unfolding packed
packed-lt f s =
    omega (arith, one-le (f s), one-le (f (s + 1)), one-le (f (s + 2)), one-le (f (s + 3)), one-le (f (s + 4)), one-le (f (s + 5)), one-le (f (s + 6)), one-le (f (s + 7)))

pub Bytes-sat_of : (t : ℕ) (own : List ℕ) → Bytes (sat_of t own)
unfolding sat_of
Bytes-sat_of t own i = elim (dec_lt i 256) [
  | yes h ↦ rw (get_or-map-range (λ j. packed (owns t own) (8 * j)) 0 256 i h) (packed-lt (owns t own) (8 * (0 + i)))
  | no h ↦ let n : length (sat_of t own) ≤ i = omega (arith, length-sat_of t own) in rw (get_or-eq_default (sat_of t own) 0 n) (omega arith)
]

-- with the bits of ss made v, a SAT of the owners `own` is one of `own'` where they say so of each sector
pub sat_changed : (v t : ℕ) (own own' ss b : List ℕ) → v < 2 → b ≡ sat_of t own → sat_numbers ss ≡ true
    → ((s : ℕ) → s < most_sectors → (if among s ss then eqb v 1 else owns t own s) ≡ owns t own' s) → with_bits v b ss ≡ sat_of t own'
sat_changed v t own own' ss b hv hb hs h =
    let by : Bytes b = rw hb (Bytes-sat_of t own) in
    let l : length b ≡ 256 = ap length hb ∙ length-sat_of t own in
    sat_is t own' (with_bits v b ss) (length-with_bits v b ss ∙ l) (Bytes-with_bits v b ss hv by l hs)
    (λ s k.
    marked-with_bits v b ss s hv by l hs
    ∙ ap (λ (m : Bool). if among s ss then eqb v 1 else m) (ap (λ (c : List ℕ). marked c s) hb ∙ marked-sat_of t own s k)
    ∙ h s k)
