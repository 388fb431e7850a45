-- Places that exist, and lengths that a contiguous transfer takes.
use mathlib.Core.Path.{◌≡◌, refl}
use mathlib.Core.Bool.{true, false}
use mathlib.Core.List.{List}
use Prim.Native.Nat.{ℕ, ◌+◌, ◌≤◌, ◌<◌, ◌/◌, ◌*◌, ◌%◌}
use native.Mathlib.Omega.{arith}
use borrow.Author.Tests.{le-leb, lt-ltb, not-false, eqb-true, eqb-false, ltb-false}
use Rattle.numbers.specs.Numbers.{most_moved}
use Rattle.lists.proofs.Tests.{both_true, or_left, or_right}
use Rattle.volume.specs.Directory.{contiguous, size}
use Rattle.files.specs.Files.{extent}
use Rattle.luns.specs.declared.Place.TheVariants.{At}
use Rattle.luns.specs.Luns.{place_exists}
use Rattle.work.specs.Transfers.{units, odd_length}
use Rattle.promises.proofs.Units.{extent_run}

pub place_run : (v e : List ℕ) (i n : ℕ) → contiguous e ≡ true → 1 ≤ n → n ≤ most_moved → i + n ≤ size e → place_exists v e (At i n) ≡ true
unfolding place_exists
place_run v e i n q a b c =
    let x : i + n ≤ extent v e = omega (arith, extent_run v e q) in
    rw q (both_true _ _ (both_true _ _ (le-leb 1 n a) (le-leb n most_moved b)) (le-leb (i + n) (extent v e) x))

pub place_one : (v e : List ℕ) (i : ℕ) → contiguous e ≡ false → i < extent v e → place_exists v e (At i 1) ≡ true
unfolding place_exists
place_one v e i q l = rw q (both_true _ _ refl (lt-ltb i (extent v e) l))

-- how many units a length is
pub units_run : (e : List ℕ) (m : ℕ) → contiguous e ≡ true → units e m ≡ m / 256
unfolding units
units_run e m q = rw q

pub units-one : (e : List ℕ) (m : ℕ) → contiguous e ≡ false → units e m ≡ 1
unfolding units
units-one e m q = rw q

-- n sectors, 1 to 16
pub record Sectored (m : ℕ) : Type 0 where
  pub whole : m ≡ 256 * (m / 256)
  pub some : 1 ≤ m / 256
  pub few : m / 256 ≤ most_moved

pub sectored : (m : ℕ) → odd_length m ≡ false → Sectored m
unfolding odd_length
sectored m h =
    let a : m % 256 ≡ 0 = eqb-true _ _ (not-false _ (or_right _ _ (or_left _ _ h))) in
    let b : m ≡ 0 → ⊥ = eqb-false _ _ (or_left _ _ (or_left _ _ h)) in
    let c : m ≤ 256 * most_moved = ltb-false _ _ (or_right _ _ h) in
    record { whole = omega arith; some = at_least m b a; few = omega arith }
  where
    at_least : (m : ℕ) → (m ≡ 0 → ⊥) → m % 256 ≡ 0 → 1 ≤ m / 256
    at_least m b a = omega arith
