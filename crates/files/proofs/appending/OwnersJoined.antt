-- Sectors that nobody owned join the owners: none is owned twice, and the SAT with their bits set is the SAT of the owners with them.
use mathlib.Core.Path.{◌≡◌, sym, ◌∙◌, ap}
use mathlib.Core.Bool.{false, true≢false, true, not}
use mathlib.Core.List.{List, [], ◌∷◌, ◌++◌}
use Prim.Native.Nat.{ℕ, ◌≤◌}
use native.Mathlib.Omega.{arith}
use lib.Dec.{ltb}
use borrow.Author.Tests.{ltb-true, lt-ltb, not-true}
use Rattle.numbers.specs.Numbers.{most_sectors}
use Rattle.lists.specs.Lists.{among, distinct}
use Rattle.lists.proofs.Tests.{is_false, and_left, and_right, both_true, not_both}
use Rattle.lists.proofs.Lists.{all_ext, all_head, all_tail, among-append}
use Rattle.volume.proofs.BitsSet.{sat_numbers}
use Rattle.records.proofs.LaidStream.{inside}
use Rattle.files.proofs.OwnSectorsWritten.{Part}
use Rattle.files.proofs.Kept.FileSame.{clear}
use Rattle.files.proofs.OwnersApart.{clear_by, clear_at}

-- fewer sectors are kept clear of, more are written
pub Part-out : (ds ss : List ℕ) (u : ℕ) → Part ds ss → among u ss ≡ false → among u ds ≡ false
Part-out ds ss u p h = is_false _ (λ q. true≢false (sym (p u q) ∙ h))

pub clear_narrow : (ws vs ss : List ℕ) → Part ws vs → clear vs ss ≡ true → clear ws ss ≡ true
clear_narrow ws vs ss p h = clear_by ws ss (λ u m. Part-out ws vs u p (clear_at vs ss u h m))

pub inside_table : (t : ℕ) (ss : List ℕ) → t ≤ most_sectors → inside t ss ≡ true → sat_numbers ss ≡ true
inside_table t ss h s = all_ext (λ u. ltb u t) (λ u. ltb u t) (λ u. ltb u most_sectors) ss (λ u a b. lt-ltb u most_sectors (omega (arith, ltb-true u t a))) s s

-- two lists without repeats that have nothing in common
pub distinct_join : (n q : List ℕ) → distinct n ≡ true → distinct q ≡ true → clear q n ≡ true → distinct (n ++ q) ≡ true
unfolding distinct clear
distinct_join [] q dn dq c = dq
distinct_join (x ∷ n) q dn dq c =
    let out : among x (n ++ q) ≡ false =
    among-append x n q ∙ not_both _ _ (not-true _ (and_left _ _ dn)) (not-true _ (all_head (λ u. not (among u q)) x n c)) in
    both_true _ _ (ap not out) (distinct_join n q (and_right _ _ dn) dq (all_tail (λ u. not (among u q)) x n c))
