-- Which sectors a delete frees and an allocate takes: exactly the file's; and that what allocate finds is the lowest.
use mathlib.Core.Path.{◌≡◌, refl, ap, sym, ◌∙◌}
use mathlib.Core.Bool.{Bool, true, false, not}
use mathlib.Core.List.{List, [], ◌++◌}
use Prim.Native.Nat.{ℕ, ◌*◌, ◌<◌}
use native.Mathlib.Omega.{arith}
use Rattle.lists.specs.Lists.{◌or◌, ◌and◌, range, among, distinct, index}
use Rattle.lists.specs.Parts.{blanks, sectors}
use Rattle.lists.proofs.Tests.{or_second, zeros-blanks}
use Rattle.lists.proofs.Bools.{or-false}
use Rattle.lists.proofs.Lists.{among-append}
use Rattle.lists.proofs.JoinedLists.{middle_apart}
use Rattle.lists.proofs.IndexFound.{index_before}
use Rattle.volume.specs.Volume.{dirs, sat}
use Rattle.volume.specs.Directory.{entries, entry_at, unused, entry, fields}
use Rattle.volume.specs.Sat.{is_free}
use Rattle.ownership.specs.Owners.{owned, all_owned}
use Rattle.ownership.proofs.OwnedRuns.{owned-unused}
use Rattle.files.specs.Files.{sound}
use Rattle.files.specs.Changes.{taken, allocated, deleted}
use Rattle.files.proofs.SoundFacts.{Facts, facts}
use Rattle.files.proofs.EntryAndSatWritten.{tables}
use Rattle.files.proofs.OneFileChanged.{Changed, sectors_kept, ahead, behind, owned_was, owned_now}
use Rattle.files.proofs.Kept.FreeAndOwned.{free_is}
use Rattle.files.proofs.allocation.Allocatable.{Allocatable}
use Rattle.keeping.proofs.DeleteKeeps.{delete_Changed, delete_sound}
use Rattle.keeping.proofs.AllocateKeeps.{allocate_Changed, allocate_owned, allocate_sound}

-- owners left out are free, and nothing else becomes so
without : (p g b : List ℕ) (x : ℕ) → distinct (p ++ (g ++ b)) ≡ true → not (among x (p ++ b)) ≡ (not (among x (p ++ (g ++ b))) or among x g)
without p g b x d = by (among x g) refl
  where
    none : (a c : Bool) → not (a or c) ≡ (not (a or (false or c)) or false)
    none a c = unfold ◌or◌ in (sym (or-false (not (a or c))))

    by : (c : Bool) → among x g ≡ c → not (among x (p ++ b)) ≡ (not (among x (p ++ (g ++ b))) or among x g)
    by true q = ap not (middle_apart p g b x d q) ∙ sym (or_second _ _ q)
    by false q = rw (among-append x p b, among-append x p (g ++ b), among-append x g b, q) (none (among x p) (among x b))

-- what is outside all is outside that part, and outside the others
with_more : (p g b : List ℕ) (x : ℕ) → not (among x (p ++ (g ++ b))) ≡ (not (among x (p ++ b)) and not (among x g))
unfolding ◌or◌ ◌and◌
with_more p g b x = rw (among-append x p (g ++ b), among-append x g b, among-append x p b) (by (among x p) (among x g) (among x b))
  where
    by : (a c d : Bool) → not (a or (c or d)) ≡ (not (a or d) and not c)
    by true c d = refl
    by false true true = refl
    by false true false = refl
    by false false true = refl
    by false false false = refl

-- so of two sound volumes whose owners differ in one part
module _ (v w : List ℕ) (F : Facts v) (G : Facts w) (p g b : List ℕ) (with-g : all_owned v ≡ p ++ (g ++ b)) (with_none : all_owned w ≡ p ++ b) where
  freed : (x : ℕ) → x < sectors v → x < sectors w → is_free (sat w) x ≡ (is_free (sat v) x or among x g)
  freed x h l =
      free_is w G x l ∙ rw with_none (without p g b x (rw with-g at F.none_twice))
      ∙ ap (λ (own : List ℕ). not (among x own) or among x g) (sym with-g) ∙ ap (λ (c : Bool). c or among x g) (sym (free_is v F x h))

-- delete: exactly the file's sectors become free
pub delete_frees : (v : List ℕ) (k : ℕ) → sound v ≡ true → k < 8 * dirs v → (x : ℕ) → x < sectors v
    → is_free (sat (deleted k v)) x ≡ (is_free (sat v) x or among x (owned v (entry_at v k)))
delete_frees v k s hk x h =
    let v' : List ℕ = deleted k v in
    let C : Changed v v' k (blanks 32) (tables v) = delete_Changed v k s hk in
    freed v v' (facts v s) (facts v' (delete_sound v k s hk)) (ahead v v' k (blanks 32) (tables v) C) (owned v (entry_at v k)) (behind v v' k (blanks 32) (tables v) C)
    (owned_was v v' k (blanks 32) (tables v) C) (owned_now v v' k (blanks 32) (tables v) C ∙ rw (owned-unused v' (blanks 32) (zeros-blanks 32)))
    x h (omega (arith, sectors_kept v v' k (blanks 32) (tables v) C))

-- allocate: what was free is still free, but for the run
pub allocate_takes : {v : List ℕ} {at : ℕ} {d : List ℕ} {k n l rc s : ℕ} → Allocatable v at d k n l rc s → (x : ℕ) → x < sectors v
    → is_free (sat (allocated at d k n l rc s v)) x ≡ (is_free (sat v) x and not (among x (range s (taken k n))))
allocate_takes {v} {at} {d} {k} {n} {l} {rc} {s} A x h =
    let v' : List ℕ = allocated at d k n l rc s v in
    let e' : List ℕ = entry (fields k d rc l s n) in
    let ws : List ℕ = range s (taken k n) ++ tables v in
    let C : Changed v v' at e' ws = allocate_Changed A in
    let p : List ℕ = ahead v v' at e' ws C in
    let b : List ℕ = behind v v' at e' ws C in
    let now-owned : all_owned v' ≡ p ++ (range s (taken k n) ++ b) = owned_now v v' at e' ws C ∙ rw (allocate_owned A) in
    let was-owned : all_owned v ≡ p ++ b = owned_was v v' at e' ws C ∙ rw (owned-unused v (entry_at v at) A.slot_unused) in
    free_is v' (facts v' (allocate_sound A)) x (omega (arith, sectors_kept v v' at e' ws C))
    ∙ rw now-owned (with_more p (range s (taken k n)) b x)
    ∙ ap (λ (own : List ℕ). not (among x own) and not (among x (range s (taken k n)))) (sym was-owned)
    ∙ ap (λ (c : Bool). c and not (among x (range s (taken k n)))) (sym (free_is v (facts v A.is_sound) x h))

-- allocate: the entries below the lowest unused one are used
pub lower_used : (v : List ℕ) (j : ℕ) → j < index unused (entries v) → unused (entry_at v j) ≡ false
unfolding entry_at
lower_used v j h = index_before unused (entries v) [] j h
