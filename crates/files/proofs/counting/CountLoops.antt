-- The loops of a bring-up: counts found slot by slot, and written slot by slot.
use Rattle.std.specs.Prelude.{if◌then◌else◌, Result, Ok, Err}
use mathlib.Core.Path.{◌≡◌, refl, ap, sym, ◌∙◌}
use Rattle.std.specs.Result.{is_ok, is_err}
use mathlib.Core.Bool.{Bool, true, false, true≢false}
use mathlib.Core.List.{List}
use Prim.Native.Nat.{ℕ, ◌+◌, ◌*◌, ◌≤◌, ◌<◌}
use native.Mathlib.Decide.{ℕ_discrete}
use native.Mathlib.Omega.{arith}
use lib.ListN.{length, get_or, set}
use lib.Seq.{get_or-set_same, get_or-set_other}
use Rattle.lists.specs.Lists.{◌or◌, distinct}
use Rattle.lists.specs.Parts.{part, put}
use Rattle.lists.proofs.Puts.{length-put}
use Rattle.lists.proofs.Tests.{or_left, or_right}
use Rattle.volume.specs.Directory.{entry_at, unused, contiguous, counted_as}
use Rattle.volume.specs.Volume.{dir_at, dirs}
use Rattle.volume.specs.Code.Located.{Located, entry_byte}
use Rattle.volume.specs.declared.locate.Layout.{Layout}
use Rattle.volume.proofs.EntriesMade.{made_to, made_length, made_later, made_next, made_none, made_all}
use Rattle.volume.proofs.EntryCounted.{counted_other}
use Rattle.std.specs.Prelude.{Some, None}
use Rattle.ownership.specs.Blocks.{sound3}
use Rattle.ownership.specs.Owners.{all_owned}
use Rattle.files.specs.Changes.{counted_in, brought_up}
use Rattle.files.specs.Code.Verdict.{file_before, records_before, count_before}
use Rattle.files.specs.Files.{records_in, sound_before}
use Rattle.files.proofs.Bounds.{records_short}
use Rattle.files.proofs.counting.BroughtUp.{length-counted_in}
use Rattle.files.proofs.map.OpenBlock.{Opens-at}

-- what is refused is not done
pub not_ok : {A B : Type 0} (r : Result A B) → is_err r ≡ true → is_ok r ≡ false
not_ok (Ok x) e = absurd (true≢false (sym e))
not_ok (Err y) e = refl

-- what is found of one slot
module _ (img e : List ℕ) where
  pub counted_whole : (n : ℕ) → count_before img e ≡ Some n → (file_before img e ≡ true) × (n ≡ records_before img e)
  unfolding count_before
  counted_whole n q = go (file_before img e) refl q
    where
      go : (b : Bool) → file_before img e ≡ b → (if b then Some (records_before img e) else None) ≡ Some n → (file_before img e ≡ true) × (n ≡ records_before img e)
      go true h r = (h, let z : records_before img e ≡ n = cc in sym z)
      go false h r = absurd (let z : ◌≡◌ {A = ℕ} 0 1 = cc in omega arith)

  pub counted_broken : count_before img e ≡ None → file_before img e ≡ false
  unfolding count_before
  counted_broken q = go (file_before img e) refl q
    where
      go : (b : Bool) → file_before img e ≡ b → (if b then Some (records_before img e) else None) ≡ None → file_before img e ≡ false
      go true h r = absurd (let z : ◌≡◌ {A = ℕ} 0 1 = cc in omega arith)
      go false h r = h

-- one count more is stored
pub one_more : (f : ℕ → ℕ) (cs : List ℕ) (k n : ℕ) → ((j : ℕ) → j < k → get_or cs j 0 ≡ f j) → k < length cs → n ≡ f k → (j : ℕ) → j < k + 1 → get_or (set cs k n) j 0 ≡ f j
one_more f cs k n h l q j m = elim (ℕ_discrete j k) [
  | yes e ↦ rw e (get_or-set_same cs k n 0 l ∙ q)
  | no e ↦ get_or-set_other cs k j n 0 e ∙ h j (omega arith)
]

-- the entry written with a count that was found
pub counted_before : (img e : List ℕ) → counted_as (records_before img e) e ≡ counted_in img e
unfolding counted_in records_before
counted_before img e = go (unused e or contiguous e) refl
  where
    go : (b : Bool) → unused e or contiguous e ≡ b → counted_as (if b then 0 else records_in img e) e ≡ counted_as (records_in img e) e
    go true h = counted_other 0 e h ∙ sym (counted_other (records_in img e) e h)
    go false h = refl

module _ (v : List ℕ) (p : Layout) (l : Located v p) where
  inside : 256 * (dir_at v + dirs v) ≤ length v
  inside = omega (arith, l.is_dir, l.is_dirs, l.dir_in, l.long)

  pub up_first : made_to (counted_in v) v 0 ≡ v
  up_first = made_none (counted_in v) v inside (length-counted_in v)

  pub up_last : made_to (counted_in v) v (8 * p.dirs) ≡ brought_up v
  unfolding brought_up
  up_last = ap (λ (n : ℕ). made_to (counted_in v) v (8 * n)) l.is_dirs ∙ made_all (counted_in v) v inside (length-counted_in v)

  pub up_long : (k : ℕ) → k ≤ 8 * p.dirs → length (made_to (counted_in v) v k) ≡ length v
  unfolding made_to
  up_long k h =
      length-put (256 * dir_at v) _ v (omega (arith, l.is_dirs, made_length (counted_in v) v inside (length-counted_in v) k (omega (arith, l.is_dirs)), inside))

  module _ (k : ℕ) (h : k < 8 * p.dirs) where
    slot : k < 8 * dirs v
    slot = omega (arith, l.is_dirs)

    pub up_next : (n : ℕ) (x z : List ℕ) → n ≡ records_before v (entry_at v k) → x ≡ made_to (counted_in v) v k
        → z ≡ put (entry_byte p k) (counted_as n (part (entry_byte p k) 32 x)) x → z ≡ made_to (counted_in v) v (k + 1)
    up_next n x z en ex ez =
        ez
        ∙ rw (ex, en, l.is_dir, made_later (counted_in v) v inside (length-counted_in v) k slot, counted_before v (entry_at v k))
        (made_next (counted_in v) v inside (length-counted_in v) k slot)

-- a count takes no more than four bytes
pub before_few : (img : List ℕ) (p : Layout) → Located img p → sound3 img ≡ true → distinct (all_owned img) ≡ true → (k : ℕ) → k < 8 * p.dirs
    → records_before img (entry_at img k) < 4294967296
unfolding records_before records_in
before_few img p l s3 once k h = go (unused (entry_at img k) or contiguous (entry_at img k)) refl
  where
    go : (b : Bool) → unused (entry_at img k) or contiguous (entry_at img k) ≡ b → (if b then 0 else records_in img (entry_at img k)) < 4294967296
    go true q = omega arith
    go false q =
        let u : unused (entry_at img k) ≡ false = or_left _ _ q in
        let c : contiguous (entry_at img k) ≡ false = or_right _ _ q in
        omega (arith, records_short img (entry_at img k) u c (Opens-at img p l s3 once k h u c))

-- what the whole comes to
module _ (img : List ℕ) where
  pub up_not : sound_before img ≡ false → (false ≡ sound_before img) × (img ≡ (if sound_before img then brought_up img else img))
  up_not h = (sym h, rw h)

  pub up_done : (x : List ℕ) → sound_before img ≡ true → x ≡ brought_up img → (true ≡ sound_before img) × (x ≡ (if sound_before img then brought_up img else img))
  up_done x h q = (sym h, q ∙ rw h)
