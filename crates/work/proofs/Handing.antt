-- Bytes handed over to a buffer, and a record of a stream as it is copied to the front of a room.
use mathlib.Core.Path.{◌≡◌, refl, ap, ◌∙◌}
use mathlib.Core.List.{List}
use mathlib.Core.Bool.{Bool, true, false}
use Prim.Native.Nat.{ℕ, ◌*◌, ◌+◌, ◌≤◌, ◌<◌}
use native.Mathlib.Omega.{arith}
use lib.ListN.{length, take}
use lib.Dec.{ltb}
use borrow.Author.Tests.{lt-ltb, le-ltb}
use Rattle.std.specs.Prelude.{if◌then◌else◌, Result, Ok, Err, IsErrAnd}
use Rattle.lists.specs.Parts.{part, over}
use Rattle.lists.proofs.LentParts.{length-part}
use Rattle.lists.proofs.Fronts.{over_front}
use Rattle.records.specs.Streams.{laid_out}
use Rattle.records.specs.Code.Mapped.{Mapped}
use Rattle.records.proofs.StreamBytes.{length-laid_out}
use Rattle.work.specs.declared.Refusal.{Refusal}
use Rattle.work.specs.declared.Refusal.TheVariants.{BadLength}
use Rattle.work.specs.declared.Transfer.{Transfer}
use Rattle.work.specs.Code.Codings.{handed, buffer_after}

abbrev count : Result ℕ Refusal → ℕ
count (Ok n) = n
count (Err _) = 0

module _ (bs buf : List ℕ) where
  pub handed_short : length buf < length bs → (Err BadLength ≡ handed bs buf) × (buf ≡ buffer_after bs buf)
  unfolding handed buffer_after
  handed_short h = (rw (lt-ltb (length buf) (length bs) h), rw (lt-ltb (length buf) (length bs) h))

  pub handed_long : length bs ≤ length buf → (Ok (length bs) ≡ handed bs buf) × (over bs buf ≡ buffer_after bs buf)
  unfolding handed buffer_after
  handed_long h = (rw (le-ltb (length buf) (length bs) h), rw (le-ltb (length buf) (length bs) h))

  pub handed_few : (n : ℕ) → Ok n ≡ handed bs buf → n ≤ length bs
  unfolding handed
  handed_few n is = let z : n ≡ count (handed bs buf) = ap count is in omega (arith, z, go (ltb (length buf) (length bs)))
    where
      go : (b : Bool) → count (if b then Err BadLength else Ok (length bs)) ≤ length bs
      go true = omega arith
      go false = let z : count (Ok (length bs)) ≡ length bs = refl in omega (arith, z)

-- len bytes of a stream
pub part_long : (img ss : List ℕ) (from len : ℕ) → Mapped img ss → from + len ≤ 256 * length ss → length (part from len (laid_out img ss)) ≡ len
part_long img ss from len m h = length-part from len (laid_out img ss) (omega (arith, h, length-laid_out img ss m))

pub stored_front : (ss d a : List ℕ) (len : ℕ) → length ss ≡ len → a ≡ over ss d → take len a ≡ ss
stored_front ss d a len l h = rw (h, ← l) (over_front ss d)

-- what `?` hands on
pub refused_on : (r : Result Transfer Refusal) (why : Refusal) → IsErrAnd r (λ x. x ≡ why) → r ≡ Err why
refused_on (Ok _) why h = absurd h
refused_on (Err x) why h = ap Err h

abbrev why_of : {A : Type 0} → Result A Refusal → Refusal
why_of (Ok _) = BadLength
why_of (Err why) = why

pub refused_as : {A : Type 0} (r : Result Transfer Refusal) (why w : Refusal) → IsErrAnd r (λ x. x ≡ why) → ◌≡◌ {A = Result A Refusal} (Err why) (Err w)
    → r ≡ Err w
refused_as r why w h e = refused_on r why h ∙ ap Err (ap why_of e)
