-- Update, by what came of replacing the record.
use Rattle.std.specs.Prelude.{if◌then◌else◌}
use mathlib.Core.Path.{◌≡◌, refl, ap}
use mathlib.Core.Bool.{Bool, true, false}
use mathlib.Core.List.{List}
use Prim.Native.Nat.{ℕ, ◌<◌}
use native.Mathlib.Omega.{arith}
use lib.ListN.{length}
use lib.Dec.{eqb, ltb}
use borrow.Author.Tests.{ltb-true, le-leb, lt-leb, ltb-false}
use Rattle.lists.specs.Lists.{◌and◌}
use Rattle.volume.specs.Directory.{contiguous}
use Rattle.files.specs.Files.{records, record_at, extent}
use Rattle.files.specs.Code.Outcomes.{replaced_of, is_long}
use Rattle.files.specs.declared.replace.ReplaceError.{ReplaceError}
use Rattle.files.specs.Changes.{updated}
use Rattle.work.specs.declared.Refusal.TheVariants.{BadRequest, BadLength}
use Rattle.work.specs.declared.Refusal.{Refusal}
use Rattle.work.specs.declared.Transfer.{Transfer}
use Rattle.std.specs.Prelude.{Result, Ok, Err, IsErrAnd}
use Rattle.work.specs.Refusals.{ruled}
use Rattle.work.specs.Transfers.{units, moving, as_text, stored_as, unfit, ended, replace_rules, update_rules, updating}
use Rattle.work.specs.Code.Deeds.{deed, done, refusal_of, done_by, moved, update_deed, replace_deed}
use Rattle.work.proofs.TextRules.{plain_unfit, plain_stored, sent_unfit, sent_stored}
use Rattle.files.specs.declared.replace.ReplaceError.TheVariants as replacing

-- a record that was replaced is there
pub replaced_there : (img e : List ℕ) (i n : ℕ) → replaced_of img e i n ≡ Ok tt → i < length (records img e)
unfolding replaced_of
replaced_there img e i n h = ltb-true _ _ (was (ltb i (length (records img e))) (eqb n (length (record_at img e i))) h)
  where
    was : (a b : Bool) → ◌≡◌ {A = Result Unit ReplaceError} (if a then (if b then Ok tt else Err replacing.OtherLength) else Err replacing.PastEnd) (Ok tt) → a ≡ true
    was true b h = refl
    was false b h = let z : ◌≡◌ {A = ℕ} 0 1 = cc in absurd (omega arith)

-- the answer of a record of n bytes as number i
abbrev pub answered : Result Unit ReplaceError → ℕ → ℕ → Result Transfer Refusal
answered (Ok _) i n = done n i 1
answered (Err why) i n = Err (refusal_of why)

-- what `?` hands on of it
pub passed_on : (r : Result Transfer Refusal) (why : ReplaceError) → IsErrAnd r (λ x. x ≡ refusal_of why) → r ≡ Err (refusal_of why)
passed_on (Ok _) why h = absurd h
passed_on (Err x) why h = ap Err h

module _ (img e : List ℕ) (i : ℕ) (bs : List ℕ) where
  -- a transfer that is not of text is one that was not asked for as such
  pub plain_update : (fmt : Bool) → as_text fmt e ≡ false → update_deed img e i false bs ≡ update_deed img e i fmt bs
  unfolding update_deed update_rules updating
  plain_update fmt t = rw (plain_unfit fmt e t bs, plain_stored fmt e t bs, sent_unfit e bs, sent_stored e bs) refl

  pub update_contiguous : (fmt : Bool) → contiguous e ≡ true → deed (Err BadRequest) img bs ≡ update_deed img e i fmt bs
  unfolding update_deed update_rules done_by ruled
  update_contiguous fmt c = rw c

  -- of a sequential file, of text or not, by ss
  module _ (c : contiguous e ≡ false) (t : Bool) where
    pub update_wrong : unfit t e bs ≡ true → deed (Err BadLength) img bs ≡ update_deed img e i t bs
    unfolding update_deed update_rules done_by ruled
    update_wrong a = rw (c, a)

    pub update_fine : (ss : List ℕ) → unfit t e bs ≡ false → stored_as t e bs ≡ ss → replace_deed img e i ss bs ≡ update_deed img e i t bs
    unfolding update_deed replace_deed update_rules updating done_by ruled
    update_fine ss a s = rw (c, a, s)

  -- as ss: r came of it
  pub update_came : (ss : List ℕ) → contiguous e ≡ false → (q r : Result Unit ReplaceError) (out : List ℕ)
      → (q ≡ replaced_of img e i (length ss)) × (out ≡ (if is_long img e i (length ss) then updated e i ss img else img)) → q ≡ r
      → deed (answered r i (length bs)) out bs ≡ replace_deed img e i ss bs
  unfolding replaced_of is_long replace_deed replace_rules moving moved units ended extent done_by ruled ◌and◌
  update_came ss c q r out came is =
      rw (← is, came.0, came.1) (go (ltb i (length (records img e))) (eqb (length ss) (length (record_at img e i))) refl refl)
    where
      go : (b d : Bool) → ltb i (length (records img e)) ≡ b → eqb (length ss) (length (record_at img e i)) ≡ d
          → deed (answered (replaced_of img e i (length ss)) i (length bs)) (if is_long img e i (length ss) then updated e i ss img else img) bs
          ≡ replace_deed img e i ss bs
      go false d p q = rw (c, p, le-leb (length (records img e)) i (ltb-false _ _ p))
      go true false p q = rw (c, p, q, lt-leb (length (records img e)) i (ltb-true _ _ p))
      go true true p q = rw (c, p, q, lt-leb (length (records img e)) i (ltb-true _ _ p))
