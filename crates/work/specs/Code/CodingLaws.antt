-- The laws of the two codings: in a file in which a transfer is of text if it is asked for as such, they are what the rules say.
use mathlib.Core.Path.{◌≡◌, refl}
use mathlib.Core.Bool.{Bool, true, false, not}
use mathlib.Core.List.{List}
use Prim.Native.Nat.{ℕ, ◌≤◌}
use lib.ListN.{length}
use lib.Dec.{leb}
use borrow.Author.Tests.{eqb-true, leb-true}
use Rattle.numbers.specs.Numbers.{record_limit}
use Rattle.lists.specs.Lists.{◌and◌, ◌or◌}
use Rattle.lists.proofs.Bools.{or-false}
use Rattle.lists.proofs.Tests.{and_left, and_right}
use Rattle.text.specs.Packing.{is_text, packed, unpacked}
use Rattle.volume.specs.Directory.{contiguous, record_length}
use Rattle.records.specs.Records.{allowed}
use Rattle.records.proofs.RecordStreams.{allowed_small}
use Rattle.work.specs.Transfers.{unfit, wrong_length, stored_as, handed_as, as_text}
use Rattle.work.specs.Code.Runs.{text_fits}
use Rattle.work.specs.Code.Codings.{same, text_fits_in}

-- bytes as they are
module _ (e : List ℕ) where
  pub plain_unfit_by : (bs : List ℕ) → contiguous e ≡ false → unfit false e bs ≡ not (allowed (record_length e) bs)
  unfolding unfit wrong_length as_text ◌and◌
  plain_unfit_by bs c = rw c (or-false (not (allowed (record_length e) bs)))

  pub plain_stored_by : (bs : List ℕ) → stored_as false e bs ≡ same bs
  unfolding stored_as as_text ◌and◌
  plain_stored_by bs = refl

  pub plain_handed_by : (ss : List ℕ) → handed_as false e ss ≡ same ss
  unfolding handed_as as_text ◌and◌
  plain_handed_by ss = refl

pub plain_short : (l : ℕ) (bs : List ℕ) → allowed l bs ≡ true → length bs ≤ record_limit
plain_short l bs h = allowed_small l bs h

-- texts
pub both_wrong : (a t : Bool) → (not (a and true) or not t) ≡ not (a and t)
unfolding ◌and◌ ◌or◌
both_wrong true true = refl
both_wrong true false = refl
both_wrong false true = refl
both_wrong false false = refl

module _ (e : List ℕ) (t : as_text true e ≡ true) where
  variable : record_length e ≡ 0
  unfolding as_text
  variable = eqb-true _ _ (and_right _ _ t)

  pub text_unfit_by : (bs : List ℕ) → contiguous e ≡ false → unfit true e bs ≡ not (text_fits_in (record_length e) bs)
  unfolding unfit wrong_length allowed text_fits ◌and◌ ◌or◌
  text_unfit_by bs c = rw (t, c, variable) (both_wrong (leb (length bs) record_limit) (is_text bs))

  pub text_stored_by : (bs : List ℕ) → stored_as true e bs ≡ packed bs
  unfolding stored_as
  text_stored_by bs = rw t

  pub text_handed_by : (ss : List ℕ) → handed_as true e ss ≡ unpacked ss
  unfolding handed_as
  text_handed_by ss = rw t

pub text_short : (l : ℕ) (bs : List ℕ) → text_fits_in l bs ≡ true → length bs ≤ record_limit
unfolding text_fits
text_short l bs h = leb-true _ _ (and_left _ _ h)
