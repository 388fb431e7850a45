-- Which transfers are of text, and what that makes of the bytes that are sent and handed over.
use Rattle.std.specs.Prelude.{if◌then◌else◌}
use mathlib.Core.Path.{◌≡◌, refl, sym, ◌∙◌}
use mathlib.Core.Bool.{Bool, true, false, not}
use mathlib.Core.List.{List}
use Prim.Native.Nat.{ℕ, ◌≤◌, ◌/◌}
use native.Mathlib.Omega.{arith}
use lib.ListN.{length}
use lib.Dec.{leb}
use borrow.Author.Tests.{eqb-true, not-true, not-false, leb-true, le-leb}
use Rattle.numbers.specs.Numbers.{record_limit}
use Rattle.lists.specs.Lists.{◌and◌, ◌or◌}
use Rattle.lists.proofs.Bools.{or-false}
use Rattle.lists.proofs.Tests.{and_left, and_right, both_true}
use Rattle.lists.proofs.AreBytes.{Bytes}
use Rattle.text.specs.Packing.{is_text, packed, unpacked}
use Rattle.text.proofs.PackedLength.{packed_shorter}
use Rattle.text.proofs.PackedBytes.{packed-Bytes}
use Rattle.volume.specs.Directory.{contiguous, record_length}
use Rattle.records.specs.Records.{allowed}
use Rattle.work.specs.Code.Runs.{text_fits}
use Rattle.work.specs.Code.CodingLaws.{both_wrong}
use Rattle.work.specs.Transfers.{units, wrong_length, as_text, stored_as, handed_as, unfit}

module _ (fmt : Bool) (e : List ℕ) where
  -- of text
  module _ (t : as_text fmt e ≡ true) where
    pub text_asked : fmt ≡ true
    unfolding as_text
    text_asked = and_left _ _ (and_left _ _ t)

    pub text_sequential : contiguous e ≡ false
    unfolding as_text
    text_sequential = not-true _ (and_right _ _ (and_left _ _ t))

    pub text_variable : record_length e ≡ 0
    unfolding as_text
    text_variable = eqb-true _ _ (and_right _ _ t)

    pub text_stored : (bs : List ℕ) → stored_as fmt e bs ≡ packed bs
    unfolding stored_as
    text_stored bs = rw t

    pub text_handed : (ss : List ℕ) → handed_as fmt e ss ≡ unpacked ss
    unfolding handed_as
    text_handed ss = rw t

    pub text_unfit : (bs : List ℕ) → unfit fmt e bs ≡ not (text_fits bs)
    unfolding unfit wrong_length allowed text_fits ◌and◌ ◌or◌
    text_unfit bs = rw (t, text_sequential, text_variable) (both_wrong (leb (length bs) record_limit) (is_text bs))

  -- of the bytes as they are
  module _ (t : as_text fmt e ≡ false) where
    pub plain_stored : (bs : List ℕ) → stored_as fmt e bs ≡ bs
    unfolding stored_as
    plain_stored bs = rw t

    pub plain_handed : (ss : List ℕ) → handed_as fmt e ss ≡ ss
    unfolding handed_as
    plain_handed ss = rw t

    pub plain_unfit : (bs : List ℕ) → unfit fmt e bs ≡ wrong_length e bs
    unfolding unfit ◌and◌
    plain_unfit bs = rw t (or-false (wrong_length e bs))

-- a transfer that was not asked for as formatted is of the bytes as they are
module _ (e : List ℕ) where
  pub not_asked : as_text false e ≡ false
  unfolding as_text ◌and◌
  not_asked = refl

  pub sent_stored : (bs : List ℕ) → stored_as false e bs ≡ bs
  sent_stored bs = plain_stored false e not_asked bs

  pub sent_handed : (ss : List ℕ) → handed_as false e ss ≡ ss
  sent_handed ss = plain_handed false e not_asked ss

  pub sent_unfit : (bs : List ℕ) → unfit false e bs ≡ wrong_length e bs
  sent_unfit bs = plain_unfit false e not_asked bs

-- a contiguous file's are none
pub contiguous_plain : (fmt : Bool) (e : List ℕ) → contiguous e ≡ true → as_text fmt e ≡ false
unfolding as_text ◌and◌
contiguous_plain true e c = rw c
contiguous_plain false e c = refl

-- a text that fits is short, and is stored as a record that is allowed
pub fits_short : (bs : List ℕ) → text_fits bs ≡ true → length bs ≤ record_limit
unfolding text_fits
fits_short bs h = leb-true _ _ (and_left _ _ h)

pub fits_text : (bs : List ℕ) → text_fits bs ≡ true → is_text bs ≡ true
unfolding text_fits
fits_text bs h = and_right _ _ h

pub packed-allowed : (e bs : List ℕ) → record_length e ≡ 0 → text_fits bs ≡ true
    → allowed (record_length e) (packed bs) ≡ true
unfolding allowed ◌or◌
packed-allowed e bs v h =
    let m : length (packed bs) ≤ record_limit = omega (arith, packed_shorter bs, fits_short bs h) in
    both_true _ _ (le-leb _ _ m) (rw v)

allowed_right : (e r : List ℕ) → contiguous e ≡ false → allowed (record_length e) r ≡ true → wrong_length e r ≡ false
unfolding wrong_length
allowed_right e r c a = rw (c, a)

-- What is stored of bytes that fit: a record that is allowed, in whole sectors if the file has them, of bytes
module _ (fmt : Bool) (e bs : List ℕ) where
  pub stored_run : contiguous e ≡ true → stored_as fmt e bs ≡ bs
  stored_run c = plain_stored fmt e (contiguous_plain fmt e c) bs

  pub stored_units : units e (length (stored_as fmt e bs)) ≡ units e (length bs)
  unfolding units
  stored_units = go (contiguous e) refl
    where
      go : (b : Bool) → contiguous e ≡ b → (if contiguous e then length (stored_as fmt e bs) / 256 else 1) ≡ (if contiguous e then length bs / 256 else 1)
      go true c = rw (c, stored_run c)
      go false c = rw c

  pub sent_fits : unfit fmt e bs ≡ false → as_text fmt e ≡ true → text_fits bs ≡ true
  sent_fits h t = not-false _ (sym (text_unfit fmt e t bs) ∙ h)

  pub stored_fit : unfit fmt e bs ≡ false → wrong_length e (stored_as fmt e bs) ≡ false
  stored_fit h = go (as_text fmt e) refl
    where
      go : (b : Bool) → as_text fmt e ≡ b → wrong_length e (stored_as fmt e bs) ≡ false
      go true t = rw (text_stored fmt e t bs) (allowed_right e (packed bs) (text_sequential fmt e t) (packed-allowed e bs (text_variable fmt e t) (sent_fits h t)))
      go false t = rw (plain_stored fmt e t bs) (sym (plain_unfit fmt e t bs) ∙ h)

  pub stored_allowed : contiguous e ≡ false → unfit fmt e bs ≡ false → allowed (record_length e) (stored_as fmt e bs) ≡ true
  unfolding wrong_length
  stored_allowed c h = not-false _ (rw c at (stored_fit h))

  pub stored_Bytes : Bytes bs → Bytes (stored_as fmt e bs)
  stored_Bytes b = go (as_text fmt e) refl
    where
      go : (c : Bool) → as_text fmt e ≡ c → Bytes (stored_as fmt e bs)
      go true t = rw (text_stored fmt e t bs) (packed-Bytes bs b)
      go false t = rw (plain_stored fmt e t bs) b
