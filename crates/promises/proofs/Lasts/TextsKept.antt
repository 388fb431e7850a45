-- A text that was written as one is read as itself; which files do not see the option.
use mathlib.Core.Path.{◌≡◌, refl, ap, ◌∙◌, subst}
use mathlib.Core.Bool.{true, false}
use mathlib.Core.List.{List}
use Prim.Native.Nat.{ℕ}
use native.Mathlib.Omega.{arith}
use Rattle.numbers.specs.Numbers.{record_limit}
use Rattle.text.specs.Packing.{is_text, packed}
use Rattle.text.proofs.PackedBytes.{text_Bytes}
use Rattle.text.proofs.PackedText.{unpacked-packed}
use Rattle.text.proofs.PackedLength.{unpacked_long, full_long}
use Rattle.text.proofs.PackingRules.{packed_nothing, packed_other, packed_long_run, packed-rest, packed-rest_before}
use Rattle.work.specs.Transfers.{as_text, stored_as, handed_as, read_rules, reading, data_at, write_rules, writing, update_rules, updating}
use Rattle.work.proofs.TextRules.{text_sequential, text_stored, text_handed, fits_text, sent_fits, plain_stored, plain_handed, plain_unfit}
use Rattle.work.proofs.TextRules.{sent_stored, sent_handed, sent_unfit}
use Rattle.desk.specs.Desk.{State, aimed, file_of}
use Rattle.desk.specs.Calls.{write, update, step, rules, done, given}
use Rattle.promises.specs.Contents.{slot_held}
use Rattle.promises.specs.Lasting.{ReadsAs, HandsBack, HandsBackText, WrittenTextIsRead, UpdatedTextIsRead}
use Rattle.promises.specs.Texts.{LongestText, RunByRun, OptionIgnored}
use Rattle.promises.proofs.Passing.{accepted}
use Rattle.promises.proofs.Told.{write_fit, update_fit}
use Rattle.promises.proofs.Lasts.ReadBack.{written_is_read, updated_is_read}

-- what is stored of a text, handed over as a text and as it is
back : (e bs : List ℕ) → as_text true e ≡ true → is_text bs ≡ true → handed_as true e (stored_as true e bs) ≡ bs
back e bs t h = ap (handed_as true e) (text_stored true e t bs) ∙ text_handed true e t (packed bs) ∙ unpacked-packed bs h

as_it_is : (e bs : List ℕ) → as_text true e ≡ true → handed_as false e (stored_as true e bs) ≡ packed bs
as_it_is e bs t = sent_handed e (stored_as true e bs) ∙ text_stored true e t bs

both : (u : State) (e : List ℕ) (k i : ℕ) (bs : List ℕ) → as_text true e ≡ true → is_text bs ≡ true → HandsBack u e k i (stored_as true e bs)
    → HandsBackText u k i bs
both u e k i bs t h B = (subst (ReadsAs u k i true) (back e bs t h) (B true), subst (ReadsAs u k i false) (as_it_is e bs t) (B false))

pub written_text_is_read : WrittenTextIsRead
written_text_is_read s bi caller lun sel num bs h t vs u B =
    let T : is_text bs ≡ true = fits_text bs (sent_fits true (file_of s lun) bs (write_fit caller lun sel num true bs s (accepted (write caller lun sel num true bs) s h)) t) in
    both u (file_of s lun) (slot_held s lun) (aimed s lun sel num) bs t T
    (written_is_read s bi caller lun sel num true bs (text_Bytes bs T) h (text_sequential true (file_of s lun) t) vs u B)

pub updated_text_is_read : UpdatedTextIsRead
updated_text_is_read s bi caller lun sel num bs h t vs u B =
    let T : is_text bs ≡ true = fits_text bs (sent_fits true (file_of s lun) bs (update_fit caller lun sel num true bs s (accepted (update caller lun sel num true bs) s h)) t) in
    both u (file_of s lun) (slot_held s lun) (aimed s lun sel num) bs t T (updated_is_read s bi caller lun sel num true bs (text_Bytes bs T) h vs u B)

pub longest_text : LongestText
longest_text = record {
  holds_any = λ ss b l. omega (arith, unpacked_long ss b);
  is_reached = full_long record_limit;
}

pub run_by_run : RunByRun
run_by_run = record {
  no_text = packed_nothing;
  no_space = packed_other;
  more_remain = packed_long_run;
  rest_at_end = packed-rest;
  rest_before = packed-rest_before;
}

-- rules and change of a transfer that is not of text do not see the option
pub option_ignored : OptionIgnored
unfolding step rules done given file_of read_rules reading data_at write_rules writing update_rules updating
option_ignored s caller lun sel num bs t =
    let e : List ℕ = file_of s lun in
    record {
      by_read = rw (plain_handed true e t, sent_handed e) refl;
      by_write = rw (plain_unfit true e t bs, sent_unfit e bs, plain_stored true e t bs, sent_stored e bs) refl;
      by_update = rw (plain_unfit true e t bs, sent_unfit e bs, plain_stored true e t bs, sent_stored e bs) refl;
    }
