-- Desk bytes: packing is one to one on plain desks, and bytes of the form stand for exactly one. The laws of the sixteen LUNs, said of a desk.
use mathlib.Core.Path.{ap, sym, ◌∙◌}
use mathlib.Core.Bool.{true≢false}
use mathlib.Core.List.{List}
use Rattle.lists.proofs.Tests.{is_false}
use Rattle.luns.specs.declared.Lun.{Lun}
use Rattle.deskbytes.specs.DeskBytes.{desk_form}
use Rattle.deskbytes.proofs.PackedDesk.{packed_back, packed_form, packed_luns_one_one, Bytes-packed_luns}
use Rattle.deskbytes.proofs.UnpackedDesk.{form_length, unpacked_back, unpacked_plain}
use Rattle.desk.specs.declared.Desk.{Desk}
use Rattle.front.specs.Front.{packed_desk, unpacked_desk}
use Rattle.promises.specs.DeskBytes.{DeskReadsBack, NoTwoDesksAlike, OnePlainDesk}

abbrev desk_of : List Lun → Desk
desk_of us = record { luns = us }

pub desk_reads_back : DeskReadsBack
unfolding packed_desk unpacked_desk
desk_reads_back d h = record {
  are_bytes = Bytes-packed_luns d.luns;
  in_form = packed_form d.luns h;
  as_itself = ap desk_of (packed_back d.luns h);
}

pub no_two_desks_alike : NoTwoDesksAlike
unfolding packed_desk
no_two_desks_alike d e hd he same = ap desk_of (packed_luns_one_one d.luns e.luns hd he same)

pub one_plain_desk : OnePlainDesk
unfolding packed_desk unpacked_desk
one_plain_desk = record {
  bad_is_none = λ bs bad d h same. true≢false (sym (packed_form d.luns h) ∙ ap desk_form same ∙ bad);
  else_exactly_one = λ bs b form.
      let plain = unpacked_plain bs b form in
      let back = unpacked_back bs b form in
      record {
        this_one = record { is_plain = plain; packs = back };
        no_other = λ e stands. no_two_desks_alike e (unpacked_desk bs) stands.is_plain plain (stands.packs ∙ sym back);
      };
  other_length_is_bad = λ bs other. is_false (desk_form bs) (λ form. other (form_length bs form));
}
