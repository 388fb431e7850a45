use mathlib.Core.Path.{◌≡◌, sym, ap, ◌∙◌}
use mathlib.Core.Logic.{◌≢◌}
use mathlib.Core.List.{List}
use Prim.Native.Nat.{ℕ}
use lib.Dec.{eqb}
use lib.ListN.{length}
use borrow.Author.Tests.{eq-eqb, ne_eqb}
use Rattle.std.proofs.Common.{rules, tests}
use Rattle.std.proofs.lemmas.Iterator.{YieldsList-from_slice}
use Rattle.std.proofs.lemmas.Iterator.Search.{all_from_yields_List}
use Rattle.numbers.specs.Numbers.{lun_count}
use Rattle.lists.specs.Lists.{◌and◌, all, pieces}
use Rattle.lists.proofs.Iterators.{all_is}
use Rattle.deskbytes.specs.DeskBytes.{desk_form, desk_size, lun_form, lun_bytes}
use Rattle.deskbytes.proofs.Filling.{chunks_are}
use Rattle.deskbytes.proofs.in_form.Goals as goal

of_size : (bs : List ℕ) → length bs ≡ desk_size → desk_form bs ≡ all lun_form (pieces lun_count lun_bytes bs)
unfolding desk_form ◌and◌
of_size bs h = rw (eq-eqb (length bs) desk_size h)

other_size : (bs : List ℕ) → length bs ≢ desk_size → eqb (length bs) desk_size ≡ desk_form bs
unfolding desk_form ◌and◌
other_size bs h = rw (ne_eqb (length bs) desk_size h)

pub returns-then-bytes-eq-DESK_BYTES : goal.returns-then-bytes-eq-DESK_BYTES
returns-then-bytes-eq-DESK_BYTES c =
    let bs = c.args.bytes.now in
    all_from_yields_List lun_form _ _ _ c.all.ensures.ran (YieldsList-from_slice c.as_chunks.result.0.now cc) (λ x b q k. search (rules, tests))
    ∙ sym (all_is _ _) ∙ ap (all lun_form) (chunks_are bs _ c.if-bytes-eq-DESK_BYTES.true c.as_chunks.ensures.front)
    ∙ sym (of_size bs c.if-bytes-eq-DESK_BYTES.true)

pub returns-else-bytes-eq-DESK_BYTES : goal.returns-else-bytes-eq-DESK_BYTES
returns-else-bytes-eq-DESK_BYTES c = other_size _ c.if-bytes-eq-DESK_BYTES.false
