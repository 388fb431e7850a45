-- What a block reads of a protected file is read by right: requests are a run of calls.
use mathlib.Core.List.{List, ◌∷◌}
use mathlib.Core.Path.{◌≡◌, ap, sym, subst, ◌∙◌}
use lib.ListN.{length}
use lib.Seq.{take-length}
use Rattle.desk.specs.Desk.{State, state, empty_desk, file_of}
use Rattle.desk.specs.Calls.{Call, format, read}
use Rattle.front.specs.Blocks.{options_of, lun_in, number_in, selector_in, formatted_in}
use Rattle.front.specs.Front.{unpacked_desk}
use Rattle.promises.specs.Fronts.{state_of, bytes_lent, formats, leaves, SameRun}
use Rattle.promises.specs.Private.{found_at, ByRight, ReadByRightThrough}
use Rattle.promises.specs.Runs.{next, run}
use Rattle.promises.specs.Sectors.{Accepts, AllBytes}
use Rattle.promises.proofs.Passing.{accepted}
use Rattle.promises.proofs.Preserved.{Good-format}
use Rattle.promises.proofs.Private.ByRight.{by_right, none_held}
use Rattle.promises.proofs.Fronts.FrontCarried.{accepted_through}
use Rattle.promises.proofs.Fronts.FrontReadBack.{Asks-read}
use Rattle.promises.proofs.Fronts.FrontRuns.{format_accepted, formatted_run, all_made}
use Rattle.promises.proofs.Fronts.PackedDesks.{desk_reads_back}

-- the whole of a run
whole_run : (cs : List Call) (t : State) → found_at cs t (length cs) ≡ run cs t
whole_run cs t = ap (λ (ds : List Call). run ds t) (take-length cs)

pub read_by_right_through : ReadByRightThrough
read_by_right_through id n img bs z rs b cs made caller l li ld a y =
    let t : State = next (format id n) (state img empty_desk) in
    let f = format_accepted id n img bs z in
    let r = subst (λ (ds : List Call). SameRun (formats id n ∷ rs) img bs (run ds t)) (sym made) (formatted_run id n img bs f.0 f.1 rs b) in
    let plain = (desk_reads_back (run cs t).desk r.is_plain).as_itself in
    let same : state_of l ≡ found_at cs t (length cs) = (λ i. state ((li ∙ r.images) i) ((ap unpacked_desk (ld ∙ r.desks) ∙ plain) i)) ∙ sym (whole_run cs t) in
    let sent : AllBytes cs = subst AllBytes (sym made) (all_made rs (leaves (formats id n) img bs).image (leaves (formats id n) img bs).desk b) in
    let c : Call = read caller (lun_in l.block) (selector_in (options_of l.block)) (number_in l.block) (formatted_in (options_of l.block)) (bytes_lent l) in
    let done : Accepts c (found_at cs t (length cs)) =
    subst (Accepts c) same (subst (λ (x : Call). Accepts x (state_of l)) (Asks-read caller l a) (accepted_through caller l y).accepted) in
    subst (λ (s : State). ByRight cs t (length cs) caller (lun_in l.block) (file_of s (lun_in l.block))) (sym same)
    (by_right cs t (Good-format (state img empty_desk) id n f.1) (none_held (state img empty_desk) id n f.1) sent (length cs) caller (lun_in l.block) _ _ _ _
    (accepted c _ done))
