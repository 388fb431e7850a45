-- What the functions that calls share hand back: how far a call's first rules let it pass, and the reply that is made of its work.
use Rattle.std.specs.Prelude.{Result, Ok, Err, Bool, true, false, not, [], ◌∷◌, ℕ}
use Rattle.lists.specs.Lists.{◌or◌}
use Rattle.volume.specs.Volume.{layout_of}
use Rattle.volume.specs.declared.locate.Layout.{Layout}
use Rattle.luns.specs.declared.Place.TheVariants.{At}
use Rattle.luns.specs.declared.Mode.{Mode}
use Rattle.luns.specs.Modes.{reads, writes}
use Rattle.luns.specs.declared.Lun.{Lun}
use Rattle.luns.specs.Luns.{target, placeless, moved_to}
use Rattle.work.specs.Refusals.{ruled, ◌if◌}
use Rattle.work.specs.declared.Refusal.TheVariants.{BadRequest}
use Rattle.work.specs.declared.Refusal.{Refusal}
use Rattle.work.specs.declared.Transfer.{Transfer}
use Rattle.desk.specs.Desk.{State, lun_at, aimed, put_lun}
use Rattle.desk.specs.Calls.{begin_rules, open_rules}
use Rattle.desk.specs.declared.opening.Aim.{Aim}
use Rattle.desk.specs.declared.Desk.{Desk}
use Rattle.desk.specs.declared.Reply.{Reply}
use Rattle.desk.specs.declared.Report.{Report}
use Rattle.desk.specs.declared.Report.TheVariants.{Moved}

-- the layout of a sound volume that the desk fits, if caller and LUN are fine
unfoldable pub begun_of : State → Bool → Result Layout Refusal
begun_of s fine = ruled (begin_rules s fine) Err (Ok (layout_of s.image))

-- the mode that a transfer wants
abbrev pub suits : Bool → Mode → Bool
suits true m = writes m
suits false m = reads m

unfoldable pub aim_of : State → ℕ → ℕ → ℕ → Aim
aim_of s lun sel num = record { p = layout_of s.image; slot = (lun_at s.desk lun).slot; i = aimed s lun sel num }

-- the LUN u: the mode and the selector
unfoldable pub aimed_at : Layout → Lun → ℕ → ℕ → Bool → Result Aim Refusal
aimed_at p u sel num w =
    ruled (BadRequest if (not (suits w u.mode) or placeless sel u.place) ∷ []) Err
    (Ok (record { p = p; slot = u.slot; i = target sel num u.place }))

unfoldable pub opened_of : Bool → State → ℕ → ℕ → ℕ → ℕ → Result Aim Refusal
opened_of w s caller lun sel num = ruled (open_rules (suits w) s caller lun sel) Err (Ok (aim_of s lun sel num))

-- replies
abbrev pub refused_by : Refusal → Desk → Reply
refused_by why d = record { answer = Err why; desk = d }

abbrev pub done_by : Report → Desk → Reply
done_by r d = record { answer = Ok r; desk = d }

-- of work that moves no data: the desk after it is d
abbrev pub answered : Desk → Desk → Result Transfer Refusal → Reply
answered d d' (Ok t) = done_by (Moved 0) d'
answered d d' (Err why) = refused_by why d

-- of a transfer: the LUN moves
abbrev pub settled : Desk → ℕ → Result Transfer Refusal → Reply
settled d lun (Ok t) = done_by (Moved t.bytes) (put_lun d lun (moved_to (At t.from t.count) (lun_at d lun)))
settled d lun (Err why) = refused_by why d
