-- Demand 2, opening: what accepted assign, close and rewind do. The image stays.
use Rattle.std.specs.Prelude.{List, ◌≡◌, Bool, true, false, ◌⊎◌, ℕ, ◌-◌, ◌≤◌}
use Rattle.volume.specs.Directory.{entry_at, described}
use Rattle.files.specs.Files.{extent}
use Rattle.files.specs.Rights.{may_read}
use Rattle.luns.specs.declared.Lun.{Lun}
use Rattle.luns.specs.declared.Place.TheVariants.{Fresh, At}
use Rattle.luns.specs.Luns.{free_lun, moved_to}
use Rattle.luns.specs.Modes.{mode_of, reads, writes}
use Rattle.work.specs.Volumes.{slot_of}
use Rattle.desk.specs.Desk.{State, lun_at}
use Rattle.desk.specs.Answers.{Outcome}
use Rattle.desk.specs.Calls.{step, assign, close, rewind}
use Rattle.desk.specs.declared.Report.TheVariants.{Moved}
use Rattle.std.specs.Prelude.{Ok}
use Rattle.promises.specs.Sectors.{Accepts}
use Rattle.promises.specs.Contents.{OnlyLun}

-- RULES, Assign: the LUN is held by the caller, with the file of that descriptor, the mode asked for and the code offered; RULES, Rights:
-- if the mode reads, the caller may; RULES, Places and selectors: its place is Fresh, but if the end is asked for, the mode writes and
-- there is a record or sector, At the last one
pub record Seats (s : State) (o : Outcome) (caller lun : ℕ) (desc : List ℕ) (mode : ℕ) (end : Bool) (offered : ℕ) (u : Lun) : Type 0 where
  pub answered : o.answer ≡ Ok (Moved 0)
  pub image_kept : o.image ≡ s.image
  pub only_lun : OnlyLun s.desk o.desk lun u
  pub is_held : u.held ≡ true
  pub its_user : u.user ≡ caller
  pub its_slot : u.slot ≡ slot_of s.image desc
  pub its_file : described (entry_at s.image u.slot) ≡ desc
  pub its_mode : u.mode ≡ mode_of mode
  pub its_code : u.offered ≡ offered
  pub may_read : reads (mode_of mode) ≡ true → may_read caller offered (entry_at s.image u.slot) ≡ true
  pub at_last : end ≡ true → writes (mode_of mode) ≡ true → 1 ≤ extent s.image (entry_at s.image u.slot)
      → u.place ≡ At (extent s.image (entry_at s.image u.slot) - 1) 1
  pub fresh_else : (end ≡ false) ⊎ ((writes (mode_of mode) ≡ false) ⊎ (extent s.image (entry_at s.image u.slot) ≡ 0))
      → u.place ≡ Fresh

abbrev pub AcceptedAssign : Type 0
AcceptedAssign =
    (s : State) (caller lun : ℕ) (desc : List ℕ) (mode : ℕ) (end : Bool) (offered : ℕ) → Accepts (assign caller lun desc mode end offered) s
    → (u : Lun) × Seats s (step (assign caller lun desc mode end offered) s) caller lun desc mode end offered u

-- RULES, Close and rewind: close frees the LUN, rewind makes its place Fresh
pub record Frees (s : State) (o : Outcome) (lun : ℕ) : Type 0 where
  pub answered : o.answer ≡ Ok (Moved 0)
  pub image_kept : o.image ≡ s.image
  pub only_lun : OnlyLun s.desk o.desk lun free_lun

abbrev pub AcceptedClose : Type 0
AcceptedClose = (s : State) (caller lun : ℕ) → Accepts (close caller lun) s → Frees s (step (close caller lun) s) lun

pub record Rewinds (s : State) (o : Outcome) (lun : ℕ) : Type 0 where
  pub answered : o.answer ≡ Ok (Moved 0)
  pub image_kept : o.image ≡ s.image
  pub only_lun : OnlyLun s.desk o.desk lun (moved_to Fresh (lun_at s.desk lun))

abbrev pub AcceptedRewind : Type 0
AcceptedRewind = (s : State) (caller lun : ℕ) → Accepts (rewind caller lun) s → Rewinds s (step (rewind caller lun) s) lun
