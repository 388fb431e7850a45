-- What a call's work came to, as the outcome of the call: its own rules, and then its change.
use Rattle.std.specs.Prelude.{Result, Err, Ok}
use mathlib.Core.Path.{◌≡◌, ap, sym, ◌∙◌}
use mathlib.Core.Bool.{Bool, true, false}
use mathlib.Core.List.{List, []}
use Prim.Native.Nat.{ℕ}
use lib.ListN.{length}
use lib.Dec.{leb}
use Rattle.numbers.specs.Numbers.{last_user}
use Rattle.lists.specs.Parts.{sectors}
use Rattle.volume.specs.Directory.{entry_at}
use Rattle.volume.specs.Formatted.{formatted}
use Rattle.volume.specs.declared.locate.Layout.{Layout}
use Rattle.work.specs.declared.Transfer.{Transfer}
use Rattle.work.specs.Refusals.{Rule}
use Rattle.work.specs.declared.Refusal.{Refusal}
use Rattle.files.specs.Changes.{brought_up}
use Rattle.work.specs.Volumes.{format_rules, bring_up_rules, allocate_rules, new_file}
use Rattle.work.specs.Transfers.{Moving, read_rules, reading, write_rules, writing, update_rules, updating}
use Rattle.work.specs.Code.Deeds as deeds
use Rattle.work.specs.Code.Deeds.{Deed, deed, done_by, moved, quiet, format_deed, bring_up_deed, allocate_deed, read_deed, write_deed, update_deed}
use Rattle.work.proofs.Rules.{ruled_map}
use Rattle.desk.specs.declared.Desk.{Desk}
use Rattle.desk.specs.declared.opening.Aim.{Aim}
use Rattle.desk.specs.Desk.{State, state, empty_desk, lun_at, file_of, aimed}
use Rattle.desk.specs.Answers.{Outcome, outcome, judged}
use Rattle.desk.specs.Calls.{format, bring_up, allocate, read, write, update, rules, done, given, step, quietly, transferred, after, open_rules}
use Rattle.desk.specs.Code.Opened.{begun_of, aim_of, opened_of, answered, settled}
use Rattle.desk.proofs.Openings.{begun_left, opened_aim, opened_left}

-- the outcome that a reply, an image and a buffer are
abbrev pub answered_by : Desk → Desk → Deed → Outcome
answered_by d d' x = outcome (answered d d' x.answer).answer x.image (answered d d' x.answer).desk x.buffer

abbrev pub settled_by : Desk → ℕ → Deed → Outcome
settled_by d lun x = outcome (settled d lun x.answer).answer x.image (settled d lun x.answer).desk x.buffer

quiet_told : (d d' : Desk) (rs : List Rule) (img new : List ℕ) → answered_by d d' (done_by rs img [] (quiet new)) ≡ judged rs (state img d) [] (quietly new d')
unfolding done_by quiet judged quietly
quiet_told d d' rs img new = ruled_map (answered_by d d') (λ why. deed (Err why) img []) (deed (deeds.done 0 0 0) new []) rs

moved_told : (d : Desk) (lun : ℕ) (rs : List Rule) (img buf : List ℕ) (m : Moving)
    → settled_by d lun (done_by rs img buf (moved m)) ≡ judged rs (state img d) buf (transferred (state img d) lun m)
unfolding done_by moved judged transferred after
moved_told d lun rs img buf m =
    ruled_map (settled_by d lun) (λ why. deed (Err why) img buf) (deed (deeds.done m.bytes m.from m.count) m.image m.buffer) rs

module _ (img : List ℕ) (d : Desk) (w : Result Transfer Refusal) where
  pub format_told : (img' id : List ℕ) (n : ℕ) → deed w img' [] ≡ format_deed img id n
      → outcome (answered d empty_desk w).answer img' (answered d empty_desk w).desk [] ≡ step (format id n) (state img d)
  unfolding format_deed step rules done given
  format_told img' id n e = ap (answered_by d empty_desk) e ∙ quiet_told d empty_desk (format_rules img id n) img (formatted id n (sectors img))

  pub bring_up_told : (img' : List ℕ) → deed w img' [] ≡ bring_up_deed img
      → outcome (answered d d w).answer img' (answered d d w).desk [] ≡ step bring_up (state img d)
  unfolding bring_up_deed step rules done given
  bring_up_told img' e = ap (answered_by d d) e ∙ quiet_told d d (bring_up_rules img) img (brought_up img)

  pub allocate_told : (caller : ℕ) (p : Layout) → begun_of (state img d) (leb caller last_user) ≡ Ok p → (img' desc : List ℕ) (k n l rc : ℕ)
      → deed w img' [] ≡ allocate_deed img caller desc k n l rc
      → outcome (answered d d w).answer img' (answered d d w).desk [] ≡ step (allocate caller desc k n l rc) (state img d)
  unfolding allocate_deed step rules done given
  allocate_told caller p b img' desc k n l rc e =
      ap (answered_by d d) e
      ∙ quiet_told d d (allocate_rules img caller desc k n l rc) img (new_file img desc k n l rc)
      ∙ sym (begun_left (state img d) (leb caller last_user) p b (allocate_rules img caller desc k n l rc) [] _)

  -- the transfers
  module _ (caller lun sel num : ℕ) (fmt : Bool) (a : Aim) where
    pub read_told : opened_of false (state img d) caller lun sel num ≡ Ok a → (buf buf' : List ℕ)
        → deed w img buf' ≡ read_deed img (entry_at img a.slot) a.i fmt buf
        → outcome (settled d lun w).answer img (settled d lun w).desk buf' ≡ step (read caller lun sel num fmt buf) (state img d)
    unfolding read_deed step rules done given open_rules aim_of file_of
    read_told o buf buf' e =
        let s : State = state img d in
        let f = file_of s lun in
        let i = aimed s lun sel num in
        let q : a ≡ aim_of s lun sel num = opened_aim false s caller lun sel num a o in
        ap (settled_by d lun) (e ∙ ap (λ (x : Aim). read_deed img (entry_at img x.slot) x.i fmt buf) q)
        ∙ moved_told d lun (read_rules img f i fmt (length buf)) img buf (reading img f i fmt buf)
        ∙ sym (opened_left false s caller lun sel num a o (read_rules img f i fmt (length buf)) buf _)

    pub write_told : opened_of true (state img d) caller lun sel num ≡ Ok a → (img' bs : List ℕ)
        → deed w img' bs ≡ write_deed img a.slot a.i fmt bs
        → outcome (settled d lun w).answer img' (settled d lun w).desk bs ≡ step (write caller lun sel num fmt bs) (state img d)
    unfolding write_deed step rules done given open_rules aim_of file_of
    write_told o img' bs e =
        let s : State = state img d in
        let f = file_of s lun in
        let i = aimed s lun sel num in
        let q : a ≡ aim_of s lun sel num = opened_aim true s caller lun sel num a o in
        ap (settled_by d lun) (e ∙ ap (λ (x : Aim). write_deed img x.slot x.i fmt bs) q)
        ∙ moved_told d lun (write_rules img f i fmt bs) img bs (writing img (lun_at d lun).slot i fmt bs)
        ∙ sym (opened_left true s caller lun sel num a o (write_rules img f i fmt bs) bs _)

    pub update_told : opened_of true (state img d) caller lun sel num ≡ Ok a → (img' bs : List ℕ)
        → deed w img' bs ≡ update_deed img (entry_at img a.slot) a.i fmt bs
        → outcome (settled d lun w).answer img' (settled d lun w).desk bs ≡ step (update caller lun sel num fmt bs) (state img d)
    unfolding update_deed step rules done given open_rules aim_of file_of
    update_told o img' bs e =
        let s : State = state img d in
        let f = file_of s lun in
        let i = aimed s lun sel num in
        let q : a ≡ aim_of s lun sel num = opened_aim true s caller lun sel num a o in
        ap (settled_by d lun) (e ∙ ap (λ (x : Aim). update_deed img (entry_at img x.slot) x.i fmt bs) q)
        ∙ moved_told d lun (update_rules img f i fmt bs) img bs (updating img f i fmt bs)
        ∙ sym (opened_left true s caller lun sel num a o (update_rules img f i fmt bs) bs _)
