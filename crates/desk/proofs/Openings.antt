-- What a call's opening answers: the rules behind a refusal, and what is known once they have passed.
use mathlib.Core.Path.{◌≡◌, ap, sym, ◌∙◌}
use mathlib.Core.Bool.{Bool, true, false}
use mathlib.Core.List.{List, [], ◌++◌}
use Prim.Native.Nat.{ℕ}
use native.Mathlib.Omega.{arith}
use borrow.Author.Tests.{not-false}
use Rattle.lists.specs.Lists.{◌and◌}
use Rattle.lists.proofs.Bools.{and-false}
use Rattle.lists.proofs.Tests.{and_left}
use Rattle.volume.specs.declared.locate.Layout.{Layout}
use Rattle.volume.specs.Volume.{layout_of}
use Rattle.volume.proofs.Located.{Located-sound, Layout-is}
use Rattle.files.specs.Code.Verdict.{sound_at}
use Rattle.files.proofs.SoundFacts.{facts}
use Rattle.files.proofs.check.SoundVerdict.{sound-Layout, no_layout}
use Rattle.luns.specs.Luns.{fits}
use Rattle.work.specs.declared.Refusal.{Refusal}
use Rattle.work.specs.declared.Refusal.TheVariants.{NotSound, BadLun}
use Rattle.work.specs.Refusals.{Rule, ruled}
use Rattle.work.proofs.Rules.{passed, stopped, passes, not_refused}
use Rattle.desk.specs.declared.Desk.{Desk}
use Rattle.std.specs.Prelude.{Result, Err, Ok, IsErrAnd}
use Rattle.desk.specs.declared.opening.Aim.{Aim}
use Rattle.desk.specs.Desk.{State, state, lun_at, ready, mine, aimed}
use Rattle.desk.specs.Answers.{Change, outcome, judged}
use Rattle.desk.specs.Calls.{begin_rules, open_rules}
use Rattle.desk.specs.Code.Opened.{begun_of, suits, aim_of, aimed_at, opened_of}
use Rattle.desk.specs.Code.Left.{Begins}
use Rattle.std.specs.Prelude.{Some, None}

-- a refusal is none of the other form, and tells its reason
begun_apart : (why : Refusal) (p : Layout) → Err why ≡ Ok p → ⊥
begun_apart why p e = let z : ◌≡◌ {A = ℕ} 0 1 = cc in omega arith

begun_one : (a b : Refusal) → ◌≡◌ {A = Result Layout Refusal} (Err a) (Err b) → a ≡ b
begun_one a b e = cc

opened_apart : (why : Refusal) (a : Aim) → Err why ≡ Ok a → ⊥
opened_apart why a e = let z : ◌≡◌ {A = ℕ} 0 1 = cc in omega arith

opened_one : (a b : Refusal) → ◌≡◌ {A = Result Aim Refusal} (Err a) (Err b) → a ≡ b
opened_one a b e = cc

-- a refusal that `?` hands on
pub handed_on : {A : Type 0} (r : Result A Refusal) (why : Refusal) → IsErrAnd r (λ x. x ≡ why) → r ≡ Err why
handed_on (Ok x) why h = absurd h
handed_on (Err x) why h = ap Err h

-- a sound volume has its layout
pub ready-Begins : (s : State) → ready s ≡ true → Begins s (layout_of s.image)
unfolding ready
ready-Begins s h = record { located = Located-sound s.image (facts s.image (and_left _ _ h)).one; is_ready = h }

-- $6F and $03
module _ (s : State) (fine : Bool) where
  module _ (why : Refusal) (e : begun_of s fine ≡ Err why) where
    pub begun_stops : {A : Type 0} (bad : Refusal → A) (qs : List Rule) (done : A) → ruled (begin_rules s fine ++ qs) bad done ≡ bad why
    unfolding begun_of
    begun_stops bad qs done = stopped Err (Ok (layout_of s.image)) (λ w x. begun_apart w _ (sym x)) begun_one (begin_rules s fine) why e bad qs done

    pub begun_refused : (qs : List Rule) (buf : List ℕ) (c : Change) → judged (begin_rules s fine ++ qs) s buf c ≡ outcome (Err why) s.image s.desk buf
    unfolding judged
    begun_refused qs buf c = begun_stops _ qs _

    -- where these are the call's rules
    pub only_refused : (buf : List ℕ) (c : Change) → judged (begin_rules s fine) s buf c ≡ outcome (Err why) s.image s.desk buf
    unfolding begin_rules
    only_refused buf c = begun_refused [] buf c

  module _ (p : Layout) (e : begun_of s fine ≡ Ok p) where
    went : begun_of s fine ≡ Ok (layout_of s.image)
    unfolding begun_of
    went = not_refused Err (Ok (layout_of s.image)) (Ok p) (λ w x. begun_apart w p x) (begin_rules s fine) e

    pub begun_layout : p ≡ layout_of s.image
    begun_layout = let x = sym e ∙ went in cc

    pub begun_ready : ready s ≡ true
    unfolding begun_of begin_rules
    begun_ready = not-false _ (passes Err (Ok (layout_of s.image)) (λ w x. begun_apart w _ x) (begin_rules s fine) went).0

    pub begun_fine : fine ≡ true
    unfolding begun_of begin_rules
    begun_fine = not-false _ (passes Err (Ok (layout_of s.image)) (λ w x. begun_apart w _ x) (begin_rules s fine) went).1.0

    pub begun_passes : {A : Type 0} (bad : Refusal → A) (qs : List Rule) (done : A) → ruled (begin_rules s fine ++ qs) bad done ≡ ruled qs bad done
    unfolding begun_of
    begun_passes bad qs done = passed Err (Ok (layout_of s.image)) (λ w x. begun_apart w _ x) (begin_rules s fine) went bad qs done

    pub begun_left : (qs : List Rule) (buf : List ℕ) (c : Change) → judged (begin_rules s fine ++ qs) s buf c ≡ judged qs s buf c
    unfolding judged
    begun_left qs buf c = begun_passes _ qs _

    pub only_done : (buf : List ℕ) (c : Change) → judged (begin_rules s fine) s buf c ≡ outcome (Ok c.report) c.image c.desk c.buffer
    unfolding begin_rules judged ruled
    only_done buf c = begun_left [] buf c

    pub begins : Begins s p
    begins = rw begun_layout (ready-Begins s begun_ready)

-- the same by the code's tests
module _ (img : List ℕ) (d : Desk) (fine : Bool) where
  pub begun_nowhere : sound_at img ≡ None → Err NotSound ≡ begun_of (state img d) fine
  unfolding begun_of begin_rules ready ruled ◌and◌
  begun_nowhere e = rw (no_layout img e)

  pub begun_misfit : fits img d.luns ≡ false → Err NotSound ≡ begun_of (state img d) fine
  unfolding begun_of begin_rules ready ruled
  begun_misfit e = rw (e, and-false)

  module _ (p : Layout) (e : sound_at img ≡ Some p) (f : fits img d.luns ≡ true) where
    pub begun_bad : fine ≡ false → Err BadLun ≡ begun_of (state img d) fine
    unfolding begun_of begin_rules ready ruled ◌and◌
    begun_bad h = rw ((sound-Layout img p e).0, f, h)

    pub begun_at : fine ≡ true → Ok p ≡ begun_of (state img d) fine
    unfolding begun_of begin_rules ready ruled ◌and◌
    begun_at h = let s = sound-Layout img p e in rw (s.0, f, h, Layout-is img p s.1)

-- $82: of a transfer
module _ (w : Bool) (s : State) (caller lun sel num : ℕ) where
  module _ (why : Refusal) (e : begun_of s (mine s.desk caller lun) ≡ Err why) where
    pub open_stops : Err why ≡ opened_of w s caller lun sel num
    unfolding opened_of open_rules
    open_stops = sym (begun_stops s (mine s.desk caller lun) why e Err _ _)

  module _ (p : Layout) (e : begun_of s (mine s.desk caller lun) ≡ Ok p) where
    pub open_goes : aimed_at p (lun_at s.desk lun) sel num w ≡ opened_of w s caller lun sel num
    unfolding opened_of open_rules aimed_at aim_of aimed
    open_goes =
        rw (begun_layout s (mine s.desk caller lun) p e)
        (sym (begun_passes s (mine s.desk caller lun) p e Err _ _))

-- what an open transfer knows
module _ (w : Bool) (s : State) (caller lun sel num : ℕ) where
  module _ (why : Refusal) (e : opened_of w s caller lun sel num ≡ Err why) where
    pub opened_refused : (qs : List Rule) (buf : List ℕ) (c : Change)
        → judged (open_rules (suits w) s caller lun sel ++ qs) s buf c ≡ outcome (Err why) s.image s.desk buf
    unfolding opened_of judged
    opened_refused qs buf c =
        stopped Err (Ok (aim_of s lun sel num)) (λ w x. opened_apart w _ (sym x)) opened_one (open_rules (suits w) s caller lun sel) why e _ qs _

  module _ (a : Aim) (e : opened_of w s caller lun sel num ≡ Ok a) where
    opening : opened_of w s caller lun sel num ≡ Ok (aim_of s lun sel num)
    unfolding opened_of
    opening = not_refused Err (Ok (aim_of s lun sel num)) (Ok a) (λ w x. opened_apart w a x) (open_rules (suits w) s caller lun sel) e

    pub opened_aim : a ≡ aim_of s lun sel num
    opened_aim = let x = sym e ∙ opening in cc

    pub opened_left : (qs : List Rule) (buf : List ℕ) (c : Change) → judged (open_rules (suits w) s caller lun sel ++ qs) s buf c ≡ judged qs s buf c
    unfolding opened_of judged
    opened_left qs buf c = passed Err (Ok (aim_of s lun sel num)) (λ w x. opened_apart w _ x) (open_rules (suits w) s caller lun sel) opening _ qs _

    pub opened_ready : ready s ≡ true
    unfolding opened_of open_rules begin_rules
    opened_ready =
        not-false _ (passes Err (Ok (aim_of s lun sel num)) (λ w x. opened_apart w _ x) (open_rules (suits w) s caller lun sel) opening).0

    pub opened_mine : mine s.desk caller lun ≡ true
    unfolding opened_of open_rules begin_rules
    opened_mine =
        not-false _ (passes Err (Ok (aim_of s lun sel num)) (λ w x. opened_apart w _ x) (open_rules (suits w) s caller lun sel) opening).1.0
