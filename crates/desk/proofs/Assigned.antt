-- Assign, delete and compact once their first rules have passed: what is left of each is the call.
use Rattle.std.specs.Prelude.{if◌then◌else◌, Result, Ok, Err}
use mathlib.Core.Path.{◌≡◌, refl, sym}
use mathlib.Core.Bool.{Bool, true, false}
use mathlib.Core.List.{List, []}
use Prim.Native.Nat.{ℕ, ◌≤◌, ◌<◌}
use native.Mathlib.Omega.{arith}
use lib.Dec.{leb, ltb}
use borrow.Author.Tests.{lt-ltb, le-ltb, ltb-true, ltb-false}
use Rattle.numbers.specs.Numbers.{last_user}
use Rattle.volume.specs.declared.locate.Layout.{Layout}
use Rattle.luns.specs.declared.Mode.{Mode}
use Rattle.luns.specs.declared.modes.UnknownMode.{UnknownMode}
use Rattle.luns.specs.Modes.{mode_of}
use Rattle.luns.specs.Code.Numbers.{mode_or}
use Rattle.work.specs.Refusals.{ruled}
use Rattle.work.specs.declared.Refusal.TheVariants.{UnknownType}
use Rattle.desk.specs.Desk.{State, spare}
use Rattle.desk.specs.Answers.{outcome, judged}
use Rattle.desk.specs.Calls.{step, rules, done, given, assign, assign_rules, new_lun, delete, delete_rules}
use Rattle.desk.specs.Code.Opened.{begun_of}
use Rattle.desk.specs.Code.Left.{mode_left, assign_left, delete_left}
use Rattle.desk.proofs.Openings.{begun_left}

-- a mode's number
pub mode_unknown : (k : ℕ) (e : UnknownMode) → mode_or k ≡ Err e → 7 < k
unfolding mode_or
mode_unknown k e h = go (ltb 7 k) refl h
  where
    go : (b : Bool) → ltb 7 k ≡ b → ◌≡◌ {A = Result Mode UnknownMode} (if b then Err (record {}) else Ok (mode_of k)) (Err e) → 7 < k
    go true t h = ltb-true 7 k t
    go false t h = absurd (let z : ◌≡◌ {A = ℕ} 0 1 = cc in omega arith)

pub mode_known : (k : ℕ) (m : Mode) → mode_or k ≡ Ok m → (k ≤ 7) × (m ≡ mode_of k)
unfolding mode_or
mode_known k m h = go (ltb 7 k) refl h
  where
    go : (b : Bool) → ltb 7 k ≡ b → ◌≡◌ {A = Result Mode UnknownMode} (if b then Err (record {}) else Ok (mode_of k)) (Ok m) → (k ≤ 7) × (m ≡ mode_of k)
    go true t h = absurd (let z : ◌≡◌ {A = ℕ} 0 1 = cc in omega arith)
    go false t h = (ltb-false 7 k t, (cc))

module _ (s : State) (caller lun : ℕ) (desc : List ℕ) (mode : ℕ) (end : Bool) (offered : ℕ) where
  pub mode_refused : 7 < mode → outcome (Err UnknownType) s.image s.desk [] ≡ mode_left s caller lun desc mode end offered
  unfolding mode_left judged ruled
  mode_refused h = rw (lt-ltb _ _ h)

  pub mode_fits : mode ≤ 7 → assign_left s caller lun desc (mode_of mode) end offered ≡ mode_left s caller lun desc mode end offered
  unfolding mode_left assign_left judged ruled
  mode_fits h = rw (le-ltb _ _ h)

  pub assign_begun : (p : Layout) → begun_of s (spare s.desk caller lun) ≡ Ok p
      → mode_left s caller lun desc mode end offered ≡ step (assign caller lun desc mode end offered) s
  unfolding step rules done given assign_rules new_lun mode_left
  assign_begun p e = sym (begun_left s (spare s.desk caller lun) p e _ _ _)

pub delete_begun : (s : State) (caller : ℕ) (desc : List ℕ) (p : Layout) → begun_of s (leb caller last_user) ≡ Ok p
    → delete_left s caller desc ≡ step (delete caller desc) s
unfolding step rules done given delete_rules delete_left
delete_begun s caller desc p e = sym (begun_left s (leb caller last_user) p e _ _ _)
