-- What is read of a protected file is read by right, over any run from a formatted volume.
use mathlib.Core.Bool.{Bool, true, false, true≢false}
use mathlib.Core.List.{List}
use mathlib.Core.Logic.{⊎_elim}
use mathlib.Core.Path.{◌≡◌, refl, ap, sym, subst, ◌∙◌}
use Prim.Native.Nat.{ℕ, ◌<◌, ◌≤◌}
use native.Mathlib.Decide.{dec_lt}
use native.Mathlib.Omega.{arith}
use lib.Dec.{eqb}
use lib.ListN.{length, get_or-eq_default}
use borrow.Author.Tests.{eqb-true}
use Rattle.lists.proofs.Tests.{and_right, not_both, or_cases}
use Rattle.volume.specs.Directory.{described, owner, read_code}
use Rattle.files.specs.Rights.{has_right, may_read}
use Rattle.luns.specs.declared.Lun.{Lun}
use Rattle.luns.proofs.Fitting.{may_read_lem}
use Rattle.desk.specs.Desk.{State, lun_at, mine, file_of}
use Rattle.desk.specs.Answers.{Outcome, accepts, moved}
use Rattle.desk.specs.Calls.{Call, format, check, read, given, done, quietly, step}
use Rattle.promises.specs.Runs.{next}
use Rattle.promises.specs.Sectors.{Good, Accepts, AllBytes}
use Rattle.promises.specs.Private.{call_at, found_at, outcome_at, Offered, ByRight, unprotected, ByRight-has_right, was_offered, ReadByRight, Stranger, NeverAByte}
use Rattle.promises.proofs.Passing.{Accepted, accepted, refused_or_Accepted, next-Accepted}
use Rattle.promises.proofs.Told.{read_told, ReadTold}
use Rattle.promises.proofs.Held.{entry_of, Held, Held-by}
use Rattle.promises.proofs.Preserved.{Good-format}
use Rattle.promises.proofs.Private.Seats.{empty_free}
use Rattle.promises.proofs.Private.SeatedRuns.{seated_run, outcome_at_lem}

-- An accepted read as call k of a run from a good state in which no LUN is held
module _
    (cs : List Call) (t : State) (g : Good t) (none : (j : ℕ) → (lun_at t.desk j).held ≡ false) (b : AllBytes cs) (k caller lun sel num : ℕ) (fmt : Bool)
    (buf : List ℕ) where
  pub by_right : Accepted (read caller lun sel num fmt buf) (found_at cs t k) → ByRight cs t k caller lun (file_of (found_at cs t k) lun)
  unfolding may_read file_of mine
  by_right a = go (eqb (read_code e) 0) (eqb u.offered (read_code e)) refl refl
    where
      f : State
      f = found_at cs t k

      T : ReadTold f caller lun sel num fmt (length buf)
      T = read_told caller lun sel num fmt buf f a

      u : Lun
      u = lun_at f.desk lun

      e : List ℕ
      e = entry_of f lun

      H : Held f lun
      H = Held-by f caller lun T.opened.is_ready T.opened.is_mine

      its-user : u.user ≡ caller
      its-user = eqb-true _ _ (and_right _ _ T.opened.is_mine)

      may : may_read u.user u.offered e ≡ true
      may = may_read_lem f.image u H.lun_ok.read_right T.opened.suits

      go : (x y : Bool) → eqb (read_code e) 0 ≡ x → eqb u.offered (read_code e) ≡ y → ByRight cs t k caller lun (entry_of f lun)
      go true y p q = unprotected (eqb-true _ _ p)
      go false false p q = ByRight-has_right (subst (λ (c : ℕ). has_right c (owner e) ≡ true) its-user (or_cases _ _ may (not_both _ _ p q)))
      go false true p q =
          ⊎_elim
          (λ m. absurd (true≢false (sym m.was_held ∙ none lun)))
          (λ m. was_offered m.place m.earlier
          (subst (λ (c : ℕ). Offered cs t c lun (described e) (read_code e) m.place) its-user
          (subst (λ (rc : ℕ). Offered cs t u.user lun (described e) rc m.place) (eqb-true _ _ q) m.offer)))
          (seated_run cs t g b k lun H.is_held)

-- a formatted volume is such a state
pub none_held : (s : State) (id : List ℕ) (n : ℕ) → Accepts (format id n) s → (j : ℕ) → (lun_at (next (format id n) s).desk j).held ≡ false
unfolding done quietly
none_held s id n h j = rw (next-Accepted (format id n) s (accepted (format id n) s h)) (empty_free j)

-- a call that reads is there
no_check : (caller lun sel num : ℕ) (fmt : Bool) (buf : List ℕ) → check ≡ read caller lun sel num fmt buf → ⊥
no_check caller lun sel num fmt buf e = let z : ◌≡◌ {A = ℕ} 0 1 = cc in omega arith

module _
    (s : State) (id : List ℕ) (n : ℕ) (h : Accepts (format id n) s) (cs : List Call) (b : AllBytes cs) (k caller lun sel num : ℕ) (fmt : Bool)
    (buf : List ℕ) (is_read : call_at cs k ≡ read caller lun sel num fmt buf) where
  -- what format leaves, and what the read finds
  t : State
  t = next (format id n) s

  f : State
  f = found_at cs t k

  inside : k < length cs
  inside = elim (dec_lt k (length cs)) [
    | yes l ↦ l
    | no far ↦
        let past : length cs ≤ k = omega arith in
        absurd (no_check caller lun sel num fmt buf (sym (get_or-eq_default cs check past) ∙ is_read))
  ]

  outcome_is : outcome_at cs (next (format id n) s) k ≡ step (read caller lun sel num fmt buf) f
  unfolding f t
  outcome_is = outcome_at_lem cs (next (format id n) s) k inside ∙ ap (λ (c : Call). step c (found_at cs (next (format id n) s) k)) is_read

  of_read : Accepted (read caller lun sel num fmt buf) f → ByRight cs t k caller lun (file_of f lun)
  unfolding f t
  of_read = by_right cs (next (format id n) s) (Good-format s id n h) (none_held s id n h) b k caller lun sel num fmt buf

  accepted_right : accepts (outcome_at cs (next (format id n) s) k).answer ≡ true
      → ByRight cs (next (format id n) s) k caller lun (file_of (found_at cs (next (format id n) s) k) lun)
  unfolding f t
  accepted_right y = of_read (accepted (read caller lun sel num fmt buf) f (sym (ap (λ (o : Outcome). accepts o.answer) outcome_is) ∙ y))

  never : Stranger cs (next (format id n) s) k caller (file_of (found_at cs (next (format id n) s) k) lun)
      → ((outcome_at cs (next (format id n) s) k).buffer ≡ buf) × (moved (outcome_at cs (next (format id n) s) k).answer ≡ 0)
  unfolding f t given
  never S =
      rw outcome_is
      (⊎_elim
      (λ r. (ap (λ (o : Outcome). o.buffer) r.is, ap (λ (o : Outcome). moved o.answer) r.is))
      (λ a. absurd (no (of_read a)))
      (refused_or_Accepted (read caller lun sel num fmt buf) f))
    where
      no : ByRight cs t k caller lun (file_of f lun) → ⊥
      no (unprotected p) = S.is_protected p
      no (ByRight-has_right p) = true≢false (sym p ∙ S.has_no_right)
      no (was_offered j l o) = S.never_offered lun j l o

pub read_by_right : ReadByRight
read_by_right s id n h cs b k caller lun sel num fmt buf is_read y = accepted_right s id n h cs b k caller lun sel num fmt buf is_read y

pub never_a_byte : NeverAByte
never_a_byte s id n h cs b k caller lun sel num fmt buf is_read S = never s id n h cs b k caller lun sel num fmt buf is_read S
