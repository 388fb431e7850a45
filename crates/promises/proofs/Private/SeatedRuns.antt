-- Over a run: who holds a LUN was given it by an accepted assign, and offered its code.
use mathlib.Core.Bool.{true}
use mathlib.Core.List.{List, [], ◌∷◌}
use mathlib.Core.Logic.{◌⊎◌, inl, inr, ⊎_elim}
use mathlib.Core.Path.{◌≡◌, refl, sym, ◌∙◌}
use Prim.Native.Nat.{ℕ, zero, suc, ◌<◌}
use native.Mathlib.Omega.{arith}
use lib.ListN.{length}
use Rattle.volume.specs.Directory.{described}
use Rattle.volume.proofs.EntryCounted.{alike_trans}
use Rattle.desk.specs.Desk.{State, lun_at}
use Rattle.desk.specs.Calls.{Call, assign, step}
use Rattle.promises.specs.Runs.{next, run, trace}
use Rattle.promises.specs.Sectors.{Good, AllBytes}
use Rattle.promises.specs.Private.{call_at, found_at, outcome_at, Offered}
use Rattle.promises.proofs.Held.{entry_of}
use Rattle.promises.proofs.Preserved.{Good-next}
use Rattle.promises.proofs.Private.Seats.{SameSeat, same_seat, NewSeat, seat_step}

-- Over a run: the LUN was held at its start, or call `place` assigned it
pub record Known (cs : List Call) (s : State) (k lun : ℕ) (t : State) : Type 0 where
  pub place : ℕ
  pub earlier : place < k
  pub offer : Offered cs s (lun_at t.desk lun).user lun (described (entry_of t lun)) (lun_at t.desk lun).offered place

same_after : (s t u : State) (lun : ℕ) → SameSeat s t lun → SameSeat t u lun → SameSeat s u lun
same_after s t u lun p q = record {
  was_held = p.was_held;
  same_user = q.same_user ∙ p.same_user;
  same_code = q.same_code ∙ p.same_code;
  same_file = alike_trans (entry_of s lun) (entry_of t lun) (entry_of u lun) p.same_file q.same_file;
}

Known-first : (c : Call) (cs : List Call) (s t : State) (k lun : ℕ) → NewSeat c s (next c s) lun → SameSeat (next c s) t lun → Known (c ∷ cs) s (suc k) lun t
unfolding trace
Known-first c cs s t k lun n q = record {
  place = 0;
  earlier = omega arith;
  offer = record {
    mode = n.mode;
    end = n.end;
    is_assign = n.is_assign ∙ (λ i. assign (sym q.same_user i) lun (sym q.same_file.name_same i) n.mode n.end (sym q.same_code i));
    is_accepted = n.is_accepted;
  };
}

Known-later : (c : Call) (cs : List Call) (s t : State) (k lun : ℕ) → Known cs (next c s) k lun t → Known (c ∷ cs) s (suc k) lun t
unfolding trace
Known-later c cs s t k lun m = record {
  place = suc m.place;
  earlier = omega (arith, m.earlier);
  offer = record { mode = m.offer.mode; end = m.offer.end; is_assign = m.offer.is_assign; is_accepted = m.offer.is_accepted };
}

pub seated_run : (cs : List Call) (s : State) → Good s → AllBytes cs → (k lun : ℕ) → (lun_at (found_at cs s k).desk lun).held ≡ true
    → (SameSeat s (found_at cs s k) lun) ⊎ (Known cs s k lun (found_at cs s k))
unfolding run
seated_run [] s g b zero lun h = inl (same_seat s lun h)
seated_run [] s g b (suc k) lun h = inl (same_seat s lun h)
seated_run (c ∷ cs) s g b zero lun h = inl (same_seat s lun h)
seated_run (c ∷ cs) s g b (suc k) lun h =
    let t : State = found_at cs (next c s) k in
    ⊎_elim
    (λ q. ⊎_elim (λ p. inl (same_after s (next c s) t lun p q)) (λ n. inr (Known-first c cs s t k lun n q)) (seat_step s g lun c q.was_held))
    (λ m. inr (Known-later c cs s t k lun m))
    (seated_run cs (next c s) (Good-next c s g b.0) b.1 k lun h)

-- the outcome of call k is its step from the state that it finds
pub outcome_at_lem : (cs : List Call) (s : State) (k : ℕ) → k < length cs → outcome_at cs s k ≡ step (call_at cs k) (found_at cs s k)
unfolding trace run
outcome_at_lem [] s k h = absurd (omega arith)
outcome_at_lem (c ∷ cs) s zero h = refl
outcome_at_lem (c ∷ cs) s (suc k) h = outcome_at_lem cs (next c s) k (omega arith)
