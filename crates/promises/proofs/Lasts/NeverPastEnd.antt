-- As long as a record or sector lasts, no read of it is refused for want of it.
use mathlib.Core.Path.{◌≡◌, ap, sym, ◌∙◌}
use mathlib.Core.Bool.{Bool, false, true≢false}
use mathlib.Core.List.{List, [], ◌∷◌}
use Prim.Native.Nat.{ℕ, zero, suc, ◌<◌}
use native.Mathlib.Omega.{arith}
use borrow.Author.Tests.{lt-leb}
use Rattle.volume.specs.Directory.{entry_at}
use Rattle.files.specs.Files.{extent}
use Rattle.files.proofs.Kept.EntryAlike.{extent_alike}
use Rattle.work.specs.Refusals.{code, Rule}
use Rattle.work.specs.declared.Refusal.{Refusal}
use Rattle.work.specs.declared.Refusal.TheVariants.{PastEnd}
use Rattle.work.specs.Transfers.{ended, read_rules}
use Rattle.desk.specs.Desk.{State, aimed, file_of}
use Rattle.desk.specs.Calls.{read, rules, open_rules, begin_rules}
use Rattle.promises.specs.Lasting.{Lasting, NeverPastEnd}
use Rattle.promises.specs.Answers.{First}
use Rattle.promises.proofs.Passing.{First-later}
use Rattle.promises.proofs.Answers.{refused-First}
use Rattle.promises.proofs.Held.{entry_of}
use Rattle.promises.proofs.Lasts.Lasting.{Lasts-through}

-- no rule of a read that is there says $C2
Never : Refusal → List Rule → Type 0
Never r [] = Unit {0}
Never r (x ∷ xs) = (code x.refusal ≡ code r → x.holds ≡ false) × Never r xs

never : (r : Refusal) (rs : List Rule) (k : ℕ) → Never r rs → First rs k r → ⊥
unfolding Never
never r [] k n f = let h : k < 0 = f.inside in omega arith
never r (x ∷ xs) zero n f = true≢false (sym f.applies ∙ n.0 (ap code f.is_rule))
never r (x ∷ xs) (suc k) n f = never r xs k n.1 (First-later x xs k r f)

not_past : (t : State) (caller lun sel num : ℕ) (fmt : Bool) (buf : List ℕ) → aimed t lun sel num < extent t.image (file_of t lun)
    → Never PastEnd (rules (read caller lun sel num fmt buf) t)
unfolding Never rules open_rules begin_rules read_rules ended
not_past t caller lun sel num fmt buf h =
    (λ q. absurd (omega arith), (λ q. absurd (omega arith), (λ q. absurd (omega arith), (λ q. absurd (omega arith), (λ q. lt-leb _ _ h, (λ q. absurd (omega arith), tt))))))

pub never_past_end : NeverPastEnd
unfolding file_of
never_past_end img h k i f l vs t B caller lun sel num fmt buf ek ei a =
    let L : Lasting img t.image k i = rw B.reached (Lasts-through img h k i f l vs B.are_bytes B.nothing_ends_it) in
    let there : aimed t lun sel num < extent t.image (entry_of t lun) =
    rw (ei, ek, extent_alike (entry_at img k) (entry_at t.image k) L.same_but_count t.image) L.still_there in
    let first-rule = refused-First (read caller lun sel num fmt buf) t PastEnd a in
    never PastEnd (rules (read caller lun sel num fmt buf) t) first-rule.0 (not_past t caller lun sel num fmt buf there) first-rule.1
