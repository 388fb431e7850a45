-- A file looked for by its descriptor: the rules behind a refusal, and what is known of the slot that was found.
use mathlib.Core.Path.{◌≡◌, sym, ◌∙◌}
use mathlib.Core.Bool.{true}
use mathlib.Core.List.{List, [], ◌++◌}
use Prim.Native.Nat.{ℕ, ◌<◌}
use native.Mathlib.Omega.{arith}
use lib.ListN.{length}
use borrow.Author.Tests.{not-false}
use Rattle.lists.specs.Lists.{some, index}
use Rattle.lists.proofs.IndexFound.{some-index, index_holds}
use Rattle.lists.proofs.Tests.{and_left}
use Rattle.volume.specs.Names.{descriptor}
use Rattle.volume.specs.Directory.{entries, entry_at, named}
use Rattle.volume.specs.declared.locate.Layout.{Layout}
use Rattle.volume.proofs.EntryFields.{descriptor-length}
use Rattle.volume.proofs.Slots.{length-entries}
use Rattle.files.specs.Code.Slots.{InUse}
use Rattle.files.proofs.slot.UsedSlots.{named_used}
use Rattle.work.specs.declared.Refusal.{Refusal}
use Rattle.work.specs.Refusals.{Rule}
use Rattle.work.specs.Volumes.{named_rules, slot_of, exists}
use Rattle.work.specs.Code.Deeds.{sought_of}
use Rattle.work.proofs.Rules.{Passes, passed, stopped, passes, not_refused}
use Rattle.std.specs.Prelude.{Result, Err, Ok}
use Rattle.desk.specs.Desk.{State, ready}
use Rattle.desk.specs.Answers.{Change, outcome, judged}
use Rattle.desk.specs.Code.Left.{Begins}

apart : (why : Refusal) (k : ℕ) → Err why ≡ Ok k → ⊥
apart why k e = let z : ◌≡◌ {A = ℕ} 0 1 = cc in omega arith

one : (a b : Refusal) → ◌≡◌ {A = Result ℕ Refusal} (Err a) (Err b) → a ≡ b
one a b e = cc

-- of the image alone
module _ (img desc : List ℕ) (k : ℕ) (e : sought_of img desc ≡ Ok k) where
  went : sought_of img desc ≡ Ok (slot_of img desc)
  unfolding sought_of
  went = not_refused Err (Ok (slot_of img desc)) (Ok k) (λ w x. apart w k x) (named_rules img desc) e

  pub named_slot : k ≡ slot_of img desc
  named_slot = let x = sym e ∙ went in cc

  told : Passes (named_rules img desc)
  unfolding sought_of
  told = passes Err (Ok (slot_of img desc)) (λ w x. apart w _ x) (named_rules img desc) went

  described : descriptor desc ≡ true
  unfolding named_rules
  described = not-false _ told.0

  pub named_long : length desc ≡ 20
  named_long = descriptor-length desc described

  there : some (named desc) (entries img) ≡ true
  unfolding named_rules exists
  there = not-false _ told.1.0

  named_low : index (named desc) (entries img) < length (entries img)
  named_low = some-index (named desc) (entries img) there

  named_holds : named desc (entry_at img (slot_of img desc)) ≡ true
  unfolding entry_at slot_of
  named_holds = index_holds (named desc) (entries img) [] named_low

module _ (s : State) (desc : List ℕ) where
  pub named_refused : (why : Refusal) → sought_of s.image desc ≡ Err why → (qs : List Rule) (buf : List ℕ) (c : Change)
      → judged (named_rules s.image desc ++ qs) s buf c ≡ outcome (Err why) s.image s.desk buf
  unfolding sought_of judged
  named_refused why e qs buf c =
      stopped Err (Ok (slot_of s.image desc)) (λ w x. apart w _ (sym x)) one (named_rules s.image desc) why e _ qs _

  module _ (k : ℕ) (e : sought_of s.image desc ≡ Ok k) where
    pub named_left : (qs : List Rule) (buf : List ℕ) (c : Change) → judged (named_rules s.image desc ++ qs) s buf c ≡ judged qs s buf c
    unfolding sought_of judged
    named_left qs buf c =
        passed Err (Ok (slot_of s.image desc)) (λ w x. apart w _ x) (named_rules s.image desc) (went s.image desc k e) _ qs _

    pub named_InUse : (p : Layout) → Begins s p → InUse s.image p k
    unfolding ready slot_of
    named_InUse p b =
        let low : index (named desc) (entries s.image) < length (entries s.image) = named_low s.image desc k e in
        rw (named_slot s.image desc k e)
        (record {
          located = b.located;
          is_sound = and_left _ _ b.is_ready;
          slot = omega (arith, low, length-entries s.image, b.located.is_dirs);
          used = named_used desc _ (described s.image desc k e) (named_holds s.image desc k e);
        })
