-- The verdict on a volume, from the verdicts on its points.
use Rattle.std.specs.Prelude.{if◌then◌else◌}
use Rattle.std.specs.Bool.{then_some}
use mathlib.Core.Path.{◌≡◌, refl, sym, ap, ◌∙◌}
use mathlib.Core.Bool.{true, Bool, false}
use mathlib.Core.List.{List}
use Prim.Native.Nat.{ℕ}
use native.Mathlib.Omega.{arith}
use Rattle.lists.specs.Lists.{distinct, ◌and◌, all}
use Rattle.lists.proofs.Tests.{and_left}
use Rattle.lists.proofs.Bools.{and-false, and-true, and_assoc}
use Rattle.lists.proofs.Walks.{all_both}
use Rattle.volume.specs.declared.locate.Layout.{Layout}
use Rattle.volume.specs.Volume.{sound1, layout_of}
use Rattle.volume.specs.Directory.{entries, sound2}
use Rattle.volume.specs.Sat.{free}
use Rattle.volume.specs.Code.Located.{Located}
use Rattle.std.specs.Prelude.{Some, None}
use Rattle.volume.proofs.Located.{Layout-is, Located-sound}
use Rattle.ownership.specs.Owners.{all_owned, sound5}
use Rattle.ownership.specs.Blocks.{sound3}
use Rattle.ownership.specs.Code.Verdict.{owner_sound, judged_of}
use Rattle.ownership.proofs.Verdicts.{OwnerSound, owner_by, unsound_judged}
use Rattle.files.specs.Files.{sound4, sound_but_counts, count_is, counts_are, records_in, no_count, tail_sound, records_sound, sound, sound_before}
use Rattle.files.specs.Code.Verdict.{file_sound, file_before, sound_at, checked_of}
use Rattle.files.proofs.SoundFacts.{Facts, facts}

-- on a volume that its owners' points judge sound, all hangs on the streams
pub owners_once : (img : List ℕ) (p : Layout) → OwnerSound img p → distinct (all_owned img) ≡ true
unfolding sound5
owners_once img p h = and_left _ _ h.point5

sound_of : (a b c d e : Bool) → a and b and c and d and e ≡ (a and b and c and e) and d
unfolding ◌and◌
sound_of true true true true e = sym (and-true e)
sound_of true true true false e = sym (and-false e)
sound_of true true false d e = refl
sound_of true false c d e = refl
sound_of false b c d e = refl

module _ (img : List ℕ) where
  parts_but : sound_but_counts img ≡ (owner_sound img and sound4 img)
  unfolding sound_but_counts owner_sound
  parts_but = sound_of (sound1 img) (sound2 img) (sound3 img) (sound4 img) (sound5 img)

  -- the streams and the counts are judged file by file
  by_file : (f : List ℕ → ℕ) → sound_but_counts img and counts_are f img ≡ owner_sound img and all (λ e. tail_sound img e and records_sound img e and count_is f e) (entries img)
  unfolding sound4 counts_are
  by_file f =
      rw parts_but (and_assoc (owner_sound img) (sound4 img) (counts_are f img)
      ∙ ap (λ (b : Bool). owner_sound img and b) (all_both (λ e. tail_sound img e and records_sound img e) (count_is f) (entries img)))

  parts : sound img ≡ (owner_sound img and all (file_sound img) (entries img))
  unfolding sound file_sound
  parts = by_file (records_in img)

  pub parts_before : sound_before img ≡ (owner_sound img and all (file_before img) (entries img))
  unfolding sound_before file_before
  parts_before = by_file no_count

  pub judged_nowhere : judged_of img ≡ None → None ≡ sound_at img
  unfolding sound_at ◌and◌
  judged_nowhere e = rw (parts, unsound_judged img e)

  pub judged_not_before : judged_of img ≡ None → sound_before img ≡ false
  unfolding ◌and◌
  judged_not_before e = rw (parts_before, unsound_judged img e)

  module _ (p : Layout) (h : OwnerSound img p) where
    pub judged_bad : all (file_sound img) (entries img) ≡ false → None ≡ sound_at img
    unfolding sound_at ◌and◌
    judged_bad e = rw (parts, owner_by img p h, e)

    pub judged_good : all (file_sound img) (entries img) ≡ true → Some p ≡ sound_at img
    unfolding sound_at ◌and◌
    judged_good e = rw (parts, owner_by img p h, e) (ap Some (Layout-is img p h.located))

    pub judged_then : then_some (all (file_sound img) (entries img)) p ≡ sound_at img
    judged_then = go (all (file_sound img) (entries img)) refl
      where
        go : (b : Bool) → all (file_sound img) (entries img) ≡ b → then_some b p ≡ sound_at img
        go true e = judged_good e
        go false e = judged_bad e

    pub judged_before : sound_before img ≡ all (file_before img) (entries img)
    unfolding ◌and◌
    judged_before = rw (parts_before, owner_by img p h)

  -- what the places of a sound volume say
  pub sound-Layout : (p : Layout) → sound_at img ≡ Some p → (sound img ≡ true) × Located img p
  unfolding sound_at
  sound-Layout p e = go (sound img) refl e
    where
      go : (b : Bool) → sound img ≡ b → (if b then Some (layout_of img) else None) ≡ Some p → (sound img ≡ true) × Located img p
      go true h e =
          let q : layout_of img ≡ p = cc in
          let F : Facts img = facts img h in
          (h, rw q at (Located-sound img F.one))
      go false h e = absurd (let z : ◌≡◌ {A = ℕ} 0 1 = cc in omega arith)

  pub no_layout : sound_at img ≡ None → sound img ≡ false
  unfolding sound_at
  no_layout e = go (sound img) refl e
    where
      go : (b : Bool) → sound img ≡ b → (if b then Some (layout_of img) else None) ≡ None → sound img ≡ false
      go true h e = absurd (let z : ◌≡◌ {A = ℕ} 0 1 = cc in omega arith)
      go false h e = h

  pub checked_no : sound img ≡ false → record { sound = false; free = 0 } ≡ checked_of img
  unfolding checked_of
  checked_no h = rw h

  pub checked_yes : (n : ℕ) → n ≡ free img → sound img ≡ true → record { sound = true; free = n } ≡ checked_of img
  unfolding checked_of
  checked_yes n e h = rw (h, e)
