-- What a verdict says of the volume.
use Rattle.std.specs.Prelude.{if◌then◌else◌, Some, None}
use mathlib.Core.Path.{◌≡◌, ap, refl, sym}
use mathlib.Core.Bool.{true, false, Bool}
use mathlib.Core.List.{List}
use Prim.Native.Nat.{ℕ}
use native.Mathlib.Omega.{arith}
use lib.ListN.{length}
use Rattle.lists.specs.Lists.{◌and◌}
use Rattle.lists.proofs.Tests.{and_left, and_right, both_true}
use Rattle.volume.specs.Directory.{sound2}
use Rattle.volume.specs.Code.Located.{Located}
use Rattle.volume.specs.Code.Used.{used_slots}
use Rattle.volume.specs.declared.locate.Layout.{Layout}
use Rattle.volume.specs.Volume.{sound1, layout_of}
use Rattle.volume.proofs.Located.{Located-sound, Layout-is}
use Rattle.ownership.specs.Blocks.{sound3}
use Rattle.ownership.specs.Owners.{sound5}
use Rattle.ownership.specs.Code.Verdict.{owner_sound, judged_as, judged_of}
use Rattle.ownership.specs.declared.judge.Judged.{Judged}

-- the four points of a volume that is judged sound, and where things are on it
pub record OwnerSound (img : List ℕ) (p : Layout) : Type 0 where
  pub located : Located img p
  pub point2 : sound2 img ≡ true
  pub point3 : sound3 img ≡ true
  pub point5 : sound5 img ≡ true

pub owner_sound_lem : (img : List ℕ) → owner_sound img ≡ true → OwnerSound img (layout_of img)
unfolding owner_sound
owner_sound_lem img h =
    let h3 = and_left _ _ h in
    let h2 = and_left _ _ h3 in
    record { located = Located-sound img (and_left _ _ h2); point2 = and_right _ _ h2; point3 = and_right _ _ h3; point5 = and_right _ _ h }

pub owner_by : (img : List ℕ) (p : Layout) → OwnerSound img p → owner_sound img ≡ true
unfolding owner_sound
owner_by img p s = both_true _ _ (both_true _ _ (both_true _ _ s.located.sound_1 s.point2) s.point3) s.point5

-- a verdict, both ways
pub judged_sound : (img : List ℕ) (p : Layout) (n : ℕ) → Located img p → n ≡ length (used_slots img) → owner_sound img ≡ true → Some (record { p = p; files = n }) ≡ judged_of img
unfolding judged_of
judged_sound img p n l e h = rw (h, Layout-is img p l, e)

pub judged_unsound : (img : List ℕ) → owner_sound img ≡ false → None ≡ judged_of img
unfolding judged_of
judged_unsound img h = rw h

pub sound_judged : (img : List ℕ) (v : Judged) → judged_of img ≡ Some v → OwnerSound img v.p × (v.files ≡ length (used_slots img))
unfolding judged_of
sound_judged img v e = go (owner_sound img) refl e
  where
    go : (b : Bool) → owner_sound img ≡ b → (if b then Some (judged_as img) else None) ≡ Some v
        → OwnerSound img v.p × (v.files ≡ length (used_slots img))
    go true h e =
        let is : judged_as img ≡ v = cc in
        (rw (ap (λ (x : Judged). x.p) is) at (owner_sound_lem img h), sym (ap (λ (x : Judged). x.files) is))
    go false h e = absurd (let z : ◌≡◌ {A = ℕ} 0 1 = cc in omega arith)

pub unsound_judged : (img : List ℕ) → judged_of img ≡ None → owner_sound img ≡ false
unfolding judged_of
unsound_judged img e = go (owner_sound img) refl e
  where
    go : (b : Bool) → owner_sound img ≡ b → (if b then Some (judged_as img) else None) ≡ None → owner_sound img ≡ false
    go true h e = absurd (let z : ◌≡◌ {A = ℕ} 0 1 = cc in omega arith)
    go false h e = h

module _ (img : List ℕ) where
  pub fails_1 : sound1 img ≡ false → owner_sound img ≡ false
  unfolding owner_sound ◌and◌
  fails_1 h = rw h
