-- Volumes from before files had codes: they can be brought up, and their files are for everyone to read.
use mathlib.Core.Bool.{Bool, true, false}
use mathlib.Core.List.{List, []}
use mathlib.Core.Path.{◌≡◌, refl}
use Prim.Native.Nat.{ℕ}
use native.Mathlib.Omega.{arith}
use borrow.Author.Tests.{eqb-true, eq-eqb}
use Rattle.lists.specs.Lists.{◌and◌, ◌or◌, all}
use Rattle.lists.specs.Parts.{byte, word}
use Rattle.lists.proofs.Lists.{all_at, all_ext}
use Rattle.lists.proofs.Tests.{and_left, and_right, both_true, or_cases, or_first, or_second}
use Rattle.volume.specs.Directory.{entries, entry_at, unused, read_code, code_allowed, valid, names_differ, sound2}
use Rattle.volume.specs.Volume.{sound1}
use Rattle.volume.proofs.Slots.{length-entries}
use Rattle.ownership.specs.Blocks.{sound3}
use Rattle.ownership.specs.Owners.{sound5}
use Rattle.files.specs.Files.{sound4, sound_but_counts, sound_before}
use Rattle.files.specs.Rights.{may_read}
use Rattle.promises.specs.Sectors.{File}
use Rattle.promises.specs.Private.{valid_before_codes, sound_before_codes, OldVolumes}

word_22 : (e : List ℕ) → valid_before_codes e ≡ true → word e 22 ≡ 0
unfolding valid_before_codes
word_22 e h = eqb-true _ _ (and_right _ _ (and_left _ _ h))

no_code : (e : List ℕ) → valid_before_codes e ≡ true → read_code e ≡ 0
no_code e h = omega (arith, word_22 e h)

valid_now : (e : List ℕ) → valid_before_codes e ≡ true → valid e ≡ true
unfolding valid_before_codes valid code_allowed
valid_now e h =
    let low : byte e 22 ≡ 0 = omega (arith, word_22 e h) in
    let a = and_left _ _ h in
    both_true _ _
    (both_true _ _ (both_true _ _ (and_left _ _ a) (eq-eqb _ _ low)) (or_second _ _ (eq-eqb _ _ (no_code e h))))
    (and_right _ _ h)

module _ (img : List ℕ) (h : sound_before_codes img ≡ true) where
  five : sound1 img and (all (λ e. unused e or valid_before_codes e) (entries img) and names_differ (entries img)) and sound3 img and sound4 img and sound5 img ≡ true
  unfolding sound_before_codes
  five = and_left _ _ h

  each_valid : all (λ e. unused e or valid_before_codes e) (entries img) ≡ true
  each_valid = and_left _ _ (and_right _ _ (and_left _ _ (and_left _ _ (and_left _ _ five))))

  point_2 : sound2 img ≡ true
  unfolding sound2
  point_2 =
      both_true _ _ (all_ext _ _ (λ e. unused e or valid e) (entries img) (λ e g q. either e g) each_valid each_valid)
      (and_right _ _ (and_right _ _ (and_left _ _ (and_left _ _ (and_left _ _ five)))))
    where
      either : (e : List ℕ) → unused e or valid_before_codes e ≡ true → unused e or valid e ≡ true
      either e g = go (unused e) refl
        where
          go : (b : Bool) → unused e ≡ b → unused e or valid e ≡ true
          go true q = or_first _ _ q
          go false q = or_second _ _ (valid_now e (or_cases _ _ g q))

  old_now : sound_before img ≡ true
  unfolding sound_before_codes sound_before sound_but_counts
  old_now =
      let four = and_left _ _ five in
      let three = and_left _ _ four in
      let one = and_left _ _ (and_left _ _ three) in
      both_true _ _ (both_true _ _ (both_true _ _ (both_true _ _ (both_true _ _ one point_2) (and_right _ _ three)) (and_right _ _ four)) (and_right _ _ five))
      (and_right _ _ h)

  readable : (k : ℕ) → File img k → (caller offered : ℕ) → may_read caller offered (entry_at img k) ≡ true
  unfolding may_read entry_at
  readable k f caller offered =
      or_first _ _
      (or_first _ _
      (eq-eqb _ _ (no_code _ (or_cases _ _ (all_at (λ e. unused e or valid_before_codes e) (entries img) k [] each_valid (omega (arith, f.slot, length-entries img))) f.used))))

pub old_volumes : OldVolumes
old_volumes = record { can_be_brought_up = old_now; stay_readable = readable }
