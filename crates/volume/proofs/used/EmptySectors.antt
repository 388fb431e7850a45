-- A directory sector of zeros has eight unused entries.
use mathlib.Core.Bool.{Bool, true}
use mathlib.Core.List.{List}
use mathlib.Core.Path.{◌≡◌, ap, sym, ◌∙◌}
use Prim.Native.Nat.{ℕ, ◌+◌, ◌*◌, ◌/◌, ◌%◌, ◌<◌}
use native.Mathlib.Omega.{arith}
use lib.ListN.{take, drop, take-append-drop}
use Rattle.lists.specs.Lists.{all}
use Rattle.lists.specs.Parts.{part, zeros, sector}
use Rattle.lists.proofs.JoinedLists.{all-append_left, all-append_right}
use Rattle.volume.specs.Directory.{entry_at, unused}
use Rattle.volume.specs.Volume.{dir_at}
use Rattle.volume.specs.Code.Located.{Located}
use Rattle.volume.specs.Code.Used.{Gap}
use Rattle.volume.specs.declared.locate.Layout.{Layout}
use Rattle.volume.proofs.Slots.{entry_sector}

all-part : (r : ℕ → Bool) (i n : ℕ) (l : List ℕ) → all r l ≡ true → all r (part i n l) ≡ true
unfolding part
all-part r i n l h =
    let d : all r (drop i l) ≡ true = all-append_right r (take i l) (drop i l) (ap (all r) (take-append-drop i l) ∙ h) in
    all-append_left r (take n (drop i l)) (drop n (drop i l)) (ap (all r) (take-append-drop n (drop i l)) ∙ d)

module _ (img : List ℕ) (p : Layout) (l : Located img p) (k : ℕ) (h : k < 8 * p.dirs) where
  pub Gap-sector : k % 8 ≡ 0 → zeros (sector (p.dir + k / 8) img) ≡ true → Gap img k 8
  Gap-sector m z =
      let d = l.is_dirs in
      let q : k ≡ 8 * (k / 8) = omega arith in
      let s : zeros (sector (dir_at img + k / 8) img) ≡ true = ap (λ (a : ℕ). zeros (sector (a + k / 8) img)) (sym l.is_dir) ∙ z in
      record {
        within = omega arith;
        none =
            λ i g.
            ap (λ (j : ℕ). unused (entry_at img j)) (ap (λ (j : ℕ). j + i) q) ∙ ap unused (entry_sector img (k / 8) i (omega arith) g)
            ∙ all-part _ (32 * i) 32 (sector (dir_at img + k / 8) img) s;
        taken = λ e. absurd (omega (arith, e));
      }
