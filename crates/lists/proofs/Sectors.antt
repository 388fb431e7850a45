-- The pieces of 256 bytes that an image is, as the code takes them.
use mathlib.Core.Path.{◌≡◌, refl, ap, ◌∙◌}
use mathlib.Core.List.{List, []}
use Prim.Native.Nat.{ℕ, zero, suc, ◌+◌, ◌*◌, ◌<◌}
use native.Mathlib.Omega.{arith}
use lib.ListN.{get_or, take, drop}
use lib.Seq.{drop-drop}
use Rattle.std.specs.Simd.{first_chunks}
use Rattle.lists.specs.Parts.{part, sector}

-- the piece at s is sector s
pub sector_at : (k : ℕ) (img : List ℕ) (s : ℕ) → s < k → get_or (first_chunks 256 k img) s [] ≡ sector s img
unfolding part sector
sector_at zero img s h = absurd (omega arith)
sector_at (suc k) img zero h = refl
sector_at (suc k) img (suc s) h =
    let e : 256 + 256 * s ≡ 256 * suc s = omega arith in
    sector_at k (drop 256 img) s (omega arith) ∙ ap (take 256) (drop-drop (256 * s) 256 img ∙ ap (λ (i : ℕ). drop i img) e)
