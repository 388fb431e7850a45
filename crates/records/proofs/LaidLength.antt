-- The bytes of sectors inside an image are 256 for each.
use mathlib.Core.Path.{◌≡◌, refl, ◌∙◌}
use mathlib.Core.Bool.{true}
use mathlib.Core.List.{List, [], ◌∷◌}
use Prim.Native.Nat.{ℕ, ◌*◌, ◌<◌}
use native.Mathlib.Omega.{arith}
use lib.ListN.{length, length-append}
use borrow.Author.Tests.{ltb-true}
use Rattle.lists.specs.Parts.{sector}
use Rattle.lists.specs.Lists.{all, flat}
use Rattle.lists.proofs.Tests.{and_left, and_right}
use Rattle.lists.proofs.LentParts.{length-sector}
use Rattle.records.specs.Streams.{laid_out}
use Rattle.records.proofs.LaidStream.{inside}

pub length-laid_out : (t : ℕ) (v ss : List ℕ) → length v ≡ 256 * t → inside t ss ≡ true → length (laid_out v ss) ≡ 256 * length ss
unfolding laid_out flat all
length-laid_out t v [] hv hs = refl
length-laid_out t v (s ∷ ss) hv hs =
    let h : s < t = ltb-true s t (and_left _ _ hs) in
    length-append (sector s v) (laid_out v ss) ∙ omega (arith, length-sector s v (omega arith), length-laid_out t v ss hv (and_right _ _ hs))
