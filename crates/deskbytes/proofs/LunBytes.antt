-- One LUN's bytes: twelve, and as the code writes them.
use mathlib.Core.Path.{◌≡◌, refl}
use mathlib.Core.Bool.{Bool, true, false}
use mathlib.Core.List.{[], ◌∷◌}
use Prim.Native.Nat.{ℕ, ◌/◌, ◌%◌, ◌<◌}
use native.Mathlib.Omega.{arith}
use lib.ListN.{length}
use Rattle.lists.specs.Parts.{blanks}
use Rattle.luns.specs.declared.Lun.{Lun}
use Rattle.luns.specs.Modes.{mode_number}
use Rattle.deskbytes.specs.DeskBytes.{lun_bytes, count_of, first_of, packed_lun}

pub packed_free : (u : Lun) → u.held ≡ false → packed_lun u ≡ blanks lun_bytes
unfolding packed_lun
packed_free u e = rw e

pub length-packed_lun : (u : Lun) → length (packed_lun u) ≡ lun_bytes
unfolding packed_lun blanks
length-packed_lun u = by u.held refl
  where
    by : (b : Bool) → u.held ≡ b → length (packed_lun u) ≡ lun_bytes
    by true e = rw e
    by false e = rw e

-- the bytes of a held LUN, as the code lists them
pub packed_held : (u : Lun) (m n a b c d e f : ℕ) → u.held ≡ true → m ≡ mode_number u.mode → n ≡ count_of u.place → u.offered < 256
    → a ≡ u.user % 65536 / 256 → b ≡ u.user % 65536 % 256
    → c ≡ first_of u.place % 4294967296 / 65536 / 256 → d ≡ first_of u.place % 4294967296 / 65536 % 256
    → e ≡ first_of u.place % 4294967296 % 65536 / 256 → f ≡ first_of u.place % 4294967296 % 65536 % 256
    → (1 ∷ m ∷ a ∷ b ∷ u.slot % 256 ∷ n % 256 ∷ u.offered ∷ 0 ∷ c ∷ d ∷ e ∷ f ∷ []) ≡ packed_lun u
unfolding packed_lun
packed_held u m n a b c d e f held em en code ea eb ec ed ee ef =
    let o : u.offered % 256 ≡ u.offered = omega arith in
    rw (held, em, en, ea, eb, ec, ed, ee, ef, o)
