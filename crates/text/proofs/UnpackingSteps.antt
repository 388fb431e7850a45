-- What a stored byte stands for, case by case, and unpacking byte by byte.
use mathlib.Core.Path.{◌≡◌, refl, sym}
use mathlib.Core.List.{List, [], ◌∷◌, ◌++◌, append_assoc}
use Prim.Native.Nat.{ℕ, ◌+◌, ◌-◌, ◌<◌, ◌≤◌}
use native.Mathlib.Decide.{dec_lt}
use native.Mathlib.Numerals.{add-one}
use native.Mathlib.Omega.{arith}
use Rattle.std.specs.List.{sum_by}
use Rattle.std.proofs.lemmas.List.Sums.{sum_by-cons}
use lib.ListN.{length, length-append, get_or, drop, drop_of_length-le, replicate, length-replicate}
use lib.Seq.{drop-cons}
use borrow.Author.Tests.{lt-ltb, le-ltb}
use Rattle.text.specs.Packing.{space, mark, most_spaces, shown, unpacked}

pub unpacked-append : (s t : List ℕ) → unpacked (s ++ t) ≡ unpacked s ++ unpacked t
unfolding unpacked
unpacked-append [] t = refl
unpacked-append (b ∷ s) t = rw (unpacked-append s t) (sym (append_assoc (shown b) (unpacked s) (unpacked t)))

pub shown_self : (b : ℕ) → b < mark → shown b ≡ b ∷ []
unfolding shown
shown_self b h = rw (lt-ltb b mark h)

pub shown_spaces : (b : ℕ) → mark ≤ b → shown b ≡ replicate (b - mark) space
unfolding shown
shown_spaces b h = rw (le-ltb b mark h)

pub length_self : (b : ℕ) → b < mark → length (shown b) ≡ 1
length_self b h = rw (shown_self b h)

pub length_spaces : (b : ℕ) → mark ≤ b → length (shown b) ≡ b - mark
length_spaces b h = rw (shown_spaces b h) (length-replicate (b - mark) space)

pub shown_long : (b : ℕ) → b < 256 → length (shown b) ≤ most_spaces
shown_long b h = elim (dec_lt b mark) [
  | yes l ↦ omega (arith, length_self b l)
  | no g ↦ omega (arith, length_spaces b (omega arith))
]

pub spaces_shown : (b n : ℕ) → mark ≤ b → n ≡ length (shown b) → replicate n space ≡ shown b
spaces_shown b n h e = rw (e, length_spaces b h) (sym (shown_spaces b h))

-- what is left to unpack from byte i on
module _ (s : List ℕ) (i : ℕ) where
  pub unpacked_at : i < length s → unpacked (drop i s) ≡ shown (get_or s i 0) ++ unpacked (drop (i + 1) s)
  unfolding unpacked
  unpacked_at h = rw (add-one, drop-cons s i 0 h, unpacked)

  pub unpacked_end : length s ≤ i → unpacked (drop i s) ≡ []
  unfolding unpacked
  unpacked_end h = rw (drop_of_length-le s h)

-- how long a text is, counted byte by byte
pub length_unpacked : (s : List ℕ) → length (unpacked s) ≡ sum_by (λ b. length (shown b)) s
unfolding unpacked
length_unpacked [] = refl
length_unpacked (b ∷ s) = simp (length-append, sum_by-cons) (rw (length_unpacked s))
