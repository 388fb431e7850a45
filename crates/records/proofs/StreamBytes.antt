-- The bytes of a mapped stream: its length, and where in the image each byte stands.
use mathlib.Core.Path.{◌≡◌, ◌∙◌, refl, ap, sym}
use mathlib.Core.List.{List, [], ◌∷◌}
use Prim.Native.Nat.{ℕ, ◌+◌, ◌*◌, ◌/◌, ◌%◌, ◌<◌, suc, ◌≤◌}
use native.Mathlib.Omega.{arith}
use lib.ListN.{get_or, drop, length, length-append}
use lib.Seq.{ext_get_or, get_or-take, get_or-drop}
use mir.Val.{Fits}
use mir.Syntax.{w8}
use Rattle.lists.specs.Parts.{byte, part, sector}
use Rattle.lists.specs.Lists.{flat}
use Rattle.lists.proofs.LentParts.{length-part, length-sector, byte-part}
use Rattle.lists.proofs.Pieces.{flat_at}
use Rattle.lists.proofs.AreBytes.{Bytes}
use Rattle.records.specs.Streams.{laid_out}
use Rattle.records.specs.Code.Mapped.{Mapped}
use Rattle.records.specs.Code.Runs.{address_of}

pub byte-sector : (s r : ℕ) (l : List ℕ) → r < 256 → byte (sector s l) r ≡ byte l (256 * s + r)
unfolding sector part
byte-sector s r l h = get_or-take 256 (drop (256 * s) l) r 0 h ∙ get_or-drop (256 * s) l r 0

length_laid : (img ss : List ℕ) → ((k : ℕ) → k < length ss → 256 * get_or ss k 0 + 256 ≤ length img) → length (laid_out img ss) ≡ 256 * length ss
unfolding laid_out flat
length_laid img [] h = refl
length_laid img (s ∷ ss) h =
    let a : length (sector s img) ≡ 256 = length-sector s img (h 0 (omega arith)) in
    let r : length (laid_out img ss) ≡ 256 * length ss = length_laid img ss (λ k l. h (suc k) (omega arith)) in
    length-append (sector s img) (laid_out img ss) ∙ omega arith

module _ (img ss : List ℕ) (m : Mapped img ss) where
  pub length-laid_out : length (laid_out img ss) ≡ 256 * length ss
  length-laid_out = length_laid img ss m.inside

  pub laid_out_at : (p : ℕ) → p < 256 * length ss → byte (laid_out img ss) p ≡ byte img (address_of ss p)
  unfolding laid_out
  laid_out_at p h =
      flat_at (λ s. sector s img) ss (λ k l. length-sector (get_or ss k 0) img (m.inside k l)) p h
      ∙ byte-sector (get_or ss (p / 256) 0) (p % 256) img (omega arith)

  pub address_in : (p : ℕ) → p < 256 * length ss → address_of ss p < length img
  address_in p h = omega (arith, m.inside (p / 256) (omega arith))

  -- n bytes from q on in one sector
  module _ (q n : ℕ) (here : q < 256 * length ss) (one : q % 256 + n ≤ 256) where
    pub piece_in : address_of ss q + n ≤ length img
    piece_in = omega (arith, m.inside (q / 256) (omega arith))

    piece_byte : (j : ℕ) → j < n → byte (part (address_of ss q) n img) j ≡ byte (part q n (laid_out img ss)) j
    piece_byte j h =
        let z : (q + j) / 256 ≡ q / 256 = omega arith in
        let e : address_of ss (q + j) ≡ address_of ss q + j = rw z (omega arith) in
        byte-part (address_of ss q) n img j h ∙ ap (byte img) (sym e) ∙ sym (laid_out_at (q + j) (omega arith)) ∙ sym (byte-part q n (laid_out img ss) j h)

    pub piece_is : part (address_of ss q) n img ≡ part q n (laid_out img ss)
    piece_is =
        let a : length (part (address_of ss q) n img) ≡ n = length-part (address_of ss q) n img piece_in in
        let b : length (part q n (laid_out img ss)) ≡ n = length-part q n (laid_out img ss) (omega (arith, length-laid_out)) in
        ext_get_or 0 _ _ (a ∙ sym b) (λ j h. piece_byte j (omega arith))

-- what the checker knows of a slice of bytes
pub known : (l : List ℕ) → ((i : ℕ) → Fits w8 (get_or l i 0)) → Bytes l
known l h i = omega (arith, h i)
