-- A list that is written from the front, one piece after the other.
use mathlib.Core.Path.{◌≡◌, refl, ap, sym, ◌∙◌}
use mathlib.Core.List.{List, [], ◌∷◌, ◌++◌, append_assoc, append-nil}
use Prim.Native.Nat.{ℕ, ◌+◌, ◌≤◌, ◌<◌}
use native.Mathlib.Nat.{add-zero}
use native.Mathlib.Numerals.{add-one}
use native.Mathlib.Omega.{arith}
use lib.ListN.{length, take, drop, set, length-append, take-append-drop}
use lib.Seq.{take_at, drop-append-add, drop-drop, set_split}
use Rattle.lists.specs.Parts.{put, over}
use Rattle.lists.proofs.LentParts.{put_next}
use Rattle.lists.proofs.Puts.{length-put}

-- the front that was written over is what was written
pub over_front : (x d : List ℕ) → take (length x) (over x d) ≡ x
unfolding over
over_front x d = take_at x (drop (length x) d) (length x) refl

-- x is written at n, and m is the place after it
abbrev pub Placed : ℕ → List ℕ → List ℕ → List ℕ → ℕ → Type 0
Placed n x o out m = (m ≡ n + length x) × (out ≡ put n x o)

pub Placed-none : (n : ℕ) (x o : List ℕ) → x ≡ [] → Placed n x o o n
unfolding put
Placed-none n x o e = rw (e, add-zero) (refl, sym (take-append-drop n o))

pub Placed-one : (n b : ℕ) (x o : List ℕ) → x ≡ b ∷ [] → n < length o → Placed n x o (set o n b) (n + 1)
unfolding put
Placed-one n b x o e h = rw e (refl, rw add-one (set_split o n b h))

-- a byte after what was written
pub Placed-next : (n m b : ℕ) (x y o out : List ℕ) → Placed n x o out m → y ≡ x ++ (b ∷ []) → n + length y ≤ length o → Placed n y o (set out m b) (m + 1)
Placed-next n m b x y o out w e h =
    let l : length y ≡ length x + 1 = ap length e ∙ length-append x (b ∷ []) in
    let g : length out ≡ length o = ap length w.1 ∙ length-put n x o (omega arith) in
    let q : set out m b ≡ put m (b ∷ []) out = (Placed-one m b (b ∷ []) out refl (omega (arith, w.0))).1 in
    (omega (arith, w.0), q ∙ rw (w.0, w.1, e) (put_next n x (b ∷ []) o (omega arith)))

-- of a whole list that is to stand over o, n bytes are written, and the later ones are left
pub record Front (whole later o out : List ℕ) (n : ℕ) : Type 0 where
  pub before : List ℕ
  pub all : whole ≡ before ++ later
  pub long : n ≡ length before
  pub is : out ≡ over before o

pub Front-start : (w o : List ℕ) → Front w w o o 0
unfolding over
Front-start w o = record { before = []; all = refl; long = refl; is = refl }

module _ (w later o out : List ℕ) (n : ℕ) (s : Front w later o out n) where
  pub front_fits : (x rest : List ℕ) (room : ℕ) → later ≡ x ++ rest → length w ≤ room → n + length x ≤ room
  front_fits x rest room e h = omega (arith, s.long, ap length s.all, length-append s.before later, ap length e, length-append x rest)

  pub Front-more : (x rest out' : List ℕ) (m : ℕ) → later ≡ x ++ rest → Placed n x out out' m → Front w rest o out' m
  unfolding put over
  Front-more x rest out' m e v =
      let p : List ℕ = s.before in
      let d : drop (length p + length x) (p ++ drop (length p) o) ≡ drop (length (p ++ x)) o =
      drop-append-add p (drop (length p) o) (length x) ∙ drop-drop (length x) (length p) o ∙ ap (λ (k : ℕ). drop k o) (sym (length-append p x)) in
      record {
        before = p ++ x;
        all = s.all ∙ ap (λ (l : List ℕ). p ++ l) e ∙ sym (append_assoc p x rest);
        long = omega (arith, s.long, v.0, length-append p x);
        is = v.1 ∙ rw (s.is, s.long, take_at p (drop (length p) o) (length p) refl, d) (sym (append_assoc p x (drop (length (p ++ x)) o)));
      }

  pub front_end : later ≡ [] → (n ≡ length w) × (out ≡ over w o)
  front_end e =
      let q : w ≡ s.before = s.all ∙ ap (λ (l : List ℕ). s.before ++ l) e ∙ append-nil s.before in
      rw q (s.long, s.is)
