-- A directory whose entries are all made anew, each from the one that stood there: what is written, entry by entry and as a whole.
use mathlib.Core.Path.{◌≡◌, refl, ap, sym, ◌∙◌}
use mathlib.Core.Bool.{false}
use mathlib.Core.List.{List, [], ◌∷◌, ◌++◌, map, append-nil}
use Prim.Native.Nat.{ℕ, ◌+◌, ◌-◌, ◌*◌, ◌≤◌, ◌<◌}
use native.Mathlib.Omega.{arith}
use native.Mathlib.Numerals.{add-one}
use lib.ListN.{length, length-take, get_or, take}
use lib.Seq.{take_all, take-suc, get_or-take}
use Rattle.lists.specs.Lists.{range, among, flat, pieces}
use Rattle.lists.specs.Parts.{part, put, sectors}
use Rattle.lists.proofs.Alike.{flat_alike}
use Rattle.lists.proofs.Keeps.{Keeps, Keeps-put}
use Rattle.lists.proofs.LentParts.{length-part, put_next}
use Rattle.lists.proofs.Lists.{flat-append}
use Rattle.lists.proofs.Pieces.{length-flat, pieces-flat, flat-pieces}
use Rattle.lists.proofs.Puts.{part-put_after, part-put_same, put_none, put-part}
use Rattle.volume.specs.Volume.{dir_at, dirs}
use Rattle.volume.specs.Directory.{entries, entry_at}
use Rattle.volume.proofs.LayoutKept.{keeps_dir_at, keeps_dirs}
use Rattle.volume.proofs.Slots.{length-entries, entry_part}

-- the directory of v with the first k entries made by f
unfoldable pub made_to : (List ℕ → List ℕ) → List ℕ → ℕ → List ℕ
made_to f v k = put (256 * dir_at v) (flat f (take k (entries v))) v

joined_again : (v : List ℕ) → 256 * (dir_at v + dirs v) ≤ length v → flat (λ x. x) (entries v) ≡ part (256 * dir_at v) (256 * dirs v) v
unfolding entries
joined_again v h =
    flat-pieces (8 * dirs v) 32 (part (256 * dir_at v) (256 * dirs v) v)
    ∙ take_all (32 * (8 * dirs v)) (part (256 * dir_at v) (256 * dirs v) v) (omega (arith, length-part (256 * dir_at v) (256 * dirs v) v (omega arith)))

module _ (f : List ℕ → List ℕ) (v : List ℕ) (inside : 256 * (dir_at v + dirs v) ≤ length v) (long : (e : List ℕ) → length e ≡ 32 → length (f e) ≡ 32) where
  length_slot : (k : ℕ) → k < 8 * dirs v → length (entry_at v k) ≡ 32
  length_slot k h = ap length (entry_part v k h) ∙ length-part (256 * dir_at v + 32 * k) 32 v (omega arith)

  pub made_length : (k : ℕ) → k ≤ 8 * dirs v → length (flat f (take k (entries v))) ≡ 32 * k
  unfolding entry_at
  made_length k h =
      let n : length (take k (entries v)) ≡ k = simp length-take (omega (arith, length-entries v)) in
      length-flat 32 f [] (take k (entries v)) (λ i l.
      let l' : i < k = omega (arith, n) in
      long _ (ap length (get_or-take k (entries v) i [] l') ∙ length_slot i (omega arith)))
      ∙ ap (λ (m : ℕ). 32 * m) n

  -- the entries from k on are as they were
  pub made_later : (k : ℕ) → k < 8 * dirs v → part (256 * dir_at v + 32 * k) 32 (made_to f v k) ≡ entry_at v k
  unfolding made_to
  made_later k h =
      part-put_after (256 * dir_at v) (flat f (take k (entries v))) v (omega (arith, made_length k (omega arith))) (256 * dir_at v + 32 * k) 32
      (omega (arith, made_length k (omega arith)))
      ∙ sym (entry_part v k h)

  -- one entry more
  pub made_next : (k : ℕ) → k < 8 * dirs v → put (256 * dir_at v + 32 * k) (f (entry_at v k)) (made_to f v k) ≡ made_to f v (k + 1)
  unfolding made_to entry_at flat
  made_next k h =
      let x : List ℕ = flat f (take k (entries v)) in
      let lx : length x ≡ 32 * k = made_length k (omega arith) in
      let more : take (k + 1) (entries v) ≡ take k (entries v) ++ (get_or (entries v) k [] ∷ []) =
      ap (λ (m : ℕ). take m (entries v)) (add-one k) ∙ take-suc (entries v) k [] (omega (arith, length-entries v)) in
      ap (λ (m : ℕ). put (256 * dir_at v + m) (f (entry_at v k)) (put (256 * dir_at v) x v)) (sym lx)
      ∙ put_next (256 * dir_at v) x (f (entry_at v k)) v (omega (arith, lx, long (entry_at v k) (length_slot k h)))
      ∙ ap (λ (y : List ℕ). put (256 * dir_at v) y v)
      (ap (λ (z : List ℕ). x ++ z) (sym (append-nil (f (entry_at v k)))) ∙ sym (flat-append f (take k (entries v)) (entry_at v k ∷ [])) ∙ ap (flat f) (sym more))

  pub made_none : made_to f v 0 ≡ v
  unfolding made_to flat
  made_none = put_none (256 * dir_at v) v

  pub made_all : made_to f v (8 * dirs v) ≡ put (256 * dir_at v) (flat f (entries v)) v
  unfolding made_to
  made_all = rw (take_all (8 * dirs v) (entries v) (omega (arith, length-entries v)))

  -- entries made as they were
  pub made_same : ((k : ℕ) → k < 8 * dirs v → f (entry_at v k) ≡ entry_at v k) → put (256 * dir_at v) (flat f (entries v)) v ≡ v
  unfolding entry_at
  made_same h =
      let all_same : flat f (entries v) ≡ flat (λ x. x) (entries v) =
      flat_alike [] (λ x. x) f (entries v) (entries v) refl (λ i l. h i (omega (arith, length-entries v))) in
      ap (λ (b : List ℕ). put (256 * dir_at v) b v) (all_same ∙ joined_again v inside) ∙ put-part (256 * dir_at v) (256 * dirs v) v (omega arith)

  -- the whole
  v' : List ℕ
  v' = put (256 * dir_at v) (flat f (entries v)) v

  pub made_length_all : length (flat f (entries v)) ≡ 256 * dirs v
  made_length_all =
      ap (λ (l : List (List ℕ)). length (flat f l)) (sym (take_all (8 * dirs v) (entries v) (omega (arith, length-entries v))))
      ∙ made_length (8 * dirs v) (omega arith) ∙ omega arith

  pub made_Keeps : Keeps (range (dir_at v) (dirs v)) v (put (256 * dir_at v) (flat f (entries v)) v)
  made_Keeps = Keeps-put (dir_at v) (dirs v) (256 * dir_at v) (flat f (entries v)) v (omega arith) (omega (arith, made_length_all)) (omega (arith, made_length_all))

  module _ (out : among (sectors v - 1) (range (dir_at v) (dirs v)) ≡ false) where
    written : part (256 * dir_at v) (256 * dirs v) v' ≡ flat f (entries v)
    unfolding v'
    written =
        ap (λ (n : ℕ). part (256 * dir_at v) n v') (sym made_length_all) ∙ part-put_same (256 * dir_at v) (flat f (entries v)) v (omega (arith, made_length_all))

    cut_again : (b : List ℕ) → part (256 * dir_at v) (256 * dirs v) v' ≡ b → entries v' ≡ pieces (8 * dirs v) 32 b
    unfolding v' entries
    cut_again b q = rw (keeps_dir_at _ v v' made_Keeps out, keeps_dirs _ v v' made_Keeps out, q)

    pub made_entries : entries (put (256 * dir_at v) (flat f (entries v)) v) ≡ map f (entries v)
    unfolding v' entry_at
    made_entries =
        cut_again (flat f (entries v)) written
        ∙ ap (λ (n : ℕ). pieces n 32 (flat f (entries v))) (sym (length-entries v))
        ∙ pieces-flat 32 f [] (entries v) (λ i l. long _ (length_slot i (omega (arith, length-entries v))))
