-- The table of holders: sectors given to a slot, run by run and slot by slot, and what it then says of each.
use Rattle.std.specs.Prelude.{if◌then◌else◌}
use mathlib.Core.Path.{◌≡◌, refl, sym, ap, ◌∙◌}
use mathlib.Core.Bool.{Bool, true, false, not}
use mathlib.Core.List.{List, [], ◌∷◌, ◌++◌}
use Prim.Native.Nat.{ℕ, zero, suc, ◌+◌, ◌-◌, ◌*◌, ◌<◌, ◌≤◌}
use native.Mathlib.Numerals.{add-one}
use native.Mathlib.Omega.{arith}
use native.Mathlib.Nat.{zero-add}
use lib.ListN.{length, get_or, set, take, drop, replicate, length-set, length-replicate, get_or-replicate}
use lib.Seq.{drop-cons, drop-length, get_or-set_same, get_or-set_other}
use lib.Dec.{eqb}
use borrow.Author.Tests.{eqb-true, eqb-false, eq-eqb, ne_eqb}
use borrow.Rule.Slice.PartMut.{put_mid}
use Rattle.numbers.specs.Numbers.{most_sectors}
use Rattle.lists.specs.Lists.{◌or◌, range, flat, index, among}
use Rattle.lists.specs.Parts.{part, put}
use Rattle.lists.proofs.LentParts.{wrote_fill, put_next}
use Rattle.lists.proofs.Puts.{put_one, put-part}
use Rattle.lists.proofs.IndexFound.{index_here, index_later}
use Rattle.volume.specs.Volume.{dirs}
use Rattle.volume.specs.Directory.{entries, entry_at}
use Rattle.ownership.specs.Blocks.{segment}
use Rattle.ownership.proofs.ClaimsFollow.{flat_cons, flat_end}
use Rattle.compaction.specs.Compaction.{data_of, holder_of, holds_data}
use Rattle.compaction.specs.Code.Holders.{given, holder_from, HoldersFrom, Holders, is_held}
use Rattle.compaction.proofs.DataSectors.{Holder-found, holder_none}

module _ (k : ℕ) where
  length-given : (xs who : List ℕ) → length (given k xs who) ≡ length who
  unfolding given
  length-given [] who = refl
  length-given (x ∷ xs) who = length-given xs (set who x k) ∙ length-set who x k

  -- each of them is k's, and the others as they were
  given_at : (u : ℕ) (xs who : List ℕ) → u < length who → get_or (given k xs who) u 0 ≡ (if among u xs then k else get_or who u 0)
  unfolding given among ◌or◌
  given_at u [] who l = refl
  given_at u (x ∷ xs) who l = given_at u xs (set who x k) (omega (arith, length-set who x k)) ∙ by (eqb u x) (among u xs) refl refl
    where
      by : (b a : Bool) → eqb u x ≡ b → among u xs ≡ a → (if among u xs then k else get_or (set who x k) u 0) ≡ (if eqb u x or among u xs then k else get_or who u 0)
      by true true e m = rw (e, m)
      by true false e m = rw (e, m, eqb-true u x e) (get_or-set_same who x k 0 (omega (arith, eqb-true u x e)))
      by false true e m = rw (e, m)
      by false false e m = rw (e, m) (get_or-set_other who x u k 0 (eqb-false u x e))

  pub given_none : (xs who : List ℕ) → xs ≡ [] → given k xs who ≡ who
  unfolding given
  given_none xs who e = rw e

  -- a run is filled at once
  no_part : (s : ℕ) (who : List ℕ) → part s 0 who ≡ []
  unfolding part
  no_part s who = refl

  put_run : (n s : ℕ) (who : List ℕ) → s + n ≤ length who → put s (replicate n k) who ≡ given k (range s n) who
  unfolding given range
  put_run zero s who h = rw (← no_part s who) (put-part s 0 who h)
  put_run (suc n) s who h =
      let z : s + 1 ≡ suc s = add-one s in
      sym (put_next s (k ∷ []) (replicate n k) who (omega (arith, length-replicate n k)))
      ∙ rw (z, sym (put_one s k who (omega arith))) (put_run n (suc s) (set who s k) (omega (arith, length-set who s k)))

  pub given_run : (s n : ℕ) (who b : List ℕ) → s + n ≤ length who → b ≡ replicate (length (take (s + n - s) (drop s who))) k
      → put_mid s (s + n - s) who b ≡ given k (range s n) who
  given_run s n who b h e =
      let z : s + n - s ≡ n = omega arith in
      wrote_fill s (s + n) k who b (omega arith) h e ∙ ap (λ (m : ℕ). put s (replicate m k) who) z ∙ put_run n s who h

  -- segments, one more; and done
  given-append : (xs ys who : List ℕ) → given k (xs ++ ys) who ≡ given k ys (given k xs who)
  unfolding given
  given-append [] ys who = refl
  given-append (x ∷ xs) ys who = given-append xs ys (set who x k)

  pub segments_more : (ps : List (List ℕ)) (i : ℕ) (r who : List ℕ) → i < length ps → r ≡ segment (get_or ps i [])
      → given k (flat segment (drop i ps)) who ≡ given k (flat segment (drop (i + 1) ps)) (given k r who)
  segments_more ps i r who h e = rw (flat_cons segment ps [] i h, e) (given-append (segment (get_or ps i [])) (flat segment (drop (i + 1) ps)) who)

  pub segments_end : (ps : List (List ℕ)) (i : ℕ) (who : List ℕ) → length ps ≤ i → given k (flat segment (drop i ps)) who ≡ who
  unfolding given
  segments_end ps i who h = rw (flat_end segment ps [] i h)

-- one slot after the other, from the last down
module _ (img : List ℕ) (k : ℕ) (h : k < length (entries img)) (x : ℕ) where
  first_entry : drop k (entries img) ≡ entry_at img k ∷ drop (suc k) (entries img)
  unfolding entry_at
  first_entry = drop-cons (entries img) k [] h

  from_here : among x (data_of img (entry_at img k)) ≡ true → holder_from img k x ≡ k
  unfolding holder_from
  from_here m =
      let z : k + 0 ≡ k = omega arith in
      rw (first_entry, index_here (λ e. among x (data_of img e)) (entry_at img k) (drop (suc k) (entries img)) m) z

  from_later : among x (data_of img (entry_at img k)) ≡ false → holder_from img k x ≡ holder_from img (k + 1) x
  unfolding holder_from
  from_later m =
      rw (first_entry, index_later (λ e. among x (data_of img e)) (entry_at img k) (drop (suc k) (entries img)) m, add-one k) (omega arith)

  from_given : (if among x (data_of img (entry_at img k)) then k else holder_from img (k + 1) x) ≡ holder_from img k x
  from_given = by (among x (data_of img (entry_at img k))) refl
    where
      by : (b : Bool) → among x (data_of img (entry_at img k)) ≡ b → (if among x (data_of img (entry_at img k)) then k else holder_from img (k + 1) x) ≡ holder_from img k x
      by true m = rw m (sym (from_here m))
      by false m = rw m (sym (from_later m))

pub holders_more : (img who w : List ℕ) (j k : ℕ) → k < length (entries img) → j ≡ k + 1 → HoldersFrom img j who → w ≡ given k (data_of img (entry_at img k)) who
    → HoldersFrom img k w
holders_more img who w j k h e t g = record {
  long = ap length g ∙ length-given k (data_of img (entry_at img k)) who ∙ t.long;
  says = λ x l.
      rw (g, given_at k x (data_of img (entry_at img k)) who (omega (arith, t.long)), t.says x l, e) (from_given img k h x);
}

-- none yet, and all
pub holders_none : (img who : List ℕ) (n k : ℕ) → n ≡ most_sectors → k ≡ length (entries img) → who ≡ replicate n k → HoldersFrom img k who
unfolding holder_from index
holders_none img who n k m e w = record {
  long = ap length w ∙ length-replicate n k ∙ m;
  says = λ x l.
      let z : k ≡ k + 0 = omega arith in
      ap (λ (b : List ℕ). get_or b x 0) w ∙ get_or-replicate n x k 0 (omega arith) ∙ z
      ∙ ap (λ (es : List (List ℕ)). k + index (λ d. among x (data_of img d)) es) (sym (ap (λ (a : ℕ). drop a (entries img)) e ∙ drop-length (entries img)));
}

pub Holders-all : (img who : List ℕ) → HoldersFrom img 0 who → Holders img who
unfolding holder_from holder_of
Holders-all img who t = record {
  long = t.long;
  says = λ x l. t.says x l ∙ zero-add _;
}

-- a sector has a slot exactly where the volume has data in it
module _ (who : List ℕ) (none x : ℕ) where
  pub held_yes : (get_or who x 0 ≡ none → ⊥) → is_held who none x ≡ true
  unfolding is_held
  held_yes f = ap not (ne_eqb _ _ f)

  pub held_no : get_or who x 0 ≡ none → is_held who none x ≡ false
  unfolding is_held
  held_no e = ap not (eq-eqb _ _ e)

  pub held_is : (img : List ℕ) → Holders img who → none ≡ 8 * dirs img → x < most_sectors → is_held who none x ≡ holds_data img x
  held_is img t e l = by (holds_data img x) refl
    where
      by : (b : Bool) → holds_data img x ≡ b → is_held who none x ≡ holds_data img x
      by true h =
          let k = (Holder-found img x h).slot in
          held_yes (λ q. let z = t.says x l in omega arith) ∙ sym h
      by false h = held_no (t.says x l ∙ holder_none img x h ∙ sym e) ∙ sym h
