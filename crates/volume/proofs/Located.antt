-- Point 1 of soundness, as facts about the places of a volume.
use Rattle.std.specs.Prelude.{if◌then◌else◌}
use mathlib.Core.Path.{◌≡◌, sym, ◌∙◌, refl}
use mathlib.Core.Bool.{true, Bool, false, true≢false}
use mathlib.Core.List.{List}
use Prim.Native.Nat.{ℕ, ◌+◌, ◌*◌, ◌≤◌, ◌<◌}
use native.Mathlib.Omega.{arith}
use lib.ListN.{length, take, drop}
use borrow.Author.Tests.{eqb-true, leb-true, ltb-true, eq-eqb, le-leb, lt-ltb}
use Rattle.numbers.specs.Numbers.{fewest_sectors, most_dirs, most_sectors}
use Rattle.lists.specs.Parts.{word, zeros, sectors}
use Rattle.lists.specs.Lists.{◌and◌}
use Rattle.lists.proofs.Tests.{and_left, and_right, both_true, is_false}
use Rattle.lists.proofs.Bools.{agree}
use Rattle.volume.specs.Names.{volume_id}
use Rattle.volume.specs.Volume.{trailer, sat_back, dir_back, dir_at, dirs, in_range, sound1, sat_at, layout_of}
use Rattle.volume.specs.Code.Located.{Located, where_of, sized_test, trailer_test, dirs_test}
use Rattle.volume.specs.declared.locate.Layout.{Layout}
use Rattle.std.specs.Prelude.{Some, None}

-- the tests of point 1, each as a fact
pub record Sound1 (img : List ℕ) : Type 0 where
  pub whole : length img ≡ 256 * sectors img
  pub low : fewest_sectors ≤ sectors img
  pub high : sectors img ≤ most_sectors
  pub one_dir : 1 ≤ dirs img
  pub few_dirs : dirs img ≤ most_dirs
  pub id : volume_id (take 4 img) ≡ true
  pub says : word (trailer img) 0 ≡ sectors img
  pub rest : zeros (drop 8 (trailer img)) ≡ true
  pub to_sat : sat_back (trailer img) < sectors img
  pub to_dir : dir_back (trailer img) < sectors img
  pub dir_in : dir_at img + dirs img ≤ sectors img

pub Sound1-facts : (img : List ℕ) → sound1 img ≡ true → Sound1 img
unfolding sound1 in_range
Sound1-facts img h =
    let h7 = and_left _ _ h in
    let h6 = and_left _ _ h7 in
    let h5 = and_left _ _ h6 in
    let h4 = and_left _ _ h5 in
    let h3 = and_left _ _ h4 in
    let h2 = and_left _ _ h3 in
    let r = and_right _ _ h2 in
    record {
      whole = eqb-true _ _ (and_left _ _ h2);
      low = leb-true _ _ (and_left _ _ (and_left _ _ (and_left _ _ r)));
      high = leb-true _ _ (and_right _ _ (and_left _ _ (and_left _ _ r)));
      one_dir = leb-true _ _ (and_right _ _ (and_left _ _ r));
      few_dirs = leb-true _ _ (and_right _ _ r);
      id = and_right _ _ h3;
      says = eqb-true _ _ (and_right _ _ h4);
      rest = and_right _ _ h5;
      to_sat = ltb-true _ _ (and_right _ _ h6);
      to_dir = ltb-true _ _ (and_right _ _ h7);
      dir_in = leb-true _ _ (and_right _ _ h);
    }

pub facts_Sound1 : (img : List ℕ) → Sound1 img → sound1 img ≡ true
unfolding sound1 in_range
facts_Sound1 img f =
    both_true _ _
    (both_true _ _
    (both_true _ _
    (both_true _ _
    (both_true _ _
    (both_true _ _
    (both_true _ _ (eq-eqb _ _ f.whole)
    (both_true _ _ (both_true _ _ (both_true _ _ (le-leb _ _ f.low) (le-leb _ _ f.high)) (le-leb _ _ f.one_dir)) (le-leb _ _ f.few_dirs)))
    f.id) (eq-eqb _ _ f.says)) f.rest) (lt-ltb _ _ f.to_sat)) (lt-ltb _ _ f.to_dir)) (le-leb _ _ f.dir_in)

pub not_sized : (img : List ℕ) → sized_test img ≡ false → sound1 img ≡ false
not_sized img n =
    is_false (sound1 img) (λ h.
    let f = Sound1-facts img h in
    true≢false (sym (both_true _ _ (both_true _ _ (eq-eqb _ _ f.whole) (le-leb _ _ f.low)) (le-leb _ _ f.high)) ∙ n))

pub not_trailer : (img : List ℕ) → trailer_test (sectors img) (trailer img) ≡ false → sound1 img ≡ false
not_trailer img n =
    is_false (sound1 img) (λ h.
    let f = Sound1-facts img h in
    true≢false (sym (both_true _ _ (both_true _ _ (both_true _ _ (eq-eqb _ _ f.says) f.rest) (lt-ltb _ _ f.to_sat)) (lt-ltb _ _ f.to_dir)) ∙ n))

pub sized_facts : (img : List ℕ) → sized_test img ≡ true → (length img ≡ 256 * sectors img) × (fewest_sectors ≤ sectors img) × (sectors img ≤ most_sectors)
sized_facts img h = (eqb-true _ _ (and_left _ _ (and_left _ _ h)), leb-true _ _ (and_right _ _ (and_left _ _ h)), leb-true _ _ (and_right _ _ h))

pub to_dir_in : (t : ℕ) (tr : List ℕ) → trailer_test t tr ≡ true → dir_back tr < t
to_dir_in t tr h = ltb-true _ _ (and_right _ _ h)

pub sound1_rest : (img : List ℕ) → sized_test img ≡ true → trailer_test (sectors img) (trailer img) ≡ true
    → dirs_test (sectors img) (trailer img) and volume_id (take 4 img) ≡ sound1 img
unfolding dir_at dirs
sound1_rest img hs ht =
    let s = sized_facts img hs in
    agree (dirs_test (sectors img) (trailer img) and volume_id (take 4 img)) (sound1 img)
    (λ h.
    let d = and_left _ _ h in
    facts_Sound1 img
    (record {
      whole = s.0;
      low = s.1;
      high = s.2;
      one_dir = leb-true _ _ (and_left _ _ (and_left _ _ d));
      few_dirs = leb-true _ _ (and_right _ _ (and_left _ _ d));
      id = and_right _ _ h;
      says = eqb-true _ _ (and_left _ _ (and_left _ _ (and_left _ _ ht)));
      rest = and_right _ _ (and_left _ _ (and_left _ _ ht));
      to_sat = ltb-true _ _ (and_right _ _ (and_left _ _ ht));
      to_dir = to_dir_in (sectors img) (trailer img) ht;
      dir_in = leb-true _ _ (and_right _ _ d);
    }))
    (λ h.
    let f = Sound1-facts img h in
    both_true _ _ (both_true _ _ (both_true _ _ (le-leb _ _ f.one_dir) (le-leb _ _ f.few_dirs)) (le-leb _ _ f.dir_in)) f.id)

pub Located-sound : (img : List ℕ) → sound1 img ≡ true → Located img (layout_of img)
unfolding layout_of
Located-sound img h =
    let f = Sound1-facts img h in
    let s : sat_at img < sectors img = sat-below img f.low in
    record {
      is_t = refl;
      is_sat = refl;
      is_dir = refl;
      is_dirs = refl;
      long = f.whole;
      low = f.low;
      high = f.high;
      sat_in = s;
      dir_in = f.dir_in;
      one_dir = f.one_dir;
      few_dirs = f.few_dirs;
      sound_1 = h;
    }
  where
    sat-below : (img : List ℕ) → fewest_sectors ≤ sectors img → sat_at img < sectors img
    sat-below img l = unfold sat_at in (omega arith)

-- what `locate` answers is right of what it was asked of
pub located : (img : List ℕ) (p : Layout) → where_of img ≡ Some p → Located img p
unfolding where_of
located img p e = go (sound1 img) refl e
  where
    go : (b : Bool) → sound1 img ≡ b → (if b then Some (layout_of img) else None) ≡ Some p → Located img p
    go true h e = let q : layout_of img ≡ p = cc in rw q at (Located-sound img h)
    go false h e = absurd (let z : ◌≡◌ {A = ℕ} 0 1 = cc in omega arith)

-- and that it found nothing says that point 1 fails
pub nowhere : (img : List ℕ) → where_of img ≡ None → sound1 img ≡ false
unfolding where_of
nowhere img e = go (sound1 img) refl e
  where
    go : (b : Bool) → sound1 img ≡ b → (if b then Some (layout_of img) else None) ≡ None → sound1 img ≡ false
    go true h e = absurd (let z : ◌≡◌ {A = ℕ} 0 1 = cc in omega arith)
    go false h e = h

places_by : (p q : Layout) → p.t ≡ q.t → p.sat ≡ q.sat → p.dir ≡ q.dir → p.dirs ≡ q.dirs → p ≡ q
places_by p q a b c d =
    let made : ℕ → ℕ → ℕ → ℕ → Layout = λ t s r n. record { t = t; sat = s; dir = r; dirs = n } in
    let e : made p.t p.sat p.dir p.dirs ≡ made q.t q.sat q.dir q.dirs = rw (a, b, c, d) in
    e

pub Layout-is : (img : List ℕ) (p : Layout) → Located img p → p ≡ layout_of img
unfolding layout_of
Layout-is img p l = places_by p (layout_of img) l.is_t l.is_sat l.is_dir l.is_dirs
