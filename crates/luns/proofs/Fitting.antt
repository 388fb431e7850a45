-- What it says that sixteen LUNs fit a volume, and that they still do with one of them replaced or with the volume changed.
use mathlib.Core.Path.{◌≡◌, refl, ap, sym, ◌∙◌}
use mathlib.Core.Bool.{Bool, true, false, not}
use mathlib.Core.List.{List, [], ◌∷◌}
use Prim.Native.Nat.{ℕ, zero, suc, ◌<◌, ◌≤◌, ◌+◌}
use native.Mathlib.Omega.{arith}
use lib.Dec.{eqb, leb, ltb}
use lib.ListN.{set, length, get_or, replicate, length-replicate, length-set}
use borrow.Author.Tests.{eqb-true, eq-eqb, leb-true, not-true, le-leb, ltb-true, lt-ltb}
use Rattle.numbers.specs.Numbers.{last_user, most_moved, lun_count}
use Rattle.lists.specs.Lists.{◌or◌, ◌and◌, all}
use Rattle.lists.proofs.Tests.{both_true, and_left, and_right, or_cases, or_first, or_second}
use Rattle.lists.proofs.JoinedLists.{all-set}
use Rattle.lists.proofs.Lists.{all_at, all_ext}
use Rattle.lists.proofs.Blanks.{all-replicate}
use Rattle.volume.specs.Directory.{entry_at, unused, owner, contiguous, SameButCount}
use Rattle.volume.proofs.EntryCounted.{contiguous_is, owner_is}
use Rattle.files.specs.Rights.{has_right, may_read}
use Rattle.files.specs.Files.{extent}
use Rattle.files.proofs.Kept.EntryAlike.{extent_alike}
use Rattle.luns.specs.declared.Place.{Place}
use Rattle.luns.specs.declared.Lun.{Lun}
use Rattle.luns.specs.Luns.{moved_to, agree, all_agree, place_exists, reads_by_right, lun_fits, free_lun, fits}
use Rattle.luns.specs.declared.Mode.{Mode}
use Rattle.luns.specs.Modes.{shuts_out, compatible, reads, writes}
use Rattle.luns.specs.declared.Place.TheVariants.{Fresh, At}

-- `agree` does not look at the place, is symmetric, and holds of a free LUN
agree_moved : (p : Place) (u v : Lun) → agree (moved_to p u) v ≡ agree u v
unfolding agree moved_to
agree_moved p u v = refl

agree_with_moved : (p : Place) (u v : Lun) → agree v (moved_to p u) ≡ agree v u
unfolding agree moved_to
agree_with_moved p u v = refl

or_swap : (a b : Bool) → a or b ≡ b or a
unfolding ◌or◌
or_swap true true = refl
or_swap true false = refl
or_swap false true = refl
or_swap false false = refl

compatible_symmetric : (a b : Mode) → compatible a b ≡ compatible b a
unfolding compatible
compatible_symmetric a b = ap not (or_swap (shuts_out a b) (shuts_out b a))

and_swap : (a b c d : Bool) → c ≡ d → a and b and c ≡ b and a and d
unfolding ◌and◌
and_swap true true c d e = e
and_swap true false c d e = refl
and_swap false true c d e = refl
and_swap false false c d e = refl

pub eqb_swap : (a b : ℕ) → eqb a b ≡ eqb b a
eqb_swap a b = go (eqb a b) (eqb b a) refl refl
  where
    go : (p q : Bool) → eqb a b ≡ p → eqb b a ≡ q → p ≡ q
    go true true x y = refl
    go true false x y = sym (eq-eqb b a (sym (eqb-true a b x))) ∙ y
    go false true x y = sym x ∙ eq-eqb a b (sym (eqb-true b a y))
    go false false x y = refl

agree_symmetric : (u v : Lun) → agree u v ≡ agree v u
unfolding agree
agree_symmetric u v =
    rw (
      and_swap u.held v.held (eqb u.slot v.slot) (eqb v.slot u.slot) (eqb_swap u.slot v.slot),
      compatible_symmetric u.mode v.mode,
    )

agree_free : (u v : Lun) → u.held ≡ false → agree u v ≡ true
unfolding agree ◌and◌ ◌or◌
agree_free u v h = rw h

pub all-agree_free : (u : Lun) (us : List Lun) → u.held ≡ false → all (agree u) us ≡ true
unfolding all
all-agree_free u [] h = refl
all-agree_free u (v ∷ us) h = both_true _ _ (agree_free u v h) (all-agree_free u us h)

-- a LUN that agrees with all of them in the place of one
agree-set : (us : List Lun) (k : ℕ) (u : Lun) → all (agree u) us ≡ true → all_agree us ≡ true → all_agree (set us k u) ≡ true
unfolding all_agree all
agree-set [] k u a h = refl
agree-set (v ∷ us) zero u a h = both_true _ _ (and_right _ _ a) (and_right _ _ h)
agree-set (v ∷ us) (suc k) u a h =
    both_true _ _
    (all-set (agree v) us k u (and_left _ _ h) (agree_symmetric v u ∙ and_left _ _ a))
    (agree-set us k u (and_right _ _ a) (and_right _ _ h))

-- the same LUN at another place
all_moved : (w : Lun) (us : List Lun) (k : ℕ) (p : Place) (d : Lun) → k < length us → all (agree w) us ≡ true
    → all (agree w) (set us k (moved_to p (get_or us k d))) ≡ true
unfolding all
all_moved w [] k p d l h = absurd (omega arith)
all_moved w (v ∷ us) zero p d l h = both_true _ _ (agree_with_moved p v w ∙ and_left _ _ h) (and_right _ _ h)
all_moved w (v ∷ us) (suc k) p d l h = both_true _ _ (and_left _ _ h) (all_moved w us k p d (omega arith) (and_right _ _ h))

all_from_moved : (p : Place) (u : Lun) (us : List Lun) → all (agree u) us ≡ true → all (agree (moved_to p u)) us ≡ true
unfolding all
all_from_moved p u [] h = refl
all_from_moved p u (v ∷ us) h = both_true _ _ (agree_moved p u v ∙ and_left _ _ h) (all_from_moved p u us (and_right _ _ h))

agree_set_moved : (us : List Lun) (k : ℕ) (p : Place) (d : Lun) → k < length us → all_agree us ≡ true
    → all_agree (set us k (moved_to p (get_or us k d))) ≡ true
unfolding all_agree
agree_set_moved [] k p d l h = absurd (omega arith)
agree_set_moved (v ∷ us) zero p d l h = both_true _ _ (all_from_moved p v us (and_left _ _ h)) (and_right _ _ h)
agree_set_moved (v ∷ us) (suc k) p d l h =
    both_true _ _ (all_moved v us k p d (omega arith) (and_left _ _ h)) (agree_set_moved us k p d (omega arith) (and_right _ _ h))

-- What fitting says of one held LUN
pub record Fitted (img : List ℕ) (u : Lun) : Type 0 where
  pub used : unused (entry_at img u.slot) ≡ false
  pub user_in : u.user ≤ last_user
  pub right : not (writes u.mode) or has_right u.user (owner (entry_at img u.slot)) ≡ true
  pub read_right : reads_by_right img u ≡ true
  pub place : place_exists img (entry_at img u.slot) u.place ≡ true

pub Lun-Fitted : (img : List ℕ) (u : Lun) → u.held ≡ true → lun_fits img u ≡ true → Fitted img u
unfolding lun_fits reads_by_right ◌or◌
Lun-Fitted img u h f =
    let g = rw h at f in
    let r = and_left _ _ g in
    let a = and_left _ _ r in
    let b = and_left _ _ a in
    record {
      used = not-true _ (and_left _ _ b);
      user_in = leb-true _ _ (and_right _ _ b);
      right = and_right _ _ a;
      read_right = and_right _ _ r;
      place = and_right _ _ g;
    }

-- a LUN that reads may
pub may_read_lem : (img : List ℕ) (u : Lun) → reads_by_right img u ≡ true → reads u.mode ≡ true → may_read u.user u.offered (entry_at img u.slot) ≡ true
unfolding reads_by_right
may_read_lem img u h q = or_cases _ _ h (ap not q)

pub unheld_fits : (img : List ℕ) (u : Lun) → u.held ≡ false → lun_fits img u ≡ true
unfolding lun_fits
unheld_fits img u h = or_first _ _ (ap not h)

pub Fitted-Lun : (img : List ℕ) (u : Lun) → (u.held ≡ true → Fitted img u) → lun_fits img u ≡ true
unfolding lun_fits
Fitted-Lun img u f = go u.held refl
  where
    go : (b : Bool) → u.held ≡ b → lun_fits img u ≡ true
    go true h =
        let g = f h in
        or_second _ _
        (both_true _ _ (both_true _ _ (both_true _ _ (both_true _ _ (ap not g.used) (le-leb _ _ g.user_in)) g.right) g.read_right) g.place)
    go false h = unheld_fits img u h

pub free_fits : (img : List ℕ) → lun_fits img free_lun ≡ true
unfolding free_lun
free_fits img = unheld_fits img free_lun refl

-- A place that exists goes on existing where the file is as long or longer
Place-longer : (v v' e : List ℕ) (p : Place) → extent v e ≤ extent v' e → place_exists v e p ≡ true → place_exists v' e p ≡ true
unfolding place_exists
Place-longer v v' e Fresh l h = refl
Place-longer v v' e (At i n) l h = go (contiguous e) refl
  where
    go : (b : Bool) → contiguous e ≡ b → place_exists v' e (At i n) ≡ true
    go true q =
        let g : leb 1 n and leb n most_moved and leb (i + n) (extent v e) ≡ true = rw q at h in
        let m : i + n ≤ extent v e = leb-true _ _ (and_right _ _ g) in
        rw q (both_true _ _ (and_left _ _ g) (le-leb (i + n) (extent v' e) (omega arith)))
    go false q =
        let g : eqb n 1 and ltb i (extent v e) ≡ true = rw q at h in
        let m : i < extent v e = ltb-true _ _ (and_right _ _ g) in
        rw q (both_true _ _ (and_left _ _ g) (lt-ltb i (extent v' e) (omega arith)))

-- What fitting says of all of them
pub record Fitting (img : List ℕ) (us : List Lun) : Type 0 where
  pub sixteen : length us ≡ lun_count
  pub each : all (lun_fits img) us ≡ true
  pub agreed : all_agree us ≡ true

pub fitting : (img : List ℕ) (us : List Lun) → fits img us ≡ true → Fitting img us
unfolding fits
fitting img us h = record {
  sixteen = eqb-true _ _ (and_left _ _ (and_left _ _ h));
  each = and_right _ _ (and_left _ _ h);
  agreed = and_right _ _ h;
}

pub fits_is : (img : List ℕ) (us : List Lun) → Fitting img us → fits img us ≡ true
unfolding fits
fits_is img us f = both_true _ _ (both_true _ _ (eq-eqb _ _ f.sixteen) f.each) f.agreed

-- of the held LUN with number k
pub Fitted-at : (v : List ℕ) (us : List Lun) (k : ℕ) → k < lun_count → (get_or us k free_lun).held ≡ true → Fitting v us → Fitted v (get_or us k free_lun)
Fitted-at v us k l h f = Lun-Fitted v (get_or us k free_lun) h (all_at (lun_fits v) us k free_lun f.each (omega (arith, f.sixteen)))

-- sixteen free LUNs
agree_all_free : (n : ℕ) → all_agree (replicate n free_lun) ≡ true
unfolding all_agree free_lun
agree_all_free zero = refl
agree_all_free (suc n) = both_true _ _ (all-agree_free free_lun (replicate n free_lun) refl) (agree_all_free n)

pub Fitting-free : (v : List ℕ) → Fitting v (replicate lun_count free_lun)
Fitting-free v = record {
  sixteen = length-replicate lun_count free_lun;
  each = all-replicate (lun_fits v) lun_count free_lun (free_fits v);
  agreed = agree_all_free lun_count;
}

-- entries that are the same but for the count: who may read the file, and which places exist in it
pub may_alike : (e d : List ℕ) → SameButCount e d → (caller offered : ℕ) → may_read caller offered d ≡ may_read caller offered e
unfolding may_read
may_alike e d s caller offered = rw (s.code_same, owner_is e d s)

pub Place-alike : (v e d : List ℕ) → SameButCount e d → (p : Place) → place_exists v d p ≡ place_exists v e p
unfolding place_exists
Place-alike v e d s Fresh = refl
Place-alike v e d s (At i n) = rw (contiguous_is e d s, extent_alike e d s v)

-- where each held LUN's file has the same entry but for the count, and is as long or longer, they still fit; c may say more of the LUNs
pub Fitting-kept : (v v' : List ℕ) (us : List Lun) (c : Lun → Bool) → all c us ≡ true
    → ((u : Lun) → u.held ≡ true → c u ≡ true → Fitted v u
    → SameButCount (entry_at v u.slot) (entry_at v' u.slot) × (extent v (entry_at v u.slot) ≤ extent v' (entry_at v u.slot)))
    → Fitting v us → Fitting v' us
unfolding reads_by_right
Fitting-kept v v' us c hc g f = record {
  sixteen = f.sixteen;
  each = all_ext c (lun_fits v) (lun_fits v') us (λ u cu fu. Fitted-Lun v' u (λ h.
      let o = Lun-Fitted v u h fu in
      let k = g u h cu o in
      record {
        used = k.0.use_same ∙ o.used;
        user_in = o.user_in;
        right = rw (owner_is (entry_at v u.slot) (entry_at v' u.slot) k.0) o.right;
        read_right = rw (may_alike (entry_at v u.slot) (entry_at v' u.slot) k.0 u.user u.offered) o.read_right;
        place =
            Place-alike v' (entry_at v u.slot) (entry_at v' u.slot) k.0 u.place
            ∙ Place-longer v v' (entry_at v u.slot) u.place k.1 o.place;
      })) hc f.each;
  agreed = f.agreed;
}

-- one LUN replaced by one that fits and agrees with all
pub Fitting-put : (v : List ℕ) (us : List Lun) (k : ℕ) (u : Lun) → lun_fits v u ≡ true → all (agree u) us ≡ true → Fitting v us → Fitting v (set us k u)
Fitting-put v us k u h a f = record {
  sixteen = length-set us k u ∙ f.sixteen;
  each = all-set (lun_fits v) us k u f.each h;
  agreed = agree-set us k u a f.agreed;
}

moved_Fitted : (v : List ℕ) (p : Place) (u : Lun) → Fitted v u → place_exists v (entry_at v u.slot) p ≡ true → Fitted v (moved_to p u)
unfolding moved_to reads_by_right
moved_Fitted v p u o x = record { used = o.used; user_in = o.user_in; right = o.right; read_right = o.read_right; place = x }

-- the held LUN with number k moved to a place that exists
pub Fitting-moved : (v : List ℕ) (us : List Lun) (k : ℕ) (p : Place) → k < lun_count → (get_or us k free_lun).held ≡ true
    → place_exists v (entry_at v (get_or us k free_lun).slot) p ≡ true → Fitting v us → Fitting v (set us k (moved_to p (get_or us k free_lun)))
Fitting-moved v us k p l h x f =
    let u : Lun = get_or us k free_lun in
    record {
      sixteen = length-set us k (moved_to p u) ∙ f.sixteen;
      each = all-set (lun_fits v) us k (moved_to p u) f.each (Fitted-Lun v (moved_to p u) (λ q. moved_Fitted v p u (Fitted-at v us k l h f) x));
      agreed = agree_set_moved us k p free_lun (omega (arith, f.sixteen)) f.agreed;
    }
