-- What is freed of a file: run by run, and what its slot holds.
use mathlib.Core.Path.{◌≡◌, refl, sym, ◌∙◌}
use mathlib.Core.List.{List, [], ◌∷◌}
use mathlib.Core.Bool.{true, false, Bool}
use Prim.Native.Nat.{ℕ, ◌<◌, ◌+◌, ◌≤◌, ◌*◌, ◌-◌}
use native.Mathlib.Omega.{arith}
use lib.ListN.{length, get_or, drop}
use borrow.Rule.Slice.PartMut.{put_same}
use Rattle.lists.specs.Lists.{flat, range}
use Rattle.lists.specs.Parts.{sector, part, put_sector}
use Rattle.lists.proofs.Puts.{put_mid_lem}
use Rattle.lists.proofs.LentParts.{length-part}
use Rattle.volume.specs.Sat.{with_bits, put_sat}
use Rattle.volume.specs.Directory.{unused, contiguous, start, size}
use Rattle.volume.specs.Volume.{sat_at, sat}
use Rattle.volume.specs.Code.Located.{Located}
use Rattle.volume.specs.declared.locate.Layout.{Layout}
use Rattle.volume.proofs.BitsSet.{with_bits-append}
use Rattle.ownership.specs.Blocks.{segment, sectors_of, block_sound, placed}
use Rattle.ownership.specs.Code.Held.{held_by}
use Rattle.ownership.specs.declared.owners.Held.TheVariants.{Nothing, Run, Chain}
use Rattle.ownership.specs.Owners.{owned}
use Rattle.ownership.specs.declared.owners.Held.{Held}
use Rattle.ownership.proofs.ClaimsFollow.{flat_cons, flat_end}
use Rattle.ownership.proofs.OwnedRuns.{owned-unused, owned_run, owned_chain, run_fits, chain_fits, chain_sound}

-- a turn of the loop over the segments
pub free_more : (v : ℕ) (b : List ℕ) (ps : List (List ℕ)) (i : ℕ) (xs : List ℕ) → i < length ps → xs ≡ segment (get_or ps i [])
    → with_bits v b (flat segment (drop i ps)) ≡ with_bits v (with_bits v b xs) (flat segment (drop (i + 1) ps))
free_more v b ps i xs h e = rw (flat_cons segment ps [] i h, e) (with_bits-append v b (segment (get_or ps i [])) (flat segment (drop (i + 1) ps)))

pub free_end : (v : ℕ) (b : List ℕ) (ps : List (List ℕ)) (i : ℕ) → length ps ≤ i → with_bits v b (flat segment (drop i ps)) ≡ b
unfolding with_bits
free_end v b ps i h = rw (flat_end segment ps [] i h)

-- what each holding says of the entry
module _ (img e : List ℕ) (t : ℕ) (long : length img ≡ 256 * t) (h : placed img e ≡ true) where
  by_cases : (P : Held → Type 0) → (unused e ≡ true → P Nothing) → (unused e ≡ false → contiguous e ≡ true → P (Run (start e) (size e)))
      → (unused e ≡ false → contiguous e ≡ false → P (Chain (start e))) → P (held_by e)
  unfolding held_by
  by_cases P a b c = go (unused e) (contiguous e) refl refl
    where
      go : (u k : Bool) → unused e ≡ u → contiguous e ≡ k → P (held_by e)
      go true k eu ek = rw eu (a eu)
      go false true eu ek = rw (eu, ek) (b eu ek)
      go false false eu ek = rw (eu, ek) (c eu ek)

  pub held_is_none : held_by e ≡ Nothing → owned img e ≡ []
  held_is_none q =
      by_cases (λ x. x ≡ Nothing → owned img e ≡ []) (λ u r. owned-unused img e u) (λ u k r. absurd (let z : ◌≡◌ {A = ℕ} 0 1 = cc in omega arith))
      (λ u k r. absurd (let z : ◌≡◌ {A = ℕ} 0 1 = cc in omega arith)) q

  pub held_is_run : (s n : ℕ) → held_by e ≡ Run s n → (s + n ≤ t) × (owned img e ≡ range s n)
  held_is_run s n q =
      by_cases (λ x. x ≡ Run s n → (s + n ≤ t) × (owned img e ≡ range s n)) (λ u r. absurd (let z : ◌≡◌ {A = ℕ} 0 1 = cc in omega arith))
      (λ u k r.
      let es : s ≡ start e = cc in
      let en : n ≡ size e = cc in
      (run_fits img e t long h u s n k es en, owned_run img e s n u k es en))
      (λ u k r. absurd (let z : ◌≡◌ {A = ℕ} 0 1 = cc in omega arith)) q

  pub held_is_chain : (s : ℕ) → held_by e ≡ Chain s → (s < t) × (block_sound t (sector s img) ≡ true) × (owned img e ≡ s ∷ sectors_of (sector s img))
  unfolding range
  held_is_chain s q =
      by_cases (λ x. x ≡ Chain s → (s < t) × (block_sound t (sector s img) ≡ true) × (owned img e ≡ s ∷ sectors_of (sector s img)))
      (λ u r. absurd (let z : ◌≡◌ {A = ℕ} 0 1 = cc in omega arith)) (λ u k r. absurd (let z : ◌≡◌ {A = ℕ} 0 1 = cc in omega arith))
      (λ u k r.
      let es : s ≡ start e = cc in
      (chain_fits img e t long h u s k es, chain_sound img e t long h u s k es, owned_chain img e s u k es)) q

-- the image whose table was written, with the places that the code has
module _ (img : List ℕ) (p : Layout) (l : Located img p) where
  pub freed : (x xs ys : List ℕ) → x ≡ put_sector p.sat (with_bits 0 (sector p.sat img) xs) img → ys ≡ xs → x ≡ put_sat img (with_bits 0 (sat img) ys) img
  unfolding put_sat sat
  freed x xs ys e q = e ∙ rw (q, l.is_sat)

  pub freed_none : (ys : List ℕ) → ys ≡ [] → img ≡ put_sat img (with_bits 0 (sat img) ys) img
  unfolding put_sat sat with_bits put_sector sector part
  freed_none ys q =
      let s = l.is_sat in
      let a : ℕ = 256 * sat_at img in
      let n : a + 256 ≤ length img = omega (arith, l.long, l.sat_in) in
      let m : length (part a 256 img) ≡ 256 = length-part a 256 img n in
      let z : a + 256 - a ≡ 256 = omega arith in
      rw q (sym (sym (put_mid_lem a (a + 256) img (part a 256 img) (omega arith) (m ∙ sym z)) ∙ rw z (put_same a 256 img)))
