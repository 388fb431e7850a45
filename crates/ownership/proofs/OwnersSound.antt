-- Point 5 of soundness, by the marks that the owners leave.
use mathlib.Core.Path.{◌≡◌, ◌∙◌, sym, ap, refl}
use mathlib.Core.List.{List, ◌++◌}
use mathlib.Core.Bool.{Bool, true, false}
use Prim.Native.Nat.{ℕ}
use lib.ListN.{replicate}
use Rattle.lists.specs.Lists.{range, ◌and◌, flat, distinct, same}
use Rattle.volume.specs.Volume.{sat, system_of, system}
use Rattle.volume.proofs.Located.{Layout-is}
use Rattle.volume.specs.Directory.{entries}
use Rattle.volume.specs.Sat.{with_bits, sat_of}
use Rattle.volume.specs.Code.Located.{Located}
use Rattle.volume.specs.declared.locate.Layout.{Layout}
use Rattle.ownership.specs.Code.Claims.{fresh, Claims}
use Rattle.ownership.specs.Blocks.{sound3}
use Rattle.ownership.specs.Owners.{owned, all_owned, sound5}
use Rattle.ownership.proofs.ClaimMeaning.{within, claim-fresh, table_fresh}
use Rattle.ownership.proofs.BlockFacts.{all_owned-within}

-- the table to start from: all ones, with the first t freed
pub fresh_made : (t : ℕ) (m b : List ℕ) → m ≡ replicate 256 255 → b ≡ with_bits 0 m (range 0 t) → b ≡ fresh t
unfolding fresh
fresh_made t m b e q = q ∙ ap (λ (x : List ℕ). with_bits 0 x (range 0 t)) e

module _ (img : List ℕ) (p : Layout) (l : Located img p) (h : sound3 img ≡ true) where
  owned_within : within p.t (all_owned img) ≡ true
  owned_within = rw l.is_t (all_owned-within img p l h)

  -- no sector twice, and the table that was left is the SAT
  pub owned_once : (r : Bool) (m : List ℕ) → Claims (all_owned img) (fresh p.t) true m → r ≡ same (sat img) m → r ≡ sound5 img
  unfolding sound5 ◌and◌
  owned_once r m c e =
      let d : distinct (all_owned img) ≡ true = sym (c.answer ∙ claim-fresh p.t l.high (all_owned img) owned_within) in
      let g : m ≡ sat_of p.t (all_owned img) = c.marks refl ∙ table_fresh p.t l.high (all_owned img) owned_within in
      rw (d, ← l.is_t) (e ∙ ap (same (sat img)) g)

  pub owned_twice : (m : List ℕ) → Claims (all_owned img) (fresh p.t) false m → false ≡ sound5 img
  unfolding sound5 ◌and◌
  owned_twice m c =
      let d : distinct (all_owned img) ≡ false = sym (c.answer ∙ claim-fresh p.t l.high (all_owned img) owned_within) in
      rw d

  -- all that is owned, with the places that the code has
  pub all_owned_lem : all_owned img ≡ system_of p ++ flat (owned img) (entries img)
  unfolding all_owned system
  all_owned_lem = rw (Layout-is img p l)
