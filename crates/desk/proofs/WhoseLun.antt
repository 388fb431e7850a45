-- What `mine` and `spare` say of a LUN's number, and the same by the code's tests.
use mathlib.Core.Path.{◌≡◌, refl, sym}
use mathlib.Core.Bool.{Bool, true, false, not, ◌&&◌}
use Prim.Native.Nat.{ℕ, ◌≤◌, ◌<◌}
use lib.Dec.{leb, eqb}
use borrow.Author.Tests.{ltb-true, lt-ltb, le-ltb}
use Rattle.numbers.specs.Numbers.{lun_count, last_user}
use Rattle.lists.specs.Lists.{◌and◌}
use Rattle.lists.proofs.Tests.{and_left, and_right}
use Rattle.lists.proofs.Bools.{and_of, and-false}
use Rattle.desk.specs.declared.Desk.{Desk}
use Rattle.desk.specs.Desk.{lun_at, mine, spare}

and_known : (a b : Bool) → b ≡ true → a ≡ a and b
unfolding ◌and◌
and_known true b e = sym e
and_known false b e = refl

-- what is the caller's, or free for it
module _ (d : Desk) (caller lun : ℕ) where
  pub mine_low : mine d caller lun ≡ true → lun < lun_count
  unfolding mine
  mine_low e = ltb-true lun lun_count (and_right _ _ (and_left _ _ (and_left _ _ e)))

  pub mine-held : mine d caller lun ≡ true → (lun_at d lun).held ≡ true
  unfolding mine
  mine-held e = and_right _ _ (and_left _ _ e)

  pub spare_low : spare d caller lun ≡ true → lun < lun_count
  unfolding spare
  spare_low e = ltb-true lun lun_count (and_right _ _ (and_left _ _ e))

  -- the same by the code's tests
  pub mine_high : lun_count ≤ lun → false ≡ mine d caller lun
  unfolding mine ◌and◌
  mine_high h = rw (le-ltb lun lun_count h, and-false)

  pub mine_is : lun < lun_count → (leb caller last_user && (lun_at d lun).held && eqb (lun_at d lun).user caller) ≡ mine d caller lun
  unfolding mine
  mine_is h = and_of (and_of (and_known _ _ (lt-ltb lun lun_count h)) refl) refl

  pub spare_high : lun_count ≤ lun → false ≡ spare d caller lun
  unfolding spare ◌and◌
  spare_high h = rw (le-ltb lun lun_count h, and-false)

  pub spare_is : lun < lun_count → (leb caller last_user && not (lun_at d lun).held) ≡ spare d caller lun
  unfolding spare
  spare_is h = and_of (and_known _ _ (lt-ltb lun lun_count h)) refl
