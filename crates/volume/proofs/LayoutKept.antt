-- A write that leaves the trailer alone leaves every part where it was.
use mathlib.Core.Path.{◌≡◌, ap}
use mathlib.Core.Bool.{false}
use mathlib.Core.List.{List}
use Prim.Native.Nat.{ℕ, ◌-◌, ◌/◌}
use Rattle.lists.specs.Lists.{among}
use Rattle.lists.specs.Parts.{sectors}
use Rattle.lists.proofs.Keeps.{Keeps}
use Rattle.volume.specs.Volume.{trailer, sat_at, dir_at, dirs}

-- where things are is kept where the trailer is
module _ (ws a b : List ℕ) (k : Keeps ws a b) (out : among (sectors a - 1) ws ≡ false) where
  pub keeps_sectors : sectors b ≡ sectors a
  unfolding sectors
  keeps_sectors = ap (λ (n : ℕ). n / 256) k.long

  pub keeps_trailer : trailer b ≡ trailer a
  unfolding trailer
  keeps_trailer = rw keeps_sectors (k.at (sectors a - 1) out)

  pub keeps_sat_at : sat_at b ≡ sat_at a
  unfolding sat_at
  keeps_sat_at = rw (keeps_sectors, keeps_trailer)

  pub keeps_dir_at : dir_at b ≡ dir_at a
  unfolding dir_at
  keeps_dir_at = rw (keeps_sectors, keeps_trailer)

  pub keeps_dirs : dirs b ≡ dirs a
  unfolding dirs
  keeps_dirs = rw keeps_trailer
