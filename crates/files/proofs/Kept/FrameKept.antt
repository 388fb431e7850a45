-- An image that keeps sector 0 and the trailer keeps where the volume has its parts, and point 1 of soundness.
use mathlib.Core.Path.{◌≡◌, ap, sym, ◌∙◌}
use mathlib.Core.Bool.{true, false}
use mathlib.Core.List.{List}
use Prim.Native.Nat.{ℕ, ◌-◌}
use native.Mathlib.Omega.{arith}
use lib.ListN.{take}
use lib.Seq.{take-take}
use Rattle.lists.specs.Lists.{among}
use Rattle.lists.specs.Parts.{sectors, part, sector}
use Rattle.lists.proofs.Keeps.{Keeps}
use Rattle.volume.specs.Volume.{system, layout_of, sound1}
use Rattle.volume.proofs.LayoutKept.{keeps_sectors, keeps_trailer, keeps_sat_at, keeps_dir_at, keeps_dirs}

module _ (ws v v' : List ℕ) (keeps : Keeps ws v v') (vid-out : among 0 ws ≡ false) (last_out : among (sectors v - 1) ws ≡ false) where
  pub frame_system : system v' ≡ system v
  unfolding system layout_of
  frame_system =
      rw (keeps_sectors ws v v' keeps last_out, keeps_sat_at ws v v' keeps last_out, keeps_dir_at ws v v' keeps last_out, keeps_dirs ws v v' keeps last_out)

  vid_kept : take 4 v' ≡ take 4 v
  unfolding sector part
  vid_kept = sym (take-take 4 256 v' (omega arith)) ∙ ap (take 4) (keeps.at 0 vid-out) ∙ take-take 4 256 v (omega arith)

  pub frame_1 : sound1 v ≡ true → sound1 v' ≡ true
  unfolding sound1
  frame_1 h =
      rw (
        keeps.long,
        keeps_sectors ws v v' keeps last_out,
        keeps_trailer ws v v' keeps last_out,
        keeps_dirs ws v v' keeps last_out,
        keeps_dir_at ws v v' keeps last_out,
        vid_kept,
      ) h
