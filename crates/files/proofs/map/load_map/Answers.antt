use native.Mathlib.Omega.{arith}
use Rattle.files.proofs.map.OpenBlock.{load_asks}
use Rattle.files.proofs.map.load_map.Goals as goal

pub fill_map-requires : goal.fill_map-requires
fill_map-requires c =
    let pre = c.requires in
    let g = load_asks _ _ pre.0 _ c.sector_of.ensures in
    (g.0, g.1, omega (arith, g.2))
