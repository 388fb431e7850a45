use mathlib.Core.Path.{ap, ◌∙◌}
use native.Mathlib.Omega.{arith}
use lib.ListN.{length}
use Rattle.lists.proofs.LentParts.{length-sector}
use Rattle.files.proofs.map.stream_end.Goals as goal

pub stream_length-requires : goal.stream_length-requires
stream_length-requires c =
    let a = c.args in
    omega (arith, ap length c.sector_of.ensures ∙ length-sector a.s a.img.now c.requires)
