-- What becomes of a sector: its bit in the SAT.
use Rattle.std.specs.Prelude.{ℕ}
use Rattle.volume.specs.declared.sat.Mark.{Mark}
use Rattle.volume.specs.declared.sat.Mark.TheVariants.{Free, Used}

abbrev pub bit_of : Mark → ℕ
bit_of Free = 0
bit_of Used = 1
