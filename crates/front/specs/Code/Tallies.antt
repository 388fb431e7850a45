-- The sectors that an answer says were moved by a compaction: a word holds them.
use Rattle.std.specs.Prelude.{ℕ}
use Rattle.desk.specs.Answers.{Answer}
use Rattle.std.specs.Prelude.{Ok, Err}
use Rattle.desk.specs.declared.Report.TheVariants.{Moved, Checked, Compacted}

abbrev pub tallied : Answer → ℕ
tallied (Ok (Moved n)) = 0
tallied (Ok (Checked s f)) = 0
tallied (Ok (Compacted n why)) = n
tallied (Err why) = 0
