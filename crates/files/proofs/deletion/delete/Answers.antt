use mathlib.Core.Path.{◌∙◌}
use Rattle.volume.specs.Directory.{put_entry}
use Rattle.files.specs.Changes.{deleted}
use Rattle.files.proofs.deletion.delete.Goals as goal

pub returns : goal.returns
unfolding deleted put_entry
returns c = c.clear_entry.ensures ∙ rw (c.free_owned.ensures, c.requires.0.is_dir)
