use mathlib.Core.Path.{◌∙◌}
use Rattle.files.specs.Code.Opens.{stored_at, stream_at}
use Rattle.files.specs.Code.Verdict.{stream_count}
use Rattle.files.proofs.map.OpenBlock.{opened_whole}
use Rattle.files.proofs.check.stream_count.Goals as goal

pub content_count-requires : goal.content_count-requires
content_count-requires c =
    let o = c.requires in
    rw (c.map_of-map.ensures, c.stream_end.ensures.0) (opened_whole _ _ o)

pub returns : goal.returns
unfolding stream_count stored_at stream_at
returns c = c.content_count.ensures ∙ rw (c.map_of-map.ensures, c.stream_end.ensures.0)
