use mathlib.Core.Path.{◌∙◌}
use Rattle.files.specs.Code.Opens.{stream_at}
use Rattle.files.proofs.extent.find_stream.Goals as goal

pub find-requires : goal.find-requires
unfolding stream_at
find-requires c =
    let o = c.requires.0 in
    rw (c.map_of-map.ensures, c.stream_end.ensures.0) (o.ends, c.requires.1, c.requires.2)

pub returns : goal.returns
unfolding stream_at
returns c = c.find.ensures ∙ rw (c.map_of-map.ensures, c.stream_end.ensures.0)
