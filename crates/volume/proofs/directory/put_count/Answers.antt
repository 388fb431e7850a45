use Rattle.std.proofs.Common.{◌+◌, arith, refl, sym, ap, ◌∙◌, length}
use Rattle.lists.specs.Parts.{put, bytes4}
use Rattle.lists.proofs.LentParts.{lent, length-part, wrote}
use Rattle.lists.proofs.Puts.{length-put}
use Rattle.lists.proofs.Tests.{or_first, or_second}
use Rattle.volume.specs.Code.Located.{entry_byte}
use Rattle.volume.proofs.EntryChunks.{chunk_entry, count_stays, count_put}
use Rattle.volume.proofs.directory.put_count.Goals as goal
use Rattle.volume.proofs.directory.put_count.Goals.{then-unused-via-then-unused, then-unused-via-else-unused+then-contiguous}

pub returns-then-unused : goal.returns-then-unused
returns-then-unused c =
    let x = c.args in
    let in_img = c.requires.0 in
    let is = chunk_entry _ _ _ in_img _ c.as_chunks.ensures.front in
    let stays = count_stays x.img.now (entry_byte x.p x.k) x.n in_img.inside _ is in
    elim c.then-unused.branch [
      | then-unused-via-then-unused w ↦ stays (or_first _ _ (sym c.unused.ensures ∙ w.if-unused.true))
      | then-unused-via-else-unused+then-contiguous w ↦ stays (or_second _ _ (sym w.contiguous.ensures ∙ w.if-contiguous.true))
    ]

pub returns : goal.returns
returns c =
    let x = c.args in
    let img = x.img.now in
    let in_img = c.requires.0 in
    let a = entry_byte x.p x.k in
    let is = chunk_entry _ _ _ in_img _ c.as_chunks.ensures.front in
    let long = length-part a 32 img in_img.inside in
    rw c.entry_at-at.ensures (wrote a (a + 32) img _ _ (omega arith)
    (rw c.entry_at-at.ensures at c.put_long.ensures ∙ ap (put 28 (bytes4 x.n)) (lent a (a + 32) 32 img refl ∙ sym is))
    (length-put 28 (bytes4 x.n) _ (omega (arith, ap length is, long)) ∙ omega (arith, ap length is, long)))
    ∙ count_put img a x.n in_img.inside _ is (sym c.unused.ensures ∙ c.if-unused.false) (sym c.contiguous.ensures ∙ c.if-contiguous.false)
