-- Where point 1 holds, each subtraction stays above zero.
use mathlib.Core.Path.{◌≡◌, ap, ◌∙◌}
use mathlib.Core.List.{List}
use Prim.Native.Nat.{ℕ}
use native.Mathlib.Omega.{arith}
use lib.ListN.{length}
use Rattle.lists.specs.Parts.{sectors, word}
use Rattle.lists.proofs.LentParts.{length-sector}
use Rattle.volume.specs.Volume.{trailer, sat_at, dir_at, dirs, layout_of}
use Rattle.volume.proofs.Located.{Sound1-facts}
use Rattle.volume.proofs.locate.read_places.Goals as goal

pub overflow_sub-t : goal.overflow_sub-t
unfolding sectors
overflow_sub-t c =
    let img = c.args.img.now in
    let f = Sound1-facts img c.requires in
    omega arith

pub sector_of-tr-requires : goal.sector_of-tr-requires
unfolding sectors
sector_of-tr-requires c =
    let img = c.args.img.now in
    let f = Sound1-facts img c.requires in
    omega arith

pub overflow_sub-sat : goal.overflow_sub-sat
unfolding sectors
overflow_sub-sat c =
    let img = c.args.img.now in
    let f = Sound1-facts img c.requires in
    omega arith

pub sat_back-requires : goal.sat_back-requires
unfolding sectors
sat_back-requires c =
    let img = c.args.img.now in
    let f = Sound1-facts img c.requires in
    let l : length c.sector_of-tr.result.now ≡ 256 = ap length c.sector_of-tr.ensures ∙ length-sector _ img (omega arith) in
    omega arith

pub overflow_sub-sat-2 : goal.overflow_sub-sat-2
unfolding sectors trailer
overflow_sub-sat-2 c =
    let img = c.args.img.now in
    let f = Sound1-facts img c.requires in
    let w : c.sat_back.result ≡ word (trailer img) 2 = c.sat_back.ensures.0 ∙ ap (λ (l : List ℕ). word l 2) c.sector_of-tr.ensures in
    omega arith

pub overflow_sub-dir : goal.overflow_sub-dir
unfolding sectors
overflow_sub-dir c =
    let img = c.args.img.now in
    let f = Sound1-facts img c.requires in
    omega arith

pub dir_back-requires : goal.dir_back-requires
unfolding sectors
dir_back-requires c =
    let img = c.args.img.now in
    let f = Sound1-facts img c.requires in
    let l : length c.sector_of-tr.result.now ≡ 256 = ap length c.sector_of-tr.ensures ∙ length-sector _ img (omega arith) in
    omega arith

pub overflow_sub-dir-2 : goal.overflow_sub-dir-2
unfolding sectors trailer
overflow_sub-dir-2 c =
    let img = c.args.img.now in
    let f = Sound1-facts img c.requires in
    let w2 : c.dir_back.result ≡ word (trailer img) 4 = c.dir_back.ensures.0 ∙ ap (λ (l : List ℕ). word l 4) c.sector_of-tr.ensures in
    omega arith

pub dir_count-dirs-requires : goal.dir_count-dirs-requires
unfolding sectors
dir_count-dirs-requires c =
    let img = c.args.img.now in
    let f = Sound1-facts img c.requires in
    let l : length c.sector_of-tr.result.now ≡ 256 = ap length c.sector_of-tr.ensures ∙ length-sector _ img (omega arith) in
    omega arith

pub returns : goal.returns
unfolding layout_of sectors trailer sat_at dir_at dirs
returns c =
    let img = c.args.img.now in
    let f = Sound1-facts img c.requires in
    let w : c.sat_back.result ≡ word (trailer img) 2 = c.sat_back.ensures.0
    ∙ ap (λ (l : List ℕ). word l 2) c.sector_of-tr.ensures in
    let w2 : c.dir_back.result ≡ word (trailer img) 4 = c.dir_back.ensures.0 ∙ ap (λ (l : List ℕ). word l 4) c.sector_of-tr.ensures in
    let w3 : c.dir_count-dirs.result ≡ word (trailer img) 6 = c.dir_count-dirs.ensures.0 ∙ ap (λ (l : List ℕ). word l 6) c.sector_of-tr.ensures in
    rw (w, w2, w3)
