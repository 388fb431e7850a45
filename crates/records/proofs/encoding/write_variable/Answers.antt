use mathlib.Core.Path.{◌≡◌, sym, ◌∙◌, refl}
use mathlib.Core.List.{[], ◌∷◌}
use Prim.Native.Nat.{ℕ, ◌%◌}
use native.Mathlib.Omega.{arith}
use lib.ListN.{take, length}
use lib.Seq.{length-take-le}
use Rattle.lists.specs.Parts.{blanks, put}
use Rattle.lists.proofs.Blanks.{take-blanks}
use Rattle.records.proofs.RecordReplaced.{length_variable}
use Rattle.records.proofs.StreamWrites.{Spread-long, variable_written}
use Rattle.records.proofs.encoding.write_variable.Goals as goal

-- one zero, or none
pad : (n : ℕ) → take (n % 2) (0 ∷ []) ≡ blanks (n % 2)
unfolding blanks
pad n = take-blanks (n % 2) 1 (omega arith)

pub write_stream-requires : goal.write_stream-requires
write_stream-requires c =
    let h : length c.put_word.new.s ≡ 2 = c.put_word.auto.s in
    (c.requires.0.mapped, c.requires.0.once, omega (arith, length_variable c.args.r.now))

pub write_stream-requires-2 : goal.write_stream-requires-2
write_stream-requires-2 c =
    ((Spread-long _ _ c.requires.0 _ c.write_stream.auto.img).mapped, c.requires.0.once, omega (arith, length_variable c.args.r.now))

pub slice_bounds-write_stream-end-2 : goal.slice_bounds-write_stream-end-2
slice_bounds-write_stream-end-2 c =
    let args = c.args in
    let n = length args.r.now % 2 in
    sym (length-take-le n (0 ∷ []) (omega arith))

pub write_stream-requires-3 : goal.write_stream-requires-3
write_stream-requires-3 c =
    let n = length c.args.r.now % 2 in (
      (Spread-long _ _ c.requires.0 _ (c.write_stream-2.auto.img
          ∙ c.write_stream.auto.img)).mapped,
      c.requires.0.once,
      omega (arith, length_variable c.args.r.now, length-take-le {A = ℕ} n (0 ∷ []) (omega arith)),
    )

pub returns : goal.returns
unfolding put
returns c =
    let a = c.args in
    let n = length a.r.now in
    variable_written a.img.now a.map.now _ _ _ a.p n _ a.r.now _ c.requires.0 refl c.requires.2
    c.put_word.ensures (pad n)
    c.write_stream.ensures
    c.write_stream-2.ensures c.write_stream-3.ensures
