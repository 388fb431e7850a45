-- An entry of a descriptor and numbers that fit is bytes.
use mathlib.Core.List.{[], List, ◌∷◌, ◌++◌}
use Prim.Native.Nat.{ℕ, ◌<◌}
use native.Mathlib.Omega.{arith}
use Rattle.lists.specs.Parts.{bytes2}
use Rattle.lists.proofs.AreBytes.{Bytes}
use Rattle.lists.proofs.ByteLists.{Bytes-nil, Bytes-cons, Bytes-append, Bytes-bytes2}
use Rattle.volume.specs.Directory.{entry, Fields}

pub Bytes-entry : (f : Fields) → f.kind < 256 → Bytes f.described → f.read_code < 256 → f.record_length < 65536 → f.start < 65536 → f.size < 65536 → Bytes (entry f)
unfolding entry
Bytes-entry f hk hd hc hl hs hn =
    let k : ℕ = f.kind in
    let d : List ℕ = f.described in
    let rc : ℕ = f.read_code in
    let l : ℕ = f.record_length in
    let s : ℕ = f.start in
    let n : ℕ = f.size in
    let end : List ℕ = 0 ∷ 0 ∷ [] in
    let be : Bytes end = Bytes-cons 0 (0 ∷ []) (omega arith) (Bytes-cons 0 [] (omega arith) Bytes-nil) in
    let bn : Bytes (bytes2 n ++ end) = Bytes-append (bytes2 n) end (Bytes-bytes2 n hn) be in
    let bs : Bytes (bytes2 s ++ (bytes2 n ++ end)) = Bytes-append (bytes2 s) (bytes2 n ++ end) (Bytes-bytes2 s hs) bn in
    let bl : Bytes (bytes2 l ++ (bytes2 s ++ (bytes2 n ++ end))) = Bytes-append (bytes2 l) (bytes2 s ++ (bytes2 n ++ end)) (Bytes-bytes2 l hl) bs in
    let most : List ℕ = bytes2 l ++ (bytes2 s ++ (bytes2 n ++ end)) in
    let rest : List ℕ = 0 ∷ rc ∷ most in
    let br : Bytes rest = Bytes-cons 0 (rc ∷ most) (omega arith) (Bytes-cons rc most hc bl) in
    let bd : Bytes (d ++ rest) = Bytes-append d rest hd br in
    Bytes-append (1 ∷ k ∷ []) (d ++ rest) (Bytes-cons 1 (k ∷ []) (omega arith) (Bytes-cons k [] hk Bytes-nil)) bd
