-- Texts, and the bytes that stand for them when runs of spaces are packed. Defines RULES, Texts.
use Rattle.std.specs.Prelude.{if◌then◌else◌, Bool, List, [], ◌∷◌, ◌++◌, ℕ, ◌+◌, ◌-◌, eqb, ltb, replicate}
use Rattle.lists.specs.Lists.{all}

-- RULES, Texts: a space is $20; a byte from $80 on stands for spaces, at most 127 of them
abbrev pub space : ℕ
space = 0x20

abbrev pub mark : ℕ
mark = 0x80

abbrev pub most_spaces : ℕ
most_spaces = 127

-- RULES, Texts: a text is bytes below $80
unfoldable pub is_text : List ℕ → Bool
is_text t = all (λ b. ltb b mark) t

-- RULES, Texts: what a stored byte stands for: a byte below $80 for itself, $80 + n for n spaces
unfoldable pub shown : ℕ → List ℕ
shown b = if ltb b mark then b ∷ [] else replicate (b - mark) space

unfoldable pub unpacked : List ℕ → List ℕ
unpacked [] = []
unpacked (b ∷ s) = shown b ++ unpacked s

-- RULES, Texts: a rest of a run: of 2 to 127 spaces one byte, of 1 the space itself, of none nothing
unfoldable pub rest : ℕ → List ℕ
rest k = if eqb k 0 then [] else (if eqb k 1 then space ∷ [] else (mark + k) ∷ [])

-- RULES, Texts: k spaces of a run are held back, and the byte b comes. What goes out: $FF, if 127 are held and b is one more; nothing
-- for another space; else the rest of the run, and b. And how many are held back then
unfoldable pub goes_out : ℕ → ℕ → List ℕ
goes_out k b = if eqb b space then (if eqb k most_spaces then (mark + most_spaces) ∷ [] else []) else rest k ++ (b ∷ [])

unfoldable pub held_after : ℕ → ℕ → ℕ
held_after k b = if eqb b space then (if eqb k most_spaces then 1 else k + 1) else 0

unfoldable pub packed_from : ℕ → List ℕ → List ℕ
packed_from k [] = rest k
packed_from k (b ∷ t) = goes_out k b ++ packed_from (held_after k b) t

unfoldable pub packed : List ℕ → List ℕ
packed t = packed_from 0 t

unfoldable pub packing_open : Unit {0}
unfolding is_text shown unpacked rest goes_out held_after packed_from packed
packing_open = tt
