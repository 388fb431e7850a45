-- What a search answers: a place below n, or nothing.
use Rattle.std.specs.Prelude.{if◌then◌else◌, ℕ, ltb, Option, Some, None}

unfoldable pub found_of : ℕ → ℕ → Option ℕ
found_of n k = if ltb k n then Some k else None
