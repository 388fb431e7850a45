-- Parts of one of two areas: the span from a start to an end address, and the reference that is named.
use Rattle.std.specs.Prelude.{Bool, true, false, List, ℕ, ◌+◌, ◌-◌, ◌≤◌, length}
use Rattle.std.specs.Borrow.{MutBor}
use Rattle.lists.specs.Parts.{part}
use Rattle.front.specs.declared.areas.Span.{Span}
use Rattle.front.specs.Areas.{names_shared, offset, area}

abbrev pub span_of : ℕ → ℕ → Span
span_of a e = record { shared = names_shared a; from = offset a; to = offset e + 1 }

-- a span that lies inside its area, and the part that it is
pub record Within (p : Span) (task shared : List ℕ) : Type 0 where
  pub ordered : p.from ≤ p.to
  pub within : p.to ≤ length (area p.shared task shared)

abbrev pub part_of : Span → List ℕ → List ℕ
part_of p b = part p.from (p.to - p.from) b

abbrev pub chosen_of : Bool → MutBor (List ℕ) → MutBor (List ℕ) → MutBor (List ℕ)
chosen_of true task shared = shared
chosen_of false task shared = task
