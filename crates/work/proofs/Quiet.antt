-- A transfer that moved nothing, as `Default` gives it.
use mathlib.Core.Path.{◌≡◌}
use Prim.Native.Nat.{ℕ}
use Rattle.work.specs.declared.Transfer.{Transfer}

none_of : (b f n : ℕ) → b ≡ 0 → f ≡ 0 → n ≡ 0
    → ◌≡◌ {A = Transfer} (record { bytes = b; from = f; count = n }) (record { bytes = 0; from = 0; count = 0 })
none_of b f n p q r = rw (p, q, r)

pub none_moved : (r : Transfer) → (r.bytes ≡ 0) × ((r.from ≡ 0) × (r.count ≡ 0)) → r ≡ record { bytes = 0; from = 0; count = 0 }
none_moved r h = none_of r.bytes r.from r.count h.0 h.1.0 h.1.1
