-- The binary digits of a number: what sums, shifts, the complement and `&` make of them.
use mathlib.Core.Path.{◌≡◌, sym, ap, ◌∙◌}
use Prim.Native.Nat.{ℕ, suc, ◌+◌, ◌-◌, ◌*◌, ◌/◌, ◌%◌, ◌^◌, ◌≤◌, ◌<◌}
use native.Mathlib.Nat.{div-eq_of_lt, div-eq_of_lt-le, add-mul, mul_assoc, mul-mod_left, mod-lt, pow-suc}
use native.Mathlib.Omega.{arith}
use lib.Bits.{bit_and, and_shr, and_mod}
use lib.Pow.{pow_pos, pow-add, shl-shr, shr-shr, high, low, field, mod-mod-pow, ones_split, split, shr_lt}

-- digit m from the low end
unfoldable pub digit : ℕ → ℕ → ℕ
digit x m = x / 2 ^ m % 2

pub digit-lt : (x m : ℕ) → digit x m < 2
unfolding digit
digit-lt x m = mod-lt (x / 2 ^ m) (omega arith)

-- a number below 2 ^ m has no digit there, and one from 2 ^ m on has its highest there if it is below the next power
pub digit_none : (x m : ℕ) → x < 2 ^ m → digit x m ≡ 0
unfolding digit
digit_none x m h = rw (div-eq_of_lt h)

pub digit_top : (x m : ℕ) → 2 ^ m ≤ x → x < 2 ^ suc m → digit x m ≡ 1
unfolding digit
digit_top x m l h =
    let p : 2 ^ suc m ≡ 2 ^ m * 2 = pow-suc 2 m in
    let q : x / 2 ^ m ≡ 1 = div-eq_of_lt-le {k = 1} (2 ^ m) (omega arith) (omega arith) in
    rw q

-- only the digits below w are left of a remainder by 2 ^ w
pub digit-mod : (x w m : ℕ) → m < w → digit (x % 2 ^ w) m ≡ digit x m
unfolding digit
digit-mod x w m h =
    let a : w ≡ w - m + m = omega arith in
    let b : w - m ≡ w - m - 1 + 1 = omega arith in
    ap (λ (k : ℕ). x % 2 ^ k / 2 ^ m % 2) a ∙ ap (λ (y : ℕ). y % 2) (field x (w - m) m)
    ∙ ap (λ (k : ℕ). x / 2 ^ m % 2 ^ k % 2) b ∙ mod-mod-pow (x / 2 ^ m) (w - m - 1) 1

-- a shift up
pub digit_up : (x s m : ℕ) → digit (x * 2 ^ s) (s + m) ≡ digit x m
unfolding digit
digit_up x s m = ap (λ (y : ℕ). y % 2) (sym (shr-shr (x * 2 ^ s) s m) ∙ ap (λ (y : ℕ). y / 2 ^ m) (shl-shr x s))

pub digit_under : (x s m : ℕ) → m < s → digit (x * 2 ^ s) m ≡ 0
unfolding digit
digit_under x s m h =
    let a : s ≡ s - m - 1 + 1 + m = omega arith in
    let e : x * 2 ^ s ≡ x * 2 ^ (s - m - 1) * 2 * 2 ^ m =
    ap (λ (k : ℕ). x * 2 ^ k) a ∙ ap (λ (y : ℕ). x * y) (pow-add 2 (s - m - 1 + 1) m ∙ ap (λ (y : ℕ). y * 2 ^ m) (pow-add 2 (s - m - 1) 1))
    ∙ sym (mul_assoc x (2 ^ (s - m - 1) * 2) (2 ^ m)) ∙ ap (λ (y : ℕ). y * 2 ^ m) (sym (mul_assoc x (2 ^ (s - m - 1)) 2)) in
    ap (λ (y : ℕ). y / 2 ^ m % 2) e ∙ ap (λ (y : ℕ). y % 2) (shl-shr (x * 2 ^ (s - m - 1) * 2) m) ∙ mul-mod_left (x * 2 ^ (s - m - 1)) 2

-- a shift down
pub digit_down : (x s m : ℕ) → digit (x / 2 ^ s) m ≡ digit x (s + m)
unfolding digit
digit_down x s m = ap (λ (y : ℕ). y % 2) (shr-shr x s m)

-- a number and one of v digits below it
pub digit_high : (x v y m : ℕ) → y < 2 ^ v → digit (x * 2 ^ v + y) (v + m) ≡ digit x m
unfolding digit
digit_high x v y m h = ap (λ (z : ℕ). z % 2) (sym (shr-shr (x * 2 ^ v + y) v m) ∙ ap (λ (z : ℕ). z / 2 ^ m) (high x v h))

pub digit_low : (x v y m : ℕ) → y < 2 ^ v → m < v → digit (x * 2 ^ v + y) m ≡ digit y m
digit_low x v y m h g = sym (digit-mod (x * 2 ^ v + y) v m g) ∙ ap (λ (z : ℕ). digit z m) (low x v h)

-- the complement in w digits
apart : (a b c r : ℕ) → r < c → a + b + (c - 1) - (a + r) ≡ b + (c - 1 - r)
apart a b c r h = omega arith

odd : (q d c : ℕ) → q + d + 1 ≡ c * 2 → d % 2 ≡ 1 - q % 2
odd q d c h = omega arith

pub digit_not : (x w m : ℕ) → x < 2 ^ w → m < w → digit ((2 ^ w - 1) - x) m ≡ 1 - digit x m
unfolding digit
digit_not x w m h g =
    let a : w ≡ w - m + m = omega arith in
    let b : w - m ≡ suc (w - m - 1) = omega arith in
    let q = x / 2 ^ m in
    let r = x % 2 ^ m in
    let lr : r < 2 ^ m = mod-lt x (pow_pos m) in
    let lq : q < 2 ^ (w - m) = shr_lt (w - m) m (rw (← a) h) in
    let d = 2 ^ (w - m) - 1 - q in
    let p : 2 ^ (w - m) ≡ 2 ^ (w - m - 1) * 2 = ap (λ (k : ℕ). 2 ^ k) b ∙ pow-suc 2 (w - m - 1) in
    let qd : 2 ^ (w - m) - 1 ≡ q + d = omega arith in
    let whole : 2 ^ w - 1 ≡ q * 2 ^ m + d * 2 ^ m + (2 ^ m - 1) =
    ap (λ (k : ℕ). 2 ^ k - 1) a ∙ ones_split (w - m) m ∙ ap (λ (y : ℕ). y * 2 ^ m + (2 ^ m - 1)) qd
    ∙ ap (λ (y : ℕ). y + (2 ^ m - 1)) (add-mul q d (2 ^ m)) in
    let e : (2 ^ w - 1) - x ≡ d * 2 ^ m + (2 ^ m - 1 - r) =
    ap (λ (y : ℕ). y - x) whole ∙ ap (λ (y : ℕ). q * 2 ^ m + d * 2 ^ m + (2 ^ m - 1) - y) (sym (split x m))
    ∙ apart (q * 2 ^ m) (d * 2 ^ m) (2 ^ m) r lr in
    ap (λ (y : ℕ). y / 2 ^ m % 2) e ∙ ap (λ (y : ℕ). y % 2) (high d m (omega arith)) ∙ odd q d (2 ^ (w - m - 1)) (omega arith)

-- `&`
pub digit_and : (x y m : ℕ) → digit (bit_and x y) m ≡ bit_and (digit x m) (digit y m)
unfolding digit
digit_and x y m = ap (λ (z : ℕ). z % 2) (and_shr x y m) ∙ and_mod (x / 2 ^ m) (y / 2 ^ m) 1
