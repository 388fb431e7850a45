-- What steps up to a quota come to, whatever a step does: by which rule they ended, how many they were, and that two quotas are as good as
-- their sum.
use mathlib.Core.Path.{◌≡◌, refl, sym, ap, ◌∙◌}
use mathlib.Core.Bool.{Bool, true, false}
use mathlib.Core.List.{List}
use Prim.Native.Nat.{ℕ, zero, suc, ◌+◌, ◌<◌, ◌≤◌}
use native.Mathlib.Numerals.{add-one}
use native.Mathlib.Omega.{arith}
use Rattle.compaction.specs.Compaction.{Closing, closing, closed_up, overfull, stepped, after_one, compacted}
use Rattle.compaction.specs.Steps.{steps_of}
use Rattle.compaction.specs.Code.Going.{after_many}
use Rattle.compaction.specs.declared.Ending.TheVariants.{Settled, QuotaUsed, SegmentNeeded}

-- the four cases
pub compacted_again : (n : ℕ) (v : List ℕ) → closed_up v ≡ true → compacted n v ≡ closing 0 Settled v
unfolding compacted
compacted_again zero v h = rw h
compacted_again (suc n) v h = rw (compacted, h)

module _ (v : List ℕ) (h : closed_up v ≡ false) where
  pub compacted_none : compacted 0 v ≡ closing 0 QuotaUsed v
  unfolding compacted
  compacted_none = rw h

  pub compacted_stuck : (n : ℕ) → 0 < n → overfull v ≡ true → compacted n v ≡ closing 0 SegmentNeeded v
  unfolding compacted
  compacted_stuck zero l o = absurd (omega arith)
  compacted_stuck (suc n) l o = rw (compacted, h, o)

  pub compacted_step : (n : ℕ) → overfull v ≡ false → compacted (suc n) v ≡ after_one (compacted n (stepped v))
  unfolding compacted
  compacted_step n o = rw (compacted, h, o)

-- what holds in each of them holds of every compaction
module _
    (P : ℕ → List ℕ → Closing → Type 0)
    (settled : (n : ℕ) (v : List ℕ) → closed_up v ≡ true → P n v (closing 0 Settled v))
    (used : (v : List ℕ) → closed_up v ≡ false → P 0 v (closing 0 QuotaUsed v))
    (stuck : (n : ℕ) (v : List ℕ) → closed_up v ≡ false → overfull v ≡ true → P (suc n) v (closing 0 SegmentNeeded v))
    (more : (n : ℕ) (v : List ℕ) (c : Closing) → closed_up v ≡ false → overfull v ≡ false → P n (stepped v) c → P (suc n) v (after_one c)) where
  pub compacted_by : (n : ℕ) (v : List ℕ) → P n v (compacted n v)
  compacted_by zero v = by (closed_up v) refl
    where
      by : (b : Bool) → closed_up v ≡ b → P 0 v (compacted 0 v)
      by true h = rw (compacted_again 0 v h) (settled 0 v h)
      by false h = rw (compacted_none v h) (used v h)
  compacted_by (suc n) v = by (closed_up v) (overfull v) refl refl (compacted_by n (stepped v))
    where
      by : (b o : Bool) → closed_up v ≡ b → overfull v ≡ o → P n (stepped v) (compacted n (stepped v)) → P (suc n) v (compacted (suc n) v)
      by true o h f r = rw (compacted_again (suc n) v h) (settled (suc n) v h)
      by false true h f r = rw (compacted_stuck v h (suc n) (omega arith) f) (stuck n v h f)
      by false false h f r = rw (compacted_step v h n f) (more n v (compacted n (stepped v)) h f r)

pub compacted_most : (n : ℕ) (v : List ℕ) → (compacted n v).moved ≤ n
unfolding after_one
compacted_most =
    compacted_by (λ n v c. c.moved ≤ n) (λ n v h. omega arith) (λ v h. omega arith) (λ n v h o. omega arith)
    (λ n v c h o r. omega arith)

-- why it ended
pub compacted-settled : (n : ℕ) (v : List ℕ) → (compacted n v).ending ≡ Settled → closed_up (compacted n v).image ≡ true
unfolding after_one
compacted-settled =
    compacted_by (λ n v c. c.ending ≡ Settled → closed_up c.image ≡ true) (λ n v h e. h)
    (λ v h e. absurd (let z : ◌≡◌ {A = ℕ} 0 1 = cc in omega arith)) (λ n v h o e. absurd (let z : ◌≡◌ {A = ℕ} 0 1 = cc in omega arith))
    (λ n v c h o r e. r e)

pub compacted_quota : (n : ℕ) (v : List ℕ) → (compacted n v).ending ≡ QuotaUsed → ((compacted n v).moved ≡ n) × (closed_up (compacted n v).image ≡ false)
unfolding after_one
compacted_quota =
    compacted_by (λ n v c. c.ending ≡ QuotaUsed → (c.moved ≡ n) × (closed_up c.image ≡ false))
    (λ n v h e. absurd (let z : ◌≡◌ {A = ℕ} 0 1 = cc in omega arith)) (λ v h e. (refl, h))
    (λ n v h o e. absurd (let z : ◌≡◌ {A = ℕ} 0 1 = cc in omega arith)) (λ n v c h o r e. (omega (arith, (r e).0), (r e).1))

pub compacted_segment : (n : ℕ) (v : List ℕ) → (compacted n v).ending ≡ SegmentNeeded
    → ((compacted n v).moved < n) × (closed_up (compacted n v).image ≡ false) × (overfull (compacted n v).image ≡ true)
unfolding after_one
compacted_segment =
    compacted_by (λ n v c. c.ending ≡ SegmentNeeded → (c.moved < n) × (closed_up c.image ≡ false) × (overfull c.image ≡ true))
    (λ n v h e. absurd (let z : ◌≡◌ {A = ℕ} 0 1 = cc in omega arith)) (λ v h e. absurd (let z : ◌≡◌ {A = ℕ} 0 1 = cc in omega arith))
    (λ n v h o e. (omega arith, h, o)) (λ n v c h o r e. (omega (arith, (r e).0), (r e).1, (r e).2))

-- its image is that of its steps
pub compacted_steps : (n : ℕ) (v : List ℕ) → (compacted n v).image ≡ steps_of (compacted n v).moved v
unfolding after_one steps_of
compacted_steps =
    compacted_by (λ n v c. c.image ≡ steps_of c.moved v) (λ n v h. refl) (λ v h. refl) (λ n v h o. refl)
    (λ n v c h o r. rw (add-one, steps_of) r)

-- one quota after another; the second is not 0, at which the segments are not named
pub after_none : (c : Closing) → after_many 0 c ≡ c
unfolding after_many
after_none c = let z : c.moved + 0 ≡ c.moved = omega arith in rw z

pub after_more : (m : ℕ) (c : Closing) → after_many m (after_one c) ≡ after_many (m + 1) c
unfolding after_many after_one
after_more m c = let z : c.moved + 1 + m ≡ c.moved + (m + 1) = omega arith in rw z

one_more : (m : ℕ) (c : Closing) → after_one (after_many m c) ≡ after_many (m + 1) c
unfolding after_many after_one
one_more m c = let z : c.moved + m + 1 ≡ c.moved + (m + 1) = omega arith in rw z

pub compacted-add : (m : ℕ) (v : List ℕ) (n : ℕ) → 0 < n → compacted (m + n) v ≡ after_many (compacted m v).moved (compacted n (compacted m v).image)
unfolding after_one
compacted-add =
    compacted_by (λ m v c. (n : ℕ) → 0 < n → compacted (m + n) v ≡ after_many c.moved (compacted n c.image))
    (λ m v h n l. compacted_again (m + n) v h ∙ sym (after_none _ ∙ compacted_again n v h))
    (λ v h n l. let z : 0 + n ≡ n = omega arith in ap (λ (k : ℕ). compacted k v) z ∙ sym (after_none _))
    (λ m v h o n l. compacted_stuck v h (suc m + n) (omega arith) o ∙ sym (after_none _ ∙ compacted_stuck v h n l o))
    (λ m v c h o r n l.
    let z : suc m + n ≡ suc (m + n) = omega arith in
    ap (λ (k : ℕ). compacted k v) z ∙ compacted_step v h (m + n) o ∙ ap after_one (r n l) ∙ one_more c.moved (compacted n c.image))
