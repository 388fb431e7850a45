-- Lists of rules joined: the parts that passed drop off, and a part that refused settles the whole.
use Rattle.std.specs.Prelude.{if◌then◌else◌}
use mathlib.Core.Path.{◌≡◌, refl, ap}
use mathlib.Core.Bool.{Bool, true, false}
use mathlib.Core.List.{List, [], ◌∷◌, ◌++◌}
use Rattle.work.specs.declared.Refusal.{Refusal}
use Rattle.work.specs.Refusals.{Rule, ruled}

-- a choice seen through a function; and what follows from the branch that a choice took
choice_map : {A B : Type 0} (f : A → B) (b : Bool) (x y : A) (z : B) → f y ≡ z → f (if b then x else y) ≡ (if b then f x else z)
choice_map f true x y z e = refl
choice_map f false x y z e = e

took : {A B : Type 0} (b : Bool) (x y to : B) (u v w : A) → (if b then x else y) ≡ to → (x ≡ to → u ≡ w) → (y ≡ to → v ≡ w) → (if b then u else v) ≡ w
took true x y to u v w e f g = f e
took false x y to u v w e f g = g e

refused_not : {B : Type 0} (b : Bool) (x y to : B) → (if b then x else y) ≡ to → (x ≡ to → ⊥) → (b ≡ false) × (y ≡ to)
refused_not true x y to e f = absurd (f e)
refused_not false x y to e f = (refl, e)

-- none of the rules applies
abbrev pub Passes : List Rule → Type 0
Passes [] = Unit {0}
Passes (r ∷ rs) = (r.holds ≡ false) × Passes rs

pub Passes-append : (rs qs : List Rule) → Passes (rs ++ qs) → Passes rs × Passes qs
Passes-append [] qs p = (tt, p)
Passes-append (r ∷ rs) qs p = let t = Passes-append rs qs p.1 in ((p.0, t.0), t.1)

-- seen through a function
module _ {A B : Type 0} (f : A → B) (refuse : Refusal → A) (done : A) where
  pub ruled_map : (rs : List Rule) → f (ruled rs refuse done) ≡ ruled rs (λ why. f (refuse why)) (f done)
  unfolding ruled
  ruled_map [] = refl
  ruled_map (r ∷ rs) = choice_map f r.holds (refuse r.refusal) (ruled rs refuse done) _ (ruled_map rs)

-- What an answer in two forms, refused or passed, says of the rules behind it
module _ {B : Type 0} (refuse : Refusal → B) (pass : B) where
  pub passed : ((why : Refusal) → refuse why ≡ pass → ⊥) → (rs : List Rule) → ruled rs refuse pass ≡ pass
      → {A : Type 0} (bad : Refusal → A) (qs : List Rule) (done : A) → ruled (rs ++ qs) bad done ≡ ruled qs bad done
  unfolding ruled
  passed apart [] e bad qs done = refl
  passed apart (r ∷ rs) e bad qs done =
      took r.holds (refuse r.refusal) (ruled rs refuse pass) pass _ _ _ e (λ x. absurd (apart r.refusal x)) (λ x. passed apart rs x bad qs done)

  pub stopped : ((why : Refusal) → pass ≡ refuse why → ⊥) → ((a b : Refusal) → refuse a ≡ refuse b → a ≡ b) → (rs : List Rule) (why : Refusal)
      → ruled rs refuse pass ≡ refuse why → {A : Type 0} (bad : Refusal → A) (qs : List Rule) (done : A) → ruled (rs ++ qs) bad done ≡ bad why
  unfolding ruled
  stopped apart one [] why e bad qs done = absurd (apart why e)
  stopped apart one (r ∷ rs) why e bad qs done =
      took r.holds (refuse r.refusal) (ruled rs refuse pass) (refuse why) _ _ _ e (λ x. ap bad (one r.refusal why x)) (λ x. stopped apart one rs why x bad qs done)

  pub passes : ((why : Refusal) → refuse why ≡ pass → ⊥) → (rs : List Rule) → ruled rs refuse pass ≡ pass → Passes rs
  unfolding ruled
  passes apart [] e = tt
  passes apart (r ∷ rs) e =
      let h = refused_not r.holds (refuse r.refusal) (ruled rs refuse pass) pass e (apart r.refusal) in
      (h.0, passes apart rs h.1)

  -- what is no refusal is the one that passed
  pub not_refused : (x : B) → ((why : Refusal) → refuse why ≡ x → ⊥) → (rs : List Rule) → ruled rs refuse pass ≡ x → ruled rs refuse pass ≡ pass
  unfolding ruled
  not_refused x apart [] e = refl
  not_refused x apart (r ∷ rs) e =
      took r.holds (refuse r.refusal) (ruled rs refuse pass) x _ _ _ e (λ y. absurd (apart r.refusal y)) (λ y. not_refused x apart rs y)
