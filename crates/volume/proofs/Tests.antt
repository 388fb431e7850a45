-- A row of tests, each tried where those before it passed (`and`) or failed (`or`).
use Rattle.std.proofs.Common.{◌≡◌, Bool, true, false, sym, ◌∙◌}
use Rattle.lists.specs.Lists.{◌and◌, ◌or◌}

module _ {v u s x t : Bool} where
  pub met : u ≡ true → u ≡ s → v ≡ x → x ≡ t → v ≡ s and t
  unfolding ◌and◌
  met h e q r = q ∙ r ∙ rw (sym e ∙ h)

  pub or_unmet : u ≡ false → u ≡ s → v ≡ x → x ≡ t → v ≡ s or t
  unfolding ◌or◌
  or_unmet h e q r = q ∙ r ∙ rw (sym e ∙ h)

module _ {v u s : Bool} (t : Bool) where
  pub unmet : u ≡ false → u ≡ s → v ≡ u → v ≡ s and t
  unfolding ◌and◌
  unmet h e q = q ∙ h ∙ rw (sym e ∙ h)

  pub or_met : u ≡ true → u ≡ s → v ≡ u → v ≡ s or t
  unfolding ◌or◌
  or_met h e q = q ∙ h ∙ rw (sym e ∙ h)
