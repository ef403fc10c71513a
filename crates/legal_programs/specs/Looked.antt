-- In which instances the text of a generic, or of none, is looked at.
use Rattle.std.specs.Prelude.{◌≡◌, ℕ, List, Option}
use Rattle.cov_base.specs.Lists.{Somewhere}
use Rattle.ada_rules.specs.Statics.{Asked, Facts, places_of}
use Rattle.legal_laws.specs.Demanded.{IsLookedIn}

-- its demands are asked in this instance, and its words are counted there
pub record IsLookedAt (facts : List Facts) (found : List Asked) (generic : Option ℕ) (inst : ℕ) : Type 0 where
  pub asked : IsLookedIn generic inst found
  pub counted : Somewhere (λ j. j ≡ inst) (places_of facts generic)
