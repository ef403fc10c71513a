-- What an instance has, by its number.
use Rattle.std.proofs.Common.{◌≡◌, ℕ, zero, suc, List, map, option_map, refl, sym}
use Rattle.std.proofs.lemmas.Option.{slice_get-map}
use Rattle.ada_demands.specs.declared.facts.Facts.{Facts}
use Rattle.ada_demands.specs.FactViews.{facts_of, facts_at, facts_in}

pub seen_at : (xs : List Facts) (n : ℕ) → option_map facts_of (facts_at xs n) ≡ facts_in (map facts_of xs) n
seen_at xs zero = refl
seen_at xs (suc n) = sym (slice_get-map facts_of xs n)
