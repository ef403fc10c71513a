-- Conformance of parameters and results, one by one.
use Rattle.std.proofs.Common.{◌≡◌, Bool, true, false, ◌&&◌, if◌then◌else◌, List, Option, Some, None, option_map, Ok, refl, sym, ap, ◌∙◌, ℕ, ◌+◌, ◌<◌, ◌≤◌, length, drop, get_or, slice_get, is_none}
use Rattle.cov_base.specs.declared.position.Pos.{Pos}
use Rattle.ada_meaning.specs.Types.{Owner, here, of_instance}
use Rattle.ada_syntax.specs.declared.name.Identifier.{Identifier}
use Rattle.ada_rules.specs.Plan.{ruled, answer_at}
use Rattle.ada_rules.specs.Entities as rules
use Rattle.ada_rules.specs.Entities.{Region, entity_of, key}
use Rattle.ada_rules.specs.Subprograms.{Profile, same_parameter, same_parameters, conforms, conforming}
use Rattle.ada_entities.specs.declared.routines.Parameter.{Parameter}
use Rattle.ada_entities.specs.declared.routines.ResultMark.{ResultMark}
use Rattle.ada_entities.specs.declared.routines.Routine.{Routine}
use Rattle.ada_entities.specs.Answers.{Refuses, refusal, refused_at}
use Rattle.ada_entities.specs.EntityViews.{Tables, routine_by}
use Rattle.ada_entities.specs.RoutineViews.{parameter_of, result_of, routine_in}
use Rattle.ada_phrases.specs.Routines.{parameter_by}
use Rattle.specifications.specs.Profiles.{parameter_seen, parameters_of, results_of}
use Rattle.specifications.proofs.Comparing.{turn, ended, none_left}
use Rattle.specifications.proofs.Listing.{map_map}

-- parameters of a declaration as it is seen, and those of a body
module _ (k : Tables) (o : Owner) where
  abbrev pub are_same : List Parameter → List Parameter → Bool
  are_same xs ys = same_parameters (parameters_of k o xs) (parameters_of k here ys)

  abbrev pub is_same : Parameter → Parameter → Bool
  is_same x y = same_parameter (parameter_seen k o x) (parameter_seen k here y)

  module _ (xs ys : List Parameter) (i : ℕ) (x : Parameter) (h : i < length xs) (is : x ≡ get_or xs i x) where
    pub parameter_turn : (y : Parameter) → slice_get ys i ≡ Some y
        → are_same (drop i xs) (drop i ys) ≡ (is_same x y && are_same (drop (i + 1) xs) (drop (i + 1) ys))
    parameter_turn y e = turn is_same are_same (λ x xs. refl) (λ x xs y ys. refl) xs ys i x h is y e

    pub parameter_ended : slice_get ys i ≡ None → are_same (drop i xs) (drop i ys) ≡ false
    parameter_ended e = ended is_same are_same (λ x xs. refl) (λ x xs y ys. refl) xs ys i x h is e

  pub parameters_left : (xs ys : List Parameter) (i : ℕ) → length xs ≤ i → (p : Option Parameter) → slice_get ys i ≡ p
      → is_none p ≡ are_same (drop i xs) (drop i ys)
  parameters_left xs ys i h p e = none_left are_same refl (λ y ys. refl) xs ys i h p e

-- a subprogram as it is seen has its parameters and its result so
pub parameters_by : (k : Tables) (o : Owner) (r : Routine) → parameters_of k o r.parameters ≡ (routine_by k o (routine_in k r)).parameters
parameters_by k here r = refl
parameters_by k (of_instance n) r = sym (map_map (parameter_by k (of_instance n)) (parameter_of k.types) r.parameters)

results_mapped : (k : Tables) (n : ℕ) (r : Option ResultMark)
    → results_of k (of_instance n) r ≡ option_map (parameter_by k (of_instance n)) (option_map (result_of k.types) r)
results_mapped k n None = refl
results_mapped k n (Some r) = refl

pub result_by : (k : Tables) (o : Owner) (r : Routine) → results_of k o r.result ≡ (routine_by k o (routine_in k r)).result
result_by k here r = refl
result_by k (of_instance n) r = results_mapped k n r.result

-- a body in a region where this is declared
module _ (p : Pos) (region : Region) (i : Identifier) (q : Profile) (x : rules.Entity) (declared : entity_of (key i) region ≡ Some x) where
  abbrev told : Bool → Option (Unit {0})
  told b = if b then Some tt else None

  pub conforms_there : conforms q (Some x) ≡ true → (conforming p region i q).answer ≡ Ok tt
  conforms_there h = ap (λ o. answer_at p (ruled (told (conforms q o)))) declared ∙ ap (λ b. answer_at p (ruled (told b))) h

  pub refused_there : conforms q (Some x) ≡ false → Refuses (conforming p region i q).answer (refusal p)
  refused_there h =
      refused_at (ap (λ o. answer_at p (ruled (told (conforms q o)))) declared ∙ ap (λ b. answer_at p (ruled (told b))) h)
