-- A subprogram that is seen through an instance, seen through another one.
use Rattle.std.proofs.Common.{◌≡◌, ℕ, Bool, false, List, [], ◌∷◌, map, Option, Some, None, option_map, refl, sym, ap}
use Rattle.ada_rules.specs.ada_meaning.specs.Seen.{range_seen}
use Rattle.ada_rules.specs.ada_meaning.specs.Tree.{Callee, test_get, test_put, subprogram, formal_subprogram}
use Rattle.ada_rules.specs.ada_meaning.specs.Types.{Owner, here, of_instance}
use Rattle.ada_rules.specs.Statics.{within}
use Rattle.ada_rules.specs.Types.{Identity, AdaSubtype, of_type, range_in}
use Rattle.ada_rules.specs.Entities.{Actual, Parameter, Routine, owner_seen, identity_seen, callee_seen, parameter_seen, subtype_seen, result_values_seen, routine_seen}
use Rattle.ada_rules.proofs.Seen.{owner_twice, identity_twice, range_twice, subtype_twice}
use Rattle.ada_entities.specs.Views.{actuals_of}
use Rattle.ada_entities.specs.EntityViews.{Tables, routine_by, awaiting}

module _ (inst : ℕ) (actuals : List Actual) (other : ℕ) (others : List Actual) where
  callee_twice : (c : Callee) → callee_seen other (callee_seen inst c) ≡ callee_seen inst c
  callee_twice test_get = refl
  callee_twice test_put = refl
  callee_twice (subprogram o n) = ap (λ p. subprogram p n) (owner_twice inst other o)
  callee_twice (formal_subprogram k) = refl

  mark_twice : (m : Option Identity) → option_map (identity_seen other) (option_map (identity_seen inst) m) ≡ option_map (identity_seen inst) m
  mark_twice None = refl
  mark_twice (Some i) = ap (λ j. Some j) (identity_twice inst other i)

  parameter_twice : (q : Parameter) → parameter_seen other others (parameter_seen inst actuals q) ≡ parameter_seen inst actuals q
  parameter_twice q = λ z. record {
    name = q.name;
    mode = q.mode;
    mark = mark_twice q.mark z;
    subtype = subtype_twice inst actuals other others q.subtype z;
  }

  parameters_twice : (qs : List Parameter)
      → map (parameter_seen other others) (map (parameter_seen inst actuals) qs) ≡ map (parameter_seen inst actuals) qs
  parameters_twice [] = refl
  parameters_twice (q ∷ qs) = λ z. parameter_twice q z ∷ parameters_twice qs z

  result_twice : (r : Option Parameter)
      → option_map (parameter_seen other others) (option_map (parameter_seen inst actuals) r) ≡ option_map (parameter_seen inst actuals) r
  result_twice None = refl
  result_twice (Some q) = ap (λ p. Some p) (parameter_twice q)

  range_of_seen : (t : AdaSubtype) → range_seen other (range_in (subtype_seen inst actuals t)) ≡ range_seen inst (range_in t)
  range_of_seen (of_type t r) = range_twice inst other r

  values_twice : (r : Option Parameter)
      → result_values_seen other others (option_map (parameter_seen inst actuals) r) ≡ result_values_seen inst actuals r
  values_twice None = refl
  values_twice (Some q) = ap within (range_of_seen q.subtype)

  routine_twice : (b : Bool) (r : Routine)
      → routine_seen other others (awaiting b (routine_seen inst actuals r)) ≡ awaiting false (routine_seen inst actuals r)
  routine_twice b r = λ z. record {
    callee = callee_twice r.callee z;
    parameters = parameters_twice r.parameters z;
    result = result_twice r.result z;
    values = values_twice r.result z;
    awaits_body = false;
  }

pub routine_after : (k : Tables) (n : ℕ) (b : Bool) (o : Owner) (r : Routine)
    → awaiting false (routine_by k (owner_seen n o) r) ≡ routine_seen n (actuals_of k.types n) (awaiting b (routine_by k o r))
routine_after k n b here r = refl
routine_after k n b (of_instance i) r = sym (routine_twice i (actuals_of k.types i) n (actuals_of k.types n) b r)
