-- Subprograms for formal ones, parameter by parameter.
use Rattle.std.proofs.Common.{◌≡◌, ℕ, ◌+◌, ◌<◌, ◌≤◌, Bool, true, false, ◌&&◌, if◌then◌else◌, List, map, length, drop, get_or, slice_get, Option, Some, None, option_map, is_none, refl, sym, ap, ◌∙◌}
use Rattle.ada_meaning.specs.Types.{Owner, here, of_instance}
use Rattle.ada_tree.specs.Programs.{mode_of}
use Rattle.ada_rules.specs.Types as types
use Rattle.ada_rules.specs.Types.{AdaType, AdaSubtype, of_type, type_in}
use Rattle.ada_rules.specs.Entities.{Actual, type_seen, subtype_seen}
use Rattle.ada_rules.specs.Instances.{same_kind, same_kinds, same_results, same_profile}
use Rattle.ada_rules.specs.Subprograms.{same_mode}
use Rattle.ada_rules.proofs.Seen.{type_twice}
use Rattle.ada_entities.specs.declared.routines.Parameter.{Parameter}
use Rattle.ada_entities.specs.declared.routines.ResultMark.{ResultMark}
use Rattle.ada_entities.specs.declared.routines.Routine.{Routine}
use Rattle.ada_entities.specs.declared.types.AdaType.{AdaType as CodeType}
use Rattle.ada_entities.specs.EntityViews.{Tables}
use Rattle.ada_entities.specs.Views.{actuals_of, type_of}
use Rattle.specifications.specs.declared.profiles.Matching.{Matching}
use Rattle.specifications.specs.Matches.{type_as, routine_as, given_so_far, formal_type, formal_parameter, formal_parameters, formal_result, formal_routine, through}
use Rattle.specifications.specs.Profiles.{parameter_seen, parameters_of, result_seen, results_of}
use Rattle.specifications.proofs.Comparing.{turn, ended, none_left}
use Rattle.specifications.proofs.ConformanceLaws.{parameters_by, result_by}
use Rattle.specifications.proofs.Listing.{map_map}

-- a type that is seen through an instance is not seen through another one
pub through_once : (m : Matching) (k : Tables) (n : ℕ) (t : CodeType) → type_as k (of_instance n) t ≡ formal_type m k (of_instance n) t
through_once m k n t = sym (type_twice n (actuals_of k.types n) m.instantiation.number (given_so_far m k) (type_of k.types t))

-- modes and types of parameters as they are seen
pub mode_seen : (k : Tables) (o : Owner) (q : Parameter) → (parameter_seen k o q).mode ≡ mode_of q.mode
mode_seen k here q = refl
mode_seen k (of_instance n) q = refl

pub type_of_parameter : (k : Tables) (o : Owner) (q : Parameter) → type_in (parameter_seen k o q).subtype ≡ type_as k o q.subtype.of
type_of_parameter k here q = refl
type_of_parameter k (of_instance n) q = refl

pub type_of_result : (k : Tables) (o : Owner) (r : ResultMark) → type_in (result_seen k o r).subtype ≡ type_as k o r.subtype.of
type_of_result k here r = refl
type_of_result k (of_instance n) r = refl

seen_type : (n : ℕ) (xs : List Actual) (s : AdaSubtype) → type_in (subtype_seen n xs s) ≡ type_seen n xs (type_in s)
seen_type n xs (of_type t r) = refl

pub formal_mode : (m : Matching) (k : Tables) (o : Owner) (q : Parameter) → (formal_parameter m k o q).mode ≡ mode_of q.mode
formal_mode m k o q = mode_seen k o q

pub type_of_formal : (m : Matching) (k : Tables) (o : Owner) (q : Parameter) → type_in (formal_parameter m k o q).subtype ≡ formal_type m k o q.subtype.of
type_of_formal m k o q =
    seen_type m.instantiation.number (given_so_far m k) (parameter_seen k o q).subtype
    ∙ ap (type_seen m.instantiation.number (given_so_far m k)) (type_of_parameter k o q)

pub type_of_formal_result : (m : Matching) (k : Tables) (o : Owner) (r : ResultMark) → type_in (through m k (result_seen k o r)).subtype ≡ formal_type m k o r.subtype.of
type_of_formal_result m k o r =
    seen_type m.instantiation.number (given_so_far m k) (result_seen k o r).subtype
    ∙ ap (type_seen m.instantiation.number (given_so_far m k)) (type_of_result k o r)

-- one parameter
pub kinds : (m : Matching) (k : Tables) (o p : Owner) (x y : Parameter)
    → (same_mode (mode_of x.mode) (mode_of y.mode) && types.same_type (formal_type m k o x.subtype.of) (type_as k p y.subtype.of))
    ≡ same_kind (formal_parameter m k o x) (parameter_seen k p y)
kinds m k o p x y =
    λ z. same_mode (sym (formal_mode m k o x) z) (sym (mode_seen k p y) z)
    && types.same_type (sym (type_of_formal m k o x) z) (sym (type_of_parameter k p y) z)

pub results : (m : Matching) (k : Tables) (o p : Owner) (x y : ResultMark)
    → types.same_type (formal_type m k o x.subtype.of) (type_as k p y.subtype.of)
    ≡ same_results (formal_result m k o (Some x)) (results_of k p (Some y))
results m k o p x y = λ z. types.same_type (sym (type_of_formal_result m k o x) z) (sym (type_of_result k p y) z)

-- several
module _ (m : Matching) (k : Tables) (o p : Owner) where
  abbrev pub are_kinds : List Parameter → List Parameter → Bool
  are_kinds xs ys = same_kinds (formal_parameters m k o xs) (parameters_of k p ys)

  abbrev pub is_kind : Parameter → Parameter → Bool
  is_kind x y = same_kind (formal_parameter m k o x) (parameter_seen k p y)

  module _ (xs ys : List Parameter) (i : ℕ) (x : Parameter) (h : i < length xs) (is : x ≡ get_or xs i x) where
    pub kind_turn : (y : Parameter) → slice_get ys i ≡ Some y
        → are_kinds (drop i xs) (drop i ys) ≡ (is_kind x y && are_kinds (drop (i + 1) xs) (drop (i + 1) ys))
    kind_turn y e = turn is_kind are_kinds (λ x xs. refl) (λ x xs y ys. refl) xs ys i x h is y e

    pub kind_ended : slice_get ys i ≡ None → are_kinds (drop i xs) (drop i ys) ≡ false
    kind_ended e = ended is_kind are_kinds (λ x xs. refl) (λ x xs y ys. refl) xs ys i x h is e

  pub kinds_left : (xs ys : List Parameter) (i : ℕ) → length xs ≤ i → (q : Option Parameter) → slice_get ys i ≡ q
      → is_none q ≡ are_kinds (drop i xs) (drop i ys)
  kinds_left xs ys i h q e = none_left are_kinds refl (λ y ys. refl) xs ys i h q e

-- whole profiles
formal_parameters_by : (m : Matching) (k : Tables) (o : Owner) (r : Routine) → formal_parameters m k o r.parameters ≡ (formal_routine m k o r).parameters
formal_parameters_by m k o r =
    sym (map_map (through m k) (parameter_seen k o) r.parameters) ∙ ap (map (through m k)) (parameters_by k o r)

through_option : (m : Matching) (k : Tables) (o : Owner) (r : Option ResultMark) → formal_result m k o r ≡ option_map (through m k) (results_of k o r)
through_option m k o None = refl
through_option m k o (Some r) = refl

formal_result_by : (m : Matching) (k : Tables) (o : Owner) (r : Routine) → formal_result m k o r.result ≡ (formal_routine m k o r).result
formal_result_by m k o r = through_option m k o r.result ∙ ap (option_map (through m k)) (result_by k o r)

pub profiles : (m : Matching) (k : Tables) (o p : Owner) (f r : Routine)
    → (are_kinds m k o p f.parameters r.parameters && same_results (formal_result m k o f.result) (results_of k p r.result))
    ≡ same_profile (formal_routine m k o f) (routine_as k p r)
profiles m k o p f r =
    λ z. same_kinds (formal_parameters_by m k o f z) (parameters_by k p r z)
    && same_results (formal_result_by m k o f z) (result_by k p r z)

-- what a test gives
pub where_true : {A : Type 0} (b : Bool) (x : Option A) → b ≡ true → x ≡ (if b then x else None)
where_true b x h = ap (λ c. if c then x else None) (sym h)

pub where_false : {A : Type 0} (b : Bool) (x : Option A) → b ≡ false → None ≡ (if b then x else None)
where_false b x h = ap (λ c. if c then x else None) (sym h)
