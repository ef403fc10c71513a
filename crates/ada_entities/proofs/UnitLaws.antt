-- What is seen of units, and of instances whatever else than types they have for formals.
use Rattle.std.proofs.Common.{◌≡◌, ℕ, List, [], ◌∷◌, map, Option, Some, None, option_map, is_some, slice_get, unwrap_or, if◌then◌else◌, refl, sym, ap, ◌∙◌}
use Rattle.std.specs.Borrow.{Bor}
use Rattle.std.specs.Option.{option_copied}
use Rattle.std.proofs.lemmas.Option.{slice_get-map}
use Rattle.ada_rules.specs.ada_meaning.specs.Seen.{range_seen}
use Rattle.ada_rules.specs.Types.{AdaType, integer_type, enumeration, formal_type, array_type, record_type, AdaSubtype, of_type, Fields, no_field, and_field}
use Rattle.ada_rules.specs.Entities as rules
use Rattle.ada_rules.specs.Entities.{Actual, Parameter, Routine, Variable, identity_seen, type_seen, subtype_seen, fields_seen, parameter_seen, routine_seen, result_values_seen, variable_seen, seen}
use Rattle.ada_rules.specs.Environment as environment
use Rattle.ada_rules.specs.Expressions.{unless_formal}
use Rattle.ada_rules.specs.Environment.{World, no_interface}
use Rattle.ada_entities.specs.declared.units.Interface.{Interface}
use Rattle.ada_entities.specs.EntityViews.{Tables}
use Rattle.ada_entities.specs.UnitViews.{interface_of, GiveSame}

module _ (n : ℕ) (xs ys : List Actual) (same : GiveSame xs ys) where
  mutual
    type_same : (t : AdaType) → type_seen n xs t ≡ type_seen n ys t
    type_same (integer_type i) = refl
    type_same (enumeration i m) = refl
    type_same (formal_type i place b) = same place
    type_same (array_type i x c) = λ z. array_type (identity_seen n i) (subtype_same x z) (subtype_same c z)
    type_same (record_type i fs) = ap (record_type (identity_seen n i)) (fields_same fs)

    subtype_same : (t : AdaSubtype) → subtype_seen n xs t ≡ subtype_seen n ys t
    subtype_same (of_type t r) = ap (λ u. of_type u (range_seen n r)) (type_same t)

    fields_same : (fs : Fields) → fields_seen n xs fs ≡ fields_seen n ys fs
    fields_same no_field = refl
    fields_same (and_field name t fs) = λ z. and_field name (subtype_same t z) (fields_same fs z)

  parameter_same : (q : Parameter) → parameter_seen n xs q ≡ parameter_seen n ys q
  parameter_same q = λ z. record {
    name = q.name;
    mode = q.mode;
    mark = option_map (identity_seen n) q.mark;
    subtype = subtype_same q.subtype z;
  }

  parameters_same : (qs : List Parameter) → map (parameter_seen n xs) qs ≡ map (parameter_seen n ys) qs
  parameters_same [] = refl
  parameters_same (q ∷ qs) = λ z. parameter_same q z ∷ parameters_same qs z

  result_same : (r : Option Parameter) → option_map (parameter_seen n xs) r ≡ option_map (parameter_seen n ys) r
  result_same None = refl
  result_same (Some q) = ap (λ p. Some p) (parameter_same q)

  values_same : (r : Option Parameter) → result_values_seen n xs r ≡ result_values_seen n ys r
  values_same None = refl
  values_same (Some q) = refl

  routine_same : (r : Routine) → routine_seen n xs r ≡ routine_seen n ys r
  routine_same r = λ z. record (routine_seen n xs r) {
    parameters = parameters_same r.parameters z;
    result = result_same r.result z;
    values = values_same r.result z;
  }

  variable_same : (v : Variable) → variable_seen n xs v ≡ variable_seen n ys v
  variable_same v = λ z. record (variable_seen n xs v) { subtype = subtype_same v.subtype z }

  pub seen_same : (x : rules.Entity) → seen n xs x ≡ seen n ys x
  seen_same rules.hidden = refl
  seen_same (rules.mark i t) = ap (rules.mark (identity_seen n i)) (subtype_same t)
  seen_same (rules.literal t x) = ap (λ u. rules.literal u x) (type_same t)
  seen_same (rules.object v) = ap rules.object (variable_same v)
  seen_same (rules.formal_object t e) = ap (λ u. rules.formal_object u (rules.static_seen n e)) (subtype_same t)
  seen_same (rules.routine r) = ap rules.routine (routine_same r)
  seen_same (rules.raisable e) = refl
  seen_same rules.component = refl
  seen_same rules.test_io = refl
  seen_same (rules.unit m) = refl

  pub part_same : (o : Option rules.Entity) → option_map (seen n xs) o ≡ option_map (seen n ys) o
  part_same None = refl
  part_same (Some x) = ap (λ y. Some y) (seen_same x)

-- what is seen of the unit with a number, where a slice answers this
abbrev pub seen_of : (k : Tables) → (ℕ → List Actual) → Option (Bor Interface) → environment.Interface
seen_of k actuals None = no_interface
seen_of k actuals (Some x) = interface_of k actuals x.now

pub interface_at : (k : Tables) (actuals : ℕ → List Actual) (units : List Interface) (w : World) (n : ℕ) (o : Option (Bor Interface))
    → w.interfaces ≡ map (interface_of k actuals) units → option_copied o ≡ slice_get units n
    → environment.interface_of w n ≡ seen_of k actuals o
interface_at k actuals units w n o e h =
    ap (λ xs. unwrap_or (slice_get xs n) no_interface) e
    ∙ (ap (λ x. unwrap_or x no_interface) (slice_get-map (interface_of k actuals) units n)
    ∙ (ap (λ x. unwrap_or (option_map (interface_of k actuals) x) no_interface) (sym h) ∙ copied k actuals o)) where
      copied : (k : Tables) (actuals : ℕ → List Actual) (o : Option (Bor Interface))
          → unwrap_or (option_map (interface_of k actuals) (option_copied o)) no_interface ≡ seen_of k actuals o
      copied k actuals None = refl
      copied k actuals (Some x) = refl

-- what is no formal of a generic
pub no_formal : (formals : rules.Region) (name : List ℕ) (x : Option rules.Entity) → rules.entity_of name formals ≡ None → unless_formal formals name x ≡ x
no_formal formals name x e = ap (λ o. if is_some o then None else x) e

pub none_of : {A B : Type 0} (f : A → B) (o : Option A) (p : Option B) → option_map f o ≡ p → o ≡ None → p ≡ None
none_of f o p e h = sym e ∙ ap (option_map f) h
