-- What a name denotes in the step of types is what it leads to, if that is a mark, a unit or Test_IO; so a mark is the same where the names that
-- lead to it are.
use Rattle.std.proofs.Common.{◌≡◌, ℕ, Bool, true, false, if◌then◌else◌, List, [], ◌∷◌, Option, Some, None, option_map, IfSome, IfOk, refl, sym, ap, ◌∙◌, subst}
use Rattle.std.specs.Option.{option_and_then}
use Rattle.ada_syntax.specs.Tree as source
use Rattle.ada_syntax.specs.Tree.{name_pos}
use Rattle.ada_rules.specs.Plan.{◌>>=◌, rule}
use Rattle.ada_rules.specs.Types.{AdaType, integer_type, enumeration, formal_type, array_type, record_type, of_type, type_in, fits}
use Rattle.ada_rules.specs.Entities.{key, Variable, Entity, entity_of, visible}
use Rattle.ada_rules.specs.Environment.{typing, typed_rule, State, Given, given, Env, regions_of}
use Rattle.ada_rules.specs.Denoted.{Judged, Denoted, a_mark, a_value, a_variable, a_routine, a_call, an_exception, a_unit, the_test_io, a_thing, field_among, field_of, component_of, is_attribute, attribute_of_type, attribute_of_object, object_attribute, attribute_of, converts, element_of, actuals_for, applied_to_one, applied_to}
use Rattle.ada_rules.specs.Expressions.{part_of_unit, named, selection, attribution, denoted, all_judged, Marked, marked, mark_or_any, mark_part}
use Rattle.legal_laws.proofs.Passing.{IfPassed, if_map, if_test, answered, part_so, typed_so, any_answer}
use Rattle.legal_texts.specs.Leading.{leads, lead_of, part_lead, lead, Fit}

-- what leads nowhere
abbrev Nowhere : Denoted → Type 0
Nowhere d = leads d ≡ None

nowhere_mapped : {X : Type 0} (f : X → Denoted) (o : Option X) → ((x : X) → Nowhere (f x)) → IfSome (option_map f o) Nowhere
nowhere_mapped f None h = tt
nowhere_mapped f (Some x) h = h x

field_nowhere : (name : List ℕ) (v : Variable) (t : AdaType) → IfSome (field_of name v t) Nowhere
field_nowhere name v (record_type i fs) = nowhere_mapped _ (field_among name 0 fs) (λ f. refl)
field_nowhere name v (integer_type i) = tt
field_nowhere name v (enumeration i n) = tt
field_nowhere name v (formal_type i k b) = tt
field_nowhere name v (array_type i x c) = tt

component_nowhere : (name : List ℕ) (d : Denoted) → IfSome (component_of name d) Nowhere
component_nowhere name (a_variable v) = field_nowhere name v (type_in v.subtype)
component_nowhere name (a_mark i t) = tt
component_nowhere name (a_value x) = tt
component_nowhere name (a_routine r) = tt
component_nowhere name (a_call r actuals) = tt
component_nowhere name (an_exception e) = tt
component_nowhere name (a_unit n) = tt
component_nowhere name the_test_io = tt
component_nowhere name a_thing = tt

attribute_nowhere : (name : List ℕ) (d : Denoted) → IfSome (attribute_of name d) Nowhere
attribute_nowhere name (a_mark i (of_type t r)) = nowhere_mapped _ (attribute_of_type name t r) (λ a. refl)
attribute_nowhere name (a_variable v) =
    nowhere_mapped (object_attribute v) (attribute_of_object name (type_in v.subtype)) (λ a. of_either v.is_indexed _ _ refl refl)
  where
    of_either : (b : Bool) (d e : Denoted) → Nowhere d → Nowhere e → Nowhere (if b then d else e)
    of_either true d e h k = h
    of_either false d e h k = k
attribute_nowhere name (a_value x) = tt
attribute_nowhere name (a_routine r) = tt
attribute_nowhere name (a_call r actuals) = tt
attribute_nowhere name (an_exception e) = tt
attribute_nowhere name (a_unit n) = tt
attribute_nowhere name the_test_io = tt
attribute_nowhere name a_thing = tt

element_nowhere : (v : Variable) (t : AdaType) (x : Judged) → IfSome (element_of v t x) Nowhere
element_nowhere v (array_type i x c) e = if_test Nowhere (fits (type_in x) e.kind) _ (λ h. refl)
element_nowhere v (integer_type i) e = tt
element_nowhere v (enumeration i n) e = tt
element_nowhere v (formal_type i k b) e = tt
element_nowhere v (record_type i fs) e = tt

one_nowhere : (d : Denoted) (x : Judged) → IfSome (applied_to_one d x) Nowhere
one_nowhere (a_mark i t) x = if_test Nowhere (converts (type_in t) x.kind) _ (λ h. refl)
one_nowhere (a_variable v) x = element_nowhere v (type_in v.subtype) x
one_nowhere (a_value y) x = tt
one_nowhere (a_routine r) x = tt
one_nowhere (a_call r actuals) x = tt
one_nowhere (an_exception e) x = tt
one_nowhere (a_unit n) x = tt
one_nowhere the_test_io x = tt
one_nowhere a_thing x = tt

applied_nowhere : (d : Denoted) (xs : List Judged) → IfSome (applied_to d xs) Nowhere
applied_nowhere (a_routine r) xs = nowhere_mapped _ (actuals_for r.parameters xs) (λ a. refl)
applied_nowhere d (x ∷ []) = one_nowhere d x
applied_nowhere d xs = tt

module _ (env : Env) (step : env.step ≡ typing) where
  abbrev LeadsTo : Option Denoted → Given Denoted → Type 0
  LeadsTo o g = leads g.value ≡ o

  named_leads : (s : State) (o : Option Entity) → IfPassed (named s o).outcome (LeadsTo (lead_of o))
  named_leads s None = tt
  named_leads s (Some x) = refl

  typed_leads : (s : State) (o : Option Denoted) → IfSome o Nowhere
      → IfPassed (typed_rule env.step (given a_thing s) (option_map (λ x. given x s) o)).outcome (LeadsTo None)
  typed_leads s o h =
      typed_so (LeadsTo None) env.step (given a_thing s) _ step (if_map Nowhere (LeadsTo None) (λ x. given x s) o h (λ x k. k))

  selected_leads : (s : State) (d : Denoted) (name : List ℕ)
      → IfPassed (selection env s d name).outcome (LeadsTo (option_and_then (part_lead env name) (leads d)))
  selected_leads s (a_unit n) name = named_leads s (part_of_unit env n name)
  selected_leads s the_test_io name = named_leads s (entity_of name env.world.standard.test_io_declarations)
  selected_leads s (a_mark i t) name = typed_leads s (component_of name (a_mark i t)) tt
  selected_leads s (a_value x) name = typed_leads s (component_of name (a_value x)) tt
  selected_leads s (a_variable v) name = typed_leads s (component_of name (a_variable v)) (component_nowhere name (a_variable v))
  selected_leads s (a_routine r) name = typed_leads s (component_of name (a_routine r)) tt
  selected_leads s (a_call r actuals) name = typed_leads s (component_of name (a_call r actuals)) tt
  selected_leads s (an_exception e) name = typed_leads s (component_of name (an_exception e)) tt
  selected_leads s a_thing name = typed_leads s (component_of name a_thing) tt

  attributed_leads : (s : State) (d : Denoted) (name : List ℕ) (b : Bool)
      → IfPassed (if b then typed_rule env.step (given a_thing s) (option_map (λ x. given x s) (attribute_of name d)) else rule None).outcome (LeadsTo None)
  attributed_leads s d name true = typed_leads s (attribute_of name d) (attribute_nowhere name d)
  attributed_leads s d name false = tt

  pub denoted_leads : (s : State) (n : source.Name) → IfOk (denoted env s n).answer (LeadsTo (lead env n))
  denoted_leads s (source.simple i) =
      answered (LeadsTo (lead env (source.simple i))) i.pos (named s (visible (key i) (regions_of env))).outcome (named_leads s (visible (key i) (regions_of env)))
  denoted_leads s (source.selected n i) =
      answered (LeadsTo (lead env (source.selected n i))) (name_pos n) _
      (part_so (LeadsTo (lead env n)) (LeadsTo (lead env (source.selected n i))) (denoted env s n).answer (λ d. selection env d.next d.value (key i))
      (denoted_leads s n)
      (λ d h. subst (λ o. IfPassed (selection env d.next d.value (key i)).outcome (LeadsTo (option_and_then (part_lead env (key i)) o))) h
      (selected_leads d.next d.value (key i))))
  denoted_leads s (source.attribute n i) =
      answered (LeadsTo None) (name_pos n) _
      (part_so (λ d. Unit {0}) (LeadsTo None) (denoted env s n).answer (λ d. attribution env d.next d.value (key i)) (any_answer (denoted env s n).answer)
      (λ d u. attributed_leads d.next d.value (key i) (is_attribute (key i))))
  denoted_leads s (source.applied n es) =
      answered (LeadsTo None) (name_pos n) _
      (part_so (λ d. Unit {0}) (LeadsTo None) (denoted env s n).answer
      (λ d. all_judged env d.next (name_pos n) es >>= (λ xs. typed_rule env.step (given a_thing xs.next) (option_map (λ x. given x xs.next) (applied_to d.value xs.value))))
      (any_answer (denoted env s n).answer)
      (λ d u. part_so (λ xs. Unit {0}) (LeadsTo None) (all_judged env d.next (name_pos n) es).answer
      (λ xs. typed_rule env.step (given a_thing xs.next) (option_map (λ x. given x xs.next) (applied_to d.value xs.value)))
      (any_answer (all_judged env d.next (name_pos n) es).answer)
      (λ xs v. typed_leads xs.next (applied_to d.value xs.value) (applied_nowhere d.value xs.value))))

  -- a mark
  abbrev pub IsMarkOf : source.Name → Given Marked → Type 0
  IsMarkOf n g = option_and_then marked (lead env n) ≡ Some g.value

  marked_leads : (d : Denoted) → IfSome (marked d) (λ m. option_and_then marked (leads d) ≡ Some m)
  marked_leads (a_mark i t) = refl
  marked_leads (a_value x) = tt
  marked_leads (a_variable v) = tt
  marked_leads (a_routine r) = tt
  marked_leads (a_call r actuals) = tt
  marked_leads (an_exception e) = tt
  marked_leads (a_unit n) = tt
  marked_leads the_test_io = tt
  marked_leads a_thing = tt

  marked_in_step : (s : State) (n : source.Name) (d : Denoted) → leads d ≡ lead env n → IfSome (mark_or_any env.step d) (λ m. option_and_then marked (lead env n) ≡ Some m)
  marked_in_step s n d h =
      subst (λ x. IfSome (mark_or_any x d) (λ m. option_and_then marked (lead env n) ≡ Some m)) (sym step)
      (subst (λ o. IfSome (marked d) (λ m. option_and_then marked o ≡ Some m)) h (marked_leads d))

  pub mark_leads : (s : State) (n : source.Name) → IfOk (mark_part env s n).answer (IsMarkOf n)
  mark_leads s n =
      answered (IsMarkOf n) (name_pos n) _
      (part_so (LeadsTo (lead env n)) (IsMarkOf n) (denoted env s n).answer (λ d. rule (option_map (λ m. given m d.next) (mark_or_any env.step d.value)))
      (denoted_leads s n)
      (λ d h. ruled_mark d.next (mark_or_any env.step d.value) (marked_in_step s n d.value h)))
    where
      ruled_mark : (t : State) (o : Option Marked) → IfSome o (λ m. option_and_then marked (lead env n) ≡ Some m)
          → IfPassed (rule (option_map (λ m. given m t) o)).outcome (IsMarkOf n)
      ruled_mark t None h = tt
      ruled_mark t (Some m) h = h

-- marks that fit are the same
pub same_marks : (a b : Option Denoted) (m k : Marked) → Fit a b → option_and_then marked a ≡ Some m → option_and_then marked b ≡ Some k → m ≡ k
same_marks None b m k fit e f = absurd (cc e)
same_marks (Some d) None m k fit e f = absurd (cc f)
same_marks (Some d) (Some c) m k fit e f = ap (or_mark m) (sym e ∙ (ap marked fit ∙ f))
  where
    or_mark : Marked → Option Marked → Marked
    or_mark x None = x
    or_mark x (Some y) = y

-- two places in which names lead to what fits
pub record AreAlikePlaces (one other : Env) : Type 0 where
  pub names : (name : List ℕ) → Fit (lead_of (visible name (regions_of one))) (lead_of (visible name (regions_of other)))
  pub parts : (n : ℕ) (name : List ℕ) → Fit (lead_of (part_of_unit one n name)) (lead_of (part_of_unit other n name))
  pub standard : one.world.standard ≡ other.world.standard

pub fit_same : (a : Option Denoted) → Fit a a
fit_same None = tt
fit_same (Some d) = refl

module _ (one other : Env) (are : AreAlikePlaces one other) where
  part_fit : (name : List ℕ) (d : Denoted) → Fit (part_lead one name d) (part_lead other name d)
  part_fit name (a_unit n) = are.parts n name
  part_fit name the_test_io =
      subst (λ w. Fit (lead_of (entity_of name one.world.standard.test_io_declarations)) (lead_of (entity_of name w.test_io_declarations))) are.standard
      (fit_same (lead_of (entity_of name one.world.standard.test_io_declarations)))
  part_fit name (a_mark i t) = tt
  part_fit name (a_value x) = tt
  part_fit name (a_variable v) = tt
  part_fit name (a_routine r) = tt
  part_fit name (a_call r actuals) = tt
  part_fit name (an_exception e) = tt
  part_fit name a_thing = tt

  parts_fit : (name : List ℕ) (a b : Option Denoted) → Fit a b → Fit (option_and_then (part_lead one name) a) (option_and_then (part_lead other name) b)
  parts_fit name None b h = tt
  parts_fit name (Some d) None h = nothing_fits (part_lead one name d)
    where
      nothing_fits : (o : Option Denoted) → Fit o None
      nothing_fits None = tt
      nothing_fits (Some x) = tt
  parts_fit name (Some d) (Some e) h = subst (λ x. Fit (part_lead one name d) (part_lead other name x)) h (part_fit name d)

  pub leads_fit : (n : source.Name) → Fit (lead one n) (lead other n)
  leads_fit (source.simple i) = are.names (key i)
  leads_fit (source.selected n i) = parts_fit (key i) (lead one n) (lead other n) (leads_fit n)
  leads_fit (source.attribute n i) = tt
  leads_fit (source.applied n es) = tt
