-- Units only add to the state, in both steps.
use Rattle.std.proofs.Common.{◌≡◌, ◌+◌, ℕ, false, List, [], ◌∷◌, ◌++◌, length, Option, Some, None, option_map, IfOk, slice_get, refl, sym, ap, ◌∙◌, subst, arith, length-append}
use Rattle.cov_base.specs.Lists.{Everywhere}
use Rattle.cov_base.specs.declared.position.Pos.{Pos}
use Rattle.ada_syntax.specs.Tree as source
use Rattle.ada_syntax.specs.Tree.{expr_pos}
use Rattle.ada_syntax.specs.declared.unit.Instance.{Instance}
use Rattle.ada_syntax.specs.declared.unit.LibraryItem.{LibraryItem}
use Rattle.ada_syntax.specs.declared.unit.LibraryItem.TheVariants as library
use Rattle.ada_syntax.specs.declared.unit.PackageBody.{PackageBody}
use Rattle.ada_syntax.specs.declared.unit.PackageSpecification.{PackageSpecification}
use Rattle.ada_syntax.specs.declared.unit.SubprogramBody.{SubprogramBody}
use Rattle.ada_syntax.specs.declared.unit.Unit.{Unit as LibraryUnit}
use Rattle.ada_rules.specs.Plan.{Plan, ◌>>=◌, rule}
use Rattle.ada_rules.specs.Types.{type_in, range_in, fits}
use Rattle.ada_rules.specs.Entities.{key, Entity, hidden, formal_object, unit, Region, Actual, object_actual, subtype_seen}
use Rattle.ada_rules.specs.Environment.{Step, typed_rule, World, interface_of, State, Given, given, Env}
use Rattle.ada_rules.specs.Denoted.{nowhere}
use Rattle.ada_rules.specs.Statics.{Asked}
use Rattle.ada_rules.specs.Expressions.{itself, denoted, judged, static_part}
use Rattle.ada_rules.specs.Declarations.{in_range}
use Rattle.ada_rules.specs.Subprograms.{specified, declared_only, closed_by, body_judged}
use Rattle.ada_rules.specs.Instances.{formals_declared, generic_named, formals_of, actual_for_name, any_actual, actual_plan, any_plan, actuals_judged}
use Rattle.ada_rules.specs.Library.{Library, unit_named, instance_number, body_names, bodies_of_item, all_bodies}
use Rattle.ada_rules.specs.Units.{env_of, package_items, body_items, Walked, at_unit, behind_unit, formals_in, in_specification, with_package, package_judged, instantiated_by, with_instance, instance_judged, with_subprogram, library_routine, library_subprogram, seen_in, interface_judged, interface_at, all_interfaces, region_of, seen_in_body, in_body, package_body, package_body_of, library_body, routine_entity, bodies_judged, all_bodies_judged}
use Rattle.legal_laws.specs.Kept.{OnlyDecides}
use Rattle.legal_laws.proofs.Passing.{IfPassed, answered, part_so, weaker_ok, typed_either, any_answer}
use Rattle.legal_laws.proofs.KeptExpressions.{denoted_behind}
use Rattle.legal_programs.specs.Growing.{IsLonger, Adds, Extends, AddsBodies, AddsInterfaces}
use Rattle.legal_programs.specs.Homes.{IsThere, HasHome, instances_in, instances_at}
use Rattle.legal_programs.proofs.Lists.{longer_same, longer_by, longer_both}
use Rattle.legal_programs.proofs.Adding.{adds_same, adds_none, adds_both, adds_decides, Add, expression_adds, static_adds, mapped_adds}
use Rattle.legal_programs.proofs.Extending.{specified_adds, extends_of, extends_both, bodies_of_adds, bodies_both, judged_adds, items_add, body_items_add, formals_add}

-- actuals
name_adds : (env : Env) (s : State) (n : source.Name) → IfOk (denoted env s n).answer (Add s)
name_adds env s n =
    weaker_ok (λ x. OnlyDecides s x.next) (Add s) (denoted env s n).answer (denoted_behind env s n) (λ x h. adds_decides s x.next h)

named_actual_adds : (env : Env) (s : State) (n : ℕ) (before : List Actual) (f : Entity) (x : source.Name)
    → IfPassed (denoted env s x >>= (λ d. typed_rule env.step (given any_actual d.next) (option_map (λ a. given a d.next) (actual_for_name n before f d.value)))).outcome (Add s)
named_actual_adds env s n before f x =
    part_so (Add s) (Add s) (denoted env s x).answer
    (λ d. typed_rule env.step (given any_actual d.next) (option_map (λ a. given a d.next) (actual_for_name n before f d.value))) (name_adds env s x)
    (λ d h. typed_either (Add s) env.step (given any_actual d.next) _ h (mapped_adds env s d.next (λ a. a) (actual_for_name n before f d.value) h))

judged_actual_adds : (env : Env) (s : State) (e : source.Expr)
    → IfPassed (judged env itself s e >>= (λ y. typed_rule env.step (given any_actual y.next) None)).outcome (Add s)
judged_actual_adds env s e =
    part_so (Add s) (Add s) (judged env itself s e).answer (λ y. typed_rule env.step (given any_actual y.next) None) (expression_adds env s e)
    (λ y h. typed_either (Add s) env.step (given any_actual y.next) None h tt)

actual_adds : (env : Env) (s : State) (n : ℕ) (before : List Actual) (f : Entity) (x : source.Expr) → IfPassed (actual_plan env s n before f x).outcome (Add s)
actual_adds env s n before (formal_object t e) x =
    part_so (Add s) (Add s) (static_part env s (fits (type_in (subtype_seen n before t))) (in_range (range_in (subtype_seen n before t))) x).answer
    (λ v. rule (Some (given (object_actual v.value.value) v.next)))
    (static_adds env s (fits (type_in (subtype_seen n before t))) (in_range (range_in (subtype_seen n before t))) x) (λ v h. h)
actual_adds env s n before f (source.named p x) = named_actual_adds env s n before f x
actual_adds env s n before f x = judged_actual_adds env s x

any_adds : (env : Env) (s : State) (x : source.Expr) → IfPassed (any_plan env s x).outcome (Add s)
any_adds env s (source.named p x) =
    part_so (Add s) (Add s) (denoted env s x).answer (λ d. rule (Some (given any_actual d.next))) (name_adds env s x) (λ d h. h)
any_adds env s x =
    part_so (Add s) (Add s) (judged env itself s x).answer (λ y. rule (Some (given any_actual y.next))) (expression_adds env s x) (λ y h. h)

pub actuals_add : (env : Env) (s : State) (p : Pos) (n : ℕ) (before : List Actual) (fs : Region) (xs : List source.Expr)
    → IfOk (actuals_judged env s p n before fs xs).answer (Add s)
actuals_add env s p n before [] [] = adds_same s
actuals_add env s p n before (f ∷ fs) [] =
    answered (Add s) p _ (typed_either (Add s) env.step (given before s) None (adds_same s) tt)
actuals_add env s p n before [] (x ∷ xs) =
    answered (Add s) p _
    (part_so (Add s) (Add s) _ (λ a. actuals_judged env a.next p n before [] xs >>= (λ rest. typed_rule env.step rest None))
    (answered (Add s) (expr_pos x) (any_plan env s x).outcome (any_adds env s x))
    (λ a h. part_so (Add a.next) (Add s) (actuals_judged env a.next p n before [] xs).answer (λ rest. typed_rule env.step rest None)
    (actuals_add env a.next p n before [] xs)
    (λ rest k. let all = adds_both s a.next rest.next h k in typed_either (Add s) env.step rest None all tt)))
actuals_add env s p n before (f ∷ fs) (x ∷ xs) =
    answered (Add s) p _
    (part_so (Add s) (Add s) _ (λ a. actuals_judged env a.next p n (before ++ a.value ∷ []) fs xs >>= (λ rest. rule (Some rest)))
    (answered (Add s) (expr_pos x) (actual_plan env s n before f.1 x).outcome (actual_adds env s n before f.1 x))
    (λ a h. part_so (Add a.next) (Add s) (actuals_judged env a.next p n (before ++ a.value ∷ []) fs xs).answer (λ rest. rule (Some rest))
    (actuals_add env a.next p n (before ++ a.value ∷ []) fs xs) (λ rest k. adds_both s a.next rest.next h k)))

-- what other units see of a unit
abbrev pub Interfaces : ℕ → State → Walked → Type 0
Interfaces n s x = AddsInterfaces n s x.next

interfaces_of_adds : (s t : State) → Adds s t → AddsInterfaces 0 s t
interfaces_of_adds s t h =
    let same = ap length h.instances in
    record { extends = extends_of s t h; subprograms = h.subprograms; instances = omega (arith, same) }

interfaces_both : (m n : ℕ) (s t u : State) → AddsInterfaces m s t → AddsInterfaces n t u → AddsInterfaces (m + n) s u
interfaces_both m n s t u h k =
    let first = h.instances in
    let second = k.instances in
    record {
      extends = extends_both s t u h.extends k.extends;
      subprograms = k.subprograms ∙ h.subprograms;
      instances = omega (arith, first, second);
    }

pub adds_at_unit : (s : State) → Adds s (at_unit s)
adds_at_unit s = adds_none s (at_unit s) refl refl refl refl refl refl refl refl refl refl refl

behind_extends : (env : Env) (n : ℕ) (s t : State) → Extends s t → Extends s (behind_unit env n t)
behind_extends env n s t h = record {
  demands = h.demands;
  types = h.types;
  objects = h.objects;
  constants = h.constants;
  exceptions = h.exceptions;
  objects_numbered = h.objects_numbered;
  exceptions_numbered = h.exceptions_numbered;
  subprograms = h.subprograms;
  subprogram_words = h.subprogram_words;
  instances = h.instances;
  unit_words = longer_both s.unit_words t.unit_words _ h.unit_words (longer_by _ t.unit_words);
}

module _ (env : Env) (s : State) (p : Pos) (n : ℕ) (x : PackageSpecification) where
  abbrev items_in : Given Region → Plan Walked
  items_in formals =
      package_items (in_specification env n x formals.value) formals.next p x.items
      >>= (λ region. closed_by p x.name x.end_name >>= (λ end. rule (Some (with_package env n x formals.value region))))

  package_adds : IfOk (package_judged env s p n x).answer (Interfaces 0 s)
  package_adds =
      answered (Interfaces 0 s) p _
      (part_so (Add (at_unit s)) (Interfaces 0 s) (formals_declared (in_specification env n x []) (at_unit s) p 0 (formals_in x.formals)).answer items_in
      (formals_add (in_specification env n x []) (at_unit s) p 0 (formals_in x.formals))
      (λ formals h. part_so (Add formals.next) (Interfaces 0 s) (package_items (in_specification env n x formals.value) formals.next p x.items).answer
      (λ region. closed_by p x.name x.end_name >>= (λ end. rule (Some (with_package env n x formals.value region))))
      (items_add (in_specification env n x formals.value) formals.next p x.items)
      (λ region k. part_so (λ u. Unit {0}) (Interfaces 0 s) (closed_by p x.name x.end_name).answer
      (λ end. rule (Some (with_package env n x formals.value region))) (any_answer (closed_by p x.name x.end_name).answer)
      (λ end u. let all = adds_both s (at_unit s) region.next (adds_at_unit s) (adds_both (at_unit s) formals.next region.next h k) in
      let rest = interfaces_of_adds s region.next all in
      record { extends = behind_extends (in_specification env n x []) n s region.next rest.extends; subprograms = rest.subprograms; instances = rest.instances }))))

asked_longer : (g : Option ℕ) (k : ℕ) (ds : List Asked) → IsLonger ds (instantiated_by g k ds)
asked_longer None k ds = longer_same ds ds refl
asked_longer (Some g) k ds = longer_by _ ds

instance_adds : (env : Env) (s : State) (p : Pos) (n k : ℕ) (i : Instance) → IfOk (instance_judged env s p n k i).answer (Interfaces 1 s)
instance_adds env s p n k i =
    answered (Interfaces 1 s) p _
    (part_so (λ g. Unit {0}) (Interfaces 1 s) (generic_named env i.generic_name).answer
    (λ g. actuals_judged env (at_unit s) p k [] (formals_of env.world g) i.actuals
    >>= (λ actuals. rule (Some (with_instance env.world p n k i g actuals.value actuals.next))))
    (any_answer (generic_named env i.generic_name).answer)
    (λ g u. part_so (Add (at_unit s)) (Interfaces 1 s) (actuals_judged env (at_unit s) p k [] (formals_of env.world g) i.actuals).answer
    (λ actuals. rule (Some (with_instance env.world p n k i g actuals.value actuals.next)))
    (actuals_add env (at_unit s) p k [] (formals_of env.world g) i.actuals)
    (λ actuals h. let all = adds_both s (at_unit s) actuals.next (adds_at_unit s) h in
    let more = extends_of s actuals.next all in
    let count = ap length all.instances in
    record {
      extends = record {
        demands = longer_both s.demands actuals.next.demands _ more.demands (asked_longer g k actuals.next.demands);
        types = more.types;
        objects = more.objects;
        constants = more.constants;
        exceptions = more.exceptions;
        objects_numbered = more.objects_numbered;
        exceptions_numbered = more.exceptions_numbered;
        subprograms = more.subprograms;
        subprogram_words = more.subprogram_words;
        instances = longer_both s.instances_declared actuals.next.instances_declared _ more.instances (longer_by _ actuals.next.instances_declared);
        unit_words = more.unit_words;
      };
      subprograms = all.subprograms;
      instances = omega (arith, count);
    })))

library_adds : (env : Env) (s : State) (n : ℕ) (b : SubprogramBody) → IfOk (library_subprogram env s n b).answer (Interfaces 0 s)
library_adds env s n b =
    answered (Interfaces 0 s) b.specification.pos _
    (part_so (Add (at_unit s)) (Interfaces 0 s) (specified env (at_unit s) b.specification).answer
    (λ q. rule (Some (with_subprogram env.world n (library_routine env b q.value) (declared_only s q.next))))
    (specified_adds env (at_unit s) b.specification)
    (λ q h. interfaces_of_adds s (declared_only s q.next)
    (adds_both s (at_unit s) (declared_only s q.next) (adds_at_unit s)
    (adds_both (at_unit s) q.next (declared_only s q.next) h
    (adds_none q.next (declared_only s q.next) refl refl refl refl refl refl refl refl refl refl refl)))))

module _ (step : Step) (l : Library) where
  interface_adds : (w : World) (s : State) (n : ℕ) (u : LibraryUnit) (i : LibraryItem) → u.item ≡ i
      → IfOk (interface_judged step l w s n u i).answer (Interfaces (instances_in (Some (record u { item = i }))) s)
  interface_adds w s n u (library.Package x) e = package_adds (env_of step w n (key x.name) (seen_in w l u (unit n))) s u.item_pos n x
  interface_adds w s n u (library.Instance i) e =
      instance_adds (env_of step w n (key i.name) (seen_in w l u hidden)) s u.item_pos n (instance_number n l.units) i
  interface_adds w s n u (library.Subprogram b) e = library_adds (env_of step w n (key b.specification.name) (seen_in w l u hidden)) s n b
  interface_adds w s n u (library.PackageBody b) e = interfaces_of_adds s s (adds_same s)

  interface_at_adds : (x : Walked) (n : ℕ) (o : Option LibraryUnit) → IfOk (interface_at step l x n o).answer (Interfaces (instances_in o) x.next)
  interface_at_adds x n None = interfaces_of_adds x.next x.next (adds_same x.next)
  interface_at_adds x n (Some u) =
      answered (Interfaces (instances_in (Some u)) x.next) u.pos _
      (part_so (Interfaces (instances_in (Some u)) x.next) (Interfaces (instances_in (Some u)) x.next) (interface_judged step l x.world x.next n u u.item).answer
      (λ y. rule (Some y)) (interface_adds x.world x.next n u u.item refl) (λ y h. h))

  pub interfaces_add : (x : Walked) (ns : List ℕ) → IfOk (all_interfaces step l x ns).answer (Interfaces (instances_at l ns) x.next)
  interfaces_add x [] = interfaces_of_adds x.next x.next (adds_same x.next)
  interfaces_add x (n ∷ ns) =
      answered (Interfaces (instances_at l (n ∷ ns)) x.next) nowhere _
      (part_so (Interfaces (instances_in (slice_get l.units n)) x.next) (Interfaces (instances_at l (n ∷ ns)) x.next) (interface_at step l x n (slice_get l.units n)).answer
      (λ y. all_interfaces step l y ns >>= (λ rest. rule (Some rest)))
      (interface_at_adds x n (slice_get l.units n))
      (λ y h. part_so (Interfaces (instances_at l ns) y.next) (Interfaces (instances_at l (n ∷ ns)) x.next) (all_interfaces step l y ns).answer (λ rest. rule (Some rest))
      (interfaces_add y ns)
      (λ rest k. interfaces_both (instances_in (slice_get l.units n)) (instances_at l ns) x.next y.next rest.next h k)))

  -- bodies
  package_body_adds : (env : Env) (s : State) (p : Pos) (n : ℕ) (b : PackageBody)
      → IfOk (package_body env s p n b).answer (AddsBodies (length (body_names (key b.name) b.items)) s)
  package_body_adds env s p n b =
      answered (AddsBodies (length (body_names (key b.name) b.items)) s) p _
      (part_so (λ (g : Given Region). AddsBodies (length (body_names (key b.name) b.items)) (at_unit s) g.next) (AddsBodies (length (body_names (key b.name) b.items)) s)
      (body_items (in_body env n (interface_of env.world n) (region_of (interface_of env.world n))) (at_unit s) p b.items).answer
      (λ region. closed_by p b.name b.end_name >>= (λ end. rule (Some (behind_unit (in_body env n (interface_of env.world n) []) n region.next))))
      (body_items_add (key b.name) (in_body env n (interface_of env.world n) (region_of (interface_of env.world n))) (at_unit s) p b.items)
      (λ region h. part_so (λ u. Unit {0}) (AddsBodies (length (body_names (key b.name) b.items)) s) (closed_by p b.name b.end_name).answer
      (λ end. rule (Some (behind_unit (in_body env n (interface_of env.world n) []) n region.next)))
      (any_answer (closed_by p b.name b.end_name).answer)
      (λ end u. let all = bodies_both 0 (length (body_names (key b.name) b.items)) s (at_unit s) region.next (bodies_of_adds s (at_unit s) (adds_at_unit s)) h in
      let count = all.subprograms in
      record { extends = behind_extends (in_body env n (interface_of env.world n) []) n s region.next all.extends; subprograms = omega (arith, count); instances = all.instances })))

  body_of_adds : (w : World) (s : State) (m : ℕ) (u : LibraryUnit) (b : PackageBody) (o : Option ℕ) → IsThere o
      → IfOk (package_body_of step l w s m u b o).answer (AddsBodies (length (body_names (key b.name) b.items)) s)
  body_of_adds w s m u b None h = absurd h
  body_of_adds w s m u b (Some n) h = package_body_adds (env_of step w m (key b.name) (seen_in_body w l n u)) s u.item_pos n b

  library_body_adds : (env : Env) (s : State) (b : SubprogramBody) → IfOk (library_body env s b).answer (AddsBodies 1 s)
  library_body_adds env s b =
      answered (AddsBodies 1 s) b.specification.pos _
      (part_so (Add (at_unit s)) (AddsBodies 1 s) (specified (record env { is_library = false }) (at_unit s) b.specification).answer
      (λ q. body_judged (record env { is_library = false }) s b [] [] q >>= (λ next. rule (Some next)))
      (specified_adds (record env { is_library = false }) (at_unit s) b.specification)
      (λ q h. part_so (AddsBodies 1 s) (AddsBodies 1 s) (body_judged (record env { is_library = false }) s b [] [] q).answer (λ next. rule (Some next))
      (judged_adds (record env { is_library = false }) s b [] [] q (adds_both s (at_unit s) q.next (adds_at_unit s) h)) (λ next k. k)))

  pub bodies_adds : (w : World) (s : State) (n : ℕ) (u : LibraryUnit) (i : LibraryItem) → HasHome l i
      → IfOk (bodies_judged step l w s n u i).answer (AddsBodies (length (bodies_of_item i)) s)
  bodies_adds w s n u (library.PackageBody b) h = body_of_adds w s n u b (unit_named l.names (key b.name)) h
  bodies_adds w s n u (library.Subprogram b) h =
      library_body_adds (env_of step w n (key b.specification.name) (seen_in w l u (routine_entity (interface_of w n)))) s b
  bodies_adds w s n u (library.Package x) h = bodies_of_adds s s (adds_same s)
  bodies_adds w s n u (library.Instance i) h = bodies_of_adds s s (adds_same s)

  pub all_bodies_add : (w : World) (s : State) (n : ℕ) (us : List LibraryUnit) → Everywhere (λ u. HasHome l u.item) us
      → IfOk (all_bodies_judged step l w s n us).answer (AddsBodies (length (all_bodies us)) s)
  all_bodies_add w s n [] h = bodies_of_adds s s (adds_same s)
  all_bodies_add w s n (u ∷ us) h =
      answered (AddsBodies (length (all_bodies (u ∷ us))) s) nowhere _
      (part_so (AddsBodies (length (bodies_of_item u.item)) s) (AddsBodies (length (all_bodies (u ∷ us))) s) _
      (λ x. all_bodies_judged step l w x (n + 1) us >>= (λ rest. rule (Some rest)))
      (answered (AddsBodies (length (bodies_of_item u.item)) s) u.pos _
      (part_so (AddsBodies (length (bodies_of_item u.item)) s) (AddsBodies (length (bodies_of_item u.item)) s) (bodies_judged step l w s n u u.item).answer
      (λ y. rule (Some y)) (bodies_adds w s n u u.item h.0) (λ y k. k)))
      (λ x k. part_so (AddsBodies (length (all_bodies us)) x) (AddsBodies (length (all_bodies (u ∷ us))) s) (all_bodies_judged step l w x (n + 1) us).answer
      (λ rest. rule (Some rest)) (all_bodies_add w x (n + 1) us h.1)
      (λ rest r. subst (λ m. AddsBodies m s rest) (sym (length-append (bodies_of_item u.item) (all_bodies us)))
      (bodies_both (length (bodies_of_item u.item)) (length (all_bodies us)) s x rest k r))))
