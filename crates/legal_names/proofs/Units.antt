-- Units keep the names of exceptions and instances, in both steps.
use Rattle.std.proofs.Common.{◌≡◌, inl, inr, sym, subst, ◌+◌, ℕ, zero, suc, false, List, [], ◌∷◌, ◌++◌, Option, Some, None, option_map, IfSome, IfOk, slice_get, refl}
use Rattle.cov_base.specs.Lists.{Everywhere, Somewhere}
use Rattle.cov_base.specs.declared.position.Pos.{Pos}
use Rattle.ada_syntax.specs.Tree as source
use Rattle.ada_syntax.specs.Tree.{expr_pos}
use Rattle.ada_syntax.specs.declared.unit.Instance.{Instance}
use Rattle.ada_syntax.specs.declared.unit.LibraryItem.{LibraryItem}
use Rattle.ada_syntax.specs.declared.unit.LibraryItem.TheVariants as library
use Rattle.ada_syntax.specs.declared.unit.PackageBody.{PackageBody}
use Rattle.ada_syntax.specs.declared.unit.PackageSpecification.{PackageSpecification}
use Rattle.ada_syntax.specs.declared.unit.SubprogramBody.{SubprogramBody}
use Rattle.ada_syntax.specs.declared.unit.Unit.{Unit as LibraryUnit}
use Rattle.ada_rules.specs.Plan.{Plan, ◌>>=◌, rule}
use Rattle.ada_rules.specs.Types.{type_in, range_in, fits}
use Rattle.ada_rules.specs.Entities.{key, Entity, hidden, formal_object, unit, Region, Actual, object_actual, subtype_seen}
use Rattle.ada_rules.specs.Environment.{Step, typed_rule, World, interface_of, State, Given, given, Env}
use Rattle.ada_rules.specs.Denoted.{nowhere}
use Rattle.ada_rules.specs.Expressions.{itself, denoted, judged, static_part}
use Rattle.ada_rules.specs.Declarations.{in_range}
use Rattle.ada_rules.specs.Subprograms.{specified, declared_only, closed_by, body_judged}
use Rattle.ada_rules.specs.Instances.{formals_declared, generic_named, formals_of, actual_for_name, any_actual, actual_plan, any_plan, actuals_judged}
use Rattle.ada_rules.specs.Library.{Library, unit_named, instance_number}
use Rattle.ada_rules.specs.Units.{env_of, package_items, body_items, Walked, at_unit, behind_unit, formals_in, in_specification, with_package, package_judged, with_instance, instance_judged, with_subprogram, library_routine, library_subprogram, seen_in, interface_judged, interface_at, all_interfaces, region_of, seen_in_body, in_body, package_body, package_body_of, library_body, routine_entity, bodies_judged, all_bodies_judged}
use Rattle.legal_laws.specs.Kept.{OnlyDecides}
use Rattle.legal_laws.proofs.Passing.{IfPassed, answered, part_so, weaker_ok, typed_either, any_answer}
use Rattle.legal_laws.proofs.KeptExpressions.{denoted_behind}
use Rattle.legal_names.specs.Spelled.{IsWord, IsSpelled, IsBodySpelled, IsItemSpelled, IsPackageItemSpelled, IsBodyItemSpelled, AreUnitsSpelled}
use Rattle.legal_names.specs.Named.{IsNamedEnv, Keeps, KeepsUnits, IsOfUnits}
use Rattle.legal_names.proofs.Words.{no_word, key_word}
use Rattle.legal_names.proofs.Declared.{keeps_same, keeps_none, keeps_both, keeps_decides, Keep, expression_keeps, static_keeps, mapped_keeps}
use Rattle.legal_names.proofs.Bodies.{specified_keeps, judged_keeps, items_keep, body_items_keep, formals_keep}

-- actuals
name_keeps : (env : Env) (s : State) (n : source.Name) → IfOk (denoted env s n).answer (Keep s)
name_keeps env s n =
    weaker_ok (λ x. OnlyDecides s x.next) (Keep s) (denoted env s n).answer (denoted_behind env s n) (λ x h. keeps_decides s x.next h)

named_actual_keeps : (env : Env) (s : State) (n : ℕ) (before : List Actual) (f : Entity) (x : source.Name)
    → IfPassed (denoted env s x >>= (λ d. typed_rule env.step (given any_actual d.next) (option_map (λ a. given a d.next) (actual_for_name n before f d.value)))).outcome (Keep s)
named_actual_keeps env s n before f x =
    part_so (Keep s) (Keep s) (denoted env s x).answer
    (λ d. typed_rule env.step (given any_actual d.next) (option_map (λ a. given a d.next) (actual_for_name n before f d.value))) (name_keeps env s x)
    (λ d h. typed_either (Keep s) env.step (given any_actual d.next) _ h (mapped_keeps env s d.next (λ a. a) (actual_for_name n before f d.value) h))

judged_actual_keeps : (env : Env) (s : State) (e : source.Expr)
    → IfPassed (judged env itself s e >>= (λ y. typed_rule env.step (given any_actual y.next) None)).outcome (Keep s)
judged_actual_keeps env s e =
    part_so (Keep s) (Keep s) (judged env itself s e).answer (λ y. typed_rule env.step (given any_actual y.next) None) (expression_keeps env s e)
    (λ y h. typed_either (Keep s) env.step (given any_actual y.next) None h tt)

actual_keeps : (env : Env) (s : State) (n : ℕ) (before : List Actual) (f : Entity) (x : source.Expr) → IfPassed (actual_plan env s n before f x).outcome (Keep s)
actual_keeps env s n before (formal_object t e) x =
    part_so (Keep s) (Keep s) (static_part env s (fits (type_in (subtype_seen n before t))) (in_range (range_in (subtype_seen n before t))) x).answer
    (λ v. rule (Some (given (object_actual v.value.value) v.next)))
    (static_keeps env s (fits (type_in (subtype_seen n before t))) (in_range (range_in (subtype_seen n before t))) x) (λ v h. h)
actual_keeps env s n before f (source.named p x) = named_actual_keeps env s n before f x
actual_keeps env s n before f x = judged_actual_keeps env s x

any_keeps : (env : Env) (s : State) (x : source.Expr) → IfPassed (any_plan env s x).outcome (Keep s)
any_keeps env s (source.named p x) =
    part_so (Keep s) (Keep s) (denoted env s x).answer (λ d. rule (Some (given any_actual d.next))) (name_keeps env s x) (λ d h. h)
any_keeps env s x =
    part_so (Keep s) (Keep s) (judged env itself s x).answer (λ y. rule (Some (given any_actual y.next))) (expression_keeps env s x) (λ y h. h)

pub actuals_keep : (env : Env) (s : State) (p : Pos) (n : ℕ) (before : List Actual) (fs : Region) (xs : List source.Expr)
    → IfOk (actuals_judged env s p n before fs xs).answer (Keep s)
actuals_keep env s p n before [] [] = keeps_same s
actuals_keep env s p n before (f ∷ fs) [] =
    answered (Keep s) p _ (typed_either (Keep s) env.step (given before s) None (keeps_same s) tt)
actuals_keep env s p n before [] (x ∷ xs) =
    answered (Keep s) p _
    (part_so (Keep s) (Keep s) _ (λ a. actuals_judged env a.next p n before [] xs >>= (λ rest. typed_rule env.step rest None))
    (answered (Keep s) (expr_pos x) (any_plan env s x).outcome (any_keeps env s x))
    (λ a h. part_so (Keep a.next) (Keep s) (actuals_judged env a.next p n before [] xs).answer (λ rest. typed_rule env.step rest None)
    (actuals_keep env a.next p n before [] xs)
    (λ rest k. let all = keeps_both s a.next rest.next h k in typed_either (Keep s) env.step rest None all tt)))
actuals_keep env s p n before (f ∷ fs) (x ∷ xs) =
    answered (Keep s) p _
    (part_so (Keep s) (Keep s) _ (λ a. actuals_judged env a.next p n (before ++ a.value ∷ []) fs xs >>= (λ rest. rule (Some rest)))
    (answered (Keep s) (expr_pos x) (actual_plan env s n before f.1 x).outcome (actual_keeps env s n before f.1 x))
    (λ a h. part_so (Keep a.next) (Keep s) (actuals_judged env a.next p n (before ++ a.value ∷ []) fs xs).answer (λ rest. rule (Some rest))
    (actuals_keep env a.next p n (before ++ a.value ∷ []) fs xs) (λ rest k. keeps_both s a.next rest.next h k)))

-- what other units see of a unit
abbrev pub Interfaces : List LibraryUnit → State → Walked → Type 0
Interfaces us s x = KeepsUnits us s x.next

units_of_keeps : (us : List LibraryUnit) (s t : State) → Keeps s t → KeepsUnits us s t
units_of_keeps us s t h = record { names = h.names; instances = λ k. subst (Everywhere (IsOfUnits us)) (sym h.instances) k }

units_both : (us : List LibraryUnit) (s t u : State) → KeepsUnits us s t → KeepsUnits us t u → KeepsUnits us s u
units_both us s t u h k = record { names = λ n. k.names (h.names n); instances = λ n. k.instances (h.instances n) }

pub keeps_at_unit : (s : State) → Keeps s (at_unit s)
keeps_at_unit s = keeps_none s (at_unit s) refl refl refl refl refl refl refl refl refl refl refl

behind_keeps : (env : Env) (n : ℕ) (s t : State) → Keeps s t → Keeps s (behind_unit env n t)
behind_keeps env n s t h = record { names = h.names; instances = h.instances }

module _ (us : List LibraryUnit) (env : Env) (s : State) (p : Pos) (n : ℕ) (x : PackageSpecification) where
  abbrev items_in : Given Region → Plan Walked
  items_in formals =
      package_items (in_specification env n x formals.value) formals.next p x.items
      >>= (λ region. closed_by p x.name x.end_name >>= (λ end. rule (Some (with_package env n x formals.value region))))

  package_keeps : IsNamedEnv env → Everywhere IsPackageItemSpelled x.items → IfOk (package_judged env s p n x).answer (Interfaces us s)
  package_keeps named spelled =
      answered (Interfaces us s) p _
      (part_so (Keep (at_unit s)) (Interfaces us s) (formals_declared (in_specification env n x []) (at_unit s) p 0 (formals_in x.formals)).answer items_in
      (formals_keep (in_specification env n x []) (at_unit s) p 0 (formals_in x.formals))
      (λ formals h. part_so (Keep formals.next) (Interfaces us s) (package_items (in_specification env n x formals.value) formals.next p x.items).answer
      (λ region. closed_by p x.name x.end_name >>= (λ end. rule (Some (with_package env n x formals.value region))))
      (items_keep (in_specification env n x formals.value) formals.next p x.items named spelled)
      (λ region k. part_so (λ u. Unit {0}) (Interfaces us s) (closed_by p x.name x.end_name).answer
      (λ end. rule (Some (with_package env n x formals.value region))) (any_answer (closed_by p x.name x.end_name).answer)
      (λ end u. units_of_keeps us s _ (behind_keeps (in_specification env n x []) n s region.next
      (keeps_both s (at_unit s) region.next (keeps_at_unit s) (keeps_both (at_unit s) formals.next region.next h k)))))))

instance_keeps : (us : List LibraryUnit) (env : Env) (s : State) (p : Pos) (n k : ℕ) (i : Instance) → IsSpelled i.name → Somewhere (λ u. p ≡ u.item_pos) us → IfOk (instance_judged env s p n k i).answer (Interfaces us s)
instance_keeps us env s p n k i spelled there =
    answered (Interfaces us s) p _
    (part_so (λ g. Unit {0}) (Interfaces us s) (generic_named env i.generic_name).answer
    (λ g. actuals_judged env (at_unit s) p k [] (formals_of env.world g) i.actuals
    >>= (λ actuals. rule (Some (with_instance env.world p n k i g actuals.value actuals.next))))
    (any_answer (generic_named env i.generic_name).answer)
    (λ g u. part_so (Keep (at_unit s)) (Interfaces us s) (actuals_judged env (at_unit s) p k [] (formals_of env.world g) i.actuals).answer
    (λ actuals. rule (Some (with_instance env.world p n k i g actuals.value actuals.next)))
    (actuals_keep env (at_unit s) p k [] (formals_of env.world g) i.actuals)
    (λ actuals h. let all = keeps_both s (at_unit s) actuals.next (keeps_at_unit s) h in
    record {
      names = all.names;
      instances = λ m. (record { name = key_word i.name spelled; place = there }, subst (Everywhere (IsOfUnits us)) (sym all.instances) m);
    })))

library_keeps : (us : List LibraryUnit) (env : Env) (s : State) (n : ℕ) (b : SubprogramBody) → IfOk (library_subprogram env s n b).answer (Interfaces us s)
library_keeps us env s n b =
    answered (Interfaces us s) b.specification.pos _
    (part_so (Keep (at_unit s)) (Interfaces us s) (specified env (at_unit s) b.specification).answer
    (λ q. rule (Some (with_subprogram env.world n (library_routine env b q.value) (declared_only s q.next))))
    (specified_keeps env (at_unit s) b.specification)
    (λ q h. units_of_keeps us s (declared_only s q.next) (keeps_both s (at_unit s) (declared_only s q.next) (keeps_at_unit s)
    (keeps_both (at_unit s) q.next (declared_only s q.next) h
    (keeps_none q.next (declared_only s q.next) refl refl refl refl refl refl refl refl refl refl refl)))))

record IsAt (us : List LibraryUnit) (u : LibraryUnit) : Type 0 where
  pub spelled : IsItemSpelled u.item
  pub place : Somewhere (λ v. u.item_pos ≡ v.item_pos) us

later_at : (v : LibraryUnit) (us : List LibraryUnit) (o : Option LibraryUnit) → IfSome o (IsAt us) → IfSome o (IsAt (v ∷ us))
later_at v us None h = tt
later_at v us (Some u) h = record { spelled = h.spelled; place = inr h.place }

unit_at : (us : List LibraryUnit) (n : ℕ) → AreUnitsSpelled us → IfSome (slice_get us n) (IsAt us)
unit_at [] n h = tt
unit_at (u ∷ us) zero h = record { spelled = h.0; place = inl refl }
unit_at (u ∷ us) (suc n) h = later_at u us (slice_get us n) (unit_at us n h.1)

module _ (step : Step) (l : Library) where
  abbrev us : List LibraryUnit
  us = l.units

  interface_keeps : (w : World) (s : State) (n : ℕ) (u : LibraryUnit) (i : LibraryItem) → IsItemSpelled i → Somewhere (λ v. u.item_pos ≡ v.item_pos) us
      → IfOk (interface_judged step l w s n u i).answer (Interfaces us s)
  interface_keeps w s n u (library.Package x) h there =
      package_keeps us (env_of step w n (key x.name) (seen_in w l u (unit n))) s u.item_pos n x (key_word x.name h.0, no_word) h.1
  interface_keeps w s n u (library.Instance i) h there =
      instance_keeps us (env_of step w n (key i.name) (seen_in w l u hidden)) s u.item_pos n (instance_number n l.units) i h there
  interface_keeps w s n u (library.Subprogram b) h there = library_keeps us (env_of step w n (key b.specification.name) (seen_in w l u hidden)) s n b
  interface_keeps w s n u (library.PackageBody b) h there = units_of_keeps us s s (keeps_same s)

  interface_at_keeps : (x : Walked) (n : ℕ) (o : Option LibraryUnit) → IfSome o (IsAt us) → IfOk (interface_at step l x n o).answer (Interfaces us x.next)
  interface_at_keeps x n None h = units_of_keeps us x.next x.next (keeps_same x.next)
  interface_at_keeps x n (Some u) h =
      answered (Interfaces us x.next) u.pos _
      (part_so (Interfaces us x.next) (Interfaces us x.next) (interface_judged step l x.world x.next n u u.item).answer
      (λ y. rule (Some y)) (interface_keeps x.world x.next n u u.item h.spelled h.place) (λ y k. k))

  pub interfaces_keep : AreUnitsSpelled us → (x : Walked) (ns : List ℕ) → IfOk (all_interfaces step l x ns).answer (Interfaces us x.next)
  interfaces_keep spelled x [] = units_of_keeps us x.next x.next (keeps_same x.next)
  interfaces_keep spelled x (n ∷ ns) =
      answered (Interfaces us x.next) nowhere _
      (part_so (Interfaces us x.next) (Interfaces us x.next) (interface_at step l x n (slice_get l.units n)).answer
      (λ y. all_interfaces step l y ns >>= (λ rest. rule (Some rest)))
      (interface_at_keeps x n (slice_get l.units n) (unit_at l.units n spelled))
      (λ y h. part_so (Interfaces us y.next) (Interfaces us x.next) (all_interfaces step l y ns).answer (λ rest. rule (Some rest))
      (interfaces_keep spelled y ns)
      (λ rest k. units_both us x.next y.next rest.next h k)))

  -- bodies
  package_body_keeps : (env : Env) (s : State) (p : Pos) (n : ℕ) (b : PackageBody) → IsNamedEnv env → Everywhere IsBodyItemSpelled b.items
      → IfOk (package_body env s p n b).answer (Keeps s)
  package_body_keeps env s p n b named spelled =
      answered (Keeps s) p _
      (part_so (λ (g : Given Region). Keeps (at_unit s) g.next) (Keeps s)
      (body_items (in_body env n (interface_of env.world n) (region_of (interface_of env.world n))) (at_unit s) p b.items).answer
      (λ region. closed_by p b.name b.end_name >>= (λ end. rule (Some (behind_unit (in_body env n (interface_of env.world n) []) n region.next))))
      (body_items_keep (in_body env n (interface_of env.world n) (region_of (interface_of env.world n))) (at_unit s) p b.items named spelled)
      (λ region h. part_so (λ u. Unit {0}) (Keeps s) (closed_by p b.name b.end_name).answer
      (λ end. rule (Some (behind_unit (in_body env n (interface_of env.world n) []) n region.next)))
      (any_answer (closed_by p b.name b.end_name).answer)
      (λ end u. behind_keeps (in_body env n (interface_of env.world n) []) n s region.next (keeps_both s (at_unit s) region.next (keeps_at_unit s) h))))

  body_of_keeps : (w : World) (s : State) (m : ℕ) (u : LibraryUnit) (b : PackageBody) (o : Option ℕ) → IsSpelled b.name → Everywhere IsBodyItemSpelled b.items
      → IfOk (package_body_of step l w s m u b o).answer (Keeps s)
  body_of_keeps w s m u b None named spelled = keeps_same s
  body_of_keeps w s m u b (Some n) named spelled =
      package_body_keeps (env_of step w m (key b.name) (seen_in_body w l n u)) s u.item_pos n b (key_word b.name named, no_word) spelled

  library_body_keeps : (env : Env) (s : State) (b : SubprogramBody) → IsWord env.unit_name → IsBodySpelled b → IfOk (library_body env s b).answer (Keeps s)
  library_body_keeps env s b named spelled =
      answered (Keeps s) b.specification.pos _
      (part_so (Keep (at_unit s)) (Keeps s) (specified (record env { is_library = false }) (at_unit s) b.specification).answer
      (λ q. body_judged (record env { is_library = false }) s b [] [] q >>= (λ next. rule (Some next)))
      (specified_keeps (record env { is_library = false }) (at_unit s) b.specification)
      (λ q h. part_so (Keeps s) (Keeps s) (body_judged (record env { is_library = false }) s b [] [] q).answer (λ next. rule (Some next))
      (judged_keeps (record env { is_library = false }) s b [] [] q (keeps_both s (at_unit s) q.next (keeps_at_unit s) h) named no_word spelled) (λ next k. k)))

  bodies_keeps : (w : World) (s : State) (n : ℕ) (u : LibraryUnit) (i : LibraryItem) → IsItemSpelled i
      → IfOk (bodies_judged step l w s n u i).answer (Keeps s)
  bodies_keeps w s n u (library.PackageBody b) h = body_of_keeps w s n u b (unit_named l.names (key b.name)) h.0 h.1
  bodies_keeps w s n u (library.Subprogram b) h =
      library_body_keeps (env_of step w n (key b.specification.name) (seen_in w l u (routine_entity (interface_of w n)))) s b (key_word b.specification.name h.0) h
  bodies_keeps w s n u (library.Package x) h = keeps_same s
  bodies_keeps w s n u (library.Instance i) h = keeps_same s

  pub all_bodies_keep : (w : World) (s : State) (n : ℕ) (us : List LibraryUnit) → AreUnitsSpelled us → IfOk (all_bodies_judged step l w s n us).answer (Keeps s)
  all_bodies_keep w s n [] h = keeps_same s
  all_bodies_keep w s n (u ∷ us) h =
      answered (Keeps s) nowhere _
      (part_so (Keeps s) (Keeps s) _
      (λ x. all_bodies_judged step l w x (n + 1) us >>= (λ rest. rule (Some rest)))
      (answered (Keeps s) u.pos _
      (part_so (Keeps s) (Keeps s) (bodies_judged step l w s n u u.item).answer
      (λ y. rule (Some y)) (bodies_keeps w s n u u.item h.0) (λ y k. k)))
      (λ x k. part_so (Keeps x) (Keeps s) (all_bodies_judged step l w x (n + 1) us).answer
      (λ rest. rule (Some rest)) (all_bodies_keep w x (n + 1) us h.1)
      (λ rest r. keeps_both s x rest k r)))
