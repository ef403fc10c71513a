-- What other units see of units takes no label.
use Rattle.std.proofs.Common.{◌≡◌, ◌+◌, ℕ, Bool, true, false, List, [], ◌∷◌, ◌++◌, map, reverse, length, Option, Some, None, option_map, IfSome, IfOk, slice_get, refl, sym, ap, ◌∙◌, subst}
use Rattle.cov_base.specs.Lists.{Everywhere}
use Rattle.cov_base.specs.declared.position.Pos.{Pos}
use Rattle.ada_syntax.specs.Tree as source
use Rattle.ada_syntax.specs.Tree.{expr_pos}
use Rattle.ada_syntax.specs.declared.name.Identifier.{Identifier}
use Rattle.ada_syntax.specs.declared.unit.Formal.{Formal}
use Rattle.ada_syntax.specs.declared.unit.FormalKind.{FormalKind}
use Rattle.ada_syntax.specs.declared.unit.FormalKind.TheVariants as formal
use Rattle.ada_syntax.specs.declared.unit.Instance.{Instance}
use Rattle.ada_syntax.specs.declared.unit.LibraryItem.{LibraryItem}
use Rattle.ada_syntax.specs.declared.unit.LibraryItem.TheVariants as library
use Rattle.ada_syntax.specs.declared.unit.PackageSpecification.{PackageSpecification}
use Rattle.ada_syntax.specs.declared.unit.SubprogramBody.{SubprogramBody}
use Rattle.ada_syntax.specs.declared.unit.Unit.{Unit as LibraryUnit}
use Rattle.ada_meaning.specs.Collected.{labels_of}
use Rattle.ada_meaning.specs.Objects.{AreDistinct, objects_of, IsDeclaredOnce}
use Rattle.ada_meaning.specs.Obligations.{numbers}
use Rattle.ada_meaning.specs.Program.{Program}
use Rattle.ada_meaning.specs.Types.{static_formal}
use Rattle.ada_rules.specs.Plan.{◌>>=◌, rule}
use Rattle.ada_rules.specs.Types.{type_in, range_in, fits}
use Rattle.ada_rules.specs.Entities.{key, Entity, hidden, formal_object, unit, Region, redefined, Actual, object_actual, subtype_seen}
use Rattle.ada_rules.specs.Environment.{typing, typed_rule, World, State, beginning_state, given, Env, with_local, new_identity, one_type_more, hide}
use Rattle.ada_rules.specs.Denoted.{nowhere}
use Rattle.ada_rules.specs.Expressions.{itself, denoted, judged, static_part, scalar_mark}
use Rattle.ada_rules.specs.Declarations.{in_range}
use Rattle.ada_rules.specs.Subprograms.{specified, declared_only, closed_by}
use Rattle.ada_rules.specs.Instances.{formal_mark, formal_routine, formal_type_declared, formal_declared, formals_declared, generic_named, formals_of, actual_for_name, any_actual, actual_plan, any_plan, actuals_judged}
use Rattle.ada_rules.specs.Library.{Library, instance_number}
use Rattle.ada_rules.specs.Units.{env_of, package_items, Walked, at_unit, formals_in, in_specification, with_package, package_judged, with_instance, instance_judged, with_subprogram, library_routine, library_subprogram, seen_in, interface_judged, interface_at, all_interfaces, all_bodies_judged, world_before}
use Rattle.legal_laws.proofs.KeptStatics.{static_keeps, expression_keeps, name_keeps, scalar_mark_keeps}
use Rattle.legal_laws.proofs.KnownBodies.{every_reversed, mapped_length}
use Rattle.legal_laws.proofs.NumberedObjects.{numbers_length}
use Rattle.legal_laws.proofs.Passing.{IfPassed, answered, part_so, typed_either, any_answer}
use Rattle.legal_programs.specs.Made.{AreMadeInTurn}
use Rattle.legal_programs.specs.Walked.{IsLegal}
use Rattle.legal_programs.proofs.Counted.{states_of, library_distinct, exceptions_distinct}
use Rattle.legal_programs.proofs.Passed.{of_ok}
use Rattle.legal_programs.proofs.MadeUnits.{Keep, statics_keep, specified_keeps, items_quiet, Quiet, all_bodies_in_turn}

-- formals
formal_type_keeps : (env : Env) (s : State) (i : Identifier) (k : ℕ) (integral : Bool) → IfPassed (formal_type_declared env s i k integral).outcome (Keep s)
formal_type_keeps env s i k integral =
    part_so (λ r. Unit {0}) (Keep s) (hide env.local i).answer
    (λ region. rule (Some (given (redefined (key i) (formal_mark (new_identity env s) k integral) region) (one_type_more s))))
    (any_answer (hide env.local i).answer) (λ region u. refl)

formal_keeps : (env : Env) (s : State) (k : ℕ) (f : FormalKind) → IfPassed (formal_declared env s k f).outcome (Keep s)
formal_keeps env s k (formal.DiscreteType i) = formal_type_keeps env s i k false
formal_keeps env s k (formal.IntegerType i) = formal_type_keeps env s i k true
formal_keeps env s k (formal.Object i m n) =
    part_so (λ r. Unit {0}) (Keep s) (hide env.local i).answer
    (λ region. scalar_mark (with_local env region) s n
    >>= (λ t. rule (Some (given (redefined (key i) (formal_object t.value.subtype (static_formal k)) region) t.next))))
    (any_answer (hide env.local i).answer)
    (λ region u. part_so (Keep s) (Keep s) (scalar_mark (with_local env region) s n).answer
    (λ t. rule (Some (given (redefined (key i) (formal_object t.value.subtype (static_formal k)) region) t.next)))
    (statics_keep s (scalar_mark (with_local env region) s n).answer (scalar_mark_keeps (with_local env region) s n)) (λ t h. h))
formal_keeps env s k (formal.Subprogram x) =
    part_so (λ r. Unit {0}) (Keep s) (hide env.local x.name).answer
    (λ region. specified (with_local env region) s x
    >>= (λ q. rule (Some (given (redefined (key x.name) (formal_routine k q.value) region) (declared_only s q.next)))))
    (any_answer (hide env.local x.name).answer)
    (λ region u. part_so (Keep s) (Keep s) (specified (with_local env region) s x).answer
    (λ q. rule (Some (given (redefined (key x.name) (formal_routine k q.value) region) (declared_only s q.next))))
    (specified_keeps (with_local env region) s x) (λ q h. h))

formals_keep : (env : Env) (s : State) (p : Pos) (k : ℕ) (fs : List Formal) → IfOk (formals_declared env s p k fs).answer (Keep s)
formals_keep env s p k [] = refl
formals_keep env s p k (f ∷ fs) =
    answered (Keep s) p _
    (part_so (Keep s) (Keep s) _ (λ region. formals_declared (with_local env region.value) region.next p (k + 1) fs >>= (λ rest. rule (Some rest)))
    (answered (Keep s) f.pos (formal_declared env s k f.kind).outcome (formal_keeps env s k f.kind))
    (λ region h. part_so (Keep region.next) (Keep s) (formals_declared (with_local env region.value) region.next p (k + 1) fs).answer (λ rest. rule (Some rest))
    (formals_keep (with_local env region.value) region.next p (k + 1) fs) (λ rest l. l ∙ h)))

-- actuals
names_keep : (env : Env) (s : State) (x : source.Name) → IfOk (denoted env s x).answer (Keep s)
names_keep env s x = statics_keep s (denoted env s x).answer (name_keeps env s x)

judged_keeps : (env : Env) (s : State) (e : source.Expr) → IfOk (judged env itself s e).answer (Keep s)
judged_keeps env s e = statics_keep s (judged env itself s e).answer (expression_keeps env s e)

given_keeps : {A : Type 0} (s t : State) (o : Option A) → t.statements ≡ s.statements → IfSome (option_map (λ a. given a t) o) (Keep s)
given_keeps s t None h = tt
given_keeps s t (Some a) h = h

actual_keeps : (env : Env) (s : State) (n : ℕ) (before : List Actual) (f : Entity) (x : source.Expr) → IfPassed (actual_plan env s n before f x).outcome (Keep s)
actual_keeps env s n before (formal_object t e) x =
    part_so (Keep s) (Keep s) (static_part env s (fits (type_in (subtype_seen n before t))) (in_range (range_in (subtype_seen n before t))) x).answer
    (λ v. rule (Some (given (object_actual v.value.value) v.next)))
    (statics_keep s (static_part env s (fits (type_in (subtype_seen n before t))) (in_range (range_in (subtype_seen n before t))) x).answer
    (static_keeps env s (fits (type_in (subtype_seen n before t))) (in_range (range_in (subtype_seen n before t))) x)) (λ v h. h)
actual_keeps env s n before f (source.named p x) =
    part_so (Keep s) (Keep s) (denoted env s x).answer
    (λ d. typed_rule env.step (given any_actual d.next) (option_map (λ a. given a d.next) (actual_for_name n before f d.value))) (names_keep env s x)
    (λ d h. typed_either (Keep s) env.step (given any_actual d.next) _ h (given_keeps s d.next (actual_for_name n before f d.value) h))
actual_keeps env s n before f x =
    part_so (Keep s) (Keep s) (judged env itself s x).answer (λ y. typed_rule env.step (given any_actual y.next) None) (judged_keeps env s x)
    (λ y h. typed_either (Keep s) env.step (given any_actual y.next) None h tt)

any_keeps : (env : Env) (s : State) (x : source.Expr) → IfPassed (any_plan env s x).outcome (Keep s)
any_keeps env s (source.named p x) =
    part_so (Keep s) (Keep s) (denoted env s x).answer (λ d. rule (Some (given any_actual d.next))) (names_keep env s x) (λ d h. h)
any_keeps env s x =
    part_so (Keep s) (Keep s) (judged env itself s x).answer (λ y. rule (Some (given any_actual y.next))) (judged_keeps env s x) (λ y h. h)

actuals_keep : (env : Env) (s : State) (p : Pos) (n : ℕ) (before : List Actual) (fs : Region) (xs : List source.Expr)
    → IfOk (actuals_judged env s p n before fs xs).answer (Keep s)
actuals_keep env s p n before [] [] = refl
actuals_keep env s p n before (f ∷ fs) [] =
    answered (Keep s) p _ (typed_either (Keep s) env.step (given before s) None refl tt)
actuals_keep env s p n before [] (x ∷ xs) =
    answered (Keep s) p _
    (part_so (Keep s) (Keep s) _ (λ a. actuals_judged env a.next p n before [] xs >>= (λ rest. typed_rule env.step rest None))
    (answered (Keep s) (expr_pos x) (any_plan env s x).outcome (any_keeps env s x))
    (λ a h. part_so (Keep a.next) (Keep s) (actuals_judged env a.next p n before [] xs).answer (λ rest. typed_rule env.step rest None)
    (actuals_keep env a.next p n before [] xs)
    (λ rest k. typed_either (Keep s) env.step rest None (k ∙ h) tt)))
actuals_keep env s p n before (f ∷ fs) (x ∷ xs) =
    answered (Keep s) p _
    (part_so (Keep s) (Keep s) _ (λ a. actuals_judged env a.next p n (before ++ a.value ∷ []) fs xs >>= (λ rest. rule (Some rest)))
    (answered (Keep s) (expr_pos x) (actual_plan env s n before f.1 x).outcome (actual_keeps env s n before f.1 x))
    (λ a h. part_so (Keep a.next) (Keep s) (actuals_judged env a.next p n (before ++ a.value ∷ []) fs xs).answer (λ rest. rule (Some rest))
    (actuals_keep env a.next p n (before ++ a.value ∷ []) fs xs) (λ rest k. k ∙ h)))

-- units
abbrev KeepAll : State → Walked → Type 0
KeepAll s x = x.next.statements ≡ s.statements

package_keeps : (env : Env) (s : State) (p : Pos) (n : ℕ) (x : PackageSpecification) → env.is_library ≡ true → IfOk (package_judged env s p n x).answer (KeepAll s)
package_keeps env s p n x library =
    answered (KeepAll s) p _
    (part_so (Keep (at_unit s)) (KeepAll s) (formals_declared (in_specification env n x []) (at_unit s) p 0 (formals_in x.formals)).answer
    (λ formals. package_items (in_specification env n x formals.value) formals.next p x.items
    >>= (λ region. closed_by p x.name x.end_name >>= (λ end. rule (Some (with_package env n x formals.value region)))))
    (formals_keep (in_specification env n x []) (at_unit s) p 0 (formals_in x.formals))
    (λ formals h. part_so (Quiet formals.next) (KeepAll s) (package_items (in_specification env n x formals.value) formals.next p x.items).answer
    (λ region. closed_by p x.name x.end_name >>= (λ end. rule (Some (with_package env n x formals.value region))))
    (items_quiet (in_specification env n x formals.value) formals.next p x.items library)
    (λ region k. part_so (λ u. Unit {0}) (KeepAll s) (closed_by p x.name x.end_name).answer
    (λ end. rule (Some (with_package env n x formals.value region))) (any_answer (closed_by p x.name x.end_name).answer)
    (λ end u. k.0 ∙ h))))

instance_keeps : (env : Env) (s : State) (p : Pos) (n k : ℕ) (i : Instance) → IfOk (instance_judged env s p n k i).answer (KeepAll s)
instance_keeps env s p n k i =
    answered (KeepAll s) p _
    (part_so (λ g. Unit {0}) (KeepAll s) (generic_named env i.generic_name).answer
    (λ g. actuals_judged env (at_unit s) p k [] (formals_of env.world g) i.actuals
    >>= (λ actuals. rule (Some (with_instance env.world p n k i g actuals.value actuals.next))))
    (any_answer (generic_named env i.generic_name).answer)
    (λ g u. part_so (Keep (at_unit s)) (KeepAll s) (actuals_judged env (at_unit s) p k [] (formals_of env.world g) i.actuals).answer
    (λ actuals. rule (Some (with_instance env.world p n k i g actuals.value actuals.next)))
    (actuals_keep env (at_unit s) p k [] (formals_of env.world g) i.actuals) (λ actuals h. h)))

library_keeps : (env : Env) (s : State) (n : ℕ) (b : SubprogramBody) → IfOk (library_subprogram env s n b).answer (KeepAll s)
library_keeps env s n b =
    answered (KeepAll s) b.specification.pos _
    (part_so (Keep (at_unit s)) (KeepAll s) (specified env (at_unit s) b.specification).answer
    (λ q. rule (Some (with_subprogram env.world n (library_routine env b q.value) (declared_only s q.next))))
    (specified_keeps env (at_unit s) b.specification) (λ q h. h))

module _ (l : Library) where
  interface_keeps : (w : World) (s : State) (n : ℕ) (u : LibraryUnit) (i : LibraryItem) → IfOk (interface_judged typing l w s n u i).answer (KeepAll s)
  interface_keeps w s n u (library.Package x) = package_keeps (env_of typing w n (key x.name) (seen_in w l u (unit n))) s u.item_pos n x refl
  interface_keeps w s n u (library.Instance i) =
      instance_keeps (env_of typing w n (key i.name) (seen_in w l u hidden)) s u.item_pos n (instance_number n l.units) i
  interface_keeps w s n u (library.Subprogram b) = library_keeps (env_of typing w n (key b.specification.name) (seen_in w l u hidden)) s n b
  interface_keeps w s n u (library.PackageBody b) = refl

  interface_at_keeps : (x : Walked) (n : ℕ) (o : Option LibraryUnit) → IfOk (interface_at typing l x n o).answer (KeepAll x.next)
  interface_at_keeps x n None = refl
  interface_at_keeps x n (Some u) =
      answered (KeepAll x.next) u.pos _
      (part_so (KeepAll x.next) (KeepAll x.next) (interface_judged typing l x.world x.next n u u.item).answer
      (λ y. rule (Some y)) (interface_keeps x.world x.next n u u.item) (λ y h. h))

  interfaces_keep : (x : Walked) (ns : List ℕ) → IfOk (all_interfaces typing l x ns).answer (KeepAll x.next)
  interfaces_keep x [] = refl
  interfaces_keep x (n ∷ ns) =
      answered (KeepAll x.next) nowhere _
      (part_so (KeepAll x.next) (KeepAll x.next) (interface_at typing l x n (slice_get l.units n)).answer
      (λ y. all_interfaces typing l y ns >>= (λ rest. rule (Some rest)))
      (interface_at_keeps x n (slice_get l.units n))
      (λ y h. part_so (KeepAll y.next) (KeepAll x.next) (all_interfaces typing l y ns).answer (λ rest. rule (Some rest))
      (interfaces_keep y ns) (λ rest k. k ∙ h)))

-- whole programs
made_from : (s : State) → s.statements ≡ 0 → s.subprograms ≡ [] → AreMadeInTurn s
made_from s e f = record {
  labels = subst (λ ss. map (λ l. l.number) (labels_of (reverse ss)) ≡ numbers 0 s.statements) (sym f) (ap (numbers 0) (sym e));
  distinct = subst (Everywhere (λ m. AreDistinct (objects_of m))) (sym f) tt;
}

pub all_in_turn : (l : Library) (main : List ℕ) (p : Program) (is : IsLegal l main p) → AreMadeInTurn is.walked.next
all_in_turn l main p is =
    let seen = of_ok (λ y. KeepAll beginning_state y)
    (all_interfaces typing l (record { world = world_before l; next = beginning_state }) l.order).answer is.walk.seen is.walk.interfaces
    (interfaces_keep l (record { world = world_before l; next = beginning_state }) l.order) in
    of_ok (λ t. AreMadeInTurn is.walk.seen.next → AreMadeInTurn t)
    (all_bodies_judged typing l is.walk.seen.world is.walk.seen.next 0 l.units).answer is.walked.next is.walk.bodies
    (all_bodies_in_turn l is.walk.seen.world is.walk.seen.next 0 l.units) (made_from is.walk.seen.next seen (states_of l main p is).seen.subprograms)

pub labels_numbered : (l : Library) (main : List ℕ) (p : Program) → IsLegal l main p
    → map (λ x. x.number) (labels_of p.subprograms) ≡ numbers 0 (length (labels_of p.subprograms))
labels_numbered l main p is =
    subst (λ q. map (λ x. x.number) (labels_of q.subprograms) ≡ numbers 0 (length (labels_of q.subprograms))) (sym is.made)
    (counted_so (map (λ x. x.number) (labels_of (reverse is.walked.next.subprograms))) is.walked.next.statements
    (length (labels_of (reverse is.walked.next.subprograms))) (mapped_length (λ x. x.number) (labels_of (reverse is.walked.next.subprograms)))
    (all_in_turn l main p is).labels)
  where
    counted_so : (xs : List ℕ) (n k : ℕ) → length xs ≡ k → xs ≡ numbers 0 n → xs ≡ numbers 0 k
    counted_so xs n k e h = h ∙ ap (numbers 0) (sym (numbers_length 0 n) ∙ (sym (ap length h) ∙ e))

locals_distinct : (l : Library) (main : List ℕ) (p : Program) → IsLegal l main p → Everywhere (λ m. AreDistinct (objects_of m)) p.subprograms
locals_distinct l main p is =
    subst (λ q. Everywhere (λ m. AreDistinct (objects_of m)) q.subprograms) (sym is.made)
    (every_reversed (λ m. AreDistinct (objects_of m)) is.walked.next.subprograms (all_in_turn l main p is).distinct)

pub declared_once : (l : Library) (main : List ℕ) (p : Program) → IsLegal l main p → IsDeclaredOnce p
declared_once l main p is = record {
  locals = locals_distinct l main p is;
  library = library_distinct l main p is;
  exceptions = exceptions_distinct l main p is;
}
