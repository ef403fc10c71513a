-- Units number the decisions of their bodies in turn.
use Rattle.std.proofs.Common.{◌≡◌, ◌+◌, ℕ, zero, suc, Bool, true, false, if◌then◌else◌, List, [], ◌∷◌, ◌++◌, Option, Some, None, option_map, IfSome, IfOk, slice_get, set, refl}
use Rattle.std.specs.Prelude.{unwrap_or, is_some}
use Rattle.cov_base.specs.Lists.{Everywhere}
use Rattle.cov_base.specs.declared.position.Pos.{Pos}
use Rattle.ada_syntax.specs.Tree as source
use Rattle.ada_syntax.specs.Tree.{Name, expr_pos}
use Rattle.ada_syntax.specs.declared.name.Identifier.{Identifier}
use Rattle.ada_syntax.specs.declared.unit.Formal.{Formal}
use Rattle.ada_syntax.specs.declared.unit.FormalKind.{FormalKind}
use Rattle.ada_syntax.specs.declared.unit.FormalKind.TheVariants as formal
use Rattle.ada_syntax.specs.declared.unit.Instance.{Instance}
use Rattle.ada_syntax.specs.declared.unit.LibraryItem.{LibraryItem}
use Rattle.ada_syntax.specs.declared.unit.LibraryItem.TheVariants as library
use Rattle.ada_syntax.specs.declared.unit.PackageBody.{PackageBody}
use Rattle.ada_syntax.specs.declared.unit.PackageSpecification.{PackageSpecification}
use Rattle.ada_syntax.specs.declared.unit.SubprogramBody.{SubprogramBody}
use Rattle.ada_syntax.specs.declared.unit.Unit.{Unit as LibraryUnit}
use Rattle.ada_meaning.specs.Types.{static_formal}
use Rattle.ada_rules.specs.Plan.{◌>>=◌, rule}
use Rattle.ada_rules.specs.Types.{type_in, range_in, fits}
use Rattle.ada_rules.specs.Entities.{key, same_name, Entity, hidden, mark, literal, object, formal_object, routine, raisable, component, test_io, unit, Region, entity_of, redefined, Actual, object_actual, subtype_seen, seen, shown}
use Rattle.ada_rules.specs.Environment.{typing, typed_rule, Interface, no_interface, package_interface, generic_interface, instance_interface, subprogram_interface, World, interface_of, entity_of_unit, entity_of_interface, State, Given, given, Env, with_local, new_identity, one_type_more, hide}
use Rattle.ada_rules.specs.Denoted.{nowhere, Denoted, a_mark, a_routine}
use Rattle.ada_rules.specs.Expressions.{itself, part_of_generic, unless_formal, part_of_interface, denoted, judged, static_part, scalar_mark}
use Rattle.ada_rules.specs.Declarations.{in_range}
use Rattle.ada_rules.specs.Subprograms.{specified, declared_only, closed_by, body_judged}
use Rattle.ada_rules.specs.Instances.{formal_mark, formal_routine, formal_type_declared, formal_declared, formals_declared, generic_named, formals_of, actual_for_name, any_actual, actual_plan, actuals_judged}
use Rattle.ada_rules.specs.Library.{Library, unit_named, instance_number, is_test_io, denoted_in_with, seen_too, with_seen, seen_more, clause_names, item_name}
use Rattle.ada_rules.specs.Units.{in_package, env_of, package_items, body_items, Walked, at_unit, behind_unit, formals_in, in_specification, interface_with, with_package, package_judged, with_instance, instance_judged, with_subprogram, library_routine, library_subprogram, seen_in, interface_judged, interface_at, all_interfaces, region_of, withs_of, seen_in_body, in_body, package_body, package_body_of, library_body, routine_entity, bodies_judged, all_bodies_judged}
use Rattle.legal_laws.proofs.Passing.{IfPassed, if_map, answered, part_so, both_ok, typed_so, any_answer}
use Rattle.legal_programs.specs.Deciding.{Decides, IsWhole, IsWholeRegion, IsWholeEnv, in_denoted, DenotesFrom}
use Rattle.legal_programs.specs.WholeWorld.{IsWholeInterface, IsWholeWorld}
use Rattle.legal_programs.proofs.Adding.{adds_both, Add}
use Rattle.legal_programs.proofs.ExtendingUnits.{adds_at_unit}
use Rattle.legal_programs.proofs.Deciding.{decides_same, decides_before}
use Rattle.legal_programs.proofs.DecidedExpressions.{denoted_decides, entity_whole, shown_whole}
use Rattle.legal_programs.proofs.DecidedParts.{Calm, static_calm, scalar_mark_calm}
use Rattle.legal_programs.proofs.Extending.{specified_adds}
use Rattle.legal_programs.proofs.WholeRegions.{local_whole, hidden_whole, redefined_whole}
use Rattle.legal_programs.proofs.DecidedBodies.{Bodies, Items, Profiled, Quietly, Turn, body_items_turn, calm_both, calm_same, items_calm, judged_turn, specified_calm, turn_calm}

-- formals and actuals decide nothing
formal_type_calm : (env : Env) → IsWholeEnv env → (s : State) (i : Identifier) (k : ℕ) (integral : Bool)
    → IfPassed (formal_type_declared env s i k integral).outcome (Quietly s)
formal_type_calm env whole s i k integral =
    part_so IsWholeRegion (Quietly s) (hide env.local i).answer
    (λ region. rule (Some (given (redefined (key i) (formal_mark (new_identity env s) k integral) region) (one_type_more s))))
    (hidden_whole env.local i whole.regions.0)
    (λ region u. (calm_same s (one_type_more s) refl refl, redefined_whole (key i) (formal_mark (new_identity env s) k integral) region tt u))

formal_calm : (env : Env) → env.step ≡ typing → IsWholeEnv env → (s : State) (k : ℕ) (f : FormalKind) → IfPassed (formal_declared env s k f).outcome (Quietly s)
formal_calm env step whole s k (formal.DiscreteType i) = formal_type_calm env whole s i k false
formal_calm env step whole s k (formal.IntegerType i) = formal_type_calm env whole s i k true
formal_calm env step whole s k (formal.Object i m n) =
    part_so IsWholeRegion (Quietly s) (hide env.local i).answer
    (λ region. scalar_mark (with_local env region) s n
    >>= (λ t. rule (Some (given (redefined (key i) (formal_object t.value.subtype (static_formal k)) region) t.next))))
    (hidden_whole env.local i whole.regions.0)
    (λ region u. part_so (Calm s) (Quietly s) (scalar_mark (with_local env region) s n).answer
    (λ t. rule (Some (given (redefined (key i) (formal_object t.value.subtype (static_formal k)) region) t.next)))
    (scalar_mark_calm (with_local env region) step (local_whole env region whole u) s n)
    (λ t h. (h, redefined_whole (key i) (formal_object t.value.subtype (static_formal k)) region tt u)))
formal_calm env step whole s k (formal.Subprogram x) =
    part_so IsWholeRegion (Quietly s) (hide env.local x.name).answer
    (λ region. specified (with_local env region) s x
    >>= (λ q. rule (Some (given (redefined (key x.name) (formal_routine k q.value) region) (declared_only s q.next)))))
    (hidden_whole env.local x.name whole.regions.0)
    (λ region u. part_so (Profiled s) (Quietly s) (specified (with_local env region) s x).answer
    (λ q. rule (Some (given (redefined (key x.name) (formal_routine k q.value) region) (declared_only s q.next))))
    (specified_calm (with_local env region) step (local_whole env region whole u) s x)
    (λ q h. (
      calm_both s q.next (declared_only s q.next) h.0 (calm_same q.next (declared_only s q.next) refl refl),
      redefined_whole (key x.name) (formal_routine k q.value) region tt u,
    )))

formals_calm : (env : Env) → env.step ≡ typing → IsWholeEnv env → (s : State) (p : Pos) (k : ℕ) (fs : List Formal)
    → IfOk (formals_declared env s p k fs).answer (Quietly s)
formals_calm env step whole s p k [] = (decides_same s, whole.regions.0)
formals_calm env step whole s p k (f ∷ fs) =
    answered (Quietly s) p _
    (part_so (Quietly s) (Quietly s) _ (λ region. formals_declared (with_local env region.value) region.next p (k + 1) fs >>= (λ rest. rule (Some rest)))
    (answered (Quietly s) f.pos (formal_declared env s k f.kind).outcome (formal_calm env step whole s k f.kind))
    (λ region h. part_so (Quietly region.next) (Quietly s) (formals_declared (with_local env region.value) region.next p (k + 1) fs).answer (λ rest. rule (Some rest))
    (formals_calm (with_local env region.value) step (local_whole env region.value whole h.1) region.next p (k + 1) fs)
    (λ rest l. (calm_both s region.next rest.next h.0 l.0, l.1))))

name_calm : (s : State) (n : ℕ) (before : List Actual) (f : Entity) (d : Given Denoted) → DenotesFrom s d
    → IfSome (option_map (λ a. given a d.next) (actual_for_name n before f d.value)) (Calm s)
name_calm s n before f d h = of_both f d.value (h.decides 0)
  where
    if_given : (b : Bool) (a : Actual) → Decides s [] d.next → IfSome (option_map (λ x. given x d.next) (if b then Some a else None)) (Calm s)
    if_given true a k = k
    if_given false a k = tt

    of_both : (f : Entity) (x : Denoted) → Decides s (in_denoted 0 x) d.next → IfSome (option_map (λ a. given a d.next) (actual_for_name n before f x)) (Calm s)
    of_both (mark i t) (a_mark j u) k = if_given _ _ k
    of_both (routine g) (a_routine r) k = if_given _ _ k
    of_both g x k = tt

actual_calm : (env : Env) → env.step ≡ typing → IsWholeEnv env → (s : State) (n : ℕ) (before : List Actual) (f : Entity) (x : source.Expr)
    → IfPassed (actual_plan env s n before f x).outcome (Calm s)
actual_calm env step whole s n before (formal_object t e) x =
    part_so (Calm s) (Calm s) (static_part env s (fits (type_in (subtype_seen n before t))) (in_range (range_in (subtype_seen n before t))) x).answer
    (λ v. rule (Some (given (object_actual v.value.value) v.next)))
    (static_calm env step whole s (fits (type_in (subtype_seen n before t))) (in_range (range_in (subtype_seen n before t))) x) (λ v h. h)
actual_calm env step whole s n before f (source.named p x) =
    part_so (DenotesFrom s) (Calm s) (denoted env s x).answer
    (λ d. typed_rule env.step (given any_actual d.next) (option_map (λ a. given a d.next) (actual_for_name n before f d.value)))
    (denoted_decides env step whole s x)
    (λ d h. typed_so (Calm s) env.step (given any_actual d.next) _ step (name_calm s n before f d h))
actual_calm env step whole s n before f x =
    part_so (λ y. Unit {0}) (Calm s) (judged env itself s x).answer (λ y. typed_rule env.step (given any_actual y.next) None)
    (any_answer (judged env itself s x).answer) (λ y h. typed_so (Calm s) env.step (given any_actual y.next) None step tt)

actuals_calm : (env : Env) → env.step ≡ typing → IsWholeEnv env → (s : State) (p : Pos) (n : ℕ) (before : List Actual) (fs : Region) (xs : List source.Expr)
    → IfOk (actuals_judged env s p n before fs xs).answer (Calm s)
actuals_calm env step whole s p n before [] [] = decides_same s
actuals_calm env step whole s p n before (f ∷ fs) [] =
    answered (Calm s) p _ (typed_so (Calm s) env.step (given before s) None step tt)
actuals_calm env step whole s p n before [] (x ∷ xs) =
    answered (Calm s) p _
    (part_so (λ a. Unit {0}) (Calm s) _ (λ a. actuals_judged env a.next p n before [] xs >>= (λ rest. typed_rule env.step rest None))
    (any_answer _)
    (λ a h. part_so (λ r. Unit {0}) (Calm s) (actuals_judged env a.next p n before [] xs).answer (λ rest. typed_rule env.step rest None)
    (any_answer (actuals_judged env a.next p n before [] xs).answer)
    (λ rest k. typed_so (Calm s) env.step rest None step tt)))
actuals_calm env step whole s p n before (f ∷ fs) (x ∷ xs) =
    answered (Calm s) p _
    (part_so (Calm s) (Calm s) _ (λ a. actuals_judged env a.next p n (before ++ a.value ∷ []) fs xs >>= (λ rest. rule (Some rest)))
    (answered (Calm s) (expr_pos x) (actual_plan env s n before f.1 x).outcome (actual_calm env step whole s n before f.1 x))
    (λ a h. part_so (Calm a.next) (Calm s) (actuals_judged env a.next p n (before ++ a.value ∷ []) fs xs).answer (λ rest. rule (Some rest))
    (actuals_calm env step whole a.next p n (before ++ a.value ∷ []) fs xs) (λ rest k. calm_both s a.next rest.next h k)))

-- what units see of each other
pub every_at : {X : Type 0} (P : X → Type 0) (xs : List X) (n : ℕ) → Everywhere P xs → IfSome (slice_get xs n) P
every_at P [] zero h = tt
every_at P [] (suc n) h = tt
every_at P (x ∷ xs) zero h = h.0
every_at P (x ∷ xs) (suc n) h = every_at P xs n h.1

pub every_set : {X : Type 0} (P : X → Type 0) (xs : List X) (n : ℕ) (x : X) → Everywhere P xs → P x → Everywhere P (set xs n x)
every_set P [] zero x h k = tt
every_set P [] (suc n) x h k = tt
every_set P (y ∷ xs) zero x h k = (k, h.1)
every_set P (y ∷ xs) (suc n) x h k = (h.0, every_set P xs n x h.1 k)

pub interface_whole : (w : World) (n : ℕ) → IsWholeWorld w → IsWholeInterface (interface_of w n)
interface_whole w n is = or_none (slice_get w.interfaces n) (every_at IsWholeInterface w.interfaces n is.interfaces)
  where
    or_none : (o : Option Interface) → IfSome o IsWholeInterface → IsWholeInterface (unwrap_or o no_interface)
    or_none None h = tt
    or_none (Some i) h = h

seen_whole : (n : ℕ) (actuals : List Actual) (x : Entity) → IsWhole x → IsWhole (seen n actuals x)
seen_whole n actuals (object v) h = h
seen_whole n actuals hidden h = tt
seen_whole n actuals (mark i t) h = tt
seen_whole n actuals (literal t x) h = tt
seen_whole n actuals (formal_object t e) h = tt
seen_whole n actuals (routine r) h = tt
seen_whole n actuals (raisable e) h = tt
seen_whole n actuals component h = tt
seen_whole n actuals test_io h = tt
seen_whole n actuals (unit m) h = tt

generic_part_whole : (n : ℕ) (actuals : List Actual) (name : List ℕ) (i : Interface) → IsWholeInterface i → IfSome (part_of_generic n actuals name i) IsWhole
generic_part_whole n actuals name (generic_interface formals region) h =
    if_map IsWhole IsWhole (seen n actuals) (unless_formal formals name (shown (entity_of name region)))
    (unless_whole (is_some (entity_of name formals)) (shown (entity_of name region)) (shown_whole (entity_of name region) (entity_whole name region h)))
    (λ x k. seen_whole n actuals x k)
  where
    unless_whole : (b : Bool) (o : Option Entity) → IfSome o IsWhole → IfSome (if b then None else o) IsWhole
    unless_whole true o k = tt
    unless_whole false o k = k
generic_part_whole n actuals name no_interface h = tt
generic_part_whole n actuals name (package_interface region) h = tt
generic_part_whole n actuals name (instance_interface g m more) h = tt
generic_part_whole n actuals name (subprogram_interface r) h = tt

part_of_whole : (w : World) (name : List ℕ) → IsWholeWorld w → (i : Interface) → IsWholeInterface i → IfSome (part_of_interface w name i) IsWhole
part_of_whole w name is (package_interface region) h = shown_whole (entity_of name region) (entity_whole name region h)
part_of_whole w name is (instance_interface None n actuals) h = tt
part_of_whole w name is (instance_interface (Some g) n actuals) h = generic_part_whole n actuals name (interface_of w g) (interface_whole w g is)
part_of_whole w name is no_interface h = tt
part_of_whole w name is (generic_interface formals region) h = tt
part_of_whole w name is (subprogram_interface r) h = tt

unit_whole : (n : ℕ) (i : Interface) → IsWhole (entity_of_interface n i)
unit_whole n (subprogram_interface r) = tt
unit_whole n no_interface = tt
unit_whole n (package_interface region) = tt
unit_whole n (generic_interface formals region) = tt
unit_whole n (instance_interface g k actuals) = tt

either_region : (b : Bool) (r o : Region) → IsWholeRegion r → IsWholeRegion o → IsWholeRegion (if b then r else o)
either_region true r o h k = h
either_region false r o h k = k

seen_too_whole : (name : List ℕ) (x : Entity) (region : Region) → IsWhole x → IsWholeRegion region → IsWholeRegion (seen_too name x region)
seen_too_whole name x [] h all = (h, tt)
seen_too_whole name x (e ∷ es) h all =
    (all.0, either_region (same_name name e.0) es (seen_too name x es) all.1 (seen_too_whole name x es h all.1))

with_seen_whole : (name : List ℕ) (o : Option Entity) (region : Region) → IfSome o IsWhole → IsWholeRegion region → IsWholeRegion (with_seen name o region)
with_seen_whole name None region h all = all
with_seen_whole name (Some x) region h all = seen_too_whole name x region h all

denoted_whole : (w : World) (l : Library) (i : Identifier) → IfSome (denoted_in_with w l i) IsWhole
denoted_whole w l i = if_io (is_test_io i) (unit_named l.names (key i))
  where
    if_io : (b : Bool) (o : Option ℕ) → IfSome (if b then Some test_io else option_map (entity_of_unit w) o) IsWhole
    if_io true o = tt
    if_io false None = tt
    if_io false (Some n) = unit_whole n (interface_of w n)

pub seen_more_whole : (w : World) (l : Library) (is : List Identifier) (region : Region) → IsWholeRegion region → IsWholeRegion (seen_more w l is region)
seen_more_whole w l [] region all = all
seen_more_whole w l (i ∷ is) region all =
    seen_more_whole w l is (with_seen (key i) (denoted_in_with w l i) region) (with_seen_whole (key i) (denoted_in_with w l i) region (denoted_whole w l i) all)

pub env_whole : (w : World) (n : ℕ) (name : List ℕ) (region : Region) → IsWholeWorld w → IsWholeRegion region → IsWholeEnv (env_of typing w n name region)
env_whole w n name region is all = record {
  regions = (tt, (all, (is.standard.predefined, tt)));
  own = tt;
  units = λ m part. part_of_whole w part is (interface_of w m) (interface_whole w m is);
  test_io = is.standard.test_io;
}

pub package_env_whole : (env : Env) (g : Option ℕ) (n : ℕ) (region : Region) → IsWholeEnv env → IsWholeRegion region → IsWholeEnv (in_package env g n region)
package_env_whole env g n region is all = record { regions = (all, is.regions.1); own = all; units = is.units; test_io = is.test_io }

pub region_whole : (i : Interface) → IsWholeInterface i → IsWholeRegion (region_of i)
region_whole (package_interface region) h = h
region_whole (generic_interface formals region) h = h
region_whole no_interface h = tt
region_whole (instance_interface g n actuals) h = tt
region_whole (subprogram_interface r) h = tt

-- interfaces
abbrev pub Seen : State → Walked → Type 0
Seen s x = (Decides s [] x.next × IsWholeWorld x.world)

with_whole : {A : Type 0} (o : Option A) (formals region : Region) → IsWholeRegion region → IsWholeInterface (interface_with o formals region)
with_whole None formals region h = h
with_whole (Some x) formals region h = h

set_world : (w : World) (n : ℕ) (i : Interface) → IsWholeWorld w → IsWholeInterface i → IsWholeWorld (record w { interfaces = set w.interfaces n i })
set_world w n i is h = record { standard = is.standard; interfaces = every_set IsWholeInterface w.interfaces n i is.interfaces h }

package_seen : (env : Env) (s : State) (p : Pos) (n : ℕ) (x : PackageSpecification) → env.step ≡ typing → IsWholeEnv env → IsWholeWorld env.world → env.is_library ≡ true
    → IfOk (package_judged env s p n x).answer (Seen s)
package_seen env s p n x step whole world library =
    answered (Seen s) p _
    (part_so (Quietly (at_unit s)) (Seen s) (formals_declared (in_specification env n x []) (at_unit s) p 0 (formals_in x.formals)).answer
    (λ formals. package_items (in_specification env n x formals.value) formals.next p x.items
    >>= (λ region. closed_by p x.name x.end_name >>= (λ end. rule (Some (with_package env n x formals.value region)))))
    (formals_calm (in_specification env n x []) step (package_env_whole env _ n [] whole tt) (at_unit s) p 0 (formals_in x.formals))
    (λ formals h. part_so (Items formals.next) (Seen s) (package_items (in_specification env n x formals.value) formals.next p x.items).answer
    (λ region. closed_by p x.name x.end_name >>= (λ end. rule (Some (with_package env n x formals.value region))))
    (items_calm (in_specification env n x formals.value) formals.next p x.items step (package_env_whole env _ n formals.value whole h.1) library)
    (λ region k. part_so (λ u. Unit {0}) (Seen s) (closed_by p x.name x.end_name).answer
    (λ end. rule (Some (with_package env n x formals.value region))) (any_answer (closed_by p x.name x.end_name).answer)
    (λ end u. (
      decides_before s region.next _ []
          (calm_both s (at_unit s) region.next (calm_same s (at_unit s) refl refl) (calm_both (at_unit s) formals.next region.next h.0 k.0.0)) refl refl,
      set_world env.world n _ world (with_whole x.formals formals.value region.value k.1),
    )))))

instance_seen : (env : Env) (s : State) (p : Pos) (n k : ℕ) (i : Instance) → env.step ≡ typing → IsWholeEnv env → IsWholeWorld env.world
    → IfOk (instance_judged env s p n k i).answer (Seen s)
instance_seen env s p n k i step whole world =
    answered (Seen s) p _
    (part_so (λ g. Unit {0}) (Seen s) (generic_named env i.generic_name).answer
    (λ g. actuals_judged env (at_unit s) p k [] (formals_of env.world g) i.actuals
    >>= (λ actuals. rule (Some (with_instance env.world p n k i g actuals.value actuals.next))))
    (any_answer (generic_named env i.generic_name).answer)
    (λ g u. part_so (Calm (at_unit s)) (Seen s) (actuals_judged env (at_unit s) p k [] (formals_of env.world g) i.actuals).answer
    (λ actuals. rule (Some (with_instance env.world p n k i g actuals.value actuals.next)))
    (actuals_calm env step whole (at_unit s) p k [] (formals_of env.world g) i.actuals)
    (λ actuals h. (
      decides_before s actuals.next _ [] (calm_both s (at_unit s) actuals.next (calm_same s (at_unit s) refl refl) h) refl refl,
      record { standard = world.standard; interfaces = every_set IsWholeInterface env.world.interfaces n _ world.interfaces tt },
    ))))

library_seen : (env : Env) (s : State) (n : ℕ) (b : SubprogramBody) → env.step ≡ typing → IsWholeEnv env → IsWholeWorld env.world
    → IfOk (library_subprogram env s n b).answer (Seen s)
library_seen env s n b step whole world =
    answered (Seen s) b.specification.pos _
    (part_so (Profiled (at_unit s)) (Seen s) (specified env (at_unit s) b.specification).answer
    (λ q. rule (Some (with_subprogram env.world n (library_routine env b q.value) (declared_only s q.next))))
    (specified_calm env step whole (at_unit s) b.specification)
    (λ q h. (
      calm_both s q.next (declared_only s q.next) (calm_both s (at_unit s) q.next (calm_same s (at_unit s) refl refl) h.0)
          (calm_same q.next (declared_only s q.next) refl refl),
      set_world env.world n _ world tt,
    )))

module _ (l : Library) where
  pub in_region : (w : World) (u : LibraryUnit) (x : Entity) → IsWhole x → IsWholeRegion (seen_in w l u x)
  in_region w u x h = seen_more_whole w l (clause_names u.withs) ((key (item_name u.item), x) ∷ []) (h, tt)

  interface_seen : (w : World) (s : State) (n : ℕ) (u : LibraryUnit) (i : LibraryItem) → IsWholeWorld w → IfOk (interface_judged typing l w s n u i).answer (Seen s)
  interface_seen w s n u (library.Package x) world =
      package_seen (env_of typing w n (key x.name) (seen_in w l u (unit n))) s u.item_pos n x refl
      (env_whole w n (key x.name) (seen_in w l u (unit n)) world (in_region w u (unit n) tt)) world refl
  interface_seen w s n u (library.Instance i) world =
      instance_seen (env_of typing w n (key i.name) (seen_in w l u hidden)) s u.item_pos n (instance_number n l.units) i refl
      (env_whole w n (key i.name) (seen_in w l u hidden) world (in_region w u hidden tt)) world
  interface_seen w s n u (library.Subprogram b) world =
      library_seen (env_of typing w n (key b.specification.name) (seen_in w l u hidden)) s n b refl
      (env_whole w n (key b.specification.name) (seen_in w l u hidden) world (in_region w u hidden tt)) world
  interface_seen w s n u (library.PackageBody b) world = (decides_same s, world)

  interface_at_seen : (x : Walked) (n : ℕ) (o : Option LibraryUnit) → IsWholeWorld x.world → IfOk (interface_at typing l x n o).answer (Seen x.next)
  interface_at_seen x n None world = (decides_same x.next, world)
  interface_at_seen x n (Some u) world =
      answered (Seen x.next) u.pos _
      (part_so (Seen x.next) (Seen x.next) (interface_judged typing l x.world x.next n u u.item).answer
      (λ y. rule (Some y)) (interface_seen x.world x.next n u u.item world) (λ y h. h))

  pub interfaces_seen : (x : Walked) (ns : List ℕ) → IsWholeWorld x.world → IfOk (all_interfaces typing l x ns).answer (Seen x.next)
  interfaces_seen x [] world = (decides_same x.next, world)
  interfaces_seen x (n ∷ ns) world =
      answered (Seen x.next) nowhere _
      (part_so (Seen x.next) (Seen x.next) (interface_at typing l x n (slice_get l.units n)).answer
      (λ y. all_interfaces typing l y ns >>= (λ rest. rule (Some rest)))
      (interface_at_seen x n (slice_get l.units n) world)
      (λ y h. part_so (Seen y.next) (Seen x.next) (all_interfaces typing l y ns).answer (λ rest. rule (Some rest))
      (interfaces_seen y ns h.1) (λ rest k. (calm_both x.next y.next rest.next h.0 k.0, k.1))))

  -- bodies
  package_turn : (env : Env) (s : State) (p : Pos) (n : ℕ) (b : PackageBody) → env.step ≡ typing → IsWholeEnv env → IsWholeWorld env.world → env.is_library ≡ true
      → IfOk (package_body env s p n b).answer (Turn s)
  package_turn env s p n b step whole world library =
      answered (Turn s) p _
      (part_so (Bodies (at_unit s)) (Turn s)
      (body_items (in_body env n (interface_of env.world n) (region_of (interface_of env.world n))) (at_unit s) p b.items).answer
      (λ region. closed_by p b.name b.end_name >>= (λ end. rule (Some (behind_unit (in_body env n (interface_of env.world n) []) n region.next))))
      (body_items_turn (in_body env n (interface_of env.world n) (region_of (interface_of env.world n))) (at_unit s) p b.items step
      (package_env_whole env _ n (region_of (interface_of env.world n)) whole (region_whole (interface_of env.world n) (interface_whole env.world n world))) library)
      (λ region h. part_so (λ u. Unit {0}) (Turn s) (closed_by p b.name b.end_name).answer
      (λ end. rule (Some (behind_unit (in_body env n (interface_of env.world n) []) n region.next)))
      (any_answer (closed_by p b.name b.end_name).answer)
      (λ end u before. turn_calm region.next (behind_unit (in_body env n (interface_of env.world n) []) n region.next) (calm_same region.next _ refl refl) refl
      (h.0 (turn_calm s (at_unit s) (calm_same s (at_unit s) refl refl) refl before)))))

  body_of_turn : (w : World) (s : State) (m : ℕ) (u : LibraryUnit) (b : PackageBody) (o : Option ℕ) → IsWholeWorld w
      → IfOk (package_body_of typing l w s m u b o).answer (Turn s)
  body_of_turn w s m u b None world = λ h. h
  body_of_turn w s m u b (Some n) world =
      package_turn (env_of typing w m (key b.name) (seen_in_body w l n u)) s u.item_pos n b refl
      (env_whole w m (key b.name) (seen_in_body w l n u) world
      (seen_more_whole w l (withs_of (slice_get l.units n)) (seen_in w l u (unit n)) (in_region w u (unit n) tt))) world refl

  library_turn : (env : Env) (s : State) (b : SubprogramBody) → env.step ≡ typing → IsWholeEnv env → IfOk (library_body env s b).answer (Turn s)
  library_turn env s b step whole =
      answered (Turn s) b.specification.pos _
      (part_so (λ q. Profiled (at_unit s) q × Add (at_unit s) q) (Turn s) (specified (record env { is_library = false }) (at_unit s) b.specification).answer
      (λ q. body_judged (record env { is_library = false }) s b [] [] q >>= (λ next. rule (Some next)))
      (both_ok (Profiled (at_unit s)) (Add (at_unit s)) (specified (record env { is_library = false }) (at_unit s) b.specification).answer
      (specified_calm (record env { is_library = false }) step (record { regions = whole.regions; own = whole.own; units = whole.units; test_io = whole.test_io }) (at_unit s) b.specification)
      (specified_adds (record env { is_library = false }) (at_unit s) b.specification))
      (λ q h. part_so (Turn s) (Turn s) (body_judged (record env { is_library = false }) s b [] [] q).answer (λ next. rule (Some next))
      (judged_turn (record env { is_library = false }) step (record { regions = whole.regions; own = whole.own; units = whole.units; test_io = whole.test_io })
      s b [] tt [] q (calm_both s (at_unit s) q.next (calm_same s (at_unit s) refl refl) h.0.0, h.0.1) (adds_both s (at_unit s) q.next (adds_at_unit s) h.1))
      (λ next k. k)))

  pub routine_whole : (i : Interface) → IsWhole (routine_entity i)
  routine_whole (subprogram_interface r) = tt
  routine_whole no_interface = tt
  routine_whole (package_interface region) = tt
  routine_whole (generic_interface formals region) = tt
  routine_whole (instance_interface g n actuals) = tt

  bodies_turn : (w : World) (s : State) (n : ℕ) (u : LibraryUnit) (i : LibraryItem) → IsWholeWorld w → IfOk (bodies_judged typing l w s n u i).answer (Turn s)
  bodies_turn w s n u (library.PackageBody b) world = body_of_turn w s n u b (unit_named l.names (key b.name)) world
  bodies_turn w s n u (library.Subprogram b) world =
      library_turn (env_of typing w n (key b.specification.name) (seen_in w l u (routine_entity (interface_of w n)))) s b refl
      (env_whole w n (key b.specification.name) (seen_in w l u (routine_entity (interface_of w n))) world
      (in_region w u (routine_entity (interface_of w n)) (routine_whole (interface_of w n))))
  bodies_turn w s n u (library.Package x) world = λ h. h
  bodies_turn w s n u (library.Instance i) world = λ h. h

  pub all_bodies_turn : (w : World) (s : State) (n : ℕ) (us : List LibraryUnit) → IsWholeWorld w → IfOk (all_bodies_judged typing l w s n us).answer (Turn s)
  all_bodies_turn w s n [] world = λ h. h
  all_bodies_turn w s n (u ∷ us) world =
      answered (Turn s) nowhere _
      (part_so (Turn s) (Turn s) _ (λ x. all_bodies_judged typing l w x (n + 1) us >>= (λ rest. rule (Some rest)))
      (answered (Turn s) u.pos _
      (part_so (Turn s) (Turn s) (bodies_judged typing l w s n u u.item).answer (λ y. rule (Some y)) (bodies_turn w s n u u.item world) (λ y k. k)))
      (λ x k. part_so (Turn x) (Turn s) (all_bodies_judged typing l w x (n + 1) us).answer (λ rest. rule (Some rest))
      (all_bodies_turn w x (n + 1) us world) (λ rest r before. r (k before))))
