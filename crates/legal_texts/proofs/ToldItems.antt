-- Declarations and bodies of packages keep marks told by their identities, in the step of types.
use Rattle.std.proofs.Common.{◌≡◌, ◌≤◌, ℕ, refl, ◌∙◌, Bool, true, false, if◌then◌else◌, List, [], ◌∷◌, ◌++◌, Option, Some, None, option_map, IfSome, IfOk, arith}
use Rattle.cov_base.specs.Lists.{Everywhere}
use Rattle.cov_base.specs.declared.position.Pos.{Pos}
use Rattle.ada_syntax.specs.declared.name.Identifier.{Identifier}
use Rattle.ada_syntax.specs.declared.unit.BodyItem.{BodyItem}
use Rattle.ada_syntax.specs.declared.unit.BodyItem.TheVariants as item
use Rattle.ada_syntax.specs.declared.unit.PackageItem.{PackageItem}
use Rattle.ada_syntax.specs.declared.unit.PackageItem.TheVariants as part
use Rattle.ada_syntax.specs.declared.unit.Specification.{Specification}
use Rattle.ada_syntax.specs.declared.unit.SubprogramBody.{SubprogramBody}
use Rattle.ada_meaning.specs.Shape.{group, no_shape}
use Rattle.ada_rules.specs.Plan.{Plan, ◌>>=◌, rule}
use Rattle.ada_rules.specs.Types.{type_in, is_scalar}
use Rattle.ada_rules.specs.Entities.{key, Parameter, Entity, hidden, mark, literal, object, formal_object, routine, raisable, component, test_io, unit, Region, entity_of, is_new, redefined}
use Rattle.ada_rules.specs.Environment.{typing, typed_rule, State, Given, given, Env, with_local, regions_of, with_name, hide}
use Rattle.ada_rules.specs.Denoted.{Denoted, a_mark, a_value, a_variable, a_routine, a_call, an_exception, a_unit, the_test_io, a_thing}
use Rattle.ada_rules.specs.Declarations.{Declared, declared, all_declared}
use Rattle.ada_rules.specs.Statements.{Frame, block_of, all_handled}
use Rattle.ada_rules.specs.Subprograms.{Profile, specified, declared_only, body_number, routine_of, subprogram_declared, to_complete, completed, conforming, closed_by, may_end, body_made, inside_body, body_judged, with_routine, packaged_body}
use Rattle.ada_rules.specs.Units.{package_item, package_items, body_item, body_items}
use Rattle.legal_laws.proofs.Leading.{LeadsOn, declarations_lead}
use Rattle.legal_laws.proofs.LeadingStatements.{handled_lead}
use Rattle.legal_laws.proofs.Leading.{Lead}
use Rattle.legal_laws.proofs.Passing.{IfPassed, if_map, if_test, answered, ruled_so, part_so, both_ok, typed_either, any_answer, every_so, some_so, every_end}
use Rattle.legal_texts.specs.Told.{Table, IsTold, IsToldEntity, IsToldRegion, IsOpen, TellsMore, TellsOthers, TellsOn, Names, TellsBehind, IsToldPlace}
use Rattle.legal_texts.proofs.KeptBodies.{IsShort, specified_short}
use Rattle.legal_texts.proofs.MarkedNames.{IsMarked, IsMarkedEntity, IsMarkedRegion, IsMarkedPlace, IsMarkedAs, IsMarkedProfile, local_marked, specified_marked}
use Rattle.legal_texts.proofs.ToldDeclarations.{no_program, redefined_told, declaration_tells}

-- the marks of a region that is told
mark_of : (table : Table) (x : Entity) → IsToldEntity table x → IsMarkedEntity (Names table) x
mark_of table hidden h = tt
mark_of table (mark i t) h = h
mark_of table (literal t x) h = tt
mark_of table (object v) h = tt
mark_of table (formal_object t e) h = tt
mark_of table (routine r) h = tt
mark_of table (raisable e) h = tt
mark_of table component h = tt
mark_of table test_io h = tt
mark_of table (unit n) h = tt

pub marks_of : (table : Table) (region : Region) → IsToldRegion table region → IsMarkedRegion (Names table) region
marks_of table region h = every_so (λ e. IsToldEntity table e.1) (λ e. IsMarkedEntity (Names table) e.1) region (λ e k. mark_of table e.1 k) h

-- a table that tells more
module _ (table later : Table) (so : TellsMore table later) where
  pub marked_more : (o : Option Denoted) → IsMarked (Names table) o → IsMarked (Names later) o
  marked_more None h = tt
  marked_more (Some (a_mark i t)) h = so i t h
  marked_more (Some (a_value x)) h = tt
  marked_more (Some (a_variable v)) h = tt
  marked_more (Some (a_routine r)) h = tt
  marked_more (Some (a_call r actuals)) h = tt
  marked_more (Some (an_exception e)) h = tt
  marked_more (Some (a_unit n)) h = tt
  marked_more (Some the_test_io) h = tt
  marked_more (Some a_thing) h = tt

  pub marks_more : (region : Region) → IsMarkedRegion (Names table) region → IsMarkedRegion (Names later) region
  marks_more region h = every_so (λ e. IsMarkedEntity (Names table) e.1) (λ e. IsMarkedEntity (Names later) e.1) region (λ e k. marked_more _ k) h

  pub place_more : (env : Env) → IsMarkedPlace (Names table) env → IsMarkedPlace (Names later) env
  place_more env h = record {
    step = h.step;
    regions = every_so (IsMarkedRegion (Names table)) (IsMarkedRegion (Names later)) (regions_of env) marks_more h.regions;
    own = marks_more env.own h.own;
    units = λ n name. marked_more _ (h.units n name);
    test_io = λ name. marked_more _ (h.test_io name);
  }

-- a specification
told_of : (table : Table) (q : Parameter) → IsMarkedAs (Names table) q → IsTold table q
told_of table q h = record { identity = h.identity; is = h.is; names = h.so }

pub profile_told : (table : Table) (q : Profile) → IsMarkedProfile (Names table) q → Everywhere (IsTold table) q.parameters × IfSome q.result (IsTold table)
profile_told table q h = (
  every_so (IsMarkedAs (Names table)) (IsTold table) q.parameters (told_of table) h.parameters,
  some_so (λ r. IsMarkedAs (Names table) r × (is_scalar (type_in r.subtype) ≡ true)) (IsTold table) q.result (λ r k. told_of table r k.0) h.result,
)

pub next_place : (table : Table) (env : Env) (s : State) (g : Given Region) → IsToldPlace table env s → (h : TellsBehind table env g) → IsToldPlace h.table (with_local env g.value) g.next
next_place table env s g is h = record {
  place = local_marked (Names h.table) env g.value (place_more table h.table h.more env is.place) (marks_of h.table g.value h.region);
  local = h.region;
  is_open = h.is_open;
}

pub hidden_told : (table : Table) (region : Region) (i : Identifier) → IsToldRegion table region → IfOk (hide region i).answer (IsToldRegion table)
hidden_told table region i all =
    answered (IsToldRegion table) i.pos (rule (with_name region i hidden)).outcome
    (ruled_so (IsToldRegion table) (with_name region i hidden)
    (if_test (IsToldRegion table) (is_new region i) (Some (region ++ (key i, hidden) ∷ [])) (λ b. every_end (λ e. IsToldEntity table e.1) region (key i, hidden) all tt)))

any_some : {X : Type 0} (o : Option X) → IfSome o (λ n. Unit {0})
any_some None = tt
any_some (Some n) = tt

module _ (table : Table) (env : Env) (s : State) (is : IsToldPlace table env s) where
  abbrev Behind : Given Region → Type 0
  Behind g = TellsBehind table env g

  pub same_table : (g : Given Region) → s.types ≤ g.next.types → IsToldRegion table g.value → Behind g
  same_table g rise all = record { table = table; more = λ i t h. h; others = λ i other. refl; region = all; is_open = λ k less. is.is_open k (omega (arith, rise, less)) }

  with_routine_told : (region : Region) → IsToldRegion table region → (name : List ℕ) (callee_name : List ℕ) (awaits : Bool) (q : Profile) → IsMarkedProfile (Names table) q
      → IsToldRegion table (redefined name (routine (routine_of env callee_name awaits q)) region)
  with_routine_told region all name callee_name awaits q h =
      redefined_told table name (routine (routine_of env callee_name awaits q)) region (profile_told table q h) all

  abbrev pub Specified : Given Profile → Type 0
  Specified q = IsMarkedProfile (Names table) q.value × IsShort s q

  pub specified_so : (region : Region) → IsToldRegion table region → (x : Specification) → IfOk (specified (with_local env region) s x).answer Specified
  specified_so region all x =
      both_ok (λ q. IsMarkedProfile (Names table) q.value) (IsShort s) (specified (with_local env region) s x).answer
      (specified_marked (Names table) (with_local env region) s x (local_marked (Names table) env region is.place (marks_of table region all)))
      (specified_short (with_local env region) s x)

  pub subprogram_tells : (x : Specification) → IfOk (subprogram_declared env s x).answer Behind
  subprogram_tells x =
      answered Behind x.pos _
      (part_so (IsToldRegion table) Behind (hide env.local x.name).answer
      (λ region. specified (with_local env region) s x
      >>= (λ q. rule (option_map (λ n. given (redefined (key x.name) (routine (routine_of env (key x.name) true q.value)) region) (declared_only s q.next))
      (body_number env.world env.unit_name (key x.name)))))
      (hidden_told table env.local x.name is.local)
      (λ region u. part_so Specified Behind (specified (with_local env region) s x).answer
      (λ q. rule (option_map (λ n. given (redefined (key x.name) (routine (routine_of env (key x.name) true q.value)) region) (declared_only s q.next))
      (body_number env.world env.unit_name (key x.name))))
      (specified_so region u x)
      (λ q h. ruled_so Behind _
      (if_map (λ n. Unit {0}) Behind (λ n. given (redefined (key x.name) (routine (routine_of env (key x.name) true q.value)) region) (declared_only s q.next))
      (body_number env.world env.unit_name (key x.name)) (any_some (body_number env.world env.unit_name (key x.name)))
      (λ n v. let same = h.1.types in
      same_table (given (redefined (key x.name) (routine (routine_of env (key x.name) true q.value)) region) (declared_only s q.next)) (omega (arith, same))
      (with_routine_told region u (key x.name) (key x.name) true q.value h.0))))))

  pub item_tells : (i : PackageItem) → IfPassed (package_item env s i).outcome Behind
  item_tells (part.Declaration d) =
      part_so (TellsOn table env) Behind (declared env s d).answer (λ x. rule (Some (given x.region x.next))) (declaration_tells table env s is.is_open d is.local)
      (λ x h. record { table = h.table; more = h.more; others = h.others; region = h.region; is_open = h.is_open })
  item_tells (part.Subprogram x) =
      part_so Behind Behind (subprogram_declared env s x).answer (λ r. rule (Some r)) (subprogram_tells x) (λ r h. h)

-- items in order
pub behind_both : (table : Table) (env after : Env) (r g : Given Region) → (h : TellsBehind table env r) → ((t : Table) → IsOpen t after g.next → IsOpen t env g.next)
    → ((t u : Table) → TellsOthers after t u → TellsOthers env t u) → TellsBehind h.table after g → TellsBehind table env g
behind_both table env after r g h so others k =
    record {
      table = k.table;
      more = λ i t e. k.more i t (h.more i t e);
      others = λ i other. others h.table k.table k.others i other ∙ h.others i other;
      region = k.region;
      is_open = so k.table k.is_open;
    }

pub items_tell : (table : Table) (env : Env) (s : State) (p : Pos) (items : List PackageItem) → IsToldPlace table env s
    → IfOk (package_items env s p items).answer (TellsBehind table env)
items_tell table env s p [] is = record { table = table; more = λ i t h. h; others = λ i other. refl; region = is.local; is_open = is.is_open }
items_tell table env s p (i ∷ items) is =
    answered (TellsBehind table env) p _
    (part_so (TellsBehind table env) (TellsBehind table env) _ (λ r. package_items (with_local env r.value) r.next p items >>= (λ rest. rule (Some rest)))
    (answered (TellsBehind table env) p (package_item env s i).outcome (item_tells table env s is i))
    (λ r h. part_so (TellsBehind h.table (with_local env r.value)) (TellsBehind table env) (package_items (with_local env r.value) r.next p items).answer (λ rest. rule (Some rest))
    (items_tell h.table (with_local env r.value) r.next p items (next_place table env s r is h))
    (λ rest k. behind_both table env (with_local env r.value) r rest h (λ t o. o) (λ t u o. o) k)))

-- a body takes numbers of types in turn
module _ (env : Env) (step : env.step ≡ typing) (before : State) (b : SubprogramBody) (region : Region) (name : List ℕ) (q : Given Profile) where
  abbrev inside : Env
  inside = inside_body env region name q.value

  abbrev made : Declared → Given Frame → State
  made x f = body_made env before q.value (block_of x.made f.value) f.next

  abbrev Rises : State → Type 0
  Rises t = q.next.types ≤ t.types

  pub judged_rises : IfOk (body_judged env before b region name q).answer Rises
  judged_rises =
      answered Rises b.specification.pos _
      (part_so (LeadsOn no_program [] tt 0 (λ o. group no_shape) env.generic q.next) Rises (all_declared inside q.next b.specification.pos b.declarations).answer
      (λ x. all_handled (with_local inside x.region) x.next b.specification.pos b.statements
      >>= (λ f. closed_by b.specification.pos b.specification.name b.end_name
      >>= (λ u. typed_rule env.step (made x f) (if may_end b q.value.result then Some (made x f) else None))))
      (declarations_lead no_program [] tt 0 (λ o. group no_shape) inside q.next b.specification.pos b.declarations)
      (λ x h. part_so (Lead no_program [] tt 0 (λ o. group no_shape) env.generic x.next) Rises
      (all_handled (with_local inside x.region) x.next b.specification.pos b.statements).answer
      (λ f. closed_by b.specification.pos b.specification.name b.end_name
      >>= (λ u. typed_rule env.step (made x f) (if may_end b q.value.result then Some (made x f) else None)))
      (handled_lead no_program [] tt 0 (λ o. group no_shape) (with_local inside x.region) x.next b.specification.pos b.statements)
      (λ f k. part_so (λ u. Unit {0}) Rises (closed_by b.specification.pos b.specification.name b.end_name).answer
      (λ u. typed_rule env.step (made x f) (if may_end b q.value.result then Some (made x f) else None))
      (any_answer (closed_by b.specification.pos b.specification.name b.end_name).answer)
      (λ u v. let first = h.rise in let second = k.rise in
      let all : Rises (made x f) = omega (arith, first, second) in
      typed_either Rises env.step (made x f) _ all (if_test Rises (may_end b q.value.result) (Some (made x f)) (λ e. all))))))

-- bodies
completed_told : (table : Table) (region : Region) (i : Identifier) → IsToldRegion table region → IfOk (completed region i).answer (IsToldRegion table)
completed_told table region i all =
    answered (IsToldRegion table) i.pos (rule (to_complete region i (entity_of (key i) region))).outcome
    (ruled_so (IsToldRegion table) (to_complete region i (entity_of (key i) region)) (if_completed (entity_of (key i) region)))
  where
    if_completed : (o : Option Entity) → IfSome (to_complete region i o) (IsToldRegion table)
    if_completed None =
        if_test (IsToldRegion table) (is_new region i) (Some (region ++ (key i, hidden) ∷ [])) (λ b. every_end (λ e. IsToldEntity table e.1) region (key i, hidden) all tt)
    if_completed (Some (routine r)) = if_test (IsToldRegion table) r.awaits_body (Some region) (λ b. all)
    if_completed (Some x) = tt

module _ (table : Table) (env : Env) (s : State) (is : IsToldPlace table env s) (b : SubprogramBody) where
  abbrev Told : Given Region → Type 0
  Told g = TellsBehind table env g

  abbrev after_conforming : Region → Given Profile → Plan (Given Region)
  after_conforming region q =
      body_judged env s b (with_routine env region b.specification.name q.value) (key b.specification.name) q
      >>= (λ next. rule (Some (given (with_routine env region b.specification.name q.value) next)))

  abbrev after_specified : Region → Given Profile → Plan (Given Region)
  after_specified region q = conforming b.specification.pos region b.specification.name q.value >>= (λ fit. after_conforming region q)

  abbrev after_completed : Region → Plan (Given Region)
  after_completed region = specified (with_local env region) s b.specification >>= after_specified region

  pub packaged_tells : IfOk (packaged_body env s b).answer Told
  packaged_tells =
      answered Told b.specification.pos _
      (part_so (IsToldRegion table) Told (completed env.local b.specification.name).answer after_completed
      (completed_told table env.local b.specification.name is.local)
      (λ region u. part_so (Specified table env s is) Told (specified (with_local env region) s b.specification).answer (after_specified region)
      (specified_so table env s is region u b.specification)
      (λ q h. part_so (λ v. Unit {0}) Told (conforming b.specification.pos region b.specification.name q.value).answer
      (λ fit. after_conforming region q) (any_answer (conforming b.specification.pos region b.specification.name q.value).answer)
      (λ fit v. part_so (λ (t : State). q.next.types ≤ t.types) Told
      (body_judged env s b (with_routine env region b.specification.name q.value) (key b.specification.name) q).answer
      (λ next. rule (Some (given (with_routine env region b.specification.name q.value) next)))
      (judged_rises env is.place.step s b (with_routine env region b.specification.name q.value) (key b.specification.name) q)
      (λ next k. let same = h.1.types in
      same_table table env s is (given (with_routine env region b.specification.name q.value) next) (omega (arith, same, k))
      (with_routine_told table env s is region u (key b.specification.name) (key b.specification.name) false q.value h.0))))))

pub body_item_tells : (table : Table) (env : Env) (s : State) → IsToldPlace table env s → (i : BodyItem) → IfPassed (body_item env s i).outcome (TellsBehind table env)
body_item_tells table env s is (item.Declared i) = item_tells table env s is i
body_item_tells table env s is (item.Body b) =
    part_so (TellsBehind table env) (TellsBehind table env) (packaged_body env s b).answer (λ r. rule (Some r)) (packaged_tells table env s is b) (λ r h. h)

pub body_items_tell : (table : Table) (env : Env) (s : State) (p : Pos) (items : List BodyItem) → IsToldPlace table env s
    → IfOk (body_items env s p items).answer (TellsBehind table env)
body_items_tell table env s p [] is = record { table = table; more = λ i t h. h; others = λ i other. refl; region = is.local; is_open = is.is_open }
body_items_tell table env s p (i ∷ items) is =
    answered (TellsBehind table env) p _
    (part_so (TellsBehind table env) (TellsBehind table env) _ (λ r. body_items (with_local env r.value) r.next p items >>= (λ rest. rule (Some rest)))
    (answered (TellsBehind table env) p (body_item env s i).outcome (body_item_tells table env s is i))
    (λ r h. part_so (TellsBehind h.table (with_local env r.value)) (TellsBehind table env) (body_items (with_local env r.value) r.next p items).answer (λ rest. rule (Some rest))
    (body_items_tell h.table (with_local env r.value) r.next p items (next_place table env s r is h))
    (λ rest k. behind_both table env (with_local env r.value) r rest h (λ t o. o) (λ t u o. o) k)))
