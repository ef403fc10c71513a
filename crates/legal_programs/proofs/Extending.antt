-- Specifications, bodies and units only add to the state, in both steps.
use Rattle.std.proofs.Common.{◌≡◌, ◌+◌, ℕ, nat_eq, Bool, true, false, if◌then◌else◌, List, [], ◌∷◌, ◌++◌, length, Option, Some, None, option_map, IfSome, IfOk, refl, sym, ap, ◌∙◌, subst, arith}
use Rattle.cov_base.specs.declared.position.Pos.{Pos}
use Rattle.ada_syntax.specs.Tree.{Name}
use Rattle.ada_syntax.specs.declared.name.Identifier.{Identifier}
use Rattle.ada_syntax.specs.declared.unit.BodyItem.{BodyItem}
use Rattle.ada_syntax.specs.declared.unit.BodyItem.TheVariants as item
use Rattle.ada_syntax.specs.declared.unit.Formal.{Formal}
use Rattle.ada_syntax.specs.declared.unit.FormalKind.{FormalKind}
use Rattle.ada_syntax.specs.declared.unit.FormalKind.TheVariants as formal
use Rattle.ada_syntax.specs.declared.unit.PackageItem.{PackageItem}
use Rattle.ada_syntax.specs.declared.unit.PackageItem.TheVariants as part
use Rattle.ada_syntax.specs.declared.unit.Parameter.{Parameter as SourceParameter}
use Rattle.ada_syntax.specs.declared.unit.Specification.{Specification}
use Rattle.ada_syntax.specs.declared.unit.SubprogramBody.{SubprogramBody}
use Rattle.ada_meaning.specs.Types.{static_formal}
use Rattle.ada_rules.specs.Plan.{Plan, Outcome, refused_in, broken, passed, ◌>>=◌, rule}
use Rattle.ada_rules.specs.Entities.{key, formal_object, routine, Region, redefined}
use Rattle.ada_rules.specs.Environment.{typed_rule, State, Given, given, Env, with_local, opened, new_identity, one_type_more, exceeded, hide, hide_all}
use Rattle.ada_rules.specs.Expressions.{Marked, mark_part, scalar_mark}
use Rattle.ada_rules.specs.Declarations.{Declared, with_objects, declared, all_declared}
use Rattle.ada_rules.specs.Statements.{Frame, block_of, all_handled}
use Rattle.ada_rules.specs.Subprograms.{mode_of, Profile, parameters_for, parameter_objects, most_parameters, limited, parameters_judged, is_function_profile, with_result, result_judged, fresh, specified, declared_only, body_number, routine_of, subprogram_declared, completed, conforming, closed_by, may_end, body_made, inside_body, body_judged, with_routine, packaged_body}
use Rattle.ada_rules.specs.Instances.{formal_mark, formal_routine, formal_type_declared, formal_declared, formals_declared}
use Rattle.ada_rules.specs.Library.{body_names}
use Rattle.ada_rules.specs.Units.{package_item, package_items, body_item, body_items}
use Rattle.legal_laws.specs.Kept.{OnlyDecides}
use Rattle.legal_laws.proofs.Passing.{IfPassed, if_test, answered, part_so, weaker_ok, typed_either, any_answer, ruled_so, if_map}
use Rattle.legal_laws.proofs.KeptExpressions.{mark_part_behind}
use Rattle.legal_programs.specs.Growing.{Adds, Extends, AddsBodies}
use Rattle.legal_programs.proofs.Lists.{longer_same, longer_by, longer_both}
use Rattle.legal_programs.proofs.Adding.{adds_same, adds_none, adds_both, adds_decides, adds_objects, adds_typed, Add, AddsOn, scalar_mark_adds, declaration_adds, declarations_add}
use Rattle.legal_programs.proofs.AddingStatements.{handled_add}

-- specifications
adds_exceeded : (b : Bool) (p : Pos) (s : State) → Adds s (exceeded b p s)
adds_exceeded true p s = adds_none s (exceeded true p s) refl refl refl refl refl refl refl refl refl refl refl
adds_exceeded false p s = adds_same s

limited_adds : (n : ℕ) (is : List Identifier) (s : State) → Adds s (limited n is s)
limited_adds n [] s = adds_same s
limited_adds n (i ∷ is) s =
    adds_both s (exceeded (nat_eq n most_parameters) i.pos s) _ (adds_exceeded (nat_eq n most_parameters) i.pos s)
    (limited_adds (n + 1) is (exceeded (nat_eq n most_parameters) i.pos s))

mark_adds : (env : Env) (s : State) (n : Name) → IfOk (mark_part env s n).answer (Add s)
mark_adds env s n =
    weaker_ok (λ x. OnlyDecides s x.next) (Add s) (mark_part env s n).answer (mark_part_behind env s n) (λ x h. adds_decides s x.next h)

abbrev with_parameters : SourceParameter → Given Marked → State
with_parameters q t = with_objects t.value.subtype q.names (limited t.next.objects q.names t.next)

parameters_add : (env : Env) (s : State) (at : Pos) (qs : List SourceParameter) → IfOk (parameters_judged env s at qs).answer (Add s)
parameters_add env s at [] = adds_same s
parameters_add env s at (q ∷ qs) =
    answered (Add s) at _
    (part_so (λ x. Unit {0}) (Add s) (hide_all at env.local q.names).answer
    (λ names. mark_part (with_local env names) s q.mark
    >>= (λ t. parameters_judged (with_local env (parameter_objects (mode_of q.mode) t.value.subtype t.next.objects names q.names)) (with_parameters q t) at qs
    >>= (λ rest. rule (Some (given (record { parameters = parameters_for (mode_of q.mode) t.value q.names ++ rest.value.parameters; result = None; region = rest.value.region }) rest.next)))))
    (any_answer (hide_all at env.local q.names).answer)
    (λ names u. part_so (Add s) (Add s) (mark_part (with_local env names) s q.mark).answer
    (λ t. parameters_judged (with_local env (parameter_objects (mode_of q.mode) t.value.subtype t.next.objects names q.names)) (with_parameters q t) at qs
    >>= (λ rest. rule (Some (given (record { parameters = parameters_for (mode_of q.mode) t.value q.names ++ rest.value.parameters; result = None; region = rest.value.region }) rest.next))))
    (mark_adds (with_local env names) s q.mark)
    (λ t h. part_so (Add (with_parameters q t)) (Add s)
    (parameters_judged (with_local env (parameter_objects (mode_of q.mode) t.value.subtype t.next.objects names q.names)) (with_parameters q t) at qs).answer
    (λ rest. rule (Some (given (record { parameters = parameters_for (mode_of q.mode) t.value q.names ++ rest.value.parameters; result = None; region = rest.value.region }) rest.next)))
    (parameters_add (with_local env (parameter_objects (mode_of q.mode) t.value.subtype t.next.objects names q.names)) (with_parameters q t) at qs)
    (λ rest k. adds_both s t.next rest.next h
    (adds_both t.next (limited t.next.objects q.names t.next) rest.next (limited_adds t.next.objects q.names t.next)
    (adds_both (limited t.next.objects q.names t.next) (with_parameters q t) rest.next
    (adds_objects t.value.subtype q.names (limited t.next.objects q.names t.next)) k))))))

result_adds : (env : Env) (s : State) (q : Given Profile) (n : Option Name) → Adds s q.next → IfPassed (result_judged env q n).outcome (Add s)
result_adds env s q None h = h
result_adds env s q (Some n) h =
    part_so (Add q.next) (Add s) (mark_part (with_local env q.value.region) q.next n).answer
    (λ t. typed_rule env.step (with_result q t) (if is_function_profile q.value.parameters t.value then Some (with_result q t) else None))
    (mark_adds (with_local env q.value.region) q.next n)
    (λ t k. typed_either (Add s) env.step (with_result q t) _ (adds_both s q.next t.next h k)
    (if_test (Add s) (is_function_profile q.value.parameters t.value) _ (λ b. adds_both s q.next t.next h k)))

adds_fresh : (s : State) → Adds s (fresh s)
adds_fresh s = adds_none s (fresh s) refl refl refl refl refl refl refl refl refl refl refl

pub specified_adds : (env : Env) (s : State) (x : Specification) → IfOk (specified env s x).answer (Add s)
specified_adds env s x =
    answered (Add s) x.pos _
    (part_so (Add (fresh s)) (Add s) (parameters_judged (opened env) (fresh s) x.pos x.parameters).answer
    (λ q. result_judged (opened env) q x.result_mark) (parameters_add (opened env) (fresh s) x.pos x.parameters)
    (λ q h. result_adds (opened env) s q x.result_mark (adds_both s (fresh s) q.next (adds_fresh s) h)))

adds_declared_only : (before s : State) → Adds s (declared_only before s)
adds_declared_only before s = adds_none s (declared_only before s) refl refl refl refl refl refl refl refl refl refl refl

pub subprogram_adds : (env : Env) (s : State) (x : Specification) → IfOk (subprogram_declared env s x).answer (Add s)
subprogram_adds env s x =
    answered (Add s) x.pos _
    (part_so (λ r. Unit {0}) (Add s) (hide env.local x.name).answer
    (λ region. specified (with_local env region) s x
    >>= (λ q. rule (option_map (λ n. given (redefined (key x.name) (routine (routine_of env (key x.name) true q.value)) region) (declared_only s q.next))
    (body_number env.world env.unit_name (key x.name)))))
    (any_answer (hide env.local x.name).answer)
    (λ region u. part_so (Add s) (Add s) (specified (with_local env region) s x).answer
    (λ q. rule (option_map (λ n. given (redefined (key x.name) (routine (routine_of env (key x.name) true q.value)) region) (declared_only s q.next))
    (body_number env.world env.unit_name (key x.name))))
    (specified_adds (with_local env region) s x)
    (λ q h. ruled_so (Add s) _
    (if_map (λ n. Unit {0}) (Add s) (λ n. given (redefined (key x.name) (routine (routine_of env (key x.name) true q.value)) region) (declared_only s q.next))
    (body_number env.world env.unit_name (key x.name)) (any_some (body_number env.world env.unit_name (key x.name)))
    (λ n v. adds_both s q.next (declared_only s q.next) h (adds_declared_only s q.next))))))
  where
    any_some : (o : Option ℕ) → IfSome o (λ n. Unit {0})
    any_some None = tt
    any_some (Some n) = tt

-- units
pub extends_of : (s t : State) → Adds s t → Extends s t
extends_of s t h = record {
  demands = h.demands;
  types = h.types;
  objects = h.objects;
  constants = h.constants;
  exceptions = h.exceptions;
  objects_numbered = h.objects_numbered;
  exceptions_numbered = h.exceptions_numbered;
  subprograms = longer_same s.subprograms t.subprograms h.subprograms;
  subprogram_words = longer_same s.subprogram_words t.subprogram_words h.subprogram_words;
  instances = longer_same s.instances_declared t.instances_declared h.instances;
  unit_words = longer_same s.unit_words t.unit_words h.unit_words;
}

pub extends_same : (s : State) → Extends s s
extends_same s = extends_of s s (adds_same s)

pub extends_both : (s t u : State) → Extends s t → Extends t u → Extends s u
extends_both s t u h k = record {
  demands = longer_both s.demands t.demands u.demands h.demands k.demands;
  types = longer_both s.types_declared t.types_declared u.types_declared h.types k.types;
  objects = longer_both s.objects_declared t.objects_declared u.objects_declared h.objects k.objects;
  constants = longer_both s.constants_declared t.constants_declared u.constants_declared h.constants k.constants;
  exceptions = longer_both s.exceptions_declared t.exceptions_declared u.exceptions_declared h.exceptions k.exceptions;
  objects_numbered = λ n. k.objects_numbered (h.objects_numbered n);
  exceptions_numbered = λ n. k.exceptions_numbered (h.exceptions_numbered n);
  subprograms = longer_both s.subprograms t.subprograms u.subprograms h.subprograms k.subprograms;
  subprogram_words = longer_both s.subprogram_words t.subprogram_words u.subprogram_words h.subprogram_words k.subprogram_words;
  instances = longer_both s.instances_declared t.instances_declared u.instances_declared h.instances k.instances;
  unit_words = longer_both s.unit_words t.unit_words u.unit_words h.unit_words k.unit_words;
}

pub bodies_of_adds : (s t : State) → Adds s t → AddsBodies 0 s t
bodies_of_adds s t h =
    let same = ap length h.subprograms in
    record { extends = extends_of s t h; subprograms = omega (arith, same); instances = h.instances }

pub bodies_both : (m n : ℕ) (s t u : State) → AddsBodies m s t → AddsBodies n t u → AddsBodies (m + n) s u
bodies_both m n s t u h k =
    let first = h.subprograms in
    let second = k.subprograms in
    record {
      extends = extends_both s t u h.extends k.extends;
      subprograms = omega (arith, first, second);
      instances = k.instances ∙ h.instances;
    }

-- a body
abbrev pub AddsBody : State → State → Type 0
AddsBody s t = AddsBodies 1 s t

body_adds : (env : Env) (before s : State) (q : Given Profile) (b : SubprogramBody) (x : Declared) (f : Given Frame) → Adds before s → Adds s f.next
    → AddsBody before (body_made env before q.value (block_of x.made f.value) f.next)
body_adds env before s q b x f h k =
    let all = adds_both before s f.next h k in
    let more = extends_of before f.next all in
    let count = ap length all.subprograms in
    record {
      extends = record {
        demands = more.demands;
        types = more.types;
        objects = more.objects;
        constants = more.constants;
        exceptions = more.exceptions;
        objects_numbered = more.objects_numbered;
        exceptions_numbered = more.exceptions_numbered;
        subprograms = longer_both before.subprograms f.next.subprograms _ more.subprograms (longer_by _ f.next.subprograms);
        subprogram_words = longer_both before.subprogram_words f.next.subprogram_words _ more.subprogram_words (longer_by _ f.next.subprogram_words);
        instances = more.instances;
        unit_words = more.unit_words;
      };
      subprograms = omega (arith, count);
      instances = all.instances;
    }

module _ (env : Env) (before : State) (b : SubprogramBody) (region : Region) (name : List ℕ) (q : Given Profile) where
  abbrev inside : Env
  inside = inside_body env region name q.value

  abbrev made : Declared → Given Frame → State
  made x f = body_made env before q.value (block_of x.made f.value) f.next

  pub judged_adds : Adds before q.next → IfOk (body_judged env before b region name q).answer (AddsBody before)
  judged_adds h =
      answered (AddsBody before) b.specification.pos _
      (part_so (AddsOn q.next) (AddsBody before) (all_declared inside q.next b.specification.pos b.declarations).answer
      (λ x. all_handled (with_local inside x.region) x.next b.specification.pos b.statements
      >>= (λ f. closed_by b.specification.pos b.specification.name b.end_name
      >>= (λ u. typed_rule env.step (made x f) (if may_end b q.value.result then Some (made x f) else None))))
      (declarations_add inside q.next b.specification.pos b.declarations)
      (λ x k. part_so (Add x.next) (AddsBody before) (all_handled (with_local inside x.region) x.next b.specification.pos b.statements).answer
      (λ f. closed_by b.specification.pos b.specification.name b.end_name
      >>= (λ u. typed_rule env.step (made x f) (if may_end b q.value.result then Some (made x f) else None)))
      (handled_add (with_local inside x.region) x.next b.specification.pos b.statements)
      (λ f l. part_so (λ u. Unit {0}) (AddsBody before) (closed_by b.specification.pos b.specification.name b.end_name).answer
      (λ u. typed_rule env.step (made x f) (if may_end b q.value.result then Some (made x f) else None))
      (any_answer (closed_by b.specification.pos b.specification.name b.end_name).answer)
      (λ u v. let all = body_adds env before x.next q b x f (adds_both before q.next x.next h k) l in
      typed_either (AddsBody before) env.step (made x f) _ all (if_test (AddsBody before) (may_end b q.value.result) (Some (made x f)) (λ e. all))))))

module _ (env : Env) (s : State) (b : SubprogramBody) where
  abbrev after_conforming : Region → Given Profile → Plan (Given Region)
  after_conforming region q =
      body_judged env s b (with_routine env region b.specification.name q.value) (key b.specification.name) q
      >>= (λ next. rule (Some (given (with_routine env region b.specification.name q.value) next)))

  abbrev after_specified : Region → Given Profile → Plan (Given Region)
  after_specified region q = conforming b.specification.pos region b.specification.name q.value >>= (λ fit. after_conforming region q)

  abbrev after_completed : Region → Plan (Given Region)
  after_completed region = specified (with_local env region) s b.specification >>= after_specified region

  pub packaged_adds : IfOk (packaged_body env s b).answer (λ g. AddsBody s g.next)
  packaged_adds =
      answered (λ (g : Given Region). AddsBody s g.next) b.specification.pos _
      (part_so (λ r. Unit {0}) (λ (g : Given Region). AddsBody s g.next) (completed env.local b.specification.name).answer after_completed
      (any_answer (completed env.local b.specification.name).answer)
      (λ region u. part_so (Add s) (λ (g : Given Region). AddsBody s g.next) (specified (with_local env region) s b.specification).answer (after_specified region)
      (specified_adds (with_local env region) s b.specification)
      (λ q h. part_so (λ v. Unit {0}) (λ (g : Given Region). AddsBody s g.next) (conforming b.specification.pos region b.specification.name q.value).answer
      (λ fit. after_conforming region q) (any_answer (conforming b.specification.pos region b.specification.name q.value).answer)
      (λ fit v. part_so (AddsBody s) (λ (g : Given Region). AddsBody s g.next)
      (body_judged env s b (with_routine env region b.specification.name q.value) (key b.specification.name) q).answer
      (λ next. rule (Some (given (with_routine env region b.specification.name q.value) next)))
      (judged_adds env s b (with_routine env region b.specification.name q.value) (key b.specification.name) q h)
      (λ next k. k)))))

-- the items of packages
item_adds : (env : Env) (s : State) (i : PackageItem) → IfPassed (package_item env s i).outcome (Add s)
item_adds env s (part.Declaration d) =
    part_so (AddsOn s) (Add s) (declared env s d).answer (λ x. rule (Some (given x.region x.next))) (declaration_adds env s d) (λ x h. h)
item_adds env s (part.Subprogram x) =
    part_so (Add s) (Add s) (subprogram_declared env s x).answer (λ r. rule (Some r)) (subprogram_adds env s x) (λ r h. h)

pub items_add : (env : Env) (s : State) (p : Pos) (is : List PackageItem) → IfOk (package_items env s p is).answer (Add s)
items_add env s p [] = adds_same s
items_add env s p (i ∷ is) =
    answered (Add s) p _
    (part_so (Add s) (Add s) _ (λ r. package_items (with_local env r.value) r.next p is >>= (λ rest. rule (Some rest)))
    (answered (Add s) p (package_item env s i).outcome (item_adds env s i))
    (λ r h. part_so (Add r.next) (Add s) (package_items (with_local env r.value) r.next p is).answer (λ rest. rule (Some rest))
    (items_add (with_local env r.value) r.next p is) (λ rest k. adds_both s r.next rest.next h k)))

abbrev Bodies : ℕ → State → Given Region → Type 0
Bodies n s g = AddsBodies n s g.next

abbrev one_body : BodyItem → ℕ
one_body (item.Body b) = 1
one_body (item.Declared i) = 0

body_item_adds : (env : Env) (s : State) (i : BodyItem) → IfPassed (body_item env s i).outcome (Bodies (one_body i) s)
body_item_adds env s (item.Declared i) = weaker_passed (package_item env s i) (item_adds env s i)
  where
    weaker_passed : (x : Plan (Given Region)) → IfPassed x.outcome (Add s) → IfPassed x.outcome (Bodies 0 s)
    weaker_passed x h = passed_so x.outcome h
      where
        passed_so : (o : Outcome (Given Region)) → IfPassed o (Add s) → IfPassed o (Bodies 0 s)
        passed_so (refused_in q) k = tt
        passed_so broken k = tt
        passed_so (passed g) k = bodies_of_adds s g.next k
body_item_adds env s (item.Body b) =
    part_so (Bodies 1 s) (Bodies 1 s) (packaged_body env s b).answer (λ r. rule (Some r)) (packaged_adds env s b) (λ r h. h)

count_one : (name : List ℕ) (i : BodyItem) (is : List BodyItem) → length (body_names name (i ∷ is)) ≡ one_body i + length (body_names name is)
count_one name (item.Body b) is = omega (arith)
count_one name (item.Declared i) is = omega (arith)

pub body_items_add : (name : List ℕ) (env : Env) (s : State) (p : Pos) (is : List BodyItem)
    → IfOk (body_items env s p is).answer (Bodies (length (body_names name is)) s)
body_items_add name env s p [] = bodies_of_adds s s (adds_same s)
body_items_add name env s p (i ∷ is) =
    answered (Bodies (length (body_names name (i ∷ is))) s) p _
    (part_so (Bodies (one_body i) s) (Bodies (length (body_names name (i ∷ is))) s) _
    (λ r. body_items (with_local env r.value) r.next p is >>= (λ rest. rule (Some rest)))
    (answered (Bodies (one_body i) s) p (body_item env s i).outcome (body_item_adds env s i))
    (λ r h. part_so (Bodies (length (body_names name is)) r.next) (Bodies (length (body_names name (i ∷ is))) s)
    (body_items (with_local env r.value) r.next p is).answer (λ rest. rule (Some rest))
    (body_items_add name (with_local env r.value) r.next p is)
    (λ rest k. subst (λ n. AddsBodies n s rest.next) (sym (count_one name i is))
    (bodies_both (one_body i) (length (body_names name is)) s r.next rest.next h k))))

-- formals and actuals
formal_type_adds : (env : Env) (s : State) (i : Identifier) (k : ℕ) (integral : Bool) → IfPassed (formal_type_declared env s i k integral).outcome (Add s)
formal_type_adds env s i k integral =
    part_so (λ r. Unit {0}) (Add s) (hide env.local i).answer
    (λ region. rule (Some (given (redefined (key i) (formal_mark (new_identity env s) k integral) region) (one_type_more s))))
    (any_answer (hide env.local i).answer) (λ region u. adds_typed s)

formal_adds : (env : Env) (s : State) (k : ℕ) (f : FormalKind) → IfPassed (formal_declared env s k f).outcome (Add s)
formal_adds env s k (formal.DiscreteType i) = formal_type_adds env s i k false
formal_adds env s k (formal.IntegerType i) = formal_type_adds env s i k true
formal_adds env s k (formal.Object i m n) =
    part_so (λ r. Unit {0}) (Add s) (hide env.local i).answer
    (λ region. scalar_mark (with_local env region) s n
    >>= (λ t. rule (Some (given (redefined (key i) (formal_object t.value.subtype (static_formal k)) region) t.next))))
    (any_answer (hide env.local i).answer)
    (λ region u. part_so (Add s) (Add s) (scalar_mark (with_local env region) s n).answer
    (λ t. rule (Some (given (redefined (key i) (formal_object t.value.subtype (static_formal k)) region) t.next)))
    (scalar_mark_adds (with_local env region) s n) (λ t h. h))
formal_adds env s k (formal.Subprogram x) =
    part_so (λ r. Unit {0}) (Add s) (hide env.local x.name).answer
    (λ region. specified (with_local env region) s x
    >>= (λ q. rule (Some (given (redefined (key x.name) (formal_routine k q.value) region) (declared_only s q.next)))))
    (any_answer (hide env.local x.name).answer)
    (λ region u. part_so (Add s) (Add s) (specified (with_local env region) s x).answer
    (λ q. rule (Some (given (redefined (key x.name) (formal_routine k q.value) region) (declared_only s q.next))))
    (specified_adds (with_local env region) s x)
    (λ q h. adds_both s q.next (declared_only s q.next) h (adds_declared_only s q.next)))

pub formals_add : (env : Env) (s : State) (p : Pos) (k : ℕ) (fs : List Formal) → IfOk (formals_declared env s p k fs).answer (Add s)
formals_add env s p k [] = adds_same s
formals_add env s p k (f ∷ fs) =
    answered (Add s) p _
    (part_so (Add s) (Add s) _ (λ region. formals_declared (with_local env region.value) region.next p (k + 1) fs >>= (λ rest. rule (Some rest)))
    (answered (Add s) f.pos (formal_declared env s k f.kind).outcome (formal_adds env s k f.kind))
    (λ region h. part_so (Add region.next) (Add s) (formals_declared (with_local env region.value) region.next p (k + 1) fs).answer (λ rest. rule (Some rest))
    (formals_add (with_local env region.value) region.next p (k + 1) fs) (λ rest l. adds_both s region.next rest.next h l)))
