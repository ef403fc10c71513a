-- Specifications and bodies keep the names of exceptions and instances, in both steps.
use Rattle.std.proofs.Common.{◌+◌, ℕ, nat_eq, Bool, true, false, if◌then◌else◌, List, [], ◌∷◌, ◌++◌, Option, Some, None, option_map, IfSome, IfOk, refl}
use Rattle.cov_base.specs.Lists.{Everywhere}
use Rattle.cov_base.specs.declared.position.Pos.{Pos}
use Rattle.ada_syntax.specs.Tree.{Name}
use Rattle.ada_syntax.specs.declared.name.Identifier.{Identifier}
use Rattle.ada_syntax.specs.declared.unit.BodyItem.{BodyItem}
use Rattle.ada_syntax.specs.declared.unit.BodyItem.TheVariants as item
use Rattle.ada_syntax.specs.declared.unit.Formal.{Formal}
use Rattle.ada_syntax.specs.declared.unit.FormalKind.{FormalKind}
use Rattle.ada_syntax.specs.declared.unit.FormalKind.TheVariants as formal
use Rattle.ada_syntax.specs.declared.unit.PackageItem.{PackageItem}
use Rattle.ada_syntax.specs.declared.unit.PackageItem.TheVariants as part
use Rattle.ada_syntax.specs.declared.unit.Parameter.{Parameter as SourceParameter}
use Rattle.ada_syntax.specs.declared.unit.Specification.{Specification}
use Rattle.ada_syntax.specs.declared.unit.SubprogramBody.{SubprogramBody}
use Rattle.ada_meaning.specs.Types.{static_formal}
use Rattle.ada_rules.specs.Plan.{Plan, ◌>>=◌, rule}
use Rattle.ada_rules.specs.Entities.{key, formal_object, routine, Region, redefined}
use Rattle.ada_rules.specs.Environment.{typed_rule, State, Given, given, Env, with_local, opened, new_identity, one_type_more, exceeded, hide, hide_all}
use Rattle.ada_rules.specs.Expressions.{Marked, mark_part, scalar_mark}
use Rattle.ada_rules.specs.Declarations.{Declared, with_objects, declared, all_declared}
use Rattle.ada_rules.specs.Statements.{Frame, block_of, all_handled}
use Rattle.ada_rules.specs.Subprograms.{mode_of, Profile, parameters_for, parameter_objects, most_parameters, limited, parameters_judged, is_function_profile, with_result, result_judged, fresh, specified, declared_only, body_number, routine_of, subprogram_declared, completed, conforming, closed_by, may_end, body_made, inside_body, body_judged, with_routine, packaged_body}
use Rattle.ada_rules.specs.Instances.{formal_mark, formal_routine, formal_type_declared, formal_declared, formals_declared}
use Rattle.ada_rules.specs.Units.{package_item, package_items, body_item, body_items}
use Rattle.legal_laws.specs.Kept.{OnlyDecides}
use Rattle.legal_laws.proofs.Passing.{IfPassed, if_test, answered, part_so, weaker_ok, typed_either, any_answer, ruled_so, if_map}
use Rattle.legal_laws.proofs.KeptExpressions.{mark_part_behind}
use Rattle.legal_names.specs.Spelled.{IsWord, IsBodySpelled, IsPackageItemSpelled, IsBodyItemSpelled}
use Rattle.legal_names.specs.Named.{IsNamedEnv, Keeps}
use Rattle.legal_names.proofs.Words.{key_word}
use Rattle.legal_names.proofs.Declared.{keeps_same, keeps_none, keeps_both, keeps_decides, keeps_objects, keeps_typed, Keep, KeepsOn, scalar_mark_keeps, declaration_keeps, declarations_keep}
use Rattle.legal_names.proofs.Stated.{handled_keep}

-- specifications
keeps_exceeded : (b : Bool) (p : Pos) (s : State) → Keeps s (exceeded b p s)
keeps_exceeded true p s = keeps_none s (exceeded true p s) refl refl refl refl refl refl refl refl refl refl refl
keeps_exceeded false p s = keeps_same s

limited_keeps : (n : ℕ) (is : List Identifier) (s : State) → Keeps s (limited n is s)
limited_keeps n [] s = keeps_same s
limited_keeps n (i ∷ is) s =
    keeps_both s (exceeded (nat_eq n most_parameters) i.pos s) _ (keeps_exceeded (nat_eq n most_parameters) i.pos s)
    (limited_keeps (n + 1) is (exceeded (nat_eq n most_parameters) i.pos s))

mark_keeps : (env : Env) (s : State) (n : Name) → IfOk (mark_part env s n).answer (Keep s)
mark_keeps env s n =
    weaker_ok (λ x. OnlyDecides s x.next) (Keep s) (mark_part env s n).answer (mark_part_behind env s n) (λ x h. keeps_decides s x.next h)

abbrev with_parameters : SourceParameter → Given Marked → State
with_parameters q t = with_objects t.value.subtype q.names (limited t.next.objects q.names t.next)

parameters_keep : (env : Env) (s : State) (at : Pos) (qs : List SourceParameter) → IfOk (parameters_judged env s at qs).answer (Keep s)
parameters_keep env s at [] = keeps_same s
parameters_keep env s at (q ∷ qs) =
    answered (Keep s) at _
    (part_so (λ x. Unit {0}) (Keep s) (hide_all at env.local q.names).answer
    (λ names. mark_part (with_local env names) s q.mark
    >>= (λ t. parameters_judged (with_local env (parameter_objects (mode_of q.mode) t.value.subtype t.next.objects names q.names)) (with_parameters q t) at qs
    >>= (λ rest. rule (Some (given (record { parameters = parameters_for (mode_of q.mode) t.value q.names ++ rest.value.parameters; result = None; region = rest.value.region }) rest.next)))))
    (any_answer (hide_all at env.local q.names).answer)
    (λ names u. part_so (Keep s) (Keep s) (mark_part (with_local env names) s q.mark).answer
    (λ t. parameters_judged (with_local env (parameter_objects (mode_of q.mode) t.value.subtype t.next.objects names q.names)) (with_parameters q t) at qs
    >>= (λ rest. rule (Some (given (record { parameters = parameters_for (mode_of q.mode) t.value q.names ++ rest.value.parameters; result = None; region = rest.value.region }) rest.next))))
    (mark_keeps (with_local env names) s q.mark)
    (λ t h. part_so (Keep (with_parameters q t)) (Keep s)
    (parameters_judged (with_local env (parameter_objects (mode_of q.mode) t.value.subtype t.next.objects names q.names)) (with_parameters q t) at qs).answer
    (λ rest. rule (Some (given (record { parameters = parameters_for (mode_of q.mode) t.value q.names ++ rest.value.parameters; result = None; region = rest.value.region }) rest.next)))
    (parameters_keep (with_local env (parameter_objects (mode_of q.mode) t.value.subtype t.next.objects names q.names)) (with_parameters q t) at qs)
    (λ rest k. keeps_both s t.next rest.next h
    (keeps_both t.next (limited t.next.objects q.names t.next) rest.next (limited_keeps t.next.objects q.names t.next)
    (keeps_both (limited t.next.objects q.names t.next) (with_parameters q t) rest.next
    (keeps_objects t.value.subtype q.names (limited t.next.objects q.names t.next)) k))))))

result_keeps : (env : Env) (s : State) (q : Given Profile) (n : Option Name) → Keeps s q.next → IfPassed (result_judged env q n).outcome (Keep s)
result_keeps env s q None h = h
result_keeps env s q (Some n) h =
    part_so (Keep q.next) (Keep s) (mark_part (with_local env q.value.region) q.next n).answer
    (λ t. typed_rule env.step (with_result q t) (if is_function_profile q.value.parameters t.value then Some (with_result q t) else None))
    (mark_keeps (with_local env q.value.region) q.next n)
    (λ t k. typed_either (Keep s) env.step (with_result q t) _ (keeps_both s q.next t.next h k)
    (if_test (Keep s) (is_function_profile q.value.parameters t.value) _ (λ b. keeps_both s q.next t.next h k)))

keeps_fresh : (s : State) → Keeps s (fresh s)
keeps_fresh s = keeps_none s (fresh s) refl refl refl refl refl refl refl refl refl refl refl

pub specified_keeps : (env : Env) (s : State) (x : Specification) → IfOk (specified env s x).answer (Keep s)
specified_keeps env s x =
    answered (Keep s) x.pos _
    (part_so (Keep (fresh s)) (Keep s) (parameters_judged (opened env) (fresh s) x.pos x.parameters).answer
    (λ q. result_judged (opened env) q x.result_mark) (parameters_keep (opened env) (fresh s) x.pos x.parameters)
    (λ q h. result_keeps (opened env) s q x.result_mark (keeps_both s (fresh s) q.next (keeps_fresh s) h)))

keeps_declared_only : (before s : State) → Keeps s (declared_only before s)
keeps_declared_only before s = keeps_none s (declared_only before s) refl refl refl refl refl refl refl refl refl refl refl

pub subprogram_keeps : (env : Env) (s : State) (x : Specification) → IfOk (subprogram_declared env s x).answer (Keep s)
subprogram_keeps env s x =
    answered (Keep s) x.pos _
    (part_so (λ r. Unit {0}) (Keep s) (hide env.local x.name).answer
    (λ region. specified (with_local env region) s x
    >>= (λ q. rule (option_map (λ n. given (redefined (key x.name) (routine (routine_of env (key x.name) true q.value)) region) (declared_only s q.next))
    (body_number env.world env.unit_name (key x.name)))))
    (any_answer (hide env.local x.name).answer)
    (λ region u. part_so (Keep s) (Keep s) (specified (with_local env region) s x).answer
    (λ q. rule (option_map (λ n. given (redefined (key x.name) (routine (routine_of env (key x.name) true q.value)) region) (declared_only s q.next))
    (body_number env.world env.unit_name (key x.name))))
    (specified_keeps (with_local env region) s x)
    (λ q h. ruled_so (Keep s) _
    (if_map (λ n. Unit {0}) (Keep s) (λ n. given (redefined (key x.name) (routine (routine_of env (key x.name) true q.value)) region) (declared_only s q.next))
    (body_number env.world env.unit_name (key x.name)) (any_some (body_number env.world env.unit_name (key x.name)))
    (λ n v. keeps_both s q.next (declared_only s q.next) h (keeps_declared_only s q.next))))))
  where
    any_some : (o : Option ℕ) → IfSome o (λ n. Unit {0})
    any_some None = tt
    any_some (Some n) = tt

-- a body
abbrev pub KeepsBody : State → State → Type 0
KeepsBody s t = Keeps s t

body_keeps : (env : Env) (before s : State) (q : Given Profile) (b : SubprogramBody) (x : Declared) (f : Given Frame) → Keeps before s → Keeps s f.next
    → KeepsBody before (body_made env before q.value (block_of x.made f.value) f.next)
body_keeps env before s q b x f h k = let all = keeps_both before s f.next h k in record { names = all.names; instances = all.instances }

module _ (env : Env) (before : State) (b : SubprogramBody) (region : Region) (name : List ℕ) (q : Given Profile) where
  abbrev inside : Env
  inside = inside_body env region name q.value

  abbrev made : Declared → Given Frame → State
  made x f = body_made env before q.value (block_of x.made f.value) f.next

  pub judged_keeps : Keeps before q.next → IsWord env.unit_name → IsWord name → IsBodySpelled b → IfOk (body_judged env before b region name q).answer (KeepsBody before)
  judged_keeps h unit_named named spelled =
      answered (KeepsBody before) b.specification.pos _
      (part_so (KeepsOn q.next) (KeepsBody before) (all_declared inside q.next b.specification.pos b.declarations).answer
      (λ x. all_handled (with_local inside x.region) x.next b.specification.pos b.statements
      >>= (λ f. closed_by b.specification.pos b.specification.name b.end_name
      >>= (λ u. typed_rule env.step (made x f) (if may_end b q.value.result then Some (made x f) else None))))
      (declarations_keep inside q.next b.specification.pos b.declarations (unit_named, named) spelled.1.0)
      (λ x k. part_so (Keep x.next) (KeepsBody before) (all_handled (with_local inside x.region) x.next b.specification.pos b.statements).answer
      (λ f. closed_by b.specification.pos b.specification.name b.end_name
      >>= (λ u. typed_rule env.step (made x f) (if may_end b q.value.result then Some (made x f) else None)))
      (handled_keep (with_local inside x.region) x.next b.specification.pos b.statements (unit_named, named) spelled.1.1)
      (λ f l. part_so (λ u. Unit {0}) (KeepsBody before) (closed_by b.specification.pos b.specification.name b.end_name).answer
      (λ u. typed_rule env.step (made x f) (if may_end b q.value.result then Some (made x f) else None))
      (any_answer (closed_by b.specification.pos b.specification.name b.end_name).answer)
      (λ u v. let all = body_keeps env before x.next q b x f (keeps_both before q.next x.next h k) l in
      typed_either (KeepsBody before) env.step (made x f) _ all (if_test (KeepsBody before) (may_end b q.value.result) (Some (made x f)) (λ e. all))))))

module _ (env : Env) (s : State) (b : SubprogramBody) where
  abbrev after_conforming : Region → Given Profile → Plan (Given Region)
  after_conforming region q =
      body_judged env s b (with_routine env region b.specification.name q.value) (key b.specification.name) q
      >>= (λ next. rule (Some (given (with_routine env region b.specification.name q.value) next)))

  abbrev after_specified : Region → Given Profile → Plan (Given Region)
  after_specified region q = conforming b.specification.pos region b.specification.name q.value >>= (λ fit. after_conforming region q)

  abbrev after_completed : Region → Plan (Given Region)
  after_completed region = specified (with_local env region) s b.specification >>= after_specified region

  pub packaged_keeps : IsNamedEnv env → IsBodySpelled b → IfOk (packaged_body env s b).answer (λ g. KeepsBody s g.next)
  packaged_keeps named spelled =
      answered (λ (g : Given Region). KeepsBody s g.next) b.specification.pos _
      (part_so (λ r. Unit {0}) (λ (g : Given Region). KeepsBody s g.next) (completed env.local b.specification.name).answer after_completed
      (any_answer (completed env.local b.specification.name).answer)
      (λ region u. part_so (Keep s) (λ (g : Given Region). KeepsBody s g.next) (specified (with_local env region) s b.specification).answer (after_specified region)
      (specified_keeps (with_local env region) s b.specification)
      (λ q h. part_so (λ v. Unit {0}) (λ (g : Given Region). KeepsBody s g.next) (conforming b.specification.pos region b.specification.name q.value).answer
      (λ fit. after_conforming region q) (any_answer (conforming b.specification.pos region b.specification.name q.value).answer)
      (λ fit v. part_so (KeepsBody s) (λ (g : Given Region). KeepsBody s g.next)
      (body_judged env s b (with_routine env region b.specification.name q.value) (key b.specification.name) q).answer
      (λ next. rule (Some (given (with_routine env region b.specification.name q.value) next)))
      (judged_keeps env s b (with_routine env region b.specification.name q.value) (key b.specification.name) q h named.0 (key_word b.specification.name spelled.0) spelled)
      (λ next k. k)))))

-- the items of packages
item_keeps : (env : Env) (s : State) (i : PackageItem) → IsNamedEnv env → IsPackageItemSpelled i → IfPassed (package_item env s i).outcome (Keep s)
item_keeps env s (part.Declaration d) named spelled =
    part_so (KeepsOn s) (Keep s) (declared env s d).answer (λ x. rule (Some (given x.region x.next))) (declaration_keeps env s d named spelled) (λ x h. h)
item_keeps env s (part.Subprogram x) named spelled =
    part_so (Keep s) (Keep s) (subprogram_declared env s x).answer (λ r. rule (Some r)) (subprogram_keeps env s x) (λ r h. h)

pub items_keep : (env : Env) (s : State) (p : Pos) (is : List PackageItem) → IsNamedEnv env → Everywhere IsPackageItemSpelled is → IfOk (package_items env s p is).answer (Keep s)
items_keep env s p [] named spelled = keeps_same s
items_keep env s p (i ∷ is) named spelled =
    answered (Keep s) p _
    (part_so (Keep s) (Keep s) _ (λ r. package_items (with_local env r.value) r.next p is >>= (λ rest. rule (Some rest)))
    (answered (Keep s) p (package_item env s i).outcome (item_keeps env s i named spelled.0))
    (λ r h. part_so (Keep r.next) (Keep s) (package_items (with_local env r.value) r.next p is).answer (λ rest. rule (Some rest))
    (items_keep (with_local env r.value) r.next p is named spelled.1) (λ rest k. keeps_both s r.next rest.next h k)))

abbrev Bodies : State → Given Region → Type 0
Bodies s g = Keeps s g.next

body_item_keeps : (env : Env) (s : State) (i : BodyItem) → IsNamedEnv env → IsBodyItemSpelled i → IfPassed (body_item env s i).outcome (Bodies s)
body_item_keeps env s (item.Declared i) named spelled = item_keeps env s i named spelled
body_item_keeps env s (item.Body b) named spelled =
    part_so (Bodies s) (Bodies s) (packaged_body env s b).answer (λ r. rule (Some r)) (packaged_keeps env s b named spelled) (λ r h. h)

pub body_items_keep : (env : Env) (s : State) (p : Pos) (is : List BodyItem) → IsNamedEnv env → Everywhere IsBodyItemSpelled is → IfOk (body_items env s p is).answer (Bodies s)
body_items_keep env s p [] named spelled = keeps_same s
body_items_keep env s p (i ∷ is) named spelled =
    answered (Bodies s) p _
    (part_so (Bodies s) (Bodies s) _ (λ r. body_items (with_local env r.value) r.next p is >>= (λ rest. rule (Some rest)))
    (answered (Bodies s) p (body_item env s i).outcome (body_item_keeps env s i named spelled.0))
    (λ r h. part_so (Bodies r.next) (Bodies s) (body_items (with_local env r.value) r.next p is).answer (λ rest. rule (Some rest))
    (body_items_keep (with_local env r.value) r.next p is named spelled.1)
    (λ rest k. keeps_both s r.next rest.next h k)))

-- formals and actuals
formal_type_keeps : (env : Env) (s : State) (i : Identifier) (k : ℕ) (integral : Bool) → IfPassed (formal_type_declared env s i k integral).outcome (Keep s)
formal_type_keeps env s i k integral =
    part_so (λ r. Unit {0}) (Keep s) (hide env.local i).answer
    (λ region. rule (Some (given (redefined (key i) (formal_mark (new_identity env s) k integral) region) (one_type_more s))))
    (any_answer (hide env.local i).answer) (λ region u. keeps_typed s)

formal_keeps : (env : Env) (s : State) (k : ℕ) (f : FormalKind) → IfPassed (formal_declared env s k f).outcome (Keep s)
formal_keeps env s k (formal.DiscreteType i) = formal_type_keeps env s i k false
formal_keeps env s k (formal.IntegerType i) = formal_type_keeps env s i k true
formal_keeps env s k (formal.Object i m n) =
    part_so (λ r. Unit {0}) (Keep s) (hide env.local i).answer
    (λ region. scalar_mark (with_local env region) s n
    >>= (λ t. rule (Some (given (redefined (key i) (formal_object t.value.subtype (static_formal k)) region) t.next))))
    (any_answer (hide env.local i).answer)
    (λ region u. part_so (Keep s) (Keep s) (scalar_mark (with_local env region) s n).answer
    (λ t. rule (Some (given (redefined (key i) (formal_object t.value.subtype (static_formal k)) region) t.next)))
    (scalar_mark_keeps (with_local env region) s n) (λ t h. h))
formal_keeps env s k (formal.Subprogram x) =
    part_so (λ r. Unit {0}) (Keep s) (hide env.local x.name).answer
    (λ region. specified (with_local env region) s x
    >>= (λ q. rule (Some (given (redefined (key x.name) (formal_routine k q.value) region) (declared_only s q.next)))))
    (any_answer (hide env.local x.name).answer)
    (λ region u. part_so (Keep s) (Keep s) (specified (with_local env region) s x).answer
    (λ q. rule (Some (given (redefined (key x.name) (formal_routine k q.value) region) (declared_only s q.next))))
    (specified_keeps (with_local env region) s x)
    (λ q h. keeps_both s q.next (declared_only s q.next) h (keeps_declared_only s q.next)))

pub formals_keep : (env : Env) (s : State) (p : Pos) (k : ℕ) (fs : List Formal) → IfOk (formals_declared env s p k fs).answer (Keep s)
formals_keep env s p k [] = keeps_same s
formals_keep env s p k (f ∷ fs) =
    answered (Keep s) p _
    (part_so (Keep s) (Keep s) _ (λ region. formals_declared (with_local env region.value) region.next p (k + 1) fs >>= (λ rest. rule (Some rest)))
    (answered (Keep s) f.pos (formal_declared env s k f.kind).outcome (formal_keeps env s k f.kind))
    (λ region h. part_so (Keep region.next) (Keep s) (formals_declared (with_local env region.value) region.next p (k + 1) fs).answer (λ rest. rule (Some rest))
    (formals_keep (with_local env region.value) region.next p (k + 1) fs) (λ rest l. keeps_both s region.next rest.next h l)))
