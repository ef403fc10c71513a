-- What the types weigh that bodies and packages declare, in both steps.
use Rattle.std.proofs.Common.{◌+◌, ℕ, nat_eq, Bool, true, false, if◌then◌else◌, List, [], ◌∷◌, ◌++◌, Option, Some, None, option_map, IfSome, IfOk, refl}
use Rattle.cov_base.specs.declared.position.Pos.{Pos}
use Rattle.ada_syntax.specs.Tree.{Name}
use Rattle.ada_syntax.specs.declared.name.Identifier.{Identifier}
use Rattle.ada_syntax.specs.declared.unit.BodyItem.{BodyItem}
use Rattle.ada_syntax.specs.declared.unit.BodyItem.TheVariants as item
use Rattle.ada_syntax.specs.declared.unit.Formal.{Formal}
use Rattle.ada_syntax.specs.declared.unit.FormalKind.{FormalKind}
use Rattle.ada_syntax.specs.declared.unit.FormalKind.TheVariants as formal
use Rattle.ada_syntax.specs.declared.unit.PackageItem.{PackageItem}
use Rattle.ada_syntax.specs.declared.unit.PackageItem.TheVariants as part
use Rattle.ada_syntax.specs.declared.unit.Parameter.{Parameter as SourceParameter}
use Rattle.ada_syntax.specs.declared.unit.Specification.{Specification}
use Rattle.ada_syntax.specs.declared.unit.SubprogramBody.{SubprogramBody}
use Rattle.ada_meaning.specs.Types.{static_formal}
use Rattle.ada_rules.specs.Plan.{Plan, ◌>>=◌, rule}
use Rattle.ada_rules.specs.Entities.{key, formal_object, routine, Region, redefined}
use Rattle.ada_rules.specs.Environment.{typed_rule, State, Given, given, Env, with_local, opened, new_identity, one_type_more, exceeded, hide, hide_all}
use Rattle.ada_rules.specs.Expressions.{Marked, mark_part, scalar_mark}
use Rattle.ada_rules.specs.Declarations.{Declared, with_objects, declared, all_declared}
use Rattle.ada_rules.specs.Statements.{Frame, block_of, all_handled}
use Rattle.ada_rules.specs.Subprograms.{mode_of, Profile, parameters_for, parameter_objects, most_parameters, limited, parameters_judged, is_function_profile, with_result, result_judged, fresh, specified, declared_only, body_number, routine_of, subprogram_declared, completed, conforming, closed_by, may_end, body_made, inside_body, body_judged, with_routine, packaged_body}
use Rattle.ada_rules.specs.Instances.{formal_mark, formal_routine, formal_type_declared, formal_declared, formals_declared}
use Rattle.ada_rules.specs.Units.{package_item, package_items, body_item, body_items}
use Rattle.legal_laws.specs.Kept.{OnlyDecides}
use Rattle.legal_laws.proofs.Passing.{IfPassed, if_test, answered, part_so, weaker_ok, typed_either, any_answer, ruled_so, if_map}
use Rattle.legal_laws.proofs.KeptExpressions.{mark_part_behind}
use Rattle.legal_types.specs.TypeTokens.{kind_types, declared_types, handled_types, body_types, package_item_types, package_items_types, body_item_types, body_items_types}
use Rattle.legal_types.specs.Weights.{Keeps, Weighs}
use Rattle.legal_types.proofs.TypeDeclarations.{keeps_same, keeps_both, keeps_decides, keeps_objects, keeps_typed, Keep, scalar_mark_keeps, WeighsOn, of_keeps, weighs_both, weighs_behind, declaration_weighs, declarations_weigh}
use Rattle.legal_types.proofs.TypeStatements.{Weigh, handled_weighs}

-- specifications
keeps_exceeded : (b : Bool) (p : Pos) (s : State) → Keeps s (exceeded b p s)
keeps_exceeded true p s = record { types = refl }
keeps_exceeded false p s = keeps_same s

limited_keeps : (n : ℕ) (is : List Identifier) (s : State) → Keeps s (limited n is s)
limited_keeps n [] s = keeps_same s
limited_keeps n (i ∷ is) s =
    keeps_both s (exceeded (nat_eq n most_parameters) i.pos s) _ (keeps_exceeded (nat_eq n most_parameters) i.pos s)
    (limited_keeps (n + 1) is (exceeded (nat_eq n most_parameters) i.pos s))

mark_keeps : (env : Env) (s : State) (n : Name) → IfOk (mark_part env s n).answer (Keep s)
mark_keeps env s n =
    weaker_ok (λ x. OnlyDecides s x.next) (Keep s) (mark_part env s n).answer (mark_part_behind env s n) (λ x h. keeps_decides s x.next h)

abbrev with_parameters : SourceParameter → Given Marked → State
with_parameters q t = with_objects t.value.subtype q.names (limited t.next.objects q.names t.next)

parameters_keep : (env : Env) (s : State) (at : Pos) (qs : List SourceParameter) → IfOk (parameters_judged env s at qs).answer (Keep s)
parameters_keep env s at [] = keeps_same s
parameters_keep env s at (q ∷ qs) =
    answered (Keep s) at _
    (part_so (λ x. Unit {0}) (Keep s) (hide_all at env.local q.names).answer
    (λ names. mark_part (with_local env names) s q.mark
    >>= (λ t. parameters_judged (with_local env (parameter_objects (mode_of q.mode) t.value.subtype t.next.objects names q.names)) (with_parameters q t) at qs
    >>= (λ rest. rule (Some (given (record { parameters = parameters_for (mode_of q.mode) t.value q.names ++ rest.value.parameters; result = None; region = rest.value.region }) rest.next)))))
    (any_answer (hide_all at env.local q.names).answer)
    (λ names u. part_so (Keep s) (Keep s) (mark_part (with_local env names) s q.mark).answer
    (λ t. parameters_judged (with_local env (parameter_objects (mode_of q.mode) t.value.subtype t.next.objects names q.names)) (with_parameters q t) at qs
    >>= (λ rest. rule (Some (given (record { parameters = parameters_for (mode_of q.mode) t.value q.names ++ rest.value.parameters; result = None; region = rest.value.region }) rest.next))))
    (mark_keeps (with_local env names) s q.mark)
    (λ t h. part_so (Keep (with_parameters q t)) (Keep s)
    (parameters_judged (with_local env (parameter_objects (mode_of q.mode) t.value.subtype t.next.objects names q.names)) (with_parameters q t) at qs).answer
    (λ rest. rule (Some (given (record { parameters = parameters_for (mode_of q.mode) t.value q.names ++ rest.value.parameters; result = None; region = rest.value.region }) rest.next)))
    (parameters_keep (with_local env (parameter_objects (mode_of q.mode) t.value.subtype t.next.objects names q.names)) (with_parameters q t) at qs)
    (λ rest k. keeps_both s t.next rest.next h
    (keeps_both t.next (limited t.next.objects q.names t.next) rest.next (limited_keeps t.next.objects q.names t.next)
    (keeps_both (limited t.next.objects q.names t.next) (with_parameters q t) rest.next
    (keeps_objects t.value.subtype q.names (limited t.next.objects q.names t.next)) k))))))

result_keeps : (env : Env) (s : State) (q : Given Profile) (n : Option Name) → Keeps s q.next → IfPassed (result_judged env q n).outcome (Keep s)
result_keeps env s q None h = h
result_keeps env s q (Some n) h =
    part_so (Keep q.next) (Keep s) (mark_part (with_local env q.value.region) q.next n).answer
    (λ t. typed_rule env.step (with_result q t) (if is_function_profile q.value.parameters t.value then Some (with_result q t) else None))
    (mark_keeps (with_local env q.value.region) q.next n)
    (λ t k. typed_either (Keep s) env.step (with_result q t) _ (keeps_both s q.next t.next h k)
    (if_test (Keep s) (is_function_profile q.value.parameters t.value) _ (λ b. keeps_both s q.next t.next h k)))

keeps_fresh : (s : State) → Keeps s (fresh s)
keeps_fresh s = record { types = refl }

pub specified_keeps : (env : Env) (s : State) (x : Specification) → IfOk (specified env s x).answer (Keep s)
specified_keeps env s x =
    answered (Keep s) x.pos _
    (part_so (Keep (fresh s)) (Keep s) (parameters_judged (opened env) (fresh s) x.pos x.parameters).answer
    (λ q. result_judged (opened env) q x.result_mark) (parameters_keep (opened env) (fresh s) x.pos x.parameters)
    (λ q h. result_keeps (opened env) s q x.result_mark (keeps_both s (fresh s) q.next (keeps_fresh s) h)))

keeps_declared_only : (before s : State) → Keeps s (declared_only before s)
keeps_declared_only before s = record { types = refl }

pub subprogram_keeps : (env : Env) (s : State) (x : Specification) → IfOk (subprogram_declared env s x).answer (Keep s)
subprogram_keeps env s x =
    answered (Keep s) x.pos _
    (part_so (λ r. Unit {0}) (Keep s) (hide env.local x.name).answer
    (λ region. specified (with_local env region) s x
    >>= (λ q. rule (option_map (λ n. given (redefined (key x.name) (routine (routine_of env (key x.name) true q.value)) region) (declared_only s q.next))
    (body_number env.world env.unit_name (key x.name)))))
    (any_answer (hide env.local x.name).answer)
    (λ region u. part_so (Keep s) (Keep s) (specified (with_local env region) s x).answer
    (λ q. rule (option_map (λ n. given (redefined (key x.name) (routine (routine_of env (key x.name) true q.value)) region) (declared_only s q.next))
    (body_number env.world env.unit_name (key x.name))))
    (specified_keeps (with_local env region) s x)
    (λ q h. ruled_so (Keep s) _
    (if_map (λ n. Unit {0}) (Keep s) (λ n. given (redefined (key x.name) (routine (routine_of env (key x.name) true q.value)) region) (declared_only s q.next))
    (body_number env.world env.unit_name (key x.name)) (any_some (body_number env.world env.unit_name (key x.name)))
    (λ n v. keeps_both s q.next (declared_only s q.next) h (keeps_declared_only s q.next))))))
  where
    any_some : (o : Option ℕ) → IfSome o (λ n. Unit {0})
    any_some None = tt
    any_some (Some n) = tt

-- bodies
body_weighs : (env : Env) (before s : State) (q : Given Profile) (b : SubprogramBody) (x : Declared) (f : Given Frame) (n : ℕ) → Weighs env.generic n before f.next
    → Weighs env.generic n before (body_made env before q.value (block_of x.made f.value) f.next)
body_weighs env before s q b x f n h = record { most = h.most; each = h.each }

module _ (env : Env) (before : State) (b : SubprogramBody) (region : Region) (name : List ℕ) (q : Given Profile) where
  abbrev inside : Env
  inside = inside_body env region name q.value

  abbrev made : Declared → Given Frame → State
  made x f = body_made env before q.value (block_of x.made f.value) f.next

  pub judged_weighs : Keeps before q.next → IfOk (body_judged env before b region name q).answer (Weighs env.generic (body_types b) before)
  judged_weighs h =
      let n = body_types b in
      answered (Weighs env.generic n before) b.specification.pos _
      (part_so (WeighsOn env.generic (declared_types b.declarations) q.next) (Weighs env.generic n before) (all_declared inside q.next b.specification.pos b.declarations).answer
      (λ x. all_handled (with_local inside x.region) x.next b.specification.pos b.statements
      >>= (λ f. closed_by b.specification.pos b.specification.name b.end_name
      >>= (λ u. typed_rule env.step (made x f) (if may_end b q.value.result then Some (made x f) else None))))
      (declarations_weigh inside q.next b.specification.pos b.declarations)
      (λ x k. part_so (Weigh env.generic (handled_types b.statements) x.next) (Weighs env.generic n before) (all_handled (with_local inside x.region) x.next b.specification.pos b.statements).answer
      (λ f. closed_by b.specification.pos b.specification.name b.end_name
      >>= (λ u. typed_rule env.step (made x f) (if may_end b q.value.result then Some (made x f) else None)))
      (handled_weighs (with_local inside x.region) x.next b.specification.pos b.statements)
      (λ f l. part_so (λ u. Unit {0}) (Weighs env.generic n before) (closed_by b.specification.pos b.specification.name b.end_name).answer
      (λ u. typed_rule env.step (made x f) (if may_end b q.value.result then Some (made x f) else None))
      (any_answer (closed_by b.specification.pos b.specification.name b.end_name).answer)
      (λ u v. let all = body_weighs env before x.next q b x f n (weighs_behind env.generic n before q.next f.next h
      (weighs_both env.generic (declared_types b.declarations) (handled_types b.statements) q.next x.next f.next k l)) in
      typed_either (Weighs env.generic n before) env.step (made x f) _ all (if_test (Weighs env.generic n before) (may_end b q.value.result) (Some (made x f)) (λ e. all))))))

module _ (env : Env) (s : State) (b : SubprogramBody) where
  abbrev after_conforming : Region → Given Profile → Plan (Given Region)
  after_conforming region q =
      body_judged env s b (with_routine env region b.specification.name q.value) (key b.specification.name) q
      >>= (λ next. rule (Some (given (with_routine env region b.specification.name q.value) next)))

  abbrev after_specified : Region → Given Profile → Plan (Given Region)
  after_specified region q = conforming b.specification.pos region b.specification.name q.value >>= (λ fit. after_conforming region q)

  abbrev after_completed : Region → Plan (Given Region)
  after_completed region = specified (with_local env region) s b.specification >>= after_specified region

  pub packaged_weighs : IfOk (packaged_body env s b).answer (Weigh env.generic (body_types b) s)
  packaged_weighs =
      answered (Weigh env.generic (body_types b) s) b.specification.pos _
      (part_so (λ r. Unit {0}) (Weigh env.generic (body_types b) s) (completed env.local b.specification.name).answer after_completed
      (any_answer (completed env.local b.specification.name).answer)
      (λ region u. part_so (Keep s) (Weigh env.generic (body_types b) s) (specified (with_local env region) s b.specification).answer (after_specified region)
      (specified_keeps (with_local env region) s b.specification)
      (λ q h. part_so (λ v. Unit {0}) (Weigh env.generic (body_types b) s) (conforming b.specification.pos region b.specification.name q.value).answer
      (λ fit. after_conforming region q) (any_answer (conforming b.specification.pos region b.specification.name q.value).answer)
      (λ fit v. part_so (Weighs env.generic (body_types b) s) (Weigh env.generic (body_types b) s)
      (body_judged env s b (with_routine env region b.specification.name q.value) (key b.specification.name) q).answer
      (λ next. rule (Some (given (with_routine env region b.specification.name q.value) next)))
      (judged_weighs env s b (with_routine env region b.specification.name q.value) (key b.specification.name) q h)
      (λ next k. k)))))

-- the items of packages
item_weighs : (env : Env) (s : State) (i : PackageItem) → IfPassed (package_item env s i).outcome (Weigh env.generic (package_item_types i) s)
item_weighs env s (part.Declaration d) =
    part_so (WeighsOn env.generic (kind_types d.kind) s) (Weigh env.generic (kind_types d.kind) s) (declared env s d).answer (λ x. rule (Some (given x.region x.next))) (declaration_weighs env s d) (λ x h. h)
item_weighs env s (part.Subprogram x) =
    part_so (Keep s) (Weigh env.generic 0 s) (subprogram_declared env s x).answer (λ r. rule (Some r)) (subprogram_keeps env s x) (λ r h. of_keeps env.generic 0 s r.next h)

pub items_weigh : (env : Env) (s : State) (p : Pos) (is : List PackageItem) → IfOk (package_items env s p is).answer (Weigh env.generic (package_items_types is) s)
items_weigh env s p [] = of_keeps env.generic 0 s s (keeps_same s)
items_weigh env s p (i ∷ is) =
    let n = package_item_types i + package_items_types is in
    answered (Weigh env.generic n s) p _
    (part_so (Weigh env.generic (package_item_types i) s) (Weigh env.generic n s) _ (λ r. package_items (with_local env r.value) r.next p is >>= (λ rest. rule (Some rest)))
    (answered (Weigh env.generic (package_item_types i) s) p (package_item env s i).outcome (item_weighs env s i))
    (λ r h. part_so (Weigh env.generic (package_items_types is) r.next) (Weigh env.generic n s) (package_items (with_local env r.value) r.next p is).answer (λ rest. rule (Some rest))
    (items_weigh (with_local env r.value) r.next p is) (λ rest k. weighs_both env.generic (package_item_types i) (package_items_types is) s r.next rest.next h k)))

body_item_weighs : (env : Env) (s : State) (i : BodyItem) → IfPassed (body_item env s i).outcome (Weigh env.generic (body_item_types i) s)
body_item_weighs env s (item.Declared i) = item_weighs env s i
body_item_weighs env s (item.Body b) =
    part_so (Weigh env.generic (body_types b) s) (Weigh env.generic (body_types b) s) (packaged_body env s b).answer (λ r. rule (Some r)) (packaged_weighs env s b) (λ r h. h)

pub body_items_weigh : (env : Env) (s : State) (p : Pos) (is : List BodyItem) → IfOk (body_items env s p is).answer (Weigh env.generic (body_items_types is) s)
body_items_weigh env s p [] = of_keeps env.generic 0 s s (keeps_same s)
body_items_weigh env s p (i ∷ is) =
    let n = body_item_types i + body_items_types is in
    answered (Weigh env.generic n s) p _
    (part_so (Weigh env.generic (body_item_types i) s) (Weigh env.generic n s) _ (λ r. body_items (with_local env r.value) r.next p is >>= (λ rest. rule (Some rest)))
    (answered (Weigh env.generic (body_item_types i) s) p (body_item env s i).outcome (body_item_weighs env s i))
    (λ r h. part_so (Weigh env.generic (body_items_types is) r.next) (Weigh env.generic n s) (body_items (with_local env r.value) r.next p is).answer (λ rest. rule (Some rest))
    (body_items_weigh (with_local env r.value) r.next p is) (λ rest k. weighs_both env.generic (body_item_types i) (body_items_types is) s r.next rest.next h k)))

-- formals
formal_type_keeps : (env : Env) (s : State) (i : Identifier) (k : ℕ) (integral : Bool) → IfPassed (formal_type_declared env s i k integral).outcome (Keep s)
formal_type_keeps env s i k integral =
    part_so (λ r. Unit {0}) (Keep s) (hide env.local i).answer
    (λ region. rule (Some (given (redefined (key i) (formal_mark (new_identity env s) k integral) region) (one_type_more s))))
    (any_answer (hide env.local i).answer) (λ region u. keeps_typed s)

formal_keeps : (env : Env) (s : State) (k : ℕ) (f : FormalKind) → IfPassed (formal_declared env s k f).outcome (Keep s)
formal_keeps env s k (formal.DiscreteType i) = formal_type_keeps env s i k false
formal_keeps env s k (formal.IntegerType i) = formal_type_keeps env s i k true
formal_keeps env s k (formal.Object i m n) =
    part_so (λ r. Unit {0}) (Keep s) (hide env.local i).answer
    (λ region. scalar_mark (with_local env region) s n
    >>= (λ t. rule (Some (given (redefined (key i) (formal_object t.value.subtype (static_formal k)) region) t.next))))
    (any_answer (hide env.local i).answer)
    (λ region u. part_so (Keep s) (Keep s) (scalar_mark (with_local env region) s n).answer
    (λ t. rule (Some (given (redefined (key i) (formal_object t.value.subtype (static_formal k)) region) t.next)))
    (scalar_mark_keeps (with_local env region) s n) (λ t h. h))
formal_keeps env s k (formal.Subprogram x) =
    part_so (λ r. Unit {0}) (Keep s) (hide env.local x.name).answer
    (λ region. specified (with_local env region) s x
    >>= (λ q. rule (Some (given (redefined (key x.name) (formal_routine k q.value) region) (declared_only s q.next)))))
    (any_answer (hide env.local x.name).answer)
    (λ region u. part_so (Keep s) (Keep s) (specified (with_local env region) s x).answer
    (λ q. rule (Some (given (redefined (key x.name) (formal_routine k q.value) region) (declared_only s q.next))))
    (specified_keeps (with_local env region) s x)
    (λ q h. keeps_both s q.next (declared_only s q.next) h (keeps_declared_only s q.next)))

pub formals_keep : (env : Env) (s : State) (p : Pos) (k : ℕ) (fs : List Formal) → IfOk (formals_declared env s p k fs).answer (Keep s)
formals_keep env s p k [] = keeps_same s
formals_keep env s p k (f ∷ fs) =
    answered (Keep s) p _
    (part_so (Keep s) (Keep s) _ (λ region. formals_declared (with_local env region.value) region.next p (k + 1) fs >>= (λ rest. rule (Some rest)))
    (answered (Keep s) f.pos (formal_declared env s k f.kind).outcome (formal_keeps env s k f.kind))
    (λ region h. part_so (Keep region.next) (Keep s) (formals_declared (with_local env region.value) region.next p (k + 1) fs).answer (λ rest. rule (Some rest))
    (formals_keep (with_local env region.value) region.next p (k + 1) fs) (λ rest l. keeps_both s region.next rest.next h l)))
