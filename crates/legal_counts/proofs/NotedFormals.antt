-- Formals and actuals declare no object of the library level.
use Rattle.std.proofs.Common.{◌+◌, ℕ, Bool, true, false, List, [], ◌∷◌, ◌++◌, Option, Some, None, option_map, IfSome, IfOk}
use Rattle.cov_base.specs.declared.position.Pos.{Pos}
use Rattle.ada_syntax.specs.Tree as source
use Rattle.ada_syntax.specs.Tree.{expr_pos}
use Rattle.ada_syntax.specs.declared.name.Identifier.{Identifier}
use Rattle.ada_syntax.specs.declared.unit.Formal.{Formal}
use Rattle.ada_syntax.specs.declared.unit.FormalKind.{FormalKind}
use Rattle.ada_syntax.specs.declared.unit.FormalKind.TheVariants as formal
use Rattle.ada_meaning.specs.Types.{static_formal}
use Rattle.ada_rules.specs.Plan.{◌>>=◌, rule}
use Rattle.ada_rules.specs.Types.{type_in, range_in, fits}
use Rattle.ada_rules.specs.Entities.{key, Entity, formal_object, Region, redefined, Actual, object_actual, subtype_seen}
use Rattle.ada_rules.specs.Environment.{typed_rule, State, given, Env, with_local, hide, new_identity, one_type_more}
use Rattle.ada_rules.specs.Expressions.{itself, denoted, judged, static_part, scalar_mark}
use Rattle.ada_rules.specs.Declarations.{in_range}
use Rattle.ada_rules.specs.Instances.{formal_mark, formal_type_declared, formal_routine, formal_declared, formals_declared, actual_for_name, any_actual, actual_plan, any_plan, actuals_judged}
use Rattle.ada_rules.specs.Subprograms.{specified, declared_only}
use Rattle.legal_laws.specs.Kept.{OnlyDecides}
use Rattle.legal_laws.proofs.KeptExpressions.{scalar_mark_behind}
use Rattle.legal_laws.proofs.KeptStatics.{decides_statics, expression_keeps, name_keeps, static_keeps}
use Rattle.legal_laws.proofs.Passing.{IfPassed, answered, part_so, typed_either, any_answer}
use Rattle.legal_counts.proofs.NotedDeclarations.{Notes, notes_same, notes_both, notes_statics, statics_note}
use Rattle.legal_counts.proofs.NotedStatements.{Keep}
use Rattle.legal_counts.proofs.NotedItems.{specified_notes}

-- formals
formal_type_notes : (env : Env) (s : State) (i : Identifier) (k : ℕ) (integral : Bool) → IfPassed (formal_type_declared env s i k integral).outcome (Keep s)
formal_type_notes env s i k integral =
    part_so (λ r. Unit {0}) (Keep s) (hide env.local i).answer
    (λ region. rule (Some (given (redefined (key i) (formal_mark (new_identity env s) k integral) region) (one_type_more s)))) (any_answer (hide env.local i).answer)
    (λ region u. notes_same None s)

formal_notes : (env : Env) (s : State) (k : ℕ) (f : FormalKind) → IfPassed (formal_declared env s k f).outcome (Keep s)
formal_notes env s k (formal.DiscreteType i) = formal_type_notes env s i k false
formal_notes env s k (formal.IntegerType i) = formal_type_notes env s i k true
formal_notes env s k (formal.Object i m n) =
    part_so (λ r. Unit {0}) (Keep s) (hide env.local i).answer
    (λ region. scalar_mark (with_local env region) s n
    >>= (λ t. rule (Some (given (redefined (key i) (formal_object t.value.subtype (static_formal k)) region) t.next)))) (any_answer (hide env.local i).answer)
    (λ region u. part_so (λ t. OnlyDecides s t.next) (Keep s) (scalar_mark (with_local env region) s n).answer
    (λ t. rule (Some (given (redefined (key i) (formal_object t.value.subtype (static_formal k)) region) t.next))) (scalar_mark_behind (with_local env region) s n)
    (λ t h. notes_statics None s t.next (decides_statics s t.next h)))
formal_notes env s k (formal.Subprogram x) =
    part_so (λ r. Unit {0}) (Keep s) (hide env.local x.name).answer
    (λ region. specified (with_local env region) s x >>= (λ q. rule (Some (given (redefined (key x.name) (formal_routine k q.value) region) (declared_only s q.next)))))
    (any_answer (hide env.local x.name).answer)
    (λ region u. part_so (Keep s) (Keep s) (specified (with_local env region) s x).answer
    (λ q. rule (Some (given (redefined (key x.name) (formal_routine k q.value) region) (declared_only s q.next))))
    (specified_notes (with_local env region) s x) (λ q h. h))

pub formals_note : (env : Env) (s : State) (p : Pos) (k : ℕ) (fs : List Formal) → IfOk (formals_declared env s p k fs).answer (Keep s)
formals_note env s p k [] = notes_same None s
formals_note env s p k (f ∷ fs) =
    answered (Keep s) p _
    (part_so (Keep s) (Keep s) _ (λ region. formals_declared (with_local env region.value) region.next p (k + 1) fs >>= (λ rest. rule (Some rest)))
    (answered (Keep s) f.pos (formal_declared env s k f.kind).outcome (formal_notes env s k f.kind))
    (λ region h. part_so (Keep region.next) (Keep s) (formals_declared (with_local env region.value) region.next p (k + 1) fs).answer (λ rest. rule (Some rest))
    (formals_note (with_local env region.value) region.next p (k + 1) fs) (λ rest m. notes_both None s region.next rest.next h m)))

-- actuals
name_notes : (env : Env) (s : State) (n : source.Name) → IfOk (denoted env s n).answer (Keep s)
name_notes env s n = statics_note None s (denoted env s n).answer (name_keeps env s n)

expression_notes : (env : Env) (s : State) (e : source.Expr) → IfOk (judged env itself s e).answer (Keep s)
expression_notes env s e = statics_note None s (judged env itself s e).answer (expression_keeps env s e)

named_actual_notes : (env : Env) (s : State) (n : ℕ) (before : List Actual) (f : Entity) (x : source.Name)
    → IfPassed (denoted env s x >>= (λ d. typed_rule env.step (given any_actual d.next) (option_map (λ a. given a d.next) (actual_for_name n before f d.value)))).outcome (Keep s)
named_actual_notes env s n before f x =
    part_so (Keep s) (Keep s) (denoted env s x).answer
    (λ d. typed_rule env.step (given any_actual d.next) (option_map (λ a. given a d.next) (actual_for_name n before f d.value))) (name_notes env s x)
    (λ d h. typed_either (Keep s) env.step (given any_actual d.next) _ h (mapped d.next h (actual_for_name n before f d.value)))
  where
    mapped : (t : State) → Notes None s t → (o : Option Actual) → IfSome (option_map (λ a. given a t) o) (Keep s)
    mapped t h None = tt
    mapped t h (Some a) = h

judged_actual_notes : (env : Env) (s : State) (e : source.Expr)
    → IfPassed (judged env itself s e >>= (λ y. typed_rule env.step (given any_actual y.next) None)).outcome (Keep s)
judged_actual_notes env s e =
    part_so (Keep s) (Keep s) (judged env itself s e).answer (λ y. typed_rule env.step (given any_actual y.next) None) (expression_notes env s e)
    (λ y h. typed_either (Keep s) env.step (given any_actual y.next) None h tt)

actual_notes : (env : Env) (s : State) (n : ℕ) (before : List Actual) (f : Entity) (x : source.Expr) → IfPassed (actual_plan env s n before f x).outcome (Keep s)
actual_notes env s n before (formal_object t e) x =
    let accepts = fits (type_in (subtype_seen n before t)) in
    let test = in_range (range_in (subtype_seen n before t)) in
    part_so (Keep s) (Keep s) (static_part env s accepts test x).answer (λ v. rule (Some (given (object_actual v.value.value) v.next)))
    (statics_note None s (static_part env s accepts test x).answer (static_keeps env s accepts test x)) (λ v h. h)
actual_notes env s n before f (source.named p x) = named_actual_notes env s n before f x
actual_notes env s n before f x = judged_actual_notes env s x

any_notes : (env : Env) (s : State) (x : source.Expr) → IfPassed (any_plan env s x).outcome (Keep s)
any_notes env s (source.named p x) =
    part_so (Keep s) (Keep s) (denoted env s x).answer (λ d. rule (Some (given any_actual d.next))) (name_notes env s x) (λ d h. h)
any_notes env s x =
    part_so (Keep s) (Keep s) (judged env itself s x).answer (λ y. rule (Some (given any_actual y.next))) (expression_notes env s x) (λ y h. h)

pub actuals_note : (env : Env) (s : State) (p : Pos) (n : ℕ) (before : List Actual) (fs : Region) (xs : List source.Expr)
    → IfOk (actuals_judged env s p n before fs xs).answer (Keep s)
actuals_note env s p n before [] [] = notes_same None s
actuals_note env s p n before (f ∷ fs) [] =
    answered (Keep s) p _ (typed_either (Keep s) env.step (given before s) None (notes_same None s) tt)
actuals_note env s p n before [] (x ∷ xs) =
    answered (Keep s) p _
    (part_so (Keep s) (Keep s) _ (λ a. actuals_judged env a.next p n before [] xs >>= (λ rest. typed_rule env.step rest None))
    (answered (Keep s) (expr_pos x) (any_plan env s x).outcome (any_notes env s x))
    (λ a h. part_so (Keep a.next) (Keep s) (actuals_judged env a.next p n before [] xs).answer (λ rest. typed_rule env.step rest None)
    (actuals_note env a.next p n before [] xs)
    (λ rest k. let all = notes_both None s a.next rest.next h k in typed_either (Keep s) env.step rest None all tt)))
actuals_note env s p n before (f ∷ fs) (x ∷ xs) =
    answered (Keep s) p _
    (part_so (Keep s) (Keep s) _ (λ a. actuals_judged env a.next p n (before ++ a.value ∷ []) fs xs >>= (λ rest. rule (Some rest)))
    (answered (Keep s) (expr_pos x) (actual_plan env s n before f.1 x).outcome (actual_notes env s n before f.1 x))
    (λ a h. part_so (Keep a.next) (Keep s) (actuals_judged env a.next p n (before ++ a.value ∷ []) fs xs).answer (λ rest. rule (Some rest))
    (actuals_note env a.next p n (before ++ a.value ∷ []) fs xs) (λ rest k. notes_both None s a.next rest.next h k)))
