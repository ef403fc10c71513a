-- The actuals of an instance are static, or names: the walk over them declares nothing.
use Rattle.std.proofs.Common.{ℕ, List, [], ◌∷◌, ◌++◌, Option, Some, None, option_map, IfSome, IfOk, refl}
use Rattle.cov_base.specs.declared.position.Pos.{Pos}
use Rattle.ada_syntax.specs.Tree as source
use Rattle.ada_syntax.specs.Tree.{expr_pos}
use Rattle.ada_rules.specs.Plan.{◌>>=◌, rule}
use Rattle.ada_rules.specs.Types.{type_in, range_in, fits}
use Rattle.ada_rules.specs.Entities.{Entity, formal_object, Region, Actual, object_actual, subtype_seen}
use Rattle.ada_rules.specs.Environment.{typed_rule, State, given, Env}
use Rattle.ada_rules.specs.Expressions.{itself, denoted, judged, static_part}
use Rattle.ada_rules.specs.Declarations.{in_range}
use Rattle.ada_rules.specs.Instances.{actual_for_name, any_actual, actual_plan, any_plan, actuals_judged}
use Rattle.legal_laws.specs.Kept.{OnlyStatics}
use Rattle.legal_laws.proofs.KeptStatics.{Behind, statics_both, expression_keeps, static_keeps, name_keeps}
use Rattle.legal_laws.proofs.Passing.{IfPassed, answered, part_so, typed_either}

given_keeps : {A : Type 0} (s t : State) (o : Option A) → OnlyStatics s t → IfSome (option_map (λ a. given a t) o) (Behind s)
given_keeps s t None h = tt
given_keeps s t (Some a) h = h

actual_keeps : (env : Env) (s : State) (n : ℕ) (before : List Actual) (f : Entity) (x : source.Expr) → IfPassed (actual_plan env s n before f x).outcome (Behind s)
actual_keeps env s n before (formal_object t e) x =
    part_so (Behind s) (Behind s) (static_part env s (fits (type_in (subtype_seen n before t))) (in_range (range_in (subtype_seen n before t))) x).answer
    (λ v. rule (Some (given (object_actual v.value.value) v.next)))
    (static_keeps env s (fits (type_in (subtype_seen n before t))) (in_range (range_in (subtype_seen n before t))) x) (λ v h. h)
actual_keeps env s n before f (source.named p x) =
    part_so (Behind s) (Behind s) (denoted env s x).answer
    (λ d. typed_rule env.step (given any_actual d.next) (option_map (λ a. given a d.next) (actual_for_name n before f d.value))) (name_keeps env s x)
    (λ d h. typed_either (Behind s) env.step (given any_actual d.next) _ h (given_keeps s d.next (actual_for_name n before f d.value) h))
actual_keeps env s n before f x =
    part_so (Behind s) (Behind s) (judged env itself s x).answer (λ y. typed_rule env.step (given any_actual y.next) None) (expression_keeps env s x)
    (λ y h. typed_either (Behind s) env.step (given any_actual y.next) None h tt)

any_keeps : (env : Env) (s : State) (x : source.Expr) → IfPassed (any_plan env s x).outcome (Behind s)
any_keeps env s (source.named p x) =
    part_so (Behind s) (Behind s) (denoted env s x).answer (λ d. rule (Some (given any_actual d.next))) (name_keeps env s x) (λ d h. h)
any_keeps env s x =
    part_so (Behind s) (Behind s) (judged env itself s x).answer (λ y. rule (Some (given any_actual y.next))) (expression_keeps env s x) (λ y h. h)

pub actuals_keep : (env : Env) (s : State) (p : Pos) (n : ℕ) (before : List Actual) (fs : Region) (xs : List source.Expr)
    → IfOk (actuals_judged env s p n before fs xs).answer (Behind s)
actuals_keep env s p n before [] [] = refl
actuals_keep env s p n before (f ∷ fs) [] =
    answered (Behind s) p _ (typed_either (Behind s) env.step (given before s) None refl tt)
actuals_keep env s p n before [] (x ∷ xs) =
    answered (Behind s) p _
    (part_so (Behind s) (Behind s) _ (λ a. actuals_judged env a.next p n before [] xs >>= (λ rest. typed_rule env.step rest None))
    (answered (Behind s) (expr_pos x) (any_plan env s x).outcome (any_keeps env s x))
    (λ a h. part_so (Behind a.next) (Behind s) (actuals_judged env a.next p n before [] xs).answer (λ rest. typed_rule env.step rest None)
    (actuals_keep env a.next p n before [] xs)
    (λ rest k. typed_either (Behind s) env.step rest None (statics_both s a.next rest.next h k) tt)))
actuals_keep env s p n before (f ∷ fs) (x ∷ xs) =
    answered (Behind s) p _
    (part_so (Behind s) (Behind s) _ (λ a. actuals_judged env a.next p n (before ++ a.value ∷ []) fs xs >>= (λ rest. rule (Some rest)))
    (answered (Behind s) (expr_pos x) (actual_plan env s n before f.1 x).outcome (actual_keeps env s n before f.1 x))
    (λ a h. part_so (Behind a.next) (Behind s) (actuals_judged env a.next p n (before ++ a.value ∷ []) fs xs).answer (λ rest. rule (Some rest))
    (actuals_keep env a.next p n (before ++ a.value ∷ []) fs xs) (λ rest k. statics_both s a.next rest.next h k)))
