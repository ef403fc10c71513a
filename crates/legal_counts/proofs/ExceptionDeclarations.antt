-- What declarations add to the exceptions of a program, in both steps: one for each name of an exception.
use Rattle.std.proofs.Common.{◌≡◌, ◌≤◌, ℕ, suc, ◌+◌, Bool, true, false, if◌then◌else◌, List, [], ◌∷◌, ◌++◌, length, Option, Some, None, option_map, IfSome, Result, IfOk, refl, ap, ◌∙◌, arith}
use Rattle.std.specs.Prelude.{sum_by}
use Rattle.std.proofs.lemmas.List.Sums.{sum_by-cons}
use Rattle.cov_base.specs.declared.position.Pos.{Pos}
use Rattle.ada_syntax.specs.Tree as source
use Rattle.ada_syntax.specs.declared.declaration.Constancy.{Constancy}
use Rattle.ada_syntax.specs.declared.declaration.Declaration.{Declaration}
use Rattle.ada_syntax.specs.declared.declaration.DeclarationKind.{DeclarationKind}
use Rattle.ada_syntax.specs.declared.declaration.DeclarationKind.TheVariants as declares
use Rattle.ada_syntax.specs.declared.declaration.DiscreteRange.{DiscreteRange}
use Rattle.ada_syntax.specs.declared.declaration.Initial.{Initial}
use Rattle.ada_syntax.specs.declared.name.Identifier.{Identifier}
use Rattle.ada_syntax.specs.declared.statement.Choice.{Choice}
use Rattle.ada_syntax.specs.declared.statement.ExceptionChoice.{ExceptionChoice}
use Rattle.ada_tree.specs.Weights.{stands_in}
use Rattle.ada_meaning.specs.Program.{ExceptionDeclaration}
use Rattle.ada_meaning.specs.Tree as tree
use Rattle.ada_meaning.specs.Types.{Static}
use Rattle.ada_rules.specs.Plan.{Plan, ◌>>=◌, rule}
use Rattle.ada_rules.specs.Types.{AdaSubtype, Kind}
use Rattle.ada_rules.specs.Entities.{key, raisable, Region, redefined}
use Rattle.ada_rules.specs.Environment.{typed_rule, State, Given, Env, with_local, owner_of, new_identity, one_type_more, hide, hide_all}
use Rattle.ada_rules.specs.Expressions.{itself, denoted, judged, decision, static_part, scalar_mark}
use Rattle.ada_rules.specs.Declarations.{LibraryValue, library_value, indicated, defined, NewValue, new_value, Declared, may_be_bare, one_name, known_constant, lying_in, local_bare, local_set, library_declared, no_library_value, objects_declared, exception_of, exception_declared, exceptions_from, type_declared, subtype_declared, kind_declared, declared, all_declared}
use Rattle.ada_rules.specs.Statements.{target, Selector, selector, all_chosen, turned, all_caught}
use Rattle.ada_rules.specs.Statics.{Test}
use Rattle.legal_laws.specs.Kept.{OnlyDecides, OnlyStatics}
use Rattle.legal_laws.proofs.KeptStatics as kept
use Rattle.legal_laws.proofs.KeptStatics.{Behind, decides_statics}
use Rattle.legal_laws.proofs.KnownObjects.{constant_keeps}
use Rattle.legal_laws.proofs.Passing.{IfPassed, answered, part_so, weaker_ok, typed_either, any_answer}
use Rattle.legal_types.specs.TextGenerics.{part_in}
use Rattle.legal_counts.proofs.ExceptionNames.{kind_exceptions, declared_exceptions}

-- the exceptions that were declared stay as they are
pub record Keeps (s t : State) : Type 0 where
  pub exceptions : t.exceptions_declared ≡ s.exceptions_declared

-- how many of these stand in a generic, or in none
abbrev pub declared_in : Option ℕ → List ExceptionDeclaration → ℕ
declared_in g ds = sum_by (λ d. part_in g d.generic 1) ds

-- no more than so many come, in the text of a generic or of none: in all, and by the generics
pub record Adds (text : Option ℕ) (n : ℕ) (s t : State) : Type 0 where
  pub most : length t.exceptions_declared ≤ n + length s.exceptions_declared
  pub each : (g : Option ℕ) → declared_in g t.exceptions_declared ≤ part_in g text n + declared_in g s.exceptions_declared

-- over the texts of many
pub record AddsBy (n : ℕ) (parts : Option ℕ → ℕ) (s t : State) : Type 0 where
  pub most : length t.exceptions_declared ≤ n + length s.exceptions_declared
  pub each : (g : Option ℕ) → declared_in g t.exceptions_declared ≤ parts g + declared_in g s.exceptions_declared

abbrev pub Keep : {A : Type 0} → State → Given A → Type 0
Keep s g = Keeps s g.next

abbrev pub Add : {A : Type 0} → Option ℕ → ℕ → State → Given A → Type 0
Add o n s g = Adds o n s g.next

abbrev pub AddsOn : Option ℕ → ℕ → State → Declared → Type 0
AddsOn o n s x = Adds o n s x.next

pub keeps_same : (s : State) → Keeps s s
keeps_same s = record { exceptions = refl }

pub keeps_both : (s t u : State) → Keeps s t → Keeps t u → Keeps s u
keeps_both s t u h k = record { exceptions = k.exceptions ∙ h.exceptions }

pub keeps_statics : (s t : State) → OnlyStatics s t → Keeps s t
keeps_statics s t only = record { exceptions = ap (λ x. x.exceptions_declared) only }

pub keeps_decides : (s t : State) → OnlyDecides s t → Keeps s t
keeps_decides s t only = keeps_statics s t (decides_statics s t only)

pub of_keeps : (o : Option ℕ) (n : ℕ) (s t : State) → Keeps s t → Adds o n s t
of_keeps o n s t h = record {
  most = at_most n (length t.exceptions_declared) (length s.exceptions_declared) (ap length h.exceptions);
  each = λ g. at_most (part_in g o n) (declared_in g t.exceptions_declared) (declared_in g s.exceptions_declared) (ap (declared_in g) h.exceptions);
}
  where
    at_most : (m a b : ℕ) → a ≡ b → a ≤ m + b
    at_most m a b e = omega (arith, e)

pub adds_both : (o : Option ℕ) (m n : ℕ) (s t u : State) → Adds o m s t → Adds o n t u → Adds o (m + n) s u
adds_both o m n s t u h k = record {
  most = summed m n (length s.exceptions_declared) (length t.exceptions_declared) (length u.exceptions_declared) h.most k.most;
  each = λ g. each_summed (stands_in g o) (declared_in g s.exceptions_declared) (declared_in g t.exceptions_declared) (declared_in g u.exceptions_declared) (h.each g) (k.each g);
}
  where
    summed : (m n a b c : ℕ) → b ≤ m + a → c ≤ n + b → c ≤ (m + n) + a
    summed m n a b c p q = omega (arith, p, q)

    each_summed : (at : Bool) (a b c : ℕ) → b ≤ (if at then m else 0) + a → c ≤ (if at then n else 0) + b → c ≤ (if at then m + n else 0) + a
    each_summed true a b c p q = summed m n a b c p q
    each_summed false a b c p q = summed 0 0 a b c p q

pub adds_behind : (o : Option ℕ) (n : ℕ) (s t u : State) → Keeps s t → Adds o n t u → Adds o n s u
adds_behind o n s t u h k = record {
  most = moved n (length s.exceptions_declared) (length t.exceptions_declared) (length u.exceptions_declared) (ap length h.exceptions) k.most;
  each = λ g. moved (part_in g o n) (declared_in g s.exceptions_declared) (declared_in g t.exceptions_declared) (declared_in g u.exceptions_declared) (ap (declared_in g) h.exceptions) (k.each g);
}
  where
    moved : (n a b c : ℕ) → b ≡ a → c ≤ n + b → c ≤ n + a
    moved n a b c e h = omega (arith, e, h)

-- what only changes what static expressions do
of_statics : {A : Type 0} (s : State) (r : Result (Given A) Pos) → IfOk r (Behind s) → IfOk r (Keep s)
of_statics s r h = weaker_ok (Behind s) (Keep s) r h (λ x k. keeps_statics s x.next k)

module _ (env : Env) where
  pub expression_keeps : (s : State) (e : source.Expr) → IfOk (judged env itself s e).answer (Keep s)
  expression_keeps s e = of_statics s (judged env itself s e).answer (kept.expression_keeps env s e)

  pub static_keeps : (s : State) (accepts : Kind → Bool) (test : Static → Test) (e : source.Expr) → IfOk (static_part env s accepts test e).answer (Keep s)
  static_keeps s accepts test e = of_statics s (static_part env s accepts test e).answer (kept.static_keeps env s accepts test e)

  pub scalar_mark_keeps : (s : State) (n : source.Name) → IfOk (scalar_mark env s n).answer (Keep s)
  scalar_mark_keeps s n = of_statics s (scalar_mark env s n).answer (kept.scalar_mark_keeps env s n)

  pub new_value_keeps : (s : State) (q : Pos) (t : AdaSubtype) (i : Initial) → IfOk (new_value env s q t i).answer (Keep s)
  new_value_keeps s q t i = of_statics s (new_value env s q t i).answer (kept.new_value_keeps env s q t i)

  pub name_keeps : (s : State) (n : source.Name) → IfOk (denoted env s n).answer (Keep s)
  name_keeps s n = of_statics s (denoted env s n).answer (kept.name_keeps env s n)

  pub decision_keeps : (s : State) (q : Pos) (e : source.Expr) → IfOk (decision env s q e).answer (Keep s)
  decision_keeps s q e = of_statics s (decision env s q e).answer (kept.decision_keeps env s q e)

  pub target_keeps : (s : State) (n : source.Name) → IfOk (target env s n).answer (Keep s)
  target_keeps s n = of_statics s (target env s n).answer (kept.target_keeps env s n)

  pub selector_keeps : (s : State) (e : source.Expr) → IfOk (selector env s e).answer (Keep s)
  selector_keeps s e = of_statics s (selector env s e).answer (kept.selector_keeps env s e)

  pub turned_keeps : (s : State) (r : DiscreteRange) → IfOk (turned env s r).answer (Keep s)
  turned_keeps s r = of_statics s (turned env s r).answer (kept.turned_keeps env s r)

  pub all_chosen_keep : (s : State) (x : Selector) (q : Pos) (cs : List Choice) → IfOk (all_chosen env s x q cs).answer (Keep s)
  all_chosen_keep s x q cs = of_statics s (all_chosen env s x q cs).answer (kept.all_chosen_keep env s x q cs)

  pub all_caught_keep : (s : State) (b : Bool) (q : Pos) (cs : List ExceptionChoice) → IfOk (all_caught env s b q cs).answer (Keep s)
  all_caught_keep s b q cs = of_statics s (all_caught env s b q cs).answer (kept.all_caught_keep env s b q cs)

  -- what follows a value that a rule on types gives
  pub mapped_keeps : {A B : Type 0} (s t : State) (f : A → B) (x : Option A) → Keeps s t → IfSome (option_map (λ v. record { value = f v; next = t }) x) (Keep s)
  mapped_keeps s t f None h = tt
  mapped_keeps s t f (Some v) h = h

-- objects
set_keeps : (env : Env) (q : Pos) (c : Constancy) (region : Region) (is : List Identifier) (t : AdaSubtype) (v : Given NewValue) (s : State) → Keeps s v.next
    → AddsOn env.generic 0 s (local_set env q c region is t v)
set_keeps env q c region is t v s h =
    let k = known_constant env c t (lying_in env t) v.value.known v.next in
    let all = of_keeps env.generic 0 s k.next (keeps_both s v.next k.next h (keeps_statics v.next k.next (constant_keeps env c t (lying_in env t) v.value.known v.next))) in
    record { most = all.most; each = all.each }

library_keeps : (env : Env) (c : Constancy) (region : Region) (is : List Identifier) (t : AdaSubtype) (v : LibraryValue) (s x : State) → Keeps s x
    → AddsOn env.generic 0 s (library_declared env c region is t v x)
library_keeps env c region is t v s x h =
    let k = known_constant env c t (λ e. Some e) v.known x in
    let all = of_keeps env.generic 0 s k.next (keeps_both s x k.next h (keeps_statics x k.next (constant_keeps env c t (λ e. Some e) v.known x))) in
    record { most = all.most; each = all.each }

either_plan : {B : Type 0} (P : B → Type 0) (b : Bool) (x y : Plan B) → IfPassed x.outcome P → IfPassed y.outcome P → IfPassed (if b then x else y).outcome P
either_plan P true x y h k = h
either_plan P false x y h k = k

mapped_any : {A B : Type 0} (P : B → Type 0) (x : Option A) (y : B) → P y → IfSome (option_map (λ u. y) x) P
mapped_any P None y h = tt
mapped_any P (Some u) y h = h

objects_keep : (env : Env) (q : Pos) (c : Constancy) (region : Region) (is : List Identifier) (s : State) (t : Given AdaSubtype) (i : Option Initial)
    → Keeps s t.next → IfPassed (objects_declared env q c region is t i).outcome (AddsOn env.generic 0 s)
objects_keep env q c region is s t None h =
    let library = library_keeps env c region is t.value no_library_value s t.next h in
    let bare : AddsOn env.generic 0 s (local_bare c region is t) = (let all = of_keeps env.generic 0 s t.next h in record { most = all.most; each = all.each }) in
    either_plan (AddsOn env.generic 0 s) env.is_library
    (typed_rule env.step (library_declared env c region is t.value no_library_value t.next)
    (option_map (λ u. library_declared env c region is t.value no_library_value t.next) (may_be_bare c)))
    (typed_rule env.step (local_bare c region is t) (option_map (λ u. local_bare c region is t) (may_be_bare c)))
    (typed_either (AddsOn env.generic 0 s) env.step _ _ library (mapped_any (AddsOn env.generic 0 s) (may_be_bare c) _ library))
    (typed_either (AddsOn env.generic 0 s) env.step _ _ bare (mapped_any (AddsOn env.generic 0 s) (may_be_bare c) _ bare))
objects_keep env q c region is s t (Some i) h =
    either_plan (AddsOn env.generic 0 s) env.is_library
    (library_value (with_local env region) t.next q t.value i >>= (λ v. typed_rule env.step (library_declared env c region is t.value v.value v.next)
    (option_map (λ u. library_declared env c region is t.value v.value v.next) (one_name is))))
    (new_value (with_local env region) t.next q t.value i >>= (λ v. typed_rule env.step (local_set env q c region is t.value v)
    (option_map (λ u. local_set env q c region is t.value v) (one_name is))))
    (part_so (Keep t.next) (AddsOn env.generic 0 s) (library_value (with_local env region) t.next q t.value i).answer
    (λ v. typed_rule env.step (library_declared env c region is t.value v.value v.next)
    (option_map (λ u. library_declared env c region is t.value v.value v.next) (one_name is)))
    (of_statics t.next (library_value (with_local env region) t.next q t.value i).answer (kept.library_value_keeps (with_local env region) t.next q t.value i))
    (λ v k. let all = library_keeps env c region is t.value v.value s v.next (keeps_both s t.next v.next h k) in
    typed_either (AddsOn env.generic 0 s) env.step _ _ all (mapped_any (AddsOn env.generic 0 s) (one_name is) _ all)))
    (part_so (Keep t.next) (AddsOn env.generic 0 s) (new_value (with_local env region) t.next q t.value i).answer
    (λ v. typed_rule env.step (local_set env q c region is t.value v) (option_map (λ u. local_set env q c region is t.value v) (one_name is)))
    (new_value_keeps (with_local env region) t.next q t.value i)
    (λ v k. let all = set_keeps env q c region is t.value v s (keeps_both s t.next v.next h k) in
    typed_either (AddsOn env.generic 0 s) env.step _ _ all (mapped_any (AddsOn env.generic 0 s) (one_name is) _ all)))

-- exceptions
exceptions_add : (env : Env) (s : State) (region : Region) (is : List Identifier) → AddsOn env.generic (length is) s (exceptions_from env s region is)
exceptions_add env s region [] = of_keeps env.generic 0 s s (keeps_same s)
exceptions_add env s region (i ∷ is) =
    let rest = exceptions_add env (exception_declared env i s) (redefined (key i) (raisable (tree.declared (owner_of env) s.exceptions)) region) is in
    let next = exception_declared env i s in
    record {
      most = one_more (length is) (length s.exceptions_declared) _ rest.most;
      each = λ g. one_each (stands_in g env.generic) (declared_in g s.exceptions_declared) (declared_in g next.exceptions_declared) _
          (sum_by-cons (λ d. part_in g d.generic 1) (exception_of env i s.exceptions) s.exceptions_declared) (rest.each g);
    }
  where
    one_more : (n a b : ℕ) → b ≤ n + suc a → b ≤ suc n + a
    one_more n a b h = omega (arith, h)

    one_each : (at : Bool) (a b c : ℕ) → b ≡ (if at then 1 else 0) + a → c ≤ (if at then length is else 0) + b → c ≤ (if at then suc (length is) else 0) + a
    one_each true a b c e h = omega (arith, e, h)
    one_each false a b c e h = omega (arith, e, h)

kind_adds : (env : Env) (s : State) (q : Pos) (d : DeclarationKind) → IfPassed (kind_declared env s q d).outcome (AddsOn env.generic (kind_exceptions d) s)
kind_adds env s q (declares.Type i d) =
    part_so (λ x. Unit {0}) (AddsOn env.generic 0 s) (hide env.local i).answer
    (λ region. defined (with_local env region) (one_type_more s) q (new_identity env s) d >>= (λ x. rule (Some (type_declared env q i (new_identity env s) x))))
    (any_answer (hide env.local i).answer)
    (λ region u. part_so (Keep (one_type_more s)) (AddsOn env.generic 0 s) (defined (with_local env region) (one_type_more s) q (new_identity env s) d).answer
    (λ x. rule (Some (type_declared env q i (new_identity env s) x)))
    (of_statics (one_type_more s) _ (kept.defined_keeps (with_local env region) (one_type_more s) q (new_identity env s) d))
    (λ x h. let all = of_keeps env.generic 0 (one_type_more s) x.next h in record { most = all.most; each = all.each }))
kind_adds env s q (declares.Subtype i t) =
    part_so (λ x. Unit {0}) (AddsOn env.generic 0 s) (hide env.local i).answer
    (λ region. indicated (with_local env region) (one_type_more s) t >>= (λ x. rule (Some (subtype_declared i region (new_identity env s) x))))
    (any_answer (hide env.local i).answer)
    (λ region u. part_so (Keep (one_type_more s)) (AddsOn env.generic 0 s) (indicated (with_local env region) (one_type_more s) t).answer
    (λ x. rule (Some (subtype_declared i region (new_identity env s) x)))
    (of_statics (one_type_more s) _ (kept.indicated_keeps (with_local env region) (one_type_more s) t))
    (λ x h. let all = of_keeps env.generic 0 (one_type_more s) x.next h in record { most = all.most; each = all.each }))
kind_adds env s q (declares.Object is c t i) =
    part_so (λ x. Unit {0}) (AddsOn env.generic 0 s) (hide_all q env.local is).answer
    (λ region. indicated (with_local env region) s t >>= (λ x. objects_declared env q c region is x i)) (any_answer (hide_all q env.local is).answer)
    (λ region u. part_so (Keep s) (AddsOn env.generic 0 s) (indicated (with_local env region) s t).answer
    (λ x. objects_declared env q c region is x i)
    (of_statics s _ (kept.indicated_keeps (with_local env region) s t)) (λ x h. objects_keep env q c region is s x i h))
kind_adds env s q (declares.Exception is) =
    part_so (λ x. Unit {0}) (AddsOn env.generic (length is) s) (hide_all q env.local is).answer (λ region. rule (Some (exceptions_from env s region is)))
    (any_answer (hide_all q env.local is).answer) (λ region u. exceptions_add env s region is)
kind_adds env s q (declares.Pragma a) = of_keeps env.generic 0 s s (keeps_same s)

pub declaration_adds : (env : Env) (s : State) (d : Declaration) → IfOk (declared env s d).answer (AddsOn env.generic (kind_exceptions d.kind) s)
declaration_adds env s d = answered (AddsOn env.generic (kind_exceptions d.kind) s) d.pos (kind_declared env s d.pos d.kind).outcome (kind_adds env s d.pos d.kind)

pub declarations_add : (env : Env) (s : State) (q : Pos) (ds : List Declaration) → IfOk (all_declared env s q ds).answer (AddsOn env.generic (declared_exceptions ds) s)
declarations_add env s q [] = of_keeps env.generic 0 s s (keeps_same s)
declarations_add env s q (d ∷ ds) =
    answered (AddsOn env.generic (declared_exceptions (d ∷ ds)) s) q _
    (part_so (AddsOn env.generic (kind_exceptions d.kind) s) (AddsOn env.generic (declared_exceptions (d ∷ ds)) s) (declared env s d).answer
    (λ x. all_declared (with_local env x.region) x.next q ds >>= (λ xs. rule (Some (record { region = xs.region; next = xs.next; made = x.made ++ xs.made }))))
    (declaration_adds env s d)
    (λ x h. part_so (AddsOn env.generic (declared_exceptions ds) x.next) (AddsOn env.generic (declared_exceptions (d ∷ ds)) s) (all_declared (with_local env x.region) x.next q ds).answer
    (λ xs. rule (Some (record { region = xs.region; next = xs.next; made = x.made ++ xs.made })))
    (declarations_add (with_local env x.region) x.next q ds)
    (λ xs k. adds_both env.generic (kind_exceptions d.kind) (declared_exceptions ds) s x.next xs.next h k)))
