-- Specifications and bodies: where no limit is passed behind them, none was passed before them, and no subprogram has too many parameters.
use Rattle.std.proofs.Common.{◌≡◌, ◌≤◌, ◌+◌, ℕ, nat_eq, Bool, true, false, if◌then◌else◌, List, [], ◌∷◌, ◌++◌, length, Option, Some, None, IfOk, refl, sym, ap, ◌∙◌, arith, length-append}
use Rattle.std.proofs.lemmas.Bool.{eq-eqb, false≢true}
use Rattle.cov_base.specs.declared.position.Pos.{Pos}
use Rattle.ada_syntax.specs.Tree.{Name}
use Rattle.ada_syntax.specs.declared.name.Identifier.{Identifier}
use Rattle.ada_syntax.specs.declared.unit.Parameter.{Parameter as SourceParameter}
use Rattle.ada_syntax.specs.declared.unit.Specification.{Specification}
use Rattle.ada_syntax.specs.declared.unit.SubprogramBody.{SubprogramBody}
use Rattle.ada_meaning.specs.WellFormed.{most_parameters}
use Rattle.ada_rules.specs.Plan.{◌>>=◌, rule}
use Rattle.ada_rules.specs.Entities.{Region}
use Rattle.ada_rules.specs.Environment.{typed_rule, State, Given, given, Env, with_local, opened, exceeded, hide_all}
use Rattle.ada_rules.specs.Expressions.{Marked, mark_part}
use Rattle.ada_rules.specs.Declarations.{Declared, with_objects, all_declared}
use Rattle.ada_rules.specs.Statements.{Frame, block_of, all_handled}
use Rattle.ada_rules.specs.Subprograms.{mode_of, Profile, parameters_for, parameter_objects, limited, parameters_judged, is_function_profile, with_result, result_judged, fresh, specified, closed_by, may_end, body_made, inside_body, body_judged}
use Rattle.legal_laws.specs.Kept.{OnlyDecides}
use Rattle.legal_laws.proofs.KeptExpressions.{mark_part_behind}
use Rattle.legal_laws.proofs.KnownSpecifications.{limited_decides, named_count}
use Rattle.legal_laws.proofs.Passing.{IfPassed, if_test, answered, part_so, typed_either, both_ok, any_answer}
use Rattle.legal_texts.proofs.Kept.{IsKept, kept_same, kept_none, kept_both, kept_exceeded}
use Rattle.legal_texts.proofs.KeptDeclarations.{Keep, KeepOn, declarations_keep}
use Rattle.legal_texts.proofs.KeptExpressions.{mark_part_keeps}
use Rattle.legal_texts.proofs.KeptStatements.{handled_keep}

limited_keeps : (n : ℕ) (is : List Identifier) (s : State) → IsKept false s (limited n is s)
limited_keeps n [] s = kept_same false s
limited_keeps n (i ∷ is) s =
    kept_both false s (exceeded (nat_eq n most_parameters) i.pos s) _ (kept_exceeded false s (nat_eq n most_parameters) i.pos)
    (limited_keeps (n + 1) is (exceeded (nat_eq n most_parameters) i.pos s))

-- parameters from number n on
exceeded_below : (n : ℕ) (b : Bool) (p : Pos) (s : State) → nat_eq n most_parameters ≡ b → (exceeded b p s).excesses ≡ [] → n ≤ most_parameters
    → n + 1 ≤ most_parameters
exceeded_below n true p s e h few = absurd (no_place p s.excesses h)
  where
    no_place : (q : Pos) (ps : List Pos) → (q ∷ ps) ≡ [] → ⊥
    no_place q ps k = cc
exceeded_below n false p s e h few =
    let other : n ≡ most_parameters → ⊥ = λ same. false≢true (sym e ∙ eq-eqb n most_parameters same) in
    below n most_parameters few other
  where
    below : (k m : ℕ) → k ≤ m → (k ≡ m → ⊥) → k + 1 ≤ m
    below k m less other = omega (arith, less, other)

limited_below : (n : ℕ) (is : List Identifier) (s : State) → (limited n is s).excesses ≡ [] → n ≤ most_parameters → n + length is ≤ most_parameters
limited_below n [] s h few = omega (arith, few)
limited_below n (i ∷ is) s h few =
    let next = limited_below (n + 1) is (exceeded (nat_eq n most_parameters) i.pos s) h
    (exceeded_below n (nat_eq n most_parameters) i.pos s refl
    ((limited_keeps (n + 1) is (exceeded (nat_eq n most_parameters) i.pos s)).few h) few) in
    omega (arith, next)

abbrev with_parameters : SourceParameter → Given Marked → State
with_parameters q t = with_objects t.value.subtype q.names (limited t.next.objects q.names t.next)

-- the parameters of a specification
pub record AreFew (s : State) (g : Given Profile) : Type 0 where
  pub kept : IsKept false s g.next
  pub types : g.next.types ≡ s.types
  pub few : g.next.excesses ≡ [] → s.objects ≤ most_parameters → s.objects + length g.value.parameters ≤ most_parameters

few_on : (s : State) (q : SourceParameter) (t : Given Marked) (rest : Given Profile) → OnlyDecides s t.next → IsKept false s t.next → AreFew (with_parameters q t) rest
    → AreFew s (given (record { parameters = parameters_for (mode_of q.mode) t.value q.names ++ rest.value.parameters; result = None; region = rest.value.region }) rest.next)
few_on s q t rest only kept h =
    let same = ap (λ x. x.objects) only in
    let still = ap (λ x. x.objects) (limited_decides t.next.objects q.names t.next) in
    let both = length-append (parameters_for (mode_of q.mode) t.value q.names) rest.value.parameters in
    let named = named_count (mode_of q.mode) t.value q.names in
    record {
      kept = kept_both false s t.next rest.next kept
          (kept_both false t.next (limited t.next.objects q.names t.next) rest.next (limited_keeps t.next.objects q.names t.next)
          (kept_both false (limited t.next.objects q.names t.next) (with_parameters q t) rest.next
          (kept_none false (limited t.next.objects q.names t.next) (with_parameters q t) refl refl) h.kept));
      types = h.types ∙ (ap (λ x. x.types) (limited_decides t.next.objects q.names t.next) ∙ ap (λ x. x.types) only);
      few = λ e less.
          let first = limited_below t.next.objects q.names t.next (h.kept.few e) (omega (arith, same, less)) in
          let later = h.few e (omega (arith, first, still)) in
          omega (arith, later, same, still, both, named);
    }

parameters_few : (env : Env) (s : State) (at : Pos) (qs : List SourceParameter) → IfOk (parameters_judged env s at qs).answer (AreFew s)
parameters_few env s at [] = record { kept = kept_same false s; types = refl; few = λ e less. omega (arith, less) }
parameters_few env s at (q ∷ qs) =
    answered (AreFew s) at _
    (part_so (λ x. Unit {0}) (AreFew s) (hide_all at env.local q.names).answer
    (λ names. mark_part (with_local env names) s q.mark
    >>= (λ t. parameters_judged (with_local env (parameter_objects (mode_of q.mode) t.value.subtype t.next.objects names q.names)) (with_parameters q t) at qs
    >>= (λ rest. rule (Some (given (record { parameters = parameters_for (mode_of q.mode) t.value q.names ++ rest.value.parameters; result = None; region = rest.value.region }) rest.next)))))
    (any_answer (hide_all at env.local q.names).answer)
    (λ names u. part_so (λ t. OnlyDecides s t.next × Keep s t) (AreFew s) (mark_part (with_local env names) s q.mark).answer
    (λ t. parameters_judged (with_local env (parameter_objects (mode_of q.mode) t.value.subtype t.next.objects names q.names)) (with_parameters q t) at qs
    >>= (λ rest. rule (Some (given (record { parameters = parameters_for (mode_of q.mode) t.value q.names ++ rest.value.parameters; result = None; region = rest.value.region }) rest.next))))
    (both_ok (λ t. OnlyDecides s t.next) (Keep s) (mark_part (with_local env names) s q.mark).answer
    (mark_part_behind (with_local env names) s q.mark) (mark_part_keeps (with_local env names) s q.mark))
    (λ t h. part_so (AreFew (with_parameters q t)) (AreFew s)
    (parameters_judged (with_local env (parameter_objects (mode_of q.mode) t.value.subtype t.next.objects names q.names)) (with_parameters q t) at qs).answer
    (λ rest. rule (Some (given (record { parameters = parameters_for (mode_of q.mode) t.value q.names ++ rest.value.parameters; result = None; region = rest.value.region }) rest.next)))
    (parameters_few (with_local env (parameter_objects (mode_of q.mode) t.value.subtype t.next.objects names q.names)) (with_parameters q t) at qs)
    (λ rest k. few_on s q t rest h.0 h.1 k))))

-- a specification
pub record IsShort (s : State) (g : Given Profile) : Type 0 where
  pub kept : IsKept false s g.next
  pub types : g.next.types ≡ s.types
  pub few : g.next.excesses ≡ [] → length g.value.parameters ≤ most_parameters

short_of : (s : State) (g : Given Profile) → AreFew (fresh s) g → IsShort s g
short_of s g h = record {
  kept = kept_both false s (fresh s) g.next (kept_none false s (fresh s) refl refl) h.kept;
  types = h.types;
  few = λ e. let all = h.few e (omega (arith)) in omega (arith, all);
}

result_short : (env : Env) (s : State) (q : Given Profile) (n : Option Name) → AreFew (fresh s) q → IfPassed (result_judged env q n).outcome (IsShort s)
result_short env s q None h = short_of s q h
result_short env s q (Some n) h =
    part_so (λ t. OnlyDecides q.next t.next × Keep q.next t) (IsShort s) (mark_part (with_local env q.value.region) q.next n).answer
    (λ t. typed_rule env.step (with_result q t) (if is_function_profile q.value.parameters t.value then Some (with_result q t) else None))
    (both_ok (λ t. OnlyDecides q.next t.next) (Keep q.next) (mark_part (with_local env q.value.region) q.next n).answer
    (mark_part_behind (with_local env q.value.region) q.next n) (mark_part_keeps (with_local env q.value.region) q.next n))
    (λ t k. let all : IsShort s (with_result q t) = short_of s (with_result q t)
    (record { kept = kept_both false (fresh s) q.next t.next h.kept k.1; types = ap (λ x. x.types) k.0 ∙ h.types; few = λ e. h.few (k.1.few e) }) in
    typed_either (IsShort s) env.step (with_result q t) _ all (if_test (IsShort s) (is_function_profile q.value.parameters t.value) _ (λ b. all)))

pub specified_short : (env : Env) (s : State) (x : Specification) → IfOk (specified env s x).answer (IsShort s)
specified_short env s x =
    answered (IsShort s) x.pos _
    (part_so (AreFew (fresh s)) (IsShort s) (parameters_judged (opened env) (fresh s) x.pos x.parameters).answer
    (λ q. result_judged (opened env) q x.result_mark) (parameters_few (opened env) (fresh s) x.pos x.parameters)
    (λ q h. result_short (opened env) s q x.result_mark h))

-- a body
module _ (env : Env) (before : State) (b : SubprogramBody) (region : Region) (name : List ℕ) (q : Given Profile) where
  abbrev inside : Env
  inside = inside_body env region name q.value

  abbrev made : Declared → Given Frame → State
  made x f = body_made env before q.value (block_of x.made f.value) f.next

  pub judged_kept : IfOk (body_judged env before b region name q).answer (IsKept false q.next)
  judged_kept =
      answered (IsKept false q.next) b.specification.pos _
      (part_so (KeepOn inside q.next) (IsKept false q.next) (all_declared inside q.next b.specification.pos b.declarations).answer
      (λ x. all_handled (with_local inside x.region) x.next b.specification.pos b.statements
      >>= (λ f. closed_by b.specification.pos b.specification.name b.end_name
      >>= (λ u. typed_rule env.step (made x f) (if may_end b q.value.result then Some (made x f) else None))))
      (declarations_keep inside q.next b.specification.pos b.declarations)
      (λ x h. part_so (Keep x.next) (IsKept false q.next) (all_handled (with_local inside x.region) x.next b.specification.pos b.statements).answer
      (λ f. closed_by b.specification.pos b.specification.name b.end_name
      >>= (λ u. typed_rule env.step (made x f) (if may_end b q.value.result then Some (made x f) else None)))
      (handled_keep (with_local inside x.region) x.next b.specification.pos b.statements)
      (λ f k. part_so (λ u. Unit {0}) (IsKept false q.next) (closed_by b.specification.pos b.specification.name b.end_name).answer
      (λ u. typed_rule env.step (made x f) (if may_end b q.value.result then Some (made x f) else None))
      (any_answer (closed_by b.specification.pos b.specification.name b.end_name).answer)
      (λ u v. let all = kept_both false q.next x.next (made x f) h (kept_both false x.next f.next (made x f) k (kept_none false f.next (made x f) refl refl)) in
      typed_either (IsKept false q.next) env.step (made x f) _ all
      (if_test (IsKept false q.next) (may_end b q.value.result) (Some (made x f)) (λ e. all))))))
