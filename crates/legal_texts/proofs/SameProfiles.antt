-- A specification has the same parameters and the same result in two places, where names lead to the same marks in both.
use Rattle.std.proofs.Common.{◌≡◌, ◌+◌, if◌then◌else◌, List, [], ◌∷◌, ◌++◌, length, Option, Some, None, Result, Ok, Err, refl, sym, ap, ◌∙◌, subst}
use Rattle.cov_base.specs.declared.position.Pos.{Pos}
use Rattle.ada_syntax.specs.Tree.{Name}
use Rattle.ada_syntax.specs.declared.unit.Parameter.{Parameter as SourceParameter}
use Rattle.ada_syntax.specs.declared.unit.Specification.{Specification}
use Rattle.ada_rules.specs.Plan.{Plan, ◌>>=◌, rule, answer_at}
use Rattle.ada_rules.specs.Entities.{Region}
use Rattle.ada_rules.specs.Environment.{Step, naming, typing, typed_rule, State, Given, given, Env, with_local, opened, hide_all}
use Rattle.ada_rules.specs.Expressions.{Marked, mark_part}
use Rattle.ada_rules.specs.Declarations.{with_objects}
use Rattle.ada_rules.specs.Subprograms.{mode_of, Profile, parameters_for, parameter_objects, limited, parameters_judged, is_function_profile, with_result, result_judged, fresh, specified}
use Rattle.legal_laws.specs.Kept.{OnlyDecides}
use Rattle.legal_laws.proofs.KeptExpressions.{mark_part_behind}
use Rattle.legal_laws.proofs.KnownSpecifications.{limited_decides}
use Rattle.legal_laws.proofs.Passing.{steps_apart}
use Rattle.legal_programs.proofs.Passed.{of_ok, passed_part, passed_rule, passed_test}
use Rattle.legal_texts.specs.Leading.{lead, Fit}
use Rattle.legal_texts.proofs.Leads.{IsMarkOf, mark_leads, same_marks}

abbrev ok_or : {A : Type 0} → A → Result A Pos → A
ok_or x (Ok y) = y
ok_or x (Err p) = x

pub same_ok : {A : Type 0} (r : Result A Pos) (x y : A) → r ≡ Ok x → r ≡ Ok y → x ≡ y
same_ok r x y e f = ap (ok_or x) (sym e ∙ f)

-- a rule on types, in their step
pub passed_typed : {B : Type 0} (step : Step) (p : Pos) (anything : B) (o : Option B) (y : B) → step ≡ typing
    → answer_at p (typed_rule step anything o).outcome ≡ Ok y → o ≡ Some y
passed_typed naming p anything o y is h = absurd (steps_apart is)
passed_typed typing p anything o y is h = passed_rule p o y h

module _ (one other : Env) (step : one.step ≡ typing) (other_step : other.step ≡ typing)
    (marks : (region : Region) (n : Name) → Fit (lead (with_local (opened one) region) n) (lead (with_local (opened other) region) n)) where
  abbrev here : Region → Env
  here region = with_local (opened one) region

  abbrev there : Region → Env
  there region = with_local (opened other) region

  mark_same : (region : Region) (s t : State) (n : Name) (g h : Given Marked) → (mark_part (here region) s n).answer ≡ Ok g
      → (mark_part (there region) t n).answer ≡ Ok h → g.value ≡ h.value
  mark_same region s t n g h e f =
      same_marks (lead (here region) n) (lead (there region) n) g.value h.value (marks region n)
      (of_ok (IsMarkOf (here region) step n) (mark_part (here region) s n).answer g e (mark_leads (here region) step s n))
      (of_ok (IsMarkOf (there region) other_step n) (mark_part (there region) t n).answer h f (mark_leads (there region) other_step t n))

  abbrev with_parameters : SourceParameter → Given Marked → State
  with_parameters q t = with_objects t.value.subtype q.names (limited t.next.objects q.names t.next)

  objects_kept : (env : Env) (s : State) (n : Name) (g : Given Marked) → (mark_part env s n).answer ≡ Ok g → g.next.objects ≡ s.objects
  objects_kept env s n g e = ap (λ x. x.objects) (of_ok (λ (x : Given Marked). OnlyDecides s x.next) (mark_part env s n).answer g e (mark_part_behind env s n))

  objects_with : (q : SourceParameter) (s : State) (t : Given Marked) → t.next.objects ≡ s.objects → (with_parameters q t).objects ≡ s.objects + length q.names
  objects_with q s t e = ap (λ n. n + length q.names) (ap (λ x. x.objects) (limited_decides t.next.objects q.names t.next) ∙ e)

  abbrev joined : SourceParameter → Given Marked → Given Profile → Given Profile
  joined q t rest = given (record {
    parameters = parameters_for (mode_of q.mode) t.value q.names ++ rest.value.parameters;
    result = None;
    region = rest.value.region;
  }) rest.next

  joined_same : (q : SourceParameter) (t u : Given Marked) (rest more : Given Profile) → t.value ≡ u.value → rest.value ≡ more.value
      → (joined q t rest).value ≡ (joined q u more).value
  joined_same q t u rest more e f =
      λ i. record {
        parameters = parameters_for (mode_of q.mode) (e i) q.names ++ (f i).parameters;
        result = None;
        region = (f i).region;
      }

  parameters_same : (region : Region) (s t : State) (at : Pos) (qs : List SourceParameter) (g h : Given Profile) → s.objects ≡ t.objects
      → (parameters_judged (here region) s at qs).answer ≡ Ok g → (parameters_judged (there region) t at qs).answer ≡ Ok h → g.value ≡ h.value
  parameters_same region s t at [] g h n e f =
      ap (λ (x : Given Profile). x.value) (same_ok (parameters_judged (here region) s at []).answer g _ e refl)
      ∙ ap (λ (x : Given Profile). x.value) (same_ok (parameters_judged (there region) t at []).answer _ h refl f)
  parameters_same region s t at (q ∷ qs) g h n e f =
      let names = passed_part at (hide_all at region q.names).answer (after_names (here region) s) g e in
      let others = passed_part at (hide_all at region q.names).answer (after_names (there region) t) h f in
      let alike = same_ok (hide_all at region q.names).answer names.value others.value names.is others.is in
      let mark = passed_part at (mark_part (here names.value) s q.mark).answer (after_mark (here region) names.value) g names.rest in
      let first : answer_at at (after_names (there region) t names.value).outcome ≡ Ok h =
      subst (λ r. answer_at at (after_names (there region) t r).outcome ≡ Ok h) (sym alike) others.rest in
      let second = passed_part at (mark_part (there names.value) t q.mark).answer (after_mark (there region) names.value) h first in
      let same = mark_same names.value s t q.mark mark.value second.value mark.is second.is in
      let count = objects_kept (here names.value) s q.mark mark.value mark.is in
      let counted = objects_kept (there names.value) t q.mark second.value second.is in
      let rest = passed_part at (parameters_judged (here (region_behind names.value mark.value)) (with_parameters q mark.value) at qs).answer
      (λ r. rule (Some (joined q mark.value r))) g mark.rest in
      let more = passed_part at (parameters_judged (there (region_behind names.value second.value)) (with_parameters q second.value) at qs).answer
      (λ r. rule (Some (joined q second.value r))) h second.rest in
      let place : region_behind names.value second.value ≡ region_behind names.value mark.value =
      λ i. parameter_objects (mode_of q.mode) (sym same i).subtype ((counted ∙ (sym n ∙ sym count)) i) names.value q.names in
      let later = parameters_same (region_behind names.value mark.value) (with_parameters q mark.value) (with_parameters q second.value) at qs rest.value more.value
      (objects_with q s mark.value count ∙ (ap (λ m. m + length q.names) n ∙ sym (objects_with q t second.value counted)))
      rest.is (subst (λ r. (parameters_judged (there r) (with_parameters q second.value) at qs).answer ≡ Ok more.value) place more.is) in
      ap (λ (x : Given Profile). x.value) (sym (some_same (passed_rule at (Some (joined q mark.value rest.value)) g rest.rest)))
      ∙ (joined_same q mark.value second.value rest.value more.value same later
      ∙ ap (λ (x : Given Profile). x.value) (some_same (passed_rule at (Some (joined q second.value more.value)) h more.rest)))
    where
      region_behind : Region → Given Marked → Region
      region_behind names m = parameter_objects (mode_of q.mode) m.value.subtype m.next.objects names q.names

      after_mark : Env → Region → Given Marked → Plan (Given Profile)
      after_mark env names m =
          parameters_judged (with_local env (region_behind names m)) (with_parameters q m) at qs >>= (λ r. rule (Some (joined q m r)))

      after_names : Env → State → Region → Plan (Given Profile)
      after_names env u names = mark_part (with_local env names) u q.mark >>= (λ m. after_mark env names m)

      some_same : {A : Type 0} {x y : A} → Some x ≡ Some y → x ≡ y
      some_same {x = x} k = ap (or_else x) k
        where
          or_else : {A : Type 0} → A → Option A → A
          or_else z None = z
          or_else z (Some v) = v

  result_same : (at : Pos) (q r : Given Profile) (n : Option Name) (g h : Given Profile) → q.value ≡ r.value
      → answer_at at (result_judged (opened one) q n).outcome ≡ Ok g → answer_at at (result_judged (opened other) r n).outcome ≡ Ok h → g.value ≡ h.value
  result_same at q r None g h same e f =
      ap (λ (x : Given Profile). x.value) (sym (same_ok (Ok q) q g refl e)) ∙ (same ∙ ap (λ (x : Given Profile). x.value) (same_ok (Ok r) r h refl f))
  result_same at q r (Some n) g h same e f =
      let mark = passed_part at (mark_part (here q.value.region) q.next n).answer (after_mark one q) g e in
      let second = passed_part at (mark_part (there r.value.region) r.next n).answer (after_mark other r) h f in
      let marked = mark_same q.value.region q.next r.next n mark.value second.value mark.is
      (subst (λ x. (mark_part (there x) r.next n).answer ≡ Ok second.value) (ap (λ x. x.region) (sym same)) second.is) in
      let first = passed_test (is_function_profile q.value.parameters mark.value.value) (with_result q mark.value) g
      (passed_typed one.step at (with_result q mark.value) _ g step mark.rest) in
      let last = passed_test (is_function_profile r.value.parameters second.value.value) (with_result r second.value) h
      (passed_typed other.step at (with_result r second.value) _ h other_step second.rest) in
      ap (λ (x : Given Profile). x.value) (sym first.1)
      ∙ (results_same mark.value second.value marked ∙ ap (λ (x : Given Profile). x.value) last.1)
    where
      after_mark : Env → Given Profile → Given Marked → Plan (Given Profile)
      after_mark env x t = typed_rule env.step (with_result x t) (if is_function_profile x.value.parameters t.value then Some (with_result x t) else None)

      results_same : (t u : Given Marked) → t.value ≡ u.value → (with_result q t).value ≡ (with_result r u).value
      results_same t u k = λ i. (with_result (given (same i) q.next) (given (k i) q.next)).value

  pub specified_same : (s t : State) (x : Specification) (g h : Given Profile) → (specified one s x).answer ≡ Ok g → (specified other t x).answer ≡ Ok h
      → g.value ≡ h.value
  specified_same s t x g h e f =
      let first = passed_part x.pos (parameters_judged (opened one) (fresh s) x.pos x.parameters).answer (λ q. result_judged (opened one) q x.result_mark) g e in
      let second = passed_part x.pos (parameters_judged (opened other) (fresh t) x.pos x.parameters).answer (λ q. result_judged (opened other) q x.result_mark) h f in
      result_same x.pos first.value second.value x.result_mark g h
      (parameters_same [] (fresh s) (fresh t) x.pos x.parameters first.value second.value refl first.is second.is) first.rest second.rest
