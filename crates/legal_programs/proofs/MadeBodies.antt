-- A body makes one subprogram, whose obligations and objects are numbered in turn.
use Rattle.std.proofs.Common.{◌≡◌, ◌+◌, ℕ, suc, Bool, true, false, if◌then◌else◌, List, [], ◌∷◌, ◌++◌, map, reverse, length, Option, Some, None, IfOk, refl, sym, ap, ◌∙◌, subst, arith, length-append}
use Rattle.std.specs.Prelude.{◌&&◌}
use Rattle.cov_base.specs.declared.position.Pos.{Pos}
use Rattle.ada_syntax.specs.Tree.{Name}
use Rattle.ada_syntax.specs.declared.unit.Parameter.{Parameter as SourceParameter}
use Rattle.ada_syntax.specs.declared.unit.Specification.{Specification}
use Rattle.ada_syntax.specs.declared.unit.SubprogramBody.{SubprogramBody}
use Rattle.ada_meaning.specs.Collected.{block_labels}
use Rattle.ada_meaning.specs.Objects.{number_of, all_objects, handler_objects, block_objects, AreDistinct}
use Rattle.ada_meaning.specs.Obligations.{numbers}
use Rattle.ada_meaning.specs.Program.{Subprogram}
use Rattle.ada_rules.specs.Plan.{◌>>=◌, rule}
use Rattle.ada_rules.specs.Entities.{Parameter, Region}
use Rattle.ada_rules.specs.Environment.{typing, typed_rule, State, Given, given, Env, with_local, opened, hide_all}
use Rattle.ada_rules.specs.Expressions.{Marked, mark_part}
use Rattle.ada_rules.specs.Declarations.{Declared, with_objects, all_declared}
use Rattle.ada_rules.specs.Statements.{stmts_of, Frame, block_of, all_handled, frame_returns}
use Rattle.ada_rules.specs.Subprograms.{mode_of, Profile, parameters_for, parameter_objects, limited, parameters_judged, is_function_profile, with_result, result_judged, fresh, specified, returning_of, may_end, typed_parameters, body_made, inside_body, body_judged, closed_by}
use Rattle.legal_laws.specs.Kept.{OnlyDecides}
use Rattle.legal_laws.proofs.DistinctObjects.{numbers_distinct}
use Rattle.legal_laws.proofs.Giving.{returns_value, FrameAs, handled_gives}
use Rattle.legal_laws.proofs.KeptExpressions.{mark_part_behind}
use Rattle.legal_laws.proofs.KnownSpecifications.{limited_decides, named_count}
use Rattle.legal_laws.proofs.NumberedObjects.{numbers_joined, Counts, counts_joined, Declares, declarations_count, handled_count}
use Rattle.legal_laws.proofs.NumberedObjects as numbering
use Rattle.legal_laws.proofs.Passing.{IfPassed, if_test, answered, part_so, typed_so, typed_either, both_ok, any_answer}
use Rattle.legal_programs.specs.Growing.{Adds}
use Rattle.legal_programs.specs.Labelled.{Labels}
use Rattle.legal_programs.specs.Made.{Makes}
use Rattle.legal_programs.proofs.Adding.{adds_both, Add, AddsOn, declarations_add}
use Rattle.legal_programs.proofs.AddingStatements.{handled_add}
use Rattle.legal_programs.proofs.LabelledStatements as labelling
use Rattle.legal_programs.proofs.LabelledStatements.{labels_none, labels_joined, declarations_labelled, handled_labelled, block_labelled}

-- specifications take no labels, and number their parameters
pub record IsNumbered (s : State) (g : Given Profile) : Type 0 where
  pub statements : g.next.statements ≡ s.statements
  pub objects : g.next.objects ≡ s.objects + length g.value.parameters

abbrev with_parameters : SourceParameter → Given Marked → State
with_parameters q t = with_objects t.value.subtype q.names (limited t.next.objects q.names t.next)

numbered_on : (s : State) (q : SourceParameter) (t : Given Marked) (rest : Given Profile) → OnlyDecides s t.next → IsNumbered (with_parameters q t) rest
    → IsNumbered s (given (record { parameters = parameters_for (mode_of q.mode) t.value q.names ++ rest.value.parameters; result = None; region = rest.value.region }) rest.next)
numbered_on s q t rest only h =
    let first = ap (λ x. x.objects) only in
    let kept = ap (λ x. x.objects) (limited_decides t.next.objects q.names t.next) in
    let more = h.objects in
    let both = length-append (parameters_for (mode_of q.mode) t.value q.names) rest.value.parameters in
    let named = named_count (mode_of q.mode) t.value q.names in
    record {
      statements = h.statements ∙ (ap (λ x. x.statements) (limited_decides t.next.objects q.names t.next) ∙ ap (λ x. x.statements) only);
      objects = omega (arith, first, kept, more, both, named);
    }

parameters_numbered : (env : Env) (s : State) (at : Pos) (qs : List SourceParameter) → IfOk (parameters_judged env s at qs).answer (IsNumbered s)
parameters_numbered env s at [] = record { statements = refl; objects = omega (arith) }
parameters_numbered env s at (q ∷ qs) =
    answered (IsNumbered s) at _
    (part_so (λ x. Unit {0}) (IsNumbered s) (hide_all at env.local q.names).answer
    (λ names. mark_part (with_local env names) s q.mark
    >>= (λ t. parameters_judged (with_local env (parameter_objects (mode_of q.mode) t.value.subtype t.next.objects names q.names)) (with_parameters q t) at qs
    >>= (λ rest. rule (Some (given (record { parameters = parameters_for (mode_of q.mode) t.value q.names ++ rest.value.parameters; result = None; region = rest.value.region }) rest.next)))))
    (any_answer (hide_all at env.local q.names).answer)
    (λ names u. part_so (λ t. OnlyDecides s t.next) (IsNumbered s) (mark_part (with_local env names) s q.mark).answer
    (λ t. parameters_judged (with_local env (parameter_objects (mode_of q.mode) t.value.subtype t.next.objects names q.names)) (with_parameters q t) at qs
    >>= (λ rest. rule (Some (given (record { parameters = parameters_for (mode_of q.mode) t.value q.names ++ rest.value.parameters; result = None; region = rest.value.region }) rest.next))))
    (mark_part_behind (with_local env names) s q.mark)
    (λ t only. part_so (IsNumbered (with_parameters q t)) (IsNumbered s)
    (parameters_judged (with_local env (parameter_objects (mode_of q.mode) t.value.subtype t.next.objects names q.names)) (with_parameters q t) at qs).answer
    (λ rest. rule (Some (given (record { parameters = parameters_for (mode_of q.mode) t.value q.names ++ rest.value.parameters; result = None; region = rest.value.region }) rest.next)))
    (parameters_numbered (with_local env (parameter_objects (mode_of q.mode) t.value.subtype t.next.objects names q.names)) (with_parameters q t) at qs)
    (λ rest h. numbered_on s q t rest only h))))

numbered_decides : (s : State) (q : Given Profile) (t : Given Marked) → IsNumbered s q → OnlyDecides q.next t.next → IsNumbered s (with_result q t)
numbered_decides s q t h only = record {
  statements = ap (λ x. x.statements) only ∙ h.statements;
  objects = ap (λ x. x.objects) only ∙ h.objects;
}

result_numbered : (env : Env) (s : State) (q : Given Profile) (n : Option Name) → IsNumbered s q → IfPassed (result_judged env q n).outcome (IsNumbered s)
result_numbered env s q None h = h
result_numbered env s q (Some n) h =
    part_so (λ t. OnlyDecides q.next t.next) (IsNumbered s) (mark_part (with_local env q.value.region) q.next n).answer
    (λ t. typed_rule env.step (with_result q t) (if is_function_profile q.value.parameters t.value then Some (with_result q t) else None))
    (mark_part_behind (with_local env q.value.region) q.next n)
    (λ t k. typed_either (IsNumbered s) env.step (with_result q t) _ (numbered_decides s q t h k)
    (if_test (IsNumbered s) (is_function_profile q.value.parameters t.value) _ (λ b. numbered_decides s q t h k)))

pub specified_numbered : (env : Env) (s : State) (x : Specification) → IfOk (specified env s x).answer (IsNumbered (fresh s))
specified_numbered env s x =
    answered (IsNumbered (fresh s)) x.pos _
    (part_so (IsNumbered (fresh s)) (IsNumbered (fresh s)) (parameters_judged (opened env) (fresh s) x.pos x.parameters).answer
    (λ q. result_judged (opened env) q x.result_mark) (parameters_numbered (opened env) (fresh s) x.pos x.parameters)
    (λ q h. result_numbered (opened env) (fresh s) q x.result_mark h))

-- the numbers of the parameters
parameter_numbers : (n : ℕ) (qs : List Parameter) → map (λ r. r.declaration) (typed_parameters n qs) ≡ numbers n (length qs)
parameter_numbers n [] = refl
parameter_numbers n (q ∷ qs) =
    let next : n + 1 ≡ suc n = omega (arith) in
    ap (λ xs. n ∷ xs) (parameter_numbers (n + 1) qs ∙ ap (λ m. numbers m (length qs)) next)

and_false : (b : Bool) → (b && false) ≡ false
and_false true = refl
and_false false = refl

gives_nothing : (o : Option Parameter) (b : Bool) → o ≡ None → (b && returns_value (returning_of o)) ≡ false
gives_nothing None b e = and_false b
gives_nothing (Some q) b e = absurd (some_is_none e)
  where
    some_is_none : {X : Type 0} {x : X} → Some x ≡ None → ⊥
    some_is_none h = cc

module _ (env : Env) (step : env.step ≡ typing) (before : State) (b : SubprogramBody) (region : Region) (name : List ℕ) (q : Given Profile)
    (is : IsNumbered (fresh before) q) (adds : Adds before q.next) where
  abbrev inside : Env
  inside = inside_body env region name q.value

  abbrev made : Declared → Given Frame → State
  made x f = body_made env before q.value (block_of x.made f.value) f.next

  abbrev one_made : Declared → Given Frame → Subprogram
  one_made x f = record {
    generic = env.generic;
    parameters = typed_parameters 0 q.value.parameters;
    objects = map (λ w. w.subtype) (reverse f.next.words);
    body = block_of x.made f.value;
  }

  abbrev pub MakesOne : State → Type 0
  MakesOne t = Makes env.generic q.value before t

  abbrev AreOf : Declared → Type 0
  AreOf x = AddsOn q.next x × (Declares q.next x × labelling.Declares q.next x)

  abbrev FrameOf : Declared → Given Frame → Type 0
  FrameOf x f = (Add x.next f × FrameAs inside (frame_returns b.statements) f) × (numbering.FrameAs x.next f × labelling.FrameAs x.next f)

  objects_in_turn : (x : Declared) (f : Given Frame) → Declares q.next x → numbering.FrameAs x.next f
      → (map (λ r. r.declaration) (typed_parameters 0 q.value.parameters) ++ block_objects (block_of x.made f.value))
      ≡ numbers 0 (length q.value.parameters + length (map number_of x.made ++ (all_objects (stmts_of f.value.statements) ++ handler_objects f.value.handlers)))
  objects_in_turn x f h k =
      let own = map number_of x.made ++ (all_objects (stmts_of f.value.statements) ++ handler_objects f.value.handlers) in
      let n = length q.value.parameters in
      let body = counts_joined q.next x.next f.next (map number_of x.made) (all_objects (stmts_of f.value.statements) ++ handler_objects f.value.handlers) h k in
      let first = parameter_numbers 0 q.value.parameters in
      let none : n ≡ 0 + n = omega (arith) in
      let second : block_objects (block_of x.made f.value) ≡ numbers n (length own) = body.numbered ∙ ap (λ m. numbers m (length own)) (is.objects ∙ sym none) in
      (λ i. first i ++ second i) ∙ (ap (λ m. numbers 0 n ++ numbers m (length own)) none ∙ sym (numbers_joined 0 n (length own)))

  labels_in_turn : (x : Declared) (f : Given Frame) → labelling.Declares q.next x → labelling.FrameAs x.next f → Labels before (block_labels (block_of x.made f.value)) f.next
  labels_in_turn x f h k =
      labels_joined before q.next f.next [] (block_labels (block_of x.made f.value)) (labels_none before q.next is.statements)
      (block_labelled q.next x.next f.next x.made f.value h k)

  makes_one : (x : Declared) (f : Given Frame) → AreOf x → FrameOf x f → MakesOne (made x f)
  makes_one x f h k =
      let labels = labels_in_turn x f h.1.1 k.1.1 in
      record {
        made = one_made x f;
        is_made = ap (λ ss. one_made x f ∷ ss) ((adds_both before q.next f.next adds (adds_both q.next x.next f.next h.0 k.0.0)).subprograms);
        labels = record { numbered = labels.numbered; next = labels.next };
        distinct = subst AreDistinct (sym (objects_in_turn x f h.1.0 k.1.0)) (numbers_distinct 0 _);
        stands = refl;
        parameters = refl;
        procedure = λ e. k.0.1 ∙ gives_nothing q.value.result (frame_returns b.statements) e;
      }

  pub judged_makes : IfOk (body_judged env before b region name q).answer MakesOne
  judged_makes =
      answered MakesOne b.specification.pos _
      (part_so AreOf MakesOne (all_declared inside q.next b.specification.pos b.declarations).answer
      (λ x. all_handled (with_local inside x.region) x.next b.specification.pos b.statements
      >>= (λ f. closed_by b.specification.pos b.specification.name b.end_name
      >>= (λ u. typed_rule env.step (made x f) (if may_end b q.value.result then Some (made x f) else None))))
      (both_ok (AddsOn q.next) (λ x. Declares q.next x × labelling.Declares q.next x) (all_declared inside q.next b.specification.pos b.declarations).answer
      (declarations_add inside q.next b.specification.pos b.declarations)
      (both_ok (Declares q.next) (labelling.Declares q.next) (all_declared inside q.next b.specification.pos b.declarations).answer
      (declarations_count inside q.next b.specification.pos b.declarations step refl)
      (declarations_labelled inside q.next b.specification.pos b.declarations step refl)))
      (λ x h. part_so (FrameOf x) MakesOne (all_handled (with_local inside x.region) x.next b.specification.pos b.statements).answer
      (λ f. closed_by b.specification.pos b.specification.name b.end_name
      >>= (λ u. typed_rule env.step (made x f) (if may_end b q.value.result then Some (made x f) else None)))
      (both_ok (λ f. Add x.next f × FrameAs inside (frame_returns b.statements) f) (λ f. numbering.FrameAs x.next f × labelling.FrameAs x.next f)
      (all_handled (with_local inside x.region) x.next b.specification.pos b.statements).answer
      (both_ok (Add x.next) (FrameAs inside (frame_returns b.statements)) (all_handled (with_local inside x.region) x.next b.specification.pos b.statements).answer
      (handled_add (with_local inside x.region) x.next b.specification.pos b.statements)
      (handled_gives (with_local inside x.region) x.next b.specification.pos b.statements step))
      (both_ok (numbering.FrameAs x.next) (labelling.FrameAs x.next) (all_handled (with_local inside x.region) x.next b.specification.pos b.statements).answer
      (handled_count (with_local inside x.region) x.next b.specification.pos b.statements step)
      (handled_labelled (with_local inside x.region) x.next b.specification.pos b.statements step)))
      (λ f k. part_so (λ u. Unit {0}) MakesOne (closed_by b.specification.pos b.specification.name b.end_name).answer
      (λ u. typed_rule env.step (made x f) (if may_end b q.value.result then Some (made x f) else None))
      (any_answer (closed_by b.specification.pos b.specification.name b.end_name).answer)
      (λ u v. typed_so MakesOne env.step (made x f) (if may_end b q.value.result then Some (made x f) else None) step
      (if_test MakesOne (may_end b q.value.result) (Some (made x f)) (λ e. makes_one x f h k))))))
