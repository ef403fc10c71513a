-- The subprogram that a body makes: it has the parameters of its specification, and gives a result where that has one. Objects that are counted
-- before the body are counted behind it.
use Rattle.std.proofs.Common.{◌≡◌, ℕ, Bool, true, false, if◌then◌else◌, List, ◌∷◌, map, reverse, Option, Some, None, IfOk, refl, ap, ◌∙◌}
use Rattle.std.specs.Prelude.{◌&&◌}
use Rattle.ada_syntax.specs.declared.unit.SubprogramBody.{SubprogramBody}
use Rattle.ada_meaning.specs.Declared.{is_function}
use Rattle.ada_meaning.specs.Program.{Subprogram}
use Rattle.ada_rules.specs.Plan.{◌>>=◌}
use Rattle.ada_rules.specs.Entities.{Parameter, Region}
use Rattle.ada_rules.specs.Environment.{typing, typed_rule, State, Given, Env, with_local}
use Rattle.ada_rules.specs.Declarations.{Declared, all_declared}
use Rattle.ada_rules.specs.Statements.{Frame, block_of, all_handled, frame_returns}
use Rattle.ada_rules.specs.Subprograms.{Profile, returning_of, may_end, typed_parameters, body_made, inside_body, body_judged, closed_by}
use Rattle.legal_laws.proofs.Giving.{returns_value, FrameAs, handled_gives}
use Rattle.legal_laws.proofs.Passing.{if_test, answered, part_so, typed_so, both_ok, any_answer}
use Rattle.legal_programs.specs.Growing.{Adds}
use Rattle.legal_programs.proofs.Adding.{adds_both, Add, AddsOn, declarations_add}
use Rattle.legal_programs.proofs.AddingStatements.{handled_add}

pub record IsMade (generic : Option ℕ) (q : Profile) (before t : State) : Type 0 where
  pub made : Subprogram
  pub is_made : t.subprograms ≡ made ∷ before.subprograms
  pub stands : made.generic ≡ generic
  pub parameters : typed_parameters 0 q.parameters ≡ made.parameters
  pub gives : is_function made ≡ returns_value (returning_of q.result)
  pub objects : t.objects ≡ before.objects
  pub words : t.words ≡ before.words

module _ (env : Env) (step : env.step ≡ typing) (before : State) (b : SubprogramBody) (region : Region) (name : List ℕ) (q : Given Profile)
    (adds : Adds before q.next) where
  abbrev inside : Env
  inside = inside_body env region name q.value

  abbrev made : Declared → Given Frame → State
  made x f = body_made env before q.value (block_of x.made f.value) f.next

  abbrev one_made : Declared → Given Frame → Subprogram
  one_made x f = record {
    generic = env.generic;
    parameters = typed_parameters 0 q.value.parameters;
    objects = map (λ w. w.subtype) (reverse f.next.words);
    body = block_of x.made f.value;
  }

  abbrev Made : State → Type 0
  Made t = IsMade env.generic q.value before t

  and_true : (r : Option Parameter) → may_end b r ≡ true → (frame_returns b.statements && returns_value (returning_of r)) ≡ returns_value (returning_of r)
  and_true None h = of_false (frame_returns b.statements)
    where
      of_false : (c : Bool) → (c && false) ≡ false
      of_false true = refl
      of_false false = refl
  and_true (Some p) h = ap (λ c. c && true) h

  one_is_made : (x : Declared) (f : Given Frame) → AddsOn q.next x → Add x.next f × FrameAs inside (frame_returns b.statements) f → may_end b q.value.result ≡ true
      → Made (made x f)
  one_is_made x f h k ends = record {
    made = one_made x f;
    is_made = ap (λ ss. one_made x f ∷ ss) ((adds_both before q.next f.next adds (adds_both q.next x.next f.next h k.0)).subprograms);
    stands = refl;
    parameters = refl;
    gives = k.1 ∙ and_true q.value.result ends;
    objects = refl;
    words = refl;
  }

  pub judged_made : IfOk (body_judged env before b region name q).answer Made
  judged_made =
      answered Made b.specification.pos _
      (part_so (AddsOn q.next) Made (all_declared inside q.next b.specification.pos b.declarations).answer
      (λ x. all_handled (with_local inside x.region) x.next b.specification.pos b.statements
      >>= (λ f. closed_by b.specification.pos b.specification.name b.end_name
      >>= (λ u. typed_rule env.step (made x f) (if may_end b q.value.result then Some (made x f) else None))))
      (declarations_add inside q.next b.specification.pos b.declarations)
      (λ x h. part_so (λ f. Add x.next f × FrameAs inside (frame_returns b.statements) f) Made
      (all_handled (with_local inside x.region) x.next b.specification.pos b.statements).answer
      (λ f. closed_by b.specification.pos b.specification.name b.end_name
      >>= (λ u. typed_rule env.step (made x f) (if may_end b q.value.result then Some (made x f) else None)))
      (both_ok (Add x.next) (FrameAs inside (frame_returns b.statements)) (all_handled (with_local inside x.region) x.next b.specification.pos b.statements).answer
      (handled_add (with_local inside x.region) x.next b.specification.pos b.statements)
      (handled_gives (with_local inside x.region) x.next b.specification.pos b.statements step))
      (λ f k. part_so (λ u. Unit {0}) Made (closed_by b.specification.pos b.specification.name b.end_name).answer
      (λ u. typed_rule env.step (made x f) (if may_end b q.value.result then Some (made x f) else None))
      (any_answer (closed_by b.specification.pos b.specification.name b.end_name).answer)
      (λ u v. typed_so Made env.step (made x f) (if may_end b q.value.result then Some (made x f) else None) step
      (if_test Made (may_end b q.value.result) (Some (made x f)) (λ e. one_is_made x f h k e))))))
