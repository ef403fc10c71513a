-- The end of bodies, of the rules' definitions.
use Rattle.std.proofs.Common.{◌≡◌, Bool, true, false, Option, Some, None, Ok, sym, ap, ◌∙◌, if◌then◌else◌}
use Rattle.cov_base.specs.declared.failure.Failure.{Failure}
use Rattle.ada_syntax.specs.declared.unit.SubprogramBody.{SubprogramBody}
use Rattle.ada_rules.specs.Plan.{Plan, answer_at}
use Rattle.ada_rules.specs.Entities.{Parameter}
use Rattle.ada_rules.specs.Environment as rules
use Rattle.ada_rules.specs.Environment.{typed_rule, State}
use Rattle.ada_rules.specs.Subprograms.{closed_by, may_end}
use Rattle.ada_entities.specs.Answers.{refusal, Refuses, refused_at}
use Rattle.ada_entities.specs.declared.fault.Refusal.{Refusal}
use Rattle.ada_phrases.specs.declared.scope.Step.{Step}
use Rattle.ada_phrases.specs.declared.scope.Step.TheVariants as step
use Rattle.ada_phrases.specs.Scopes.{step_of}
use Rattle.ada_phrases.proofs.Parts.{passes_on, in_part}
use Rattle.library_units.specs.Inside.{ending}

abbrev at_end : rules.Step → Bool → State → Plan State
at_end st b made = typed_rule st made (if b then Some made else None)

module _ (b : SubprogramBody) (r : Option Parameter) (made : State) where
  abbrev then_end : rules.Step → Unit {0} → Plan State
  then_end st u = at_end st (may_end b r) made

  module _ (closed : (closed_by b.specification.pos b.specification.name b.end_name).answer ≡ Ok tt) where
    behind_end : (st : rules.Step) → answer_at b.specification.pos (ending st b r made).outcome
        ≡ answer_at b.specification.pos (at_end st (may_end b r) made).outcome
    behind_end st = passes_on b.specification.pos (closed_by b.specification.pos b.specification.name b.end_name).answer (then_end st) tt closed

    pub ends_named : answer_at b.specification.pos (ending (step_of step.Naming) b r made).outcome ≡ Ok made
    ends_named = behind_end (step_of step.Naming)

    module _ {is_allowed : Bool} (allowed : is_allowed ≡ may_end b r) where
      behind_test : answer_at b.specification.pos (ending (step_of step.Typing) b r made).outcome
          ≡ answer_at b.specification.pos (at_end (step_of step.Typing) is_allowed made).outcome
      behind_test =
          behind_end (step_of step.Typing)
          ∙ ap (λ x. answer_at b.specification.pos (at_end (step_of step.Typing) x made).outcome) (sym allowed)

      pub ends_typed : is_allowed ≡ true → answer_at b.specification.pos (ending (step_of step.Typing) b r made).outcome ≡ Ok made
      ends_typed h = behind_test ∙ ap (λ x. answer_at b.specification.pos (at_end (step_of step.Typing) x made).outcome) h

      pub may_not_end : is_allowed ≡ false
          → Refuses (answer_at b.specification.pos (ending (step_of step.Typing) b r made).outcome) (refusal b.specification.pos)
      may_not_end h =
          refused_at (behind_test ∙ ap (λ x. answer_at b.specification.pos (at_end (step_of step.Typing) x made).outcome) h)

pub name_refused : (own : Step) (b : SubprogramBody) (r : Option Parameter) (made : State) (f : Failure Refusal)
    → Refuses (closed_by b.specification.pos b.specification.name b.end_name).answer f
    → Refuses (answer_at b.specification.pos (ending (step_of own) b r made).outcome) f
name_refused own b r made f h =
    in_part b.specification.pos (closed_by b.specification.pos b.specification.name b.end_name).answer (then_end b r made (step_of own)) f h
