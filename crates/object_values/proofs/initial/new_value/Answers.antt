use Rattle.std.proofs.Common.{◌≡◌, Ok, sym, ap, ◌∙◌, rules}
use Rattle.ada_rules.specs.Environment.{given}
use Rattle.ada_entities.specs.Views.{subtype_of}
use Rattle.ada_judged.specs.JudgedView.{judged_of}
use Rattle.program_walk.specs.ada_phrases.specs.Answers.{counted}
use Rattle.program_walk.specs.ada_phrases.specs.Scopes.{step_of}
use Rattle.program_walk.specs.ada_phrases.proofs.Parts.{answers_as}
use Rattle.object_values.specs.NewValues.{new_value_of}
use Rattle.object_values.proofs.NewValueLaws.{refused_there, named_there, typed_there}
use Rattle.object_values.proofs.initial.new_value.Goals as goal

pub returns-in_err-value : goal.returns-in_err-value
returns-in_err-value c k env s h =
    let r = refused_there env (counted c.args.decisions.now s) c.args.pos (subtype_of k.types c.args.subtype) c.args.initial.now c.in_err-value.field-0.0
    (c.in_err-value.ensures k env s h) in
    search (rules, r)

pub returns-in-Naming : goal.returns-in-Naming
returns-in-Naming c k env s h =
    let x = given (judged_of k c.in_ok-value.value) (counted c.judged.new.decisions s) in
    named_there env (counted c.args.decisions.now s) c.args.pos (subtype_of k.types c.args.subtype) c.args.initial.now x (c.in_ok-value.ensures k env s h)
    (h.step ∙ ap step_of c.in-Naming.is)
    ∙ ap (λ v. Ok (given v x.next)) (sym (c.any.ensures k))

pub returns-in-Typing : goal.returns-in-Typing
returns-in-Typing c k env s h =
    let x = given (judged_of k c.in_ok-value.value) (counted c.judged.new.decisions s) in
    answers_as (λ v. given (new_value_of k v) x.next) _ _ c.typed_value.result
    (typed_there env (counted c.args.decisions.now s) c.args.pos (subtype_of k.types c.args.subtype) c.args.initial.now x (c.in_ok-value.ensures k env s h)
    (h.step ∙ ap step_of c.in-Typing.is))
    (rw (sym c.as_slice-others.ensures) (c.typed_value.ensures h.units.known k h.units.begins x.next))
