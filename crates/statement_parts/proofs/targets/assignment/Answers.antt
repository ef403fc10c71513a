use Rattle.std.proofs.Common.{rules, Ok, sym, ap, ◌∙◌}
use Rattle.ada_tree.specs.View.{label_of}
use Rattle.ada_rules.specs.Environment.{given}
use Rattle.ada_judged.specs.JudgedView.{variable_of}
use Rattle.ada_phrases.specs.Answers.{counted}
use Rattle.object_values.specs.NewValues.{new_value_of}
use Rattle.statement_parts.specs.Simple.{in_program}
use Rattle.statement_parts.proofs.Plans.{variable_refused, value_refused, both_pass}
use Rattle.statement_parts.proofs.targets.assignment.Goals as goal

pub returns-in_err-target : goal.returns-in_err-target
returns-in_err-target c k env s h =
    let r = variable_refused env (counted c.args.decisions.now s) c.args.name.now c.args.initial.now (label_of c.args.label) c.args.label.place
    c.in_err-target.field-0.0 (c.in_err-target.ensures k env s h) in
    search (rules, r)

pub returns-in_err-set : goal.returns-in_err-set
returns-in_err-set c k env s h =
    let v = given (variable_of k c.in_ok-target.target) (counted c.target.new.decisions s) in
    let r = value_refused env (counted c.args.decisions.now s) c.args.name.now c.args.initial.now (label_of c.args.label) c.args.label.place
    v (c.in_ok-target.ensures k env s h) c.in_err-set.field-0.0 (c.in_err-set.ensures k env s h) in
    search (rules, r)

pub returns : goal.returns
returns c k env s h =
    let v = given (variable_of k c.in_ok-target.target) (counted c.target.new.decisions s) in
    let x = given (new_value_of k c.in_ok-set.set) (counted c.new_value.new.decisions s) in
    both_pass env (counted c.args.decisions.now s) c.args.name.now c.args.initial.now (label_of c.args.label) c.args.label.place
    v (c.in_ok-target.ensures k env s h) x (c.in_ok-set.ensures k env s h)
    ∙ ap (λ y. Ok (given (in_program k y) x.next)) (sym c.assigned.ensures)
