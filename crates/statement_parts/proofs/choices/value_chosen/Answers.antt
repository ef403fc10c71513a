use Rattle.std.proofs.Common.{rules, Ok, sym, ap, ◌∙◌}
use Rattle.ada_meaning.specs.Tree.{value_choice}
use Rattle.ada_rules.specs.Environment.{given}
use Rattle.object_values.specs.program_walk.specs.Places.{with_notes}
use Rattle.object_values.specs.program_walk.specs.Parts.{valued_of}
use Rattle.statement_parts.specs.Selectors.{selector_in}
use Rattle.statement_parts.proofs.ChoiceLaws.{value_refused, value_passes}
use Rattle.statement_parts.proofs.choices.value_chosen.Goals as goal

pub returns-in_err-chosen : goal.returns-in_err-chosen
returns-in_err-chosen c k env s h =
    let r = value_refused env (selector_in k c.args.selector.now) (with_notes k c.args.notes.now s) c.args.expr.now c.in_err-chosen.field-0.0
    (c.in_err-chosen.ensures k env s h) in
    search (rules, r)

pub returns : goal.returns
returns c k env s h =
    let n = with_notes k c.static_part.new.notes s in
    value_passes env (selector_in k c.args.selector.now) (with_notes k c.args.notes.now s) c.args.expr.now (given (valued_of k c.in_ok-chosen.chosen) n)
    (c.in_ok-chosen.ensures k env s h)
    ∙ ap (λ e. Ok (given (value_choice e) n)) (sym c.static_of.ensures)
