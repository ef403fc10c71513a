use Rattle.std.proofs.Common.{◌∙◌, sym}
use Rattle.annotated_report.proofs.Halving.{found_behind, none_behind}
use Rattle.annotated_report.proofs.regions.rising_number.Goals as goal

pub returns-in-Some-clause-number : goal.returns-in-Some-clause-number
returns-in-Some-clause-number c up =
    sym (found_behind c.args.pos c.last_begun-before.result.0 c.in-Some.at c.last_begun-before.result.1.now (sym c.in-Some.ensures.number)) ∙ c.last_begun-before.ensures.same up

pub returns-in-None-clause-number : goal.returns-in-None-clause-number
returns-in-None-clause-number c up =
    sym (none_behind c.args.pos c.last_begun-before.result.0 c.last_begun-before.result.1.now (sym c.in-None.ensures.number)) ∙ c.last_begun-before.ensures.same up
