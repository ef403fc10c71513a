use Rattle.std.proofs.Common.{None, refl, sym, ap, ◌∙◌}
use Rattle.ada_rules.specs.Plan.{answer_at}
use Rattle.ada_rules.specs.Environment.{given}
use Rattle.ada_rules.specs.Denoted.{a_thing}
use Rattle.ada_rules.specs.Expressions.{named, selection}
use Rattle.ada_phrases.specs.declared.names.Denoted.TheVariants as denoted
use Rattle.ada_phrases.specs.DenotedView.{denotes}
use Rattle.ada_phrases.proofs.Parts.{answers_as, gives_typed}
use Rattle.ada_phrases.proofs.PartLaws.{other_selection}
use Rattle.ada_phrases.proofs.suffixes.part.Goals as goal

pub returns-in-Unit : goal.returns-in-Unit
returns-in-Unit c k env s h =
    answers_as (λ x. given (denotes k x) s) _ _ c.named.result
    (ap (λ d. answer_at c.args.pos (selection env s (denotes k d) c.args.name.now).outcome) c.in-Unit.is
    ∙ ap (λ x. answer_at c.args.pos (named s x).outcome) (sym (c.part_of_unit.ensures k env h)))
    (c.named.ensures k s)

pub returns-in-TestIo : goal.returns-in-TestIo
returns-in-TestIo c k env s h =
    answers_as (λ x. given (denotes k x) s) _ _ c.named-in-TestIo.result
    (ap (λ d. answer_at c.args.pos (selection env s (denotes k d) c.args.name.now).outcome) c.in-TestIo.is
    ∙ ap (λ x. answer_at c.args.pos (named s x).outcome) (sym (c.part_of_test_io.ensures k env h)))
    (c.named-in-TestIo.ensures k s)

pub returns-in-Variable : goal.returns-in-Variable
returns-in-Variable c k env s h =
    answers_as (λ x. given (denotes k x) s) _ _ c.component.result
    (ap (λ d. answer_at c.args.pos (selection env s (denotes k d) c.args.name.now).outcome) c.in-Variable.is)
    (c.component.ensures k env s h)

pub returns-in_default : goal.returns-in_default
returns-in_default c k env s h =
    answers_as (λ x. given (denotes k x) s) _ _ c.typed.result
    (other_selection k env s c.args.prefix c.args.name.now c.args.pos c.in_default.not-Unit c.in_default.not-TestIo c.in_default.not-Variable)
    (gives_typed (denotes k) s env.step c.args.scope.now.step c.args.pos denoted.Thing None a_thing None c.typed.result h.step refl refl c.typed.ensures)
