use Rattle.std.proofs.Common.{List, length, ap, sym, subst, arith}
use Rattle.std.proofs.lemmas.Result.{err_from_is_err_and}
use Rattle.ada_syntax.specs.declared.statement.ExceptionChoice.{ExceptionChoice}
use Rattle.expression_parser.specs.declared.symbol.Symbol.TheVariants as symbol
use Rattle.expression_parser.specs.Reading.{Got, Stuck}
use Rattle.expression_parser.specs.Shows.{Reads, More}
use Rattle.expression_parser.proofs.NameCode.{after_some}
use Rattle.ada_parser.specs.StatementReading as read
use Rattle.ada_parser.proofs.Parts.{part_fails}
use Rattle.ada_parser.proofs.Steps.{turns}
use Rattle.ada_parser.proofs.SimpleCode.{exceptions_step, exceptions_step_fail, exceptions_end, exceptions_rules}
use Rattle.ada_parser.proofs.choices.exceptions.Goals as goal

pub loop-after-preserved : goal.loop-after-preserved
loop-after-preserved c =
    let x = c.args.parser.extent in
    record {
      reads = λ q f.
          c.loop-after.invariant.reads q
          (exceptions_step x c.loop-after.rest.now c.in-Some.after.now c.in_ok-exception.next.now c.loop-after.exceptions.items c.in_ok-exception.exception (sym c.in-Some.ensures) c.in_ok-exception.ensures.reads c.in_ok-exception.ensures.shorter q
          (subst (λ (z : List ExceptionChoice). More (turns symbol.Bar (read.exception_by x) read.pushed) c.in_ok-exception.next.now z q) c.in_ok-push-2.ensures.items f));
      shorter = omega (arith, c.loop-after.invariant.shorter, c.in_ok-exception.ensures.shorter, ap length (after_some symbol.Bar c.loop-after.rest.now c.in-Some.after.now (sym c.in-Some.ensures)).here);
    }

pub returns-in_err-first-clause-reads : goal.returns-in_err-first-clause-reads
returns-in_err-first-clause-reads c = grind (arith, exceptions_rules)

pub returns-in_err-first-clause-shorter : goal.returns-in_err-first-clause-shorter
returns-in_err-first-clause-shorter c = grind (arith, exceptions_rules)

pub returns-in_err-push-clause-reads : goal.returns-in_err-push-clause-reads
returns-in_err-push-clause-reads c = grind (arith, exceptions_rules)

pub returns-in_err-push-clause-shorter : goal.returns-in_err-push-clause-shorter
returns-in_err-push-clause-shorter c = grind (arith, exceptions_rules)

pub loop-after-init : goal.loop-after-init
loop-after-init c = grind (arith, exceptions_rules)

pub returns-in_err-exception-clause-reads : goal.returns-in_err-exception-clause-reads
returns-in_err-exception-clause-reads c =
    let x = c.args.parser.extent in
    let us = c.in-Some.after.now in
    let p = err_from_is_err_and c.from_residual-in_err-exception.result c.from_residual-in_err-exception.ensures.1 in
    rw (p.1, p.2) (part_fails (Reads (read.exception_by x) us) (Reads (read.exceptions_by x) c.args.tokens.now) c.in_err-exception.field-0.0 c.in_err-exception.ensures.reads
    (λ rest h. c.loop-after.invariant.reads (Stuck rest) (exceptions_step_fail x c.loop-after.rest.now us rest c.loop-after.exceptions.items (sym c.in-Some.ensures) h)))

pub returns-in_err-exception-clause-shorter : goal.returns-in_err-exception-clause-shorter
returns-in_err-exception-clause-shorter c = grind (arith, exceptions_rules)

pub returns-in_err-push-2-clause-reads : goal.returns-in_err-push-2-clause-reads
returns-in_err-push-2-clause-reads c = grind (arith, exceptions_rules)

pub returns-in_err-push-2-clause-shorter : goal.returns-in_err-push-2-clause-shorter
returns-in_err-push-2-clause-shorter c = grind (arith, exceptions_rules)

pub loop-after-smaller : goal.loop-after-smaller
loop-after-smaller c = omega (arith, c.in_ok-exception.ensures.shorter, ap length (after_some symbol.Bar c.loop-after.rest.now c.in-Some.after.now (sym c.in-Some.ensures)).here)

pub returns-clause-reads : goal.returns-clause-reads
returns-clause-reads c =
    let zs = c.loop-after.exceptions.items in
    let rest = c.loop-after.rest.now in
    c.loop-after.invariant.reads (Got zs rest) (exceptions_end c.args.parser.extent rest zs (sym c.in_default.ensures))

pub returns-clause-shorter : goal.returns-clause-shorter
returns-clause-shorter c = grind (arith, exceptions_rules)
