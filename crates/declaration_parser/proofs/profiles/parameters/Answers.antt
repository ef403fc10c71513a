use Rattle.expression_parser.specs.Reading.{Got, Stuck}
use Rattle.std.proofs.lemmas.Result.{err_from_is_err_and}
use Rattle.expression_parser.proofs.Faults.{handed_on}
use Rattle.std.proofs.Common.{List, length, ap, sym, subst, arith}
use Rattle.ada_syntax.specs.declared.unit.Parameter.{Parameter}
use Rattle.expression_parser.specs.declared.symbol.Symbol.TheVariants as symbol
use Rattle.declaration_parser.specs.DeclarationReading as read
use Rattle.expression_parser.specs.Shows.{Reads, More}
use Rattle.expression_parser.proofs.NameCode.{after_some}
use Rattle.declaration_parser.proofs.ProfileCode.{parameters_step, parameters_step_fail, parameters_end, parameters_rules}
use Rattle.declaration_parser.proofs.profiles.parameters.Goals as goal

pub loop-after-preserved : goal.loop-after-preserved
loop-after-preserved c =
    let x = c.args.parser.extent in
    record {
      reads = λ q f.
          c.loop-after.invariant.reads q
          (parameters_step x c.loop-after.rest.now c.in-Some.after.now c.in_ok-parameter.next.now c.loop-after.parameters.items c.in_ok-parameter.parameter (sym c.in-Some.ensures) c.in_ok-parameter.ensures.reads c.in_ok-parameter.ensures.shorter q
          (subst (λ (z : List Parameter). More (read.parameters_turn x) c.in_ok-parameter.next.now z q) c.in_ok-push-2.ensures.items f));
      shorter = omega (arith, c.loop-after.invariant.shorter, c.in_ok-parameter.ensures.shorter, ap length (after_some symbol.Semicolon c.loop-after.rest.now c.in-Some.after.now (sym c.in-Some.ensures)).here);
    }

pub loop-after-init : goal.loop-after-init
loop-after-init c = grind (arith, parameters_rules)

pub loop-after-smaller : goal.loop-after-smaller
loop-after-smaller c = omega (arith, c.in_ok-parameter.ensures.shorter, ap length (after_some symbol.Semicolon c.loop-after.rest.now c.in-Some.after.now (sym c.in-Some.ensures)).here)

pub returns-clause-reads : goal.returns-clause-reads
returns-clause-reads c =
    let ps = c.loop-after.parameters.items in
    let rest = c.loop-after.rest.now in
    c.loop-after.invariant.reads (Got ps rest) (parameters_end c.args.parser.extent rest ps (sym c.in_default.ensures))

pub returns-clause-shorter : goal.returns-clause-shorter
returns-clause-shorter c = grind (arith, parameters_rules)

pub returns-in_err-first-clause-reads : goal.returns-in_err-first-clause-reads
returns-in_err-first-clause-reads c = grind (arith, parameters_rules)

pub returns-in_err-parameter-clause-reads : goal.returns-in_err-parameter-clause-reads
returns-in_err-parameter-clause-reads c =
    let x = c.args.parser.extent in
    let ts = c.args.tokens.now in
    let us = c.in-Some.after.now in
    let p = err_from_is_err_and c.from_residual-in_err-parameter.result c.from_residual-in_err-parameter.ensures.1 in
    rw (p.1, p.2) (handed_on (Reads (read.parameters_by x) ts) (Reads (read.parameter_by x) us) c.in_err-parameter.field-0.0 c.in_err-parameter.ensures.reads
    (λ rest h. c.loop-after.invariant.reads (Stuck rest) (parameters_step_fail x c.loop-after.rest.now us rest c.loop-after.parameters.items (sym c.in-Some.ensures) h)))

pub returns-in_err-parameter-clause-shorter : goal.returns-in_err-parameter-clause-shorter
returns-in_err-parameter-clause-shorter c = grind (arith, parameters_rules)

pub returns-in_err-push-2-clause-reads : goal.returns-in_err-push-2-clause-reads
returns-in_err-push-2-clause-reads c = grind (arith, parameters_rules)

pub returns-in_err-push-2-clause-shorter : goal.returns-in_err-push-2-clause-shorter
returns-in_err-push-2-clause-shorter c = grind (arith, parameters_rules)

pub returns-in_err-push-clause-reads : goal.returns-in_err-push-clause-reads
returns-in_err-push-clause-reads c = grind (arith, parameters_rules)
