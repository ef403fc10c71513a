use Rattle.std.proofs.Common.{◌≡◌, List, [], length, sym, ◌∙◌, subst, arith}
use Rattle.std.proofs.lemmas.Bool.Decides.{nat_tests}
use Rattle.ada_syntax.specs.declared.unit.Unit.{Unit as LibraryUnit}
use Rattle.ada_parser.specs.UnitReading as read
use Rattle.expression_parser.specs.Reading.{Got}
use Rattle.expression_parser.specs.Shows.{More}
use Rattle.ada_parser.proofs.UnitCode.{file_step, file_end_at, file_rules}
use Rattle.ada_parser.proofs.units.file.Goals as goal

pub rest-preserved : goal.rest-preserved
rest-preserved c =
    let x = c.args.parser.extent in
    record {
      reads = λ q f.
          c.rest.invariant.reads q
          (file_step x c.rest.rest.now c.in_ok-unit.next.now c.rest.units.items c.in_ok-unit.unit (sym c.opens.ensures ∙ c.if-not-opens.false) c.in_ok-unit.ensures.reads c.in_ok-unit.ensures.shorter q
          (subst (λ (z : List LibraryUnit). More (read.units_turn x) c.in_ok-unit.next.now z q) c.in_ok-push-2.ensures.items f));
      shorter = omega (arith, c.rest.invariant.shorter, c.in_ok-unit.ensures.shorter);
    }

pub returns : goal.returns
returns c =
    let e : length c.rest.rest.now ≡ 0 = grind (arith, nat_tests, c.rest-test.ensures) in
    c.rest.invariant.reads (Got c.rest.units.items []) (file_end_at c.args.parser.extent c.rest.rest.now c.rest.units.items e)

pub rest-init : goal.rest-init
rest-init c = grind (arith, file_rules)

pub returns-then-not-opens : goal.returns-then-not-opens
returns-then-not-opens c = grind (arith, file_rules)

pub returns-in_err-unit : goal.returns-in_err-unit
returns-in_err-unit c = grind (arith, file_rules)

pub rest-smaller : goal.rest-smaller
rest-smaller c = omega (arith, c.in_ok-unit.ensures.shorter)
