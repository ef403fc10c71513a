use Rattle.ada_parser.proofs.Parts.{part_fails}
use Rattle.expression_parser.specs.Reading.{Got, Stuck}
use Rattle.std.proofs.lemmas.Result.{err_from_is_err_and}
use Rattle.std.proofs.Common.{◌≡◌, true, List, subst, rules, false, arith}
use Rattle.ada_syntax.specs.declared.unit.BodyItem.{BodyItem}
use Rattle.expression_parser.specs.Shows.{More, next_is, Reads}
use Rattle.ada_parser.specs.UnitReading as read
use Rattle.ada_parser.proofs.ItemCode.{body_turns, body_items_step, body_items_rules, body_items_step_fail, body_items_end}
use Rattle.ada_parser.proofs.items.body_items.Goals as goal

pub rest-init : goal.rest-init
rest-init c = grind (arith, body_items_rules)

pub rest-preserved : goal.rest-preserved
rest-preserved c =
    let x = c.args.parser.extent in
    let b : next_is read.begins_item c.rest.rest.now ≡ true = search rules in
    record {
      reads = λ q f.
          c.rest.invariant.reads q
          (body_items_step x c.rest.rest.now c.in_ok-item.next.now c.rest.items.items c.in_ok-item.item b c.in_ok-item.ensures.reads c.in_ok-item.ensures.shorter q
          (subst (λ (z : List BodyItem). More (body_turns x) c.in_ok-item.next.now z q) c.in_ok-push.ensures.items f));
      shorter = omega (arith, c.rest.invariant.shorter, c.in_ok-item.ensures.shorter);
    }

pub returns-clause-reads : goal.returns-clause-reads
returns-clause-reads c =
    let us = c.rest.rest.now in
    let b : next_is read.begins_item us ≡ false = search rules in
    c.rest.invariant.reads (Got c.rest.items.items us) (body_items_end c.args.parser.extent us c.rest.items.items b)

pub returns-in_err-item-clause-reads : goal.returns-in_err-item-clause-reads
returns-in_err-item-clause-reads c =
    let x = c.args.parser.extent in
    let us = c.rest.rest.now in
    let b : next_is read.begins_item us ≡ true = search rules in
    let p = err_from_is_err_and c.from_residual.result c.from_residual.ensures.1 in
    rw (p.1, p.2) (part_fails (Reads (read.body_item_by x) us) (Reads (read.body_items_by x) c.args.tokens.now) c.in_err-item.field-0.0 c.in_err-item.ensures.reads (λ rest h. c.rest.invariant.reads (Stuck rest) (body_items_step_fail x us rest c.rest.items.items b h)))

pub rest-smaller : goal.rest-smaller
rest-smaller c = omega (arith, c.in_ok-item.ensures.shorter)
