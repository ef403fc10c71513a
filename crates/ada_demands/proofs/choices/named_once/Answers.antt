use Rattle.std.proofs.Common.{◌+◌, ◌∙◌, sym, ap, map, drop, arith, rules, to_z, w64, SFits, to_z-of_z}
use Rattle.std.proofs.lemmas.List.{at_drop_all}
use Rattle.ada_tree.specs.Programs.{bounds_of}
use Rattle.ada_rules.specs.Statics.{named_once}
use Rattle.ada_demands.specs.DemandViews.{is_present}
use Rattle.ada_demands.proofs.ChoiceLaws.{next_fails, next_passes}
use Rattle.ada_demands.proofs.choices.named_once.Goals as goal

pub returns-then-not-is_next : goal.returns-then-not-is_next
returns-then-not-is_next c instances =
    sym (next_fails instances (is_present c.args.others) (to_z w64 c.loop-range.next-bits) c.args.values.last c.args.named.now c.loop-range.range-index _ (omega arith)
    (sym c.is_next.ensures ∙ c.if-not-is_next.true))
    ∙ c.loop-range.invariant instances

pub loop-range-preserved : goal.loop-range-preserved
loop-range-preserved c instances =
    let others = is_present c.args.others in
    let named = c.args.named.now in
    let i = c.loop-range.range-index in
    let fits : SFits w64 c.after-next.result = search rules in
    ap (λ z. named_once instances others z c.args.values.last (map bounds_of (drop (i + 1) named))) (to_z-of_z fits ∙ c.after-next.ensures)
    ∙ (sym (next_passes instances others (to_z w64 c.loop-range.next-bits) c.args.values.last named i _ (omega arith) (sym c.is_next.ensures ∙ c.if-not-is_next.false))
    ∙ c.loop-range.invariant instances)

pub returns : goal.returns
returns c instances =
    c.is_complete.ensures
    ∙ (sym (at_drop_all (λ us. named_once instances (is_present c.args.others) (to_z w64 c.loop-range.next-bits) c.args.values.last (map bounds_of us)) c.args.named.now c.loop-range.range-index (omega arith))
    ∙ c.loop-range.invariant instances)
