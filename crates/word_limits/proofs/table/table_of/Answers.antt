use Rattle.std.proofs.Common.{◌+◌, ◌∷◌, drop, sym, subst, arith}
use Rattle.std.proofs.lemmas.List.{at_drop_more, at_drop_all}
use Rattle.word_limits.specs.Rows.{AreRows}
use Rattle.word_limits.proofs.RowLaws.{SoFar, one_more, all_seen}
use Rattle.word_limits.proofs.table.table_of.Goals as goal

pub loop-declaration-preserved : goal.loop-declaration-preserved
loop-declaration-preserved c =
    let is = c.args.instances.now in
    let all = c.args.types.now in
    let i = c.loop-declaration.declaration-index in
    let d = c.declaration-item.result in
    let rows = c.loop-declaration.rows.items in
    one_more is all (drop (i + 1) all) d rows c.push.new.self.items c.in_ok-row.row
    (subst (λ e. SoFar is all (e ∷ drop (i + 1) all) rows) (sym c.declaration-item.is)
    (subst (λ left. SoFar is all left rows) (at_drop_more (λ left. left) all i d (omega arith)) c.loop-declaration.invariant))
    (λ ts are. c.in_ok-row.ensures ts (subst (AreRows is ts) (sym c.as_slice.ensures.value) are))
    c.in_ok-push.ensures.items

pub returns : goal.returns
returns c =
    let is = c.args.instances.now in
    let all = c.args.types.now in
    all_seen is all c.loop-declaration.rows.items
    (subst (λ left. SoFar is all left c.loop-declaration.rows.items) (at_drop_all (λ left. left) all c.loop-declaration.declaration-index (omega arith))
    c.loop-declaration.invariant)
