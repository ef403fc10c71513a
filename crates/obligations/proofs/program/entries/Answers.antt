use Rattle.std.proofs.Common.{arith, ap, ◌∙◌, refl}
use Rattle.ada_tree.specs.declared.program.Subprogram.{Subprogram}
use Rattle.obligations.specs.Entries.{joined, of_block, of_subprograms}
use Rattle.obligations.proofs.Lists.{one_more, none_left, nothing_joined}
use Rattle.obligations.proofs.program.entries.Goals as goal

pub loop-subprogram-init : goal.loop-subprogram-init
loop-subprogram-init c =
    let all = of_subprograms c.args.subprograms.now in
    ap (λ a. joined a all) c.new-listing.ensures ∙ nothing_joined all

pub loop-subprogram-preserved : goal.loop-subprogram-preserved
loop-subprogram-preserved c =
    let s = c.subprogram-item.result in
    one_more of_subprograms (λ (x : Subprogram). of_block x.body) (λ x xs. refl)
    c.args.subprograms.now c.loop-subprogram.subprogram-index s s _ _ c.loop-subprogram-test.true c.subprogram-item.is c.in_ok-add_block.ensures
    ∙ c.loop-subprogram.invariant

pub returns : goal.returns
returns c =
    none_left of_subprograms refl
    c.args.subprograms.now c.loop-subprogram.subprogram-index _ _ (omega (arith, c.loop-subprogram-test.false)) c.loop-subprogram.invariant
