use Rattle.std.proofs.Common.{◌∙◌, refl, arith}
use Rattle.ada_tree.specs.declared.program.Subprogram.{Subprogram}
use Rattle.generic_expand.specs.Copying.{of_subprogram, of_subprograms}
use Rattle.generic_expand.proofs.Growing.{one_numbered, none_numbered}
use Rattle.generic_expand.proofs.expansion.copies_of.Goals as goal

pub loop-index-preserved : goal.loop-index-preserved
loop-index-preserved c =
    let is = c.args.instances.now in
    let s = c.index-subprograms-index.result in
    one_numbered (λ n ss. of_subprograms n ss is) (λ n (x : Subprogram). of_subprogram n x.generic is) (λ n x xs. refl)
    c.args.subprograms.now c.loop-index.index s s _ _ (omega arith) c.index-subprograms-index.is c.in_ok-push_bodies.ensures
    ∙ c.loop-index.invariant

pub returns : goal.returns
returns c =
    none_numbered (λ n ss. of_subprograms n ss c.args.instances.now) (λ n. refl)
    c.args.subprograms.now c.loop-index.index _ _ (omega arith) c.loop-index.invariant
