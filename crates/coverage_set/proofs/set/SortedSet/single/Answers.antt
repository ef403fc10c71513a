use Rattle.std.proofs.Common.{arith}
use Rattle.std.proofs.lemmas.Grind.{common_steps}
use Rattle.std.proofs.Common.{List, [], ◌∷◌, ◌++◌, ap, ◌∙◌}
use Rattle.std.specs.List.Sorted.{IsStrictlySortedBy}
use Rattle.coverage_set.proofs.set.SortedSet.single.Goals as goal

pub invariant_of-result : goal.invariant_of-result
unfolding IsStrictlySortedBy
invariant_of-result g c =
    rw (c.in_ok-push.ensures.items ∙ ap (λ (xs : List g.row.T.Denot). xs ++ c.args.item ∷ []) c.new-items.ensures.items) (tt, tt)

pub returns : goal.returns
returns g = grind (arith, common_steps)
