use Rattle.std.proofs.Common.{List, IsPermutation, subst}
use Rattle.cov_base.specs.declared.event.Vector.{Vector}
use Rattle.annotated_report.proofs.Sorted.{vectors_alike}
use Rattle.annotated_report.proofs.ordered.in_order_once.Goals as goal

pub returns : goal.returns
returns c =
    vectors_alike c.args.vectors.now c.sort_unstable_by.new.self.items c.dedup.new.self.items
    (subst (λ (xs : List Vector). IsPermutation xs c.sort_unstable_by.new.self.items) c.in_ok-ordered.ensures.items c.sort_unstable_by.ensures.permutation)
    c.dedup.ensures.filtered
