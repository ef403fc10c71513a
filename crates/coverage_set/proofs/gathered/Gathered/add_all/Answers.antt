use Rattle.std.proofs.Common.{List, ◌++◌, ap, ◌∙◌}
use Rattle.coverage_set.proofs.Members.{of_append}
use Rattle.coverage_set.proofs.gathered.Gathered.add_all.Goals as goal

pub returns : goal.returns
returns g c =
    of_append c.args.self.now c.args.items.now _
    (c.in_ok-extend_from_slice.ensures.items ∙ ap (λ (xs : List g.row.T.Denot). xs ++ c.args.items.now) c.self.view_is)
