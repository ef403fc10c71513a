use Rattle.std.proofs.Common.{List, [], ◌∷◌, ◌++◌, inl, ap, subst, ◌∙◌}
use Rattle.cov_base.specs.Lists.{Somewhere}
use Rattle.coverage_set.proofs.Members.{of_push, of_same}
use Rattle.coverage_set.proofs.gathered.Gathered.add.Goals as goal

pub returns-then-has_at : goal.returns-then-has_at
returns-then-has_at g c = of_same c.args.self.now c.args.item (c.has_at.ensures c.if-has_at.true)

pub returns : goal.returns
returns g c = of_push c.args.self.now c.make_room.new.self _ c.args.item (c.in_ok-push.ensures.items ∙ ap (λ (xs : List g.row.T.Denot). xs ++ c.args.item ∷ []) c.self-2.view_is) c.make_room.ensures
