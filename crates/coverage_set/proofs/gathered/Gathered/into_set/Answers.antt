use Rattle.coverage_set.proofs.gathered.Gathered.into_set.Goals as goal

pub returns : goal.returns
returns g c = rw (← c.self.view_is) c.of.ensures
