use Rattle.coverage_set.proofs.Members.{each_once}
use Rattle.coverage_set.proofs.set.SortedSet.as_slice.Goals as goal

pub returns-clause-each_once : goal.returns-clause-each_once
returns-clause-each_once g c = rw (← c.self.view_is) (each_once g.T.Ord.cmp g.met.T.Ord.total c.self.inside.items.items c.self.invariant)
