-- What is left of the names, hidden in what the region is now, is all of them in what it was.
use Rattle.std.proofs.Common.{◌≡◌, drop}
use Rattle.cov_base.specs.declared.position.Pos.{Pos}
use Rattle.ada_rules.specs.Environment.{hide_all}
use Rattle.ada_entities.specs.EntityViews.{Tables, region_of}
use Rattle.ada_entities.specs.RegionCode.{innermost}
use Rattle.program_walk.specs.Changes.{IsOpen, ChangesInside, Continues}
use Rattle.program_walk.proofs.symbols.Symbols.hide_all.Given as goal

abbrev pub invariant-loop-name : goal.invariant-loop-name
invariant-loop-name l = record {
  rest : (k : Tables) (p : Pos)
      → (hide_all p (region_of k (innermost l.self.regions)) (drop l.name-index l.names)).answer
      ≡ (hide_all p (region_of k (innermost l.fn.self.regions)) l.names).answer;
  inside : IsOpen l.fn.self → ChangesInside l.fn.self l.self;
  continues : Continues l.fn.self l.self;
}
