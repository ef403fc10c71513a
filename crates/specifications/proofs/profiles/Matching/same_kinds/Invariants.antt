-- What is left of the parameters has the kinds if all have.
use Rattle.std.proofs.Common.{◌≡◌, drop}
use Rattle.ada_tree.specs.View.{owner_of}
use Rattle.ada_entities.specs.EntityViews.{Tables}
use Rattle.program_walk.specs.SymbolViews.{Begins, IsKnown}
use Rattle.specifications.proofs.MatchLaws.{are_kinds}
use Rattle.specifications.proofs.profiles.Matching.same_kinds.Given as goal

abbrev pub invariant-loop-place : goal.invariant-loop-place
invariant-loop-place l =
    IsKnown l.fn.self.symbols.now → (k : Tables) → Begins l.fn.self.symbols.now k
    → are_kinds l.fn.self k (owner_of l.fn.formal_seen) (owner_of l.fn.actual_seen) (drop l.place l.fn.formal) (drop l.place l.fn.actual)
    ≡ are_kinds l.fn.self k (owner_of l.fn.formal_seen) (owner_of l.fn.actual_seen) l.fn.formal l.fn.actual
