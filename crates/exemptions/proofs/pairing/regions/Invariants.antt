-- The regions so far, and how the pragmas that are left pair behind what is open.
use Rattle.std.proofs.Common.{◌≡◌, length}
use Rattle.exemptions.specs.Marks.{marks_of}
use Rattle.exemptions.specs.Regions.{regions_of}
use Rattle.exemptions.specs.Open.{paired_behind}
use Rattle.exemptions.proofs.Turns.{with_regions}
use Rattle.exemptions.proofs.pairing.regions.Given as goal

abbrev pub invariant-loop-after : goal.invariant-loop-after
invariant-loop-after l = with_regions l.regions.items (paired_behind l.opened (marks_of l.rest)) ≡ regions_of l.tokens

abbrev pub decreases-loop-after : goal.decreases-loop-after
decreases-loop-after l = length l.rest
