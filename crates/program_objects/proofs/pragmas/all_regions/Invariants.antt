-- The regions so far, and how the pragmas of the files that are left pair.
use Rattle.std.proofs.Common.{◌≡◌, drop}
use Rattle.program_objects.specs.Exemptions.{with_regions, regions_of_lists}
use Rattle.program_objects.proofs.pragmas.all_regions.Given as goal

abbrev pub invariant-loop-tokens : goal.invariant-loop-tokens
invariant-loop-tokens l = with_regions l.all.items (regions_of_lists (drop l.tokens-index l.lists)) ≡ regions_of_lists l.lists
