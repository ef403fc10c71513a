-- What the regions so far denote, and those that are left, is the whole.
use Rattle.std.proofs.Common.{◌≡◌, None, drop, option_map}
use Rattle.ada_entities.specs.EntityViews.{Tables, entity_of}
use Rattle.ada_entities.specs.RegionCode.{found_behind}
use Rattle.ada_entities.proofs.regions.Regions.find.Given as goal

abbrev pub invariant-loop-region : goal.invariant-loop-region
invariant-loop-region l =
    (k : Tables) → found_behind k l.name (option_map (entity_of k) l.denoted) (drop l.region-index l.region-items) ≡ found_behind k l.name None l.region-items
