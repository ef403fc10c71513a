-- Regions that rise: each begins behind the one before it.
use Rattle.std.specs.Prelude.{Bool, true, false, ◌&&◌, not, List, [], ◌∷◌}
use Rattle.cov_base.specs.declared.obligations.Region.{Region}
use Rattle.cov_base.specs.declared.position.Pos.{Pos}
use Rattle.cov_base.specs.TextOrder.{precedes}
use Rattle.exemptions.specs.Regions.{start_of, end_of}

-- whether a region begins neither before another one begins nor before that one ends
abbrev pub is_behind : (one next : Region) → Bool
is_behind one next = not (precedes (start_of next) (start_of one)) && not (precedes (start_of next) (end_of one))

-- whether each region is behind the one before it, the first behind this one
abbrev pub rise_behind : Region → List Region → Bool
rise_behind one [] = true
rise_behind one (next ∷ regions) = is_behind one next && rise_behind next regions

-- whether each region is behind the one before it
abbrev pub rise : List Region → Bool
rise [] = true
rise (region ∷ regions) = rise_behind region regions

-- whether the first region, if there is one, begins before a place
abbrev pub begins_before : Pos → List Region → Bool
begins_before pos [] = false
begins_before pos (region ∷ regions) = precedes (start_of region) pos
