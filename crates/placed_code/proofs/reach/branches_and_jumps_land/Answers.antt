use Rattle.placed_code.proofs.ReachLaws.{branches_land, jumps_land}
use Rattle.placed_code.proofs.reach.branches_and_jumps_land.Goals as goal

pub returns-clause-branches : goal.returns-clause-branches
returns-clause-branches c = branches_land

pub returns-clause-jumps : goal.returns-clause-jumps
returns-clause-jumps c = jumps_land
