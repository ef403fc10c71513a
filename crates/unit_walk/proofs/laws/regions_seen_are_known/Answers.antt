use Rattle.unit_walk.proofs.SeenLaws.{seen_known, seen_in_body_known}
use Rattle.unit_walk.proofs.laws.regions_seen_are_known.Goals as goal

pub returns-clause-seen : goal.returns-clause-seen
returns-clause-seen c x all l symbols u own region h known same seen = seen_known x all l symbols u own region h known same seen

pub returns-clause-in_body : goal.returns-clause-in_body
returns-clause-in_body c x all l symbols n u region h known seen = seen_in_body_known x all l symbols n u region h known seen
