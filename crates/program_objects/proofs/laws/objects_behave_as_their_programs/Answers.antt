use Rattle.program_objects.proofs.Images.{image_behaves, image_ends_in_time}
use Rattle.program_objects.proofs.laws.objects_behave_as_their_programs.Goals as goal

pub returns : goal.returns
returns c = record { behaves = image_behaves; in_time = image_ends_in_time }
