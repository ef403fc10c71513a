use Rattle.object_facts.proofs.Fair.{fair, held}
use Rattle.object_facts.proofs.objects_have_fair_facts.Goals as goal

pub returns : goal.returns
returns c = record { fair = fair; held = held }
