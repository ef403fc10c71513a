use Rattle.ada_meaning.proofs.FuelExecution.{events_begin_law, output_begins_law}
use Rattle.ada_meaning.proofs.a_cut_execution_is_a_beginning.Goals as goal

pub returns : goal.returns
returns c = record { events = events_begin_law; output = output_begins_law }
