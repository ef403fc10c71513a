use Rattle.placed_code.proofs.Steps.{load_goes, store_goes}
use Rattle.placed_code.proofs.instructions.memory_is_read_and_written.Goals as goal

pub returns-clause-load : goal.returns-clause-load
returns-clause-load c = load_goes

pub returns-clause-store : goal.returns-clause-store
returns-clause-store c = store_goes
