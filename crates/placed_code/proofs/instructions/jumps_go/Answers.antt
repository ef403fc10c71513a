use Rattle.placed_code.proofs.Steps.{jump_goes, register_jump_goes}
use Rattle.placed_code.proofs.instructions.jumps_go.Goals as goal

pub returns-clause-jump : goal.returns-clause-jump
returns-clause-jump c = jump_goes

pub returns-clause-register_jump : goal.returns-clause-register_jump
returns-clause-register_jump c = register_jump_goes
