use Rattle.placed_code.proofs.Steps.{upper_goes, immediate_goes, shift_goes, register_goes}
use Rattle.placed_code.proofs.instructions.registers_are_written.Goals as goal

pub returns-clause-upper : goal.returns-clause-upper
returns-clause-upper c = upper_goes

pub returns-clause-immediate : goal.returns-clause-immediate
returns-clause-immediate c = immediate_goes

pub returns-clause-shift : goal.returns-clause-shift
returns-clause-shift c = shift_goes

pub returns-clause-register : goal.returns-clause-register
returns-clause-register c = register_goes
