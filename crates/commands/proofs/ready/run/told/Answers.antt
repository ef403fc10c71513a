use Rattle.std.proofs.Common.{refl}
use Rattle.commands.proofs.ready.run.told.Goals as goal

pub returns-clause-file : goal.returns-clause-file
returns-clause-file c = λ run records ends. (c.in_ok-trace.ensures.written run records ends, c.in_ok-trace.ensures.reads_back run records ends)

pub returns-clause-text : goal.returns-clause-text
returns-clause-text c = rw (c.in_ok-text.ensures, c.as_slice.ensures.value, c.as_slice-exceptions.ensures) refl
