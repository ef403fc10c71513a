use Rattle.rv_machine.proofs.Start.{started_registers, started}
use Rattle.rv_machine.proofs.machine.Machine.of_image.Goals as goal

pub returns-clause-state : goal.returns-clause-state
returns-clause-state c =
    started
    (record { text = c.args.text.now; exceptions = c.args.exceptions })
    c.args.entry
    c.args.init_at
    c.args.init.now
    _
    _
    started_registers
    c.in_ok-memory.ensures
