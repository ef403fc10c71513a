use Rattle.kernel_code.proofs.emitter.Emitter.simple.Goals as goal

pub returns-in-RaiseSlot : goal.returns-in-RaiseSlot
returns-in-RaiseSlot c = rw c.in-RaiseSlot.is c.raise_slot.ensures
