use Rattle.kernel_ir.proofs.Memories.{with_slot_at, with_slot_other}
use Rattle.kernel_ir.proofs.laws.slots_hold_what_they_were_set_to.Goals as goal

pub returns : goal.returns
returns c = record { set = with_slot_at; others = with_slot_other }
