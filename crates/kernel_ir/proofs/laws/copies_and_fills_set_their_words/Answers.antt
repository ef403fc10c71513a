use Rattle.kernel_ir.proofs.Memories.{copied_at, copied_other, filled_at, filled_other}
use Rattle.kernel_ir.proofs.laws.copies_and_fills_set_their_words.Goals as goal

pub returns : goal.returns
returns c = record { copied = copied_at; not_copied = copied_other; filled = filled_at; not_filled = filled_other }
