use Rattle.std.proofs.Common.{arith}
use Rattle.frame_widths.proofs.Behind.{block_behind}
use Rattle.frame_widths.proofs.block.end_of_block.Goals as goal

pub returns : goal.returns
returns c = omega (arith, block_behind c.args.slot c.args.slot 0 c.args.block.now (omega arith), c.width_of_block.ensures, c.saturating_add.ensures)
