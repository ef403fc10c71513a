use Rattle.std.proofs.Common.{◌∙◌, sym}
use Rattle.ada_tree.proofs.Unfolding.{gives_of_block}
use Rattle.ada_tree.proofs.program.Subprogram.is_function.Goals as goal

pub returns : goal.returns
returns c types = c.result_in_block.ensures ∙ sym (gives_of_block types c.args.self.now.body)
