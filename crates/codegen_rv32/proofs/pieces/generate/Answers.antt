use Rattle.std.proofs.lemmas.Result.{IfOk-weaker}
use Rattle.codegen_rv32.proofs.Sizes.{bytes_few}
use Rattle.codegen_rv32.proofs.pieces.generate.Goals as goal

pub returns-clause-bytes : goal.returns-clause-bytes
returns-clause-bytes c = IfOk-weaker c.pieces_of.result _ _ (λ pieces are. bytes_few c.args.kernel.now pieces.items are) c.pieces_of.ensures
