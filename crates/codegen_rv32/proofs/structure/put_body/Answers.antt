use Rattle.std.proofs.lemmas.Result.{on_ok_weaker}
use Rattle.kernel_code.specs.Set.{setting_of}
use Rattle.codegen_rv32.proofs.Behind.{body_put}
use Rattle.codegen_rv32.proofs.structure.put_body.Goals as goal

pub returns : goal.returns
returns c =
    on_ok_weaker c.leave_body.result
    (body_put (setting_of c.args.frame.now) c.args.code.now _ _ _ _ _ _ _
    c.in_ok-length.ensures c.in_ok-end.ensures.number c.in_ok-raised.ensures.number c.in_ok-enter_body.ensures c.in_ok-put_code.ensures)
    c.leave_body.ensures
