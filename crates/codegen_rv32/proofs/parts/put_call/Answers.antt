use Rattle.std.proofs.lemmas.Result.{on_ok_weaker}
use Rattle.kernel_code.specs.Set.{setting_of}
use Rattle.codegen_rv32.proofs.Behind.{call_put}
use Rattle.codegen_rv32.proofs.parts.put_call.Goals as goal

pub returns : goal.returns
returns c =
    on_ok_weaker c.hand_on.result
    (call_put (setting_of c.args.frame.now) c.args.raise_to c.args.place c.args.body _ _ _ _ _ _ _ _ _ _
    c.way_down.ensures.value c.way_up.ensures.value c.in_ok-piece.ensures.number c.in_ok-past.ensures.number c.in_ok-check_depth.ensures
    c.in_ok-move_frame.ensures c.in_ok-call_piece.ensures c.in_ok-move_frame-2.ensures)
    c.hand_on.ensures
