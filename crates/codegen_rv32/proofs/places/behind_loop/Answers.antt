use Rattle.std.proofs.Common.{arith}
use Rattle.std.proofs.lemmas.Result.{IfOk-weaker}
use Rattle.codegen_rv32.proofs.places.behind_loop.Goals as goal

pub returns : goal.returns
returns c =
    let end = c.in_ok-end.ensures _ c.code_length.ensures in
    IfOk-weaker c.number_behind.result _ _ (λ past is. omega (arith, end, is)) c.number_behind.ensures.number
