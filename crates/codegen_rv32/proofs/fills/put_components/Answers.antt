use Rattle.std.proofs.lemmas.Result.{on_ok_weaker}
use Rattle.kernel_code.proofs.LineParts.{three_parts}
use Rattle.codegen_rv32.proofs.fills.put_components.Goals as goal

pub returns : goal.returns
returns c =
    on_ok_weaker c.go_back.result
    (three_parts _ _ _ _ _ _ _ c.in_ok-keep_return.ensures c.in_ok-call_layouts.ensures)
    c.go_back.ensures
