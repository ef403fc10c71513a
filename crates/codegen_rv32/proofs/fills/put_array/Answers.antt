use Rattle.std.proofs.lemmas.Result.{on_ok_weaker}
use Rattle.kernel_code.proofs.LineParts.{three_parts, four_parts}
use Rattle.codegen_rv32.proofs.fills.put_array.Goals as goal

pub returns : goal.returns
returns c =
    on_ok_weaker c.go_back.result
    (λ h. four_parts _ _ _ _ _ _ _ _ _ c.in_ok-keep_return.ensures c.in_ok-set_counter.ensures c.in_ok-count_down.ensures
    (three_parts _ _ _ _ _ _ _ c.in_ok-call_layout.ensures c.in_ok-jump.ensures h))
    c.go_back.ensures
