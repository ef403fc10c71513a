use Rattle.std.proofs.Common.{◌≡◌, ◌+◌, ◌++◌, map, drop}
use Rattle.kernel_code.specs.SimpleCode.{call_piece}
use Rattle.codegen_rv32.proofs.fills.call_layouts.Given as goal

-- the calls so far and those to come are all
abbrev pub invariant-loop-component : goal.invariant-loop-component
invariant-loop-component l =
    l.emitter ++ map (λ component. call_piece (l.first + component)) (drop l.component-index l.components)
    ≡ l.fn.emitter ++ map (λ component. call_piece (l.fn.first + component)) l.fn.components
