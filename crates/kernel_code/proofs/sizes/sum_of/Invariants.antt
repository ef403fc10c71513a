use Rattle.std.proofs.Common.{◌≡◌, ◌+◌, drop}
use Rattle.kernel_code.specs.Frame.{sum_of}
use Rattle.kernel_code.proofs.sizes.sum_of.Given as goal

-- the sum so far and that of what is to come is the whole
abbrev pub invariant-loop-layout : goal.invariant-loop-layout
invariant-loop-layout l = l.sum + sum_of l.sizes (drop l.layout-index l.layouts) ≡ sum_of l.sizes l.layouts
