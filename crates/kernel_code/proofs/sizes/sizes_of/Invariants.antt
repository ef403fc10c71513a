use Rattle.std.proofs.Common.{◌≡◌, drop}
use Rattle.kernel_code.specs.Frame.{sizes_after, sizes_of}
use Rattle.kernel_code.proofs.sizes.sizes_of.Given as goal

-- those so far go on to all
abbrev pub invariant-loop-layout : goal.invariant-loop-layout
invariant-loop-layout l = sizes_after l.sizes.items (drop l.layout-index l.layouts) ≡ sizes_of l.layouts
