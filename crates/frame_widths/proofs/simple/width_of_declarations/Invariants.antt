use Rattle.std.proofs.Common.{map}
use Rattle.ada_tree.specs.View.{declaration_of}
use Rattle.frame_widths.specs.Ends.{end_of_declarations}
use Rattle.frame_widths.proofs.Counted.{Counted}
use Rattle.frame_widths.proofs.simple.width_of_declarations.Given as goal

abbrev pub invariant-loop-declaration : goal.invariant-loop-declaration
invariant-loop-declaration l =
    Counted (λ ds. end_of_declarations 0 (map declaration_of ds)) l.fn.declarations l.declaration-index l.count
