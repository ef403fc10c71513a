use Rattle.std.proofs.Common.{map, refl}
use Rattle.ada_tree.specs.View.{declaration_of}
use Rattle.frame_widths.specs.Ends.{end_of_declaration, end_of_declarations}
use Rattle.frame_widths.proofs.Counted.{none_counted}
use Rattle.frame_widths.proofs.simple.width_of_declarations.Goals as goal

pub loop-declaration-init : goal.loop-declaration-init
loop-declaration-init c =
    none_counted (λ ds. end_of_declarations 0 (map declaration_of ds)) (λ d. end_of_declaration 0 (declaration_of d)) (λ d ds. refl) c.args.declarations.now 1 refl
