use Rattle.std.proofs.Common.{◌&&◌, refl, sym, ap, ◌∙◌}
use Rattle.ada_rules.specs.Types.{type_in, is_scalar}
use Rattle.program_walk.specs.Marks.{marked_of}
use Rattle.specifications.proofs.ResultLaws.{function_parts}
use Rattle.specifications.proofs.results.is_function_profile.Goals as goal

pub returns-then-are_in : goal.returns-then-are_in
returns-then-are_in c k =
    ap (λ b. b && c.is_scalar.result) (sym c.if-are_in.true)
    ∙ function_parts k c.args.parameters.now c.args.marked c.are_in.result c.is_scalar.result c.are_in.ensures (c.is_scalar.ensures k.types)

pub returns-else-are_in : goal.returns-else-are_in
returns-else-are_in c k =
    c.if-are_in.false
    ∙ (ap (λ b. b && is_scalar (type_in (marked_of k c.args.marked).subtype)) (sym c.if-are_in.false)
    ∙ function_parts k c.args.parameters.now c.args.marked c.are_in.result _ c.are_in.ensures refl)
