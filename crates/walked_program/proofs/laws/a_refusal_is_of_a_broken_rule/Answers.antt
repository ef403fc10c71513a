use Rattle.program_weights.specs.Wholes.{whole_library}
use Rattle.walked_program.proofs.LimitLaws.{is_broken}
use Rattle.walked_program.proofs.laws.a_refusal_is_of_a_broken_rule.Goals as goal

pub returns : goal.returns
returns c units main fault refused =
    is_broken c.a_refusal_has_a_reason.ensures.names c.a_refusal_has_a_reason.ensures.types (whole_library units) main fault refused
