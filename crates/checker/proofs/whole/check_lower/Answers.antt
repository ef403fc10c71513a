use Rattle.std.proofs.lemmas.Result.{IfOk-weaker}
use Rattle.program_weights.specs.Wholes.{whole_library}
use Rattle.walked_program.proofs.CheckedLaws.{legal_of, refusal_of, is_whole}
use Rattle.checker.proofs.whole.check_lower.Goals as goal

pub returns-clause-legal : goal.returns-clause-legal
returns-clause-legal c =
    let units = c.args.units.now in
    legal_of _ c.verdict.result (c.verdict.ensures.verdict (whole_library units) (is_whole c.in_ok-library.library units c.in_ok-library.ensures))

pub returns-clause-units : goal.returns-clause-units
returns-clause-units c =
    let units = c.args.units.now in
    IfOk-weaker c.verdict.result _ _ (λ p h. h (whole_library units) (is_whole c.in_ok-library.library units c.in_ok-library.ensures))
    c.verdict.ensures.units

pub returns-clause-refused : goal.returns-clause-refused
returns-clause-refused c =
    let units = c.args.units.now in
    refusal_of _ c.verdict.result (c.verdict.ensures.verdict (whole_library units) (is_whole c.in_ok-library.library units c.in_ok-library.ensures))

pub returns-clause-types : goal.returns-clause-types
returns-clause-types c =
    let units = c.args.units.now in
    IfOk-weaker c.verdict.result _ _ (λ p h. h (whole_library units) (is_whole c.in_ok-library.library units c.in_ok-library.ensures))
    c.verdict.ensures.types
