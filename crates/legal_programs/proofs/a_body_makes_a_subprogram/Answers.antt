use Rattle.std.proofs.Common.{IfOk}
use Rattle.ada_rules.specs.Subprograms.{fresh, specified, body_judged}
use Rattle.legal_laws.proofs.Passing.{both_ok, weaker_ok}
use Rattle.legal_programs.specs.Made.{Makes}
use Rattle.legal_programs.proofs.Adding.{Add}
use Rattle.legal_programs.proofs.Extending.{specified_adds}
use Rattle.legal_programs.proofs.MadeBodies.{IsNumbered, specified_numbered, judged_makes}
use Rattle.legal_programs.proofs.a_body_makes_a_subprogram.Goals as goal

pub returns : goal.returns
returns c = λ env before b region name x step.
    weaker_ok (λ q. IsNumbered (fresh before) q × Add before q) (λ q. IfOk (body_judged env before b region name q).answer (Makes env.generic q.value before))
    (specified env before x).answer
    (both_ok (IsNumbered (fresh before)) (Add before) (specified env before x).answer (specified_numbered env before x) (specified_adds env before x))
    (λ q h. judged_makes env step before b region name q h.0 h.1)
