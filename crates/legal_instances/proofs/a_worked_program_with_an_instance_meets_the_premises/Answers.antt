use Rattle.std.proofs.Common.{arith, refl}
use Rattle.legal_instances.proofs.a_worked_program_with_an_instance_meets_the_premises.Goals as goal

pub returns-clause-is_legal : goal.returns-clause-is_legal
returns-clause-is_legal c = refl

pub returns-clause-units : goal.returns-clause-units
returns-clause-units c = ((refl, (refl, tt)), ((refl, tt), (tt, tt)))

pub returns-clause-statements : goal.returns-clause-statements
returns-clause-statements c = (tt, tt)

pub returns-clause-decisions : goal.returns-clause-decisions
returns-clause-decisions c = tt

pub returns-clause-formed : goal.returns-clause-formed
returns-clause-formed c = record {
  types = ((((refl, refl)), (tt, tt)), tt);
  library = ((((refl, refl), refl), tt), tt);
  bodies = (
    record {
      numbered = refl;
      types = tt;
      profile = tt;
      few = omega (arith);
      given = λ g. tt;
      frame = (tt, ((tt, tt), tt));
    },
    tt,
  );
}
