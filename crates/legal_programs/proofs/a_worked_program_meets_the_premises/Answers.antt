use Rattle.std.proofs.Common.{arith, refl}
use Rattle.legal_programs.proofs.a_worked_program_meets_the_premises.Goals as goal

pub returns-clause-is_legal : goal.returns-clause-is_legal
returns-clause-is_legal c = refl

pub returns-clause-in_text : goal.returns-clause-in_text
returns-clause-in_text c = record { statements = (tt, tt); decisions = tt }

pub returns-clause-formed : goal.returns-clause-formed
returns-clause-formed c = record {
  resolved = tt;
  library = tt;
  bodies = (
    record {
      numbered = refl;
      types = tt;
      profile = tt;
      few = omega (arith);
      given = λ g. tt;
      frame = (tt, ((tt, tt), tt));
    },
    tt,
  );
}
