use Rattle.unit_walk.proofs.StandingLaws.{in_unit, in_text}
use Rattle.unit_walk.proofs.laws.units_are_entered.Goals as goal

pub returns-clause-unit : goal.returns-clause-unit
returns-clause-unit c step x instances n name context old new seen h e = in_unit step x instances n name context old new seen h e

pub returns-clause-text : goal.returns-clause-text
returns-clause-text c step x instances n name context d g own old new seen text h p e =
    in_text step x instances n name context d g own old new seen text h p e
