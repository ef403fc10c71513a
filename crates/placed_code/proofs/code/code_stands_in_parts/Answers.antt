use Rattle.placed_code.proofs.CodeLaws.{in_parts, parts_stand, each_stands}
use Rattle.placed_code.proofs.code.code_stands_in_parts.Goals as goal

pub returns-clause-parts : goal.returns-clause-parts
returns-clause-parts c = in_parts

pub returns-clause-whole : goal.returns-clause-whole
returns-clause-whole c = parts_stand

pub returns-clause-each : goal.returns-clause-each
returns-clause-each c = each_stands
