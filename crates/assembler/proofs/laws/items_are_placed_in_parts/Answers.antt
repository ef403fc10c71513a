use Rattle.assembler.proofs.Codes.{items_in_parts, reach_in_parts, parts_reach}
use Rattle.assembler.proofs.laws.items_are_placed_in_parts.Goals as goal

pub returns-clause-code : goal.returns-clause-code
returns-clause-code c = items_in_parts

pub returns-clause-parts : goal.returns-clause-parts
returns-clause-parts c = reach_in_parts

pub returns-clause-whole : goal.returns-clause-whole
returns-clause-whole c = parts_reach
