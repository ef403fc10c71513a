use Rattle.assembler.proofs.Stands.{pieces_stand, items_stand, branches_lead, jumps_lead, calls_lead}
use Rattle.assembler.proofs.laws.placed_items_stand.Goals as goal

pub returns-clause-pieces : goal.returns-clause-pieces
returns-clause-pieces c = pieces_stand

pub returns-clause-items : goal.returns-clause-items
returns-clause-items c = items_stand

pub returns-clause-branches : goal.returns-clause-branches
returns-clause-branches c = branches_lead

pub returns-clause-jumps : goal.returns-clause-jumps
returns-clause-jumps c = jumps_lead

pub returns-clause-calls : goal.returns-clause-calls
returns-clause-calls c = calls_lead
