use Rattle.legal_instances.proofs.WholeOrder.{legal_order}
use Rattle.legal_instances.proofs.orders_of_legal_programs_are_whole.Goals as goal

pub returns : goal.returns
returns c = λ standard units main p is. legal_order standard units main p is
