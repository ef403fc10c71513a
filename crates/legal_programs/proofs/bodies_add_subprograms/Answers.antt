use Rattle.legal_programs.proofs.Extending.{body_items_add}
use Rattle.legal_programs.proofs.bodies_add_subprograms.Goals as goal

pub returns : goal.returns
returns c = λ name env s p is. body_items_add name env s p is
