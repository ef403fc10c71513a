use Rattle.legal_programs.proofs.NamedBodies.{named_apart}
use Rattle.legal_programs.proofs.bodies_of_packages_are_named_apart.Goals as goal

pub returns : goal.returns
returns c = λ name env s p is. named_apart name env s p is
