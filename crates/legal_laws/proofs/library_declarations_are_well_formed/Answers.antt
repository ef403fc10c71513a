use Rattle.legal_laws.proofs.Laws.{library_declaration_law}
use Rattle.legal_laws.proofs.library_declarations_are_well_formed.Goals as goal

pub returns : goal.returns
returns c = λ p facts all inst shape_of types seen env s d st library written. library_declaration_law p facts all inst shape_of types seen env s d st library written
