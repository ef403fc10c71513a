use Rattle.ada_rules.specs.Library.{library_of}
use Rattle.legal_types.proofs.TypePrograms.{types_law}
use Rattle.legal_types.proofs.types_weigh_no_more_than_their_text.Goals as goal

pub returns : goal.returns
returns c = λ standard units main p is.
    types_law (library_of standard units) main p is (c.orders_of_legal_programs_are_whole.ensures standard units main p is)
