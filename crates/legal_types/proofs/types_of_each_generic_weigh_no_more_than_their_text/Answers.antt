use Rattle.ada_rules.specs.Library.{library_of}
use Rattle.legal_types.proofs.TypePrograms.{types_law_in}
use Rattle.legal_types.proofs.types_of_each_generic_weigh_no_more_than_their_text.Goals as goal

pub returns : goal.returns
returns c = λ standard units main p is g.
    types_law_in (library_of standard units) main p is (c.orders_of_legal_programs_are_whole.ensures standard units main p is) g
