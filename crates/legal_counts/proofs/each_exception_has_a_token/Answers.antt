use Rattle.ada_rules.specs.Library.{library_of}
use Rattle.legal_counts.proofs.ExceptionNodes.{exceptions_few}
use Rattle.legal_counts.proofs.each_exception_has_a_token.Goals as goal

pub returns : goal.returns
returns c = λ standard units main p is.
    exceptions_few (library_of standard units) main p is (c.orders_of_legal_programs_are_whole.ensures standard units main p is)
