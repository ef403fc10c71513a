use Rattle.legal_counts.proofs.WordsOfInstances.{bare_words_counted, library_words_counted, few_library_words, library_has_size}
use Rattle.legal_counts.proofs.WordsOfLibrary.{few_unit_words}
use Rattle.legal_counts.proofs.library_words_are_within_limits.Goals as goal

pub returns-clause-units : goal.returns-clause-units
returns-clause-units c = λ l main p is. few_unit_words l main p is

pub returns-clause-bare : goal.returns-clause-bare
returns-clause-bare c = bare_words_counted

pub returns-clause-counted : goal.returns-clause-counted
returns-clause-counted c = λ standard units main p is rise.
    library_words_counted standard units main p is rise (c.orders_of_legal_programs_are_whole.ensures standard units main p is)

pub returns-clause-few : goal.returns-clause-few
returns-clause-few c = λ standard units main p is rise.
    few_library_words standard units main p is rise (c.orders_of_legal_programs_are_whole.ensures standard units main p is)

pub returns-clause-sized : goal.returns-clause-sized
returns-clause-sized c = λ standard units main p is rise bounded.
    library_has_size standard units main p is rise (c.orders_of_legal_programs_are_whole.ensures standard units main p is)
    (c.instances_have_their_facts.ensures.facts standard units main p is rise).0 bounded
