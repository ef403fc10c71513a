use Rattle.ada_parser.specs.Opening.{open_extent}
use Rattle.program_objects.proofs.Legal.{passes_law, behaves_law, in_time_law}
use Rattle.program_objects.proofs.compiled.compiled_objects_pass_and_behave.Goals as goal

pub returns-clause-passes : goal.returns-clause-passes
returns-clause-passes c = λ files units main p o few h compiled.
    passes_law files units main p o h (c.legal_programs_are_of_their_text.ensures files units main p h) (c.legal_programs_have_few_copies.ensures files units main p h) few
    (c.units_of_files_are_counted.ensures.few open_extent files units h.read) compiled

pub returns-clause-behaves : goal.returns-clause-behaves
returns-clause-behaves c = λ files units main p o few h compiled.
    behaves_law files units main p o h (c.legal_programs_are_of_their_text.ensures files units main p h) (c.legal_programs_have_few_copies.ensures files units main p h) few
    (c.units_of_files_are_counted.ensures.few open_extent files units h.read) compiled

pub returns-clause-in_time : goal.returns-clause-in_time
returns-clause-in_time c = λ files units main p o few h compiled.
    in_time_law files units main p o h (c.legal_programs_are_of_their_text.ensures files units main p h) (c.legal_programs_have_few_copies.ensures files units main p h) few
    (c.units_of_files_are_counted.ensures.few open_extent files units h.read) compiled
