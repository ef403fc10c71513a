use Rattle.ada_parser.specs.Opening.{open_extent}
use Rattle.program_objects.proofs.Legal.{compilable_law}
use Rattle.program_objects.proofs.compiled.legal_units_are_compilable.Goals as goal

pub returns : goal.returns
returns c = λ files units main p few h.
    compilable_law files units p (c.legal_programs_are_of_their_text.ensures files units main p h) (c.legal_programs_have_few_copies.ensures files units main p h) few
    (c.units_of_files_are_counted.ensures.few open_extent files units h.read)
