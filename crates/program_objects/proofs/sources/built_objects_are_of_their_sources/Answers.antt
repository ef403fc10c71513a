use Rattle.std.proofs.Common.{length}
use Rattle.std.specs.Str.{str_to_ascii_lowercase}
use Rattle.ada_parser.specs.Opening.{open_extent}
use Rattle.program_objects.proofs.Core.{written_law, closed_law}
use Rattle.program_objects.proofs.sources.built_objects_are_of_their_sources.Goals as goal

pub returns-clause-written : goal.returns-clause-written
returns-clause-written c = λ files main p nodes o can legal built.
    let lower = str_to_ascii_lowercase main in
    written_law files main p nodes o can legal (c.legal_programs_are_of_their_text.ensures (length files) legal.units lower p legal.program)
    (c.legal_programs_have_few_copies.ensures (length files) legal.units lower p legal.program)
    (c.units_of_files_are_counted.ensures.few open_extent (length files) legal.units legal.program.read) built

pub returns-clause-object : goal.returns-clause-object
returns-clause-object c = λ files main p nodes o can legal small built is.
    let lower = str_to_ascii_lowercase main in
    closed_law files main p nodes o can legal (c.legal_programs_are_of_their_text.ensures (length files) legal.units lower p legal.program)
    (c.legal_programs_have_few_copies.ensures (length files) legal.units lower p legal.program)
    (c.units_of_files_are_counted.ensures.few open_extent (length files) legal.units legal.program.read) small built is
