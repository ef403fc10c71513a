use Rattle.ada_rules.specs.Entities.{whole_standard}
use Rattle.ada_parser.specs.Opening.{open_extent}
use Rattle.ada_tree.specs.Programs.{program_of}
use Rattle.program_weights.specs.Wholes.{whole_library}
use Rattle.legal_programs.proofs.Passed.{is_legal}
use Rattle.legal_programs.proofs.DecidedPrograms.{whole_is_whole}
use Rattle.parsed_texts.proofs.Choices.{texts_have_choices}
use Rattle.parsed_texts.proofs.Nodes.{counted_units}
use Rattle.parsed_texts.proofs.Texts.{texts_of}
use Rattle.program_objects.proofs.Weighed.{nodes_law}
use Rattle.program_objects.proofs.program_laws.legal_programs_are_light.Goals as goal

pub returns : goal.returns
returns c = λ files units main t h types.
    let p = program_of t in
    let is = is_legal (whole_library units) main p h.program.legal in
    nodes_law files units main t h (c.instances_are_those_that_units_are.ensures whole_standard units main p is) (counted_units open_extent files units h.read)
    (c.parts_of_each_generic_have_tokens.ensures.entries whole_standard units main p is whole_is_whole (texts_have_choices units (texts_of open_extent files units h.read))) types
