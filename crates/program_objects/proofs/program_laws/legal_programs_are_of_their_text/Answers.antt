use Rattle.program_weights.specs.Wholes.{whole_library}
use Rattle.legal_programs.proofs.Passed.{is_legal}
use Rattle.program_objects.proofs.Texts.{text_law}
use Rattle.program_objects.proofs.program_laws.legal_programs_are_of_their_text.Goals as goal

pub returns : goal.returns
returns c = λ files units main p h.
    let is = is_legal (whole_library units) main p h.program.legal in
    text_law files units main p h (c.obligations_stand_in_the_text.ensures (whole_library units) main p is)
    (c.obligations_are_numbered.ensures.labels (whole_library units) main p is)
