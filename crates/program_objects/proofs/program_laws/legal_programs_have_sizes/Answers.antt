use Rattle.std.proofs.Common.{sym, subst}
use Rattle.ada_rules.specs.Entities.{whole_standard}
use Rattle.ada_rules.specs.Limits.{words_in}
use Rattle.program_weights.specs.Wholes.{whole_library}
use Rattle.legal_programs.proofs.Passed.{is_legal}
use Rattle.lower.specs.Standing.{IsSized}
use Rattle.program_objects.proofs.LaidPrograms.{sizes_law}
use Rattle.program_objects.proofs.program_laws.legal_programs_have_sizes.Goals as goal

pub returns : goal.returns
returns c = λ files units main p h.
    let is = is_legal (whole_library units) main p h.program.legal in
    sizes_law files units main p h (record {
      well = λ rise statements decisions texts.
          c.legal_programs_are_well_formed.ensures.formed units main p h.program.legal rise statements decisions texts;
      bounded = λ rise texts. c.legal_programs_are_well_formed.ensures.bounded units main p h.program.legal rise texts;
      sized = λ rise m inst s at stands bounded.
          (λ t. words_in is.walked.world.instances inst t, c.words_are_within_limits.ensures.sized whole_standard units main p is rise m inst s at stands bounded);
      declared = λ rise m inst s at stands bounded.
          c.words_are_within_limits.ensures.declared whole_standard units main p is rise m inst s at stands bounded;
      library = λ rise texts.
          subst IsSized (sym (c.library_words_are_within_limits.ensures.sized whole_standard units main p is rise
          (c.legal_programs_are_well_formed.ensures.library units main p h.program.legal rise texts))) tt;
    })
