use Rattle.ada_rules.specs.Entities.{whole_standard}
use Rattle.ada_rules.specs.Library.{library_of}
use Rattle.legal_programs.proofs.DecidedPrograms.{well_formed, whole_is_whole}
use Rattle.legal_programs.proofs.Passed.{is_legal}
use Rattle.legal_programs.proofs.legal_programs_are_well_formed_but_for_instances.Goals as goal

pub returns : goal.returns
returns c = λ units main p h order formed.
    well_formed (library_of whole_standard units) main p (is_legal (library_of whole_standard units) main p h) whole_is_whole order formed
