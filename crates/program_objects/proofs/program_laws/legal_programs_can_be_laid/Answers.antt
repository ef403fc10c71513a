use Rattle.ada_tree.specs.Programs.{program_of}
use Rattle.program_objects.proofs.LaidPrograms.{laid_law}
use Rattle.program_objects.proofs.program_laws.legal_programs_can_be_laid.Goals as goal

pub returns : goal.returns
returns c = λ files units main t h types named.
    let p = program_of t in
    laid_law files units main t h (c.legal_programs_have_few_copies.ensures files units main p h) (c.legal_programs_have_sizes.ensures files units main p h) named
    (c.legal_programs_are_light.ensures files units main t h types)
