use Rattle.std.proofs.Common.{refl, ap, ◌∙◌}
use Rattle.ada_meaning.specs.Obligations.{obligations_of}
use Rattle.ada_tree.specs.Programs.{program_of}
use Rattle.program_objects.specs.Kernels.{nodes_of}
use Rattle.program_objects.proofs.Kernels.{holds_law}
use Rattle.program_objects.proofs.building.object_of.Goals as goal

pub returns : goal.returns
returns c =
    let p = program_of c.args.program.now in
    let is = c.in_ok-image.ensures in
    record {
      kernel = is.kernel;
      is_kernel = is.is_kernel;
      holds = holds_law p (nodes_of c.args.program.now) c.args.regions _ c.in_ok-image.image c.requires.able is refl refl refl refl refl refl c.in_ok-obligations.ensures;
      sources = c.from.ensures ∙ c.in_ok-files.ensures;
      obligations = c.in_ok-obligations.ensures ∙ ap (obligations_of p) c.requires.regions;
    }
