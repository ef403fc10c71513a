use Rattle.std.proofs.Common.{List, ap, ◌∙◌}
use Rattle.generic_expand.specs.declared.copies.BodyCopy.{BodyCopy}
use Rattle.lower.specs.Kernel.{kernel_for}
use Rattle.ada_tree.specs.Programs.{program_of}
use Rattle.program_objects.specs.Kernels.{nodes_of}
use Rattle.program_objects.proofs.Kernels.{image_law, laid_kernel, library_fits}
use Rattle.program_objects.proofs.Placeable as placeable
use Rattle.program_objects.proofs.building.image_of.Goals as goal

pub link-requires-clause-in_reach : goal.link-requires-clause-in_reach
link-requires-clause-in_reach c =
    let p = program_of c.args.program.now in
    let k = c.in_ok-kernel.kernel in
    placeable.in_reach p (nodes_of c.args.program.now) k c.as_slice.result.now c.requires.able (laid_kernel c.args.program.now k c.requires.able c.requires.laid (c.in_ok-kernel.ensures.kernel ∙ ap (λ (cs : List BodyCopy). kernel_for c.args.program.now cs) c.requires.copies) c.in_ok-kernel.ensures.words) (c.as_slice.ensures.value ∙ c.in_ok-pieces.ensures.pieces)

pub link-requires-clause-in_time : goal.link-requires-clause-in_time
link-requires-clause-in_time c =
    let p = program_of c.args.program.now in
    let k = c.in_ok-kernel.kernel in
    placeable.in_time p (nodes_of c.args.program.now) k c.as_slice.result.now c.requires.able (laid_kernel c.args.program.now k c.requires.able c.requires.laid (c.in_ok-kernel.ensures.kernel ∙ ap (λ (cs : List BodyCopy). kernel_for c.args.program.now cs) c.requires.copies) c.in_ok-kernel.ensures.words) (c.as_slice.ensures.value ∙ c.in_ok-pieces.ensures.pieces)

pub link-requires-clause-within : goal.link-requires-clause-within
link-requires-clause-within c =
    let t = c.args.program.now in
    let is = laid_kernel t c.in_ok-kernel.kernel c.requires.able c.requires.laid (c.in_ok-kernel.ensures.kernel ∙ ap (λ (cs : List BodyCopy). kernel_for t cs) c.requires.copies) c.in_ok-kernel.ensures.words in
    library_fits (program_of t) (nodes_of t) c.in_ok-kernel.kernel c.init_words.result.now is c.init_words.ensures

pub returns : goal.returns
returns c =
    let p = program_of c.args.program.now in
    let k = c.in_ok-kernel.kernel in
    image_law p (nodes_of c.args.program.now) k c.as_slice.result.now c.init_words.result.now c.link.result (laid_kernel c.args.program.now k c.requires.able c.requires.laid (c.in_ok-kernel.ensures.kernel ∙ ap (λ (cs : List BodyCopy). kernel_for c.args.program.now cs) c.requires.copies) c.in_ok-kernel.ensures.words) (c.as_slice.ensures.value ∙ c.in_ok-pieces.ensures.pieces)
    c.init_words.ensures c.link.ensures.linked c.link.ensures.fits
