use Rattle.ada_tree.specs.Programs.{types_of}
use Rattle.lower.proofs.Made.{body_made}
use Rattle.lower.proofs.kernels.lower_subprogram.Goals as goal

pub returns : goal.returns
returns c =
    let parts = c.args.parts in
    let p = parts.sizes.now.program.now in
    body_made p parts.library.now parts.bodies.now parts.layouts.now c.args.instance c.args.subprogram.now c.as_slice-parameters.result.now c.as_slice-objects.result.now
    c.in_ok-frame.frame.objects c.as_slice.result.now c.in_ok-frame.frame.base c.end_of_block-width.result c.is_function-gives.result c.new-code.result c.put_body.new.code
    c.as_slice-parameters.ensures c.as_slice-objects.ensures c.in_ok-frame.ensures.objects c.as_slice.ensures c.in_ok-frame.ensures.base c.end_of_block-width.ensures
    (c.is_function-gives.ensures (types_of p.types)) c.new-code.ensures c.in_ok-put_body.ensures
