use Rattle.std.proofs.Common.{ap, ◌∙◌}
use Rattle.std.specs.Prelude.{unwrap_or}
use Rattle.ada_resolved.specs.Forms.{shape_of}
use Rattle.lower.proofs.Pieces.{component_is, nothing}
use Rattle.lower.proofs.parts.component.Goals as goal

pub returns : goal.returns
returns c =
    let r = c.args.fields in
    let p = r.sizes.now.program.now in
    ap (shape_of p) (c.unwrap_or.ensures ∙ ap (λ o. unwrap_or o nothing) c.component.ensures) ∙ component_is p r.instance r.below r.components.now c.args.place
