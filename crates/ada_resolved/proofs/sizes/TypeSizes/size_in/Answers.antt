use Rattle.std.proofs.Common.{ap, ◌∙◌}
use Rattle.ada_tree.specs.Programs.{types_of}
use Rattle.ada_resolved.specs.Table.{subtype_size}
use Rattle.ada_resolved.proofs.Rows.{subtype_is}
use Rattle.ada_resolved.proofs.sizes.TypeSizes.size_in.Goals as goal

pub returns : goal.returns
returns c =
    let p = c.args.self.now.program.now in
    c.subtype_size.ensures ∙ ap (λ rows. subtype_size p rows c.args.instance c.args.subtype) (c.as_slice.ensures.value ∙ c.args.self.now.exact)
    ∙ subtype_is p (types_of p.types) c.args.instance c.args.subtype
