use Rattle.std.proofs.Common.{sym, ◌∙◌}
use Rattle.object_values.proofs.Knowing.{known_there}
use Rattle.declarations.proofs.trees.tree_subtype.Goals as goal

pub returns : goal.returns
returns c known k b =
    c.subtype_in_tree.ensures.is k.types
    (known_there c.args.symbols.now known k b c.args.subtype.of (sym c.knows.ensures ∙ c.if-not-knows.false))
