use Rattle.std.proofs.Common.{ap, ◌∙◌}
use Rattle.ada_meaning.specs.Tree as tree
use Rattle.ada_entities.specs.ada_rules.specs.Denoted.{part_of}
use Rattle.ada_tree.specs.View.{parts_of, with_selector}
use Rattle.ada_entities.specs.Views.{subtype_of}
use Rattle.ada_judged.specs.JudgedView.{is_indexed, variable_of}
use Rattle.ada_judged.proofs.Chains.{parts_push, other_parts}
use Rattle.ada_judged.proofs.judged.Variable.part.Goals as goal

pub returns : goal.returns
returns c k =
    let selectors = ap parts_of c.in_ok-push.ensures.items ∙ parts_push c.args.self.parts.items c.args.selector in
    other_parts
    (part_of (variable_of k c.args.self) (subtype_of k.types c.args.subtype) (is_indexed c.args.indexing) (with_selector c.args.selector tree.whole))
    _ _ _ _ selectors c.joined.ensures
