-- What was made, and what is left behind it, is all of it behind what there was.
use Rattle.std.proofs.Common.{◌≡◌, ◌++◌, drop}
use Rattle.ada_rules.specs.Types.{AdaSubtype, subtype_in_tree}
use Rattle.ada_rules.specs.Declarations.{bare_declarations}
use Rattle.ada_entities.specs.EntityViews.{Tables}
use Rattle.program_walk.specs.States.{subtype_there}
use Rattle.declarations.specs.Locals.{made_of}
use Rattle.declarations.proofs.locals.make_bare.Given as goal

abbrev pub invariant-loop : goal.invariant-loop
invariant-loop l =
    (k : Tables) (t : AdaSubtype) → subtype_there k l.fn.tree ≡ subtype_in_tree t
    → made_of k l.made.items ++ bare_declarations t l.number (drop l.index l.fn.names)
    ≡ made_of k l.fn.made.items ++ bare_declarations t l.fn.first l.fn.names
