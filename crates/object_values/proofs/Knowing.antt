-- A type that a symbol table knows is in each table that begins with it.
use Rattle.std.proofs.Common.{◌≡◌, ◌<◌, nat_lt, true, length, length-append, ap, arith}
use Rattle.std.proofs.lemmas.Bool.{and_parts, ltb-true}
use Rattle.ada_tree.specs.View.{owner_of}
use Rattle.ada_entities.specs.declared.types.AdaType.{AdaType}
use Rattle.ada_entities.specs.declared.types.AdaType.TheVariants as type
use Rattle.ada_entities.specs.Views.{is_known_owner}
use Rattle.ada_entities.specs.EntityViews.{Tables}
use Rattle.ada_entities.specs.TypeTable.{tables}
use Rattle.program_walk.specs.declared.symbols.Symbols.{Symbols}
use Rattle.program_walk.specs.Known.{knows_instance, knows_type}
use Rattle.program_walk.specs.SymbolViews.{Begins, IsKnown}
use Rattle.ada_entities.specs.Trees.{IsThere}

pub known_there : (symbols : Symbols) → IsKnown symbols → (k : Tables) → Begins symbols k → (t : AdaType)
    → knows_type symbols.extent t ≡ true → IsThere k.types t
known_there symbols is k b (type.Scalar t) h = tt
known_there symbols is k b (type.Composite c) h =
    let e = symbols.extent in
    let below : c.number < e.types = ltb-true c.number e.types (and_parts (nat_lt c.number e.types) (is_known_owner (knows_instance e) (owner_of c.seen)) h).0 in
    let long = ap length b.shapes.joined in
    let both = length-append (tables symbols.types).shapes b.shapes.behind in
    omega (arith, below, is.types, long, both)
