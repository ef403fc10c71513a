-- What arrays are built of is the same in tables that are alike.
use Rattle.std.proofs.Common.{◌≡◌, true, Option, Some, None, option_map, refl}
use Rattle.std.proofs.lemmas.Bool.{and_parts}
use Rattle.ada_entities.specs.declared.types.Subtype.{Subtype}
use Rattle.ada_entities.specs.Tables.{parts_of}
use Rattle.ada_entities.specs.EntityViews.{Tables}
use Rattle.ada_entities.proofs.Agreement.{subtype_agrees}
use Rattle.program_walk.specs.declared.extent.Extent.{Extent}
use Rattle.program_walk.specs.Known.{knows_type}
use Rattle.program_walk.specs.Alike.{AreAlike}
use Rattle.program_walk.specs.Composites.{knows_parts}
use Rattle.program_walk.proofs.AlikeLaws.{agreeing}

pub parts_same : {e : Extent} {k l : Tables} → AreAlike e k l → (o : Option (Subtype × Subtype)) → knows_parts e o ≡ true
    → option_map (parts_of k.types) o ≡ option_map (parts_of l.types) o
parts_same a None h = refl
parts_same {e} a (Some p) h =
    let known = and_parts (knows_type e p.0.of) (knows_type e p.1.of) h in
    λ z. Some (subtype_agrees (agreeing a) p.0 known.0 z, subtype_agrees (agreeing a) p.1 known.1 z)
