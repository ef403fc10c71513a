-- What the rules know of a type has bounds.
use Rattle.std.proofs.Common.{ℕ}
use Rattle.ada_meaning.specs.Program.{Program}
use Rattle.ada_meaning.specs.Statics.{static_bounds, values_of}
use Rattle.ada_meaning.specs.Types.{Range}
use Rattle.ada_rules.specs.Types.{AdaType, integer_type, enumeration, formal_type, array_type, record_type, AdaSubtype, of_type, Fields, no_field, and_field, subtype_in_tree, type_in_tree, fields_in_tree}
use Rattle.legal_laws.specs.Bounded.{IsBounded, AreBounded}
use Rattle.legal_laws.specs.Known.{IsKnownType, IsKnownSubtype, AreKnownFields}
use Rattle.legal_laws.specs.Valued.{AreOrdered}

module _ (p : Program) (inst : ℕ) (declared : AdaType → Type 0) where
  mutual
    pub known_bounded : (t : AdaSubtype) → IsKnownSubtype p inst declared t → IsBounded p inst (subtype_in_tree t)
    known_bounded (of_type t r) h = type_bounded t r h.0 h.1

    type_bounded : (t : AdaType) (r : Range) → AreOrdered (static_bounds (values_of p) inst r) → IsKnownType p inst declared t → IsBounded p inst (type_in_tree t r)
    type_bounded (integer_type i) r h k = h
    type_bounded (enumeration i n) r h k = h
    type_bounded (formal_type i n b) r h k = h
    type_bounded (array_type i (of_type x q) c) r h k = (k.1.0.0, known_bounded c k.1.1.1.1)
    type_bounded (record_type i fs) r h k = fields_bounded fs k.1.1

    fields_bounded : (fs : Fields) → AreKnownFields p inst declared fs → AreBounded p inst (fields_in_tree fs)
    fields_bounded no_field h = tt
    fields_bounded (and_field name t fs) h = (known_bounded t h.0, fields_bounded fs h.1)
