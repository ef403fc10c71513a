-- Elements of arrays.
use Rattle.std.proofs.Common.{◌≡◌, refl}
use Rattle.ada_entities.specs.ada_rules.specs.Denoted.{Judged, element_of}
use Rattle.ada_entities.specs.ada_rules.specs.Entities.{Variable}
use Rattle.ada_entities.specs.ada_rules.specs.Types.{AdaType, integer_type, enumeration, formal_type, array_type, record_type}
use Rattle.ada_entities.specs.Tables.{array_parts}
use Rattle.ada_judged.specs.PartViews.{element_by}

-- the rule looks at no more of a type than the parts of an array
pub element_is : (v : Variable) (t : AdaType) (e : Judged) → element_by v e (array_parts t) ≡ element_of v t e
element_is v (integer_type i) e = refl
element_is v (enumeration i n) e = refl
element_is v (formal_type i k b) e = refl
element_is v (array_type i x c) e = refl
element_is v (record_type i fs) e = refl
