-- Types that are seen through an instance, as the typed program has them.
use Rattle.std.proofs.Common.{◌≡◌, ℕ, List, Option, Some, None, slice_get, refl, ap}
use Rattle.ada_rules.specs.ada_meaning.specs.Types as meaning
use Rattle.ada_rules.specs.ada_meaning.specs.Types.{Range}
use Rattle.ada_rules.specs.ada_meaning.specs.Seen as seen
use Rattle.ada_rules.specs.ada_meaning.specs.Seen.{range_seen}
use Rattle.ada_rules.specs.Types.{AdaType, integer_type, enumeration, formal_type, array_type, record_type, AdaSubtype, of_type, Fields, no_field, and_field, range_in, subtype_in_tree, type_in_tree, fields_in_tree}
use Rattle.ada_rules.specs.Entities.{Actual, object_actual, type_actual, routine_actual, given_type, subtype_seen, type_seen, fields_seen}

-- what an instance has for a formal type is scalar
given_in_tree : (a : Option Actual) (r : Range) → type_in_tree (given_type a) r ≡ meaning.scalar r
given_in_tree None r = refl
given_in_tree (Some (object_actual e)) r = refl
given_in_tree (Some (type_actual (of_type (integer_type i) q))) r = refl
given_in_tree (Some (type_actual (of_type (enumeration i n) q))) r = refl
given_in_tree (Some (type_actual (of_type (formal_type i k b) q))) r = refl
given_in_tree (Some (type_actual (of_type (array_type i x c) q))) r = refl
given_in_tree (Some (type_actual (of_type (record_type i fs) q))) r = refl
given_in_tree (Some (routine_actual s)) r = refl

module _ (inst : ℕ) (actuals : List Actual) where
  range_in_seen : (x : AdaSubtype) → range_in (subtype_seen inst actuals x) ≡ range_seen inst (range_in x)
  range_in_seen (of_type t r) = refl

  mutual
    pub subtype_in_tree_seen : (t : AdaSubtype) → subtype_in_tree (subtype_seen inst actuals t) ≡ seen.subtype_seen inst (subtype_in_tree t)
    subtype_in_tree_seen (of_type t r) = type_in_tree_seen t r

    pub type_in_tree_seen : (t : AdaType) (r : Range)
        → type_in_tree (type_seen inst actuals t) (range_seen inst r) ≡ seen.subtype_seen inst (type_in_tree t r)
    type_in_tree_seen (integer_type i) r = refl
    type_in_tree_seen (enumeration i n) r = refl
    type_in_tree_seen (formal_type i k b) r = given_in_tree (slice_get actuals k) (range_seen inst r)
    type_in_tree_seen (array_type i x c) r = λ z. meaning.array (range_in_seen x z) (subtype_in_tree_seen c z)
    type_in_tree_seen (record_type i fs) r = ap meaning.fields (fields_in_tree_seen fs)

    pub fields_in_tree_seen : (fs : Fields) → fields_in_tree (fields_seen inst actuals fs) ≡ seen.components_seen inst (fields_in_tree fs)
    fields_in_tree_seen no_field = refl
    fields_in_tree_seen (and_field name t fs) = λ z. meaning.and_component (subtype_in_tree_seen t z) (fields_in_tree_seen fs z)
