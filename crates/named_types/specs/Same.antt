-- Whether two subtypes of the typed program are one.
use Rattle.std.specs.Prelude.{nat_eq, Bool, true, false, ◌&&◌, List, [], ◌∷◌}
use Rattle.std.specs.Ordering.{int_eq}
use Rattle.ada_tree.specs.declared.types.Owner.{Owner}
use Rattle.ada_tree.specs.declared.types.Owner.TheVariants as owner
use Rattle.ada_tree.specs.declared.types.Range.{Range}
use Rattle.ada_tree.specs.declared.types.ScalarRange.{ScalarRange}
use Rattle.ada_tree.specs.declared.types.ScalarRange.TheVariants as range
use Rattle.ada_tree.specs.declared.types.StaticValue.{StaticValue}
use Rattle.ada_tree.specs.declared.types.StaticValue.TheVariants as value
use Rattle.ada_tree.specs.declared.types.Subtype.{Subtype}
use Rattle.ada_tree.specs.declared.types.Subtype.TheVariants as subtype
use Rattle.ada_tree.specs.declared.program.Parameter.{Parameter}

abbrev pub same_owner : Owner → Owner → Bool
same_owner owner.Here owner.Here = true
same_owner (owner.Instance i) (owner.Instance j) = nat_eq i j
same_owner a b = false

abbrev pub same_value : StaticValue → StaticValue → Bool
same_value (value.Number x) (value.Number y) = int_eq x y
same_value (value.Formal k) (value.Formal l) = nat_eq k l
same_value (value.Constant k) (value.Constant l) = nat_eq k l
same_value a b = false

abbrev pub same_bounds : Range → Range → Bool
same_bounds r s = int_eq r.first s.first && int_eq r.last s.last

abbrev pub same_range : ScalarRange → ScalarRange → Bool
same_range (range.Known r) (range.Known s) = same_bounds r s
same_range (range.Between o a b) (range.Between q c d) = same_owner o q && same_value a c && same_value b d
same_range (range.Formal o k) (range.Formal q l) = same_owner o q && nat_eq k l
same_range r s = false

abbrev pub same_subtype : Subtype → Subtype → Bool
same_subtype (subtype.Scalar r) (subtype.Scalar s) = same_range r s
same_subtype (subtype.Composite o n) (subtype.Composite q m) = same_owner o q && nat_eq n m
same_subtype t u = false

-- objects begin with those of parameters
abbrev pub begin_with : List Parameter → List Subtype → Bool
begin_with [] ts = true
begin_with (q ∷ qs) [] = false
begin_with (q ∷ qs) (t ∷ ts) = same_subtype q.subtype t && begin_with qs ts
