-- Where it is told that a value is not of its object's type, a turn of the walk inwards at a time.
use Rattle.std.proofs.Common.{◌≡◌, List, [], ◌∷◌, Option, Some, None, refl, ap, ◌∙◌, ℕ, ◌+◌, ◌<◌, length, drop, get_or}
use Rattle.std.proofs.lemmas.List.{drop_more}
use Rattle.cov_base.specs.declared.position.Pos.{Pos}
use Rattle.ada_rules.specs.Types.{integer_type, enumeration, formal_type, array_type, record_type, AdaSubtype, of_type, type_in}
use Rattle.ada_rules.specs.Denoted.{nowhere}
use Rattle.ada_rules.specs.Declarations.{value_place}
use Rattle.ada_entities.specs.Tables.{array_parts}

pub at_end : (p : Pos) (t : AdaSubtype) → value_place p t [] ≡ p
at_end p (of_type (integer_type i) r) = refl
at_end p (of_type (enumeration i n) r) = refl
at_end p (of_type (formal_type i k b) r) = refl
at_end p (of_type (array_type i x c) r) = refl
at_end p (of_type (record_type i fs) r) = refl

in_array : (p : Pos) (t : AdaSubtype) (q : Pos) (qs : List Pos) (x c : AdaSubtype) → array_parts (type_in t) ≡ Some (x, c)
    → value_place p t (q ∷ qs) ≡ value_place q c qs
in_array p (of_type (integer_type i) r) q qs x c h = absurd cc
in_array p (of_type (enumeration i n) r) q qs x c h = absurd cc
in_array p (of_type (formal_type i k b) r) q qs x c h = absurd cc
in_array p (of_type (array_type i y d) r) q qs x c h = ap (λ o. inner o) h where
  inner : Option (AdaSubtype × AdaSubtype) → Pos
  inner None = q
  inner (Some z) = value_place q z.1 qs
in_array p (of_type (record_type i fs) r) q qs x c h = absurd cc

in_other : (p : Pos) (t : AdaSubtype) (q : Pos) (qs : List Pos) → array_parts (type_in t) ≡ None → value_place p t (q ∷ qs) ≡ p
in_other p (of_type (integer_type i) r) q qs h = refl
in_other p (of_type (enumeration i n) r) q qs h = refl
in_other p (of_type (formal_type i k b) r) q qs h = refl
in_other p (of_type (array_type i y d) r) q qs h = absurd cc
in_other p (of_type (record_type i fs) r) q qs h = refl

pub turn_in : (p : Pos) (t : AdaSubtype) (others : List Pos) (i : ℕ) (d : Pos) (x c : AdaSubtype) → i < length others
    → array_parts (type_in t) ≡ Some (x, c) → value_place p t (drop i others) ≡ value_place (get_or others i d) c (drop (i + 1) others)
turn_in p t others i d x c h parts =
    ap (value_place p t) (drop_more others i d h) ∙ in_array p t (get_or others i d) (drop (i + 1) others) x c parts

pub stops_in : (p : Pos) (t : AdaSubtype) (others : List Pos) (i : ℕ) → i < length others → array_parts (type_in t) ≡ None
    → value_place p t (drop i others) ≡ p
stops_in p t others i h parts =
    ap (value_place p t) (drop_more others i nowhere h) ∙ in_other p t (get_or others i nowhere) (drop (i + 1) others) parts
