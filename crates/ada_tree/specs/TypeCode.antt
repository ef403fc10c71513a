-- A code for static expressions, ranges and types: what the checker asks of plain data that stands for a value of the program. It says
-- nothing of them.
use Rattle.std.specs.Prelude.{◌≡◌, ℕ, refl}
use Rattle.std.proofs.Common.{ap, arith}
use Rattle.std.specs.Coded.{Coded, coded_ℕ, coded_ℤ, codes}
use base.Stored.{Gv, gnil, gnum, gcons}
use Rattle.cov_base.specs.declared.position.Pos.{Pos}
use Rattle.ada_meaning.specs.Types.{Sign, unary_plus, unary_minus, absolute_value, Operator, addition, subtraction, multiplication, division, modulus, remainder, Relation, equal, unequal, less, at_most, greater, at_least, Owner, here, of_instance, Static, static_number, static_formal, static_constant, static_first, static_last, static_length, static_sign, static_operation, static_of, Range, between, formal_range, range_of, Subtype, scalar, array, fields, subtype_of, Components, no_component, and_component}

-- the number of a tree's form, and its parts
abbrev pub head : Gv → Gv
head gnil = gnil
head (gnum n) = gnil
head (gcons a b) = a

abbrev pub tail : Gv → Gv
tail gnil = gnil
tail (gnum n) = gnil
tail (gcons a b) = b

abbrev pub number : Gv → ℕ
number gnil = 0
number (gnum n) = n
number (gcons a b) = 0

abbrev pub form : Gv → ℕ
form g = number (head g)

abbrev pub part0 : Gv → Gv
part0 g = head (tail g)

abbrev pub part1 : Gv → Gv
part1 g = head (tail (tail g))

abbrev pub part2 : Gv → Gv
part2 g = head (tail (tail (tail g)))

abbrev pub part3 : Gv → Gv
part3 g = head (tail (tail (tail (tail g))))

abbrev pub part4 : Gv → Gv
part4 g = head (tail (tail (tail (tail (tail g)))))

pub coded_pos : Coded Pos
coded_pos = hlevel codes

abbrev mutual
  pub code_sign : Sign → Gv
  code_sign unary_plus = gcons (gnum 0) gnil
  code_sign unary_minus = gcons (gnum 1) gnil
  code_sign absolute_value = gcons (gnum 2) gnil

-- trees with one ghost value are one
mutual
  pub inj_sign : (x y : Sign) → code_sign x ≡ code_sign y → x ≡ y
  inj_sign unary_plus unary_plus e = refl
  inj_sign unary_minus unary_minus e = refl
  inj_sign absolute_value absolute_value e = refl
  inj_sign x y e = absurd (omega (arith, ap form e))

abbrev pub coded_sign : Coded Sign
coded_sign = record { code = code_sign; inj = inj_sign }

abbrev mutual
  pub code_operator : Operator → Gv
  code_operator addition = gcons (gnum 0) gnil
  code_operator subtraction = gcons (gnum 1) gnil
  code_operator multiplication = gcons (gnum 2) gnil
  code_operator division = gcons (gnum 3) gnil
  code_operator modulus = gcons (gnum 4) gnil
  code_operator remainder = gcons (gnum 5) gnil

-- trees with one ghost value are one
mutual
  pub inj_operator : (x y : Operator) → code_operator x ≡ code_operator y → x ≡ y
  inj_operator addition addition e = refl
  inj_operator subtraction subtraction e = refl
  inj_operator multiplication multiplication e = refl
  inj_operator division division e = refl
  inj_operator modulus modulus e = refl
  inj_operator remainder remainder e = refl
  inj_operator x y e = absurd (omega (arith, ap form e))

abbrev pub coded_operator : Coded Operator
coded_operator = record { code = code_operator; inj = inj_operator }

abbrev mutual
  pub code_relation : Relation → Gv
  code_relation equal = gcons (gnum 0) gnil
  code_relation unequal = gcons (gnum 1) gnil
  code_relation less = gcons (gnum 2) gnil
  code_relation at_most = gcons (gnum 3) gnil
  code_relation greater = gcons (gnum 4) gnil
  code_relation at_least = gcons (gnum 5) gnil

-- trees with one ghost value are one
mutual
  pub inj_relation : (x y : Relation) → code_relation x ≡ code_relation y → x ≡ y
  inj_relation equal equal e = refl
  inj_relation unequal unequal e = refl
  inj_relation less less e = refl
  inj_relation at_most at_most e = refl
  inj_relation greater greater e = refl
  inj_relation at_least at_least e = refl
  inj_relation x y e = absurd (omega (arith, ap form e))

abbrev pub coded_relation : Coded Relation
coded_relation = record { code = code_relation; inj = inj_relation }

abbrev mutual
  pub code_owner : Owner → Gv
  code_owner here = gcons (gnum 0) gnil
  code_owner (of_instance x0) = gcons (gnum 1) (gcons (coded_ℕ.code x0) gnil)

-- trees with one ghost value are one
mutual
  pub inj_owner : (x y : Owner) → code_owner x ≡ code_owner y → x ≡ y
  inj_owner here here e = refl
  inj_owner (of_instance x0) (of_instance y0) e = λ i. of_instance (coded_ℕ.inj x0 y0 (ap part0 e) i)
  inj_owner x y e = absurd (omega (arith, ap form e))

abbrev pub coded_owner : Coded Owner
coded_owner = record { code = code_owner; inj = inj_owner }

-- the ghost value of a tree: the number of its form, and its parts
abbrev mutual
  pub code_static : Static → Gv
  code_static (static_number x0) = gcons (gnum 0) (gcons (coded_ℤ.code x0) gnil)
  code_static (static_formal x0) = gcons (gnum 1) (gcons (coded_ℕ.code x0) gnil)
  code_static (static_first x0) = gcons (gnum 2) (gcons (code_range x0) gnil)
  code_static (static_last x0) = gcons (gnum 3) (gcons (code_range x0) gnil)
  code_static (static_length x0) = gcons (gnum 4) (gcons (code_range x0) gnil)
  code_static (static_sign x0 x1) = gcons (gnum 5) (gcons (coded_sign.code x0) (gcons (code_static x1) gnil))
  code_static (static_operation x0 x1 x2) = gcons (gnum 6) (gcons (coded_operator.code x0) (gcons (code_static x1) (gcons (code_static x2) gnil)))
  code_static (static_constant x0) = gcons (gnum 8) (gcons (coded_ℕ.code x0) gnil)
  code_static (static_of x0 x1) = gcons (gnum 7) (gcons (coded_ℕ.code x0) (gcons (code_static x1) gnil))

  pub code_range : Range → Gv
  code_range (between x0 x1) = gcons (gnum 0) (gcons (code_static x0) (gcons (code_static x1) gnil))
  code_range (formal_range x0) = gcons (gnum 1) (gcons (coded_ℕ.code x0) gnil)
  code_range (range_of x0 x1) = gcons (gnum 2) (gcons (coded_ℕ.code x0) (gcons (code_range x1) gnil))

-- trees with one ghost value are one
mutual
  pub inj_static : (x y : Static) → code_static x ≡ code_static y → x ≡ y
  inj_static (static_number x0) (static_number y0) e = λ i. static_number (coded_ℤ.inj x0 y0 (ap part0 e) i)
  inj_static (static_formal x0) (static_formal y0) e = λ i. static_formal (coded_ℕ.inj x0 y0 (ap part0 e) i)
  inj_static (static_first x0) (static_first y0) e = λ i. static_first (inj_range x0 y0 (ap part0 e) i)
  inj_static (static_last x0) (static_last y0) e = λ i. static_last (inj_range x0 y0 (ap part0 e) i)
  inj_static (static_length x0) (static_length y0) e = λ i. static_length (inj_range x0 y0 (ap part0 e) i)
  inj_static (static_sign x0 x1) (static_sign y0 y1) e = λ i. static_sign (coded_sign.inj x0 y0 (ap part0 e) i) (inj_static x1 y1 (ap part1 e) i)
  inj_static (static_operation x0 x1 x2) (static_operation y0 y1 y2) e = λ i. static_operation (coded_operator.inj x0 y0 (ap part0 e) i) (inj_static x1 y1 (ap part1 e) i) (inj_static x2 y2 (ap part2 e) i)
  inj_static (static_constant x0) (static_constant y0) e = λ i. static_constant (coded_ℕ.inj x0 y0 (ap part0 e) i)
  inj_static (static_of x0 x1) (static_of y0 y1) e = λ i. static_of (coded_ℕ.inj x0 y0 (ap part0 e) i) (inj_static x1 y1 (ap part1 e) i)
  inj_static x y e = absurd (omega (arith, ap form e))

  pub inj_range : (x y : Range) → code_range x ≡ code_range y → x ≡ y
  inj_range (between x0 x1) (between y0 y1) e = λ i. between (inj_static x0 y0 (ap part0 e) i) (inj_static x1 y1 (ap part1 e) i)
  inj_range (formal_range x0) (formal_range y0) e = λ i. formal_range (coded_ℕ.inj x0 y0 (ap part0 e) i)
  inj_range (range_of x0 x1) (range_of y0 y1) e = λ i. range_of (coded_ℕ.inj x0 y0 (ap part0 e) i) (inj_range x1 y1 (ap part1 e) i)
  inj_range x y e = absurd (omega (arith, ap form e))

abbrev pub coded_static : Coded Static
coded_static = record { code = code_static; inj = inj_static }

abbrev pub coded_range : Coded Range
coded_range = record { code = code_range; inj = inj_range }

abbrev mutual
  pub code_subtype : Subtype → Gv
  code_subtype (scalar x0) = gcons (gnum 0) (gcons (coded_range.code x0) gnil)
  code_subtype (array x0 x1) = gcons (gnum 1) (gcons (coded_range.code x0) (gcons (code_subtype x1) gnil))
  code_subtype (fields x0) = gcons (gnum 2) (gcons (code_components x0) gnil)
  code_subtype (subtype_of x0 x1) = gcons (gnum 3) (gcons (coded_ℕ.code x0) (gcons (code_subtype x1) gnil))

  pub code_components : Components → Gv
  code_components no_component = gcons (gnum 0) gnil
  code_components (and_component x0 x1) = gcons (gnum 1) (gcons (code_subtype x0) (gcons (code_components x1) gnil))

-- trees with one ghost value are one
mutual
  pub inj_subtype : (x y : Subtype) → code_subtype x ≡ code_subtype y → x ≡ y
  inj_subtype (scalar x0) (scalar y0) e = λ i. scalar (coded_range.inj x0 y0 (ap part0 e) i)
  inj_subtype (array x0 x1) (array y0 y1) e = λ i. array (coded_range.inj x0 y0 (ap part0 e) i) (inj_subtype x1 y1 (ap part1 e) i)
  inj_subtype (fields x0) (fields y0) e = λ i. fields (inj_components x0 y0 (ap part0 e) i)
  inj_subtype (subtype_of x0 x1) (subtype_of y0 y1) e = λ i. subtype_of (coded_ℕ.inj x0 y0 (ap part0 e) i) (inj_subtype x1 y1 (ap part1 e) i)
  inj_subtype x y e = absurd (omega (arith, ap form e))

  pub inj_components : (x y : Components) → code_components x ≡ code_components y → x ≡ y
  inj_components no_component no_component e = refl
  inj_components (and_component x0 x1) (and_component y0 y1) e = λ i. and_component (inj_subtype x0 y0 (ap part0 e) i) (inj_components x1 y1 (ap part1 e) i)
  inj_components x y e = absurd (omega (arith, ap form e))

abbrev pub coded_subtype : Coded Subtype
coded_subtype = record { code = code_subtype; inj = inj_subtype }

abbrev pub coded_components : Coded Components
coded_components = record { code = code_components; inj = inj_components }
