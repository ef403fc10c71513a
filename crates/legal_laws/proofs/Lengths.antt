-- An array type that keeps to the limit of words has a length that a number can say.
use Rattle.std.proofs.Common.{◌≡◌, ◌≤◌, ◌*◌, ℕ, zero, suc, ℤ, pos, int_le, true, List, Option, Some, None, if◌then◌else◌, sym, subst, arith, mul-pos}
use Rattle.std.specs.Option.{option_and_then}
use Rattle.std.proofs.lemmas.Int.{ints}
use Rattle.ada_meaning.specs.Arithmetic.{base_range, is_within, count_between}
use Rattle.ada_meaning.specs.Program.{Bounds, Program}
use Rattle.ada_meaning.specs.Statics.{in_base, static_value, static_bounds, values_of}
use Rattle.ada_meaning.specs.Types.{Range, static_length, array}
use Rattle.ada_meaning.specs.WellFormed.{IsInBase, HasNumber}
use Rattle.ada_rules.specs.Limits.{length_of, words_in, words_in_fields, most_words_of_type}
use Rattle.ada_rules.specs.Statics.{Facts, bounds_in}
use Rattle.ada_rules.specs.Types.{AdaType, integer_type, enumeration, formal_type, array_type, record_type, AdaSubtype, of_type, Fields, no_field, and_field, range_in, subtype_in_tree, type_in_tree, fields_in_tree}
use Rattle.legal_laws.specs.Known.{HasField, IsOrdered, IsKnownType, IsKnownSubtype, AreKnownFields}
use Rattle.legal_laws.specs.Valued.{AreOrdered, HaveFacts}
use Rattle.legal_laws.proofs.Values.{range_alike}

some_values : (low high : ℤ) → int_le low high ≡ true → 1 ≤ count_between low high
some_values low high is = grind (arith, ints, is)

small_in_base : (n : ℕ) → n ≤ most_words_of_type → is_within base_range (pos n) ≡ true
small_in_base n h = grind (arith, ints, h)

number_there : (x : ℤ) → IsInBase x → HasNumber (in_base x)
number_there x is = subst (λ b. HasNumber (if b then Some x else None)) (sym is) is

first_factor : (n k limit : ℕ) → 1 ≤ k → n * k ≤ limit → n ≤ limit
first_factor n zero limit some few = absurd (omega (arith, some))
first_factor n (suc k) limit some few = grind (arith, few)

some_length : (o : Option Bounds) → AreOrdered o → 1 ≤ length_of o
some_length None h = absurd h
some_length (Some b) h = some_values b.low b.high h.1

bounded_length : (o : Option Bounds) (words : ℕ) → AreOrdered o → 1 ≤ words → length_of o * words ≤ most_words_of_type
    → HasNumber (option_and_then (λ b. in_base (pos (count_between b.low b.high))) o)
bounded_length None words h some few = absurd h
bounded_length (Some b) words h some few =
    number_there (pos (count_between b.low b.high))
    (small_in_base (count_between b.low b.high) (first_factor (count_between b.low b.high) words most_words_of_type some few))

module _ (p : Program) (facts : List Facts) (has : HaveFacts p.instances facts) (inst : ℕ) (declared : AdaType → Type 0) where
  ordered_facts : (r : Range) → IsOrdered p inst declared r → AreOrdered (bounds_in facts inst r)
  ordered_facts r h = subst AreOrdered (range_alike p facts has inst r) h

  index_words : (x : AdaSubtype) → IsKnownSubtype p inst declared x → 1 ≤ length_of (bounds_in facts inst (range_in x))
  index_words (of_type t r) h = some_length (bounds_in facts inst r) (ordered_facts r h.0)

  mutual
    some_words : (t : AdaSubtype) → IsKnownSubtype p inst declared t → 1 ≤ words_in facts inst (subtype_in_tree t)
    some_words (of_type t r) h = type_words t r h.1

    type_words : (t : AdaType) (r : Range) → IsKnownType p inst declared t → 1 ≤ words_in facts inst (type_in_tree t r)
    type_words (integer_type i) r h = omega (arith)
    type_words (enumeration i n) r h = omega (arith)
    type_words (formal_type i k b) r h = omega (arith)
    type_words (array_type i x c) r h = mul-pos (index_words x h.1.0) (some_words c h.1.1.1.1)
    type_words (record_type i fs) r h = some_field fs h.1.0 h.1.1

    some_field : (fs : Fields) → HasField fs → AreKnownFields p inst declared fs → 1 ≤ words_in_fields facts inst (fields_in_tree fs)
    some_field no_field some h = absurd some
    some_field (and_field name t fs) some h =
        let first = some_words t h.0 in omega (arith, first)

  pub length_there : (x c : AdaSubtype) → IsKnownSubtype p inst declared x → IsKnownSubtype p inst declared c
      → words_in facts inst (array (range_in x) (subtype_in_tree c)) ≤ most_words_of_type
      → HasNumber (static_value (values_of p) inst (static_length (range_in x)))
  length_there (of_type t r) c h k few =
      bounded_length (static_bounds (values_of p) inst r) (words_in facts inst (subtype_in_tree c)) h.0 (some_words c k)
      (subst (λ o. length_of o * words_in facts inst (subtype_in_tree c) ≤ most_words_of_type) (sym (range_alike p facts has inst r)) few)
