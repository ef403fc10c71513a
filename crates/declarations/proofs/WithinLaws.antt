-- How far in `(others => ..)` goes, of the rules' definitions.
use Rattle.std.proofs.Common.{◌≡◌, ℕ, zero, suc, ◌+◌, ◌<◌, List, [], ◌∷◌, length, drop, get_or, Option, Some, None, option_map, refl, sym, ap, ◌∙◌, arith}
use Rattle.std.proofs.lemmas.List.{drop_more}
use Rattle.cov_base.specs.declared.position.Pos.{Pos}
use Rattle.ada_meaning.specs.Program as program
use Rattle.ada_tree.specs.Programs.{in_others}
use Rattle.ada_rules.specs.Types.{integer_type, enumeration, formal_type, array_type, record_type, AdaSubtype, of_type, type_in}
use Rattle.ada_rules.specs.Denoted.{nowhere}
use Rattle.ada_rules.specs.Expressions.{Valued}
use Rattle.ada_rules.specs.Declarations.{innermost, initial_for}
use Rattle.ada_entities.specs.Tables.{array_parts}
use Rattle.declarations.specs.Within.{fitting_value}

abbrev parts_or : {A : Type 0} → A → (AdaSubtype × AdaSubtype → A) → Option (AdaSubtype × AdaSubtype) → A
parts_or x f None = x
parts_or x f (Some q) = f q

-- where nothing is left
pub innermost_end : (t : AdaSubtype) → innermost t [] ≡ t
innermost_end (of_type (integer_type i) r) = refl
innermost_end (of_type (enumeration i n) r) = refl
innermost_end (of_type (formal_type i k b) r) = refl
innermost_end (of_type (array_type i x c) r) = refl
innermost_end (of_type (record_type i fs) r) = refl

pub initial_end : (t : AdaSubtype) (e : Valued) → initial_for t [] e ≡ fitting_value t e
initial_end (of_type (integer_type i) r) e = refl
initial_end (of_type (enumeration i n) r) e = refl
initial_end (of_type (formal_type i k b) r) e = refl
initial_end (of_type (array_type i x c) r) e = refl
initial_end (of_type (record_type i fs) r) e = refl

-- inside an array, and where there is none
innermost_array : (t : AdaSubtype) (p : Pos) (ps : List Pos) (x c : AdaSubtype) → array_parts (type_in t) ≡ Some (x, c)
    → innermost t (p ∷ ps) ≡ innermost c ps
innermost_array (of_type (integer_type i) r) p ps x c h = absurd cc
innermost_array (of_type (enumeration i n) r) p ps x c h = absurd cc
innermost_array (of_type (formal_type i k b) r) p ps x c h = absurd cc
innermost_array (of_type (array_type i y d) r) p ps x c h = ap (parts_or d (λ q. innermost q.1 ps)) h
innermost_array (of_type (record_type i fs) r) p ps x c h = absurd cc

innermost_other : (t : AdaSubtype) (p : Pos) (ps : List Pos) → array_parts (type_in t) ≡ None → innermost t (p ∷ ps) ≡ t
innermost_other (of_type (integer_type i) r) p ps h = refl
innermost_other (of_type (enumeration i n) r) p ps h = refl
innermost_other (of_type (formal_type i k b) r) p ps h = refl
innermost_other (of_type (array_type i y d) r) p ps h = absurd cc
innermost_other (of_type (record_type i fs) r) p ps h = refl

initial_array : (t : AdaSubtype) (p : Pos) (ps : List Pos) (e : Valued) (x c : AdaSubtype) → array_parts (type_in t) ≡ Some (x, c)
    → initial_for t (p ∷ ps) e ≡ option_map program.others_initial (initial_for c ps e)
initial_array (of_type (integer_type i) r) p ps e x c h = absurd cc
initial_array (of_type (enumeration i n) r) p ps e x c h = absurd cc
initial_array (of_type (formal_type i k b) r) p ps e x c h = absurd cc
initial_array (of_type (array_type i y d) r) p ps e x c h =
    ap (parts_or None (λ q. option_map program.others_initial (initial_for q.1 ps e))) h
initial_array (of_type (record_type i fs) r) p ps e x c h = absurd cc

initial_other : (t : AdaSubtype) (p : Pos) (ps : List Pos) (e : Valued) → array_parts (type_in t) ≡ None → initial_for t (p ∷ ps) e ≡ None
initial_other (of_type (integer_type i) r) p ps e h = refl
initial_other (of_type (enumeration i n) r) p ps e h = refl
initial_other (of_type (formal_type i k b) r) p ps e h = refl
initial_other (of_type (array_type i y d) r) p ps e h = absurd cc
initial_other (of_type (record_type i fs) r) p ps e h = refl

-- one `others` more
outer : (n : ℕ) (v : program.Initial) → in_others (suc n) v ≡ in_others n (program.others_initial v)
outer zero v = refl
outer (suc n) v = ap program.others_initial (outer n v)

one_more : (n : ℕ) (v : program.Initial) → in_others n (program.others_initial v) ≡ in_others (n + 1) v
one_more n v = let e : suc n ≡ n + 1 = omega arith in sym (outer n v) ∙ ap (λ m. in_others m v) e

within_more : (n : ℕ) (o : Option program.Initial)
    → option_map (in_others n) (option_map program.others_initial o) ≡ option_map (in_others (n + 1)) o
within_more n None = refl
within_more n (Some v) = ap Some (one_more n v)

pub alone : (o : Option program.Initial) → o ≡ option_map (in_others 0) o
alone None = refl
alone (Some v) = refl

-- a turn of the walk inwards
module _ (t : AdaSubtype) (others : List Pos) (i : ℕ) (less : i < length others) where
  abbrev first : Pos
  first = get_or others i (get_or others i nowhere)

  pub innermost_in : (x c : AdaSubtype) → array_parts (type_in t) ≡ Some (x, c) → innermost t (drop i others) ≡ innermost c (drop (i + 1) others)
  innermost_in x c parts =
      ap (innermost t) (drop_more others i (get_or others i nowhere) less) ∙ innermost_array t first (drop (i + 1) others) x c parts

  pub innermost_stops : array_parts (type_in t) ≡ None → innermost t (drop i others) ≡ t
  innermost_stops parts =
      ap (innermost t) (drop_more others i (get_or others i nowhere) less) ∙ innermost_other t first (drop (i + 1) others) parts

  pub initial_in : (e : Valued) (x c : AdaSubtype) → array_parts (type_in t) ≡ Some (x, c)
      → option_map (in_others i) (initial_for t (drop i others) e) ≡ option_map (in_others (i + 1)) (initial_for c (drop (i + 1) others) e)
  initial_in e x c parts =
      ap (λ ps. option_map (in_others i) (initial_for t ps e)) (drop_more others i (get_or others i nowhere) less)
      ∙ ap (option_map (in_others i)) (initial_array t first (drop (i + 1) others) e x c parts)
      ∙ within_more i (initial_for c (drop (i + 1) others) e)

  pub initial_stops : (e : Valued) → array_parts (type_in t) ≡ None → option_map (in_others i) (initial_for t (drop i others) e) ≡ None
  initial_stops e parts =
      ap (λ ps. option_map (in_others i) (initial_for t ps e)) (drop_more others i (get_or others i nowhere) less)
      ∙ ap (option_map (in_others i)) (initial_other t first (drop (i + 1) others) e parts)
