-- What is spelled on one walk over a decision is its entry, and the entries of the decisions in its conditions.
use Rattle.std.proofs.Common.{◌≡◌, ℕ, ◌+◌, Bool, List, [], ◌∷◌, ◌++◌, map, length, Result, Ok, Err, OnOk, refl, sym, ap, ◌∙◌, arith}
use Rattle.std.proofs.lemmas.List.{append_assoc, map-append, length-append, length-map}
use Rattle.cov_base.specs.declared.position.Pos.{Pos}
use Rattle.cov_base.specs.declared.obligations.Place.{Place}
use Rattle.cov_base.specs.Expr.{operator_byte, postfix_from}
use Rattle.ada_meaning.specs.Collected.{Decision, Standing, condition_places, in_test}
use Rattle.ada_meaning.specs.Obligations.{condition_entry, decision_entry, letter_of}
use Rattle.ada_meaning.specs.Tree.{Label, Test, condition, negation, operator, shape_of, conditions_of}
use Rattle.ada_tree.specs.View.{with_tests}
use Rattle.obligations.specs.Entries.{Entries, joined, listed, of_decision, of_entry, of_nested}
use Rattle.obligations.specs.Spelled.{Spelled, entry_of, nothing_spelled, with_byte, with_others, with_test}
use Rattle.obligations.proofs.Lists.{joined_assoc, nested_parts, nothing_joined}

-- a first operand, and then the others
pub others_behind : (n : ℕ) (neutral : Bool) (t : Test) (us : List Test) (s : Spelled) → with_others n neutral us (with_test n t s) ≡ with_test n (with_tests neutral t us) s
others_behind n neutral t [] s = refl
others_behind n neutral t (u ∷ us) s = others_behind n neutral (operator neutral t u) us s

pub spelled_so : {A E : Type 0} (r : Result A E) (a b c : Spelled) → a ≡ b → OnOk r (c ≡ a) → OnOk r (c ≡ b)
spelled_so (Ok u) a b c e h = h ∙ e
spelled_so (Err u) a b c e h = tt

-- each condition has a place
places_are_conditions : (t : Test) → length (condition_places t) ≡ conditions_of t
places_are_conditions (condition at e) = refl
places_are_conditions (negation t) = places_are_conditions t
places_are_conditions (operator neutral t u) =
    omega (arith, length-append (condition_places t) (condition_places u), places_are_conditions t, places_are_conditions u)

abbrev entries : List Pos → List Place
entries ps = map condition_entry ps

-- a test behind what is spelled
abbrev behind : ℕ → Test → Spelled → Spelled
behind n t s = record {
  postfix = s.postfix ++ postfix_from (length s.conditions) (shape_of t);
  conditions = s.conditions ++ entries (condition_places t);
  nested = joined s.nested (of_nested (in_test n t));
}

-- the number of the next condition
next_number : (cs : List Place) (t : Test) → length (cs ++ entries (condition_places t)) ≡ length cs + conditions_of t
next_number cs t =
    omega (arith, length-append cs (entries (condition_places t)), length-map (condition_places t) condition_entry, places_are_conditions t)

two_behind : (n : ℕ) (neutral : Bool) (t u : Test) (s : Spelled) → with_byte (operator_byte neutral) (behind n u (behind n t s)) ≡ behind n (operator neutral t u) s
two_behind n neutral t u s = λ i. record { postfix = bytes i; conditions = places i; nested = decisions i }
  where
    left : List ℕ
    left = postfix_from (length s.conditions) (shape_of t)

    right : List ℕ
    right = postfix_from (length s.conditions + conditions_of t) (shape_of u)

    bytes : ((s.postfix ++ left) ++ postfix_from (length (s.conditions ++ entries (condition_places t))) (shape_of u)) ++ operator_byte neutral ∷ []
        ≡ s.postfix ++ (left ++ (right ++ operator_byte neutral ∷ []))
    bytes =
        ap (λ m. ((s.postfix ++ left) ++ postfix_from m (shape_of u)) ++ operator_byte neutral ∷ []) (next_number s.conditions t)
        ∙ append_assoc (s.postfix ++ left) right (operator_byte neutral ∷ [])
        ∙ append_assoc s.postfix left (right ++ operator_byte neutral ∷ [])

    places : (s.conditions ++ entries (condition_places t)) ++ entries (condition_places u) ≡ s.conditions ++ entries (condition_places t ++ condition_places u)
    places =
        append_assoc s.conditions (entries (condition_places t)) (entries (condition_places u))
        ∙ ap (λ xs. s.conditions ++ xs) (sym (map-append condition_entry (condition_places t) (condition_places u)))

    decisions : joined (joined s.nested (of_nested (in_test n t))) (of_nested (in_test n u)) ≡ joined s.nested (of_nested (in_test n t ++ in_test n u))
    decisions = joined_assoc s.nested (of_nested (in_test n t)) (of_nested (in_test n u)) ∙ ap (joined s.nested) (nested_parts (in_test n t) (in_test n u))

test_behind : (n : ℕ) (t : Test) (s : Spelled) → with_test n t s ≡ behind n t s
test_behind n (condition at e) s = refl
test_behind n (negation t) s =
    ap (with_byte 32) (test_behind n t s)
    ∙ (λ i. record {
      postfix = append_assoc s.postfix (postfix_from (length s.conditions) (shape_of t)) (32 ∷ []) i;
      conditions = s.conditions ++ entries (condition_places t);
      nested = joined s.nested (of_nested (in_test n t));
    })
test_behind n (operator neutral t u) s =
    ap (λ x. with_byte (operator_byte neutral) (with_test n u x)) (test_behind n t s)
    ∙ ap (with_byte (operator_byte neutral)) (test_behind n u (behind n t s))
    ∙ two_behind n neutral t u s

pub entry_spelled : (letter n : ℕ) (l : Label) (bytes postfix : List ℕ) (places conditions : List Place) (nested : Entries) → bytes ≡ postfix → places ≡ conditions
    → record {
      statement = record { 0 = n };
      file = l.place.file;
      line = l.place.line;
      column = l.place.col;
      letter = record { 0 = letter };
      expression = record { postfix = bytes };
      conditions = places;
    } ≡ entry_of letter n l (record { postfix = postfix; conditions = conditions; nested = nested })
entry_spelled letter n l bytes postfix places conditions nested p q =
    λ k. entry_of letter n l (record { postfix = p k; conditions = q k; nested = nested })

one_entry : (h : Decision) → of_entry (decision_entry h) ≡ of_nested (h ∷ [])
unfolding listed
one_entry h = refl

-- the entry of a decision, and behind it those of the decisions in its conditions
pub whole_decision : (standing : Standing) (letter n : ℕ) (d : Label) (t : Test) (s : Spelled) → letter ≡ letter_of standing → s ≡ with_test n t nothing_spelled
    → joined (of_entry (entry_of letter n d s)) s.nested ≡ of_decision standing n d t
whole_decision standing letter n d t s is spelled =
    (λ i. joined (of_entry (entry_of (is i) n d (all i))) (all i).nested)
    ∙ (λ i. joined (one_entry (record { standing = standing; statement = n; label = d; test = t }) i) (nothing_joined (of_nested (in_test n t)) i))
    ∙ nested_parts (record { standing = standing; statement = n; label = d; test = t } ∷ []) (in_test n t)
  where
    all : s ≡ behind n t nothing_spelled
    all = spelled ∙ test_behind n t nothing_spelled
