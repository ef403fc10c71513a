-- Two decisions worked out: their graphs, the outcomes of their vectors, and their pairs.
use Rattle.std.proofs.Common.{◌≡◌, Bool, true, false, List, [], ◌∷◌, Option, Some, None, refl, inl, inr}
use Rattle.cov_base.specs.declared.event.Vector.{Vector}
use Rattle.cov_base.specs.Expr.{Expr, condition, operator, postfix_of}
use Rattle.cov_base.specs.Graph.{node, leaf, graph}
use Rattle.cov_base.specs.Marks.{marks, outcome}
use Rattle.decision_meaning.specs.Pair.{Pair, is_unique_cause, is_masking, IsLeastPair}

abbrev a_and_b_or_c : Expr
a_and_b_or_c = operator true condition (operator false condition condition)

abbrev and_first : Expr
and_first = operator false (operator true condition condition) condition

-- the vectors, named by their marks: T, F, and N for not evaluated
abbrev ttn : Vector
ttn = record { seen = 3; value = 3 }

abbrev tft : Vector
tft = record { seen = 7; value = 5 }

abbrev tff : Vector
tff = record { seen = 7; value = 1 }

abbrev fnn : Vector
fnn = record { seen = 1; value = 0 }

abbrev fnf : Vector
fnf = record { seen = 5; value = 0 }

bytes : postfix_of a_and_b_or_c ≡ 0 ∷ 1 ∷ 2 ∷ 34 ∷ 33 ∷ []
bytes = refl

bytes_and_first : postfix_of and_first ≡ 0 ∷ 1 ∷ 33 ∷ 2 ∷ 34 ∷ []
bytes_and_first = refl

edges : graph a_and_b_or_c
    ≡ record { on_true = node 1; on_false = leaf false }
    ∷ record { on_true = leaf true; on_false = node 2 }
    ∷ record { on_true = leaf true; on_false = leaf false }
    ∷ []
edges = refl

edges_and_first : graph and_first
    ≡ record { on_true = node 1; on_false = node 2 }
    ∷ record { on_true = leaf true; on_false = node 2 }
    ∷ record { on_true = leaf true; on_false = leaf false }
    ∷ []
edges_and_first = refl

outcomes : List Bool
outcomes = outcome a_and_b_or_c (marks ttn) ∷ outcome a_and_b_or_c (marks tft) ∷ outcome a_and_b_or_c (marks tff)
    ∷ outcome a_and_b_or_c (marks fnn) ∷ []

outcomes_are : outcomes ≡ true ∷ true ∷ false ∷ false ∷ []
unfolding outcomes
outcomes_are = refl

abbrev all_four : List Vector
all_four = ttn ∷ tft ∷ tff ∷ fnn ∷ []

abbrev shown : Vector → Vector → Option Pair
shown v w = Some (record { first = v; second = w })

masks_a : IsLeastPair 3 (is_masking a_and_b_or_c 0) all_four (shown fnn tft)
masks_a = (
  record { has_first = inr (inr (inr (inl refl))); has_second = inr (inl refl); passes = refl },
  ((refl, (refl, (refl, (refl, tt)))), ((refl, (refl, (refl, (refl, tt)))), ((refl, (refl, (refl, (refl, tt)))), ((refl, (refl, (refl, (refl, tt)))), tt)))),
)

masks_b : IsLeastPair 3 (is_masking a_and_b_or_c 1) all_four (shown tff ttn)
masks_b = (
  record { has_first = inr (inr (inl refl)); has_second = inl refl; passes = refl },
  ((refl, (refl, (refl, (refl, tt)))), ((refl, (refl, (refl, (refl, tt)))), ((refl, (refl, (refl, (refl, tt)))), ((refl, (refl, (refl, (refl, tt)))), tt)))),
)

masks_c : IsLeastPair 3 (is_masking a_and_b_or_c 2) all_four (shown tff tft)
masks_c = (
  record { has_first = inr (inr (inl refl)); has_second = inr (inl refl); passes = refl },
  ((refl, (refl, (refl, (refl, tt)))), ((refl, (refl, (refl, (refl, tt)))), ((refl, (refl, (refl, (refl, tt)))), ((refl, (refl, (refl, (refl, tt)))), tt)))),
)

unique_a : IsLeastPair 3 (is_unique_cause a_and_b_or_c 0) all_four (shown fnn tft)
unique_a = (
  record { has_first = inr (inr (inr (inl refl))); has_second = inr (inl refl); passes = refl },
  ((refl, (refl, (refl, (refl, tt)))), ((refl, (refl, (refl, (refl, tt)))), ((refl, (refl, (refl, (refl, tt)))), ((refl, (refl, (refl, (refl, tt)))), tt)))),
)

unique_b : IsLeastPair 3 (is_unique_cause a_and_b_or_c 1) all_four (shown tff ttn)
unique_b = (
  record { has_first = inr (inr (inl refl)); has_second = inl refl; passes = refl },
  ((refl, (refl, (refl, (refl, tt)))), ((refl, (refl, (refl, (refl, tt)))), ((refl, (refl, (refl, (refl, tt)))), ((refl, (refl, (refl, (refl, tt)))), tt)))),
)

unique_c : IsLeastPair 3 (is_unique_cause a_and_b_or_c 2) all_four (shown tff tft)
unique_c = (
  record { has_first = inr (inr (inl refl)); has_second = inr (inl refl); passes = refl },
  ((refl, (refl, (refl, (refl, tt)))), ((refl, (refl, (refl, (refl, tt)))), ((refl, (refl, (refl, (refl, tt)))), ((refl, (refl, (refl, (refl, tt)))), tt)))),
)

abbrev three : List Vector
three = ttn ∷ tft ∷ fnf ∷ []

abbrev three_and_tff : List Vector
three_and_tff = ttn ∷ tft ∷ fnf ∷ tff ∷ []

masks_a_of_three : IsLeastPair 3 (is_masking and_first 0) three (shown fnf ttn)
masks_a_of_three = (
  record { has_first = inr (inr (inl refl)); has_second = inl refl; passes = refl },
  ((refl, (refl, (refl, tt))), ((refl, (refl, (refl, tt))), ((refl, (refl, (refl, tt))), tt))),
)

masks_b_of_three : IsLeastPair 3 (is_masking and_first 1) three None
masks_b_of_three = ((refl, (refl, (refl, tt))), ((refl, (refl, (refl, tt))), ((refl, (refl, (refl, tt))), tt)))

masks_c_of_three : IsLeastPair 3 (is_masking and_first 2) three (shown fnf tft)
masks_c_of_three = (
  record { has_first = inr (inr (inl refl)); has_second = inr (inl refl); passes = refl },
  ((refl, (refl, (refl, tt))), ((refl, (refl, (refl, tt))), ((refl, (refl, (refl, tt))), tt))),
)

unique_a_of_three : IsLeastPair 3 (is_unique_cause and_first 0) three (shown fnf ttn)
unique_a_of_three = (
  record { has_first = inr (inr (inl refl)); has_second = inl refl; passes = refl },
  ((refl, (refl, (refl, tt))), ((refl, (refl, (refl, tt))), ((refl, (refl, (refl, tt))), tt))),
)

unique_b_of_three : IsLeastPair 3 (is_unique_cause and_first 1) three None
unique_b_of_three = ((refl, (refl, (refl, tt))), ((refl, (refl, (refl, tt))), ((refl, (refl, (refl, tt))), tt)))

unique_c_of_three : IsLeastPair 3 (is_unique_cause and_first 2) three None
unique_c_of_three = ((refl, (refl, (refl, tt))), ((refl, (refl, (refl, tt))), ((refl, (refl, (refl, tt))), tt)))

masks_a_of_three_and_tff : IsLeastPair 3 (is_masking and_first 0) three_and_tff (shown fnf ttn)
masks_a_of_three_and_tff = (
  record { has_first = inr (inr (inl refl)); has_second = inl refl; passes = refl },
  ((refl, (refl, (refl, (refl, tt)))), ((refl, (refl, (refl, (refl, tt)))), ((refl, (refl, (refl, (refl, tt)))), ((refl, (refl, (refl, (refl, tt)))), tt)))),
)

masks_b_of_three_and_tff : IsLeastPair 3 (is_masking and_first 1) three_and_tff (shown tff ttn)
masks_b_of_three_and_tff = (
  record { has_first = inr (inr (inr (inl refl))); has_second = inl refl; passes = refl },
  ((refl, (refl, (refl, (refl, tt)))), ((refl, (refl, (refl, (refl, tt)))), ((refl, (refl, (refl, (refl, tt)))), ((refl, (refl, (refl, (refl, tt)))), tt)))),
)

masks_c_of_three_and_tff : IsLeastPair 3 (is_masking and_first 2) three_and_tff (shown fnf tft)
masks_c_of_three_and_tff = (
  record { has_first = inr (inr (inl refl)); has_second = inr (inl refl); passes = refl },
  ((refl, (refl, (refl, (refl, tt)))), ((refl, (refl, (refl, (refl, tt)))), ((refl, (refl, (refl, (refl, tt)))), ((refl, (refl, (refl, (refl, tt)))), tt)))),
)

unique_a_of_three_and_tff : IsLeastPair 3 (is_unique_cause and_first 0) three_and_tff (shown fnf ttn)
unique_a_of_three_and_tff = (
  record { has_first = inr (inr (inl refl)); has_second = inl refl; passes = refl },
  ((refl, (refl, (refl, (refl, tt)))), ((refl, (refl, (refl, (refl, tt)))), ((refl, (refl, (refl, (refl, tt)))), ((refl, (refl, (refl, (refl, tt)))), tt)))),
)

unique_b_of_three_and_tff : IsLeastPair 3 (is_unique_cause and_first 1) three_and_tff (shown tff ttn)
unique_b_of_three_and_tff = (
  record { has_first = inr (inr (inr (inl refl))); has_second = inl refl; passes = refl },
  ((refl, (refl, (refl, (refl, tt)))), ((refl, (refl, (refl, (refl, tt)))), ((refl, (refl, (refl, (refl, tt)))), ((refl, (refl, (refl, (refl, tt)))), tt)))),
)

unique_c_of_three_and_tff : IsLeastPair 3 (is_unique_cause and_first 2) three_and_tff (shown tff tft)
unique_c_of_three_and_tff = (
  record { has_first = inr (inr (inr (inl refl))); has_second = inr (inl refl); passes = refl },
  ((refl, (refl, (refl, (refl, tt)))), ((refl, (refl, (refl, (refl, tt)))), ((refl, (refl, (refl, (refl, tt)))), ((refl, (refl, (refl, (refl, tt)))), tt)))),
)
