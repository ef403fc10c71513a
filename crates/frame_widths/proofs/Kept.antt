-- Actuals behind the slots that those before them keep.
use Rattle.std.proofs.Common.{◌≡◌, ℕ, ◌+◌, ◌<◌, ◌≤◌, max, List, ◌∷◌, drop, length, get_or, sym, ap, ◌∙◌, arith}
use Rattle.std.proofs.lemmas.List.{at_drop_more, at_drop_all}
use Rattle.ada_tree.specs.declared.expr.Actual.{Actual}
use Rattle.ada_tree.specs.Objects.{capped}
use Rattle.ada_tree.specs.View.{actuals_of}
use Rattle.frame_widths.specs.Chains.{end_of_actual, slots_of}
use Rattle.frame_widths.specs.Ends.{end_of_actuals}
use Rattle.frame_widths.proofs.Behind.{actuals_behind}
use Rattle.frame_widths.proofs.Chains.{actual_end}

-- how many slots actuals are worked out in
abbrev wide : List Actual → ℕ
wide xs = end_of_actuals 0 (actuals_of xs)

next_wide : (x : Actual) (xs : List Actual) → wide (x ∷ xs) ≡ max (end_of_actual 0 x) (slots_of x + wide xs)
next_wide x xs = actual_end 0 x (actuals_of xs) ∙ ap (max (end_of_actual 0 x)) (actuals_behind (slots_of x) (0 + slots_of x) 0 (actuals_of xs) (omega arith))

more_kept : (count kept taken slots value rest left : ℕ) → left ≡ max value (slots + rest) → taken ≡ capped value
    → max (max count (capped (kept + taken))) (capped (capped (kept + slots) + rest)) ≡ max count (capped (kept + left))
more_kept count kept taken slots value rest left is same = omega (arith, is, same)

pub actual_kept : (xs : List Actual) (i : ℕ) (d x : Actual) (count kept taken slots next behind total : ℕ) → i < length xs → x ≡ get_or xs i d
    → taken ≡ capped (end_of_actual 0 x) → slots ≡ slots_of x
    → next ≡ max count (capped (kept + taken)) → behind ≡ capped (kept + slots)
    → max count (capped (kept + wide (drop i xs))) ≡ total
    → max next (capped (behind + wide (drop (i + 1) xs))) ≡ total
actual_kept xs i d x count kept taken slots next behind total lt is same one counted further whole =
    let left = at_drop_more wide xs i d lt ∙ next_wide (get_or xs i d) (drop (i + 1) xs) in
    rw (counted, further)
    (more_kept count kept taken slots (end_of_actual 0 (get_or xs i d)) (wide (drop (i + 1) xs)) (wide (drop i xs))
    (left ∙ ap (λ n. max (end_of_actual 0 (get_or xs i d)) (n + wide (drop (i + 1) xs))) (sym (one ∙ ap slots_of is)))
    (same ∙ ap (λ y. capped (end_of_actual 0 y)) is) ∙ whole)

pub none_kept : (xs : List Actual) (i count kept last total : ℕ) → length xs ≤ i → last ≡ max count (capped (kept + 1))
    → max count (capped (kept + wide (drop i xs))) ≡ total
    → last ≡ total
none_kept xs i count kept last total le is whole = is ∙ ap (λ n. max count (capped (kept + n))) (sym (at_drop_all wide xs i le)) ∙ whole
