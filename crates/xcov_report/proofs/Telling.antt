-- What is told is one, however it was found.
use Rattle.std.proofs.Common.{◌≡◌, ℕ, suc, ◌+◌, ◌<◌, Bool, true, false, not, ◌||◌, List, [], ◌∷◌, ◌++◌, Option, Some, None, is_some, length, cond, nat_lt, filter, slice_get, slice_index_or, refl, ap, ◌∙◌, if◌then◌else◌, arith}
use Rattle.std.specs.List.{list_any}
use Rattle.std.proofs.lemmas.Bool.Decides.{nat_tests}
use Rattle.std.proofs.lemmas.Option.{slice_get_within}
use Rattle.cov_base.specs.declared.event.Event.{Event}
use Rattle.cov_base.specs.declared.obligations.Obligations.{Obligations}
use Rattle.cov_base.specs.declared.obligations.Region.{Region}
use Rattle.exemptions.specs.Regions.{is_inside}
use Rattle.annotated_report.specs.declared.finding.Finding.{Finding}
use Rattle.annotated_report.specs.Marked.{marked}
use Rattle.annotated_report.specs.Verdicts.{is_started, vectors_of}
use Rattle.xcov_report.specs.declared.told.Stretch.{Stretch}
use Rattle.cov_base.specs.declared.event.Vector.{Vector}
use Rattle.cov_base.specs.declared.level.Level.{Level}
use Rattle.cov_base.specs.declared.obligations.DecEntry.{DecEntry}
use Rattle.cov_base.specs.declared.obligations.StmtEntry.{StmtEntry}
use Rattle.cov_base.specs.Expr.{Expr, size}
use Rattle.decision_meaning.specs.Pair.{Pair, IsLeastPair}
use Rattle.mcdc_verdicts.specs.View.{pair_view}
use Rattle.annotated_report.specs.Findings.{asks_outcomes, expr_of, findings}
use Rattle.annotated_report.specs.LeastPair.{kind_of, shown_pair}
use Rattle.annotated_report.specs.Members.{AreAlike}
use Rattle.annotated_report.proofs.Alike.{same_pairs}
use Rattle.annotated_report.proofs.LeastPairs.{least_pair_is, same_shown, option_text}
use Rattle.annotated_report.specs.Held.{held_counts}
use Rattle.annotated_report.specs.Numbered.{each_numbered}
use Rattle.annotated_report.proofs.Numbering.{same_found, numbered_later}
use Rattle.annotated_report.proofs.Same.{AgreeBelow}
use Rattle.xcov_report.specs.Obliged.{of_line, statement_stretches, condition_stretches, conditions_stretches, decision_stretches, decisions_stretches, of_region, region_stretches, all_stretches}

-- pairs with one text are there both or neither
both_there : (n : ℕ) (a b : Option Pair) → option_text n a ≡ option_text n b → is_some a ≡ is_some b
both_there n None None e = refl
both_there n None (Some q) e = cc
both_there n (Some p) None e = cc
both_there n (Some p) (Some q) e = refl

viewed : (a : Option (Vector × Vector)) → is_some a ≡ is_some (pair_view a)
viewed None = refl
viewed (Some shown) = refl

-- whether there is a least pair is one, whichever was found
pub has_least : (level : Level) (e : Expr) (vectors : List Vector) (c : ℕ) (answer : Option (Vector × Vector))
    → IsLeastPair (size e) (kind_of level e c) vectors (pair_view answer) → is_some answer ≡ is_some (shown_pair level e vectors c)
has_least level e vectors c answer h =
    viewed answer ∙ both_there (size e) (pair_view answer) (shown_pair level e vectors c)
    (same_shown (size e) (kind_of level e c) vectors (pair_view answer) (shown_pair level e vectors c) h
    (least_pair_is (size e) (kind_of level e c) vectors))

-- conditions tell the same by the same vectors that come otherwise
pub same_conditions : (level : Level) (vs ws : List Vector) (entry : DecEntry) → AreAlike vs ws
    → conditions_stretches level vs entry ≡ conditions_stretches level ws entry
same_conditions level vs ws entry h =
    let e = expr_of entry in
    same_found (condition_stretches level vs entry) (condition_stretches level ws entry) 0 entry.conditions
    (λ i c place eq at. ap (λ b. of_line entry.file place.line b ∷ [])
    (both_there (size e) (shown_pair level e vs c) (shown_pair level e ws c) (same_pairs level e vs ws c h)))

within : {X : Type 0} (xs : List X) (i n : ℕ) (x : X) → n ≡ 0 + i → slice_get xs i ≡ Some x → n < length xs
within xs i n x e at = let h = slice_get_within xs i x at in omega arith

-- what the code keeps of events serves as they do
pub same_statements : (f g : ℕ → Bool) (statements : List StmtEntry) → AgreeBelow (length statements) f g
    → statement_stretches f statements ≡ statement_stretches g statements
same_statements f g statements h =
    same_found (λ n entry. of_line entry.file entry.line (f n) ∷ []) (λ n entry. of_line entry.file entry.line (g n) ∷ []) 0 statements
    (λ i n entry e at. ap (λ b. of_line entry.file entry.line b ∷ []) (h n (within statements i n entry e at)))

pub same_decisions : (level : Level) (f g : ℕ → List Vector) (decisions : List DecEntry) → AgreeBelow (length decisions) f g
    → decisions_stretches level f decisions ≡ decisions_stretches level g decisions
same_decisions level f g decisions h =
    same_found (λ d entry. decision_stretches level (f d) entry) (λ d entry. decision_stretches level (g d) entry) 0 decisions
    (λ i d entry e at. ap (λ vectors. decision_stretches level vectors entry) (h d (within decisions i d entry e at)))

more_than_none : (n : ℕ) → nat_lt 0 (suc n) ≡ true
more_than_none n = grind (arith, nat_tests)

counted_any : {X : Type 0} (here : Bool) (x : X) (xs : List X) (any : Bool) → nat_lt 0 (length xs) ≡ any
    → nat_lt 0 (length (cond here (x ∷ xs) xs)) ≡ (here || any)
counted_any true x xs any is = more_than_none (length xs)
counted_any false x xs any is = is

-- whether one passes, by how many do
any_passes : {X : Type 0} (p : X → Bool) (xs : List X) → nat_lt 0 (length (filter p xs)) ≡ list_any p xs
any_passes p [] = refl
any_passes p (x ∷ xs) = counted_any (p x) x (filter p xs) (list_any p xs) (any_passes p xs)

-- regions tell by what was counted for each what they tell one after another
pub by_counts : (found : List Finding) (regions : List Region)
    → each_numbered (λ n region. of_region (nat_lt 0 (slice_index_or (held_counts found regions) n 0)) region ∷ []) 0 regions
    ≡ region_stretches regions found
by_counts found [] = refl
by_counts found (region ∷ regions) =
    let inside : Finding → Bool = λ f. is_inside f.key.pos region in
    let less = filter (λ (f : Finding). not (is_inside f.key.pos region)) found in
    let count = length (filter inside found) in
    ap (λ (l : List Stretch). of_region (nat_lt 0 count) region ∷ l)
    (numbered_later (λ n r. of_region (nat_lt 0 (slice_index_or (count ∷ held_counts less regions) n 0)) r ∷ []) 0 regions ∙ by_counts less regions)
    ∙ ap (λ (b : Bool). of_region b region ∷ region_stretches regions less) (any_passes inside found)

-- what was told in turn is all that is told
pub all_told : (level : Level) (obligations : Obligations) (events : List Event) (marks : List Bool) (entries : List StmtEntry) (given : List DecEntry)
    (none one two three : List Stretch)
    → none ≡ [] → entries ≡ obligations.statements → given ≡ obligations.decisions
    → AgreeBelow (length obligations.statements) (marked marks) (is_started events)
    → one ≡ none ++ statement_stretches (marked marks) entries
    → two ≡ one ++ (if asks_outcomes level then decisions_stretches level (vectors_of events) given else [])
    → three ≡ two ++ region_stretches obligations.regions (findings level obligations events)
    → three ≡ all_stretches level obligations events
all_told level obligations events marks entries given none one two three nothing statements decisions agree first second third =
    let decided : List DecEntry → List Stretch = λ ds. if asks_outcomes level then decisions_stretches level (vectors_of events) ds else [] in
    let started = statement_stretches (is_started events) obligations.statements in
    third
    ∙ ap (λ l. l ++ region_stretches obligations.regions (findings level obligations events))
    (second
    ∙ ap (λ l. l ++ decided given)
    (first ∙ ap (λ l. l ++ statement_stretches (marked marks) entries) nothing ∙ ap (statement_stretches (marked marks)) statements
    ∙ same_statements (marked marks) (is_started events) obligations.statements agree)
    ∙ ap (λ ds. started ++ decided ds) decisions)
