-- Where nothing stands in a generic, each statement and each condition stands in instance 0, and nowhere else.
use Rattle.std.proofs.Common.{◌≡◌, ◌↔◌, ℕ, zero, suc, ◌+◌, ◌≤◌, ◌<◌, List, [], ◌∷◌, length, map, slice_get, Option, Some, None, refl, sym, ap, subst, arith, ◌⊎◌, inl, inr}
use Rattle.ada_meaning.specs.Bodies.{Body, StandsIn, IsBody}
use Rattle.ada_meaning.specs.Collected.{Decision, block_labels, in_block, labels_of, decisions_of}
use Rattle.ada_meaning.specs.Obligations.{numbers, decision_entry}
use Rattle.ada_meaning.specs.Program.{Subprogram, Program}
use Rattle.ada_meaning.specs.Tree.{Label, conditions_of}
use Rattle.program_objects.proofs.DecisionEntries.{first_number, numbers_behind, count_at}
use Rattle.program_objects.proofs.Instances.{count_of, labels_numbered, statement_below, condition_below}
use Rattle.program_objects.proofs.MarksOf.{map_there}
use Rattle.program_objects.proofs.Placing.{numbers_law}
use Rattle.program_objects.proofs.TextsOf.{at_place, in_some_text}
use Rattle.program_objects.specs.Listed.{IsCondition}
use Rattle.program_objects.specs.Made.{IsCompilable}
use Rattle.cov_base.specs.declared.obligations.DecEntry.{DecEntry}
use Rattle.cov_base.specs.Lists.{Somewhere}
use Rattle.object_format.specs.Fields.{condition_count}
use Rattle.statement_code.specs.Kernels.{AreOutside}
use Rattle.statement_code.specs.Own.{IsStatementIn, IsConditionIn}

-- bodies

only_once : (p : Program) (b : Body) → AreOutside p.subprograms → IsBody p b → b.instance ≡ 0
only_once p b outside is =
    let none = at_place (λ (s : Subprogram). s.generic ≡ None) p.subprograms b.subprogram is.declared outside is.is_declared in
    subst (λ g. StandsIn p g b.instance) none is.stands

there_once : (p : Program) (m i : ℕ) (s : Subprogram) → AreOutside p.subprograms → slice_get p.subprograms m ≡ Some s → i ≡ 0 → IsBody p (record { instance = i; subprogram = m })
there_once p m i s outside there is =
    let none = at_place (λ (s : Subprogram). s.generic ≡ None) p.subprograms m s outside there in
    record { declared = s; is_declared = there; stands = subst (λ g. StandsIn p g i) (sym none) is }

-- numbers

order : (a b : ℕ) → (a ≡ b) ⊎ ((a < b) ⊎ (b < a))
order zero zero = inl refl
order zero (suc b) = inr (inl (omega arith))
order (suc a) zero = inr (inr (omega arith))
order (suc a) (suc b) = next (order a b)
  where
    next : (a ≡ b) ⊎ ((a < b) ⊎ (b < a)) → (suc a ≡ suc b) ⊎ ((suc a < suc b) ⊎ (suc b < suc a))
    next (inl same) = inl (ap (λ n. suc n) same)
    next (inr (inl less)) = inr (inl (omega (arith, less)))
    next (inr (inr more)) = inr (inr (omega (arith, more)))

number_there : (s from count : ℕ) → from ≤ s → s < from + count → Somewhere (λ n. n ≡ s) (numbers from count)
number_there s from zero low high = absurd (omega (arith, low, high))
number_there s from (suc count) low high = by_order (order from s) (λ less. number_there s (suc from) count (omega (arith, less)) (omega (arith, high)))
  where
    by_order : (from ≡ s) ⊎ ((from < s) ⊎ (s < from)) → (from < s → Somewhere (λ n. n ≡ s) (numbers (suc from) count)) → Somewhere (λ n. n ≡ s) (numbers from (suc count))
    by_order (inl same) later = inl same
    by_order (inr (inl less)) later = inr (later less)
    by_order (inr (inr more)) later = absurd (omega (arith, more, low))

-- a decision with this number and so many conditions, among numbered ones
decision_there : (from n c : ℕ) (hs : List Decision) → map (λ h. h.label.number) hs ≡ numbers from (length hs) → c < condition_count (slice_get (map decision_entry hs) n)
    → Somewhere (λ h. (h.label.number ≡ from + n) × (c < conditions_of h.test)) hs
decision_there from n c [] are below = absurd (omega (arith, below))
decision_there from zero c (h ∷ hs) are below = inl (omega (arith, first_number from h hs are), omega (arith, below, count_at (h ∷ hs) 0 h refl))
decision_there from (suc n) c (h ∷ hs) are below =
    inr (subst (λ m. Somewhere (λ h. (h.label.number ≡ m) × (c < conditions_of h.test)) hs) (let same : suc from + n ≡ from + suc n = omega arith in same)
    (decision_there (suc from) n c hs (numbers_behind from h hs are) below))

-- a decision that has so many conditions is there
counted_is : (decisions : List DecEntry) (d c : ℕ) → c < condition_count (slice_get decisions d) → IsCondition decisions d c
counted_is decisions d c below = by (slice_get decisions d) refl below
  where
    by : (found : Option DecEntry) → slice_get decisions d ≡ found → c < condition_count found → IsCondition decisions d c
    by None is below = absurd (omega (arith, below))
    by (Some x) is below = (x, is, below)

is_counted : (decisions : List DecEntry) (d c : ℕ) → IsCondition decisions d c → c < condition_count (slice_get decisions d)
is_counted decisions d c (x, there, below) = subst (λ n. c < n) (sym (ap condition_count there)) below

module _ (p : Program) (able : IsCompilable p) (outside : AreOutside p.subprograms) where
  statement_there : (s i : ℕ) → s < length (labels_of p.subprograms) → i ≡ 0 → IsStatementIn p i s
  statement_there s i below is =
      let n = length (labels_of p.subprograms) in
      let numbered = subst (Somewhere (λ n. n ≡ s)) (sym (labels_numbered p able)) (number_there s 0 n (omega arith) (omega (arith, below))) in
      let text = in_some_text block_labels labels_of refl refl (λ t ts. refl) (λ l. l.number ≡ s) p.subprograms
      (map_there (λ n. n ≡ s) (λ (l : Label). l.number) (labels_of p.subprograms) numbered) in
      record { subprogram = text.subprogram; stands = there_once p text.subprogram i text.declared outside text.is_declared is; among = text.among }

  pub statement_law : (number instance : ℕ) → IsStatementIn p instance number ↔ ((number < length (labels_of p.subprograms)) × (instance ≡ 0))
  statement_law s i = (
    λ stands. (statement_below p able i s stands, only_once p (record { instance = i; subprogram = stands.subprogram }) outside stands.stands),
    λ is. statement_there s i is.0 is.1,
  )

  condition_there : (d c i : ℕ) → c < count_of p d → i ≡ 0 → IsConditionIn p i d c
  condition_there d c i below is =
      let hs = decisions_of p.subprograms in
      let among = subst (λ m. Somewhere (λ h. (h.label.number ≡ m) × (c < conditions_of h.test)) hs) (let same : 0 + d ≡ d = omega arith in same)
      (decision_there 0 d c hs (numbers_law p able) below) in
      let text = in_some_text in_block decisions_of refl refl (λ t ts. refl) (λ h. (h.label.number ≡ d) × (c < conditions_of h.test)) p.subprograms among in
      record { subprogram = text.subprogram; stands = there_once p text.subprogram i text.declared outside text.is_declared is; among = text.among }

  pub condition_law : (decision condition instance : ℕ)
      → IsConditionIn p instance decision condition ↔ (IsCondition (map decision_entry (decisions_of p.subprograms)) decision condition × (instance ≡ 0))
  condition_law d c i = (
    λ stands. (
      counted_is (map decision_entry (decisions_of p.subprograms)) d c (condition_below p able i d c stands),
      only_once p (record { instance = i; subprogram = stands.subprogram }) outside stands.stands,
    ),
    λ is. condition_there d c i (is_counted (map decision_entry (decisions_of p.subprograms)) d c is.0) is.1,
  )
