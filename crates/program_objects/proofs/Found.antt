-- Rows and conditions that are marked once: what they start and which they are, and that none is there twice.
use Rattle.std.proofs.Common.{◌≡◌, ◌≢◌, ℕ, zero, suc, ◌+◌, ◌≤◌, ◌<◌, ◌&&◌, nat_eq, true, false, List, length, map, slice_get, sum_by, AllPairs, Contains, sym, ap, subst, arith, ◌⊎◌, inl, inr}
use Rattle.std.proofs.lemmas.Bool.Decides.{eqb_tells}
use Rattle.ada_meaning.specs.Collected.{labels_of, decisions_of}
use Rattle.ada_meaning.specs.Obligations.{decision_entry}
use Rattle.ada_meaning.specs.Program.{Program}
use Rattle.program_objects.proofs.Conditions.{named as named_condition}
use Rattle.program_objects.proofs.Counts.{of_each_item, sum_of_map, Tells, counted_there, there_counted, none_twice}
use Rattle.program_objects.proofs.Instances.{instance_below, statement_below, condition_below, condition_beside}
use Rattle.program_objects.proofs.RowStarts.{named, StartsWithin}
use Rattle.program_objects.specs.Made.{IsCompilable}
use Rattle.cov_base.specs.declared.obligations.DecEntry.{DecEntry}
use Rattle.cov_base.specs.Lists.{Everywhere}
use Rattle.kernel_ir.specs.Obligations.{Row, Condition}
use Rattle.object_format.specs.Fields.{condition_count}
use Rattle.object_format.specs.RoleCheck.{AreWhole}
use Rattle.statement_code.specs.Own.{MarksOnce, IsConditionIn, one_if, row_times, condition_times}

-- the numbers of a start, and those of a condition
abbrev Start : Type 0
Start = ℕ × ℕ

abbrev pub Numbers : Type 0
Numbers = (ℕ × ℕ) × ℕ

-- whether these are the numbers of one start, or of one condition, as a count
abbrev start_hits : Start → Start → ℕ
start_hits x y = one_if (nat_eq y.1 x.1 && nat_eq y.0 x.0)

abbrev condition_hits : Numbers → Numbers → ℕ
condition_hits x y = one_if (nat_eq y.0.1 x.0.1 && (nat_eq y.0.0 x.0.0 && nat_eq y.1 x.1))

-- two numbers, by the test whether they are the same
abbrev Told : (a b : ℕ) → Type 0
Told a b = ((nat_eq a b ≡ true) × (a ≡ b)) ⊎ ((nat_eq a b ≡ false) × (a ≢ b))

start_told : Tells start_hits
start_told x y = by (eqb_tells y.1 x.1) (eqb_tells y.0 x.0)
  where
    by : Told y.1 x.1 → Told y.0 x.0 → ((x ≡ y) × (start_hits x y ≡ 1)) ⊎ ((x ≢ y) × (start_hits x y ≡ 0))
    by (inl i) (inl s) =
        let first = sym s.1 in
        let second = sym i.1 in
        inl (λ k. (first k, second k), λ k. one_if (i.0 k && s.0 k))
    by (inl i) (inr s) = inr (λ e. s.1 (ap (λ (n : Start). n.0) (sym e)), λ k. one_if (i.0 k && s.0 k))
    by (inr i) s = inr (λ e. i.1 (ap (λ (n : Start). n.1) (sym e)), λ k. one_if (i.0 k && nat_eq y.0 x.0))

condition_told : Tells condition_hits
condition_told x y = by (eqb_tells y.0.1 x.0.1) (eqb_tells y.0.0 x.0.0) (eqb_tells y.1 x.1)
  where
    by : Told y.0.1 x.0.1 → Told y.0.0 x.0.0 → Told y.1 x.1 → ((x ≡ y) × (condition_hits x y ≡ 1)) ⊎ ((x ≢ y) × (condition_hits x y ≡ 0))
    by (inl i) (inl d) (inl c) =
        let decision = sym d.1 in
        let instance = sym i.1 in
        let place = sym c.1 in
        inl (λ k. ((decision k, instance k), place k), λ k. one_if (i.0 k && (d.0 k && c.0 k)))
    by (inl i) (inl d) (inr c) = inr (λ e. c.1 (ap (λ (n : Numbers). n.1) (sym e)), λ k. one_if (i.0 k && (d.0 k && c.0 k)))
    by (inl i) (inr d) c = inr (λ e. d.1 (ap (λ (n : Numbers). n.0.0) (sym e)), λ k. one_if (i.0 k && (d.0 k && nat_eq y.1 x.1)))
    by (inr i) d c = inr (λ e. i.1 (ap (λ (n : Numbers). n.0.1) (sym e)), λ k. one_if (i.0 k && (nat_eq y.0.0 x.0.0 && nat_eq y.1 x.1)))

few_times : (n : ℕ) → (1 ≤ n → n ≡ 1) → n ≤ 1
few_times zero is = omega arith
few_times (suc n) is = omega (arith, is (omega arith))

-- a condition of one of these decisions, in one of so many instances
abbrev pub IsOf : List DecEntry → (instances : ℕ) → Numbers → Type 0
IsOf decisions instances c = (c.1 < condition_count (slice_get decisions c.0.0)) × (c.0.1 < instances)

-- conditions of these decisions, none twice, and with one of a decision in an instance each other of it
pub record HaveConditions (decisions : List DecEntry) (instances : ℕ) (found : List Numbers) : Type 0 where
  pub known : Everywhere (IsOf decisions instances) found
  pub single : AllPairs (λ one next. one ≢ next) found
  pub whole : AreWhole decisions found

module _ (p : Program) (able : IsCompilable p) (rs : List Row) (cs : List Condition) (once : MarksOnce p rs cs) where
  -- rows

  abbrev starts : List Start
  starts = map named rs

  row_count : (x : Start) → sum_by (start_hits x) starts ≡ row_times x.1 x.0 rs
  row_count x = sum_of_map (start_hits x) named rs

  row_few : (x : Start) → sum_by (start_hits x) starts ≤ 1
  row_few x = subst (λ n. n ≤ 1) (sym (row_count x)) (few_times (row_times x.1 x.0 rs) (λ some. once.row_once x.1 x.0 (once.row_own x.1 x.0 some)))

  -- no start comes twice
  pub starts_differ : AllPairs (λ one next. one ≢ next) starts
  starts_differ = none_twice start_hits start_told starts row_few

  row_known : (x : Start) → Contains starts x → StartsWithin (length (labels_of p.subprograms)) (1 + length p.instances) x
  row_known x has =
      let is = once.row_own x.1 x.0 (subst (λ n. 1 ≤ n) (row_count x) (counted_there start_hits start_told starts x has)) in
      (statement_below p able x.1 x.0 is, instance_below p (record { instance = x.1; subprogram = is.subprogram }) is.stands)

  pub starts_known : Everywhere (StartsWithin (length (labels_of p.subprograms)) (1 + length p.instances)) starts
  starts_known = of_each_item (StartsWithin (length (labels_of p.subprograms)) (1 + length p.instances)) starts row_known

  -- conditions

  abbrev found : List Numbers
  found = map named_condition cs

  condition_number : (x : Numbers) → sum_by (condition_hits x) found ≡ condition_times x.0.1 x.0.0 x.1 cs
  condition_number x = sum_of_map (condition_hits x) named_condition cs

  condition_few : (x : Numbers) → sum_by (condition_hits x) found ≤ 1
  condition_few x =
      subst (λ n. n ≤ 1) (sym (condition_number x))
      (few_times (condition_times x.0.1 x.0.0 x.1 cs) (λ some. once.condition_once x.0.1 x.0.0 x.1 (once.condition_own x.0.1 x.0.0 x.1 some)))

  stands_in : (x : Numbers) → Contains found x → IsConditionIn p x.0.1 x.0.0 x.1
  stands_in x has =
      once.condition_own x.0.1 x.0.0 x.1 (subst (λ n. 1 ≤ n) (condition_number x) (counted_there condition_hits condition_told found x has))

  is_found : (x : Numbers) → IsConditionIn p x.0.1 x.0.0 x.1 → Contains found x
  is_found x is =
      let one = once.condition_once x.0.1 x.0.0 x.1 is in
      there_counted condition_hits condition_told found x (omega (arith, condition_number x, one))

  condition_known : (x : Numbers) → Contains found x → IsOf (map decision_entry (decisions_of p.subprograms)) (1 + length p.instances) x
  condition_known x has =
      let is = stands_in x has in
      (condition_below p able x.0.1 x.0.0 x.1 is, instance_below p (record { instance = x.0.1; subprogram = is.subprogram }) is.stands)

  pub found_law : HaveConditions (map decision_entry (decisions_of p.subprograms)) (1 + length p.instances) found
  found_law = record {
    known = of_each_item (IsOf (map decision_entry (decisions_of p.subprograms)) (1 + length p.instances)) found condition_known;
    single = none_twice condition_hits condition_told found condition_few;
    whole = λ one has other below. is_found (one.0, other) (condition_beside p able one.0.1 one.0.0 one.1 other (stands_in one has) below);
  }
