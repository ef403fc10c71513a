-- What stands in an instance of a program: the number of its statement is below theirs, its decision has the conditions that its entry has, and
-- the instance is one of the program's.
use Rattle.std.proofs.Common.{◌≡◌, ℕ, zero, suc, ◌+◌, ◌≤◌, ◌<◌, List, [], ◌∷◌, length, map, slice_get, Option, Some, None, option_map, refl, sym, ap, ◌∙◌, subst, arith, inl, inr}
use Rattle.ada_meaning.specs.Bodies.{Body, StandsIn, IsBody}
use Rattle.ada_meaning.specs.Collected.{Decision, block_labels, in_block, labels_of, decisions_of}
use Rattle.ada_meaning.specs.Obligations.{numbers, decision_entry}
use Rattle.ada_meaning.specs.Program.{Instance, Program}
use Rattle.ada_meaning.specs.Tree.{Label, conditions_of}
use Rattle.program_objects.proofs.DecisionEntries.{numbered_from, count_at}
use Rattle.program_objects.proofs.Placing.{numbers_law}
use Rattle.program_objects.proofs.TextsOf.{met, in_each_text}
use Rattle.program_objects.specs.Made.{IsCompilable}
use Rattle.cov_base.specs.Lists.{Everywhere, Somewhere}
use Rattle.object_format.specs.Fields.{condition_count}
use Rattle.statement_code.specs.Kernels.{text_at}
use Rattle.statement_code.specs.Own.{IsStatementIn, IsConditionIn}

-- instances

generic_there : (is : List Instance) (i g : ℕ) → option_map (λ (x : Instance). x.generic) (slice_get is i) ≡ Some g → i < length is
generic_there [] i g there = absurd (let none : ⊥ = cc there in none)
generic_there (x ∷ is) zero g there = omega arith
generic_there (x ∷ is) (suc i) g there = omega (arith, generic_there is i g there)

stands_below : (p : Program) (g : Option ℕ) (i : ℕ) → StandsIn p g i → i < 1 + length p.instances
stands_below p None i is = omega (arith, is)
stands_below p (Some g) zero is = absurd is
stands_below p (Some g) (suc i) is = omega (arith, generic_there p.instances i g is)

pub instance_below : (p : Program) (b : Body) → IsBody p b → b.instance < 1 + length p.instances
instance_below p b is = stands_below p is.declared.generic b.instance is.stands

-- statements

numbers_below : (from count n : ℕ) → from + count ≤ n → Everywhere (λ k. k < n) (numbers from count)
numbers_below from zero n within = tt
numbers_below from (suc count) n within = (omega (arith, within), numbers_below (suc from) count n (omega (arith, within)))

of_mapped : {X Y : Type 0} (P : Y → Type 0) (f : X → Y) (xs : List X) → Everywhere P (map f xs) → Everywhere (λ x. P (f x)) xs
of_mapped P f [] each = tt
of_mapped P f (x ∷ xs) each = (each.0, of_mapped P f xs each.1)

-- how many conditions the entry of a decision with this number has
abbrev pub count_of : Program → ℕ → ℕ
count_of p d = condition_count (slice_get (map decision_entry (decisions_of p.subprograms)) d)

-- a decision, and its list, with another of its conditions
other_condition : (count : ℕ → ℕ) (decision place other : ℕ) (hs : List Decision) → Everywhere (λ h. count h.label.number ≡ conditions_of h.test) hs → other < count decision
    → Somewhere (λ h. (h.label.number ≡ decision) × (place < conditions_of h.test)) hs → Somewhere (λ h. (h.label.number ≡ decision) × (other < conditions_of h.test)) hs
other_condition count decision place other [] each below there = absurd there
other_condition count decision place other (h ∷ hs) each below (inl is) = inl (is.0, omega (arith, each.0, ap count is.0, below))
other_condition count decision place other (h ∷ hs) each below (inr later) = inr (other_condition count decision place other hs each.1 below later)

module _ (p : Program) (able : IsCompilable p) where
  abbrev statements : ℕ
  statements = length (labels_of p.subprograms)

  pub labels_numbered : map (λ (l : Label). l.number) (labels_of p.subprograms) ≡ numbers 0 statements
  labels_numbered = subst (λ (ls : List Label). map (λ l. l.number) ls ≡ numbers 0 (length ls)) able.in_order able.numbered.statements

  labels_below : Everywhere (λ (l : Label). l.number < statements) (labels_of p.subprograms)
  labels_below =
      of_mapped (λ n. n < statements) (λ (l : Label). l.number) (labels_of p.subprograms)
      (subst (Everywhere (λ n. n < statements)) (sym labels_numbered) (numbers_below 0 statements statements (omega arith)))

  pub statement_below : (inst number : ℕ) → IsStatementIn p inst number → number < statements
  statement_below inst number stands =
      let one = met (λ (l : Label). l.number < statements) (λ l. l.number ≡ number) (block_labels (text_at p.subprograms stands.subprogram))
      (in_each_text block_labels labels_of refl refl (λ s ss. refl) (λ l. l.number < statements) p.subprograms stands.subprogram labels_below) stands.among in
      omega (arith, one.each, one.some)

  -- conditions

  decisions_counted : Everywhere (λ h. count_of p h.label.number ≡ conditions_of h.test) (decisions_of p.subprograms)
  decisions_counted =
      let hs = decisions_of p.subprograms in
      numbered_from (λ n h. count_of p n ≡ conditions_of h.test) 0 hs (numbers_law p able)
      (λ n h there. let same : 0 + n ≡ n = omega arith in ap (count_of p) same ∙ count_at hs n h there)

  text_counted : (m : ℕ) → Everywhere (λ h. count_of p h.label.number ≡ conditions_of h.test) (in_block (text_at p.subprograms m))
  text_counted m = in_each_text in_block decisions_of refl refl (λ s ss. refl) (λ h. count_of p h.label.number ≡ conditions_of h.test) p.subprograms m decisions_counted

  pub condition_below : (inst decision place : ℕ) → IsConditionIn p inst decision place → place < count_of p decision
  condition_below inst decision place stands =
      let one = met (λ (h : Decision). count_of p h.label.number ≡ conditions_of h.test) (λ h. (h.label.number ≡ decision) × (place < conditions_of h.test))
      (in_block (text_at p.subprograms stands.subprogram)) (text_counted stands.subprogram) stands.among in
      subst (λ d. place < count_of p d) one.some.0 (omega (arith, one.each, one.some.1))

  -- with a condition of a decision each other of it stands in that instance
  pub condition_beside : (inst decision place other : ℕ) → IsConditionIn p inst decision place → other < count_of p decision → IsConditionIn p inst decision other
  condition_beside inst decision place other stands below = record {
    subprogram = stands.subprogram;
    stands = stands.stands;
    among = other_condition (count_of p) decision place other (in_block (text_at p.subprograms stands.subprogram)) (text_counted stands.subprogram) below stands.among;
  }
