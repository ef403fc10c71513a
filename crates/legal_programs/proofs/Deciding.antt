-- Decisions that are met one after the other.
use Rattle.std.proofs.Common.{◌≡◌, ◌≤◌, ◌+◌, ℕ, suc, nat_le, Bool, true, false, List, [], ◌∷◌, ◌++◌, length, refl, sym, ap, ◌∙◌, subst, arith, length-append}
use Rattle.std.specs.Prelude.{not}
use Rattle.std.proofs.lemmas.Bool.Decides.{nat_tests}
use Rattle.cov_base.specs.declared.position.Pos.{Pos}
use Rattle.ada_meaning.specs.Collected.{Decision, Standing}
use Rattle.ada_meaning.specs.Obligations.{numbers}
use Rattle.ada_meaning.specs.Tree as tree
use Rattle.ada_rules.specs.Environment.{State, decision_label, decided, exceeded}
use Rattle.ada_rules.specs.Expressions.{most_conditions, measured}
use Rattle.legal_laws.proofs.NumberedObjects.{numbers_joined}
use Rattle.legal_laws.proofs.Passing.{every_both}
use Rattle.legal_programs.specs.Deciding.{IsNarrow, Decides}
use Rattle.legal_programs.proofs.Lists.{map_joined}

pub decides_none : (s t : State) → t.decisions ≡ s.decisions → t.excesses ≡ s.excesses → Decides s [] t
decides_none s t e f = record { numbered = refl; next = omega (arith, e); few = λ h. (sym f ∙ h, tt) }

pub decides_same : (s : State) → Decides s [] s
decides_same s = decides_none s s refl refl

pub decides_joined : (s t u : State) (xs ys : List Decision) → Decides s xs t → Decides t ys u → Decides s (xs ++ ys) u
decides_joined s t u xs ys h k = record {
  numbered =
      map_joined (λ d. d.label.number) xs ys
      ∙ ((λ i. h.numbered i ++ k.numbered i)
      ∙ (ap (λ n. numbers s.decisions (length xs) ++ numbers n (length ys)) h.next
      ∙ (sym (numbers_joined s.decisions (length xs) (length ys)) ∙ ap (numbers s.decisions) (sym (length-append xs ys)))));
  next = let count = length-append xs ys in let first = h.next in let second = k.next in omega (arith, count, first, second);
  few = λ none. let later = k.few none in let earlier = h.few later.0 in (earlier.0, every_both IsNarrow xs ys earlier.1 later.1);
}

pub decides_as : (s t : State) (xs ys : List Decision) → xs ≡ ys → Decides s xs t → Decides s ys t
decides_as s t xs ys e h = subst (λ zs. Decides s zs t) e h

pub decides_behind : (s t u : State) (xs : List Decision) → Decides s [] t → Decides t xs u → Decides s xs u
decides_behind s t u xs h k = decides_joined s t u [] xs h k

pub decides_before : (s t u : State) (xs : List Decision) → Decides s xs t → u.decisions ≡ t.decisions → u.excesses ≡ t.excesses → Decides s xs u
decides_before s t u xs h e f = record { numbered = h.numbered; next = e ∙ h.next; few = λ none. h.few (sym f ∙ none) }

-- a decision, and those nested in it
no_place : (p : Pos) (ps : List Pos) → (p ∷ ps) ≡ [] → ⊥
no_place p ps e = cc

few_if : (b : Bool) (p : Pos) (s : State) → (exceeded b p s).excesses ≡ [] → (b ≡ false) × (s.excesses ≡ [])
few_if true p s h = absurd (no_place p s.excesses h)
few_if false p s h = (refl, h)

few_conditions : (n : ℕ) → not (nat_le n most_conditions) ≡ false → n ≤ most_conditions
few_conditions n h = by_test (nat_le n most_conditions) refl h
  where
    by_test : (b : Bool) → nat_le n most_conditions ≡ b → not b ≡ false → n ≤ most_conditions
    by_test true e k = grind (arith, nat_tests, e)
    by_test false e k = absurd (cc k)

kept_if : (b : Bool) (p : Pos) (s : State) → (exceeded b p s).decisions ≡ s.decisions
kept_if true p s = refl
kept_if false p s = refl

pub decides_measured : (s t : State) (p q : Pos) (standing : Standing) (statement : ℕ) (x : tree.Test) (ds : List Decision) → Decides (decided s) ds t
    → Decides s (record { standing = standing; statement = statement; label = decision_label s p; test = x } ∷ ds) (measured q x t)
decides_measured s t p q standing statement x ds h = record {
  numbered = let next : s.decisions + 1 ≡ suc s.decisions = omega (arith) in
      ap (λ ns. s.decisions ∷ ns) (h.numbered ∙ ap (λ n. numbers n (length ds)) next);
  next = let kept = kept_if (not (nat_le (tree.conditions_of x) most_conditions)) q t in let more = h.next in omega (arith, kept, more);
  few = λ none. let here = few_if (not (nat_le (tree.conditions_of x) most_conditions)) q t none in
      let rest = h.few here.1 in
      (rest.0, (few_conditions (tree.conditions_of x) here.0, rest.1));
}
