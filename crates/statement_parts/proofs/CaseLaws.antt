-- Alternatives of case statements.
use Rattle.std.proofs.Common.{◌≡◌, ℕ, ◌+◌, ◌<◌, nat_eq, Bool, true, false, not, ◌&&◌, ◌||◌, List, [], ◌∷◌, length, map, drop, get_or, Some, None, Result, Ok, Err, if◌then◌else◌, refl, sym, ap, ◌∙◌, inl, inr, eq-eqb, length-drop, arith}
use Rattle.std.proofs.lemmas.Bool.{ne_eqb}
use Rattle.std.proofs.lemmas.Bool.Decides.{eqb_tells}
use Rattle.std.proofs.lemmas.List.{at_drop_more, length-map}
use Rattle.cov_base.specs.declared.position.Pos.{Pos}
use Rattle.cov_base.specs.declared.failure.Failure.{Failure}
use Rattle.ada_meaning.specs.Tree as tree
use Rattle.ada_meaning.specs.Types as meaning
use Rattle.ada_tree.specs.declared.statement.Alternative.{Alternative}
use Rattle.ada_tree.specs.Programs.{unfolded_statement, unfolded_statements, unfolded_alternatives}
use Rattle.ada_tree.specs.View as view
use Rattle.ada_tree.specs.View.{choice_of}
use Rattle.ada_rules.specs.Plan.{ruled, answer_at}
use Rattle.ada_rules.specs.Statics.{Spans, covers}
use Rattle.ada_rules.specs.Environment.{State, Given, given, Env, demanded, statement_label}
use Rattle.ada_rules.specs.Statements.{one, stmts_of, Selector, Arm, alternatives_of, has_others, choices_in, ends_with_others, case_of}
use Rattle.ada_entities.specs.declared.fault.Refusal.{Refusal}
use Rattle.ada_entities.specs.Answers.{refusal, Refuses, refused_at, no_memory}
use Rattle.ada_entities.specs.EntityViews.{Tables}
use Rattle.ada_entities.specs.Trees.{shapes_in_tree}
use Rattle.statement_parts.specs.Cases.{arm_in, arms_in, covering}

-- an alternative with `others`
there : (a : Arm) (rest : List Arm) → has_others a.choices ≡ true
    → ends_with_others (a ∷ rest) ≡ (nat_eq (length rest) 0 && nat_eq (length a.choices) 1)
there a [] h = ap (λ b. not b || nat_eq (length a.choices) 1) h
there a (c ∷ rest) h =
    ap (λ b. not b && ends_with_others (c ∷ rest)) h
    ∙ ap (λ b. b && nat_eq (length a.choices) 1) (sym (ne_eqb (length (c ∷ rest)) 0 (λ e. omega (arith, e))))

is_behind : (n m l : ℕ) → n + m ≡ l → nat_eq m 0 ≡ nat_eq n l
is_behind n m l h =
    elim (eqb_tells m 0) [ inl w ↦ w.0 ∙ sym (eq-eqb n l (omega (arith, h, w.1))) | inr w ↦ w.0 ∙ sym (ne_eqb n l (λ e. w.1 (omega (arith, h, e)))) ]

module _ (k : Tables) where
  pub statements_in : (types : List meaning.Subtype) (xs : List tree.Stmt)
      → unfolded_statements types (view.statements_of xs) ≡ stmts_of (map (unfolded_statement types) xs)
  statements_in types [] = refl
  statements_in types (x ∷ xs) = ap (tree.and_statement (unfolded_statement types x)) (statements_in types xs)

  pub alternatives_in : (xs : List Alternative)
      → unfolded_alternatives (shapes_in_tree k.types) (view.alternatives_of xs) ≡ alternatives_of (arms_in k xs)
  alternatives_in [] = refl
  alternatives_in (a ∷ xs) =
      λ z. tree.alternative (map choice_of a.choices) (statements_in (shapes_in_tree k.types) a.statements.items z) (alternatives_in xs z)

  module _ (arms : List Alternative) (i : ℕ) (a : Alternative) (h : i < length arms) (is : a ≡ get_or arms i a) where
    turn : {B : Type 0} (f : List Arm → B) → f (arms_in k (drop i arms)) ≡ f (arm_in k a ∷ arms_in k (drop (i + 1) arms))
    turn f = at_drop_more (λ ys. f (arms_in k ys)) arms i a h ∙ ap (λ y. f (arms_in k (y ∷ drop (i + 1) arms))) (sym is)

    pub with_others : has_others (map choice_of a.choices) ≡ true
        → ends_with_others (arms_in k (drop i arms)) ≡ (nat_eq (i + 1) (length arms) && nat_eq (length a.choices) 1)
    with_others h1 =
        turn ends_with_others
        ∙ (there (arm_in k a) (arms_in k (drop (i + 1) arms)) h1
        ∙ (λ z. is_behind (i + 1) (length (arms_in k (drop (i + 1) arms))) (length arms) behind z && nat_eq (length-map a.choices choice_of z) 1))
      where
        behind : i + 1 + length (arms_in k (drop (i + 1) arms)) ≡ length arms
        behind = omega (arith, h, length-map (drop (i + 1) arms) (arm_in k), length-drop (i + 1) arms)

-- a case statement behind its alternatives, and the demand that it makes
module _ (env : Env) (s : State) (p : Pos) (v : Spans) (arms : List Arm) where
  abbrev demand_made : State
  demand_made = demanded env p (covers v (has_others (choices_in arms)) (choices_in arms)) s

  pub cover_refused : ends_with_others arms ≡ false → Refuses (answer_at p (ruled (covering env p v arms s))) (refusal p)
  cover_refused h = refused_at (ap (λ b. answer_at p (ruled (if b then Some demand_made else None))) h)

  pub cover_passes : ends_with_others arms ≡ true → answer_at p (ruled (covering env p v arms s)) ≡ Ok demand_made
  cover_passes h = ap (λ b. answer_at p (ruled (if b then Some demand_made else None))) h

abbrev pub after : {A B : Type 0} → (A → B) → Result A Pos → Result B Pos
after f (Ok x) = Ok (f x)
after f (Err p) = Err p

after_test : {A B : Type 0} (f : A → B) (p : Pos) (b : Bool) (x : A)
    → answer_at p (ruled (if b then Some (f x) else None)) ≡ after f (answer_at p (ruled (if b then Some x else None)))
after_test f p true x = refl
after_test f p false x = refl

pub after_refused : {A B : Type 0} (f : A → B) (r : Result A Pos) (fault : Failure Refusal) → Refuses r fault → Refuses (after f r) fault
after_refused f r fault (refused_at h) = refused_at (ap (after f) h)
after_refused f r fault no_memory = no_memory

pub case_covered : (env : Env) (before s : State) (p : Pos) (x : Selector) (arms : List Arm)
    → answer_at p (ruled (case_of env before p x (given arms s)))
    ≡ after (one (tree.case_statement (statement_label before p) x.expr (alternatives_of arms))) (answer_at p (ruled (covering env p x.values arms s)))
case_covered env before s p x arms =
    after_test (one (tree.case_statement (statement_label before p) x.expr (alternatives_of arms))) p (ends_with_others arms) (demand_made env s p x.values arms)
