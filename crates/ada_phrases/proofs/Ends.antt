-- Where a walk begins, and where it is refused at once.
use Rattle.std.proofs.Common.{◌≡◌, ℕ, ◌+◌, ◌<◌, ◌≤◌, length, get_or, drop, List, [], ◌∷◌, ◌++◌, Option, Result, Ok, Err, refl, sym, ap, ◌∙◌, append-nil, true, sum_by, arith}
use Rattle.std.proofs.lemmas.Bool.{false≢true}
use Rattle.std.proofs.lemmas.List.{at_drop_more, at_drop_all}
use Rattle.std.proofs.lemmas.List.Sums.{sum_by-cons}
use Rattle.cov_base.specs.declared.position.Pos.{Pos}
use Rattle.cov_base.specs.declared.failure.Failure.{Failure}
use Rattle.ada_syntax.specs.Tree.{Expr, binary, logical, simple, expr_size}
use Rattle.ada_syntax.specs.TreeView.{exprs_of, with_operands, joined, with_suffixes, is_filled}
use Rattle.ada_syntax.proofs.SizeLaws.{operand_size, expr_size-with_operands, expr_size-joined}
use Rattle.ada_syntax.specs.declared.expr.LogicalOperator.{LogicalOperator}
use Rattle.ada_syntax.specs.declared.expr.Operand.{Operand}
use Rattle.ada_syntax.specs.declared.name.Identifier.{Identifier}
use Rattle.ada_syntax.specs.declared.name.Suffix.{Suffix}
use Rattle.ada_rules.specs.Plan.{Plan, answer_at}
use Rattle.ada_rules.specs.Entities.{Entity, key, visible}
use Rattle.ada_rules.specs.Environment.{State, Given, given, Env, regions_of}
use Rattle.ada_rules.specs.Denoted as rules
use Rattle.ada_rules.specs.Expressions.{itself, named, denoted, judged, all_judged}
use Rattle.ada_entities.specs.declared.fault.Refusal.{Refusal}
use Rattle.ada_entities.specs.Answers.{Refuses, refused_at, no_memory}
use Rattle.ada_phrases.specs.Answers.{along, before}
use Rattle.ada_phrases.specs.Steps.{suffix_in}
use Rattle.ada_phrases.proofs.Parts.{refused_as}
use Rattle.ada_phrases.proofs.Walks.{suffixes_along, one_judged, one_refused}

along_refused : {A X : Type 0} (p : Pos) (f : A → X → Plan A) (q : Pos) (xs : List X) → along p f (Err q) xs ≡ Err q
along_refused p f q [] = refl
along_refused p f q (x ∷ xs) = along_refused p f q xs

pub along_refuses : {A X : Type 0} (p : Pos) (f : A → X → Plan A) (r : Result A Pos) (xs : List X) (fault : Failure Refusal) → Refuses r fault
    → Refuses (along p f r xs) fault
along_refuses p f r xs fault (refused_at {p = q} h) = refused_at (ap (λ r. along p f r xs) h ∙ along_refused p f q xs)
along_refuses p f r xs fault no_memory = no_memory

-- a name, from its first identifier on
pub name_along : (env : Env) (s : State) (i : Identifier) (ss : List Suffix) (x : Option Entity) → x ≡ visible (key i) (regions_of env)
    → (denoted env s (with_suffixes (simple i) ss)).answer ≡ along i.pos (suffix_in env i.pos) (answer_at i.pos (named s x).outcome) ss
name_along env s i ss x e =
    suffixes_along env s (simple i) ss ∙ ap (λ y. along i.pos (suffix_in env i.pos) (answer_at i.pos (named s y).outcome) ss) (sym e)

-- expressions one by one
module _ (env : Env) (p : Pos) (s : State) (es : List Expr) (i : ℕ) (e : Expr) where
  pub expr_passes : (done : List rules.Judged) (x : Given rules.Judged) → i < length es → e ≡ get_or es i e → (judged env itself s e).answer ≡ Ok x
      → before done (all_judged env s p (exprs_of (drop i es))).answer
      ≡ before (done ++ x.value ∷ []) (all_judged env x.next p (exprs_of (drop (i + 1) es))).answer
  expr_passes done x h is ok =
      at_drop_more (λ xs. before done (all_judged env s p (exprs_of xs)).answer) es i e h
      ∙ (ap (λ y. before done (all_judged env s p (exprs_of (y ∷ drop (i + 1) es))).answer) (sym is)
      ∙ one_judged env s p done e (exprs_of (drop (i + 1) es)) x ok)

  pub expr_refused : (done : List rules.Judged) (f : Failure Refusal) → i < length es → e ≡ get_or es i e → Refuses (judged env itself s e).answer f
      → Refuses (before done (all_judged env s p (exprs_of (drop i es))).answer) f
  expr_refused done f h is r =
      refused_as _ _ f
      (at_drop_more (λ xs. before done (all_judged env s p (exprs_of xs)).answer) es i e h
      ∙ ap (λ y. before done (all_judged env s p (exprs_of (y ∷ drop (i + 1) es))).answer) (sym is))
      (one_refused env s p done e (exprs_of (drop (i + 1) es)) f r)

pub exprs_end : (env : Env) (p : Pos) (s : State) (es : List Expr) (i : ℕ) (done : List rules.Judged) → length es ≤ i
    → before done (all_judged env s p (exprs_of (drop i es))).answer ≡ Ok (given done s)
exprs_end env p s es i done h =
    at_drop_all (λ xs. before done (all_judged env s p (exprs_of xs)).answer) es i h ∙ ap (λ xs. Ok (given xs s)) (append-nil done)

pub none_before : (r : Result (Given (List rules.Judged)) Pos) → r ≡ before [] r
none_before (Ok g) = refl
none_before (Err q) = refl

-- operators with operands are larger than what they are made of
pub filled_size : (p : Pos) (a : Expr) (os : List Operand) → is_filled os ≡ true → expr_size a + sum_by operand_size os + 1 ≤ expr_size (with_operands p a os)
filled_size p a [] h = absurd (false≢true h)
filled_size p a (o ∷ os) h = omega (arith, expr_size-with_operands p (binary p a o.operator o.operand) os, sum_by-cons operand_size o os)

pub filled_joined : (p : Pos) (op : LogicalOperator) (a : Expr) (bs : List Expr) → is_filled bs ≡ true
    → expr_size a + sum_by expr_size bs + 1 ≤ expr_size (joined p op a bs)
filled_joined p op a [] h = absurd (false≢true h)
filled_joined p op a (b ∷ bs) h = omega (arith, expr_size-joined p op (logical p a op b) bs, sum_by-cons expr_size b bs)
