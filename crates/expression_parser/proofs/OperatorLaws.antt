-- What a look for an operator says of the reading there.
use Rattle.std.specs.Prelude.{Result, Ok, Err}
use Rattle.std.specs.Borrow.{Bor}
use Rattle.std.proofs.Common.{◌≡◌, ℕ, suc, true, false, [], ◌∷◌, length, Option, Some, None, refl, sym, ap, ◌∙◌, subst, arith}
use Rattle.std.proofs.lemmas.Bool.{false≢true}
use Rattle.ada_lexer.specs.declared.token.Token.{Token}
use Rattle.ada_syntax.specs.Tree.{Expr}
use Rattle.ada_syntax.specs.declared.expr.LogicalOperator.{LogicalOperator}
use Rattle.ada_syntax.specs.declared.expr.LogicalOperator.TheVariants as operator
use Rattle.expression_parser.specs.declared.symbol.Symbol.{Symbol}
use Rattle.expression_parser.specs.declared.symbol.Symbol.TheVariants as symbol
use Rattle.expression_parser.specs.declared.extent.Extent.{Extent}
use Rattle.expression_parser.specs.declared.extent.Extent.TheVariants.{Decisions, ShortCircuit}
use Rattle.expression_parser.specs.Symbols.{symbol_of, Is, same, first_word, second_word_of}
use Rattle.expression_parser.specs.Extents.{opens}
use Rattle.expression_parser.specs.Reading.{Tokens, Reader, Got, Stuck, Refuse, Leave, Take, Look, goes_on, turned, on_token, provided, accept, expect}
use Rattle.expression_parser.specs.ExpressionReading as read
use Rattle.expression_parser.specs.Depth as at
use Rattle.expression_parser.specs.declared.fault.Fault.{Fault}
use Rattle.expression_parser.specs.declared.fault.Fault.TheVariants.{Syntax, Memory}
use Rattle.expression_parser.specs.Shows.{Skipped, after}
use Rattle.expression_parser.specs.Operators.{Finds, FindsOperator, Joint, HalfJoint, paired, joining, extent_of, Chains}
use Rattle.expression_parser.proofs.Comes.{got_bind, got_expect, on_symbol}
use Rattle.expression_parser.proofs.NameCode.{Next, after_some, after_none}

module _ (x : Extent) where
  -- the second word of an operator
  second_none : (op : LogicalOperator) → second_word_of op ≡ None → (m : ℕ) (r : Reader Expr) (us : Tokens) → read.second_word x (read.expr x m) (suc m) op r us ≡ r us
  second_none operator.And h m r us = refl
  second_none operator.Or h m r us = refl
  second_none operator.Xor h m r us = refl
  second_none operator.AndThen h m r us = cc
  second_none operator.OrElse h m r us = cc

  abbrev skips : Symbol → Reader Expr → Reader Expr
  skips s r ts = goes_on (λ _. r) (expect s ts)

  second_some : (op : LogicalOperator) (s : Symbol) → second_word_of op ≡ Some s → (m : ℕ) (r : Reader Expr) (us : Tokens) → read.second_word x (read.expr x m) (suc m) op r us ≡ skips s r us
  second_some operator.And s h m r us = cc
  second_some operator.Or s h m r us = cc
  second_some operator.Xor s h m r us = cc
  second_some operator.AndThen s h m r us = ap (λ z. skips z r us) (some_same symbol.Then s h)
    where
      some_same : (a b : Symbol) → Some a ≡ Some b → a ≡ b
      some_same a b e = cc
  second_some operator.OrElse s h m r us = ap (λ z. skips z r us) (some_same symbol.Else s h)
    where
      some_same : (a b : Symbol) → Some a ≡ Some b → a ≡ b
      some_same a b e = cc

  pub joint_alone : (op : LogicalOperator) (ts us : Tokens) → after (first_word op) ts ≡ Some us → second_word_of op ≡ None → Joint x op ts us
  joint_alone op ts us a h = record {
    us = us;
    first = a;
    second = λ m r. second_none op h m r us;
    shorter = omega (arith, ap length (after_some (first_word op) ts us a).here);
  }

  pub joint_pair : (op : LogicalOperator) (s : Symbol) (ts us rest : Tokens) → after (first_word op) ts ≡ Some us → second_word_of op ≡ Some s → Skipped s us rest → Joint x op ts rest
  joint_pair op s ts us rest a h k = record {
    us = us;
    first = a;
    second = λ m r. second_some op s h m r us ∙ got_bind (λ _. r) k.here refl;
    shorter = omega (arith, ap length (after_some (first_word op) ts us a).here, k.shorter);
  }

  pub half_joint : (op : LogicalOperator) (s : Symbol) (ts us rest : Tokens) → after (first_word op) ts ≡ Some us → second_word_of op ≡ Some s → expect s us ≡ Stuck rest → HalfJoint x op ts rest
  half_joint op s ts us rest a h e = record {
    us = us;
    first = a;
    second = λ m r. second_some op s h m r us ∙ ap (goes_on (λ _. r)) e;
  }

  -- `and` without `then`, `or` without `else`
  and_alone_at : (m : ℕ) (a : Expr) (us : Tokens) → after symbol.Then us ≡ None → on_token Refuse (read.and_turn x (read.expr x m) (suc m) a) us ≡ at.at_chain x operator.And a m us
  and_alone_at m a [] h = refl
  and_alone_at m a (u ∷ vs) h = ap (λ z. turned z u vs) (other (symbol_of u.lexeme) (after_none symbol.Then u vs h).is_not)
    where
      other : (s : Symbol) → same s symbol.Then ≡ false → read.and_turn x (read.expr x m) (suc m) a s u ≡ Look (at.at_chain x operator.And a m)
      other symbol.Then e = cc
      other _ e = refl

  or_alone_at : (m : ℕ) (a : Expr) (us : Tokens) → after symbol.Else us ≡ None → on_token Refuse (read.or_turn x (read.expr x m) (suc m) a) us ≡ at.at_chain x operator.Or a m us
  or_alone_at m a [] h = refl
  or_alone_at m a (u ∷ vs) h = ap (λ z. turned z u vs) (other (symbol_of u.lexeme) (after_none symbol.Else u vs h).is_not)
    where
      other : (s : Symbol) → same s symbol.Else ≡ false → read.or_turn x (read.expr x m) (suc m) a s u ≡ Look (at.at_chain x operator.Or a m)
      other symbol.Else e = cc
      other _ e = refl

  and_alone : (t : Token) (us : Tokens) → Is symbol.And t → opens x Decisions ≡ true → after symbol.Then us ≡ None → Chains x operator.And (t ∷ us) us
  and_alone t us i o h = record {
    by = λ a m. on_symbol (Leave a) (read.logical_turn x (read.expr x m) (suc m) a) symbol.And t us i
        ∙ (ap (λ b. turned (provided b (Take (on_token Refuse (read.and_turn x (read.expr x m) (suc m) a)))) t us) o ∙ and_alone_at m a us h);
    shorter = omega arith;
  }

  or_alone : (t : Token) (us : Tokens) → Is symbol.Or t → opens x Decisions ≡ true → after symbol.Else us ≡ None → Chains x operator.Or (t ∷ us) us
  or_alone t us i o h = record {
    by = λ a m. on_symbol (Leave a) (read.logical_turn x (read.expr x m) (suc m) a) symbol.Or t us i
        ∙ (ap (λ b. turned (provided b (Take (on_token Refuse (read.or_turn x (read.expr x m) (suc m) a)))) t us) o ∙ or_alone_at m a us h);
    shorter = omega arith;
  }

  -- `and then`, `or else`
  and_pair_at : (m : ℕ) (a : Expr) (us vs : Tokens) → Next symbol.Then us vs → opens x ShortCircuit ≡ true → on_token Refuse (read.and_turn x (read.expr x m) (suc m) a) us ≡ at.at_chain x operator.AndThen a m vs
  and_pair_at m a us vs n o =
      rw n.here
      (on_symbol Refuse (read.and_turn x (read.expr x m) (suc m) a) symbol.Then n.t vs n.is
      ∙ ap (λ b. turned (provided b (Take (at.at_chain x operator.AndThen a m))) n.t vs) o)

  or_pair_at : (m : ℕ) (a : Expr) (us vs : Tokens) → Next symbol.Else us vs → opens x ShortCircuit ≡ true → on_token Refuse (read.or_turn x (read.expr x m) (suc m) a) us ≡ at.at_chain x operator.OrElse a m vs
  or_pair_at m a us vs n o =
      rw n.here
      (on_symbol Refuse (read.or_turn x (read.expr x m) (suc m) a) symbol.Else n.t vs n.is
      ∙ ap (λ b. turned (provided b (Take (at.at_chain x operator.OrElse a m))) n.t vs) o)

  and_pair : (t : Token) (us vs : Tokens) → Is symbol.And t → opens x Decisions ≡ true → after symbol.Then us ≡ Some vs → opens x ShortCircuit ≡ true → Chains x operator.AndThen (t ∷ us) vs
  and_pair t us vs i o h s =
      let n = after_some symbol.Then us vs h in
      record {
        by = λ a m. on_symbol (Leave a) (read.logical_turn x (read.expr x m) (suc m) a) symbol.And t us i
            ∙ (ap (λ b. turned (provided b (Take (on_token Refuse (read.and_turn x (read.expr x m) (suc m) a)))) t us) o ∙ and_pair_at m a us vs n s);
        shorter = omega (arith, ap length n.here);
      }

  or_pair : (t : Token) (us vs : Tokens) → Is symbol.Or t → opens x Decisions ≡ true → after symbol.Else us ≡ Some vs → opens x ShortCircuit ≡ true → Chains x operator.OrElse (t ∷ us) vs
  or_pair t us vs i o h s =
      let n = after_some symbol.Else us vs h in
      record {
        by = λ a m. on_symbol (Leave a) (read.logical_turn x (read.expr x m) (suc m) a) symbol.Or t us i
            ∙ (ap (λ b. turned (provided b (Take (on_token Refuse (read.or_turn x (read.expr x m) (suc m) a)))) t us) o ∙ or_pair_at m a us vs n s);
        shorter = omega (arith, ap length n.here);
      }

  xor_alone : (t : Token) (us : Tokens) → Is symbol.Xor t → opens x Decisions ≡ true → Chains x operator.Xor (t ∷ us) us
  xor_alone t us i o = record {
    by = λ a m. on_symbol (Leave a) (read.logical_turn x (read.expr x m) (suc m) a) symbol.Xor t us i
        ∙ ap (λ b. turned (provided b (Take (at.at_chain x operator.Xor a m))) t us) o;
    shorter = omega arith;
  }

  -- `and then` and `or else` whose part of the grammar is closed
  and_pair_closed : (t : Token) (us vs : Tokens) → Is symbol.And t → opens x Decisions ≡ true → after symbol.Then us ≡ Some vs → opens x ShortCircuit ≡ false → (a : Expr) (m : ℕ) → at.at_logical_rest x a m (t ∷ us) ≡ Stuck us
  and_pair_closed t us vs i o h s a m =
      let n = after_some symbol.Then us vs h in
      let turn = read.and_turn x (read.expr x m) (suc m) a in
      on_symbol (Leave a) (read.logical_turn x (read.expr x m) (suc m) a) symbol.And t us i
      ∙ (ap (λ b. turned (provided b (Take (on_token Refuse turn))) t us) o
      ∙ rw n.here (on_symbol Refuse turn symbol.Then n.t vs n.is ∙ ap (λ b. turned (provided b (Take (at.at_chain x operator.AndThen a m))) n.t vs) s))

  or_pair_closed : (t : Token) (us vs : Tokens) → Is symbol.Or t → opens x Decisions ≡ true → after symbol.Else us ≡ Some vs → opens x ShortCircuit ≡ false → (a : Expr) (m : ℕ) → at.at_logical_rest x a m (t ∷ us) ≡ Stuck us
  or_pair_closed t us vs i o h s a m =
      let n = after_some symbol.Else us vs h in
      let turn = read.or_turn x (read.expr x m) (suc m) a in
      on_symbol (Leave a) (read.logical_turn x (read.expr x m) (suc m) a) symbol.Or t us i
      ∙ (ap (λ b. turned (provided b (Take (on_token Refuse turn))) t us) o
      ∙ rw n.here (on_symbol Refuse turn symbol.Else n.t vs n.is ∙ ap (λ b. turned (provided b (Take (at.at_chain x operator.OrElse a m))) n.t vs) s))

  -- what the operator that begins with a symbol says of the reading there
  pub joins_nothing : (t : Token) (us : Tokens) → joining (symbol_of t.lexeme) us ≡ None → (a : Expr) (m : ℕ) → at.at_logical_rest x a m (t ∷ us) ≡ Got a (t ∷ us)
  joins_nothing t us h a m = ap (λ z. turned z t us) (leaves (symbol_of t.lexeme) h)
    where
      leaves : (s : Symbol) → joining s us ≡ None → read.logical_turn x (read.expr x m) (suc m) a s t ≡ Leave a
      leaves symbol.And e = cc
      leaves symbol.Or e = cc
      leaves symbol.Xor e = cc
      leaves _ e = refl

  pub joins_closed : (t : Token) (us : Tokens) (p : LogicalOperator × Tokens) → joining (symbol_of t.lexeme) us ≡ Some p → opens x Decisions ≡ false → (a : Expr) (m : ℕ) → at.at_logical_rest x a m (t ∷ us) ≡ Stuck (t ∷ us)
  joins_closed t us p h o a m = ap (λ z. turned z t us) (refuses (symbol_of t.lexeme) h)
    where
      refuses : (s : Symbol) → joining s us ≡ Some p → read.logical_turn x (read.expr x m) (suc m) a s t ≡ Refuse
      refuses symbol.And e = ap (λ b. provided b (Take (on_token Refuse (read.and_turn x (read.expr x m) (suc m) a)))) o
      refuses symbol.Or e = ap (λ b. provided b (Take (on_token Refuse (read.or_turn x (read.expr x m) (suc m) a)))) o
      refuses symbol.Xor e = ap (λ b. provided b (Take (at.at_chain x operator.Xor a m))) o
      refuses _ e = cc

  -- a claim about each operator and the tokens behind it
  module _ (t : Token) (us : Tokens) (P : LogicalOperator × Tokens → Type 0) (and_one : Is symbol.And t → after symbol.Then us ≡ None → P (operator.And, us)) (and_two : (vs : Tokens) → Is symbol.And t → after symbol.Then us ≡ Some vs → P (operator.AndThen, vs)) (or_one : Is symbol.Or t → after symbol.Else us ≡ None → P (operator.Or, us)) (or_two : (vs : Tokens) → Is symbol.Or t → after symbol.Else us ≡ Some vs → P (operator.OrElse, vs)) (xor : Is symbol.Xor t → P (operator.Xor, us)) where
    some_same : (p q : LogicalOperator × Tokens) → Some p ≡ Some q → p ≡ q
    some_same p q e = cc

    by_and : Is symbol.And t → (o : Option Tokens) → after symbol.Then us ≡ o → P (paired operator.AndThen operator.And us o)
    by_and i None h = and_one i h
    by_and i (Some vs) h = and_two vs i h

    by_or : Is symbol.Or t → (o : Option Tokens) → after symbol.Else us ≡ o → P (paired operator.OrElse operator.Or us o)
    by_or i None h = or_one i h
    by_or i (Some vs) h = or_two vs i h

    each_at : (p : LogicalOperator × Tokens) (s : Symbol) → symbol_of t.lexeme ≡ s → joining s us ≡ Some p → P p
    each_at p symbol.And i e = subst P (some_same (paired operator.AndThen operator.And us (after symbol.Then us)) p e) (by_and i (after symbol.Then us) refl)
    each_at p symbol.Or i e = subst P (some_same (paired operator.OrElse operator.Or us (after symbol.Else us)) p e) (by_or i (after symbol.Else us) refl)
    each_at p symbol.Xor i e = subst P (some_same (operator.Xor, us) p e) (xor i)
    each_at p _ i e = cc

    each_operator : (p : LogicalOperator × Tokens) → joining (symbol_of t.lexeme) us ≡ Some p → P p
    each_operator p e = each_at p (symbol_of t.lexeme) refl e

  pub joins : (t : Token) (us : Tokens) (p : LogicalOperator × Tokens) → joining (symbol_of t.lexeme) us ≡ Some p → opens x Decisions ≡ true → opens x (extent_of p.0) ≡ true → Chains x p.0 (t ∷ us) p.1
  joins t us p h o e = each_operator t us (λ z. opens x (extent_of z.0) ≡ true → Chains x z.0 (t ∷ us) z.1)
      (λ i n s. and_alone t us i o n) (λ vs i n s. and_pair t us vs i o n s) (λ i n s. or_alone t us i o n) (λ vs i n s. or_pair t us vs i o n s) (λ i s. xor_alone t us i o) p h e

  pub joins_closed_pair : (t : Token) (us : Tokens) (p : LogicalOperator × Tokens) → joining (symbol_of t.lexeme) us ≡ Some p → opens x Decisions ≡ true → opens x (extent_of p.0) ≡ false → (a : Expr) (m : ℕ) → at.at_logical_rest x a m (t ∷ us) ≡ Stuck us
  joins_closed_pair t us p h o e = each_operator t us (λ z. opens x (extent_of z.0) ≡ false → (a : Expr) (m : ℕ) → at.at_logical_rest x a m (t ∷ us) ≡ Stuck us)
      (λ i n s. absurd (false≢true (sym s ∙ o))) (λ vs i n s. and_pair_closed t us vs i o n s) (λ i n s. absurd (false≢true (sym s ∙ o))) (λ vs i n s. or_pair_closed t us vs i o n s)
      (λ i s. absurd (false≢true (sym s ∙ o))) p h e

-- what the first token says of the operator that stands next
pub found_operator : {A : Type 0} (of : Symbol → Option A) (x needed : Extent) (ts : Tokens) (t : Token) (us : Tokens) (o : Option A) (r : Result (Option (A × Bor Tokens)) Fault) → ts ≡ t ∷ us → o ≡ of (symbol_of t.lexeme)
    → Finds o x needed ts us r → FindsOperator of x needed ts r
found_operator of x needed ts t us None (Ok None) e is f = rw e (sym is)
found_operator of x needed ts t us None (Ok (Some p)) e is f = absurd f
found_operator of x needed ts t us None (Err g) e is f = absurd f
found_operator of x needed ts t us (Some op) (Ok None) e is f = absurd f
found_operator of x needed ts t us (Some op) (Ok (Some p)) e is f = record { t = t; here = e ∙ ap (λ vs. t ∷ vs) (sym f.1); is = sym is ∙ ap Some (sym f.0); opened = f.2 }
found_operator of x needed ts t us (Some op) (Err (Syntax rest)) e is f = record { t = t; us = us; op = op; here = e; is = sym is; closed = f.0; place = f.1 }
found_operator of x needed ts t us (Some op) (Err Memory) e is f = absurd f

-- a word that stands next, and one that does not
taken : (s : Symbol) (ts us : Tokens) → Next s ts us → Skipped s ts us
taken s ts us n = record { t = n.t; here = ap (expect s) n.here ∙ got_expect s n.t us n.is; shorter = omega (arith, ap length n.here) }

pub word_taken : (s : Symbol) (ts us : Tokens) → after s ts ≡ Some us → Skipped s ts us
word_taken s ts us e = taken s ts us (after_some s ts us e)

pub no_word : (s : Symbol) (ts : Tokens) → after s ts ≡ None → expect s ts ≡ Stuck ts
no_word s [] e = refl
no_word s (t ∷ vs) e = ap (λ b. turned (accept b t) t vs) (after_none s t vs e).is_not

pub ruleset joints = (joint_alone, joint_pair, half_joint)
