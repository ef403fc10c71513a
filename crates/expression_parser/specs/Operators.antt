-- What a look for an operator answers.
use Rattle.std.specs.Prelude.{◌≡◌, ℕ, suc, ◌<◌, length, [], ◌∷◌, true, false, Option, Some, None, Result, Ok, Err, ⊤}
use Rattle.std.specs.Borrow.{Bor}
use Rattle.ada_lexer.specs.declared.token.Token.{Token}
use Rattle.ada_syntax.specs.Tree.{Expr}
use Rattle.ada_syntax.specs.declared.expr.LogicalOperator.{LogicalOperator}
use Rattle.ada_syntax.specs.declared.expr.LogicalOperator.TheVariants as operator
use Rattle.expression_parser.specs.declared.fault.Fault.{Fault}
use Rattle.expression_parser.specs.declared.fault.Fault.TheVariants.{Syntax, Memory}
use Rattle.expression_parser.specs.declared.symbol.Symbol.{Symbol}
use Rattle.expression_parser.specs.declared.symbol.Symbol.TheVariants as symbol
use Rattle.expression_parser.specs.declared.extent.Extent.{Extent}
use Rattle.expression_parser.specs.declared.extent.Extent.TheVariants.{Decisions, ShortCircuit}
use Rattle.expression_parser.specs.Extents.{opens}
use Rattle.expression_parser.specs.Symbols.{symbol_of, first_word}
use Rattle.expression_parser.specs.Reading.{Tokens, Reader, Got, Stuck}
use Rattle.expression_parser.specs.ExpressionReading as read
use Rattle.expression_parser.specs.Depth as at
use Rattle.expression_parser.specs.Shows.{after}

-- the operator that the next token is
abbrev pub next_operator : {A : Type 0} → (Symbol → Option A) → Tokens → Option A
next_operator of [] = None
next_operator of (t ∷ us) = of (symbol_of t.lexeme)

-- this operator stands next, and its part of the grammar is open
pub record Operates {A : Type 0} (of : Symbol → Option A) (x needed : Extent) (ts rest : Tokens) (op : A) : Type 0 where
  pub t : Token
  pub here : ts ≡ t ∷ rest
  pub is : of (symbol_of t.lexeme) ≡ Some op
  pub opened : opens x needed ≡ true

-- an operator stands next whose part of the grammar is closed
pub record IsClosed {A : Type 0} (of : Symbol → Option A) (x needed : Extent) (ts rest : Tokens) : Type 0 where
  pub t : Token
  pub us : Tokens
  pub op : A
  pub here : ts ≡ t ∷ us
  pub is : of (symbol_of t.lexeme) ≡ Some op
  pub closed : opens x needed ≡ false
  pub place : rest ≡ ts

-- an operator that was looked at, before these tokens, if the first one of `ts` is one: it comes with an extent
abbrev pub Finds : {A : Type 0} → Option A → Extent → Extent → Tokens → Tokens → Result (Option (A × Bor Tokens)) Fault → Type 0
Finds None x needed ts us (Ok None) = ⊤
Finds None x needed ts us (Ok (Some p)) = ⊥
Finds None x needed ts us (Err f) = ⊥
Finds (Some op) x needed ts us (Ok None) = ⊥
Finds (Some op) x needed ts us (Ok (Some p)) = (p.0 ≡ op) × (p.1.now ≡ us) × (opens x needed ≡ true)
Finds (Some op) x needed ts us (Err (Syntax rest)) = (opens x needed ≡ false) × (rest.now ≡ ts)
Finds (Some op) x needed ts us (Err Memory) = ⊥

-- the answer of a look for an operator, which comes with an extent
abbrev pub FindsOperator : {A : Type 0} → (Symbol → Option A) → Extent → Extent → Tokens → Result (Option (A × Bor Tokens)) Fault → Type 0
FindsOperator of x needed ts (Ok None) = next_operator of ts ≡ None
FindsOperator of x needed ts (Ok (Some p)) = Operates of x needed ts p.1.now p.0
FindsOperator of x needed ts (Err (Syntax rest)) = IsClosed of x needed ts rest.now
FindsOperator of x needed ts (Err Memory) = ⊥

-- the words of an operator stand next that joins a further relation, and `rest` is behind them
pub record Joint (x : Extent) (op : LogicalOperator) (ts rest : Tokens) : Type 0 where
  pub us : Tokens
  pub first : after (first_word op) ts ≡ Some us
  pub second : (m : ℕ) (r : Reader Expr) → read.second_word x (read.expr x m) (suc m) op r us ≡ r rest
  pub shorter : length rest < length ts

-- its first word stands next, and its second one does not follow
pub record HalfJoint (x : Extent) (op : LogicalOperator) (ts rest : Tokens) : Type 0 where
  pub us : Tokens
  pub first : after (first_word op) ts ≡ Some us
  pub second : (m : ℕ) (r : Reader Expr) → read.second_word x (read.expr x m) (suc m) op r us ≡ Stuck rest

-- the answer of a look for that operator
abbrev pub FindsJoint : Extent → LogicalOperator → Tokens → Result (Option (Bor Tokens)) Fault → Type 0
FindsJoint x op ts (Ok None) = after (first_word op) ts ≡ None
FindsJoint x op ts (Ok (Some rest)) = Joint x op ts rest.now
FindsJoint x op ts (Err (Syntax rest)) = HalfJoint x op ts rest.now
FindsJoint x op ts (Err Memory) = ⊤

-- the operator that joins relations and begins with this symbol, before these tokens, and what stands behind its words
abbrev pub paired : (pair : LogicalOperator) → (alone : LogicalOperator) → Tokens → Option Tokens → LogicalOperator × Tokens
paired pair alone us None = (alone, us)
paired pair alone us (Some vs) = (pair, vs)

abbrev pub joining : Symbol → Tokens → Option (LogicalOperator × Tokens)
joining symbol.And us = Some (paired operator.AndThen operator.And us (after symbol.Then us))
joining symbol.Or us = Some (paired operator.OrElse operator.Or us (after symbol.Else us))
joining symbol.Xor us = Some (operator.Xor, us)
joining _ us = None

abbrev pub behind_operator : LogicalOperator × Bor Tokens → LogicalOperator × Tokens
behind_operator p = (p.0, p.1.now)

-- the extent that it comes with
abbrev pub extent_of : LogicalOperator → Extent
extent_of operator.And = Decisions
extent_of operator.Or = Decisions
extent_of operator.Xor = Decisions
extent_of operator.AndThen = ShortCircuit
extent_of operator.OrElse = ShortCircuit

-- what follows a first relation is a chain with this operator
pub record Chains (x : Extent) (op : LogicalOperator) (ts rest : Tokens) : Type 0 where
  pub by : (a : Expr) (m : ℕ) → at.at_logical_rest x a m ts ≡ at.at_chain x op a m rest
  pub shorter : length rest < length ts

-- the answer of a look for the operator of a chain
abbrev pub FindsChain : Extent → Tokens → Result (Option (LogicalOperator × Bor Tokens)) Fault → Type 0
FindsChain x ts (Ok None) = (a : Expr) (m : ℕ) → at.at_logical_rest x a m ts ≡ Got a ts
FindsChain x ts (Ok (Some p)) = Chains x p.0 ts p.1.now
FindsChain x ts (Err (Syntax rest)) = (a : Expr) (m : ℕ) → at.at_logical_rest x a m ts ≡ Stuck rest.now
FindsChain x ts (Err Memory) = ⊤
