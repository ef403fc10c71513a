-- What is built of the answer of a part.
use Rattle.std.specs.Prelude.{◌≡◌, Option, Some, None, Result, Ok, Err, ⊤}
use Rattle.std.specs.Borrow.{Bor}
use Rattle.std.specs.declared.vec.Vec.{Vec}
use Rattle.std.specs.declared.alloc.Global.{Global}
use Rattle.std.specs.declared.alloc.AllocError.{AllocError}
use Rattle.ada_syntax.specs.Tree.{Expr, expr_pos}
use Rattle.ada_syntax.specs.TreeView.{with_operands, joined}
use Rattle.ada_syntax.specs.declared.expr.LogicalOperator.{LogicalOperator}
use Rattle.ada_syntax.specs.declared.expr.Operand.{Operand}
use Rattle.ada_syntax.specs.declared.name.Suffix.{Suffix}
use Rattle.ada_syntax.specs.declared.name.Suffix.TheVariants as suffix
use Rattle.expression_parser.specs.declared.fault.Fault.{Fault}
use Rattle.expression_parser.specs.declared.fault.Fault.TheVariants.{Syntax, Memory}
use Rattle.expression_parser.specs.declared.symbol.Symbol.TheVariants as symbol
use Rattle.expression_parser.specs.Reading.{Tokens, Stuck, expect}
use Rattle.expression_parser.specs.Shows.{Skipped}

-- an expression with operands behind it, and with relations that an operator joins to it
abbrev pub operated : Expr → Vec Operand Global → Expr
operated first v = with_operands (expr_pos first) first v.items

abbrev pub chained : LogicalOperator → Expr → Vec Expr Global → Expr
chained op first v = joined (expr_pos first) op first v.items

-- a whole of the part that was read, with the same tokens behind it, or the part's fault; memory may be refused
abbrev pub Builds : {A B : Type 0} → (B → A) → Result (B × Bor Tokens) Fault → Result (A × Bor Tokens) Fault → Type 0
Builds f (Ok v) (Ok x) = (x.0 ≡ f v.0) × (x.1.now ≡ v.1.now)
Builds f (Ok v) (Err (Syntax rest)) = ⊥
Builds f (Ok v) (Err Memory) = ⊤
Builds f (Err p) (Ok x) = ⊥
Builds f (Err p) (Err q) = q ≡ p

-- the same of a part before a closing parenthesis
abbrev pub Encloses : {A B : Type 0} → (B → A) → Result (B × Bor Tokens) Fault → Result (A × Bor Tokens) Fault → Type 0
Encloses f (Ok v) (Ok x) = (x.0 ≡ f v.0) × Skipped symbol.RightParenthesis v.1.now x.1.now
Encloses f (Ok v) (Err (Syntax rest)) = expect symbol.RightParenthesis v.1.now ≡ Stuck rest.now
Encloses f (Ok v) (Err Memory) = ⊤
Encloses f (Err p) (Ok x) = ⊥
Encloses f (Err p) (Err q) = q ≡ p

-- the same of actuals as a part of a name
abbrev pub Applies : Result (Vec Expr Global × Bor Tokens) Fault → Result (Option (Suffix × Bor Tokens)) Fault → Type 0
Applies (Ok v) (Ok None) = ⊥
Applies (Ok v) (Ok (Some p)) = (p.0 ≡ suffix.Applied v.0) × Skipped symbol.RightParenthesis v.1.now p.1.now
Applies (Ok v) (Err (Syntax rest)) = expect symbol.RightParenthesis v.1.now ≡ Stuck rest.now
Applies (Ok v) (Err Memory) = ⊤
Applies (Err p) (Ok x) = ⊥
Applies (Err p) (Err q) = q ≡ p

-- an expression that was made, with these tokens behind it, where memory was there
abbrev pub Makes : Result Expr AllocError → Tokens → Result (Expr × Bor Tokens) Fault → Type 0
Makes (Ok e) us (Ok x) = (x.0 ≡ e) × (x.1.now ≡ us)
Makes (Ok e) us (Err f) = ⊥
Makes (Err refused) us (Ok x) = ⊥
Makes (Err refused) us (Err f) = f ≡ Memory

-- both parts, with the same tokens behind them, or the second part's fault
abbrev pub Both : {A B : Type 0} → A → Result (B × Bor Tokens) Fault → Result ((A × B) × Bor Tokens) Fault → Type 0
Both a (Ok y) (Ok z) = (z.0 ≡ (a, y.0)) × (z.1.now ≡ y.1.now)
Both a (Ok y) (Err g) = ⊥
Both a (Err f) (Ok z) = ⊥
Both a (Err f) (Err g) = g ≡ f

-- a part before a closing parenthesis, which is taken
abbrev pub Closes : {A : Type 0} → Result (A × Bor Tokens) Fault → Result (A × Bor Tokens) Fault → Type 0
Closes (Ok x) (Ok y) = (y.0 ≡ x.0) × Skipped symbol.RightParenthesis x.1.now y.1.now
Closes (Ok x) (Err (Syntax rest)) = expect symbol.RightParenthesis x.1.now ≡ Stuck rest.now
Closes (Ok x) (Err Memory) = ⊤
Closes (Err f) (Ok y) = ⊥
Closes (Err f) (Err g) = g ≡ f
