-- Names, sums and expressions at a depth, and productions that may be closed.
use Rattle.std.proofs.Common.{◌≡◌, ℕ, suc, ◌<◌, ◌≤◌, Bool, true, false, [], ◌∷◌, length, None, refl, ap, arith}
use Rattle.std.proofs.lemmas.Bool.{false≢true}
use Rattle.ada_syntax.specs.Tree.{Expr, Name}
use Rattle.expression_parser.specs.declared.symbol.Symbol.{Symbol}
use Rattle.expression_parser.specs.declared.symbol.Symbol.TheVariants as symbol
use Rattle.expression_parser.specs.declared.extent.Extent.{Extent}
use Rattle.expression_parser.specs.declared.extent.Extent.TheVariants.{StraightLine, Objects, Types, Exceptions}
use Rattle.expression_parser.specs.Symbols.{symbol_of, adding}
use Rattle.expression_parser.specs.Extents.{opens}
use Rattle.expression_parser.specs.Reading.{Tokens, Reader, Got, Stuck}
use Rattle.expression_parser.specs.ExpressionReading as read
use Rattle.expression_parser.specs.Depth.{at_name, at_expr, at_simple}
use Rattle.expression_parser.specs.Expressions.{sums, expression, IsExpr, IsName}
use Rattle.expression_parser.proofs.Agree.{Local, stuck_local}
use Rattle.expression_parser.proofs.ExpressionLocal.{name_local, simple_local, expr_local}
use Rattle.expression_parser.proofs.Yields.{Yields}
use Rattle.expression_parser.proofs.ExpressionSound.{name_sound, simple_sound, expr_sound}
use Rattle.expression_parser.proofs.Comes.{binding, Ends, ends_less, Leaves, comes_leave}
use Rattle.expression_parser.proofs.ExpressionComplete.{complete, complete_name, leaves_suffix, expr_complete}
use Rattle.declaration_parser.specs.SubtypeReading.{gated}

-- a production that may be closed
pub gated_local : {A : Type 0} (b : Bool) (r : Reader A) → Local r → Local (gated b r)
gated_local true r l = l
gated_local false r l = stuck_local

pub gated_yields : {A : Type 0} (P : A → Tokens → Type 0) (b : Bool) (r : Reader A) (ts : Tokens) → (b ≡ true → Yields P (r ts)) → Yields P (gated b r ts)
gated_yields P true r ts h = h refl
gated_yields P false r ts h = tt

pub gated_open : {A : Type 0} (b : Bool) (r : Reader A) (ts : Tokens) → b ≡ true → gated b r ts ≡ r ts
gated_open b r ts o = ap (λ z. gated z r ts) o

pub gated_closed : {A : Type 0} (b : Bool) (r : Reader A) (ts : Tokens) → b ≡ false → gated b r ts ≡ Stuck ts
gated_closed b r ts o = ap (λ z. gated z r ts) o

-- where types or exceptions are open, objects are
pub types_open_objects : (x : Extent) → opens x Types ≡ true → opens x Objects ≡ true
unfolding opens
types_open_objects StraightLine h = absurd (false≢true h)
types_open_objects _ h = refl

pub exceptions_open_objects : (x : Extent) → opens x Exceptions ≡ true → opens x Objects ≡ true
unfolding opens
exceptions_open_objects StraightLine h = absurd (false≢true h)
exceptions_open_objects _ h = refl

module _ (x : Extent) (m : ℕ) where
  pub at_name_local : Local (at_name x m)
  at_name_local = name_local x (read.expr x m) (suc m) (expr_local x m)

  pub at_simple_local : Local (at_simple x m)
  at_simple_local = simple_local x (read.expr x m) (suc m) (expr_local x m)

  pub at_expr_local : Local (at_expr x m)
  at_expr_local = expr_local x (suc m)

  pub at_name_sound : (ts : Tokens) → Yields (λ n rest. IsName x n ts rest) (at_name x m ts)
  at_name_sound ts = name_sound x (read.expr x m) (suc m) (expr_sound x m) ts

  pub at_simple_sound : (ts : Tokens) → Yields (λ e rest. IsExpr x sums e ts rest) (at_simple x m ts)
  at_simple_sound ts = simple_sound x (read.expr x m) (suc m) (expr_sound x m) ts

  pub at_expr_sound : (ts : Tokens) → Yields (λ e rest. IsExpr x expression e ts rest) (at_expr x m ts)
  at_expr_sound ts = expr_sound x (suc m) ts

  no_adding : (s : Symbol) → 2 < binding s → adding s ≡ None
  no_adding symbol.Plus h = absurd (omega arith)
  no_adding symbol.Minus h = absurd (omega arith)
  no_adding _ h = refl

  leaves_sum : (a : Expr) (rest : Tokens) → Ends 2 rest → Leaves (read.sum_turn x (read.expr x m) (suc m)) a rest
  leaves_sum a [] e = tt
  leaves_sum a (t ∷ us) e = ap (λ op. read.operand_turn x (read.expr x m) (suc m) op (read.term_by x (read.expr x m) (suc m)) a) (no_adding (symbol_of t.lexeme) e.by)

  pub at_name_complete : {n : Name} {ts rest : Tokens} → IsName x n ts rest → length ts ≤ m → Ends 0 rest → at_name x m ts ≡ Got n rest
  at_name_complete {n} {ts} {rest} d h ends = comes_leave (read.suffix_turn x (read.expr x m) (suc m)) (complete_name x d m h) (leaves_suffix x m n rest ends)

  pub at_simple_complete : {e : Expr} {ts rest : Tokens} → IsExpr x sums e ts rest → length ts ≤ m → Ends 2 rest → at_simple x m ts ≡ Got e rest
  at_simple_complete {e} {ts} {rest} d h ends = comes_leave (read.sum_turn x (read.expr x m) (suc m)) (complete x d m h (ends_less 1 (omega arith) ends)) (leaves_sum e rest ends)

  pub at_expr_complete : {e : Expr} {ts rest : Tokens} → IsExpr x expression e ts rest → length ts ≤ m → Ends 4 rest → at_expr x m ts ≡ Got e rest
  at_expr_complete d h ends = expr_complete x d (suc m) (omega arith) ends
