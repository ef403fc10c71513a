-- Ranges, subtypes and type definitions, as the code reads them.
use Rattle.std.proofs.Common.{◌≡◌, ℕ, suc, ◌<◌, true, false, List, [], ◌∷◌, ◌++◌, length, Option, Some, None, refl, ap, sym, ◌∙◌, IsTrue, arith}
use Rattle.std.proofs.lemmas.Bool.{false≢true}
use denote.Enum.Bare.{same_true}
use Rattle.cov_base.specs.declared.position.Pos.{Pos}
use Rattle.ada_syntax.specs.TreeView.{with_operands, joined, is_filled, has_operators, expr_at}
use Rattle.ada_syntax.specs.declared.expr.BinaryOperator.{BinaryOperator}
use Rattle.ada_syntax.specs.declared.expr.LogicalOperator.{LogicalOperator}
use Rattle.ada_syntax.specs.declared.expr.Operand.{Operand}
use Rattle.ada_syntax.specs.declared.expr.ExprKind.{ExprKind}
use Rattle.ada_syntax.specs.declared.expr.ExprKind.TheVariants as kind
use Rattle.ada_lexer.specs.declared.token.Token.{Token}
use Rattle.ada_syntax.specs.Tree.{Expr, binary, logical, Name}
use Rattle.ada_syntax.specs.declared.name.Identifier.{Identifier}
use Rattle.ada_syntax.specs.declared.declaration.Bounds.{Bounds}
use Rattle.ada_syntax.specs.declared.declaration.DiscreteRange.{DiscreteRange}
use Rattle.ada_syntax.specs.declared.declaration.DiscreteRange.TheVariants as range
use Rattle.ada_syntax.specs.declared.declaration.SubtypeIndication.{SubtypeIndication}
use Rattle.ada_syntax.specs.declared.declaration.TypeDefinition.{TypeDefinition}
use Rattle.ada_syntax.specs.declared.declaration.TypeDefinition.TheVariants as definition
use Rattle.ada_syntax.specs.declared.declaration.Component.{Component}
use Rattle.expression_parser.specs.declared.symbol.Symbol.{Symbol}
use Rattle.expression_parser.specs.declared.symbol.Symbol.TheVariants as symbol
use Rattle.expression_parser.specs.declared.extent.Extent.{Extent}
use Rattle.expression_parser.specs.declared.extent.Extent.TheVariants.{Types}
use Rattle.expression_parser.specs.Symbols.{symbol_of, Is, same}
use Rattle.expression_parser.specs.Extents.{opens}
use Rattle.expression_parser.specs.Reading.{Tokens, Reading, Reader, Got, Stuck, Refuse, Leave, Take, Look, got, goes_on, ◌>>=◌, turned, ended, provided, expect, skip, repeat}
use Rattle.expression_parser.specs.Shows.{Shows, ShowsAs, TakesWord, after, Reads, More, Skipped, next_is}
use Rattle.expression_parser.specs.Depth.{at_name, at_simple}
use Rattle.declaration_parser.specs.Identifiers.{identifiers_by}
use Rattle.declaration_parser.specs.SubtypeReading as read
use Rattle.expression_parser.specs.contracts.symbol.Symbol.{the_type}
use Rattle.expression_parser.proofs.Comes.{got_bind, got_then, on_symbol}
use Rattle.expression_parser.proofs.Loops.{more_end, more_leave, more_look, more_look_stuck}
use Rattle.expression_parser.proofs.NameCode.{after_none}
use Rattle.std.specs.Prelude.{Result}
use Rattle.std.specs.Borrow.{Bor}
use Rattle.expression_parser.specs.declared.fault.Fault.{Fault}
use Rattle.expression_parser.proofs.Faults.{failed}
use Rattle.declaration_parser.specs.Closing.{Closes}
use Rattle.declaration_parser.proofs.Closings.{read_so, Below, within_below, below_behind, closed_below, leads, leads_got, closes, stops, goes, word_stops, word_goes, same_got, read_then, closed}
use Rattle.declaration_parser.proofs.ExpressionParts.{gated_open, gated_closed}
use Rattle.declaration_parser.proofs.Steps.{then_reads, then_stuck, then_got_reads, got_reads, turn_taken, turn_refused, turn_left}

-- an expression of any other form is no name
binary_is_no_name : (p : Pos) (a : Expr) (op : BinaryOperator) (b : Expr) (os : List Operand) → read.name_alone (with_operands p (binary p a op b) os) ≡ None
binary_is_no_name p a op b [] = refl
binary_is_no_name p a op b (o ∷ os) = binary_is_no_name p (binary p a op b) o.operator o.operand os

logical_is_no_name : (p : Pos) (a : Expr) (op : LogicalOperator) (b : Expr) (es : List Expr) → read.name_alone (joined p op (logical p a op b) es) ≡ None
logical_is_no_name p a op b [] = refl
logical_is_no_name p a op b (e ∷ es) = logical_is_no_name p (logical p a op b) op e es

operands_are_no_name : (p : Pos) (a : Expr) (os : List Operand) → IsTrue (is_filled os) → read.name_alone (with_operands p a os) ≡ None
operands_are_no_name p a [] h = absurd (false≢true h)
operands_are_no_name p a (o ∷ os) h = binary_is_no_name p a o.operator o.operand os

joined_are_no_name : (p : Pos) (op : LogicalOperator) (a : Expr) (es : List Expr) → IsTrue (is_filled es) → read.name_alone (joined p op a es) ≡ None
joined_are_no_name p op a [] h = absurd (false≢true h)
joined_are_no_name p op a (e ∷ es) h = logical_is_no_name p a op e es

pub no_name_alone : (p : Pos) (k : ExprKind) → IsTrue (has_operators k) → ((n : Name) → k ≡ kind.Name n → ⊥) → read.name_alone (expr_at p k) ≡ None
no_name_alone p (kind.Numeral n) f h = refl
no_name_alone p (kind.Name n) f h = absurd (h n refl)
no_name_alone p (kind.Parenthesized e) f h = refl
no_name_alone p (kind.Unary op e) f h = refl
no_name_alone p (kind.Product e os) f h = operands_are_no_name p e.value os.items f
no_name_alone p (kind.Sum e os) f h = operands_are_no_name p e.value os.items f
no_name_alone p (kind.Relation a op b) f h = refl
no_name_alone p (kind.Logical op e es) f h = joined_are_no_name p op e.value es.items f

module _ (x : Extent) where
  pub bounds_fails_first : (ts : Tokens) (p0 : Result (Expr × Bor Tokens) Fault) (f : Fault)
      → Shows (Reads (at_simple x) ts) p0 → Below ts p0 → Closes symbol.DoubleDot p0 (failed f)
      → Shows (Reads (read.bounds_by x) ts) (failed f)
  bounds_fails_first ts p0 f h1 h2 h3 =
      stops (λ z. z) (closed symbol.DoubleDot (read_then (at_simple x))) (λ m z0. (at_simple x m >>= λ z1. got (record { low = z0; high = z1 }))) ts f (closes (λ z. z) (read_then (at_simple x)) symbol.DoubleDot ts p0 (failed f) (leads (Bounds) (λ z. z) (at_simple x) ts p0 h1 (within_below ts p0 h2)) h3)

  pub bounds_fails_second : (ts : Tokens) (p0 : Result (Expr × Bor Tokens) Fault) (v0 : Expr) (u0 : Bor Tokens) (f : Fault)
      → Shows (Reads (at_simple x) ts) p0 → Below ts p0 → Closes symbol.DoubleDot p0 (read_so v0 u0) → Shows (Reads (at_simple x) u0.now) (failed f)
      → Shows (Reads (read.bounds_by x) ts) (failed f)
  bounds_fails_second ts p0 v0 u0 f h1 h2 h3 h4 =
      goes (λ z. z) (closed symbol.DoubleDot (read_then (at_simple x))) (λ m z0. (at_simple x m >>= λ z1. got (record { low = z0; high = z1 }))) ts v0 u0 (failed f) (closes (λ z. z) (read_then (at_simple x)) symbol.DoubleDot ts p0 (read_so v0 u0) (leads (Bounds) (λ z. z) (at_simple x) ts p0 h1 (within_below ts p0 h2)) h3) (
      stops (λ z. z) (read_then (at_simple x)) (λ m z1. got (record { low = v0; high = z1 })) u0.now f (leads (Bounds) (λ z. z) (at_simple x) u0.now (failed f) h4 tt))

  pub bounds_read : (ts : Tokens) (p0 : Result (Expr × Bor Tokens) Fault) (v0 : Expr) (u0 : Bor Tokens) (v1 : Expr) (u1 : Bor Tokens)
      → Shows (Reads (at_simple x) ts) p0 → Below ts p0 → Closes symbol.DoubleDot p0 (read_so v0 u0) → Shows (Reads (at_simple x) u0.now) (read_so v1 u1) → Below u0.now (read_so v1 u1)
      → Reads (read.bounds_by x) ts (Got (record { low = v0; high = v1 }) u1.now)
  bounds_read ts p0 v0 u0 v1 u1 h1 h2 h3 h4 h5 =
      goes (λ z. z) (closed symbol.DoubleDot (read_then (at_simple x))) (λ m z0. (at_simple x m >>= λ z1. got (record { low = z0; high = z1 }))) ts v0 u0 (read_so (record { low = v0; high = v1 }) u1) (closes (λ z. z) (read_then (at_simple x)) symbol.DoubleDot ts p0 (read_so v0 u0) (leads (Bounds) (λ z. z) (at_simple x) ts p0 h1 (within_below ts p0 h2)) h3) (
      goes (λ z. z) (read_then (at_simple x)) (λ m z1. got (record { low = v0; high = z1 })) u0.now v1 u1 (read_so (record { low = v0; high = v1 }) u1) (leads (Bounds) (λ z. z) (at_simple x) u0.now (read_so v1 u1) h4 (within_below u0.now (read_so v1 u1) h5)) (
      got_reads (record { low = v0; high = v1 }) u1.now))

  -- a range, where ranges are open
  opened : (ts : Tokens) (q : Reading DiscreteRange) → opens x Types ≡ true → Reads (λ m. at_simple x m >>= read.range_rest x m) ts q → Reads (read.range_by x) ts q
  opened ts q o h = record { by = λ m n. gated_open (opens x Types) (at_simple x m >>= read.range_rest x m) ts o ∙ h.by m n }

  pub range_closed : (ts rest : Tokens) → opens x Types ≡ false → rest ≡ ts → Reads (read.range_by x) ts (Stuck rest)
  range_closed ts rest o e = record { by = λ m n. gated_closed (opens x Types) (at_simple x m >>= read.range_rest x m) ts o ∙ ap Stuck (sym e) }

  pub range_fails_first : (ts rest : Tokens) → opens x Types ≡ true → Reads (at_simple x) ts (Stuck rest) → Reads (read.range_by x) ts (Stuck rest)
  range_fails_first ts rest o h = opened ts (Stuck rest) o (then_stuck (at_simple x) (λ m. read.range_rest x m) ts rest h)

  no_bound_turn : (m : ℕ) (a : Expr) (s : Symbol) (t : Token) → same s symbol.DoubleDot ≡ false → read.range_turn x m a s t ≡ read.mark_turn (read.name_alone a)
  no_bound_turn m a symbol.DoubleDot t h = cc
  no_bound_turn m a _ t h = refl

  mark_ended : (n : Option Name) → ended (read.mark_turn n) ≡ read.mark_alone n []
  mark_ended None = refl
  mark_ended (Some n) = refl

  mark_turned : (n : Option Name) (t : Token) (us : Tokens) → turned (read.mark_turn n) t us ≡ read.mark_alone n (t ∷ us)
  mark_turned None t us = refl
  mark_turned (Some n) t us = refl

  no_bound : (m : ℕ) (a : Expr) (us : Tokens) → after symbol.DoubleDot us ≡ None → read.range_rest x m a us ≡ read.mark_alone (read.name_alone a) us
  no_bound m a [] h = mark_ended (read.name_alone a)
  no_bound m a (t ∷ us) h = ap (λ z. turned z t us) (no_bound_turn m a (symbol_of t.lexeme) t (after_none symbol.DoubleDot t us h).is_not) ∙ mark_turned (read.name_alone a) t us

  pub range_mark : (ts us : Tokens) (a : Expr) (q : Reading DiscreteRange) → opens x Types ≡ true → Reads (at_simple x) ts (Got a us) → after symbol.DoubleDot us ≡ None
      → read.mark_alone (read.name_alone a) us ≡ q → Reads (read.range_by x) ts q
  range_mark ts us a q o h n e = opened ts q o (record { by = λ m l. got_bind (read.range_rest x m) (h.by m l) (no_bound m a us n ∙ e) })

  high : (us vs : Tokens) (a : Expr) (q : Reading DiscreteRange) → after symbol.DoubleDot us ≡ Some vs
      → Reads (λ m. at_simple x m >>= λ b. got (range.Bounds (record { low = a; high = b }))) vs q → Reads (λ m. read.range_rest x m a) us q
  high us vs a q n h = turn_taken (read.mark_turn (read.name_alone a)) (λ m. read.range_turn x m a) symbol.DoubleDot us vs (λ m. at_simple x m >>= λ b. got (range.Bounds (record { low = a; high = b }))) q n (λ m t. refl) h

  pub range_read : (ts us vs rest : Tokens) (a b : Expr) → opens x Types ≡ true → Reads (at_simple x) ts (Got a us) → length us < length ts → after symbol.DoubleDot us ≡ Some vs
      → Reads (at_simple x) vs (Got b rest) → Reads (read.range_by x) ts (Got (range.Bounds (record { low = a; high = b })) rest)
  range_read ts us vs rest a b o h l n k = opened ts (Got (range.Bounds (record { low = a; high = b })) rest) o
      (then_reads (at_simple x) (λ m z. read.range_rest x m z) ts us a (Got (range.Bounds (record { low = a; high = b })) rest) h (omega (arith, l))
      (high us vs a (Got (range.Bounds (record { low = a; high = b })) rest) n (then_got_reads (at_simple x) (λ z. range.Bounds (record { low = a; high = z })) vs rest b k)))

  pub range_fails_second : (ts us vs rest : Tokens) (a : Expr) → opens x Types ≡ true → Reads (at_simple x) ts (Got a us) → length us < length ts → after symbol.DoubleDot us ≡ Some vs
      → Reads (at_simple x) vs (Stuck rest) → Reads (read.range_by x) ts (Stuck rest)
  range_fails_second ts us vs rest a o h l n k = opened ts (Stuck rest) o
      (then_reads (at_simple x) (λ m z. read.range_rest x m z) ts us a (Stuck rest) h (omega (arith, l))
      (high us vs a (Stuck rest) n (then_stuck (at_simple x) (λ m b. got (range.Bounds (record { low = a; high = b }))) vs rest k)))

  -- constraints
  no_constraint_turn : (m : ℕ) (s : Symbol) (t : Token) → same s symbol.Range ≡ false → read.constraint_turn x m s t ≡ Leave None
  no_constraint_turn m symbol.Range t h = cc
  no_constraint_turn m _ t h = refl

  pub constraint_none : (ts : Tokens) → after symbol.Range ts ≡ None → Reads (read.constraint_by x) ts (Got None ts)
  constraint_none ts a = turn_left None (read.constraint_turn x) symbol.Range ts a no_constraint_turn

  constraint_on : (b : _) (m : ℕ) (t : Token) → opens x Types ≡ b → read.constraint_turn x m symbol.Range t ≡ provided b (Take (read.bounds_by x m >>= λ z. got (Some z)))
  constraint_on b m t o = ap (λ z. provided z (Take (read.bounds_by x m >>= λ y. got (Some y)))) o

  pub constraint_closed : (ts us rest : Tokens) → after symbol.Range ts ≡ Some us → opens x Types ≡ false → rest ≡ ts → Reads (read.constraint_by x) ts (Stuck rest)
  constraint_closed ts us rest a o e = turn_refused (Leave None) (read.constraint_turn x) symbol.Range ts us rest a (λ m t. constraint_on false m t o) e

  pub constraint_read : (ts us rest : Tokens) (b : Bounds) → after symbol.Range ts ≡ Some us → opens x Types ≡ true → Reads (read.bounds_by x) us (Got b rest)
      → Reads (read.constraint_by x) ts (Got (Some b) rest)
  constraint_read ts us rest b a o h = turn_taken (Leave None) (read.constraint_turn x) symbol.Range ts us (λ m. read.bounds_by x m >>= λ z. got (Some z)) (Got (Some b) rest) a (λ m t. constraint_on true m t o)
      (then_got_reads (read.bounds_by x) (λ z. Some z) us rest b h)

  pub constraint_fails : (ts us rest : Tokens) → after symbol.Range ts ≡ Some us → opens x Types ≡ true → Reads (read.bounds_by x) us (Stuck rest)
      → Reads (read.constraint_by x) ts (Stuck rest)
  constraint_fails ts us rest a o h = turn_taken (Leave None) (read.constraint_turn x) symbol.Range ts us (λ m. read.bounds_by x m >>= λ z. got (Some z)) (Stuck rest) a (λ m t. constraint_on true m t o)
      (then_stuck (read.bounds_by x) (λ m z. got (Some z)) us rest h)

  pub indication_read : (ts us rest : Tokens) (n : Name) (c : Option Bounds) → Reads (at_name x) ts (Got n us) → length us < length ts → Reads (read.constraint_by x) us (Got c rest)
      → Reads (read.indication_by x) ts (Got (record { mark = n; constraint = c }) rest)
  indication_read ts us rest n c h1 h2 h3 =
      then_reads (at_name x) (λ m n. read.constraint_by x m >>= λ c. got (record { mark = n; constraint = c })) ts us n (Got (record { mark = n; constraint = c }) rest) h1 (omega (arith, h2))
      (then_got_reads (read.constraint_by x) (λ c. record { mark = n; constraint = c }) us rest c h3)

  pub indication_fails_first : (ts rest : Tokens) → Reads (at_name x) ts (Stuck rest) → Reads (read.indication_by x) ts (Stuck rest)
  indication_fails_first ts rest h1 = then_stuck (at_name x) (λ m n. read.constraint_by x m >>= λ c. got (record { mark = n; constraint = c })) ts rest h1

  pub indication_fails_second : (ts us rest : Tokens) (n : Name) → Reads (at_name x) ts (Got n us) → length us < length ts → Reads (read.constraint_by x) us (Stuck rest)
      → Reads (read.indication_by x) ts (Stuck rest)
  indication_fails_second ts us rest n h1 h2 h3 =
      then_reads (at_name x) (λ m n. read.constraint_by x m >>= λ c. got (record { mark = n; constraint = c })) ts us n (Stuck rest) h1 (omega (arith, h2))
      (then_stuck (read.constraint_by x) (λ m c. got (record { mark = n; constraint = c })) us rest h3)

  pub component_fails_first : (ts : Tokens) {C0 : Type 0} (p0 : Result (C0 × Bor Tokens) Fault) (f : Fault) (view0 : C0 → List Identifier)
      → ShowsAs view0 (Reads identifiers_by ts) p0 → Below ts p0 → Closes symbol.Colon p0 (failed f)
      → Shows (Reads (read.component_by x) ts) (failed f)
  component_fails_first ts p0 f view0 h1 h2 h3 =
      stops view0 (closed symbol.Colon (read_then identifiers_by)) (λ m z0. (read.indication_by x m >>= λ z1. skip symbol.Semicolon (got (record { names = z0; indication = z1 })))) ts f (closes view0 (read_then identifiers_by) symbol.Colon ts p0 (failed f) (leads (Component) view0 identifiers_by ts p0 h1 (within_below ts p0 h2)) h3)

  pub component_fails_second : (ts : Tokens) {C0 : Type 0} (p0 : Result (C0 × Bor Tokens) Fault) (v0 : C0) (u0 : Bor Tokens) (view0 : C0 → List Identifier) (p1 : Result (SubtypeIndication × Bor Tokens) Fault) (f : Fault)
      → ShowsAs view0 (Reads identifiers_by ts) p0 → Below ts p0 → Closes symbol.Colon p0 (read_so v0 u0) → Shows (Reads (read.indication_by x) u0.now) p1 → Below u0.now p1 → Closes symbol.Semicolon p1 (failed f)
      → Shows (Reads (read.component_by x) ts) (failed f)
  component_fails_second ts p0 v0 u0 view0 p1 f h1 h2 h3 h4 h5 h6 =
      goes view0 (closed symbol.Colon (read_then identifiers_by)) (λ m z0. (read.indication_by x m >>= λ z1. skip symbol.Semicolon (got (record { names = z0; indication = z1 })))) ts v0 u0 (failed f) (closes view0 (read_then identifiers_by) symbol.Colon ts p0 (read_so v0 u0) (leads (Component) view0 identifiers_by ts p0 h1 (within_below ts p0 h2)) h3) (
      stops (λ z. z) (closed symbol.Semicolon (read_then (read.indication_by x))) (λ m z1. got (record { names = (view0 v0); indication = z1 })) u0.now f (closes (λ z. z) (read_then (read.indication_by x)) symbol.Semicolon u0.now p1 (failed f) (leads (Component) (λ z. z) (read.indication_by x) u0.now p1 h4 (within_below u0.now p1 h5)) h6))

  pub component_read : (ts : Tokens) {C0 : Type 0} (p0 : Result (C0 × Bor Tokens) Fault) (v0 : C0) (u0 : Bor Tokens) (view0 : C0 → List Identifier) (p1 : Result (SubtypeIndication × Bor Tokens) Fault) (v1 : SubtypeIndication) (u1 : Bor Tokens) (s0 : List Identifier)
      → ShowsAs view0 (Reads identifiers_by ts) p0 → Below ts p0 → Closes symbol.Colon p0 (read_so v0 u0) → Shows (Reads (read.indication_by x) u0.now) p1 → Below u0.now p1 → Closes symbol.Semicolon p1 (read_so v1 u1) → s0 ≡ (view0 v0)
      → Reads (read.component_by x) ts (Got (record { names = s0; indication = v1 }) u1.now)
  component_read ts p0 v0 u0 view0 p1 v1 u1 s0 h1 h2 h3 h4 h5 h6 h7 =
      goes view0 (closed symbol.Colon (read_then identifiers_by)) (λ m z0. (read.indication_by x m >>= λ z1. skip symbol.Semicolon (got (record { names = z0; indication = z1 })))) ts v0 u0 (read_so (record { names = s0; indication = v1 }) u1) (closes view0 (read_then identifiers_by) symbol.Colon ts p0 (read_so v0 u0) (leads (Component) view0 identifiers_by ts p0 h1 (within_below ts p0 h2)) h3) (
      goes (λ z. z) (closed symbol.Semicolon (read_then (read.indication_by x))) (λ m z1. got (record { names = (view0 v0); indication = z1 })) u0.now v1 u1 (read_so (record { names = s0; indication = v1 }) u1) (closes (λ z. z) (read_then (read.indication_by x)) symbol.Semicolon u0.now p1 (read_so v1 u1) (leads (Component) (λ z. z) (read.indication_by x) u0.now p1 h4 (within_below u0.now p1 h5)) h6) (
      same_got (record { names = (view0 v0); indication = v1 }) (record { names = s0; indication = v1 }) u1.now (ap (λ y. (record { names = y; indication = v1 })) h7)))

  abbrev component_joins : List Component → ℕ → Reader (List Component)
  component_joins cs m = read.component_by x m >>= λ c. got (cs ++ c ∷ [])

  pub components_begin : (ts rest : Tokens) (c : Component) → Reads (read.component_by x) ts (Got c rest) → length rest < length ts → (q : Reading (List Component))
      → More (read.components_turn x) rest (c ∷ []) q → Reads (read.components_by x) ts q
  components_begin ts rest c r l q f = record { by = λ m h. got_bind (λ z. repeat (read.components_turn x m) (suc m) (z ∷ [])) (r.by m h) (f.by m (suc m) (omega arith) (omega arith)) }

  pub components_fail : (ts rest : Tokens) → Reads (read.component_by x) ts (Stuck rest) → Reads (read.components_by x) ts (Stuck rest)
  components_fail ts rest r = then_stuck (read.component_by x) (λ m z. repeat (read.components_turn x m) (suc m) (z ∷ [])) ts rest r

  component_on : (m : ℕ) (s : Symbol) (t : Token) (cs : List Component) → same s symbol.Identifier ≡ true → read.components_turn x m s t cs ≡ Look (component_joins cs m)
  component_on m s t cs h = ap (λ z. read.components_turn x m z t cs) (same_true the_type tt s symbol.Identifier h)

  no_component : (m : ℕ) (s : Symbol) (t : Token) (cs : List Component) → same s symbol.Identifier ≡ false → read.components_turn x m s t cs ≡ Leave cs
  no_component m symbol.Identifier t cs h = cc
  no_component m _ t cs h = refl

  pub components_step : (ts rest : Tokens) (cs : List Component) (c : Component) → next_is (λ s. same s symbol.Identifier) ts ≡ true → Reads (read.component_by x) ts (Got c rest)
      → length rest < length ts → (q : Reading (List Component)) → More (read.components_turn x) rest (cs ++ c ∷ []) q
      → More (read.components_turn x) ts cs q
  components_step [] rest cs c b r l q f = absurd (false≢true b)
  components_step (t ∷ us) rest cs c b r l q f = more_look (read.components_turn x) cs (cs ++ c ∷ []) t us rest (component_joins cs) q (λ m. component_on m (symbol_of t.lexeme) t cs b) (λ m h. got_then (λ z. cs ++ z ∷ []) (r.by m h)) l f

  pub components_step_fail : (ts rest : Tokens) (cs : List Component) → next_is (λ s. same s symbol.Identifier) ts ≡ true → Reads (read.component_by x) ts (Stuck rest)
      → More (read.components_turn x) ts cs (Stuck rest)
  components_step_fail [] rest cs b r = absurd (false≢true b)
  components_step_fail (t ∷ us) rest cs b r = more_look_stuck (read.components_turn x) cs t us rest (component_joins cs) (λ m. component_on m (symbol_of t.lexeme) t cs b) (λ m h. ap (goes_on (λ z. got (cs ++ z ∷ []))) (r.by m h))

  pub components_end : (ts : Tokens) (cs : List Component) → next_is (λ s. same s symbol.Identifier) ts ≡ false → More (read.components_turn x) ts cs (Got cs ts)
  components_end [] cs b = more_end (read.components_turn x) cs
  components_end (t ∷ us) cs b = more_leave (read.components_turn x) cs t us (λ m. no_component m (symbol_of t.lexeme) t cs b)

  -- ( range ) OF
  pub index_fails : (ts : Tokens) (f : Fault) → TakesWord symbol.LeftParenthesis ts (failed f) → Shows (Reads (read.index_by x) ts) (failed f)
  index_fails ts f h = word_stops symbol.LeftParenthesis (λ m. read.range_by x m >>= λ r. skip symbol.RightParenthesis (skip symbol.Of (got r))) ts f h

  module _ (ts us : Tokens) (p o r : Result (DiscreteRange × Bor Tokens) Fault) where
    pub index_shows : Skipped symbol.LeftParenthesis ts us → Shows (Reads (read.range_by x) us) p → Below us p → Closes symbol.RightParenthesis p o → Closes symbol.Of o r → Shows (Reads (read.index_by x) ts) r
    index_shows w h l c d =
        word_goes symbol.LeftParenthesis (λ m. read.range_by x m >>= λ r. skip symbol.RightParenthesis (skip symbol.Of (got r))) ts us r w
        (leads_got (λ z. z) (closed symbol.Of (closed symbol.RightParenthesis (read_then (read.range_by x)))) us r
        (closes (λ z. z) (closed symbol.RightParenthesis (read_then (read.range_by x))) symbol.Of us o r
        (closes (λ z. z) (read_then (read.range_by x)) symbol.RightParenthesis us p o (leads DiscreteRange (λ z. z) (read.range_by x) us p h (within_below us p l)) c) d))

    pub index_below : Skipped symbol.LeftParenthesis ts us → Below us p → Closes symbol.RightParenthesis p o → Closes symbol.Of o r → Below ts r
    index_below w l c d = below_behind ts us r (omega (arith, w.shorter)) (closed_below symbol.Of us o r (within_below us o (closed_below symbol.RightParenthesis us p o (within_below us p l) c)) d)

  -- the index and the element of an array, in two steps and in one
  abbrev with_element : ℕ → DiscreteRange → Reader TypeDefinition
  with_element m r = read.indication_by x m >>= λ s. got (definition.Array r s)

  behind_of : (m : ℕ) (r : DiscreteRange) (q : Reading Token) → goes_on (λ _. with_element m r) q ≡ goes_on (with_element m) (goes_on (λ _. got r) q)
  behind_of m r (Got t us) = refl
  behind_of m r (Stuck us) = refl

  behind_right : (m : ℕ) (r : DiscreteRange) (q : Reading Token) → goes_on (λ _. skip symbol.Of (with_element m r)) q ≡ goes_on (with_element m) (goes_on (λ _. skip symbol.Of (got r)) q)
  behind_right m r (Got t us) = behind_of m r (expect symbol.Of us)
  behind_right m r (Stuck us) = refl

  behind_range : (m : ℕ) (q : Reading DiscreteRange)
      → goes_on (λ r. skip symbol.RightParenthesis (skip symbol.Of (with_element m r))) q ≡ goes_on (with_element m) (goes_on (λ r. skip symbol.RightParenthesis (skip symbol.Of (got r))) q)
  behind_range m (Got r us) = behind_right m r (expect symbol.RightParenthesis us)
  behind_range m (Stuck us) = refl

  behind_left : (m : ℕ) (q : Reading Token)
      → goes_on (λ _. read.range_by x m >>= λ r. skip symbol.RightParenthesis (skip symbol.Of (with_element m r))) q
      ≡ goes_on (with_element m) (goes_on (λ _. read.range_by x m >>= λ r. skip symbol.RightParenthesis (skip symbol.Of (got r))) q)
  behind_left m (Got t us) = behind_range m (read.range_by x m us)
  behind_left m (Stuck us) = refl

  in_one : (ts : Tokens) (q : Reading TypeDefinition) → Reads (λ m. read.index_by x m >>= with_element m) ts q → Reads (read.array_by x) ts q
  in_one ts q h = record { by = λ m l. behind_left m (expect symbol.LeftParenthesis ts) ∙ h.by m l }

  pub array_index_fails : (ts rest : Tokens) → Reads (read.index_by x) ts (Stuck rest) → Reads (read.array_by x) ts (Stuck rest)
  array_index_fails ts rest h = in_one ts (Stuck rest) (then_stuck (read.index_by x) with_element ts rest h)

  pub array_element_fails : (ts us rest : Tokens) (r : DiscreteRange) → Reads (read.index_by x) ts (Got r us) → length us < length ts → Reads (read.indication_by x) us (Stuck rest) → Reads (read.array_by x) ts (Stuck rest)
  array_element_fails ts us rest r h l e = in_one ts (Stuck rest) (then_reads (read.index_by x) with_element ts us r (Stuck rest) h (omega (arith, l)) (then_stuck (read.indication_by x) (λ m s. got (definition.Array r s)) us rest e))

  pub array_read : (ts us rest : Tokens) (r : DiscreteRange) (s : SubtypeIndication) → Reads (read.index_by x) ts (Got r us) → length us < length ts → Reads (read.indication_by x) us (Got s rest)
      → Reads (read.array_by x) ts (Got (definition.Array r s) rest)
  array_read ts us rest r s h l e = in_one ts (Got (definition.Array r s) rest) (then_reads (read.index_by x) with_element ts us r (Got (definition.Array r s) rest) h (omega (arith, l)) (then_got_reads (read.indication_by x) (λ s. definition.Array r s) us rest s e))

  pub record_fails_first : (ts : Tokens) {C0 : Type 0} (p0 : Result (C0 × Bor Tokens) Fault) (p01 : Result (C0 × Bor Tokens) Fault) (f : Fault) (view0 : C0 → List Component)
      → ShowsAs view0 (Reads (read.components_by x) ts) p0 → Below ts p0 → Closes symbol.End p0 p01 → Closes symbol.Record p01 (failed f)
      → Shows (Reads (read.record_by x) ts) (failed f)
  record_fails_first ts p0 p01 f view0 h1 h2 h3 h4 =
      stops view0 (closed symbol.Record (closed symbol.End (read_then (read.components_by x)))) (λ m z0. got (definition.Record z0)) ts f (closes view0 (closed symbol.End (read_then (read.components_by x))) symbol.Record ts p01 (failed f) (closes view0 (read_then (read.components_by x)) symbol.End ts p0 p01 (leads (TypeDefinition) view0 (read.components_by x) ts p0 h1 (within_below ts p0 h2)) h3) h4)

  pub record_read : (ts : Tokens) {C0 : Type 0} (p0 : Result (C0 × Bor Tokens) Fault) (p01 : Result (C0 × Bor Tokens) Fault) (v0 : C0) (u0 : Bor Tokens) (view0 : C0 → List Component) (s0 : List Component)
      → ShowsAs view0 (Reads (read.components_by x) ts) p0 → Below ts p0 → Closes symbol.End p0 p01 → Closes symbol.Record p01 (read_so v0 u0) → s0 ≡ (view0 v0)
      → Reads (read.record_by x) ts (Got (definition.Record s0) u0.now)
  record_read ts p0 p01 v0 u0 view0 s0 h1 h2 h3 h4 h5 =
      goes view0 (closed symbol.Record (closed symbol.End (read_then (read.components_by x)))) (λ m z0. got (definition.Record z0)) ts v0 u0 (read_so (definition.Record s0) u0) (closes view0 (closed symbol.End (read_then (read.components_by x))) symbol.Record ts p01 (read_so v0 u0) (closes view0 (read_then (read.components_by x)) symbol.End ts p0 p01 (leads (TypeDefinition) view0 (read.components_by x) ts p0 h1 (within_below ts p0 h2)) h3) h4) (
      same_got (definition.Record (view0 v0)) (definition.Record s0) u0.now (ap (λ y. (definition.Record y)) h5))

  pub enumeration_fails_first : (ts : Tokens) {C0 : Type 0} (p0 : Result (C0 × Bor Tokens) Fault) (f : Fault) (view0 : C0 → List Identifier)
      → ShowsAs view0 (Reads identifiers_by ts) p0 → Below ts p0 → Closes symbol.RightParenthesis p0 (failed f)
      → Shows (Reads (read.enumeration_by) ts) (failed f)
  enumeration_fails_first ts p0 f view0 h1 h2 h3 =
      stops view0 (closed symbol.RightParenthesis (read_then identifiers_by)) (λ m z0. got (definition.Enumeration z0)) ts f (closes view0 (read_then identifiers_by) symbol.RightParenthesis ts p0 (failed f) (leads (TypeDefinition) view0 identifiers_by ts p0 h1 (within_below ts p0 h2)) h3)

  pub enumeration_read : (ts : Tokens) {C0 : Type 0} (p0 : Result (C0 × Bor Tokens) Fault) (v0 : C0) (u0 : Bor Tokens) (view0 : C0 → List Identifier) (s0 : List Identifier)
      → ShowsAs view0 (Reads identifiers_by ts) p0 → Below ts p0 → Closes symbol.RightParenthesis p0 (read_so v0 u0) → s0 ≡ (view0 v0)
      → Reads (read.enumeration_by) ts (Got (definition.Enumeration s0) u0.now)
  enumeration_read ts p0 v0 u0 view0 s0 h1 h2 h3 h4 =
      goes view0 (closed symbol.RightParenthesis (read_then identifiers_by)) (λ m z0. got (definition.Enumeration z0)) ts v0 u0 (read_so (definition.Enumeration s0) u0) (closes view0 (read_then identifiers_by) symbol.RightParenthesis ts p0 (read_so v0 u0) (leads (TypeDefinition) view0 identifiers_by ts p0 h1 (within_below ts p0 h2)) h3) (
      same_got (definition.Enumeration (view0 v0)) (definition.Enumeration s0) u0.now (ap (λ y. (definition.Enumeration y)) h4))

  -- type definitions
  defines : (t : Token) (us : Tokens) (s : Symbol) (r : ℕ → Reader TypeDefinition) (q : Reading TypeDefinition) → Is s t → ((m : ℕ) → read.definition_turn x m s t ≡ Take (r m))
      → Reads r us q → Reads (read.definition_form x) (t ∷ us) q
  defines t us s r q i e h = record { by = λ m n. on_symbol Refuse (read.definition_turn x m) s t us i ∙ (ap (λ z. turned z t us) (e m) ∙ h.by m (omega arith)) }

  pub definition_none : Reads (read.definition_form x) [] (Stuck [])
  definition_none = record { by = λ m n. refl }

  pub definition_integer : (t : Token) (us rest : Tokens) (b : Bounds) → Is symbol.Range t → Reads (read.bounds_by x) us (Got b rest)
      → Reads (read.definition_form x) (t ∷ us) (Got (definition.Integer b) rest)
  definition_integer t us rest b i h =
      defines t us symbol.Range (λ m. read.bounds_by x m >>= λ z. got (definition.Integer z)) (Got (definition.Integer b) rest) i (λ m. refl)
      (then_got_reads (read.bounds_by x) (λ z. definition.Integer z) us rest b h)

  pub definition_integer_fails : (t : Token) (us rest : Tokens) → Is symbol.Range t → Reads (read.bounds_by x) us (Stuck rest) → Reads (read.definition_form x) (t ∷ us) (Stuck rest)
  definition_integer_fails t us rest i h =
      defines t us symbol.Range (λ m. read.bounds_by x m >>= λ z. got (definition.Integer z)) (Stuck rest) i (λ m. refl)
      (then_stuck (read.bounds_by x) (λ m z. got (definition.Integer z)) us rest h)

  pub definition_enumeration : (t : Token) (us : Tokens) (q : Reading TypeDefinition) → Is symbol.LeftParenthesis t → Reads read.enumeration_by us q
      → Reads (read.definition_form x) (t ∷ us) q
  definition_enumeration t us q i h = defines t us symbol.LeftParenthesis read.enumeration_by q i (λ m. refl) h

  pub definition_array : (t : Token) (us : Tokens) (q : Reading TypeDefinition) → Is symbol.Array t → Reads (read.array_by x) us q → Reads (read.definition_form x) (t ∷ us) q
  definition_array t us q i h = defines t us symbol.Array (read.array_by x) q i (λ m. refl) h

  pub definition_record : (t : Token) (us : Tokens) (q : Reading TypeDefinition) → Is symbol.Record t → Reads (read.record_by x) us q → Reads (read.definition_form x) (t ∷ us) q
  definition_record t us q i h = defines t us symbol.Record (read.record_by x) q i (λ m. refl) h

  other_definition : (m : ℕ) (s : Symbol) (t : Token) → (s ≡ symbol.Range → ⊥) → (s ≡ symbol.LeftParenthesis → ⊥) → (s ≡ symbol.Array → ⊥) → (s ≡ symbol.Record → ⊥)
      → read.definition_turn x m s t ≡ Refuse
  other_definition m symbol.Range t a b c d = absurd (a refl)
  other_definition m symbol.LeftParenthesis t a b c d = absurd (b refl)
  other_definition m symbol.Array t a b c d = absurd (c refl)
  other_definition m symbol.Record t a b c d = absurd (d refl)
  other_definition m _ t a b c d = refl

  pub definition_other : (t : Token) (us : Tokens) → (symbol_of t.lexeme ≡ symbol.Range → ⊥) → (symbol_of t.lexeme ≡ symbol.LeftParenthesis → ⊥) → (symbol_of t.lexeme ≡ symbol.Array → ⊥)
      → (symbol_of t.lexeme ≡ symbol.Record → ⊥)
      → Reads (read.definition_form x) (t ∷ us) (Stuck (t ∷ us))
  definition_other t us a b c d = record { by = λ m n. ap (λ z. turned z t us) (other_definition m (symbol_of t.lexeme) t a b c d) }

  pub definition_closed : (ts rest : Tokens) → opens x Types ≡ false → rest ≡ ts → Reads (read.definition_by x) ts (Stuck rest)
  definition_closed ts rest o e = record { by = λ m n. gated_closed (opens x Types) (read.definition_form x m) ts o ∙ ap Stuck (sym e) }

  pub definition_open : (ts : Tokens) (q : Reading TypeDefinition) → opens x Types ≡ true → Reads (read.definition_form x) ts q → Reads (read.definition_by x) ts q
  definition_open ts q o h = record { by = λ m n. gated_open (opens x Types) (read.definition_form x m) ts o ∙ h.by m n }

pub ruleset range_rules = (range_closed, range_fails_first, range_mark, range_read, range_fails_second)

pub ruleset constraint_rules = (constraint_none, constraint_closed, constraint_read, constraint_fails)

pub ruleset indication_rules = (indication_read, indication_fails_first, indication_fails_second)

pub ruleset components_rules = (components_begin, components_fail, components_step, components_step_fail, components_end)

pub ruleset definition_form_rules = (definition_none, definition_integer, definition_integer_fails, definition_enumeration, definition_array, definition_record, definition_other)

pub ruleset definition_rules = (definition_closed, definition_open)
