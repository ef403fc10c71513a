-- The reading of initial values, ranges, subtypes and type definitions depends on the tokens up to its place alone.
use Rattle.std.proofs.Common.{◌≡◌, ℕ, zero, suc, Bool, true, false, cond, List, [], ◌∷◌, ◌++◌, Option, Some, None, length, refl, sym, ap, subst, ◌∙◌, arith}
use Rattle.ada_lexer.specs.declared.token.Token.{Token}
use Rattle.ada_syntax.specs.Tree.{Expr, Name, parenthesized}
use Rattle.ada_syntax.specs.declared.declaration.DiscreteRange.{DiscreteRange}
use Rattle.ada_syntax.specs.declared.declaration.DiscreteRange.TheVariants as range
use Rattle.ada_syntax.specs.declared.declaration.Initial.{Initial}
use Rattle.ada_syntax.specs.declared.declaration.TypeDefinition.{TypeDefinition}
use Rattle.ada_syntax.specs.declared.declaration.TypeDefinition.TheVariants as definition
use Rattle.ada_syntax.specs.declared.declaration.Component.{Component}
use Rattle.expression_parser.specs.declared.symbol.Symbol.{Symbol}
use Rattle.expression_parser.specs.declared.symbol.Symbol.TheVariants as symbol
use Rattle.expression_parser.specs.declared.extent.Extent.{Extent}
use Rattle.expression_parser.specs.declared.extent.Extent.TheVariants.{Objects, Types}
use Rattle.expression_parser.specs.Symbols.{symbol_of, Is, sign_of}
use Rattle.expression_parser.specs.Extents.{opens}
use Rattle.expression_parser.specs.Reading.{Tokens, Reading, Reader, Got, Stuck, Turn, Refuse, Leave, Take, Look, got, goes_on, ◌>>=◌, turned, on_token, provided, skip, repeat}
use Rattle.expression_parser.specs.ExpressionReading as expressions
use Rattle.expression_parser.specs.Depth.{at_name, at_expr, at_simple, product_turns, sum_turns, at_logical_rest}
use Rattle.expression_parser.specs.Expressions.{expression, IsExpr}
use Rattle.expression_parser.specs.Syntax.{Agree, here, later, Suffix, all, after}
use Rattle.expression_parser.proofs.Agree.{place, moved, Local, LocalTurn, stuck_local, got_local, on_local, bind_local, skip_local, provided_local, repeat_local, local_stuck}
use Rattle.expression_parser.proofs.ExpressionLocal.{then_got, then_closed}
use Rattle.expression_parser.proofs.Yields.{Yields}
use Rattle.expression_parser.proofs.Comes.{on_symbol}
use Rattle.expression_parser.proofs.ExpressionLengths.{shorter}
use Rattle.declaration_parser.specs.Identifiers.{identifiers_by}
use Rattle.declaration_parser.specs.Subtypes.{plain, inside}
use Rattle.declaration_parser.specs.SubtypeReading as read
use Rattle.declaration_parser.proofs.ExpressionParts.{gated_local, types_open_objects, at_name_local, at_simple_local, at_expr_local, at_expr_sound}
use Rattle.declaration_parser.proofs.IdentifierLaws.{identifiers_local}

-- an end of a list is an end of its tail, or the whole
data Cut (t : Token) (us a : Tokens) : Type 0 where
  beyond : Suffix a us → Cut t us a
  whole : a ≡ t ∷ us → Cut t us a

cut : (t : Token) (us a : Tokens) → Suffix a (t ∷ us) → Cut t us a
cut t us a all = whole refl
cut t us a (after s) = beyond s

-- what reads alike is local alike
local_same : {A : Type 0} (r s : Reader A) → ((ts : Tokens) → s ts ≡ r ts) → Local r → Local s
local_same r s e l ts = record {
  within = subst (λ q. Suffix (place q) ts) (sym (e ts)) (l ts).within;
  alike = λ ts' at' g. e ts' ∙ ((l ts).alike ts' at' (subst (λ q. Agree ts (place q) ts' at') (e ts) g) ∙ ap (λ q. moved q at') (sym (e ts)));
}

-- a turn is taken with the symbol of its token
on_found_local : {A : Type 0} (e : Turn A) (turn : Symbol → Token → Turn A) → ((found : Symbol) (t : Token) → Is found t → LocalTurn (turn found t)) → Local (on_token e turn)
on_found_local e turn l = local_same (on_token e (λ found t. turn (symbol_of t.lexeme) t)) (on_token e turn) same (on_local e (λ found t. turn (symbol_of t.lexeme) t) (λ found t. l (symbol_of t.lexeme) t refl))
  where
    same : (ts : Tokens) → on_token e turn ts ≡ on_token e (λ found t. turn (symbol_of t.lexeme) t) ts
    same [] = refl
    same (t ∷ us) = refl

module _ (x : Extent) (m : ℕ) where
  no_expr : (k : ℕ) → expressions.expr x k [] ≡ Stuck []
  no_expr zero = refl
  no_expr (suc k) = refl

  abbrev closes : Token → Expr → Reader Expr
  closes t e = skip symbol.RightParenthesis (got (parenthesized t.pos e))

  primary_stuck : (t : Token) (us rest : Tokens) → Is symbol.LeftParenthesis t → opens x Objects ≡ true → expressions.expr x m us ≡ Stuck rest → expressions.primary_by x (expressions.expr x m) (suc m) (t ∷ us) ≡ Stuck rest
  primary_stuck t us rest i o e =
      on_symbol Refuse (expressions.primary_turn x (expressions.expr x m) (suc m)) symbol.LeftParenthesis t us i
      ∙ (ap (λ b. turned (provided b (Take (expressions.expr x m >>= closes t))) t us) o ∙ ap (goes_on (closes t)) e)

  signed_stuck : (t : Token) (us rest : Tokens) → Is symbol.LeftParenthesis t → opens x Objects ≡ true → expressions.expr x m us ≡ Stuck rest → expressions.signed_by x (expressions.expr x m) (suc m) (t ∷ us) ≡ Stuck rest
  signed_stuck t us rest i o e =
      ap (λ s. turned (expressions.sign_turn x (expressions.expr x m) (suc m) (sign_of s) t) t us) i
      ∙ ap (goes_on (repeat (product_turns x m) (suc m)))
      (on_symbol Refuse (expressions.factor_turn x (expressions.expr x m) (suc m)) symbol.LeftParenthesis t us i ∙ primary_stuck t us rest i o e)

  abbrev after_signed : Reading Expr → Reading Expr
  after_signed q = goes_on (λ e. at_logical_rest x e m) (goes_on (expressions.relation_rest x (expressions.expr x m) (suc m)) (goes_on (repeat (sum_turns x m) (suc m)) q))

  -- where reading gets stuck behind the parenthesis of an expression
  enclosed_stuck : (t : Token) (us rest : Tokens) → Is symbol.LeftParenthesis t → opens x Objects ≡ true → expressions.expr x m us ≡ Stuck rest → at_expr x m (t ∷ us) ≡ Stuck rest
  enclosed_stuck t us rest i o e = ap after_signed (signed_stuck t us rest i o e)

  -- a parenthesis alone
  pub parenthesis_alone : (t : Token) → Is symbol.LeftParenthesis t → opens x Objects ≡ true → at_expr x m (t ∷ []) ≡ Stuck []
  parenthesis_alone t i o = enclosed_stuck t [] [] i o (no_expr m)

  -- OTHERS begins no expression
  pub others_stuck : (u : Token) (vs : Tokens) → Is symbol.Others u → at_expr x m (u ∷ vs) ≡ Stuck (u ∷ vs)
  others_stuck u vs i = ap after_signed
      (ap (λ s. turned (expressions.sign_turn x (expressions.expr x m) (suc m) (sign_of s) u) u vs) i
      ∙ ap (goes_on (repeat (product_turns x m) (suc m)))
      (on_symbol Refuse (expressions.factor_turn x (expressions.expr x m) (suc m)) symbol.Others u vs i
      ∙ on_symbol Refuse (expressions.primary_turn x (expressions.expr x m) (suc m)) symbol.Others u vs i))

  -- an expression that begins with a parenthesis is not refused there
  not_there : (t : Token) (us : Tokens) → Is symbol.LeftParenthesis t → opens x Objects ≡ true → at_expr x m (t ∷ us) ≡ Stuck (t ∷ us) → ⊥
  not_there t us i o e =
      let p = sym (parenthesis_alone t i o) ∙ local_stuck (at_expr x m) (t ∷ us) (t ∷ us) (t ∷ []) (t ∷ []) (at_expr_local x m (t ∷ us)) e here in cc

  behind_first : (t : Token) (us : Tokens) (q : Reading Expr) → Is symbol.LeftParenthesis t → opens x Objects ≡ true → at_expr x m (t ∷ us) ≡ q → Yields (λ e rest. IsExpr x expression e (t ∷ us) rest) q → Cut t us (place q) → Suffix (place q) us
  behind_first t us q i o e d (beyond s) = s
  behind_first t us (Got a rest) i o e d (whole h) = absurd (omega (arith, shorter x d, ap length h))
  behind_first t us (Stuck rest) i o e d (whole h) = absurd (not_there t us i o (e ∙ ap Stuck h))

  -- an expression that begins with this parenthesis
  expr_behind_local : (t : Token) → Is symbol.LeftParenthesis t → opens x Objects ≡ true → Local (λ us. at_expr x m (t ∷ us))
  expr_behind_local t i o us =
      let l = at_expr_local x m (t ∷ us) in
      record {
        within = behind_first t us (at_expr x m (t ∷ us)) i o refl (at_expr_sound x m (t ∷ us)) (cut t us (place (at_expr x m (t ∷ us))) l.within);
        alike = λ ts' at' g. l.alike (t ∷ ts') at' (later g);
      }

  value_local : Local (read.value_by x m)
  value_local = then_got (at_expr x m) plain (at_expr_local x m)

  enclosed_local : (t : Token) → Is symbol.LeftParenthesis t → opens x Objects ≡ true → Local (read.enclosed_by x m t)
  enclosed_local t i o = then_got (λ us. at_expr x m (t ∷ us)) plain (expr_behind_local t i o)

  inside_turn_local : (inner : Reader Initial) (t : Token) → Local inner → Is symbol.LeftParenthesis t → opens x Objects ≡ true → (found : Symbol) (u : Token) → LocalTurn (read.inside_turn x m inner t found u)
  inside_turn_local inner t l i o symbol.Others u = skip_local symbol.Arrow (inner >>= λ z. skip symbol.RightParenthesis (got (inside t.pos z))) (then_closed inner symbol.RightParenthesis (λ z. inside t.pos z) l)
  inside_turn_local inner t l i o _ u = enclosed_local t i o

  aggregate_turn_local : (inner : Reader Initial) (t : Token) → Local inner → Is symbol.LeftParenthesis t → (b : Bool) → opens x Types ≡ b → LocalTurn (cond b (Take (on_token Refuse (read.inside_turn x m inner t))) (Look (read.value_by x m)))
  aggregate_turn_local inner t l i true o = on_local Refuse (read.inside_turn x m inner t) (inside_turn_local inner t l i (types_open_objects x o))
  aggregate_turn_local inner t l i false o = value_local

  bounds_local : Local (read.bounds_by x m)
  bounds_local = bind_local (at_simple x m) (λ a. skip symbol.DoubleDot (at_simple x m >>= λ b. got (record { low = a; high = b }))) (at_simple_local x m)
      (λ a. skip_local symbol.DoubleDot (at_simple x m >>= λ b. got (record { low = a; high = b })) (then_got (at_simple x m) (λ b. record { low = a; high = b }) (at_simple_local x m)))

  mark_turn_local : (n : Option Name) → LocalTurn (read.mark_turn n)
  mark_turn_local None = tt
  mark_turn_local (Some n) = tt

  range_turn_local : (a : Expr) (found : Symbol) (t : Token) → LocalTurn (read.range_turn x m a found t)
  range_turn_local a symbol.DoubleDot t = then_got (at_simple x m) (λ b. range.Bounds (record { low = a; high = b })) (at_simple_local x m)
  range_turn_local a _ t = mark_turn_local (read.name_alone a)

  pub range_local : Local (read.range_by x m)
  range_local = gated_local (opens x Types) (at_simple x m >>= read.range_rest x m)
      (bind_local (at_simple x m) (read.range_rest x m) (at_simple_local x m) (λ a. on_local (read.mark_turn (read.name_alone a)) (read.range_turn x m a) (range_turn_local a)))

  constraint_turn_local : (found : Symbol) (t : Token) → LocalTurn (read.constraint_turn x m found t)
  constraint_turn_local symbol.Range t = provided_local (opens x Types) _ (then_got (read.bounds_by x m) (λ b. Some b) bounds_local)
  constraint_turn_local _ t = tt

  constraint_local : Local (read.constraint_by x m)
  constraint_local = on_local (Leave None) (read.constraint_turn x m) constraint_turn_local

  pub indication_local : Local (read.indication_by x m)
  indication_local = bind_local (at_name x m) (λ n. read.constraint_by x m >>= λ c. got (record { mark = n; constraint = c })) (at_name_local x m)
      (λ n. then_got (read.constraint_by x m) (λ c. record { mark = n; constraint = c }) constraint_local)

  component_local : Local (read.component_by x m)
  component_local = bind_local (identifiers_by m) (λ is. skip symbol.Colon (read.indication_by x m >>= λ s. skip symbol.Semicolon (got (record { names = is; indication = s })))) (identifiers_local m)
      (λ is. skip_local symbol.Colon (read.indication_by x m >>= λ s. skip symbol.Semicolon (got (record { names = is; indication = s })))
      (then_closed (read.indication_by x m) symbol.Semicolon (λ s. record { names = is; indication = s }) indication_local))

  components_turn_local : (found : Symbol) (t : Token) (cs : List Component) → LocalTurn (read.components_turn x m found t cs)
  components_turn_local symbol.Identifier t cs = then_got (read.component_by x m) (λ c. cs ++ c ∷ []) component_local
  components_turn_local _ t cs = tt

  components_local : Local (read.components_by x m)
  components_local = bind_local (read.component_by x m) (λ c. repeat (read.components_turn x m) (suc m) (c ∷ [])) component_local
      (λ c. repeat_local (read.components_turn x m) components_turn_local (suc m) (c ∷ []))

  abbrev element_by : DiscreteRange → Reader TypeDefinition
  element_by r = read.indication_by x m >>= λ s. got (definition.Array r s)

  array_local : Local (read.array_by x m)
  array_local = skip_local symbol.LeftParenthesis (read.range_by x m >>= λ r. skip symbol.RightParenthesis (skip symbol.Of (element_by r)))
      (bind_local (read.range_by x m) (λ r. skip symbol.RightParenthesis (skip symbol.Of (element_by r))) range_local
      (λ r. skip_local symbol.RightParenthesis (skip symbol.Of (element_by r)) (skip_local symbol.Of (element_by r) (then_got (read.indication_by x m) (λ s. definition.Array r s) indication_local))))

  record_local : Local (read.record_by x m)
  record_local = bind_local (read.components_by x m) (λ cs. skip symbol.End (skip symbol.Record (got (definition.Record cs)))) components_local
      (λ cs. skip_local symbol.End (skip symbol.Record (got (definition.Record cs))) (skip_local symbol.Record (got (definition.Record cs)) (got_local (definition.Record cs))))

  definition_turn_local : (found : Symbol) (t : Token) → LocalTurn (read.definition_turn x m found t)
  definition_turn_local symbol.Range t = then_got (read.bounds_by x m) (λ b. definition.Integer b) bounds_local
  definition_turn_local symbol.LeftParenthesis t = then_closed (identifiers_by m) symbol.RightParenthesis (λ is. definition.Enumeration is) (identifiers_local m)
  definition_turn_local symbol.Array t = array_local
  definition_turn_local symbol.Record t = record_local
  definition_turn_local _ t = tt

  pub definition_local : Local (read.definition_by x m)
  definition_local = gated_local (opens x Types) (on_token Refuse (read.definition_turn x m)) (on_local Refuse (read.definition_turn x m) definition_turn_local)

  initial_turn_local : (inner : Reader Initial) → Local inner → (found : Symbol) (t : Token) → Is found t → LocalTurn (read.initial_turn x m inner found t)
  initial_turn_local inner l symbol.LeftParenthesis t i = aggregate_turn_local inner t l i (opens x Types) refl
  initial_turn_local inner l _ t i = value_local

  initial_with_local : (inner : Reader Initial) → Local inner → Local (read.initial_with x m inner)
  initial_with_local inner l = on_found_local Refuse (read.initial_turn x m inner) (initial_turn_local inner l)

others_stuck_at : (x : Extent) (k : ℕ) (u : Token) (vs : Tokens) → Is symbol.Others u → expressions.expr x k (u ∷ vs) ≡ Stuck (u ∷ vs)
others_stuck_at x zero u vs i = refl
others_stuck_at x (suc k) u vs i = others_stuck x k u vs i

-- nor does a parenthesis before it
pub enclosed_others : (x : Extent) (m : ℕ) (t u : Token) (vs : Tokens) → Is symbol.LeftParenthesis t → opens x Objects ≡ true → Is symbol.Others u → at_expr x m (t ∷ u ∷ vs) ≡ Stuck (u ∷ vs)
enclosed_others x m t u vs i o j = enclosed_stuck x m t (u ∷ vs) (u ∷ vs) i o (others_stuck_at x m u vs j)

pub initial_local : (x : Extent) (m : ℕ) → Local (read.initial x m)
initial_local x zero = stuck_local
initial_local x (suc m) = initial_with_local x m (read.initial x m) (initial_local x m)

pub initial_by_local : (x : Extent) (m : ℕ) → Local (read.initial_by x m)
initial_by_local x m = initial_with_local x m (read.initial x m) (initial_local x m)
