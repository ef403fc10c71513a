-- How initial values, ranges, subtypes and type definitions are read, with one token in view.
use Rattle.std.specs.Prelude.{ℕ, zero, suc, Bool, true, false, cond, List, [], ◌∷◌, ◌++◌, Option, Some, None}
use Rattle.ada_lexer.specs.declared.token.Token.{Token}
use Rattle.ada_syntax.specs.Tree.{Expr, named, Name}
use Rattle.ada_syntax.specs.declared.declaration.Bounds.{Bounds}
use Rattle.ada_syntax.specs.declared.declaration.DiscreteRange.{DiscreteRange}
use Rattle.ada_syntax.specs.declared.declaration.DiscreteRange.TheVariants as range
use Rattle.ada_syntax.specs.declared.declaration.SubtypeIndication.{SubtypeIndication}
use Rattle.ada_syntax.specs.declared.declaration.Initial.{Initial}
use Rattle.ada_syntax.specs.declared.declaration.TypeDefinition.{TypeDefinition}
use Rattle.ada_syntax.specs.declared.declaration.TypeDefinition.TheVariants as definition
use Rattle.ada_syntax.specs.declared.declaration.Component.{Component}
use Rattle.expression_parser.specs.declared.symbol.Symbol.{Symbol}
use Rattle.expression_parser.specs.declared.symbol.Symbol.TheVariants as symbol
use Rattle.expression_parser.specs.declared.extent.Extent.{Extent}
use Rattle.expression_parser.specs.declared.extent.Extent.TheVariants.{Types}
use Rattle.expression_parser.specs.Extents.{opens}
use Rattle.expression_parser.specs.Reading.{Reader, Stuck, Turn, Refuse, Leave, Take, Look, got, ◌>>=◌, on_token, provided, skip, repeat}
use Rattle.expression_parser.specs.Depth.{at_name, at_expr, at_simple}
use Rattle.declaration_parser.specs.Identifiers.{identifiers_by}
use Rattle.declaration_parser.specs.Subtypes.{plain, inside}

-- a production that may be closed
abbrev pub gated : {A : Type 0} → Bool → Reader A → Reader A
gated true r = r
gated false r = Stuck

-- the name that an expression is
abbrev pub name_alone : Expr → Option Name
name_alone (named p n) = Some n
name_alone _ = None

-- a range that is this name
abbrev pub mark_alone : Option Name → Reader DiscreteRange
mark_alone None = Stuck
mark_alone (Some n) = got (range.Mark n)

-- behind a first bound, which is a mark where it is a name and no second one follows
abbrev pub mark_turn : Option Name → Turn DiscreteRange
mark_turn None = Refuse
mark_turn (Some n) = Leave (range.Mark n)

-- behind the parenthesis of an enumeration
abbrev pub enumeration_by : ℕ → Reader TypeDefinition
enumeration_by m = identifiers_by m >>= λ is. skip symbol.RightParenthesis (got (definition.Enumeration is))

-- `m` bounds the depth and each list
module _ (x : Extent) (m : ℕ) where
  abbrev pub value_by : Reader Initial
  value_by = at_expr x m >>= λ e. got (plain e)

  -- an expression that begins with this parenthesis
  abbrev pub enclosed_by : Token → Reader Initial
  enclosed_by t us = value_by (t ∷ us)

  -- `inner` reads a value in `( OTHERS => .. )`
  abbrev pub inside_turn : Reader Initial → Token → Symbol → Token → Turn Initial
  inside_turn inner t symbol.Others u = Take (skip symbol.Arrow (inner >>= λ i. skip symbol.RightParenthesis (got (inside t.pos i))))
  inside_turn inner t _ u = Look (enclosed_by t)

  abbrev pub initial_turn : Reader Initial → Symbol → Token → Turn Initial
  initial_turn inner symbol.LeftParenthesis t = cond (opens x Types) (Take (on_token Refuse (inside_turn inner t))) (Look value_by)
  initial_turn inner _ t = Look value_by

  abbrev pub initial_with : Reader Initial → Reader Initial
  initial_with inner = on_token Refuse (initial_turn inner)

  abbrev pub bounds_by : Reader Bounds
  bounds_by = at_simple x m >>= λ a. skip symbol.DoubleDot (at_simple x m >>= λ b. got (record { low = a; high = b }))

  abbrev pub range_turn : Expr → Symbol → Token → Turn DiscreteRange
  range_turn a symbol.DoubleDot t = Take (at_simple x m >>= λ b. got (range.Bounds (record { low = a; high = b })))
  range_turn a _ t = mark_turn (name_alone a)

  abbrev pub range_rest : Expr → Reader DiscreteRange
  range_rest a = on_token (mark_turn (name_alone a)) (range_turn a)

  abbrev pub range_by : Reader DiscreteRange
  range_by = gated (opens x Types) (at_simple x m >>= range_rest)

  abbrev pub constraint_turn : Symbol → Token → Turn (Option Bounds)
  constraint_turn symbol.Range t = provided (opens x Types) (Take (bounds_by >>= λ b. got (Some b)))
  constraint_turn _ t = Leave None

  abbrev pub constraint_by : Reader (Option Bounds)
  constraint_by = on_token (Leave None) constraint_turn

  abbrev pub indication_by : Reader SubtypeIndication
  indication_by = at_name x m >>= λ n. constraint_by >>= λ c. got (record { mark = n; constraint = c })

  abbrev pub component_by : Reader Component
  component_by = identifiers_by m >>= λ is. skip symbol.Colon (indication_by >>= λ s. skip symbol.Semicolon (got (record { names = is; indication = s })))

  abbrev pub components_turn : Symbol → Token → List Component → Turn (List Component)
  components_turn symbol.Identifier t cs = Look (component_by >>= λ c. got (cs ++ c ∷ []))
  components_turn _ t cs = Leave cs

  abbrev pub components_by : Reader (List Component)
  components_by = component_by >>= λ c. repeat components_turn (suc m) (c ∷ [])

  -- the index of an array, up to its element
  abbrev pub index_by : Reader DiscreteRange
  index_by = skip symbol.LeftParenthesis (range_by >>= λ r. skip symbol.RightParenthesis (skip symbol.Of (got r)))

  -- behind ARRAY
  abbrev pub array_by : Reader TypeDefinition
  array_by = skip symbol.LeftParenthesis (range_by >>= λ r. skip symbol.RightParenthesis (skip symbol.Of (indication_by >>= λ s. got (definition.Array r s))))

  -- behind RECORD
  abbrev pub record_by : Reader TypeDefinition
  record_by = components_by >>= λ cs. skip symbol.End (skip symbol.Record (got (definition.Record cs)))

  abbrev pub definition_turn : Symbol → Token → Turn TypeDefinition
  definition_turn symbol.Range t = Take (bounds_by >>= λ b. got (definition.Integer b))
  definition_turn symbol.LeftParenthesis t = Take (enumeration_by m)
  definition_turn symbol.Array t = Take array_by
  definition_turn symbol.Record t = Take record_by
  definition_turn _ t = Refuse

  abbrev pub definition_form : Reader TypeDefinition
  definition_form = on_token Refuse definition_turn

  abbrev pub definition_by : Reader TypeDefinition
  definition_by = gated (opens x Types) definition_form

-- an initial value, with at most this many parentheses in one another
abbrev pub initial : Extent → ℕ → Reader Initial
initial x zero = Stuck
initial x (suc m) = initial_with x m (initial x m)

abbrev pub initial_by : Extent → ℕ → Reader Initial
initial_by x m = initial_with x m (initial x m)
