-- What looks at the next tokens answer.
use Rattle.std.specs.Prelude.{◌≡◌, ℕ, ◌<◌, List, ◌++◌, length, Option, Some, None, Result, Ok, Err, ⊤}
use Rattle.std.specs.Borrow.{Bor}
use Rattle.cov_base.specs.declared.position.Pos.{Pos}
use Rattle.ada_lexer.specs.declared.token.Token.{Token}
use Rattle.ada_syntax.specs.declared.declaration.Initial.{Initial}
use Rattle.expression_parser.specs.declared.extent.Extent.{Extent}
use Rattle.expression_parser.specs.declared.fault.Fault.{Fault}
use Rattle.expression_parser.specs.declared.fault.Fault.TheVariants.{Syntax, Memory}
use Rattle.expression_parser.specs.declared.symbol.Symbol.TheVariants as symbol
use Rattle.expression_parser.specs.Reading.{Tokens, Reader, Got, Stuck, got, ◌>>=◌, expect, skip}
use Rattle.expression_parser.specs.Depth.{at_expr}
use Rattle.declaration_parser.specs.DeclarationReading.{spelled_by}
use Rattle.declaration_parser.specs.Subtypes.{inside}
use Rattle.declaration_parser.specs.SubtypeReading.{value_by, initial, initial_by}

-- the identifier of this spelling was taken
pub record Spelled (spelling : List ℕ) (ts rest : Tokens) : Type 0 where
  pub t : Token
  pub here : spelled_by spelling ts ≡ Got t rest
  pub shorter : length rest < length ts

-- the answer of taking it
abbrev pub TakesSpelled : List ℕ → Tokens → Result (Bor Tokens) Fault → Type 0
TakesSpelled spelling ts (Ok rest) = Spelled spelling ts rest.now
TakesSpelled spelling ts (Err (Syntax rest)) = spelled_by spelling ts ≡ Stuck rest.now
TakesSpelled spelling ts (Err Memory) = ⊤

-- a string literal of this text was taken
pub record Quoted (ts rest : Tokens) (text : List ℕ) : Type 0 where
  pub t : Token
  pub here : expect symbol.Text ts ≡ Got t rest
  pub same : text ≡ t.text
  pub shorter : length rest < length ts

-- the answer of taking one
abbrev pub TakesText : Tokens → Result (List ℕ × Bor Tokens) Fault → Type 0
TakesText ts (Ok x) = Quoted ts x.1.now x.0
TakesText ts (Err (Syntax rest)) = expect symbol.Text ts ≡ Stuck rest.now
TakesText ts (Err Memory) = ⊤

-- a value in more parentheses, which stand at these places
abbrev pub within : List Pos → Initial → Initial
within ps i = record { others = ps ++ i.others; value = i.value }

-- an initial value that stands in them
abbrev pub initial_within : Extent → List Pos → ℕ → Reader Initial
initial_within x ps m = initial_by x m >>= λ i. got (within ps i)

-- an expression that stands in them
abbrev pub value_within : Extent → List Pos → ℕ → Reader Initial
value_within x ps m = at_expr x m >>= λ e. got (record { others = ps; value = e })

-- behind OTHERS
abbrev pub rest_inside : Extent → Pos → ℕ → Reader Initial
rest_inside x p m = skip symbol.Arrow (initial x m >>= λ i. skip symbol.RightParenthesis (got (inside p i)))

-- a parenthesis at this place and OTHERS were taken
pub record Encloses (x : Extent) (ts rest : Tokens) (p : Pos) : Type 0 where
  pub by : (m : ℕ) → initial_by x m ts ≡ rest_inside x p m rest
  pub shorter : length rest < length ts

-- the answer of a look for them
abbrev pub LooksInside : Extent → Tokens → Option (Pos × Bor Tokens) → Type 0
LooksInside x ts None = (m : ℕ) → initial_by x m ts ≡ value_by x m ts
LooksInside x ts (Some p) = Encloses x ts p.1.now p.0
