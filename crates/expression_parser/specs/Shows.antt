-- What a function of the parser answers, seen as a reading.
use Rattle.std.specs.Prelude.{◌≡◌, ℕ, ◌<◌, ◌≤◌, length, [], ◌∷◌, Bool, true, false, cond, Option, Some, None, Result, Ok, Err, ⊤}
use Rattle.std.specs.Borrow.{Bor}
use Rattle.cov_base.specs.declared.position.Pos.{Pos}
use Rattle.ada_lexer.specs.declared.token.Token.{Token}
use Rattle.expression_parser.specs.declared.fault.Fault.{Fault}
use Rattle.expression_parser.specs.declared.fault.Fault.TheVariants.{Syntax, Memory}
use Rattle.ada_syntax.specs.declared.name.Identifier.{Identifier}
use Rattle.ada_syntax.specs.Tree.{Name}
use Rattle.ada_syntax.specs.TreeView.{with_suffix}
use Rattle.ada_syntax.specs.declared.name.Suffix.{Suffix}
use Rattle.expression_parser.specs.Depth.{suffix_turns}
use Rattle.expression_parser.specs.declared.symbol.Symbol.{Symbol}
use Rattle.expression_parser.specs.declared.symbol.Symbol.TheVariants as symbol
use Rattle.expression_parser.specs.declared.extent.Extent.{Extent}
use Rattle.expression_parser.specs.Extents.{opens}
use Rattle.expression_parser.specs.Symbols.{symbol_of, same, identifier_of}
use Rattle.expression_parser.specs.Reading.{Tokens, Reading, Got, Stuck, Reader, Turn, expect, repeat}

-- the reader reads these tokens so, at every depth that they can need
pub record Reads {A : Type 0} (reader : ℕ → Reader A) (ts : Tokens) (q : Reading A) : Type 0 where
  pub by : (m : ℕ) → length ts ≤ m → reader m ts ≡ q

-- the answer is that reading; want of memory is free
abbrev pub Shows : {A : Type 0} → (Reading A → Type 0) → Result (A × Bor Tokens) Fault → Type 0
Shows P (Ok x) = P (Got x.0 x.1.now)
Shows P (Err (Syntax rest)) = P (Stuck rest.now)
Shows P (Err Memory) = ⊤

-- a given word or delimiter was taken
pub record Skipped (s : Symbol) (ts rest : Tokens) : Type 0 where
  pub t : Token
  pub here : expect s ts ≡ Got t rest
  pub shorter : length rest < length ts

-- a word that stands at this place was taken
pub record Placed (s : Symbol) (ts rest : Tokens) (p : Pos) : Type 0 where
  pub t : Token
  pub here : expect s ts ≡ Got t rest
  pub same : p ≡ t.pos
  pub shorter : length rest < length ts

-- this identifier was taken
pub record Identified (ts rest : Tokens) (i : Identifier) : Type 0 where
  pub t : Token
  pub here : expect symbol.Identifier ts ≡ Got t rest
  pub same : i ≡ identifier_of t
  pub shorter : length rest < length ts

-- the answer of taking a word or a delimiter
abbrev pub TakesWord : Symbol → Tokens → Result (Bor Tokens) Fault → Type 0
TakesWord s ts (Ok rest) = Skipped s ts rest.now
TakesWord s ts (Err (Syntax rest)) = expect s ts ≡ Stuck rest.now
TakesWord s ts (Err Memory) = ⊤

-- the answer of taking a word with its place
abbrev pub TakesPlace : Symbol → Tokens → Result (Pos × Bor Tokens) Fault → Type 0
TakesPlace s ts (Ok x) = Placed s ts x.1.now x.0
TakesPlace s ts (Err (Syntax rest)) = expect s ts ≡ Stuck rest.now
TakesPlace s ts (Err Memory) = ⊤

-- the answer of taking an identifier
abbrev pub TakesIdentifier : Tokens → Result (Identifier × Bor Tokens) Fault → Type 0
TakesIdentifier ts (Ok x) = Identified ts x.1.now x.0
TakesIdentifier ts (Err (Syntax rest)) = expect symbol.Identifier ts ≡ Stuck rest.now
TakesIdentifier ts (Err Memory) = ⊤

-- the same of a part of the grammar
abbrev pub IsOpen : Extent → Extent → Tokens → Result (Unit {0}) Fault → Type 0
IsOpen x needed ts (Ok u) = opens x needed ≡ true
IsOpen x needed ts (Err (Syntax rest)) = (opens x needed ≡ false) × (rest.now ≡ ts)
IsOpen x needed ts (Err Memory) = ⊥

-- a loop from this state reads these tokens so, at every depth and with every count that they can need
pub record More {S : Type 0} (turns : ℕ → Symbol → Token → S → Turn S) (ts : Tokens) (s : S) (q : Reading S) : Type 0 where
  pub by : (m k : ℕ) → length ts ≤ m → length ts < k → repeat (turns m) k s ts ≡ q

-- the answer is that reading, where contracts see the value by this view
abbrev pub ShowsAs : {A B : Type 0} → (B → A) → (Reading A → Type 0) → Result (B × Bor Tokens) Fault → Type 0
ShowsAs view P (Ok x) = P (Got (view x.0) x.1.now)
ShowsAs view P (Err (Syntax rest)) = P (Stuck rest.now)
ShowsAs view P (Err Memory) = ⊤

-- the tokens behind a given word or delimiter, where the next token is one
abbrev pub after : Symbol → Tokens → Option Tokens
after s [] = None
after s (t ∷ us) = cond (same (symbol_of t.lexeme) s) (Some us) None

-- whether the next token has a symbol of a kind
abbrev pub next_is : (Symbol → Bool) → Tokens → Bool
next_is p [] = false
next_is p (t ∷ us) = p (symbol_of t.lexeme)

-- one turn of the loop over the parts of a name, whatever name it has come to
abbrev pub NextSuffix : Extent → Tokens → Result (Option (Suffix × Bor Tokens)) Fault → Type 0
NextSuffix x ts (Ok None) = (n : Name) → More (suffix_turns x) ts n (Got n ts)
NextSuffix x ts (Ok (Some p)) = ((n : Name) (q : Reading Name) → More (suffix_turns x) p.1.now (with_suffix n p.0) q → More (suffix_turns x) ts n q) × (length p.1.now < length ts)
NextSuffix x ts (Err (Syntax rest)) = (n : Name) → More (suffix_turns x) ts n (Stuck rest.now)
NextSuffix x ts (Err Memory) = ⊤
