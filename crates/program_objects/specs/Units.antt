-- The library units of source files, and why there are none. Each step looks at all files, in order, before the next step begins.
use Rattle.std.specs.Prelude.{◌≡◌, ℕ, ◌+◌, nat_le, List, [], ◌∷◌, ◌++◌, length, Option, Some, None, Result, Ok, Err, if◌then◌else◌}
use Rattle.ada_lexer.specs.declared.lexer.LexFault.{LexFault}
use Rattle.ada_lexer.specs.declared.token.Token.{Token}
use Rattle.ada_lexer.specs.Nesting.{nested_of}
use Rattle.ada_lexer.specs.Tokens.{tokens_of}
use Rattle.ada_parser.specs.Grammar.{IsFile}
use Rattle.ada_parser.specs.Opening.{open_extent}
use Rattle.ada_parser.specs.Refusal.{Refused}
use Rattle.ada_syntax.specs.declared.unit.Unit.{Unit as LibraryUnit}
use Rattle.cov_base.specs.declared.failure.Failure.{Failure}
use Rattle.cov_base.specs.declared.failure.Failure.TheVariants.{Fault, WantOfMemory}
use Rattle.cov_base.specs.declared.obligations.SourceFile.{SourceFile}
use Rattle.cov_base.specs.declared.position.Pos.{Pos}
use Rattle.program_objects.specs.declared.fault.SourceFault.{SourceFault}
use Rattle.program_objects.specs.declared.fault.Why.{Why}
use Rattle.program_objects.specs.declared.fault.Why.TheVariants.{Limit, Lexical, Syntax}

-- the most bytes of a source file
abbrev pub size_limit : ℕ
size_limit = 1048576

-- the number of the first file that is too large; the first of these has number n
abbrev pub first_too_large : ℕ → List SourceFile → Option ℕ
first_too_large n [] = None
first_too_large n (f ∷ fs) = if nat_le (length f.bytes) size_limit then first_too_large (n + 1) fs else Some n

-- the tokens of a file before those of others
abbrev pub before : List Token → Result (List (List Token)) LexFault → Result (List (List Token)) LexFault
before tokens (Ok more) = Ok (tokens ∷ more)
before tokens (Err fault) = Err fault

-- tokens, where a file has them, before those of others; else its fault
abbrev pub lexed : Result (List Token) LexFault → Result (List (List Token)) LexFault → Result (List (List Token)) LexFault
lexed (Ok tokens) more = before tokens more
lexed (Err fault) more = Err fault

-- the tokens of each file, or the fault of the first that has none; the first of these has number n
abbrev pub all_tokens : ℕ → List SourceFile → Result (List (List Token)) LexFault
all_tokens n [] = Ok []
all_tokens n (f ∷ fs) = lexed (tokens_of n f.bytes) (all_tokens (n + 1) fs)

-- the first place, or else the second
abbrev pub or_else : Option Pos → Option Pos → Option Pos
or_else (Some pos) later = Some pos
or_else None later = later

-- the first place in files where tokens nest too deep
abbrev pub first_nested : List (List Token) → Option Pos
first_nested [] = None
first_nested (tokens ∷ more) = or_else (nested_of tokens) (first_nested more)

-- the units of files, those of each file in order
pub data AreUnits : List (List Token) → List LibraryUnit → Type 0 where
  no_file : AreUnits [] []
  file_then : {tokens : List Token} {units more : List LibraryUnit} {files : List (List Token)} → IsFile open_extent units tokens → AreUnits files more
      → AreUnits (tokens ∷ files) (units ++ more)

-- the fault of a place in a file
abbrev pub fault_in : ℕ → Pos → Why → SourceFault
fault_in n pos why = record { file = n; line = pos.line; col = pos.col; why = why }

abbrev pub fault_at : Pos → Why → SourceFault
fault_at pos why = fault_in pos.file pos why

-- where each file begins
abbrev pub beginning : Pos
beginning = record { file = 0; line = 1; col = 1 }

-- the first of these files that derives no units is refused so; the first of these has number n
pub data BreaksGrammar : ℕ → List (List Token) → SourceFault → Type 0 where
  here : {n : ℕ} {tokens : List Token} {files : List (List Token)} {pos : Pos} → Refused open_extent tokens pos → BreaksGrammar n (tokens ∷ files) (fault_in n pos Syntax)
  behind : {n : ℕ} {tokens : List Token} {units : List LibraryUnit} {files : List (List Token)} {fault : SourceFault} → IsFile open_extent units tokens
      → BreaksGrammar (n + 1) files fault → BreaksGrammar n (tokens ∷ files) fault

-- sources of tokens that don't nest too deep
pub record HaveTokens (files : List SourceFile) (lists : List (List Token)) : Type 0 where
  pub sizes : first_too_large 0 files ≡ None
  pub tokens : all_tokens 0 files ≡ Ok lists
  pub flat : first_nested lists ≡ None

-- the library units of sources
pub record HaveUnits (files : List SourceFile) (units : List LibraryUnit) : Type 0 where
  pub tokens : List (List Token)
  pub flat : HaveTokens files tokens
  pub parsed : AreUnits tokens units

-- sources have no other units
abbrev pub HaveOnlyUnits : List SourceFile → List LibraryUnit → Type 0
HaveOnlyUnits files units = (others : List LibraryUnit) → HaveUnits files others → others ≡ units

-- sources that have no units, with the first fault
pub data HaveNoUnits (files : List SourceFile) : SourceFault → Type 0 where
  too_large : {n : ℕ} → first_too_large 0 files ≡ Some n → HaveNoUnits files (fault_in n beginning Limit)
  without_tokens : {fault : LexFault} → first_too_large 0 files ≡ None → all_tokens 0 files ≡ Err fault → HaveNoUnits files (fault_at fault.pos Lexical)
  too_deep : {tokens : List (List Token)} {pos : Pos} → first_too_large 0 files ≡ None → all_tokens 0 files ≡ Ok tokens → first_nested tokens ≡ Some pos
      → HaveNoUnits files (fault_at pos Limit)
  without_units : {tokens : List (List Token)} {fault : SourceFault} → HaveTokens files tokens → BreaksGrammar 0 tokens fault → HaveNoUnits files fault

-- a call had no units to give, where memory was not refused
abbrev pub FailsFor : List SourceFile → Failure SourceFault → Type 0
FailsFor files (Fault fault) = HaveNoUnits files fault
FailsFor files WantOfMemory = Unit {0}
