-- What the steps from source files to their units find, and why one failed, where memory was not refused.
use Rattle.std.specs.Prelude.{◌≡◌, ◌++◌, ℕ, List, Err}
use Rattle.ada_lexer.specs.declared.lexer.LexFault.{LexFault}
use Rattle.ada_lexer.specs.declared.token.Token.{Token}
use Rattle.ada_parser.specs.Grammar.{IsFile}
use Rattle.ada_parser.specs.Opening.{open_extent}
use Rattle.ada_parser.specs.Refusal.{IsOnlyFile}
use Rattle.ada_syntax.specs.declared.unit.Unit.{Unit as LibraryUnit}
use Rattle.cov_base.specs.declared.failure.Failure.{Failure}
use Rattle.cov_base.specs.declared.failure.Failure.TheVariants.{Fault, WantOfMemory}
use Rattle.cov_base.specs.declared.obligations.SourceFile.{SourceFile}
use Rattle.program_objects.specs.declared.fault.SourceFault.{SourceFault}
use Rattle.program_objects.specs.Units.{all_tokens, AreUnits, BreaksGrammar}

-- the fault is that of the first file that has no tokens
abbrev pub FailsToLex : List SourceFile → Failure LexFault → Type 0
FailsToLex files (Fault fault) = all_tokens 0 files ≡ Err fault
FailsToLex files WantOfMemory = Unit {0}

-- the fault is that of the first of these files that derives no units; the first of these has number n
abbrev pub FailsToParse : ℕ → List (List Token) → Failure SourceFault → Type 0
FailsToParse n lists (Fault fault) = BreaksGrammar n lists fault
FailsToParse n lists WantOfMemory = Unit {0}

-- files have no other units
abbrev pub AreOnlyUnits : List (List Token) → List LibraryUnit → Type 0
AreOnlyUnits lists units = (others : List LibraryUnit) → AreUnits lists others → others ≡ units

-- units, and behind them those of a file with these tokens, which has no others
pub record AddsUnitsOf (tokens : List Token) (before after : List LibraryUnit) : Type 0 where
  pub units : List LibraryUnit
  pub all : after ≡ before ++ units
  pub derived : IsFile open_extent units tokens
  pub only : IsOnlyFile open_extent tokens units
