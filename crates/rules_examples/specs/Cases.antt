-- Worked sources as text, and what they come to.
use Prim.Native.String.{String}
use Rattle.std.specs.Prelude.{◌≡◌, ℕ, zero, suc, ◌+◌, ◌-◌, List, [], ◌∷◌, ◌++◌, codes, map, take, drop, length, sum_by, Option, Some, None, Ok, Err}
use Rattle.ada_lexer.specs.Tokens.{Tokens, tokens_of}
use Rattle.ada_syntax.specs.declared.unit.Unit.{Unit as LibraryUnit}
use Rattle.expression_parser.specs.Reading.{Reading, Got}
use Rattle.expression_parser.specs.declared.extent.Extent.TheVariants.{Whole}
use Rattle.ada_parser.specs.UnitReading as read
use Rattle.cov_base.specs.declared.obligations.Obligations.{Obligations}
use Rattle.ada_meaning.specs.Obligations.{obligations_of}
use Rattle.ada_rules.specs.Legal as rules

-- the lines of a file
abbrev pub Lines : Type 0
Lines = List (List ℕ)

infixr 30 ◌⏎◌
abbrev pub ◌⏎◌ : String → Lines → Lines
s ⏎ rest = codes s ∷ rest

-- what sources come to: they are no files of the grammar; a rule on names or on types is broken, or a counted limit passed, at a file, a
-- line and a column; or they are legal, with so many statements, decisions and conditions
pub data Outcome : Type 0 where
  no_files : Outcome
  names : (file line column : ℕ) → Outcome
  types : (file line column : ℕ) → Outcome
  counts : (file line column : ℕ) → Outcome
  good : (statements decisions conditions : ℕ) → Outcome

-- obligations, counted
abbrev pub counted : Obligations → Outcome
counted o = good (length o.statements) (length o.decisions) (sum_by (λ d. length d.conditions) o.decisions)

abbrev pub outcome_of : rules.Checked → Outcome
outcome_of (rules.unnamed p) = names p.file p.line p.col
outcome_of (rules.mistyped p) = types p.file p.line p.col
outcome_of (rules.too_large p) = counts p.file p.line p.col
outcome_of (rules.legal p) = counted (obligations_of p [])

-- files as text, as tokens, and as units, in their order
abbrev pub text_of : Lines → List ℕ
text_of [] = []
text_of (l ∷ ls) = l ++ 10 ∷ text_of ls

abbrev pub read_units : Reading (List LibraryUnit) → Option (List LibraryUnit)
read_units (Got units []) = Some units
read_units r = None

abbrev pub units_of : Tokens → Option (List LibraryUnit)
units_of (Ok tokens) = read_units (read.file_by Whole (length tokens + 1) tokens)
units_of (Err fault) = None

abbrev pub with_units : Option (List LibraryUnit) → Option (List LibraryUnit) → Option (List LibraryUnit)
with_units (Some us) (Some vs) = Some (us ++ vs)
with_units a b = None

abbrev pub units_from : ℕ → List Lines → Option (List LibraryUnit)
units_from n [] = Some []
units_from n (f ∷ fs) = with_units (units_of (tokens_of n (text_of f))) (units_from (n + 1) fs)

abbrev pub outcome_in : (main : List ℕ) → Option (List LibraryUnit) → Outcome
outcome_in main None = no_files
outcome_in main (Some units) = outcome_of (rules.checked units main)

-- a case: the main unit, the files, and what they come to
pub record Case : Type 0 where
  pub main : List ℕ
  pub files : List Lines
  pub outcome : Outcome

abbrev pub case_of : List ℕ → List Lines → Outcome → Case
case_of main files o = record { main = main; files = files; outcome = o }

-- the main unit M with these declarations, of which the first stands in line 2, and these statements
abbrev pub of_main : (declarations statements : Lines) → Outcome → Case
of_main ds ss o = case_of (codes "m") (("procedure M is" ⏎ ds ++ ("begin" ⏎ ss ++ ("end M;" ⏎ []))) ∷ []) o

-- these units, from line 1 on, and behind them a main unit M that does nothing
abbrev pub of_units : Lines → Outcome → Case
of_units f o = case_of (codes "m") ((f ++ ("procedure M is" ⏎ "begin" ⏎ "   null;" ⏎ "end M;" ⏎ [])) ∷ []) o

-- files of which one has other lines in place of these, from the first to the last
abbrev pub changed : (file first last : ℕ) → Lines → List Lines → List Lines
changed n first last new [] = []
changed zero first last new (f ∷ fs) = (take (first - 1) f ++ new ++ drop last f) ∷ fs
changed (suc n) first last new (f ∷ fs) = f ∷ changed n first last new fs

-- each case comes to what it says
pub record Hold (cases : List Case) : Type 0 where
  pub shown : map (λ c. outcome_in c.main (units_from 0 c.files)) cases ≡ map (λ c. c.outcome) cases
