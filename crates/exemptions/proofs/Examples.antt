-- The definitions at worked examples.
use Rattle.std.proofs.Common.{◌≡◌, ℕ, List, [], ◌∷◌, ◌++◌, Ok, true, false, codes, map, refl}
use Rattle.cov_base.specs.declared.obligations.Region.{Region}
use Rattle.cov_base.specs.declared.position.Pos.{Pos}
use Rattle.ada_lexer.specs.declared.token.Lexeme.TheVariants as lexeme
use Rattle.ada_lexer.specs.declared.token.Token.{Token}
use Rattle.exemptions.specs.declared.mark.Mark.TheVariants as mark
use Rattle.exemptions.specs.Marks.{said_by, exempt_off, exempt_on, pragma_end}
use Rattle.exemptions.specs.Regions.{regions_of, paired, unpaired_at, is_exempt}

-- a place in file 7
abbrev at : ℕ → ℕ → Pos
at line col = record { file = 7; line = line; col = col }

-- a word or a delimiter
abbrev spelled : Pos → List ℕ → Token
spelled pos text = record { lexeme = lexeme.Identifier; pos = pos; from = 0; to = 0; text = text }

-- `"so"`
abbrev why : Pos → Token
why pos = record { lexeme = lexeme.Text; pos = pos; from = 0; to = 0; text = 34 ∷ 115 ∷ 111 ∷ 34 ∷ [] }

-- the two pragmas, all of whose tokens are at one place
abbrev on_tokens : Pos → List Token
on_tokens pos = map (spelled pos) exempt_on ++ (why pos ∷ map (spelled pos) pragma_end)

abbrev off_tokens : Pos → List Token
off_tokens pos = map (spelled pos) exempt_off

-- the region from 2:5 to 4:3
abbrev region : Region
region = record { file = 7; from_line = 2; from_column = 5; to_line = 4; to_column = 3; why = codes "so" }

one_region : regions_of (on_tokens (at 2 5) ++ (spelled (at 3 1) (codes "X") ∷ off_tokens (at 4 3))) ≡ Ok (region ∷ [])
one_region = refl

on_off_off : paired (mark.On (at 1 1) [] ∷ mark.Off (at 2 1) ∷ mark.Off (at 3 1) ∷ []) ≡ unpaired_at (at 3 1)
on_off_off = refl

on_on : paired (mark.On (at 1 1) [] ∷ mark.On (at 2 1) [] ∷ []) ≡ unpaired_at (at 1 1)
on_on = refl

on_on_off : paired (mark.On (at 1 1) [] ∷ mark.On (at 2 1) [] ∷ mark.Off (at 3 1) ∷ []) ≡ unpaired_at (at 2 1)
on_on_off = refl

quotes : said_by (34 ∷ 97 ∷ 34 ∷ 34 ∷ 98 ∷ 34 ∷ []) ≡ 97 ∷ 34 ∷ 98 ∷ []
quotes = refl

at_the_pragma : is_exempt (region ∷ []) (at 2 5) ≡ false
at_the_pragma = refl

behind_the_pragma : is_exempt (region ∷ []) (at 2 6) ≡ true
behind_the_pragma = refl

at_the_end : is_exempt (region ∷ []) (at 4 3) ≡ false
at_the_end = refl
