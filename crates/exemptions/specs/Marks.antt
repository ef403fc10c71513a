-- The exemption pragmas of a source: `pragma Annotate (Xcov, Exempt_On, "why");` and `pragma Annotate (Xcov, Exempt_Off);`.
use Rattle.std.specs.Prelude.{ℕ, List, [], ◌∷◌, ◌==◌, Option, Some, None, if◌then◌else◌, is_some, option_map, option_and_then, codes}
use Rattle.std.specs.Str.{str_eq_ignore_ascii_case}
use Rattle.cov_base.specs.declared.position.Pos.{Pos}
use Rattle.ada_lexer.specs.declared.token.Lexeme.{Lexeme}
use Rattle.ada_lexer.specs.declared.token.Lexeme.TheVariants as lexeme
use Rattle.ada_lexer.specs.declared.token.Token.{Token}
use Rattle.exemptions.specs.declared.mark.Mark.{Mark}
use Rattle.exemptions.specs.declared.mark.Mark.TheVariants as mark

-- the tokens behind those that begin with these spellings, case ignored; none where they begin otherwise
abbrev pub behind : List (List ℕ) → List Token → Option (List Token)
behind [] tokens = Some tokens
behind (spelling ∷ spellings) [] = None
behind (spelling ∷ spellings) (token ∷ tokens) =
    if str_eq_ignore_ascii_case spelling token.text then behind spellings tokens else None

-- the pragma that ends a region
abbrev pub exempt_off : List (List ℕ)
exempt_off =
    codes "pragma" ∷ codes "Annotate" ∷ codes "(" ∷ codes "Xcov" ∷ codes "," ∷ codes "Exempt_Off" ∷ codes ")" ∷ codes ";" ∷ []

-- the pragma that begins a region, up to its justification
abbrev pub exempt_on : List (List ℕ)
exempt_on = codes "pragma" ∷ codes "Annotate" ∷ codes "(" ∷ codes "Xcov" ∷ codes "," ∷ codes "Exempt_On" ∷ codes "," ∷ []

-- and behind it
abbrev pub pragma_end : List (List ℕ)
pragma_end = codes ")" ∷ codes ";" ∷ []

-- what a string literal says, behind its first quote: all before its last quote, each quote once (Ada RM 2012, 2.6)
abbrev pub said_behind : List ℕ → List ℕ
said_behind [] = []
said_behind (byte ∷ []) = []
said_behind (byte ∷ next ∷ bytes) = if byte == 34 then byte ∷ said_behind bytes else byte ∷ said_behind (next ∷ bytes)

-- what a string literal says
abbrev pub said_by : List ℕ → List ℕ
said_by [] = []
said_by (quote ∷ bytes) = said_behind bytes

-- the justification that a token is: a string literal
abbrev pub justification_of : Lexeme → List ℕ → Option (List ℕ)
justification_of lexeme.Text text = Some (said_by text)
justification_of _ text = None

-- what a pragma at a place marks whose tokens go on so behind `Exempt_On,`
abbrev pub on_of : Pos → List Token → Option Mark
on_of pos [] = None
on_of pos (why ∷ tokens) =
    if is_some (behind pragma_end tokens) then option_map (mark.On pos) (justification_of why.lexeme why.text) else None

-- what an exemption pragma marks with which tokens begin
abbrev pub mark_of : List Token → Option Mark
mark_of [] = None
mark_of (first ∷ tokens) =
    if is_some (behind exempt_off (first ∷ tokens)) then Some (mark.Off first.pos)
    else option_and_then (on_of first.pos) (behind exempt_on (first ∷ tokens))

-- a mark, or none, before others
abbrev pub before : Option Mark → List Mark → List Mark
before None marks = marks
before (Some first) marks = first ∷ marks

-- the marks of a source in their order
abbrev pub marks_of : List Token → List Mark
marks_of [] = []
marks_of (first ∷ tokens) = before (mark_of (first ∷ tokens)) (marks_of tokens)
