-- Where a list of tokens is refused.
use Rattle.std.specs.Prelude.{◌≡◌, List, [], ◌∷◌, ⊤}
use Rattle.cov_base.specs.declared.position.Pos.{Pos}
use Rattle.cov_base.specs.declared.failure.Failure.{Failure}
use Rattle.cov_base.specs.declared.failure.Failure.TheVariants.{Fault, WantOfMemory}
use Rattle.ada_lexer.specs.declared.token.Token.{Token}
use Rattle.ada_syntax.specs.declared.unit.Unit.{Unit as LibraryUnit}
use Rattle.expression_parser.specs.declared.extent.Extent.{Extent}
use Rattle.expression_parser.specs.declared.fault.Fault.{Fault as Stop}
use Rattle.expression_parser.specs.declared.fault.Fault.TheVariants.{Syntax, Memory}
use Rattle.ada_parser.specs.declared.refusal.SyntaxFault.{SyntaxFault}
use Rattle.expression_parser.specs.Reading.{Tokens}
use Rattle.ada_parser.specs.Grammar.{IsFile}
use Rattle.expression_parser.specs.Syntax.{Agree, Suffix}

-- the place of the last token; without tokens line 1 and column 1 of file 0
abbrev pub end_place : Tokens → Pos
end_place [] = record { file = 0; line = 1; col = 1 }
end_place (t ∷ []) = t.pos
end_place (t ∷ (u ∷ us)) = end_place (u ∷ us)

-- the place of the first of these tokens, or else the end's
abbrev pub place_of : Tokens → Tokens → Pos
place_of [] ts = end_place ts
place_of (t ∷ us) ts = t.pos

-- the tokens derive no file
abbrev pub IsNoFile : Extent → Tokens → Type 0
IsNoFile x tokens = (units : List LibraryUnit) → IsFile x units tokens → ⊥

-- the tokens derive no other units
abbrev pub IsOnlyFile : Extent → Tokens → List LibraryUnit → Type 0
IsOnlyFile x tokens units = (others : List LibraryUnit) → IsFile x others tokens → others ≡ units

-- the place of a refusal
pub data Place (x : Extent) (tokens : Tokens) : Pos → Type 0 where
  -- at a token: whatever begins with the tokens up to it, and it too, derives no file
  at_token : {t : Token} {us : Tokens} → Suffix (t ∷ us) tokens → ((tokens' us' : Tokens) → Agree tokens (t ∷ us) tokens' (t ∷ us') → IsNoFile x tokens') → Place x tokens t.pos
  -- at the end
  at_end : Place x tokens (end_place tokens)

-- the tokens derive no file, and are refused there
pub record Refused (x : Extent) (tokens : Tokens) (pos : Pos) : Type 0 where
  pub none : IsNoFile x tokens
  pub place : Place x tokens pos

-- the failure of a file whose reading stops there
abbrev pub failure_of : Stop → Tokens → Failure SyntaxFault
failure_of (Syntax rest) tokens = Fault (record { pos = place_of rest.now tokens })
failure_of Memory tokens = WantOfMemory

-- want of memory is free
abbrev pub RefusedBy : Extent → Tokens → Failure SyntaxFault → Type 0
RefusedBy x tokens (Fault f) = Refused x tokens f.pos
RefusedBy x tokens WantOfMemory = ⊤
