-- The specifications of subprograms that token lists derive (Ada RM 2012, 6.1): the tree stands at the front of the first list, and the
-- second list is what follows it. One case for each production.
use Rattle.std.specs.Prelude.{List, [], ◌∷◌, ◌++◌, Option, Some, None, IsTrue}
use Rattle.cov_base.specs.declared.position.Pos.{Pos}
use Rattle.ada_lexer.specs.declared.token.Token.{Token}
use Rattle.ada_syntax.specs.Tree.{Name}
use Rattle.ada_syntax.specs.declared.name.Identifier.{Identifier}
use Rattle.ada_syntax.specs.declared.unit.Mode.{Mode}
use Rattle.ada_syntax.specs.declared.unit.Mode.TheVariants as mode
use Rattle.ada_syntax.specs.declared.unit.Parameter.{Parameter}
use Rattle.ada_syntax.specs.declared.unit.Specification.{Specification}
use Rattle.expression_parser.specs.declared.symbol.Symbol.TheVariants as symbol
use Rattle.expression_parser.specs.declared.extent.Extent.{Extent}
use Rattle.expression_parser.specs.declared.extent.Extent.TheVariants.{Subprograms}
use Rattle.expression_parser.specs.Symbols.{Is, identifier_of}
use Rattle.expression_parser.specs.Extents.{opens}
use Rattle.expression_parser.specs.Reading.{Tokens}
use Rattle.expression_parser.specs.Expressions.{IsName}
use Rattle.declaration_parser.specs.Identifiers.{AreIdentifiers}

-- [IN | OUT | IN OUT]
pub data IsMode : Mode → Tokens → Tokens → Type 0 where
  no_mode : {ts : Tokens} → IsMode mode.Default ts ts
  mode_in : {t : Token} {rest : Tokens} → Is symbol.In t → IsMode mode.In (t ∷ rest) rest
  mode_out : {t : Token} {rest : Tokens} → Is symbol.Out t → IsMode mode.Out (t ∷ rest) rest
  mode_in_out : {t u : Token} {rest : Tokens} → Is symbol.In t → Is symbol.Out u → IsMode mode.InOut (t ∷ u ∷ rest) rest

-- param = id {, id} : [IN | OUT | IN OUT] name
pub data IsParameter (x : Extent) : Parameter → Tokens → Tokens → Type 0 where
  a_parameter : {t : Token} {is : List Identifier} {k : Mode} {n : Name} {ts us vs rest : Tokens} → AreIdentifiers is ts (t ∷ us) → Is symbol.Colon t → IsMode k us vs → IsName x n vs rest
      → IsParameter x (record { names = is; mode = k; mark = n }) ts rest

-- param {; param}
pub data AreParameters (x : Extent) : List Parameter → Tokens → Tokens → Type 0 where
  one_parameter : {p : Parameter} {ts rest : Tokens} → IsParameter x p ts rest → AreParameters x (p ∷ []) ts rest
  more_parameters : {t : Token} {p : Parameter} {ps : List Parameter} {ts us rest : Tokens} → AreParameters x ps ts (t ∷ us) → Is symbol.Semicolon t → IsParameter x p us rest → AreParameters x (ps ++ p ∷ []) ts rest

-- [params], with params = ( param {; param} )
pub data HasParameters (x : Extent) : List Parameter → Tokens → Tokens → Type 0 where
  no_parameters : {ts : Tokens} → HasParameters x [] ts ts
  some_parameters : {t u : Token} {ps : List Parameter} {ts rest : Tokens} → IsTrue (opens x Subprograms) → Is symbol.LeftParenthesis t → AreParameters x ps ts (u ∷ rest) → Is symbol.RightParenthesis u
      → HasParameters x ps (t ∷ ts) rest

-- the specification whose first token stands at this place
abbrev pub specified : Pos → Identifier → List Parameter → Option Name → Specification
specified p i ps n = record { pos = p; name = i; parameters = ps; result_mark = n }

-- spec = PROCEDURE id [params] | FUNCTION id [params] RETURN name
pub data IsSpecification (x : Extent) : Specification → Tokens → Tokens → Type 0 where
  a_procedure : {t u : Token} {ps : List Parameter} {ts rest : Tokens} → Is symbol.Procedure t → Is symbol.Identifier u → HasParameters x ps ts rest → IsSpecification x (specified t.pos (identifier_of u) ps None) (t ∷ u ∷ ts) rest
  a_function : {t u v : Token} {ps : List Parameter} {n : Name} {ts us rest : Tokens} → IsTrue (opens x Subprograms) → Is symbol.Function t → Is symbol.Identifier u → HasParameters x ps ts (v ∷ us) → Is symbol.Return v → IsName x n us rest
      → IsSpecification x (specified t.pos (identifier_of u) ps (Some n)) (t ∷ u ∷ ts) rest
