-- The initial values, ranges, subtypes and type definitions that token lists derive (Ada RM 2012, 3.2.2, 3.5, 3.6, 3.8, 4.3.3): the tree
-- stands at the front of the first list, and the second list is what follows it. One case for each production.
use Rattle.std.specs.Prelude.{List, [], ◌∷◌, ◌++◌, Option, Some, None, IsTrue}
use Rattle.cov_base.specs.declared.position.Pos.{Pos}
use Rattle.ada_lexer.specs.declared.token.Token.{Token}
use Rattle.ada_syntax.specs.Tree.{Expr, Name}
use Rattle.ada_syntax.specs.declared.name.Identifier.{Identifier}
use Rattle.ada_syntax.specs.declared.declaration.Bounds.{Bounds}
use Rattle.ada_syntax.specs.declared.declaration.DiscreteRange.{DiscreteRange}
use Rattle.ada_syntax.specs.declared.declaration.DiscreteRange.TheVariants as range
use Rattle.ada_syntax.specs.declared.declaration.SubtypeIndication.{SubtypeIndication}
use Rattle.ada_syntax.specs.declared.declaration.Initial.{Initial}
use Rattle.ada_syntax.specs.declared.declaration.TypeDefinition.{TypeDefinition}
use Rattle.ada_syntax.specs.declared.declaration.TypeDefinition.TheVariants as definition
use Rattle.ada_syntax.specs.declared.declaration.Component.{Component}
use Rattle.expression_parser.specs.declared.symbol.Symbol.TheVariants as symbol
use Rattle.expression_parser.specs.declared.extent.Extent.{Extent}
use Rattle.expression_parser.specs.declared.extent.Extent.TheVariants.{Types}
use Rattle.expression_parser.specs.Symbols.{Is}
use Rattle.expression_parser.specs.Extents.{opens}
use Rattle.expression_parser.specs.Reading.{Tokens}
use Rattle.expression_parser.specs.Expressions.{sums, expression, IsExpr, IsName}
use Rattle.declaration_parser.specs.Identifiers.{AreIdentifiers}

-- an expression alone
abbrev pub plain : Expr → Initial
plain e = record { others = []; value = e }

-- a value in `( OTHERS => .. )`, whose parenthesis stands at this place
abbrev pub inside : Pos → Initial → Initial
inside p i = record { others = p ∷ i.others; value = i.value }

-- init = expr | ( OTHERS => init )
pub data IsInitial (x : Extent) : Initial → Tokens → Tokens → Type 0 where
  a_value : {e : Expr} {ts rest : Tokens} → IsExpr x expression e ts rest → IsInitial x (plain e) ts rest
  an_aggregate : {t u v w : Token} {i : Initial} {ts rest : Tokens} → IsTrue (opens x Types) → Is symbol.LeftParenthesis t → Is symbol.Others u → Is symbol.Arrow v → IsInitial x i ts (w ∷ rest) → Is symbol.RightParenthesis w
      → IsInitial x (inside t.pos i) (t ∷ u ∷ v ∷ ts) rest

-- simple .. simple
pub data AreBounds (x : Extent) : Bounds → Tokens → Tokens → Type 0 where
  low_and_high : {t : Token} {a b : Expr} {ts us rest : Tokens} → IsExpr x sums a ts (t ∷ us) → Is symbol.DoubleDot t → IsExpr x sums b us rest → AreBounds x (record { low = a; high = b }) ts rest

-- range = name | simple .. simple
pub data IsRange (x : Extent) : DiscreteRange → Tokens → Tokens → Type 0 where
  a_mark : {n : Name} {ts rest : Tokens} → IsTrue (opens x Types) → IsName x n ts rest → IsRange x (range.Mark n) ts rest
  a_range : {b : Bounds} {ts rest : Tokens} → IsTrue (opens x Types) → AreBounds x b ts rest → IsRange x (range.Bounds b) ts rest

-- [RANGE simple .. simple]
pub data IsConstraint (x : Extent) : Option Bounds → Tokens → Tokens → Type 0 where
  no_constraint : {ts : Tokens} → IsConstraint x None ts ts
  a_constraint : {t : Token} {b : Bounds} {ts rest : Tokens} → IsTrue (opens x Types) → Is symbol.Range t → AreBounds x b ts rest → IsConstraint x (Some b) (t ∷ ts) rest

-- sub = name [RANGE simple .. simple]
pub data IsIndication (x : Extent) : SubtypeIndication → Tokens → Tokens → Type 0 where
  an_indication : {n : Name} {c : Option Bounds} {ts us rest : Tokens} → IsName x n ts us → IsConstraint x c us rest → IsIndication x (record { mark = n; constraint = c }) ts rest

-- comp = id {, id} : sub ;
pub data IsComponent (x : Extent) : Component → Tokens → Tokens → Type 0 where
  a_component : {t u : Token} {is : List Identifier} {s : SubtypeIndication} {ts us rest : Tokens} → AreIdentifiers is ts (t ∷ us) → Is symbol.Colon t → IsIndication x s us (u ∷ rest) → Is symbol.Semicolon u
      → IsComponent x (record { names = is; indication = s }) ts rest

-- comp {comp}
pub data AreComponents (x : Extent) : List Component → Tokens → Tokens → Type 0 where
  one_component : {c : Component} {ts rest : Tokens} → IsComponent x c ts rest → AreComponents x (c ∷ []) ts rest
  more_components : {c : Component} {cs : List Component} {ts us rest : Tokens} → AreComponents x cs ts us → IsComponent x c us rest → AreComponents x (cs ++ c ∷ []) ts rest

-- typedef = RANGE simple .. simple | ( id {, id} ) | ARRAY ( range ) OF sub | RECORD comp {comp} END RECORD
pub data IsDefinition (x : Extent) : TypeDefinition → Tokens → Tokens → Type 0 where
  an_integer : {t : Token} {b : Bounds} {ts rest : Tokens} → IsTrue (opens x Types) → Is symbol.Range t → AreBounds x b ts rest → IsDefinition x (definition.Integer b) (t ∷ ts) rest
  an_enumeration : {t u : Token} {is : List Identifier} {ts rest : Tokens} → IsTrue (opens x Types) → Is symbol.LeftParenthesis t → AreIdentifiers is ts (u ∷ rest) → Is symbol.RightParenthesis u
      → IsDefinition x (definition.Enumeration is) (t ∷ ts) rest
  an_array : {t u v w : Token} {r : DiscreteRange} {s : SubtypeIndication} {ts us rest : Tokens} → IsTrue (opens x Types) → Is symbol.Array t → Is symbol.LeftParenthesis u → IsRange x r ts (v ∷ w ∷ us)
      → Is symbol.RightParenthesis v → Is symbol.Of w → IsIndication x s us rest → IsDefinition x (definition.Array r s) (t ∷ u ∷ ts) rest
  a_record : {t u v : Token} {cs : List Component} {ts rest : Tokens} → IsTrue (opens x Types) → Is symbol.Record t → AreComponents x cs ts (u ∷ v ∷ rest) → Is symbol.End u → Is symbol.Record v
      → IsDefinition x (definition.Record cs) (t ∷ ts) rest
