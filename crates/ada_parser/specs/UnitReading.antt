-- How library units and files are read, with one token in view.
use Rattle.std.specs.Prelude.{ℕ, suc, Bool, true, false, cond, List, [], ◌∷◌, ◌++◌, Option, Some, None}
use Rattle.ada_lexer.specs.declared.token.Token.{Token}
use Rattle.cov_base.specs.declared.position.Pos.{Pos}
use Rattle.ada_syntax.specs.Tree.{Expr}
use Rattle.ada_syntax.specs.declared.name.Identifier.{Identifier}
use Rattle.ada_syntax.specs.declared.unit.Specification.{Specification}
use Rattle.ada_syntax.specs.declared.unit.SubprogramBody.{SubprogramBody}
use Rattle.ada_syntax.specs.declared.unit.PackageItem.{PackageItem}
use Rattle.ada_syntax.specs.declared.unit.PackageItem.TheVariants as package_item
use Rattle.ada_syntax.specs.declared.unit.BodyItem.{BodyItem}
use Rattle.ada_syntax.specs.declared.unit.BodyItem.TheVariants as body_item
use Rattle.ada_syntax.specs.declared.unit.Formal.{Formal}
use Rattle.ada_syntax.specs.declared.unit.LibraryItem.{LibraryItem}
use Rattle.ada_syntax.specs.declared.unit.LibraryItem.TheVariants as item
use Rattle.ada_syntax.specs.declared.unit.WithClause.{WithClause}
use Rattle.ada_syntax.specs.declared.unit.Unit.{Unit as LibraryUnit}
use Rattle.expression_parser.specs.declared.symbol.Symbol.{Symbol}
use Rattle.expression_parser.specs.declared.symbol.Symbol.TheVariants as symbol
use Rattle.expression_parser.specs.declared.extent.Extent.{Extent}
use Rattle.expression_parser.specs.declared.extent.Extent.TheVariants.{Subprograms, Generics}
use Rattle.expression_parser.specs.Symbols.{identifier_of}
use Rattle.expression_parser.specs.Extents.{opens}
use Rattle.expression_parser.specs.Reading.{Reader, Turn, Refuse, Leave, Take, Look, got, ◌>>=◌, on_token, provided, expect, skip, repeat}
use Rattle.expression_parser.specs.Depth.{at_exprs}
use Rattle.declaration_parser.specs.Identifiers.{identifiers_by}
use Rattle.declaration_parser.specs.DeclarationReading.{specification_by, begins_declaration, declaration_by, declarations_by}
use Rattle.declaration_parser.specs.FormalReading.{formals_by}
use Rattle.ada_parser.specs.Lists.{listed_turn}
use Rattle.ada_parser.specs.StatementReading.{pushed}
use Rattle.ada_parser.specs.StatementDepth.{at_handled}
use Rattle.ada_parser.specs.Grammar.{bodied, packaged, package_bodied, instanced}

-- behind WITH
abbrev pub with_by : ℕ → Reader WithClause
with_by m = identifiers_by m >>= λ is. skip symbol.Semicolon (got (record { names = is }))

abbrev pub withs_by : ℕ → Reader (List WithClause)
withs_by m = repeat (listed_turn symbol.With (with_by m) pushed) (suc m) []

-- [id]
abbrev pub end_name_turn : Symbol → Token → Turn (Option Identifier)
end_name_turn symbol.Identifier t = Take (got (Some (identifier_of t)))
end_name_turn _ t = Leave None

abbrev pub end_name_by : Reader (Option Identifier)
end_name_by = on_token (Leave None) end_name_turn

-- END [id] ;
abbrev pub end_by : Reader (Option Identifier)
end_by = skip symbol.End (end_name_by >>= λ n. skip symbol.Semicolon (got n))

-- the symbols that begin a specification
abbrev pub begins_specification : Symbol → Bool
begins_specification symbol.Procedure = true
begins_specification symbol.Function = true
begins_specification _ = false

-- the symbols that begin an item of a package or of its body
abbrev pub begins_item : Symbol → Bool
begins_item s = cond (begins_declaration s) true (begins_specification s)

-- `m` bounds the depth and each list
module _ (x : Extent) (m : ℕ) where
  -- behind IS
  abbrev pub body_rest : Specification → Reader SubprogramBody
  body_rest s = declarations_by x m >>= λ ds. skip symbol.Begin (at_handled x m >>= λ h. end_by >>= λ n. got (bodied s ds h n))

  abbrev pub body_by : Reader SubprogramBody
  body_by = specification_by x m >>= λ s. skip symbol.Is (body_rest s)

  abbrev pub declared_item_by : Reader PackageItem
  declared_item_by = declaration_by x m >>= λ d. got (package_item.Declaration d)

  abbrev pub subprogram_item_by : Reader PackageItem
  subprogram_item_by = specification_by x m >>= λ s. skip symbol.Semicolon (got (package_item.Subprogram s))

  abbrev pub package_item_turn : Symbol → Token → Turn PackageItem
  package_item_turn found t = cond (begins_declaration found) (Look declared_item_by) (Look subprogram_item_by)

  -- decl
  abbrev pub package_item_by : Reader PackageItem
  package_item_by = on_token Refuse package_item_turn

  abbrev pub package_items_turn : Symbol → Token → List PackageItem → Turn (List PackageItem)
  package_items_turn found t is = cond (begins_item found) (Look (package_item_by >>= λ i. got (is ++ i ∷ []))) (Leave is)

  -- {decl}
  abbrev pub package_items_by : Reader (List PackageItem)
  package_items_by = repeat package_items_turn (suc m) []

  -- behind a specification in a package body
  abbrev pub specified_turn : Specification → Symbol → Token → Turn BodyItem
  specified_turn s symbol.Semicolon t = Take (got (body_item.Declared (package_item.Subprogram s)))
  specified_turn s symbol.Is t = Take (body_rest s >>= λ b. got (body_item.Body b))
  specified_turn s _ t = Refuse

  abbrev pub specified_rest : Specification → Reader BodyItem
  specified_rest s = on_token Refuse (specified_turn s)

  abbrev pub specified_by : Reader BodyItem
  specified_by = specification_by x m >>= specified_rest

  abbrev pub declared_in_body_by : Reader BodyItem
  declared_in_body_by = declaration_by x m >>= λ d. got (body_item.Declared (package_item.Declaration d))

  abbrev pub body_item_turn : Symbol → Token → Turn BodyItem
  body_item_turn found t = cond (begins_declaration found) (Look declared_in_body_by) (Look specified_by)

  -- decl | body
  abbrev pub body_item_by : Reader BodyItem
  body_item_by = on_token Refuse body_item_turn

  abbrev pub body_items_turn : Symbol → Token → List BodyItem → Turn (List BodyItem)
  body_items_turn found t is = cond (begins_item found) (Look (body_item_by >>= λ i. got (is ++ i ∷ []))) (Leave is)

  -- {decl | body}
  abbrev pub body_items_by : Reader (List BodyItem)
  body_items_by = repeat body_items_turn (suc m) []

  -- [( expr {, expr} )]
  abbrev pub actuals_turn : Symbol → Token → Turn (List Expr)
  actuals_turn symbol.LeftParenthesis t = Take (at_exprs x m >>= λ es. skip symbol.RightParenthesis (got es))
  actuals_turn _ t = Leave []

  abbrev pub actuals_by : Reader (List Expr)
  actuals_by = on_token (Leave []) actuals_turn

  -- behind NEW
  abbrev pub instance_rest : Identifier → Reader LibraryItem
  instance_rest i = expect symbol.Identifier >>= λ u. actuals_by >>= λ es. skip symbol.Semicolon (got (instanced i (identifier_of u) es))

  -- behind IS
  abbrev pub package_rest : Option (List Formal) → Identifier → Reader LibraryItem
  package_rest fs i = package_items_by >>= λ is. end_by >>= λ n. got (packaged fs i is n)

  -- behind IS, where a package is not generic
  abbrev pub new_turn : Identifier → Symbol → Token → Turn LibraryItem
  new_turn i symbol.New t = provided (opens x Generics) (Take (instance_rest i))
  new_turn i _ t = Look (package_rest None i)

  abbrev pub package_or_instance : Identifier → Reader LibraryItem
  package_or_instance i = on_token Refuse (new_turn i)

  -- behind BODY
  abbrev pub package_body_by : Reader LibraryItem
  package_body_by = expect symbol.Identifier >>= λ u. skip symbol.Is (body_items_by >>= λ is. end_by >>= λ n. got (package_bodied (identifier_of u) is n))

  -- behind PACKAGE
  abbrev pub named_package_by : Reader LibraryItem
  named_package_by = expect symbol.Identifier >>= λ u. skip symbol.Is (package_or_instance (identifier_of u))

  abbrev pub package_turn : Symbol → Token → Turn LibraryItem
  package_turn symbol.Body t = Take package_body_by
  package_turn _ t = Look named_package_by

  abbrev pub package_by : Reader LibraryItem
  package_by = on_token Refuse package_turn

  -- behind GENERIC
  abbrev pub generic_by : Reader LibraryItem
  generic_by = formals_by x m >>= λ fs. skip symbol.Package (expect symbol.Identifier >>= λ u. skip symbol.Is (package_rest (Some fs) (identifier_of u)))

  abbrev pub subprogram_by : Reader LibraryItem
  subprogram_by = body_by >>= λ b. got (item.Subprogram b)

  abbrev pub item_turn : Symbol → Token → Turn LibraryItem
  item_turn symbol.Generic t = provided (opens x Generics) (Take generic_by)
  item_turn symbol.Package t = provided (opens x Subprograms) (Take package_by)
  item_turn _ t = Look subprogram_by

  abbrev pub item_by : Reader LibraryItem
  item_by = on_token Refuse item_turn

  -- the item of a unit that stands at this place and has these context clauses
  abbrev pub unit_item : Pos → List WithClause → Reader LibraryUnit
  unit_item p ws = on_token Refuse (λ found u. Look (item_by >>= λ l. got (record { pos = p; withs = ws; item_pos = u.pos; item = l })))

  abbrev pub unit_at : Pos → Reader LibraryUnit
  unit_at p = withs_by m >>= unit_item p

  abbrev pub unit_by : Reader LibraryUnit
  unit_by = on_token Refuse (λ found t. Look (unit_at t.pos))

  abbrev pub units_turn : Symbol → Token → List LibraryUnit → Turn (List LibraryUnit)
  units_turn found t units = provided (opens x Subprograms) (Look (unit_by >>= λ u. got (units ++ u ∷ [])))

  abbrev pub file_by : Reader (List LibraryUnit)
  file_by = unit_by >>= λ u. repeat units_turn (suc m) (u ∷ [])
