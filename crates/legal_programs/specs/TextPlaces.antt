-- Where statement obligations stand in the text: at statements, but for blocks and pragmas, and at declarations of
-- objects with an initial value in subprograms and blocks.
use Rattle.std.specs.Prelude.{List, [], ◌∷◌, ◌++◌, Option, None, Some}
use Rattle.cov_base.specs.declared.position.Pos.{Pos}
use Rattle.ada_syntax.specs.StatementTree as text
use Rattle.ada_syntax.specs.declared.declaration.Declaration.{Declaration}
use Rattle.ada_syntax.specs.declared.declaration.DeclarationKind.{DeclarationKind}
use Rattle.ada_syntax.specs.declared.declaration.DeclarationKind.TheVariants as declares
use Rattle.ada_syntax.specs.declared.declaration.Initial.{Initial}
use Rattle.ada_syntax.specs.declared.unit.BodyItem.{BodyItem}
use Rattle.ada_syntax.specs.declared.unit.BodyItem.TheVariants as item
use Rattle.ada_syntax.specs.declared.unit.LibraryItem.{LibraryItem}
use Rattle.ada_syntax.specs.declared.unit.LibraryItem.TheVariants as library
use Rattle.ada_syntax.specs.declared.unit.SubprogramBody.{SubprogramBody}
use Rattle.ada_syntax.specs.declared.unit.Unit.{Unit as LibraryUnit}
use Rattle.ada_rules.specs.Statements.{declarations_in}

abbrev pub place_if : Pos → Option Initial → List Pos
place_if p None = []
place_if p (Some i) = p ∷ []

abbrev pub kind_places : Pos → DeclarationKind → List Pos
kind_places p (declares.Object is c t i) = place_if p i
kind_places p d = []

abbrev pub declared_places : List Declaration → List Pos
declared_places [] = []
declared_places (d ∷ ds) = kind_places d.pos d.kind ++ declared_places ds

abbrev mutual
  pub places : text.Statement → List Pos
  places (text.null p) = p ∷ []
  places (text.assignment p n i) = p ∷ []
  places (text.call p n) = p ∷ []
  places (text.exemption p a) = []
  places (text.conditional p e ss bs es) = p ∷ (all_places ss ++ (branch_places bs ++ all_places es))
  places (text.case_of p e rest) = p ∷ alternative_places rest
  places (text.repeat p scheme ss) = p ∷ all_places ss
  places (text.exit p e) = p ∷ []
  places (text.returns p e) = p ∷ []
  places (text.raise p n) = p ∷ []
  places (text.block p ds h) = declared_places (declarations_in ds) ++ handled_places h

  pub all_places : text.Statements → List Pos
  all_places text.no_statements = []
  all_places (text.then_also x xs) = places x ++ all_places xs

  pub branch_places : text.Branches → List Pos
  branch_places text.no_branches = []
  branch_places (text.branch e ss bs) = all_places ss ++ branch_places bs

  pub alternative_places : text.Alternatives → List Pos
  alternative_places text.no_alternatives = []
  alternative_places (text.alternative cs ss rest) = all_places ss ++ alternative_places rest

  pub handler_places : text.Handlers → List Pos
  handler_places text.no_handlers = []
  handler_places (text.handler cs ss hs) = all_places ss ++ handler_places hs

  pub handled_places : text.Handled → List Pos
  handled_places (text.handled ss hs) = all_places ss ++ handler_places hs

-- those of bodies, and of units
abbrev pub body_places : SubprogramBody → List Pos
body_places b = declared_places b.declarations ++ handled_places b.statements

abbrev pub items_places : List BodyItem → List Pos
items_places [] = []
items_places (item.Body b ∷ rest) = body_places b ++ items_places rest
items_places (item.Declared i ∷ rest) = items_places rest

abbrev pub unit_places : LibraryItem → List Pos
unit_places (library.PackageBody b) = items_places b.items
unit_places (library.Subprogram b) = body_places b
unit_places i = []

abbrev pub units_places : List LibraryUnit → List Pos
units_places [] = []
units_places (u ∷ us) = unit_places u.item ++ units_places us
