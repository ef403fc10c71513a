-- What the grammar ensures of the text beside its trees: enumerations, records and choices are not empty. And an
-- enumeration has no more literals than there are numbers for.
use Rattle.std.specs.Prelude.{◌≤◌, ℕ, List, [], ◌∷◌, length, Option, Some, None}
use Rattle.cov_base.specs.Lists.{Everywhere}
use Rattle.ada_syntax.specs.StatementTree as text
use Rattle.ada_syntax.specs.declared.declaration.Component.{Component}
use Rattle.ada_syntax.specs.declared.declaration.Declaration.{Declaration}
use Rattle.ada_syntax.specs.declared.declaration.DeclarationKind.{DeclarationKind}
use Rattle.ada_syntax.specs.declared.declaration.DeclarationKind.TheVariants as declares
use Rattle.ada_syntax.specs.declared.declaration.TypeDefinition.{TypeDefinition}
use Rattle.ada_syntax.specs.declared.declaration.TypeDefinition.TheVariants as definition
use Rattle.ada_syntax.specs.declared.unit.SubprogramBody.{SubprogramBody}
use Rattle.ada_meaning.specs.WellFormed.{HasChoice}

abbrev pub most_literals : ℕ
most_literals = 2147483648

abbrev pub AreComponents : List Component → Type 0
AreComponents [] = ⊥
AreComponents (c ∷ cs) = HasChoice c.names

abbrev pub IsDefinition : TypeDefinition → Type 0
IsDefinition (definition.Integer b) = Unit {0}
IsDefinition (definition.Enumeration names) = (1 ≤ length names) × (length names ≤ most_literals)
IsDefinition (definition.Array r c) = Unit {0}
IsDefinition (definition.Record cs) = AreComponents cs

abbrev pub IsWritten : DeclarationKind → Type 0
IsWritten (declares.Type i d) = IsDefinition d
IsWritten (declares.Subtype i t) = Unit {0}
IsWritten (declares.Object is c t i) = Unit {0}
IsWritten (declares.Exception is) = Unit {0}
IsWritten (declares.Pragma a) = Unit {0}

abbrev pub AreWritten : List Declaration → Type 0
AreWritten ds = Everywhere (λ d. IsWritten d.kind) ds

abbrev pub AreDeclared : Option (List Declaration) → Type 0
AreDeclared None = Unit {0}
AreDeclared (Some ds) = AreWritten ds

abbrev mutual
  -- statements, with the declarations of their blocks
  pub IsStatementText : text.Statement → Type 0
  IsStatementText (text.null p) = Unit {0}
  IsStatementText (text.assignment p n i) = Unit {0}
  IsStatementText (text.call p n) = Unit {0}
  IsStatementText (text.exemption p a) = Unit {0}
  IsStatementText (text.conditional p e ss bs es) = AreStatementTexts ss × (AreBranchTexts bs × AreStatementTexts es)
  IsStatementText (text.case_of p e alternatives) = AreAlternativeTexts alternatives
  IsStatementText (text.repeat p scheme ss) = AreStatementTexts ss
  IsStatementText (text.exit p e) = Unit {0}
  IsStatementText (text.returns p e) = Unit {0}
  IsStatementText (text.raise p n) = Unit {0}
  IsStatementText (text.block p ds h) = AreDeclared ds × IsHandledText h

  pub AreStatementTexts : text.Statements → Type 0
  AreStatementTexts text.no_statements = Unit {0}
  AreStatementTexts (text.then_also x xs) = IsStatementText x × AreStatementTexts xs

  pub AreBranchTexts : text.Branches → Type 0
  AreBranchTexts text.no_branches = Unit {0}
  AreBranchTexts (text.branch e ss bs) = AreStatementTexts ss × AreBranchTexts bs

  pub AreAlternativeTexts : text.Alternatives → Type 0
  AreAlternativeTexts text.no_alternatives = Unit {0}
  AreAlternativeTexts (text.alternative cs ss rest) = HasChoice cs × (AreStatementTexts ss × AreAlternativeTexts rest)

  pub AreHandlerTexts : text.Handlers → Type 0
  AreHandlerTexts text.no_handlers = Unit {0}
  AreHandlerTexts (text.handler cs ss hs) = HasChoice cs × (AreStatementTexts ss × AreHandlerTexts hs)

  pub IsHandledText : text.Handled → Type 0
  IsHandledText (text.handled ss hs) = AreStatementTexts ss × AreHandlerTexts hs

abbrev pub IsBodyText : SubprogramBody → Type 0
IsBodyText b = AreWritten b.declarations × IsHandledText b.statements
