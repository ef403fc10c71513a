-- Units whose names are words in ASCII: their own, those of the bodies in them, and those of the exceptions that they
-- declare.
use Rattle.std.specs.Prelude.{ℕ, ◌≤◌, List, Option, Some, None, IsAscii, length}
use Rattle.cov_base.specs.Lists.{Everywhere}
use Rattle.ada_syntax.specs.StatementTree as text
use Rattle.ada_syntax.specs.declared.declaration.Declaration.{Declaration}
use Rattle.ada_syntax.specs.declared.declaration.DeclarationKind.{DeclarationKind}
use Rattle.ada_syntax.specs.declared.declaration.DeclarationKind.TheVariants as declares
use Rattle.ada_syntax.specs.declared.name.Identifier.{Identifier}
use Rattle.ada_syntax.specs.declared.unit.BodyItem.{BodyItem}
use Rattle.ada_syntax.specs.declared.unit.BodyItem.TheVariants as item
use Rattle.ada_syntax.specs.declared.unit.LibraryItem.{LibraryItem}
use Rattle.ada_syntax.specs.declared.unit.LibraryItem.TheVariants as library
use Rattle.ada_syntax.specs.declared.unit.PackageItem.{PackageItem}
use Rattle.ada_syntax.specs.declared.unit.PackageItem.TheVariants as part
use Rattle.ada_syntax.specs.declared.unit.SubprogramBody.{SubprogramBody}
use Rattle.ada_syntax.specs.declared.unit.Unit.{Unit as LibraryUnit}

-- the most bytes of a source file (this language's profile), which a word of it does not pass
abbrev pub longest_word : ℕ
longest_word = 1048576

pub record IsWord (text : List ℕ) : Type 0 where
  pub ascii : IsAscii text
  pub short : length text ≤ longest_word

abbrev pub IsSpelled : Identifier → Type 0
IsSpelled i = IsWord i.text

abbrev pub IsKindSpelled : DeclarationKind → Type 0
IsKindSpelled (declares.Exception is) = Everywhere IsSpelled is
IsKindSpelled d = Unit {0}

abbrev pub AreSpelled : List Declaration → Type 0
AreSpelled ds = Everywhere (λ d. IsKindSpelled d.kind) ds

abbrev pub AreSpelledHere : Option (List Declaration) → Type 0
AreSpelledHere None = Unit {0}
AreSpelledHere (Some ds) = AreSpelled ds

abbrev mutual
  -- statements, with the declarations of their blocks
  pub IsStatementSpelled : text.Statement → Type 0
  IsStatementSpelled (text.conditional p e ss bs es) =
      AreStatementsSpelled ss × (AreBranchesSpelled bs × AreStatementsSpelled es)
  IsStatementSpelled (text.case_of p e alternatives) = AreAlternativesSpelled alternatives
  IsStatementSpelled (text.repeat p scheme ss) = AreStatementsSpelled ss
  IsStatementSpelled (text.block p ds h) = AreSpelledHere ds × IsHandledSpelled h
  IsStatementSpelled s = Unit {0}

  pub AreStatementsSpelled : text.Statements → Type 0
  AreStatementsSpelled text.no_statements = Unit {0}
  AreStatementsSpelled (text.then_also x xs) = IsStatementSpelled x × AreStatementsSpelled xs

  pub AreBranchesSpelled : text.Branches → Type 0
  AreBranchesSpelled text.no_branches = Unit {0}
  AreBranchesSpelled (text.branch e ss bs) = AreStatementsSpelled ss × AreBranchesSpelled bs

  pub AreAlternativesSpelled : text.Alternatives → Type 0
  AreAlternativesSpelled text.no_alternatives = Unit {0}
  AreAlternativesSpelled (text.alternative cs ss rest) = AreStatementsSpelled ss × AreAlternativesSpelled rest

  pub AreHandlersSpelled : text.Handlers → Type 0
  AreHandlersSpelled text.no_handlers = Unit {0}
  AreHandlersSpelled (text.handler cs ss hs) = AreStatementsSpelled ss × AreHandlersSpelled hs

  pub IsHandledSpelled : text.Handled → Type 0
  IsHandledSpelled (text.handled ss hs) = AreStatementsSpelled ss × AreHandlersSpelled hs

-- bodies, and units
abbrev pub IsBodySpelled : SubprogramBody → Type 0
IsBodySpelled b = IsSpelled b.specification.name × (AreSpelled b.declarations × IsHandledSpelled b.statements)

abbrev pub IsPackageItemSpelled : PackageItem → Type 0
IsPackageItemSpelled (part.Declaration d) = IsKindSpelled d.kind
IsPackageItemSpelled (part.Subprogram x) = Unit {0}

abbrev pub IsBodyItemSpelled : BodyItem → Type 0
IsBodyItemSpelled (item.Declared i) = IsPackageItemSpelled i
IsBodyItemSpelled (item.Body b) = IsBodySpelled b

abbrev pub IsItemSpelled : LibraryItem → Type 0
IsItemSpelled (library.Package x) = IsSpelled x.name × Everywhere IsPackageItemSpelled x.items
IsItemSpelled (library.PackageBody b) = IsSpelled b.name × Everywhere IsBodyItemSpelled b.items
IsItemSpelled (library.Instance i) = IsSpelled i.name
IsItemSpelled (library.Subprogram b) = IsBodySpelled b

abbrev pub AreUnitsSpelled : List LibraryUnit → Type 0
AreUnitsSpelled units = Everywhere (λ u. IsItemSpelled u.item) units
