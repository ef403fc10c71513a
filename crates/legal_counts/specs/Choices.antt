-- Each alternative of a case statement and each handler of a text has a choice, as the grammar asks (RM 5.4, 11.2).
use Rattle.std.specs.Prelude.{List, [], ◌∷◌}
use Rattle.cov_base.specs.Lists.{Everywhere}
use Rattle.ada_syntax.specs.StatementTree as text
use Rattle.ada_syntax.specs.declared.unit.SubprogramBody.{SubprogramBody}
use Rattle.ada_syntax.specs.declared.unit.Unit.{Unit as LibraryUnit}
use Rattle.program_weights.specs.BodyTexts.{bodies_in}

abbrev pub IsFilled : {X : Type 0} → List X → Type 0
IsFilled [] = ⊥
IsFilled (x ∷ xs) = Unit {0}

abbrev mutual
  pub HasChoices : text.Statement → Type 0
  HasChoices (text.conditional p e ss bs es) = HaveChoices ss × BranchesHaveChoices bs × HaveChoices es
  HasChoices (text.case_of p e rest) = AlternativesHaveChoices rest
  HasChoices (text.repeat p scheme ss) = HaveChoices ss
  HasChoices (text.block p ds h) = HandledHasChoices h
  HasChoices x = Unit {0}

  pub HaveChoices : text.Statements → Type 0
  HaveChoices text.no_statements = Unit {0}
  HaveChoices (text.then_also x xs) = HasChoices x × HaveChoices xs

  pub BranchesHaveChoices : text.Branches → Type 0
  BranchesHaveChoices text.no_branches = Unit {0}
  BranchesHaveChoices (text.branch e ss bs) = HaveChoices ss × BranchesHaveChoices bs

  pub AlternativesHaveChoices : text.Alternatives → Type 0
  AlternativesHaveChoices text.no_alternatives = Unit {0}
  AlternativesHaveChoices (text.alternative cs ss rest) = IsFilled cs × HaveChoices ss × AlternativesHaveChoices rest

  pub HandlersHaveChoices : text.Handlers → Type 0
  HandlersHaveChoices text.no_handlers = Unit {0}
  HandlersHaveChoices (text.handler cs ss hs) = IsFilled cs × HaveChoices ss × HandlersHaveChoices hs

  pub HandledHasChoices : text.Handled → Type 0
  HandledHasChoices (text.handled ss hs) = HaveChoices ss × HandlersHaveChoices hs

-- those of bodies, and of units
abbrev pub BodyHasChoices : SubprogramBody → Type 0
BodyHasChoices b = HandledHasChoices b.statements

abbrev pub UnitsHaveChoices : List LibraryUnit → Type 0
UnitsHaveChoices units = Everywhere BodyHasChoices (bodies_in units)
