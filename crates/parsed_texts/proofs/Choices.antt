-- Texts that are written as the grammar ensures have choices.
use Rattle.std.proofs.Common.{List, [], ◌∷◌}
use Rattle.cov_base.specs.Lists.{Everywhere}
use Rattle.ada_syntax.specs.StatementTree as text
use Rattle.ada_syntax.specs.declared.unit.BodyItem.{BodyItem}
use Rattle.ada_syntax.specs.declared.unit.BodyItem.TheVariants as item
use Rattle.ada_syntax.specs.declared.unit.LibraryItem.{LibraryItem}
use Rattle.ada_syntax.specs.declared.unit.LibraryItem.TheVariants as library
use Rattle.ada_syntax.specs.declared.unit.Unit.{Unit as LibraryUnit}
use Rattle.ada_meaning.specs.WellFormed.{HasChoice}
use Rattle.legal_laws.specs.Written.{IsStatementText, AreStatementTexts, AreBranchTexts, AreAlternativeTexts, AreHandlerTexts, IsHandledText}
use Rattle.legal_texts.specs.UnitTexts.{IsBodyItemText, IsItemText, AreUnitTexts}
use Rattle.program_weights.specs.BodyTexts.{bodies_among, bodies_of_item, bodies_in}
use Rattle.legal_counts.specs.Choices.{IsFilled, HasChoices, HaveChoices, BranchesHaveChoices, AlternativesHaveChoices, HandlersHaveChoices, HandledHasChoices, BodyHasChoices, UnitsHaveChoices}
use Rattle.parsed_texts.proofs.Files.{everywhere_joined}

filled : {X : Type 0} (xs : List X) → HasChoice xs → IsFilled xs
filled [] h = h
filled (x ∷ xs) h = tt

mutual
  statement_chosen : (s : text.Statement) → IsStatementText s → HasChoices s
  statement_chosen (text.null p) h = tt
  statement_chosen (text.assignment p n i) h = tt
  statement_chosen (text.call p n) h = tt
  statement_chosen (text.exemption p a) h = tt
  statement_chosen (text.conditional p e ss bs es) h = (statements_chosen ss h.0, branches_chosen bs h.1.0, statements_chosen es h.1.1)
  statement_chosen (text.case_of p e alts) h = alternatives_chosen alts h
  statement_chosen (text.repeat p s ss) h = statements_chosen ss h
  statement_chosen (text.exit p e) h = tt
  statement_chosen (text.returns p e) h = tt
  statement_chosen (text.raise p n) h = tt
  statement_chosen (text.block p ds k) h = handled_chosen k h.1

  statements_chosen : (ss : text.Statements) → AreStatementTexts ss → HaveChoices ss
  statements_chosen text.no_statements h = tt
  statements_chosen (text.then_also s ss) h = (statement_chosen s h.0, statements_chosen ss h.1)

  branches_chosen : (bs : text.Branches) → AreBranchTexts bs → BranchesHaveChoices bs
  branches_chosen text.no_branches h = tt
  branches_chosen (text.branch e ss bs) h = (statements_chosen ss h.0, branches_chosen bs h.1)

  alternatives_chosen : (alts : text.Alternatives) → AreAlternativeTexts alts → AlternativesHaveChoices alts
  alternatives_chosen text.no_alternatives h = tt
  alternatives_chosen (text.alternative cs ss alts) h = (filled cs h.0, statements_chosen ss h.1.0, alternatives_chosen alts h.1.1)

  handlers_chosen : (hs : text.Handlers) → AreHandlerTexts hs → HandlersHaveChoices hs
  handlers_chosen text.no_handlers h = tt
  handlers_chosen (text.handler cs ss hs) h = (filled cs h.0, statements_chosen ss h.1.0, handlers_chosen hs h.1.1)

  handled_chosen : (k : text.Handled) → IsHandledText k → HandledHasChoices k
  handled_chosen (text.handled ss hs) h = (statements_chosen ss h.0, handlers_chosen hs h.1)

items_chosen : (is : List BodyItem) → Everywhere IsBodyItemText is → Everywhere BodyHasChoices (bodies_among is)
items_chosen [] h = tt
items_chosen (item.Body b ∷ is) h = (handled_chosen b.statements h.0.1, items_chosen is h.1)
items_chosen (item.Declared d ∷ is) h = items_chosen is h.1

item_chosen : (l : LibraryItem) → IsItemText l → Everywhere BodyHasChoices (bodies_of_item l)
item_chosen (library.Package p) h = tt
item_chosen (library.PackageBody b) h = items_chosen b.items h
item_chosen (library.Instance i) h = tt
item_chosen (library.Subprogram b) h = (handled_chosen b.statements h.1, tt)

pub texts_have_choices : (us : List LibraryUnit) → AreUnitTexts us → UnitsHaveChoices us
texts_have_choices [] h = tt
texts_have_choices (u ∷ us) h = everywhere_joined BodyHasChoices (bodies_of_item u.item) (bodies_in us) (item_chosen u.item h.0) (texts_have_choices us h.1)
