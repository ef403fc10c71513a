-- What is gathered from the bodies of units, in the order of the text: something at each statement, in its names and values, in the
-- bounds of its turns, at each decision and at each declaration.
use Rattle.std.proofs.Common.{◌≡◌, List, [], ◌∷◌, ◌++◌, Option, Some, None, refl, sym, ap, ◌∙◌, append-nil}
use Rattle.std.proofs.lemmas.List.{append_assoc}
use Rattle.cov_base.specs.declared.position.Pos.{Pos}
use Rattle.ada_syntax.specs.Tree.{Expr, Name}
use Rattle.ada_syntax.specs.StatementTree as text
use Rattle.ada_syntax.specs.StatementView.{statements_of}
use Rattle.ada_syntax.specs.declared.declaration.Declaration.{Declaration}
use Rattle.ada_syntax.specs.declared.declaration.DiscreteRange.{DiscreteRange}
use Rattle.ada_syntax.specs.declared.statement.Choice.{Choice}
use Rattle.ada_syntax.specs.declared.statement.ExceptionChoice.{ExceptionChoice}
use Rattle.ada_syntax.specs.declared.statement.LoopScheme.{LoopScheme}
use Rattle.ada_syntax.specs.declared.statement.LoopScheme.TheVariants as scheme
use Rattle.ada_syntax.specs.declared.unit.BodyItem.{BodyItem}
use Rattle.ada_syntax.specs.declared.unit.BodyItem.TheVariants as item
use Rattle.ada_syntax.specs.declared.unit.LibraryItem.{LibraryItem}
use Rattle.ada_syntax.specs.declared.unit.LibraryItem.TheVariants as library
use Rattle.ada_syntax.specs.declared.unit.SubprogramBody.{SubprogramBody}
use Rattle.ada_syntax.specs.declared.unit.Unit.{Unit as LibraryUnit}
use Rattle.ada_parser.specs.Trees.{with_branch, with_alternative, with_handler}
use Rattle.ada_rules.specs.Statements.{declarations_in}

pub record Gathering (X : Type 0) : Type 0 where
  -- at the first token of each statement but blocks and pragmas
  pub at_statement : Pos → List X
  pub at_name : Name → List X
  pub at_value : Expr → List X
  pub at_turns : DiscreteRange → List X
  pub at_decision : Expr → List X
  pub at_declaration : Declaration → List X

abbrev pub of_declarations : {X : Type 0} → Gathering X → List Declaration → List X
of_declarations g [] = []
of_declarations g (d ∷ ds) = g.at_declaration d ++ of_declarations g ds

abbrev pub of_scheme : {X : Type 0} → Gathering X → LoopScheme → List X
of_scheme g scheme.Forever = []
of_scheme g (scheme.While e) = g.at_decision e
of_scheme g (scheme.For i d r) = g.at_turns r

abbrev pub of_exit : {X : Type 0} → Gathering X → Option Expr → List X
of_exit g None = []
of_exit g (Some e) = g.at_decision e

abbrev pub of_result : {X : Type 0} → Gathering X → Option Expr → List X
of_result g None = []
of_result g (Some e) = g.at_value e

abbrev mutual
  pub of_statement : {X : Type 0} → Gathering X → text.Statement → List X
  of_statement g (text.null p) = g.at_statement p
  of_statement g (text.assignment p n i) = (g.at_statement p ++ g.at_name n) ++ g.at_value i.value
  of_statement g (text.call p n) = g.at_statement p ++ g.at_name n
  of_statement g (text.exemption p a) = []
  of_statement g (text.conditional p e ss bs es) =
      g.at_statement p ++ ((g.at_decision e ++ of_statements g ss) ++ (of_branches g bs ++ of_statements g es))
  of_statement g (text.case_of p e rest) = g.at_statement p ++ (g.at_value e ++ of_alternatives g rest)
  of_statement g (text.repeat p s ss) = g.at_statement p ++ (of_scheme g s ++ of_statements g ss)
  of_statement g (text.exit p e) = g.at_statement p ++ of_exit g e
  of_statement g (text.returns p e) = g.at_statement p ++ of_result g e
  of_statement g (text.raise p n) = g.at_statement p
  of_statement g (text.block p ds h) = of_declarations g (declarations_in ds) ++ of_handled g h

  pub of_statements : {X : Type 0} → Gathering X → text.Statements → List X
  of_statements g text.no_statements = []
  of_statements g (text.then_also x xs) = of_statement g x ++ of_statements g xs

  pub of_branches : {X : Type 0} → Gathering X → text.Branches → List X
  of_branches g text.no_branches = []
  of_branches g (text.branch e ss bs) = (g.at_decision e ++ of_statements g ss) ++ of_branches g bs

  pub of_alternatives : {X : Type 0} → Gathering X → text.Alternatives → List X
  of_alternatives g text.no_alternatives = []
  of_alternatives g (text.alternative cs ss rest) = of_statements g ss ++ of_alternatives g rest

  pub of_handlers : {X : Type 0} → Gathering X → text.Handlers → List X
  of_handlers g text.no_handlers = []
  of_handlers g (text.handler cs ss hs) = of_statements g ss ++ of_handlers g hs

  pub of_handled : {X : Type 0} → Gathering X → text.Handled → List X
  of_handled g (text.handled ss hs) = of_statements g ss ++ of_handlers g hs

abbrev pub of_body : {X : Type 0} → Gathering X → SubprogramBody → List X
of_body g b = of_declarations g b.declarations ++ of_handled g b.statements

abbrev pub of_body_item : {X : Type 0} → Gathering X → BodyItem → List X
of_body_item g (item.Body b) = of_body g b
of_body_item g (item.Declared i) = []

abbrev pub of_body_items : {X : Type 0} → Gathering X → List BodyItem → List X
of_body_items g [] = []
of_body_items g (i ∷ is) = of_body_item g i ++ of_body_items g is

abbrev pub of_item : {X : Type 0} → Gathering X → LibraryItem → List X
of_item g (library.PackageBody b) = of_body_items g b.items
of_item g (library.Subprogram b) = of_body g b
of_item g i = []

abbrev pub of_units : {X : Type 0} → Gathering X → List LibraryUnit → List X
of_units g [] = []
of_units g (u ∷ us) = of_item g u.item ++ of_units g us

-- one more at the end
module _ {X : Type 0} (g : Gathering X) where
  pub declarations_last : (ds : List Declaration) (d : Declaration) → of_declarations g (ds ++ d ∷ []) ≡ of_declarations g ds ++ g.at_declaration d
  declarations_last [] d = append-nil (g.at_declaration d)
  declarations_last (e ∷ ds) d = ap (λ ps. g.at_declaration e ++ ps) (declarations_last ds d) ∙ sym (append_assoc (g.at_declaration e) (of_declarations g ds) (g.at_declaration d))

  pub statements_last : (ss : List text.Statement) (s : text.Statement) → of_statements g (statements_of (ss ++ s ∷ [])) ≡ of_statements g (statements_of ss) ++ of_statement g s
  statements_last [] s = append-nil (of_statement g s)
  statements_last (r ∷ ss) s = ap (λ ps. of_statement g r ++ ps) (statements_last ss s) ∙ sym (append_assoc (of_statement g r) (of_statements g (statements_of ss)) (of_statement g s))

  pub branches_last : (bs : text.Branches) (e : Expr) (ss : List text.Statement) → of_branches g (with_branch bs (e, ss)) ≡ of_branches g bs ++ (g.at_decision e ++ of_statements g (statements_of ss))
  branches_last text.no_branches e ss = append-nil (g.at_decision e ++ of_statements g (statements_of ss))
  branches_last (text.branch d rs bs) e ss =
      ap (λ ps. (g.at_decision d ++ of_statements g rs) ++ ps) (branches_last bs e ss)
      ∙ sym (append_assoc (g.at_decision d ++ of_statements g rs) (of_branches g bs) (g.at_decision e ++ of_statements g (statements_of ss)))

  pub alternatives_last : (alts : text.Alternatives) (cs : List Choice) (ss : List text.Statement) → of_alternatives g (with_alternative alts (cs, ss)) ≡ of_alternatives g alts ++ of_statements g (statements_of ss)
  alternatives_last text.no_alternatives cs ss = append-nil (of_statements g (statements_of ss))
  alternatives_last (text.alternative ds rs alts) cs ss =
      ap (λ ps. of_statements g rs ++ ps) (alternatives_last alts cs ss) ∙ sym (append_assoc (of_statements g rs) (of_alternatives g alts) (of_statements g (statements_of ss)))

  pub handlers_last : (hs : text.Handlers) (cs : List ExceptionChoice) (ss : List text.Statement) → of_handlers g (with_handler hs (cs, ss)) ≡ of_handlers g hs ++ of_statements g (statements_of ss)
  handlers_last text.no_handlers cs ss = append-nil (of_statements g (statements_of ss))
  handlers_last (text.handler ds rs hs) cs ss =
      ap (λ ps. of_statements g rs ++ ps) (handlers_last hs cs ss) ∙ sym (append_assoc (of_statements g rs) (of_handlers g hs) (of_statements g (statements_of ss)))

  pub body_items_last : (is : List BodyItem) (i : BodyItem) → of_body_items g (is ++ i ∷ []) ≡ of_body_items g is ++ of_body_item g i
  body_items_last [] i = append-nil (of_body_item g i)
  body_items_last (j ∷ is) i = ap (λ ps. of_body_item g j ++ ps) (body_items_last is i) ∙ sym (append_assoc (of_body_item g j) (of_body_items g is) (of_body_item g i))

  pub units_joined : (us vs : List LibraryUnit) → of_units g (us ++ vs) ≡ of_units g us ++ of_units g vs
  units_joined [] vs = refl
  units_joined (u ∷ us) vs = ap (λ ps. of_item g u.item ++ ps) (units_joined us vs) ∙ sym (append_assoc (of_item g u.item) (of_units g us) (of_units g vs))
