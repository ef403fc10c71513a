-- The statements of units stand at some of the tokens, in their order, and so do the items of units.
use Rattle.std.proofs.Common.{◌≡◌, ℕ, true, List, [], ◌∷◌, ◌++◌, map, Some, None, refl, sym, ap, subst, append-nil}
use Rattle.cov_base.specs.Lists.{Everywhere}
use Rattle.cov_base.specs.TextOrder.{precedes, rise}
use Rattle.cov_base.specs.declared.position.Pos.{Pos}
use Rattle.ada_lexer.specs.declared.token.Token.{Token}
use Rattle.ada_syntax.specs.StatementTree as text
use Rattle.ada_syntax.specs.Tree.{Name, name_pos}
use Rattle.ada_syntax.specs.declared.declaration.Declaration.{Declaration}
use Rattle.ada_syntax.specs.declared.name.Identifier.{Identifier}
use Rattle.ada_syntax.specs.declared.statement.LoopScheme.TheVariants as scheme
use Rattle.ada_syntax.specs.declared.unit.BodyItem.{BodyItem}
use Rattle.ada_syntax.specs.declared.unit.BodyItem.TheVariants as item
use Rattle.ada_syntax.specs.declared.unit.LibraryItem.{LibraryItem}
use Rattle.ada_syntax.specs.declared.unit.LibraryItem.TheVariants as library
use Rattle.ada_syntax.specs.declared.unit.SubprogramBody.{SubprogramBody}
use Rattle.ada_syntax.specs.declared.unit.Unit.{Unit as LibraryUnit}
use Rattle.expression_parser.specs.declared.extent.Extent.{Extent}
use Rattle.expression_parser.specs.Reading.{Tokens}
use Rattle.expression_parser.specs.Expressions.{IsName, an_identifier, a_selection, an_attribute, an_application}
use Rattle.expression_parser.specs.Syntax.{Suffix, all, after}
use Rattle.declaration_parser.specs.Identifiers.{AreIdentifiers, one_identifier, more_identifiers}
use Rattle.declaration_parser.specs.Declarations.{IsDeclaration, a_type, a_subtype, an_object, an_exception, an_exemption, no_initial, an_initial}
use Rattle.ada_parser.specs.Grammar.{IsUnit, a_unit, AreUnits, one_unit, more_units}
use Rattle.ada_rules.specs.Statements.{declarations_in}
use Rattle.legal_programs.specs.TextPlaces.{kind_places, declared_places, places, all_places, branch_places, alternative_places, handler_places, handled_places, body_places, items_places, unit_places, units_places}
use Rattle.legal_programs.specs.InText.{Rise}
use Rattle.legal_texts.specs.legal_instances.specs.InOrder.{UnitsRise}
use Rattle.parsed_texts.specs.Places.{IsInFiles, AreInFiles}
use Rattle.parsed_texts.specs.Parsed.{AreOfFiles}
use Rattle.parsed_texts.proofs.Files.{Ordered, InOrder, IsRead, files_ordered, files_within, more_files}
use Rattle.parsed_texts.proofs.Gathered.{Gathering, of_declarations, of_statement, of_statements, of_branches, of_alternatives, of_handlers, of_handled, of_body, of_body_items, of_item, of_units, units_joined}
use Rattle.parsed_texts.proofs.Nested.{IsPicked, units_picked}
use Rattle.parsed_texts.proofs.Places.{not_back}
use Rattle.parsed_texts.proofs.Skips.{through, past_expr, past_exprs, past_range, past_constancy, past_indication, past_initial, past_declaration, past_withs, behind_first}

-- these are the places of some of the tokens between two lists, in order
pub data Picks : List Pos → Tokens → Tokens → Type 0 where
  ended : {ts : Tokens} → Picks [] ts ts
  taken : {t : Token} {ps : List Pos} {ts rest : Tokens} → Picks ps ts rest → Picks (t.pos ∷ ps) (t ∷ ts) rest
  passed : {t : Token} {ps : List Pos} {ts rest : Tokens} → Picks ps ts rest → Picks ps (t ∷ ts) rest

joined : {ps qs : List Pos} {ts us rest : Tokens} → Picks ps ts us → Picks qs us rest → Picks (ps ++ qs) ts rest
joined ended q = q
joined (taken p) q = taken (joined p q)
joined (passed p) q = passed (joined p q)

same_places : {ps qs : List Pos} {ts rest : Tokens} → ps ≡ qs → Picks ps ts rest → Picks qs ts rest
same_places {ts = ts} {rest = rest} is p = subst (λ rs. Picks rs ts rest) is p

skipped : {ts rest : Tokens} → Suffix rest ts → Picks [] ts rest
skipped all = ended
skipped (after s) = passed (skipped s)

before : {ps : List Pos} {ts us rest : Tokens} → Picks ps ts us → Suffix rest us → Picks ps ts rest
before {ps = ps} p q = same_places (append-nil ps) (joined p (skipped q))

picked_each : (P : Pos → Type 0) {ps : List Pos} {ts rest : Tokens} → Picks ps ts rest → Everywhere (λ (t : Token). P t.pos) ts → Everywhere P ps
picked_each P ended h = tt
picked_each P (taken p) h = (h.0, picked_each P p h.1)
picked_each P (passed p) h = picked_each P p h.1

picked_ordered : {ps : List Pos} {ts rest : Tokens} → Picks ps ts rest → InOrder ts → Ordered precedes ps
picked_ordered ended h = tt
picked_ordered (taken {t = t} p) h = (picked_each (λ q. precedes t.pos q ≡ true) p h.0, picked_ordered p h.1)
picked_ordered (passed p) h = picked_ordered p h.1

-- ---- what begins at a token

name_picked : {x : Extent} {n : Name} {ts rest : Tokens} → IsName x n ts rest → Picks (name_pos n ∷ []) ts rest
name_picked (an_identifier i) = taken ended
name_picked (a_selection n i j) = before (name_picked n) (after (after all))
name_picked (an_attribute o n i j) = before (name_picked n) (after (after all))
name_picked (an_application n i es j) = before (name_picked n) (after (through (past_exprs es) (after all)))

first_identifier : {is : List Identifier} {t : Token} {ts rest : Tokens} → AreIdentifiers is (t ∷ ts) rest → Picks (t.pos ∷ []) (t ∷ ts) rest
first_identifier (one_identifier i) = taken ended
first_identifier (more_identifiers is i j) = before (first_identifier is) (after (after all))

declaration_picked : {x : Extent} {d : Declaration} {ts rest : Tokens} → IsDeclaration x d ts rest → Picks (kind_places d.pos d.kind) ts rest
declaration_picked {x} (a_type o i j k d l) = skipped (past_declaration {x = x} (a_type o i j k d l))
declaration_picked {x} (a_subtype o i j k d l) = skipped (past_declaration {x = x} (a_subtype o i j k d l))
declaration_picked {x} (an_object o is i k s no_initial j) = skipped (past_declaration {x = x} (an_object o is i k s no_initial j))
declaration_picked (an_object o is i k s (an_initial b v) j) =
    before (first_identifier is) (after (through (past_constancy k) (through (past_indication s) (after (through (past_initial v) (after all))))))
declaration_picked {x} (an_exception o is i j k) = skipped (past_declaration {x = x} (an_exception o is i j k))
declaration_picked {x} (an_exemption d) = skipped (past_declaration {x = x} (an_exemption d))

-- ---- the places of statement obligations

abbrev obligations : Gathering Pos
obligations = record {
  at_statement = λ p. p ∷ [];
  at_name = λ n. [];
  at_value = λ e. [];
  at_turns = λ r. [];
  at_decision = λ e. [];
  at_declaration = λ d. kind_places d.pos d.kind;
}

obligations_picked : IsPicked Picks obligations
obligations_picked = record {
  none = ended;
  passed = λ p. passed p;
  joined = λ p q. joined p q;
  first = taken ended;
  name = λ n. name_picked n;
  value = λ d. skipped (past_expr d);
  turns = λ r. skipped (past_range r);
  decision = λ d. skipped (past_expr d);
  declaration = λ d. declaration_picked d;
}

declarations_same : (ds : List Declaration) → of_declarations obligations ds ≡ declared_places ds
declarations_same [] = refl
declarations_same (d ∷ ds) = ap (λ ps. kind_places d.pos d.kind ++ ps) (declarations_same ds)

mutual
  statement_same : (s : text.Statement) → of_statement obligations s ≡ places s
  statement_same (text.null p) = refl
  statement_same (text.assignment p n i) = refl
  statement_same (text.call p n) = refl
  statement_same (text.exemption p a) = refl
  statement_same (text.conditional p e ss bs es) = λ i. p ∷ (statements_same ss i ++ (branches_same bs i ++ statements_same es i))
  statement_same (text.case_of p e alts) = λ i. p ∷ alternatives_same alts i
  statement_same (text.repeat p scheme.Forever ss) = λ i. p ∷ statements_same ss i
  statement_same (text.repeat p (scheme.While e) ss) = λ i. p ∷ statements_same ss i
  statement_same (text.repeat p (scheme.For n d r) ss) = λ i. p ∷ statements_same ss i
  statement_same (text.exit p None) = refl
  statement_same (text.exit p (Some e)) = refl
  statement_same (text.returns p None) = refl
  statement_same (text.returns p (Some e)) = refl
  statement_same (text.raise p n) = refl
  statement_same (text.block p ds h) = λ i. declarations_same (declarations_in ds) i ++ handled_same h i

  statements_same : (ss : text.Statements) → of_statements obligations ss ≡ all_places ss
  statements_same text.no_statements = refl
  statements_same (text.then_also s ss) = λ i. statement_same s i ++ statements_same ss i

  branches_same : (bs : text.Branches) → of_branches obligations bs ≡ branch_places bs
  branches_same text.no_branches = refl
  branches_same (text.branch e ss bs) = λ i. statements_same ss i ++ branches_same bs i

  alternatives_same : (alts : text.Alternatives) → of_alternatives obligations alts ≡ alternative_places alts
  alternatives_same text.no_alternatives = refl
  alternatives_same (text.alternative cs ss alts) = λ i. statements_same ss i ++ alternatives_same alts i

  handlers_same : (hs : text.Handlers) → of_handlers obligations hs ≡ handler_places hs
  handlers_same text.no_handlers = refl
  handlers_same (text.handler cs ss hs) = λ i. statements_same ss i ++ handlers_same hs i

  handled_same : (h : text.Handled) → of_handled obligations h ≡ handled_places h
  handled_same (text.handled ss hs) = λ i. statements_same ss i ++ handlers_same hs i

body_same : (b : SubprogramBody) → of_body obligations b ≡ body_places b
body_same b = λ i. declarations_same b.declarations i ++ handled_same b.statements i

items_same : (is : List BodyItem) → of_body_items obligations is ≡ items_places is
items_same [] = refl
items_same (item.Body b ∷ is) = λ i. body_same b i ++ items_same is i
items_same (item.Declared d ∷ is) = items_same is

item_same : (l : LibraryItem) → of_item obligations l ≡ unit_places l
item_same (library.Package p) = refl
item_same (library.PackageBody b) = items_same b.items
item_same (library.Instance i) = refl
item_same (library.Subprogram b) = body_same b

units_same : (us : List LibraryUnit) → of_units obligations us ≡ units_places us
units_same [] = refl
units_same (u ∷ us) = λ i. item_same u.item i ++ units_same us i

obligations_read : IsRead Picks (of_units obligations)
obligations_read = record { none = refl; joined = units_joined obligations; read = λ d. units_picked obligations_picked d }

-- ---- the order

statements_ordered : (x : Extent) (n : ℕ) (us : List LibraryUnit) → AreOfFiles x n us → Ordered precedes (units_places us)
statements_ordered x n us h =
    subst (Ordered precedes) (units_same us)
    (files_ordered obligations_read (λ (p : Pos). p) precedes (λ p q is. is) (λ ps ts rest p. picked_ordered p) (λ m ps ts rest p. picked_each (λ q. q.file ≡ m) p) h)

ordered_rise : (ps : List Pos) → Ordered precedes ps → rise ps ≡ true
ordered_rise [] h = refl
ordered_rise (p ∷ []) h = refl
ordered_rise (p ∷ q ∷ qs) h = rw (h.0.0, ordered_rise (q ∷ qs) h.1) refl

ordered_weakly : (ps : List Pos) → Ordered precedes ps → Rise ps
ordered_weakly [] h = tt
ordered_weakly (p ∷ []) h = (tt, tt)
ordered_weakly (p ∷ q ∷ qs) h = (not_back p q h.0.0, ordered_weakly (q ∷ qs) h.1)

pub statements_rise : (x : Extent) (n : ℕ) (us : List LibraryUnit) → AreOfFiles x n us → rise (units_places us) ≡ true
statements_rise x n us h = ordered_rise (units_places us) (statements_ordered x n us h)

pub statements_rise_weakly : (x : Extent) (n : ℕ) (us : List LibraryUnit) → AreOfFiles x n us → Rise (units_places us)
statements_rise_weakly x n us h = ordered_weakly (units_places us) (statements_ordered x n us h)

pub statements_within : (x : Extent) (n : ℕ) (us : List LibraryUnit) → AreOfFiles x n us → AreInFiles n (units_places us)
statements_within x n us h =
    subst (AreInFiles n) (units_same us) (files_within obligations_read IsInFiles more_files (λ m ps ts rest p. picked_each (IsInFiles m) p) h)

-- ---- the items of units

abbrev item_places : List LibraryUnit → List Pos
item_places us = map (λ (u : LibraryUnit). u.item_pos) us

item_places_joined : (us vs : List LibraryUnit) → item_places (us ++ vs) ≡ item_places us ++ item_places vs
item_places_joined [] vs = refl
item_places_joined (u ∷ us) vs = ap (λ ps. u.item_pos ∷ ps) (item_places_joined us vs)

unit_item_picked : {x : Extent} {u : LibraryUnit} {ts rest : Tokens} → IsUnit x u ts rest → Picks (u.item_pos ∷ []) ts rest
unit_item_picked (a_unit ws i) = joined (skipped (past_withs ws)) (taken (skipped (behind_first i)))

items_picked : {x : Extent} {us : List LibraryUnit} {ts rest : Tokens} → AreUnits x us ts rest → Picks (item_places us) ts rest
items_picked (one_unit d) = unit_item_picked d
items_picked (more_units {u = u} {units = us} o ds d) = same_places (sym (item_places_joined us (u ∷ []))) (joined (items_picked ds) (unit_item_picked d))

items_read : IsRead Picks item_places
items_read = record { none = refl; joined = item_places_joined; read = λ d. items_picked d }

each_item : (p : Pos) (us : List LibraryUnit) → Everywhere (λ q. precedes p q ≡ true) (item_places us) → Everywhere (λ (v : LibraryUnit). precedes p v.item_pos ≡ true) us
each_item p [] h = tt
each_item p (u ∷ us) h = (h.0, each_item p us h.1)

items_rise : (us : List LibraryUnit) → Ordered precedes (item_places us) → UnitsRise us
items_rise [] h = tt
items_rise (u ∷ us) h = (each_item u.item_pos us h.0, items_rise us h.1)

pub units_rise : (x : Extent) (n : ℕ) (us : List LibraryUnit) → AreOfFiles x n us → UnitsRise us
units_rise x n us h =
    items_rise us
    (files_ordered items_read (λ (p : Pos). p) precedes (λ p q is. is) (λ ps ts rest p. picked_ordered p) (λ m ps ts rest p. picked_each (λ q. q.file ≡ m) p) h)

all_items : (n : ℕ) (us : List LibraryUnit) → AreInFiles n (item_places us) → Everywhere (λ (u : LibraryUnit). IsInFiles n u.item_pos) us
all_items n [] h = tt
all_items n (u ∷ us) h = (h.0, all_items n us h.1)

pub units_within : (x : Extent) (n : ℕ) (us : List LibraryUnit) → AreOfFiles x n us → Everywhere (λ (u : LibraryUnit). IsInFiles n u.item_pos) us
units_within x n us h = all_items n us (files_within items_read IsInFiles more_files (λ m ps ts rest p. picked_each (IsInFiles m) p) h)
