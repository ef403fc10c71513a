-- The decisions of units begin at some of the tokens, in their order. Two of them, or more, may begin at one token.
use Rattle.std.proofs.Common.{◌≡◌, ℕ, Bool, true, false, not, List, [], ◌∷◌, ◌++◌, Option, Some, None, is_some, refl, sym, ap, ◌∙◌, subst, append-nil}
use Rattle.std.proofs.lemmas.List.{append_assoc}
use Rattle.cov_base.specs.Lists.{Everywhere}
use Rattle.cov_base.specs.TextOrder.{precedes}
use Rattle.cov_base.specs.declared.position.Pos.{Pos}
use Rattle.ada_lexer.specs.declared.token.Token.{Token}
use Rattle.ada_syntax.specs.StatementTree as text
use Rattle.ada_syntax.specs.Tree as source
use Rattle.ada_syntax.specs.Tree.{expr_pos}
use Rattle.ada_syntax.specs.TreeView.{exprs_of}
use Rattle.ada_syntax.specs.declared.declaration.Bounds.{Bounds}
use Rattle.ada_syntax.specs.declared.declaration.Declaration.{Declaration}
use Rattle.ada_syntax.specs.declared.declaration.DeclarationKind.{DeclarationKind}
use Rattle.ada_syntax.specs.declared.declaration.DeclarationKind.TheVariants as declares
use Rattle.ada_syntax.specs.declared.declaration.DiscreteRange.{DiscreteRange}
use Rattle.ada_syntax.specs.declared.declaration.DiscreteRange.TheVariants as discrete
use Rattle.ada_syntax.specs.declared.declaration.Initial.{Initial}
use Rattle.ada_syntax.specs.declared.expr.LogicalOperator.{LogicalOperator}
use Rattle.ada_syntax.specs.declared.statement.LoopScheme.TheVariants as scheme
use Rattle.ada_syntax.specs.declared.unit.BodyItem.{BodyItem}
use Rattle.ada_syntax.specs.declared.unit.BodyItem.TheVariants as item
use Rattle.ada_syntax.specs.declared.unit.LibraryItem.{LibraryItem}
use Rattle.ada_syntax.specs.declared.unit.LibraryItem.TheVariants as library
use Rattle.ada_syntax.specs.declared.unit.SubprogramBody.{SubprogramBody}
use Rattle.ada_syntax.specs.declared.unit.Unit.{Unit as LibraryUnit}
use Rattle.expression_parser.specs.declared.extent.Extent.{Extent}
use Rattle.expression_parser.specs.Reading.{Tokens}
use Rattle.expression_parser.specs.Syntax.{Suffix, all, after}
use Rattle.expression_parser.specs.Expressions.{Level, IsExpr, a_numeral, a_name, in_parentheses, a_primary, an_abs, a_not, a_factor, a_product, a_term, a_signed_term, a_first_term, a_sum, a_simple, a_relation, a_single, a_chain, IsChain, a_pair, a_longer, IsName, an_identifier, a_selection, an_attribute, an_application, AreExprs, one_expr, more_exprs}
use Rattle.declaration_parser.specs.Subtypes.{IsInitial, a_value, an_aggregate, AreBounds, low_and_high, IsRange, a_mark, a_range}
use Rattle.declaration_parser.specs.Declarations.{IsDeclaration, a_type, a_subtype, an_object, an_exception, an_exemption, no_initial, an_initial}
use Rattle.ada_rules.specs.Denoted.{neutral_of}
use Rattle.ada_rules.specs.Expressions.{Role, itself, operand, is_circuit, is_circuit_under, role_under, opens}
use Rattle.ada_rules.specs.Statements.{declarations_in}
use Rattle.legal_programs.specs.DecisionPlaces as decided
use Rattle.legal_programs.specs.DecisionPlaces.{opened_at, name_decisions, expr_decisions, exprs_decisions, units_decisions}
use Rattle.legal_programs.specs.InText.{Rise}
use Rattle.parsed_texts.specs.Places.{IsInFiles, AreInFiles}
use Rattle.parsed_texts.specs.Parsed.{AreOfFiles}
use Rattle.parsed_texts.proofs.Files.{Ordered, InOrder, IsRead, everywhere_so, files_ordered, files_within, more_files}
use Rattle.parsed_texts.proofs.Gathered.{Gathering, of_declarations, of_statement, of_statements, of_branches, of_alternatives, of_handlers, of_handled, of_body, of_body_items, of_item, of_units, units_joined}
use Rattle.parsed_texts.proofs.Nested.{IsPicked, units_picked}
use Rattle.parsed_texts.proofs.Places.{not_back, never_itself}
use Rattle.parsed_texts.proofs.Skips.{Starts, starts, expr_starts, past_operator, past_identifiers, past_name, past_constancy, past_indication, past_declaration}

-- ---- what is gathered from expressions at each decision that opens there

abbrev pub opened : {X : Type 0} → Bool → X → List X → List X
opened true p ps = p ∷ ps
opened false p ps = ps

abbrev mutual
  pub of_name : {X : Type 0} → (source.Expr → X) → source.Name → List X
  of_name f (source.simple i) = []
  of_name f (source.selected n i) = of_name f n
  of_name f (source.attribute n i) = of_name f n
  of_name f (source.applied n es) = of_name f n ++ of_exprs f es

  pub of_expr : {X : Type 0} → (source.Expr → X) → Role → source.Expr → List X
  of_expr f r (source.numeral p n) = []
  of_expr f r (source.named p n) = of_name f n
  of_expr f r (source.parenthesized p e) = opened (opens r (is_circuit e)) (f (source.parenthesized p e)) (of_expr f operand e)
  of_expr f r (source.unary p op e) = opened (opens r (is_circuit_under op e)) (f (source.unary p op e)) (of_expr f (role_under op) e)
  of_expr f r (source.binary p a op b) = of_expr f itself a ++ of_expr f itself b
  of_expr f r (source.relation p a op b) = of_expr f itself a ++ of_expr f itself b
  of_expr f r (source.logical p a op b) =
      opened (opens r (is_some (neutral_of op))) (f (source.logical p a op b)) (of_expr f operand a ++ of_expr f operand b)

  pub of_exprs : {X : Type 0} → (source.Expr → X) → source.Exprs → List X
  of_exprs f source.no_exprs = []
  of_exprs f (source.also e es) = of_expr f itself e ++ of_exprs f es

abbrev pub of_initial : {X : Type 0} → (source.Expr → X) → Option Initial → List X
of_initial f None = []
of_initial f (Some i) = of_expr f itself i.value

abbrev pub of_kind : {X : Type 0} → (source.Expr → X) → DeclarationKind → List X
of_kind f (declares.Object is c t i) = of_initial f i
of_kind f d = []

abbrev pub of_turns : {X : Type 0} → (source.Expr → X) → DiscreteRange → List X
of_turns f (discrete.Mark n) = []
of_turns f (discrete.Bounds b) = of_expr f itself b.low ++ of_expr f itself b.high

abbrev pub at_decisions : {X : Type 0} → (source.Expr → X) → Gathering X
at_decisions f = record {
  at_statement = λ p. [];
  at_name = of_name f;
  at_value = of_expr f itself;
  at_turns = of_turns f;
  at_decision = λ e. f e ∷ of_expr f operand e;
  at_declaration = λ d. of_kind f d.kind;
}

-- ---- it is read from tokens

pub record IsNoted {X : Type 0} (R : List X → Tokens → Tokens → Type 0) (f : source.Expr → X) : Type 0 where
  pub none : {ts : Tokens} → R [] ts ts
  pub passed : {t : Token} {xs : List X} {ts rest : Tokens} → R xs ts rest → R xs (t ∷ ts) rest
  pub joined : {xs ys : List X} {ts us rest : Tokens} → R xs ts us → R ys us rest → R (xs ++ ys) ts rest
  pub noted : {x : Extent} {l : Level} {e : source.Expr} {xs : List X} {ts us rest : Tokens} → IsExpr x l e ts us → R xs ts rest → R (f e ∷ xs) ts rest

module _ {X : Type 0} {R : List X → Tokens → Tokens → Type 0} {f : source.Expr → X} (k : IsNoted R f) where
  same : {xs ys : List X} {ts rest : Tokens} → xs ≡ ys → R xs ts rest → R ys ts rest
  same {ts = ts} {rest = rest} is p = subst (λ zs. R zs ts rest) is p

  past : {xs : List X} {ts us rest : Tokens} → Suffix us ts → R xs us rest → R xs ts rest
  past all q = q
  past (after p) q = k.passed (past p q)

  before : {xs : List X} {ts us rest : Tokens} → R xs ts us → Suffix rest us → R xs ts rest
  before {xs = xs} p q = same (append-nil xs) (k.joined p (past q k.none))

  maybe : {x : Extent} {l : Level} {e : source.Expr} {xs : List X} {ts us rest : Tokens} (b : Bool) → IsExpr x l e ts us → R xs ts rest → R (opened b (f e) xs) ts rest
  maybe true d p = k.noted d p
  maybe false d p = p

  exprs_last : (es : List source.Expr) (e : source.Expr) → of_exprs f (exprs_of (es ++ e ∷ [])) ≡ of_exprs f (exprs_of es) ++ of_expr f itself e
  exprs_last [] e = append-nil (of_expr f itself e)
  exprs_last (d ∷ es) e = ap (λ ds. of_expr f itself d ++ ds) (exprs_last es e) ∙ sym (append_assoc (of_expr f itself d) (of_exprs f (exprs_of es)) (of_expr f itself e))

  mutual
    expr_noted : {x : Extent} {l : Level} {e : source.Expr} {ts rest : Tokens} (r : Role) → IsExpr x l e ts rest → R (of_expr f r e) ts rest
    expr_noted r (a_numeral i) = k.passed k.none
    expr_noted r (a_name o n) = name_noted n
    expr_noted r (in_parentheses {e = e} o i d j) = maybe (opens r (is_circuit e)) (in_parentheses o i d j) (k.passed (before (expr_noted operand d) (after all)))
    expr_noted r (a_primary d) = expr_noted r d
    expr_noted r (an_abs {e = e} o i d) = maybe (opens r false) (an_abs o i d) (k.passed (expr_noted itself d))
    expr_noted r (a_not {e = e} o i d) = maybe (opens r (is_circuit e)) (a_not o i d) (k.passed (expr_noted operand d))
    expr_noted r (a_factor d) = expr_noted r d
    expr_noted r (a_product o a i b) = k.joined (expr_noted itself a) (k.passed (expr_noted itself b))
    expr_noted r (a_term d) = expr_noted r d
    expr_noted r (a_signed_term {op = op} {e = e} o i d) = maybe (opens r (is_circuit_under op e)) (a_signed_term o i d) (k.passed (expr_noted (role_under op) d))
    expr_noted r (a_first_term d) = expr_noted r d
    expr_noted r (a_sum o a i b) = k.joined (expr_noted itself a) (k.passed (expr_noted itself b))
    expr_noted r (a_simple d) = expr_noted r d
    expr_noted r (a_relation o a i b) = k.joined (expr_noted itself a) (k.passed (expr_noted itself b))
    expr_noted r (a_single d) = expr_noted r d
    expr_noted r (a_chain c) = chain_noted r c

    chain_noted : {x : Extent} {op : LogicalOperator} {e : source.Expr} {ts rest : Tokens} (r : Role) → IsChain x op e ts rest → R (of_expr f r e) ts rest
    chain_noted r (a_pair {op = op} a j b) = maybe (opens r (is_some (neutral_of op))) (a_chain (a_pair a j b)) (k.joined (expr_noted operand a) (past (past_operator j) (expr_noted operand b)))
    chain_noted r (a_longer {op = op} a j b) = maybe (opens r (is_some (neutral_of op))) (a_chain (a_longer a j b)) (k.joined (chain_noted operand a) (past (past_operator j) (expr_noted operand b)))

    name_noted : {x : Extent} {n : source.Name} {ts rest : Tokens} → IsName x n ts rest → R (of_name f n) ts rest
    name_noted (an_identifier i) = k.passed k.none
    name_noted (a_selection n i j) = before (name_noted n) (after (after all))
    name_noted (an_attribute o n i j) = before (name_noted n) (after (after all))
    name_noted (an_application n i es j) = k.joined (name_noted n) (k.passed (before (exprs_noted es) (after all)))

    exprs_noted : {x : Extent} {es : List source.Expr} {ts rest : Tokens} → AreExprs x es ts rest → R (of_exprs f (exprs_of es)) ts rest
    exprs_noted (one_expr {e = e} d) = same (sym (append-nil (of_expr f itself e))) (expr_noted itself d)
    exprs_noted (more_exprs {e = e} {es = es} ds i d) = same (sym (exprs_last es e)) (k.joined (exprs_noted ds) (k.passed (expr_noted itself d)))

  initial_noted : {x : Extent} {i : Initial} {ts rest : Tokens} → IsInitial x i ts rest → R (of_expr f itself i.value) ts rest
  initial_noted (a_value d) = expr_noted itself d
  initial_noted (an_aggregate o i j l v m) = k.passed (k.passed (k.passed (before (initial_noted v) (after all))))

  bounds_noted : {x : Extent} {b : Bounds} {ts rest : Tokens} → AreBounds x b ts rest → R (of_expr f itself b.low ++ of_expr f itself b.high) ts rest
  bounds_noted (low_and_high a i b) = k.joined (expr_noted itself a) (k.passed (expr_noted itself b))

  turns_noted : {x : Extent} {r : DiscreteRange} {ts rest : Tokens} → IsRange x r ts rest → R (of_turns f r) ts rest
  turns_noted (a_mark o n) = past (past_name n) k.none
  turns_noted (a_range o b) = bounds_noted b

  declaration_noted : {x : Extent} {d : Declaration} {ts rest : Tokens} → IsDeclaration x d ts rest → R (of_kind f d.kind) ts rest
  declaration_noted {x} (a_type o i j l d m) = past (past_declaration {x = x} (a_type o i j l d m)) k.none
  declaration_noted {x} (a_subtype o i j l d m) = past (past_declaration {x = x} (a_subtype o i j l d m)) k.none
  declaration_noted {x} (an_object o is i c s no_initial j) = past (past_declaration {x = x} (an_object o is i c s no_initial j)) k.none
  declaration_noted (an_object o is i c s (an_initial b v) j) =
      past (past_identifiers is) (k.passed (past (past_constancy c) (past (past_indication s) (k.passed (before (initial_noted v) (after all))))))
  declaration_noted {x} (an_exception o is i j l) = past (past_declaration {x = x} (an_exception o is i j l)) k.none
  declaration_noted {x} (an_exemption d) = past (past_declaration {x = x} (an_exemption d)) k.none

  at_decisions_picked : IsPicked R (at_decisions f)
  at_decisions_picked = record {
    none = k.none;
    passed = λ p. k.passed p;
    joined = λ p q. k.joined p q;
    first = k.passed k.none;
    name = λ n. name_noted n;
    value = λ d. expr_noted itself d;
    turns = λ r. turns_noted r;
    decision = λ d. k.noted d (expr_noted operand d);
    declaration = λ d. declaration_noted d;
  }

  pub at_decisions_read : IsRead R (of_units (at_decisions f))
  at_decisions_read = record { none = refl; joined = units_joined (at_decisions f); read = λ d. units_picked at_decisions_picked d }

-- ---- where decisions stand

opened_same : (b : Bool) (p : Pos) (ps qs : List Pos) → ps ≡ qs → opened b p ps ≡ opened_at b p qs
opened_same true p ps qs h = ap (λ rs. p ∷ rs) h
opened_same false p ps qs h = h

mutual
  name_same : (n : source.Name) → of_name expr_pos n ≡ name_decisions n
  name_same (source.simple i) = refl
  name_same (source.selected n i) = name_same n
  name_same (source.attribute n i) = name_same n
  name_same (source.applied n es) = λ i. name_same n i ++ exprs_same es i

  expr_same : (r : Role) (e : source.Expr) → of_expr expr_pos r e ≡ expr_decisions r e
  expr_same r (source.numeral p n) = refl
  expr_same r (source.named p n) = name_same n
  expr_same r (source.parenthesized p e) = opened_same (opens r (is_circuit e)) p (of_expr expr_pos operand e) (expr_decisions operand e) (expr_same operand e)
  expr_same r (source.unary p op e) = opened_same (opens r (is_circuit_under op e)) p (of_expr expr_pos (role_under op) e) (expr_decisions (role_under op) e) (expr_same (role_under op) e)
  expr_same r (source.binary p a op b) = λ i. expr_same itself a i ++ expr_same itself b i
  expr_same r (source.relation p a op b) = λ i. expr_same itself a i ++ expr_same itself b i
  expr_same r (source.logical p a op b) =
      opened_same (opens r (is_some (neutral_of op))) p (of_expr expr_pos operand a ++ of_expr expr_pos operand b) (expr_decisions operand a ++ expr_decisions operand b)
      (λ i. expr_same operand a i ++ expr_same operand b i)

  exprs_same : (es : source.Exprs) → of_exprs expr_pos es ≡ exprs_decisions es
  exprs_same source.no_exprs = refl
  exprs_same (source.also e es) = λ i. expr_same itself e i ++ exprs_same es i

initial_same : (i : Option Initial) → of_initial expr_pos i ≡ decided.initial_decisions i
initial_same None = refl
initial_same (Some i) = expr_same itself i.value

kind_same : (d : DeclarationKind) → of_kind expr_pos d ≡ decided.kind_decisions d
kind_same (declares.Object is c t i) = initial_same i
kind_same (declares.Type i d) = refl
kind_same (declares.Subtype i t) = refl
kind_same (declares.Exception is) = refl
kind_same (declares.Pragma a) = refl

turns_same : (r : DiscreteRange) → of_turns expr_pos r ≡ decided.turns_decisions r
turns_same (discrete.Mark n) = refl
turns_same (discrete.Bounds b) = λ i. expr_same itself b.low i ++ expr_same itself b.high i

test_same : (e : source.Expr) → (expr_pos e ∷ of_expr expr_pos operand e) ≡ decided.test_decisions e
test_same e = ap (λ ps. expr_pos e ∷ ps) (expr_same operand e)

abbrev places_noted : Gathering Pos
places_noted = at_decisions expr_pos

declarations_same : (ds : List Declaration) → of_declarations places_noted ds ≡ decided.declared_decisions ds
declarations_same [] = refl
declarations_same (d ∷ ds) = λ i. kind_same d.kind i ++ declarations_same ds i

mutual
  statement_same : (s : text.Statement) → of_statement places_noted s ≡ decided.decision_places s
  statement_same (text.null p) = refl
  statement_same (text.assignment p n v) = λ i. name_same n i ++ expr_same itself v.value i
  statement_same (text.call p n) = name_same n
  statement_same (text.exemption p a) = refl
  statement_same (text.conditional p e ss bs es) = λ i. (test_same e i ++ statements_same ss i) ++ (branches_same bs i ++ statements_same es i)
  statement_same (text.case_of p e alts) = λ i. expr_same itself e i ++ alternatives_same alts i
  statement_same (text.repeat p scheme.Forever ss) = statements_same ss
  statement_same (text.repeat p (scheme.While e) ss) = λ i. test_same e i ++ statements_same ss i
  statement_same (text.repeat p (scheme.For n d r) ss) = λ i. turns_same r i ++ statements_same ss i
  statement_same (text.exit p None) = refl
  statement_same (text.exit p (Some e)) = test_same e
  statement_same (text.returns p None) = refl
  statement_same (text.returns p (Some e)) = expr_same itself e
  statement_same (text.raise p n) = refl
  statement_same (text.block p ds h) = λ i. declarations_same (declarations_in ds) i ++ handled_same h i

  statements_same : (ss : text.Statements) → of_statements places_noted ss ≡ decided.all_decision_places ss
  statements_same text.no_statements = refl
  statements_same (text.then_also s ss) = λ i. statement_same s i ++ statements_same ss i

  branches_same : (bs : text.Branches) → of_branches places_noted bs ≡ decided.branch_decisions bs
  branches_same text.no_branches = refl
  branches_same (text.branch e ss bs) = λ i. (test_same e i ++ statements_same ss i) ++ branches_same bs i

  alternatives_same : (alts : text.Alternatives) → of_alternatives places_noted alts ≡ decided.alternative_decisions alts
  alternatives_same text.no_alternatives = refl
  alternatives_same (text.alternative cs ss alts) = λ i. statements_same ss i ++ alternatives_same alts i

  handlers_same : (hs : text.Handlers) → of_handlers places_noted hs ≡ decided.handler_decisions hs
  handlers_same text.no_handlers = refl
  handlers_same (text.handler cs ss hs) = λ i. statements_same ss i ++ handlers_same hs i

  handled_same : (h : text.Handled) → of_handled places_noted h ≡ decided.handled_decisions h
  handled_same (text.handled ss hs) = λ i. statements_same ss i ++ handlers_same hs i

body_same : (b : SubprogramBody) → of_body places_noted b ≡ decided.body_decisions b
body_same b = λ i. declarations_same b.declarations i ++ handled_same b.statements i

items_same : (is : List BodyItem) → of_body_items places_noted is ≡ decided.items_decisions is
items_same [] = refl
items_same (item.Body b ∷ is) = λ i. body_same b i ++ items_same is i
items_same (item.Declared d ∷ is) = items_same is

item_same : (l : LibraryItem) → of_item places_noted l ≡ decided.unit_decisions l
item_same (library.Package p) = refl
item_same (library.PackageBody b) = items_same b.items
item_same (library.Instance i) = refl
item_same (library.Subprogram b) = body_same b

units_same : (us : List LibraryUnit) → of_units places_noted us ≡ units_decisions us
units_same [] = refl
units_same (u ∷ us) = λ i. item_same u.item i ++ units_same us i

-- ---- the order: these are the places of some of the tokens between two lists, in order; one token may give several
pub data Stays : List Pos → Tokens → Tokens → Type 0 where
  ended : {ts : Tokens} → Stays [] ts ts
  noted : {t : Token} {ps : List Pos} {ts rest : Tokens} → Stays ps (t ∷ ts) rest → Stays (t.pos ∷ ps) (t ∷ ts) rest
  passed : {t : Token} {ps : List Pos} {ts rest : Tokens} → Stays ps ts rest → Stays ps (t ∷ ts) rest

stays_joined : {ps qs : List Pos} {ts us rest : Tokens} → Stays ps ts us → Stays qs us rest → Stays (ps ++ qs) ts rest
stays_joined ended q = q
stays_joined (noted p) q = noted (stays_joined p q)
stays_joined (passed p) q = passed (stays_joined p q)

noted_first : {p : Pos} {ps : List Pos} {ts rest : Tokens} → Starts p ts → Stays ps ts rest → Stays (p ∷ ps) ts rest
noted_first starts q = noted q

places_are_noted : IsNoted Stays expr_pos
places_are_noted = record {
  none = ended;
  passed = λ p. passed p;
  joined = λ p q. stays_joined p q;
  noted = λ d q. noted_first (expr_starts d) q;
}

stays_each : (P : Pos → Type 0) {ps : List Pos} {ts rest : Tokens} → Stays ps ts rest → Everywhere (λ (t : Token). P t.pos) ts → Everywhere P ps
stays_each P ended h = tt
stays_each P (noted p) h = (h.0, stays_each P p h)
stays_each P (passed p) h = stays_each P p h.1

-- no later one stands before an earlier one
abbrev goes_on : Pos → Pos → Bool
goes_on p q = not (precedes q p)

goes_on_behind : (p q : Pos) → precedes p q ≡ true → goes_on p q ≡ true
goes_on_behind p q h = ap not (not_back p q h)

stays_ordered : {ps : List Pos} {ts rest : Tokens} → Stays ps ts rest → InOrder ts → Ordered goes_on ps
stays_ordered ended h = tt
stays_ordered (noted {t = t} {ts = ts} p) h =
    (stays_each (λ q. goes_on t.pos q ≡ true) p (ap not (never_itself t.pos), everywhere_so (λ (u : Token). precedes t.pos u.pos ≡ true) (λ u. goes_on t.pos u.pos ≡ true) (λ u k. goes_on_behind t.pos u.pos k) ts h.0), stays_ordered p h)
stays_ordered (passed p) h = stays_ordered p h.1

not_true : (b : Bool) → not b ≡ true → b ≡ false
not_true true h = sym h
not_true false h = refl

ordered_rise : (ps : List Pos) → Ordered goes_on ps → Rise ps
ordered_rise [] h = tt
ordered_rise (p ∷ []) h = (tt, tt)
ordered_rise (p ∷ q ∷ qs) h = (not_true (precedes q p) h.0.0, ordered_rise (q ∷ qs) h.1)

pub decisions_rise : (x : Extent) (n : ℕ) (us : List LibraryUnit) → AreOfFiles x n us → Rise (units_decisions us)
decisions_rise x n us h =
    subst Rise (units_same us)
    (ordered_rise (of_units places_noted us)
    (files_ordered (at_decisions_read places_are_noted) (λ (p : Pos). p) goes_on goes_on_behind (λ ps ts rest p. stays_ordered p) (λ m ps ts rest p. stays_each (λ q. q.file ≡ m) p) h))

pub decisions_within : (x : Extent) (n : ℕ) (us : List LibraryUnit) → AreOfFiles x n us → AreInFiles n (units_decisions us)
decisions_within x n us h =
    subst (AreInFiles n) (units_same us) (files_within (at_decisions_read places_are_noted) IsInFiles more_files (λ m ps ts rest p. stays_each (IsInFiles m) p) h)
