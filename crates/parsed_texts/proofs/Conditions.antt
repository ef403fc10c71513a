-- The conditions of the decisions of units begin at tokens.
use Rattle.std.proofs.Common.{◌≡◌, ℕ, ◌+◌, Bool, true, false, List, [], ◌∷◌, ◌++◌, Option, Some, None, is_some, refl, ap, subst}
use Rattle.std.specs.Prelude.{if◌then◌else◌}
use Rattle.cov_base.specs.Lists.{Everywhere}
use Rattle.cov_base.specs.declared.position.Pos.{Pos}
use Rattle.ada_lexer.specs.declared.token.Token.{Token}
use Rattle.ada_syntax.specs.StatementTree as text
use Rattle.ada_syntax.specs.Tree as source
use Rattle.ada_syntax.specs.Tree.{expr_pos}
use Rattle.ada_syntax.specs.declared.declaration.Declaration.{Declaration}
use Rattle.ada_syntax.specs.declared.declaration.DeclarationKind.{DeclarationKind}
use Rattle.ada_syntax.specs.declared.declaration.DeclarationKind.TheVariants as declares
use Rattle.ada_syntax.specs.declared.declaration.DiscreteRange.{DiscreteRange}
use Rattle.ada_syntax.specs.declared.declaration.DiscreteRange.TheVariants as discrete
use Rattle.ada_syntax.specs.declared.declaration.Initial.{Initial}
use Rattle.ada_syntax.specs.declared.expr.LogicalOperator.{LogicalOperator}
use Rattle.ada_syntax.specs.declared.expr.UnaryOperator.{UnaryOperator}
use Rattle.ada_syntax.specs.declared.expr.UnaryOperator.TheVariants as operator
use Rattle.ada_syntax.specs.declared.statement.LoopScheme.TheVariants as scheme
use Rattle.ada_syntax.specs.declared.unit.BodyItem.{BodyItem}
use Rattle.ada_syntax.specs.declared.unit.BodyItem.TheVariants as item
use Rattle.ada_syntax.specs.declared.unit.LibraryItem.{LibraryItem}
use Rattle.ada_syntax.specs.declared.unit.LibraryItem.TheVariants as library
use Rattle.ada_syntax.specs.declared.unit.SubprogramBody.{SubprogramBody}
use Rattle.ada_syntax.specs.declared.unit.Unit.{Unit as LibraryUnit}
use Rattle.expression_parser.specs.declared.extent.Extent.{Extent}
use Rattle.expression_parser.specs.Reading.{Tokens}
use Rattle.expression_parser.specs.Syntax.{Suffix, all, after}
use Rattle.expression_parser.specs.Expressions.{Level, IsExpr, a_numeral, a_name, in_parentheses, a_primary, an_abs, a_not, a_factor, a_product, a_term, a_signed_term, a_first_term, a_sum, a_simple, a_relation, a_single, a_chain, IsChain, a_pair, a_longer}
use Rattle.ada_rules.specs.Denoted.{neutral_of}
use Rattle.ada_rules.specs.Expressions.{Role, itself, operand, is_circuit, opens}
use Rattle.ada_rules.specs.Statements.{declarations_in}
use Rattle.legal_counts.specs.ConditionPlaces as conditioned
use Rattle.legal_counts.specs.ConditionPlaces.{conditions, opened_with, name_conditions, expr_conditions, exprs_conditions, test_conditions, units_conditions}
use Rattle.parsed_texts.specs.Places.{IsInFiles, AreInFiles}
use Rattle.parsed_texts.specs.Parsed.{AreOfFiles}
use Rattle.parsed_texts.proofs.Decisions.{opened, of_name, of_expr, of_exprs, of_initial, of_kind, of_turns, at_decisions, IsNoted, at_decisions_read}
use Rattle.parsed_texts.proofs.Files.{everywhere_joined, everywhere_so, files_within, more_files}
use Rattle.parsed_texts.proofs.Gathered.{Gathering, of_declarations, of_statement, of_statements, of_branches, of_alternatives, of_handlers, of_handled, of_body, of_body_items, of_item, of_units}
use Rattle.parsed_texts.proofs.Skips.{Starts, starts, expr_starts, past_operator, past_expr, past_chain, through}

-- ---- the conditions of one decision

-- this is the place of one of the tokens
data IsOf : Pos → Tokens → Type 0 where
  here : {t : Token} {ts : Tokens} → IsOf t.pos (t ∷ ts)
  later : {p : Pos} {t : Token} {ts : Tokens} → IsOf p ts → IsOf p (t ∷ ts)

abbrev AreOf : Tokens → List Pos → Type 0
AreOf ts ps = Everywhere (λ p. IsOf p ts) ps

behind : {p : Pos} {ts us : Tokens} → Suffix us ts → IsOf p us → IsOf p ts
behind all h = h
behind (after s) h = later (behind s h)

all_behind : (ps : List Pos) {ts us : Tokens} → Suffix us ts → AreOf us ps → AreOf ts ps
all_behind ps {ts = ts} {us = us} s h = everywhere_so (λ p. IsOf p us) (λ p. IsOf p ts) (λ p k. behind s k) ps h

at_start : {p : Pos} {ts : Tokens} → Starts p ts → AreOf ts (p ∷ [])
at_start starts = (here, tt)

either_of : (b : Bool) (ps qs : List Pos) (ts : Tokens) → AreOf ts ps → AreOf ts qs → AreOf ts (if b then ps else qs)
either_of true ps qs ts h k = h
either_of false ps qs ts h k = k

signed_conditions : (op : UnaryOperator) (t : Token) (e : source.Expr) (ts : Tokens) → AreOf ts (conditions e) → AreOf (t ∷ ts) (conditions (source.unary t.pos op e))
signed_conditions operator.Plus t e ts h = (here, tt)
signed_conditions operator.Minus t e ts h = (here, tt)
signed_conditions operator.Abs t e ts h = (here, tt)
signed_conditions operator.Not t e ts h = all_behind (conditions e) (after all) h

mutual
  conditions_of : {x : Extent} {l : Level} {e : source.Expr} {ts rest : Tokens} → IsExpr x l e ts rest → AreOf ts (conditions e)
  conditions_of (a_numeral i) = (here, tt)
  conditions_of {x} {l} (a_name o n) = at_start (expr_starts {x = x} {l = l} (a_name o n))
  conditions_of (in_parentheses {e = e} o i d j) = all_behind (conditions e) (after all) (conditions_of d)
  conditions_of (a_primary d) = conditions_of d
  conditions_of (an_abs o i d) = (here, tt)
  conditions_of (a_not {e = e} o i d) = all_behind (conditions e) (after all) (conditions_of d)
  conditions_of (a_factor d) = conditions_of d
  conditions_of (a_product o a i b) = at_start (expr_starts a)
  conditions_of (a_term d) = conditions_of d
  conditions_of (a_signed_term {t = t} {op = op} {e = e} {ts = ts} o i d) = signed_conditions op t e ts (conditions_of d)
  conditions_of (a_first_term d) = conditions_of d
  conditions_of (a_sum o a i b) = at_start (expr_starts a)
  conditions_of (a_simple d) = conditions_of d
  conditions_of (a_relation o a i b) = at_start (expr_starts a)
  conditions_of (a_single d) = conditions_of d
  conditions_of (a_chain c) = chain_conditions c

  chain_conditions : {x : Extent} {op : LogicalOperator} {e : source.Expr} {ts rest : Tokens} → IsChain x op e ts rest → AreOf ts (conditions e)
  chain_conditions (a_pair {op = op} {a = a} {b = b} {ts = ts} d j k) =
      either_of (is_some (neutral_of op)) (conditions a ++ conditions b) (expr_pos a ∷ []) ts
      (everywhere_joined (λ p. IsOf p ts) (conditions a) (conditions b) (conditions_of d) (all_behind (conditions b) (through (past_expr d) (past_operator j)) (conditions_of k)))
      (at_start (expr_starts d))
  chain_conditions (a_longer {op = op} {a = a} {b = b} {ts = ts} d j k) =
      let firsts = chain_conditions d in
      either_of (is_some (neutral_of op)) (conditions a ++ conditions b) (expr_pos a ∷ []) ts
      (everywhere_joined (λ p. IsOf p ts) (conditions a) (conditions b) firsts (all_behind (conditions b) (through (past_chain d) (past_operator j)) (conditions_of k)))
      (at_start (expr_starts (a_chain d)))

-- ---- those of all decisions

-- the conditions of each of these decisions stand at tokens between two lists
record Lie (xs : List (List Pos)) (ts rest : Tokens) : Type 0 where
  pub within : Suffix rest ts
  pub each : Everywhere (AreOf ts) xs

each_behind : (xs : List (List Pos)) {ts us : Tokens} → Suffix us ts → Everywhere (AreOf us) xs → Everywhere (AreOf ts) xs
each_behind xs {ts = ts} {us = us} s h = everywhere_so (AreOf us) (AreOf ts) (λ ps k. all_behind ps s k) xs h

conditions_are_noted : IsNoted Lie conditions
conditions_are_noted = record {
  none = record { within = all; each = tt };
  passed = λ {t} {xs} p. record { within = after p.within; each = each_behind xs (after all) p.each };
  joined = λ {xs} {ys} {ts} p q. record { within = through p.within q.within; each = everywhere_joined (AreOf ts) xs ys p.each (each_behind ys p.within q.each) };
  noted = λ d q. record { within = q.within; each = (conditions_of d, q.each) };
}

one_within : (n : ℕ) {p : Pos} {ts : Tokens} → IsOf p ts → Everywhere (λ (t : Token). IsInFiles n t.pos) ts → IsInFiles n p
one_within n here h = h.0
one_within n (later i) h = one_within n i h.1

lists_within : (n : ℕ) (xs : List (List Pos)) (ts rest : Tokens) → Lie xs ts rest → Everywhere (λ (t : Token). IsInFiles n t.pos) ts → Everywhere (AreInFiles n) xs
lists_within n xs ts rest p h = everywhere_so (AreOf ts) (AreInFiles n) (λ ps k. everywhere_so (λ q. IsOf q ts) (IsInFiles n) (λ q is. one_within n is h) ps k) xs p.each

-- ---- these are the conditions of the units

opened_same : (r : Role) (b : Bool) (ps qs : List Pos) (xs ys : List (List Pos)) → xs ≡ ys → opened (opens r b) (if b then ps else qs) xs ≡ opened_with (opens r b) ps ys
opened_same itself true ps qs xs ys h = ap (λ rs. ps ∷ rs) h
opened_same itself false ps qs xs ys h = h
opened_same operand b ps qs xs ys h = h

ringed_same : (b : Bool) (ps : List Pos) (xs ys : List (List Pos)) → xs ≡ ys → opened b ps xs ≡ opened_with b ps ys
ringed_same true ps xs ys h = ap (λ rs. ps ∷ rs) h
ringed_same false ps xs ys h = h

unopened_same : (r : Role) (ps qs : List Pos) (xs ys : List (List Pos)) → xs ≡ ys → opened (opens r false) ps xs ≡ opened_with (opens r false) qs ys
unopened_same itself ps qs xs ys h = h
unopened_same operand ps qs xs ys h = h

mutual
  name_same : (n : source.Name) → of_name conditions n ≡ name_conditions n
  name_same (source.simple i) = refl
  name_same (source.selected n i) = name_same n
  name_same (source.attribute n i) = name_same n
  name_same (source.applied n es) = λ i. name_same n i ++ exprs_same es i

  expr_same : (r : Role) (e : source.Expr) → of_expr conditions r e ≡ expr_conditions r e
  expr_same r (source.numeral p n) = refl
  expr_same r (source.named p n) = name_same n
  expr_same r (source.parenthesized p e) = ringed_same (opens r (is_circuit e)) (conditions e) (of_expr conditions operand e) (expr_conditions operand e) (expr_same operand e)
  expr_same r (source.unary p operator.Plus e) = unopened_same r (p ∷ []) (conditions e) (of_expr conditions itself e) (expr_conditions itself e) (expr_same itself e)
  expr_same r (source.unary p operator.Minus e) = unopened_same r (p ∷ []) (conditions e) (of_expr conditions itself e) (expr_conditions itself e) (expr_same itself e)
  expr_same r (source.unary p operator.Abs e) = unopened_same r (p ∷ []) (conditions e) (of_expr conditions itself e) (expr_conditions itself e) (expr_same itself e)
  expr_same r (source.unary p operator.Not e) = ringed_same (opens r (is_circuit e)) (conditions e) (of_expr conditions operand e) (expr_conditions operand e) (expr_same operand e)
  expr_same r (source.binary p a op b) = λ i. expr_same itself a i ++ expr_same itself b i
  expr_same r (source.relation p a op b) = λ i. expr_same itself a i ++ expr_same itself b i
  expr_same r (source.logical p a op b) =
      opened_same r (is_some (neutral_of op)) (conditions a ++ conditions b) (p ∷ []) (of_expr conditions operand a ++ of_expr conditions operand b) (expr_conditions operand a ++ expr_conditions operand b)
      (λ i. expr_same operand a i ++ expr_same operand b i)

  exprs_same : (es : source.Exprs) → of_exprs conditions es ≡ exprs_conditions es
  exprs_same source.no_exprs = refl
  exprs_same (source.also e es) = λ i. expr_same itself e i ++ exprs_same es i

initial_same : (i : Option Initial) → of_initial conditions i ≡ conditioned.initial_conditions i
initial_same None = refl
initial_same (Some i) = expr_same itself i.value

kind_same : (d : DeclarationKind) → of_kind conditions d ≡ conditioned.kind_conditions d
kind_same (declares.Object is c t i) = initial_same i
kind_same (declares.Type i d) = refl
kind_same (declares.Subtype i t) = refl
kind_same (declares.Exception is) = refl
kind_same (declares.Pragma a) = refl

turns_same : (r : DiscreteRange) → of_turns conditions r ≡ conditioned.turns_conditions r
turns_same (discrete.Mark n) = refl
turns_same (discrete.Bounds b) = λ i. expr_same itself b.low i ++ expr_same itself b.high i

test_same : (e : source.Expr) → (conditions e ∷ of_expr conditions operand e) ≡ test_conditions e
test_same e = ap (λ ps. conditions e ∷ ps) (expr_same operand e)

abbrev conditions_noted : Gathering (List Pos)
conditions_noted = at_decisions conditions

declarations_same : (ds : List Declaration) → of_declarations conditions_noted ds ≡ conditioned.declared_conditions ds
declarations_same [] = refl
declarations_same (d ∷ ds) = λ i. kind_same d.kind i ++ declarations_same ds i

mutual
  statement_same : (s : text.Statement) → of_statement conditions_noted s ≡ conditioned.statement_conditions s
  statement_same (text.null p) = refl
  statement_same (text.assignment p n v) = λ i. name_same n i ++ expr_same itself v.value i
  statement_same (text.call p n) = name_same n
  statement_same (text.exemption p a) = refl
  statement_same (text.conditional p e ss bs es) = λ i. (test_same e i ++ statements_same ss i) ++ (branches_same bs i ++ statements_same es i)
  statement_same (text.case_of p e alts) = λ i. expr_same itself e i ++ alternatives_same alts i
  statement_same (text.repeat p scheme.Forever ss) = statements_same ss
  statement_same (text.repeat p (scheme.While e) ss) = λ i. test_same e i ++ statements_same ss i
  statement_same (text.repeat p (scheme.For n d r) ss) = λ i. turns_same r i ++ statements_same ss i
  statement_same (text.exit p None) = refl
  statement_same (text.exit p (Some e)) = test_same e
  statement_same (text.returns p None) = refl
  statement_same (text.returns p (Some e)) = expr_same itself e
  statement_same (text.raise p n) = refl
  statement_same (text.block p ds h) = λ i. declarations_same (declarations_in ds) i ++ handled_same h i

  statements_same : (ss : text.Statements) → of_statements conditions_noted ss ≡ conditioned.all_conditions ss
  statements_same text.no_statements = refl
  statements_same (text.then_also s ss) = λ i. statement_same s i ++ statements_same ss i

  branches_same : (bs : text.Branches) → of_branches conditions_noted bs ≡ conditioned.branch_conditions bs
  branches_same text.no_branches = refl
  branches_same (text.branch e ss bs) = λ i. (test_same e i ++ statements_same ss i) ++ branches_same bs i

  alternatives_same : (alts : text.Alternatives) → of_alternatives conditions_noted alts ≡ conditioned.alternative_conditions alts
  alternatives_same text.no_alternatives = refl
  alternatives_same (text.alternative cs ss alts) = λ i. statements_same ss i ++ alternatives_same alts i

  handlers_same : (hs : text.Handlers) → of_handlers conditions_noted hs ≡ conditioned.handler_conditions hs
  handlers_same text.no_handlers = refl
  handlers_same (text.handler cs ss hs) = λ i. statements_same ss i ++ handlers_same hs i

  handled_same : (h : text.Handled) → of_handled conditions_noted h ≡ conditioned.handled_conditions h
  handled_same (text.handled ss hs) = λ i. statements_same ss i ++ handlers_same hs i

body_same : (b : SubprogramBody) → of_body conditions_noted b ≡ conditioned.body_conditions b
body_same b = λ i. declarations_same b.declarations i ++ handled_same b.statements i

items_same : (is : List BodyItem) → of_body_items conditions_noted is ≡ conditioned.items_conditions is
items_same [] = refl
items_same (item.Body b ∷ is) = λ i. body_same b i ++ items_same is i
items_same (item.Declared d ∷ is) = items_same is

item_same : (l : LibraryItem) → of_item conditions_noted l ≡ conditioned.unit_conditions l
item_same (library.Package p) = refl
item_same (library.PackageBody b) = items_same b.items
item_same (library.Instance i) = refl
item_same (library.Subprogram b) = body_same b

units_same : (us : List LibraryUnit) → of_units conditions_noted us ≡ units_conditions us
units_same [] = refl
units_same (u ∷ us) = λ i. item_same u.item i ++ units_same us i

more_lists : (n : ℕ) (ps : List Pos) → AreInFiles n ps → AreInFiles (n + 1) ps
more_lists n ps h = everywhere_so (IsInFiles n) (IsInFiles (n + 1)) (more_files n) ps h

pub conditions_within : (x : Extent) (n : ℕ) (us : List LibraryUnit) → AreOfFiles x n us → Everywhere (AreInFiles n) (units_conditions us)
conditions_within x n us h =
    subst (Everywhere (AreInFiles n)) (units_same us) (files_within (at_decisions_read conditions_are_noted) AreInFiles more_lists lists_within h)
