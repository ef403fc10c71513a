-- How alternatives and handlers are read, answer by answer.
use Rattle.std.proofs.Common.{◌≡◌, ℕ, suc, ◌<◌, true, false, List, [], ◌∷◌, ◌++◌, length, Some, None, refl, ap, ◌∙◌, subst, arith}
use Rattle.ada_lexer.specs.declared.token.Token.{Token}
use Rattle.ada_syntax.specs.StatementTree as tree
use Rattle.ada_syntax.specs.StatementTree.{Statement, Branches, Alternatives, Handlers, Handled}
use Rattle.ada_syntax.specs.StatementView.{statements_of, alternatives_of, handlers_of}
use Rattle.ada_syntax.specs.declared.statement.Alternative.{Alternative}
use Rattle.ada_syntax.specs.declared.statement.Handler.{Handler}
use Rattle.ada_syntax.specs.declared.statement.Choice.{Choice}
use Rattle.ada_syntax.specs.declared.statement.ExceptionChoice.{ExceptionChoice}
use Rattle.expression_parser.specs.declared.symbol.Symbol.{Symbol}
use Rattle.expression_parser.specs.declared.symbol.Symbol.TheVariants as symbol
use Rattle.expression_parser.specs.declared.extent.Extent.{Extent}
use Rattle.expression_parser.specs.declared.extent.Extent.TheVariants.{Exceptions}
use Rattle.expression_parser.specs.Symbols.{symbol_of, same}
use Rattle.expression_parser.specs.Extents.{opens}
use Rattle.expression_parser.specs.Reading.{Tokens, Reading, Reader, Got, Stuck, Turn, Leave, Take, got, goes_on, ◌>>=◌, provided, expect, skip, repeat}
use Rattle.expression_parser.specs.Shows.{Reads, More, Skipped, after}
use Rattle.expression_parser.proofs.Comes.{got_bind, got_then}
use Rattle.expression_parser.proofs.NameCode.{after_some, after_none}
use Rattle.ada_parser.specs.Trees.{with_alternative, with_handler}
use Rattle.ada_parser.specs.Parts.{alternative_parts, handler_parts}
use Rattle.ada_parser.specs.StatementReading as read
use Rattle.ada_parser.specs.StatementDepth as at
use Rattle.ada_parser.specs.Lists.{before}
use Rattle.ada_parser.proofs.BeforeWords.{before_then, before_stuck}
use Rattle.ada_parser.proofs.Steps.{both, first_fails, word_then, no_word, deeper, takes, leaves, refuses, turns, list_step, list_step_fail, list_end}

-- statements within a statement
module _ (x : Extent) {A : Type 0} where
  pub inner_then : {ss : List Statement} {us rest : Tokens} (k : List Statement → A) → Reads (at.at_statements x) us (Got ss rest) → (m : ℕ) → length us < m → (read.statements x m >>= λ zs. got (k zs)) us ≡ Got (k ss) rest
  inner_then {us = us} k r m h = got_then k (deeper (read.statements x) us r m h)

  pub inner_stuck : {us rest : Tokens} (k : List Statement → Reader A) → Reads (at.at_statements x) us (Stuck rest) → (m : ℕ) → length us < m → (read.statements x m >>= k) us ≡ Stuck rest
  inner_stuck {us = us} k r m h = ap (goes_on k) (deeper (read.statements x) us r m h)

  -- behind a word
  pub behind_fails : {s : Symbol} {ts us rest : Tokens} (k : List Statement → Reader A) → Skipped s ts us → Reads (at.at_statements x) us (Stuck rest) → Reads (λ m. skip s (read.statements x m >>= k)) ts (Stuck rest)
  behind_fails k w r = record { by = λ m h. got_bind (λ _. read.statements x m >>= k) w.here (inner_stuck k r m (omega (arith, w.shorter))) }

alternatives_push : (zs : List Alternative) (a : Alternative) → alternatives_of (zs ++ a ∷ []) ≡ with_alternative (alternatives_of zs) (alternative_parts a)
alternatives_push [] a = refl
alternatives_push (z ∷ zs) a = ap (λ r. tree.alternative z.choices (statements_of z.statements.items) r) (alternatives_push zs a)

handler_list_push : (zs : List Handler) (a : Handler) → handlers_of (zs ++ a ∷ []) ≡ with_handler (handlers_of zs) (handler_parts a)
handler_list_push [] a = refl
handler_list_push (z ∷ zs) a = ap (λ r. tree.handler z.choices (statements_of z.statements.items) r) (handler_list_push zs a)

module _ (x : Extent) where
  -- choice {| choice} => stmts
  abbrev alternative_rest : ℕ → List Choice → Reader (List Choice × List Statement)
  alternative_rest m cs = read.statements x m >>= λ ss. got (cs, ss)

  pub alternative_read : (ts us rest : Tokens) (cs : List Choice) (ss : List Statement) → Reads (before symbol.Arrow (read.choices_by x)) ts (Got cs us) → length us < length ts → Reads (at.at_statements x) us (Got ss rest) → Reads (at.at_alternative x) ts (Got (cs, ss) rest)
  alternative_read ts us rest cs ss r l s = before_then symbol.Arrow (read.choices_by x) alternative_rest ts us cs (Got (cs, ss) rest) r l (inner_then x (λ zs. (cs, zs)) s)

  pub alternative_fail : (ts rest : Tokens) → Reads (before symbol.Arrow (read.choices_by x)) ts (Stuck rest) → Reads (at.at_alternative x) ts (Stuck rest)
  alternative_fail ts rest r = before_stuck symbol.Arrow (read.choices_by x) alternative_rest ts rest r

  pub alternative_empty : (ts us rest : Tokens) (cs : List Choice) → Reads (before symbol.Arrow (read.choices_by x)) ts (Got cs us) → length us < length ts → Reads (at.at_statements x) us (Stuck rest) → Reads (at.at_alternative x) ts (Stuck rest)
  alternative_empty ts us rest cs r l s = before_then symbol.Arrow (read.choices_by x) alternative_rest ts us cs (Stuck rest) r l (inner_stuck x (λ ss. got (cs, ss)) s)

  -- a list of them
  abbrev pub alternative_turns : ℕ → Symbol → Token → Alternatives → Turn Alternatives
  alternative_turns = turns symbol.When (at.at_alternative x) with_alternative

  abbrev alternative_list : ℕ → Reader Alternatives
  alternative_list m = at.at_alternative x m >>= λ a. repeat (alternative_turns m) (suc m) (with_alternative tree.no_alternatives a)

  pub alternatives_begin : (ts us rest : Tokens) (a : Alternative) → Skipped symbol.When ts us → Reads (at.at_alternative x) us (Got (alternative_parts a) rest) → length rest < length us → (q : Reading Alternatives) → More alternative_turns rest (alternatives_of (a ∷ [])) q → Reads (at.at_alternatives x) ts q
  alternatives_begin ts us rest a w r l q f = word_then alternative_list w (both (λ m a. repeat (alternative_turns m) (suc m) (with_alternative tree.no_alternatives a)) r (omega arith) (record { by = λ m h. f.by m (suc m) h (omega arith) }))

  pub alternatives_none : (ts rest : Tokens) → expect symbol.When ts ≡ Stuck rest → Reads (at.at_alternatives x) ts (Stuck rest)
  alternatives_none ts rest e = no_word symbol.When alternative_list e

  pub alternatives_fail : (ts us rest : Tokens) → Skipped symbol.When ts us → Reads (at.at_alternative x) us (Stuck rest) → Reads (at.at_alternatives x) ts (Stuck rest)
  alternatives_fail ts us rest w r = word_then alternative_list w (first_fails (λ m a. repeat (alternative_turns m) (suc m) (with_alternative tree.no_alternatives a)) r)

  pub alternatives_step : (ts us rest : Tokens) (zs : List Alternative) (a : Alternative) → after symbol.When ts ≡ Some us → Reads (at.at_alternative x) us (Got (alternative_parts a) rest) → length rest < length us → (q : Reading Alternatives) → More alternative_turns rest (alternatives_of (zs ++ a ∷ [])) q
      → More alternative_turns ts (alternatives_of zs) q
  alternatives_step ts us rest zs a e r l q f = list_step symbol.When (at.at_alternative x) with_alternative ts us rest (alternatives_of zs) (alternative_parts a) e r l q (subst (λ z. More alternative_turns rest z q) (alternatives_push zs a) f)

  pub alternatives_step_fail : (ts us rest : Tokens) (zs : List Alternative) → after symbol.When ts ≡ Some us → Reads (at.at_alternative x) us (Stuck rest) → More alternative_turns ts (alternatives_of zs) (Stuck rest)
  alternatives_step_fail ts us rest zs e r = list_step_fail symbol.When (at.at_alternative x) with_alternative ts us rest (alternatives_of zs) e r

  pub alternatives_end : (ts : Tokens) (zs : List Alternative) → after symbol.When ts ≡ None → More alternative_turns ts (alternatives_of zs) (Got (alternatives_of zs) ts)
  alternatives_end ts zs e = list_end symbol.When (at.at_alternative x) with_alternative ts (alternatives_of zs) e

  -- exch {| exch} => stmts
  abbrev handler_rest : ℕ → List ExceptionChoice → Reader (List ExceptionChoice × List Statement)
  handler_rest m cs = read.statements x m >>= λ ss. got (cs, ss)

  pub handler_read : (ts us rest : Tokens) (cs : List ExceptionChoice) (ss : List Statement) → Reads (before symbol.Arrow (read.exceptions_by x)) ts (Got cs us) → length us < length ts → Reads (at.at_statements x) us (Got ss rest) → Reads (at.at_handler x) ts (Got (cs, ss) rest)
  handler_read ts us rest cs ss r l s = before_then symbol.Arrow (read.exceptions_by x) handler_rest ts us cs (Got (cs, ss) rest) r l (inner_then x (λ zs. (cs, zs)) s)

  pub handler_fail : (ts rest : Tokens) → Reads (before symbol.Arrow (read.exceptions_by x)) ts (Stuck rest) → Reads (at.at_handler x) ts (Stuck rest)
  handler_fail ts rest r = before_stuck symbol.Arrow (read.exceptions_by x) handler_rest ts rest r

  pub handler_empty : (ts us rest : Tokens) (cs : List ExceptionChoice) → Reads (before symbol.Arrow (read.exceptions_by x)) ts (Got cs us) → length us < length ts → Reads (at.at_statements x) us (Stuck rest) → Reads (at.at_handler x) ts (Stuck rest)
  handler_empty ts us rest cs r l s = before_then symbol.Arrow (read.exceptions_by x) handler_rest ts us cs (Stuck rest) r l (inner_stuck x (λ ss. got (cs, ss)) s)

  -- a list of them
  abbrev pub handler_turns : ℕ → Symbol → Token → Handlers → Turn Handlers
  handler_turns = turns symbol.When (at.at_handler x) with_handler

  abbrev handler_list : ℕ → Reader Handlers
  handler_list m = at.at_handler x m >>= λ a. repeat (handler_turns m) (suc m) (with_handler tree.no_handlers a)

  pub handler_list_begin : (ts us rest : Tokens) (a : Handler) → Skipped symbol.When ts us → Reads (at.at_handler x) us (Got (handler_parts a) rest) → length rest < length us → (q : Reading Handlers) → More handler_turns rest (handlers_of (a ∷ [])) q → Reads (at.at_handler_list x) ts q
  handler_list_begin ts us rest a w r l q f = word_then handler_list w (both (λ m a. repeat (handler_turns m) (suc m) (with_handler tree.no_handlers a)) r (omega arith) (record { by = λ m h. f.by m (suc m) h (omega arith) }))

  pub handler_list_none : (ts rest : Tokens) → expect symbol.When ts ≡ Stuck rest → Reads (at.at_handler_list x) ts (Stuck rest)
  handler_list_none ts rest e = no_word symbol.When handler_list e

  pub handler_list_fail : (ts us rest : Tokens) → Skipped symbol.When ts us → Reads (at.at_handler x) us (Stuck rest) → Reads (at.at_handler_list x) ts (Stuck rest)
  handler_list_fail ts us rest w r = word_then handler_list w (first_fails (λ m a. repeat (handler_turns m) (suc m) (with_handler tree.no_handlers a)) r)

  pub handler_list_step : (ts us rest : Tokens) (zs : List Handler) (a : Handler) → after symbol.When ts ≡ Some us → Reads (at.at_handler x) us (Got (handler_parts a) rest) → length rest < length us → (q : Reading Handlers) → More handler_turns rest (handlers_of (zs ++ a ∷ [])) q
      → More handler_turns ts (handlers_of zs) q
  handler_list_step ts us rest zs a e r l q f = list_step symbol.When (at.at_handler x) with_handler ts us rest (handlers_of zs) (handler_parts a) e r l q (subst (λ z. More handler_turns rest z q) (handler_list_push zs a) f)

  pub handler_list_step_fail : (ts us rest : Tokens) (zs : List Handler) → after symbol.When ts ≡ Some us → Reads (at.at_handler x) us (Stuck rest) → More handler_turns ts (handlers_of zs) (Stuck rest)
  handler_list_step_fail ts us rest zs e r = list_step_fail symbol.When (at.at_handler x) with_handler ts us rest (handlers_of zs) e r

  pub handler_list_end : (ts : Tokens) (zs : List Handler) → after symbol.When ts ≡ None → More handler_turns ts (handlers_of zs) (Got (handlers_of zs) ts)
  handler_list_end ts zs e = list_end symbol.When (at.at_handler x) with_handler ts (handlers_of zs) e

  -- [EXCEPTION handler {handler}]
  handlers_leave : (m : ℕ) (s : Symbol) (t : Token) → same s symbol.Exception ≡ false → read.handlers_turn x (read.statements x m) m s t ≡ Leave tree.no_handlers
  handlers_leave m symbol.Exception t h = cc
  handlers_leave m _ t h = refl

  abbrev handler_turn_on : ℕ → Symbol → Token → Turn Handlers
  handler_turn_on m = read.handlers_turn x (read.statements x m) m

  pub no_handlers : (ts : Tokens) → after symbol.Exception ts ≡ None → Reads (at.at_handlers x) ts (Got tree.no_handlers ts)
  no_handlers [] e = record { by = λ m h. refl }
  no_handlers (t ∷ us) e = leaves (Leave tree.no_handlers) handler_turn_on t us tree.no_handlers (λ m. handlers_leave m (symbol_of t.lexeme) t (after_none symbol.Exception t us e).is_not)

  pub some_handlers : (ts us : Tokens) (q : Reading Handlers) → after symbol.Exception ts ≡ Some us → opens x Exceptions ≡ true → Reads (at.at_handler_list x) us q → Reads (at.at_handlers x) ts q
  some_handlers ts us q e o f =
      let n = after_some symbol.Exception ts us e in
      rw n.here (takes (Leave tree.no_handlers) handler_turn_on n.t us (at.at_handler_list x) (λ m. ap (λ s. handler_turn_on m s n.t) n.is ∙ ap (λ b. provided b (Take (at.at_handler_list x m))) o) f)

  pub closed_handlers : (ts us : Tokens) → after symbol.Exception ts ≡ Some us → opens x Exceptions ≡ false → Reads (at.at_handlers x) ts (Stuck ts)
  closed_handlers ts us e o =
      let n = after_some symbol.Exception ts us e in
      rw n.here (refuses (Leave tree.no_handlers) handler_turn_on n.t us (λ m. ap (λ s. handler_turn_on m s n.t) n.is ∙ ap (λ b. provided b (Take (at.at_handler_list x m))) o))

pub ruleset alternatives_rules = (alternatives_begin, alternatives_none, alternatives_fail, alternatives_step, alternatives_step_fail, alternatives_end)

pub ruleset handler_list_rules = (handler_list_begin, handler_list_none, handler_list_fail, handler_list_step, handler_list_step_fail, handler_list_end)

pub ruleset handlers_rules = (no_handlers, some_handlers, closed_handlers)
