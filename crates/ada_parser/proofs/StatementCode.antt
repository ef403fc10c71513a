-- How statements and sequences of them are read, answer by answer.
use Rattle.std.proofs.Common.{◌≡◌, ℕ, suc, ◌<◌, ◌≤◌, true, false, cond, List, [], ◌∷◌, ◌++◌, length, ap, arith}
use Rattle.std.proofs.lemmas.Bool.{false≢true}
use Rattle.ada_lexer.specs.declared.token.Token.{Token}
use Rattle.ada_syntax.specs.StatementTree as tree
use Rattle.ada_syntax.specs.StatementTree.{Statement, Handlers, Handled}
use Rattle.ada_syntax.specs.StatementView.{statements_of}
use Rattle.expression_parser.specs.declared.symbol.Symbol.{Symbol}
use Rattle.expression_parser.specs.declared.extent.Extent.{Extent}
use Rattle.expression_parser.specs.Reading.{Tokens, Reading, Reader, Got, Stuck, Turn, Leave, Look, got, goes_on, ◌>>=◌, repeat}
use Rattle.expression_parser.specs.Shows.{Reads, More, next_is}
use Rattle.expression_parser.proofs.Comes.{got_bind, got_then}
use Rattle.expression_parser.proofs.Loops.{more_end, more_leave, more_look, more_look_stuck}
use Rattle.ada_parser.specs.StatementReading as read
use Rattle.ada_parser.specs.StatementDepth as at
use Rattle.ada_parser.proofs.Steps.{both, first_fails, done}

module _ (x : Extent) where
  -- stmt {stmt}
  abbrev pub statement_turns : ℕ → Symbol → Token → List Statement → Turn (List Statement)
  statement_turns m = read.statements_turn x (read.statements x m) m

  abbrev another : List Statement → ℕ → Reader (List Statement)
  another ss m = at.at_statement x m >>= λ s. got (ss ++ s ∷ [])

  pub statements_begin : (ts rest : Tokens) (s : Statement) → Reads (at.at_statement x) ts (Got s rest) → length rest < length ts → (q : Reading (List Statement)) → More statement_turns rest (s ∷ []) q → Reads (at.at_statements x) ts q
  statements_begin ts rest s r l q f = both (λ m z. repeat (statement_turns m) (suc m) (z ∷ [])) r (omega arith) (record { by = λ m h. f.by m (suc m) h (omega arith) })

  pub statements_fail : (ts rest : Tokens) → Reads (at.at_statement x) ts (Stuck rest) → Reads (at.at_statements x) ts (Stuck rest)
  statements_fail ts rest r = first_fails (λ m z. repeat (statement_turns m) (suc m) (z ∷ [])) r

  pub statements_step : (ts rest : Tokens) (ss : List Statement) (s : Statement) → next_is read.begins_statement ts ≡ true → Reads (at.at_statement x) ts (Got s rest) → length rest < length ts → (q : Reading (List Statement)) → More statement_turns rest (ss ++ s ∷ []) q
      → More statement_turns ts ss q
  statements_step [] rest ss s b r l q f = absurd (false≢true b)
  statements_step (t ∷ us) rest ss s b r l q f = more_look statement_turns ss (ss ++ s ∷ []) t us rest (another ss) q (λ m. ap (λ z. cond z (Look (another ss m)) (Leave ss)) b) (λ m h. got_then (λ z. ss ++ z ∷ []) (r.by m h)) l f

  pub statements_step_fail : (ts rest : Tokens) (ss : List Statement) → next_is read.begins_statement ts ≡ true → Reads (at.at_statement x) ts (Stuck rest) → More statement_turns ts ss (Stuck rest)
  statements_step_fail [] rest ss b r = absurd (false≢true b)
  statements_step_fail (t ∷ us) rest ss b r = more_look_stuck statement_turns ss t us rest (another ss) (λ m. ap (λ z. cond z (Look (another ss m)) (Leave ss)) b) (λ m h. ap (goes_on (λ z. got (ss ++ z ∷ []))) (r.by m h))

  pub statements_end : (ts : Tokens) (ss : List Statement) → next_is read.begins_statement ts ≡ false → More statement_turns ts ss (Got ss ts)
  statements_end [] ss b = more_end statement_turns ss
  statements_end (t ∷ us) ss b = more_leave statement_turns ss t us (λ m. ap (λ z. cond z (Look (another ss m)) (Leave ss)) b)

  -- stmts [handlers]
  abbrev after_statements : ℕ → List Statement → Reader Handled
  after_statements m ss = at.at_handlers x m >>= λ hs. got (tree.handled (statements_of ss) hs)

  handled_then : {ss : List Statement} {ts us : Tokens} {q : Reading Handled} → Reads (at.at_statements x) ts (Got ss us) → length us < length ts → Reads (λ m. after_statements m ss) us q → Reads (at.at_handled x) ts q
  handled_then r l f = record { by = λ m h. got_bind (after_statements (suc m)) (r.by m h) (f.by (suc m) (omega arith)) }

  pub handled_read : (ts us rest : Tokens) (ss : List Statement) (hs : Handlers) → Reads (at.at_statements x) ts (Got ss us) → length us < length ts → Reads (at.at_handlers x) us (Got hs rest) → length rest ≤ length us → Reads (at.at_handled x) ts (Got (tree.handled (statements_of ss) hs) rest)
  handled_read ts us rest ss hs r l s k = handled_then r l (both (λ m zs. got (tree.handled (statements_of ss) zs)) s k (done _ rest))

  pub handled_fail : (ts rest : Tokens) → Reads (at.at_statements x) ts (Stuck rest) → Reads (at.at_handled x) ts (Stuck rest)
  handled_fail ts rest r = record { by = λ m h. ap (goes_on (after_statements (suc m))) (r.by m h) }

  pub handlers_fail : (ts us rest : Tokens) (ss : List Statement) → Reads (at.at_statements x) ts (Got ss us) → length us < length ts → Reads (at.at_handlers x) us (Stuck rest) → Reads (at.at_handled x) ts (Stuck rest)
  handlers_fail ts us rest ss r l s = handled_then r l (first_fails (λ m zs. got (tree.handled (statements_of ss) zs)) s)

pub ruleset statements_rules = (statements_begin, statements_fail, statements_step, statements_step_fail, statements_end)
