-- How choices and statements without statements in them are read, answer by answer.
use Rattle.std.proofs.Common.{◌≡◌, ℕ, suc, ◌<◌, ◌≤◌, true, false, List, [], ◌∷◌, ◌++◌, length, Option, Some, None, refl, ap, arith}
use Rattle.cov_base.specs.declared.position.Pos.{Pos}
use Rattle.ada_lexer.specs.declared.token.Token.{Token}
use Rattle.ada_syntax.specs.Tree.{Expr, Name}
use Rattle.ada_syntax.specs.StatementTree as tree
use Rattle.ada_syntax.specs.declared.declaration.Pragma.{Pragma}
use Rattle.ada_syntax.specs.declared.statement.Choice.{Choice}
use Rattle.ada_syntax.specs.declared.statement.Choice.TheVariants as choice
use Rattle.ada_syntax.specs.declared.statement.ExceptionChoice.{ExceptionChoice}
use Rattle.ada_syntax.specs.declared.statement.ExceptionChoice.TheVariants as exception
use Rattle.ada_syntax.specs.declared.statement.Direction.TheVariants.{Forward, Reverse}
use Rattle.expression_parser.specs.declared.symbol.Symbol.{Symbol}
use Rattle.expression_parser.specs.declared.symbol.Symbol.TheVariants as symbol
use Rattle.expression_parser.specs.declared.extent.Extent.{Extent}
use Rattle.expression_parser.specs.declared.extent.Extent.TheVariants.{Subprograms}
use Rattle.expression_parser.specs.Symbols.{symbol_of, same, Is}
use Rattle.expression_parser.specs.Extents.{opens}
use Rattle.expression_parser.specs.Reading.{Tokens, Reading, Reader, Got, Stuck, Refuse, Leave, Look, got, ◌>>=◌, turned, provided, expect, skip, repeat}
use Rattle.expression_parser.specs.Depth as at
use Rattle.expression_parser.specs.Shows.{Reads, More, Skipped, after}
use Rattle.expression_parser.proofs.NameCode.{after_some, after_none}
use Rattle.declaration_parser.specs.DeclarationReading.{pragma_by}
use Rattle.ada_parser.specs.StatementReading as read
use Rattle.ada_parser.specs.StatementDepth as depth
use Rattle.ada_parser.proofs.Steps.{both, first_fails, word_then, no_word, done, takes, looks, leaves, refuses, turns, list_step, list_step_fail, list_end}

-- [REVERSE]
pub backward : (ts us : Tokens) → after symbol.Reverse ts ≡ Some us → read.direction_by ts ≡ Got Reverse us
backward ts us e = let n = after_some symbol.Reverse ts us e in rw n.here (ap (λ s. turned (read.direction_turn s n.t) n.t us) n.is)

forward_at : (s : Symbol) (t : Token) → same s symbol.Reverse ≡ false → read.direction_turn s t ≡ Leave Forward
forward_at symbol.Reverse t h = cc
forward_at _ t h = refl

pub forward : (ts : Tokens) → after symbol.Reverse ts ≡ None → read.direction_by ts ≡ Got Forward ts
forward [] e = refl
forward (t ∷ us) e = ap (λ z. turned z t us) (forward_at (symbol_of t.lexeme) t (after_none symbol.Reverse t us e).is_not)

-- NULL ;
pub null_read : (p : Pos) (ts rest : Tokens) → Skipped symbol.Semicolon ts rest → Reads (depth.at_null p) ts (Got (tree.null p) rest)
null_read p ts rest k = word_then (λ m. got (tree.null p)) k (done (tree.null p) rest)

pub null_open : (p : Pos) (ts rest : Tokens) → expect symbol.Semicolon ts ≡ Stuck rest → Reads (depth.at_null p) ts (Stuck rest)
null_open p ts rest e = no_word symbol.Semicolon (λ m. got (tree.null p)) e

module _ (x : Extent) where
  -- simple [.. simple] | OTHERS
  pub no_choice : Reads (read.choice_by x) [] (Stuck [])
  no_choice = record { by = λ m h. refl }

  pub other_choice : (t : Token) (us : Tokens) → Is symbol.Others t → Reads (read.choice_by x) (t ∷ us) (Got (choice.Others t.pos) us)
  other_choice t us i = takes Refuse (read.choice_turn x) t us (λ m. got (choice.Others t.pos)) (λ m. ap (λ s. read.choice_turn x m s t) i) (done (choice.Others t.pos) us)

  simple_at : (m : ℕ) (s : Symbol) (t : Token) → (s ≡ symbol.Others → ⊥) → read.choice_turn x m s t ≡ Look (at.at_simple x m >>= read.choice_rest x m)
  simple_at m symbol.Others t h = absurd (h refl)
  simple_at m _ t h = refl

  value_choice : (t : Token) (us : Tokens) (q : Reading Choice) → (symbol_of t.lexeme ≡ symbol.Others → ⊥) → Reads (λ m. at.at_simple x m >>= read.choice_rest x m) (t ∷ us) q → Reads (read.choice_by x) (t ∷ us) q
  value_choice t us q h f = looks Refuse (read.choice_turn x) t us (λ m. at.at_simple x m >>= read.choice_rest x m) (λ m. simple_at m (symbol_of t.lexeme) t h) f

  pub choice_fail : (t : Token) (us rest : Tokens) → (symbol_of t.lexeme ≡ symbol.Others → ⊥) → Reads (at.at_simple x) (t ∷ us) (Stuck rest) → Reads (read.choice_by x) (t ∷ us) (Stuck rest)
  choice_fail t us rest h r = value_choice t us (Stuck rest) h (first_fails (read.choice_rest x) r)

  rest_at : (m : ℕ) (a : Expr) (s : Symbol) (t : Token) → same s symbol.DoubleDot ≡ false → read.choice_rest_turn x m a s t ≡ Leave (choice.Value a)
  rest_at m a symbol.DoubleDot t h = cc
  rest_at m a _ t h = refl

  value_rest : (a : Expr) (ts : Tokens) → after symbol.DoubleDot ts ≡ None → Reads (λ m. read.choice_rest x m a) ts (Got (choice.Value a) ts)
  value_rest a [] e = record { by = λ m h. refl }
  value_rest a (t ∷ us) e = leaves (Leave (choice.Value a)) (λ m. read.choice_rest_turn x m a) t us (choice.Value a) (λ m. rest_at m a (symbol_of t.lexeme) t (after_none symbol.DoubleDot t us e).is_not)

  abbrev ranged : Expr → ℕ → Reader Choice
  ranged a m = at.at_simple x m >>= λ b. got (choice.Range (record { low = a; high = b }))

  range_rest : (a : Expr) (ts us : Tokens) (q : Reading Choice) → after symbol.DoubleDot ts ≡ Some us → Reads (ranged a) us q → Reads (λ m. read.choice_rest x m a) ts q
  range_rest a ts us q e f = let n = after_some symbol.DoubleDot ts us e in rw n.here (takes (Leave (choice.Value a)) (λ m. read.choice_rest_turn x m a) n.t us (ranged a) (λ m. ap (λ s. read.choice_rest_turn x m a s n.t) n.is) f)

  pub choice_value : (t : Token) (us rest : Tokens) (a : Expr) → (symbol_of t.lexeme ≡ symbol.Others → ⊥) → Reads (at.at_simple x) (t ∷ us) (Got a rest) → length rest < length (t ∷ us) → after symbol.DoubleDot rest ≡ None
      → Reads (read.choice_by x) (t ∷ us) (Got (choice.Value a) rest)
  choice_value t us rest a h r l e = value_choice t us (Got (choice.Value a) rest) h (both (read.choice_rest x) r (omega arith) (value_rest a rest e))

  pub choice_range : (t : Token) (us vs ws rest : Tokens) (a b : Expr) → (symbol_of t.lexeme ≡ symbol.Others → ⊥) → Reads (at.at_simple x) (t ∷ us) (Got a vs) → length vs < length (t ∷ us) → after symbol.DoubleDot vs ≡ Some ws → Reads (at.at_simple x) ws (Got b rest)
      → length rest < length ws → Reads (read.choice_by x) (t ∷ us) (Got (choice.Range (record { low = a; high = b })) rest)
  choice_range t us vs ws rest a b h r l e s k = value_choice t us _ h (both (read.choice_rest x) r (omega arith) (range_rest a vs ws _ e (both (λ m z. got (choice.Range (record { low = a; high = z }))) s (omega arith) (done _ rest))))

  pub choice_range_fail : (t : Token) (us vs ws rest : Tokens) (a : Expr) → (symbol_of t.lexeme ≡ symbol.Others → ⊥) → Reads (at.at_simple x) (t ∷ us) (Got a vs) → length vs < length (t ∷ us) → after symbol.DoubleDot vs ≡ Some ws → Reads (at.at_simple x) ws (Stuck rest)
      → Reads (read.choice_by x) (t ∷ us) (Stuck rest)
  choice_range_fail t us vs ws rest a h r l e s = value_choice t us _ h (both (read.choice_rest x) r (omega arith) (range_rest a vs ws _ e (first_fails (λ m z. got (choice.Range (record { low = a; high = z }))) s)))

  pub choices_begin : (ts rest : Tokens) (c : Choice) → Reads (read.choice_by x) ts (Got c rest) → length rest < length ts → (q : Reading (List Choice)) → More (turns symbol.Bar (read.choice_by x) read.pushed) rest (c ∷ []) q → Reads (read.choices_by x) ts q
  choices_begin ts rest c r l q f = both (λ m c. repeat (turns symbol.Bar (read.choice_by x) read.pushed m) (suc m) (c ∷ [])) r (omega arith) (record { by = λ m h. f.by m (suc m) h (omega arith) })

  pub choices_fail : (ts rest : Tokens) → Reads (read.choice_by x) ts (Stuck rest) → Reads (read.choices_by x) ts (Stuck rest)
  choices_fail ts rest r = first_fails (λ m c. repeat (turns symbol.Bar (read.choice_by x) read.pushed m) (suc m) (c ∷ [])) r

  pub choices_step : (ts us rest : Tokens) (cs : List Choice) (c : Choice) → after symbol.Bar ts ≡ Some us → Reads (read.choice_by x) us (Got c rest) → length rest < length us → (q : Reading (List Choice))
      → More (turns symbol.Bar (read.choice_by x) read.pushed) rest (cs ++ c ∷ []) q → More (turns symbol.Bar (read.choice_by x) read.pushed) ts cs q
  choices_step = list_step symbol.Bar (read.choice_by x) read.pushed

  pub choices_step_fail : (ts us rest : Tokens) (cs : List Choice) → after symbol.Bar ts ≡ Some us → Reads (read.choice_by x) us (Stuck rest) → More (turns symbol.Bar (read.choice_by x) read.pushed) ts cs (Stuck rest)
  choices_step_fail = list_step_fail symbol.Bar (read.choice_by x) read.pushed

  pub choices_end : (ts : Tokens) (cs : List Choice) → after symbol.Bar ts ≡ None → More (turns symbol.Bar (read.choice_by x) read.pushed) ts cs (Got cs ts)
  choices_end = list_end symbol.Bar (read.choice_by x) read.pushed

  -- name | OTHERS
  pub no_exception : Reads (read.exception_by x) [] (Stuck [])
  no_exception = record { by = λ m h. refl }

  pub other_exception : (t : Token) (us : Tokens) → Is symbol.Others t → Reads (read.exception_by x) (t ∷ us) (Got (exception.Others t.pos) us)
  other_exception t us i = takes Refuse (read.exception_turn x) t us (λ m. got (exception.Others t.pos)) (λ m. ap (λ s. read.exception_turn x m s t) i) (done (exception.Others t.pos) us)

  name_at : (m : ℕ) (s : Symbol) (t : Token) → (s ≡ symbol.Others → ⊥) → read.exception_turn x m s t ≡ Look (at.at_name x m >>= λ n. got (exception.Named n))
  name_at m symbol.Others t h = absurd (h refl)
  name_at m _ t h = refl

  pub exception_name : (t : Token) (us rest : Tokens) (n : Name) → (symbol_of t.lexeme ≡ symbol.Others → ⊥) → Reads (at.at_name x) (t ∷ us) (Got n rest) → length rest < length (t ∷ us) → Reads (read.exception_by x) (t ∷ us) (Got (exception.Named n) rest)
  exception_name t us rest n h r l = looks Refuse (read.exception_turn x) t us (λ m. at.at_name x m >>= λ n. got (exception.Named n)) (λ m. name_at m (symbol_of t.lexeme) t h) (both (λ m z. got (exception.Named z)) r (omega arith) (done (exception.Named n) rest))

  pub exception_fail : (t : Token) (us rest : Tokens) → (symbol_of t.lexeme ≡ symbol.Others → ⊥) → Reads (at.at_name x) (t ∷ us) (Stuck rest) → Reads (read.exception_by x) (t ∷ us) (Stuck rest)
  exception_fail t us rest h r = looks Refuse (read.exception_turn x) t us (λ m. at.at_name x m >>= λ n. got (exception.Named n)) (λ m. name_at m (symbol_of t.lexeme) t h) (first_fails (λ m z. got (exception.Named z)) r)

  pub exceptions_begin : (ts rest : Tokens) (c : ExceptionChoice) → Reads (read.exception_by x) ts (Got c rest) → length rest < length ts → (q : Reading (List ExceptionChoice)) → More (turns symbol.Bar (read.exception_by x) read.pushed) rest (c ∷ []) q → Reads (read.exceptions_by x) ts q
  exceptions_begin ts rest c r l q f = both (λ m c. repeat (turns symbol.Bar (read.exception_by x) read.pushed m) (suc m) (c ∷ [])) r (omega arith) (record { by = λ m h. f.by m (suc m) h (omega arith) })

  pub exceptions_fail : (ts rest : Tokens) → Reads (read.exception_by x) ts (Stuck rest) → Reads (read.exceptions_by x) ts (Stuck rest)
  exceptions_fail ts rest r = first_fails (λ m c. repeat (turns symbol.Bar (read.exception_by x) read.pushed m) (suc m) (c ∷ [])) r

  pub exceptions_step : (ts us rest : Tokens) (cs : List ExceptionChoice) (c : ExceptionChoice) → after symbol.Bar ts ≡ Some us → Reads (read.exception_by x) us (Got c rest) → length rest < length us → (q : Reading (List ExceptionChoice))
      → More (turns symbol.Bar (read.exception_by x) read.pushed) rest (cs ++ c ∷ []) q → More (turns symbol.Bar (read.exception_by x) read.pushed) ts cs q
  exceptions_step = list_step symbol.Bar (read.exception_by x) read.pushed

  pub exceptions_step_fail : (ts us rest : Tokens) (cs : List ExceptionChoice) → after symbol.Bar ts ≡ Some us → Reads (read.exception_by x) us (Stuck rest) → More (turns symbol.Bar (read.exception_by x) read.pushed) ts cs (Stuck rest)
  exceptions_step_fail = list_step_fail symbol.Bar (read.exception_by x) read.pushed

  pub exceptions_end : (ts : Tokens) (cs : List ExceptionChoice) → after symbol.Bar ts ≡ None → More (turns symbol.Bar (read.exception_by x) read.pushed) ts cs (Got cs ts)
  exceptions_end = list_end symbol.Bar (read.exception_by x) read.pushed

  -- a pragma
  pub pragma_read : (p : Pos) (ts rest : Tokens) (a : Pragma) → Reads (pragma_by x) ts (Got a rest) → length rest < length ts → Reads (depth.at_exemption x p) ts (Got (tree.exemption p a) rest)
  pragma_read p ts rest a r l = both (λ m z. got (tree.exemption p z)) r (omega arith) (done (tree.exemption p a) rest)

  pub pragma_fail : (p : Pos) (ts rest : Tokens) → Reads (pragma_by x) ts (Stuck rest) → Reads (depth.at_exemption x p) ts (Stuck rest)
  pragma_fail p ts rest r = first_fails (λ m z. got (tree.exemption p z)) r

  -- [WHEN expr]
  condition_at : (m : ℕ) (s : Symbol) (t : Token) → same s symbol.When ≡ false → read.condition_turn x m s t ≡ Leave None
  condition_at m symbol.When t h = cc
  condition_at m _ t h = refl

  pub no_condition : (ts : Tokens) → after symbol.When ts ≡ None → Reads (read.condition_by x) ts (Got None ts)
  no_condition [] e = record { by = λ m h. refl }
  no_condition (t ∷ us) e = leaves (Leave None) (read.condition_turn x) t us None (λ m. condition_at m (symbol_of t.lexeme) t (after_none symbol.When t us e).is_not)

  abbrev given : ℕ → Reader (Option Expr)
  given m = at.at_expr x m >>= λ e. got (Some e)

  when : (ts us : Tokens) (q : Reading (Option Expr)) → after symbol.When ts ≡ Some us → Reads given us q → Reads (read.condition_by x) ts q
  when ts us q e f = let n = after_some symbol.When ts us e in rw n.here (takes (Leave None) (read.condition_turn x) n.t us given (λ m. ap (λ s. read.condition_turn x m s n.t) n.is) f)

  pub a_condition : (ts us rest : Tokens) (e : Expr) → after symbol.When ts ≡ Some us → Reads (at.at_expr x) us (Got e rest) → length rest < length us → Reads (read.condition_by x) ts (Got (Some e) rest)
  a_condition ts us rest e a r l = when ts us _ a (both (λ m z. got (Some z)) r (omega arith) (done (Some e) rest))

  pub condition_fail : (ts us rest : Tokens) → after symbol.When ts ≡ Some us → Reads (at.at_expr x) us (Stuck rest) → Reads (read.condition_by x) ts (Stuck rest)
  condition_fail ts us rest a r = when ts us _ a (first_fails (λ m z. got (Some z)) r)

  pub exit_read : (p : Pos) (ts us rest : Tokens) (e : Option Expr) → Reads (read.condition_by x) ts (Got e us) → length us ≤ length ts → Skipped symbol.Semicolon us rest → Reads (depth.at_exit x p) ts (Got (tree.exit p e) rest)
  exit_read p ts us rest e r l k = both (λ m z. skip symbol.Semicolon (got (tree.exit p z))) r l (word_then (λ m. got (tree.exit p e)) k (done _ rest))

  pub exit_fail : (p : Pos) (ts rest : Tokens) → Reads (read.condition_by x) ts (Stuck rest) → Reads (depth.at_exit x p) ts (Stuck rest)
  exit_fail p ts rest r = first_fails (λ m z. skip symbol.Semicolon (got (tree.exit p z))) r

  pub exit_open : (p : Pos) (ts us rest : Tokens) (e : Option Expr) → Reads (read.condition_by x) ts (Got e us) → length us ≤ length ts → expect symbol.Semicolon us ≡ Stuck rest → Reads (depth.at_exit x p) ts (Stuck rest)
  exit_open p ts us rest e r l k = both (λ m z. skip symbol.Semicolon (got (tree.exit p z))) r l (no_word symbol.Semicolon (λ m. got (tree.exit p e)) k)

  -- [expr] before a semicolon
  pub no_result_at_end : Reads (read.result_by x) [] (Got None [])
  no_result_at_end = record { by = λ m h. refl }

  pub no_result : (t : Token) (us : Tokens) → Is symbol.Semicolon t → Reads (read.result_by x) (t ∷ us) (Got None (t ∷ us))
  no_result t us i = leaves (Leave None) (read.result_turn x) t us None (λ m. ap (λ s. read.result_turn x m s t) i)

  result_at : (b : _) (m : ℕ) (s : Symbol) (t : Token) → (s ≡ symbol.Semicolon → ⊥) → opens x Subprograms ≡ b → read.result_turn x m s t ≡ provided b (Look (given m))
  result_at b m symbol.Semicolon t h o = absurd (h refl)
  result_at b m _ t h o = ap (λ z. provided z (Look (given m))) o

  pub a_result : (t : Token) (us rest : Tokens) (e : Expr) → (symbol_of t.lexeme ≡ symbol.Semicolon → ⊥) → opens x Subprograms ≡ true → Reads (at.at_expr x) (t ∷ us) (Got e rest) → length rest < length (t ∷ us) → Reads (read.result_by x) (t ∷ us) (Got (Some e) rest)
  a_result t us rest e h o r l = looks (Leave None) (read.result_turn x) t us given (λ m. result_at true m (symbol_of t.lexeme) t h o) (both (λ m z. got (Some z)) r (omega arith) (done (Some e) rest))

  pub result_fail : (t : Token) (us rest : Tokens) → (symbol_of t.lexeme ≡ symbol.Semicolon → ⊥) → opens x Subprograms ≡ true → Reads (at.at_expr x) (t ∷ us) (Stuck rest) → Reads (read.result_by x) (t ∷ us) (Stuck rest)
  result_fail t us rest h o r = looks (Leave None) (read.result_turn x) t us given (λ m. result_at true m (symbol_of t.lexeme) t h o) (first_fails (λ m z. got (Some z)) r)

  pub result_closed : (t : Token) (us : Tokens) → (symbol_of t.lexeme ≡ symbol.Semicolon → ⊥) → opens x Subprograms ≡ false → Reads (read.result_by x) (t ∷ us) (Stuck (t ∷ us))
  result_closed t us h o = refuses (Leave None) (read.result_turn x) t us (λ m. result_at false m (symbol_of t.lexeme) t h o)

  pub return_read : (p : Pos) (ts us rest : Tokens) (e : Option Expr) → Reads (read.result_by x) ts (Got e us) → length us ≤ length ts → Skipped symbol.Semicolon us rest → Reads (depth.at_return x p) ts (Got (tree.returns p e) rest)
  return_read p ts us rest e r l k = both (λ m z. skip symbol.Semicolon (got (tree.returns p z))) r l (word_then (λ m. got (tree.returns p e)) k (done _ rest))

  pub return_fail : (p : Pos) (ts rest : Tokens) → Reads (read.result_by x) ts (Stuck rest) → Reads (depth.at_return x p) ts (Stuck rest)
  return_fail p ts rest r = first_fails (λ m z. skip symbol.Semicolon (got (tree.returns p z))) r

  pub return_open : (p : Pos) (ts us rest : Tokens) (e : Option Expr) → Reads (read.result_by x) ts (Got e us) → length us ≤ length ts → expect symbol.Semicolon us ≡ Stuck rest → Reads (depth.at_return x p) ts (Stuck rest)
  return_open p ts us rest e r l k = both (λ m z. skip symbol.Semicolon (got (tree.returns p z))) r l (no_word symbol.Semicolon (λ m. got (tree.returns p e)) k)

  -- [name] before a semicolon
  pub not_raised_at_end : Reads (read.raised_by x) [] (Got None [])
  not_raised_at_end = record { by = λ m h. refl }

  pub not_raised : (t : Token) (us : Tokens) → Is symbol.Semicolon t → Reads (read.raised_by x) (t ∷ us) (Got None (t ∷ us))
  not_raised t us i = leaves (Leave None) (read.raised_turn x) t us None (λ m. ap (λ s. read.raised_turn x m s t) i)

  abbrev called_so : ℕ → Reader (Option Name)
  called_so m = at.at_name x m >>= λ n. got (Some n)

  raised_at : (m : ℕ) (s : Symbol) (t : Token) → (s ≡ symbol.Semicolon → ⊥) → read.raised_turn x m s t ≡ Look (called_so m)
  raised_at m symbol.Semicolon t h = absurd (h refl)
  raised_at m _ t h = refl

  pub raised_name : (t : Token) (us rest : Tokens) (n : Name) → (symbol_of t.lexeme ≡ symbol.Semicolon → ⊥) → Reads (at.at_name x) (t ∷ us) (Got n rest) → length rest < length (t ∷ us) → Reads (read.raised_by x) (t ∷ us) (Got (Some n) rest)
  raised_name t us rest n h r l = looks (Leave None) (read.raised_turn x) t us called_so (λ m. raised_at m (symbol_of t.lexeme) t h) (both (λ m z. got (Some z)) r (omega arith) (done (Some n) rest))

  pub raised_fail : (t : Token) (us rest : Tokens) → (symbol_of t.lexeme ≡ symbol.Semicolon → ⊥) → Reads (at.at_name x) (t ∷ us) (Stuck rest) → Reads (read.raised_by x) (t ∷ us) (Stuck rest)
  raised_fail t us rest h r = looks (Leave None) (read.raised_turn x) t us called_so (λ m. raised_at m (symbol_of t.lexeme) t h) (first_fails (λ m z. got (Some z)) r)

  pub raise_read : (p : Pos) (ts us rest : Tokens) (n : Option Name) → Reads (read.raised_by x) ts (Got n us) → length us ≤ length ts → Skipped symbol.Semicolon us rest → Reads (depth.at_raise x p) ts (Got (tree.raise p n) rest)
  raise_read p ts us rest n r l k = both (λ m z. skip symbol.Semicolon (got (tree.raise p z))) r l (word_then (λ m. got (tree.raise p n)) k (done _ rest))

  pub raise_fail : (p : Pos) (ts rest : Tokens) → Reads (read.raised_by x) ts (Stuck rest) → Reads (depth.at_raise x p) ts (Stuck rest)
  raise_fail p ts rest r = first_fails (λ m z. skip symbol.Semicolon (got (tree.raise p z))) r

  pub raise_open : (p : Pos) (ts us rest : Tokens) (n : Option Name) → Reads (read.raised_by x) ts (Got n us) → length us ≤ length ts → expect symbol.Semicolon us ≡ Stuck rest → Reads (depth.at_raise x p) ts (Stuck rest)
  raise_open p ts us rest n r l k = both (λ m z. skip symbol.Semicolon (got (tree.raise p z))) r l (no_word symbol.Semicolon (λ m. got (tree.raise p n)) k)

pub ruleset direction_rules = (backward, forward)

pub ruleset choice_rules = (no_choice, other_choice, choice_fail, choice_value, choice_range, choice_range_fail)

pub ruleset choices_rules = (choices_begin, choices_fail, choices_step, choices_step_fail, choices_end)

pub ruleset exception_rules = (no_exception, other_exception, exception_name, exception_fail)

pub ruleset exceptions_rules = (exceptions_begin, exceptions_fail, exceptions_step, exceptions_step_fail, exceptions_end)

pub ruleset pragma_rules = (pragma_read, pragma_fail)

pub ruleset condition_rules = (no_condition, a_condition, condition_fail)

pub ruleset result_rules = (no_result_at_end, no_result, a_result, result_fail, result_closed)

pub ruleset raised_rules = (not_raised_at_end, not_raised, raised_name, raised_fail)
