-- What derives tokens is read of them.
use Rattle.std.proofs.Common.{◌≡◌, ℕ, zero, suc, ◌<◌, ◌≤◌, Bool, true, false, cond, List, [], ◌∷◌, ◌++◌, length, Option, Some, None, refl, ap, sym, ◌∙◌, subst, arith}
use Rattle.cov_base.specs.declared.position.Pos.{Pos}
use Rattle.ada_lexer.specs.declared.token.Token.{Token}
use Rattle.ada_syntax.specs.Tree.{Expr, Name, name_pos}
use Rattle.ada_syntax.specs.StatementTree as tree
use Rattle.ada_syntax.specs.StatementTree.{Statement, Branches, Alternatives, Handlers, Handled}
use Rattle.ada_syntax.specs.StatementView.{statements_of}
use Rattle.ada_syntax.specs.declared.declaration.Declaration.{Declaration}
use Rattle.ada_syntax.specs.declared.declaration.DiscreteRange.{DiscreteRange}
use Rattle.ada_syntax.specs.declared.declaration.Initial.{Initial}
use Rattle.ada_syntax.specs.declared.declaration.Pragma.{Pragma}
use Rattle.ada_syntax.specs.declared.statement.Choice.{Choice}
use Rattle.ada_syntax.specs.declared.statement.Choice.TheVariants as choice
use Rattle.ada_syntax.specs.declared.statement.ExceptionChoice.{ExceptionChoice}
use Rattle.ada_syntax.specs.declared.statement.ExceptionChoice.TheVariants as exception
use Rattle.ada_syntax.specs.declared.statement.LoopScheme.{LoopScheme}
use Rattle.ada_syntax.specs.declared.statement.LoopScheme.TheVariants.{Forever, While, For}
use Rattle.ada_syntax.specs.declared.statement.Direction.{Direction}
use Rattle.ada_syntax.specs.declared.statement.Direction.TheVariants.{Forward}
use Rattle.expression_parser.specs.declared.symbol.Symbol.{Symbol}
use Rattle.expression_parser.specs.declared.symbol.Symbol.TheVariants as symbol
use Rattle.expression_parser.specs.declared.extent.Extent.{Extent}
use Rattle.expression_parser.specs.declared.extent.Extent.TheVariants.{Objects, Decisions, Types, Subprograms, Exceptions}
use Rattle.expression_parser.specs.Symbols.{symbol_of, same, Is, identifier_of}
use Rattle.expression_parser.specs.Extents.{opens}
use Rattle.expression_parser.specs.Reading.{Tokens, Reading, Reader, Got, Turn, Refuse, Leave, Take, Look, got, ◌>>=◌, turned, provided, skip, repeat}
use Rattle.expression_parser.specs.Expressions.{IsName}
use Rattle.expression_parser.specs.Depth.{at_name, at_expr, at_simple}
use Rattle.expression_parser.specs.Shows.{next_is}
use Rattle.expression_parser.proofs.Comes.{Ends, got_bind, got_then, on_symbol, Comes, Leaves, comes_leave, comes_look}
use Rattle.expression_parser.proofs.ExpressionLengths.{shorter, name_shorter}
use Rattle.expression_parser.proofs.ExpressionSound.{first_of_name}
use Rattle.expression_parser.proofs.ExpressionComplete.{name_first, first_token, Begins, IsNamed}
use Rattle.declaration_parser.specs.Subtypes.{IsRange, a_mark, a_range as range_between, low_and_high}
use Rattle.declaration_parser.specs.Declarations.{IsPragma, a_pragma}
use Rattle.declaration_parser.specs.SubtypeReading.{initial_by, range_by}
use Rattle.ada_parser.specs.Words.{Word, word, Closes, closes}
use Rattle.ada_parser.specs.Lists.{listed_turn, closing}
use Rattle.ada_parser.specs.Trees.{with_branch, with_alternative, with_handler}
use Rattle.ada_parser.specs.Statements.{IsChoice, a_value, a_range, other_values, AreChoices, one_choice, more_choices, IsException, a_named, other_exceptions, AreExceptions, one_exception, more_exceptions, HasCondition, no_condition, a_condition, HasResult, no_result, a_result, HasException, no_exception, an_exception, IsDirection, forward, backward, IsStatement, a_null, an_assignment, a_call, an_exemption, an_if, a_case, an_endless_loop, a_while, a_for, an_exit, a_return, a_raise, a_block, a_declaring_block, AreStatements, one_statement, more_statements, IsBranch, a_branch, AreBranches, no_branches, more_branches, HasElse, no_else, an_else, IsAlternative, an_alternative, AreAlternatives, one_alternative, more_alternatives, IsLoop, a_loop, IsHandler, a_handler, AreHandlers, one_handler, more_handlers, HasHandlers, no_handlers, some_handlers, IsHandled, a_sequence}
use Rattle.ada_parser.specs.StatementReading as read
use Rattle.ada_parser.specs.StatementDepth as at
use Rattle.ada_parser.proofs.Below.{ShortersBelow, CompleteBelow, shorters_below, complete_below}
use Rattle.ada_parser.proofs.Complete.{got_word, got_identifier, got_closing, ends_word, next_word, not_first, not_next, name_begins, list_take, list_leave, name_complete, simple_complete, whole_complete}
use Rattle.ada_parser.proofs.StatementLengths.{word_shorter, identifier_shorter, direction_shorter, choice_shorter, choices_shorter, exception_shorter, exceptions_shorter, statement_shorter, statements_shorter, branch_shorter, branches_shorter, alternative_shorter, alternatives_shorter, handler_shorter, handler_list_shorter}

-- no statement begins here
pub record Stops (ts : Tokens) : Type 0 where
  pub by : next_is read.begins_statement ts ≡ false

pub stops_word : {s : Symbol} {ts us : Tokens} → Word s ts us → read.begins_statement s ≡ false → Stops ts
stops_word w h = record { by = next_word read.begins_statement w h }

-- a choice ends here
record EndsChoice (ts : Tokens) : Type 0 where
  pub ends : Ends 2 ts
  pub no_dots : next_is (λ z. same z symbol.DoubleDot) ts ≡ false

-- a word that is no REVERSE, and no range begins with one
forward_at : (s : Symbol) (t : Token) → same s symbol.Reverse ≡ false → read.direction_turn s t ≡ Leave Forward
forward_at symbol.Reverse t h = cc
forward_at _ t h = refl

forward_read : (ts : Tokens) → next_is (λ z. same z symbol.Reverse) ts ≡ false → read.direction_by ts ≡ Got Forward ts
forward_read [] h = refl
forward_read (t ∷ us) h = ap (λ z. turned z t us) (forward_at (symbol_of t.lexeme) t h)

direction_complete : {d : Direction} {ts us : Tokens} → IsDirection d ts us → next_is (λ z. same z symbol.Reverse) us ≡ false → read.direction_by ts ≡ Got d us
direction_complete (forward {ts = ts}) h = forward_read ts h
direction_complete (backward (word {t = t} {rest = us} i)) h = on_symbol (Leave Forward) read.direction_turn symbol.Reverse t us i

module _ (x : Extent) (m : ℕ) where
  -- choices
  no_second : (a : Expr) (s : Symbol) (t : Token) → same s symbol.DoubleDot ≡ false → read.choice_rest_turn x m a s t ≡ Leave (choice.Value a)
  no_second a symbol.DoubleDot t h = cc
  no_second a _ t h = refl

  value_read : (a : Expr) (ts : Tokens) → next_is (λ z. same z symbol.DoubleDot) ts ≡ false → read.choice_rest x m a ts ≡ Got (choice.Value a) ts
  value_read a [] h = refl
  value_read a (t ∷ us) h = ap (λ z. turned z t us) (no_second a (symbol_of t.lexeme) t h)

  range_read : (a b : Expr) {us vs : Tokens} (rest : Tokens) → Word symbol.DoubleDot us vs → at_simple x m vs ≡ Got b rest → read.choice_rest x m a us ≡ Got (choice.Range (record { low = a; high = b })) rest
  range_read a b rest (word {t = t} {rest = vs} i) e = on_symbol (Leave (choice.Value a)) (read.choice_rest_turn x m a) symbol.DoubleDot t vs i ∙ got_then (λ z. choice.Range (record { low = a; high = z })) e

  -- an expression does not begin with OTHERS
  no_others : (s : Symbol) (t : Token) → same s symbol.Others ≡ false → read.choice_turn x m s t ≡ Look (at_simple x m >>= read.choice_rest x m)
  no_others symbol.Others t h = cc
  no_others _ t h = refl

  choice_looks : {p : Symbol → Bool} {ts : Tokens} (b : Begins p ts) → p symbol.Others ≡ false → read.choice_by x m ts ≡ (at_simple x m >>= read.choice_rest x m) ts
  choice_looks b k = rw b.here (ap (λ z. turned z b.t b.us) (no_others (symbol_of b.t.lexeme) b.t (not_first b symbol.Others k)))

  choice_complete : {c : Choice} {ts rest : Tokens} → IsChoice x c ts rest → length ts ≤ m → EndsChoice rest → read.choice_by x m ts ≡ Got c rest
  choice_complete (a_value {e = e} {rest = rest} d) h ends = choice_looks (first_token x d) refl ∙ got_bind (read.choice_rest x m) (simple_complete x d m h ends.ends) (value_read e rest ends.no_dots)
  choice_complete (a_range {a = a} {b = b} {rest = rest} d w e) h ends = choice_looks (first_token x d) refl
      ∙ got_bind (read.choice_rest x m) (simple_complete x d m h (ends_word 2 w (omega arith))) (range_read a b rest w (simple_complete x e m (omega (arith, shorter x d, word_shorter w)) ends.ends))
  choice_complete (other_values {t = t} {rest = rest} i) h ends = on_symbol Refuse (read.choice_turn x m) symbol.Others t rest i

  choices_come : {cs : List Choice} {ts rest : Tokens} → AreChoices x cs ts rest → length ts ≤ m → EndsChoice rest → Comes (listed_turn symbol.Bar (read.choice_by x m) read.pushed) (read.choices_by x m ts) cs rest
  choices_come (one_choice {c = c} d) h ends = record {
    turns = suc m;
    room = omega (arith, choice_shorter x d);
    here = got_bind (λ z. repeat (listed_turn symbol.Bar (read.choice_by x m) read.pushed) (suc m) (z ∷ [])) (choice_complete d h ends) refl;
  }
  choices_come (more_choices {rest = rest} l w d) h ends =
      list_take symbol.Bar (read.choice_by x m) read.pushed rest (choices_come l h (record { ends = ends_word 2 w (omega arith); no_dots = next_word (λ z. same z symbol.DoubleDot) w refl })) w
      (choice_complete d (omega (arith, choices_shorter x l, word_shorter w)) ends) (omega (arith, choice_shorter x d))

  choices_complete : {cs : List Choice} {ts us rest : Tokens} → AreChoices x cs ts us → Word symbol.Arrow us rest → length ts ≤ m → read.choices_by x m ts ≡ Got cs us
  choices_complete l w h = list_leave symbol.Bar (read.choice_by x m) read.pushed
      (choices_come l h (record { ends = ends_word 2 w (omega arith); no_dots = next_word (λ z. same z symbol.DoubleDot) w refl })) (next_word (λ z. same z symbol.Bar) w refl)

  -- exception choices
  no_other : (s : Symbol) (t : Token) → same s symbol.Others ≡ false → read.exception_turn x m s t ≡ Look (at_name x m >>= λ n. got (exception.Named n))
  no_other symbol.Others t h = cc
  no_other _ t h = refl

  exception_looks : {ts : Tokens} → Begins (λ s. same s symbol.Identifier) ts → read.exception_by x m ts ≡ (at_name x m >>= λ n. got (exception.Named n)) ts
  exception_looks b = rw b.here (ap (λ z. turned z b.t b.us) (no_other (symbol_of b.t.lexeme) b.t (not_first b symbol.Others refl)))

  exception_complete : {c : ExceptionChoice} {ts rest : Tokens} → IsException x c ts rest → length ts ≤ m → Ends 0 rest → read.exception_by x m ts ≡ Got c rest
  exception_complete (a_named d) h ends = exception_looks (name_begins (name_first x d)) ∙ got_then (λ n. exception.Named n) (name_complete x d m h ends)
  exception_complete (other_exceptions {t = t} {rest = rest} i) h ends = on_symbol Refuse (read.exception_turn x m) symbol.Others t rest i

  exceptions_come : {cs : List ExceptionChoice} {ts rest : Tokens} → AreExceptions x cs ts rest → length ts ≤ m → Ends 0 rest → Comes (listed_turn symbol.Bar (read.exception_by x m) read.pushed) (read.exceptions_by x m ts) cs rest
  exceptions_come (one_exception {c = c} d) h ends = record {
    turns = suc m;
    room = omega (arith, exception_shorter x d);
    here = got_bind (λ z. repeat (listed_turn symbol.Bar (read.exception_by x m) read.pushed) (suc m) (z ∷ [])) (exception_complete d h ends) refl;
  }
  exceptions_come (more_exceptions {rest = rest} l w d) h ends =
      list_take symbol.Bar (read.exception_by x m) read.pushed rest (exceptions_come l h (ends_word 0 w (omega arith))) w (exception_complete d (omega (arith, exceptions_shorter x l, word_shorter w)) ends) (omega (arith, exception_shorter x d))

  exceptions_complete : {cs : List ExceptionChoice} {ts us rest : Tokens} → AreExceptions x cs ts us → Word symbol.Arrow us rest → length ts ≤ m → read.exceptions_by x m ts ≡ Got cs us
  exceptions_complete l w h = list_leave symbol.Bar (read.exception_by x m) read.pushed (exceptions_come l h (ends_word 0 w (omega arith))) (next_word (λ z. same z symbol.Bar) w refl)

  -- optional parts before a semicolon
  condition_complete : {e : Option Expr} {ts us rest : Tokens} → HasCondition x e ts us → Word symbol.Semicolon us rest → length ts ≤ m → read.condition_by x m ts ≡ Got e us
  condition_complete no_condition (word {t = t} {rest = rest} i) h = on_symbol (Leave None) (read.condition_turn x m) symbol.Semicolon t rest i
  condition_complete (a_condition (word {t = t} {rest = vs} i) d) w h = on_symbol (Leave None) (read.condition_turn x m) symbol.When t vs i ∙ got_then (λ e. Some e) (whole_complete x d m (omega arith) (ends_word 4 w (omega arith)))

  with_result : (s : Symbol) (t : Token) → same s symbol.Semicolon ≡ false → opens x Subprograms ≡ true → read.result_turn x m s t ≡ Look (at_expr x m >>= λ e. got (Some e))
  with_result symbol.Semicolon t h o = cc
  with_result _ t h o = ap (λ b. provided b (Look (at_expr x m >>= λ e. got (Some e)))) o

  result_looks : {p : Symbol → Bool} {ts : Tokens} (b : Begins p ts) → p symbol.Semicolon ≡ false → opens x Subprograms ≡ true → read.result_by x m ts ≡ (at_expr x m >>= λ e. got (Some e)) ts
  result_looks b k o = rw b.here (ap (λ z. turned z b.t b.us) (with_result (symbol_of b.t.lexeme) b.t (not_first b symbol.Semicolon k) o))

  result_complete : {e : Option Expr} {ts us rest : Tokens} → HasResult x e ts us → Word symbol.Semicolon us rest → length ts ≤ m → read.result_by x m ts ≡ Got e us
  result_complete no_result (word {t = t} {rest = rest} i) h = on_symbol (Leave None) (read.result_turn x m) symbol.Semicolon t rest i
  result_complete (a_result o d) w h = result_looks (first_token x d) refl o ∙ got_then (λ e. Some e) (whole_complete x d m h (ends_word 4 w (omega arith)))

  with_exception : (s : Symbol) (t : Token) → same s symbol.Semicolon ≡ false → read.raised_turn x m s t ≡ Look (at_name x m >>= λ n. got (Some n))
  with_exception symbol.Semicolon t h = cc
  with_exception _ t h = refl

  raised_looks : {ts : Tokens} → Begins (λ s. same s symbol.Identifier) ts → read.raised_by x m ts ≡ (at_name x m >>= λ n. got (Some n)) ts
  raised_looks b = rw b.here (ap (λ z. turned z b.t b.us) (with_exception (symbol_of b.t.lexeme) b.t (not_first b symbol.Semicolon refl)))

  raised_complete : {n : Option Name} {ts us rest : Tokens} → HasException x n ts us → Word symbol.Semicolon us rest → length ts ≤ m → read.raised_by x m ts ≡ Got n us
  raised_complete no_exception (word {t = t} {rest = rest} i) h = on_symbol (Leave None) (read.raised_turn x m) symbol.Semicolon t rest i
  raised_complete (an_exception d) w h = raised_looks (name_begins (name_first x d)) ∙ got_then (λ n. Some n) (name_complete x d m h (ends_word 0 w (omega arith)))

  -- behind a name
  assigned : (p : Pos) (n : Name) (v : Initial) {us vs ws : Tokens} (rest : Tokens) → opens x Objects ≡ true → Word symbol.Becomes us vs → initial_by x m vs ≡ Got v ws → Word symbol.Semicolon ws rest → read.name_rest x m p n us ≡ Got (tree.assignment p n v) rest
  assigned p n v rest o (word {t = t} {rest = vs} i) e w = on_symbol Refuse (read.name_turn x m p n) symbol.Becomes t vs i
      ∙ (ap (λ b. turned (provided b (Take (initial_by x m >>= λ z. skip symbol.Semicolon (got (tree.assignment p n z))))) t vs) o
      ∙ got_bind (λ z. skip symbol.Semicolon (got (tree.assignment p n z))) e (got_word (got (tree.assignment p n v)) w refl))

  called : (p : Pos) (n : Name) {us rest : Tokens} → Word symbol.Semicolon us rest → read.name_rest x m p n us ≡ Got (tree.call p n) rest
  called p n (word {t = t} {rest = rest} i) = on_symbol Refuse (read.name_turn x m p n) symbol.Semicolon t rest i

-- the turn of a statement whose part of the grammar is open
opened : {A : Type 0} {q : Reading A} (b : Bool) (z : Turn A) (t : Token) (us : Tokens) → b ≡ true → turned z t us ≡ q → turned (provided b z) t us ≡ q
opened true z t us h e = e
opened false z t us h e = cc

pragma_first : {x : Extent} {a : Pragma} {t : Token} {ts rest : Tokens} → IsPragma x a (t ∷ ts) rest → Is symbol.Pragma t
pragma_first (a_pragma o i j k l n d) = i

loop_first : {x : Extent} {ss : List Statement} {t : Token} {ts rest : Tokens} → IsLoop x ss (t ∷ ts) rest → Is symbol.Loop t
loop_first (a_loop (word i) l c) = i

-- a statement begins here
record Starts (ts : Tokens) : Type 0 where
  pub by : next_is read.begins_statement ts ≡ true

starts_name : {x : Extent} {ts : Tokens} → IsNamed x ts → Starts ts
starts_name n = record { by = rw n.here (ap read.begins_statement n.first) }

starts : {x : Extent} {s : Statement} {ts rest : Tokens} → IsStatement x s ts rest → Starts ts
starts (a_null i w) = record { by = ap read.begins_statement i }
starts {x} (an_assignment o d a i b) = starts_name (name_first x d)
starts {x} (a_call d w) = starts_name (name_first x d)
starts (an_exemption d) = record { by = ap read.begins_statement (pragma_first d) }
starts (an_if o i b l e c) = record { by = ap read.begins_statement i }
starts (a_case o i d w l c) = record { by = ap read.begins_statement i }
starts (an_endless_loop o l) = record { by = ap read.begins_statement (loop_first l) }
starts (a_while o i d l) = record { by = ap read.begins_statement i }
starts (a_for o i n w d r l) = record { by = ap read.begins_statement i }
starts (an_exit o i d w) = record { by = ap read.begins_statement i }
starts (a_return i d w) = record { by = ap read.begins_statement i }
starts (a_raise o i d w) = record { by = ap read.begins_statement i }
starts (a_block o i h a b) = record { by = ap read.begins_statement i }
starts (a_declaring_block o i d w h a b) = record { by = ap read.begins_statement i }

-- what may follow the branches of an if statement
record EndsBranches (ts : Tokens) : Type 0 where
  pub stops : Stops ts
  pub no_elsif : next_is (λ z. same z symbol.Elsif) ts ≡ false

before_else : {x : Extent} {ss : List Statement} {ts us vs : Tokens} → HasElse x ss ts us → Word symbol.End us vs → EndsBranches ts
before_else no_else w = record { stops = stops_word w refl; no_elsif = next_word (λ z. same z symbol.Elsif) w refl }
before_else (an_else w l) v = record { stops = stops_word w refl; no_elsif = next_word (λ z. same z symbol.Elsif) w refl }

before_branches : {x : Extent} {bs : Branches} {ts us : Tokens} → AreBranches x bs ts us → Stops us → Stops ts
before_branches no_branches h = h
before_branches (more_branches l w b) h = before_branches l (stops_word w refl)

end_word : {s : Symbol} {ts rest : Tokens} → Closes s ts rest → (us : Tokens) × Word symbol.End ts us
end_word (closes a b c) = (_, a)

before_handlers : {x : Extent} {hs : Handlers} {ts us vs : Tokens} → HasHandlers x hs ts us → Word symbol.End us vs → Stops ts
before_handlers no_handlers w = stops_word w refl
before_handlers (some_handlers o w l) v = stops_word w refl

loop_word : {x : Extent} {ss : List Statement} {ts rest : Tokens} → IsLoop x ss ts rest → (us : Tokens) × Word symbol.Loop ts us
loop_word (a_loop w l c) = (_, w)

ends_loop : {x : Extent} {ss : List Statement} {ts rest : Tokens} (k : ℕ) → IsLoop x ss ts rest → k < 5 → Ends k ts
ends_loop k (a_loop w l c) h = ends_word k w h

-- a range does not begin with REVERSE
range_first : {x : Extent} {r : DiscreteRange} {ts rest : Tokens} → IsRange x r ts rest → next_is (λ z. same z symbol.Reverse) ts ≡ false
range_first {x} (a_mark o d) = not_next (name_begins (name_first x d)) symbol.Reverse refl
range_first {x} (range_between o (low_and_high d i e)) = not_next (first_token x d) symbol.Reverse refl

-- statements of a known depth
module _ (x : Extent) (m : ℕ) where
  abbrev turns : Symbol → Token → List Statement → Turn (List Statement)
  turns = read.statements_turn x (read.statements x m) m

  abbrev another : List Statement → Reader (List Statement)
  another ss = at.at_statement x m >>= λ s. got (ss ++ s ∷ [])

  more : {q : Reading (List Statement)} {ss : List Statement} {s : Statement} (us rest : Tokens) → next_is read.begins_statement us ≡ true → Comes turns q ss us → at.at_statement x m us ≡ Got s rest → length rest < length us → Comes turns q (ss ++ s ∷ []) rest
  more [] rest b c e l = absurd (omega arith)
  more {ss = ss} (t ∷ vs) rest b c e l = comes_look turns t vs rest (another ss) c (ap (λ z. cond z (Look (another ss)) (Leave ss)) b) (got_then (λ s. ss ++ s ∷ []) e) l

  stop : (ss : List Statement) (ts : Tokens) → next_is read.begins_statement ts ≡ false → Leaves turns ss ts
  stop ss [] h = tt
  stop ss (t ∷ us) h = ap (λ z. cond z (Look (another ss)) (Leave ss)) h

-- where statements within a statement come to their end, they are read
inside : (x : Extent) {ss : List Statement} (ts us : Tokens) → ((m : ℕ) → length ts ≤ m → Comes (turns x m) (at.at_statements x m ts) ss us) → (m : ℕ) → length ts < m → Stops us → read.statements x m ts ≡ Got ss us
inside x ts us f zero h e = absurd (omega arith)
inside x {ss} ts us f (suc m) h e = comes_leave (turns x m) (f m (omega arith)) (stop x m ss us e.by)

block_read : (x : Extent) (m : ℕ) {b : Handled} (ts : Tokens) {us vs rest : Tokens} (p : Pos) (ds : Option (List Declaration)) → read.handled_by x (read.statements x m) m ts ≡ Got b us → Word symbol.End us vs → Word symbol.Semicolon vs rest
    → read.block_by x (read.statements x m) m p ds ts ≡ Got (tree.block p ds b) rest
block_read x m {b = b} ts p ds e v w = got_bind (λ z. skip symbol.End (skip symbol.Semicolon (got (tree.block p ds z)))) e (got_word (skip symbol.Semicolon (got (tree.block p ds b))) v (got_word (got (tree.block p ds b)) w refl))

module _ (x : Extent) (short : ShortersBelow x) (below : (m : ℕ) → CompleteBelow x m) where
  mutual
    pub statement_complete : {s : Statement} {ts rest : Tokens} → IsStatement x s ts rest → (m : ℕ) → length ts ≤ m → at.at_statement x m ts ≡ Got s rest
    statement_complete (a_null {t = t} {ts = ts} i w) m h = on_symbol Refuse (read.statement_turn x (read.statements x m) m) symbol.Null t ts i ∙ got_word (got (tree.null t.pos)) w refl
    statement_complete (an_assignment {n = n} {i = v} {ts = ts} {us = us} {rest = rest} o d a p b) m h =
        let f = name_first x d in
        let g = name_complete x d m h (ends_word 0 a (omega arith)) in
        let q = (below m).initial_complete _ _ _ _ p b (omega (arith, name_shorter x d, word_shorter a)) in
        subst (λ z. at.at_statement x m z ≡ Got (tree.assignment (name_pos n) n v) rest) (sym f.here)
        (on_symbol Refuse (read.statement_turn x (read.statements x m) m) symbol.Identifier f.t f.us f.first
        ∙ (got_bind (read.name_rest x m f.t.pos) (subst (λ z. at_name x m z ≡ Got n us) f.here g) (assigned x m f.t.pos n v rest o a q b)
        ∙ ap (λ p. Got (tree.assignment p n v) rest) (sym (first_of_name x (subst (λ z. IsName x n z us) f.here d)))))
    statement_complete (a_call {n = n} {ts = ts} {us = us} {rest = rest} d w) m h =
        let f = name_first x d in
        let g = name_complete x d m h (ends_word 0 w (omega arith)) in
        subst (λ z. at.at_statement x m z ≡ Got (tree.call (name_pos n) n) rest) (sym f.here)
        (on_symbol Refuse (read.statement_turn x (read.statements x m) m) symbol.Identifier f.t f.us f.first
        ∙ (got_bind (read.name_rest x m f.t.pos) (subst (λ z. at_name x m z ≡ Got n us) f.here g) (called x m f.t.pos n w)
        ∙ ap (λ p. Got (tree.call p n) rest) (sym (first_of_name x (subst (λ z. IsName x n z us) f.here d)))))
    statement_complete (an_exemption {t = t} {ts = ts} d) m h = on_symbol Refuse (read.statement_turn x (read.statements x m) m) symbol.Pragma t ts (pragma_first d) ∙ got_then (λ a. tree.exemption t.pos a) ((below m).pragma_complete _ _ _ d h)
    statement_complete (an_if {t = t} {e = e} {ss = ss} {es = es} {bs = bs} {ts = ts} o i b l r c) m h =
        let w = end_word c in
        let f = before_else r w.1 in
        on_symbol Refuse (read.statement_turn x (read.statements x m) m) symbol.If t ts i ∙ on_symbol Refuse (read.compound_turn x (read.statements x m) m) symbol.If t ts i
        ∙ opened (opens x Decisions) (Take (at.at_if x t.pos m)) t ts o
        (got_bind (λ z. at.at_branches x m >>= λ bs. at.at_else x m >>= λ es. closing symbol.If (tree.conditional t.pos z.0 (statements_of z.1) bs (statements_of es))) (branch_complete b m (omega arith) (before_branches l f.stops))
        (got_bind (λ z. at.at_else x m >>= λ es. closing symbol.If (tree.conditional t.pos e (statements_of ss) z (statements_of es)))
        (list_leave symbol.Elsif (at.at_branch x m) with_branch (branches_come l m (omega (arith, branch_shorter x short b)) f.stops) f.no_elsif)
        (got_bind (λ z. closing symbol.If (tree.conditional t.pos e (statements_of ss) bs (statements_of z))) (else_complete r w.1 m (omega (arith, branch_shorter x short b, branches_shorter x short l)))
        (got_closing (tree.conditional t.pos e (statements_of ss) bs (statements_of es)) c))))
    statement_complete (a_case {t = t} {e = e} {alts = alts} {ts = ts} o i d w l c) m h =
        on_symbol Refuse (read.statement_turn x (read.statements x m) m) symbol.Case t ts i ∙ on_symbol Refuse (read.compound_turn x (read.statements x m) m) symbol.Case t ts i
        ∙ opened (opens x Types) (Take (at.at_case x t.pos m)) t ts o
        (got_bind (λ z. skip symbol.Is (at.at_alternatives x m >>= λ zs. closing symbol.Case (tree.case_of t.pos z zs))) (whole_complete x d m (omega arith) (ends_word 4 w (omega arith)))
        (got_word (at.at_alternatives x m >>= λ zs. closing symbol.Case (tree.case_of t.pos e zs)) w
        (got_bind (λ zs. closing symbol.Case (tree.case_of t.pos e zs)) (list_leave symbol.When (read.arm_by x (read.statements x m) m (read.choices_by x m)) with_alternative
        (alternatives_come l m (omega (arith, shorter x d, word_shorter w)) (stops_word (end_word c).1 refl)) (next_word (λ z. same z symbol.When) (end_word c).1 refl)) (got_closing (tree.case_of t.pos e alts) c))))
    statement_complete (an_endless_loop {t = t} {ts = ts} o l) m h = on_symbol Refuse (read.statement_turn x (read.statements x m) m) symbol.Loop t ts (loop_first l) ∙ on_symbol Refuse (read.compound_turn x (read.statements x m) m) symbol.Loop t ts (loop_first l)
        ∙ opened (opens x Decisions) (Look (at.at_loop x t.pos Forever m)) t ts o (loop_complete t.pos Forever l m h)
    statement_complete (a_while {t = t} {e = e} {ts = ts} o i d l) m h = on_symbol Refuse (read.statement_turn x (read.statements x m) m) symbol.While t ts i ∙ on_symbol Refuse (read.compound_turn x (read.statements x m) m) symbol.While t ts i
        ∙ opened (opens x Decisions) (Take (at.at_while x t.pos m)) t ts o
        (got_bind (λ z. at.at_loop x t.pos (While z) m) (whole_complete x d m (omega arith) (ends_loop 4 l (omega arith))) (loop_complete t.pos (While e) l m (omega (arith, shorter x d))))
    statement_complete (a_for {t = t} {i = j} {d = d} {r = r} {ss = ss} {ts = ts} {rest = rest} o i n w p q l) m h = on_symbol Refuse (read.statement_turn x (read.statements x m) m) symbol.For t ts i ∙ on_symbol Refuse (read.compound_turn x (read.statements x m) m) symbol.For t ts i
        ∙ opened (opens x Types) (Take (at.at_for x t.pos m)) t ts o
        (got_identifier (λ u. skip symbol.In (read.direction_by >>= λ d. range_by x m >>= λ r. at.at_loop x t.pos (For (identifier_of u) d r) m)) n
        (λ u k. got_word (read.direction_by >>= λ d. range_by x m >>= λ r. at.at_loop x t.pos (For (identifier_of u) d r) m) w
        (got_bind (λ z. range_by x m >>= λ r. at.at_loop x t.pos (For (identifier_of u) z r) m) (direction_complete p (range_first q))
        (got_bind (λ z. at.at_loop x t.pos (For (identifier_of u) d z) m) ((below m).range_complete _ _ _ _ q (loop_word l).1 (omega (arith, identifier_shorter n, word_shorter w, direction_shorter p)))
        (loop_complete t.pos (For (identifier_of u) d r) l m (omega (arith, identifier_shorter n, word_shorter w, direction_shorter p, short.range_shorter _ _ _ q))
        ∙ ap (λ z. Got (tree.repeat t.pos (For z d r) (statements_of ss)) rest) k)))))
    statement_complete (an_exit {t = t} {e = e} {ts = ts} o i d w) m h = on_symbol Refuse (read.statement_turn x (read.statements x m) m) symbol.Exit t ts i
        ∙ opened (opens x Decisions) (Take (read.exit_by x m t.pos)) t ts o
        (got_bind (λ z. skip symbol.Semicolon (got (tree.exit t.pos z))) (condition_complete x m d w (omega arith)) (got_word (got (tree.exit t.pos e)) w refl))
    statement_complete (a_return {t = t} {e = e} {ts = ts} i d w) m h = on_symbol Refuse (read.statement_turn x (read.statements x m) m) symbol.Return t ts i
        ∙ got_bind (λ z. skip symbol.Semicolon (got (tree.returns t.pos z))) (result_complete x m d w (omega arith)) (got_word (got (tree.returns t.pos e)) w refl)
    statement_complete (a_raise {t = t} {n = n} {ts = ts} o i d w) m h = on_symbol Refuse (read.statement_turn x (read.statements x m) m) symbol.Raise t ts i
        ∙ opened (opens x Exceptions) (Take (read.raise_by x m t.pos)) t ts o
        (got_bind (λ z. skip symbol.Semicolon (got (tree.raise t.pos z))) (raised_complete x m d w (omega arith)) (got_word (got (tree.raise t.pos n)) w refl))
    statement_complete (a_block {t = t} {h = b} {ts = ts} o i d v w) m h = on_symbol Refuse (read.statement_turn x (read.statements x m) m) symbol.Begin t ts i ∙ on_symbol Refuse (read.compound_turn x (read.statements x m) m) symbol.Begin t ts i
        ∙ opened (opens x Decisions) (Take (read.block_by x (read.statements x m) m t.pos None)) t ts o (block_read x m _ t.pos None (handled_complete d v m (omega arith)) v w)
    statement_complete (a_declaring_block {t = t} {ds = ds} {ts = ts} o i d p b v w) m h = on_symbol Refuse (read.statement_turn x (read.statements x m) m) symbol.Declare t ts i ∙ on_symbol Refuse (read.compound_turn x (read.statements x m) m) symbol.Declare t ts i
        ∙ opened (opens x Decisions) (Take (at.at_declaring x t.pos m)) t ts o
        (got_bind (λ z. skip symbol.Begin (read.block_by x (read.statements x m) m t.pos (Some z))) ((below m).declarations_complete _ _ _ _ d p (omega arith))
        (got_word (read.block_by x (read.statements x m) m t.pos (Some ds)) p (block_read x m _ t.pos (Some ds) (handled_complete b v m (omega (arith, short.declarations_shorter _ _ _ d, word_shorter p))) v w)))

    pub statements_come : {ss : List Statement} {ts rest : Tokens} → AreStatements x ss ts rest → (m : ℕ) → length ts ≤ m → Comes (turns x m) (at.at_statements x m ts) ss rest
    statements_come (one_statement d) m h = record {
      turns = suc m;
      room = omega (arith, statement_shorter x short d);
      here = got_bind (λ z. repeat (turns x m) (suc m) (z ∷ [])) (statement_complete d m h) refl;
    }
    statements_come (more_statements {us = us} {rest = rest} l d) m h = more x m us rest (starts d).by (statements_come l m h) (statement_complete d m (omega (arith, statements_shorter x short l))) (statement_shorter x short d)

    branch_complete : {e : Expr} {ss : List Statement} {ts rest : Tokens} → IsBranch x e ss ts rest → (m : ℕ) → length ts ≤ m → Stops rest → at.at_branch x m ts ≡ Got (e, ss) rest
    branch_complete (a_branch {e = e} {ss = ss} {vs = vs} {rest = rest} d w l) m h stops =
        got_bind (λ z. skip symbol.Then (read.statements x m >>= λ ss. got (z, ss))) (whole_complete x d m h (ends_word 4 w (omega arith)))
        (got_word (read.statements x m >>= λ zs. got (e, zs)) w (got_then (λ zs. (e, zs)) (inside x vs rest (statements_come l) m (omega (arith, shorter x d, word_shorter w)) stops)))

    branches_come : {bs : Branches} {ts rest : Tokens} → AreBranches x bs ts rest → (m : ℕ) → length ts ≤ m → Stops rest → Comes (listed_turn symbol.Elsif (at.at_branch x m) with_branch) (at.at_branches x m ts) bs rest
    branches_come no_branches m h stops = record { turns = suc m; room = omega arith; here = refl }
    branches_come (more_branches {rest = rest} l w b) m h stops = list_take symbol.Elsif (at.at_branch x m) with_branch rest (branches_come l m h (stops_word w refl)) w
        (branch_complete b m (omega (arith, branches_shorter x short l, word_shorter w)) stops) (omega (arith, branch_shorter x short b))

    else_complete : {ss : List Statement} {ts us vs : Tokens} → HasElse x ss ts us → Word symbol.End us vs → (m : ℕ) → length ts ≤ m → at.at_else x m ts ≡ Got ss us
    else_complete no_else (word {t = t} {rest = rest} i) m h = on_symbol (Leave []) (read.else_turn x (read.statements x m) m) symbol.End t rest i
    else_complete (an_else {us = us} {rest = rest} (word {t = t} i) l) w m h = on_symbol (Leave []) (read.else_turn x (read.statements x m) m) symbol.Else t us i ∙ inside x us rest (statements_come l) m (omega arith) (stops_word w refl)

    alternative_complete : {cs : List Choice} {ss : List Statement} {ts rest : Tokens} → IsAlternative x cs ss ts rest → (m : ℕ) → length ts ≤ m → Stops rest → read.arm_by x (read.statements x m) m (read.choices_by x m) ts ≡ Got (cs, ss) rest
    alternative_complete (an_alternative {cs = cs} {vs = vs} {rest = rest} c w l) m h stops =
        got_bind (λ z. skip symbol.Arrow (read.statements x m >>= λ ss. got (z, ss))) (choices_complete x m c w h)
        (got_word (read.statements x m >>= λ zs. got (cs, zs)) w (got_then (λ zs. (cs, zs)) (inside x vs rest (statements_come l) m (omega (arith, choices_shorter x c, word_shorter w)) stops)))

    alternatives_come : {alts : Alternatives} {ts rest : Tokens} → AreAlternatives x alts ts rest → (m : ℕ) → length ts ≤ m → Stops rest
        → Comes (listed_turn symbol.When (read.arm_by x (read.statements x m) m (read.choices_by x m)) with_alternative) (at.at_alternatives x m ts) alts rest
    alternatives_come (one_alternative {cs = cs} {ss = ss} w d) m h stops = record {
      turns = suc m;
      room = omega (arith, word_shorter w, alternative_shorter x short d);
      here = got_word (read.arm_by x (read.statements x m) m (read.choices_by x m) >>= λ a. repeat (listed_turn symbol.When (read.arm_by x (read.statements x m) m (read.choices_by x m)) with_alternative) (suc m) (with_alternative tree.no_alternatives a)) w
          (got_bind (λ a. repeat (listed_turn symbol.When (read.arm_by x (read.statements x m) m (read.choices_by x m)) with_alternative) (suc m) (with_alternative tree.no_alternatives a)) (alternative_complete d m (omega (arith, word_shorter w)) stops) refl);
    }
    alternatives_come (more_alternatives {rest = rest} l w d) m h stops = list_take symbol.When (read.arm_by x (read.statements x m) m (read.choices_by x m)) with_alternative rest (alternatives_come l m h (stops_word w refl)) w
        (alternative_complete d m (omega (arith, alternatives_shorter x short l, word_shorter w)) stops) (omega (arith, alternative_shorter x short d))

    loop_complete : {ss : List Statement} {ts rest : Tokens} (p : Pos) (s : LoopScheme) → IsLoop x ss ts rest → (m : ℕ) → length ts ≤ m → at.at_loop x p s m ts ≡ Got (tree.repeat p s (statements_of ss)) rest
    loop_complete p s (a_loop {ss = ss} {us = us} {vs = vs} w l c) m h = got_word (read.statements x m >>= λ zs. closing symbol.Loop (tree.repeat p s (statements_of zs))) w
        (got_bind (λ zs. closing symbol.Loop (tree.repeat p s (statements_of zs))) (inside x us vs (statements_come l) m (omega (arith, word_shorter w)) (stops_word (end_word c).1 refl)) (got_closing (tree.repeat p s (statements_of ss)) c))

    handler_complete : {cs : List ExceptionChoice} {ss : List Statement} {ts rest : Tokens} → IsHandler x cs ss ts rest → (m : ℕ) → length ts ≤ m → Stops rest → read.arm_by x (read.statements x m) m (read.exceptions_by x m) ts ≡ Got (cs, ss) rest
    handler_complete (a_handler {cs = cs} {vs = vs} {rest = rest} c w l) m h stops =
        got_bind (λ z. skip symbol.Arrow (read.statements x m >>= λ ss. got (z, ss))) (exceptions_complete x m c w h)
        (got_word (read.statements x m >>= λ zs. got (cs, zs)) w (got_then (λ zs. (cs, zs)) (inside x vs rest (statements_come l) m (omega (arith, exceptions_shorter x c, word_shorter w)) stops)))

    handler_list_come : {hs : Handlers} {ts rest : Tokens} → AreHandlers x hs ts rest → (m : ℕ) → length ts ≤ m → Stops rest
        → Comes (listed_turn symbol.When (read.arm_by x (read.statements x m) m (read.exceptions_by x m)) with_handler) (read.arms_by x (read.statements x m) m (read.exceptions_by x m) with_handler tree.no_handlers ts) hs rest
    handler_list_come (one_handler {cs = cs} {ss = ss} w d) m h stops = record {
      turns = suc m;
      room = omega (arith, word_shorter w, handler_shorter x short d);
      here = got_word (read.arm_by x (read.statements x m) m (read.exceptions_by x m) >>= λ a. repeat (listed_turn symbol.When (read.arm_by x (read.statements x m) m (read.exceptions_by x m)) with_handler) (suc m) (with_handler tree.no_handlers a)) w
          (got_bind (λ a. repeat (listed_turn symbol.When (read.arm_by x (read.statements x m) m (read.exceptions_by x m)) with_handler) (suc m) (with_handler tree.no_handlers a)) (handler_complete d m (omega (arith, word_shorter w)) stops) refl);
    }
    handler_list_come (more_handlers {rest = rest} l w d) m h stops = list_take symbol.When (read.arm_by x (read.statements x m) m (read.exceptions_by x m)) with_handler rest (handler_list_come l m h (stops_word w refl)) w
        (handler_complete d m (omega (arith, handler_list_shorter x short l, word_shorter w)) stops) (omega (arith, handler_shorter x short d))

    pub handlers_complete : {hs : Handlers} {ts us vs : Tokens} → HasHandlers x hs ts us → Word symbol.End us vs → (m : ℕ) → length ts ≤ m → at.at_handlers x m ts ≡ Got hs us
    handlers_complete no_handlers (word {t = t} {rest = rest} i) m h = on_symbol (Leave tree.no_handlers) (read.handlers_turn x (read.statements x m) m) symbol.End t rest i
    handlers_complete (some_handlers {us = us} o (word {t = t} i) l) w m h = on_symbol (Leave tree.no_handlers) (read.handlers_turn x (read.statements x m) m) symbol.Exception t us i
        ∙ opened (opens x Exceptions) (Take (read.arms_by x (read.statements x m) m (read.exceptions_by x m) with_handler tree.no_handlers)) t us o
        (list_leave symbol.When (read.arm_by x (read.statements x m) m (read.exceptions_by x m)) with_handler (handler_list_come l m (omega arith) (stops_word w refl)) (next_word (λ z. same z symbol.When) w refl))

    pub handled_complete : {b : Handled} {ts us vs : Tokens} → IsHandled x b ts us → Word symbol.End us vs → (m : ℕ) → length ts < m → read.handled_by x (read.statements x m) m ts ≡ Got b us
    handled_complete (a_sequence {ss = ss} {ts = ts} {us = us} l d) w m h = got_bind (λ zs. at.at_handlers x m >>= λ hs. got (tree.handled (statements_of zs) hs)) (inside x ts us (statements_come l) m h (before_handlers d w))
        (got_then (λ hs. tree.handled (statements_of ss) hs) (handlers_complete d w m (omega (arith, statements_shorter x short l))))

-- behind BEGIN and before END
pub at_handled_complete : (x : Extent) (m : ℕ) {b : Handled} {ts us vs : Tokens} → IsHandled x b ts us → Word symbol.End us vs → length ts ≤ m → at.at_handled x m ts ≡ Got b us
at_handled_complete x m d w h = handled_complete x (shorters_below x) (complete_below x) d w (suc m) (omega arith)
