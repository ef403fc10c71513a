-- Words and lists, when what stands there is known.
use Rattle.std.proofs.Common.{◌≡◌, ℕ, suc, ◌<◌, ◌≤◌, Bool, true, false, [], ◌∷◌, length, None, refl, ap, sym, ◌∙◌, arith}
use Rattle.std.proofs.lemmas.Bool.{false≢true}
use denote.Enum.Bare.{true_same, same_true}
use Rattle.ada_lexer.specs.declared.token.Token.{Token}
use Rattle.ada_syntax.specs.Tree.{Expr, Name}
use Rattle.ada_syntax.specs.declared.name.Identifier.{Identifier}
use Rattle.expression_parser.specs.declared.symbol.Symbol.{Symbol}
use Rattle.expression_parser.specs.declared.symbol.Symbol.TheVariants as symbol
use Rattle.expression_parser.specs.contracts.symbol.Symbol.{the_type}
use Rattle.expression_parser.specs.declared.extent.Extent.{Extent}
use Rattle.expression_parser.specs.Symbols.{symbol_of, same, identifier_of, adding}
use Rattle.expression_parser.specs.Reading.{Tokens, Reading, Reader, Got, got, ◌>>=◌, expect, skip}
use Rattle.expression_parser.specs.Expressions.{IsExpr, sums, expression, IsName}
use Rattle.expression_parser.specs.ExpressionReading as expressions
use Rattle.expression_parser.specs.Depth.{at_name, at_expr, at_simple}
use Rattle.expression_parser.specs.Shows.{next_is}
use Rattle.expression_parser.proofs.Comes.{binding, Ends, ends_less, ends_at, got_bind, got_then, got_expect, got_skip, Comes, Leaves, comes_leave, comes_take}
use Rattle.expression_parser.proofs.ExpressionComplete.{complete, complete_name, expr_complete, leaves_suffix, Begins, IsNamed}
use Rattle.ada_parser.specs.Words.{Word, word, Named, name, Closes, closes}
use Rattle.ada_parser.specs.Lists.{listed, listed_turn, closing}

pub got_word : {A : Type 0} {q : Reading A} {s : Symbol} {ts us : Tokens} (r : Reader A) → Word s ts us → r us ≡ q → skip s r ts ≡ q
got_word {s = s} r (word {t = t} {rest = rest} i) e = got_skip s r t rest i e

pub got_identifier : {A : Type 0} {q : Reading A} {i : Identifier} {ts us : Tokens} (k : Token → Reader A) → Named i ts us → ((t : Token) → identifier_of t ≡ i → k t us ≡ q) → (expect symbol.Identifier >>= k) ts ≡ q
got_identifier k (name {t = t} {rest = rest} i) e = got_bind k (got_expect symbol.Identifier t rest i) (e t refl)

pub got_closing : {A : Type 0} {s : Symbol} {ts rest : Tokens} (a : A) → Closes s ts rest → closing s a ts ≡ Got a rest
got_closing {s = s} a (closes u v w) = got_word (skip s (skip symbol.Semicolon (got a))) u (got_word (skip symbol.Semicolon (got a)) v (got_word (got a) w refl))

pub ends_word : {s : Symbol} {ts us : Tokens} (k : ℕ) → Word s ts us → k < binding s → Ends k ts
ends_word {s = s} k (word {t = t} {rest = rest} i) h = ends_at k s t rest i h

pub next_word : {s : Symbol} {ts us : Tokens} {b : Bool} (p : Symbol → Bool) → Word s ts us → p s ≡ b → next_is p ts ≡ b
next_word p (word i) h = ap p i ∙ h

-- lists whose further items stand behind a word
module _ {A S : Type 0} (w : Symbol) (item : Reader A) (add : S → A → S) where
  pub list_take : {q : Reading S} {s : S} {a : A} {us vs : Tokens} (rest : Tokens) → Comes (listed_turn w item add) q s us → Word w us vs → item vs ≡ Got a rest → length rest ≤ length vs → Comes (listed_turn w item add) q (add s a) rest
  list_take {s = s} rest c (word {t = t} {rest = vs} i) e l =
      comes_take (listed_turn w item add) t vs rest (item >>= λ a. got (add s a)) c (ap (λ b. listed b item add s) (true_same the_type (symbol_of t.lexeme) w i)) (got_then (add s) e) l

  leaves : (s : S) (ts : Tokens) → next_is (λ z. same z w) ts ≡ false → Leaves (listed_turn w item add) s ts
  leaves s [] h = tt
  leaves s (t ∷ us) h = ap (λ b. listed b item add s) h

  pub list_leave : {q : Reading S} {s : S} {rest : Tokens} → Comes (listed_turn w item add) q s rest → next_is (λ z. same z w) rest ≡ false → q ≡ Got s rest
  list_leave {s = s} {rest = rest} c h = comes_leave (listed_turn w item add) c (leaves s rest h)

no_adding : (s : Symbol) → 2 < binding s → adding s ≡ None
no_adding symbol.Plus h = absurd (omega arith)
no_adding symbol.Minus h = absurd (omega arith)
no_adding _ h = refl

module _ (x : Extent) where
  pub name_complete : {n : Name} {ts rest : Tokens} → IsName x n ts rest → (m : ℕ) → length ts ≤ m → Ends 0 rest → at_name x m ts ≡ Got n rest
  name_complete {n} {ts} {rest} d m h e = comes_leave (expressions.suffix_turn x (expressions.expr x m) (suc m)) (complete_name x d m h) (leaves_suffix x m n rest e)

  leaves_sum : (m : ℕ) (a : Expr) (rest : Tokens) → Ends 2 rest → Leaves (expressions.sum_turn x (expressions.expr x m) (suc m)) a rest
  leaves_sum m a [] e = tt
  leaves_sum m a (t ∷ us) e = ap (λ op. expressions.operand_turn x (expressions.expr x m) (suc m) op (expressions.term_by x (expressions.expr x m) (suc m)) a) (no_adding (symbol_of t.lexeme) e.by)

  pub simple_complete : {a : Expr} {ts rest : Tokens} → IsExpr x sums a ts rest → (m : ℕ) → length ts ≤ m → Ends 2 rest → at_simple x m ts ≡ Got a rest
  simple_complete {a} {ts} {rest} d m h e = comes_leave (expressions.sum_turn x (expressions.expr x m) (suc m)) (complete x d m h (ends_less 1 (omega arith) e)) (leaves_sum m a rest e)

  pub whole_complete : {a : Expr} {ts rest : Tokens} → IsExpr x expression a ts rest → (m : ℕ) → length ts ≤ m → Ends 4 rest → at_expr x m ts ≡ Got a rest
  whole_complete {a} {ts} {rest} d m h e = expr_complete x d (suc m) (omega arith) e

-- a symbol that a test refuses is none that it accepts
not_same : (p : Symbol → Bool) (s z : Symbol) (b : Bool) → same s z ≡ b → p s ≡ true → p z ≡ false → b ≡ false
not_same p s z true e h k = absurd (false≢true (sym k ∙ (ap p (sym (same_true the_type tt s z e)) ∙ h)))
not_same p s z false e h k = refl

pub not_first : {p : Symbol → Bool} {ts : Tokens} (b : Begins p ts) (z : Symbol) → p z ≡ false → same (symbol_of b.t.lexeme) z ≡ false
not_first {p} b z k = not_same p (symbol_of b.t.lexeme) z (same (symbol_of b.t.lexeme) z) refl b.first k

pub not_next : {p : Symbol → Bool} {ts : Tokens} (b : Begins p ts) (z : Symbol) → p z ≡ false → next_is (λ s. same s z) ts ≡ false
not_next b z k = rw b.here (not_first b z k)

-- a name begins with an identifier
pub name_begins : {x : Extent} {ts : Tokens} → IsNamed x ts → Begins (λ s. same s symbol.Identifier) ts
name_begins n = record { t = n.t; us = n.us; here = n.here; first = true_same the_type (symbol_of n.t.lexeme) symbol.Identifier n.first }
