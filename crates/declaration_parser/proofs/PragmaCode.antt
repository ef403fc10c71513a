-- Pragmas, as the code reads them.
use Rattle.std.proofs.Common.{◌≡◌, ℕ, Bool, true, false, List, [], ◌∷◌, Some, None, refl, ap, ◌∙◌, arith}
use Rattle.ada_lexer.specs.declared.token.Token.{Token}
use Rattle.ada_syntax.specs.declared.declaration.Pragma.{Pragma}
use Rattle.ada_syntax.specs.declared.declaration.Pragma.TheVariants.{ExemptOn}
use Rattle.expression_parser.specs.declared.symbol.Symbol.{Symbol}
use Rattle.expression_parser.specs.declared.symbol.Symbol.TheVariants as symbol
use Rattle.expression_parser.specs.declared.extent.Extent.{Extent}
use Rattle.expression_parser.specs.declared.extent.Extent.TheVariants.{Whole}
use Rattle.expression_parser.specs.Symbols.{symbol_of, same}
use Rattle.expression_parser.specs.Extents.{opens}
use Rattle.expression_parser.specs.Reading.{Tokens, Reading, Got, Stuck, Refuse, Take, got, ◌>>=◌, turned, provided, expect, skip}
use Rattle.expression_parser.specs.Shows.{Shows, TakesWord, after, Reads, Skipped}
use Rattle.declaration_parser.specs.Spelling.{annotate, xcov, exempt_on, exempt_off, is_spelled}
use Rattle.declaration_parser.specs.DeclarationReading as read
use Rattle.expression_parser.proofs.Comes.{on_symbol}
use Rattle.expression_parser.proofs.NameCode.{after_none}
use Rattle.declaration_parser.specs.DeclarationReading.{spelled_by, skip_word}
use Rattle.declaration_parser.specs.Answers.{Spelled, TakesText}
use Rattle.std.specs.Prelude.{Result}
use Rattle.std.specs.Borrow.{Bor}
use Rattle.expression_parser.specs.declared.fault.Fault.{Fault}
use Rattle.expression_parser.proofs.Faults.{failed}
use Rattle.declaration_parser.specs.Closing.{Closes}
use Rattle.declaration_parser.proofs.Closings.{read_so, closes, stops, goes, text_leads, word_stops, word_goes, text_then, closed}
use Rattle.declaration_parser.proofs.Steps.{skip_reads, skip_stuck, word_reads, word_stuck, got_reads, turn_taken, turn_refused}

pub on_fails_first : (ts : Tokens) (f : Fault)
    → TakesWord symbol.Comma ts (failed f)
    → Shows (Reads (λ m. read.on_by) ts) (failed f)
on_fails_first ts f h1 =
    word_stops symbol.Comma (λ m. (expect symbol.Text >>= λ z1. skip symbol.RightParenthesis (skip symbol.Semicolon (got (ExemptOn z1.text))))) ts f h1

pub on_fails_second : (ts : Tokens) (u0 : Tokens) (p1 : Result (List ℕ × Bor Tokens) Fault) (p11 : Result (List ℕ × Bor Tokens) Fault) (f : Fault)
    → Skipped symbol.Comma ts u0 → TakesText u0 p1 → Closes symbol.RightParenthesis p1 p11 → Closes symbol.Semicolon p11 (failed f)
    → Shows (Reads (λ m. read.on_by) ts) (failed f)
on_fails_second ts u0 p1 p11 f h1 h2 h3 h4 =
    word_goes symbol.Comma (λ m. (expect symbol.Text >>= λ z1. skip symbol.RightParenthesis (skip symbol.Semicolon (got (ExemptOn z1.text))))) ts u0 (failed f) h1 (
    stops (λ z. z) (closed symbol.Semicolon (closed symbol.RightParenthesis text_then)) (λ m z1. got (ExemptOn z1)) u0 f (closes (λ z. z) (closed symbol.RightParenthesis text_then) symbol.Semicolon u0 p11 (failed f) (closes (λ z. z) text_then symbol.RightParenthesis u0 p1 p11 (text_leads (Pragma) u0 p1 h2) h3) h4))

pub on_read : (ts : Tokens) (u0 : Tokens) (p1 : Result (List ℕ × Bor Tokens) Fault) (p11 : Result (List ℕ × Bor Tokens) Fault) (v1 : List ℕ) (u1 : Bor Tokens)
    → Skipped symbol.Comma ts u0 → TakesText u0 p1 → Closes symbol.RightParenthesis p1 p11 → Closes symbol.Semicolon p11 (read_so v1 u1)
    → Reads (λ m. read.on_by) ts (Got (ExemptOn v1) u1.now)
on_read ts u0 p1 p11 v1 u1 h1 h2 h3 h4 =
    word_goes symbol.Comma (λ m. (expect symbol.Text >>= λ z1. skip symbol.RightParenthesis (skip symbol.Semicolon (got (ExemptOn z1.text))))) ts u0 (read_so (ExemptOn v1) u1) h1 (
    goes (λ z. z) (closed symbol.Semicolon (closed symbol.RightParenthesis text_then)) (λ m z1. got (ExemptOn z1)) u0 v1 u1 (read_so (ExemptOn v1) u1) (closes (λ z. z) (closed symbol.RightParenthesis text_then) symbol.Semicolon u0 p11 (read_so v1 u1) (closes (λ z. z) text_then symbol.RightParenthesis u0 p1 p11 (text_leads (Pragma) u0 p1 h2) h3) h4) (
    got_reads (ExemptOn v1) u1.now))

pub exemption_none : Reads (λ m. read.exemption_by) [] (Stuck [])
exemption_none = record { by = λ m h. refl }

no_exemption : (s : Symbol) (t : Token) → (s ≡ symbol.Identifier → ⊥) → read.exemption_turn s t ≡ Refuse
no_exemption symbol.Identifier t h = absurd (h refl)
no_exemption _ t h = refl

pub exemption_other : (t : Token) (us : Tokens) → (symbol_of t.lexeme ≡ symbol.Identifier → ⊥) → Reads (λ m. read.exemption_by) (t ∷ us) (Stuck (t ∷ us))
exemption_other t us h = record { by = λ m n. ap (λ z. turned z t us) (no_exemption (symbol_of t.lexeme) t h) }

worded : (b c : Bool) (t : Token) (us : Tokens) → symbol_of t.lexeme ≡ symbol.Identifier → is_spelled exempt_on t ≡ b → is_spelled exempt_off t ≡ c
    → read.exemption_by (t ∷ us) ≡ turned (read.exemption_word_turn b c) t us
worded b c t us i h k = on_symbol Refuse read.exemption_turn symbol.Identifier t us i ∙ (ap (λ z. turned (read.exemption_word_turn z (is_spelled exempt_off t)) t us) h ∙ ap (λ z. turned (read.exemption_word_turn b z) t us) k)

pub exemption_on : (t : Token) (us : Tokens) (q : Reading Pragma) → symbol_of t.lexeme ≡ symbol.Identifier → is_spelled exempt_on t ≡ true → Reads (λ m. read.on_by) us q
    → Reads (λ m. read.exemption_by) (t ∷ us) q
exemption_on t us q i h r = record { by = λ m n. worded true (is_spelled exempt_off t) t us i h refl ∙ r.by m (omega arith) }

pub exemption_off : (t : Token) (us : Tokens) (q : Reading Pragma) → symbol_of t.lexeme ≡ symbol.Identifier → is_spelled exempt_on t ≡ false → is_spelled exempt_off t ≡ true
    → Reads (λ m. read.off_by) us q → Reads (λ m. read.exemption_by) (t ∷ us) q
exemption_off t us q i h k r = record { by = λ m n. worded false true t us i h k ∙ r.by m (omega arith) }

pub exemption_neither : (t : Token) (us : Tokens) → symbol_of t.lexeme ≡ symbol.Identifier → is_spelled exempt_on t ≡ false → is_spelled exempt_off t ≡ false
    → Reads (λ m. read.exemption_by) (t ∷ us) (Stuck (t ∷ us))
exemption_neither t us i h k = record { by = λ m n. worded false false t us i h k }

module _ (x : Extent) where
  pub annotation_read : (ts us vs ws ys : Tokens) (q : Reading (Pragma)) → Spelled annotate ts us → Skipped symbol.LeftParenthesis us vs → Spelled xcov vs ws → Skipped symbol.Comma ws ys
      → Reads (λ m. read.exemption_by) ys q → Reads (read.annotation_by x) ts q
  annotation_read ts us vs ws ys q h1 h2 h3 h4 h5 =
      word_reads annotate (λ m. skip symbol.LeftParenthesis (skip_word xcov (skip symbol.Comma read.exemption_by))) ts us q h1
      (skip_reads symbol.LeftParenthesis (λ m. skip_word xcov (skip symbol.Comma read.exemption_by)) us vs q h2 (word_reads xcov (λ m. skip symbol.Comma read.exemption_by) vs ws q h3
      (skip_reads symbol.Comma (λ m. read.exemption_by) ws ys q h4 (h5))))

  pub annotation_fails_first : (ts rest : Tokens) → spelled_by annotate ts ≡ Stuck rest → Reads (read.annotation_by x) ts (Stuck rest)
  annotation_fails_first ts rest h1 = word_stuck annotate (λ m. skip symbol.LeftParenthesis (skip_word xcov (skip symbol.Comma read.exemption_by))) ts rest h1

  pub annotation_fails_second : (ts us rest : Tokens) → Spelled annotate ts us → expect symbol.LeftParenthesis us ≡ Stuck rest → Reads (read.annotation_by x) ts (Stuck rest)
  annotation_fails_second ts us rest h1 h2 =
      word_reads annotate (λ m. skip symbol.LeftParenthesis (skip_word xcov (skip symbol.Comma read.exemption_by))) ts us (Stuck rest) h1
      (skip_stuck symbol.LeftParenthesis (λ m. skip_word xcov (skip symbol.Comma read.exemption_by)) us rest h2)

  pub annotation_fails_third : (ts us vs rest : Tokens) → Spelled annotate ts us → Skipped symbol.LeftParenthesis us vs → spelled_by xcov vs ≡ Stuck rest
      → Reads (read.annotation_by x) ts (Stuck rest)
  annotation_fails_third ts us vs rest h1 h2 h3 =
      word_reads annotate (λ m. skip symbol.LeftParenthesis (skip_word xcov (skip symbol.Comma read.exemption_by))) ts us (Stuck rest) h1
      (skip_reads symbol.LeftParenthesis (λ m. skip_word xcov (skip symbol.Comma read.exemption_by)) us vs (Stuck rest) h2
      (word_stuck xcov (λ m. skip symbol.Comma read.exemption_by) vs rest h3))

  pub annotation_fails_fourth : (ts us vs ws rest : Tokens) → Spelled annotate ts us → Skipped symbol.LeftParenthesis us vs → Spelled xcov vs ws → expect symbol.Comma ws ≡ Stuck rest
      → Reads (read.annotation_by x) ts (Stuck rest)
  annotation_fails_fourth ts us vs ws rest h1 h2 h3 h4 =
      word_reads annotate (λ m. skip symbol.LeftParenthesis (skip_word xcov (skip symbol.Comma read.exemption_by))) ts us (Stuck rest) h1
      (skip_reads symbol.LeftParenthesis (λ m. skip_word xcov (skip symbol.Comma read.exemption_by)) us vs (Stuck rest) h2
      (word_reads xcov (λ m. skip symbol.Comma read.exemption_by) vs ws (Stuck rest) h3 (skip_stuck symbol.Comma (λ m. read.exemption_by) ws rest h4)))

  no_pragma_turn : (m : ℕ) (s : Symbol) (t : Token) → same s symbol.Pragma ≡ false → read.pragma_turn x m s t ≡ Refuse
  no_pragma_turn m symbol.Pragma t h = cc
  no_pragma_turn m _ t h = refl

  pub pragma_none : (ts : Tokens) → after symbol.Pragma ts ≡ None → Reads (read.pragma_by x) ts (Stuck ts)
  pragma_none [] a = record { by = λ m h. refl }
  pragma_none (t ∷ us) a = record { by = λ m h. ap (λ z. turned z t us) (no_pragma_turn m (symbol_of t.lexeme) t (after_none symbol.Pragma t us a).is_not) }

  pragma_on : (b : _) (m : ℕ) (t : Token) → opens x Whole ≡ b → read.pragma_turn x m symbol.Pragma t ≡ provided b (Take (read.annotation_by x m))
  pragma_on b m t o = ap (λ z. provided z (Take (read.annotation_by x m))) o

  pub pragma_closed : (ts us rest : Tokens) → after symbol.Pragma ts ≡ Some us → opens x Whole ≡ false → rest ≡ ts → Reads (read.pragma_by x) ts (Stuck rest)
  pragma_closed ts us rest a o e = turn_refused Refuse (read.pragma_turn x) symbol.Pragma ts us rest a (λ m t. pragma_on false m t o) e

  pub pragma_read : (ts us : Tokens) (q : Reading Pragma) → after symbol.Pragma ts ≡ Some us → opens x Whole ≡ true → Reads (read.annotation_by x) us q → Reads (read.pragma_by x) ts q
  pragma_read ts us q a o h = turn_taken Refuse (read.pragma_turn x) symbol.Pragma ts us (read.annotation_by x) q a (λ m t. pragma_on true m t o) h

pub ruleset exemption_rules = (exemption_none, exemption_other, exemption_on, exemption_off, exemption_neither)

pub ruleset annotation_rules = (annotation_read, annotation_fails_first, annotation_fails_second, annotation_fails_third, annotation_fails_fourth)

pub ruleset pragma_rules = (pragma_none, pragma_closed, pragma_read)
