-- How context clauses and the ends of units are read, answer by answer.
use Rattle.std.proofs.Common.{◌≡◌, ℕ, suc, ◌<◌, List, [], ◌∷◌, ◌++◌, length, Option, Some, None, refl, ap, sym, ◌∙◌, subst, arith}
use Rattle.ada_lexer.specs.declared.token.Token.{Token}
use Rattle.ada_syntax.specs.declared.name.Identifier.{Identifier}
use Rattle.ada_syntax.specs.declared.unit.WithClause.{WithClause}
use Rattle.expression_parser.specs.declared.symbol.Symbol.{Symbol}
use Rattle.expression_parser.specs.declared.symbol.Symbol.TheVariants as symbol
use Rattle.expression_parser.specs.Symbols.{symbol_of, identifier_of}
use Rattle.expression_parser.specs.Reading.{Tokens, Reading, Reader, Got, Stuck, Turn, Leave, got, goes_on, ◌>>=◌, turned, expect, skip}
use Rattle.expression_parser.specs.Shows.{Shows, Reads, More, Skipped, Identified, after}
use Rattle.expression_parser.proofs.Comes.{got_bind, got_expect, on_symbol}
use Rattle.expression_parser.proofs.Yields.{Yields, Takes, taken, expect_yields}
use Rattle.std.specs.Prelude.{Result}
use Rattle.std.specs.Borrow.{Bor}
use Rattle.expression_parser.specs.declared.fault.Fault.{Fault}
use Rattle.declaration_parser.specs.Closing.{Closes}
use Rattle.declaration_parser.specs.Identifiers.{identifiers_by}
use Rattle.declaration_parser.proofs.Closings.{Within, Below, below_behind, leads, closes, leads_got, word_goes, closed_below, read_then, closed}
use Rattle.ada_parser.specs.StatementReading.{pushed}
use Rattle.ada_parser.proofs.Steps.{both, first_fails, word_then, no_word, done, turns, list_step, list_step_fail, list_end}
use Rattle.ada_parser.specs.UnitReading as read
use Rattle.ada_parser.specs.UnitDepth as at

-- an identifier, and what goes on with it
pub identified : {B : Type 0} {ts us : Tokens} {i : Identifier} {q : Reading B} (k : ℕ → Identifier → Reader B) → Identified ts us i → Reads (λ m. k m i) us q → Reads (λ m. expect symbol.Identifier >>= λ u. k m (identifier_of u)) ts q
identified {us = us} k n f = record { by = λ m h. got_bind (λ u. k m (identifier_of u)) n.here (ap (λ z. k m z us) (sym n.same) ∙ f.by m (omega (arith, n.shorter))) }

pub unidentified : {B : Type 0} {ts rest : Tokens} (k : ℕ → Identifier → Reader B) → expect symbol.Identifier ts ≡ Stuck rest → Reads (λ m. expect symbol.Identifier >>= λ u. k m (identifier_of u)) ts (Stuck rest)
unidentified k e = record { by = λ m h. ap (goes_on (λ u. k m (identifier_of u))) e }

-- WITH id {, id} ;
abbrev clause : ℕ → List Identifier → Reader WithClause
clause m is = skip symbol.Semicolon (got (record { names = is }))

pub with_read : (ts us rest : Tokens) (is : List Identifier) → Reads identifiers_by ts (Got is us) → length us < length ts → Skipped symbol.Semicolon us rest → Reads read.with_by ts (Got (record { names = is }) rest)
with_read ts us rest is r l k = both clause r (omega arith) (word_then (λ m. got (record { names = is })) k (done (record { names = is }) rest))

pub with_fail : (ts rest : Tokens) → Reads identifiers_by ts (Stuck rest) → Reads read.with_by ts (Stuck rest)
with_fail ts rest r = first_fails clause r

pub with_open : (ts us rest : Tokens) (is : List Identifier) → Reads identifiers_by ts (Got is us) → length us < length ts → expect symbol.Semicolon us ≡ Stuck rest → Reads read.with_by ts (Stuck rest)
with_open ts us rest is r l e = both clause r (omega arith) (no_word symbol.Semicolon (λ m. got (record { names = is })) e)

abbrev pub with_turns : ℕ → Symbol → Token → List WithClause → Turn (List WithClause)
with_turns = turns symbol.With read.with_by pushed

pub withs_begin : (ts : Tokens) (q : Reading (List WithClause)) → More with_turns ts [] q → Reads read.withs_by ts q
withs_begin ts q f = record { by = λ m h. f.by m (suc m) h (omega arith) }

pub withs_step : (ts us rest : Tokens) (ws : List WithClause) (w : WithClause) → after symbol.With ts ≡ Some us → Reads read.with_by us (Got w rest) → length rest < length us → (q : Reading (List WithClause)) → More with_turns rest (ws ++ w ∷ []) q → More with_turns ts ws q
withs_step = list_step symbol.With read.with_by pushed

pub withs_step_fail : (ts us rest : Tokens) (ws : List WithClause) → after symbol.With ts ≡ Some us → Reads read.with_by us (Stuck rest) → More with_turns ts ws (Stuck rest)
withs_step_fail = list_step_fail symbol.With read.with_by pushed

pub withs_end : (ts : Tokens) (ws : List WithClause) → after symbol.With ts ≡ None → More with_turns ts ws (Got ws ts)
withs_end = list_end symbol.With read.with_by pushed

-- END [id] ;
end_name_leaves : (s : Symbol) (t : Token) → (s ≡ symbol.Identifier → ⊥) → read.end_name_turn s t ≡ Leave None
end_name_leaves symbol.Identifier t h = absurd (h refl)
end_name_leaves _ t h = refl

takes_of : (ts rest : Tokens) (i : Identifier) (k : Identified ts rest i) → Takes symbol.Identifier k.t ts rest
takes_of ts rest i k = subst (Yields (λ u r. Takes symbol.Identifier u ts r)) k.here (expect_yields symbol.Identifier ts)

named : (ts rest : Tokens) (t : Token) → Takes symbol.Identifier t ts rest → read.end_name_by ts ≡ Got (Some (identifier_of t)) rest
named ts rest t (taken i) = on_symbol (Leave None) read.end_name_turn symbol.Identifier t rest i

pub end_name_read : (ts rest : Tokens) (i : Identifier) → Identified ts rest i → Reads at.at_end_name ts (Got (Some i) rest)
end_name_read ts rest i k = record { by = λ m h. named ts rest k.t (takes_of ts rest i k) ∙ ap (λ z. Got (Some z) rest) (sym k.same) }

pub no_end_name_at_end : Reads at.at_end_name [] (Got None [])
no_end_name_at_end = record { by = λ m h. refl }

pub no_end_name : (t : Token) (us : Tokens) → (symbol_of t.lexeme ≡ symbol.Identifier → ⊥) → Reads at.at_end_name (t ∷ us) (Got None (t ∷ us))
no_end_name t us h = record { by = λ m l. ap (λ z. turned z t us) (end_name_leaves (symbol_of t.lexeme) t h) }

end_name_cannot : (t : Token) (us rest : Tokens) → symbol_of t.lexeme ≡ symbol.Identifier → expect symbol.Identifier (t ∷ us) ≡ Stuck rest → read.end_name_by (t ∷ us) ≡ Stuck rest
end_name_cannot t us rest i e = let p = sym (got_expect symbol.Identifier t us i) ∙ e in cc

pub end_name_never : (t : Token) (us rest : Tokens) → symbol_of t.lexeme ≡ symbol.Identifier → expect symbol.Identifier (t ∷ us) ≡ Stuck rest → Reads at.at_end_name (t ∷ us) (Stuck rest)
end_name_never t us rest i e = record { by = λ m h. end_name_cannot t us rest i e }

abbrev close : ℕ → Option Identifier → Reader (Option Identifier)
close m n = skip symbol.Semicolon (got n)

abbrev after_end : ℕ → Reader (Option Identifier)
after_end m = read.end_name_by >>= close m

module _ (ts us : Tokens) (p r : Result (Option Identifier × Bor Tokens) Fault) where
  pub end_shows : Skipped symbol.End ts us → Shows (Reads at.at_end_name us) p → Within us p → Closes symbol.Semicolon p r → Shows (Reads at.at_end ts) r
  end_shows e h l c = word_goes symbol.End after_end ts us r e (leads_got (λ z. z) (closed symbol.Semicolon (read_then at.at_end_name)) us r (closes (λ z. z) (read_then at.at_end_name) symbol.Semicolon us p r (leads (Option Identifier) (λ z. z) at.at_end_name us p h l) c))

  pub end_below : Skipped symbol.End ts us → Within us p → Closes symbol.Semicolon p r → Below ts r
  end_below e l c = below_behind ts us r (omega (arith, e.shorter)) (closed_below symbol.Semicolon us p r l c)

pub end_fail : (ts rest : Tokens) → expect symbol.End ts ≡ Stuck rest → Reads at.at_end ts (Stuck rest)
end_fail ts rest e = no_word symbol.End after_end e

pub ruleset withs_rules = (withs_begin, withs_step, withs_step_fail, withs_end)

pub ruleset end_name_rules = (end_name_read, no_end_name_at_end, no_end_name, end_name_never)
