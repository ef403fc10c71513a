-- How statements that begin with a name are read, answer by answer.
use Rattle.std.proofs.Common.{◌≡◌, ℕ, ◌<◌, Bool, true, false, [], ◌∷◌, length, Some, None, refl, ap, sym, ◌∙◌, arith}
use Rattle.std.proofs.lemmas.Bool.{false≢true}
use denote.Enum.Bare.{same_true, true_same}
use Rattle.cov_base.specs.declared.position.Pos.{Pos}
use Rattle.ada_lexer.specs.declared.token.Token.{Token}
use Rattle.ada_syntax.specs.Tree.{Name}
use Rattle.ada_syntax.specs.StatementTree as tree
use Rattle.ada_syntax.specs.StatementTree.{Statement}
use Rattle.ada_syntax.specs.declared.declaration.Initial.{Initial}
use Rattle.expression_parser.specs.declared.symbol.Symbol.{Symbol}
use Rattle.expression_parser.specs.declared.symbol.Symbol.TheVariants as symbol
use Rattle.expression_parser.specs.contracts.symbol.Symbol.{the_type}
use Rattle.expression_parser.specs.declared.extent.Extent.{Extent}
use Rattle.expression_parser.specs.declared.extent.Extent.TheVariants.{Objects}
use Rattle.expression_parser.specs.Symbols.{symbol_of, same}
use Rattle.expression_parser.specs.Extents.{opens}
use Rattle.expression_parser.specs.Reading.{Tokens, Reading, Reader, Got, Stuck, Turn, Refuse, Take, accept, got, goes_on, ◌>>=◌, turned, provided, expect, skip}
use Rattle.expression_parser.specs.Depth.{at_name}
use Rattle.expression_parser.specs.Shows.{Reads, Skipped, after}
use Rattle.expression_parser.proofs.NameCode.{after_some, after_none}
use Rattle.declaration_parser.specs.SubtypeReading.{initial_by}
use Rattle.ada_parser.specs.StatementReading as read
use Rattle.ada_parser.specs.StatementDepth as at
use Rattle.ada_parser.proofs.Steps.{both, first_fails, word_then, no_word, done, takes, refuses}

-- symbols that are not the same
pub apart : (s w : Symbol) → same s w ≡ false → s ≡ w → ⊥
apart s w h e = false≢true (sym h ∙ true_same the_type s w e)

module _ (x : Extent) where
  -- := init ; | ; behind a name
  module _ (p : Pos) (n : Name) where
    abbrev name_on : ℕ → Symbol → Token → Turn Statement
    name_on m = read.name_turn x m p n

    abbrev closes : ℕ → Initial → Reader Statement
    closes m i = skip symbol.Semicolon (got (tree.assignment p n i))

    abbrev assigns : ℕ → Reader Statement
    assigns m = initial_by x m >>= closes m

    becomes : (ts us : Tokens) (q : Reading Statement) → after symbol.Becomes ts ≡ Some us → opens x Objects ≡ true → Reads assigns us q → Reads (at.at_name_rest x p n) ts q
    becomes ts us q e o f =
        let k = after_some symbol.Becomes ts us e in
        rw k.here (takes Refuse name_on k.t us assigns (λ m. ap (λ s. name_on m s k.t) k.is ∙ ap (λ b. provided b (Take (assigns m))) o) f)

    pub becomes_closed : (ts us : Tokens) → after symbol.Becomes ts ≡ Some us → opens x Objects ≡ false → Reads (at.at_name_rest x p n) ts (Stuck ts)
    becomes_closed ts us e o =
        let k = after_some symbol.Becomes ts us e in
        rw k.here (refuses Refuse name_on k.t us (λ m. ap (λ s. name_on m s k.t) k.is ∙ ap (λ b. provided b (Take (assigns m))) o))

    pub assigned : (ts us vs rest : Tokens) (i : Initial) → after symbol.Becomes ts ≡ Some us → opens x Objects ≡ true → Reads (initial_by x) us (Got i vs) → length vs < length us → Skipped symbol.Semicolon vs rest → Reads (at.at_name_rest x p n) ts (Got (tree.assignment p n i) rest)
    assigned ts us vs rest i e o r l k = becomes ts us _ e o (both closes r (omega arith) (word_then (λ m. got (tree.assignment p n i)) k (done (tree.assignment p n i) rest)))

    pub assigned_fail : (ts us rest : Tokens) → after symbol.Becomes ts ≡ Some us → opens x Objects ≡ true → Reads (initial_by x) us (Stuck rest) → Reads (at.at_name_rest x p n) ts (Stuck rest)
    assigned_fail ts us rest e o r = becomes ts us _ e o (first_fails closes r)

    pub assigned_open : (ts us vs rest : Tokens) (i : Initial) → after symbol.Becomes ts ≡ Some us → opens x Objects ≡ true → Reads (initial_by x) us (Got i vs) → length vs < length us → expect symbol.Semicolon vs ≡ Stuck rest → Reads (at.at_name_rest x p n) ts (Stuck rest)
    assigned_open ts us vs rest i e o r l k = becomes ts us _ e o (both closes r (omega arith) (no_word symbol.Semicolon (λ m. got (tree.assignment p n i)) k))

    -- where no value is assigned, only a semicolon may stand
    no_rest_at : (m : ℕ) (s : Symbol) (t : Token) → (s ≡ symbol.Becomes → ⊥) → (s ≡ symbol.Semicolon → ⊥) → name_on m s t ≡ Refuse
    no_rest_at m symbol.Becomes t f g = absurd (f refl)
    no_rest_at m symbol.Semicolon t f g = absurd (g refl)
    no_rest_at m _ t f g = refl

    call_at : (b : Bool) (m : ℕ) (t : Token) (us : Tokens) → same (symbol_of t.lexeme) symbol.Becomes ≡ false → same (symbol_of t.lexeme) symbol.Semicolon ≡ b
        → turned (name_on m (symbol_of t.lexeme) t) t us ≡ goes_on (λ _. got (tree.call p n)) (turned (accept b t) t us)
    call_at true m t us h k = ap (λ s. turned (name_on m s t) t us) (same_true the_type tt (symbol_of t.lexeme) symbol.Semicolon k)
    call_at false m t us h k = ap (λ z. turned z t us) (no_rest_at m (symbol_of t.lexeme) t (apart (symbol_of t.lexeme) symbol.Becomes h) (apart (symbol_of t.lexeme) symbol.Semicolon k))

    call_alone : (m : ℕ) (ts : Tokens) → after symbol.Becomes ts ≡ None → read.name_rest x m p n ts ≡ skip symbol.Semicolon (got (tree.call p n)) ts
    call_alone m [] e = refl
    call_alone m (t ∷ us) e = call_at (same (symbol_of t.lexeme) symbol.Semicolon) m t us (after_none symbol.Becomes t us e).is_not refl

    alone : (ts : Tokens) (q : Reading Statement) → after symbol.Becomes ts ≡ None → Reads (λ m. skip symbol.Semicolon (got (tree.call p n))) ts q → Reads (at.at_name_rest x p n) ts q
    alone ts q e f = record { by = λ m h. call_alone m ts e ∙ f.by m h }

    pub called : (ts rest : Tokens) → after symbol.Becomes ts ≡ None → Skipped symbol.Semicolon ts rest → Reads (at.at_name_rest x p n) ts (Got (tree.call p n) rest)
    called ts rest e k = alone ts _ e (word_then (λ m. got (tree.call p n)) k (done (tree.call p n) rest))

    pub call_open : (ts rest : Tokens) → after symbol.Becomes ts ≡ None → expect symbol.Semicolon ts ≡ Stuck rest → Reads (at.at_name_rest x p n) ts (Stuck rest)
    call_open ts rest e k = alone ts _ e (no_word symbol.Semicolon (λ m. got (tree.call p n)) k)

  pub named_then : (p : Pos) (ts us : Tokens) (n : Name) (q : Reading Statement) → Reads (at_name x) ts (Got n us) → length us < length ts → Reads (at.at_name_rest x p n) us q → Reads (at.at_named x p) ts q
  named_then p ts us n q r l f = both (λ m. read.name_rest x m p) r (omega arith) f

  pub named_fail : (p : Pos) (ts rest : Tokens) → Reads (at_name x) ts (Stuck rest) → Reads (at.at_named x p) ts (Stuck rest)
  named_fail p ts rest r = first_fails (λ m. read.name_rest x m p) r
