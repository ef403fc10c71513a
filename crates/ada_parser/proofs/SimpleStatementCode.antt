-- How statements without statements in them are told from the others, and how they are read, answer by answer.
use Rattle.std.proofs.Common.{◌≡◌, ℕ, true, false, [], ◌∷◌, refl, ap, sym, ◌∙◌}
use Rattle.std.proofs.lemmas.Bool.{false≢true}
use Rattle.ada_lexer.specs.declared.token.Token.{Token}
use Rattle.ada_syntax.specs.StatementTree.{Statement}
use Rattle.expression_parser.specs.declared.symbol.Symbol.{Symbol}
use Rattle.expression_parser.specs.declared.symbol.Symbol.TheVariants as symbol
use Rattle.expression_parser.specs.declared.extent.Extent.{Extent}
use Rattle.expression_parser.specs.declared.extent.Extent.TheVariants.{Decisions, Exceptions}
use Rattle.expression_parser.specs.Symbols.{symbol_of, Is}
use Rattle.expression_parser.specs.Extents.{opens}
use Rattle.expression_parser.specs.Reading.{Tokens, Reading, Stuck, Turn, Refuse, Take, Look, turned, provided}
use Rattle.expression_parser.specs.Shows.{Reads, next_is}
use Rattle.ada_parser.specs.SimpleReading.{begins_compound, simple_turn, at_simple}
use Rattle.ada_parser.specs.StatementReading as read
use Rattle.ada_parser.specs.StatementDepth as at
use Rattle.ada_parser.proofs.Steps.{takes, looks, refuses}

module _ (x : Extent) where
  pub nothing_left : Reads (at_simple x) [] (Stuck [])
  nothing_left = record { by = λ m h. refl }

  pub a_null : (t : Token) (us : Tokens) (q : Reading Statement) → Is symbol.Null t → Reads (at.at_null t.pos) us q → Reads (at_simple x) (t ∷ us) q
  a_null t us q i f = takes Refuse (simple_turn x) t us (at.at_null t.pos) (λ m. ap (λ s. simple_turn x m s t) i) f

  pub a_name : (t : Token) (us : Tokens) (q : Reading Statement) → Is symbol.Identifier t → Reads (at.at_named x t.pos) (t ∷ us) q → Reads (at_simple x) (t ∷ us) q
  a_name t us q i f = looks Refuse (simple_turn x) t us (at.at_named x t.pos) (λ m. ap (λ s. simple_turn x m s t) i) f

  pub a_pragma : (t : Token) (us : Tokens) (q : Reading Statement) → Is symbol.Pragma t → Reads (at.at_exemption x t.pos) (t ∷ us) q → Reads (at_simple x) (t ∷ us) q
  a_pragma t us q i f = looks Refuse (simple_turn x) t us (at.at_exemption x t.pos) (λ m. ap (λ s. simple_turn x m s t) i) f

  pub an_exit : (t : Token) (us : Tokens) (q : Reading Statement) → Is symbol.Exit t → opens x Decisions ≡ true → Reads (at.at_exit x t.pos) us q → Reads (at_simple x) (t ∷ us) q
  an_exit t us q i o f = takes Refuse (simple_turn x) t us (at.at_exit x t.pos) (λ m. ap (λ s. simple_turn x m s t) i ∙ ap (λ b. provided b (Take (at.at_exit x t.pos m))) o) f

  pub exit_closed : (t : Token) (us : Tokens) → Is symbol.Exit t → opens x Decisions ≡ false → Reads (at_simple x) (t ∷ us) (Stuck (t ∷ us))
  exit_closed t us i o = refuses Refuse (simple_turn x) t us (λ m. ap (λ s. simple_turn x m s t) i ∙ ap (λ b. provided b (Take (at.at_exit x t.pos m))) o)

  pub a_return : (t : Token) (us : Tokens) (q : Reading Statement) → Is symbol.Return t → Reads (at.at_return x t.pos) us q → Reads (at_simple x) (t ∷ us) q
  a_return t us q i f = takes Refuse (simple_turn x) t us (at.at_return x t.pos) (λ m. ap (λ s. simple_turn x m s t) i) f

  pub a_raise : (t : Token) (us : Tokens) (q : Reading Statement) → Is symbol.Raise t → opens x Exceptions ≡ true → Reads (at.at_raise x t.pos) us q → Reads (at_simple x) (t ∷ us) q
  a_raise t us q i o f = takes Refuse (simple_turn x) t us (at.at_raise x t.pos) (λ m. ap (λ s. simple_turn x m s t) i ∙ ap (λ b. provided b (Take (at.at_raise x t.pos m))) o) f

  pub raise_closed : (t : Token) (us : Tokens) → Is symbol.Raise t → opens x Exceptions ≡ false → Reads (at_simple x) (t ∷ us) (Stuck (t ∷ us))
  raise_closed t us i o = refuses Refuse (simple_turn x) t us (λ m. ap (λ s. simple_turn x m s t) i ∙ ap (λ b. provided b (Take (at.at_raise x t.pos m))) o)

  not_simple_at : (m : ℕ) (s : Symbol) (t : Token) → (s ≡ symbol.Null → ⊥) → (s ≡ symbol.Identifier → ⊥) → (s ≡ symbol.Pragma → ⊥) → (s ≡ symbol.Exit → ⊥) → (s ≡ symbol.Return → ⊥) → (s ≡ symbol.Raise → ⊥) → simple_turn x m s t ≡ Refuse
  not_simple_at m symbol.Null t a b c d e f = absurd (a refl)
  not_simple_at m symbol.Identifier t a b c d e f = absurd (b refl)
  not_simple_at m symbol.Pragma t a b c d e f = absurd (c refl)
  not_simple_at m symbol.Exit t a b c d e f = absurd (d refl)
  not_simple_at m symbol.Return t a b c d e f = absurd (e refl)
  not_simple_at m symbol.Raise t a b c d e f = absurd (f refl)
  not_simple_at m _ t a b c d e f = refl

  pub not_simple : (t : Token) (us : Tokens) → (symbol_of t.lexeme ≡ symbol.Null → ⊥) → (symbol_of t.lexeme ≡ symbol.Identifier → ⊥) → (symbol_of t.lexeme ≡ symbol.Pragma → ⊥) → (symbol_of t.lexeme ≡ symbol.Exit → ⊥)
      → (symbol_of t.lexeme ≡ symbol.Return → ⊥) → (symbol_of t.lexeme ≡ symbol.Raise → ⊥) → Reads (at_simple x) (t ∷ us) (Stuck (t ∷ us))
  not_simple t us a b c d e f = refuses Refuse (simple_turn x) t us (λ m. not_simple_at m (symbol_of t.lexeme) t a b c d e f)

  -- each statement is one of the two
  abbrev statement_on : ℕ → Symbol → Token → Turn Statement
  statement_on m = read.statement_turn x (read.statements x m) m

  abbrev compound_on : ℕ → Symbol → Token → Turn Statement
  compound_on m = read.compound_turn x (read.statements x m) m

  compound_at : (m : ℕ) (s : Symbol) (t : Token) → begins_compound s ≡ true → statement_on m s t ≡ Look (at.at_compound x m)
  compound_at m symbol.If t b = refl
  compound_at m symbol.Case t b = refl
  compound_at m symbol.Loop t b = refl
  compound_at m symbol.While t b = refl
  compound_at m symbol.For t b = refl
  compound_at m symbol.Begin t b = refl
  compound_at m symbol.Declare t b = refl
  compound_at m _ t b = absurd (false≢true b)

  pub compound_is_read : (ts : Tokens) (q : Reading Statement) → next_is begins_compound ts ≡ true → Reads (at.at_compound x) ts q → Reads (at.at_statement x) ts q
  compound_is_read [] q b f = absurd (false≢true b)
  compound_is_read (t ∷ us) q b f = looks Refuse statement_on t us (at.at_compound x) (λ m. compound_at m (symbol_of t.lexeme) t b) f

  -- what the two readers make of a symbol that begins no statement with statements in it
  data Told (m : ℕ) (s : Symbol) (t : Token) : Type 0 where
    Alike : statement_on m s t ≡ simple_turn x m s t → Told m s t
    Refused : statement_on m s t ≡ Look (at.at_compound x m) → compound_on m s t ≡ Refuse → simple_turn x m s t ≡ Refuse → Told m s t

  told : (m : ℕ) (s : Symbol) (t : Token) → begins_compound s ≡ false → Told m s t
  told m symbol.Null t b = Alike refl
  told m symbol.Identifier t b = Alike refl
  told m symbol.Pragma t b = Alike refl
  told m symbol.Exit t b = Alike refl
  told m symbol.Return t b = Alike refl
  told m symbol.Raise t b = Alike refl
  told m symbol.If t b = absurd (false≢true (sym b))
  told m symbol.Case t b = absurd (false≢true (sym b))
  told m symbol.Loop t b = absurd (false≢true (sym b))
  told m symbol.While t b = absurd (false≢true (sym b))
  told m symbol.For t b = absurd (false≢true (sym b))
  told m symbol.Begin t b = absurd (false≢true (sym b))
  told m symbol.Declare t b = absurd (false≢true (sym b))
  told m _ t b = Refused refl refl refl

  same_turn : (m : ℕ) (t : Token) (us : Tokens) → Told m (symbol_of t.lexeme) t → turned (statement_on m (symbol_of t.lexeme) t) t us ≡ turned (simple_turn x m (symbol_of t.lexeme) t) t us
  same_turn m t us (Alike e) = ap (λ z. turned z t us) e
  same_turn m t us (Refused e r s) = ap (λ z. turned z t us) e ∙ (ap (λ z. turned z t us) r ∙ sym (ap (λ z. turned z t us) s))

  pub simple_is_read : (ts : Tokens) (q : Reading Statement) → next_is begins_compound ts ≡ false → Reads (at_simple x) ts q → Reads (at.at_statement x) ts q
  simple_is_read [] q b f = record { by = λ m h. f.by m h }
  simple_is_read (t ∷ us) q b f = record { by = λ m h. same_turn m t us (told m (symbol_of t.lexeme) t b) ∙ f.by m h }

pub ruleset simple_rules = (nothing_left, a_null, a_name, a_pragma, an_exit, exit_closed, a_return, a_raise, raise_closed, not_simple)
