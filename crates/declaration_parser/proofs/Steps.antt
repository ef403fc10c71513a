-- Steps of the code over any readers: a part is read, a word is taken, or one of them fails.
use Rattle.std.proofs.Common.{◌≡◌, ℕ, ◌≤◌, false, List, [], ◌∷◌, length, Some, None, refl, ap, sym, ◌∙◌, subst, arith}
use Rattle.ada_lexer.specs.declared.token.Token.{Token}
use Rattle.ada_syntax.specs.declared.name.Identifier.{Identifier}
use Rattle.expression_parser.specs.declared.symbol.Symbol.{Symbol}
use Rattle.expression_parser.specs.declared.symbol.Symbol.TheVariants as symbol
use Rattle.expression_parser.specs.Symbols.{symbol_of, same, identifier_of}
use Rattle.expression_parser.specs.Reading.{Tokens, Reading, Reader, Got, Stuck, Turn, Refuse, Leave, Take, got, goes_on, ◌>>=◌, turned, on_token, expect, skip}
use Rattle.expression_parser.specs.Shows.{Reads, Skipped, Identified, after}
use Rattle.expression_parser.proofs.Comes.{got_bind, got_then, on_symbol}
use Rattle.expression_parser.proofs.NameCode.{after_some, after_none}
use Rattle.declaration_parser.specs.DeclarationReading.{spelled_by, skip_word}
use Rattle.declaration_parser.specs.Answers.{Spelled, Quoted}

pub then_reads : {A B : Type 0} (r : ℕ → Reader A) (k : ℕ → A → Reader B) (ts us : Tokens) (a : A) (q : Reading B) → Reads r ts (Got a us) → length us ≤ length ts → Reads (λ m. k m a) us q
    → Reads (λ m. r m >>= k m) ts q
then_reads r k ts us a q h l s = record { by = λ m n. got_bind (k m) (h.by m n) (s.by m (omega (arith, l, n))) }

pub then_stuck : {A B : Type 0} (r : ℕ → Reader A) (k : ℕ → A → Reader B) (ts rest : Tokens) → Reads r ts (Stuck rest) → Reads (λ m. r m >>= k m) ts (Stuck rest)
then_stuck r k ts rest h = record { by = λ m n. ap (goes_on (k m)) (h.by m n) }

pub skip_reads : {B : Type 0} (s : Symbol) (r : ℕ → Reader B) (ts us : Tokens) (q : Reading B) → Skipped s ts us → Reads r us q → Reads (λ m. skip s (r m)) ts q
skip_reads s r ts us q k h = record { by = λ m n. got_bind (λ _. r m) k.here (h.by m (omega (arith, k.shorter, n))) }

pub skip_stuck : {B : Type 0} (s : Symbol) (r : ℕ → Reader B) (ts rest : Tokens) → expect s ts ≡ Stuck rest → Reads (λ m. skip s (r m)) ts (Stuck rest)
skip_stuck s r ts rest e = record { by = λ m n. ap (goes_on (λ _. r m)) e }

pub named_reads : {B : Type 0} (k : ℕ → Identifier → Reader B) (ts us : Tokens) (i : Identifier) (q : Reading B) → Identified ts us i → Reads (λ m. k m i) us q
    → Reads (λ m. expect symbol.Identifier >>= λ t. k m (identifier_of t)) ts q
named_reads k ts us i q j h = record { by = λ m n. got_bind (λ t. k m (identifier_of t)) j.here (ap (λ i. k m i us) (sym j.same) ∙ h.by m (omega (arith, j.shorter, n))) }

pub named_stuck : {B : Type 0} (k : ℕ → Identifier → Reader B) (ts rest : Tokens) → expect symbol.Identifier ts ≡ Stuck rest
    → Reads (λ m. expect symbol.Identifier >>= λ t. k m (identifier_of t)) ts (Stuck rest)
named_stuck k ts rest e = record { by = λ m n. ap (goes_on (λ t. k m (identifier_of t))) e }

pub got_reads : {A : Type 0} (a : A) (ts : Tokens) → Reads (λ m. got a) ts (Got a ts)
got_reads a ts = record { by = λ m n. refl }

pub then_got_reads : {A B : Type 0} (r : ℕ → Reader A) (f : A → B) (ts us : Tokens) (a : A) → Reads r ts (Got a us) → Reads (λ m. r m >>= λ z. got (f z)) ts (Got (f a) us)
then_got_reads r f ts us a h = record { by = λ m n. got_then f (h.by m n) }

pub now_reads : {A B : Type 0} (r : Reader A) (k : ℕ → A → Reader B) (ts us : Tokens) (a : A) (q : Reading B) → r ts ≡ Got a us → length us ≤ length ts → Reads (λ m. k m a) us q
    → Reads (λ m. r >>= k m) ts q
now_reads r k ts us a q h l s = record { by = λ m n. got_bind (k m) h (s.by m (omega (arith, l, n))) }

pub word_reads : {B : Type 0} (spelling : List ℕ) (r : ℕ → Reader B) (ts us : Tokens) (q : Reading B) → Spelled spelling ts us → Reads r us q → Reads (λ m. skip_word spelling (r m)) ts q
word_reads spelling r ts us q k h = record { by = λ m n. got_bind (λ _. r m) k.here (h.by m (omega (arith, k.shorter, n))) }

pub word_stuck : {B : Type 0} (spelling : List ℕ) (r : ℕ → Reader B) (ts rest : Tokens) → spelled_by spelling ts ≡ Stuck rest → Reads (λ m. skip_word spelling (r m)) ts (Stuck rest)
word_stuck spelling r ts rest e = record { by = λ m n. ap (goes_on (λ _. r m)) e }

pub quoted_reads : {B : Type 0} (k : ℕ → List ℕ → Reader B) (ts us : Tokens) (text : List ℕ) (q : Reading B) → Quoted ts us text → Reads (λ m. k m text) us q
    → Reads (λ m. expect symbol.Text >>= λ t. k m t.text) ts q
quoted_reads k ts us text q j h = record { by = λ m n. got_bind (λ t. k m t.text) j.here (ap (λ i. k m i us) (sym j.same) ∙ h.by m (omega (arith, j.shorter, n))) }

pub quoted_stuck : {B : Type 0} (k : ℕ → List ℕ → Reader B) (ts rest : Tokens) → expect symbol.Text ts ≡ Stuck rest → Reads (λ m. expect symbol.Text >>= λ t. k m t.text) ts (Stuck rest)
quoted_stuck k ts rest e = record { by = λ m n. ap (goes_on (λ t. k m t.text)) e }

-- the next token is a word, or it is not
pub turn_taken : {A : Type 0} (e : Turn A) (turn : ℕ → Symbol → Token → Turn A) (s : Symbol) (ts us : Tokens) (r : ℕ → Reader A) (q : Reading A) → after s ts ≡ Some us → ((m : ℕ) (t : Token) → turn m s t ≡ Take (r m))
    → Reads r us q → Reads (λ m. on_token e (turn m)) ts q
turn_taken e turn s ts us r q a h f =
    let n = after_some s ts us a in
    subst (λ z. Reads (λ m. on_token e (turn m)) z q) (sym n.here)
    (record { by = λ m l. on_symbol e (turn m) s n.t us n.is ∙ (ap (λ z. turned z n.t us) (h m n.t) ∙ f.by m (omega arith)) })

pub turn_refused : {A : Type 0} (e : Turn A) (turn : ℕ → Symbol → Token → Turn A) (s : Symbol) (ts us rest : Tokens) → after s ts ≡ Some us → ((m : ℕ) (t : Token) → turn m s t ≡ Refuse)
    → rest ≡ ts → Reads (λ m. on_token e (turn m)) ts (Stuck rest)
turn_refused e turn s ts us rest a h p =
    let n = after_some s ts us a in
    record { by = λ m l. ap (on_token e (turn m)) n.here ∙ (on_symbol e (turn m) s n.t us n.is ∙ (ap (λ z. turned z n.t us) (h m n.t) ∙ ap Stuck (sym n.here ∙ sym p))) }

pub turn_left : {A : Type 0} (x : A) (turn : ℕ → Symbol → Token → Turn A) (s : Symbol) (ts : Tokens) → after s ts ≡ None → ((m : ℕ) (found : Symbol) (t : Token) → same found s ≡ false → turn m found t ≡ Leave x)
    → Reads (λ m. on_token (Leave x) (turn m)) ts (Got x ts)
turn_left x turn s [] a h = record { by = λ m l. refl }
turn_left x turn s (t ∷ us) a h = record { by = λ m l. ap (λ z. turned z t us) (h m (symbol_of t.lexeme) t (after_none s t us a).is_not) }
