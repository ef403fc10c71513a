-- What was read, with given words behind it, over any readers.
use Rattle.std.proofs.Common.{◌≡◌, ℕ, ◌<◌, ◌≤◌, List, length, refl, ap, sym, ◌∙◌, subst, arith}
use Rattle.std.specs.Prelude.{Result, Ok, Err, ⊤, IfOk}
use Rattle.std.specs.Borrow.{Bor}
use Rattle.ada_syntax.specs.declared.name.Identifier.{Identifier}
use Rattle.expression_parser.specs.declared.fault.Fault.{Fault}
use Rattle.expression_parser.specs.declared.fault.Fault.TheVariants.{Syntax, Memory}
use Rattle.expression_parser.specs.declared.symbol.Symbol.{Symbol}
use Rattle.expression_parser.specs.declared.symbol.Symbol.TheVariants as symbol
use Rattle.expression_parser.specs.Symbols.{identifier_of}
use Rattle.expression_parser.specs.Reading.{Tokens, Reading, Reader, Got, Stuck, got, ◌>>=◌, expect, skip}
use Rattle.expression_parser.specs.Shows.{Shows, ShowsAs, Reads, Skipped, TakesWord, TakesIdentifier}
use Rattle.expression_parser.proofs.Faults.{failed}
use Rattle.declaration_parser.specs.Answers.{TakesText}
use Rattle.declaration_parser.specs.Closing.{Closes}
use Rattle.declaration_parser.proofs.Steps.{then_reads, then_stuck, skip_reads, skip_stuck, named_reads, named_stuck, quoted_reads, quoted_stuck, now_reads}

abbrev pub read_so : {A : Type 0} → A → Bor Tokens → Result (A × Bor Tokens) Fault
read_so a us = Ok (a, us)

pub no_closing : {A : Type 0} (s : Symbol) (a : A) (us : Bor Tokens) (f : Fault) → TakesWord s us.now (failed f) → Closes s (read_so a us) (failed f)
no_closing s a us (Syntax rest) h = h
no_closing s a us Memory h = tt

-- no more tokens are left than there were
abbrev pub Within : {C : Type 0} → Tokens → Result (C × Bor Tokens) Fault → Type 0
Within ts p = IfOk p (λ x. length x.1.now ≤ length ts)

abbrev pub Below : {C : Type 0} → Tokens → Result (C × Bor Tokens) Fault → Type 0
Below ts p = IfOk p (λ x. length x.1.now < length ts)

pub within_below : {C : Type 0} (ts : Tokens) (p : Result (C × Bor Tokens) Fault) → Below ts p → Within ts p
within_below ts (Ok x) h = omega (arith, h)
within_below ts (Err f) h = tt

-- what is left of what is left
pub below_behind : {C : Type 0} (ts us : Tokens) (p : Result (C × Bor Tokens) Fault) → length us ≤ length ts → Below us p → Below ts p
below_behind ts us (Ok x) l h = omega (arith, l, h)
below_behind ts us (Err f) l h = tt

pub closed_below : {C : Type 0} (s : Symbol) (ts : Tokens) (p r : Result (C × Bor Tokens) Fault) → Within ts p → Closes s p r → Below ts r
closed_below s ts (Ok x) (Ok y) h c = omega (arith, h, c.1.shorter)
closed_below s ts (Ok x) (Err f) h c = tt
closed_below s ts (Err f) (Ok y) h c = absurd c
closed_below s ts (Err f) (Err g) h c = tt

pub named_within : (ts : Tokens) (p : Result (Identifier × Bor Tokens) Fault) → TakesIdentifier ts p → Within ts p
named_within ts (Ok x) h = omega (arith, h.shorter)
named_within ts (Err f) h = tt

pub text_within : (ts : Tokens) (p : Result (List ℕ × Bor Tokens) Fault) → TakesText ts p → Within ts p
text_within ts (Ok x) h = omega (arith, h.shorter)
text_within ts (Err f) h = tt

-- this answer leads on: `w k` reads as `k` does, applied to what was read, behind it
abbrev pub Leads : {A B C : Type 0} → (C → A) → ((ℕ → A → Reader B) → ℕ → Reader B) → Tokens → Result (C × Bor Tokens) Fault → Type 0
Leads {A} {B} {C} view w ts (Ok x) = ((k : ℕ → A → Reader B) (q : Reading B) → Reads (λ m. k m (view x.0)) x.1.now q → Reads (w k) ts q) × (length x.1.now ≤ length ts)
Leads {A} {B} {C} view w ts (Err (Syntax rest)) = (k : ℕ → A → Reader B) → Reads (w k) ts (Stuck rest.now)
Leads {A} {B} {C} view w ts (Err Memory) = ⊤

-- what is read first, and then something else; an identifier first; the same with a given word between
abbrev pub read_then : {A B : Type 0} → (ℕ → Reader A) → (ℕ → A → Reader B) → ℕ → Reader B
read_then r k m = r m >>= k m

abbrev pub name_then : {B : Type 0} → (ℕ → Identifier → Reader B) → ℕ → Reader B
name_then k m = expect symbol.Identifier >>= λ t. k m (identifier_of t)

abbrev pub text_then : {B : Type 0} → (ℕ → List ℕ → Reader B) → ℕ → Reader B
text_then k m = expect symbol.Text >>= λ t. k m t.text

abbrev pub given : {A B : Type 0} → A → (ℕ → A → Reader B) → ℕ → Reader B
given a k m = k m a

abbrev pub closed : {A B : Type 0} → Symbol → ((ℕ → A → Reader B) → ℕ → Reader B) → (ℕ → A → Reader B) → ℕ → Reader B
closed s w k = w (λ m a. skip s (k m a))

module _ (B : Type 0) {A C : Type 0} (view : C → A) where
  pub leads : (r : ℕ → Reader A) (ts : Tokens) (p : Result (C × Bor Tokens) Fault) → ShowsAs view (Reads r ts) p → Within ts p → Leads {B = B} view (read_then r) ts p
  leads r ts (Ok x) h l = (λ k q s. then_reads r k ts x.1.now (view x.0) q h l s, l)
  leads r ts (Err (Syntax rest)) h l = λ k. then_stuck r k ts rest.now h
  leads r ts (Err Memory) h l = tt

module _ {A B C : Type 0} (view : C → A) where
  still_fails : (w : (ℕ → A → Reader B) → ℕ → Reader B) (s : Symbol) (ts : Tokens) (f : Fault) → Leads view w ts (failed f) → Leads view (closed s w) ts (failed f)
  still_fails w s ts (Syntax rest) h = λ k. h (λ m a. skip s (k m a))
  still_fails w s ts Memory h = tt

  pub closes : (w : (ℕ → A → Reader B) → ℕ → Reader B) (s : Symbol) (ts : Tokens) (p r : Result (C × Bor Tokens) Fault) → Leads view w ts p → Closes s p r
      → Leads view (closed s w) ts r
  closes w s ts (Ok x) (Ok y) h c = (
    λ k q g. h.0 (λ m a. skip s (k m a)) q (skip_reads s (λ m. k m (view x.0)) x.1.now y.1.now q c.1 (subst (λ z. Reads (λ m. k m (view z)) y.1.now q) c.0 g)),
    omega (arith, h.1, c.1.shorter),
  )
  closes w s ts (Ok x) (Err (Syntax rest)) h c = λ k. h.0 (λ m a. skip s (k m a)) (Stuck rest.now) (skip_stuck s (λ m. k m (view x.0)) x.1.now rest.now c)
  closes w s ts (Ok x) (Err Memory) h c = tt
  closes w s ts (Err f) (Ok y) h c = absurd c
  closes w s ts (Err f) (Err g) h c = subst (λ z. Leads view (closed s w) ts (failed z)) (sym c) (still_fails w s ts f h)

  -- where reading stopped there, so does the whole
  pub stops : (w : (ℕ → A → Reader B) → ℕ → Reader B) (k : ℕ → A → Reader B) (ts : Tokens) (f : Fault) → Leads view w ts (failed f) → Shows (Reads (w k) ts) (failed f)
  stops w k ts (Syntax rest) h = h k
  stops w k ts Memory h = tt

  -- and where it didn't, the rest tells
  pub goes : (w : (ℕ → A → Reader B) → ℕ → Reader B) (k : ℕ → A → Reader B) (ts : Tokens) (c : C) (us : Bor Tokens) (q : Result (B × Bor Tokens) Fault) → Leads view w ts (read_so c us)
      → Shows (Reads (λ m. k m (view c)) us.now) q → Shows (Reads (w k) ts) q
  goes w k ts c us (Ok y) h s = h.0 k (Got y.0 y.1.now) s
  goes w k ts c us (Err (Syntax rest)) h s = h.0 k (Stuck rest.now) s
  goes w k ts c us (Err Memory) h s = tt

module _ (B : Type 0) where
  pub named_leads : (ts : Tokens) (p : Result (Identifier × Bor Tokens) Fault) → TakesIdentifier ts p → Leads {B = B} (λ i. i) name_then ts p
  named_leads ts (Ok x) h = (λ k q s. named_reads k ts x.1.now x.0 q h s, omega (arith, h.shorter))
  named_leads ts (Err (Syntax rest)) h = λ k. named_stuck k ts rest.now h
  named_leads ts (Err Memory) h = tt

  pub text_leads : (ts : Tokens) (p : Result (List ℕ × Bor Tokens) Fault) → TakesText ts p → Leads {B = B} (λ t. t) text_then ts p
  text_leads ts (Ok x) h = (λ k q s. quoted_reads k ts x.1.now x.0 q h s, omega (arith, h.shorter))
  text_leads ts (Err (Syntax rest)) h = λ k. quoted_stuck k ts rest.now h
  text_leads ts (Err Memory) h = tt

pub given_leads : (B : Type 0) {A : Type 0} (a : A) (us : Bor Tokens) → Leads {B = B} (λ z. z) (given a) us.now (read_so a us)
given_leads B a us = (λ k q s. s, omega arith)

-- what was read is the answer
pub leads_got : {A C : Type 0} (view : C → A) (w : (ℕ → A → Reader A) → ℕ → Reader A) (ts : Tokens) (r : Result (C × Bor Tokens) Fault) → Leads view w ts r → ShowsAs view (Reads (w (λ m a. got a)) ts) r
leads_got view w ts (Ok x) h = h.0 (λ m a. got a) (Got (view x.0) x.1.now) (record { by = λ m n. refl })
leads_got view w ts (Err (Syntax rest)) h = h (λ m a. got a)
leads_got view w ts (Err Memory) h = tt

-- two readers that read these tokens alike
pub shows_as_well : {A : Type 0} (f g : ℕ → Reader A) (ts : Tokens) (r : Result (A × Bor Tokens) Fault) → ((m : ℕ) → g m ts ≡ f m ts) → Shows (Reads f ts) r → Shows (Reads g ts) r
shows_as_well f g ts (Ok x) e h = record { by = λ m n. e m ∙ h.by m n }
shows_as_well f g ts (Err (Syntax rest)) e h = record { by = λ m n. e m ∙ h.by m n }
shows_as_well f g ts (Err Memory) e h = tt

-- a given word first
module _ {B : Type 0} (s : Symbol) (r : ℕ → Reader B) (ts : Tokens) where
  pub word_stops : (f : Fault) → TakesWord s ts (failed f) → Shows (Reads (λ m. skip s (r m)) ts) (failed f)
  word_stops (Syntax rest) h = skip_stuck s r ts rest.now h
  word_stops Memory h = tt

  pub word_goes : (us : Tokens) (q : Result (B × Bor Tokens) Fault) → Skipped s ts us → Shows (Reads r us) q → Shows (Reads (λ m. skip s (r m)) ts) q
  word_goes us (Ok y) h g = skip_reads s r ts us (Got y.0 y.1.now) h g
  word_goes us (Err (Syntax rest)) h g = skip_reads s r ts us (Stuck rest.now) h g
  word_goes us (Err Memory) h g = tt

-- a part that is always there first
pub now_goes : {A B : Type 0} (r : Reader A) (k : ℕ → A → Reader B) (ts us : Tokens) (a : A) (q : Result (B × Bor Tokens) Fault) → r ts ≡ Got a us → length us ≤ length ts → Shows (Reads (λ m. k m a) us) q
    → Shows (Reads (λ m. r >>= k m) ts) q
now_goes r k ts us a (Ok y) h l g = now_reads r k ts us a (Got y.0 y.1.now) h l g
now_goes r k ts us a (Err (Syntax rest)) h l g = now_reads r k ts us a (Stuck rest.now) h l g
now_goes r k ts us a (Err Memory) h l g = tt

-- what was read in another form
pub same_got : {A : Type 0} (a b : A) (us : Tokens) → b ≡ a → Reads (λ m. got a) us (Got b us)
same_got a b us e = record { by = λ m n. ap (λ z. Got z us) (sym e) }

-- a whole that stands before given words
module _ {A : Type 0} (a : A) (ts : Bor Tokens) where
  word_leads : (s : Symbol) (r : Result (A × Bor Tokens) Fault) → Closes s (read_so a ts) r → Leads {B = A} (λ z. z) (closed s (given a)) ts.now r
  word_leads s r c = closes (λ z. z) (given a) s ts.now (read_so a ts) r (given_leads A a ts) c

  pub before_word : (s : Symbol) (r : Result (A × Bor Tokens) Fault) → Closes s (read_so a ts) r → Shows (Reads (λ m. skip s (got a)) ts.now) r
  before_word s r c = leads_got (λ z. z) (closed s (given a)) ts.now r (word_leads s r c)

  module _ (s t : Symbol) (p r : Result (A × Bor Tokens) Fault) where
    pub before_words : Closes s (read_so a ts) p → Closes t p r → Shows (Reads (λ m. skip s (skip t (got a))) ts.now) r
    before_words c d = leads_got (λ z. z) (closed t (closed s (given a))) ts.now r (closes (λ z. z) (closed s (given a)) t ts.now p r (word_leads s p c) d)

    pub words_below : Closes s (read_so a ts) p → Closes t p r → Below ts.now r
    words_below c d = closed_below t ts.now p r (within_below ts.now p (closed_below s ts.now (read_so a ts) p (omega arith) c)) d
