-- A part with a word behind it: what was read before it, or what failed.
use Rattle.std.proofs.Common.{◌≡◌, ℕ, length, sym, subst}
use Rattle.std.specs.Prelude.{Result, Ok, Err, IfOk}
use Rattle.std.specs.Borrow.{Bor}
use Rattle.ada_syntax.specs.declared.name.Identifier.{Identifier}
use Rattle.expression_parser.specs.declared.fault.Fault.{Fault}
use Rattle.expression_parser.specs.declared.fault.Fault.TheVariants.{Syntax, Memory}
use Rattle.expression_parser.specs.declared.symbol.Symbol.{Symbol}
use Rattle.expression_parser.specs.declared.symbol.Symbol.TheVariants as symbol
use Rattle.expression_parser.specs.Reading.{Tokens, Reading, Reader, Got, Stuck, expect}
use Rattle.expression_parser.specs.Shows.{Shows, ShowsAs, Reads, Skipped, Identified, TakesIdentifier}
use Rattle.expression_parser.proofs.Faults.{failed}
use Rattle.declaration_parser.specs.Closing.{Closes}
use Rattle.declaration_parser.proofs.Closings.{read_so}
use Rattle.ada_parser.specs.Endings.{NotClosed, NotEnded, TakesClosing, TakesEnd}

-- what was read before a word; `N` is what is known of the tokens that were left
pub record BeforeWord {A C : Type 0} (view : C → A) (r : ℕ → Reader A) (N : ℕ → Type 0) (s : Symbol) (ts : Tokens) (c : C) (us : Tokens) : Type 0 where
  pub before : Tokens
  pub reads : Reads r ts (Got (view c) before)
  pub near : N (length before)
  pub word : Skipped s before us

module _ {A C : Type 0} (view : C → A) (r : ℕ → Reader A) (N : ℕ → Type 0) (s : Symbol) (ts : Tokens) where
  pub before_word : (p : Result (C × Bor Tokens) Fault) (c : C) (us : Bor Tokens) → ShowsAs view (Reads r ts) p → IfOk p (λ x. N (length x.1.now)) → Closes s p (read_so c us) → BeforeWord view r N s ts c us.now
  before_word (Ok x) c us h n k = record { before = x.1.now; reads = subst (λ z. Reads r ts (Got (view z) x.1.now)) (sym k.0) h; near = n; word = k.1 }
  before_word (Err f) c us h n k = absurd k

  module _ {B : Type 0} (Q : Reading B → Type 0) (stuck : (rest : Tokens) → Reads r ts (Stuck rest) → Q (Stuck rest)) where
    fault : (f : Fault) → ShowsAs view (Reads r ts) (failed f) → Shows Q (failed f)
    fault (Syntax rest) h = stuck rest.now h
    fault Memory h = tt

    pub word_fails : (p : Result (C × Bor Tokens) Fault) (f : Fault) → ShowsAs view (Reads r ts) p → IfOk p (λ x. N (length x.1.now)) → Closes s p (failed f)
        → ((c : C) (us rest : Tokens) → Reads r ts (Got (view c) us) → N (length us) → expect s us ≡ Stuck rest → Q (Stuck rest))
        → Shows Q (failed f)
    word_fails (Ok x) (Syntax rest) h n k g = g x.0 x.1.now rest.now h n k
    word_fails (Ok x) Memory h n k g = tt
    word_fails (Err e) f h n k g = subst (λ z. Shows Q (failed z)) (sym k) (fault e h)

-- the words at the end of a statement
module _ {B : Type 0} (Q : Reading B → Type 0) where
  pub closing_fails : (s : Symbol) (ts : Tokens) (f : Fault) → TakesClosing s ts (failed f) → ((rest : Tokens) → NotClosed s ts rest → Q (Stuck rest)) → Shows Q (failed f)
  closing_fails s ts (Syntax rest) h g = g rest.now h
  closing_fails s ts Memory h g = tt

  pub end_fails : (ts : Tokens) (f : Fault) → TakesEnd ts (failed f) → ((rest : Tokens) → NotEnded ts rest → Q (Stuck rest)) → Shows Q (failed f)
  end_fails ts (Syntax rest) h g = g rest.now h
  end_fails ts Memory h g = tt

-- a fault of the last part
pub part_fails : {A B : Type 0} (P : Reading A → Type 0) (Q : Reading B → Type 0) (f : Fault) → Shows P (failed f) → ((rest : Tokens) → P (Stuck rest) → Q (Stuck rest)) → Shows Q (failed f)
part_fails P Q (Syntax rest) h g = g rest.now h
part_fails P Q Memory h g = tt

-- an identifier, alone and with a word behind it
pub record NameBefore (s : Symbol) (ts : Tokens) (i : Identifier) (us : Tokens) : Type 0 where
  pub before : Tokens
  pub name : Identified ts before i
  pub word : Skipped s before us

pub before_name : (s : Symbol) (ts : Tokens) (p : Result (Identifier × Bor Tokens) Fault) (i : Identifier) (us : Bor Tokens) → TakesIdentifier ts p → Closes s p (read_so i us) → NameBefore s ts i us.now
before_name s ts (Ok x) i us h k = record { before = x.1.now; name = subst (λ z. Identified ts x.1.now z) (sym k.0) h; word = k.1 }
before_name s ts (Err f) i us h k = absurd k

module _ {B : Type 0} (Q : Reading B → Type 0) (ts : Tokens) (stuck : (rest : Tokens) → expect symbol.Identifier ts ≡ Stuck rest → Q (Stuck rest)) where
  pub name_fails : (f : Fault) → TakesIdentifier ts (failed f) → Shows Q (failed f)
  name_fails (Syntax rest) h = stuck rest.now h
  name_fails Memory h = tt

  pub name_word_fails : (s : Symbol) (p : Result (Identifier × Bor Tokens) Fault) (f : Fault) → TakesIdentifier ts p → Closes s p (failed f)
      → ((i : Identifier) (us rest : Tokens) → Identified ts us i → expect s us ≡ Stuck rest → Q (Stuck rest))
      → Shows Q (failed f)
  name_word_fails s (Ok x) (Syntax rest) h k g = g x.0 x.1.now rest.now h k
  name_word_fails s (Ok x) Memory h k g = tt
  name_word_fails s (Err e) f h k g = subst (λ z. Shows Q (failed z)) (sym k) (name_fails e h)

-- readings of the one kind are readings of the other
pub shown_so : {A C : Type 0} (view : C → A) (P Q : Reading A → Type 0) (r : Result (C × Bor Tokens) Fault) → ShowsAs view P r → ((q : Reading A) → P q → Q q) → ShowsAs view Q r
shown_so view P Q (Ok x) h g = g (Got (view x.0) x.1.now) h
shown_so view P Q (Err (Syntax rest)) h g = g (Stuck rest.now) h
shown_so view P Q (Err Memory) h g = tt

-- a whole that stands before a word
pub word_after : {A C : Type 0} (view : C → A) (Q : Reading A → Type 0) (s : Symbol) (a : C) (us : Bor Tokens) (r : Result (C × Bor Tokens) Fault) → Closes s (read_so a us) r
    → ((rest : Tokens) → Skipped s us.now rest → Q (Got (view a) rest)) → ((rest : Tokens) → expect s us.now ≡ Stuck rest → Q (Stuck rest)) → ShowsAs view Q r
word_after view Q s a us (Ok y) k g h = subst (λ z. Q (Got (view z) y.1.now)) (sym k.0) (g y.1.now k.1)
word_after view Q s a us (Err (Syntax rest)) k g h = h rest.now k
word_after view Q s a us (Err Memory) k g h = tt
