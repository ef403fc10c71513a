-- Two parts, one behind the other: what follows for both from what is known of the second part's answer.
use Rattle.std.proofs.Common.{◌≡◌, ℕ, ◌<◌, ◌≤◌, length, ap, sym, subst, arith}
use Rattle.std.specs.Prelude.{Result, Ok, Err, IfOk}
use Rattle.std.specs.Borrow.{Bor}
use Rattle.expression_parser.specs.declared.fault.Fault.{Fault}
use Rattle.expression_parser.specs.declared.fault.Fault.TheVariants.{Syntax, Memory}
use Rattle.expression_parser.specs.declared.symbol.Symbol.{Symbol}
use Rattle.expression_parser.specs.Reading.{Tokens, Reading, Got, Stuck, expect}
use Rattle.expression_parser.specs.Shows.{Shows, ShowsAs}
use Rattle.expression_parser.proofs.Faults.{failed}
use Rattle.declaration_parser.specs.Closing.{Closes}
use Rattle.declaration_parser.specs.Pairs.{Pairs}
use Rattle.declaration_parser.proofs.Closings.{read_so}

-- a word that does not stand behind what was read before
pub not_closed : {B C : Type 0} (Q : Reading B → Type 0) (s : Symbol) (c : C) (us : Bor Tokens) (f : Fault) → Closes s (read_so c us) (failed f) → ((rest : Tokens) → expect s us.now ≡ Stuck rest → Q (Stuck rest)) → Shows Q (failed f)
not_closed Q s c us (Syntax rest) h g = g rest.now h
not_closed Q s c us Memory h g = tt

-- readings of the one kind are readings of the other
pub as_well : {A : Type 0} (P Q : Reading A → Type 0) (r : Result (A × Bor Tokens) Fault) → Shows P r → ((q : Reading A) → P q → Q q) → Shows Q r
as_well P Q (Ok x) h g = g (Got x.0 x.1.now) h
as_well P Q (Err (Syntax rest)) h g = g (Stuck rest.now) h
as_well P Q (Err Memory) h g = tt

-- fewer tokens are left behind both parts
pub pair_below : {A B : Type 0} (m n : ℕ) → m ≤ n → (a : A) (p : Result (B × Bor Tokens) Fault) (r : Result ((A × B) × Bor Tokens) Fault) → IfOk p (λ y. length y.1.now < m) → Pairs a p r → IfOk r (λ z. length z.1.now < n)
pair_below m n l a (Ok y) (Ok z) h k = omega (arith, l, h, ap length k.1)
pair_below m n l a (Ok y) (Err g) h k = tt
pair_below m n l a (Err f) (Ok z) h k = absurd k
pair_below m n l a (Err f) (Err g) h k = tt

module _ {A B : Type 0} (H : Result (B × Bor Tokens) Fault → Type 0) (a : A) where
  -- both were read
  pub pair_done : (Q : A → B → Tokens → Type 0) → ((b : B) (us : Bor Tokens) → H (read_so b us) → Q a b us.now) → (p : Result (B × Bor Tokens) Fault) (c : A) (b : B) (us : Bor Tokens) → H p → Pairs a p (read_so (c, b) us) → Q c b us.now
  pair_done Q g (Ok y) c b us h k = subst (λ (w : A × B). Q w.0 w.1 us.now) (sym k.0) (subst (λ vs. Q a y.0 vs) (sym k.1) (g y.0 y.1 h))
  pair_done Q g (Err f) c b us h k = absurd k

  module _ {E : Type 0} (Q : Reading E → Type 0) (fails : (f : Fault) → H (failed f) → Shows Q (failed f)) where
    -- the second part's fault
    pub pair_fault : (p : Result (B × Bor Tokens) Fault) (f : Fault) → H p → Pairs a p (failed f) → Shows Q (failed f)
    pair_fault (Ok y) f h k = absurd k
    pair_fault (Err e) f h k = subst (λ z. Shows Q (failed z)) (sym k) (fails e h)

    -- a whole of both
    pub pair_shows : (whole : A × B → E) → ((b : B) (us : Bor Tokens) → H (read_so b us) → Q (Got (whole (a, b)) us.now)) → (p : Result (B × Bor Tokens) Fault) (r : Result ((A × B) × Bor Tokens) Fault) → H p → Pairs a p r → ShowsAs whole Q r
    pair_shows whole g (Ok y) (Ok z) h k = subst (λ w. Q (Got (whole w) z.1.now)) (sym k.0) (subst (λ us. Q (Got (whole (a, y.0)) us)) (sym k.1) (g y.0 y.1 h))
    pair_shows whole g (Ok y) (Err e) h k = absurd k
    pair_shows whole g (Err e) (Ok z) h k = absurd k
    pair_shows whole g (Err e) (Err f) h k = as_whole f (subst (λ z. Shows Q (failed z)) (sym k) (fails e h))
      where
        as_whole : (f : Fault) → Shows Q (failed f) → ShowsAs whole Q (failed f)
        as_whole (Syntax rest) s = s
        as_whole Memory s = tt
