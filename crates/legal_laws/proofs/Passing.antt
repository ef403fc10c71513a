-- What holds of the value of an option, of an outcome and of an answer, if there is one.
use Rattle.std.proofs.Common.{◌≡◌, Bool, true, false, if◌then◌else◌, List, [], ◌∷◌, ◌++◌, Option, Some, None, option_map, IfSome, Result, Ok, Err, IfOk, refl}
use Rattle.std.specs.Prelude.{◌&&◌, ◌||◌, ◌⊎◌}
use Rattle.std.proofs.Common.{inl, inr}
use Rattle.std.specs.Option.{option_and_then, option_or}
use Rattle.std.proofs.lemmas.Bool.{false≢true}
use Rattle.cov_base.specs.Lists.{Everywhere}
use Rattle.cov_base.specs.declared.position.Pos.{Pos}
use Rattle.ada_rules.specs.Plan.{Plan, Outcome, refused_in, broken, passed, outcome_after, answer_at, ruled}
use Rattle.ada_rules.specs.Environment.{Step, naming, typing, typed_rule}

pub both_true : (a b : Bool) → (a && b) ≡ true → (a ≡ true) × (b ≡ true)
both_true true b h = (refl, h)
both_true false b h = absurd (false≢true h)

pub either_true : (a b : Bool) → (a || b) ≡ true → (a ≡ true) ⊎ (b ≡ true)
either_true true b h = inl refl
either_true false b h = inr h

pub if_then : {X Y : Type 0} (P : X → Type 0) (Q : Y → Type 0) (f : X → Option Y) (o : Option X) → IfSome o P → ((x : X) → P x → IfSome (f x) Q)
    → IfSome (option_and_then f o) Q
if_then P Q f None h next = tt
if_then P Q f (Some x) h next = next x h

pub if_map : {X Y : Type 0} (P : X → Type 0) (Q : Y → Type 0) (f : X → Y) (o : Option X) → IfSome o P → ((x : X) → P x → Q (f x))
    → IfSome (option_map f o) Q
if_map P Q f None h next = tt
if_map P Q f (Some x) h next = next x h

pub if_test : {X : Type 0} (P : X → Type 0) (b : Bool) (o : Option X) → (b ≡ true → IfSome o P) → IfSome (if b then o else None) P
if_test P true o h = h refl
if_test P false o h = tt

pub if_not : {X : Type 0} (P : X → Type 0) (b : Bool) (o : Option X) → (b ≡ false → IfSome o P) → IfSome (if b then None else o) P
if_not P true o h = tt
if_not P false o h = h refl

pub if_either : {X : Type 0} (P : X → Type 0) (b : Bool) (o r : Option X) → IfSome o P → IfSome r P → IfSome (if b then o else r) P
if_either P true o r h k = h
if_either P false o r h k = k

pub if_or : {X : Type 0} (P : X → Type 0) (o r : Option X) → IfSome o P → IfSome r P → IfSome (option_or o r) P
if_or P None r h k = k
if_or P (Some x) r h k = h

-- of an outcome
abbrev pub IfPassed : {B : Type 0} → Outcome B → (B → Type 0) → Type 0
IfPassed (refused_in p) P = Unit {0}
IfPassed broken P = Unit {0}
IfPassed (passed x) P = P x

pub answered : {B : Type 0} (P : B → Type 0) (p : Pos) (o : Outcome B) → IfPassed o P → IfOk (answer_at p o) P
answered P p (refused_in q) h = tt
answered P p broken h = tt
answered P p (passed x) h = h

pub ruled_so : {B : Type 0} (P : B → Type 0) (o : Option B) → IfSome o P → IfPassed (ruled o) P
ruled_so P None h = tt
ruled_so P (Some x) h = h

pub part_so : {A B : Type 0} (Q : A → Type 0) (P : B → Type 0) (answer : Result A Pos) (k : A → Plan B) → IfOk answer Q
    → ((x : A) → Q x → IfPassed (k x).outcome P) → IfPassed (outcome_after answer k) P
part_so Q P (Ok x) k h next = next x h
part_so Q P (Err p) k h next = tt

pub steps_apart : naming ≡ typing → ⊥
steps_apart e = cc

-- a rule on types, in their step
pub typed_so : {B : Type 0} (P : B → Type 0) (step : Step) (anything : B) (o : Option B) → step ≡ typing → IfSome o P
    → IfPassed (typed_rule step anything o).outcome P
typed_so P naming anything o is h = absurd (steps_apart is)
typed_so P typing anything o is h = ruled_so P o h

-- two things that hold of one answer
pub both_ok : {A : Type 0} (P Q : A → Type 0) (r : Result A Pos) → IfOk r P → IfOk r Q → IfOk r (λ x. P x × Q x)
both_ok P Q (Ok x) h k = (h, k)
both_ok P Q (Err p) h k = tt

pub weaker_ok : {A : Type 0} (P Q : A → Type 0) (r : Result A Pos) → IfOk r P → ((x : A) → P x → Q x) → IfOk r Q
weaker_ok P Q (Ok x) h then_so = then_so x h
weaker_ok P Q (Err p) h then_so = tt

-- of each item, and of the value of an option
pub every_so : {X : Type 0} (P Q : X → Type 0) (xs : List X) → ((x : X) → P x → Q x) → Everywhere P xs → Everywhere Q xs
every_so P Q [] f h = tt
every_so P Q (x ∷ xs) f h = (f x h.0, every_so P Q xs f h.1)

pub some_so : {X : Type 0} (P Q : X → Type 0) (o : Option X) → ((x : X) → P x → Q x) → IfSome o P → IfSome o Q
some_so P Q None f h = tt
some_so P Q (Some x) f h = f x h

pub every_end : {X : Type 0} (P : X → Type 0) (xs : List X) (x : X) → Everywhere P xs → P x → Everywhere P (xs ++ x ∷ [])
every_end P [] x all h = (h, tt)
every_end P (y ∷ xs) x all h = (all.0, every_end P xs x all.1 h)

pub every_both : {X : Type 0} (P : X → Type 0) (xs ys : List X) → Everywhere P xs → Everywhere P ys → Everywhere P (xs ++ ys)
every_both P [] ys h k = k
every_both P (x ∷ xs) ys h k = (h.0, every_both P xs ys h.1 k)

-- what holds of the value for each of these
pub if_each : {X Y : Type 0} (P : X → Y → Type 0) (o : Option Y) → ((x : X) → IfSome o (P x)) → IfSome o (λ y. (x : X) → P x y)
if_each P None h = tt
if_each P (Some y) h = h

pub each_ok : {X A : Type 0} (P : X → A → Type 0) (r : Result A Pos) → ((x : X) → IfOk r (P x)) → IfOk r (λ a. (x : X) → P x a)
each_ok P (Ok a) h = h
each_ok P (Err p) h = tt

-- the outcome of a rule on types, whatever the step
pub typed_either : {B : Type 0} (P : B → Type 0) (step : Step) (anything : B) (o : Option B) → P anything → IfSome o P
    → IfPassed (typed_rule step anything o).outcome P
typed_either P naming anything o h k = h
typed_either P typing anything o h k = ruled_so P o k

pub any_answer : {A : Type 0} (r : Result A Pos) → IfOk r (λ x. Unit {0})
any_answer (Ok x) = tt
any_answer (Err q) = tt
