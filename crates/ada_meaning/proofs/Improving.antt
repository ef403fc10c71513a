-- An action with more fuel: the same ending, or a longer run; and how parts make up the whole.
use Rattle.std.proofs.Common.{ℕ, zero, suc, ℤ, pos, negsuc, ◌+ℤ◌, Bool, true, false, if◌then◌else◌, refl, sym, ap, subst}
use Rattle.ada_meaning.specs.Program.{Bounds}
use Rattle.ada_meaning.specs.Arithmetic.{count_between}
use Rattle.ada_meaning.specs.State.{Place, World, Outcome, Gives, Raises, OutOfFuel, Action, goes_to, ◌>>=◌, ◌>>◌, give, raise, out_of_fuel, caught, catch, tick, left, framed, at_depth}
use Rattle.ada_meaning.specs.Shape.{each_from, each_in}
use Rattle.ada_meaning.specs.Refines.{Refines}
use Rattle.ada_meaning.specs.Statements.{Flow, goes_on, leaves, returns, continued, looped, turns, counted, counted_between}
use Rattle.ada_meaning.proofs.Growing.{extends_refl, goes_grows, caught_grows, left_grows, Grows, bind_grows, then_grows, if_grows, catch_grows, framed_grows, out_of_fuel_grows, quiet_grows}
use Rattle.ada_meaning.proofs.Quiet.{Quiet, give_quiet, raise_quiet, tick_quiet, set_word_quiet}
use Rattle.ada_meaning.proofs.QuietParts.{done_quiet}

-- more is m with more fuel
pub record Improves {A : Type 0} (m more : Action A) : Type 0 where
  pub refines : (w : World) → Refines (m w) (more w)
  pub grows : Grows more

pub refines_itself : {A : Type 0} (o : Outcome A) → Refines o o
refines_itself (Gives a w) = refl
refines_itself (Raises e w) = refl
refines_itself (OutOfFuel w) = extends_refl w.seen

-- an action that hangs on no fuel
pub steady : {A : Type 0} {m : Action A} → Grows m → Improves m m
steady {m = m} g = record { refines = λ w. refines_itself (m w); grows = g }

-- an action that adds no event and hangs on no fuel
pub quiet : {A : Type 0} {m : Action A} → Quiet m → Improves m m
quiet q = steady (quiet_grows q)

goes_refines : {A B : Type 0} (o o' : Outcome A) (f f' : A → Action B) → Refines o o' → ((a : A) → Improves (f a) (f' a))
    → Refines (goes_to o f) (goes_to o' f')
goes_refines (Gives a w) o' f f' h g = subst (λ x. Refines (f a w) (goes_to x f')) (sym h) ((g a).refines w)
goes_refines (Raises e w) o' f f' h g = ap (λ x. goes_to x f') h
goes_refines (OutOfFuel w) o' f f' h g = goes_grows w.seen o' f' h (λ a. (g a).grows)

pub bind_improves : {A B : Type 0} {m m' : Action A} {f f' : A → Action B} → Improves m m' → ((a : A) → Improves (f a) (f' a))
    → Improves (m >>= f) (m' >>= f')
bind_improves {m = m} {m' = m'} {f = f} {f' = f'} h g = record {
  refines = λ w. goes_refines (m w) (m' w) f f' (h.refines w) g;
  grows = bind_grows h.grows (λ a. (g a).grows);
}

pub then_improves : {A B : Type 0} {m m' : Action A} {n n' : Action B} → Improves m m' → Improves n n' → Improves (m >> n) (m' >> n')
then_improves {m = m} {m' = m'} {n = n} {n' = n'} h g = record {
  refines = λ w. goes_refines (m w) (m' w) (λ a. n) (λ a. n') (h.refines w) (λ a. g);
  grows = then_grows h.grows g.grows;
}

pub if_improves : {A : Type 0} (b : Bool) {m m' n n' : Action A} → Improves m m' → Improves n n'
    → Improves (if b then m else n) (if b then m' else n')
if_improves true h g = h
if_improves false h g = g

caught_refines : {A : Type 0} (o o' : Outcome A) (f f' : ℕ → Action A) → Refines o o' → ((e : ℕ) → Improves (f e) (f' e))
    → Refines (caught o f) (caught o' f')
caught_refines (Gives a w) o' f f' h g = ap (λ x. caught x f') h
caught_refines (Raises e w) o' f f' h g = subst (λ x. Refines (f e w) (caught x f')) (sym h) ((g e).refines w)
caught_refines (OutOfFuel w) o' f f' h g = caught_grows w.seen o' f' h (λ e. (g e).grows)

pub catch_improves : {A : Type 0} {m m' : Action A} {f f' : ℕ → Action A} → Improves m m' → ((e : ℕ) → Improves (f e) (f' e))
    → Improves (catch m f) (catch m' f')
catch_improves {m = m} {m' = m'} {f = f} {f' = f'} h g = record {
  refines = λ w. caught_refines (m w) (m' w) f f' (h.refines w) g;
  grows = catch_grows h.grows (λ e. (g e).grows);
}

left_refines : {A : Type 0} (depth : ℕ) (o o' : Outcome A) → Refines o o' → Refines (left depth o) (left depth o')
left_refines depth (Gives a w) o' h = ap (left depth) h
left_refines depth (Raises e w) o' h = ap (left depth) h
left_refines depth (OutOfFuel w) o' h = left_grows w.seen depth o' h

pub framed_improves : {A : Type 0} {m m' : Action A} → Improves m m' → Improves (framed m) (framed m')
framed_improves {m = m} {m' = m'} h = record {
  refines = λ w. left_refines w.depth (m (at_depth (suc w.depth) w)) (m' (at_depth (suc w.depth) w)) (h.refines (at_depth (suc w.depth) w));
  grows = framed_grows h.grows;
}

-- with no fuel any action that grows is better
pub cut_improves : {A : Type 0} {m : Action A} → Grows m → Improves out_of_fuel m
cut_improves g = record { refines = λ w. g.at_world w; grows = g }

pub give_improves : {A : Type 0} (a : A) → Improves (give a) (give a)
give_improves a = quiet (give_quiet a)

pub raise_improves : {A : Type 0} (e : ℕ) → Improves (raise {A = A} e) (raise e)
raise_improves e = quiet (raise_quiet e)

pub tick_improves : Improves tick tick
tick_improves = quiet tick_quiet

pub each_from_improves : (n : ℕ) (i : ℤ) {f f' : ℤ → Action (Unit {0})} → ((j : ℤ) → Improves (f j) (f' j))
    → Improves (each_from n i f) (each_from n i f')
each_from_improves zero i g = quiet done_quiet
each_from_improves (suc n) i g = then_improves (g i) (each_from_improves n (i +ℤ pos 1) g)

pub each_in_improves : (b : Bounds) {f f' : ℤ → Action (Unit {0})} → ((j : ℤ) → Improves (f j) (f' j)) → Improves (each_in b f) (each_in b f')
each_in_improves b g = each_from_improves (count_between b.low b.high) b.low g

pub continued_improves : (f : Flow) {m m' : Action Flow} → Improves m m' → Improves (continued f m) (continued f m')
continued_improves goes_on h = h
continued_improves leaves h = give_improves leaves
continued_improves (returns r) h = give_improves (returns r)

pub looped_improves : (f : Flow) {m m' : Action Flow} → Improves m m' → Improves (looped f m) (looped f m')
looped_improves goes_on h = h
looped_improves leaves h = give_improves goes_on
looped_improves (returns r) h = give_improves (returns r)

looped_grows : (f : Flow) {m : Action Flow} → Grows m → Grows (looped f m)
looped_grows goes_on h = h
looped_grows leaves h = quiet_grows (give_quiet goes_on)
looped_grows (returns r) h = quiet_grows (give_quiet (returns r))

turns_grow : (n : ℕ) {test : Action Bool} {body : Action Flow} → Grows test → Grows body → Grows (turns n test body)
turns_grow zero t b = out_of_fuel_grows
turns_grow (suc n) t b = then_grows (quiet_grows tick_quiet) (bind_grows t (λ x. if_grows x (bind_grows b (λ f. looped_grows f (turns_grow n t b))) (quiet_grows (give_quiet goes_on))))

-- a loop with one more turn
pub turns_improve : (n : ℕ) {test test' : Action Bool} {body body' : Action Flow} → Improves test test' → Improves body body'
    → Improves (turns n test body) (turns (suc n) test' body')
turns_improve zero t b = cut_improves (turns_grow 1 t.grows b.grows)
turns_improve (suc n) t b = then_improves tick_improves (bind_improves t (λ x.
    if_improves x (bind_improves b (λ f. looped_improves f (turns_improve n t b))) (give_improves goes_on)))

pub counted_improves : (n : ℕ) (step i : ℤ) (q : Place) {body body' : Action Flow} → Improves body body'
    → Improves (counted n step i q body) (counted n step i q body')
counted_improves zero step i q b = give_improves goes_on
counted_improves (suc n) step i q b = then_improves tick_improves (then_improves (quiet (set_word_quiet q i)) (bind_improves b (λ f.
    looped_improves f (counted_improves n step (i +ℤ step) q b))))

pub counted_between_improves : (reversed : Bool) (b : Bounds) (q : Place) {body body' : Action Flow} → Improves body body'
    → Improves (counted_between reversed b q body) (counted_between reversed b q body')
counted_between_improves false b q h = counted_improves (count_between b.low b.high) (pos 1) b.low q h
counted_between_improves true b q h = counted_improves (count_between b.low b.high) (negsuc 0) b.high q h
