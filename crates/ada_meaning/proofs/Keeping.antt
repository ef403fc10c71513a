-- Actions whose events are all of a kind.
use Rattle.std.proofs.Common.{ℕ, zero, suc, ℤ, pos, negsuc, ◌+ℤ◌, Bool, true, false, List, [], ◌∷◌, ◌++◌, if◌then◌else◌, sym, subst}
use Rattle.cov_base.specs.declared.event.Event.{Event}
use Rattle.cov_base.specs.Lists.{Everywhere}
use Rattle.ada_meaning.specs.Program.{Bounds}
use Rattle.ada_meaning.specs.Arithmetic.{count_between}
use Rattle.ada_meaning.specs.State.{world_of, Place, World, Outcome, Gives, Raises, OutOfFuel, Action, goes_to, ◌>>=◌, ◌>>◌, give, out_of_fuel, caught, catch, tick, happens, left, framed, at_depth}
use Rattle.ada_meaning.specs.Shape.{each_from, each_in}
use Rattle.ada_meaning.specs.Statements.{Flow, goes_on, leaves, returns, continued, looped, turns, counted, counted_between}
use Rattle.ada_meaning.proofs.Quiet.{Quiet, give_quiet, tick_quiet, set_word_quiet}
use Rattle.ada_meaning.proofs.Evaluations.{Given, Yields}

-- each item of the first part, and of the second
pub in_first : {X : Type 0} (P : X → Type 0) (xs ys : List X) → Everywhere P (xs ++ ys) → Everywhere P xs
in_first P [] ys all = tt
in_first P (x ∷ xs) ys all = (all.0, in_first P xs ys all.1)

pub in_second : {X : Type 0} (P : X → Type 0) (xs ys : List X) → Everywhere P (xs ++ ys) → Everywhere P ys
in_second P [] ys all = all
in_second P (x ∷ xs) ys all = in_second P xs ys all.1

module _ (Q : Event → Type 0) where
  -- the events so far are of the kind
  abbrev pub Good : World → Type 0
  Good w = Everywhere Q w.seen.events

  -- an action adds only events of the kind
  pub record Keeps {A : Type 0} (m : Action A) : Type 0 where
    pub at_world : (w : World) → Good w → Good (world_of (m w))

  left_keeps : {A : Type 0} (depth : ℕ) (o : Outcome A) → Good (world_of o) → Good (world_of (left depth o))
  left_keeps depth (Gives a w) h = h
  left_keeps depth (Raises e w) h = h
  left_keeps depth (OutOfFuel w) h = h

module _ {Q : Event → Type 0} where
  goes_keeps : {A B : Type 0} {P : A → Type 0} (o : Outcome A) (f : A → Action B) → Good Q (world_of o) → Given P o → ((a : A) → P a → Keeps Q (f a))
      → Good Q (world_of (goes_to o f))
  goes_keeps (Gives a w) f h k g = (g a k).at_world w h
  goes_keeps (Raises e w) f h k g = h
  goes_keeps (OutOfFuel w) f h k g = h

  -- what comes after may rest on what was given
  pub bind_keeps_given : {A B : Type 0} {P : A → Type 0} {m : Action A} {f : A → Action B} → Keeps Q m → Yields P m → ((a : A) → P a → Keeps Q (f a))
      → Keeps Q (m >>= f)
  bind_keeps_given {P = P} {m = m} {f = f} h k g = record { at_world = λ w good. goes_keeps {P = P} (m w) f (h.at_world w good) (k.at_world w) g }

  goes_keeps_all : {A B : Type 0} (o : Outcome A) (f : A → Action B) → Good Q (world_of o) → ((a : A) → Keeps Q (f a)) → Good Q (world_of (goes_to o f))
  goes_keeps_all (Gives a w) f h g = (g a).at_world w h
  goes_keeps_all (Raises e w) f h g = h
  goes_keeps_all (OutOfFuel w) f h g = h

  pub bind_keeps : {A B : Type 0} {m : Action A} {f : A → Action B} → Keeps Q m → ((a : A) → Keeps Q (f a)) → Keeps Q (m >>= f)
  bind_keeps {m = m} {f = f} h g = record { at_world = λ w good. goes_keeps_all (m w) f (h.at_world w good) g }

  pub then_keeps : {A B : Type 0} {m : Action A} {n : Action B} → Keeps Q m → Keeps Q n → Keeps Q (m >> n)
  then_keeps {m = m} {n = n} h g = record { at_world = λ w good. goes_keeps_all (m w) (λ a. n) (h.at_world w good) (λ a. g) }

  pub if_keeps : {A : Type 0} (b : Bool) {m n : Action A} → Keeps Q m → Keeps Q n → Keeps Q (if b then m else n)
  if_keeps true h g = h
  if_keeps false h g = g

  caught_keeps : {A : Type 0} (o : Outcome A) (f : ℕ → Action A) → Good Q (world_of o) → ((e : ℕ) → Keeps Q (f e)) → Good Q (world_of (caught o f))
  caught_keeps (Gives a w) f h g = h
  caught_keeps (Raises e w) f h g = (g e).at_world w h
  caught_keeps (OutOfFuel w) f h g = h

  pub catch_keeps : {A : Type 0} {m : Action A} {f : ℕ → Action A} → Keeps Q m → ((e : ℕ) → Keeps Q (f e)) → Keeps Q (catch m f)
  catch_keeps {m = m} {f = f} h g = record { at_world = λ w good. caught_keeps (m w) f (h.at_world w good) g }

  pub framed_keeps : {A : Type 0} {m : Action A} → Keeps Q m → Keeps Q (framed m)
  framed_keeps {m = m} h = record {
    at_world = λ w good.
        left_keeps Q w.depth (m (at_depth (suc w.depth) w)) (h.at_world (at_depth (suc w.depth) w) good);
  }

  pub quiet_keeps : {A : Type 0} {m : Action A} → Quiet m → Keeps Q m
  quiet_keeps q = record { at_world = λ w good. subst (Everywhere Q) (sym (q.at_world w).events) good }

  pub happens_keeps : (e : Event) → Q e → Keeps Q (happens e)
  happens_keeps e q = record { at_world = λ w good. (q, good) }

  pub out_of_fuel_keeps : {A : Type 0} → Keeps Q (out_of_fuel {A = A})
  out_of_fuel_keeps = record { at_world = λ w good. good }

  pub give_keeps : {A : Type 0} (a : A) → Keeps Q (give a)
  give_keeps a = quiet_keeps (give_quiet a)

  pub tick_keeps : Keeps Q tick
  tick_keeps = quiet_keeps tick_quiet

  each_from_keeps : (n : ℕ) (i : ℤ) {f : ℤ → Action (Unit {0})} → ((j : ℤ) → Keeps Q (f j)) → Keeps Q (each_from n i f)
  each_from_keeps zero i g = give_keeps (record {})
  each_from_keeps (suc n) i g = then_keeps (g i) (each_from_keeps n (i +ℤ pos 1) g)

  pub each_in_keeps : (b : Bounds) {f : ℤ → Action (Unit {0})} → ((j : ℤ) → Keeps Q (f j)) → Keeps Q (each_in b f)
  each_in_keeps b g = each_from_keeps (count_between b.low b.high) b.low g

  pub continued_keeps : (f : Flow) {m : Action Flow} → Keeps Q m → Keeps Q (continued f m)
  continued_keeps goes_on h = h
  continued_keeps leaves h = give_keeps leaves
  continued_keeps (returns r) h = give_keeps (returns r)

  looped_keeps : (f : Flow) {m : Action Flow} → Keeps Q m → Keeps Q (looped f m)
  looped_keeps goes_on h = h
  looped_keeps leaves h = give_keeps goes_on
  looped_keeps (returns r) h = give_keeps (returns r)

  pub turns_keep : (n : ℕ) {test : Action Bool} {body : Action Flow} → Keeps Q test → Keeps Q body → Keeps Q (turns n test body)
  turns_keep zero t b = out_of_fuel_keeps
  turns_keep (suc n) t b = then_keeps tick_keeps (bind_keeps t (λ x. if_keeps x (bind_keeps b (λ f. looped_keeps f (turns_keep n t b))) (give_keeps goes_on)))

  counted_keeps : (n : ℕ) (step i : ℤ) (q : Place) {body : Action Flow} → Keeps Q body → Keeps Q (counted n step i q body)
  counted_keeps zero step i q b = give_keeps goes_on
  counted_keeps (suc n) step i q b = then_keeps tick_keeps (then_keeps (quiet_keeps (set_word_quiet q i)) (bind_keeps b (λ f.
      looped_keeps f (counted_keeps n step (i +ℤ step) q b))))

  pub counted_between_keeps : (reversed : Bool) (b : Bounds) (q : Place) {body : Action Flow} → Keeps Q body → Keeps Q (counted_between reversed b q body)
  counted_between_keeps false b q h = counted_keeps (count_between b.low b.high) (pos 1) b.low q h
  counted_between_keeps true b q h = counted_keeps (count_between b.low b.high) (negsuc 0) b.high q h
