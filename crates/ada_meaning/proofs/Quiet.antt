-- Actions that add no event.
use Rattle.std.proofs.Common.{◌≡◌, ◌≤◌, ℕ, ℤ, Bool, true, false, List, [], ◌∷◌, ◌++◌, append_assoc, le_trans, le_refl, if◌then◌else◌, refl, sym, ap, ◌∙◌, arith}
use Rattle.ada_meaning.specs.State.{world_of, Place, Seen, World, Outcome, Gives, Raises, OutOfFuel, Action, goes_to, ◌>>=◌, ◌>>◌, give, raise, tick, puts, fetch, set_word, depth_now, taken_from, take_word}

-- later adds no event to sooner
pub record Adds (sooner later : Seen) : Type 0 where
  pub more_output : List ℤ
  pub events : later.events ≡ sooner.events
  pub output : later.output ≡ more_output ++ sooner.output
  pub cost : sooner.cost ≤ later.cost

adds_nothing : (s : Seen) → Adds s s
adds_nothing s = record { more_output = []; events = refl; output = refl; cost = le_refl s.cost }

adds_trans : {r s t : Seen} → Adds r s → Adds s t → Adds r t
adds_trans a b = record {
  more_output = b.more_output ++ a.more_output;
  events = b.events ∙ a.events;
  output = b.output ∙ ap (λ x. b.more_output ++ x) a.output ∙ sym (append_assoc b.more_output a.more_output _);
  cost = le_trans a.cost b.cost;
}

-- an action adds no event
pub record Quiet {A : Type 0} (m : Action A) : Type 0 where
  pub at_world : (w : World) → Adds w.seen (world_of (m w)).seen

goes_quiet : {A B : Type 0} (s : Seen) (o : Outcome A) (f : A → Action B) → Adds s (world_of o).seen → ((a : A) → Quiet (f a))
    → Adds s (world_of (goes_to o f)).seen
goes_quiet s (Gives a w) f h g = adds_trans h ((g a).at_world w)
goes_quiet s (Raises e w) f h g = h
goes_quiet s (OutOfFuel w) f h g = h

pub bind_quiet : {A B : Type 0} {m : Action A} {f : A → Action B} → Quiet m → ((a : A) → Quiet (f a)) → Quiet (m >>= f)
bind_quiet {m = m} {f = f} h g = record { at_world = λ w. goes_quiet w.seen (m w) f (h.at_world w) g }

pub then_quiet : {A B : Type 0} {m : Action A} {n : Action B} → Quiet m → Quiet n → Quiet (m >> n)
then_quiet {m = m} {n = n} h g = record { at_world = λ w. goes_quiet w.seen (m w) (λ a. n) (h.at_world w) (λ a. g) }

pub if_quiet : {A : Type 0} (b : Bool) {m n : Action A} → Quiet m → Quiet n → Quiet (if b then m else n)
if_quiet true h g = h
if_quiet false h g = g

pub give_quiet : {A : Type 0} (a : A) → Quiet (give a)
give_quiet a = record { at_world = λ w. adds_nothing w.seen }

pub raise_quiet : {A : Type 0} (e : ℕ) → Quiet (raise {A = A} e)
raise_quiet e = record { at_world = λ w. adds_nothing w.seen }

pub tick_quiet : Quiet tick
tick_quiet = record { at_world = λ w. record { more_output = []; events = refl; output = refl; cost = omega arith } }

pub puts_quiet : (x : ℤ) → Quiet (puts x)
puts_quiet x = record { at_world = λ w. record { more_output = x ∷ []; events = refl; output = refl; cost = le_refl w.seen.cost } }

pub fetch_quiet : (q : Place) → Quiet (fetch q)
fetch_quiet q = record { at_world = λ w. adds_nothing w.seen }

pub set_word_quiet : (q : Place) (x : ℤ) → Quiet (set_word q x)
set_word_quiet q x = record { at_world = λ w. tick_quiet.at_world w }

pub depth_now_quiet : Quiet depth_now
depth_now_quiet = record { at_world = λ w. adds_nothing w.seen }

taken_quiet : (e : ℕ) (xs : List ℤ) (w : World) → Adds w.seen (world_of (taken_from e xs w)).seen
taken_quiet e [] w = adds_nothing w.seen
taken_quiet e (x ∷ xs) w = adds_nothing w.seen

pub take_word_quiet : (e : ℕ) → Quiet (take_word e)
take_word_quiet e = record { at_world = λ w. taken_quiet e w.input w }
