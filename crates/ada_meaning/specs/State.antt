-- States, what was observed so far, and actions on them.
use Rattle.std.specs.Prelude.{ℕ, suc, nat_eq, ℤ, Bool, true, false, ◌&&◌, List, [], ◌∷◌, if◌then◌else◌}
use Rattle.std.specs.Ordering.{int_eq}
use Rattle.cov_base.specs.declared.event.Event.{Event}

-- A place: an object, and the way to a part of it, the innermost selector first. A selector is the place of a record's component, or an
-- index value. The frame of an object of the library level is 0, that of a local one is the depth of its activation.
pub record Place : Type 0 where
  pub frame : ℕ
  pub instance : ℕ
  pub declaration : ℕ
  pub path : List ℤ

-- whether two ways are the same
abbrev pub same_path : List ℤ → List ℤ → Bool
same_path [] [] = true
same_path (i ∷ is) (j ∷ js) = int_eq i j && same_path is js
same_path [] (j ∷ js) = false
same_path (i ∷ is) [] = false

-- whether two places are the same
abbrev pub same_place : Place → Place → Bool
same_place p q =
    nat_eq p.frame q.frame && nat_eq p.instance q.instance && nat_eq p.declaration q.declaration && same_path p.path q.path

-- a part of a place
abbrev pub part_at : ℤ → Place → Place
part_at i p = record { frame = p.frame; instance = p.instance; declaration = p.declaration; path = i ∷ p.path }

-- what is kept at each place; only finitely many are ever set
abbrev pub Store : Type 0
Store = Place → ℤ

-- a store with another number at a place
abbrev pub set_at : Place → ℤ → Store → Store
set_at p x store = λ q. if same_place p q then x else store q

-- what was observed so far: the events and the output, the latest first, and the cost
pub record Seen : Type 0 where
  pub events : List Event
  pub output : List ℤ
  pub cost : ℕ

-- a state: what is kept, the unread input, the depth of the activation that is executed, and what was observed so far
pub record World : Type 0 where
  pub store : Store
  pub input : List ℤ
  pub depth : ℕ
  pub seen : Seen

-- how an action ends: with a result, with an exception's number, or cut off since the fuel ran out; each with the state
pub data Outcome (A : Type 0) : Type 0 where
  Gives : A → World → Outcome A
  Raises : ℕ → World → Outcome A
  OutOfFuel : World → Outcome A

-- the state in which an action ended or was cut off
abbrev pub world_of : {A : Type 0} → Outcome A → World
world_of (Gives a w) = w
world_of (Raises e w) = w
world_of (OutOfFuel w) = w

-- what does something to a state
abbrev pub Action : Type 0 → Type 0
Action A = World → Outcome A

-- what comes after an outcome: an exception and a cut leave out the rest
abbrev pub goes_to : {A B : Type 0} → Outcome A → (A → Action B) → Outcome B
goes_to (Gives a w) f = f a w
goes_to (Raises e w) f = Raises e w
goes_to (OutOfFuel w) f = OutOfFuel w

infixl 1 ◌>>=◌ ◌>>◌
-- one action, and then another on what it gave; `do` writes it as lines
abbrev pub ◌>>=◌ : {A B : Type 0} → Action A → (A → Action B) → Action B
◌>>=◌ m f = λ w. goes_to (m w) f

-- one action, and then another
abbrev pub ◌>>◌ : {A B : Type 0} → Action A → Action B → Action B
◌>>◌ m n = m >>= λ a. n

-- gives a result, and changes nothing
abbrev pub give : {A : Type 0} → A → Action A
give a = λ w. Gives a w

-- does nothing
abbrev pub done : Action (Unit {0})
done = give (record {})

-- raises the exception with this number (RM 11.3)
abbrev pub raise : {A : Type 0} → ℕ → Action A
raise e = λ w. Raises e w

-- is cut off
abbrev pub out_of_fuel : {A : Type 0} → Action A
out_of_fuel = λ w. OutOfFuel w

-- where an exception leads
abbrev pub caught : {A : Type 0} → Outcome A → (ℕ → Action A) → Outcome A
caught (Gives a w) h = Gives a w
caught (Raises e w) h = h e w
caught (OutOfFuel w) h = OutOfFuel w

-- m, and the handler h for its exceptions (RM 11.4)
abbrev pub catch : {A : Type 0} → Action A → (ℕ → Action A) → Action A
catch m h = λ w. caught (m w) h

-- a state in which something else was observed
abbrev pub with_seen : Seen → World → World
with_seen seen w = record { store = w.store; input = w.input; depth = w.depth; seen = seen }

-- a state with another store
abbrev pub with_store : Store → World → World
with_store store w = record { store = store; input = w.input; depth = w.depth; seen = w.seen }

-- a state with another unread input
abbrev pub with_input : List ℤ → World → World
with_input input w = record { store = w.store; input = input; depth = w.depth; seen = w.seen }

-- a state at another depth
abbrev pub at_depth : ℕ → World → World
at_depth depth w = record { store = w.store; input = w.input; depth = depth; seen = w.seen }

-- one more unit of cost
abbrev pub tick : Action (Unit {0})
tick = λ w. Gives (record {}) (with_seen (record { events = w.seen.events; output = w.seen.output; cost = suc w.seen.cost }) w)

-- an event
abbrev pub happens : Event → Action (Unit {0})
happens e = λ w. Gives (record {}) (with_seen (record { events = e ∷ w.seen.events; output = w.seen.output; cost = w.seen.cost }) w)

-- a word of output
abbrev pub puts : ℤ → Action (Unit {0})
puts x = λ w. Gives (record {}) (with_seen (record { events = w.seen.events; output = x ∷ w.seen.output; cost = w.seen.cost }) w)

-- the word at a place
abbrev pub fetch : Place → Action ℤ
fetch p = λ w. Gives (w.store p) w

-- sets or copies one word
abbrev pub set_word : Place → ℤ → Action (Unit {0})
set_word p x = tick >> λ w. Gives (record {}) (with_store (set_at p x w.store) w)

-- the depth of the activation that is executed
abbrev pub depth_now : Action ℕ
depth_now = λ w. Gives w.depth w

-- the first of these words, the rest of which stay unread; or the exception e where there is none
abbrev pub taken_from : ℕ → List ℤ → Action ℤ
taken_from e [] = raise e
taken_from e (x ∷ xs) = λ w. Gives x (with_input xs w)

-- the next word of the input, or the exception e at its end
abbrev pub take_word : ℕ → Action ℤ
take_word e = λ w. taken_from e w.input w

-- back at a depth, however the action ended
abbrev pub left : {A : Type 0} → ℕ → Outcome A → Outcome A
left depth (Gives a w) = Gives a (at_depth depth w)
left depth (Raises e w) = Raises e (at_depth depth w)
left depth (OutOfFuel w) = OutOfFuel (at_depth depth w)

-- an action in an activation of its own
abbrev pub framed : {A : Type 0} → Action A → Action A
framed m = λ w. left w.depth (m (at_depth (suc w.depth) w))
