-- Executions of a program on an input.
use Rattle.std.specs.Prelude.{◌≡◌, ℕ, zero, suc, nat_lt, nat_eq, ℤ, pos, ◌+ℤ◌, List, [], ◌∷◌, map, reverse, Option, Some, None, slice_get, if◌then◌else◌}
use Rattle.cov_base.specs.declared.event.Event.{Event}
use Rattle.ada_meaning.specs.Program.{Bounds, Subprogram, Initial, no_initial, static_initial, others_initial, LibraryObject, Instance, Program}
use Rattle.ada_meaning.specs.Arithmetic.{count_between}
use Rattle.ada_meaning.specs.State.{Place, part_at, Store, set_at, Seen, World, Outcome, Gives, Raises, OutOfFuel, world_of, Action, give, raise, out_of_fuel, ◌>>=◌, ◌>>◌, tick, framed, depth_now}
use Rattle.ada_meaning.specs.Shape.{Shape, word, row, group, Shapes, no_shape, and_shape}
use Rattle.ada_meaning.specs.Resolved.{storage_error, number_in, shape_in, parameter_in}
use Rattle.ada_meaning.specs.Calls.{Argument, Calls, copy_all_in, copy_all_back}
use Rattle.ada_meaning.specs.Statements.{Flow, goes_on, leaves, returns, does_block}

-- the greatest depth of calls; the main subprogram has depth 1
unfoldable pub deepest : ℕ
deepest = 512

-- the result that a body ended with
abbrev pub result_in : Flow → Option ℤ
result_in goes_on = None
result_in leaves = None
result_in (returns r) = r

module _ (p : Program) where
  -- Executes a subprogram in an activation of its own: it copies the arguments in, executes the body and, after a normal return, copies
  -- back. The actuals are evaluated before, in the caller.
  abbrev pub activated : Calls → ℕ → ℕ → Subprogram → List Argument → Action (Option ℤ)
  activated calls fuel inst s arguments = do
    depth ← depth_now
    f ← framed (copy_all_in inst (suc depth) (map (parameter_in p inst) s.parameters) arguments >> does_block p calls fuel inst s.body None)
    copy_all_back inst (suc depth) (map (parameter_in p inst) s.parameters) arguments
    give (result_in f)

  -- a call: at the greatest depth it raises Storage_Error in the caller
  abbrev pub called : Calls → ℕ → ℕ → Option Subprogram → List Argument → Action (Option ℤ)
  called calls fuel inst None arguments = give None
  called calls fuel inst (Some s) arguments = do
    tick
    depth ← depth_now
    if nat_lt depth deepest then activated calls fuel inst s arguments else raise storage_error

  -- calls under a fuel: calls inside a call have one less, and each loop has as many turns as the fuel says
  abbrev pub calls_in : ℕ → Calls
  calls_in zero inst n arguments = out_of_fuel
  calls_in (suc fuel) inst n arguments = called (calls_in fuel) (suc fuel) inst (slice_get p.subprograms n) arguments

-- the initial value of the components of an array
abbrev pub of_components : Initial → Initial
of_components no_initial = no_initial
of_components (static_initial e) = no_initial
of_components (others_initial i) = i

-- what each of n components from i on adds to a store
abbrev pub filled : ℕ → ℤ → (ℤ → Store → Store) → Store → Store
filled zero i f store = store
filled (suc n) i f store = filled n (i +ℤ pos 1) f (f i store)

-- what each instance of a generic adds to a store, of instances that are numbered from n on
abbrev pub in_each_instance : ℕ → List Instance → ℕ → (ℕ → Store → Store) → Store → Store
in_each_instance g [] n f store = store
in_each_instance g (i ∷ is) n f store = in_each_instance g is (suc n) f (if nat_eq i.generic g then f n store else store)

-- what each instance that has the objects of a generic adds to a store; what is in no generic is in instance 0
abbrev pub in_instances_of : Option ℕ → List Instance → (ℕ → Store → Store) → Store → Store
in_instances_of None is f store = f 0 store
in_instances_of (Some g) is f store = in_each_instance g is 1 f store

-- where a library-level object of an instance stands
abbrev pub library_place : ℕ → ℕ → Place
library_place inst d = record { frame = 0; instance = inst; declaration = d; path = [] }

module _ (p : Program) where
  -- the initial value of a scalar: that of its static expression, or its subtype's first value
  abbrev pub initial_number : ℕ → Initial → Bounds → ℤ
  initial_number inst (static_initial e) b = number_in p inst e
  initial_number inst no_initial b = b.low
  initial_number inst (others_initial i) b = b.low

  abbrev mutual
    -- a store where an object has its initial value
    pub with_initial : ℕ → Shape → Initial → Place → Store → Store
    with_initial inst (word b) i q store = set_at q (initial_number inst i b) store
    with_initial inst (row b s) i q store =
        filled (count_between b.low b.high) b.low (λ j. with_initial inst s (of_components i) (part_at j q)) store
    with_initial inst (group ss) i q store = with_initials inst ss (pos 0) q store

    -- the same of the components of a record from number j on
    pub with_initials : ℕ → Shapes → ℤ → Place → Store → Store
    with_initials inst no_shape j q store = store
    with_initials inst (and_shape s ss) j q store =
        with_initials inst ss (j +ℤ pos 1) q (with_initial inst s no_initial (part_at j q) store)

  -- a store where library-level objects have their initial values
  abbrev pub with_objects : List LibraryObject → Store → Store
  with_objects [] store = store
  with_objects (o ∷ os) store = with_objects os (in_instances_of o.generic p.instances
      (λ inst. with_initial inst (shape_in p inst o.subtype) o.initial (library_place inst o.declaration)) store)

  -- the initial state with an input: nothing was observed
  abbrev pub initial : List ℤ → World
  initial input = record {
    store = with_objects p.objects (λ q. pos 0);
    input = input;
    depth = 0;
    seen = record { events = []; output = []; cost = 0 };
  }

  -- the execution of the main subprogram on an input, under a fuel
  abbrev pub exec : ℕ → List ℤ → Outcome (Option ℤ)
  exec fuel input = calls_in p fuel 0 p.main [] (initial input)

-- the events under a fuel, in order
abbrev pub events_at : Program → ℕ → List ℤ → List Event
events_at p fuel input = reverse (world_of (exec p fuel input)).seen.events

-- the output under a fuel, in order
abbrev pub output_at : Program → ℕ → List ℤ → List ℤ
output_at p fuel input = reverse (world_of (exec p fuel input)).seen.output

-- how an execution ends: by return, or by an exception with this number
pub data Ending : Type 0 where
  by_return : Ending
  by_exception : ℕ → Ending

-- an execution that ended: its ending, its output and its events in order, and its cost
pub record Execution : Type 0 where
  pub ending : Ending
  pub output : List ℤ
  pub events : List Event
  pub cost : ℕ

-- an execution with this ending, of what was observed
abbrev pub execution_of : Ending → Seen → Execution
execution_of ending seen =
    record { ending = ending; output = reverse seen.output; events = reverse seen.events; cost = seen.cost }

-- the execution that an outcome shows; none where the fuel ran out
abbrev pub ended : {A : Type 0} → Outcome A → Option Execution
ended (Gives a w) = Some (execution_of by_return w.seen)
ended (Raises e w) = Some (execution_of (by_exception e) w.seen)
ended (OutOfFuel w) = None

-- the execution of a program on an input ends, and is this one: some fuel suffices
abbrev pub Ends : Program → List ℤ → Execution → Type 0
Ends p input x = (fuel : ℕ) × (ended (exec p fuel input) ≡ Some x)
