-- What was observed stays: each action only adds to it.
use Rattle.std.proofs.Common.{ℕ, suc, Bool, true, false, [], ◌∷◌, ◌++◌, append_assoc, le_trans, le_refl, if◌then◌else◌, refl, sym, ap, ◌∙◌}
use Rattle.cov_base.specs.declared.event.Event.{Event}
use Rattle.cov_base.specs.declared.event.Event.TheVariants.{Start, Done}
use Rattle.cov_base.specs.Path.{vector_of}
use Rattle.ada_meaning.specs.State.{world_of, Seen, World, Outcome, Gives, Raises, OutOfFuel, Action, goes_to, ◌>>=◌, ◌>>◌, out_of_fuel, caught, catch, happens, left, framed, at_depth}
use Rattle.ada_meaning.specs.Tree.{Label}
use Rattle.ada_meaning.specs.Program.{Program}
use Rattle.ada_meaning.specs.Calls.{Calls}
use Rattle.ada_meaning.specs.Expressions.{completed, Evaluation}
use Rattle.ada_meaning.specs.Statements.{starts}
use Rattle.ada_meaning.proofs.Quiet.{Quiet, tick_quiet, give_quiet}
use Rattle.ada_meaning.specs.Refines.{Extends}

pub extends_refl : (s : Seen) → Extends s s
extends_refl s = record { more_events = []; more_output = []; events = refl; output = refl; cost = le_refl s.cost }

pub extends_trans : {r s t : Seen} → Extends r s → Extends s t → Extends r t
extends_trans a b = record {
  more_events = b.more_events ++ a.more_events;
  more_output = b.more_output ++ a.more_output;
  events = b.events ∙ ap (λ x. b.more_events ++ x) a.events ∙ sym (append_assoc b.more_events a.more_events _);
  output = b.output ∙ ap (λ x. b.more_output ++ x) a.output ∙ sym (append_assoc b.more_output a.more_output _);
  cost = le_trans a.cost b.cost;
}

-- an action only adds to what was observed
pub record Grows {A : Type 0} (m : Action A) : Type 0 where
  pub at_world : (w : World) → Extends w.seen (world_of (m w)).seen

pub goes_grows : {A B : Type 0} (s : Seen) (o : Outcome A) (f : A → Action B) → Extends s (world_of o).seen → ((a : A) → Grows (f a))
    → Extends s (world_of (goes_to o f)).seen
goes_grows s (Gives a w) f h g = extends_trans h ((g a).at_world w)
goes_grows s (Raises e w) f h g = h
goes_grows s (OutOfFuel w) f h g = h

pub bind_grows : {A B : Type 0} {m : Action A} {f : A → Action B} → Grows m → ((a : A) → Grows (f a)) → Grows (m >>= f)
bind_grows {m = m} {f = f} h g = record { at_world = λ w. goes_grows w.seen (m w) f (h.at_world w) g }

pub then_grows : {A B : Type 0} {m : Action A} {n : Action B} → Grows m → Grows n → Grows (m >> n)
then_grows {m = m} {n = n} h g = record { at_world = λ w. goes_grows w.seen (m w) (λ a. n) (h.at_world w) (λ a. g) }

pub if_grows : {A : Type 0} (b : Bool) {m n : Action A} → Grows m → Grows n → Grows (if b then m else n)
if_grows true h g = h
if_grows false h g = g

pub caught_grows : {A : Type 0} (s : Seen) (o : Outcome A) (f : ℕ → Action A) → Extends s (world_of o).seen → ((e : ℕ) → Grows (f e))
    → Extends s (world_of (caught o f)).seen
caught_grows s (Gives a w) f h g = h
caught_grows s (Raises e w) f h g = extends_trans h ((g e).at_world w)
caught_grows s (OutOfFuel w) f h g = h

pub catch_grows : {A : Type 0} {m : Action A} {f : ℕ → Action A} → Grows m → ((e : ℕ) → Grows (f e)) → Grows (catch m f)
catch_grows {m = m} {f = f} h g = record { at_world = λ w. caught_grows w.seen (m w) f (h.at_world w) g }

pub left_grows : {A : Type 0} (s : Seen) (depth : ℕ) (o : Outcome A) → Extends s (world_of o).seen → Extends s (world_of (left depth o)).seen
left_grows s depth (Gives a w) h = h
left_grows s depth (Raises e w) h = h
left_grows s depth (OutOfFuel w) h = h

pub framed_grows : {A : Type 0} {m : Action A} → Grows m → Grows (framed m)
framed_grows {m = m} h =
    record { at_world = λ w. left_grows w.seen w.depth (m (at_depth (suc w.depth) w)) (h.at_world (at_depth (suc w.depth) w)) }

pub happens_grows : (e : Event) → Grows (happens e)
happens_grows e = record {
  at_world = λ w.
      record { more_events = e ∷ []; more_output = []; events = refl; output = refl; cost = le_refl w.seen.cost };
}

pub out_of_fuel_grows : {A : Type 0} → Grows (out_of_fuel {A = A})
out_of_fuel_grows = record { at_world = λ w. extends_refl w.seen }

pub quiet_grows : {A : Type 0} {m : Action A} → Quiet m → Grows m
quiet_grows q = record {
  at_world = λ w.
      let at = q.at_world w in
      record { more_events = []; more_output = at.more_output; events = at.events; output = at.output; cost = at.cost };
}

pub starts_grows : (p : Program) (calls : Calls) (fuel inst : ℕ) (l : Label) → Grows (starts p calls fuel inst l)
starts_grows p calls fuel inst l = then_grows (quiet_grows tick_quiet) (happens_grows (Start (record { 0 = l.number }) (record { 0 = inst })))

pub completed_grows : (d : Label) (inst : ℕ) (v : Evaluation) → Grows (completed d inst v)
completed_grows d inst v =
    then_grows (happens_grows (Done (record { 0 = d.number }) (record { 0 = inst }) (vector_of v.steps))) (quiet_grows (give_quiet v.outcome))
