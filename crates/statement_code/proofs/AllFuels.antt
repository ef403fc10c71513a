-- A kernel ends exactly where its program does, and begins as it under each fuel.
use Rattle.std.proofs.Common.{◌≡◌, ◌≢◌, ℕ, suc, ◌+◌, ◌*◌, eqb, true, false, ◌≤◌, ℤ, List, [], reverse, Option, Some, None, refl, sym, ap, ◌∙◌, subst, arith, ◌⊎◌, inl, inr}
use Rattle.std.proofs.lemmas.Bool.Decides.{eqb_tells}
use Rattle.ada_meaning.specs.Execution as source
use Rattle.ada_meaning.specs.Execution.{Execution, by_return, by_exception, execution_of, Ends}
use Rattle.ada_meaning.specs.Program.{Program}
use Rattle.ada_meaning.specs.Refines as source_refines
use Rattle.ada_meaning.specs.State.{Seen, Outcome, Gives, Raises, OutOfFuel, world_of}
use Rattle.ada_meaning.proofs.FuelExecution.{more_fuel_law as source_more}
use Rattle.kernel_ir.specs.declared.kernel.Kernel.{Kernel}
use Rattle.kernel_ir.specs.Laws.{Refines}
use Rattle.kernel_ir.specs.Meaning as code
use Rattle.kernel_ir.specs.World.{Ended, world_in}
use Rattle.kernel_ir.specs.World as kernel
use Rattle.kernel_ir.proofs.Fuel.{more_fuel_law as kernel_more}
use Rattle.statement_code.specs.AllFuels.{IsObservedOf, EndsAs, HasEnded, Begins, Follows, EndsInTime}
use Rattle.statement_code.specs.Frames.{Observed}
use Rattle.statement_code.specs.Kernels.{Scheme, BodyBy, IsKernelBy}
use Rattle.statement_code.specs.Programs.{Same}
use Rattle.statement_code.proofs.Programs.{same_law}

-- a fuel that is at least so much, and not the greatest depth of calls
pub record Fuel (n : ℕ) : Type 0 where
  pub fuel : ℕ
  pub enough : n ≤ fuel
  pub other : fuel ≢ source.deepest

pub fuel_from : (n : ℕ) → Fuel n
unfolding source.deepest
fuel_from n = by_test (eqb_tells n 512)
  where
    by_test : ((eqb n 512 ≡ true) × (n ≡ 512)) ⊎ ((eqb n 512 ≡ false) × (n ≢ 512)) → Fuel n
    by_test (inl is) = record { fuel = suc n; enough = omega arith; other = λ e. absurd (omega (arith, is.1, e)) }
    by_test (inr not) = record { fuel = n; enough = omega arith; other = not.1 }

abbrev pub nothing : Option Execution
nothing = None

pub none_some : (x : Execution) → nothing ≡ Some x → ⊥
none_some x e = cc e

pub some_is : (x y : Execution) → Some x ≡ Some y → x ≡ y
some_is x y e = cc e

-- an execution that ended stays
pub ended_stays : (a b : Outcome (Option ℤ)) (x : Execution) → source_refines.Refines a b → source.ended a ≡ Some x → source.ended b ≡ Some x
ended_stays (Gives r w) b x refines is = ap source.ended refines ∙ is
ended_stays (Raises e w) b x refines is = ap source.ended refines ∙ is
ended_stays (OutOfFuel w) b x refines is = absurd (none_some x is)

-- what was observed alike is observed of the execution that it makes
observed : (ending : source.Ending) (w v : Seen) → Observed 0 w v → IsObservedOf (execution_of ending w) v
observed ending w v seen = record { output = ap reverse seen.output; events = ap reverse seen.events; cost = omega (arith, seen.cost) }

ends_as : (r : Outcome (Option ℤ)) (e : Ended) (x : Execution) → Same r e → source.ended r ≡ Some x → EndsAs x e
ends_as (Gives a w) (kernel.Ends v) x same is =
    subst (λ y. EndsAs y (kernel.Ends v)) (some_is (execution_of by_return w.seen) x is) (refl, observed by_return w.seen v.seen same)
ends_as (Raises f w) (kernel.Raises g v) x same is =
    subst (λ y. EndsAs y (kernel.Raises g v)) (some_is (execution_of (by_exception f) w.seen) x is)
    (ap by_exception (sym same.0), observed (by_exception f) w.seen v.seen same.1)
ends_as (OutOfFuel w) e x same is = absurd (none_some x is)
ends_as (Gives a w) (kernel.Exits v) x same is = absurd same
ends_as (Gives a w) (kernel.Returns v) x same is = absurd same
ends_as (Gives a w) (kernel.Raises g v) x same is = absurd same
ends_as (Gives a w) (kernel.Cut v) x same is = absurd same
ends_as (Raises f w) (kernel.Ends v) x same is = absurd same
ends_as (Raises f w) (kernel.Exits v) x same is = absurd same
ends_as (Raises f w) (kernel.Returns v) x same is = absurd same
ends_as (Raises f w) (kernel.Cut v) x same is = absurd same

-- where a kernel ended, the program did
source_ended : (r : Outcome (Option ℤ)) (e : Ended) → Same r e → HasEnded e → (x : Execution) × (source.ended r ≡ Some x)
source_ended (Gives a w) e same ended = (execution_of by_return w.seen, refl)
source_ended (Raises f w) e same ended = (execution_of (by_exception f) w.seen, refl)
source_ended (OutOfFuel w) (kernel.Cut v) same ended = absurd ended
source_ended (OutOfFuel w) (kernel.Ends v) same ended = absurd same
source_ended (OutOfFuel w) (kernel.Exits v) same ended = absurd same
source_ended (OutOfFuel w) (kernel.Returns v) same ended = absurd same
source_ended (OutOfFuel w) (kernel.Raises g v) same ended = absurd same

-- a kernel that ended stays
kernel_stays : (e more : Ended) → HasEnded e → Refines e more → more ≡ e
kernel_stays (kernel.Ends v) more ended refines = refines
kernel_stays (kernel.Exits v) more ended refines = refines
kernel_stays (kernel.Returns v) more ended refines = refines
kernel_stays (kernel.Raises g v) more ended refines = refines
kernel_stays (kernel.Cut v) more ended refines = absurd ended

-- both have observed the same
record Alike (w v : Seen) : Type 0 where
  events : v.events ≡ w.events
  output : v.output ≡ w.output

seen_alike : (r : Outcome (Option ℤ)) (e : Ended) → Same r e → Alike (world_of r).seen (world_in e).seen
seen_alike (Gives a w) (kernel.Ends v) same = record { events = same.events; output = same.output }
seen_alike (Raises f w) (kernel.Raises g v) same = record { events = same.1.events; output = same.1.output }
seen_alike (OutOfFuel w) (kernel.Cut v) same = record { events = same.events; output = same.output }
seen_alike (Gives a w) (kernel.Exits v) same = absurd same
seen_alike (Gives a w) (kernel.Returns v) same = absurd same
seen_alike (Gives a w) (kernel.Raises g v) same = absurd same
seen_alike (Gives a w) (kernel.Cut v) same = absurd same
seen_alike (Raises f w) (kernel.Ends v) same = absurd same
seen_alike (Raises f w) (kernel.Exits v) same = absurd same
seen_alike (Raises f w) (kernel.Returns v) same = absurd same
seen_alike (Raises f w) (kernel.Cut v) same = absurd same
seen_alike (OutOfFuel w) (kernel.Ends v) same = absurd same
seen_alike (OutOfFuel w) (kernel.Exits v) same = absurd same
seen_alike (OutOfFuel w) (kernel.Returns v) same = absurd same
seen_alike (OutOfFuel w) (kernel.Raises g v) same = absurd same

-- what begins a kernel's begins the program's
begins_alike : (sooner w v : Seen) → Begins sooner v → Alike w v → Begins sooner w
begins_alike sooner w v begins alike = record {
  more_events = begins.more_events;
  more_output = begins.more_output;
  events = sym alike.events ∙ begins.events;
  output = sym alike.output ∙ begins.output;
}

begins_itself : (e more : Ended) → more ≡ e → Begins (world_in e).seen (world_in more).seen
begins_itself e more is = record {
  more_events = [];
  more_output = [];
  events = ap (λ x. (world_in x).seen.events) is;
  output = ap (λ x. (world_in x).seen.output) is;
}

refined_begins : (e more : Ended) → Refines e more → Begins (world_in e).seen (world_in more).seen
refined_begins (kernel.Ends v) more refines = begins_itself (kernel.Ends v) more refines
refined_begins (kernel.Exits v) more refines = begins_itself (kernel.Exits v) more refines
refined_begins (kernel.Returns v) more refines = begins_itself (kernel.Returns v) more refines
refined_begins (kernel.Raises g v) more refines = begins_itself (kernel.Raises g v) more refines
refined_begins (kernel.Cut v) more refines =
    record { more_events = refines.more_events; more_output = refines.more_output; events = refines.events; output = refines.output }

-- a kernel that ends as its program under each fuel but one
module _ (p : Program) (k : Kernel) (input : List ℤ) (same : (fuel : ℕ) → fuel ≢ source.deepest → Same (source.exec p fuel input) (code.exec k fuel input)) where
  kernel_ends : (x : Execution) → Ends p input x → (fuel : ℕ) × EndsAs x (code.exec k fuel input)
  kernel_ends x ends =
      let f = fuel_from ends.0 in
      let still = ended_stays (source.exec p ends.0 input) (source.exec p f.fuel input) x (source_more p ends.0 f.fuel input f.enough) ends.1 in
      (f.fuel, ends_as (source.exec p f.fuel input) (code.exec k f.fuel input) x (same f.fuel f.other) still)

  kernel_ends_only : (fuel : ℕ) → HasEnded (code.exec k fuel input) → (x : Execution) × Ends p input x × EndsAs x (code.exec k fuel input)
  kernel_ends_only fuel ended =
      let f = fuel_from fuel in
      let stays = kernel_stays (code.exec k fuel input) (code.exec k f.fuel input) ended (kernel_more k fuel f.fuel input f.enough) in
      let alike = subst (Same (source.exec p f.fuel input)) stays (same f.fuel f.other) in
      let x = source_ended (source.exec p f.fuel input) (code.exec k fuel input) alike ended in
      (x.0, (f.fuel, x.1), ends_as (source.exec p f.fuel input) (code.exec k fuel input) x.0 alike x.1)

  kernel_begins : (fuel : ℕ) → (more : ℕ) × Begins (world_in (code.exec k fuel input)).seen (world_of (source.exec p more input)).seen
  kernel_begins fuel =
      let f = fuel_from fuel in (
        f.fuel,
        begins_alike (world_in (code.exec k fuel input)).seen (world_of (source.exec p f.fuel input)).seen (world_in (code.exec k f.fuel input)).seen
            (refined_begins (code.exec k fuel input) (code.exec k f.fuel input) (kernel_more k fuel f.fuel input f.enough))
            (seen_alike (source.exec p f.fuel input) (code.exec k f.fuel input) (same f.fuel f.other)),
      )

  pub follows_from : Follows p k input
  follows_from = record { ends = kernel_ends; ends_only = kernel_ends_only; begins = kernel_begins }

pub kernel_law : (p : Program) (K : Kernel) (s : Scheme) → IsKernelBy p K s → (fuel : ℕ) (input : List ℤ) → fuel ≢ 512
    → Same (source.exec p fuel input) (code.exec K fuel input)
kernel_law p K s is fuel input other = same_law p K s.number s.library (BodyBy p s) s.plan_of s.low is fuel input other

pub follows_law : (p : Program) (K : Kernel) (s : Scheme) → IsKernelBy p K s → (input : List ℤ) → Follows p K input
unfolding source.deepest
follows_law p K s is input = follows_from p K input (λ fuel other. kernel_law p K s is fuel input other)

-- the cost of a kernel that ends as an execution does
ends_cheaply : (x : Execution) (e : Ended) → EndsAs x e → 32 * (world_in e).seen.cost + 8 ≤ 500 * x.cost + 5000
ends_cheaply x (kernel.Ends v) ends = let cost = ends.1.cost in omega (arith, cost)
ends_cheaply x (kernel.Raises f v) ends = let cost = ends.1.cost in omega (arith, cost)
ends_cheaply x (kernel.Exits v) ends = absurd ends
ends_cheaply x (kernel.Returns v) ends = absurd ends
ends_cheaply x (kernel.Cut v) ends = absurd ends

pub in_time_law : (p : Program) (K : Kernel) (s : Scheme) → IsKernelBy p K s → (input : List ℤ) (x : Execution) → Ends p input x → EndsInTime x K input
in_time_law p K s is input x ends =
    let f = (follows_law p K s is input).ends x ends in
    record { fuel = f.0; ends = f.1; time = ends_cheaply x (code.exec K f.0 input) f.1 }
