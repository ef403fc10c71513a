-- An image that implements the kernel of a program does what the program means.
use Rattle.std.proofs.Common.{◌≡◌, ◌≢◌, ℕ, ◌+◌, ◌*◌, ◌≤◌, ℤ, List, reverse, Option, Some, refl, sym, ap, ◌∙◌, subst, arith}
use Rattle.ada_meaning.specs.Execution as source
use Rattle.ada_meaning.specs.Execution.{Execution, by_return, by_exception, execution_of, Ends}
use Rattle.ada_meaning.specs.Program.{Program}
use Rattle.ada_meaning.specs.State.{Seen, Outcome, Gives, Raises, OutOfFuel}
use Rattle.program_objects.specs.Behaves.{number_of, ShowsExecution, Behaves, EndsInTime}
use Rattle.kernel_code.specs.Implements.{EndedWith, EndsAs, EndsInTime as KernelEndsInTime, Implements}
use Rattle.kernel_code.specs.Line.{Site}
use Rattle.kernel_code.specs.Whole.{run_on, IsInput}
use Rattle.kernel_ir.specs.declared.kernel.Kernel.{Kernel}
use Rattle.kernel_ir.specs.Meaning as code
use Rattle.kernel_ir.specs.World.{Ended as KernelEnded, world_in}
use Rattle.kernel_ir.specs.World as kernel
use Rattle.kernel_ir.specs.Laws.{Refines}
use Rattle.kernel_ir.proofs.Fuel.{more_fuel_law as kernel_more}
use Rattle.ada_meaning.proofs.FuelExecution.{more_fuel_law as source_more}
use Rattle.object_facts.specs.Object.{facts_of}
use Rattle.object_format.specs.declared.object.Object.{Object}
use Rattle.rv_machine.specs.Objects.{object_run}
use Rattle.statement_code.specs.Frames.{Observed}
use Rattle.statement_code.specs.Programs.{Same}
use Rattle.statement_code.proofs.AllFuels.{fuel_from, none_some, some_is, ended_stays}
use Rattle.rv_semantics.specs.Run.{Run}
use Rattle.transcript.specs.Facts.{Facts}
use Rattle.rv_semantics.specs.Run.Outcome.{Ended}

-- a run that ended as the kernel did ends so with more fuel
ends_more : (site : Site) (run : Run) (e more : KernelEnded) → EndsAs site e run → Refines e more → EndsAs site more run
ends_more site run (kernel.Ends w) more ends refines = subst (λ x. EndsAs site x run) (sym refines) ends
ends_more site run (kernel.Exits w) more ends refines = absurd ends
ends_more site run (kernel.Returns w) more ends refines = absurd ends
ends_more site run (kernel.Raises f w) more ends refines = subst (λ x. EndsAs site x run) (sym refines) ends
ends_more site run (kernel.Cut w) more ends refines = absurd ends

-- what a run shows that ended as the kernel did, where the source ended alike
record Shown (site : Site) (r : Outcome (Option ℤ)) (run : Run) : Type 0 where
  x : Execution
  is : source.ended r ≡ Some x
  shows : ShowsExecution site.facts run x

matched : (site : Site) (number : ℕ) (w : Seen) (v : kernel.World) (run : Run) (ending : source.Ending) → number ≡ number_of ending → Observed 0 w v.seen → EndedWith site number v run
    → ShowsExecution site.facts run (execution_of ending w)
matched site number w v run ending is seen ends = record {
  ended = ends.outcome ∙ ap Ended is;
  output = sym ends.matches.output ∙ ap reverse seen.output;
  events = sym ends.matches.events ∙ ap reverse seen.events;
  disciplined = ends.matches.order;
}

shown : (site : Site) (r : Outcome (Option ℤ)) (e : KernelEnded) (run : Run) → Same r e → EndsAs site e run → Shown site r run
shown site (Gives a w) (kernel.Ends v) run same ends = record { x = execution_of by_return w.seen; is = refl; shows = matched site 0 w.seen v run by_return refl same ends }
shown site (Raises x w) (kernel.Raises f v) run same ends = record { x = execution_of (by_exception x) w.seen; is = refl; shows = matched site f w.seen v run (by_exception x) same.0 same.1 ends }
shown site r (kernel.Exits v) run same ends = absurd ends
shown site r (kernel.Returns v) run same ends = absurd ends
shown site r (kernel.Cut v) run same ends = absurd ends
shown site (Raises x w) (kernel.Ends v) run same ends = absurd same
shown site (OutOfFuel w) (kernel.Ends v) run same ends = absurd same
shown site (Gives a w) (kernel.Raises f v) run same ends = absurd same
shown site (OutOfFuel w) (kernel.Raises f v) run same ends = absurd same

-- where the source's execution ended, the kernel's did, and the run ends in time
timely : (site : Site) (k : Kernel) (input : List ℤ) (r : Outcome (Option ℤ)) (e : KernelEnded) (x : Execution) → Same r e → source.ended r ≡ Some x → KernelEndsInTime site k input e
    → (budget : ℕ) → 500 * x.cost + 5000 ≤ budget → EndsAs site e (run_on site k input budget)
timely site k input (Gives a w) (kernel.Ends v) x same is time budget enough =
    time budget (let cost = ap (λ y. y.cost) (some_is (execution_of by_return w.seen) x is) in omega (arith, cost, same.cost, enough))
timely site k input (Raises y w) (kernel.Raises f v) x same is time budget enough =
    time budget (let cost = ap (λ z. z.cost) (some_is (execution_of (by_exception y) w.seen) x is) in omega (arith, cost, same.1.cost, enough))
timely site k input (OutOfFuel w) e x same is time budget enough = absurd (none_some x is)
timely site k input (Gives a w) (kernel.Exits v) x same is time budget enough = absurd same
timely site k input (Gives a w) (kernel.Returns v) x same is time budget enough = absurd same
timely site k input (Gives a w) (kernel.Raises f v) x same is time budget enough = absurd same
timely site k input (Gives a w) (kernel.Cut v) x same is time budget enough = absurd same
timely site k input (Raises y w) (kernel.Ends v) x same is time budget enough = absurd same
timely site k input (Raises y w) (kernel.Exits v) x same is time budget enough = absurd same
timely site k input (Raises y w) (kernel.Returns v) x same is time budget enough = absurd same
timely site k input (Raises y w) (kernel.Cut v) x same is time budget enough = absurd same

-- a kernel does what a program means under each fuel but the greatest depth of calls
abbrev Does : Program → Kernel → Type 0
Does p k = (fuel : ℕ) (input : List ℤ) → fuel ≢ source.deepest → Same (source.exec p fuel input) (code.exec k fuel input)

module _ (p : Program) (k : Kernel) (does : Does p k) (site : Site) (impl : Implements site k) where
  runs_are_faithful : (budget : ℕ) (input : List ℤ) → IsInput input → (number : ℕ) → (run_on site k input budget).outcome ≡ Ended number
      → (x : Execution) × Ends p input x × ShowsExecution site.facts (run_on site k input budget) x
  runs_are_faithful budget input is number outcome =
      let f = fuel_from (budget + 1) in
      let ends = ends_more site (run_on site k input budget) _ _ (impl.ends_only input is budget number outcome) (kernel_more k (budget + 1) f.fuel input f.enough) in
      let s = shown site (source.exec p f.fuel input) (code.exec k f.fuel input) (run_on site k input budget) (does f.fuel input f.other) ends in
      (s.x, (f.fuel, s.is), s.shows)

  runs_are_timely : (input : List ℤ) → IsInput input → (x : Execution) → Ends p input x → (budget : ℕ) → 500 * x.cost + 5000 ≤ budget
      → ShowsExecution site.facts (run_on site k input budget) x
  runs_are_timely input is x ends budget enough =
      let f = fuel_from ends.0 in
      let still = ended_stays (source.exec p ends.0 input) (source.exec p f.fuel input) x (source_more p ends.0 f.fuel input f.enough) ends.1 in
      let same = does f.fuel input f.other in
      let over = timely site k input (source.exec p f.fuel input) (code.exec k f.fuel input) x same still (impl.in_time input is f.fuel) budget enough in
      let s = shown site (source.exec p f.fuel input) (code.exec k f.fuel input) (run_on site k input budget) same over in
      subst (λ y. ShowsExecution site.facts (run_on site k input budget) y) (some_is s.x x (sym s.is ∙ still)) s.shows

-- the same of what an object's machine does
moved : (facts : Facts) (o : Object) (run : Run) (budget : ℕ) (input : List ℤ) (x : Execution) → facts ≡ facts_of o → object_run o budget input ≡ run → ShowsExecution facts run x
    → ShowsExecution (facts_of o) (object_run o budget input) x
moved facts o run budget input x is same s = subst (λ f. ShowsExecution f (object_run o budget input) x) is (subst (λ r. ShowsExecution facts r x) (sym same) s)

-- an object whose machine is the kernel's image behaves as the program
pub behaves : (p : Program) (k : Kernel) → Does p k → (o : Object) (site : Site) → Implements site k → site.facts ≡ facts_of o
    → ((budget : ℕ) (input : List ℤ) → object_run o budget input ≡ run_on site k input budget) → Behaves p o
behaves p k does o site impl facts same = record {
  no_trap = λ budget input is pc why e. impl.no_trap input is budget pc why (ap (λ r. r.outcome) (sym (same budget input)) ∙ e);
  faithful = λ budget input is number e.
      let s = runs_are_faithful p k does site impl budget input is number (ap (λ r. r.outcome) (sym (same budget input)) ∙ e) in
      (s.0, s.1, moved site.facts o (run_on site k input budget) budget input s.0 facts (same budget input) s.2);
}

-- and its runs end in time
pub ends_in_time : (p : Program) (k : Kernel) → Does p k → (o : Object) (site : Site) → Implements site k → site.facts ≡ facts_of o
    → ((budget : ℕ) (input : List ℤ) → object_run o budget input ≡ run_on site k input budget) → EndsInTime p o
ends_in_time p k does o site impl facts same = record {
  in_time = λ input is x ends budget enough.
      moved site.facts o (run_on site k input budget) budget input x facts (same budget input) (runs_are_timely p k does site impl input is x ends budget enough);
}
