-- Executions with more fuel.
use Rattle.std.proofs.Common.{◌≡◌, ◌≤◌, ℕ, zero, suc, ◌+◌, ◌-◌, ℤ, List, [], ◌++◌, map, reverse, Option, Some, None, nat_lt, slice_get, sym, ap, ◌∙◌, subst, arith}
use Rattle.std.proofs.lemmas.List.{reverse-append}
use Rattle.cov_base.specs.declared.event.Event.{Event}
use Rattle.ada_meaning.specs.Program.{Subprogram, Program}
use Rattle.ada_meaning.specs.State.{world_of, Outcome, Gives, Raises, OutOfFuel}
use Rattle.ada_meaning.specs.Resolved.{storage_error, parameter_in}
use Rattle.ada_meaning.specs.Calls.{Argument, Calls}
use Rattle.ada_meaning.specs.Execution.{deepest, result_in, activated, called, calls_in, initial, exec, events_at, output_at, by_return, by_exception, Execution, execution_of, ended, Ends}
use Rattle.ada_meaning.specs.Refines.{Extends, Refines}
use Rattle.ada_meaning.proofs.Growing.{out_of_fuel_grows, extends_refl, extends_trans}
use Rattle.ada_meaning.proofs.Quiet.{depth_now_quiet}
use Rattle.ada_meaning.proofs.QuietParts.{copy_all_in_quiet, copy_all_back_quiet}
use Rattle.ada_meaning.proofs.Improving.{Improves, refines_itself, steady, quiet, cut_improves, bind_improves, then_improves, if_improves, framed_improves, give_improves, raise_improves, tick_improves}
use Rattle.ada_meaning.proofs.FuelExpressions.{CallsImprove}
use Rattle.ada_meaning.proofs.FuelStatements.{block_improves}

module _ (p : Program) where
  activated_improves : {few many : Calls} → CallsImprove few many → (fuel inst : ℕ) (s : Subprogram) (arguments : List Argument)
      → Improves (activated p few fuel inst s arguments) (activated p many (suc fuel) inst s arguments)
  activated_improves better fuel inst s arguments = bind_improves (quiet depth_now_quiet) (λ depth.
      bind_improves (framed_improves (then_improves
      (quiet (copy_all_in_quiet inst (suc depth) (map (parameter_in p inst) s.parameters) arguments))
      (block_improves p better fuel inst s.body None))) (λ f.
      then_improves (quiet (copy_all_back_quiet inst (suc depth) (map (parameter_in p inst) s.parameters) arguments)) (give_improves (result_in f))))

  called_improves : {few many : Calls} → CallsImprove few many → (fuel inst : ℕ) (s : Option Subprogram) (arguments : List Argument)
      → Improves (called p few fuel inst s arguments) (called p many (suc fuel) inst s arguments)
  called_improves better fuel inst None arguments = give_improves None
  called_improves better fuel inst (Some s) arguments = then_improves tick_improves (bind_improves (quiet depth_now_quiet) (λ depth.
      if_improves (nat_lt depth deepest) (activated_improves better fuel inst s arguments) (raise_improves storage_error)))

  pub calls_improve : (fuel : ℕ) → CallsImprove (calls_in p fuel) (calls_in p (suc fuel))
  calls_improve zero j n arguments = cut_improves
      (called_improves {few = calls_in p zero} {many = calls_in p zero} (λ k m rest. steady out_of_fuel_grows) zero j (slice_get p.subprograms n) arguments).grows
  calls_improve (suc fuel) j n arguments = called_improves (calls_improve fuel) (suc fuel) j (slice_get p.subprograms n) arguments

-- one more unit of fuel
one_more : (p : Program) (fuel : ℕ) (input : List ℤ) → Refines (exec p fuel input) (exec p (suc fuel) input)
one_more p fuel input = (calls_improve p fuel 0 p.main []).refines (initial p input)

refines_trans : {A : Type 0} (a b c : Outcome A) → Refines a b → Refines b c → Refines a c
refines_trans (Gives x w) b c h k = subst (λ o. Refines o c) h k
refines_trans (Raises e w) b c h k = subst (λ o. Refines o c) h k
refines_trans (OutOfFuel w) (Gives x v) c h k = subst (λ o. Extends w.seen (world_of o).seen) (sym k) h
refines_trans (OutOfFuel w) (Raises e v) c h k = subst (λ o. Extends w.seen (world_of o).seen) (sym k) h
refines_trans (OutOfFuel w) (OutOfFuel v) c h k = extends_trans h k

-- more fuel, by this much
much_more : (p : Program) (fuel more : ℕ) (input : List ℤ) → Refines (exec p fuel input) (exec p (more + fuel) input)
much_more p fuel zero input =
    let none : fuel ≡ 0 + fuel = omega arith in
    subst (λ n. Refines (exec p fuel input) (exec p n input)) none (refines_itself (exec p fuel input))
much_more p fuel (suc more) input =
    let next : suc (more + fuel) ≡ suc more + fuel = omega arith in
    subst (λ n. Refines (exec p fuel input) (exec p n input)) next
    (refines_trans (exec p fuel input) (exec p (more + fuel) input) (exec p (suc (more + fuel)) input)
    (much_more p fuel more input) (one_more p (more + fuel) input))

-- more fuel
pub more_fuel_law : (p : Program) (fuel more : ℕ) (input : List ℤ) → fuel ≤ more → Refines (exec p fuel input) (exec p more input)
more_fuel_law p fuel more input below =
    let sum : (more - fuel) + fuel ≡ more = omega (arith, below) in
    subst (λ n. Refines (exec p fuel input) (exec p n input)) sum (much_more p fuel (more - fuel) input)

-- an outcome that ended stays
ended_stays : {A : Type 0} (a b : Outcome A) (x : Execution) → Refines a b → ended a ≡ Some x → ended b ≡ Some x
ended_stays (Gives r w) b x h e = ap ended h ∙ e
ended_stays (Raises r w) b x h e = ap ended h ∙ e
ended_stays (OutOfFuel w) b x h e = cc e

-- an execution has one ending
pub one_ending_law : (p : Program) (input : List ℤ) (x y : Execution) → Ends p input x → Ends p input y → x ≡ y
one_ending_law p input x y h k =
    let first : ended (exec p (k.0 + h.0) input) ≡ Some x =
    ended_stays (exec p h.0 input) (exec p (k.0 + h.0) input) x (much_more p h.0 k.0 input) h.1 in
    let second : ended (exec p (h.0 + k.0) input) ≡ Some y =
    ended_stays (exec p k.0 input) (exec p (h.0 + k.0) input) y (much_more p k.0 h.0 input) k.1 in
    let same : h.0 + k.0 ≡ k.0 + h.0 = omega arith in
    cc (first, second, ap (λ n. ended (exec p n input)) same)

-- a list that goes on from another, the latest first, begins with it, the earliest first
begins : {X : Type 0} (later more sooner : List X) → later ≡ more ++ sooner → reverse later ≡ reverse sooner ++ reverse more
begins later more sooner is = ap reverse is ∙ reverse-append more sooner

-- what was observed where the fuel ran out, or where the execution ended, is the beginning of what an execution that ended shows
refined_begins : {A : Type 0} (a b : Outcome A) → Refines a b → Extends (world_of a).seen (world_of b).seen
refined_begins (Gives x w) b h = subst (λ o. Extends w.seen (world_of o).seen) (sym h) (extends_refl w.seen)
refined_begins (Raises e w) b h = subst (λ o. Extends w.seen (world_of o).seen) (sym h) (extends_refl w.seen)
refined_begins (OutOfFuel w) b h = h

events_of_ended : {A : Type 0} (o : Outcome A) (x : Execution) → ended o ≡ Some x → x.events ≡ reverse (world_of o).seen.events
events_of_ended (Gives a w) x is = let same : execution_of by_return w.seen ≡ x = cc is in sym (ap (λ y. y.events) same)
events_of_ended (Raises e w) x is = let same : execution_of (by_exception e) w.seen ≡ x = cc is in sym (ap (λ y. y.events) same)
events_of_ended (OutOfFuel w) x is = cc is

output_of_ended : {A : Type 0} (o : Outcome A) (x : Execution) → ended o ≡ Some x → x.output ≡ reverse (world_of o).seen.output
output_of_ended (Gives a w) x is = let same : execution_of by_return w.seen ≡ x = cc is in sym (ap (λ y. y.output) same)
output_of_ended (Raises e w) x is = let same : execution_of (by_exception e) w.seen ≡ x = cc is in sym (ap (λ y. y.output) same)
output_of_ended (OutOfFuel w) x is = cc is

-- what was observed under more fuel, latest first, extends that under less
pub extends_law : (p : Program) (fuel more : ℕ) (input : List ℤ) → Extends (world_of (exec p fuel input)).seen (world_of (exec p (more + fuel) input)).seen
extends_law p fuel more input = refined_begins (exec p fuel input) (exec p (more + fuel) input) (much_more p fuel more input)

-- the execution that ended, at a fuel that is greater by another one
stays_ended : (p : Program) (input : List ℤ) (x : Execution) (h : Ends p input x) (fuel : ℕ) → ended (exec p (h.0 + fuel) input) ≡ Some x
stays_ended p input x h fuel =
    let same : fuel + h.0 ≡ h.0 + fuel = omega arith in
    subst (λ n. ended (exec p n input) ≡ Some x) same
    (ended_stays (exec p h.0 input) (exec p (fuel + h.0) input) x (much_more p h.0 fuel input) h.1)

pub events_begin_law : (p : Program) (fuel : ℕ) (input : List ℤ) (x : Execution) → Ends p input x
    → (rest : List Event) × (x.events ≡ events_at p fuel input ++ rest)
events_begin_law p fuel input x h =
    let more = extends_law p fuel h.0 input in (
      reverse more.more_events,
      events_of_ended (exec p (h.0 + fuel) input) x (stays_ended p input x h fuel)
          ∙ begins (world_of (exec p (h.0 + fuel) input)).seen.events more.more_events (world_of (exec p fuel input)).seen.events more.events,
    )

pub output_begins_law : (p : Program) (fuel : ℕ) (input : List ℤ) (x : Execution) → Ends p input x
    → (rest : List ℤ) × (x.output ≡ output_at p fuel input ++ rest)
output_begins_law p fuel input x h =
    let more = extends_law p fuel h.0 input in (
      reverse more.more_output,
      output_of_ended (exec p (h.0 + fuel) input) x (stays_ended p input x h fuel)
          ∙ begins (world_of (exec p (h.0 + fuel) input)).seen.output more.more_output (world_of (exec p fuel input)).seen.output more.output,
    )
