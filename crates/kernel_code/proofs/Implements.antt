-- From the runs that follow the kernel under each fuel to what holds of each run.
use Rattle.std.proofs.Common.{◌≡◌, ℕ, ◌+◌, ◌-◌, ◌*◌, ◌≤◌, Bool, true, false, nat_le, ℤ, List, [], ◌++◌, reverse, refl, sym, ap, subst, ◌∙◌, arith}
use Rattle.std.proofs.lemmas.Bool.Decides.{nat_tests}
use Rattle.std.proofs.lemmas.List.{append-nil}
use Rattle.rv_semantics.specs.declared.stepped.Seen.{Seen}
use Rattle.rv_semantics.specs.declared.stepped.TrapWhy.{TrapWhy}
use Rattle.rv_semantics.specs.Run.{Outcome, Run}
use Rattle.rv_semantics.specs.Run.Outcome.{Ended as EndedBy, Trapped, Cut as CutOff}
use Rattle.rv_semantics.specs.Laws.{IsOver, Begins}
use Rattle.rv_semantics.proofs.Runs.{stays_over, one_ending, begins_longer}
use Rattle.transcript.specs.Facts.{Facts}
use Rattle.transcript.specs.Visit.{visits, onto}
use Rattle.transcript.specs.Reading.{AllFollow, IsDisciplined}
use Rattle.transcript.specs.Computed.{reading_from, reading}
use Rattle.transcript.proofs.Readings.{reading_append}
use Rattle.transcript.proofs.Joined.{visits_append, follow_append}
use Rattle.ada_meaning.specs.Execution.{Ending, by_return, by_exception, execution_of}
use Rattle.kernel_ir.specs.declared.kernel.Kernel.{Kernel}
use Rattle.kernel_ir.specs.World.{World, Ended, Ends, Exits, Returns, Raises, Cut, world_in}
use Rattle.kernel_ir.specs.Meaning.{exec}
use Rattle.kernel_code.specs.Line.{Site}
use Rattle.kernel_code.specs.Does.{pace}
use Rattle.kernel_code.specs.Whole.{first_state, run_on, Matches, EndsWith, Follows, CodeFollows}
use Rattle.kernel_code.specs.Implements.{EndedWith, EndsAs, EndsInTime, Precedes, IsReached, FollowingImplements, CodeImplements, number_of, ShowsExecution, EndingsAreExecutions}

begins_itself : {X : Type 0} (xs ys : List X) → xs ≡ ys → Begins xs ys
begins_itself xs ys is = ([], append-nil xs ∙ is)

begins_is : {X : Type 0} (xs ys zs : List X) → Begins xs ys → ys ≡ zs → Begins xs zs
begins_is xs ys zs (rest, begins) is = (rest, begins ∙ is)

is_beginning : {X : Type 0} (xs ys zs : List X) → xs ≡ ys → Begins ys zs → Begins xs zs
is_beginning xs ys zs is (rest, begins) = (rest, ap (λ vs. vs ++ rest) is ∙ begins)

-- the beginning of a transcript tells the beginning of its events, and is disciplined where it is
reading_begins : (o : Facts) (xs ys : List Seen) → Begins xs ys → Begins (reading o xs) (reading o ys)
reading_begins o xs ys (rest, begins) =
    (reading_from o (onto (visits o xs) []) rest, sym (reading_append o xs rest []) ∙ ap (reading o) begins)

order_begins : (o : Facts) (xs ys : List Seen) → Begins xs ys → IsDisciplined o ys → IsDisciplined o xs
order_begins o xs ys (rest, begins) order =
    let whole : IsDisciplined o (xs ++ rest) = subst (IsDisciplined o) (sym begins) order in
    let parts : AllFollow o [] (visits o xs ++ visits o rest) = subst (AllFollow o []) (visits_append o xs rest) whole in
    ((follow_append o (visits o xs) (visits o rest) []).0 parts).0

is_over : (number : ℕ) (outcome : Outcome) → outcome ≡ EndedBy number → IsOver outcome
is_over number outcome is = subst IsOver (sym is) tt

is_trapped : (pc : ℕ) (why : TrapWhy) (outcome : Outcome) → outcome ≡ Trapped pc why → IsOver outcome
is_trapped pc why outcome is = subst IsOver (sym is) tt

not_cut : (outcome : Outcome) → outcome ≡ CutOff → IsOver outcome → ⊥
not_cut outcome is over_is = subst IsOver is over_is

same_number : (n m : ℕ) → EndedBy n ≡ EndedBy m → n ≡ m
same_number n m is = ap number_of is
  where
    number_of : Outcome → ℕ
    number_of (EndedBy number) = number
    number_of (Trapped pc why) = 0
    number_of CutOff = 0

not_trapped : (number pc : ℕ) (why : TrapWhy) → EndedBy number ≡ Trapped pc why → ⊥
not_trapped number pc why is = subst Ended_by is tt
  where
    Ended_by : Outcome → Type 0
    Ended_by (EndedBy number) = Unit {0}
    Ended_by (Trapped pc why) = ⊥
    Ended_by CutOff = ⊥

module _ (site : Site) (k : Kernel) (input : List ℤ) where
  abbrev run : ℕ → Run
  run budget = run_on site k input budget

  -- a larger budget, as a sum
  longer : (few many : ℕ) → few ≤ many → run (few + (many - few)) ≡ run many
  longer few many least = ap run (let x : few + (many - few) ≡ many = omega arith in x)

  begins : (few many : ℕ) → few ≤ many → Begins (run few).entries (run many).entries × Begins (run few).output (run many).output
  begins few many least =
      let both = begins_longer site.image few (many - few) (first_state site k) input in (
        begins_is (run few).entries (run (few + (many - few))).entries (run many).entries both.0 (ap (λ r. r.entries) (longer few many least)),
        begins_is (run few).output (run (few + (many - few))).output (run many).output both.1 (ap (λ r. r.output) (longer few many least)),
      )

  stays : (few many : ℕ) → few ≤ many → IsOver (run few).outcome → run many ≡ run few
  stays few many least is = sym (longer few many least) ∙ stays_over site.image few (many - few) (first_state site k) input is

  ended_so : (number : ℕ) (w : World) (budget : ℕ) → IsOver (run budget).outcome → EndsWith site k input number w → EndedWith site number w (run budget)
  ended_so number w budget is ends =
      let same : run ends.budget ≡ run budget = one_ending site.image ends.budget budget (first_state site k) input (is_over number (run ends.budget).outcome ends.outcome) is in
      subst (EndedWith site number w) same (record { outcome = ends.outcome; matches = ends.matches })

  ends_as : (budget : ℕ) (ended : Ended) → IsOver (run budget).outcome → Follows site k input (budget + 1) ended → EndsAs site ended (run budget)
  ends_as budget (Ends w) is one = ended_so 0 w budget is one
  ends_as budget (Exits w) is one = one
  ends_as budget (Returns w) is one = one
  ends_as budget (Raises e w) is one = ended_so e w budget is one
  ends_as budget (Cut w) is one =
      let enough = one.enough in
      let same : run one.budget ≡ run budget = stays budget one.budget (omega arith) is in
      absurd (not_cut (run one.budget).outcome one.outcome (subst (λ r. IsOver r.outcome) (sym same) is))

  in_time_by : (ended : Ended) (number : ℕ) (w : World) → EndsWith site k input number w → (budget : ℕ) → pace * w.seen.cost + 8 ≤ budget → EndedWith site number w (run budget)
  in_time_by ended number w ends budget most =
      let spent = ends.spent in
      let same : run budget ≡ run ends.budget = stays ends.budget budget (omega arith) (is_over number (run ends.budget).outcome ends.outcome) in
      subst (EndedWith site number w) (sym same) (record { outcome = ends.outcome; matches = ends.matches })

  in_time_as : (fuel : ℕ) (ended : Ended) → Follows site k input fuel ended → EndsInTime site k input ended
  in_time_as fuel (Ends w) one = in_time_by (Ends w) 0 w one
  in_time_as fuel (Exits w) one = absurd one
  in_time_as fuel (Returns w) one = absurd one
  in_time_as fuel (Raises e w) one = in_time_by (Raises e w) e w one
  in_time_as fuel (Cut w) one = tt

  no_trap_as : (budget : ℕ) (ended : Ended) (pc : ℕ) (why : TrapWhy) → (run budget).outcome ≡ Trapped pc why → EndsAs site ended (run budget) → ⊥
  no_trap_as budget (Ends w) pc why is one = not_trapped 0 pc why (sym one.outcome ∙ is)
  no_trap_as budget (Exits w) pc why is one = one
  no_trap_as budget (Returns w) pc why is one = one
  no_trap_as budget (Raises e w) pc why is one = not_trapped e pc why (sym one.outcome ∙ is)
  no_trap_as budget (Cut w) pc why is one = one

  precedes_longer : (w : World) (few many : ℕ) → few ≤ many → Matches site w (run many) → Precedes site (run few) w
  precedes_longer w few many least matches =
      let both = begins few many least in
      record {
        output = begins_is (run few).output (run many).output (reverse w.seen.output) both.1 (sym matches.output);
        events = begins_is (reading site.facts (run few).entries) (reading site.facts (run many).entries) (reverse w.seen.events)
            (reading_begins site.facts (run few).entries (run many).entries both.0) (sym matches.events);
        order = order_begins site.facts (run few).entries (run many).entries both.0 matches.order;
      }

  -- a run that ended, under a smaller or a larger budget
  precedes_ended : (number : ℕ) (w : World) (budget : ℕ) → EndsWith site k input number w → Precedes site (run budget) w
  precedes_ended number w budget ends = by_test (nat_le budget ends.budget) refl
    where
      by_test : (within : Bool) → nat_le budget ends.budget ≡ within → Precedes site (run budget) w
      by_test true is = precedes_longer w budget ends.budget (let x : budget ≤ ends.budget = grind (arith, nat_tests) in x) ends.matches
      by_test false is =
          let most : ends.budget ≤ budget = grind (arith, nat_tests) in
          let same : run budget ≡ run ends.budget = stays ends.budget budget most (is_over number (run ends.budget).outcome ends.outcome) in
          subst (λ r. Precedes site r w) (sym same) (precedes_longer w ends.budget ends.budget (omega arith) ends.matches)

  precedes_as : (budget : ℕ) (ended : Ended) → Follows site k input (budget + 1) ended → Precedes site (run budget) (world_in ended)
  precedes_as budget (Ends w) one = precedes_ended 0 w budget one
  precedes_as budget (Exits w) one = absurd one
  precedes_as budget (Returns w) one = absurd one
  precedes_as budget (Raises e w) one = precedes_ended e w budget one
  precedes_as budget (Cut w) one =
      let enough = one.enough in
      precedes_longer w budget one.budget (omega arith) one.matches

  reached_by : (w : World) (budget : ℕ) → Matches site w (run budget) → IsReached site k input w
  reached_by w budget matches = record {
    budget = budget;
    from_there = λ more least.
        let both = begins budget more least in
        record {
          output = is_beginning (reverse w.seen.output) (run budget).output (run more).output matches.output both.1;
          events = is_beginning (reverse w.seen.events) (reading site.facts (run budget).entries) (reading site.facts (run more).entries) matches.events
              (reading_begins site.facts (run budget).entries (run more).entries both.0);
        };
  }

  reached_as : (fuel : ℕ) (ended : Ended) → Follows site k input fuel ended → IsReached site k input (world_in ended)
  reached_as fuel (Ends w) one = reached_by w one.budget one.matches
  reached_as fuel (Exits w) one = absurd one
  reached_as fuel (Returns w) one = absurd one
  reached_as fuel (Raises e w) one = reached_by w one.budget one.matches
  reached_as fuel (Cut w) one = reached_by w one.budget one.matches

pub following_implements : FollowingImplements
following_implements site k follows = record {
  follows = follows;
  in_time = λ input numbers fuel. in_time_as site k input fuel (exec k fuel input) (follows input numbers fuel);
  ends_only = λ input numbers budget number is.
      ends_as site k input budget (exec k (budget + 1) input) (is_over number (run_on site k input budget).outcome is) (follows input numbers (budget + 1));
  no_trap = λ input numbers budget pc why is.
      no_trap_as site k input budget (exec k (budget + 1) input) pc why is
      (ends_as site k input budget (exec k (budget + 1) input) (is_trapped pc why (run_on site k input budget).outcome is) (follows input numbers (budget + 1)));
  precedes = λ input numbers budget. precedes_as site k input budget (exec k (budget + 1) input) (follows input numbers (budget + 1));
  reached = λ input numbers fuel. reached_as site k input fuel (exec k fuel input) (follows input numbers fuel);
}

-- and so the code of a kernel does that runs as the kernel
pub code_implements : CodeFollows → CodeImplements
code_implements follows site k holds formed within = following_implements site k (follows site k holds formed within)

shown : (site : Site) (ending : Ending) (w : World) (run : Run) → EndedWith site (number_of ending) w run → ShowsExecution site (execution_of ending w.seen) run
shown site ending w run one = record { outcome = one.outcome; output = one.matches.output; events = one.matches.events; order = one.matches.order }

pub endings_are_executions : EndingsAreExecutions
endings_are_executions site (Ends w) run one = (execution_of by_return w.seen, refl, shown site by_return w run one)
endings_are_executions site (Exits w) run one = absurd one
endings_are_executions site (Returns w) run one = absurd one
endings_are_executions site (Raises e w) run one = (execution_of (by_exception e) w.seen, refl, shown site (by_exception e) w run one)
endings_are_executions site (Cut w) run one = absurd one
