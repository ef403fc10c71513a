-- A use tells the sources.
use Rattle.std.proofs.Common.{◌≡◌, ◌↔◌, inl, inr, ⊎_elim, ℕ, ℤ, List, [], ◌∷◌, ◌++◌, map, Option, Some, None, IfSome, Result, Ok, refl, sym, ap, subst, ◌∙◌}
use Rattle.std.specs.FinMap as finmap
use Rattle.ada_meaning.specs.Program.{Program}
use Rattle.command_words.specs.Task.{Coverage, Consolidate}
use Rattle.cov_base.specs.declared.event.Event.{Event}
use Rattle.cov_base.specs.declared.level.Annotation.{Annotation}
use Rattle.cov_base.specs.declared.level.Level.{Level}
use Rattle.cov_base.specs.declared.obligations.SourceFile.{SourceFile}
use Rattle.cov_base.specs.Lists.{Everywhere, Somewhere}
use Rattle.cov_io.specs.Outside.{Held, Holds, WhereTold, Replaces}
use Rattle.commands.specs.Content.{IsInputOf}
use Rattle.commands.specs.declared.status.Status.TheVariants.{Done}
use Rattle.commands.specs.Headline.{Occurs, CoverageTellsTheSource}
use Rattle.commands.specs.RunsConsolidated.{ProgramsAreConsolidated}
use Rattle.commands.specs.RunsCovered.{ARun, IsWrittenOf, AreTracesOf}
use Rattle.commands.specs.ShownPairs.{LeastPairsAreShown, LeastPairsAreInJson}
use Rattle.commands.proofs.HeadlineLaws.{is_file, through, traced_ended}
use Rattle.kernel_code.specs.Whole.{IsInput}
use Rattle.object_format.specs.declared.object.Object.{Object}
use Rattle.object_format.specs.File.{object_bytes}
use Rattle.program_objects.specs.Source.{IsObjectOf}
use Rattle.commands.specs.Leaves.{LeavesObject, LeavesTrace, CompileLeavesAnObject, RunLeavesATrace}
use Rattle.user_calls.specs.Calls.{ACall, IsMade, held_after, InTurn, Spares, RanOn, AreTogether, IsOfRuns}
use Rattle.user_calls.specs.Use.{IsUse, TellsTheSources, AUseTellsTheSources}

-- ---- what is told

-- what is so of one value of an option is so of it by another name
pub moved : {A : Type 0} (P : A → Type 0) (o : Option A) (a b : A) → o ≡ Some a → o ≡ Some b → P a → P b
moved {A = A} P o a b is also holds = subst (λ (x : Option A). IfSome x P) also (subst (λ (x : Option A). IfSome x P) (sym is) holds)

-- what was told before the call is told after it
told_from : {A : Type 0} (R : A → A → Type 0) (new : Option A) (before : A) → WhereTold R (Some before) new
    → (after : A) × (new ≡ Some after) × R before after
told_from R None before told = absurd told
told_from R (Some after) before told = (after, refl, told)

told_after : {A : Type 0} (R : A → A → Type 0) (old new : Option A) (before : A) → old ≡ Some before → WhereTold R old new
    → (after : A) × (new ≡ Some after) × R before after
told_after {A = A} R old new before is told = told_from R new before (subst (λ (o : Option A). WhereTold R o new) is told)

-- the two are so related
related : {A : Type 0} (R : A → A → Type 0) (old new : Option A) (before after : A) → old ≡ Some before → new ≡ Some after
    → WhereTold R old new → R before after
related {A = A} R old new before after is also told =
    subst (λ (n : Option A). WhereTold R (Some before) n) also (subst (λ (o : Option A). WhereTold R o new) is told)

-- ---- files that stay

-- the files are told, and this name has these bytes
abbrev pub IsThere : Option Held → (name bytes : List ℕ) → Type 0
IsThere held name bytes = (now : Held) × (held ≡ Some now) × Holds name bytes now

spared_stays : (c : ACall) (name bytes : List ℕ) (before : Held) → IsMade c → Spares name c → c.call.held ≡ Some before
    → Holds name bytes before → IsThere c.call.held_after name bytes
spared_stays c name bytes before made (inl apart) is there =
    let kept = told_after (λ old new. finmap.get new name ≡ finmap.get old name) c.call.held c.call.held_after before is (made.others name apart) in
    (kept.0, kept.1, kept.2 ∙ there)
spared_stays c name bytes before made (inr refused) is there =
    (before, (made.unchanged refused.0 refused.1).0 ∙ is, there)

stands : (before : Option Held) (calls : List ACall) (name bytes : List ℕ) → InTurn before calls
    → Everywhere (Spares name) calls → IsThere before name bytes → IsThere (held_after before calls) name bytes
stands before [] name bytes turn spared there = there
stands before (c ∷ earlier) name bytes turn spared there =
    let so_far = stands before earlier name bytes turn.2 spared.1 there in
    spared_stays c name bytes so_far.0 turn.0 spared.0 (turn.1 ∙ so_far.1) so_far.2

-- ---- files that are of runs

-- the file of this name is of runs on these inputs
record IsKnown (o : Object) (now : Held) (name : List ℕ) (inputs : List (List ℤ)) : Type 0 where
  runs : List ARun
  on_inputs : map (λ r. r.input) runs ≡ inputs
  fit : Everywhere (λ r. IsInput r.input) runs
  bytes : List ℕ
  there : Holds name bytes now
  written : IsWrittenOf o runs bytes

-- these files are together
pub record AreKnown (o : Object) (now : Held) (names : List (List ℕ)) (inputs : List (List ℤ)) : Type 0 where
  pub runs : List ARun
  pub on_inputs : map (λ r. r.input) runs ≡ inputs
  pub fit : Everywhere (λ r. IsInput r.input) runs
  pub traces : AreTracesOf now o names runs

both_inputs : (xs ys : List ARun) (own others : List (List ℤ)) → map (λ r. r.input) xs ≡ own → map (λ r. r.input) ys ≡ others
    → map (λ r. r.input) (xs ++ ys) ≡ own ++ others
both_inputs xs ys own others first second = joined xs ys ∙ ap (λ (zs : List (List ℤ)). zs ++ map (λ (r : ARun). r.input) ys) first ∙ ap (λ (zs : List (List ℤ)). own ++ zs) second
  where
    joined : (xs ys : List ARun) → map (λ (r : ARun). r.input) (xs ++ ys) ≡ map (λ (r : ARun). r.input) xs ++ map (λ (r : ARun). r.input) ys
    joined [] ys = refl
    joined (x ∷ xs) ys = ap (λ (zs : List (List ℤ)). x.input ∷ zs) (joined xs ys)

both_fit : (xs ys : List ARun) → Everywhere (λ r. IsInput r.input) xs → Everywhere (λ r. IsInput r.input) ys
    → Everywhere (λ r. IsInput r.input) (xs ++ ys)
both_fit [] ys first second = second
both_fit (x ∷ xs) ys first second = (first.0, both_fit xs ys first.1 second)

one_more : (o : Object) (now : Held) (name : List ℕ) (names : List (List ℕ)) (inputs own others : List (List ℤ)) → inputs ≡ own ++ others
    → IsKnown o now name own → AreKnown o now names others → AreKnown o now (name ∷ names) inputs
one_more o now name names inputs own others are it rest = record {
  runs = it.runs ++ rest.runs;
  on_inputs = both_inputs it.runs rest.runs own others it.on_inputs rest.on_inputs ∙ sym are;
  fit = both_fit it.runs rest.runs it.fit rest.fit;
  traces = (it.runs, rest.runs, refl, it.bytes, it.there, it.written, rest.traces);
}

all_known : (o : Object) (now : Held) (IsOf : List ℕ → List (List ℤ) → Type 0)
    → ((name : List ℕ) (inputs : List (List ℤ)) → IsOf name inputs → IsKnown o now name inputs)
    → (names : List (List ℕ)) (inputs : List (List ℤ)) → AreTogether IsOf names inputs → AreKnown o now names inputs
all_known o now IsOf each [] inputs are = record { runs = []; on_inputs = sym are; fit = tt; traces = refl }
all_known o now IsOf each (name ∷ names) inputs are =
    one_more o now name names inputs are.0 are.1 are.2 (each name are.0 are.3) (all_known o now IsOf each names are.1 are.4)

-- ---- what a call leaves

abbrev fine_numbers : List ℤ → Result (List ℤ) ℕ
fine_numbers ns = Ok ns

one_list : (ns ms : List ℤ) → fine_numbers ns ≡ fine_numbers ms → ns ≡ ms
one_list ns ms same = cc same

one_input : (bytes : List ℕ) (ns ms : List ℤ) → IsInputOf ns bytes → IsInputOf ms bytes → ns ≡ ms
one_input bytes ns ms first second =
    let same : fine_numbers ns ≡ fine_numbers ms = sym first ∙ second in
    one_list ns ms same

-- a run leaves the trace of a run on its input
left_trace : (o : Object) (object : List ℕ) (c : ACall) (name : List ℕ) (inputs : List (List ℤ)) (now : Held) (ran : RanOn object c name inputs)
    → c.call.held_after ≡ Some now → LeavesTrace ran.input name ran.budget o ran.held c.call → IsKnown o now name inputs
left_trace o object c name inputs now ran also left =
    let read : IsInputOf left.numbers ran.bytes =
    moved (λ bytes. IsInputOf left.numbers bytes) (finmap.get ran.held ran.input) left.bytes ran.bytes left.there ran.there left.read in
    let same : left.numbers ≡ ran.numbers = one_input ran.bytes left.numbers ran.numbers read ran.read in
    let r : ARun = record { budget = ran.budget; input = left.numbers; ending = left.ending } in
    record {
      runs = r ∷ [];
      on_inputs = ap (λ (ns : List ℤ). ns ∷ []) same ∙ sym ran.alone;
      fit = (left.fit, tt);
      bytes = left.file;
      there = (related (Replaces name left.file) c.call.held c.call.held_after ran.held now ran.told also left.written).there;
      written = inl (r, refl, left.of_run);
    }

run_known : (o : Object) (object : List ℕ) (c : ACall) (name : List ℕ) (inputs : List (List ℤ)) (before now : Held)
    → (files : List SourceFile) (main : List ℕ) (p : Program) → IsObjectOf files main p o
    → IsMade c → c.call.held ≡ Some before → Holds object (object_bytes o) before → c.call.held_after ≡ Some now
    → RanOn object c name inputs → IsKnown o now name inputs
unfolding RunLeavesATrace
run_known o object c name inputs before now files main p of made is there also ran =
    left_trace o object c name inputs now ran also
    (made.trace ran.held ran.input name object ran.budget ran.told ran.asked ran.done (object_bytes o) o
    (moved (Holds object (object_bytes o)) c.call.held before ran.held is ran.told there) (is_file files main p o of))

-- consolidation leaves the file of its runs
merged_known : (o : Object) (object : List ℕ) (c : ACall) (name : List ℕ) (names : List (List ℕ)) (inputs : List (List ℤ)) (before now : Held)
    → (files : List SourceFile) (main : List ℕ) (p : Program) → IsObjectOf files main p o
    → IsMade c → c.call.held ≡ Some before → Holds object (object_bytes o) before → c.call.held_after ≡ Some now
    → c.task ≡ Some (Consolidate object name names) → c.status ≡ Done → AreKnown o before names inputs → IsKnown o now name inputs
unfolding ProgramsAreConsolidated
merged_known o object c name names inputs before now files main p of made is there also asked done are =
    let left = made.merged before object name names is asked done files main p o of there are.runs are.traces are.fit in
    record {
      runs = are.runs;
      on_inputs = are.on_inputs;
      fit = are.fit;
      bytes = left.bytes;
      there = (related (Replaces name left.bytes) c.call.held c.call.held_after before now is also left.written).there;
      written = inr left.of_runs;
    }

-- a file that is spared stays of its runs
spared_known : (o : Object) (c : ACall) (name : List ℕ) (inputs : List (List ℤ)) (before now : Held) → IsMade c → Spares name c
    → c.call.held ≡ Some before → c.call.held_after ≡ Some now → IsKnown o before name inputs → IsKnown o now name inputs
spared_known o c name inputs before now made spares is also it =
    let kept = spared_stays c name it.bytes before made spares is it.there in
    record {
      runs = it.runs;
      on_inputs = it.on_inputs;
      fit = it.fit;
      bytes = it.bytes;
      there = moved (Holds name it.bytes) c.call.held_after kept.0 now kept.1 also kept.2;
      written = it.written;
    }

known : (o : Object) (object : List ℕ) (files : List SourceFile) (main : List ℕ) (p : Program) → IsObjectOf files main p o
    → (first : Option Held) (calls : List ACall) → InTurn first calls → Everywhere (Spares object) calls
    → IsThere first object (object_bytes o) → (now : Held) → held_after first calls ≡ Some now
    → (name : List ℕ) (inputs : List (List ℤ)) → IsOfRuns object calls name inputs → IsKnown o now name inputs
known o object files main p of first [] turn spared there now also name inputs is = absurd is
known o object files main p of first (c ∷ earlier) turn spared there now also name inputs (inl ran) =
    let so_far = stands first earlier object (object_bytes o) turn.2 spared.1 there in
    run_known o object c name inputs so_far.0 now files main p of turn.0 (turn.1 ∙ so_far.1) so_far.2 also ran
known o object files main p of first (c ∷ earlier) turn spared there now also name inputs (inr (inl merged)) =
    let so_far = stands first earlier object (object_bytes o) turn.2 spared.1 there in
    merged_known o object c name merged.names inputs so_far.0 now files main p of turn.0 (turn.1 ∙ so_far.1) so_far.2 also
    merged.asked merged.done
    (all_known o so_far.0 (IsOfRuns object earlier)
    (λ other own is. known o object files main p of first earlier turn.2 spared.1 there so_far.0 so_far.1 other own is)
    merged.names inputs merged.together)
known o object files main p of first (c ∷ earlier) turn spared there now also name inputs (inr (inr (spares, is))) =
    let so_far = stands first earlier object (object_bytes o) turn.2 spared.1 there in
    spared_known o c name inputs so_far.0 now turn.0 spares (turn.1 ∙ so_far.1) also
    (known o object files main p of first earlier turn.2 spared.1 there so_far.0 so_far.1 name inputs is)

-- ---- the whole

-- what some input is so of, some run is
mapped : {X Y : Type 0} (P : Y → Type 0) (f : X → Y) (xs : List X) → Somewhere P (map f xs) ↔ Somewhere (λ x. P (f x)) xs
mapped P f [] = (λ none. none, λ none. none)
mapped P f (x ∷ xs) =
    let later = mapped P f xs in (
      λ s. ⊎_elim (λ a. inl a) (λ b. inr (later.0 b)) s,
      λ s. ⊎_elim (λ a. inl a) (λ b. inr (later.1 b)) s,
    )

pub on_runs : (p : Program) (e : Event) (runs : List ARun) (inputs : List (List ℤ)) → map (λ r. r.input) runs ≡ inputs
    → Somewhere (λ input. Occurs p input e) inputs ↔ Somewhere (λ r. Occurs p r.input e) runs
on_runs p e runs inputs are =
    subst (λ (is : List (List ℤ)). Somewhere (λ input. Occurs p input e) is ↔ Somewhere (λ r. Occurs p r.input e) runs) are
    (mapped (λ input. Occurs p input e) (λ (r : ARun). r.input) runs)

-- coverage over an object that is there and files that are known tells the sources
covered : (main object : List ℕ) (sources : List (List ℕ)) (held now : Held) (first last : ACall)
    → (left : LeavesObject main object sources held first.call) → IsMade last → last.call.held ≡ Some now
    → Holds object (object_bytes left.made) now
    → (level : Level) (annotation : Annotation) (names : List (List ℕ)) → last.task ≡ Some (Coverage level annotation object names)
    → last.status ≡ Done → (inputs : List (List ℤ)) → AreKnown left.made now names inputs
    → TellsTheSources level annotation main sources held inputs last.call
unfolding CoverageTellsTheSource LeastPairsAreShown LeastPairsAreInJson
covered main object sources held now first last left made is there level annotation names asked done inputs are = record {
  sources = left.sources;
  named = left.named;
  read = left.read;
  program = left.program;
  object = left.made;
  of_sources = left.of_program;
  runs = are.runs;
  on_inputs = are.on_inputs;
  ended = traced_ended now left.made names are.runs are.traces;
  held_now = now;
  now = is;
  told = λ events of_events digests of_digests once.
      made.source now level annotation object names is asked done left.sources main left.program left.made left.of_program there
      are.runs are.traces are.fit events
      (λ e. through (of_events e) (on_runs left.program e are.runs inputs are.on_inputs)) digests of_digests once;
  pairs = λ form asks.
      made.pairs now level object names is (asked ∙ ap (λ (a : Annotation). Some (Coverage level a object names)) form) done asks
      left.sources main left.program left.made left.of_program there are.runs are.traces are.fit;
  json_pairs = λ form asks.
      made.json_pairs now level object names is (asked ∙ ap (λ (a : Annotation). Some (Coverage level a object names)) form) done asks
      left.sources main left.program left.made left.of_program there are.runs are.traces are.fit;
}

-- ---- a use

pub left_object : (main object : List ℕ) (names : List (List ℕ)) (held : Held) (first : ACall) (calls : List ACall)
    → IsUse main object names held first calls → LeavesObject main object names held first.call
unfolding CompileLeavesAnObject
left_object main object names held first calls it = it.made.object held main object names it.told it.asked it.done

-- the object's file stands behind these calls
pub record IsStanding (object bytes : List ℕ) (first : ACall) (calls : List ACall) : Type 0 where
  pub begun : IsThere first.call.held_after object bytes
  pub now : Held
  pub is : held_after first.call.held_after calls ≡ Some now
  pub there : Holds object bytes now

pub standing : (main object : List ℕ) (names : List (List ℕ)) (held : Held) (first : ACall) (calls : List ACall)
    → IsUse main object names held first calls → (left : LeavesObject main object names held first.call)
    → IsStanding object (object_bytes left.made) first calls
standing main object names held first calls it left =
    let begun = told_after (Replaces object (object_bytes left.made)) first.call.held first.call.held_after held it.told left.written in
    let now = stands first.call.held_after calls object (object_bytes left.made) it.turn it.spared (begun.0, begun.1, begun.2.there) in
    record { begun = (begun.0, begun.1, begun.2.there); now = now.0; is = now.1; there = now.2 }

-- and files that are of runs are known
pub files_known : (main object : List ℕ) (names : List (List ℕ)) (held : Held) (first : ACall) (calls : List ACall)
    → IsUse main object names held first calls → (left : LeavesObject main object names held first.call)
    → (standing : IsStanding object (object_bytes left.made) first calls) → (files : List (List ℕ)) (inputs : List (List ℤ))
    → AreTogether (IsOfRuns object calls) files inputs → AreKnown left.made standing.now files inputs
files_known main object names held first calls it left standing files inputs together =
    all_known left.made standing.now (IsOfRuns object calls)
    (λ name own is. known left.made object left.sources main left.program left.of_program first.call.held_after calls it.turn it.spared
    standing.begun standing.now standing.is name own is)
    files inputs together

pub use_law : AUseTellsTheSources
unfolding AUseTellsTheSources
use_law = λ main object names held first calls it last next level annotation files asked done inputs together.
    let left = left_object main object names held first calls it in
    let now = standing main object names held first calls it left in
    covered main object names held now.now first last left next.0 (next.1 ∙ now.is) now.there level annotation files asked done inputs
    (files_known main object names held first calls it left now files inputs together)
