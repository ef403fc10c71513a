-- What was found out after the object was read, as what the whole command comes to.
use Rattle.std.proofs.Common.{◌≡◌, ◌⊎◌, ℕ, suc, ◌+◌, ◌<◌, ℤ, List, [], ◌∷◌, ◌++◌, length, map, take, drop, get_or, slice_get, unwrap_or, Option, None, Some, IfSome, IsSomeAnd, option_map, Result, Ok, Err, IfErr, inl, inr, refl, sym, ◌∙◌, ap, subst, lit<, arith}
use Rattle.std.specs.FinMap as finmap
use Rattle.std.specs.List.{AllByRecursion}
use Rattle.std.proofs.lemmas.List.{length-append, length-map, length-take-le, take-append-drop, drop_more, map-append, map_more}
use Rattle.command_words.specs.Task.{Task, Run}
use Rattle.cov_base.specs.declared.event.Event.{Event}
use Rattle.cov_io.specs.Outside.{Held, Holds, IsAbsent, Rose}
use Rattle.coverage_set.specs.Covered.{Covered, Has, HasRun}
use Rattle.commands.specs.Content.{IsFileOf, IsTraceFor, RefusesObject, IsInputOf, RefusesInput, RefusesTrace, RunsTo, StopsRun}
use Rattle.commands.specs.declared.ready.coverage.Product.{Product}
use Rattle.commands.specs.declared.ready.coverage.Product.TheVariants as products
use Rattle.commands.specs.declared.status.FileRef.TheVariants.{Word}
use Rattle.commands.specs.declared.status.Status.{Status}
use Rattle.commands.specs.declared.status.Status.TheVariants.{ObjectRefused, TraceRefused, InputRefused, OverBudget, Trap, ReadFault, WantOfMemory}
use Rattle.commands.specs.Outcome.{IsNamed, Prepares, Stops, CannotGet}
use Rattle.commands.specs.Prepared.{PreparesFrom, StopsOnInput}
use Rattle.commands.specs.Reading.{IsUnread, IsNoTrace, UnlessMemory, AreRead, WereRead, WereAdded, StopsAt, StopsAmong}
use Rattle.commands.specs.Covering.{Yields, task_for}
use Rattle.commands.specs.TaskFiles.{name_in_place}
use Rattle.commands.specs.Verdict.{NewFile, Output, AfterRead, AfterObject, AfterInput, AfterTrace, AfterTraces, RunsOn, ComesTo}
use Rattle.object_format.specs.declared.object.Object.{Object}
use Rattle.commands.proofs.CoveringLaws.{reports_added, stands_added, more_added, nothing_added}

-- what holds whatever is held
always : (held : Option Held) {P : Type 0} → P → IfSome held (λ told. P)
always None p = tt
always (Some told) p = p

-- ---- one file after another

-- a file that is held was read, and what was found out of its bytes is what its reading comes to
pub after_read : (held : Option Held) (place : ℕ) (name bytes : List ℕ) (Then : Held → List ℕ → Result Output Status → Type 0) (verdict : Result Output Status)
    → IfSome held (Holds name bytes) → IfSome held (λ told. Then told bytes verdict)
    → IfSome held (λ told. AfterRead told place name (Then told) verdict)
after_read None place name bytes Then verdict holds says = tt
after_read (Some told) place name bytes Then verdict holds says = rw holds says

-- the same of a file that is an object's
pub after_object : (held : Option Held) (name bytes : List ℕ) (o : Object) (Then : Held → Object → Result Output Status → Type 0) (verdict : Result Output Status)
    → IfSome held (Holds name bytes) → IsFileOf o bytes → IfSome held (λ told. Then told o verdict)
    → IfSome held (λ told. AfterRead told 0 name (λ bytes. AfterObject bytes (Then told)) verdict)
after_object None name bytes o Then verdict holds is says = tt
after_object (Some told) name bytes o Then verdict holds is says = rw holds (inr (o, is, says))

-- a file that is told not to be there
pub unread : (held : Option Held) (place : ℕ) (name : List ℕ) (Then : Held → List ℕ → Result Output Status → Type 0)
    → IsAbsent held name → IsSomeAnd held (λ told. AfterRead told place name (Then told) (Err (ReadFault (Word place))))
unread None place name Then absent = absurd absent
unread (Some told) place name Then absent = rw absent refl

-- the same of a file that is read after an object
pub unread_after_object : (held : Option Held) (object bytes : List ℕ) (o : Object) (Then : Held → Object → Result Output Status → Type 0) (verdict : Result Output Status)
    → IfSome held (Holds object bytes) → IsFileOf o bytes → IsSomeAnd held (λ told. Then told o verdict)
    → IsSomeAnd held (λ told. AfterRead told 0 object (λ bytes. AfterObject bytes (Then told)) verdict)
unread_after_object None object bytes o Then verdict holds is says = absurd says
unread_after_object (Some told) object bytes o Then verdict holds is says = rw holds (inr (o, is, says))

-- a file that is no object
pub no_object : (held : Option Held) (name bytes : List ℕ) (Then : Held → Object → Result Output Status → Type 0) (status : Status)
    → IfSome held (Holds name bytes) → RefusesObject bytes status
    → IfSome held (λ told. AfterRead told 0 name (λ bytes. AfterObject bytes (Then told)) (Err status))
no_object None name bytes Then status holds refuses = tt
no_object (Some told) name bytes Then status holds refuses = rw holds (inl refuses)

-- ---- traces, one after another

-- all of them were read, and what follows holds of them
pub all_read : (told : Held) (o : Object) (number : ℕ) (names traces : List (List ℕ)) (Then : List (List ℕ) → Result Output Status → Type 0) (verdict : Result Output Status)
    → AreRead told o names traces → Then traces verdict → AfterTraces told o number names Then verdict
all_read told o number [] [] Then verdict read says = says
all_read told o number [] (trace ∷ traces) Then verdict read says = absurd read
all_read told o number (name ∷ names) [] Then verdict read says = absurd read
all_read told o number (name ∷ names) (trace ∷ traces) Then verdict read says =
    rw read.0 (inr (read.1, all_read told o (number + 1) names traces (λ ts. Then (trace ∷ ts)) verdict read.2 says))

-- those before one were read, and what follows holds of that one and of those behind it
pub reads_up_to : (told : Held) (o : Object) (number at : ℕ) (earlier : List (List ℕ)) (name : List ℕ) (later traces : List (List ℕ))
    (Then : List (List ℕ) → Result Output Status → Type 0) (verdict : Result Output Status)
    → at ≡ length earlier + number → AreRead told o earlier traces
    → ((Next : List ℕ → Result Output Status → Type 0) → AfterRead told at name (λ trace. AfterTrace at o trace (Next trace)) verdict)
    → AfterTraces told o number (earlier ++ (name ∷ later)) Then verdict
reads_up_to told o number at [] name later [] Then verdict is read says =
    let same : number ≡ at = omega (arith, is) in
    rw same (says (λ trace. AfterTraces told o (at + 1) later (λ ts. Then (trace ∷ ts))))
reads_up_to told o number at [] name later (trace ∷ traces) Then verdict is read says = absurd read
reads_up_to told o number at (first ∷ earlier) name later [] Then verdict is read says = absurd read
reads_up_to told o number at (first ∷ earlier) name later (trace ∷ traces) Then verdict is read says =
    let next : at ≡ length earlier + (number + 1) = omega (arith, is) in
    rw read.0 (inr (read.1, reads_up_to told o (number + 1) at earlier name later traces (λ ts. Then (trace ∷ ts)) verdict next read.2 says))

-- both these and those were read
pub both_read : (told : Held) (o : Object) (names others traces more : List (List ℕ))
    → AreRead told o names traces → AreRead told o others more → AreRead told o (names ++ others) (traces ++ more)
both_read told o [] others [] more read also = also
both_read told o [] others (t ∷ traces) more read also = absurd read
both_read told o (n ∷ names) others [] more read also = absurd read
both_read told o (n ∷ names) others (t ∷ traces) more read also = (read.0, read.1, both_read told o names others traces more read.2 also)

-- nothing was added yet
pub none_added : (held : Option Held) (o : Object) (c : Covered) → WereAdded held o [] c c
none_added None o c = tt
none_added (Some told) o c = ([], tt, nothing_added o c)

-- one more was added, of names that are seen by `now`
pub one_more_added : {X : Type 0} (now : X → List ℕ) (o : Object) (names : List X) (i : ℕ) (d : X) (held held' : Option Held) (a b c : Covered)
    → i < length names → held' ≡ held → WereAdded held o (map now (take i names)) a b → WereAdded held' o (now (get_or names i d) ∷ []) b c
    → WereAdded held o (map now (take (i + 1) names)) a c
one_more_added now o names i d held held' a b c lt same before adds =
    subst (λ (ns : List (List ℕ)). WereAdded held o ns a c) (sym (map_more now names i d lt))
    (by_held held before (subst (λ (h : Option Held). WereAdded h o (now (get_or names i d) ∷ []) b c) same adds))
  where
    by_held : (h : Option Held) → WereAdded h o (map now (take i names)) a b → WereAdded h o (now (get_or names i d) ∷ []) b c
        → WereAdded h o (map now (take i names) ++ (now (get_or names i d) ∷ [])) a c
    by_held None first second = tt
    by_held (Some told) first second = (
      first.0 ++ second.0,
      both_read told o (map now (take i names)) (now (get_or names i d) ∷ []) first.0 second.0 first.1 second.1,
      more_added o a b c first.0 second.0 first.2 second.2,
    )

-- what was added was read
added_read : (held : Option Held) (o : Object) (names : List (List ℕ)) (a b : Covered) → WereAdded held o names a b → WereRead held o names
added_read None o names a b added = tt
added_read (Some told) o names a b added = (added.0, added.1)

-- one that stops the command, behind those that were added
pub stops_among : {X : Type 0} (now : X → List ℕ) (o : Object) (names : List X) (i : ℕ) (d : X) (held held' : Option Held) (reads reads' reads'' : ℕ) (status : Status) (a b : Covered)
    → i < length names → held' ≡ held → reads' ≡ reads → WereAdded held o (map now (take i names)) a b
    → StopsAt (i + 1) o (now (get_or names i d)) held' reads' reads'' status
    → StopsAmong o (map now names) held reads reads'' status
stops_among now o names i d held held' reads reads' reads'' status a b lt same count added stops =
    let name = now (get_or names i d) in
    let long : i + 1 ≡ length (map now (take i names)) + 1 = omega (arith, length-map (take i names) now, length-take-le i names (omega (arith, lt))) in
    let here = subst (λ (h : Option Held). StopsAt (i + 1) o name h reads' reads'' status) same stops in
    let then_so = subst (λ (n : ℕ). StopsAt (i + 1) o name held n reads'' status) count here in
    record {
      earlier = map now (take i names);
      name = name;
      later = map now (drop (i + 1) names);
      are = ap (map now) (sym (take-append-drop i names) ∙ ap (λ rest. take i names ++ rest) (drop_more names i d lt))
          ∙ map-append now (take i names) (get_or names i d ∷ drop (i + 1) names);
      read = added_read held o (map now (take i names)) a b added;
      stops = subst (λ (k : ℕ). StopsAt k o name held reads reads'' status) long then_so;
    }

-- ---- coverage and consolidate

-- what follows of the object and the traces is what the task comes to
pub comes_to : (held : Option Held) (product : Product) (object : List ℕ) (names : List (List ℕ)) (verdict : Result Output Status)
    → IfSome held (λ told. AfterRead told 0 object (λ bytes. AfterObject bytes (λ o. AfterTraces told o 1 names (Yields product told o))) verdict)
    → IfSome held (λ told. ComesTo told (task_for product object names) verdict)
comes_to held (products.Report level annotation) object names verdict says = says
comes_to held (products.File name) object names verdict says = says

-- one of its files can't be read
cannot_get : (held : Option Held) (reads reads' : ℕ) (product : Product) (object : List ℕ) (names : List (List ℕ)) (place : ℕ)
    → place < length (object ∷ names)
    → Rose reads reads' ⊎ (IsAbsent held (unwrap_or (slice_get (object ∷ names) place) [])
    × IsSomeAnd held (λ told. ComesTo told (task_for product object names) (Err (ReadFault (Word place)))))
    → CannotGet (task_for product object names) (Word place) held reads reads'
cannot_get held reads reads' (products.Report level annotation) object names place within (inl rose) = (within, inl rose)
cannot_get held reads reads' (products.Report level annotation) object names place within (inr absent) =
    (within, inr ((name_in_place (object ∷ names) place, refl, absent.0), absent.1))
cannot_get held reads reads' (products.File name) object names place within (inl rose) = (within, inl rose)
cannot_get held reads reads' (products.File name) object names place within (inr absent) =
    (within, inr ((name_in_place (object ∷ names) place, refl, absent.0), absent.1))

pub coverage_no_object : (held : Option Held) (reads reads' : ℕ) (product : Product) (object bytes : List ℕ) (traces : List (List ℕ)) (status : Status)
    → reads' ≡ reads → IfSome held (Holds object bytes) → UnlessMemory (RefusesObject bytes) status
    → Stops (task_for product object traces) held reads reads' status
coverage_no_object held reads reads' product object bytes traces status same holds (inl memory) = rw memory tt
coverage_no_object held reads reads' product object bytes traces status same holds (inr r) =
    rw r.2 (
      same,
      comes_to held product object traces (Err (ObjectRefused r.0))
          (no_object held object bytes (λ told o. AfterTraces told o 1 traces (Yields product told o)) (ObjectRefused r.0) holds (r.0, r.1, refl)),
    )

-- what follows from the trace at which reading stops, where the files tell
told_stop : (held : Option Held) (product : Product) (object bytes : List ℕ) (o : Object) (earlier : List (List ℕ)) (name : List ℕ) (later : List (List ℕ)) (status : Status)
    → IfSome held (Holds object bytes) → IsFileOf o bytes → WereRead held o earlier
    → ((told : Held) → held ≡ Some told → (Next : List ℕ → Result Output Status → Type 0)
    → AfterRead told (length earlier + 1) name (λ trace. AfterTrace (length earlier + 1) o trace (Next trace)) (Err status))
    → IfSome held (λ told. ComesTo told (task_for product object (earlier ++ (name ∷ later))) (Err status))
told_stop None product object bytes o earlier name later status holds is read says = tt
told_stop (Some told) product object bytes o earlier name later status holds is read says =
    comes_to (Some told) product object (earlier ++ (name ∷ later)) (Err status)
    (after_object (Some told) object bytes o (λ told o. AfterTraces told o 1 (earlier ++ (name ∷ later)) (Yields product told o)) (Err status) holds is
    (reads_up_to told o 1 (length earlier + 1) earlier name later read.0 (Yields product told o) (Err status) refl read.1 (says told refl)))

-- a place among the names
placed : (earlier later : List (List ℕ)) (object name : List ℕ) → length earlier + 1 < length (object ∷ (earlier ++ (name ∷ later)))
placed earlier later object name = omega (arith, length-append earlier (name ∷ later))

name_in : (earlier : List (List ℕ)) (name : List ℕ) (later : List (List ℕ)) → slice_get (earlier ++ (name ∷ later)) (length earlier) ≡ Some name
name_in [] name later = refl
name_in (first ∷ earlier) name later = name_in earlier name later

-- the name in that place
name_there : (object : List ℕ) (earlier : List (List ℕ)) (name : List ℕ) (later : List (List ℕ))
    → unwrap_or (slice_get (object ∷ (earlier ++ (name ∷ later))) (length earlier + 1)) [] ≡ name
name_there object earlier name later =
    let one : suc (length earlier) ≡ length earlier + 1 = omega arith in
    rw (← one, name_in earlier name later) refl

absent_at : (held : Option Held) (name : List ℕ) (told : Held) → held ≡ Some told → IsAbsent held name → finmap.get told name ≡ None
absent_at held name told e absent = subst (λ (h : Option Held). IsAbsent h name) e absent

-- one of the traces can't be read
coverage_absent : (held : Option Held) (reads reads' : ℕ) (product : Product) (object bytes : List ℕ) (o : Object)
    (earlier : List (List ℕ)) (name : List ℕ) (later : List (List ℕ))
    → IfSome held (Holds object bytes) → IsFileOf o bytes → WereRead held o earlier → Rose reads reads' ⊎ IsAbsent held name
    → CannotGet (task_for product object (earlier ++ (name ∷ later))) (Word (length earlier + 1)) held reads reads'
coverage_absent held reads reads' product object bytes o earlier name later holds is read (inl rose) =
    cannot_get held reads reads' product object (earlier ++ (name ∷ later)) (length earlier + 1) (placed earlier later object name) (inl rose)
coverage_absent None reads reads' product object bytes o earlier name later holds is read (inr absent) = absurd absent
coverage_absent (Some told) reads reads' product object bytes o earlier name later holds is read (inr absent) =
    cannot_get (Some told) reads reads' product object (earlier ++ (name ∷ later)) (length earlier + 1) (placed earlier later object name)
    (inr (
      rw (name_there object earlier name later) absent,
      told_stop (Some told) product object bytes o earlier name later (ReadFault (Word (length earlier + 1))) holds is read
          (λ held e Next. rw (absent_at (Some told) name held e absent) refl),
    ))

-- one of the files is no trace that fits
coverage_refused : (held : Option Held) (reads reads' : ℕ) (product : Product) (object bytes : List ℕ) (o : Object)
    (earlier : List (List ℕ)) (name : List ℕ) (later : List (List ℕ)) (status : Status)
    → IfSome held (Holds object bytes) → IsFileOf o bytes → WereRead held o earlier
    → IsNoTrace (length earlier + 1) o name held reads reads' status
    → Stops (task_for product object (earlier ++ (name ∷ later))) held reads reads' status
coverage_refused held reads reads' product object bytes o earlier name later status holds is read stop =
    rw stop.is (stop.count, by_held held holds read (subst (λ (s : Status). Refused held s) stop.is stop.refused))
  where
    Refused : Option Held → Status → Type 0
    Refused h s = IfSome h (λ told. (trace : List ℕ) × Holds name trace told × RefusesTrace (length earlier + 1) o trace s)

    by_held : (h : Option Held) → IfSome h (Holds object bytes) → WereRead h o earlier → Refused h (TraceRefused (length earlier + 1) stop.why)
        → IfSome h (λ told. ComesTo told (task_for product object (earlier ++ (name ∷ later))) (Err (TraceRefused (length earlier + 1) stop.why)))
    by_held None there before refused = tt
    by_held (Some told) there before refused =
        told_stop (Some told) product object bytes o earlier name later (TraceRefused (length earlier + 1) stop.why) there is before
        (λ known e Next. rw (subst (λ (k : Option Held). IfSome k (Holds name refused.0)) e refused.1) (inl refused.2))

stops_told : (held : Option Held) (reads reads' : ℕ) (product : Product) (object bytes : List ℕ) (names : List (List ℕ)) (o : Object) (status : Status)
    → IfSome held (Holds object bytes) → IsFileOf o bytes → StopsAmong o names held reads reads' status
    → Stops (task_for product object names) held reads reads' status
stops_told held reads reads' product object bytes names o status holds is stop =
    rw stop.are (by_cause stop.stops)
  where
    by_cause : StopsAt (length stop.earlier + 1) o stop.name held reads reads' status
        → Stops (task_for product object (stop.earlier ++ (stop.name ∷ stop.later))) held reads reads' status
    by_cause (inl (inl memory)) = rw memory tt
    by_cause (inl (inr (e, cause))) =
        rw e (coverage_absent held reads reads' product object bytes o stop.earlier stop.name stop.later holds is stop.read cause)
    by_cause (inr no_trace) =
        coverage_refused held reads reads' product object bytes o stop.earlier stop.name stop.later status holds is stop.read no_trace

-- the same, of what is held and counted after the object was read
pub coverage_stops : (held held' : Option Held) (reads reads' reads'' : ℕ) (product : Product) (object bytes : List ℕ) (names : List (List ℕ)) (o : Object) (status : Status)
    → held' ≡ held → reads' ≡ reads → IfSome held (Holds object bytes) → IsFileOf o bytes → StopsAmong o names held' reads' reads'' status
    → Stops (task_for product object names) held reads reads'' status
coverage_stops held held' reads reads' reads'' product object bytes names o status same count holds is stop =
    let here = subst (λ (h : Option Held). StopsAmong o names h reads' reads'' status) same stop in
    let then_so = subst (λ (n : ℕ). StopsAmong o names held n reads'' status) count here in
    stops_told held reads reads'' product object bytes names o status holds is then_so

-- each of the files that were read is a trace
pub all_fit : (told : Held) (o : Object) (names traces : List (List ℕ)) → AreRead told o names traces → AllByRecursion (IsTraceFor o) traces
all_fit told o [] [] read = tt
all_fit told o [] (t ∷ traces) read = absurd read
all_fit told o (n ∷ names) [] read = absurd read
all_fit told o (n ∷ names) (t ∷ traces) read = (read.1, all_fit told o names traces read.2)

-- ---- run

-- after the object: the input is read, and what follows holds
abbrev runs_next : (trace : List ℕ) → (budget : ℕ) → (input : List ℕ) → Held → Object → Result Output Status → Type 0
runs_next trace budget input told o = AfterRead told 1 input (λ bytes. AfterInput bytes (RunsOn trace budget o))

pub run_no_object : (held : Option Held) (reads reads' : ℕ) (input : List ℕ) (budget : ℕ) (trace object bytes : List ℕ) (status : Status)
    → reads' ≡ reads → IfSome held (Holds object bytes) → UnlessMemory (RefusesObject bytes) status
    → Stops (Run input budget trace object) held reads reads' status
run_no_object held reads reads' input budget trace object bytes status same holds (inl memory) = rw memory tt
run_no_object held reads reads' input budget trace object bytes status same holds (inr r) =
    rw r.2 (same, no_object held object bytes (runs_next trace budget input) (ObjectRefused r.0) holds (r.0, r.1, refl))

pub run_unread : (held held' : Option Held) (reads reads' reads'' : ℕ) (input : List ℕ) (budget : ℕ) (trace object bytes : List ℕ) (o : Object) (status : Status)
    → held' ≡ held → reads' ≡ reads → IfSome held (Holds object bytes) → IsFileOf o bytes → IsUnread 1 input held' reads' reads'' status
    → Stops (Run input budget trace object) held reads reads'' status
run_unread held held' reads reads' reads'' input budget trace object bytes o status same count holds is (inl memory) = rw memory tt
run_unread held held' reads reads' reads'' input budget trace object bytes o status same count holds is (inr (e, inl rose)) =
    rw e (lit< tt, inl (subst (λ (n : ℕ). Rose n reads'') count rose))
run_unread held held' reads reads' reads'' input budget trace object bytes o status same count holds is (inr (e, inr absent)) =
    let gone = subst (λ (h : Option Held). IsAbsent h input) same absent in
    rw e (
      lit< tt,
      inr (
        (input, refl, gone),
        unread_after_object held object bytes o (runs_next trace budget input) (Err (ReadFault (Word 1))) holds is
            (unread held 1 input (λ told bytes. AfterInput bytes (RunsOn trace budget o)) gone),
      ),
    )

told_run : (held : Option Held) (input : List ℕ) (budget : ℕ) (trace object bytes text : List ℕ) (o : Object) (verdict : Result Output Status)
    → IfSome held (Holds object bytes) → IsFileOf o bytes → IfSome held (Holds input text) → AfterInput text (RunsOn trace budget o) verdict
    → IfSome held (λ told. ComesTo told (Run input budget trace object) verdict)
told_run held input budget trace object bytes text o verdict holds is there says =
    after_object held object bytes o (runs_next trace budget input) verdict holds is
    (after_read held 1 input text (λ told bytes. AfterInput bytes (RunsOn trace budget o)) verdict there (always held says))

pub run_no_input : (held : Option Held) (reads reads' : ℕ) (input : List ℕ) (budget : ℕ) (trace object bytes text : List ℕ) (o : Object) (status : Status)
    → reads' ≡ reads → IfSome held (Holds object bytes) → IsFileOf o bytes → IfSome held (Holds input text) → UnlessMemory (RefusesInput text) status
    → Stops (Run input budget trace object) held reads reads' status
run_no_input held reads reads' input budget trace object bytes text o status same holds is there (inl memory) = rw memory tt
run_no_input held reads reads' input budget trace object bytes text o status same holds is there (inr r) =
    rw r.2 (same, told_run held input budget trace object bytes text o (Err (InputRefused r.0)) holds is there (inl (r.0, r.1, refl)))

pub run_stops : (held : Option Held) (reads reads' : ℕ) (input : List ℕ) (budget : ℕ) (trace object bytes text : List ℕ) (numbers : List ℤ) (o : Object) (status : Status)
    → reads' ≡ reads → IfSome held (Holds object bytes) → IsFileOf o bytes → IfSome held (Holds input text) → IsInputOf numbers text
    → UnlessMemory (StopsRun o budget numbers) status
    → Stops (Run input budget trace object) held reads reads' status
run_stops held reads reads' input budget trace object bytes text numbers o status same holds is there read (inl memory) = rw memory tt
run_stops held reads reads' input budget trace object bytes text numbers o (OverBudget count) same holds is there read (inr s) =
    (same, told_run held input budget trace object bytes text o (Err (OverBudget count)) holds is there (inr (numbers, read, s)))
run_stops held reads reads' input budget trace object bytes text numbers o (Trap pc why) same holds is there read (inr s) =
    (same, told_run held input budget trace object bytes text o (Err (Trap pc why)) holds is there (inr (numbers, read, s)))
run_stops held reads reads' input budget trace object bytes text numbers o _ same holds is there read (inr s) = absurd s

pub run_made : (held : Option Held) (reads reads' : ℕ) (input : List ℕ) (budget : ℕ) (trace object bytes text : List ℕ) (numbers : List ℤ) (file told : List ℕ) (o : Object)
    → reads' ≡ reads → IfSome held (Holds object bytes) → IsFileOf o bytes → IfSome held (Holds input text) → IsInputOf numbers text
    → RunsTo o budget numbers (record { file = file; text = told })
    → Prepares (Run input budget trace object) held reads reads' (Ok (record { file = Some (record { name = trace; bytes = file }); text = told }))
run_made held reads reads' input budget trace object bytes text numbers file told o same holds is there read says = (
  same,
  refl,
  told_run held input budget trace object bytes text o (Ok (record { file = Some (record { name = trace; bytes = file }); text = told })) holds is there
      (inr (numbers, read, (file, refl, says))),
)

-- what the run on an input file comes to where it makes no trace
pub run_ends : (held : Option Held) (reads reads' : ℕ) (input : List ℕ) (budget : ℕ) (trace object bytes text : List ℕ) (o : Object) (status : Status)
    → reads' ≡ reads → IfSome held (Holds object bytes) → IsFileOf o bytes → IfSome held (Holds input text)
    → UnlessMemory (StopsOnInput o budget text) status
    → Stops (Run input budget trace object) held reads reads' status
run_ends held reads reads' input budget trace object bytes text o status same holds is there (inl memory) = rw memory tt
run_ends held reads reads' input budget trace object bytes text o status same holds is there (inr (inl refused)) =
    run_no_input held reads reads' input budget trace object bytes text o status same holds is there (inr refused)
run_ends held reads reads' input budget trace object bytes text o status same holds is there (inr (inr (numbers, read, stops))) =
    run_stops held reads reads' input budget trace object bytes text numbers o status same holds is there read (inr stops)

pub refuses_input : (o : Object) (budget : ℕ) (text : List ℕ) (status : Status) → UnlessMemory (RefusesInput text) status → UnlessMemory (StopsOnInput o budget text) status
refuses_input o budget text status (inl memory) = inl memory
refuses_input o budget text status (inr refused) = inr (inl refused)

pub stops_on : {X : Type 0} (r : Result X Status) (o : Object) (budget : ℕ) (text : List ℕ) (numbers : List ℤ) → IsInputOf numbers text
    → IfErr r (UnlessMemory (StopsRun o budget numbers)) → IfErr r (UnlessMemory (StopsOnInput o budget text))
stops_on (Ok x) o budget text numbers read h = tt
stops_on (Err status) o budget text numbers read (inl memory) = inl memory
stops_on (Err status) o budget text numbers read (inr stops) = inr (inr (numbers, read, stops))

-- ---- where the object file was read before

-- what is held and counted after it was read is as before
pub prepared_from : (task : List ℕ → Task) (name bytes view : List ℕ) (held held' : Option Held) (reads reads' reads'' : ℕ) (verdict : Result Output Status)
    → held' ≡ held → reads' ≡ reads → IfSome held (Holds name bytes) → view ≡ bytes → PreparesFrom task view held' reads' reads'' verdict
    → Prepares (task name) held reads reads'' verdict
prepared_from task name bytes view held held' reads reads' reads'' verdict same count holds is prepares =
    let there : IfSome held (Holds name view) = subst (λ (bs : List ℕ). IfSome held (Holds name bs)) (sym is) holds in
    let still : IfSome held' (Holds name view) = subst (λ (h : Option Held). IfSome h (Holds name view)) (sym same) there in
    subst (λ (h : Option Held). Prepares (task name) h reads reads'' verdict) same
    (subst (λ (n : ℕ). Prepares (task name) held' n reads'' verdict) count (prepares name still))
