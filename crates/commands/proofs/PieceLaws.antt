-- Traces that are read in pieces, behind a look at their first bytes.
use Rattle.std.proofs.Common.{◌≡◌, ◌⊎◌, inl, inr, ℕ, zero, suc, ◌+◌, ◌<◌, ◌≤◌, Bool, true, false, List, [], ◌∷◌, ◌++◌, length, take, drop, Option, None, Some, Result, Ok, Err, refl, sym, ap, subst, ◌∙◌, arith}
use Rattle.std.specs.Prelude.{IfSome, IsSomeAnd, OnOk}
use Rattle.std.specs.FinMap as finmap
use Rattle.std.proofs.lemmas.List.{length-append, take_all}
use Rattle.cov_base.specs.declared.failure.Failure.{Failure}
use Rattle.cov_base.specs.declared.failure.Failure.TheVariants.{Fault}
use Rattle.cov_base.specs.declared.failure.Failure.TheVariants as failures
use Rattle.cov_io.specs.Outside.{Held, Holds, HoldsPart, IsPart, IsAbsent, Rose}
use Rattle.coverage_set.specs.Covered.{Covered}
use Rattle.coverage_set.specs.Read.{AddsTraceIn, IsNotAdded}
use Rattle.coverage_set.specs.declared.fault.AddFault.{AddFault}
use Rattle.coverage_set.specs.declared.fault.AddFault.TheVariants as adds
use Rattle.commands.specs.Content.{is_consolidated, IsConsolidatedFor, IsRunTraceFor, RefusesConsolidated, RefusesRunTrace, RefusesTrace}
use Rattle.commands.specs.Covering.{AddsListed, AddsRun}
use Rattle.commands.specs.Failures.{opened_status, added_status}
use Rattle.commands.specs.Reading.{UnlessMemory, WereAdded, StopsAt, HasFront, RunWasAdded, StopsRun}
use Rattle.commands.specs.declared.status.Status.{Status}
use Rattle.commands.specs.declared.status.TraceWhy.TheVariants.{File, Fit, Broken, Consolidated}
use Rattle.object_format.specs.declared.object.Object.{Object}
use Rattle.trace_format.specs.Reader.{IsCause}
use Rattle.trace_format.specs.Stream.{AreTold}
use Rattle.trace_format.specs.declared.entry.ReaderFault.{ReaderFault}
use Rattle.trace_format.specs.declared.entry.ReaderFault.TheVariants as readers
use Rattle.commands.proofs.CoveringLaws.{as_consolidated, as_trace, consolidated_adds, trace_adds, run_added}

-- ---- the first bytes of a file

take_none : (n : ℕ) → take {A = ℕ} n [] ≡ []
take_none zero = refl
take_none (suc n) = refl

take_more : (a b : ℕ) (xs : List ℕ) → take (a + b) xs ≡ take a xs ++ take b (drop a xs)
take_more zero b xs = let e : 0 + b ≡ b = omega arith in ap (λ (n : ℕ). take n xs) e
take_more (suc a) b [] = take_none (suc a + b) ∙ sym (take_none b)
take_more (suc a) b (x ∷ xs) =
    let e : suc a + b ≡ suc (a + b) = omega arith in
    ap (λ (n : ℕ). take n (x ∷ xs)) e ∙ ap (λ (ys : List ℕ). x ∷ ys) (take_more a b xs)

-- these are the first bytes of a file, if it is there
abbrev Begins : Option (List ℕ) → List ℕ → Type 0
Begins found front = IfSome found (λ bytes. front ≡ take (length front) bytes)

-- what was read of its front so far
abbrev pub IsFront : Option Held → (name front : List ℕ) → Type 0
IsFront held name front = IfSome held (λ told. Begins (finmap.get told name) front)

pub front_none : (held : Option Held) (name : List ℕ) → IsFront held name []
front_none None name = tt
front_none (Some told) name = by_found (finmap.get told name)
  where
    by_found : (found : Option (List ℕ)) → Begins found []
    by_found None = tt
    by_found (Some bytes) = refl

more_found : (found : Option (List ℕ)) (front part : List ℕ) → Begins found front → IsSomeAnd found (λ bytes. IsPart (length front) bytes part) → Begins found (front ++ part)
more_found None front part so_far holds = tt
more_found (Some bytes) front part so_far holds =
    (λ i. so_far i ++ holds.taken i) ∙ sym (take_more (length front) (length part) bytes) ∙ ap (λ (n : ℕ). take n bytes) (sym (length-append front part))

pub front_more : (held : Option Held) (name front part : List ℕ) → IsFront held name front → IfSome held (HoldsPart name (length front) part)
    → IsFront held name (front ++ part)
front_more None name front part so_far holds = tt
front_more (Some told) name front part so_far holds = more_found (finmap.get told name) front part so_far holds

-- at the end of the file
whole_found : (found : Option (List ℕ)) (front : List ℕ) → length front < 8 → Begins found front → IsSomeAnd found (λ bytes. IsPart (length front) bytes [])
    → IsSomeAnd found (λ bytes. front ≡ take 8 bytes)
whole_found None front few so_far holds = holds
whole_found (Some bytes) front few so_far holds =
    let short : length bytes ≤ length front = holds.ended.0 refl in
    so_far ∙ take_all (length front) bytes short ∙ sym (take_all 8 bytes (omega (arith, short, few)))

pub front_whole : (held : Option Held) (name front part : List ℕ) → part ≡ [] → length front < 8 → IsFront held name front
    → IfSome held (HoldsPart name (length front) part) → HasFront held name front
front_whole None name front part none few so_far holds = tt
front_whole (Some told) name front part none few so_far holds =
    whole_found (finmap.get told name) front few so_far
    (subst (λ (p : List ℕ). IsSomeAnd (finmap.get told name) (λ bytes. IsPart (length front) bytes p)) none holds)

-- with all 8 of them
full_found : (found : Option (List ℕ)) (front part : List ℕ) → length (front ++ part) ≡ 8 → Begins found front
    → IsSomeAnd found (λ bytes. IsPart (length front) bytes part) → IsSomeAnd found (λ bytes. front ++ part ≡ take 8 bytes)
full_found None front part all so_far holds = holds
full_found (Some bytes) front part all so_far holds = more_found (Some bytes) front part so_far holds ∙ ap (λ (n : ℕ). take n bytes) all

pub front_full : (held : Option Held) (name front part : List ℕ) → length (front ++ part) ≡ 8 → IsFront held name front
    → IfSome held (HoldsPart name (length front) part) → HasFront held name (front ++ part)
front_full None name front part all so_far holds = tt
front_full (Some told) name front part all so_far holds = full_found (finmap.get told name) front part all so_far holds

-- a part that is held, under other names
pub part_as : (held known : Option Held) (name : List ℕ) (from place : ℕ) (part : List ℕ) → held ≡ known → from ≡ place
    → IfSome held (HoldsPart name from part) → IfSome known (HoldsPart name place part)
part_as held known name from place part same at holds =
    subst (λ (h : Option Held). IfSome h (HoldsPart name place part)) same (subst (λ (n : ℕ). IfSome held (HoldsPart name n part)) at holds)

-- ---- which of both a file is

kind_of : (bytes : List ℕ) → is_consolidated (take 8 bytes) ≡ is_consolidated bytes
kind_of [] = refl
kind_of (a ∷ []) = refl
kind_of (a ∷ (b ∷ [])) = refl
kind_of (a ∷ (b ∷ (c ∷ []))) = refl
kind_of (a ∷ (b ∷ (c ∷ (d ∷ rest)))) = refl

-- a name that is told, and whose first bytes are of this kind
record IsThere (told : Held) (name : List ℕ) (kind : Bool) : Type 0 where
  pub bytes : List ℕ
  pub holds : Holds name bytes told
  pub is : is_consolidated bytes ≡ kind

there : (told : Held) (name front : List ℕ) (kind : Bool) → HasFront (Some told) name front → is_consolidated front ≡ kind → IsThere told name kind
there told name front kind has is = by_found (finmap.get told name) refl has
  where
    by_found : (found : Option (List ℕ)) → finmap.get told name ≡ found → IsSomeAnd found (λ bytes. front ≡ take 8 bytes) → IsThere told name kind
    by_found None e none = absurd none
    by_found (Some bytes) e same = record { bytes = bytes; holds = e; is = sym (ap is_consolidated same ∙ kind_of bytes) ∙ is }

-- ---- a consolidated file

-- the bytes that are held are the ones that were told to be there
same_kind : (told : Held) (name bytes : List ℕ) (kind : Bool) → IsThere told name kind → Holds name bytes told → is_consolidated bytes ≡ kind
same_kind told name bytes kind known holds =
    let same : known.bytes ≡ bytes = cc (sym known.holds ∙ holds) in
    subst (λ (bs : List ℕ). is_consolidated bs ≡ kind) same known.is

pub listed_was_added : (held : Option Held) (o : Object) (name front bytes : List ℕ) (old new : Covered) → HasFront held name front → is_consolidated front ≡ true
    → IfSome held (Holds name bytes) → IsConsolidatedFor o bytes → AddsListed old new bytes → WereAdded held o (name ∷ []) old new
listed_was_added None o name front bytes old new has kind holds fits adds = tt
listed_was_added (Some told) o name front bytes old new has kind holds fits adds =
    let is = same_kind told name bytes true (there told name front true has kind) holds in
    (bytes ∷ [], (holds, as_consolidated bytes is fits, tt), consolidated_adds o old new bytes is adds)

pub listed_stops : (held : Option Held) (o : Object) (number reads reads' : ℕ) (name front bytes : List ℕ) (status : Status) → HasFront held name front
    → is_consolidated front ≡ true → IfSome held (Holds name bytes) → reads' ≡ reads → UnlessMemory (RefusesConsolidated number o bytes) status
    → StopsAt number o name held reads reads' status
listed_stops held o number reads reads' name front bytes status has kind holds count (inl memory) = inl (inl memory)
listed_stops held o number reads reads' name front bytes status has kind holds count (inr refused) =
    inr (record { why = Consolidated refused.0; is = refused.2; count = count; refused = by_held held has holds })
  where
    by_held : (h : Option Held) → HasFront h name front → IfSome h (Holds name bytes)
        → IfSome h (λ told. (trace : List ℕ) × Holds name trace told × RefusesTrace number o trace status)
    by_held None has holds = tt
    by_held (Some told) has holds =
        (bytes, holds, as_consolidated bytes (same_kind told name bytes true (there told name front true has kind) holds) refused)

-- ---- a trace

-- what follows of two facts where a call answers Ok
pub on_ok_both : {A E P Q R : Type 0} (r : Result A E) → (P → Q → R) → OnOk r P → OnOk r Q → OnOk r R
on_ok_both (Ok x) f p q = f p q
on_ok_both (Err e) f p q = tt

-- bytes that are told, under other names
pub told_as : (held known : Option Held) (name other bytes : List ℕ) → known ≡ held → other ≡ name → AreTold held name bytes → AreTold known other bytes
told_as held known name other bytes same named told =
    subst (λ (h : Option Held). AreTold h other bytes) (sym same) (subst (λ (n : List ℕ). AreTold held n bytes) (sym named) told)

-- a failed read, under other names
pub failed_as : (held known : Option Held) (name other : List ℕ) (reads before reads' : ℕ) → known ≡ held → other ≡ name → before ≡ reads
    → Rose before reads' ⊎ IsAbsent known other → Rose reads reads' ⊎ IsAbsent held name
failed_as held known name other reads before reads' same named count (inl rose) = inl (subst (λ (n : ℕ). Rose n reads') count rose)
failed_as held known name other reads before reads' same named count (inr absent) =
    inr (subst (λ (h : Option Held). IsAbsent h name) same (subst (λ (n : List ℕ). IsAbsent known n) named absent))

-- a stop, under other names
pub stops_as : (number : ℕ) (o : Object) (name : List ℕ) (held known : Option Held) (reads before reads' : ℕ) (status : Status) → known ≡ held → before ≡ reads
    → StopsRun number o name known before reads' status → StopsRun number o name held reads reads' status
stops_as number o name held known reads before reads' status same count stop =
    subst (λ (h : Option Held). StopsRun number o name h reads reads' status) same
    (subst (λ (n : ℕ). StopsRun number o name known n reads' status) count stop)

pub run_was_added : (o : Object) (old new : Covered) (bytes : List ℕ) → new.object ≡ old.object → AddsTraceIn o bytes old new
    → IsRunTraceFor o bytes × AddsRun o old new bytes
run_was_added o old new bytes same added = (
  record { trace = added.file; read = added.passed; fits = added.fits; follows = added.follow },
  run_added o old new bytes added.file added.passed same added.events added.runs,
)

pub trace_was_added : (held : Option Held) (o : Object) (name front : List ℕ) (old new : Covered) → HasFront held name front → is_consolidated front ≡ false
    → RunWasAdded held o name old new → WereAdded held o (name ∷ []) old new
trace_was_added None o name front old new has kind added = tt
trace_was_added (Some told) o name front old new has kind added =
    let known = there told name front false has kind in
    let own = added known.bytes known.holds in
    (known.bytes ∷ [], (known.holds, as_trace known.bytes known.is own.0, tt), trace_adds o old new known.bytes known.is own.1)

pub trace_stops : (held : Option Held) (o : Object) (number reads reads' : ℕ) (name front : List ℕ) (status : Status) → HasFront held name front
    → is_consolidated front ≡ false → StopsRun number o name held reads reads' status → StopsAt number o name held reads reads' status
trace_stops held o number reads reads' name front status has kind (inl unread) = inl unread
trace_stops held o number reads reads' name front status has kind (inr stop) =
    inr (record { why = stop.why; is = stop.is; count = stop.count; refused = by_held held has stop.refused })
  where
    by_held : (h : Option Held) → HasFront h name front → ((bytes : List ℕ) → AreTold h name bytes → RefusesRunTrace number o bytes status)
        → IfSome h (λ told. (trace : List ℕ) × Holds name trace told × RefusesTrace number o trace status)
    by_held None has refused = tt
    by_held (Some told) has refused =
        let known = there told name front false has kind in
        (known.bytes, known.holds, as_trace known.bytes known.is (refused known.bytes known.holds))

-- a reader that was not opened
pub unopened_stops : (number : ℕ) (o : Object) (name : List ℕ) (held : Option Held) (reads reads' : ℕ) (failure : Failure ReaderFault)
    → (failure ≡ Fault readers.Read → Rose reads reads' ⊎ IsAbsent held name) → ((failure ≡ Fault readers.Read → ⊥) → reads' ≡ reads)
    → ((bytes : List ℕ) → AreTold held name bytes → IsCause bytes failure) → StopsRun number o name held reads reads' (opened_status number failure)
unopened_stops number o name held reads reads' (Fault readers.Read) failed stays cause = inl (inr (refl, failed refl))
unopened_stops number o name held reads reads' (Fault (readers.Trace why)) failed stays cause =
    inr (record { why = File why; is = refl; count = stays (λ e. cc e); refused = λ bytes told. inl (why, cause bytes told, refl) })
unopened_stops number o name held reads reads' failures.WantOfMemory failed stays cause = inl (inl refl)

-- a trace that was not added
pub unadded_stops : (number : ℕ) (o : Object) (name : List ℕ) (held : Option Held) (reads reads' : ℕ) (failure : Failure AddFault)
    → (failure ≡ Fault adds.Read → Rose reads reads' ⊎ IsAbsent held name) → ((failure ≡ Fault adds.Read → ⊥) → reads' ≡ reads)
    → ((bytes : List ℕ) → AreTold held name bytes → IsNotAdded o bytes failure) → StopsRun number o name held reads reads' (added_status number failure)
unadded_stops number o name held reads reads' (Fault adds.Read) failed stays cause = inl (inr (refl, failed refl))
unadded_stops number o name held reads reads' (Fault (adds.Trace why)) failed stays cause =
    inr (record {
      why = File why;
      is = refl;
      count = stays (λ e. cc e);
      refused = λ bytes told. elim (cause bytes told) [
        | inl alone ↦ inl (why, alone, refl)
        | inr beside ↦ absurd beside.unfit
      ];
    })
unadded_stops number o name held reads reads' (Fault (adds.Fit why)) failed stays cause =
    inr (record {
      why = Fit why;
      is = refl;
      count = stays (λ e. cc e);
      refused = λ bytes told. elim (cause bytes told) [
        | inl alone ↦ absurd alone
        | inr beside ↦ inr (inl (why, (beside.file, beside.passed, beside.unfit), refl))
      ];
    })
unadded_stops number o name held reads reads' (Fault (adds.Broken at)) failed stays cause =
    inr (record {
      why = Broken (record { at = at });
      is = refl;
      count = stays (λ e. cc e);
      refused = λ bytes told. elim (cause bytes told) [
        | inl alone ↦ absurd alone
        | inr beside ↦ inr (inr (record { at = at }, (beside.file, beside.passed, beside.unfit.0, beside.unfit.1), refl))
      ];
    })
unadded_stops number o name held reads reads' failures.WantOfMemory failed stays cause = inl (inl refl)
