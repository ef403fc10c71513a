-- A trace that is read from its front: what is held after one entry more, and at its end.
use Rattle.std.proofs.Common.{◌≡◌, ◌↔◌, ℕ, ◌+◌, ◌-◌, ◌^◌, ◌<◌, List, [], ◌∷◌, ◌++◌, length, Option, Some, None, Result, Ok, Err, refl, sym, ap, subst, ◌∙◌, arith, inl, inr}
use Rattle.std.proofs.lemmas.List.{length-append}
use Rattle.cov_base.specs.declared.failure.Failure.{Failure}
use Rattle.cov_base.specs.declared.failure.Failure.TheVariants.{Fault, WantOfMemory}
use Rattle.cov_io.specs.Outside.{Held}
use Rattle.decision_map.proofs.SeenLaws.{given_block}
use Rattle.decision_map.specs.Seen.{IsFresh, HasSeen}
use Rattle.object_format.specs.declared.object.Object.{Object}
use Rattle.trace_format.specs.declared.entry.Entry.{Entry}
use Rattle.trace_format.specs.declared.entry.Entry.TheVariants as entries
use Rattle.trace_format.specs.declared.entry.ReaderFault.{ReaderFault}
use Rattle.trace_format.specs.declared.entry.ReaderFault.TheVariants as reader_faults
use Rattle.trace_format.specs.declared.fault.TraceFault.{TraceFault}
use Rattle.trace_format.specs.declared.reader.Stage.{Stage}
use Rattle.trace_format.specs.declared.reader.Stage.TheVariants as stages
use Rattle.trace_format.specs.declared.reader.TraceReader.{TraceReader}
use Rattle.trace_format.specs.declared.trace.Block.{Block}
use Rattle.trace_format.specs.declared.trace.HistoryEntry.{HistoryEntry}
use Rattle.spelling.specs.Checks.{first_failing}
use Rattle.trace_format.specs.declared.fault.TraceFault.TheVariants as faults
use Rattle.trace_format.specs.Checks.{Passes, in_order, has_known_flags, has_known_edge, unless, ordered, trace_of, layered, as_fault, ◌>>=◌}
use Rattle.trace_format.specs.Reader.{block_given, history_given, entries_to, Gave, GaveIn, Reads, ReadsIn, IsRead, IsEnd, IsCause}
use Rattle.trace_format.specs.Stream.{AreTold}
use Rattle.trace_format.specs.Reader.{file_name}
use Rattle.trace_format.specs.Trace.{TraceFile, trace_in}
use Rattle.coverage_set.specs.declared.reading.Reading.{Reading}
use Rattle.coverage_set.specs.Read.{IsOpened, IsBlank, HasRead, Finds, TookAll, IsFew, IsNext, TookTrace, TookFile, IsUnreadFile, fault_of_reader}
use Rattle.object_format.specs.Checked.{IsSound}
use Rattle.cov_base.specs.declared.event.Event.{Event}
use Rattle.cov_base.specs.Lists.{Somewhere}
use Rattle.coverage_set.specs.Consolidated.{ArePossible}
use Rattle.coverage_set.proofs.FoundSeen.{all_of, found_possible}
use Rattle.coverage_set.proofs.Given.{last_of, same_ends, not_empty, few_given, long_given}

-- ---- one entry more

given_history : (h k : HistoryEntry) → history_given h ≡ history_given k → h ≡ k
given_history h k e =
    let first : h.address ≡ k.address = cc e in
    let second : h.x8 ≡ k.x8 = cc e in
    let third : h.edge ≡ k.edge = cc e in
    λ i. record { address = first i; x8 = second i; edge = third i }

-- entries with a last one are not none
some_given : (given : List Entry) (x : Entry) → given ++ x ∷ [] ≡ [] → ⊥
some_given given x e = not_empty given x (sym e)

-- the head
pub took_head : (o : Object) (old new : Reading) (given : List Entry) (object : List ℕ) (ending : ℕ)
    → (IsFresh o old.fit → HasSeen o new.fit object ending [] []) → new.found ≡ old.found
    → TookAll o old given → TookAll o new (given ++ entries.Head object ending ∷ [])
took_head o old new given object ending seen found took = record {
  blank = λ none. absurd (some_given given (entries.Head object ending) none);
  read = λ kept end blocks history e. elim (last_of given (entries.Head object ending) kept end blocks history e) [
    | inl late ↦ absurd (cc late.is)
    | inr other ↦ elim other [
      | inl block ↦ absurd (cc block.is)
      | inr head ↦
          let first : object ≡ kept = cc head.is in
          let second : ending ≡ end = cc head.is in
          let blank = took.blank head.front in
          let own : HasRead o new object ending [] [] = record { fit = seen blank.fit; found = rw found blank.found } in
          rw (head.unblocked, head.none, ← first, ← second) own
    ]
  ];
}

-- a block
pub took_block : (o : Object) (old new : Reading) (given : List Entry) (b : Block)
    → ((object : List ℕ) (ending : ℕ) (blocks : List Block) → HasSeen o old.fit object ending blocks [] → HasSeen o new.fit object ending (blocks ++ b ∷ []) [])
    → ((blocks : List Block) (history : List HistoryEntry) → Finds o old.found blocks history → Finds o new.found (blocks ++ b ∷ []) history)
    → TookAll o old given → TookAll o new (given ++ block_given b ∷ [])
took_block o old new given b seen found took = record {
  blank = λ none. absurd (some_given given (block_given b) none);
  read = λ object ending blocks history e. elim (last_of given (block_given b) object ending blocks history e) [
    | inl late ↦ absurd (cc late.is)
    | inr other ↦ elim other [
      | inl block ↦
          let same : b ≡ block.block = given_block b.start b.last b.flags block.block block.is in
          let read = took.read object ending block.earlier [] block.front in
          let own : HasRead o new object ending (block.earlier ++ b ∷ []) [] =
          record { fit = seen object ending block.earlier read.fit; found = found block.earlier [] read.found } in
          rw (block.whole, block.none, ← same) own
      | inr head ↦ absurd (cc head.is)
    ]
  ];
}

-- an entry of the history
pub took_history : (o : Object) (old new : Reading) (given : List Entry) (h : HistoryEntry)
    → ((object : List ℕ) (ending : ℕ) (blocks : List Block) (history : List HistoryEntry) → HasSeen o old.fit object ending blocks history
    → length history < 2 ^ 32 - 1 → HasSeen o new.fit object ending blocks (history ++ h ∷ []))
    → ((blocks : List Block) (history : List HistoryEntry) → length history < 2 ^ 32 - 1 → Finds o old.found blocks history
    → Finds o new.found blocks (history ++ h ∷ []))
    → IsFew (given ++ history_given h ∷ []) → TookAll o old given → TookAll o new (given ++ history_given h ∷ [])
took_history o old new given h seen found few took = record {
  blank = λ none. absurd (some_given given (history_given h) none);
  read = λ object ending blocks history e. elim (last_of given (history_given h) object ending blocks history e) [
    | inl late ↦
        let same : h ≡ late.entry = given_history h late.entry late.is in
        let read = took.read object ending blocks late.earlier late.front in
        let short : length late.earlier < 2 ^ 32 - 1 =
        omega (arith, few object ending blocks history e, ap (λ (hs : List HistoryEntry). length hs) late.whole, length-append late.earlier (late.entry ∷ [])) in
        let own : HasRead o new object ending blocks (late.earlier ++ h ∷ []) =
        record { fit = seen object ending blocks late.earlier read.fit short; found = found blocks late.earlier short read.found } in
        rw (late.whole, ← same) own
    | inr other ↦ elim other [
      | inl block ↦ absurd (cc block.is)
      | inr head ↦ absurd (cc head.is)
    ]
  ];
}

-- the closing digest stands behind all that is in the order of a trace
pub took_close : (o : Object) (new : Reading) (given : List Entry) (digest : List ℕ) → TookAll o new (given ++ entries.Close digest ∷ [])
took_close o new given digest = record {
  blank = λ none. absurd (some_given given (entries.Close digest) none);
  read = λ object ending blocks history e. elim (last_of given (entries.Close digest) object ending blocks history e) [
    | inl late ↦ absurd (cc late.is)
    | inr other ↦ elim other [
      | inl block ↦ absurd (cc block.is)
      | inr head ↦ absurd (cc head.is)
    ]
  ];
}

-- nothing
pub took_none : (o : Object) (r : Reading) → IsBlank o r → TookAll o r []
took_none o r blank = record { blank = λ none. blank; read = λ object ending blocks history e. absurd (cc e) }

-- ---- the loop

-- a reader and what was taken of it, which stands in front of its closing digest
pub record IsUnderWay (o : Object) (held : Option Held) (r : TraceReader) (s : Reading) (at : ℕ) : Type 0 where
  pub given : List Entry
  pub gave : Gave r given
  pub long : length given ≡ at
  pub took : TookAll o s given
  pub unclosed : r.stage ≡ stages.Closed → ⊥
  pub unfailed : (failure : Failure ReaderFault) → r.stage ≡ stages.Failed failure → ⊥
  pub reads : (bytes : List ℕ) → AreTold held (file_name r) bytes → Reads r bytes given

pub begins : (o : Object) (held : Option Held) (r : TraceReader) (s : Reading) → IsBlank o s → IsOpened held r → IsUnderWay o held r s 0
begins o held r s blank opened = record {
  given = [];
  gave = opened.gave;
  long = refl;
  took = took_none o s blank;
  unclosed = λ is. absurd (cc (sym opened.fresh ∙ is));
  unfailed = λ failure is. absurd (cc (sym opened.fresh ∙ is));
  reads = opened.reads;
}

-- one entry more
pub goes_on : (o : Object) (held : Option Held) (old new : TraceReader) (s s' : Reading) (at : ℕ) (entry : Entry) → IsNext held old new entry
    → (IsEnd (Some entry) → ⊥)
    → ((given : List Entry) → IsFew (given ++ entry ∷ []) → TookAll o s given → TookAll o s' (given ++ entry ∷ []))
    → IsUnderWay o held old s at → IsUnderWay o held new s' (at + 1)
goes_on o held old new s s' at entry gives other took so_far =
    let gave : Gave new (so_far.given ++ entry ∷ []) = gives.gave so_far.given so_far.gave in
    record {
      given = so_far.given ++ entry ∷ [];
      gave = gave;
      long = length-append so_far.given (entry ∷ []) ∙ ap (λ (k : ℕ). k + 1) so_far.long;
      took = took so_far.given (few_given new (so_far.given ++ entry ∷ []) gave) so_far.took;
      unclosed = λ is. other (gives.closes.1 is);
      unfailed = gives.unfailed;
      reads = λ bytes told. gives.reads bytes so_far.given
          (subst (λ (name : List ℕ). AreTold held name bytes) gives.name told)
          (so_far.reads bytes (subst (λ (name : List ℕ). AreTold held name bytes) gives.name told));
    }

-- it ends before so many entries
pub ends_before : (o : Object) (held : Option Held) (r : TraceReader) (s : Reading) (at : ℕ) → IsUnderWay o held r s at → at < 2 ^ 33
ends_before o held r s at so_far =
    let long = long_given r so_far.given so_far.gave so_far.unclosed so_far.unfailed in
    subst (λ (k : ℕ). k < 2 ^ 33) so_far.long long

-- at the closing digest
stage_at : (r : TraceReader) (given : List Entry) → Gave r given → r.stage ≡ stages.Closed → GaveIn stages.Closed r.head.blocks given
stage_at r given gave is = subst (λ (stage : Stage). GaveIn stage r.head.blocks given) is gave

pub closes_trace : (o : Object) (held : Option Held) (old new : TraceReader) (s : Reading) (at : ℕ) (digest : List ℕ) → IsNext held old new (entries.Close digest)
    → IsUnderWay o held old s at → TookTrace o s
closes_trace o held old new s at digest gives so_far =
    let all = stage_at new (so_far.given ++ entries.Close digest ∷ []) (gives.gave so_far.given so_far.gave) (gives.closes.0 tt) in
    let same = same_ends so_far.given (entries_to all.object all.ending all.blocks all.history) (entries.Close digest) (entries.Close all.closing) all.gave in
    record {
      object = all.object;
      ending = all.ending;
      blocks = all.blocks;
      history = all.history;
      read = so_far.took.read all.object all.ending all.blocks all.history same.0;
    }

pub closes_file : (o : Object) (held : Option Held) (old new : TraceReader) (s : Reading) (at : ℕ) (digest : List ℕ) → IsNext held old new (entries.Close digest)
    → IsUnderWay o held old s at → (bytes : List ℕ) → AreTold held (file_name old) bytes → TookFile o s bytes digest
closes_file o held old new s at digest gives so_far bytes told =
    let reads = gives.reads bytes so_far.given told (so_far.reads bytes told) in
    let all : IsRead bytes (so_far.given ++ entries.Close digest ∷ []) =
    subst (λ (stage : Stage). ReadsIn stage new bytes (so_far.given ++ entries.Close digest ∷ [])) (gives.closes.0 tt) reads in
    let t = all.file in
    let same = same_ends so_far.given (entries_to t.object t.ending t.blocks t.history) (entries.Close digest) (entries.Close t.closing) all.gave in
    let closing : digest ≡ t.closing = cc same.1 in
    record {
      file = t;
      passed = all.passed;
      closes = sym closing;
      read = so_far.took.read t.object t.ending t.blocks t.history same.0;
    }

-- what is told of a name is told of it under the name that the reader keeps
pub told_still : (held : Option Held) (name known bytes : List ℕ) → name ≡ known → AreTold held known bytes → AreTold held name bytes
told_still held name known bytes same told = subst (λ (n : List ℕ). AreTold held n bytes) (sym same) told

-- the next entry under other names
pub next_as : (held known : Option Held) (old new : TraceReader) (entry other : Entry) → held ≡ known → entry ≡ other → IsNext held old new entry
    → IsNext known old new other
next_as held known old new entry other same is next =
    subst (λ (x : Entry). IsNext known old new x) is (subst (λ (k : Option Held). IsNext k old new entry) same next)

-- only the closing digest ends a trace
pub not_close : (entry : Entry) → ((digest : List ℕ) → entry ≡ entries.Close digest → ⊥) → IsEnd (Some entry) → ⊥
not_close (entries.Head object ending) other is = is
not_close (entries.Block start last flags) other is = is
not_close (entries.History address x8 edge) other is = is
not_close (entries.Close digest) other is = other digest refl

-- why it is not read further
pub unread_by : (bytes : List ℕ) (failure : Failure ReaderFault) → IsCause bytes failure → IsUnreadFile bytes (fault_of_reader failure)
unread_by bytes (Fault reader_faults.Read) cause = tt
unread_by bytes (Fault (reader_faults.Trace fault)) cause = cause
unread_by bytes WantOfMemory cause = tt

-- ---- at the end

-- all that was found is possible
pub took_possible : (o : Object) → IsSound o → (r : Reading) → TookTrace o r
    → (set : List Event) → ((e : Event) → Somewhere (λ x. x ≡ e) set ↔ Somewhere (λ x. x ≡ e) (all_of r.found)) → ArePossible o set
took_possible o sound r took set is = found_possible o sound r.found took.blocks took.history took.read.found set is

-- a reader as it was opened
pub opened_as : (held known : Option Held) (r : TraceReader) (name : List ℕ) → known ≡ held → file_name r ≡ name → r.stage ≡ stages.Head → Gave r []
    → ((bytes : List ℕ) → AreTold held name bytes → Reads r bytes []) → IsOpened known r
opened_as held known r name same named fresh gave reads = record {
  fresh = fresh;
  gave = gave;
  reads = λ bytes told. reads bytes (subst (λ (n : List ℕ). AreTold held n bytes) named (subst (λ (k : Option Held). AreTold k (file_name r) bytes) same told));
}

-- ---- bytes that pass the checks of the format

-- a check that found nothing, and what comes behind it
none_found : {A : Type 0} (found : Option ℕ) (fault : ℕ → TraceFault) (next : Unit {0} → Result A TraceFault) (x : A) → (unless found fault >>= next) ≡ Ok x
    → (found ≡ None) × (next tt ≡ Ok x)
none_found None fault next x e = (refl, e)
none_found (Some at) fault next x e = absurd (cc e)

passes_ordered : (t u : TraceFile) → ordered t ≡ Ok u → Passes (trace_in t) × (t ≡ u)
passes_ordered t u e =
    let a = none_found (first_failing in_order None 0 t.blocks) faults.Order (λ order. unless (first_failing has_known_flags None 0 t.blocks) faults.Flag >>= λ flags. unless (first_failing has_known_edge None 0 t.history) faults.Flag >>= λ edges. Ok t) u e in
    let b = none_found (first_failing has_known_flags None 0 t.blocks) faults.Flag (λ flags. unless (first_failing has_known_edge None 0 t.history) faults.Flag >>= λ edges. Ok t) u a.1 in
    let c = none_found (first_failing has_known_edge None 0 t.history) faults.Flag (λ edges. Ok t) u b.1 in
    (record { order = a.0; flags = b.0; edges = c.0 }, cc c.1)

pub passes_of : (bytes : List ℕ) (t : TraceFile) → trace_of bytes ≡ Ok t → Passes (trace_in t)
unfolding trace_of
passes_of bytes t e = by_layers (as_fault (layered bytes)) e
  where
    by_layers : (found : Result TraceFile TraceFault) → found >>= ordered ≡ Ok t → Passes (trace_in t)
    by_layers (Err fault) is = absurd (cc is)
    by_layers (Ok u) is = let o = passes_ordered u t is in subst (λ (x : TraceFile). Passes (trace_in x)) o.1 o.0
