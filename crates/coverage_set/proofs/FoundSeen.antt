-- What is found of a trace, one entry more and at its end.
use Rattle.std.proofs.Common.{◌≡◌, ◌↔◌, ◌⊎◌, ℕ, List, [], ◌∷◌, ◌++◌, map, drop, Option, Some, None, sym, ap, subst, inl, inr, option_to_list}
use Rattle.std.specs.Prelude.{IfSome}
use Rattle.std.proofs.lemmas.List.{map-append}
use Rattle.cov_base.specs.declared.event.Event.{Event}
use Rattle.cov_base.specs.declared.event.Event.TheVariants.{Start, Done}
use Rattle.cov_base.specs.Lists.{Somewhere}
use Rattle.decision_map.specs.Fits.{fault_of}
use Rattle.object_facts.specs.Object.{facts_of}
use Rattle.object_format.specs.Checked.{IsSound}
use Rattle.object_format.specs.declared.object.Object.{Object}
use Rattle.spelling.specs.Checks.{first_failing}
use Rattle.trace_format.specs.declared.trace.Block.{Block}
use Rattle.trace_format.specs.declared.trace.HistoryEntry.{HistoryEntry}
use Rattle.trace_format.specs.Checks.{in_order}
use Rattle.trace_format.specs.Trace.{TraceFile}
use Rattle.transcript.proofs.Lists.{in_append, in_left, in_right}
use Rattle.transcript.specs.Computed.{done_of}
use Rattle.transcript.specs.Reading.{AllFollow}
use Rattle.transcript.specs.Replay.{BreaksAt}
use Rattle.transcript.specs.Trace.{Says, Block as Executed}
use Rattle.vector_rebuild.proofs.LeafEdges.{flags_law}
use Rattle.vector_rebuild.specs.Entries.{block_of, trace_in}
use Rattle.vector_rebuild.specs.Flagged.{BlockSays, FlagsSay}
use Rattle.vector_rebuild.specs.Rebuilt.{visits_of}
use Rattle.coverage_set.specs.declared.found.Found.{Found}
use Rattle.coverage_set.specs.Consolidated.{ArePossible, IsPossibleEvent}
use Rattle.coverage_set.specs.Read.{AreKept, Finds, Replays}
use Rattle.coverage_set.specs.Said.{starts_in}
use Rattle.coverage_set.proofs.Possible.{said_possible}
use Rattle.coverage_set.proofs.RowsSeen.{none_started, block_started, rows_possible, all_started}
use Rattle.coverage_set.proofs.SaidLaw.{said_law}
use Rattle.coverage_set.proofs.Starts.{StartAbove}
use Rattle.coverage_set.proofs.Fitting.{history_kept}

-- what blocks say
abbrev BlocksSay : Object → List Block → Event → Type 0
BlocksSay o blocks e = Somewhere (λ b. BlockSays (facts_of o) b e) (map block_of blocks)

-- nothing was seen
pub none_found : (o : Object) (f : Found) → f.starts.next ≡ 0 → f.starts.events.items ≡ [] → f.flagged ≡ [] → Replays o f.replay [] → Finds o f [] []
none_found o f next events flagged replay = record {
  starts = none_started o f.starts next events;
  rows = rw events (λ e none. absurd none);
  flagged = λ e. rw flagged (λ some. some, λ some. some);
  replay = replay;
}

-- a block more
pub block_found : (o : Object) (old new : Found) (b : Block) (blocks : List Block) (history : List HistoryEntry)
    → ((later : List Block) → StartAbove b.start later
    → new.starts.events.items ++ starts_in later (drop new.starts.next o.rows) ≡ old.starts.events.items ++ starts_in (b ∷ later) (drop old.starts.next o.rows))
    → ((e : Event) → Somewhere (λ x. x ≡ e) new.flagged ↔ (Somewhere (λ x. x ≡ e) old.flagged ⊎ BlockSays (facts_of o) (block_of b) e))
    → new.replay ≡ old.replay → Finds o old blocks history → Finds o new (blocks ++ b ∷ []) history
block_found o old new b blocks history started flagged replay so_far = record {
  starts = block_started o old.starts new.starts blocks b so_far.starts started;
  rows = rows_possible o old.starts new.starts b so_far.rows started;
  flagged = λ e. subst (λ (bs : List Executed). Somewhere (λ x. x ≡ e) new.flagged ↔ Somewhere (λ k. BlockSays (facts_of o) k e) bs)
      (sym (map-append block_of blocks (b ∷ []))) (both e);
  replay = rw replay so_far.replay;
}
  where
    both : (e : Event) → Somewhere (λ x. x ≡ e) new.flagged ↔ Somewhere (λ k. BlockSays (facts_of o) k e) (map block_of blocks ++ map block_of (b ∷ []))
    both e = (
      λ some. elim ((flagged e).0 some) [
        | inl early ↦ in_left (λ k. BlockSays (facts_of o) k e) (map block_of blocks) (map block_of (b ∷ [])) ((so_far.flagged e).0 early)
        | inr here ↦ in_right (λ k. BlockSays (facts_of o) k e) (map block_of blocks) (map block_of (b ∷ [])) (inl here)
      ],
      λ some. (flagged e).1 (elim (in_append (λ k. BlockSays (facts_of o) k e) (map block_of blocks) (map block_of (b ∷ [])) some) [
        | inl early ↦ inl ((so_far.flagged e).1 early)
        | inr late ↦ elim late [ inl here ↦ inr here | inr none ↦ absurd none ]
      ]),
    )

-- an entry of the history more
pub history_found : (o : Object) (old new : Found) (blocks : List Block) (history more : List HistoryEntry) → new.starts ≡ old.starts → new.flagged ≡ old.flagged
    → Replays o new.replay more → Finds o old blocks history → Finds o new blocks more
history_found o old new blocks history more starts flagged replay so_far = record {
  starts = rw starts so_far.starts;
  rows = rw starts so_far.rows;
  flagged = rw flagged so_far.flagged;
  replay = replay;
}

-- ---- what the flags of a block show

in_found : (found : Option Event) (e : Event) → Somewhere (λ x. x ≡ e) (option_to_list found) ↔ (found ≡ Some e)
in_found None e = (λ none. absurd none, λ is. absurd (cc is))
in_found (Some event) e = (
  λ some. elim some [ inl is ↦ ap (λ (x : Event). Some x) is | inr none ↦ absurd none ],
  λ is. inl (cc is),
)

pub edges_added : (P Q : Event → Type 0) (first second : Option Event) (old middle new : List Event)
    → ((e : Event) → (first ≡ Some e) ↔ P e) → ((e : Event) → (second ≡ Some e) ↔ Q e)
    → ((e : Event) → Somewhere (λ x. x ≡ e) middle ↔ (Somewhere (λ x. x ≡ e) old ⊎ Somewhere (λ x. x ≡ e) (option_to_list first)))
    → ((e : Event) → Somewhere (λ x. x ≡ e) new ↔ (Somewhere (λ x. x ≡ e) middle ⊎ Somewhere (λ x. x ≡ e) (option_to_list second)))
    → (e : Event) → Somewhere (λ x. x ≡ e) new ↔ (Somewhere (λ x. x ≡ e) old ⊎ (P e ⊎ Q e))
edges_added P Q first second old middle new is_first is_second one two e = (
  λ some. elim ((two e).0 some) [
    | inl early ↦ elim ((one e).0 early) [
      | inl before ↦ inl before
      | inr here ↦ inr (inl ((is_first e).0 ((in_found first e).0 here)))
    ]
    | inr here ↦ inr (inr ((is_second e).0 ((in_found second e).0 here)))
  ],
  λ either. (two e).1 (elim either [
    | inl before ↦ inl ((one e).1 (inl before))
    | inr says ↦ elim says [
      | inl p ↦ inl ((one e).1 (inr ((in_found first e).1 ((is_first e).1 p))))
      | inr q ↦ inr ((in_found second e).1 ((is_second e).1 q))
    ]
  ]),
)

-- ---- at the end

-- a trace of these lists; what else it tells doesn't matter here
abbrev trace_with : List Block → List HistoryEntry → TraceFile
trace_with blocks history = record { object = []; ending = 0; blocks = blocks; history = history; closing = [] }

-- what flags show is possible
flagged_possible : (o : Object) → IsSound o → (blocks : List Block) (e : Event) → BlocksSay o blocks e → IsPossibleEvent o e
flagged_possible o sound blocks (Start s i) says = absurd ((flags_law (facts_of o) (trace_in (trace_with blocks [])) (Start s i)).0 says)
flagged_possible o sound blocks (Done d i vector) says =
    said_possible o sound (trace_with blocks []) (Done d i vector) (inl ((flags_law (facts_of o) (trace_in (trace_with blocks [])) (Done d i vector)).0 says))

-- so is what a history of kept entries tells
history_possible : (o : Object) → IsSound o → (history : List HistoryEntry) → AreKept o history → (e : Event)
    → Somewhere (λ x. x ≡ e) (done_of (facts_of o) [] (visits_of (facts_of o) history)) → IsPossibleEvent o e
history_possible o sound history kept e some =
    said_possible o sound (trace_with [] history) e
    ((said_law o sound (trace_with [] history) kept [] (λ x. none_shown x) e).0
    (in_left (λ x. x ≡ e) (done_of (facts_of o) [] (visits_of (facts_of o) history) ++ []) (starts_in [] o.rows)
    (in_left (λ x. x ≡ e) (done_of (facts_of o) [] (visits_of (facts_of o) history)) [] some)))
  where
    none_shown : (x : Event) → Somewhere (λ y. y ≡ x) [] ↔ FlagsSay (facts_of o) (trace_in (trace_with [] history)) x
    none_shown x = flags_law (facts_of o) (trace_in (trace_with [] history)) x

-- all that was found
abbrev pub all_of : Found → List Event
all_of f = (f.replay.events ++ f.flagged) ++ f.starts.events.items

pub found_possible : (o : Object) → IsSound o → (f : Found) (blocks : List Block) (history : List HistoryEntry) → Finds o f blocks history
    → (set : List Event) → ((e : Event) → Somewhere (λ x. x ≡ e) set ↔ Somewhere (λ x. x ≡ e) (all_of f)) → ArePossible o set
found_possible o sound f blocks history finds set is e some =
    elim (in_append (λ x. x ≡ e) (f.replay.events ++ f.flagged) f.starts.events.items ((is e).0 some)) [
      | inl first ↦ elim (in_append (λ x. x ≡ e) f.replay.events f.flagged first) [
        | inl done ↦ history_possible o sound finds.replay.fed finds.replay.kept e ((finds.replay.replayed.told e).0 done)
        | inr flag ↦ flagged_possible o sound blocks e ((finds.flagged e).0 flag)
      ]
      | inr start ↦ finds.rows e start
    ]

-- where no entry was refused, it is what the trace says
pub found_said : (o : Object) → IsSound o → (f : Found) (t : TraceFile) → Finds o f t.blocks t.history → first_failing in_order None 0 t.blocks ≡ None
    → fault_of o t ≡ None → f.replay.stopped ≡ None
    → (set : List Event) → ((e : Event) → Somewhere (λ x. x ≡ e) set ↔ Somewhere (λ x. x ≡ e) (all_of f))
    → (e : Event) → Somewhere (λ x. x ≡ e) set ↔ Says (facts_of o) (trace_in t) e
found_said o sound f t finds ordered fits going set is e =
    let law = said_law o sound t (history_kept o t fits) f.flagged (λ x. shown x) e in (
      λ some. law.0 (elim (in_append (λ x. x ≡ e) (f.replay.events ++ f.flagged) f.starts.events.items ((is e).0 some)) [
        | inl first ↦ in_left (λ x. x ≡ e) (done ++ f.flagged) (starts_in t.blocks o.rows)
            (elim (in_append (λ x. x ≡ e) f.replay.events f.flagged first) [
              | inl early ↦ in_left (λ x. x ≡ e) done f.flagged ((told e).0 early)
              | inr flag ↦ in_right (λ x. x ≡ e) done f.flagged flag
            ])
        | inr start ↦ in_right (λ x. x ≡ e) (done ++ f.flagged) (starts_in t.blocks o.rows) (subst (λ (es : List Event). Somewhere (λ x. x ≡ e) es) started start)
      ]),
      λ says. (is e).1 (elim (in_append (λ x. x ≡ e) (done ++ f.flagged) (starts_in t.blocks o.rows) (law.1 says)) [
        | inl first ↦ in_left (λ x. x ≡ e) (f.replay.events ++ f.flagged) f.starts.events.items
            (elim (in_append (λ x. x ≡ e) done f.flagged first) [
              | inl early ↦ in_left (λ x. x ≡ e) f.replay.events f.flagged ((told e).1 early)
              | inr flag ↦ in_right (λ x. x ≡ e) f.replay.events f.flagged flag
            ])
        | inr start ↦ in_right (λ x. x ≡ e) (f.replay.events ++ f.flagged) f.starts.events.items
            (subst (λ (es : List Event). Somewhere (λ x. x ≡ e) es) (sym started) start)
      ]),
    )
  where
    done : List Event
    done = done_of (facts_of o) [] (visits_of (facts_of o) t.history)

    started : f.starts.events.items ≡ starts_in t.blocks o.rows
    started = all_started o f.starts t.blocks finds.starts ordered

    told : (x : Event) → Somewhere (λ y. y ≡ x) f.replay.events ↔ Somewhere (λ y. y ≡ x) done
    told x = subst (λ (hs : List HistoryEntry). Somewhere (λ y. y ≡ x) f.replay.events ↔ Somewhere (λ y. y ≡ x) (done_of (facts_of o) [] (visits_of (facts_of o) hs)))
        (finds.replay.all going) (finds.replay.replayed.told x)

    shown : (x : Event) → Somewhere (λ y. y ≡ x) f.flagged ↔ FlagsSay (facts_of o) (trace_in t) x
    shown x =
        let law = flags_law (facts_of o) (trace_in t) x in
        let own = finds.flagged x in
        (λ some. law.0 (own.0 some), λ says. own.1 (law.1 says))

pub found_follows : (o : Object) (f : Found) (t : TraceFile) → Finds o f t.blocks t.history → f.replay.stopped ≡ None
    → AllFollow (facts_of o) [] (visits_of (facts_of o) t.history)
found_follows o f t finds going =
    subst (λ (hs : List HistoryEntry). AllFollow (facts_of o) [] (visits_of (facts_of o) hs)) (finds.replay.all going) finds.replay.replayed.holds.follow

-- and where one was, its history breaks there
pub found_breaks : (o : Object) (f : Found) (t : TraceFile) (at : ℕ) → Finds o f t.blocks t.history → fault_of o t ≡ None → f.replay.stopped ≡ Some at
    → BreaksAt (facts_of o) (visits_of (facts_of o) t.history) at
found_breaks o f t at finds fits is =
    subst (λ (found : Option ℕ). IfSome found (λ at. AreKept o t.history → BreaksAt (facts_of o) (visits_of (facts_of o) t.history) at)) is finds.replay.broken
    (history_kept o t fits)
