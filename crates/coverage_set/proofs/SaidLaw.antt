-- What a trace says is what is found in it.
use Rattle.std.proofs.Common.{◌≡◌, ◌↔◌, false, List, [], ◌∷◌, ◌++◌, Option, Some, None, subst, inl, inr}
use Rattle.cov_base.specs.declared.event.Event.{Event}
use Rattle.cov_base.specs.declared.event.Event.TheVariants.{Start, Done}
use Rattle.cov_base.specs.declared.event.Vector.{Vector}
use Rattle.cov_base.specs.declared.position.DecId.{DecId}
use Rattle.cov_base.specs.declared.position.StmtId.{StmtId}
use Rattle.cov_base.specs.declared.position.InstId.{InstId}
use Rattle.cov_base.specs.Lists.{Somewhere, Everywhere}
use Rattle.line_table.specs.declared.rows.Row.{Row}
use Rattle.object_facts.proofs.Fair.{fair}
use Rattle.object_facts.specs.Object.{facts_of}
use Rattle.object_format.specs.Checked.{IsSound}
use Rattle.object_format.specs.declared.object.Object.{Object}
use Rattle.trace_format.specs.declared.trace.Block.{Block}
use Rattle.trace_format.specs.Trace.{TraceFile}
use Rattle.transcript.proofs.Lists.{in_append, in_left, in_right}
use Rattle.transcript.proofs.Told.{completed_among, among_completed}
use Rattle.transcript.specs.Computed.{completed, done_by, done_of}
use Rattle.transcript.specs.Facts.{Facts}
use Rattle.transcript.specs.Reading.{IsCompletedFrom}
use Rattle.transcript.specs.Trace.{Says}
use Rattle.transcript.specs.Visit.{Key, Visit}
use Rattle.vector_rebuild.specs.Entries.{trace_in}
use Rattle.vector_rebuild.specs.Flagged.{FlagsSay}
use Rattle.vector_rebuild.specs.Rebuilt.{visits_of}
use Rattle.coverage_set.specs.Said.{starts_in}
use Rattle.coverage_set.specs.Read.{AreKept}
use Rattle.coverage_set.proofs.Replayed.{visits_flat}
use Rattle.coverage_set.proofs.Starts.{start_listed, start_said, said_start}

-- no start is among the evaluations of visits
no_start_by : (k : Key) (found : Option Vector) (s : StmtId) (i : InstId) → Somewhere (λ x. x ≡ Start s i) (done_by k found) → ⊥
no_start_by k None s i some = some
no_start_by k (Some vector) s i some = elim some [ inl is ↦ cc is | inr none ↦ none ]

no_start : (o : Facts) (vs past : List Visit) (s : StmtId) (i : InstId) → Somewhere (λ x. x ≡ Start s i) (done_of o past vs) → ⊥
no_start o [] past s i some = some
no_start o (v ∷ vs) past s i some =
    elim (in_append (λ x. x ≡ Start s i) (done_by v.key (completed o past v)) (done_of o (v ∷ past) vs) some) [
      | inl here ↦ no_start_by v.key (completed o past v) s i here
      | inr later ↦ no_start o vs (v ∷ past) s i later
    ]

-- no evaluation is among the starts
no_done : (blocks : List Block) (rows : List Row) (d : DecId) (i : InstId) (vector : Vector) → Somewhere (λ x. x ≡ Done d i vector) (starts_in blocks rows) → ⊥
no_done blocks rows d i vector some = let start = start_listed blocks rows (Done d i vector) some in cc start.is

-- evaluations of visits of decisions that are no trees are of such decisions
pub no_tree : (o : Facts) (vs past : List Visit) (d : DecId) (i : InstId) (vector : Vector) → Everywhere (λ (v : Visit). o.tree v.key.decision ≡ false) vs
    → IsCompletedFrom o past vs d i vector → o.tree d ≡ false
no_tree o [] past d i vector flat completes = absurd completes
no_tree o (v ∷ vs) past d i vector flat completes = elim completes [
  | inl here ↦ subst (λ (x : DecId). o.tree x ≡ false) here.0 flat.0
  | inr later ↦ no_tree o vs (v ∷ past) d i vector flat.1 later
]

module _ (o : Object) (sound : IsSound o) (t : TraceFile) (kept : AreKept o t.history) (flagged : List Event)
    (shown : (e : Event) → Somewhere (λ x. x ≡ e) flagged ↔ FlagsSay (facts_of o) (trace_in t) e) where
  abbrev found : List Event
  found = (done_of (facts_of o) [] (visits_of (facts_of o) t.history) ++ flagged) ++ starts_in t.blocks o.rows

  said_by : (e : Event) → Somewhere (λ x. x ≡ e) found → Says (facts_of o) (trace_in t) e
  said_by (Start s i) some =
      elim (in_append (λ x. x ≡ Start s i) (done_of (facts_of o) [] (visits_of (facts_of o) t.history) ++ flagged) (starts_in t.blocks o.rows) some) [
        | inl first ↦ elim (in_append (λ x. x ≡ Start s i) (done_of (facts_of o) [] (visits_of (facts_of o) t.history)) flagged first) [
          | inl done ↦ absurd (no_start (facts_of o) (visits_of (facts_of o) t.history) [] s i done)
          | inr flag ↦ absurd ((shown (Start s i)).0 flag)
        ]
        | inr start ↦ start_said o sound t s i start
      ]
  said_by (Done d i vector) some =
      elim (in_append (λ x. x ≡ Done d i vector) (done_of (facts_of o) [] (visits_of (facts_of o) t.history) ++ flagged) (starts_in t.blocks o.rows) some) [
        | inl first ↦ elim (in_append (λ x. x ≡ Done d i vector) (done_of (facts_of o) [] (visits_of (facts_of o) t.history)) flagged first) [
          | inl done ↦
              let completes = among_completed (facts_of o) (visits_of (facts_of o) t.history) [] d i vector done in
              inr (no_tree (facts_of o) (visits_of (facts_of o) t.history) [] d i vector (visits_flat o t.history kept) completes, completes)
          | inr flag ↦ inl ((shown (Done d i vector)).0 flag)
        ]
        | inr start ↦ absurd (no_done t.blocks o.rows d i vector start)
      ]

  by_said : (e : Event) → Says (facts_of o) (trace_in t) e → Somewhere (λ x. x ≡ e) found
  by_said (Start s i) says =
      in_right (λ x. x ≡ Start s i) (done_of (facts_of o) [] (visits_of (facts_of o) t.history) ++ flagged) (starts_in t.blocks o.rows) (said_start o t s i says)
  by_said (Done d i vector) says =
      in_left (λ x. x ≡ Done d i vector) (done_of (facts_of o) [] (visits_of (facts_of o) t.history) ++ flagged) (starts_in t.blocks o.rows) (elim says [
        | inl flag ↦ in_right (λ x. x ≡ Done d i vector) (done_of (facts_of o) [] (visits_of (facts_of o) t.history)) flagged ((shown (Done d i vector)).1 flag)
        | inr history ↦ in_left (λ x. x ≡ Done d i vector) (done_of (facts_of o) [] (visits_of (facts_of o) t.history)) flagged
            (completed_among (facts_of o) (fair o sound) (visits_of (facts_of o) t.history) [] d i vector history.1)
      ])

  pub said_law : (e : Event) → Somewhere (λ x. x ≡ e) found ↔ Says (facts_of o) (trace_in t) e
  said_law e = (said_by e, by_said e)
