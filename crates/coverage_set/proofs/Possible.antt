-- Which events runs of an object can have.
use Rattle.std.proofs.Common.{◌≡◌, ◌⊎◌, ◌↔◌, ℕ, suc, zero, ◌<◌, Bool, true, false, cond, ◌==◌, List, [], ◌∷◌, map, filter, length, slice_get, find, option_map, Option, Some, None, refl, ap, subst, ◌∙◌, inl, inr, arith, option_and_then, nat_lt}
use Rattle.std.specs.List.{list_all, list_any, cons_option}
use Rattle.std.proofs.lemmas.Bool.{and_parts, ltb-true}
use Rattle.std.proofs.lemmas.Option.{slice_get_within}
use Rattle.cov_base.specs.declared.event.Event.{Event}
use Rattle.cov_base.specs.declared.event.Event.TheVariants.{Start, Done}
use Rattle.cov_base.specs.declared.event.Vector.{Vector}
use Rattle.cov_base.specs.declared.obligations.DecEntry.{DecEntry}
use Rattle.cov_base.specs.declared.position.DecId.{DecId}
use Rattle.cov_base.specs.declared.position.InstId.{InstId}
use Rattle.cov_base.specs.Lists.{Somewhere}
use Rattle.decision_map.specs.Roles.{condition_of, condition_at}
use Rattle.decision_map.specs.declared.condition.Condition.{Condition as Decision}
use Rattle.line_table.specs.declared.roles.Role.{Role}
use Rattle.line_table.specs.declared.rows.Row.{Row}
use Rattle.object_facts.specs.Object.{facts_of, condition_of as fact_of}
use Rattle.object_format.proofs.RoleLaws.{known_by_field}
use Rattle.object_format.specs.Checked.{IsSound}
use Rattle.object_format.specs.declared.object.Object.{Object}
use Rattle.object_format.specs.Fields.{condition_count}
use Rattle.object_format.specs.RoleCheck.{is_condition, conditions_of, is_known, condition_of as known_of}
use Rattle.trace_format.specs.declared.trace.Block.{Block}
use Rattle.trace_format.specs.Consolidated.{ConsolidatedFile}
use Rattle.trace_format.specs.Trace.{TraceFile}
use Rattle.transcript.proofs.Lists.{in_append}
use Rattle.transcript.proofs.Vectors.{said_path}
use Rattle.transcript.specs.Facts.{Facts, Condition}
use Rattle.transcript.specs.Reading.{IsCompletedFrom}
use Rattle.transcript.specs.Trace.{Says, Branched, visits_in}
use Rattle.transcript.specs.Visit.{Visit, visit_at}
use Rattle.vector_rebuild.specs.Entries.{trace_in}
use Rattle.coverage_set.specs.declared.consolidated.Decided.{Decided}
use Rattle.coverage_set.specs.Consolidated.{start_of, done_of, events_in, decided_by, decided_in, HasRow, IsPossible, IsPossibleEvent, ArePossible, AreBefore, FitsObject}
use Rattle.coverage_set.specs.Said.{covers, starts_in}
use Rattle.coverage_set.proofs.Starts.{said_start}

-- ---- starts

-- a start whose row lies in a block is that of a row
pub from_rows : (blocks : List Block) (rows : List Row) (e : Event) → Somewhere (λ x. x ≡ e) (starts_in blocks rows)
    → Somewhere (λ x. x ≡ e) (map (λ (row : Row). Start row.statement row.instance) rows)
from_rows blocks [] e some = some
from_rows blocks (row ∷ rows) e some = by_row (list_any (covers row.address) blocks) (from_rows blocks rows e) some
  where
    by_row : (b : Bool)
        → (Somewhere (λ x. x ≡ e) (starts_in blocks rows) → Somewhere (λ x. x ≡ e) (map (λ (r : Row). Start r.statement r.instance) rows))
        → Somewhere (λ x. x ≡ e) (cond b (Start row.statement row.instance ∷ starts_in blocks rows) (starts_in blocks rows))
        → Somewhere (λ x. x ≡ e) (map (λ (r : Row). Start r.statement r.instance) (row ∷ rows))
    by_row true rest here = elim here [ inl is ↦ inl is | inr later ↦ inr (rest later) ]
    by_row false rest here = inr (rest here)

-- ---- decisions

-- the branch at an address decides a condition of this decision in this instance
record IsDecidedAt (o : Object) (d : DecId) (i : InstId) : Type 0 where
  pub address : ℕ
  pub condition : Condition
  pub decides : (facts_of o).condition address ≡ Some condition
  pub of_decision : condition.decision ≡ d
  pub of_instance : condition.instance ≡ i

-- a visit of this decision in this instance
abbrev IsVisitOf : DecId → InstId → Visit → Type 0
IsVisitOf d i v = (v.key.decision ≡ d) × (v.key.instance ≡ i)

-- a completed evaluation was visited
was_visited : (o : Facts) (vs past : List Visit) (d : DecId) (i : InstId) (vector : Vector) → IsCompletedFrom o past vs d i vector
    → Somewhere (IsVisitOf d i) vs
was_visited o [] past d i vector completes = completes
was_visited o (v ∷ vs) past d i vector completes = elim completes [
  | inl here ↦ inl (here.0, here.1)
  | inr later ↦ inr (was_visited o vs (v ∷ past) d i vector later)
]

-- a visit of a history is of a branch that decides its condition
by_history : (o : Object) (d : DecId) (i : InstId) (history : List Branched) → Somewhere (IsVisitOf d i) (visits_in (facts_of o) history) → IsDecidedAt o d i
by_history o d i [] some = absurd some
by_history o d i (b ∷ history) some = by_condition ((facts_of o).condition b.address) refl (by_history o d i history) some
  where
    by_condition : (found : Option Condition) → (facts_of o).condition b.address ≡ found
        → (Somewhere (IsVisitOf d i) (visits_in (facts_of o) history) → IsDecidedAt o d i)
        → Somewhere (IsVisitOf d i) (cons_option (visit_at found b.x8 (Some b.taken)) (visits_in (facts_of o) history)) → IsDecidedAt o d i
    by_condition None is rest there = rest there
    by_condition (Some c) is rest there = elim there [
      | inl here ↦ record { address = b.address; condition = c; decides = is; of_decision = here.0; of_instance = here.1 }
      | inr later ↦ rest later
    ]

-- an evaluation that a trace says is of a decision that a branch decides
is_decided : (o : Object) (t : TraceFile) (d : DecId) (i : InstId) (vector : Vector) → Says (facts_of o) (trace_in t) (Done d i vector) → IsDecidedAt o d i
is_decided o t d i vector says = elim says [
  | inl flagged ↦ record {
    address = flagged.address;
    condition = flagged.condition;
    decides = flagged.role;
    of_decision = flagged.of_decision;
    of_instance = flagged.of_instance;
  }
  | inr history ↦ by_history o d i (trace_in t).history (was_visited (facts_of o) (visits_in (facts_of o) (trace_in t).history) [] d i vector history.1)
]

-- the condition of a role, where it has one
abbrev as_condition : Role → Decision
as_condition role = record { decision = role.decision; condition = role.condition; when_taken = role.value == 1; instance = role.instance }

-- a decision in an instance; that of a role, and that of a condition
abbrev in_instance : DecId → InstId → Decided
in_instance d i = record { decision = d; instance = i }

abbrev of_role : Role → Decided
of_role role = record { decision = role.decision; instance = role.instance }

abbrev of_condition : Decision → Decided
of_condition c = record { decision = c.decision; instance = c.instance }

-- what is decided behind a role is decided
behind_role : (role : Role) (roles : List Role) (d : Decided) → Somewhere (λ x. x ≡ d) (decided_by roles) → Somewhere (λ x. x ≡ d) (decided_by (role ∷ roles))
behind_role role roles d some = by_kind (is_condition role)
  where
    by_kind : (b : Bool) → Somewhere (λ x. x ≡ d) (cond b (of_role role ∷ decided_by roles) (decided_by roles))
    by_kind true = inr some
    by_kind false = some

-- a condition that a branch decides has a role
has_role : (pc : ℕ) (c : Decision) (roles : List Role) → option_and_then condition_of (find (λ (role : Role). role.address == pc) roles) ≡ Some c
    → Somewhere (λ x. x ≡ of_condition c) (decided_by roles)
has_role pc c [] is = absurd (cc is)
has_role pc c (role ∷ roles) is = by_place (role.address == pc) (has_role pc c roles) is
  where
    own_by : (b : Bool)
        → cond b (Some (as_condition role)) None ≡ Some c
        → Somewhere (λ x. x ≡ of_condition c) (cond b (of_role role ∷ decided_by roles) (decided_by roles))
    own_by true same =
        let one : as_condition role ≡ c = cc same in
        inl (ap of_condition one)
    own_by false same = absurd (cc same)

    by_place : (b : Bool)
        → (option_and_then condition_of (find (λ (r : Role). r.address == pc) roles) ≡ Some c → Somewhere (λ x. x ≡ of_condition c) (decided_by roles))
        → option_and_then condition_of (cond b (Some role) (find (λ (r : Role). r.address == pc) roles)) ≡ Some c
        → Somewhere (λ x. x ≡ of_condition c) (decided_by (role ∷ roles))
    by_place true rest same = own_by (is_condition role) same
    by_place false rest same = behind_role role roles (of_condition c) (rest same)

-- a decision with a condition that is known is one
is_one : (decisions : List DecEntry) (d n : ℕ) (found : Option DecEntry) → slice_get decisions d ≡ found → nat_lt n (condition_count found) ≡ true → d < length decisions
is_one decisions d n None is known = let below = ltb-true n 0 known in absurd (omega arith)
is_one decisions d n (Some entry) is known = slice_get_within decisions d entry is

is_known_one : (decisions : List DecEntry) (roles : List Role) (d : Decided) → list_all (is_known decisions) (conditions_of roles) ≡ true
    → Somewhere (λ x. x ≡ d) (decided_by roles) → d.decision.0 < length decisions
is_known_one decisions [] d known some = absurd some
is_known_one decisions (role ∷ roles) d known some = by_kind (is_condition role) (is_known_one decisions roles d) known some
  where
    by_kind : (b : Bool)
        → (list_all (is_known decisions) (conditions_of roles) ≡ true → Somewhere (λ x. x ≡ d) (decided_by roles) → d.decision.0 < length decisions)
        → list_all (is_known decisions) (map known_of (cond b (role ∷ filter is_condition roles) (filter is_condition roles))) ≡ true
        → Somewhere (λ x. x ≡ d) (cond b (of_role role ∷ decided_by roles) (decided_by roles))
        → d.decision.0 < length decisions
    by_kind true rest all there =
        let parts = and_parts (is_known decisions (known_of role)) (list_all (is_known decisions) (conditions_of roles)) all in
        elim there [
          | inl is ↦ subst (λ (x : Decided). x.decision.0 < length decisions) is
              (is_one decisions role.decision.0 role.condition.0 (slice_get decisions role.decision.0) refl parts.0)
          | inr later ↦ rest parts.1 later
        ]
    by_kind false rest all there = rest all there

-- the role of a branch that decides a condition
decided_at : (o : Object) (d : DecId) (i : InstId) → IsDecidedAt o d i → Somewhere (λ x. x ≡ in_instance d i) (decided_in o)
decided_at o d i at = by_condition (condition_at o at.address) refl at.decides
  where
    by_condition : (found : Option Decision) → condition_at o at.address ≡ found → option_map fact_of found ≡ Some at.condition
        → Somewhere (λ x. x ≡ in_instance d i) (decided_in o)
    by_condition None is same = absurd (cc same)
    by_condition (Some c) is same =
        let one : fact_of c ≡ at.condition = cc same in
        let decision : c.decision ≡ d = ap (λ (k : Condition). k.decision) one ∙ at.of_decision in
        let instance : c.instance ≡ i = ap (λ (k : Condition). k.instance) one ∙ at.of_instance in
        let same : of_condition c ≡ in_instance d i = λ k. record { decision = decision k; instance = instance k } in
        subst (λ (x : Decided). Somewhere (λ y. y ≡ x) (decided_in o)) same
        (has_role at.address c o.roles is)

-- ---- events

-- runs of an object can have the events that a trace says
pub said_possible : (o : Object) → IsSound o → (t : TraceFile) (e : Event) → Says (facts_of o) (trace_in t) e → IsPossibleEvent o e
said_possible o sound t (Start s i) says = from_rows t.blocks o.rows (Start s i) (said_start o t s i says)
said_possible o sound t (Done d i vector) says =
    let decided = decided_at o d i (is_decided o t d i vector says) in
    record {
      known = is_known_one o.obligations.decisions o.roles (in_instance d i) (known_by_field o sound.field) decided;
      decided = decided;
      path = said_path (facts_of o) (trace_in t) d i vector says;
    }

-- those of entries of which each is so
each_possible : {X : Type 0} (o : Object) (P : X → Type 0) (g : X → Event) → ((x : X) → P x → IsPossibleEvent o (g x))
    → (xs : List X) → AreBefore P xs (length xs) → (e : Event) → Somewhere (λ y. y ≡ e) (map g xs) → IsPossibleEvent o e
each_possible o P g so [] before e some = absurd some
each_possible o P g so (x ∷ xs) before e some = elim some [
  | inl is ↦ subst (IsPossibleEvent o) is (so x (before zero (omega arith)))
  | inr later ↦ each_possible o P g so xs (λ i within. before (suc i) (omega (arith, within))) e later
]

-- those of a consolidated file that fits
pub listed_possible : (o : Object) (f : ConsolidatedFile) → FitsObject o f → ArePossible o (events_in f)
listed_possible o f fits e some = elim (in_append (λ x. x ≡ e) (map start_of f.starts) (map done_of f.vectors) some) [
  | inl start ↦ each_possible o (HasRow o) start_of (λ s row. row) f.starts fits.starts e start
  | inr done ↦ each_possible o (IsPossible o) done_of (λ v is. is) f.vectors fits.vectors e done
]

-- and those of a union
pub union_possible : (o : Object) (old more new : List Event)
    → ((e : Event) → Somewhere (λ x. x ≡ e) new ↔ (Somewhere (λ x. x ≡ e) old ⊎ Somewhere (λ x. x ≡ e) more))
    → ArePossible o old → ArePossible o more → ArePossible o new
union_possible o old more new union all others e some = elim ((union e).0 some) [ inl own ↦ all e own | inr other ↦ others e other ]
