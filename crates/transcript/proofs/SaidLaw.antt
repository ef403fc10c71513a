-- What the trace of a run says is what the run tells.
use Rattle.std.proofs.Common.{◌≡◌, ℕ, ◌≤◌, inl, inr, ⊎_elim, ◌↔◌, Bool, true, false, List, [], Some, None, option_to_list, filter_map, refl, sym, ap, subst, ◌∙◌}
use Rattle.cov_base.specs.declared.position.StmtId.{StmtId}
use Rattle.cov_base.specs.declared.position.DecId.{DecId}
use Rattle.cov_base.specs.declared.position.InstId.{InstId}
use Rattle.cov_base.specs.declared.event.Event.{Event}
use Rattle.cov_base.specs.declared.event.Event.TheVariants.{Start, Done}
use Rattle.cov_base.specs.declared.event.Vector.{Vector}
use Rattle.rv_semantics.specs.declared.stepped.Seen.{Seen}
use Rattle.cov_base.specs.Lists.{Somewhere}
use Rattle.transcript.specs.Facts.{Facts, AreFair}
use Rattle.transcript.specs.Visit.{visits}
use Rattle.transcript.specs.Reading.{IsCompletedFrom, Tells, IsDisciplined}
use Rattle.transcript.specs.Pieces.{Piece, closed, left_open, pieces, set_of, RunsOn, Covers}
use Rattle.transcript.specs.Trace.{took, block_of, kept_of, trace_of, visits_in, flag, IsFlagged, Says}
use Rattle.transcript.proofs.Lists.{one_of, at_one, weaker, in_map, to_map, in_append, in_left, in_right}
use Rattle.transcript.proofs.Orderly.{orderly_none}
use Rattle.transcript.proofs.Flat.{history_visits, flat_completed}
use Rattle.transcript.proofs.Rows.{rows_law}
use Rattle.transcript.proofs.Blocks.{last_there}
use Rattle.transcript.proofs.Sets.{in_set, to_set}
use Rattle.transcript.proofs.Flags.{EndsOne, completed_ends, ends_completed, MadeBy, from_visits, to_visits, Took, took_true, true_took}

-- statements
said_start : (o : Facts) (ss : List Seen) (s : StmtId) (i : InstId) → AreFair o → RunsOn o ss → Says o (trace_of o ss) (Start s i) → Tells o ss (Start s i)
said_start o ss s i fair runs says =
    let covered : Somewhere (Covers says.0) (pieces o ss) = ⊎_elim
    (λ block. in_left (Covers says.0) (closed o ss) (option_to_list (left_open o None ss))
    (in_set (Covers says.0) (closed o ss) (in_map (block_of ss) (λ b. (b.start ≤ says.0) × (says.0 ≤ b.last)) (set_of (closed o ss)) block)))
    (λ tail. in_right (Covers says.0) (closed o ss) (option_to_list (left_open o None ss)) tail) says.2 in
    let executed = (rows_law o ss says.0 (fair.rows says.0 (record { statement = s; instance = i }) says.1) runs).0 covered in
    weaker (λ x. x.pc ≡ says.0) (λ x. o.row x.pc ≡ Some (record { statement = s; instance = i })) (λ x here. ap o.row here ∙ says.1) ss executed

start_said : (o : Facts) (ss : List Seen) (s : StmtId) (i : InstId) → AreFair o → RunsOn o ss → Tells o ss (Start s i) → Says o (trace_of o ss) (Start s i)
start_said o ss s i fair runs tells =
    let one = one_of (λ x. o.row x.pc ≡ Some (record { statement = s; instance = i })) ss tells in
    let pc : ℕ = one.item.pc in
    let executed : Somewhere (λ x. x.pc ≡ pc) ss = weaker (λ x. x ≡ one.item) (λ x. x.pc ≡ pc) (λ x e. ap (λ (y : Seen). y.pc) e) ss one.stands in
    let covered = (rows_law o ss pc (fair.rows pc (record { statement = s; instance = i }) one.is_so) runs).1 executed in (
      pc,
      one.is_so,
      ⊎_elim
          (λ block. inl (to_map (block_of ss) (λ b. (b.start ≤ pc) × (pc ≤ b.last)) (set_of (closed o ss)) (to_set (Covers pc) (closed o ss) block)))
          (λ tail. inr tail) (in_append (Covers pc) (closed o ss) (option_to_list (left_open o None ss)) covered),
    )

-- evaluations of tree decisions
flag_took : (ss : List Seen) (p : Piece) (taken : Bool) → flag taken (block_of ss p) ≡ took ss p.last taken
flag_took ss p true = refl
flag_took ss p false = refl

flagged_done : (o : Facts) (ss : List Seen) (d : DecId) (i : InstId) (vector : Vector) → AreFair o → IsDisciplined o ss
    → IsFlagged o (trace_of o ss) d i vector → IsCompletedFrom o [] (visits o ss) d i vector
flagged_done o ss d i vector fair disciplined is =
    let one = one_of (λ p. (p.last ≡ is.address) × (flag is.taken (block_of ss p) ≡ true)) (set_of (closed o ss))
    (in_map (block_of ss) (λ b. (b.last ≡ is.address) × (flag is.taken b ≡ true)) (set_of (closed o ss)) is.flagged) in
    let taken : took ss is.address is.taken ≡ true =
    subst (λ (pc : ℕ). took ss pc is.taken ≡ true) one.is_so.0 (sym (flag_took ss one.item is.taken) ∙ one.is_so.1) in
    ends_completed o fair (visits o ss) [] d i vector is.of_tree (orderly_none o) disciplined
    (to_visits o (EndsOne o d i vector) ss (weaker (Took is.address is.taken) (MadeBy o (EndsOne o d i vector)) (λ s branch. record {
      condition = is.condition;
      taken = is.taken;
      role = ap o.condition branch.address ∙ is.role;
      edge = branch.edge;
      is_so = record { of_decision = is.of_decision; of_instance = is.of_instance; ends = is.ends };
    }) ss (took_true ss is.address is.taken taken)))

done_flagged : (o : Facts) (ss : List Seen) (d : DecId) (i : InstId) (vector : Vector) → AreFair o → o.tree d ≡ true
    → IsCompletedFrom o [] (visits o ss) d i vector → IsFlagged o (trace_of o ss) d i vector
done_flagged o ss d i vector fair tree is =
    let one = one_of (MadeBy o (EndsOne o d i vector)) ss (from_visits o (EndsOne o d i vector) ss (completed_ends o (visits o ss) [] d i vector is)) in
    let made = one.is_so in
    let pc : ℕ = one.item.pc in
    let executed : Somewhere (λ x. x.pc ≡ pc) ss = weaker (λ x. x ≡ one.item) (λ x. x.pc ≡ pc) (λ x e. ap (λ (y : Seen). y.pc) e) ss one.stands in
    let own : took ss pc made.taken ≡ true = true_took ss pc made.taken (at_one (Took pc made.taken) ss one.item (record { address = refl; edge = made.edge }) one.stands) in
    let transfers : o.transfers pc ≡ true = fair.branches pc (fair.conditions pc made.condition made.role) in
    record {
      address = pc;
      condition = made.condition;
      taken = made.taken;
      role = made.role;
      of_decision = made.is_so.of_decision;
      of_instance = made.is_so.of_instance;
      of_tree = tree;
      flagged = to_map (block_of ss) (λ b. (b.last ≡ pc) × (flag made.taken b ≡ true)) (set_of (closed o ss))
          (to_set (λ p. (p.last ≡ pc) × (flag made.taken (block_of ss p) ≡ true)) (closed o ss)
          (weaker (λ p. p.last ≡ pc) (λ p. (p.last ≡ pc) × (flag made.taken (block_of ss p) ≡ true))
          (λ p here. (here, flag_took ss p made.taken ∙ ap (λ (x : ℕ). took ss x made.taken) here ∙ own)) (closed o ss)
          (last_there o pc transfers ss None executed)));
      ends = made.is_so.ends;
    }

pub flags_tell : (o : Facts) (ss : List Seen) (d : DecId) (i : InstId) (vector : Vector) → AreFair o → IsDisciplined o ss → o.tree d ≡ true
    → IsFlagged o (trace_of o ss) d i vector ↔ IsCompletedFrom o [] (visits o ss) d i vector
flags_tell o ss d i vector fair disciplined tree =
    (flagged_done o ss d i vector fair disciplined, done_flagged o ss d i vector fair tree)

-- evaluations of the others
pub history_done : (o : Facts) (ss : List Seen) (d : DecId) (i : InstId) (vector : Vector) → o.tree d ≡ false
    → IsCompletedFrom o [] (visits_in o (filter_map (kept_of o) ss)) d i vector ↔ IsCompletedFrom o [] (visits o ss) d i vector
history_done o ss d i vector flat = rw (history_visits o ss) (flat_completed o (visits o ss) [] d i vector flat)

pub said_law : (o : Facts) (ss : List Seen) (e : Event) → AreFair o → RunsOn o ss → IsDisciplined o ss → Says o (trace_of o ss) e ↔ Tells o ss e
said_law o ss (Start s i) fair runs disciplined = (said_start o ss s i fair runs, start_said o ss s i fair runs)
said_law o ss (Done d i vector) fair runs disciplined = (
  λ says. ⊎_elim (λ flagged. flagged_done o ss d i vector fair disciplined flagged) (λ history. (history_done o ss d i vector history.0).0 history.1) says,
  λ tells. by_tree tells (o.tree d) refl,
)
  where
    by_tree : IsCompletedFrom o [] (visits o ss) d i vector → (b : Bool) → o.tree d ≡ b → Says o (trace_of o ss) (Done d i vector)
    by_tree tells true tree = inl (done_flagged o ss d i vector fair tree tells)
    by_tree tells false tree = inr (tree, (history_done o ss d i vector tree).1 tells)
