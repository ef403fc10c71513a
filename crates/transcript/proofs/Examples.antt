-- Transcripts of small decisions, read by computation.
use Rattle.std.proofs.Common.{◌≡◌, ℕ, ◌%◌, nat_eq, Bool, true, false, cond, List, [], ◌∷◌, Option, Some, None, ⊎_elim, inl, inr, arith, refl, sym, ap, subst, ◌∙◌, is_some, eqb-true}
use Rattle.cov_base.specs.declared.event.Event.{Event}
use Rattle.cov_base.specs.declared.event.Event.TheVariants.{Start, Done}
use Rattle.rv_semantics.specs.declared.stepped.Seen.{Seen}
use Rattle.cov_base.specs.Expr.{Expr, condition, operator}
use Rattle.cov_base.specs.Graph.{node, leaf, target, graph, next_in, IsTree}
use Rattle.cov_base.specs.Lists.{Somewhere}
use Rattle.transcript.proofs.Told.{completed_among}
use Rattle.transcript.specs.Facts.{Facts, Row, Condition, AreFair}
use Rattle.transcript.specs.Reading.{IsDisciplined}
use Rattle.transcript.specs.Pieces.{RunsOn}
use Rattle.transcript.specs.Visit.{visits}
use Rattle.transcript.specs.Computed.{reading}
use Rattle.transcript.specs.Trace.{Trace, trace_of, visits_in, Says}
use Rattle.transcript.specs.Replay.{replay}

-- `(A and then B) or else C`: decision 0, whose branches stand at 100, 108 and 116, each taken where its condition is True
abbrev and_or : Expr
and_or = operator false (operator true condition condition) condition

-- `A and then B`, a tree: decision 1, whose branches stand at 200 and 204, each taken where its condition is False
abbrev and_alone : Expr
and_alone = operator true condition condition

abbrev role : ℕ → ℕ → Bool → Condition
role decision at_node when_taken =
    record { decision = record { 0 = decision }; at_node = at_node; when_taken = when_taken; instance = record { 0 = 0 } }

abbrev roles : ℕ → Option Condition
roles pc =
    cond (nat_eq pc 100) (Some (role 0 0 true)) (cond (nat_eq pc 108) (Some (role 0 1 true)) (cond (nat_eq pc 116) (Some (role 0 2 true))
    (cond (nat_eq pc 200) (Some (role 1 0 false)) (cond (nat_eq pc 204) (Some (role 1 1 false)) None))))

-- statement 5 starts at 196
abbrev rows : ℕ → Option Row
rows pc = cond (nat_eq pc 196) (Some (record { statement = record { 0 = 5 }; instance = record { 0 = 0 } })) None

abbrev facts : Facts
facts = record {
  transfers = λ pc. is_some (roles pc);
  branches = λ pc. is_some (roles pc);
  row = rows;
  condition = roles;
  graph = λ d. cond (nat_eq d.0 0) (graph and_or) (graph and_alone);
  tree = λ d. nat_eq d.0 1;
}

-- a branch that is executed under a frame pointer
abbrev branch : ℕ → ℕ → Bool → Seen
branch pc x8 taken = record { pc = pc; edge = Some taken; x8 = x8 }

abbrev done : ℕ → ℕ → ℕ → Event
done decision seen value =
    Done (record { 0 = decision }) (record { 0 = 0 }) (record { seen = seen; value = value })

abbrev plain : ℕ → ℕ → Seen
plain pc x8 = record { pc = pc; edge = None; x8 = x8 }

-- a function that returns (N > 0 and then itself of N - 1) or else N = 1, called with 2: each activation has its frame pointer
abbrev recursive : List Seen
recursive =
    branch 100 900 true
    ∷ (branch 100 800 true
    ∷ (branch 100 700 false
    ∷ (branch 116 700 false ∷ (branch 108 800 false ∷ (branch 116 800 true ∷ (branch 108 900 true ∷ []))))))

-- F-F, then TFT, then TT-
recursive_reads : reading facts recursive ≡ done 0 5 0 ∷ (done 0 7 5 ∷ (done 0 3 3 ∷ []))
recursive_reads = refl

recursive_replays : replay facts (visits_in facts (trace_of facts recursive).history)
    ≡ record { events = done 0 5 0 ∷ (done 0 7 5 ∷ (done 0 3 3 ∷ [])); broken = None }
recursive_replays = refl

-- an evaluation that an exception leaves after A gives nothing, and the next one under that frame pointer begins anew
abandoned_reads : reading facts (branch 100 900 true ∷ []) ≡ []
abandoned_reads = refl

begun_anew : reading facts (branch 100 900 true ∷ (branch 100 900 false ∷ (branch 116 900 true ∷ []))) ≡ done 0 5 4 ∷ []
begun_anew = refl

-- a history that begins inside an evaluation breaks there; so does one whose second entry follows nothing
breaks_first : (replay facts (visits facts (branch 108 900 true ∷ []))).broken ≡ Some 0
breaks_first = refl

breaks_second : (replay facts (visits facts (branch 100 900 true ∷ (branch 116 900 true ∷ [])))).broken ≡ Some 1
breaks_second = refl

-- under another frame pointer nothing is under way
breaks_apart : (replay facts (visits facts (branch 100 900 true ∷ (branch 108 800 true ∷ [])))).broken ≡ Some 1
breaks_apart = refl

-- the tree decision: a statement that starts, then A True and B False
abbrev tree_run : List Seen
tree_run = plain 196 900 ∷ (branch 200 900 false ∷ (branch 204 900 true ∷ []))

tree_reads : reading facts tree_run
    ≡ Start (record { 0 = 5 }) (record { 0 = 0 }) ∷ (done 1 3 1 ∷ [])
tree_reads = refl

abbrev tree_trace : Trace
tree_trace = record {
  blocks = record { start = 196; last = 200; taken = false; not_taken = true }
      ∷ (record { start = 204; last = 204; taken = true; not_taken = false } ∷ []);
  tail = None;
  history = [];
}

tree_traced : trace_of facts tree_run ≡ tree_trace
tree_traced = refl

-- the flag of B's block shows the vector
tree_says : Says facts tree_trace (done 1 3 1)
tree_says = inl (record {
  address = 204;
  condition = role 1 1 false;
  taken = true;
  role = refl;
  of_decision = refl;
  of_instance = refl;
  of_tree = refl;
  flagged = inr (inl (refl, refl));
  ends = record {
    older = record { at_node = 0; value = true } ∷ [];
    ends = false;
    leads = (refl, (refl, refl));
    shown = refl;
  };
})

-- these facts are fair
only_edge : (j to : ℕ) (a : Bool) → next_in (graph and_alone) j a ≡ node to → (j ≡ 0) × (a ≡ true)
only_edge j to a leads = by_node (nat_eq j 0) refl (nat_eq j 1) a leads
  where
    by_node : (b : Bool) → nat_eq j 0 ≡ b → (c : Bool) → (a : Bool)
        → cond b (target (record { on_true = node 1; on_false = leaf false }) a) (cond c (target (record { on_true = leaf true; on_false = leaf false }) a) (leaf a)) ≡ node to
        → (j ≡ 0) × (a ≡ true)
    by_node true is c true leads = (eqb-true j 0 is, refl)
    by_node true is c false leads = absurd (cc leads)
    by_node false is true true leads = absurd (cc leads)
    by_node false is true false leads = absurd (cc leads)
    by_node false is false a leads = absurd (cc leads)

is_tree : IsTree (graph and_alone)
is_tree j k to a b first second =
    let x = only_edge j to a first in
    let y = only_edge k to b second in
    (x.0 ∙ sym y.0, x.1 ∙ sym y.1)

are_fair : AreFair facts
are_fair = record {
  graphs = λ d. by_graph (nat_eq d.0 0);
  trees = λ d tree. subst (λ (n : ℕ). IsTree (cond (nat_eq n 0) (graph and_or) (graph and_alone))) (sym (eqb-true d.0 1 tree)) is_tree;
  rows = λ pc r is. by_row pc r (nat_eq pc 196) refl is;
  conditions = λ pc c is. ap is_some is;
  branches = λ pc is. is;
}
  where
    by_graph : (b : Bool) → (e : Expr) × (cond b (graph and_or) (graph and_alone) ≡ graph e)
    by_graph true = (and_or, refl)
    by_graph false = (and_alone, refl)

    by_row : (pc : ℕ) (r : Row) (b : Bool) → nat_eq pc 196 ≡ b → cond b (Some (record { statement = record { 0 = 5 }; instance = record { 0 = 0 } })) None ≡ Some r → pc % 4 ≡ 0
    by_row pc r true here is = rw (eqb-true pc 196 here) refl
    by_row pc r false here is = absurd (cc is)

-- and the tree run goes on from word to word, and is disciplined
tree_runs_on : RunsOn facts tree_run
tree_runs_on = (tt, refl, (refl, refl, (tt, refl, tt)))

tree_disciplined : IsDisciplined facts tree_run
tree_disciplined = (inl refl, (inr refl, tt))

-- evaluations to TT-, TFF and F-T take every edge that one to TFT takes; still their trace does not say TFT
abbrev two_runs : List Seen
two_runs =
    branch 100 900 true ∷ (branch 108 900 true ∷ (branch 100 900 true ∷ (branch 108 900 false ∷ (branch 116 900 false
    ∷ (branch 100 900 false ∷ (branch 116 900 true ∷ []))))))

two_runs_read : reading facts two_runs ≡ done 0 3 3 ∷ (done 0 7 1 ∷ (done 0 5 4 ∷ []))
two_runs_read = refl

not_said : Says facts (trace_of facts two_runs) (done 0 7 5) → ⊥
not_said says =
    ⊎_elim (λ flagged. let off : false ≡ true = flagged.of_tree in absurd (cc off))
    (λ history. among (completed_among facts are_fair (visits_in facts (trace_of facts two_runs).history) []
    (record { 0 = 0 }) (record { 0 = 0 }) (record { seen = 7; value = 5 }) history.1)) says
  where
    seen_of : Event → ℕ
    seen_of (Start s i) = 0
    seen_of (Done d i v) = v.seen

    value_of : Event → ℕ
    value_of (Start s i) = 0
    value_of (Done d i v) = v.value

    among : Somewhere (λ e. e ≡ done 0 7 5) (done 0 3 3 ∷ (done 0 7 1 ∷ (done 0 5 4 ∷ []))) → ⊥
    among s =
        ⊎_elim (λ first. let off : 3 ≡ 7 = ap seen_of first in absurd (omega (arith, off)))
        (λ rest. ⊎_elim (λ second. let off : 1 ≡ 5 = ap value_of second in absurd (omega (arith, off)))
        (λ last. ⊎_elim (λ third. let off : 5 ≡ 7 = ap seen_of third in absurd (omega (arith, off))) (λ none. none) last) rest) s
