-- The code of declarations and statements does what they do.
use Rattle.std.proofs.Common.{◌≡◌, ℕ, suc, ◌+◌, ◌<◌, ◌≤◌, inl, inr, ℤ, pos, Bool, true, false, FitsSigned, List, [], ◌∷◌, Option, Some, None, if◌then◌else◌, refl, sym, ap, subst, ◌∙◌, arith}
use Rattle.std.proofs.lemmas.Bool.{false≢true}
use Rattle.std.proofs.lemmas.Bool.Decides.{nat_tests}
use Rattle.std.proofs.lemmas.Int.{ints}
use Rattle.std.specs.Int.{w32}
use Rattle.cov_base.specs.declared.event.Event.TheVariants.{Start}
use Rattle.ada_meaning.specs.Arithmetic.{is_within}
use Rattle.ada_meaning.specs.Calls.{Calls, check}
use Rattle.ada_meaning.specs.Expressions.{value, named, given, performed}
use Rattle.ada_meaning.specs.Program.{Bounds, Program, Target, get_target, put_target, body_target}
use Rattle.ada_meaning.specs.Resolved.{bounds_in, place_in, local_place, target_in, parameters_of}
use Rattle.ada_meaning.specs.Shape.{Shape}
use Rattle.ada_meaning.specs.State as state
use Rattle.ada_meaning.specs.State.{Place, Store, World, Outcome, Gives, goes_to, Action, give, raise, done, ◌>>=◌, ◌>>◌}
use Rattle.ada_meaning.specs.Statements.{Flow, goes_on, leaves, returns, counted_between, sets, declares, declares_all, chooses, catches, turns_of, does, does_all, does_branch, does_alternative, does_handler, does_block}
use Rattle.ada_meaning.specs.Tree as tree
use Rattle.ada_resolved.specs.Sizes.{words}
use Rattle.kernel_ir.proofs.Joining.{joined_does, single_does}
use Rattle.kernel_ir.proofs.Memories.{with_slot_at, with_slot_other}
use Rattle.kernel_ir.specs.declared.kernel.Kernel.{Kernel}
use Rattle.kernel_ir.specs.declared.simple.Simple.TheVariants as op
use Rattle.kernel_ir.specs.Layouts.{content_in}
use Rattle.kernel_ir.specs.Meaning as code
use Rattle.kernel_ir.specs.Sequence.{joined}
use Rattle.kernel_ir.specs.Simple.{if_valid, exception_number}
use Rattle.kernel_ir.specs.Tree.{simple, choose, forever, exit, catch, Code, no_op, and_op}
use Rattle.kernel_ir.specs.Tree as kernel_tree
use Rattle.kernel_ir.specs.World.{Memory, Ended, Ends, slot_word, slot_in, with_slot, paid, noted}
use Rattle.kernel_ir.specs.World as kernel
use Rattle.frame_widths.specs.Ends.{end_of_actuals, end_of_call, end_of_declaration, end_of_declarations, end_of_range, end_of_statement, end_of_statements, end_of_branches, end_of_alternatives, end_of_block, end_of_handlers}
use Rattle.statement_code.specs.Names.{names_in}
use Rattle.statement_code.specs.Calls.{MayCall}
use Rattle.statement_code.specs.Cells.{Cells, Within, With}
use Rattle.statement_code.specs.Flows.{decided_code, choices_code, range_code}
use Rattle.statement_code.specs.Frames.{rate, Frame, IsFrame, Inside, Failed, Runs, Kept}
use Rattle.statement_code.specs.Statements.{slot_of, exception_choices_code, bounds_code, assign_code, declaration_code, declarations_code, statement_code, statements_code, branches_code, alternatives_code, block_code, handlers_code, IsInFrame, behind, behind_all, declared_in, IsPlainDeclaration, ArePlainDeclarations, IsPlainRange, IsPlainStatement, ArePlainStatements, ArePlainBranches, ArePlainAlternatives, IsPlainBlock, ArePlainHandlers, call_code, IsPlainCall}
use Rattle.statement_code.specs.Steps.{Step}
use Rattle.statement_code.specs.Values.{single, within, Home, in_frame, in_library, address_at, IsWord, Stands, expr_code, SeesIn, Site, arguments}
use Rattle.statement_code.proofs.Assignments.{declared_does, assigned_does, first_does}
use Rattle.statement_code.proofs.Cells.{lies_set, set_more}
use Rattle.statement_code.proofs.Choices.{Looked, choices_do, catches_do}
use Rattle.statement_code.proofs.Choices as choices
use Rattle.statement_code.proofs.Flows.{step_stops, step_then, step_after, step_caught, step_uncaught, run_step, loop_does, goes_to_twice, ends_same, deeper_frame, enters, back_out, failed_out}
use Rattle.statement_code.proofs.Frames.{ticked, observed_less, observed, inside_ticked, inside_paid, inside_less, inside_fewer, worked, runs_stop, runs_are, runs_then}
use Rattle.statement_code.proofs.InputOutput.{called}
use Rattle.statement_code.proofs.Loops.{range_does}
use Rattle.statement_code.proofs.Procedures.{procedure_called}
use Rattle.statement_code.proofs.Outcomes.{decided_does, while_does}
use Rattle.statement_code.proofs.Sets.{stands_more}
use Rattle.statement_code.proofs.Operands.{fits_when, by_outcome, word_cell, word_ends, Held}
use Rattle.statement_code.proofs.Values.{value_does}

-- after the start of a statement
abbrev pub begun : ℕ → tree.Label → World → World
begun inst l w = state.with_seen (record { events = Start (record { 0 = l.number }) (record { 0 = inst }) ∷ w.seen.events; output = w.seen.output; cost = suc w.seen.cost }) w

abbrev pub code_begun : ℕ → tree.Label → kernel.World → kernel.World
code_begun inst l v = noted (Start (record { 0 = l.number }) (record { 0 = inst })) (paid 1 v)

pub frame_slot : (fp : ℕ) (h : Home) → IsInFrame h → address_at fp h ≡ slot_word fp (slot_of h)
frame_slot fp (in_frame j) is = refl
frame_slot fp (in_library n) is = absurd is

number_of : (top x : ℕ) → 1 ≤ x → x ≤ top → exception_number top (pos x) ≡ x
number_of top x low high = grind (arith, ints, nat_tests, low, high)

ends_of : (k : ℕ) {width : ℕ} (actuals : tree.Actuals) → end_of_call k actuals ≤ width → end_of_actuals k actuals ≤ width
ends_of k tree.no_actual fits = fits
ends_of k (tree.by_expression e rest) fits = fits
ends_of k (tree.by_variable o parts r rest) fits = omega (arith, fits)
ends_of k (tree.by_composite o parts rest) fits = fits

module _ (p : Program) (calls : Calls) (inst : ℕ) (K : Kernel) (kcalls : code.Calls) (fuel : ℕ) (Cell : Cells) (shape_of : tree.Object → Shape) (home_of : tree.Object → Home) (site : Site) (Bodies : Bool → ℕ → ℕ → Type 0)
    (Library : Cells) (layout_of : ℕ → ℕ) (Declares : ℕ → Type 0) (Given : ℕ → Type 0) (gives : Bool) (Back : Option ℤ → World → kernel.World → Type 0) (fp width left depth top : ℕ) (store : Store)
    (exceptions : K.exceptions ≡ top)
    (stand : (d : ℕ) → Declares d → Stands Cell (shape_of (tree.local_object d)) (local_place inst depth d) (address_at fp (home_of (tree.local_object d)))) where
  -- the activation, from a slot and a memory on
  abbrev pub at : (base : ℕ) → Memory → (spare : ℕ) → Frame
  at base memory spare =
      record { fp = fp; width = width; base = base; calls = left; depth = depth; store = store; memory = memory; spare = spare; top = top }

  -- calls may be made
  abbrev pub May : (Keep : ℕ → Type 0) → Frame → Type 0
  May Keep fr = MayCall p calls kcalls Library site Bodies Cell Keep fr

  abbrev pub codes : Code → kernel.World → Ended
  codes a v = code.does_code K kcalls fuel width fp left a v

  -- visible objects stand among the words that were set; those that were set at the start of the body still are
  pub record See (Sees : tree.Object → Type 0) (Set : ℕ → Type 0) : Type 0 where
    pub sees : SeesIn p inst shape_of home_of site Bodies Sees (Within Cell Set) fp depth
    pub given : (c : ℕ) → Given c → Set c

  -- the words of an object that was declared
  abbrev set_behind : (ℕ → Type 0) → ℕ → ℕ → Type 0
  set_behind Set d = With Set (address_at fp (home_of (tree.local_object d))) (words (shape_of (tree.local_object d)))

  abbrev all_behind : (ℕ → Type 0) → List tree.Declaration → ℕ → Type 0
  all_behind Set [] c = Set c
  all_behind Set (d ∷ ds) c = all_behind (set_behind Set (declared_in d)) ds c

  still_all : (ds : List tree.Declaration) (Set : ℕ → Type 0) (c : ℕ) → Set c → all_behind Set ds c
  still_all [] Set c set = set
  still_all (d ∷ ds) Set c set = still_all ds (set_behind Set (declared_in d)) c (inl set)

  -- an object that was declared stands among the words that were set
  declared_seen : (Sees : tree.Object → Type 0) (Set : ℕ → Type 0) (d : ℕ) → Declares d → See Sees Set
      → SeesIn p inst shape_of home_of site Bodies (behind Sees d) (Within Cell (set_behind Set d)) fp depth
  declared_seen Sees Set d declares see o (inl seen) =
      stands_more (Within Cell Set) (Within Cell (set_behind Set d)) (λ q c h. (h.0, set_more Set (set_behind Set d) (λ e set. inl set) q c h.1)) (shape_of o) (place_in p inst depth o)
      (address_at fp (home_of o)) (see.sees o seen)
  declared_seen Sees Set d declares see o (inr is) =
      subst (λ x. Stands (Within Cell (set_behind Set d)) (shape_of x) (place_in p inst depth x) (address_at fp (home_of x))) (sym is)
      (record {
        lies = lies_set Cell Set (shape_of (tree.local_object d)) (local_place inst depth d) (address_at fp (home_of (tree.local_object d))) (stand d declares).lies;
        low = (stand d declares).low;
        high = (stand d declares).high;
      })

  sees_declared : (Sees : tree.Object → Type 0) (Set : ℕ → Type 0) (d : ℕ) → Declares d → See Sees Set → See (behind Sees d) (set_behind Set d)
  sees_declared Sees Set d declares see = record { sees = declared_seen Sees Set d declares see; given = λ c g. inl (see.given c g) }

  -- how what was returned, or how, is known outside, from each set of words on
  pub record Returning (Keep : ℕ → Type 0) (fr : Frame) : Type 1 where
    pub none : gives ≡ false → (Set : ℕ → Type 0) → ((c : ℕ) → Given c → Set c) → (w : World) (v : kernel.World) → Inside Cell Keep fr Set 0 w v → Back None w v
    pub some : gives ≡ true → (Set : ℕ → Type 0) (x : ℤ) (w : World) (v : kernel.World) → FitsSigned w32 x → Inside Cell Keep fr Set 2 w v → Back (Some x) w (paid 1 (with_slot fp 0 x (paid 1 v)))

  returning_deeper : (Keep : ℕ → Type 0) (base spare n extra k : ℕ) (memory : Memory) (More : ℕ → Type 0) (u : World) (s : kernel.World) → Inside Cell Keep (at base memory spare) More k u s
      → Returning Keep (at base memory spare) → Returning (Kept Keep (at base memory spare) n) (at (base + n) s.memory (spare + extra))
  returning_deeper Keep base spare n extra k memory More u s before back = record {
    none = λ is Set given w v h. back.none is Set given w v (inside_less Cell Keep fr Set extra 0 w v (omega arith) (back_out Cell Keep fr n extra Set More k w u v s before h));
    some = λ is Set x w v fits h. back.some is Set x w v fits (record {
      depth_is = h.depth_is;
      input = h.input;
      agree = h.agree;
      words = λ a keep. h.words a (inl keep) ∙ before.words a keep;
      kept = h.kept;
      seen = observed_less (spare + extra + 2) (spare + 2) w.seen v.seen (omega arith) h.seen;
    });
  }
    where
      fr : Frame
      fr = at base memory spare

  -- the exception that `raise;` raises stands in the slot t
  abbrev pub Took : (Keep : ℕ → Type 0) → Memory → (t : ℕ) → (handling : Bool) → Option ℕ → Type 0
  Took Keep memory t false taken = Unit {0}
  Took Keep memory t true None = ⊥
  Took Keep memory t true (Some x) = Keep (slot_word fp t) × ((memory (slot_word fp t) ≡ pos x) × ((1 ≤ x) × (x ≤ top)))

  took_deeper : (Keep : ℕ → Type 0) (base spare n k t : ℕ) (memory : Memory) (More : ℕ → Type 0) (u : World) (s : kernel.World) (handling : Bool) (taken : Option ℕ)
      → Inside Cell Keep (at base memory spare) More k u s → Took Keep memory t handling taken → Took (Kept Keep (at base memory spare) n) s.memory t handling taken
  took_deeper Keep base spare n k t memory More u s false taken before took = took
  took_deeper Keep base spare n k t memory More u s true None before took = absurd took
  took_deeper Keep base spare n k t memory More u s true (Some x) before took =
      (inl took.0, (before.words (slot_word fp t) took.0 ∙ took.1.0, took.1.1))

  inside_begun : (Keep : ℕ → Type 0) (fr : Frame) (Set : ℕ → Type 0) (m : ℕ) (l : tree.Label) (w : World) (v : kernel.World) → m ≤ 9 → Inside Cell Keep fr Set 0 w v
      → Inside Cell Keep fr Set m (begun inst l w) (code_begun inst l v)
  inside_begun Keep fr Set m l w v le h = observed Cell Keep fr Set 0 m w v _ _ h
      (record { events = ap (λ es. Start (record { 0 = l.number }) (record { 0 = inst }) ∷ es) h.seen.events; output = h.seen.output; cost = omega (arith, h.seen.cost, le) })

  -- declarations
  module _ (Keep : ℕ → Type 0) (base spare : ℕ) (memory : Memory) (frame : IsFrame Cell Keep (at base memory spare))
      (may : May Keep (at base memory spare)) (small : base < width) where
    abbrev fr : Frame
    fr = at base memory spare

    abbrev In : (ℕ → Type 0) → ℕ → World → kernel.World → Type 0
    In Set l w v = Inside Cell Keep fr Set l w v

    abbrev Stop : (ℕ → Type 0) → ℕ → World → kernel.World → Type 0
    Stop Set = Failed Cell Keep fr Set

    declaration_does : (d : tree.Declaration) (Sees : tree.Object → Type 0) (Set : ℕ → Type 0) (w : World) (v : kernel.World)
        → IsPlainDeclaration p inst shape_of home_of site Bodies layout_of (content_in K.layouts) Declares top gives Sees d → end_of_declaration base d ≤ width → See Sees Set → In Set 0 w v
        → Runs {A = Unit {0}} (Stop Set) (λ u. In (set_behind Set (declared_in d)) 0) (declares p calls fuel inst d w)
        (codes (declaration_code (names_in p inst) shape_of home_of site layout_of base d) v)
    declaration_does (tree.initialized l d x) Sees Set w v plain fits see h =
        declared_does p calls inst K kcalls fuel Cell Keep fr frame shape_of home_of site Bodies Library may Sees Set see.sees (tree.local_object d) x (local_place inst w.depth d) (begun inst l w) (code_begun inst l v)
        plain.1 fits (inside_begun Keep fr Set 1 l w v (omega arith) h)
        (subst (λ e. Stands Cell (shape_of (tree.local_object d)) (local_place inst e d) (address_at fp (home_of (tree.local_object d)))) (sym h.depth_is) (stand d plain.0)) (inr h.depth_is)
    declaration_does (tree.without_value d t) Sees Set w v plain fits see h =
        rw plain.1.0
        (first_does p calls inst K kcalls fuel Cell Keep fr frame shape_of home_of site Bodies Library may Sees Set (shape_of (tree.local_object d)) (local_place inst w.depth d) (layout_of d)
        (home_of (tree.local_object d)) w v plain.1.1.0 plain.1.1.1 small
        (subst (λ e. Stands Cell (shape_of (tree.local_object d)) (local_place inst e d) (address_at fp (home_of (tree.local_object d)))) (sym h.depth_is) (stand d plain.0)) (inr h.depth_is) h)

    declarations_do : (ds : List tree.Declaration) (Sees : tree.Object → Type 0) (Set : ℕ → Type 0) (w : World) (v : kernel.World)
        → ArePlainDeclarations p inst shape_of home_of site Bodies layout_of (content_in K.layouts) Declares top gives Sees ds → end_of_declarations base ds ≤ width → See Sees Set → In Set 0 w v
        → Runs {A = Unit {0}} (Stop Set) (λ u. In (all_behind Set ds) 0) (declares_all p calls fuel inst ds w)
        (codes (declarations_code (names_in p inst) shape_of home_of site layout_of base ds) v)
    declarations_do [] Sees Set w v plain fits see h = h
    declarations_do (d ∷ ds) Sees Set w v plain fits see h =
        let first = declaration_code (names_in p inst) shape_of home_of site layout_of base d in
        let rest = declarations_code (names_in p inst) shape_of home_of site layout_of base ds in
        rw (joined_does K kcalls fuel width fp left first rest v)
        (runs_then {A = Unit {0}} {B = Unit {0}} (Stop Set) (λ u. In (set_behind Set (declared_in d)) 0) (Runs (Stop Set) (λ u. In (all_behind (set_behind Set (declared_in d)) ds) 0))
        (runs_stop (Stop Set) (λ u. In (all_behind (set_behind Set (declared_in d)) ds) 0)) (λ u. declares_all p calls fuel inst ds) (codes rest)
        (λ u x y g. runs_are {A = Unit {0}} (Stop (set_behind Set (declared_in d))) (λ u. In (all_behind (set_behind Set (declared_in d)) ds) 0)
        (Runs (Stop Set) (λ u. In (all_behind (set_behind Set (declared_in d)) ds) 0))
        (record { raises = λ e f s t same stop. (same, (stop.0, inside_fewer Cell Keep fr (set_behind Set (declared_in d)) Set 0 s t (λ c set. inl set) stop.1)); cut = λ s t seen. seen })
        (λ u s t i. i) (declares_all p calls fuel inst ds x) (codes rest y)
        (declarations_do ds (behind Sees (declared_in d)) (set_behind Set (declared_in d)) x y plain.1 (omega (arith, fits))
        (sees_declared Sees Set (declared_in d) (declares_of d Sees plain.0) see) g))
        (declares p calls fuel inst d w) (codes first v)
        (declaration_does d Sees Set w v plain.0 (omega (arith, fits)) see h))
      where
        declares_of : (e : tree.Declaration) (S : tree.Object → Type 0) → IsPlainDeclaration p inst shape_of home_of site Bodies layout_of (content_in K.layouts) Declares top gives S e → Declares (declared_in e)
        declares_of (tree.initialized l n x) S is = is.0
        declares_of (tree.without_value n t) S is = is.0

  sees_all : (ds : List tree.Declaration) (Sees : tree.Object → Type 0) (Set : ℕ → Type 0)
      → ArePlainDeclarations p inst shape_of home_of site Bodies layout_of (content_in K.layouts) Declares top gives Sees ds → See Sees Set → See (behind_all Sees ds) (all_behind Set ds)
  sees_all [] Sees Set plain see = see
  sees_all (tree.initialized l d x ∷ ds) Sees Set plain see =
      sees_all ds (behind Sees d) (set_behind Set d) plain.1 (sees_declared Sees Set d plain.0.0 see)
  sees_all (tree.without_value d t ∷ ds) Sees Set plain see =
      sees_all ds (behind Sees d) (set_behind Set d) plain.1 (sees_declared Sees Set d plain.0.0 see)

  -- less cost is left for what comes behind, and more of it
  -- slots that stay lie in the frame
  deeper_may : (Keep : ℕ → Type 0) (base spare n extra : ℕ) (memory other : Memory) → base + n ≤ width → width + arguments ≤ fp → May Keep (at base memory spare)
      → May (Kept Keep (at base memory spare) n) (at (base + n) other (spare + extra))
  deeper_may Keep base spare n extra memory other room wide may = record {
    calling = record {
      shared = may.calling.shared;
      library = may.calling.library;
      local = may.calling.local;
      above = above;
      deep = may.calling.deep;
    };
    functions = may.functions;
    procedures = may.procedures;
    full = may.full;
    width_is = may.width_is;
  }
    where
      above : (a : ℕ) → Kept Keep (at base memory spare) n a → fp ≤ a + width
      above a (inl keep) = may.calling.above a keep
      above a (inr slot) = omega (arith, slot.1.0, slot.1.1, room, wide)

  sparing_may : (Keep : ℕ → Type 0) (base spare extra : ℕ) (memory : Memory) → May Keep (at base memory spare) → May Keep (at base memory (spare + extra))
  sparing_may Keep base spare extra memory may = record {
    calling = record {
      shared = may.calling.shared;
      library = may.calling.library;
      local = may.calling.local;
      above = may.calling.above;
      deep = may.calling.deep;
    };
    functions = may.functions;
    procedures = may.procedures;
    full = may.full;
    width_is = may.width_is;
  }

  sparing_frame : (Keep : ℕ → Type 0) (base spare extra : ℕ) (memory : Memory) → IsFrame Cell Keep (at base memory spare) → IsFrame Cell Keep (at base memory (spare + extra))
  sparing_frame Keep base spare extra memory f = record {
    apart = f.apart;
    area = f.area;
    unkept = f.unkept;
    free = f.free;
    own = f.own;
    hidden = f.hidden;
    inside = f.inside;
    room = f.room;
    predefined = f.predefined;
  }

  spared : (Keep : ℕ → Type 0) (base spare extra : ℕ) (memory : Memory) (Set : ℕ → Type 0) (w : World) (v : kernel.World) → Inside Cell Keep (at base memory spare) Set extra w v
      → Inside Cell Keep (at base memory (spare + extra)) Set 0 w v
  spared Keep base spare extra memory Set w v h = record {
    depth_is = h.depth_is;
    input = h.input;
    agree = h.agree;
    words = h.words;
    kept = h.kept;
    seen = observed_less (spare + extra) (spare + extra + 0) w.seen v.seen (omega arith) h.seen;
  }

  unspared : (Keep : ℕ → Type 0) (base spare extra l : ℕ) (memory : Memory) (Set : ℕ → Type 0) (w : World) (v : kernel.World) → l ≤ extra
      → Inside Cell Keep (at base memory (spare + extra)) Set 0 w v → Inside Cell Keep (at base memory spare) Set l w v
  unspared Keep base spare extra l memory Set w v le h = record {
    depth_is = h.depth_is;
    input = h.input;
    agree = h.agree;
    words = h.words;
    kept = h.kept;
    seen = observed_less (spare + extra + 0) (spare + l) w.seen v.seen (omega (arith, le)) h.seen;
  }

  -- what an activation is entered with for code that works from a slot on
  pub record Ready (Keep : ℕ → Type 0) (base spare : ℕ) (memory : Memory) (t : ℕ) (handling : Bool) (taken : Option ℕ) : Type 1 where
    pub frame : IsFrame Cell Keep (at base memory spare)
    pub may : May Keep (at base memory spare)
    pub back : Returning Keep (at base memory spare)
    pub took : Took Keep memory t handling taken

  ready_deeper : (Keep : ℕ → Type 0) (base spare n extra k t : ℕ) (memory : Memory) (More : ℕ → Type 0) (u : World) (s : kernel.World) (handling : Bool) (taken : Option ℕ)
      → base + n ≤ width → Inside Cell Keep (at base memory spare) More k u s → Ready Keep base spare memory t handling taken
      → Ready (Kept Keep (at base memory spare) n) (base + n) (spare + extra) s.memory t handling taken
  ready_deeper Keep base spare n extra k t memory More u s handling taken room before ready = record {
    frame = deeper_frame Cell Keep (at base memory spare) n extra ready.frame room s;
    may = deeper_may Keep base spare n extra memory s.memory room ready.frame.room ready.may;
    back = returning_deeper Keep base spare n extra k memory More u s before ready.back;
    took = took_deeper Keep base spare n k t memory More u s handling taken before ready.took;
  }

  -- a result is checked, and returned in the first slot
  returned : gives ≡ true → (looping : Bool) (Keep : ℕ → Type 0) (base spare : ℕ) (memory : Memory) (Set : ℕ → Type 0) → IsFrame Cell Keep (at base memory spare) → Returning Keep (at base memory spare)
      → (b : Bounds) (x : ℤ) (w : World) (v : kernel.World) → slot_in fp base v ≡ x → FitsSigned w32 x → Inside Cell Keep (at base memory spare) Set 3 w v
      → Step Back looping (Failed Cell Keep (at base memory spare) Set) (Inside Cell Keep (at base memory spare) Set 0) (goes_to (check b x w) (λ u. give (returns (Some x))))
      (codes (and_op (simple (within base b)) (and_op (simple (op.Move 0 base)) (single kernel_tree.returns))) v)
  returned is looping Keep base spare memory Set frame back b x w v value fits h = rw value (by_test (is_within b x))
    where
      fr : Frame
      fr = at base memory spare

      by_test : (t : Bool) → Step Back looping (Failed Cell Keep fr Set) (Inside Cell Keep fr Set 0) (goes_to ((if t then done else raise 1) w) (λ u. give (returns (Some x))))
          (kernel.goes_on (if_valid t (λ u. u) v) (codes (and_op (simple (op.Move 0 base)) (single kernel_tree.returns))))
      by_test true = rw value (back.some is Set x w (paid 1 v) fits (inside_paid Cell Keep fr Set 1 2 w v (inside_less Cell Keep fr Set 3 (2 + 1) w v (omega arith) h)))
      by_test false = (
        refl,
        (
          (omega arith, omega (arith, frame.predefined)),
          inside_paid Cell Keep fr Set 1 0 w v (inside_less Cell Keep fr Set 3 (0 + 1) w v (omega arith) h),
        ),
      )

  -- the bounds of a loop stand in two slots
  record Bounded (Keep : ℕ → Type 0) (fr : Frame) (Set : ℕ → Type 0) (b : Bounds) (w : World) (v : kernel.World) : Type 0 where
    pub inside : Inside Cell Keep fr Set 5 w v
    pub first : slot_in fp fr.base v ≡ b.low
    pub second : slot_in fp (fr.base + 1) v ≡ b.high
    pub low : FitsSigned w32 b.low
    pub high : FitsSigned w32 b.high

  bounds_do : (ts : tree.LoopRange) (Keep : ℕ → Type 0) (base spare : ℕ) (memory : Memory) (Set : ℕ → Type 0) (Sees : tree.Object → Type 0) (w : World) (v : kernel.World)
      → IsFrame Cell Keep (at base memory spare) → May Keep (at base memory spare) → See Sees Set → IsPlainRange p inst shape_of home_of site Bodies layout_of (content_in K.layouts) Declares top gives Sees ts → end_of_range base ts ≤ width
      → Inside Cell Keep (at base memory spare) Set 7 w v
      → Runs (Failed Cell Keep (at base memory spare) Set) (Bounded Keep (at base memory spare) Set) (turns_of p calls fuel inst ts w)
      (codes (bounds_code (names_in p inst) shape_of home_of site base ts) v)
  bounds_do (tree.over_subtype r) Keep base spare memory Set Sees w v frame may see plain fits h = record {
    inside = worked Cell Keep fr frame Set 5 (base + 1) (bounds_in p inst r).high w (paid 1 v1) (omega arith) (omega (arith, fits)) (inside_paid Cell Keep fr Set 1 5 w v1
        (worked Cell Keep fr frame Set (5 + 1) base (bounds_in p inst r).low w (paid 1 v) (omega arith) (omega (arith, fits)) (inside_paid Cell Keep fr Set 1 (5 + 1) w v
        (inside_less Cell Keep fr Set 7 (5 + 1 + 1) w v (omega arith) h))));
    first = with_slot_other fp (base + 1) base (bounds_in p inst r).high (paid 1 v1) (omega (arith, fits, frame.room)) (omega (arith, fits, frame.room)) (λ e. omega (arith, e))
        ∙ with_slot_at fp base (bounds_in p inst r).low (paid 1 v);
    second = with_slot_at fp (base + 1) (bounds_in p inst r).high (paid 1 v1);
    low = fits_when (bounds_in p inst r).low plain.0;
    high = fits_when (bounds_in p inst r).high plain.1;
  }
    where
      fr : Frame
      fr = at base memory spare

      v1 : kernel.World
      v1 = with_slot fp base (bounds_in p inst r).low (paid 1 v)
  bounds_do (tree.over_bounds e f) Keep base spare memory Set Sees w v frame may see plain fits h =
      let fr = at base memory spare in
      let first = expr_code (names_in p inst) shape_of home_of site base e in
      let second = expr_code (names_in p inst) shape_of home_of site (base + 1) f in
      rw (joined_does K kcalls fuel width fp left first second v)
      (runs_then (Failed Cell Keep fr Set) (Held p calls inst K kcalls fuel Cell Keep fr frame Set shape_of home_of site Bodies Library may Sees see.sees (5 + 2) base v)
      (Runs (Failed Cell Keep fr Set) (Bounded Keep fr Set)) (runs_stop (Failed Cell Keep fr Set) (Bounded Keep fr Set))
      (λ x. value p calls inst f >>= λ y. give (record { low = x; high = y })) (codes second)
      (λ x u m g. subst (Runs (Failed Cell Keep fr Set) (Bounded Keep fr Set) (goes_to (value p calls inst f u) (λ y. give (record { low = x; high = y })))) (ends_same (codes second m))
      (runs_then (Failed Cell Keep fr Set) (Held p calls inst K kcalls fuel Cell Keep fr frame Set shape_of home_of site Bodies Library may Sees see.sees (5 + 2) (base + 1) m)
      (Runs (Failed Cell Keep fr Set) (Bounded Keep fr Set)) (runs_stop (Failed Cell Keep fr Set) (Bounded Keep fr Set))
      (λ y. give (record { low = x; high = y })) Ends
      (λ y s n i. record {
        inside = inside_less Cell Keep fr Set (5 + 2) 5 s n (omega arith) i.inside;
        first = i.below base (omega arith) ∙ g.slot;
        second = i.slot;
        low = g.word;
        high = i.word;
      })
      (value p calls inst f u) (codes second m)
      (value_does p calls inst K kcalls fuel Cell Keep fr frame Set shape_of home_of site Bodies Library may Sees see.sees f 5 (base + 1) u m plain.1 (omega arith) (omega (arith, fits))
      (inside_less Cell Keep fr Set (5 + 2) 5 u m (omega arith) g.inside))))
      (value p calls inst e w) (codes first v)
      (value_does p calls inst K kcalls fuel Cell Keep fr frame Set shape_of home_of site Bodies Library may Sees see.sees e 5 base w v plain.0 (omega arith) (omega (arith, fits))
      (inside_less Cell Keep fr Set 7 5 w v (omega arith) h)))

  -- a loop over a range, by what its body does
  for_does : (looping : Bool) (d : ℕ) (reversed : Bool) (ts : tree.LoopRange) (body : Action Flow) (a : Code) (Keep : ℕ → Type 0) (base spare : ℕ) (memory : Memory) (Set : ℕ → Type 0)
      (Sees : tree.Object → Type 0) (w : World) (v : kernel.World) → IsFrame Cell Keep (at base memory spare) → May Keep (at base memory spare) → See Sees Set → Declares d → IsWord (shape_of (tree.local_object d))
      → IsInFrame (home_of (tree.local_object d)) → IsPlainRange p inst shape_of home_of site Bodies layout_of (content_in K.layouts) Declares top gives Sees ts → end_of_range base ts ≤ width → base + 2 < width
      → Inside Cell Keep (at base memory spare) Set 7 w v
      → ((s : kernel.World) (u : World) → Inside Cell Keep (at base memory spare) (set_behind Set d) 3 u s
      → Step Back true (Failed Cell (Kept Keep (at base memory spare) 2) (at (base + 2) s.memory (spare + 3)) (set_behind Set d))
      (Inside Cell (Kept Keep (at base memory spare) 2) (at (base + 2) s.memory (spare + 3)) (set_behind Set d) 0) (body u) (codes a s))
      → Step Back looping (Failed Cell Keep (at base memory spare) Set) (Inside Cell Keep (at base memory spare) Set 0)
      (goes_to (turns_of p calls fuel inst ts w) (λ b u. counted_between reversed b (local_place inst u.depth d) body u))
      (codes (joined (bounds_code (names_in p inst) shape_of home_of site base ts) (range_code base (base + 2) (slot_of (home_of (tree.local_object d))) reversed a)) v)
  for_does looping d reversed ts body a Keep base spare memory Set Sees w v frame may see declared is_word at_slot plain fits room h each =
      let fr = at base memory spare in
      let turns_code = range_code base (base + 2) (slot_of (home_of (tree.local_object d))) reversed a in
      rw (joined_does K kcalls fuel width fp left (bounds_code (names_in p inst) shape_of home_of site base ts) turns_code v)
      (runs_then (Failed Cell Keep fr Set) (Bounded Keep fr Set) (Step Back looping (Failed Cell Keep fr Set) (Inside Cell Keep fr Set 0))
      (step_stops Back looping (Failed Cell Keep fr Set) (Inside Cell Keep fr Set 0)) (λ b u. counted_between reversed b (local_place inst u.depth d) body u) (codes turns_code)
      (λ b u m g. range_does K kcalls fuel Cell Keep fr frame Set Back looping room (local_place inst u.depth d) (slot_of (home_of (tree.local_object d)))
      (cell u g.inside.depth_is) body a reversed b
      (subst (λ N. (s : kernel.World) (x : World) → Inside Cell Keep fr N 3 x s
      → Step Back true (Failed Cell (Kept Keep fr 2) (at (base + 2) s.memory (spare + 3)) N) (Inside Cell (Kept Keep fr 2) (at (base + 2) s.memory (spare + 3)) N 0) (body x) (codes a s)) now each)
      u m g.low g.high g.inside g.first g.second)
      (turns_of p calls fuel inst ts w) (codes (bounds_code (names_in p inst) shape_of home_of site base ts) v)
      (bounds_do ts Keep base spare memory Set Sees w v frame may see plain fits h))
    where
      now : set_behind Set d ≡ With Set (slot_word fp (slot_of (home_of (tree.local_object d)))) 1
      now = λ t. With Set (frame_slot fp (home_of (tree.local_object d)) at_slot t) (word_ends (shape_of (tree.local_object d)) is_word t)

      cell : (u : World) → u.depth ≡ depth → Cell (local_place inst u.depth d) (slot_word fp (slot_of (home_of (tree.local_object d))))
      cell u is =
          subst (λ e. Cell (local_place inst e d) (slot_word fp (slot_of (home_of (tree.local_object d))))) (sym is)
          (subst (Cell (local_place inst depth d)) (frame_slot fp (home_of (tree.local_object d)) at_slot)
          (word_cell Cell (shape_of (tree.local_object d)) (local_place inst depth d) (address_at fp (home_of (tree.local_object d))) is_word (stand d declared).lies))

  -- whether there is cost left for what handlers do
  abbrev Enough : tree.Handlers → ℕ → Type 0
  Enough tree.no_handler l = 1 ≤ l
  Enough (tree.handler cs ss hs) l = Unit {0}

  enough_for : (hs : tree.Handlers) → Enough hs 2
  enough_for tree.no_handler = omega arith
  enough_for (tree.handler cs ss hs) = record {}

  first_slot : (base : ℕ) → slot_word fp base ≡ slot_word fp (base + 0)
  first_slot base = omega arith

  range_room : (base : ℕ) (ts : tree.LoopRange) → end_of_range base ts ≤ width → base + 2 < width
  range_room base (tree.over_subtype r) fits = omega (arith, fits)
  range_room base (tree.over_bounds e f) fits = omega (arith, fits)

  room_for : (base : ℕ) (ts : tree.LoopRange) → end_of_range base ts ≤ width → base + 2 ≤ width
  room_for base ts fits = omega (arith, range_room base ts fits)

  -- a handler's statements begin, where the exception's number stays
  enters_paid : (Keep : ℕ → Type 0) (base spare : ℕ) (memory : Memory) (Set : ℕ → Type 0) (w : World) (v : kernel.World) → Inside Cell Keep (at base memory spare) Set 1 w v
      → Inside Cell (Kept Keep (at base memory spare) 1) (at (base + 1) v.memory (spare + 0)) Set 0 w (paid 1 v)
  enters_paid Keep base spare memory Set w v h =
      enters Cell Keep (at base memory spare) 1 0 Set w (paid 1 v) (inside_paid Cell Keep (at base memory spare) Set 1 0 w v (inside_less Cell Keep (at base memory spare) Set 1 (0 + 1) w v (omega arith) h))

  -- a call statement, by what is called
  target_does : (o : Target) (actuals : tree.Actuals) (Keep : ℕ → Type 0) (base spare : ℕ) (memory : Memory) (Set : ℕ → Type 0) (Sees : tree.Object → Type 0) (t : ℕ) (looping handling : Bool)
      (taken : Option ℕ) (w : World) (v : kernel.World) → Ready Keep base spare memory t handling taken → See Sees Set
      → IsPlainCall p inst shape_of home_of site Bodies layout_of (content_in K.layouts) Declares top gives Sees o actuals → end_of_call base actuals ≤ width
      → Inside Cell Keep (at base memory spare) Set 7 w v
      → Step Back looping (Failed Cell Keep (at base memory spare) Set) (Inside Cell Keep (at base memory spare) Set 0)
      (goes_to (given p calls inst actuals (parameters_of p o) w) (λ arguments. performed calls o arguments >>= λ r. give goes_on))
      (codes (call_code (names_in p inst) shape_of home_of site base o actuals) v)
  target_does get_target actuals Keep base spare memory Set Sees t looping handling taken w v ready see plain fits h =
      called p calls inst K kcalls fuel Cell Keep (at base memory spare) ready.frame shape_of home_of site Bodies Library ready.may Sees Set see.sees layout_of (content_in K.layouts) Declares top gives Back looping
      get_target actuals w v plain (record {}) fits h
  target_does put_target actuals Keep base spare memory Set Sees t looping handling taken w v ready see plain fits h =
      called p calls inst K kcalls fuel Cell Keep (at base memory spare) ready.frame shape_of home_of site Bodies Library ready.may Sees Set see.sees layout_of (content_in K.layouts) Declares top gives Back looping
      put_target actuals w v plain (record {}) fits h
  target_does (body_target j m) actuals Keep base spare memory Set Sees t looping handling taken w v ready see plain fits h =
      procedure_called p calls inst K kcalls fuel Cell Keep (at base memory spare) ready.frame Set shape_of home_of site Bodies Library ready.may Sees see.sees Back looping j m plain.0 actuals plain.1.0 plain.1.1
      (ends_of base actuals fits) w v (inside_less Cell Keep (at base memory spare) Set 7 2 w v (omega arith) h)

  mutual
    statement_does : (s : tree.Stmt) (Keep : ℕ → Type 0) (base spare : ℕ) (memory : Memory) (Set : ℕ → Type 0) (Sees : tree.Object → Type 0) (t : ℕ) (looping handling : Bool) (taken : Option ℕ)
        (w : World) (v : kernel.World) → Ready Keep base spare memory t handling taken → See Sees Set
        → IsPlainStatement p inst shape_of home_of site Bodies layout_of (content_in K.layouts) Declares top gives Sees looping handling s → base < width → end_of_statement base s ≤ width
        → Inside Cell Keep (at base memory spare) Set 0 w v
        → Step Back looping (Failed Cell Keep (at base memory spare) Set) (Inside Cell Keep (at base memory spare) Set 0) (does p calls fuel inst s taken w)
        (codes (statement_code (names_in p inst) shape_of home_of site layout_of base t s) v)
    statement_does (tree.null_statement l) Keep base spare memory Set Sees t looping handling taken w v ready see plain small fits h =
        inside_begun Keep (at base memory spare) Set 0 l w v (omega arith) h
    statement_does (tree.assignment l o parts x) Keep base spare memory Set Sees t looping handling taken w v ready see plain small fits h =
        let fr = at base memory spare in
        rw (sym (goes_to_twice (named p calls inst o parts (begun inst l w)) (λ q. sets p calls fuel inst x q) (λ u. give goes_on)))
        (run_step Back looping {A = Unit {0}} (Failed Cell Keep fr Set) (λ u. Inside Cell Keep fr Set 0) (Inside Cell Keep fr Set 0) (λ u y m g. g) (λ u. give goes_on) (λ u y. refl)
        (goes_to (named p calls inst o parts (begun inst l w)) (λ q. sets p calls fuel inst x q)) (codes (assign_code (names_in p inst) shape_of home_of site base o parts x) (code_begun inst l v))
        (assigned_does p calls inst K kcalls fuel Cell Keep fr ready.frame shape_of home_of site Bodies Library ready.may Sees Set see.sees o parts x (begun inst l w) (code_begun inst l v) plain.0 plain.1.0 plain.1.1 fits
        (inside_begun Keep fr Set 1 l w v (omega arith) h)))
    statement_does (tree.procedure_call l c actuals) Keep base spare memory Set Sees t looping handling taken w v ready see plain small fits h =
        target_does (target_in p inst c) actuals Keep base spare memory Set Sees t looping handling taken (begun inst l w) (code_begun inst l v) ready see plain fits
        (inside_begun Keep (at base memory spare) Set 7 l w v (omega arith) h)
    statement_does (tree.if_statement l bs) Keep base spare memory Set Sees t looping handling taken w v ready see plain small fits h =
        branches_do bs Keep base spare memory Set Sees t looping handling taken (begun inst l w) (code_begun inst l v) ready see plain small fits
        (inside_begun Keep (at base memory spare) Set 0 l w v (omega arith) h)
    statement_does (tree.case_statement l e cases) Keep base spare memory Set Sees t looping handling taken w v ready see plain small fits h =
        let fr = at base memory spare in
        let selector = expr_code (names_in p inst) shape_of home_of site base e in
        let alternatives = alternatives_code (names_in p inst) shape_of home_of site layout_of base t cases in
        rw (joined_does K kcalls fuel width fp left selector alternatives (code_begun inst l v))
        (runs_then (Failed Cell Keep fr Set) (Held p calls inst K kcalls fuel Cell Keep fr ready.frame Set shape_of home_of site Bodies Library ready.may Sees see.sees (0 + 2) base (code_begun inst l v))
        (Step Back looping (Failed Cell Keep fr Set) (Inside Cell Keep fr Set 0)) (step_stops Back looping (Failed Cell Keep fr Set) (Inside Cell Keep fr Set 0))
        (λ x. does_alternative p calls fuel inst cases x taken) (codes alternatives)
        (λ x u m g. alternatives_do cases Keep base spare memory Set Sees t looping handling taken x u m ready see plain.1 (omega (arith, fits)) (omega (arith, fits))
        (inside_less Cell Keep fr Set (0 + 2) 1 u m (omega arith) g.inside) g.slot)
        (value p calls inst e (begun inst l w)) (codes selector (code_begun inst l v))
        (value_does p calls inst K kcalls fuel Cell Keep fr ready.frame Set shape_of home_of site Bodies Library ready.may Sees see.sees e 0 base (begun inst l w) (code_begun inst l v) plain.0 (omega arith) (omega (arith, fits))
        (inside_begun Keep fr Set 0 l w v (omega arith) h)))
    statement_does (tree.bare_loop l ss) Keep base spare memory Set Sees t looping handling taken w v ready see plain small fits h =
        let body = statements_code (names_in p inst) shape_of home_of site layout_of base t ss in
        rw (single_does K kcalls fuel width fp left (forever body) (code_begun inst l v))
        (loop_does Back Cell Keep (at base memory spare) Set looping (does_all p calls fuel inst ss taken) (codes body)
        (λ x y g. statements_do ss Keep base spare memory Set Sees t true handling taken x y ready see plain small fits g) fuel (begun inst l w) (code_begun inst l v)
        (inside_begun Keep (at base memory spare) Set 0 l w v (omega arith) h))
    statement_does (tree.while_loop l d u ss) Keep base spare memory Set Sees t looping handling taken w v ready see plain small fits h =
        let body = statements_code (names_in p inst) shape_of home_of site layout_of base t ss in
        rw (single_does K kcalls fuel width fp left (forever (decided_code (names_in p inst) shape_of home_of site base d u body (single exit))) (code_begun inst l v))
        (while_does p calls inst K kcalls fuel Cell Keep (at base memory spare) ready.frame Set shape_of home_of site Bodies Library ready.may Sees see.sees Back looping d u base plain.0 (omega arith) small (omega (arith, fits))
        (does_all p calls fuel inst ss taken) body
        (λ x y g. statements_do ss Keep base spare memory Set Sees t true handling taken x y ready see plain.1 small (omega (arith, fits)) g) fuel (begun inst l w) (code_begun inst l v)
        (inside_begun Keep (at base memory spare) Set 0 l w v (omega arith) h))
    statement_does (tree.for_loop l d reversed ts ss) Keep base spare memory Set Sees t looping handling taken w v ready see plain small fits h =
        let fr = at base memory spare in
        let body = statements_code (names_in p inst) shape_of home_of site layout_of (base + 2) t ss in
        for_does looping d reversed ts (does_all p calls fuel inst ss taken) body Keep base spare memory Set Sees (begun inst l w) (code_begun inst l v) ready.frame ready.may see plain.0 plain.1.0 plain.1.1.0
        plain.1.1.1.0 (omega (arith, fits)) (range_room base ts (omega (arith, fits))) (inside_begun Keep fr Set 7 l w v (omega arith) h)
        (λ s u g. statements_do ss (Kept Keep fr 2) (base + 2) (spare + 3) s.memory (set_behind Set d) (behind Sees d) t true handling taken u s
        (ready_deeper Keep base spare 2 3 3 t memory (set_behind Set d) u s handling taken (room_for base ts (omega (arith, fits))) g ready) (sees_declared Sees Set d plain.0 see) plain.1.1.1.1
        (range_room base ts (omega (arith, fits))) (omega (arith, fits)) (enters Cell Keep fr 2 3 (set_behind Set d) u s g))
    statement_does (tree.exit_statement l) Keep base spare memory Set Sees t looping handling taken w v ready see plain small fits h =
        (plain, inside_paid Cell Keep (at base memory spare) Set 1 0 (begun inst l w) (code_begun inst l v) (inside_begun Keep (at base memory spare) Set (0 + 1) l w v (omega arith) h))
    statement_does (tree.exit_when l d u) Keep base spare memory Set Sees t looping handling taken w v ready see plain small fits h =
        let fr = at base memory spare in
        decided_does p calls inst K kcalls fuel Cell Keep fr ready.frame Set shape_of home_of site Bodies Library ready.may Sees see.sees (Step Back looping (Failed Cell Keep fr Set) (Inside Cell Keep fr Set 0))
        (step_stops Back looping (Failed Cell Keep fr Set) (Inside Cell Keep fr Set 0)) d u (single exit) no_op base 2 plain.1 (omega arith) small fits
        (λ b. if b then give leaves else give goes_on)
        (λ y m i. (plain.0, inside_paid Cell Keep fr Set 1 0 y m (inside_less Cell Keep fr Set (2 + 1) (0 + 1) y m (omega arith) i)))
        (λ y m i. inside_less Cell Keep fr Set (2 + 1) 0 y m (omega arith) i)
        (begun inst l w) (code_begun inst l v) (inside_begun Keep fr Set 2 l w v (omega arith) h)
    statement_does (tree.return_statement l) Keep base spare memory Set Sees t looping handling taken w v ready see plain small fits h =
        ready.back.none plain Set see.given (begun inst l w) (paid 1 (code_begun inst l v))
        (inside_paid Cell Keep (at base memory spare) Set 1 0 (begun inst l w) (code_begun inst l v) (inside_begun Keep (at base memory spare) Set (0 + 1) l w v (omega arith) h))
    statement_does (tree.return_value l r e) Keep base spare memory Set Sees t looping handling taken w v ready see plain small fits h =
        let fr = at base memory spare in
        let result = expr_code (names_in p inst) shape_of home_of site base e in
        let leaving = and_op (simple (within base (bounds_in p inst r))) (and_op (simple (op.Move 0 base)) (single kernel_tree.returns)) in
        rw (joined_does K kcalls fuel width fp left result leaving (code_begun inst l v))
        (runs_then (Failed Cell Keep fr Set) (Held p calls inst K kcalls fuel Cell Keep fr ready.frame Set shape_of home_of site Bodies Library ready.may Sees see.sees (3 + 2) base (code_begun inst l v))
        (Step Back looping (Failed Cell Keep fr Set) (Inside Cell Keep fr Set 0)) (step_stops Back looping (Failed Cell Keep fr Set) (Inside Cell Keep fr Set 0))
        (λ x. check (bounds_in p inst r) x >> give (returns (Some x))) (codes leaving)
        (λ x u m g. returned plain.0 looping Keep base spare memory Set ready.frame ready.back (bounds_in p inst r) x u m g.slot g.word (inside_less Cell Keep fr Set (3 + 2) 3 u m (omega arith) g.inside))
        (value p calls inst e (begun inst l w)) (codes result (code_begun inst l v))
        (value_does p calls inst K kcalls fuel Cell Keep fr ready.frame Set shape_of home_of site Bodies Library ready.may Sees see.sees e 3 base (begun inst l w) (code_begun inst l v) plain.1 (omega arith) fits
        (inside_begun Keep fr Set 3 l w v (omega arith) h)))
    statement_does (tree.raise_statement l x) Keep base spare memory Set Sees t looping handling taken w v ready see plain small fits h =
        (refl, (plain, inside_paid Cell Keep (at base memory spare) Set 1 0 (begun inst l w) (code_begun inst l v) (inside_begun Keep (at base memory spare) Set (0 + 1) l w v (omega arith) h)))
    statement_does (tree.raise_again l) Keep base spare memory Set Sees t looping true (Some x) w v ready see plain small fits h =
        let took = ready.took in
        rw (h.words (slot_word fp t) took.0 ∙ took.1.0, exceptions, number_of top x took.1.1.0 took.1.1.1)
        (refl, (took.1.1, inside_paid Cell Keep (at base memory spare) Set 1 0 (begun inst l w) (code_begun inst l v) (inside_begun Keep (at base memory spare) Set (0 + 1) l w v (omega arith) h)))
    statement_does (tree.raise_again l) Keep base spare memory Set Sees t looping true None w v ready see plain small fits h = absurd ready.took
    statement_does (tree.raise_again l) Keep base spare memory Set Sees t looping false taken w v ready see plain small fits h = absurd (false≢true plain)
    statement_does (tree.block_statement b) Keep base spare memory Set Sees t looping handling taken w v ready see plain small fits h =
        block_does b Keep base spare memory Set Sees t looping handling taken (ticked w) v ready see plain small fits
        (inside_less Cell Keep (at base memory spare) Set (0 + rate) 1 (ticked w) v (omega arith) (inside_ticked Cell Keep (at base memory spare) Set 0 w v h))

    statements_do : (ss : tree.Stmts) (Keep : ℕ → Type 0) (base spare : ℕ) (memory : Memory) (Set : ℕ → Type 0) (Sees : tree.Object → Type 0) (t : ℕ) (looping handling : Bool) (taken : Option ℕ)
        (w : World) (v : kernel.World) → Ready Keep base spare memory t handling taken → See Sees Set
        → ArePlainStatements p inst shape_of home_of site Bodies layout_of (content_in K.layouts) Declares top gives Sees looping handling ss → base < width → end_of_statements base ss ≤ width
        → Inside Cell Keep (at base memory spare) Set 0 w v
        → Step Back looping (Failed Cell Keep (at base memory spare) Set) (Inside Cell Keep (at base memory spare) Set 0) (does_all p calls fuel inst ss taken w)
        (codes (statements_code (names_in p inst) shape_of home_of site layout_of base t ss) v)
    statements_do tree.no_statement Keep base spare memory Set Sees t looping handling taken w v ready see plain small fits h = h
    statements_do (tree.and_statement s ss) Keep base spare memory Set Sees t looping handling taken w v ready see plain small fits h =
        let fr = at base memory spare in
        let first = statement_code (names_in p inst) shape_of home_of site layout_of base t s in
        let rest = statements_code (names_in p inst) shape_of home_of site layout_of base t ss in
        rw (joined_does K kcalls fuel width fp left first rest v)
        (step_then Back looping (Failed Cell Keep fr Set) (Inside Cell Keep fr Set 0) (does_all p calls fuel inst ss taken) (codes rest)
        (λ x y g. statements_do ss Keep base spare memory Set Sees t looping handling taken x y ready see plain.1 small (omega (arith, fits)) g)
        (does p calls fuel inst s taken w) (codes first v)
        (statement_does s Keep base spare memory Set Sees t looping handling taken w v ready see plain.0 small (omega (arith, fits)) h))

    branches_do : (bs : tree.Branches) (Keep : ℕ → Type 0) (base spare : ℕ) (memory : Memory) (Set : ℕ → Type 0) (Sees : tree.Object → Type 0) (t : ℕ) (looping handling : Bool) (taken : Option ℕ)
        (w : World) (v : kernel.World) → Ready Keep base spare memory t handling taken → See Sees Set
        → ArePlainBranches p inst shape_of home_of site Bodies layout_of (content_in K.layouts) Declares top gives Sees looping handling bs → base < width → end_of_branches base bs ≤ width
        → Inside Cell Keep (at base memory spare) Set 0 w v
        → Step Back looping (Failed Cell Keep (at base memory spare) Set) (Inside Cell Keep (at base memory spare) Set 0) (does_branch p calls fuel inst bs taken w)
        (codes (branches_code (names_in p inst) shape_of home_of site layout_of base t bs) v)
    branches_do (tree.else_part ss) Keep base spare memory Set Sees t looping handling taken w v ready see plain small fits h =
        statements_do ss Keep base spare memory Set Sees t looping handling taken w v ready see plain small fits h
    branches_do (tree.branch d u ss bs) Keep base spare memory Set Sees t looping handling taken w v ready see plain small fits h =
        let fr = at base memory spare in
        decided_does p calls inst K kcalls fuel Cell Keep fr ready.frame Set shape_of home_of site Bodies Library ready.may Sees see.sees (Step Back looping (Failed Cell Keep fr Set) (Inside Cell Keep fr Set 0))
        (step_stops Back looping (Failed Cell Keep fr Set) (Inside Cell Keep fr Set 0)) d u
        (statements_code (names_in p inst) shape_of home_of site layout_of base t ss) (branches_code (names_in p inst) shape_of home_of site layout_of base t bs) base 0 plain.0 (omega arith) small (omega (arith, fits))
        (λ b. if b then does_all p calls fuel inst ss taken else does_branch p calls fuel inst bs taken)
        (λ y m i. statements_do ss Keep base spare memory Set Sees t looping handling taken y m ready see plain.1.0 small (omega (arith, fits)) (inside_less Cell Keep fr Set (0 + 1) 0 y m (omega arith) i))
        (λ y m i. branches_do bs Keep base spare memory Set Sees t looping handling taken y m ready see plain.1.1 small (omega (arith, fits)) (inside_less Cell Keep fr Set (0 + 1) 0 y m (omega arith) i))
        w v h

    alternatives_do : (cases : tree.Alternatives) (Keep : ℕ → Type 0) (base spare : ℕ) (memory : Memory) (Set : ℕ → Type 0) (Sees : tree.Object → Type 0) (t : ℕ) (looping handling : Bool)
        (taken : Option ℕ) (x : ℤ) (w : World) (v : kernel.World) → Ready Keep base spare memory t handling taken → See Sees Set
        → ArePlainAlternatives p inst shape_of home_of site Bodies layout_of (content_in K.layouts) Declares top gives Sees looping handling cases → base + 2 < width → end_of_alternatives base cases ≤ width
        → Inside Cell Keep (at base memory spare) Set 1 w v → slot_in fp base v ≡ x
        → Step Back looping (Failed Cell Keep (at base memory spare) Set) (Inside Cell Keep (at base memory spare) Set 0) (does_alternative p calls fuel inst cases x taken w)
        (codes (alternatives_code (names_in p inst) shape_of home_of site layout_of base t cases) v)
    alternatives_do tree.no_alternative Keep base spare memory Set Sees t looping handling taken x w v ready see plain small fits h value =
        (refl, ((omega arith, omega (arith, ready.frame.predefined)), inside_paid Cell Keep (at base memory spare) Set 1 0 w v (inside_less Cell Keep (at base memory spare) Set 1 (0 + 1) w v (omega arith) h)))
    alternatives_do (tree.alternative [] ss rest) Keep base spare memory Set Sees t looping handling taken x w v ready see plain small fits h value = absurd plain.0
    alternatives_do (tree.alternative (c ∷ cs) ss rest) Keep base spare memory Set Sees t looping handling taken x w v ready see plain small fits h value =
        let fr = at base memory spare in
        let looking = choices_code (names_in p inst) shape_of home_of site base (c ∷ cs) in
        let stated = statements_code (names_in p inst) shape_of home_of site layout_of base t ss in
        let others = alternatives_code (names_in p inst) shape_of home_of site layout_of base t rest in
        rw (joined_does K kcalls fuel width fp left looking (single (choose (base + 1) stated others)) v)
        (runs_then (Failed Cell Keep fr Set) (Looked p calls inst K kcalls fuel Cell Keep fr ready.frame Set shape_of home_of site Bodies Library ready.may small (0 + 3) x)
        (Step Back looping (Failed Cell Keep fr Set) (Inside Cell Keep fr Set 0)) (step_stops Back looping (Failed Cell Keep fr Set) (Inside Cell Keep fr Set 0))
        (λ b. if b then does_all p calls fuel inst ss taken else does_alternative p calls fuel inst rest x taken) (codes (single (choose (base + 1) stated others)))
        (λ b u m g. subst (Step Back looping (Failed Cell Keep fr Set) (Inside Cell Keep fr Set 0) ((if b then does_all p calls fuel inst ss taken else does_alternative p calls fuel inst rest x taken) u))
        (sym (choices.chosen_is p calls inst K kcalls fuel Cell Keep fr ready.frame Set shape_of home_of site Bodies Library ready.may small stated others m b g.found))
        (by_outcome (λ o. Step Back looping (Failed Cell Keep fr Set) (Inside Cell Keep fr Set 0) ((if o then does_all p calls fuel inst ss taken else does_alternative p calls fuel inst rest x taken) u)
        (if o then codes stated (paid 1 m) else codes others (paid 1 m)))
        (statements_do ss Keep base spare memory Set Sees t looping handling taken u (paid 1 m) ready see plain.1.0 (omega (arith, small)) (omega (arith, fits))
        (inside_paid Cell Keep fr Set 1 0 u m (inside_less Cell Keep fr Set (0 + 3) (0 + 1) u m (omega arith) g.inside)))
        (alternatives_do rest Keep base spare memory Set Sees t looping handling taken x u (paid 1 m) ready see plain.1.1 small (omega (arith, fits))
        (inside_paid Cell Keep fr Set 1 1 u m (inside_less Cell Keep fr Set (0 + 3) (1 + 1) u m (omega arith) g.inside)) g.value) b))
        (chooses p calls fuel inst (c ∷ cs) x w) (codes looking v)
        (choices_do p calls inst K kcalls fuel Cell Keep fr ready.frame Set shape_of home_of site Bodies Library ready.may small c cs 0 x w v (inside_less Cell Keep fr Set 1 0 w v (omega arith) h) value))

    pub block_does : (b : tree.Block) (Keep : ℕ → Type 0) (base spare : ℕ) (memory : Memory) (Set : ℕ → Type 0) (Sees : tree.Object → Type 0) (t : ℕ) (looping handling : Bool) (taken : Option ℕ)
        (w : World) (v : kernel.World) → Ready Keep base spare memory t handling taken → See Sees Set
        → IsPlainBlock p inst shape_of home_of site Bodies layout_of (content_in K.layouts) Declares top gives Sees looping handling b → base < width → end_of_block base b ≤ width
        → Inside Cell Keep (at base memory spare) Set 1 w v
        → Step Back looping (Failed Cell Keep (at base memory spare) Set) (Inside Cell Keep (at base memory spare) Set 0) (does_block p calls fuel inst b taken w)
        (codes (block_code (names_in p inst) shape_of home_of site layout_of base t b) v)
    block_does (tree.block ds ss tree.no_handler) Keep base spare memory Set Sees t looping handling taken w v ready see plain small fits h =
        let fr = at base memory spare in
        let declared = declarations_code (names_in p inst) shape_of home_of site layout_of base ds in
        let stated = statements_code (names_in p inst) shape_of home_of site layout_of base t ss in
        rw (joined_does K kcalls fuel width fp left declared stated v)
        (runs_then {A = Unit {0}} (Failed Cell Keep fr Set) (λ u. Inside Cell Keep fr (all_behind Set ds) 0) (Step Back looping (Failed Cell Keep fr Set) (Inside Cell Keep fr Set 0))
        (step_stops Back looping (Failed Cell Keep fr Set) (Inside Cell Keep fr Set 0))
        (λ u x. state.caught (does_all p calls fuel inst ss taken x) (λ e. state.raise e)) (codes stated)
        (λ u x y g. step_uncaught Back looping (Failed Cell Keep fr Set) (Inside Cell Keep fr Set 0) (does_all p calls fuel inst ss taken x) (codes stated y)
        (step_after Back looping (Failed Cell Keep fr (all_behind Set ds)) (Failed Cell Keep fr Set) (Inside Cell Keep fr (all_behind Set ds) 0) (Inside Cell Keep fr Set 0)
        (λ e s m stop. (stop.0, inside_fewer Cell Keep fr (all_behind Set ds) Set 0 s m (still_all ds Set) stop.1))
        (λ s m i. inside_fewer Cell Keep fr (all_behind Set ds) Set 0 s m (still_all ds Set) i) (does_all p calls fuel inst ss taken x) (codes stated y)
        (statements_do ss Keep base spare memory (all_behind Set ds) (behind_all Sees ds) t looping handling taken x y ready (sees_all ds Sees Set plain.0 see) plain.1.0 small (omega (arith, fits)) g)))
        (declares_all p calls fuel inst ds w) (codes declared v)
        (declarations_do Keep base spare memory ready.frame ready.may small ds Sees Set w v plain.0 (omega (arith, fits)) see (inside_less Cell Keep fr Set 1 0 w v (omega arith) h)))
    block_does (tree.block ds ss (tree.handler cs hss hs)) Keep base spare memory Set Sees t looping handling taken w v ready see plain small fits h =
        let fr = at base memory spare in
        let more = at base memory (spare + 1) in
        let declared = declarations_code (names_in p inst) shape_of home_of site layout_of base ds in
        let stated = statements_code (names_in p inst) shape_of home_of site layout_of base t ss in
        let handled = handlers_code (names_in p inst) shape_of home_of site layout_of base (tree.handler cs hss hs) in
        let inner = all_behind Set ds in
        rw (joined_does K kcalls fuel width fp left declared (single (catch stated base handled)) v)
        (runs_then {A = Unit {0}} (Failed Cell Keep more Set) (λ u. Inside Cell Keep more inner 0) (Step Back looping (Failed Cell Keep fr Set) (Inside Cell Keep fr Set 0))
        (record {
          raises = λ e f s m same stop. (same, (stop.0, unspared Keep base spare 1 0 memory Set s m (omega arith) stop.1));
          cut = λ s m seen. seen;
        })
        (λ u x. state.caught (does_all p calls fuel inst ss taken x) (λ e. does_handler p calls fuel inst (tree.handler cs hss hs) e)) (codes (single (catch stated base handled)))
        (λ u x y g. rw (single_does K kcalls fuel width fp left (catch stated base handled) y)
        (step_caught Back looping (Failed Cell Keep fr inner) (Failed Cell Keep fr Set) (Inside Cell Keep fr inner 0) (Inside Cell Keep fr Set 0)
        (λ e. does_handler p calls fuel inst (tree.handler cs hss hs) e) (λ e m. codes handled (with_slot fp base (pos e) m))
        (λ e s m stop. step_after Back looping (Failed Cell Keep fr inner) (Failed Cell Keep fr Set) (Inside Cell Keep fr inner 0) (Inside Cell Keep fr Set 0)
        (λ f z n bad. (bad.0, inside_fewer Cell Keep fr inner Set 0 z n (still_all ds Set) bad.1)) (λ z n i. inside_fewer Cell Keep fr inner Set 0 z n (still_all ds Set) i)
        (does_handler p calls fuel inst (tree.handler cs hss hs) e s) (codes handled (with_slot fp base (pos e) m))
        (handlers_do (tree.handler cs hss hs) looping Keep base spare 0 memory inner (behind_all Sees ds) e s (with_slot fp base (pos e) m) ready.frame ready.may ready.back (sees_all ds Sees Set plain.0 see) plain.1.1
        stop.0 small (omega (arith, fits)) (record {}) (worked Cell Keep fr ready.frame inner 0 base (pos e) s m (omega arith) small stop.1) (with_slot_at fp base (pos e) m)))
        (λ s m i. inside_fewer Cell Keep fr inner Set 0 s m (still_all ds Set) i) (does_all p calls fuel inst ss taken x) (codes stated (paid 1 y))
        (statements_do ss Keep base spare memory inner (behind_all Sees ds) t looping handling taken x (paid 1 y) ready (sees_all ds Sees Set plain.0 see) plain.1.0 small (omega (arith, fits))
        (inside_paid Cell Keep fr inner 1 0 x y (unspared Keep base spare 1 (0 + 1) memory inner x y (omega arith) g)))))
        (declares_all p calls fuel inst ds w) (codes declared v)
        (declarations_do Keep base (spare + 1) memory (sparing_frame Keep base spare 1 memory ready.frame) (sparing_may Keep base spare 1 memory ready.may) small ds Sees Set w v plain.0 (omega (arith, fits)) see
        (spared Keep base spare 1 memory Set w v h)))

    handlers_do : (hs : tree.Handlers) (looping : Bool) (Keep : ℕ → Type 0) (base spare l : ℕ) (memory : Memory) (Set : ℕ → Type 0) (Sees : tree.Object → Type 0) (e : ℕ)
        (w : World) (v : kernel.World) → IsFrame Cell Keep (at base memory spare) → May Keep (at base memory spare) → Returning Keep (at base memory spare) → See Sees Set
        → ArePlainHandlers p inst shape_of home_of site Bodies layout_of (content_in K.layouts) Declares top gives Sees looping hs → (1 ≤ e) × (e ≤ top) → base < width → end_of_handlers base hs ≤ width → Enough hs l
        → Inside Cell Keep (at base memory spare) Set l w v → slot_in fp base v ≡ pos e
        → Step Back looping (Failed Cell Keep (at base memory spare) Set) (Inside Cell Keep (at base memory spare) Set 0) (does_handler p calls fuel inst hs e w)
        (codes (handlers_code (names_in p inst) shape_of home_of site layout_of base hs) v)
    handlers_do tree.no_handler looping Keep base spare l memory Set Sees e w v frame may back see plain is small fits enough h value =
        rw (value, exceptions, number_of top e is.0 is.1)
        (refl, (is, inside_paid Cell Keep (at base memory spare) Set 1 0 w v (inside_less Cell Keep (at base memory spare) Set l (0 + 1) w v (omega (arith, enough)) h)))
    handlers_do (tree.handler [] ss hs) looping Keep base spare l memory Set Sees e w v frame may back see plain is small fits enough h value = absurd plain.0
    handlers_do (tree.handler (c ∷ cs) ss hs) looping Keep base spare l memory Set Sees e w v frame may back see plain is small fits enough h value =
        let fr = at base memory spare in
        let looking = exception_choices_code (names_in p inst) shape_of home_of site base (c ∷ cs) in
        let stated = statements_code (names_in p inst) shape_of home_of site layout_of (base + 1) base ss in
        let others = handlers_code (names_in p inst) shape_of home_of site layout_of base hs in
        let room : base + 2 < width = omega (arith, fits) in
        rw (joined_does K kcalls fuel width fp left looking (single (choose (base + 1) stated others)) v)
        (runs_then (Failed Cell Keep fr Set) (Looked p calls inst K kcalls fuel Cell Keep fr frame Set shape_of home_of site Bodies Library may room (0 + 3) (pos e))
        (Step Back looping (Failed Cell Keep fr Set) (Inside Cell Keep fr Set 0)) (step_stops Back looping (Failed Cell Keep fr Set) (Inside Cell Keep fr Set 0))
        (λ b. if b then does_all p calls fuel inst ss (Some e) else does_handler p calls fuel inst hs e) (codes (single (choose (base + 1) stated others)))
        (λ b u m g. subst (Step Back looping (Failed Cell Keep fr Set) (Inside Cell Keep fr Set 0) ((if b then does_all p calls fuel inst ss (Some e) else does_handler p calls fuel inst hs e) u))
        (sym (choices.chosen_is p calls inst K kcalls fuel Cell Keep fr frame Set shape_of home_of site Bodies Library may room stated others m b g.found))
        (by_outcome (λ o. Step Back looping (Failed Cell Keep fr Set) (Inside Cell Keep fr Set 0) ((if o then does_all p calls fuel inst ss (Some e) else does_handler p calls fuel inst hs e) u)
        (if o then codes stated (paid 1 m) else codes others (paid 1 m)))
        (step_after Back looping (Failed Cell (Kept Keep fr 1) (at (base + 1) m.memory (spare + 0)) Set) (Failed Cell Keep fr Set)
        (Inside Cell (Kept Keep fr 1) (at (base + 1) m.memory (spare + 0)) Set 0) (Inside Cell Keep fr Set 0)
        (λ f z n bad. failed_out Cell Keep fr 1 0 Set Set (0 + 3) f z u n m g.inside bad) (λ z n i. back_out Cell Keep fr 1 0 Set Set (0 + 3) z u n m g.inside i)
        (does_all p calls fuel inst ss (Some e) u) (codes stated (paid 1 m))
        (statements_do ss (Kept Keep fr 1) (base + 1) (spare + 0) m.memory Set Sees base looping true (Some e) u (paid 1 m)
        (record {
          frame = deeper_frame Cell Keep fr 1 0 frame (omega (arith, fits)) m;
          may = deeper_may Keep base spare 1 0 memory m.memory (omega (arith, fits)) frame.room may;
          back = returning_deeper Keep base spare 1 0 (0 + 3) memory Set u m g.inside back;
          took = (inr (0, (omega arith, first_slot base)), (g.value, is));
        }) see plain.1.0 (omega (arith, fits)) (omega (arith, fits))
        (enters_paid Keep base spare memory Set u m (inside_less Cell Keep fr Set (0 + 3) 1 u m (omega arith) g.inside))))
        (handlers_do hs looping Keep base spare 2 memory Set Sees e u (paid 1 m) frame may back see plain.1.1 is small (omega (arith, fits)) (enough_for hs)
        (inside_paid Cell Keep fr Set 1 2 u m (inside_less Cell Keep fr Set (0 + 3) (2 + 1) u m (omega arith) g.inside)) g.value) b))
        (catches p calls fuel inst (c ∷ cs) e w) (codes looking v)
        (catches_do p calls inst K kcalls fuel Cell Keep fr frame Set shape_of home_of site Bodies Library may room c cs 0 e w v (inside_less Cell Keep fr Set l 0 w v (omega arith) h) value))
