-- The code of an expression works out its value, and that of a name the address of the object's part.
use Rattle.std.proofs.Common.{◌≡◌, ℕ, zero, suc, ◌+◌, ◌<◌, ◌≤◌, pos, ◌+ℤ◌, Bool, true, false, not, ◌⊎◌, List, [], ◌∷◌, if◌then◌else◌, refl, sym, ap, ◌∙◌, arith, drop}
use Rattle.std.specs.Int.{w32, int_wrap}
use Rattle.cov_base.specs.Path.{Step}
use Rattle.ada_meaning.specs.Arithmetic.{base_range, is_within, sign_of, holds, number_of_truth, is_true}
use Rattle.ada_meaning.specs.Calls.{of_value, Calls, check, checked, word_bounds, next_parameter, argument_of}
use Rattle.ada_meaning.specs.Expressions.{given, value, place, operated, test, completed}
use Rattle.ada_meaning.specs.Program.{Program}
use Rattle.ada_meaning.specs.Resolved.{number_in, bounds_in, place_in, ResolvedParameter, target_in, parameters_of}
use Rattle.ada_meaning.specs.Shape.{Shape, word, row, group}
use Rattle.ada_meaning.specs.State.{Place, part_at, World, goes_to, give, fetch, ◌>>=◌, ◌>>◌}
use Rattle.ada_meaning.specs.Tree as tree
use Rattle.ada_resolved.specs.Sizes.{words}
use Rattle.kernel_ir.proofs.Joining.{joined_does, single_does}
use Rattle.kernel_ir.specs.declared.code.Edge.{Edge}
use Rattle.kernel_ir.specs.declared.code.Edge.TheVariants as edge
use Rattle.kernel_ir.specs.declared.kernel.Kernel.{Kernel}
use Rattle.kernel_ir.specs.declared.simple.Simple.{Simple}
use Rattle.kernel_ir.specs.declared.simple.Simple.TheVariants as op
use Rattle.kernel_ir.specs.Meaning as code
use Rattle.kernel_ir.specs.Meaning.{taken, follows, completes}
use Rattle.kernel_ir.specs.Simple.{does_simple}
use Rattle.kernel_ir.specs.Tree.{simple, decide, Code, and_op, Nodes, no_node}
use Rattle.kernel_ir.specs.World.{Memory, Ended, Ends, Cut, in_area, data_word, area_end, slot_word, slot_in, with_slot, paid, noted}
use Rattle.kernel_ir.specs.World as kernel
use Rattle.frame_widths.specs.Ends.{end_of, end_of_actuals, end_of_parts, end_of_test}
use Rattle.frame_widths.proofs.Above.{end_is_above, actuals_are_above, parts_are_above, test_is_above}
use Rattle.statement_code.specs.Names.{names_in}
use Rattle.statement_code.specs.Cells.{Cells, Within}
use Rattle.statement_code.specs.Objects.{component_of, words_before}
use Rattle.statement_code.specs.Calls.{MayCall}
use Rattle.statement_code.specs.Frames.{rate, Frame, IsFrame, Inside, Failed, Runs}
use Rattle.statement_code.specs.Values.{one, within, Home, address_at, fetch_on, sign_on, operator_on, relation_on, complement_on, past, part_shape, Stands, expr_code, parts_code, nodes_code, IsPlainExpr, ArePlainParts, IsPlainTest, SeesIn, Site, count_of, unless_out, actuals_code, ArePlainActuals}
use Rattle.statement_code.proofs.Frames.{ticked, inside_ticked, inside_paid, inside_less, runs_stop, runs_then}
use Rattle.statement_code.proofs.Operands.{by_outcome, fits_when, wraps_sum, component_stands, word_cell, Held, Located, held_less, held_set, held_checked, signed_does, operation_does, relation_does, complement_does, fetch_does, located_set, one_operand, two_operands, past_ends, ending_of, exchanged, Tested, tested_stop, tested_then, tested_less, decision_held, stands_now, located_first, at_part, loaded, indexed_does, ticked_less, located_less}
use Rattle.statement_code.proofs.Arguments.{Whole, Value, single_stays, whole_stays, part_of_stays, composite_stays, Given, whole_argument, function_called, came_then, checked_came, came_source, part_given, composite_given}

module _ (p : Program) (calls : Calls) (inst : ℕ) (K : Kernel) (kcalls : code.Calls) (fuel : ℕ) (Cell : Cells) (Keep : ℕ → Type 0) (fr : Frame)
    (frame : IsFrame Cell Keep fr) (Set : ℕ → Type 0) (shape_of : tree.Object → Shape) (home_of : tree.Object → Home) (site : Site) (Bodies : Bool → ℕ → ℕ → Type 0) (Library : Cells)
    (may : MayCall p calls kcalls Library site Bodies Cell Keep fr) (Sees : tree.Object → Type 0)
    (sees : SeesIn p inst shape_of home_of site Bodies Sees (Within Cell Set) fr.fp fr.depth) where
  abbrev In : ℕ → World → kernel.World → Type 0
  In l w v = Inside Cell Keep fr Set l w v

  abbrev Stop : ℕ → World → kernel.World → Type 0
  Stop = Failed Cell Keep fr Set

  abbrev does : Simple → kernel.World → Ended
  does s v = does_simple K.layouts K.exceptions fr.fp s v

  abbrev codes : Code → kernel.World → Ended
  codes a v = code.does_code K kcalls fuel fr.width fr.fp fr.calls a v

  abbrev Below : (k : ℕ) → (start v : kernel.World) → Type 0
  Below k start v = (j : ℕ) → j < k → slot_in fr.fp j v ≡ slot_in fr.fp j start

  abbrev IsOwn : Place → Type 0
  IsOwn q = (q.frame ≡ 0) ⊎ (q.frame ≡ fr.depth)

  abbrev expr : (k : ℕ) → tree.Expr → Code
  expr k e = expr_code (names_in p inst) shape_of home_of site k e

  abbrev parts_of : (k : ℕ) → Shape → tree.Parts → Code
  parts_of k s parts = parts_code (names_in p inst) shape_of home_of site k s parts

  mutual
    -- the value is worked out, at a cost that is smaller by 2 than so many times the source's
    pub value_does : (e : tree.Expr) (l k : ℕ) (w : World) (v : kernel.World) → IsPlainExpr p inst shape_of home_of site Bodies Sees e → fr.base ≤ k → end_of k e ≤ fr.width → In l w v
        → Runs Stop (Held p calls inst K kcalls fuel Cell Keep fr frame Set shape_of home_of site Bodies Library may Sees sees (l + 2) k v) (value p calls inst e w) (codes (expr k e) v)
    value_does (tree.literal x) l k w v plain free room h =
        held_set p calls inst K kcalls fuel Cell Keep fr frame Set shape_of home_of site Bodies Library may Sees sees (l + 2) k v x x (ticked w) v refl (fits_when x plain) free (omega (arith, room)) (λ j lt. refl) (ticked_less p calls inst K kcalls fuel Cell Keep fr frame Set shape_of home_of site Bodies Library may Sees sees l (l + 2 + 1) w v (omega arith) h)
    value_does (tree.constant e) l k w v plain free room h =
        held_set p calls inst K kcalls fuel Cell Keep fr frame Set shape_of home_of site Bodies Library may Sees sees (l + 2) k v (number_in p inst e) (number_in p inst e) (ticked w) v refl (fits_when (number_in p inst e) plain) free (omega (arith, room))
        (λ j lt. refl) (ticked_less p calls inst K kcalls fuel Cell Keep fr frame Set shape_of home_of site Bodies Library may Sees sees l (l + 2 + 1) w v (omega arith) h)
    value_does (tree.attribute o parts e) l k w v plain free room h =
        let small : k < fr.width = omega (arith, room, parts_are_above k parts) in
        at_part p calls inst K kcalls fuel Cell Keep fr frame Set shape_of home_of site Bodies Library may Sees sees o parts l k (op.Number k (number_in p inst e)) (λ q. give (number_in p inst e)) w v
        (λ q u m g. held_set p calls inst K kcalls fuel Cell Keep fr frame Set shape_of home_of site Bodies Library may Sees sees (l + 2) k v (number_in p inst e) (number_in p inst e) u m refl (fits_when (number_in p inst e) plain.1.1) free small g.below
        (inside_less Cell Keep fr Set (l + 3) (l + 2 + 1) u m (omega arith) g.inside))
        (place_does parts (shape_of o) (l + 3) k v (ticked w) (with_slot fr.fp k (pos (address_at fr.fp (home_of o))) (paid 1 v)) (place_in p inst w.depth o) plain.1.0 free room
        (located_first p calls inst K kcalls fuel Cell Keep fr frame Set shape_of home_of site Bodies Library may Sees sees o (l + 3) k (ticked w) v plain.0 free small (ticked_less p calls inst K kcalls fuel Cell Keep fr frame Set shape_of home_of site Bodies Library may Sees sees l (l + 3 + 1) w v (omega arith) h)))
    value_does (tree.read o tree.whole) l k w v plain free room h =
        let stands = stands_now p calls inst K kcalls fuel Cell Keep fr frame Set shape_of home_of site Bodies Library may Sees sees o l w v plain.0 h in
        fetch_does p calls inst K kcalls fuel Cell Keep fr frame Set shape_of home_of site Bodies Library may Sees sees (home_of o) (l + 2) k (w.store (place_in p inst w.depth o)) (ticked w) v free (omega (arith, room)) (ticked_less p calls inst K kcalls fuel Cell Keep fr frame Set shape_of home_of site Bodies Library may Sees sees l (l + 2 + 1) w v (omega arith) h)
        (h.agree (place_in p inst w.depth o) (address_at fr.fp (home_of o))
        (word_cell (Within Cell Set) (shape_of o) (place_in p inst w.depth o) (address_at fr.fp (home_of o)) plain.1.1 stands.lies))
    value_does (tree.read o (tree.component n parts)) l k w v plain free room h =
        let small : k < fr.width = omega (arith, room, parts_are_above k parts) in
        at_part p calls inst K kcalls fuel Cell Keep fr frame Set shape_of home_of site Bodies Library may Sees sees o (tree.component n parts) l k (op.Load k k) (λ q. fetch q) w v
        (λ q u m g. loaded p calls inst K kcalls fuel Cell Keep fr frame Set shape_of home_of site Bodies Library may Sees sees (part_shape (shape_of o) (tree.component n parts)) (l + 2) k v q u m plain.1.1 free small
        (located_less p calls inst K kcalls fuel Cell Keep fr frame Set shape_of home_of site Bodies Library may Sees sees (part_shape (shape_of o) (tree.component n parts)) (l + 3) (l + 2 + 1) k v q u m (omega arith) g))
        (place_does (tree.component n parts) (shape_of o) (l + 3) k v (ticked w) (with_slot fr.fp k (pos (address_at fr.fp (home_of o))) (paid 1 v)) (place_in p inst w.depth o) plain.1.0 free room
        (located_first p calls inst K kcalls fuel Cell Keep fr frame Set shape_of home_of site Bodies Library may Sees sees o (l + 3) k (ticked w) v plain.0 free small (ticked_less p calls inst K kcalls fuel Cell Keep fr frame Set shape_of home_of site Bodies Library may Sees sees l (l + 3 + 1) w v (omega arith) h)))
    value_does (tree.read o (tree.element r e parts)) l k w v plain free room h =
        let small : k < fr.width = omega (arith, room, parts_are_above k parts) in
        at_part p calls inst K kcalls fuel Cell Keep fr frame Set shape_of home_of site Bodies Library may Sees sees o (tree.element r e parts) l k (op.Load k k) (λ q. fetch q) w v
        (λ q u m g. loaded p calls inst K kcalls fuel Cell Keep fr frame Set shape_of home_of site Bodies Library may Sees sees (part_shape (shape_of o) (tree.element r e parts)) (l + 2) k v q u m plain.1.1 free small
        (located_less p calls inst K kcalls fuel Cell Keep fr frame Set shape_of home_of site Bodies Library may Sees sees (part_shape (shape_of o) (tree.element r e parts)) (l + 3) (l + 2 + 1) k v q u m (omega arith) g))
        (place_does (tree.element r e parts) (shape_of o) (l + 3) k v (ticked w) (with_slot fr.fp k (pos (address_at fr.fp (home_of o))) (paid 1 v)) (place_in p inst w.depth o) plain.1.0 free room
        (located_first p calls inst K kcalls fuel Cell Keep fr frame Set shape_of home_of site Bodies Library may Sees sees o (l + 3) k (ticked w) v plain.0 free small (ticked_less p calls inst K kcalls fuel Cell Keep fr frame Set shape_of home_of site Bodies Library may Sees sees l (l + 3 + 1) w v (omega arith) h)))
    value_does (tree.signed s e) l k w v plain free room h =
        one_operand p calls inst K kcalls fuel Cell Keep fr frame Set shape_of home_of site Bodies Library may Sees sees l k (expr k e) (sign_on k s) (value p calls inst e (ticked w)) (λ x. checked base_range (sign_of s x)) v v
        (λ x u m g. signed_does p calls inst K kcalls fuel Cell Keep fr frame Set shape_of home_of site Bodies Library may Sees sees (l + 2) k v s x u m free (omega (arith, room, end_is_above k e)) (held_less p calls inst K kcalls fuel Cell Keep fr frame Set shape_of home_of site Bodies Library may Sees sees (l + 3) (l + 2 + 1) k v x u m (omega arith) g))
        (value_does e (l + rate) k (ticked w) v plain free room (inside_ticked Cell Keep fr Set l w v h))
    value_does (tree.operation o e f) l k w v plain free room h =
        two_operands p calls inst K kcalls fuel Cell Keep fr frame Set shape_of home_of site Bodies Library may Sees sees l k (expr k e) (expr (k + 1) f) (operator_on k o) (value p calls inst e (ticked w)) (value p calls inst f) (λ x y. operated o x y) v
        (λ x y s u m t i j. operation_does p calls inst K kcalls fuel Cell Keep fr frame Set shape_of home_of site Bodies Library may Sees sees (l + 2) k v m o x y s u t free (omega (arith, room, end_is_above (k + 1) f))
        (held_less p calls inst K kcalls fuel Cell Keep fr frame Set shape_of home_of site Bodies Library may Sees sees (l + 3) (l + 2 + 1) k v x u m (omega arith) i) (held_less p calls inst K kcalls fuel Cell Keep fr frame Set shape_of home_of site Bodies Library may Sees sees (l + 3) (l + 2 + 1) (k + 1) m y s t (omega arith) j))
        (value_does e (l + rate) k (ticked w) v plain.0 free (omega (arith, room)) (inside_ticked Cell Keep fr Set l w v h))
        (λ u m g. value_does f (l + 3) (k + 1) u m plain.1 (omega (arith, free)) (omega (arith, room)) g)
    value_does (tree.relation r e f) l k w v plain free room h =
        two_operands p calls inst K kcalls fuel Cell Keep fr frame Set shape_of home_of site Bodies Library may Sees sees l k (expr k e) (expr (k + 1) f) (relation_on k r) (value p calls inst e (ticked w)) (value p calls inst f) (λ x y. give (number_of_truth (holds r x y))) v
        (λ x y s u m t i j. relation_does p calls inst K kcalls fuel Cell Keep fr frame Set shape_of home_of site Bodies Library may Sees sees (l + 2) k v m r x y s u t free (omega (arith, room, end_is_above (k + 1) f))
        (held_less p calls inst K kcalls fuel Cell Keep fr frame Set shape_of home_of site Bodies Library may Sees sees (l + 3) (l + 2 + 1) k v x u m (omega arith) i) (held_less p calls inst K kcalls fuel Cell Keep fr frame Set shape_of home_of site Bodies Library may Sees sees (l + 3) (l + 2 + 1) (k + 1) m y s t (omega arith) j))
        (value_does e (l + rate) k (ticked w) v plain.0 free (omega (arith, room)) (inside_ticked Cell Keep fr Set l w v h))
        (λ u m g. value_does f (l + 3) (k + 1) u m plain.1 (omega (arith, free)) (omega (arith, room)) g)
    value_does (tree.complement e) l k w v plain free room h =
        one_operand p calls inst K kcalls fuel Cell Keep fr frame Set shape_of home_of site Bodies Library may Sees sees l k (expr k e) (complement_on k) (value p calls inst e (ticked w)) (λ x. give (number_of_truth (not (is_true x)))) v v
        (λ x u m g. complement_does p calls inst K kcalls fuel Cell Keep fr frame Set shape_of home_of site Bodies Library may Sees sees (l + 2) k v x u m free (omega (arith, room, end_is_above k e)) (held_less p calls inst K kcalls fuel Cell Keep fr frame Set shape_of home_of site Bodies Library may Sees sees (l + 3) (l + 2 + 1) k v x u m (omega arith) g))
        (value_does e (l + rate) k (ticked w) v plain free room (inside_ticked Cell Keep fr Set l w v h))
    value_does (tree.conversion r e) l k w v plain free room h =
        one_operand p calls inst K kcalls fuel Cell Keep fr frame Set shape_of home_of site Bodies Library may Sees sees l k (expr k e) (within k (bounds_in p inst r)) (value p calls inst e (ticked w)) (λ x. checked (bounds_in p inst r) x) v v
        (λ x u m g. rw g.slot (held_checked p calls inst K kcalls fuel Cell Keep fr frame Set shape_of home_of site Bodies Library may Sees sees (l + 2) k v x u m (held_less p calls inst K kcalls fuel Cell Keep fr frame Set shape_of home_of site Bodies Library may Sees sees (l + 3) (l + 2 + 1) k v x u m (omega arith) g) (is_within (bounds_in p inst r) x)))
        (value_does e (l + rate) k (ticked w) v plain free room (inside_ticked Cell Keep fr Set l w v h))
    value_does (tree.call c actuals) l k w v plain free room h =
        function_called p calls inst K kcalls fuel Cell Keep fr frame Set shape_of home_of site Bodies Library may Sees sees (target_in p inst c) actuals l k (ticked w) v plain.0 plain.1.1 free (omega (arith, room, actuals_are_above k actuals)) room
        (given_do actuals (parameters_of p (target_in p inst c)) (l + 7) k (ticked w) v plain.1.0 free room (ticked_less p calls inst K kcalls fuel Cell Keep fr frame Set shape_of home_of site Bodies Library may Sees sees l (l + 7) w v (omega arith) h))
    value_does (tree.decision d t) l k w v plain free room h =
        rw (single_does K kcalls fuel fr.width fr.fp fr.calls (decide (record { 0 = d.number }) (record { 0 = inst }) k (nodes_code (names_in p inst) shape_of home_of site k t (edge.Leaf true) (edge.Leaf false) no_node)) v)
        (tested_then p calls inst K kcalls fuel Cell Keep fr frame Set shape_of home_of site Bodies Library may Sees sees (Runs Stop (Held p calls inst K kcalls fuel Cell Keep fr frame Set shape_of home_of site Bodies Library may Sees sees (l + 2) k v)) (runs_stop Stop (Held p calls inst K kcalls fuel Cell Keep fr frame Set shape_of home_of site Bodies Library may Sees sees (l + 2) k v)) k (l + 3 + 4) v
        (ending_of p calls inst K kcalls fuel Cell Keep fr frame Set shape_of home_of site Bodies Library may Sees sees d k (tree.conditions_of t) no_node (edge.Leaf true) (edge.Leaf false)) (λ x. completed d inst x >>= λ b. give (number_of_truth b))
        (decision_held p calls inst K kcalls fuel Cell Keep fr frame Set shape_of home_of site Bodies Library may Sees sees d l k v free (omega (arith, room, test_is_above k t)) (tree.conditions_of t)) _ _
        (test_does d t (edge.Leaf true) (edge.Leaf false) no_node k 0 (tree.conditions_of t) (l + 3) [] v plain free room (omega arith)
        (ticked w) v (ticked_less p calls inst K kcalls fuel Cell Keep fr frame Set shape_of home_of site Bodies Library may Sees sees l (l + 3) w v (omega arith) h) (λ j lt. refl)))

    -- the address of a part is worked out, at a cost that is at most so many times the source's
    pub place_does : (parts : tree.Parts) (s : Shape) (l k : ℕ) (start : kernel.World) (w : World) (v : kernel.World) (q : Place) → ArePlainParts p inst shape_of home_of site Bodies Sees s parts
        → fr.base ≤ k → end_of_parts k parts ≤ fr.width → Located p calls inst K kcalls fuel Cell Keep fr frame Set shape_of home_of site Bodies Library may Sees sees s l k start q w v
        → Runs Stop (Located p calls inst K kcalls fuel Cell Keep fr frame Set shape_of home_of site Bodies Library may Sees sees (part_shape s parts) l k start) (place p calls inst parts q w) (codes (parts_of k s parts) v)
    place_does tree.whole s l k start w v q plain free room h = h
    place_does (tree.component n parts) (group ss) l k start w v q plain free room h =
        let part : Stands (Within Cell Set) (component_of ss n) (part_at (pos n) q) (h.address + words_before ss n) =
        component_stands (Within Cell Set) ss q h.address n plain.0 h.stands in
        place_does parts (component_of ss n) l k start (ticked w) (with_slot fr.fp k (int_wrap w32 (slot_in fr.fp k v +ℤ pos (words_before ss n))) (paid 1 v)) (part_at (pos n) q)
        plain.1 free room
        (located_set p calls inst K kcalls fuel Cell Keep fr frame Set shape_of home_of site Bodies Library may Sees sees (component_of ss n) l k (h.address + words_before ss n) start (int_wrap w32 (slot_in fr.fp k v +ℤ pos (words_before ss n))) (part_at (pos n) q) (ticked w) v
        (wraps_sum (slot_in fr.fp k v) (pos (words_before ss n)) h.address (words_before ss n) h.slot refl (omega (arith, part.high))) free
        (omega (arith, room, parts_are_above k parts)) h.below (ticked_less p calls inst K kcalls fuel Cell Keep fr frame Set shape_of home_of site Bodies Library may Sees sees l (l + 1) w v (omega arith) h.inside) part h.own)
    place_does (tree.element r e parts) (row b s) l k start w v q plain free room h =
        rw (
          joined_does K kcalls fuel fr.width fr.fp fr.calls (expr (k + 1) e)
              (and_op (simple (op.Index (k + 1) (k + 1) b.low b.high (words s))) (and_op (simple (op.Offset k k (k + 1))) (parts_of k s parts))) v,
          plain.0,
        )
        (runs_then Stop (Held p calls inst K kcalls fuel Cell Keep fr frame Set shape_of home_of site Bodies Library may Sees sees (l + 2 + 2) (k + 1) v) (Runs Stop (Located p calls inst K kcalls fuel Cell Keep fr frame Set shape_of home_of site Bodies Library may Sees sees (part_shape s parts) l k start)) (runs_stop Stop (Located p calls inst K kcalls fuel Cell Keep fr frame Set shape_of home_of site Bodies Library may Sees sees (part_shape s parts) l k start))
        (λ x. check b x >> place p calls inst parts (part_at x q))
        (codes (and_op (simple (op.Index (k + 1) (k + 1) b.low b.high (words s))) (and_op (simple (op.Offset k k (k + 1))) (parts_of k s parts))))
        (λ x u m g. indexed_does p calls inst K kcalls fuel Cell Keep fr frame Set shape_of home_of site Bodies Library may Sees sees (Runs Stop (Located p calls inst K kcalls fuel Cell Keep fr frame Set shape_of home_of site Bodies Library may Sees sees (part_shape s parts) l k start)) (runs_stop Stop (Located p calls inst K kcalls fuel Cell Keep fr frame Set shape_of home_of site Bodies Library may Sees sees (part_shape s parts) l k start)) l k h.address b s (parts_of k s parts) start
        q x (place p calls inst parts (part_at x q)) u m free (omega (arith, room, end_is_above (k + 1) e))
        (inside_less Cell Keep fr Set (l + 2 + 2) (l + 2) u m (omega arith) g.inside) (g.below k (omega arith) ∙ h.slot) g.slot
        (λ j lt. g.below j (omega (arith, lt)) ∙ h.below j lt) h.stands h.own
        (λ x2 m2 i. place_does parts s l k start x2 m2 (part_at x q) plain.1.1 free (omega (arith, room)) i))
        (value p calls inst e (ticked w)) (codes (expr (k + 1) e) v)
        (value_does e (l + 2) (k + 1) (ticked w) v plain.1.0 (omega (arith, free)) (omega (arith, room)) (ticked_less p calls inst K kcalls fuel Cell Keep fr frame Set shape_of home_of site Bodies Library may Sees sees l (l + 2) w v (omega arith) h.inside)))
    place_does (tree.component n parts) (word b) l k start w v q plain free room h = absurd plain
    place_does (tree.component n parts) (row b s) l k start w v q plain free room h = absurd plain
    place_does (tree.element r e parts) (word b) l k start w v q plain free room h = absurd plain
    place_does (tree.element r e parts) (group ss) l k start w v q plain free room h = absurd plain

    -- actuals are evaluated and checked, one after another
    pub given_do : (actuals : tree.Actuals) (qs : List ResolvedParameter) (l k : ℕ) (w : World) (v : kernel.World) → ArePlainActuals p inst shape_of home_of site Bodies Sees qs actuals
        → fr.base ≤ k → end_of_actuals k actuals ≤ fr.width → In l w v
        → Runs Stop (Given p calls inst K kcalls fuel Cell Keep fr frame Set shape_of home_of site Bodies Library may Sees sees (l + count_of actuals) k qs actuals v) (given p calls inst actuals qs w) (codes (actuals_code (names_in p inst) shape_of home_of site k qs actuals) v)
    given_do tree.no_actual qs l k w v plain free room h =
        record { inside = inside_less Cell Keep fr Set l (l + 0) w v (omega arith) h; below = λ j lt. refl; temporaries = record {}; for = plain; count = refl }
    given_do (tree.by_expression e rest) qs l k w v plain free room h =
        let f : ResolvedParameter = next_parameter qs in
        let others = actuals_code (names_in p inst) shape_of home_of site (k + 1) (drop 1 qs) rest in
        let checking = and_op (simple (within k (word_bounds f.shape))) others in
        rw (joined_does K kcalls fuel fr.width fr.fp fr.calls (expr k e) checking v)
        (runs_then Stop (Held p calls inst K kcalls fuel Cell Keep fr frame Set shape_of home_of site Bodies Library may Sees sees (l + 2 + 2) k v) (Runs Stop (Given p calls inst K kcalls fuel Cell Keep fr frame Set shape_of home_of site Bodies Library may Sees sees (l + suc (count_of rest)) k qs (tree.by_expression e rest) v))
        (runs_stop Stop (Given p calls inst K kcalls fuel Cell Keep fr frame Set shape_of home_of site Bodies Library may Sees sees (l + suc (count_of rest)) k qs (tree.by_expression e rest) v))
        (λ x. check (word_bounds f.shape) x >> (given p calls inst rest (drop 1 qs) >>= λ xs. give (of_value x ∷ xs))) (codes checking)
        (λ x u t g. came_source p calls inst K kcalls fuel Cell Keep fr frame Set shape_of home_of site Bodies Library may Sees sees (check (word_bounds f.shape) x u) (of_value x) (given p calls inst rest (drop 1 qs)) (within k (word_bounds f.shape)) others t
        (Runs Stop (Given p calls inst K kcalls fuel Cell Keep fr frame Set shape_of home_of site Bodies Library may Sees sees (l + suc (count_of rest)) k qs (tree.by_expression e rest) v))
        (came_then p calls inst K kcalls fuel Cell Keep fr frame Set shape_of home_of site Bodies Library may Sees sees f (λ a z. Value p calls inst K kcalls fuel Cell Keep fr frame Set shape_of home_of site Bodies Library may Sees sees a k z) (tree.by_expression e rest) rest qs (l + suc (count_of rest)) (l + 1 + count_of rest) k (k + 1) (l + 1) v others
        (λ a xs y z s end_state came more. record {
          inside = inside_less Cell Keep fr Set (l + 1 + count_of rest) (l + suc (count_of rest)) z end_state (omega arith) more.inside;
          below = λ j lt. more.below j (omega (arith, lt)) ∙ came.below j lt;
          temporaries = (single_stays p calls inst K kcalls fuel Cell Keep fr frame Set shape_of home_of site Bodies Library may Sees sees a k s end_state (more.below k (omega arith)) came.there, more.temporaries);
          for = (plain.0, (came.for, more.for));
          count = ap suc more.count;
        })
        (λ y s i. given_do rest (drop 1 qs) (l + 1) (k + 1) y s plain.1.1.1.1 (omega (arith, free)) (omega (arith, room)) i)
        (goes_to (check (word_bounds f.shape) x u) (λ y. give (of_value x))) (codes (one (within k (word_bounds f.shape))) t)
        (checked_came p calls inst K kcalls fuel Cell Keep fr frame Set shape_of home_of site Bodies Library may Sees sees f (l + 1) k v x u t plain.1.0 plain.1.1.0 (held_less p calls inst K kcalls fuel Cell Keep fr frame Set shape_of home_of site Bodies Library may Sees sees (l + 2 + 2) (l + 1 + 1) k v x u t (omega arith) g))))
        (value p calls inst e (ticked w)) (codes (expr k e) v)
        (value_does e (l + 2) k (ticked w) v plain.1.1.1.0 free (omega (arith, room)) (ticked_less p calls inst K kcalls fuel Cell Keep fr frame Set shape_of home_of site Bodies Library may Sees sees l (l + 2) w v (omega arith) h)))
    given_do (tree.by_variable o tree.whole r rest) qs l k w v plain free room h =
        let f : ResolvedParameter = next_parameter qs in
        let others = actuals_code (names_in p inst) shape_of home_of site (k + 1) (drop 1 qs) rest in
        let first = unless_out f.mode (and_op (simple (fetch_on k (home_of o))) (one (within k (word_bounds f.shape)))) in
        rw (joined_does K kcalls fuel fr.width fr.fp fr.calls first others v)
        (came_then p calls inst K kcalls fuel Cell Keep fr frame Set shape_of home_of site Bodies Library may Sees sees f (λ a z. Whole p calls inst K kcalls fuel Cell Keep fr frame Set shape_of home_of site Bodies Library may Sees sees o r a k z) (tree.by_variable o tree.whole r rest) rest qs (l + suc (count_of rest)) (l + 1 + count_of rest) k (k + 1) (l + 1) v others
        (λ a xs y z s end_state came more. record {
          inside = inside_less Cell Keep fr Set (l + 1 + count_of rest) (l + suc (count_of rest)) z end_state (omega arith) more.inside;
          below = λ j lt. more.below j (omega (arith, lt)) ∙ came.below j lt;
          temporaries = (whole_stays p calls inst K kcalls fuel Cell Keep fr frame Set shape_of home_of site Bodies Library may Sees sees o r a k s end_state (more.below k (omega arith)) came.there, more.temporaries);
          for = (plain.0, (came.for, more.for));
          count = ap suc more.count;
        })
        (λ y s i. given_do rest (drop 1 qs) (l + 1) (k + 1) y s plain.1.1.1.1.1.1 (omega (arith, free)) (omega (arith, room)) i)
        (argument_of f.mode (word_bounds f.shape) (place_in p inst w.depth o) (bounds_in p inst r) (ticked w)) (codes first v)
        (whole_argument p calls inst K kcalls fuel Cell Keep fr frame Set shape_of home_of site Bodies Library may Sees sees f.mode plain.1.1.0 f refl plain.1.0 o r (l + 1) k (ticked w) v plain.1.1.1.0 plain.1.1.1.1.1.0 free (omega (arith, room, actuals_are_above (k + 1) rest))
        (ticked_less p calls inst K kcalls fuel Cell Keep fr frame Set shape_of home_of site Bodies Library may Sees sees l (l + 1 + 2) w v (omega arith) h)))
    given_do (tree.by_variable o (tree.component n parts) r rest) qs l k w v plain free room h =
        let small : k + 1 < fr.width = omega (arith, room, actuals_are_above (k + 2) rest) in
        part_given p calls inst K kcalls fuel Cell Keep fr frame Set shape_of home_of site Bodies Library may Sees sees o (tree.component n parts) r (tree.by_variable o (tree.component n parts) r rest) rest qs l k w v plain.1.0 plain.1.1.0 plain.1.1.1.1.1.0 free small
        (λ a xs y z s end_state came more. record {
          inside = inside_less Cell Keep fr Set (l + 1 + count_of rest) (l + suc (count_of rest)) z end_state (omega arith) more.inside;
          below = λ j lt. more.below j (omega (arith, lt)) ∙ came.below j lt;
          temporaries = (part_of_stays p calls inst K kcalls fuel Cell Keep fr frame Set shape_of home_of site Bodies Library may Sees sees (part_shape (shape_of o) (tree.component n parts)) r a k s end_state (more.below k (omega arith)) (more.below (k + 1) (omega arith)) came.there, more.temporaries);
          for = (plain.0, (came.for, more.for));
          count = ap suc more.count;
        })
        (λ y s i. given_do rest (drop 1 qs) (l + 1) (k + 2) y s plain.1.1.1.1.1.1 (omega (arith, free)) (omega (arith, room)) i)
        (place_does (tree.component n parts) (shape_of o) (l + 3) k v (ticked w) (with_slot fr.fp k (pos (address_at fr.fp (home_of o))) (paid 1 v)) (place_in p inst w.depth o)
        plain.1.1.1.1.0 free (omega (arith, room))
        (located_first p calls inst K kcalls fuel Cell Keep fr frame Set shape_of home_of site Bodies Library may Sees sees o (l + 3) k (ticked w) v plain.1.1.1.0 free (omega (arith, small)) (ticked_less p calls inst K kcalls fuel Cell Keep fr frame Set shape_of home_of site Bodies Library may Sees sees l (l + 3 + 1) w v (omega arith) h)))
    given_do (tree.by_variable o (tree.element t e parts) r rest) qs l k w v plain free room h =
        let small : k + 1 < fr.width = omega (arith, room, actuals_are_above (k + 2) rest) in
        part_given p calls inst K kcalls fuel Cell Keep fr frame Set shape_of home_of site Bodies Library may Sees sees o (tree.element t e parts) r (tree.by_variable o (tree.element t e parts) r rest) rest qs l k w v plain.1.0 plain.1.1.0 plain.1.1.1.1.1.0 free small
        (λ a xs y z s end_state came more. record {
          inside = inside_less Cell Keep fr Set (l + 1 + count_of rest) (l + suc (count_of rest)) z end_state (omega arith) more.inside;
          below = λ j lt. more.below j (omega (arith, lt)) ∙ came.below j lt;
          temporaries = (part_of_stays p calls inst K kcalls fuel Cell Keep fr frame Set shape_of home_of site Bodies Library may Sees sees (part_shape (shape_of o) (tree.element t e parts)) r a k s end_state (more.below k (omega arith)) (more.below (k + 1) (omega arith)) came.there, more.temporaries);
          for = (plain.0, (came.for, more.for));
          count = ap suc more.count;
        })
        (λ y s i. given_do rest (drop 1 qs) (l + 1) (k + 2) y s plain.1.1.1.1.1.1 (omega (arith, free)) (omega (arith, room)) i)
        (place_does (tree.element t e parts) (shape_of o) (l + 3) k v (ticked w) (with_slot fr.fp k (pos (address_at fr.fp (home_of o))) (paid 1 v)) (place_in p inst w.depth o)
        plain.1.1.1.1.0 free (omega (arith, room))
        (located_first p calls inst K kcalls fuel Cell Keep fr frame Set shape_of home_of site Bodies Library may Sees sees o (l + 3) k (ticked w) v plain.1.1.1.0 free (omega (arith, small)) (ticked_less p calls inst K kcalls fuel Cell Keep fr frame Set shape_of home_of site Bodies Library may Sees sees l (l + 3 + 1) w v (omega arith) h)))
    given_do (tree.by_composite o parts rest) qs l k w v plain free room h =
        composite_given p calls inst K kcalls fuel Cell Keep fr frame Set shape_of home_of site Bodies Library may Sees sees o parts (tree.by_composite o parts rest) rest qs l k w v plain.1.0 plain.1.1.1.1.0
        (λ a xs y z s end_state came more. record {
          inside = inside_less Cell Keep fr Set (l + 1 + count_of rest) (l + suc (count_of rest)) z end_state (omega arith) more.inside;
          below = λ j lt. more.below j (omega (arith, lt)) ∙ came.below j lt;
          temporaries = (composite_stays p calls inst K kcalls fuel Cell Keep fr frame Set shape_of home_of site Bodies Library may Sees sees (next_parameter qs).shape a k s end_state (more.below k (omega arith)) came.there, more.temporaries);
          for = (plain.0, (came.for, more.for));
          count = ap suc more.count;
        })
        (λ y s i. given_do rest (drop 1 qs) (l + 1) (k + 1) y s plain.1.1.1.1.1 (omega (arith, free)) (omega (arith, room)) i)
        (place_does parts (shape_of o) (l + 3) k v (ticked w) (with_slot fr.fp k (pos (address_at fr.fp (home_of o))) (paid 1 v)) (place_in p inst w.depth o)
        plain.1.1.1.0 free (omega (arith, room))
        (located_first p calls inst K kcalls fuel Cell Keep fr frame Set shape_of home_of site Bodies Library may Sees sees o (l + 3) k (ticked w) v plain.1.1.0 free (omega (arith, room, parts_are_above k parts)) (ticked_less p calls inst K kcalls fuel Cell Keep fr frame Set shape_of home_of site Bodies Library may Sees sees l (l + 3 + 1) w v (omega arith) h)))

    -- The walk over a test's nodes takes the edge of its outcome, which leads from the last of them.
    pub test_does : (d : tree.Label) (t : tree.Test) (on_true on_false : Edge) (rest : Nodes) (k at next l : ℕ) (steps : List Step) (start : kernel.World)
        → IsPlainTest p inst shape_of home_of site Bodies Sees t → fr.base ≤ k → end_of_test k t ≤ fr.width → next ≡ at + tree.conditions_of t
        → (w : World) (v : kernel.World) → In l w v → Below k start v
        → Tested p calls inst K kcalls fuel Cell Keep fr frame Set shape_of home_of site Bodies Library may Sees sees k (l + 4) start (ending_of p calls inst K kcalls fuel Cell Keep fr frame Set shape_of home_of site Bodies Library may Sees sees d k next rest on_true on_false) (test p calls inst t at steps w)
        (code.walks K kcalls fuel fr.width fr.fp fr.calls (record { 0 = d.number }) (record { 0 = inst }) k
        (nodes_code (names_in p inst) shape_of home_of site k t on_true on_false rest) at zero steps v)
    test_does d (tree.condition first e) on_true on_false rest k at next l steps start plain free room last w v h below =
        let longer : Bool → List Step = λ b. record { at_node = at; value = b } ∷ steps in
        let following : suc at ≡ next = omega (arith, last) in
        runs_then Stop (Held p calls inst K kcalls fuel Cell Keep fr frame Set shape_of home_of site Bodies Library may Sees sees (l + 2 + 2) k (paid 1 v)) (Tested p calls inst K kcalls fuel Cell Keep fr frame Set shape_of home_of site Bodies Library may Sees sees k (l + 4) start (ending_of p calls inst K kcalls fuel Cell Keep fr frame Set shape_of home_of site Bodies Library may Sees sees d k next rest on_true on_false)) (tested_stop p calls inst K kcalls fuel Cell Keep fr frame Set shape_of home_of site Bodies Library may Sees sees k (l + 4) start _)
        (λ x. give (record { outcome = is_true x; steps = longer (is_true x) }))
        (λ u. ending_of p calls inst K kcalls fuel Cell Keep fr frame Set shape_of home_of site Bodies Library may Sees sees d k (suc at) rest on_true on_false (is_true (slot_in fr.fp k u)) (longer (is_true (slot_in fr.fp k u))) u)
        (λ x u t g. record {
          v = t;
          inside = inside_less Cell Keep fr Set (l + 2 + 2) (l + 4) u t (omega arith) g.inside;
          below = λ j lt. g.below j lt ∙ below j lt;
          is = ap (λ y. ending_of p calls inst K kcalls fuel Cell Keep fr frame Set shape_of home_of site Bodies Library may Sees sees d k (suc at) rest on_true on_false (is_true y) (longer (is_true y)) t) g.slot
              ∙ ap (λ m. ending_of p calls inst K kcalls fuel Cell Keep fr frame Set shape_of home_of site Bodies Library may Sees sees d k m rest on_true on_false (is_true x) (longer (is_true x)) t) following;
        })
        (value p calls inst e (ticked w)) (codes (expr k e) (paid 1 v))
        (value_does e (l + 2) k (ticked w) (paid 1 v) plain free room
        (inside_paid Cell Keep fr Set 1 (l + 2) (ticked w) v (ticked_less p calls inst K kcalls fuel Cell Keep fr frame Set shape_of home_of site Bodies Library may Sees sees l (l + 2 + 1) w v (omega arith) h)))
    test_does d (tree.negation t) on_true on_false rest k at next l steps start plain free room last w v h below =
        tested_then p calls inst K kcalls fuel Cell Keep fr frame Set shape_of home_of site Bodies Library may Sees sees (Tested p calls inst K kcalls fuel Cell Keep fr frame Set shape_of home_of site Bodies Library may Sees sees k (l + 4) start (ending_of p calls inst K kcalls fuel Cell Keep fr frame Set shape_of home_of site Bodies Library may Sees sees d k next rest on_true on_false)) (tested_stop p calls inst K kcalls fuel Cell Keep fr frame Set shape_of home_of site Bodies Library may Sees sees k (l + 4) start _) k (l + 3 + 4) start
        (ending_of p calls inst K kcalls fuel Cell Keep fr frame Set shape_of home_of site Bodies Library may Sees sees d k next rest on_false on_true) (λ x. give (record { outcome = not x.outcome; steps = x.steps }))
        (λ outcome longer u s g same. record {
          v = s;
          inside = inside_less Cell Keep fr Set (l + 3 + 4) (l + 4) u s (omega arith) g;
          below = same;
          is = sym (exchanged p calls inst K kcalls fuel Cell Keep fr frame Set shape_of home_of site Bodies Library may Sees sees d k next rest on_true on_false outcome longer s);
        })
        _ _ (test_does d t on_false on_true rest k at next (l + 3) steps start plain free room last (ticked w) v (ticked_less p calls inst K kcalls fuel Cell Keep fr frame Set shape_of home_of site Bodies Library may Sees sees l (l + 3) w v (omega arith) h) below)
    test_does d (tree.operator true t u) on_true on_false rest k at next l steps start plain free room last w v h below =
        let middle = at + tree.conditions_of t in
        let right = nodes_code (names_in p inst) shape_of home_of site k u on_true on_false rest in
        tested_then p calls inst K kcalls fuel Cell Keep fr frame Set shape_of home_of site Bodies Library may Sees sees (Tested p calls inst K kcalls fuel Cell Keep fr frame Set shape_of home_of site Bodies Library may Sees sees k (l + 4) start (ending_of p calls inst K kcalls fuel Cell Keep fr frame Set shape_of home_of site Bodies Library may Sees sees d k next rest on_true on_false)) (tested_stop p calls inst K kcalls fuel Cell Keep fr frame Set shape_of home_of site Bodies Library may Sees sees k (l + 4) start _) k (l + 3 + 4) start
        (ending_of p calls inst K kcalls fuel Cell Keep fr frame Set shape_of home_of site Bodies Library may Sees sees d k middle right (edge.NodeAfter 0) (past (tree.conditions_of u) on_false)) (λ x. if x.outcome then test p calls inst u middle x.steps else give x)
        (by_outcome _
        (λ longer y s g same. tested_less p calls inst K kcalls fuel Cell Keep fr frame Set shape_of home_of site Bodies Library may Sees sees k (l + 3 + 4 + 4) (l + 4) start (ending_of p calls inst K kcalls fuel Cell Keep fr frame Set shape_of home_of site Bodies Library may Sees sees d k next rest on_true on_false) (omega arith) _ _
        (test_does d u on_true on_false rest k middle next (l + 3 + 4) longer start plain.1 free (omega (arith, room)) (omega (arith, last)) y s g same))
        (λ longer y s g same. record {
          v = s;
          inside = inside_less Cell Keep fr Set (l + 3 + 4) (l + 4) y s (omega arith) g;
          below = same;
          is = past_ends p calls inst K kcalls fuel Cell Keep fr frame Set shape_of home_of site Bodies Library may Sees sees u on_false on_true on_false rest d k k middle next longer s (omega (arith, last));
        }))
        _ _ (test_does d t (edge.NodeAfter 0) (past (tree.conditions_of u) on_false) right k at middle (l + 3) steps start plain.0 free (omega (arith, room)) refl
        (ticked w) v (ticked_less p calls inst K kcalls fuel Cell Keep fr frame Set shape_of home_of site Bodies Library may Sees sees l (l + 3) w v (omega arith) h) below)
    test_does d (tree.operator false t u) on_true on_false rest k at next l steps start plain free room last w v h below =
        let middle = at + tree.conditions_of t in
        let right = nodes_code (names_in p inst) shape_of home_of site k u on_true on_false rest in
        tested_then p calls inst K kcalls fuel Cell Keep fr frame Set shape_of home_of site Bodies Library may Sees sees (Tested p calls inst K kcalls fuel Cell Keep fr frame Set shape_of home_of site Bodies Library may Sees sees k (l + 4) start (ending_of p calls inst K kcalls fuel Cell Keep fr frame Set shape_of home_of site Bodies Library may Sees sees d k next rest on_true on_false)) (tested_stop p calls inst K kcalls fuel Cell Keep fr frame Set shape_of home_of site Bodies Library may Sees sees k (l + 4) start _) k (l + 3 + 4) start
        (ending_of p calls inst K kcalls fuel Cell Keep fr frame Set shape_of home_of site Bodies Library may Sees sees d k middle right (past (tree.conditions_of u) on_true) (edge.NodeAfter 0)) (λ x. if x.outcome then give x else test p calls inst u middle x.steps)
        (by_outcome _
        (λ longer y s g same. record {
          v = s;
          inside = inside_less Cell Keep fr Set (l + 3 + 4) (l + 4) y s (omega arith) g;
          below = same;
          is = past_ends p calls inst K kcalls fuel Cell Keep fr frame Set shape_of home_of site Bodies Library may Sees sees u on_true on_true on_false rest d k k middle next longer s (omega (arith, last));
        })
        (λ longer y s g same. tested_less p calls inst K kcalls fuel Cell Keep fr frame Set shape_of home_of site Bodies Library may Sees sees k (l + 3 + 4 + 4) (l + 4) start (ending_of p calls inst K kcalls fuel Cell Keep fr frame Set shape_of home_of site Bodies Library may Sees sees d k next rest on_true on_false) (omega arith) _ _
        (test_does d u on_true on_false rest k middle next (l + 3 + 4) longer start plain.1 free (omega (arith, room)) (omega (arith, last)) y s g same)))
        _ _ (test_does d t (past (tree.conditions_of u) on_true) (edge.NodeAfter 0) right k at middle (l + 3) steps start plain.0 free (omega (arith, room)) refl
        (ticked w) v (ticked_less p calls inst K kcalls fuel Cell Keep fr frame Set shape_of home_of site Bodies Library may Sees sees l (l + 3) w v (omega arith) h) below)
