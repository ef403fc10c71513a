-- The code that sets objects, by assignments and declarations.
use Rattle.std.proofs.Common.{◌≡◌, ◌≢◌, ℕ, ◌+◌, ◌<◌, ◌≤◌, ◌⊎◌, inl, inr, ℤ, pos, ◌+ℤ◌, Bool, true, false, FitsSigned, length, if◌then◌else◌, refl, ◌∙◌, arith}
use Rattle.std.specs.Int.{w32}
use Rattle.ada_meaning.specs.Arithmetic.{count_between, is_within}
use Rattle.ada_meaning.specs.Calls.{Calls, check}
use Rattle.ada_meaning.specs.Expressions.{value, place, named}
use Rattle.ada_meaning.specs.Program.{Bounds, Program}
use Rattle.ada_meaning.specs.Resolved.{bounds_in, place_in}
use Rattle.ada_meaning.specs.Shape.{Shape, word, row, group, Shapes, no_shape, and_shape, set_first}
use Rattle.ada_meaning.specs.State.{Place, part_at, Store, World, goes_to, done, raise, set_word, with_store, ◌>>◌}
use Rattle.ada_meaning.specs.Statements.{sets}
use Rattle.ada_meaning.specs.Tree as tree
use Rattle.ada_meaning.specs.Types as type
use Rattle.ada_resolved.specs.Sizes.{words}
use Rattle.kernel_ir.proofs.Joining.{joined_does}
use Rattle.kernel_ir.proofs.Memories.{with_slot_at, filled_other}
use Rattle.kernel_ir.specs.declared.kernel.Kernel.{Kernel}
use Rattle.kernel_ir.specs.declared.simple.Simple.TheVariants as op
use Rattle.kernel_ir.specs.Layouts.{content_in}
use Rattle.kernel_ir.specs.Meaning as code
use Rattle.kernel_ir.specs.Sequence.{joined}
use Rattle.kernel_ir.specs.Simple.{if_valid, filled}
use Rattle.kernel_ir.specs.Tree.{simple, Code, and_op}
use Rattle.kernel_ir.specs.World.{Memory, Ended, Ends, in_area, data_word, area_end, slot_word, slot_in, with_slot, with_word, with_memory, paid}
use Rattle.kernel_ir.specs.World as kernel
use Rattle.frame_widths.specs.Ends.{end_of, end_of_parts, end_of_value, end_of_assignment}
use Rattle.frame_widths.proofs.Above.{parts_are_above}
use Rattle.statement_code.specs.Names.{names_in}
use Rattle.statement_code.specs.Calls.{MayCall}
use Rattle.statement_code.specs.Cells.{Cells, Within, With}
use Rattle.statement_code.specs.Frames.{rate, Frame, IsFrame, Inside, Failed, Runs}
use Rattle.statement_code.specs.Sets.{left_at, set_code, IsPlainValue}
use Rattle.statement_code.specs.Statements.{keep_on, assign_at, assign_code, first_code, HasLayout}
use Rattle.statement_code.specs.Stores.{first_store, first_stores, first_content, HasWords, after}
use Rattle.statement_code.specs.Values.{one, within, Home, in_frame, in_library, address_at, address_on, part_shape, Stands, expr_code, parts_code, IsPlainExpr, ArePlainParts, SeesIn, Site}
use Rattle.statement_code.proofs.Frames.{ticked, observed, inside_ticked, inside_paid, inside_less, inside_fewer, worked, stored, runs_stop, runs_are, runs_then}
use Rattle.statement_code.proofs.Sets.{SetTo, set_does, stands_more, apart_from, not_below, set_keeps, each_store_keeps}
use Rattle.statement_code.proofs.Stores.{first_agrees, first_size, set_first_does}
use Rattle.statement_code.proofs.Operands.{in_area_is, word_cell, word_ends, Held, Located}
use Rattle.statement_code.proofs.Values.{value_does, place_does}
use Rattle.statement_code.proofs.Operands as operands

mutual
  pub first_keeps : (s : Shape) (q r : Place) (st : Store) → q.frame ≢ r.frame → first_store s q st r ≡ st r
  first_keeps (word b) q r st differ = set_keeps q r b.low st differ
  first_keeps (row b s) q r st differ =
      each_store_keeps (count_between b.low b.high) b.low (λ i. first_store s (part_at i q)) r (λ j x. first_keeps s (part_at j q) r x differ) st
  first_keeps (group ss) q r st differ = firsts_keep ss (pos 0) q r st differ

  firsts_keep : (ss : Shapes) (i : ℤ) (q r : Place) (st : Store) → q.frame ≢ r.frame → first_stores ss i q st r ≡ st r
  firsts_keep no_shape i q r st differ = refl
  firsts_keep (and_shape s ss) i q r st differ =
      firsts_keep ss (i +ℤ pos 1) q r (first_store s (part_at i q) st) differ ∙ first_keeps s (part_at i q) r st differ

module _ (p : Program) (calls : Calls) (inst : ℕ) (K : Kernel) (kcalls : code.Calls) (fuel : ℕ) (Cell : Cells) (Keep : ℕ → Type 0) (fr : Frame)
    (frame : IsFrame Cell Keep fr) (shape_of : tree.Object → Shape) (home_of : tree.Object → Home) (site : Site) (Bodies : Bool → ℕ → ℕ → Type 0) (Library : Cells)
    (may : MayCall p calls kcalls Library site Bodies Cell Keep fr) (Sees : tree.Object → Type 0) where
  abbrev codes : Code → kernel.World → Ended
  codes a v = code.does_code K kcalls fuel fr.width fr.fp fr.calls a v

  abbrev In : (ℕ → Type 0) → ℕ → World → kernel.World → Type 0
  In Set l w v = Inside Cell Keep fr Set l w v

  abbrev Stop : (ℕ → Type 0) → ℕ → World → kernel.World → Type 0
  Stop Set = Failed Cell Keep fr Set

  abbrev See : (ℕ → Type 0) → Type 0
  See Set = SeesIn p inst shape_of home_of site Bodies Sees (Within Cell Set) fr.fp fr.depth

  abbrev k : ℕ
  k = fr.base

  keep_is : (h : Home) (v : kernel.World) → codes (one (keep_on k h)) v ≡ Ends (with_memory (with_word (address_at fr.fp h) (slot_in fr.fp k v) v.memory) (paid 1 v))
  keep_is (in_frame j) v = refl
  keep_is (in_library n) v = refl

  -- a value is checked, and kept in an object of one word
  pub scalar_does : (Set : ℕ → Type 0) (l : ℕ) (h : Home) (b : Bounds) (x : ℤ) (q : Place) (w : World) (v : kernel.World) → 1 ≤ l → In Set l w v → slot_in fr.fp k v ≡ x
      → (is_within b x ≡ true → FitsSigned w32 x) → Cell q (address_at fr.fp h)
      → Runs {A = Unit {0}} (Stop Set) (λ u. In (With Set (address_at fr.fp h) 1) (l + 5)) (goes_to (check b x w) (λ u. set_word q x))
      (codes (and_op (simple (within k b)) (one (keep_on k h))) v)
  scalar_does Set l h b x q w v enough inside value fits cell = rw value (by_test (is_within b x) refl)
    where
      by_test : (t : Bool) → is_within b x ≡ t → Runs {A = Unit {0}} (Stop Set) (λ u. In (With Set (address_at fr.fp h) 1) (l + 5)) (goes_to ((if t then done else raise 1) w) (λ u. set_word q x))
          (kernel.goes_on (if_valid t (λ u. u) v) (codes (one (keep_on k h))))
      by_test false is = (
        refl,
        (
          (omega arith, omega (arith, frame.predefined)),
          inside_paid Cell Keep fr Set 1 0 w v (inside_less Cell Keep fr Set l (0 + 1) w v (omega (arith, enough)) inside),
        ),
      )
      by_test true is = rw (keep_is h (paid 1 v), value)
          (stored Cell Keep fr frame Set (l + 5) q (address_at fr.fp h) x (ticked w) (paid 1 (paid 1 v)) (fits is) cell
          (inside_paid Cell Keep fr Set 1 (l + 5) (ticked w) (paid 1 v) (inside_paid Cell Keep fr Set 1 (l + 5 + 1) (ticked w) v
          (inside_less Cell Keep fr Set (l + rate) (l + 5 + 1 + 1) (ticked w) v (omega arith) (inside_ticked Cell Keep fr Set l w v inside)))))

  -- an object of one word is set to the value of an expression
  whole_does : (Set : ℕ → Type 0) (see : See Set) (l : ℕ) (h : Home) (r : type.Range) (e : tree.Expr) (q : Place) (w : World) (v : kernel.World)
      → IsPlainExpr p inst shape_of home_of site Bodies Sees e → end_of k e ≤ fr.width → In Set l w v → Cell q (address_at fr.fp h)
      → Runs (Stop Set) (λ u. In (With Set (address_at fr.fp h) 1) l) (sets p calls fuel inst (tree.scalar_value r e) q w)
      (codes (joined (expr_code (names_in p inst) shape_of home_of site k e) (and_op (simple (within k (bounds_in p inst r))) (one (keep_on k h)))) v)
  whole_does Set see l h r e q w v plain room inside cell =
      let rest = and_op (simple (within k (bounds_in p inst r))) (one (keep_on k h)) in
      rw (joined_does K kcalls fuel fr.width fr.fp fr.calls (expr_code (names_in p inst) shape_of home_of site k e) rest v)
      (runs_then (Stop Set) (Held p calls inst K kcalls fuel Cell Keep fr frame Set shape_of home_of site Bodies Library may Sees see (l + 2) k v)
      (Runs (Stop Set) (λ u. In (With Set (address_at fr.fp h) 1) l)) (runs_stop (Stop Set) (λ u. In (With Set (address_at fr.fp h) 1) l))
      (λ x. check (bounds_in p inst r) x >> set_word q x) (codes rest)
      (λ x u m g. runs_are (Stop Set) (λ u. In (With Set (address_at fr.fp h) 1) (l + 2 + 5)) (Runs (Stop Set) (λ u. In (With Set (address_at fr.fp h) 1) l))
      (runs_stop (Stop Set) (λ u. In (With Set (address_at fr.fp h) 1) l))
      (λ t y n i. inside_less Cell Keep fr (With Set (address_at fr.fp h) 1) (l + 2 + 5) l y n (omega arith) i)
      (goes_to (check (bounds_in p inst r) x u) (λ t. set_word q x)) (codes rest m)
      (scalar_does Set (l + 2) h (bounds_in p inst r) x q u m (omega arith) g.inside g.slot (λ is. g.word) cell))
      (value p calls inst e (ticked w)) (codes (expr_code (names_in p inst) shape_of home_of site k e) v)
      (value_does p calls inst K kcalls fuel Cell Keep fr frame Set shape_of home_of site Bodies Library may Sees see e l k (ticked w) v plain (omega arith) room
      (inside_less Cell Keep fr Set (l + rate) l (ticked w) v (omega arith) (inside_ticked Cell Keep fr Set l w v inside))))

  -- an object is set by its address
  home_does : (Set : ℕ → Type 0) (see : See Set) (l : ℕ) (h : Home) (s : Shape) (x : tree.NewValue) (q : Place) (w : World) (v : kernel.World)
      → IsPlainValue p inst shape_of home_of site Bodies Sees s x → end_of_value (k + 1) x ≤ fr.width → k < fr.width → In Set (l + 1) w v → Stands Cell s q (address_at fr.fp h)
      → (q.frame ≡ 0) ⊎ (q.frame ≡ fr.depth)
      → Runs (Stop Set) (λ u. In (With Set (address_at fr.fp h) (words s)) l) (sets p calls fuel inst x q w)
      (codes (and_op (simple (address_on k h)) (set_code (names_in p inst) shape_of home_of site k (k + 1) s x)) v)
  home_does Set see l h s x q w v plain room small inside stands own =
      rw (operands.addressed_is p calls inst K kcalls fuel Cell Keep fr frame Set shape_of home_of site Bodies Library may Sees see h k (set_code (names_in p inst) shape_of home_of site k (k + 1) s x) v)
      (runs_are (Stop Set) (λ u. SetTo p calls inst K kcalls fuel Cell Keep fr frame shape_of home_of site Bodies Library may Sees (With Set (address_at fr.fp h) (words s)) (l + 5) k (k + 1)
      (left_at s x (address_at fr.fp h)) v1)
      (Runs (Stop Set) (λ u. In (With Set (address_at fr.fp h) (words s)) l)) (runs_stop (Stop Set) (λ u. In (With Set (address_at fr.fp h) (words s)) l))
      (λ u y m g. inside_less Cell Keep fr (With Set (address_at fr.fp h) (words s)) (l + 5) l y m (omega arith) g.inside)
      (sets p calls fuel inst x q w) (codes (set_code (names_in p inst) shape_of home_of site k (k + 1) s x) v1)
      (set_does p calls inst K kcalls fuel Cell Keep fr frame shape_of home_of site Bodies Library may Sees x s Set l k (k + 1) (address_at fr.fp h) q w v1 plain (omega arith) (omega arith) room see
      (worked Cell Keep fr frame Set l k (pos (address_at fr.fp h)) w (paid 1 v) (omega arith) small (inside_paid Cell Keep fr Set 1 l w v inside))
      (with_slot_at fr.fp k (pos (address_at fr.fp h)) (paid 1 v)) stands own))
    where
      v1 : kernel.World
      v1 = with_slot fr.fp k (pos (address_at fr.fp h)) (paid 1 v)

  -- an object is declared with a value
  pub declared_does : (Set : ℕ → Type 0) (see : See Set) (o : tree.Object) (x : tree.NewValue) (q : Place) (w : World) (v : kernel.World)
      → IsPlainValue p inst shape_of home_of site Bodies Sees (shape_of o) x → end_of_assignment k tree.whole x ≤ fr.width → In Set 1 w v → Stands Cell (shape_of o) q (address_at fr.fp (home_of o))
      → (q.frame ≡ 0) ⊎ (q.frame ≡ fr.depth)
      → Runs (Stop Set) (λ u. In (With Set (address_at fr.fp (home_of o)) (words (shape_of o))) 0) (sets p calls fuel inst x q w)
      (codes (assign_code (names_in p inst) shape_of home_of site k o tree.whole x) v)
  declared_does Set see o (tree.scalar_value r e) q w v plain room inside stands own =
      let single_word = word_ends (shape_of o) plain.0 in
      rw single_word (whole_does Set see 0 (home_of o) r e q w v plain.1 room (inside_less Cell Keep fr Set 1 0 w v (omega arith) inside)
      (word_cell Cell (shape_of o) q (address_at fr.fp (home_of o)) plain.0 stands.lies))
  declared_does Set see o (tree.composite_value t f parts) q w v plain room inside stands own =
      home_does Set see 0 (home_of o) (shape_of o) (tree.composite_value t f parts) q w v plain (omega (arith, room)) (omega (arith, room)) inside stands own
  declared_does Set see o (tree.others_value r x) q w v plain room inside stands own =
      home_does Set see 0 (home_of o) (shape_of o) (tree.others_value r x) q w v plain (omega (arith, room)) (omega (arith, room)) inside stands own

  -- a part of an object that is visible is set
  part_does : (Set : ℕ → Type 0) (see : See Set) (o : tree.Object) (parts : tree.Parts) (x : tree.NewValue) (w : World) (v : kernel.World) → Sees o
      → ArePlainParts p inst shape_of home_of site Bodies Sees (shape_of o) parts → IsPlainValue p inst shape_of home_of site Bodies Sees (part_shape (shape_of o) parts) x
      → end_of_parts k parts ≤ fr.width → end_of_value (k + 1) x ≤ fr.width → In Set 1 w v
      → Runs (Stop Set) (λ u. In Set 0) (goes_to (place p calls inst parts (place_in p inst w.depth o) w) (λ q. sets p calls fuel inst x q))
      (codes (assign_at (names_in p inst) shape_of home_of site k o parts x) v)
  part_does Set see o parts x w v seen plain fits room enough inside =
      let s : Shape = part_shape (shape_of o) parts in
      let small : k < fr.width = omega (arith, room, parts_are_above k parts) in
      let behind = set_code (names_in p inst) shape_of home_of site k (k + 1) s x in
      rw (
        operands.addressed_is p calls inst K kcalls fuel Cell Keep fr frame Set shape_of home_of site Bodies Library may Sees see (home_of o) k (joined (parts_code (names_in p inst) shape_of home_of site k (shape_of o) parts) behind) v,
        joined_does K kcalls fuel fr.width fr.fp fr.calls (parts_code (names_in p inst) shape_of home_of site k (shape_of o) parts) behind (with_slot fr.fp k (pos (address_at fr.fp (home_of o))) (paid 1 v)),
      )
      (runs_then (Stop Set) (Located p calls inst K kcalls fuel Cell Keep fr frame Set shape_of home_of site Bodies Library may Sees see s 0 k v) (Runs (Stop Set) (λ u. In Set 0))
      (runs_stop (Stop Set) (λ u. In Set 0)) (λ q. sets p calls fuel inst x q) (codes behind)
      (λ q u m g. runs_are (Stop Set) (λ t. SetTo p calls inst K kcalls fuel Cell Keep fr frame shape_of home_of site Bodies Library may Sees (With Set g.address (words s)) (0 + 5) k (k + 1) (left_at s x g.address) m)
      (Runs (Stop Set) (λ t. In Set 0)) (runs_stop (Stop Set) (λ t. In Set 0))
      (λ t y n i. inside_fewer Cell Keep fr (With Set g.address (words s)) Set 0 y n (λ c set. inl set)
      (inside_less Cell Keep fr (With Set g.address (words s)) (0 + 5) 0 y n (omega arith) i.inside))
      (sets p calls fuel inst x q u) (codes behind m)
      (set_does p calls inst K kcalls fuel Cell Keep fr frame shape_of home_of site Bodies Library may Sees x s Set 0 k (k + 1) g.address q u m fits (omega arith) (omega arith) enough see g.inside g.slot
      (stands_more (Within Cell Set) Cell (λ r c h. h.0) s q g.address g.stands) g.own))
      (place p calls inst parts (place_in p inst w.depth o) w)
      (codes (parts_code (names_in p inst) shape_of home_of site k (shape_of o) parts) (with_slot fr.fp k (pos (address_at fr.fp (home_of o))) (paid 1 v)))
      (place_does p calls inst K kcalls fuel Cell Keep fr frame Set shape_of home_of site Bodies Library may Sees see parts (shape_of o) 0 k v w
      (with_slot fr.fp k (pos (address_at fr.fp (home_of o))) (paid 1 v)) (place_in p inst w.depth o) plain (omega arith) room
      (operands.located_first p calls inst K kcalls fuel Cell Keep fr frame Set shape_of home_of site Bodies Library may Sees see o 0 k w v seen (omega arith) small inside)))

  -- an assignment
  pub assigned_does : (Set : ℕ → Type 0) (see : See Set) (o : tree.Object) (parts : tree.Parts) (x : tree.NewValue) (w : World) (v : kernel.World) → Sees o
      → ArePlainParts p inst shape_of home_of site Bodies Sees (shape_of o) parts → IsPlainValue p inst shape_of home_of site Bodies Sees (part_shape (shape_of o) parts) x
      → end_of_assignment k parts x ≤ fr.width → In Set 1 w v
      → Runs (Stop Set) (λ u. In Set 0) (goes_to (named p calls inst o parts w) (λ q. sets p calls fuel inst x q))
      (codes (assign_code (names_in p inst) shape_of home_of site k o parts x) v)
  assigned_does Set see o tree.whole (tree.scalar_value r e) w v seen plain fits room inside =
      let stands = operands.stands_now p calls inst K kcalls fuel Cell Keep fr frame Set shape_of home_of site Bodies Library may Sees see o 1 w v seen inside in
      runs_are (Stop Set) (λ u. In (With Set (address_at fr.fp (home_of o)) 1) 0) (Runs (Stop Set) (λ u. In Set 0)) (runs_stop (Stop Set) (λ u. In Set 0))
      (λ u y m g. inside_fewer Cell Keep fr (With Set (address_at fr.fp (home_of o)) 1) Set 0 y m (λ c set. inl set) g)
      (sets p calls fuel inst (tree.scalar_value r e) (place_in p inst w.depth o) w) (codes (assign_code (names_in p inst) shape_of home_of site k o tree.whole (tree.scalar_value r e)) v)
      (whole_does Set see 0 (home_of o) r e (place_in p inst w.depth o) w v fits.1 room (inside_less Cell Keep fr Set 1 0 w v (omega arith) inside)
      (word_cell Cell (shape_of o) (place_in p inst w.depth o) (address_at fr.fp (home_of o)) fits.0
      (stands_more (Within Cell Set) Cell (λ r c h. h.0) (shape_of o) (place_in p inst w.depth o) (address_at fr.fp (home_of o)) stands).lies))
  assigned_does Set see o tree.whole (tree.composite_value t f ps) w v seen plain fits room inside =
      part_does Set see o tree.whole (tree.composite_value t f ps) w v seen plain fits (omega (arith, room)) (omega (arith, room)) inside
  assigned_does Set see o tree.whole (tree.others_value r x) w v seen plain fits room inside =
      part_does Set see o tree.whole (tree.others_value r x) w v seen plain fits (omega (arith, room)) (omega (arith, room)) inside
  assigned_does Set see o (tree.component n parts) x w v seen plain fits room inside =
      part_does Set see o (tree.component n parts) x w v seen plain fits (omega (arith, room)) (omega (arith, room)) inside
  assigned_does Set see o (tree.element r e parts) x w v seen plain fits room inside =
      part_does Set see o (tree.element r e parts) x w v seen plain fits (omega (arith, room)) (omega (arith, room)) inside

  -- an object gets its first values by a layout
  filled_in : (Set : ℕ → Type 0) (l : ℕ) (s : Shape) (q : Place) (a : ℕ) (w : World) (v : kernel.World) → (q.frame ≡ 0) ⊎ (q.frame ≡ fr.depth) → HasWords s → Stands Cell s q a
      → In Set l w v
      → In (With Set a (words s)) l (with_store (first_store s q w.store) w) (with_memory (filled (first_content s).words a v.memory) v)
  filled_in Set l s q a w v own has stands h = record {
    depth_is = h.depth_is;
    input = h.input;
    agree = first_agrees Cell frame.apart s Set q a w.store v.memory has stands.lies h.agree;
    words = λ c keep. filled_other (first_content s).words a c v.memory (sized (apart_from Cell Keep fr frame s q a c stands.lies (λ r cell. frame.unkept r c cell keep))) ∙ h.words c keep;
    kept = λ r one less. first_keeps s q r w.store (not_below Cell Keep fr frame q r own one less) ∙ h.kept r one less;
    seen = h.seen;
  }
    where
      sized : {c : ℕ} → (c < a) ⊎ (a + words s ≤ c) → (c < a) ⊎ (a + length (first_content s).words ≤ c)
      sized (inl less) = inl less
      sized (inr le) = let size = first_size s in inr (omega (arith, le, size))

  fill_does : (Set : ℕ → Type 0) (s : Shape) (q : Place) (layout : ℕ) (h : Home) (w : World) (v : kernel.World) → content_in K.layouts layout ≡ first_content s → HasWords s
      → k < fr.width → Stands Cell s q (address_at fr.fp h) → (q.frame ≡ 0) ⊎ (q.frame ≡ fr.depth) → In Set 0 w v
      → Runs {A = Unit {0}} (Stop Set) (λ u. In (With Set (address_at fr.fp h) (words s)) 0) (set_first s q (ticked w)) (codes (and_op (simple (address_on k h)) (one (op.Fill k layout))) v)
  fill_does Set s q layout h w v content has small stands own inside =
      let size = first_size s in
      let set = with_slot_at fr.fp k (pos (address_at fr.fp h)) (paid 1 v) in
      rw (
        address_is h (one (op.Fill k layout)) v,
        set_first_does s q (ticked w),
        content,
        set,
        in_area_is (address_at fr.fp h) (length (first_content s).words) stands.low (omega (arith, stands.high, size)),
      )
      (filled_in Set 0 s q (address_at fr.fp h) (after w.store (first_content s).cost (ticked w)) (paid (1 + (first_content s).cost) (with_slot fr.fp k (pos (address_at fr.fp h)) (paid 1 v))) own has stands
      (worked Cell Keep fr frame Set 0 k (pos (address_at fr.fp h)) _ (paid (1 + (first_content s).cost) (paid 1 v)) (omega arith) small
      (observed Cell Keep fr Set 0 0 w v _ _ inside
      (record { events = inside.seen.events; output = inside.seen.output; cost = omega (arith, inside.seen.cost) }))))
    where
      address_is : (h : Home) (rest : Code) (v : kernel.World) → codes (and_op (simple (address_on k h)) rest) v ≡ codes rest (with_slot fr.fp k (pos (address_at fr.fp h)) (paid 1 v))
      address_is (in_frame j) rest v = refl
      address_is (in_library n) rest v = refl

  -- an object is declared without a value
  pub first_does : (Set : ℕ → Type 0) (s : Shape) (q : Place) (layout : ℕ) (h : Home) (w : World) (v : kernel.World) → HasLayout s (content_in K.layouts layout) → HasWords s
      → k < fr.width → Stands Cell s q (address_at fr.fp h) → (q.frame ≡ 0) ⊎ (q.frame ≡ fr.depth) → In Set 0 w v
      → Runs {A = Unit {0}} (Stop Set) (λ u. In (With Set (address_at fr.fp h) (words s)) 0) (set_first s q (ticked w)) (codes (first_code (names_in p inst) shape_of home_of site k s layout h) v)
  first_does Set (word b) q layout h w v content has small stands own inside =
      rw (keep_is h (with_slot fr.fp k b.low (paid 1 v)), with_slot_at fr.fp k b.low (paid 1 v))
      (stored Cell Keep fr frame Set 0 q (address_at fr.fp h) b.low (ticked (ticked w)) (paid 1 (with_slot fr.fp k b.low (paid 1 v))) has stands.lies
      (inside_paid Cell Keep fr Set 1 0 (ticked (ticked w)) (with_slot fr.fp k b.low (paid 1 v))
      (worked Cell Keep fr frame Set (0 + 1) k b.low (ticked (ticked w)) (paid 1 v) (omega arith) small
      (inside_paid Cell Keep fr Set 1 (0 + 1) (ticked (ticked w)) v
      (inside_less Cell Keep fr Set (0 + rate + rate) (0 + 1 + 1) (ticked (ticked w)) v (omega arith)
      (inside_ticked Cell Keep fr Set (0 + rate) (ticked w) v (inside_ticked Cell Keep fr Set 0 w v inside)))))))
  first_does Set (row b s) q layout h w v content has small stands own inside = fill_does Set (row b s) q layout h w v content has small stands own inside
  first_does Set (group ss) q layout h w v content has small stands own inside = fill_does Set (group ss) q layout h w v content has small stands own inside
