-- Parameters are copied back to their actuals.
use Rattle.std.proofs.Common.{◌≡◌, ◌≢◌, ◌==◌, ℕ, suc, ◌+◌, ◌-◌, ◌<◌, ◌≤◌, ◌⊎◌, inl, inr, ℤ, pos, Bool, true, false, FitsSigned, List, [], ◌∷◌, drop, length, if◌then◌else◌, refl, sym, ap, subst, ◌∙◌, arith}
use Rattle.std.proofs.lemmas.Bool.{ne_eqb}
use Rattle.std.specs.Int.{w32}
use Rattle.ada_meaning.specs.Arithmetic.{is_within}
use Rattle.ada_meaning.specs.Calls.{Argument, of_value, of_variable, of_both, of_composite, Calls, check, next_parameter, word_back, composite_back, copy_all_back}
use Rattle.ada_meaning.specs.Program.{Bounds, Mode, in_mode, out_mode, in_out_mode, Program}
use Rattle.ada_meaning.specs.Resolved.{ResolvedParameter, bounds_in, place_in, local_place}
use Rattle.ada_meaning.specs.Shape.{Shape, copy_parts}
use Rattle.ada_meaning.specs.State.{Place, same_place, set_at, World, Outcome, goes_to, Action, done, raise, set_word}
use Rattle.ada_meaning.specs.Tree as tree
use Rattle.ada_meaning.specs.Types as type
use Rattle.ada_resolved.specs.Sizes.{words}
use Rattle.kernel_ir.proofs.Joining.{joined_does}
use Rattle.kernel_ir.proofs.Memories.{with_word_other, copied_other}
use Rattle.kernel_ir.specs.declared.kernel.Kernel.{Kernel}
use Rattle.kernel_ir.specs.declared.simple.Simple.TheVariants as op
use Rattle.kernel_ir.specs.Meaning as code
use Rattle.kernel_ir.specs.Sequence.{joined}
use Rattle.kernel_ir.specs.Simple.{if_valid}
use Rattle.kernel_ir.specs.Tree.{simple, Code, and_op}
use Rattle.kernel_ir.specs.World.{Memory, Ended, Ends, data_word, area_end, slot_word, slot_in, with_word, with_memory, paid}
use Rattle.kernel_ir.specs.World as kernel
use Rattle.frame_widths.specs.Ends.{end_of_actuals}
use Rattle.frame_widths.proofs.Above.{end_is_above, actuals_are_above, parts_are_above}
use Rattle.statement_code.specs.Names.{names_in}
use Rattle.statement_code.specs.Calls.{MayCall, Inner, Returned, IsBack, Results}
use Rattle.statement_code.specs.Cells.{Cells, Lies, Within, With}
use Rattle.statement_code.specs.Frames.{rate, Frame, IsFrame, Inside, Failed, Runs}
use Rattle.statement_code.specs.Statements.{backs_code, copied_back, keep_on}
use Rattle.statement_code.specs.Values.{one, within, Home, in_frame, in_library, address_at, part_shape, Site, arguments, IsWord, Stands, SeesIn, ArePlainActuals}
use Rattle.statement_code.proofs.Across.{IsReadable, copy_across}
use Rattle.statement_code.proofs.Cells.{lies_more}
use Rattle.statement_code.proofs.Frames.{ticked, inside_ticked, inside_paid, inside_less, inside_fewer, stored, other_frame, runs_stop, runs_then}
use Rattle.statement_code.proofs.Sets.{stands_more, apart_from, not_below, copied_keeps, set_keeps, words_cost, costs_one}
use Rattle.statement_code.proofs.Stores.{copy_parts_do}
use Rattle.statement_code.proofs.Operands.{in_area_is, word_cell, word_ends}
use Rattle.statement_code.proofs.Arguments.{PartAt, Temporaries}
use Rattle.statement_code.proofs.Arguments as arguments

scalar_stays : (Library : Cells) (end inst depth : ℕ) (w u : World) (v t : kernel.World) → ((r : Place) → r.frame ≡ depth → u.store r ≡ w.store r) → (d i : ℕ)
    → slot_in end i t ≡ slot_in end i v
    → (slot_in end i v ≡ w.store (local_place inst depth d)) × FitsSigned w32 (w.store (local_place inst depth d))
    → (slot_in end i t ≡ u.store (local_place inst depth d)) × FitsSigned w32 (u.store (local_place inst depth d))
scalar_stays Library end inst depth w u v t stores d i slot h =
    let same : u.store (local_place inst depth d) ≡ w.store (local_place inst depth d) = stores (local_place inst depth d) refl in
    (slot ∙ (h.0 ∙ sym same), subst (FitsSigned w32) (sym same) h.1)

composite_stays : (Library : Cells) (end depth : ℕ) (w u : World) (v t : kernel.World) → ((r : Place) → r.frame ≡ depth → u.store r ≡ w.store r)
    → ((c : ℕ) → c < end → ((z : Place) → Library z c → ⊥) → t.memory c ≡ v.memory c) → (i : ℕ) (s : Shape) (q : Place) → slot_in end i t ≡ slot_in end i v
    → Returned Library end depth i s q w v → Returned Library end depth i s q u t
composite_stays Library end depth w u v t stores memories i s q slot h = record {
  address = h.address;
  holds = slot ∙ h.holds;
  lies = lies_more (Inner Library end depth w.store v.memory) (Inner Library end depth u.store t.memory) kept s q h.address h.lies;
  low = h.low;
  high = h.high;
}
  where
    kept : (r : Place) (c : ℕ) → Inner Library end depth w.store v.memory r c → Inner Library end depth u.store t.memory r c
    kept r c g =
        let same : u.store r ≡ w.store r = stores r g.1.0 in
        ((memories c g.1.1.0 g.1.1.1 ∙ (g.0.0 ∙ sym same), subst (FitsSigned w32) (sym same) g.0.1), g.1)

back_stays : (m : Mode) (P Q : Type 0) → (P → Q) → IsBack m P → IsBack m Q
back_stays in_mode P Q f h = h
back_stays out_mode P Q f h = f h
back_stays in_out_mode P Q f h = f h

-- what a callee left stays so where its places and words do
results_stay : (Library : Cells) (end inst depth : ℕ) (w u : World) (v t : kernel.World) → ((r : Place) → r.frame ≡ depth → u.store r ≡ w.store r)
    → ((c : ℕ) → c < end → ((z : Place) → Library z c → ⊥) → t.memory c ≡ v.memory c)
    → (qs : List ResolvedParameter) (xs : List Argument) (i : ℕ) → ((k : ℕ) → i ≤ k → k < i + length xs → slot_in end k t ≡ slot_in end k v)
    → Results Library end inst depth i qs xs w v → Results Library end inst depth i qs xs u t
results_stay Library end inst depth w u v t stores memories qs [] i slots h = record {}
results_stay Library end inst depth w u v t stores memories qs (of_value x ∷ xs) i slots h =
    results_stay Library end inst depth w u v t stores memories (drop 1 qs) xs (i + 1) (λ k le lt. slots k (omega (arith, le)) (omega (arith, lt))) h
results_stay Library end inst depth w u v t stores memories qs (of_variable q b ∷ xs) i slots h = (
  scalar_stays Library end inst depth w u v t stores (next_parameter qs).declaration i (slots i (omega arith) (omega arith)) h.0,
  results_stay Library end inst depth w u v t stores memories (drop 1 qs) xs (i + 1) (λ k le lt. slots k (omega (arith, le)) (omega (arith, lt))) h.1,
)
results_stay Library end inst depth w u v t stores memories qs (of_both q b x ∷ xs) i slots h = (
  scalar_stays Library end inst depth w u v t stores (next_parameter qs).declaration i (slots i (omega arith) (omega arith)) h.0,
  results_stay Library end inst depth w u v t stores memories (drop 1 qs) xs (i + 1) (λ k le lt. slots k (omega (arith, le)) (omega (arith, lt))) h.1,
)
results_stay Library end inst depth w u v t stores memories qs (of_composite q ∷ xs) i slots h = (
  back_stays (next_parameter qs).mode _ _ (λ r. composite_stays Library end depth w u v t stores memories i (next_parameter qs).shape (local_place inst depth (next_parameter qs).declaration)
      (slots i (omega arith) (omega arith)) r) h.0,
  results_stay Library end inst depth w u v t stores memories (drop 1 qs) xs (i + 1) (λ k le lt. slots k (omega (arith, le)) (omega (arith, lt))) h.1,
)

module _ (p : Program) (calls : Calls) (inst : ℕ) (K : Kernel) (kcalls : code.Calls) (fuel : ℕ) (Cell : Cells) (Keep : ℕ → Type 0) (fr : Frame)
    (frame : IsFrame Cell Keep fr) (Set : ℕ → Type 0) (shape_of : tree.Object → Shape) (home_of : tree.Object → Home) (site : Site) (Bodies : Bool → ℕ → ℕ → Type 0)
    (Library : Cells) (may : MayCall p calls kcalls Library site Bodies Cell Keep fr) (Sees : tree.Object → Type 0)
    (sees : SeesIn p inst shape_of home_of site Bodies Sees (Within Cell Set) fr.fp fr.depth) where
  abbrev pub In : ℕ → World → kernel.World → Type 0
  In l w v = Inside Cell Keep fr Set l w v

  abbrev pub Stop : ℕ → World → kernel.World → Type 0
  Stop = Failed Cell Keep fr Set

  abbrev pub codes : Code → kernel.World → Ended
  codes a v = code.does_code K kcalls fuel fr.width fr.fp fr.calls a v

  abbrev pub end : ℕ
  end = fr.fp - fr.width

  behind_slot : (j : ℕ) → slot_word end j ≡ slot_word fr.fp (fr.width + j)
  behind_slot j = omega arith

  abbrev IsOwn : Place → Type 0
  IsOwn q = (q.frame ≡ 0) ⊎ (q.frame ≡ fr.depth)

  abbrev pub Came : (k : ℕ) → List ResolvedParameter → tree.Actuals → List Argument → kernel.World → Type 0
  Came k qs actuals xs v = Temporaries p calls inst K kcalls fuel Cell Keep fr frame Set shape_of home_of site Bodies Library may Sees sees k qs actuals xs v

  abbrev PartHere : (k : ℕ) → Shape → Place → kernel.World → Type 0
  PartHere k s q v = PartAt p calls inst K kcalls fuel Cell Keep fr frame Set shape_of home_of site Bodies Library may Sees sees k s q v

  -- what a copy back leaves as it was
  record Spares (w : World) (v : kernel.World) (u : World) (t : kernel.World) : Type 0 where
    pub stores : (r : Place) → r.frame ≡ suc fr.depth → u.store r ≡ w.store r
    pub memories : (c : ℕ) → c < end → ((z : Place) → Library z c → ⊥) → t.memory c ≡ v.memory c
    pub slots : (m : ℕ) → fr.base ≤ m → m < fr.width + arguments → slot_in fr.fp m t ≡ slot_in fr.fp m v

  not_callee : (q r : Place) → IsOwn q → r.frame ≡ suc fr.depth → q.frame ≢ r.frame
  not_callee q r (inl is) there e = omega (arith, is, there, e)
  not_callee q r (inr is) there e = omega (arith, is, there, e)

  -- a cell is none of the callee's words
  cell_above : (q : Place) (a c : ℕ) → Cell q a → IsOwn q → c < end → ((z : Place) → Library z c → ⊥) → c ≢ a
  cell_above q a c cell (inl is) less none e = none q (subst (Library q) (sym e) (may.calling.shared q a cell is))
  cell_above q a c cell (inr is) less none e = let low = may.calling.local q a cell is in omega (arith, low, less, e)

  spares_cell : (q : Place) (a : ℕ) (x : ℤ) (w u : World) (v t : kernel.World) → Cell q a → IsOwn q → u.store ≡ set_at q x w.store → t.memory ≡ with_word a x v.memory → Spares w v u t
  spares_cell q a x w u v t cell own store memory = record {
    stores = λ r there. ap (λ f. f r) store ∙ set_keeps q r x w.store (not_callee q r own there);
    memories = λ c less none. ap (λ f. f c) memory ∙ with_word_other a c x v.memory (cell_above q a c cell own less none);
    slots = λ m free room. ap (λ f. f (slot_word fr.fp m)) memory ∙ with_word_other a (slot_word fr.fp m) x v.memory (λ e. frame.free q a m cell free room (sym e));
  }

  -- a checked value goes back to a whole object, or to a part whose address stands in a slot
  abbrev Wrote : (l : ℕ) → World → kernel.World → Unit {0} → World → kernel.World → Type 0
  Wrote l w v a u t = In l u t × Spares w v u t

  scalar_back : (l n : ℕ) (h : Home) (b : Bounds) (x : ℤ) (q : Place) (w : World) (v : kernel.World) → In (l + 1) w v → slot_in fr.fp n v ≡ x → FitsSigned w32 x
      → Cell q (address_at fr.fp h) → IsOwn q
      → Runs Stop (Wrote (l + 1) w v) (goes_to (check b x w) (λ u. set_word q x)) (codes (and_op (simple (within n b)) (one (keep_on n h))) v)
  scalar_back l n h b x q w v inside value fits cell own = rw value (by_test (is_within b x))
    where
      keep_is : (h : Home) (m : kernel.World) → codes (one (keep_on n h)) m ≡ Ends (with_memory (with_word (address_at fr.fp h) (slot_in fr.fp n m) m.memory) (paid 1 m))
      keep_is (in_frame j) m = refl
      keep_is (in_library j) m = refl

      by_test : (t : Bool) → Runs Stop (Wrote (l + 1) w v) (goes_to ((if t then done else raise 1) w) (λ u. set_word q x)) (kernel.goes_on (if_valid t (λ u. u) v) (codes (one (keep_on n h))))
      by_test false = (
        refl,
        (
          (omega arith, omega (arith, frame.predefined)),
          inside_paid Cell Keep fr Set 1 0 w v (inside_less Cell Keep fr Set (l + 1) (0 + 1) w v (omega arith) inside),
        ),
      )
      by_test true = rw (keep_is h (paid 1 v), value) (
        inside_fewer Cell Keep fr (With Set (address_at fr.fp h) 1) Set (l + 1) _ _ (λ c set. inl set)
            (stored Cell Keep fr frame Set (l + 1) q (address_at fr.fp h) x (ticked w) (paid 1 (paid 1 v)) fits cell
            (inside_paid Cell Keep fr Set 1 (l + 1) (ticked w) (paid 1 v) (inside_paid Cell Keep fr Set 1 (l + 1 + 1) (ticked w) v
            (inside_less Cell Keep fr Set (l + 1 + rate) (l + 1 + 1 + 1) (ticked w) v (omega arith) (inside_ticked Cell Keep fr Set (l + 1) w v inside))))),
        spares_cell q (address_at fr.fp h) x w _ v _ cell own refl refl,
      )

  part_back : (l n k a : ℕ) (b : Bounds) (x : ℤ) (q : Place) (w : World) (v : kernel.World) → In (l + 1) w v → slot_in fr.fp n v ≡ x → FitsSigned w32 x → slot_in fr.fp k v ≡ pos a
      → Cell q a → IsOwn q → data_word ≤ a → a + 1 ≤ area_end
      → Runs Stop (Wrote (l + 1) w v) (goes_to (check b x w) (λ u. set_word q x)) (codes (and_op (simple (within n b)) (one (op.Store k n))) v)
  part_back l n k a b x q w v inside value fits here cell own low high = rw value (by_test (is_within b x))
    where
      by_test : (t : Bool) → Runs Stop (Wrote (l + 1) w v) (goes_to ((if t then done else raise 1) w) (λ u. set_word q x)) (kernel.goes_on (if_valid t (λ u. u) v) (codes (one (op.Store k n))))
      by_test false = (
        refl,
        (
          (omega arith, omega (arith, frame.predefined)),
          inside_paid Cell Keep fr Set 1 0 w v (inside_less Cell Keep fr Set (l + 1) (0 + 1) w v (omega arith) inside),
        ),
      )
      by_test true = rw (here, value, in_area_is a 1 low high) (
        inside_fewer Cell Keep fr (With Set a 1) Set (l + 1) _ _ (λ c set. inl set)
            (stored Cell Keep fr frame Set (l + 1) q a x (ticked w) (paid 1 (paid 1 v)) fits cell
            (inside_paid Cell Keep fr Set 1 (l + 1) (ticked w) (paid 1 v) (inside_paid Cell Keep fr Set 1 (l + 1 + 1) (ticked w) v
            (inside_less Cell Keep fr Set (l + 1 + rate) (l + 1 + 1 + 1) (ticked w) v (omega arith) (inside_ticked Cell Keep fr Set (l + 1) w v inside))))),
        spares_cell q a x w _ v _ cell own refl refl,
      )

  -- a composite parameter goes back to an object whose address stands in a slot
  composite_back_does : (l n k a b : ℕ) (s : Shape) (from q : Place) (w : World) (v : kernel.World) → In (l + 1) w v → slot_in fr.fp n v ≡ pos b → slot_in fr.fp k v ≡ pos a
      → Lies (Inner Library end (suc fr.depth) w.store v.memory) s from b → data_word ≤ b → b + words s ≤ area_end → Stands Cell s q a → IsOwn q
      → Runs Stop (Wrote (l + 1) w v) (copy_parts s from q w) (codes (one (op.Copy k n (words s))) v)
  composite_back_does l n k a b s from q w v inside value here lies low high stands own =
      rw (copy_parts_do s from q w, here, value, in_area_is a (words s) stands.low stands.high, in_area_is b (words s) low high) (
        inside_fewer Cell Keep fr (With Set a (words s)) Set (l + 1) _ _ (λ c set. inl set) (record {
          depth_is = inside.depth_is;
          input = inside.input;
          agree = copy_across Cell frame.apart Set s from b w.store v.memory readable q a stands.lies inside.agree;
          words = λ c keep. copied_other (words s) b a c v.memory (apart_from Cell Keep fr frame s q a c stands.lies (λ r cell. frame.unkept r c cell keep)) ∙ inside.words c keep;
          kept = λ r one less. copied_keeps s from q r w.store (not_below Cell Keep fr frame q r own one less) ∙ inside.kept r one less;
          seen = record { events = inside.seen.events; output = inside.seen.output; cost = omega (arith, inside.seen.cost, words_cost s, costs_one s) };
        }),
        record {
          stores = λ r there. copied_keeps s from q r w.store (not_callee q r own there);
          memories = λ c less none. copied_other (words s) b a c v.memory (apart_from Cell Keep fr frame s q a c stands.lies (λ r cell. cell_above r c c cell (frame.own r c cell) less none refl));
          slots = λ m free room. copied_other (words s) b a (slot_word fr.fp m) v.memory
              (apart_from Cell Keep fr frame s q a (slot_word fr.fp m) stands.lies (λ r cell. frame.free r (slot_word fr.fp m) m cell free room refl));
        },
      )
    where
      separate : (r : Place) (c : ℕ) (z : Place) (d : ℕ) → (r.frame ≡ suc fr.depth) × ((c < end) × ((y : Place) → Library y c → ⊥)) → Cell z d
          → (same_place r z ≡ (d == c)) × (same_place z r ≡ (c == d))
      separate r c z d g cell =
          let differ : c ≢ d = cell_above z d c cell (frame.own z d cell) g.1.0 g.1.1 in (
            other_frame z r (λ e. not_callee z r (frame.own z d cell) g.0 (sym e)) ∙ sym (ne_eqb d c (λ e. differ (sym e))),
            other_frame r z (not_callee z r (frame.own z d cell) g.0) ∙ sym (ne_eqb c d differ),
          )

      readable : Lies (IsReadable Cell w.store v.memory) s from b
      readable = lies_more (Inner Library end (suc fr.depth) w.store v.memory) (IsReadable Cell w.store v.memory) (λ r c g. (g.0, λ z d cell. separate r c z d g.1 cell)) s from b lies

  -- actuals keep what they came to
  pub temporaries_stay : (actuals : tree.Actuals) (qs : List ResolvedParameter) (xs : List Argument) (k : ℕ) (v t : kernel.World)
      → ((m : ℕ) → k ≤ m → m < fr.width → slot_in fr.fp m t ≡ slot_in fr.fp m v) → end_of_actuals k actuals ≤ fr.width → Came k qs actuals xs v → Came k qs actuals xs t
  temporaries_stay tree.no_actual qs [] k v t same room h = h
  temporaries_stay tree.no_actual qs (x ∷ xs) k v t same room h = absurd h
  temporaries_stay (tree.by_expression e rest) qs [] k v t same room h = absurd h
  temporaries_stay (tree.by_expression e rest) qs (x ∷ xs) k v t same room h = (
    arguments.single_stays p calls inst K kcalls fuel Cell Keep fr frame Set shape_of home_of site Bodies Library may Sees sees x k v t (same k (omega arith) (omega (arith, room, end_is_above k e))) h.0,
    temporaries_stay rest (drop 1 qs) xs (k + 1) v t (λ m le lt. same m (omega (arith, le)) lt) (omega (arith, room)) h.1,
  )
  temporaries_stay (tree.by_variable o tree.whole r rest) qs [] k v t same room h = absurd h
  temporaries_stay (tree.by_variable o (tree.component n parts) r rest) qs [] k v t same room h = absurd h
  temporaries_stay (tree.by_variable o (tree.element d e parts) r rest) qs [] k v t same room h = absurd h
  temporaries_stay (tree.by_variable o tree.whole r rest) qs (x ∷ xs) k v t same room h = (
    arguments.whole_stays p calls inst K kcalls fuel Cell Keep fr frame Set shape_of home_of site Bodies Library may Sees sees o r x k v t
        (same k (omega arith) (omega (arith, room, actuals_are_above (k + 1) rest))) h.0,
    temporaries_stay rest (drop 1 qs) xs (k + 1) v t (λ m le lt. same m (omega (arith, le)) lt) (omega (arith, room)) h.1,
  )
  temporaries_stay (tree.by_variable o (tree.component n parts) r rest) qs (x ∷ xs) k v t same room h = (
    arguments.part_of_stays p calls inst K kcalls fuel Cell Keep fr frame Set shape_of home_of site Bodies Library may Sees sees (part_shape (shape_of o) (tree.component n parts)) r x k v t
        (same k (omega arith) (omega (arith, room, actuals_are_above (k + 2) rest))) (same (k + 1) (omega arith) (omega (arith, room, actuals_are_above (k + 2) rest))) h.0,
    temporaries_stay rest (drop 1 qs) xs (k + 2) v t (λ m le lt. same m (omega (arith, le)) lt) (omega (arith, room)) h.1,
  )
  temporaries_stay (tree.by_variable o (tree.element d e parts) r rest) qs (x ∷ xs) k v t same room h = (
    arguments.part_of_stays p calls inst K kcalls fuel Cell Keep fr frame Set shape_of home_of site Bodies Library may Sees sees (part_shape (shape_of o) (tree.element d e parts)) r x k v t
        (same k (omega arith) (omega (arith, room, actuals_are_above (k + 2) rest))) (same (k + 1) (omega arith) (omega (arith, room, actuals_are_above (k + 2) rest))) h.0,
    temporaries_stay rest (drop 1 qs) xs (k + 2) v t (λ m le lt. same m (omega (arith, le)) lt) (omega (arith, room)) h.1,
  )
  temporaries_stay (tree.by_composite o parts rest) qs [] k v t same room h = absurd h
  temporaries_stay (tree.by_composite o parts rest) qs (x ∷ xs) k v t same room h = (
    arguments.composite_stays p calls inst K kcalls fuel Cell Keep fr frame Set shape_of home_of site Bodies Library may Sees sees (next_parameter qs).shape x k v t
        (same k (omega arith) (omega (arith, room, parts_are_above k parts))) h.0,
    temporaries_stay rest (drop 1 qs) xs (k + 1) v t (λ m le lt. same m (omega (arith, le)) lt) (omega (arith, room)) h.1,
  )

  -- the code that copies back, from a frame of this width
  abbrev pub backs_of : (k i : ℕ) → List ResolvedParameter → tree.Actuals → Code
  backs_of k i qs actuals = backs_code (names_in p inst) shape_of home_of (record { width = fr.width; body = site.body }) k i qs actuals

  own_place : (o : tree.Object) → IsOwn (place_in p inst fr.depth o)
  own_place (tree.library_object g m) = inl refl
  own_place (tree.local_object m) = inr refl

  -- the callee's parameters, in an instance
  module _ (j : ℕ) where
    abbrev pub Stay : (i : ℕ) → List ResolvedParameter → List Argument → World → kernel.World → Type 0
    Stay i qs xs w v = Results Library end j (suc fr.depth) i qs xs w v

    results_spared : (qs : List ResolvedParameter) (xs : List Argument) (i : ℕ) (w u : World) (v t : kernel.World) → i + length xs ≤ arguments → fr.base ≤ fr.width → Spares w v u t
        → Stay i qs xs w v → Stay i qs xs u t
    results_spared qs xs i w u v t few wide sp h =
        results_stay Library end j (suc fr.depth) w u v t sp.stores sp.memories qs xs i
        (λ m le lt. ap t.memory (behind_slot m) ∙ (sp.slots (fr.width + m) (omega (arith, wide)) (omega (arith, lt, few)) ∙ sym (ap v.memory (behind_slot m)))) h

    -- one goes back, and then the others
    back_then : (first others : Code) (rest : Action (Unit {0})) (l : ℕ) (w : World) (v : kernel.World) (r : Outcome (Unit {0}))
        → Runs Stop (Wrote (l + 1) w v) r (codes first v)
        → ((u : World) (t : kernel.World) → In (l + 1) u t → Spares w v u t → Runs {A = Unit {0}} Stop (λ x. In (l + 1)) (rest u) (codes others t))
        → Runs {A = Unit {0}} Stop (λ x. In (l + 1)) (goes_to r (λ x. rest)) (codes (joined first others) v)
    back_then first others rest l w v r h next =
        rw (joined_does K kcalls fuel fr.width fr.fp fr.calls first others v)
        (runs_then Stop (Wrote (l + 1) w v) (Runs Stop (λ x. In (l + 1))) (runs_stop Stop (λ x. In (l + 1))) (λ x. rest) (codes others)
        (λ x u t g. next u t g.0 g.1) r (codes first v) h)

    abbrev callee_place : ResolvedParameter → Place
    callee_place f = local_place j (suc fr.depth) f.declaration

    -- a whole object of one word
    whole_back : (o : tree.Object) (r : type.Range) (f : ResolvedParameter) (l i : ℕ) (q : Place) (b : Bounds) (w : World) (v : kernel.World) → Sees o → IsWord (shape_of o)
        → (q ≡ place_in p inst fr.depth o) × (b ≡ bounds_in p inst r) → In (l + 1) w v
        → (slot_in end i v ≡ w.store (callee_place f)) × FitsSigned w32 (w.store (callee_place f))
        → Runs Stop (Wrote (l + 1) w v) (word_back (callee_place f) q b w)
        (codes (and_op (simple (within (fr.width + i) (bounds_in p inst r))) (one (keep_on (fr.width + i) (home_of o)))) v)
    whole_back o r f l i q b w v seen one_word is h value =
        rw (is.0, is.1)
        (scalar_back l (fr.width + i) (home_of o) (bounds_in p inst r) (w.store (callee_place f)) (place_in p inst fr.depth o) w v h (sym (ap v.memory (behind_slot i)) ∙ value.0) value.1
        (word_cell Cell (shape_of o) (place_in p inst fr.depth o) (address_at fr.fp (home_of o)) one_word
        (stands_more (Within Cell Set) Cell (λ z c g. g.0) (shape_of o) (place_in p inst fr.depth o) (address_at fr.fp (home_of o)) (sees o seen)).lies) (own_place o))

    -- a part of an object
    one_part_back : (s : Shape) (r : type.Range) (f : ResolvedParameter) (l k i : ℕ) (q : Place) (b : Bounds) (w : World) (v : kernel.World) → IsWord s
        → PartHere k s q v × (b ≡ bounds_in p inst r) → In (l + 1) w v → (slot_in end i v ≡ w.store (callee_place f)) × FitsSigned w32 (w.store (callee_place f))
        → Runs Stop (Wrote (l + 1) w v) (word_back (callee_place f) q b w)
        (codes (and_op (simple (within (fr.width + i) (bounds_in p inst r))) (one (op.Store k (fr.width + i)))) v)
    one_part_back s r f l k i q b w v one_word is h value =
        let single_word = word_ends s one_word in
        rw is.1
        (part_back l (fr.width + i) k is.0.address (bounds_in p inst r) (w.store (callee_place f)) q w v h (sym (ap v.memory (behind_slot i)) ∙ value.0) value.1 is.0.slot
        (word_cell Cell s q is.0.address one_word (stands_more (Within Cell Set) Cell (λ z c g. g.0) s q is.0.address is.0.stands).lies) is.0.own is.0.stands.low
        (omega (arith, is.0.stands.high, single_word)))

    -- a composite object
    object_back : (m : Mode) (s : Shape) (f : ResolvedParameter) (l k i : ℕ) (q : Place) (w : World) (v : kernel.World) → PartHere k s q v
        → IsBack m (Returned Library end (suc fr.depth) i s (callee_place f) w v) → In (l + 1) w v
        → Runs Stop (Wrote (l + 1) w v) (composite_back m s (callee_place f) q w) (codes (copied_back m (one (op.Copy k (fr.width + i) (words s)))) v)
    object_back in_mode s f l k i q w v here back h = (h, record { stores = λ r there. refl; memories = λ c less none. refl; slots = λ m free room. refl })
    object_back out_mode s f l k i q w v here back h =
        composite_back_does l (fr.width + i) k here.address back.address s (callee_place f) q w v h (sym (ap v.memory (behind_slot i)) ∙ back.holds) here.slot back.lies back.low back.high
        (stands_more (Within Cell Set) Cell (λ z c g. g.0) s q here.address here.stands) here.own
    object_back in_out_mode s f l k i q w v here back h =
        composite_back_does l (fr.width + i) k here.address back.address s (callee_place f) q w v h (sym (ap v.memory (behind_slot i)) ∙ back.holds) here.slot back.lies back.low back.high
        (stands_more (Within Cell Set) Cell (λ z c g. g.0) s q here.address here.stands) here.own

    -- all parameters go back, in order
    pub backs_do : (actuals : tree.Actuals) (qs : List ResolvedParameter) (xs : List Argument) (k i l : ℕ) (w : World) (v : kernel.World)
        → ArePlainActuals p inst shape_of home_of site Bodies Sees qs actuals → fr.base ≤ k → fr.base ≤ fr.width → end_of_actuals k actuals ≤ fr.width → i + length xs ≤ arguments
        → Came k qs actuals xs v → Stay i qs xs w v → In (l + 1) w v
        → Runs {A = Unit {0}} Stop (λ u. In (l + 1)) (copy_all_back j (suc fr.depth) qs xs w) (codes (backs_of k i qs actuals) v)
    backs_do tree.no_actual qs [] k i l w v plain free wide room few came stay h = h
    backs_do tree.no_actual qs (x ∷ xs) k i l w v plain free wide room few came stay h = absurd came
    backs_do (tree.by_expression e rest) qs [] k i l w v plain free wide room few came stay h = absurd came
    backs_do (tree.by_expression e rest) qs (of_value x ∷ xs) k i l w v plain free wide room few came stay h =
        backs_do rest (drop 1 qs) xs (k + 1) (i + 1) l w v plain.1.1.1.1 (omega (arith, free)) wide (omega (arith, room)) (omega (arith, few)) came.1 stay h
    backs_do (tree.by_expression e rest) qs (of_variable q b ∷ xs) k i l w v plain free wide room few came stay h = absurd came.0
    backs_do (tree.by_expression e rest) qs (of_both q b x ∷ xs) k i l w v plain free wide room few came stay h = absurd came.0
    backs_do (tree.by_expression e rest) qs (of_composite q ∷ xs) k i l w v plain free wide room few came stay h = absurd came.0
    backs_do (tree.by_variable o tree.whole r rest) qs [] k i l w v plain free wide room few came stay h = absurd came
    backs_do (tree.by_variable o tree.whole r rest) qs (of_value x ∷ xs) k i l w v plain free wide room few came stay h = absurd came.0
    backs_do (tree.by_variable o tree.whole r rest) qs (of_composite q ∷ xs) k i l w v plain free wide room few came stay h = absurd came.0
    backs_do (tree.by_variable o tree.whole r rest) qs (of_variable q b ∷ xs) k i l w v plain free wide room few came stay h =
        back_then (and_op (simple (within (fr.width + i) (bounds_in p inst r))) (one (keep_on (fr.width + i) (home_of o))))
        (backs_of (k + 1) (i + 1) (drop 1 qs) rest) (copy_all_back j (suc fr.depth) (drop 1 qs) xs) l w v (word_back (callee_place (next_parameter qs)) q b w)
        (whole_back o r (next_parameter qs) l i q b w v plain.1.1.1.0 plain.1.1.1.1.1.0 came.0 h stay.0)
        (λ u t g sp. backs_do rest (drop 1 qs) xs (k + 1) (i + 1) l u t plain.1.1.1.1.1.1 (omega (arith, free)) wide (omega (arith, room)) (omega (arith, few))
        (temporaries_stay rest (drop 1 qs) xs (k + 1) v t (λ m le lt. sp.slots m (omega (arith, le, free)) (omega (arith, lt))) (omega (arith, room)) came.1)
        (results_spared (drop 1 qs) xs (i + 1) w u v t (omega (arith, few)) wide sp stay.1) g)
    backs_do (tree.by_variable o tree.whole r rest) qs (of_both q b x ∷ xs) k i l w v plain free wide room few came stay h =
        back_then (and_op (simple (within (fr.width + i) (bounds_in p inst r))) (one (keep_on (fr.width + i) (home_of o))))
        (backs_of (k + 1) (i + 1) (drop 1 qs) rest) (copy_all_back j (suc fr.depth) (drop 1 qs) xs) l w v (word_back (callee_place (next_parameter qs)) q b w)
        (whole_back o r (next_parameter qs) l i q b w v plain.1.1.1.0 plain.1.1.1.1.1.0 came.0.0 h stay.0)
        (λ u t g sp. backs_do rest (drop 1 qs) xs (k + 1) (i + 1) l u t plain.1.1.1.1.1.1 (omega (arith, free)) wide (omega (arith, room)) (omega (arith, few))
        (temporaries_stay rest (drop 1 qs) xs (k + 1) v t (λ m le lt. sp.slots m (omega (arith, le, free)) (omega (arith, lt))) (omega (arith, room)) came.1)
        (results_spared (drop 1 qs) xs (i + 1) w u v t (omega (arith, few)) wide sp stay.1) g)
    backs_do (tree.by_variable o (tree.component n parts) r rest) qs [] k i l w v plain free wide room few came stay h = absurd came
    backs_do (tree.by_variable o (tree.component n parts) r rest) qs (of_value x ∷ xs) k i l w v plain free wide room few came stay h = absurd came.0
    backs_do (tree.by_variable o (tree.component n parts) r rest) qs (of_composite q ∷ xs) k i l w v plain free wide room few came stay h = absurd came.0
    backs_do (tree.by_variable o (tree.component n parts) r rest) qs (of_variable q b ∷ xs) k i l w v plain free wide room few came stay h =
        back_then (and_op (simple (within (fr.width + i) (bounds_in p inst r))) (one (op.Store k (fr.width + i))))
        (backs_of (k + 2) (i + 1) (drop 1 qs) rest) (copy_all_back j (suc fr.depth) (drop 1 qs) xs) l w v (word_back (callee_place (next_parameter qs)) q b w)
        (one_part_back (part_shape (shape_of o) (tree.component n parts)) r (next_parameter qs) l k i q b w v plain.1.1.1.1.1.0 came.0 h stay.0)
        (λ u t g sp. backs_do rest (drop 1 qs) xs (k + 2) (i + 1) l u t plain.1.1.1.1.1.1 (omega (arith, free)) wide (omega (arith, room)) (omega (arith, few))
        (temporaries_stay rest (drop 1 qs) xs (k + 2) v t (λ m le lt. sp.slots m (omega (arith, le, free)) (omega (arith, lt))) (omega (arith, room)) came.1)
        (results_spared (drop 1 qs) xs (i + 1) w u v t (omega (arith, few)) wide sp stay.1) g)
    backs_do (tree.by_variable o (tree.component n parts) r rest) qs (of_both q b x ∷ xs) k i l w v plain free wide room few came stay h =
        back_then (and_op (simple (within (fr.width + i) (bounds_in p inst r))) (one (op.Store k (fr.width + i))))
        (backs_of (k + 2) (i + 1) (drop 1 qs) rest) (copy_all_back j (suc fr.depth) (drop 1 qs) xs) l w v (word_back (callee_place (next_parameter qs)) q b w)
        (one_part_back (part_shape (shape_of o) (tree.component n parts)) r (next_parameter qs) l k i q b w v plain.1.1.1.1.1.0 came.0.0 h stay.0)
        (λ u t g sp. backs_do rest (drop 1 qs) xs (k + 2) (i + 1) l u t plain.1.1.1.1.1.1 (omega (arith, free)) wide (omega (arith, room)) (omega (arith, few))
        (temporaries_stay rest (drop 1 qs) xs (k + 2) v t (λ m le lt. sp.slots m (omega (arith, le, free)) (omega (arith, lt))) (omega (arith, room)) came.1)
        (results_spared (drop 1 qs) xs (i + 1) w u v t (omega (arith, few)) wide sp stay.1) g)
    backs_do (tree.by_variable o (tree.element d e parts) r rest) qs [] k i l w v plain free wide room few came stay h = absurd came
    backs_do (tree.by_variable o (tree.element d e parts) r rest) qs (of_value x ∷ xs) k i l w v plain free wide room few came stay h = absurd came.0
    backs_do (tree.by_variable o (tree.element d e parts) r rest) qs (of_composite q ∷ xs) k i l w v plain free wide room few came stay h = absurd came.0
    backs_do (tree.by_variable o (tree.element d e parts) r rest) qs (of_variable q b ∷ xs) k i l w v plain free wide room few came stay h =
        back_then (and_op (simple (within (fr.width + i) (bounds_in p inst r))) (one (op.Store k (fr.width + i))))
        (backs_of (k + 2) (i + 1) (drop 1 qs) rest) (copy_all_back j (suc fr.depth) (drop 1 qs) xs) l w v (word_back (callee_place (next_parameter qs)) q b w)
        (one_part_back (part_shape (shape_of o) (tree.element d e parts)) r (next_parameter qs) l k i q b w v plain.1.1.1.1.1.0 came.0 h stay.0)
        (λ u t g sp. backs_do rest (drop 1 qs) xs (k + 2) (i + 1) l u t plain.1.1.1.1.1.1 (omega (arith, free)) wide (omega (arith, room)) (omega (arith, few))
        (temporaries_stay rest (drop 1 qs) xs (k + 2) v t (λ m le lt. sp.slots m (omega (arith, le, free)) (omega (arith, lt))) (omega (arith, room)) came.1)
        (results_spared (drop 1 qs) xs (i + 1) w u v t (omega (arith, few)) wide sp stay.1) g)
    backs_do (tree.by_variable o (tree.element d e parts) r rest) qs (of_both q b x ∷ xs) k i l w v plain free wide room few came stay h =
        back_then (and_op (simple (within (fr.width + i) (bounds_in p inst r))) (one (op.Store k (fr.width + i))))
        (backs_of (k + 2) (i + 1) (drop 1 qs) rest) (copy_all_back j (suc fr.depth) (drop 1 qs) xs) l w v (word_back (callee_place (next_parameter qs)) q b w)
        (one_part_back (part_shape (shape_of o) (tree.element d e parts)) r (next_parameter qs) l k i q b w v plain.1.1.1.1.1.0 came.0.0 h stay.0)
        (λ u t g sp. backs_do rest (drop 1 qs) xs (k + 2) (i + 1) l u t plain.1.1.1.1.1.1 (omega (arith, free)) wide (omega (arith, room)) (omega (arith, few))
        (temporaries_stay rest (drop 1 qs) xs (k + 2) v t (λ m le lt. sp.slots m (omega (arith, le, free)) (omega (arith, lt))) (omega (arith, room)) came.1)
        (results_spared (drop 1 qs) xs (i + 1) w u v t (omega (arith, few)) wide sp stay.1) g)
    backs_do (tree.by_composite o parts rest) qs [] k i l w v plain free wide room few came stay h = absurd came
    backs_do (tree.by_composite o parts rest) qs (of_value x ∷ xs) k i l w v plain free wide room few came stay h = absurd came.0
    backs_do (tree.by_composite o parts rest) qs (of_variable q b ∷ xs) k i l w v plain free wide room few came stay h = absurd came.0
    backs_do (tree.by_composite o parts rest) qs (of_both q b x ∷ xs) k i l w v plain free wide room few came stay h = absurd came.0
    backs_do (tree.by_composite o parts rest) qs (of_composite q ∷ xs) k i l w v plain free wide room few came stay h =
        back_then (copied_back (next_parameter qs).mode (one (op.Copy k (fr.width + i) (words (next_parameter qs).shape))))
        (backs_of (k + 1) (i + 1) (drop 1 qs) rest) (copy_all_back j (suc fr.depth) (drop 1 qs) xs) l w v
        (composite_back (next_parameter qs).mode (next_parameter qs).shape (callee_place (next_parameter qs)) q w)
        (object_back (next_parameter qs).mode (next_parameter qs).shape (next_parameter qs) l k i q w v came.0 stay.0 h)
        (λ u t g sp. backs_do rest (drop 1 qs) xs (k + 1) (i + 1) l u t plain.1.1.1.1.1 (omega (arith, free)) wide (omega (arith, room)) (omega (arith, few))
        (temporaries_stay rest (drop 1 qs) xs (k + 1) v t (λ m le lt. sp.slots m (omega (arith, le, free)) (omega (arith, lt))) (omega (arith, room)) came.1)
        (results_spared (drop 1 qs) xs (i + 1) w u v t (omega (arith, few)) wide sp stay.1) g)
