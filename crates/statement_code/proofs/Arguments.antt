-- Actuals are evaluated, and handed over to a callee.
use Rattle.std.proofs.Common.{◌≡◌, ℕ, suc, ◌+◌, ◌<◌, ◌≤◌, ℤ, pos, Bool, true, false, ◌⊎◌, inl, inr, FitsSigned, List, [], ◌∷◌, if◌then◌else◌, refl, sym, ap, subst, ◌∙◌, arith, length, drop, ◌-◌}
use Rattle.std.specs.Int.{w32}
use Rattle.ada_meaning.specs.Arithmetic.{is_within}
use Rattle.ada_meaning.specs.Calls.{Argument, of_value, of_variable, of_both, of_composite, Calls, check, word_bounds, next_parameter, argument_of, result_of}
use Rattle.ada_meaning.specs.Expressions.{given, performed, place}
use Rattle.ada_meaning.specs.Program.{Mode, in_mode, out_mode, in_out_mode, Program, Target, get_target, put_target, body_target}
use Rattle.ada_meaning.specs.Resolved.{bounds_in, place_in, ResolvedParameter, parameters_of}
use Rattle.ada_meaning.specs.Shape.{Shape}
use Rattle.ada_meaning.specs.State.{Place, World, Outcome, Action, goes_to, give, raise, done, ◌>>=◌}
use Rattle.ada_meaning.specs.Tree as tree
use Rattle.ada_meaning.specs.Types as type
use Rattle.kernel_ir.proofs.Joining.{joined_does, goes_on_twice}
use Rattle.kernel_ir.proofs.Memories.{with_slot_at, with_slot_other}
use Rattle.kernel_ir.specs.declared.kernel.Kernel.{Kernel}
use Rattle.kernel_ir.specs.declared.simple.Simple.{Simple}
use Rattle.kernel_ir.specs.declared.simple.Simple.TheVariants as op
use Rattle.kernel_ir.specs.Meaning as code
use Rattle.kernel_ir.specs.Meaning.{taken, follows, completes}
use Rattle.kernel_ir.specs.Sequence.{joined}
use Rattle.kernel_ir.specs.Simple.{does_simple, if_valid}
use Rattle.kernel_ir.specs.Tree.{simple, call, Code, no_op, and_op}
use Rattle.kernel_ir.specs.World.{Memory, Ended, Ends, Cut, in_area, data_word, area_end, slot_word, slot_in, with_slot, paid, noted}
use Rattle.kernel_ir.specs.World as kernel
use Rattle.frame_widths.specs.Ends.{end_of_actuals}
use Rattle.frame_widths.proofs.Above.{end_is_above, actuals_are_above, parts_are_above}
use Rattle.statement_code.specs.Names.{names_in}
use Rattle.statement_code.proofs.Cells.{lies_more}
use Rattle.statement_code.specs.Cells.{Agree, Cells, Within}
use Rattle.statement_code.specs.Calls.{IsFor, AreFor, MayCall, Outside, ArgumentsStand, Called}
use Rattle.statement_code.specs.Frames.{Frame, IsFrame, Inside, Failed, Runs}
use Rattle.statement_code.specs.Values.{one, within, Home, in_frame, in_library, address_at, address_on, fetch_on, part_shape, IsWord, Stands, expr_code, parts_code, SeesIn, Site, count_of, IsGivenBack, unless_out, arguments, moves_code, IsBody, body_number, actuals_code, IsComposite}
use Rattle.statement_code.proofs.Flows.{goes_to_twice}
use Rattle.statement_code.proofs.Frames.{runs_are, ticked, observed_less, inside_paid, inside_less, runs_stop, runs_then, worked_at}
use Rattle.statement_code.proofs.Operands.{in_area_is, word_cell, word_ends, Held, Located, fails_there, held_set, addressed_is, stands_now, located_less}

module _ (p : Program) (calls : Calls) (inst : ℕ) (K : Kernel) (kcalls : code.Calls) (fuel : ℕ) (Cell : Cells) (Keep : ℕ → Type 0) (fr : Frame)
    (frame : IsFrame Cell Keep fr) (Set : ℕ → Type 0) (shape_of : tree.Object → Shape) (home_of : tree.Object → Home) (site : Site) (Bodies : Bool → ℕ → ℕ → Type 0) (Library : Cells)
    (may : MayCall p calls kcalls Library site Bodies Cell Keep fr) (Sees : tree.Object → Type 0)
    (sees : SeesIn p inst shape_of home_of site Bodies Sees (Within Cell Set) fr.fp fr.depth) where
  abbrev In : ℕ → World → kernel.World → Type 0
  In l w v = Inside Cell Keep fr Set l w v

  abbrev Stop : ℕ → World → kernel.World → Type 0
  Stop = Failed Cell Keep fr Set

  abbrev does : Simple → kernel.World → Ended
  does s v = does_simple K.layouts K.exceptions fr.fp s v

  abbrev codes : Code → kernel.World → Ended
  codes a v = code.does_code K kcalls fuel fr.width fr.fp fr.calls a v

  abbrev Below : (k : ℕ) → (start v : kernel.World) → Type 0
  Below k start v = (j : ℕ) → j < k → slot_in fr.fp j v ≡ slot_in fr.fp j start

  abbrev IsOwn : Place → Type 0
  IsOwn q = (q.frame ≡ 0) ⊎ (q.frame ≡ fr.depth)

  abbrev expr : (k : ℕ) → tree.Expr → Code
  expr k e = expr_code (names_in p inst) shape_of home_of site k e

  abbrev parts_of : (k : ℕ) → Shape → tree.Parts → Code
  parts_of k s parts = parts_code (names_in p inst) shape_of home_of site k s parts

  -- the address of a part of a shape stands in a slot
  pub record PartAt (k : ℕ) (s : Shape) (q : Place) (v : kernel.World) : Type 0 where
    pub address : ℕ
    pub slot : slot_in fr.fp k v ≡ pos address
    pub stands : Stands (Within Cell Set) s q address
    pub own : IsOwn q

  -- a value stands in a slot, and is a word
  abbrev pub ValueAt : (k : ℕ) → ℤ → kernel.World → Type 0
  ValueAt k x v = (slot_in fr.fp k v ≡ x) × FitsSigned w32 x

  -- a variable of one word: it is a whole object, or the address of a part of one stands in a slot
  abbrev pub Whole : tree.Object → type.Range → Argument → (k : ℕ) → kernel.World → Type 0
  Whole o r (of_variable q b) k v = (q ≡ place_in p inst fr.depth o) × (b ≡ bounds_in p inst r)
  Whole o r (of_both q b x) k v = ((q ≡ place_in p inst fr.depth o) × (b ≡ bounds_in p inst r)) × ValueAt k x v
  Whole o r (of_value x) k v = ⊥
  Whole o r (of_composite q) k v = ⊥

  abbrev pub Part : Shape → type.Range → Argument → (k : ℕ) → kernel.World → Type 0
  Part s r (of_variable q b) k v = PartAt k s q v × (b ≡ bounds_in p inst r)
  Part s r (of_both q b x) k v = (PartAt k s q v × (b ≡ bounds_in p inst r)) × ValueAt (k + 1) x v
  Part s r (of_value x) k v = ⊥
  Part s r (of_composite q) k v = ⊥

  abbrev pub Value : Argument → (k : ℕ) → kernel.World → Type 0
  Value (of_value x) k v = ValueAt k x v
  Value (of_variable q b) k v = ⊥
  Value (of_both q b x) k v = ⊥
  Value (of_composite q) k v = ⊥

  abbrev pub Composite : Shape → Argument → (k : ℕ) → kernel.World → Type 0
  Composite s (of_composite q) k v = PartAt k s q v
  Composite s (of_value x) k v = ⊥
  Composite s (of_variable q b) k v = ⊥
  Composite s (of_both q b x) k v = ⊥

  -- what actuals came to stands in slots from k on
  abbrev pub Temporaries : (k : ℕ) → List ResolvedParameter → tree.Actuals → List Argument → kernel.World → Type 0
  Temporaries k qs tree.no_actual [] v = Unit {0}
  Temporaries k qs tree.no_actual (x ∷ xs) v = ⊥
  Temporaries k qs (tree.by_expression e rest) [] v = ⊥
  Temporaries k qs (tree.by_expression e rest) (x ∷ xs) v = Value x k v × Temporaries (k + 1) (drop 1 qs) rest xs v
  Temporaries k qs (tree.by_variable o parts r rest) [] v = ⊥
  Temporaries k qs (tree.by_variable o tree.whole r rest) (x ∷ xs) v = Whole o r x k v × Temporaries (k + 1) (drop 1 qs) rest xs v
  Temporaries k qs (tree.by_variable o (tree.component n parts) r rest) (x ∷ xs) v =
      Part (part_shape (shape_of o) (tree.component n parts)) r x k v × Temporaries (k + 2) (drop 1 qs) rest xs v
  Temporaries k qs (tree.by_variable o (tree.element t e parts) r rest) (x ∷ xs) v =
      Part (part_shape (shape_of o) (tree.element t e parts)) r x k v × Temporaries (k + 2) (drop 1 qs) rest xs v
  Temporaries k qs (tree.by_composite o parts rest) [] v = ⊥
  Temporaries k qs (tree.by_composite o parts rest) (x ∷ xs) v =
      Composite (next_parameter qs).shape x k v × Temporaries (k + 1) (drop 1 qs) rest xs v

  -- what a slot, or two, held stays so where the slots do
  pub value_stays : (x : ℤ) (k : ℕ) (v u : kernel.World) → slot_in fr.fp k u ≡ slot_in fr.fp k v → ValueAt k x v → ValueAt k x u
  value_stays x k v u same h = (same ∙ h.0, h.1)

  pub part_stays : (s : Shape) (q : Place) (k : ℕ) (v u : kernel.World) → slot_in fr.fp k u ≡ slot_in fr.fp k v → PartAt k s q v → PartAt k s q u
  part_stays s q k v u same h = record { address = h.address; slot = same ∙ h.slot; stands = h.stands; own = h.own }

  pub single_stays : (x : Argument) (k : ℕ) (v u : kernel.World) → slot_in fr.fp k u ≡ slot_in fr.fp k v → Value x k v → Value x k u
  single_stays (of_value x) k v u same h = value_stays x k v u same h
  single_stays (of_variable q b) k v u same h = h
  single_stays (of_both q b x) k v u same h = h
  single_stays (of_composite q) k v u same h = h

  pub whole_stays : (o : tree.Object) (r : type.Range) (x : Argument) (k : ℕ) (v u : kernel.World) → slot_in fr.fp k u ≡ slot_in fr.fp k v → Whole o r x k v → Whole o r x k u
  whole_stays o r (of_value x) k v u same h = h
  whole_stays o r (of_variable q b) k v u same h = h
  whole_stays o r (of_both q b x) k v u same h = (h.0, value_stays x k v u same h.1)
  whole_stays o r (of_composite q) k v u same h = h

  pub part_of_stays : (s : Shape) (r : type.Range) (x : Argument) (k : ℕ) (v u : kernel.World) → slot_in fr.fp k u ≡ slot_in fr.fp k v → slot_in fr.fp (k + 1) u ≡ slot_in fr.fp (k + 1) v
      → Part s r x k v → Part s r x k u
  part_of_stays s r (of_value x) k v u same next h = h
  part_of_stays s r (of_variable q b) k v u same next h = (part_stays s q k v u same h.0, h.1)
  part_of_stays s r (of_both q b x) k v u same next h = ((part_stays s q k v u same h.0.0, h.0.1), value_stays x (k + 1) v u next h.1)
  part_of_stays s r (of_composite q) k v u same next h = h

  pub composite_stays : (s : Shape) (x : Argument) (k : ℕ) (v u : kernel.World) → slot_in fr.fp k u ≡ slot_in fr.fp k v → Composite s x k v → Composite s x k u
  composite_stays s (of_value x) k v u same h = h
  composite_stays s (of_variable q b) k v u same h = h
  composite_stays s (of_both q b x) k v u same h = h
  composite_stays s (of_composite q) k v u same h = part_stays s q k v u same h

  -- the actuals were evaluated
  pub record Given (l k : ℕ) (qs : List ResolvedParameter) (actuals : tree.Actuals) (start : kernel.World) (xs : List Argument) (w : World) (v : kernel.World) : Type 0 where
    pub inside : In l w v
    pub below : Below k start v
    pub temporaries : Temporaries k qs actuals xs v
    pub for : AreFor qs xs
    pub count : length xs ≡ count_of actuals

  pub fetch_is : (h : Home) (k : ℕ) (rest : Code) (v : kernel.World)
      → codes (and_op (simple (fetch_on k h)) rest) v ≡ codes rest (with_slot fr.fp k (v.memory (address_at fr.fp h)) (paid 1 v))
  fetch_is (in_frame j) k rest v = refl
  fetch_is (in_library n) k rest v = refl

  -- what an actual came to, and that nothing below its slots changed
  pub record Came (l k : ℕ) (start : kernel.World) (f : ResolvedParameter) (There : Argument → kernel.World → Type 0) (x : Argument) (w : World) (v : kernel.World) : Type 0 where
    pub inside : In l w v
    pub below : Below k start v
    pub there : There x v
    pub for : IsFor f x

  -- a variable as an actual: a whole object
  pub whole_argument : (m : Mode) → IsGivenBack m → (f : ResolvedParameter) → f.mode ≡ m → IsWord f.shape → (o : tree.Object) (r : type.Range) (l k : ℕ) (w : World) (v : kernel.World) → Sees o
      → IsWord (shape_of o) → fr.base ≤ k → k < fr.width → In (l + 2) w v
      → Runs Stop (Came l k v f (λ a t. Whole o r a k t)) (argument_of m (word_bounds f.shape) (place_in p inst w.depth o) (bounds_in p inst r) w)
      (codes (unless_out m (and_op (simple (fetch_on k (home_of o))) (one (within k (word_bounds f.shape))))) v)
  whole_argument in_mode back f mode is_word o r l k w v seen one_word free room h = absurd back
  whole_argument out_mode back f mode is_word o r l k w v seen one_word free room h = record {
    inside = inside_less Cell Keep fr Set (l + 2) l w v (omega arith) h;
    below = λ j lt. refl;
    there = (ap (λ d. place_in p inst d o) h.depth_is, refl);
    for = (is_word, mode);
  }
  whole_argument in_out_mode back f mode is_word o r l k w v seen one_word free room h =
      rw (fetch_is (home_of o) k (one (within k (word_bounds f.shape))) v, held.slot) (by_test (is_within (word_bounds f.shape) x))
    where
      q : Place
      q = place_in p inst w.depth o

      x : ℤ
      x = w.store q

      read : (v.memory (address_at fr.fp (home_of o)) ≡ x) × FitsSigned w32 x
      read = h.agree q (address_at fr.fp (home_of o)) (word_cell (Within Cell Set) (shape_of o) q (address_at fr.fp (home_of o)) one_word (stands_now p calls inst K kcalls fuel Cell Keep fr frame Set shape_of home_of site Bodies Library may Sees sees o (l + 2) w v seen h).lies)

      v1 : kernel.World
      v1 = with_slot fr.fp k (v.memory (address_at fr.fp (home_of o))) (paid 1 v)

      held : Held p calls inst K kcalls fuel Cell Keep fr frame Set shape_of home_of site Bodies Library may Sees sees (l + 1) k v x w v1
      held = held_set p calls inst K kcalls fuel Cell Keep fr frame Set shape_of home_of site Bodies Library may Sees sees (l + 1) k v x (v.memory (address_at fr.fp (home_of o))) w v read.0 read.1 free room (λ j lt. refl) (inside_less Cell Keep fr Set (l + 2) (l + 1 + 1) w v (omega arith) h)

      by_test : (t : Bool) → Runs Stop (Came l k v f (λ a u. Whole o r a k u)) (goes_to ((if t then done else raise 1) w) (λ u. give (of_both q (bounds_in p inst r) x)))
          (kernel.goes_on (if_valid t (λ u. u) v1) (codes no_op))
      by_test true = record {
        inside = inside_paid Cell Keep fr Set 1 l w v1 held.inside;
        below = held.below;
        there = ((ap (λ d. place_in p inst d o) h.depth_is, refl), (held.slot, held.word));
        for = (is_word, mode);
      }
      by_test false = (refl, fails_there p calls inst K kcalls fuel Cell Keep fr frame Set shape_of home_of site Bodies Library may Sees sees l w v1 held.inside)

  -- a part of an object, whose address stands in the slot k
  pub part_argument : (m : Mode) → IsGivenBack m → (f : ResolvedParameter) → f.mode ≡ m → IsWord f.shape → (s : Shape) (r : type.Range) (l k : ℕ) (start : kernel.World) (q : Place) (w : World)
      (v : kernel.World) → IsWord s → fr.base ≤ k → k + 1 < fr.width → Located p calls inst K kcalls fuel Cell Keep fr frame Set shape_of home_of site Bodies Library may Sees sees s (l + 2) k start q w v
      → Runs Stop (Came l k start f (λ a t. Part s r a k t)) (argument_of m (word_bounds f.shape) q (bounds_in p inst r) w)
      (codes (unless_out m (and_op (simple (op.Load (k + 1) k)) (one (within (k + 1) (word_bounds f.shape))))) v)
  part_argument in_mode back f mode is_word s r l k start q w v one_word free room h = absurd back
  part_argument out_mode back f mode is_word s r l k start q w v one_word free room h = record {
    inside = inside_less Cell Keep fr Set (l + 2) l w v (omega arith) h.inside;
    below = h.below;
    there = (record { address = h.address; slot = h.slot; stands = h.stands; own = h.own }, refl);
    for = (is_word, mode);
  }
  part_argument in_out_mode back f mode is_word s r l k start q w v one_word free room h =
      let end = word_ends s one_word in
      rw (h.slot, in_area_is h.address 1 h.stands.low (omega (arith, h.stands.high, end)), held.slot) (by_test (is_within (word_bounds f.shape) x))
    where
      x : ℤ
      x = w.store q

      read : (v.memory h.address ≡ x) × FitsSigned w32 x
      read = h.inside.agree q h.address (word_cell (Within Cell Set) s q h.address one_word h.stands.lies)

      v1 : kernel.World
      v1 = with_slot fr.fp (k + 1) (v.memory h.address) (paid 1 v)

      held : Held p calls inst K kcalls fuel Cell Keep fr frame Set shape_of home_of site Bodies Library may Sees sees (l + 1) (k + 1) v x w v1
      held = held_set p calls inst K kcalls fuel Cell Keep fr frame Set shape_of home_of site Bodies Library may Sees sees (l + 1) (k + 1) v x (v.memory h.address) w v read.0 read.1 (omega (arith, free)) room (λ j lt. refl)
          (inside_less Cell Keep fr Set (l + 2) (l + 1 + 1) w v (omega arith) h.inside)

      by_test : (t : Bool) → Runs Stop (Came l k start f (λ a u. Part s r a k u)) (goes_to ((if t then done else raise 1) w) (λ u. give (of_both q (bounds_in p inst r) x)))
          (kernel.goes_on (if_valid t (λ u. u) v1) (codes no_op))
      by_test true = record {
        inside = inside_paid Cell Keep fr Set 1 l w v1 held.inside;
        below = λ j lt. held.below j (omega (arith, lt)) ∙ h.below j lt;
        there = (
          (record { address = h.address; slot = held.below k (omega arith) ∙ h.slot; stands = h.stands; own = h.own }, refl),
          (held.slot, held.word),
        );
        for = (is_word, mode);
      }
      by_test false = (refl, fails_there p calls inst K kcalls fuel Cell Keep fr frame Set shape_of home_of site Bodies Library may Sees sees l w v1 held.inside)

  -- where arguments were moved to: each into a slot behind the frame
  abbrev pub MovedFrom : (k j : ℕ) → tree.Actuals → (v u : kernel.World) → Type 0
  MovedFrom k j tree.no_actual v u = Unit {0}
  MovedFrom k j (tree.by_expression e rest) v u = (slot_in fr.fp (fr.width + j) u ≡ slot_in fr.fp k v) × MovedFrom (k + 1) (j + 1) rest v u
  MovedFrom k j (tree.by_variable o tree.whole r rest) v u = (slot_in fr.fp (fr.width + j) u ≡ slot_in fr.fp k v) × MovedFrom (k + 1) (j + 1) rest v u
  MovedFrom k j (tree.by_variable o (tree.component n parts) r rest) v u =
      (slot_in fr.fp (fr.width + j) u ≡ slot_in fr.fp (k + 1) v) × MovedFrom (k + 2) (j + 1) rest v u
  MovedFrom k j (tree.by_variable o (tree.element t e parts) r rest) v u =
      (slot_in fr.fp (fr.width + j) u ≡ slot_in fr.fp (k + 1) v) × MovedFrom (k + 2) (j + 1) rest v u
  MovedFrom k j (tree.by_composite o parts rest) v u = (slot_in fr.fp (fr.width + j) u ≡ slot_in fr.fp k v) × MovedFrom (k + 1) (j + 1) rest v u

  pub moved_from : (actuals : tree.Actuals) (k j : ℕ) (s v u : kernel.World) → ((i : ℕ) → i < fr.width → slot_in fr.fp i s ≡ slot_in fr.fp i v) → end_of_actuals k actuals ≤ fr.width
      → MovedFrom k j actuals s u → MovedFrom k j actuals v u
  moved_from tree.no_actual k j s v u same room h = h
  moved_from (tree.by_expression e rest) k j s v u same room h =
      (h.0 ∙ same k (omega (arith, room, end_is_above k e)), moved_from rest (k + 1) (j + 1) s v u same (omega (arith, room)) h.1)
  moved_from (tree.by_variable o tree.whole r rest) k j s v u same room h =
      (h.0 ∙ same k (omega (arith, room, actuals_are_above (k + 1) rest)), moved_from rest (k + 1) (j + 1) s v u same (omega (arith, room)) h.1)
  moved_from (tree.by_variable o (tree.component n parts) r rest) k j s v u same room h =
      (h.0 ∙ same (k + 1) (omega (arith, room, actuals_are_above (k + 2) rest)), moved_from rest (k + 2) (j + 1) s v u same (omega (arith, room)) h.1)
  moved_from (tree.by_variable o (tree.element t e parts) r rest) k j s v u same room h =
      (h.0 ∙ same (k + 1) (omega (arith, room, actuals_are_above (k + 2) rest)), moved_from rest (k + 2) (j + 1) s v u same (omega (arith, room)) h.1)
  moved_from (tree.by_composite o parts rest) k j s v u same room h =
      (h.0 ∙ same k (omega (arith, room, parts_are_above k parts)), moved_from rest (k + 1) (j + 1) s v u same (omega (arith, room)) h.1)

  pub record Moved (l k j : ℕ) (actuals : tree.Actuals) (w : World) (v : kernel.World) (e : Ended) : Type 0 where
    pub u : kernel.World
    pub is : e ≡ Ends u
    pub inside : In l w u
    pub kept : (i : ℕ) → i < fr.width + j → slot_in fr.fp i u ≡ slot_in fr.fp i v
    pub from : MovedFrom k j actuals v u

  -- a slot behind the frame gets what another one holds
  abbrev pub moved_state : (i j : ℕ) → kernel.World → kernel.World
  moved_state i j v = with_slot fr.fp (fr.width + j) (slot_in fr.fp i v) (paid 1 v)

  pub moved_inside : (l i j : ℕ) (w : World) (v : kernel.World) → fr.base ≤ fr.width → j < arguments → In (l + 1) w v → In l w (moved_state i j v)
  moved_inside l i j w v wide few h =
      worked_at Cell Keep fr frame Set l (fr.width + j) (slot_in fr.fp i v) w (paid 1 v) (omega (arith, wide)) (omega (arith, few)) (inside_paid Cell Keep fr Set 1 l w v h)

  pub moved_other : (i j m : ℕ) (v : kernel.World) → j < arguments → m < fr.width + j → slot_in fr.fp m (moved_state i j v) ≡ slot_in fr.fp m v
  moved_other i j m v few lt =
      with_slot_other fr.fp (fr.width + j) m (slot_in fr.fp i v) (paid 1 v) (omega (arith, few, frame.room)) (omega (arith, lt, few, frame.room)) (λ e. omega (arith, e, lt))

  -- one argument was moved, and those behind it
  pub record MovedOne (l i k j : ℕ) (rest : tree.Actuals) (w : World) (v : kernel.World) (e : Ended) : Type 0 where
    pub u : kernel.World
    pub is : e ≡ Ends u
    pub inside : In l w u
    pub kept : (m : ℕ) → m < fr.width + j → slot_in fr.fp m u ≡ slot_in fr.fp m v
    pub here : slot_in fr.fp (fr.width + j) u ≡ slot_in fr.fp i v
    pub others : MovedFrom k (j + 1) rest v u

  pub moved_one : (l i k j : ℕ) (rest : tree.Actuals) (w : World) (v : kernel.World) (e : Ended) → j < arguments → end_of_actuals k rest ≤ fr.width
      → Moved l k (j + 1) rest w (moved_state i j v) e → MovedOne l i k j rest w v e
  moved_one l i k j rest w v e few room h = record {
    u = h.u;
    is = h.is;
    inside = h.inside;
    kept = λ m lt. h.kept m (omega (arith, lt)) ∙ moved_other i j m v few lt;
    here = h.kept (fr.width + j) (omega arith) ∙ with_slot_at fr.fp (fr.width + j) (slot_in fr.fp i v) (paid 1 v);
    others = moved_from rest k (j + 1) (moved_state i j v) v h.u (λ m lt. moved_other i j m v few (omega (arith, lt))) room h.from;
  }

  pub moves_do : (actuals : tree.Actuals) (l k j : ℕ) (w : World) (v : kernel.World) → fr.base ≤ fr.width → j + count_of actuals ≤ arguments → end_of_actuals k actuals ≤ fr.width
      → In (l + count_of actuals) w v → Moved l k j actuals w v (codes (moves_code fr.width k j actuals) v)
  moves_do tree.no_actual l k j w v wide few room h =
      record { u = v; is = refl; inside = inside_less Cell Keep fr Set (l + 0) l w v (omega arith) h; kept = λ m lt. refl; from = record {} }
  moves_do (tree.by_expression e rest) l k j w v wide few room h =
      let more : Moved l (k + 1) (j + 1) rest w (moved_state k j v) (codes (moves_code fr.width (k + 1) (j + 1) rest) (moved_state k j v)) =
      moves_do rest l (k + 1) (j + 1) w (moved_state k j v) wide (omega (arith, few)) (omega (arith, room))
      (moved_inside (l + count_of rest) k j w v wide (omega (arith, few)) (inside_less Cell Keep fr Set (l + suc (count_of rest)) (l + count_of rest + 1) w v (omega arith) h)) in
      let one = moved_one l k (k + 1) j rest w v _ (omega (arith, few)) (omega (arith, room)) more in
      record { u = one.u; is = one.is; inside = one.inside; kept = one.kept; from = (one.here, one.others) }
  moves_do (tree.by_variable o tree.whole r rest) l k j w v wide few room h =
      let more : Moved l (k + 1) (j + 1) rest w (moved_state k j v) (codes (moves_code fr.width (k + 1) (j + 1) rest) (moved_state k j v)) =
      moves_do rest l (k + 1) (j + 1) w (moved_state k j v) wide (omega (arith, few)) (omega (arith, room))
      (moved_inside (l + count_of rest) k j w v wide (omega (arith, few)) (inside_less Cell Keep fr Set (l + suc (count_of rest)) (l + count_of rest + 1) w v (omega arith) h)) in
      let one = moved_one l k (k + 1) j rest w v _ (omega (arith, few)) (omega (arith, room)) more in
      record { u = one.u; is = one.is; inside = one.inside; kept = one.kept; from = (one.here, one.others) }
  moves_do (tree.by_variable o (tree.component n parts) r rest) l k j w v wide few room h =
      let more : Moved l (k + 2) (j + 1) rest w (moved_state (k + 1) j v) (codes (moves_code fr.width (k + 2) (j + 1) rest) (moved_state (k + 1) j v)) =
      moves_do rest l (k + 2) (j + 1) w (moved_state (k + 1) j v) wide (omega (arith, few)) (omega (arith, room))
      (moved_inside (l + count_of rest) (k + 1) j w v wide (omega (arith, few)) (inside_less Cell Keep fr Set (l + suc (count_of rest)) (l + count_of rest + 1) w v (omega arith) h)) in
      let one = moved_one l (k + 1) (k + 2) j rest w v _ (omega (arith, few)) (omega (arith, room)) more in
      record { u = one.u; is = one.is; inside = one.inside; kept = one.kept; from = (one.here, one.others) }
  moves_do (tree.by_variable o (tree.element t e parts) r rest) l k j w v wide few room h =
      let more : Moved l (k + 2) (j + 1) rest w (moved_state (k + 1) j v) (codes (moves_code fr.width (k + 2) (j + 1) rest) (moved_state (k + 1) j v)) =
      moves_do rest l (k + 2) (j + 1) w (moved_state (k + 1) j v) wide (omega (arith, few)) (omega (arith, room))
      (moved_inside (l + count_of rest) (k + 1) j w v wide (omega (arith, few)) (inside_less Cell Keep fr Set (l + suc (count_of rest)) (l + count_of rest + 1) w v (omega arith) h)) in
      let one = moved_one l (k + 1) (k + 2) j rest w v _ (omega (arith, few)) (omega (arith, room)) more in
      record { u = one.u; is = one.is; inside = one.inside; kept = one.kept; from = (one.here, one.others) }
  moves_do (tree.by_composite o parts rest) l k j w v wide few room h =
      let more : Moved l (k + 1) (j + 1) rest w (moved_state k j v) (codes (moves_code fr.width (k + 1) (j + 1) rest) (moved_state k j v)) =
      moves_do rest l (k + 1) (j + 1) w (moved_state k j v) wide (omega (arith, few)) (omega (arith, room))
      (moved_inside (l + count_of rest) k j w v wide (omega (arith, few)) (inside_less Cell Keep fr Set (l + suc (count_of rest)) (l + count_of rest + 1) w v (omega arith) h)) in
      let one = moved_one l k (k + 1) j rest w v _ (omega (arith, few)) (omega (arith, room)) more in
      record { u = one.u; is = one.is; inside = one.inside; kept = one.kept; from = (one.here, one.others) }

  -- the callee's frame ends where this one begins
  abbrev pub end : ℕ
  end = fr.fp - fr.width

  pub behind_slot : (j : ℕ) → slot_word end j ≡ slot_word fr.fp (fr.width + j)
  behind_slot j = omega arith

  -- cells that were set, seen from the callee
  pub outside : (l : ℕ) (w : World) (v : kernel.World) → In l w v → (r : Place) (c : ℕ) → Within Cell Set r c → Outside Library end fr.depth w.store v.memory r c
  outside l w v h r c here = (h.agree r c here, by_frame (frame.own r c here.0))
    where
      by_frame : (r.frame ≡ 0) ⊎ (r.frame ≡ fr.depth) → Library r c ⊎ ((1 ≤ r.frame) × ((r.frame ≤ fr.depth) × (end ≤ c)))
      by_frame (inl is) = inl (may.calling.shared r c here.0 is)
      by_frame (inr is) =
          let low = may.calling.local r c here.0 is in
          inr (omega (arith, is, may.calling.deep), (omega (arith, is), omega (arith, low)))

  pub value_stands : (x : ℤ) (k j : ℕ) (v u : kernel.World) → ValueAt k x v → slot_in fr.fp (fr.width + j) u ≡ slot_in fr.fp k v → (slot_in end j u ≡ x) × FitsSigned w32 x
  value_stands x k j v u h moved = (ap u.memory (behind_slot j) ∙ (moved ∙ h.0), h.1)

  abbrev pub StandFrom : (j : ℕ) → List ResolvedParameter → List Argument → World → kernel.World → Type 0
  StandFrom j qs xs w u = ArgumentsStand Library end fr.depth j qs xs w u

  pub single_stands : (x : Argument) (xs : List Argument) (qs : List ResolvedParameter) (k j : ℕ) (w : World) (v u : kernel.World) → Value x k v
      → slot_in fr.fp (fr.width + j) u ≡ slot_in fr.fp k v → StandFrom (j + 1) (drop 1 qs) xs w u → StandFrom j qs (x ∷ xs) w u
  single_stands (of_value x) xs qs k j w v u h moved rest = (value_stands x k j v u h moved, rest)
  single_stands (of_variable q b) xs qs k j w v u h moved rest = absurd h
  single_stands (of_both q b x) xs qs k j w v u h moved rest = absurd h
  single_stands (of_composite q) xs qs k j w v u h moved rest = absurd h

  pub whole_stands : (o : tree.Object) (r : type.Range) (x : Argument) (xs : List Argument) (qs : List ResolvedParameter) (k j : ℕ) (w : World) (v u : kernel.World) → Whole o r x k v
      → slot_in fr.fp (fr.width + j) u ≡ slot_in fr.fp k v → StandFrom (j + 1) (drop 1 qs) xs w u → StandFrom j qs (x ∷ xs) w u
  whole_stands o r (of_value x) xs qs k j w v u h moved rest = absurd h
  whole_stands o r (of_variable q b) xs qs k j w v u h moved rest = rest
  whole_stands o r (of_both q b x) xs qs k j w v u h moved rest = (value_stands x k j v u h.1 moved, rest)
  whole_stands o r (of_composite q) xs qs k j w v u h moved rest = absurd h

  pub part_stands : (s : Shape) (r : type.Range) (x : Argument) (xs : List Argument) (qs : List ResolvedParameter) (k j : ℕ) (w : World) (v u : kernel.World) → Part s r x k v
      → slot_in fr.fp (fr.width + j) u ≡ slot_in fr.fp (k + 1) v → StandFrom (j + 1) (drop 1 qs) xs w u → StandFrom j qs (x ∷ xs) w u
  part_stands s r (of_value x) xs qs k j w v u h moved rest = absurd h
  part_stands s r (of_variable q b) xs qs k j w v u h moved rest = rest
  part_stands s r (of_both q b x) xs qs k j w v u h moved rest = (value_stands x (k + 1) j v u h.1 moved, rest)
  part_stands s r (of_composite q) xs qs k j w v u h moved rest = absurd h

  pub composite_stands : (x : Argument) (xs : List Argument) (qs : List ResolvedParameter) (k j l : ℕ) (w : World) (v u : kernel.World) → Composite (next_parameter qs).shape x k v
      → slot_in fr.fp (fr.width + j) u ≡ slot_in fr.fp k v → In l w u → StandFrom (j + 1) (drop 1 qs) xs w u → StandFrom j qs (x ∷ xs) w u
  composite_stands (of_value x) xs qs k j l w v u h moved inside rest = absurd h
  composite_stands (of_variable q b) xs qs k j l w v u h moved inside rest = absurd h
  composite_stands (of_both q b x) xs qs k j l w v u h moved inside rest = absurd h
  composite_stands (of_composite q) xs qs k j l w v u h moved inside rest = (
    record {
      address = h.address;
      holds = ap u.memory (behind_slot j) ∙ (moved ∙ h.slot);
      lies = lies_more (Within Cell Set) (Outside Library end fr.depth w.store u.memory) (outside l w u inside) (next_parameter qs).shape q h.address h.stands.lies;
      low = h.stands.low;
      high = h.stands.high;
    },
    rest,
  )

  -- what was evaluated and moved stands in the callee's frame
  pub arguments_stand : (actuals : tree.Actuals) (qs : List ResolvedParameter) (xs : List Argument) (k j l : ℕ) (w : World) (v u : kernel.World) → Temporaries k qs actuals xs v
      → MovedFrom k j actuals v u → In l w u → StandFrom j qs xs w u
  arguments_stand tree.no_actual qs [] k j l w v u h moved inside = record {}
  arguments_stand tree.no_actual qs (x ∷ xs) k j l w v u h moved inside = absurd h
  arguments_stand (tree.by_expression e rest) qs [] k j l w v u h moved inside = absurd h
  arguments_stand (tree.by_expression e rest) qs (x ∷ xs) k j l w v u h moved inside =
      single_stands x xs qs k j w v u h.0 moved.0 (arguments_stand rest (drop 1 qs) xs (k + 1) (j + 1) l w v u h.1 moved.1 inside)
  arguments_stand (tree.by_variable o tree.whole r rest) qs [] k j l w v u h moved inside = absurd h
  arguments_stand (tree.by_variable o (tree.component n parts) r rest) qs [] k j l w v u h moved inside = absurd h
  arguments_stand (tree.by_variable o (tree.element t e parts) r rest) qs [] k j l w v u h moved inside = absurd h
  arguments_stand (tree.by_variable o tree.whole r rest) qs (x ∷ xs) k j l w v u h moved inside =
      whole_stands o r x xs qs k j w v u h.0 moved.0 (arguments_stand rest (drop 1 qs) xs (k + 1) (j + 1) l w v u h.1 moved.1 inside)
  arguments_stand (tree.by_variable o (tree.component n parts) r rest) qs (x ∷ xs) k j l w v u h moved inside =
      part_stands (part_shape (shape_of o) (tree.component n parts)) r x xs qs k j w v u h.0 moved.0 (arguments_stand rest (drop 1 qs) xs (k + 2) (j + 1) l w v u h.1 moved.1 inside)
  arguments_stand (tree.by_variable o (tree.element t e parts) r rest) qs (x ∷ xs) k j l w v u h moved inside =
      part_stands (part_shape (shape_of o) (tree.element t e parts)) r x xs qs k j w v u h.0 moved.0 (arguments_stand rest (drop 1 qs) xs (k + 2) (j + 1) l w v u h.1 moved.1 inside)
  arguments_stand (tree.by_composite o parts rest) qs [] k j l w v u h moved inside = absurd h
  arguments_stand (tree.by_composite o parts rest) qs (x ∷ xs) k j l w v u h moved inside =
      composite_stands x xs qs k j l w v u h.0 moved.0 inside (arguments_stand rest (drop 1 qs) xs (k + 1) (j + 1) l w v u h.1 moved.1 inside)

  -- a call that ended
  pub after_call : (l : ℕ) (u w : World) (t v : kernel.World) → In l u t → Called Library end (fr.spare + l) u t w v → In l w v
  after_call l u w t v h g = record {
    depth_is = g.depth_is ∙ h.depth_is;
    input = g.input;
    agree = λ q a here. by_frame q a here (frame.own q a here.0);
    words = λ a keep. g.words a (above a keep) ∙ h.words a keep;
    kept = λ q one less. g.kept q one (omega (arith, less, h.depth_is)) ∙ h.kept q one less;
    seen = g.seen;
  }
    where
      above : (a : ℕ) → Keep a → end ≤ a
      above a keep = let low = may.calling.above a keep in omega (arith, low)

      by_frame : (q : Place) (a : ℕ) → Within Cell Set q a → (q.frame ≡ 0) ⊎ (q.frame ≡ fr.depth) → (v.memory a ≡ w.store q) × FitsSigned w32 (w.store q)
      by_frame q a here (inl is) = g.library q a (may.calling.shared q a here.0 is)
      by_frame q a here (inr is) =
          let low = may.calling.local q a here.0 is in
          let before = h.agree q a here in
          let same : w.store q ≡ u.store q = g.kept q (omega (arith, is, may.calling.deep)) (omega (arith, is, h.depth_is)) in
          (g.words a (omega (arith, low)) ∙ (before.0 ∙ sym same), subst (FitsSigned w32) (sym same) before.1)

  -- the words of the library level
  pub library_agrees : (l : ℕ) (w : World) (v : kernel.World) → In l w v → Agree Library w.store v.memory
  library_agrees l w v h q a here = let cell = may.calling.library q a here in h.agree q a (cell.0, inr cell.1)

  -- a call of a function, when its actuals were evaluated
  pub function_called : (t : Target) (actuals : tree.Actuals) (l k : ℕ) (w : World) (v : kernel.World) → IsBody Bodies true t → count_of actuals ≤ arguments → fr.base ≤ k → k < fr.width
      → end_of_actuals k actuals ≤ fr.width
      → Runs Stop (Given (l + 7 + count_of actuals) k (parameters_of p t) actuals v) (given p calls inst actuals (parameters_of p t) w)
      (codes (actuals_code (names_in p inst) shape_of home_of site k (parameters_of p t) actuals) v)
      → Runs Stop (Held p calls inst K kcalls fuel Cell Keep fr frame Set shape_of home_of site Bodies Library may Sees sees (l + 2) k v) (goes_to (given p calls inst actuals (parameters_of p t) w) (λ arguments. performed calls t arguments >>= λ r. result_of r))
      (codes (joined (actuals_code (names_in p inst) shape_of home_of site k (parameters_of p t) actuals)
      (joined (moves_code site.width k 0 actuals) (and_op (call (body_number site t)) (one (op.Move k site.width))))) v)
  function_called get_target actuals l k w v is few free small room h = absurd is
  function_called put_target actuals l k w v is few free small room h = absurd is
  function_called (body_target j m) actuals l k w v is few free small room h =
      subst (λ n. Runs Stop (Held p calls inst K kcalls fuel Cell Keep fr frame Set shape_of home_of site Bodies Library may Sees sees (l + 2) k v) (goes_to (given p calls inst actuals (parameters_of p (body_target j m)) w) (λ xs. calls j m xs >>= λ r. result_of r))
      (codes (joined (actuals_code (names_in p inst) shape_of home_of site k (parameters_of p (body_target j m)) actuals)
      (joined (moves_code n k 0 actuals) (and_op (call (site.body j m)) (one (op.Move k n))))) v)) (sym may.width_is)
      (rw (joined_does K kcalls fuel fr.width fr.fp fr.calls (actuals_code (names_in p inst) shape_of home_of site k (parameters_of p (body_target j m)) actuals) behind v)
      (runs_then Stop (Given (l + 7 + count_of actuals) k (parameters_of p (body_target j m)) actuals v) (Runs Stop (Held p calls inst K kcalls fuel Cell Keep fr frame Set shape_of home_of site Bodies Library may Sees sees (l + 2) k v)) (runs_stop Stop (Held p calls inst K kcalls fuel Cell Keep fr frame Set shape_of home_of site Bodies Library may Sees sees (l + 2) k v))
      (λ xs. calls j m xs >>= λ r. result_of r) (codes behind)
      (λ xs u t g. moved_call xs u t g (moves_do actuals (l + 7) k 0 u t (omega (arith, free, small)) (omega (arith, few)) room g.inside))
      (given p calls inst actuals (parameters_of p (body_target j m)) w) (codes (actuals_code (names_in p inst) shape_of home_of site k (parameters_of p (body_target j m)) actuals) v) h))
    where
      calling : Code
      calling = and_op (call (site.body j m)) (one (op.Move k fr.width))

      behind : Code
      behind = joined (moves_code fr.width k 0 actuals) calling

      first_slot : slot_word end 0 ≡ slot_word fr.fp fr.width
      first_slot = omega arith

      moved_call : (xs : List Argument) (u : World) (t : kernel.World) → Given (l + 7 + count_of actuals) k (parameters_of p (body_target j m)) actuals v xs u t
          → Moved (l + 7) k 0 actuals u t (codes (moves_code fr.width k 0 actuals) t)
          → Runs Stop (Held p calls inst K kcalls fuel Cell Keep fr frame Set shape_of home_of site Bodies Library may Sees sees (l + 2) k v) (goes_to (calls j m xs u) (λ r. result_of r)) (codes behind t)
      moved_call xs u t g moved =
          rw (joined_does K kcalls fuel fr.width fr.fp fr.calls (moves_code fr.width k 0 actuals) calling t, moved.is)
          (runs_are (λ x y z. ((1 ≤ x) × (x ≤ fr.top)) × Called Library end (fr.spare + (l + 3)) u moved.u y z)
          (λ x y z. Called Library end (fr.spare + (l + 3)) u moved.u y z × ((slot_in end 0 z ≡ x) × FitsSigned w32 x))
          (λ o e. Runs Stop (Held p calls inst K kcalls fuel Cell Keep fr frame Set shape_of home_of site Bodies Library may Sees sees (l + 2) k v) o (kernel.goes_on e (codes (one (op.Move k fr.width)))))
          (record {
            raises = λ x y s z same stop. (same, (stop.0, inside_less Cell Keep fr Set (l + 3) 0 s z (omega arith) (after_call (l + 3) u s moved.u z before stop.1)));
            cut = λ s z seen. seen;
          })
          (λ x s z h2. held_set p calls inst K kcalls fuel Cell Keep fr frame Set shape_of home_of site Bodies Library may Sees sees (l + 2) k v x (slot_in fr.fp fr.width z) s z (ap z.memory (sym first_slot) ∙ h2.1.0) h2.1.1 free small
          (λ i lt. h2.0.words (slot_word fr.fp i) (omega (arith, lt, small, frame.room)) ∙ (moved.kept i (omega (arith, lt, small)) ∙ g.below i lt))
          (after_call (l + 2 + 1) u s moved.u z (inside_less Cell Keep fr Set (l + 3) (l + 2 + 1) u moved.u (omega arith) before) (called_less s z h2.0)))
          (goes_to (calls j m xs u) (λ r. result_of r)) (code.called kcalls fr.width fr.fp fr.calls (site.body j m) moved.u)
          (may.functions j m is xs g.for (omega (arith, few, g.count)) (fr.spare + (l + 3)) u moved.u
          (subst (λ d. ArgumentsStand Library end d 0 (parameters_of p (body_target j m)) xs u moved.u) (sym g.inside.depth_is)
          (arguments_stand actuals (parameters_of p (body_target j m)) xs k 0 (l + 7) u t moved.u g.temporaries moved.from moved.inside))
          (library_agrees (l + 7) u moved.u moved.inside)
          (observed_less (fr.spare + (l + 7)) (fr.spare + (l + 3) + 2) u.seen moved.u.seen (omega arith) moved.inside.seen)
          moved.inside.input (ap (λ d. d + fr.calls) g.inside.depth_is ∙ may.full)))
        where
          before : In (l + 3) u moved.u
          before = inside_less Cell Keep fr Set (l + 7) (l + 3) u moved.u (omega arith) moved.inside

          called_less : (s : World) (z : kernel.World) → Called Library end (fr.spare + (l + 3)) u moved.u s z → Called Library end (fr.spare + (l + 2 + 1)) u moved.u s z
          called_less s z c = record {
            depth_is = c.depth_is;
            input = c.input;
            library = c.library;
            words = c.words;
            kept = c.kept;
            seen = observed_less (fr.spare + (l + 3)) (fr.spare + (l + 2 + 1)) s.seen z.seen (omega arith) c.seen;
          }

  -- an argument before others
  pub given_cons : (a : Argument) (actuals rest : tree.Actuals) (qs : List ResolvedParameter) (l m k i : ℕ) (start s : kernel.World)
      → ((xs : List Argument) (u : World) (z : kernel.World) → Given m i (drop 1 qs) rest s xs u z → Given l k qs actuals start (a ∷ xs) u z)
      → (r : Outcome (List Argument)) (e : Ended) → Runs Stop (Given m i (drop 1 qs) rest s) r e → Runs Stop (Given l k qs actuals start) (goes_to r (λ xs. give (a ∷ xs))) e
  given_cons a actuals rest qs l m k i start s next =
      runs_are Stop (Given m i (drop 1 qs) rest s) (λ r e. Runs Stop (Given l k qs actuals start) (goes_to r (λ xs. give (a ∷ xs))) e)
      (record { raises = λ x y w v same stop. (same, stop); cut = λ w v seen. seen }) next

  -- what an actual came to, and the actuals behind it
  pub came_then : (f : ResolvedParameter) (There : Argument → kernel.World → Type 0) (actuals rest : tree.Actuals) (qs : List ResolvedParameter) (l m k i n : ℕ) (start : kernel.World) (others : Code)
      → ((a : Argument) (xs : List Argument) (y u : World) (s z : kernel.World) → Came n k start f There a y s → Given m i (drop 1 qs) rest s xs u z → Given l k qs actuals start (a ∷ xs) u z)
      → ((y : World) (s : kernel.World) → In n y s → Runs Stop (Given m i (drop 1 qs) rest s) (given p calls inst rest (drop 1 qs) y) (codes others s))
      → (r : Outcome Argument) (e : Ended) → Runs Stop (Came n k start f There) r e
      → Runs Stop (Given l k qs actuals start) (goes_to r (λ a. given p calls inst rest (drop 1 qs) >>= λ xs. give (a ∷ xs))) (kernel.goes_on e (codes others))
  came_then f There actuals rest qs l m k i n start others build next =
      runs_then Stop (Came n k start f There) (Runs Stop (Given l k qs actuals start)) (runs_stop Stop (Given l k qs actuals start))
      (λ a. given p calls inst rest (drop 1 qs) >>= λ xs. give (a ∷ xs)) (codes others)
      (λ a y s came. given_cons a actuals rest qs l m k i start s (λ xs u z g. build a xs y u s z came g) (given p calls inst rest (drop 1 qs) y) (codes others s) (next y s came.inside))

  -- a value is checked
  pub checked_came : (f : ResolvedParameter) (n k : ℕ) (start : kernel.World) (x : ℤ) (w : World) (v : kernel.World) → IsWord f.shape → f.mode ≡ in_mode → Held p calls inst K kcalls fuel Cell Keep fr frame Set shape_of home_of site Bodies Library may Sees sees (n + 1) k start x w v
      → Runs Stop (Came n k start f (λ a t. Value a k t)) (goes_to (check (word_bounds f.shape) x w) (λ u. give (of_value x))) (codes (one (within k (word_bounds f.shape))) v)
  checked_came f n k start x w v is_word mode h = rw h.slot (by_test (is_within (word_bounds f.shape) x))
    where
      by_test : (t : Bool) → Runs Stop (Came n k start f (λ a u. Value a k u)) (goes_to ((if t then done else raise 1) w) (λ u. give (of_value x))) (kernel.goes_on (if_valid t (λ u. u) v) (codes no_op))
      by_test true = record { inside = inside_paid Cell Keep fr Set 1 n w v h.inside; below = h.below; there = (h.slot, h.word); for = (is_word, mode) }
      by_test false = (refl, fails_there p calls inst K kcalls fuel Cell Keep fr frame Set shape_of home_of site Bodies Library may Sees sees n w v h.inside)

  -- the address of a composite object is handed over
  pub composite_came : (f : ResolvedParameter) (n k : ℕ) (start : kernel.World) (q : Place) (w : World) (v : kernel.World) → IsComposite f.shape → Located p calls inst K kcalls fuel Cell Keep fr frame Set shape_of home_of site Bodies Library may Sees sees f.shape n k start q w v
      → Came n k start f (λ a t. Composite f.shape a k t) (of_composite q) w v
  composite_came f n k start q w v is h =
      record { inside = h.inside; below = h.below; there = record { address = h.address; slot = h.slot; stands = h.stands; own = h.own }; for = is }

  -- an argument that stands, and those behind it, as one action each
  pub came_source : (c : Outcome (Unit {0})) (a : Argument) (rest : Action (List Argument)) (o : Simple) (others : Code) (t : kernel.World) (R : Outcome (List Argument) → Ended → Type 0)
      → R (goes_to (goes_to c (λ u. give a)) (λ x. rest >>= λ xs. give (x ∷ xs))) (kernel.goes_on (codes (one o) t) (codes others))
      → R (goes_to c (λ u. rest >>= λ xs. give (a ∷ xs))) (codes (and_op (simple o) others) t)
  came_source c a rest o others t R h =
      subst (R (goes_to c (λ u. rest >>= λ xs. give (a ∷ xs)))) (goes_on_twice (does o t) Ends (codes others))
      (subst (λ x. R x (kernel.goes_on (codes (one o) t) (codes others))) (goes_to_twice c (λ u. give a) (λ x. rest >>= λ xs. give (x ∷ xs))) h)

  -- what was known of the first actual is so behind the others
  abbrev pub Builds : (f : ResolvedParameter) (There : Argument → kernel.World → Type 0) (actuals rest : tree.Actuals) (qs : List ResolvedParameter) (l k i : ℕ) (start : kernel.World) → Type 0
  Builds f There actuals rest qs l k i start =
      (a : Argument) (xs : List Argument) (y u : World) (s z : kernel.World) → Came (l + 1) k start f There a y s → Given (l + 1 + count_of rest) i (drop 1 qs) rest s xs u z
      → Given (l + suc (count_of rest)) k qs actuals start (a ∷ xs) u z

  -- what the actuals behind come to
  abbrev pub Follows : (rest : tree.Actuals) (qs : List ResolvedParameter) (l i : ℕ) → Type 0
  Follows rest qs l i =
      (y : World) (s : kernel.World) → In (l + 1) y s
      → Runs Stop (Given (l + 1 + count_of rest) i (drop 1 qs) rest s) (given p calls inst rest (drop 1 qs) y) (codes (actuals_code (names_in p inst) shape_of home_of site i (drop 1 qs) rest) s)

  -- a part of an object as an actual, by the code of its place
  pub part_given : (o : tree.Object) (parts : tree.Parts) (r : type.Range) (actuals rest : tree.Actuals) (qs : List ResolvedParameter) (l k : ℕ) (w : World) (v : kernel.World)
      → IsWord (next_parameter qs).shape → IsGivenBack (next_parameter qs).mode → IsWord (part_shape (shape_of o) parts) → fr.base ≤ k → k + 1 < fr.width
      → Builds (next_parameter qs) (λ a z. Part (part_shape (shape_of o) parts) r a k z) actuals rest qs l k (k + 2) v → Follows rest qs l (k + 2)
      → Runs Stop (Located p calls inst K kcalls fuel Cell Keep fr frame Set shape_of home_of site Bodies Library may Sees sees (part_shape (shape_of o) parts) (l + 3) k v) (place p calls inst parts (place_in p inst w.depth o) (ticked w))
      (codes (parts_code (names_in p inst) shape_of home_of site k (shape_of o) parts) (with_slot fr.fp k (pos (address_at fr.fp (home_of o))) (paid 1 v)))
      → Runs Stop (Given (l + suc (count_of rest)) k qs actuals v)
      (goes_to (place p calls inst parts (place_in p inst w.depth o) (ticked w))
      (λ q. argument_of (next_parameter qs).mode (word_bounds (next_parameter qs).shape) q (bounds_in p inst r) >>= λ a. given p calls inst rest (drop 1 qs) >>= λ xs. give (a ∷ xs)))
      (codes (and_op (simple (address_on k (home_of o))) (joined (parts_code (names_in p inst) shape_of home_of site k (shape_of o) parts)
      (joined (unless_out (next_parameter qs).mode (and_op (simple (op.Load (k + 1) k)) (one (within (k + 1) (word_bounds (next_parameter qs).shape)))))
      (actuals_code (names_in p inst) shape_of home_of site (k + 2) (drop 1 qs) rest)))) v)
  part_given o parts r actuals rest qs l k w v is_word back one_word free small build next h =
      let f : ResolvedParameter = next_parameter qs in
      let others = actuals_code (names_in p inst) shape_of home_of site (k + 2) (drop 1 qs) rest in
      let first = unless_out f.mode (and_op (simple (op.Load (k + 1) k)) (one (within (k + 1) (word_bounds f.shape)))) in
      let here = parts_code (names_in p inst) shape_of home_of site k (shape_of o) parts in
      rw (
        addressed_is p calls inst K kcalls fuel Cell Keep fr frame Set shape_of home_of site Bodies Library may Sees sees (home_of o) k (joined here (joined first others)) v,
        joined_does K kcalls fuel fr.width fr.fp fr.calls here (joined first others) (with_slot fr.fp k (pos (address_at fr.fp (home_of o))) (paid 1 v)),
      )
      (runs_then Stop (Located p calls inst K kcalls fuel Cell Keep fr frame Set shape_of home_of site Bodies Library may Sees sees (part_shape (shape_of o) parts) (l + 3) k v) (Runs Stop (Given (l + suc (count_of rest)) k qs actuals v))
      (runs_stop Stop (Given (l + suc (count_of rest)) k qs actuals v))
      (λ q. argument_of f.mode (word_bounds f.shape) q (bounds_in p inst r) >>= λ a. given p calls inst rest (drop 1 qs) >>= λ xs. give (a ∷ xs)) (codes (joined first others))
      (λ q u t g. rw (joined_does K kcalls fuel fr.width fr.fp fr.calls first others t)
      (came_then f (λ a z. Part (part_shape (shape_of o) parts) r a k z) actuals rest qs (l + suc (count_of rest)) (l + 1 + count_of rest) k (k + 2) (l + 1) v others build next
      (argument_of f.mode (word_bounds f.shape) q (bounds_in p inst r) u) (codes first t)
      (part_argument f.mode back f refl is_word (part_shape (shape_of o) parts) r (l + 1) k v q u t one_word free small
      (located_less p calls inst K kcalls fuel Cell Keep fr frame Set shape_of home_of site Bodies Library may Sees sees (part_shape (shape_of o) parts) (l + 3) (l + 1 + 2) k v q u t (omega arith) g))))
      (place p calls inst parts (place_in p inst w.depth o) (ticked w)) (codes here (with_slot fr.fp k (pos (address_at fr.fp (home_of o))) (paid 1 v))) h)

  -- a composite object as an actual
  pub composite_given : (o : tree.Object) (parts : tree.Parts) (actuals rest : tree.Actuals) (qs : List ResolvedParameter) (l k : ℕ) (w : World) (v : kernel.World)
      → IsComposite (next_parameter qs).shape → part_shape (shape_of o) parts ≡ (next_parameter qs).shape
      → Builds (next_parameter qs) (λ a z. Composite (next_parameter qs).shape a k z) actuals rest qs l k (k + 1) v → Follows rest qs l (k + 1)
      → Runs Stop (Located p calls inst K kcalls fuel Cell Keep fr frame Set shape_of home_of site Bodies Library may Sees sees (part_shape (shape_of o) parts) (l + 3) k v) (place p calls inst parts (place_in p inst w.depth o) (ticked w))
      (codes (parts_code (names_in p inst) shape_of home_of site k (shape_of o) parts) (with_slot fr.fp k (pos (address_at fr.fp (home_of o))) (paid 1 v)))
      → Runs Stop (Given (l + suc (count_of rest)) k qs actuals v)
      (goes_to (place p calls inst parts (place_in p inst w.depth o) (ticked w)) (λ q. given p calls inst rest (drop 1 qs) >>= λ xs. give (of_composite q ∷ xs)))
      (codes (and_op (simple (address_on k (home_of o))) (joined (parts_code (names_in p inst) shape_of home_of site k (shape_of o) parts)
      (actuals_code (names_in p inst) shape_of home_of site (k + 1) (drop 1 qs) rest))) v)
  composite_given o parts actuals rest qs l k w v is same build next h =
      let f : ResolvedParameter = next_parameter qs in
      let others = actuals_code (names_in p inst) shape_of home_of site (k + 1) (drop 1 qs) rest in
      let here = parts_code (names_in p inst) shape_of home_of site k (shape_of o) parts in
      rw (
        addressed_is p calls inst K kcalls fuel Cell Keep fr frame Set shape_of home_of site Bodies Library may Sees sees (home_of o) k (joined here others) v,
        joined_does K kcalls fuel fr.width fr.fp fr.calls here others (with_slot fr.fp k (pos (address_at fr.fp (home_of o))) (paid 1 v)),
      )
      (runs_then Stop (Located p calls inst K kcalls fuel Cell Keep fr frame Set shape_of home_of site Bodies Library may Sees sees (part_shape (shape_of o) parts) (l + 3) k v) (Runs Stop (Given (l + suc (count_of rest)) k qs actuals v))
      (runs_stop Stop (Given (l + suc (count_of rest)) k qs actuals v))
      (λ q. given p calls inst rest (drop 1 qs) >>= λ xs. give (of_composite q ∷ xs)) (codes others)
      (λ q u t g. given_cons (of_composite q) actuals rest qs (l + suc (count_of rest)) (l + 1 + count_of rest) k (k + 1) v t
      (λ xs y z more. build (of_composite q) xs u y t z
      (composite_came f (l + 1) k v q u t is (subst (λ z. Located p calls inst K kcalls fuel Cell Keep fr frame Set shape_of home_of site Bodies Library may Sees sees z (l + 1) k v q u t) same (located_less p calls inst K kcalls fuel Cell Keep fr frame Set shape_of home_of site Bodies Library may Sees sees (part_shape (shape_of o) parts) (l + 3) (l + 1) k v q u t (omega arith) g))) more)
      (given p calls inst rest (drop 1 qs) u) (codes others t) (next u t (inside_less Cell Keep fr Set (l + 3) (l + 1) u t (omega arith) g.inside)))
      (place p calls inst parts (place_in p inst w.depth o) (ticked w)) (codes here (with_slot fr.fp k (pos (address_at fr.fp (home_of o))) (paid 1 v))) h)
