-- Names, operators, tests and the addresses of parts: what their code does, by what their operands do.
use Rattle.std.proofs.Common.{◌≡◌, ℕ, zero, suc, ◌+◌, ◌*◌, ◌<◌, ◌≤◌, ℤ, pos, negsuc, neg_ℤ, nat_abs, ◌+ℤ◌, ◌-ℤ◌, ◌*ℤ◌, Bool, true, false, not, ◌&&◌, ◌⊎◌, inl, inr, FitsSigned, List, ◌∷◌, if◌then◌else◌, refl, sym, ap, subst, ◌∙◌, arith}
use Rattle.std.proofs.lemmas.Bool.Decides.{nat_tests}
use Rattle.std.proofs.lemmas.Int.{ints, int_wrap_fits}
use Rattle.std.specs.Int.{w32, int_wrap}
use Rattle.std.specs.Ordering.{int_eq}
use Rattle.cov_base.specs.declared.event.Event.TheVariants.{Done}
use Rattle.cov_base.specs.Path.{Step, vector_of}
use Rattle.ada_meaning.specs.Arithmetic.{base_range, is_within, sign_of, exact, divides, holds, number_of_truth, is_true, natural, count_between}
use Rattle.ada_meaning.specs.Calls.{Calls, check, checked}
use Rattle.ada_meaning.specs.Expressions.{Evaluation, place, operated, completed}
use Rattle.ada_meaning.specs.Program.{Bounds, Program}
use Rattle.ada_meaning.specs.Resolved.{place_in}
use Rattle.ada_meaning.specs.Shape.{Shape, word, row, group, Shapes, no_shape, and_shape}
use Rattle.ada_meaning.specs.State.{Place, part_at, World, Outcome, Gives, Raises, OutOfFuel, Action, goes_to, give, raise, done, ◌>>=◌, with_seen}
use Rattle.ada_meaning.specs.Tree as tree
use Rattle.ada_meaning.specs.Types as type
use Rattle.ada_resolved.specs.Sizes.{words, all_words}
use Rattle.kernel_ir.proofs.Joining.{joined_does, single_does, goes_on_same}
use Rattle.kernel_ir.proofs.Memories.{with_slot_at, with_slot_other}
use Rattle.kernel_ir.specs.declared.code.Edge.{Edge}
use Rattle.kernel_ir.specs.declared.code.Edge.TheVariants as edge
use Rattle.kernel_ir.specs.declared.kernel.Kernel.{Kernel}
use Rattle.kernel_ir.specs.declared.simple.Simple.{Simple}
use Rattle.kernel_ir.specs.declared.simple.Simple.TheVariants as op
use Rattle.kernel_ir.specs.Meaning as code
use Rattle.kernel_ir.specs.Meaning.{taken, follows, completes}
use Rattle.kernel_ir.specs.Sequence.{joined}
use Rattle.kernel_ir.specs.Simple.{does_simple, if_valid, operator_of, relation_of}
use Rattle.kernel_ir.specs.Tree.{simple, Code, and_op, Nodes, no_node}
use Rattle.kernel_ir.specs.World.{Memory, Ended, Ends, Cut, in_area, data_word, area_end, slot_word, slot_in, with_slot, paid, noted}
use Rattle.kernel_ir.specs.World as kernel
use Rattle.statement_code.specs.Names.{names_in}
use Rattle.statement_code.specs.Cells.{Cells, Lies, Within}
use Rattle.statement_code.specs.Objects.{component_of, words_before, HasComponent, IsPlaced}
use Rattle.statement_code.specs.Calls.{MayCall}
use Rattle.statement_code.specs.Frames.{rate, Observed, Frame, IsFrame, Inside, Failed, Runs}
use Rattle.statement_code.specs.Values.{one, Home, in_frame, in_library, address_at, address_on, fetch_on, sign_on, operator_for, operator_on, relation_for, relation_on, complement_on, past, part_shape, IsWord, Stands, expr_code, parts_code, nodes_code, SeesIn, Site}
use Rattle.statement_code.proofs.Objects.{element_lies, component_lies, placed}
use Rattle.statement_code.proofs.Frames.{ticked, observed, inside_ticked, inside_paid, inside_less, worked, AtStops, runs_stop, runs_then}

pub same_operator : (o : type.Operator) → operator_of (operator_for o) ≡ o
same_operator type.addition = refl
same_operator type.subtraction = refl
same_operator type.multiplication = refl
same_operator type.division = refl
same_operator type.modulus = refl
same_operator type.remainder = refl

pub same_relation : (r : type.Relation) → relation_of (relation_for r) ≡ r
same_relation type.equal = refl
same_relation type.unequal = refl
same_relation type.less = refl
same_relation type.at_most = refl
same_relation type.greater = refl
same_relation type.at_least = refl

-- a decision's evaluation is noted
abbrev pub evaluated : ℕ → tree.Label → List Step → World → World
evaluated inst d steps w = with_seen (record { events = Done (record { 0 = d.number }) (record { 0 = inst }) (vector_of steps) ∷ w.seen.events; output = w.seen.output; cost = w.seen.cost }) w

abbrev pub code_evaluated : ℕ → tree.Label → List Step → kernel.World → kernel.World
code_evaluated inst d steps v = noted (Done (record { 0 = d.number }) (record { 0 = inst }) (vector_of steps)) (paid 2 v)

-- what holds for both outcomes holds
pub by_outcome : (P : Bool → Type 0) → P true → P false → (outcome : Bool) → P outcome
by_outcome P h g true = h
by_outcome P h g false = g

-- numbers of the base range are words; so are addresses
pub fits_when : (z : ℤ) → is_within base_range z ≡ true → FitsSigned w32 z
fits_when (pos n) is = record { sfits = grind (arith, ints, nat_tests) }
fits_when (negsuc n) is = record { sfits = grind (arith, ints, nat_tests) }

pub small_fits : (n : ℕ) → n ≤ area_end → FitsSigned w32 (pos n)
small_fits n le = record { sfits = omega (arith, le) }

pub truth_fits : (b : Bool) → FitsSigned w32 (number_of_truth b)
truth_fits true = record { sfits = omega arith }
truth_fits false = record { sfits = omega arith }

-- where objects stand, addresses don't wrap
pub wraps_sum : (x y : ℤ) (a n : ℕ) → x ≡ pos a → y ≡ pos n → a + n ≤ area_end → int_wrap w32 (x +ℤ y) ≡ pos (a + n)
wraps_sum x y a n here there le = ap (int_wrap w32) sum ∙ int_wrap_fits w32 (pos (a + n)) (small_fits (a + n) le)
  where
    sum : x +ℤ y ≡ pos (a + n)
    sum = omega (arith, ints, here, there)

pub wraps_product : (x : ℤ) (k n : ℕ) → x ≡ pos k → k * n ≤ area_end → int_wrap w32 (x *ℤ pos n) ≡ pos (k * n)
wraps_product x k n here le = ap (λ y. int_wrap w32 (y *ℤ pos n)) here ∙ int_wrap_fits w32 (pos (k * n)) (small_fits (k * n) le)

-- an element ends where its array does, at the latest
pub element_ends : (n k s : ℕ) → k < n → k * s + s ≤ n * s
element_ends zero k s less = absurd (omega (arith, less))
element_ends (suc n) zero s less = omega arith
element_ends (suc n) (suc k) s less = omega (arith, element_ends n k s (omega (arith, less)))

pub in_area_is : (a n : ℕ) → data_word ≤ a → a + n ≤ area_end → in_area (pos a) n ≡ true
in_area_is a n low high = grind (arith, ints, nat_tests, low, high)

pub component_ends : (ss : Shapes) (n : ℕ) → HasComponent ss n → words_before ss n + words (component_of ss n) ≤ all_words ss
component_ends no_shape n has = absurd has
component_ends (and_shape s ss) zero has = omega arith
component_ends (and_shape s ss) (suc n) has = omega (arith, component_ends ss n has)

pub element_stands : (Cell : Cells) (b : Bounds) (s : Shape) (q : Place) (a : ℕ) (x : ℤ) (k : ℕ) → IsPlaced b x k → Stands Cell (row b s) q a
    → Stands Cell s (part_at x q) (a + k * words s)
element_stands Cell b s q a x k at h = record {
  lies = element_lies Cell b s q a x k (a + k * words s) at refl h.lies;
  low = omega (arith, h.low);
  high = omega (arith, h.high, element_ends (count_between b.low b.high) k (words s) at.less);
}

pub component_stands : (Cell : Cells) (ss : Shapes) (q : Place) (a n : ℕ) → HasComponent ss n → Stands Cell (group ss) q a
    → Stands Cell (component_of ss n) (part_at (pos n) q) (a + words_before ss n)
component_stands Cell ss q a n has h = record {
  lies = component_lies Cell ss q a n has h.lies;
  low = omega (arith, h.low);
  high = omega (arith, h.high, component_ends ss n has);
}

pub word_cell : (Cell : Cells) (s : Shape) (q : Place) (a : ℕ) → IsWord s → Lies Cell s q a → Cell q a
word_cell Cell (word b) q a is h = h
word_cell Cell (row b s) q a is h = absurd is
word_cell Cell (group ss) q a is h = absurd is

pub word_ends : (s : Shape) → IsWord s → words s ≡ 1
word_ends (word b) is = refl
word_ends (row b s) is = absurd is
word_ends (group ss) is = absurd is

module _ (p : Program) (calls : Calls) (inst : ℕ) (K : Kernel) (kcalls : code.Calls) (fuel : ℕ) (Cell : Cells) (Keep : ℕ → Type 0) (fr : Frame)
    (frame : IsFrame Cell Keep fr) (Set : ℕ → Type 0) (shape_of : tree.Object → Shape) (home_of : tree.Object → Home) (site : Site) (Bodies : Bool → ℕ → ℕ → Type 0) (Library : Cells)
    (may : MayCall p calls kcalls Library site Bodies Cell Keep fr) (Sees : tree.Object → Type 0)
    (sees : SeesIn p inst shape_of home_of site Bodies Sees (Within Cell Set) fr.fp fr.depth) where
  abbrev pub In : ℕ → World → kernel.World → Type 0
  In l w v = Inside Cell Keep fr Set l w v

  abbrev pub Stop : ℕ → World → kernel.World → Type 0
  Stop = Failed Cell Keep fr Set

  -- what an operation does, and what code does
  abbrev pub does : Simple → kernel.World → Ended
  does s v = does_simple K.layouts K.exceptions fr.fp s v

  abbrev pub codes : Code → kernel.World → Ended
  codes a v = code.does_code K kcalls fuel fr.width fr.fp fr.calls a v

  -- the slots below k are as they were
  abbrev pub Below : (k : ℕ) → (start v : kernel.World) → Type 0
  Below k start v = (j : ℕ) → j < k → slot_in fr.fp j v ≡ slot_in fr.fp j start

  -- a value stands in the slot k
  pub record Held (l k : ℕ) (start : kernel.World) (x : ℤ) (w : World) (v : kernel.World) : Type 0 where
    pub inside : In l w v
    pub slot : slot_in fr.fp k v ≡ x
    pub word : FitsSigned w32 x
    pub below : Below k start v

  -- of the library level, or of this activation
  abbrev pub IsOwn : Place → Type 0
  IsOwn q = (q.frame ≡ 0) ⊎ (q.frame ≡ fr.depth)

  -- the address of a part of a shape stands in the slot k
  pub record Located (s : Shape) (l k : ℕ) (start : kernel.World) (q : Place) (w : World) (v : kernel.World) : Type 0 where
    pub inside : In l w v
    pub address : ℕ
    pub slot : slot_in fr.fp k v ≡ pos address
    pub stands : Stands (Within Cell Set) s q address
    pub own : IsOwn q
    pub below : Below k start v

  -- Constraint_Error
  pub fails_there : (l : ℕ) (w : World) (v : kernel.World) → In (l + 1) w v → Stop 1 w (paid 1 v)
  fails_there l w v h = (
    (omega arith, omega (arith, frame.predefined)),
    inside_paid Cell Keep fr Set 1 0 w v (inside_less Cell Keep fr Set (l + 1) (0 + 1) w v (omega arith) h),
  )

  pub held_less : (l m k : ℕ) (start : kernel.World) (x : ℤ) (w : World) (v : kernel.World) → m ≤ l → Held l k start x w v → Held m k start x w v
  held_less l m k start x w v le h = record { inside = inside_less Cell Keep fr Set l m w v le h.inside; slot = h.slot; word = h.word; below = h.below }

  pub slots_below : (k : ℕ) (x : ℤ) (start v : kernel.World) → k < fr.width → Below k start v → Below k start (with_slot fr.fp k x v)
  slots_below k x start v room below j lt =
      with_slot_other fr.fp k j x v (omega (arith, room, frame.room)) (omega (arith, lt, room, frame.room)) (λ e. omega (arith, e, lt)) ∙ below j lt

  -- the slot k is set
  pub held_set : (l k : ℕ) (start : kernel.World) (x y : ℤ) (w : World) (v : kernel.World) → y ≡ x → FitsSigned w32 x → fr.base ≤ k → k < fr.width → Below k start v
      → In (l + 1) w v → Held l k start x w (with_slot fr.fp k y (paid 1 v))
  held_set l k start x y w v same fits free room below h = record {
    inside = worked Cell Keep fr frame Set l k y w (paid 1 v) free room (inside_paid Cell Keep fr Set 1 l w v h);
    slot = with_slot_at fr.fp k y (paid 1 v) ∙ same;
    word = fits;
    below = slots_below k y start (paid 1 v) room below;
  }

  -- the slot k is set to a number, if that is a word
  pub held_word : (l k : ℕ) (start : kernel.World) (x : ℤ) (w : World) (v : kernel.World) → fr.base ≤ k → k < fr.width → Below k start v → In (l + 1) w v
      → (b : Bool) → (b ≡ true → FitsSigned w32 x)
      → Runs Stop (Held l k start) (goes_to ((if b then done else raise 1) w) (λ u. give x)) (if_valid b (with_slot fr.fp k x) v)
  held_word l k start x w v free room below h true fits = held_set l k start x x w v refl (fits refl) free room below h
  held_word l k start x w v free room below h false fits = (refl, fails_there l w v h)

  -- the slot k is checked
  pub held_checked : (l k : ℕ) (start : kernel.World) (x : ℤ) (w : World) (v : kernel.World) → Held (l + 1) k start x w v → (b : Bool)
      → Runs Stop (Held l k start) (goes_to ((if b then done else raise 1) w) (λ u. give x)) (if_valid b (λ u. u) v)
  held_checked l k start x w v h true = record { inside = inside_paid Cell Keep fr Set 1 l w v h.inside; slot = h.slot; word = h.word; below = h.below }
  held_checked l k start x w v h false = (refl, fails_there l w v h.inside)

  -- the operators on one integer
  pub signed_does : (l k : ℕ) (start : kernel.World) (s : type.Sign) (x : ℤ) (w : World) (v : kernel.World) → fr.base ≤ k → k < fr.width → Held (l + 1) k start x w v
      → Runs Stop (Held l k start) (checked base_range (sign_of s x) w) (does (sign_on k s) v)
  signed_does l k start type.unary_plus x w v free room h = rw h.slot (held_checked l k start x w v h (is_within base_range x))
  signed_does l k start type.unary_minus x w v free room h =
      rw h.slot (held_word l k start (neg_ℤ x) w v free room h.below h.inside (is_within base_range (neg_ℤ x)) (fits_when (neg_ℤ x)))
  signed_does l k start type.absolute_value x w v free room h =
      rw h.slot (held_word l k start (pos (nat_abs x)) w v free room h.below h.inside (is_within base_range (pos (nat_abs x))) (fits_when (pos (nat_abs x))))

  -- the operators on two integers
  pub operated_does : (l k : ℕ) (start : kernel.World) (o : type.Operator) (x y : ℤ) (w : World) (v : kernel.World) → fr.base ≤ k → k < fr.width → Below k start v
      → In (l + 1) w v → (b : Bool)
      → Runs Stop (Held l k start) ((if b then raise 1 else checked base_range (exact o x y)) w)
      (if b then kernel.Raises 1 (paid 1 v) else if_valid (is_within base_range (exact o x y)) (with_slot fr.fp k (exact o x y)) v)
  operated_does l k start o x y w v free room below h true = (refl, fails_there l w v h)
  operated_does l k start o x y w v free room below h false =
      held_word l k start (exact o x y) w v free room below h (is_within base_range (exact o x y)) (fits_when (exact o x y))

  pub operation_does : (l k : ℕ) (start middle : kernel.World) (o : type.Operator) (x y : ℤ) (w u : World) (v : kernel.World) → fr.base ≤ k → k + 1 < fr.width
      → Held (l + 1) k start x u middle → Held (l + 1) (k + 1) middle y w v
      → Runs Stop (Held l k start) (operated o x y w) (does (operator_on k o) v)
  operation_does l k start middle o x y w u v free room h g =
      rw (same_operator o, g.below k (omega arith) ∙ h.slot, g.slot)
      (operated_does l k start o x y w v free (omega (arith, room)) (λ j lt. g.below j (omega (arith, lt)) ∙ h.below j lt) g.inside (divides o && int_eq y (pos 0)))

  -- relations, and `not`
  pub relation_does : (l k : ℕ) (start middle : kernel.World) (r : type.Relation) (x y : ℤ) (w u : World) (v : kernel.World) → fr.base ≤ k → k + 1 < fr.width
      → Held (l + 1) k start x u middle → Held (l + 1) (k + 1) middle y w v
      → Runs Stop (Held l k start) (Gives (number_of_truth (holds r x y)) w) (does (relation_on k r) v)
  relation_does l k start middle r x y w u v free room h g =
      rw (same_relation r, g.below k (omega arith) ∙ h.slot, g.slot)
      (held_set l k start (number_of_truth (holds r x y)) (number_of_truth (holds r x y)) w v refl (truth_fits (holds r x y)) free (omega (arith, room))
      (λ j lt. g.below j (omega (arith, lt)) ∙ h.below j lt) g.inside)

  pub complement_does : (l k : ℕ) (start : kernel.World) (x : ℤ) (w : World) (v : kernel.World) → fr.base ≤ k → k < fr.width → Held (l + 1) k start x w v
      → Runs Stop (Held l k start) (Gives (number_of_truth (not (is_true x))) w) (does (complement_on k) v)
  complement_does l k start x w v free room h =
      rw h.slot (held_set l k start (number_of_truth (not (is_true x))) (number_of_truth (not (is_true x))) w v refl (truth_fits (not (is_true x))) free room h.below h.inside)

  -- one more operation behind code
  pub does_then : (a : Code) (s : Simple) (v : kernel.World) → codes (joined a (one s)) v ≡ kernel.goes_on (codes a v) (does s)
  does_then a s v =
      joined_does K kcalls fuel fr.width fr.fp fr.calls a (one s) v
      ∙ goes_on_same (codes a v) _ _ (single_does K kcalls fuel fr.width fr.fp fr.calls (simple s))

  -- the value of an object of one word
  pub fetch_does : (h : Home) (l k : ℕ) (x : ℤ) (w : World) (v : kernel.World) → fr.base ≤ k → k < fr.width → In (l + 1) w v
      → (v.memory (address_at fr.fp h) ≡ x) × FitsSigned w32 x → Runs Stop (Held l k v) (Gives x w) (codes (one (fetch_on k h)) v)
  fetch_does (in_frame j) l k x w v free room h is = held_set l k v x (slot_in fr.fp j v) w v is.0 is.1 free room (λ i lt. refl) h
  fetch_does (in_library n) l k x w v free room h is = held_set l k v x (v.memory (data_word + n)) w v is.0 is.1 free room (λ i lt. refl) h

  -- the address of an object
  pub located_set : (s : Shape) (l k a : ℕ) (start : kernel.World) (y : ℤ) (q : Place) (w : World) (v : kernel.World) → y ≡ pos a → fr.base ≤ k → k < fr.width
      → Below k start v → In (l + 1) w v → Stands (Within Cell Set) s q a → IsOwn q → Located s l k start q w (with_slot fr.fp k y (paid 1 v))
  located_set s l k a start y q w v same free room below h stands own = record {
    inside = worked Cell Keep fr frame Set l k y w (paid 1 v) free room (inside_paid Cell Keep fr Set 1 l w v h);
    address = a;
    slot = with_slot_at fr.fp k y (paid 1 v) ∙ same;
    stands = stands;
    own = own;
    below = slots_below k y start (paid 1 v) room below;
  }

  -- code of one operand, and then an operation
  pub one_operand : (l k : ℕ) (a : Code) (s : Simple) (r : Outcome ℤ) (f : ℤ → Action ℤ) (start v : kernel.World)
      → ((x : ℤ) (w : World) (u : kernel.World) → Held (l + 3) k start x w u → Runs Stop (Held (l + 2) k start) (f x w) (does s u))
      → Runs Stop (Held (l + rate + 2) k start) r (codes a v)
      → Runs Stop (Held (l + 2) k start) (goes_to r f) (codes (joined a (one s)) v)
  one_operand l k a s r f start v next h =
      rw (does_then a s v)
      (runs_then Stop (Held (l + rate + 2) k start) (Runs Stop (Held (l + 2) k start)) (runs_stop Stop (Held (l + 2) k start)) f (does s)
      (λ x w u g. next x w u (held_less (l + rate + 2) (l + 3) k start x w u (omega arith) g)) r (codes a v) h)

  -- code of two operands, and then an operation
  pub two_operands : (l k : ℕ) (a b : Code) (s : Simple) (r : Outcome ℤ) (m : Action ℤ) (f : ℤ → ℤ → Action ℤ) (v : kernel.World)
      → ((x y : ℤ) (w u : World) (middle t : kernel.World) → Held (l + 3) k v x u middle → Held (l + 3) (k + 1) middle y w t
      → Runs Stop (Held (l + 2) k v) (f x y w) (does s t))
      → Runs Stop (Held (l + rate + 2) k v) r (codes a v)
      → ((u : World) (middle : kernel.World) → In (l + 3) u middle → Runs Stop (Held (l + 3 + 2) (k + 1) middle) (m u) (codes b middle))
      → Runs Stop (Held (l + 2) k v) (goes_to r (λ x. m >>= f x)) (codes (joined a (joined b (one s))) v)
  two_operands l k a b s r m f v next h g =
      rw (joined_does K kcalls fuel fr.width fr.fp fr.calls a (joined b (one s)) v)
      (runs_then Stop (Held (l + rate + 2) k v) (Runs Stop (Held (l + 2) k v)) (runs_stop Stop (Held (l + 2) k v)) (λ x. m >>= f x) (codes (joined b (one s)))
      (λ x u middle i.
      let held = held_less (l + rate + 2) (l + 3) k v x u middle (omega arith) i in
      rw (does_then b s middle)
      (runs_then Stop (Held (l + 3 + 2) (k + 1) middle) (Runs Stop (Held (l + 2) k v)) (runs_stop Stop (Held (l + 2) k v)) (f x) (does s)
      (λ y w t j. next x y w u middle t held (held_less (l + 3 + 2) (l + 3) (k + 1) middle y w t (omega arith) j))
      (m u) (codes b middle) (g u middle held.inside)))
      r (codes a v) h)

  -- nodes that an edge leads past
  pub passed_by : (t : tree.Test) (on_true on_false : Edge) (rest : Nodes) (d : tree.Label) (slot k at next skipped more : ℕ) (steps : List Step) (v : kernel.World)
      → skipped ≡ tree.conditions_of t + more → next ≡ at + tree.conditions_of t
      → code.walks K kcalls fuel fr.width fr.fp fr.calls (record { 0 = d.number }) (record { 0 = inst }) slot
      (nodes_code (names_in p inst) shape_of home_of site k t on_true on_false rest) at skipped steps v
      ≡ code.walks K kcalls fuel fr.width fr.fp fr.calls (record { 0 = d.number }) (record { 0 = inst }) slot rest next more steps v
  passed_by (tree.condition first e) on_true on_false rest d slot k at next skipped more steps v over behind =
      let one : skipped ≡ suc more = omega (arith, over) in
      let following : next ≡ suc at = omega (arith, behind) in
      rw (one, following) refl
  passed_by (tree.negation t) on_true on_false rest d slot k at next skipped more steps v over behind =
      passed_by t on_false on_true rest d slot k at next skipped more steps v over behind
  passed_by (tree.operator true t u) on_true on_false rest d slot k at next skipped more steps v over behind =
      passed_by t (edge.NodeAfter 0) (past (tree.conditions_of u) on_false) (nodes_code (names_in p inst) shape_of home_of site k u on_true on_false rest)
      d slot k at (at + tree.conditions_of t) skipped (tree.conditions_of u + more) steps v (omega (arith, over)) refl
      ∙ passed_by u on_true on_false rest d slot k (at + tree.conditions_of t) next (tree.conditions_of u + more) more steps v refl (omega (arith, behind))
  passed_by (tree.operator false t u) on_true on_false rest d slot k at next skipped more steps v over behind =
      passed_by t (past (tree.conditions_of u) on_true) (edge.NodeAfter 0) (nodes_code (names_in p inst) shape_of home_of site k u on_true on_false rest)
      d slot k at (at + tree.conditions_of t) skipped (tree.conditions_of u + more) steps v (omega (arith, over)) refl
      ∙ passed_by u on_true on_false rest d slot k (at + tree.conditions_of t) next (tree.conditions_of u + more) more steps v refl (omega (arith, behind))

  -- what comes at the end of an edge, where the nodes behind are numbered from next on
  abbrev pub at_end_of : tree.Label → (slot next : ℕ) → Nodes → Edge → List Step → kernel.World → Ended
  at_end_of d slot next rest e steps v =
      follows e (λ o. completes fr.fp (record { 0 = d.number }) (record { 0 = inst }) slot steps o v)
      (λ others. code.walks K kcalls fuel fr.width fr.fp fr.calls (record { 0 = d.number }) (record { 0 = inst }) slot rest next others steps v)

  pub past_ends : (u : tree.Test) (e on_true on_false : Edge) (rest : Nodes) (d : tree.Label) (slot k at next : ℕ) (steps : List Step) (v : kernel.World)
      → next ≡ at + tree.conditions_of u
      → at_end_of d slot at (nodes_code (names_in p inst) shape_of home_of site k u on_true on_false rest) (past (tree.conditions_of u) e) steps v
      ≡ at_end_of d slot next rest e steps v
  past_ends u (edge.Leaf outcome) on_true on_false rest d slot k at next steps v behind = refl
  past_ends u (edge.NodeAfter skipped) on_true on_false rest d slot k at next steps v behind =
      passed_by u on_true on_false rest d slot k at next (tree.conditions_of u + skipped) skipped steps v refl behind

  -- the edge that an outcome takes
  abbrev pub ending_of : tree.Label → (slot next : ℕ) → Nodes → (on_true on_false : Edge) → Bool → List Step → kernel.World → Ended
  ending_of d slot next rest on_true on_false outcome steps v = at_end_of d slot next rest (taken outcome on_true on_false) steps v

  -- `not` exchanges the edges
  pub exchanged : (d : tree.Label) (slot next : ℕ) (rest : Nodes) (t f : Edge) (outcome : Bool) (steps : List Step) (v : kernel.World)
      → ending_of d slot next rest t f (not outcome) steps v ≡ ending_of d slot next rest f t outcome steps v
  exchanged d slot next rest t f true steps v = refl
  exchanged d slot next rest t f false steps v = refl

  -- a decision's evaluation is noted, and its outcome stands in a slot
  pub completed_in : (d : tree.Label) (k l : ℕ) (outcome : Bool) (steps : List Step) (w : World) (v : kernel.World) → fr.base ≤ k → k < fr.width
      → In (l + 2) w v → In l (evaluated inst d steps w) (with_slot fr.fp k (number_of_truth outcome) (code_evaluated inst d steps v))
  completed_in d k l outcome steps w v free room h =
      worked Cell Keep fr frame Set l k (number_of_truth outcome) (evaluated inst d steps w) (code_evaluated inst d steps v) free room
      (observed Cell Keep fr Set (l + 2) l w v _ _ h (record {
        events = ap (λ es. Done (record { 0 = d.number }) (record { 0 = inst }) (vector_of steps) ∷ es) h.seen.events;
        output = h.seen.output;
        cost = omega (arith, h.seen.cost);
      }))

  -- The evaluation of a test and the walk over its nodes end alike: where it has an outcome, the walk goes on so from there, and the slots
  -- below k are as they were.
  pub record Found (k l : ℕ) (start : kernel.World) (ends : Bool → List Step → kernel.World → Ended) (x : Evaluation) (w : World) (e : Ended) : Type 0 where
    pub v : kernel.World
    pub inside : In l w v
    pub below : Below k start v
    pub is : e ≡ ends x.outcome x.steps v

  abbrev pub Tested : (k l : ℕ) → kernel.World → (Bool → List Step → kernel.World → Ended) → Outcome Evaluation → Ended → Type 0
  Tested k l start ends (Gives x w) e = Found k l start ends x w e
  Tested k l start ends (Raises x w) e = (v : kernel.World) × (e ≡ kernel.Raises x v) × Stop x w v
  Tested k l start ends (OutOfFuel w) e = (v : kernel.World) × (e ≡ Cut v) × Observed 0 w.seen v.seen

  pub tested_stop : (k l : ℕ) (start : kernel.World) (ends : Bool → List Step → kernel.World → Ended) → AtStops Stop (Tested k l start ends)
  tested_stop k l start ends = record { raises = λ x y w v same stop. (v, ap (λ z. kernel.Raises z v) same, stop); cut = λ w v seen. (v, refl, seen) }

  -- what comes after a test
  pub tested_then : {B : Type 0} (R : Outcome B → Ended → Type 0) → AtStops Stop R → (k l : ℕ) (start : kernel.World) (ends : Bool → List Step → kernel.World → Ended)
      → (f : Evaluation → Action B)
      → ((outcome : Bool) (steps : List Step) (w : World) (v : kernel.World) → In l w v → Below k start v
      → R (f (record { outcome = outcome; steps = steps }) w) (ends outcome steps v))
      → (r : Outcome Evaluation) (e : Ended) → Tested k l start ends r e → R (goes_to r f) e
  tested_then R stops k l start ends f after (Gives x w) e h = subst (R (f x w)) (sym h.is) (after x.outcome x.steps w h.v h.inside h.below)
  tested_then R stops k l start ends f after (Raises x w) e h = subst (R (Raises x w)) (sym h.1) (stops.raises x x w h.0 refl h.2)
  tested_then R stops k l start ends f after (OutOfFuel w) e h = subst (R (OutOfFuel w)) (sym h.1) (stops.cut w h.0 h.2)

  pub tested_less : (k l m : ℕ) (start : kernel.World) (ends : Bool → List Step → kernel.World → Ended) → m ≤ l → (r : Outcome Evaluation) (e : Ended)
      → Tested k l start ends r e → Tested k m start ends r e
  tested_less k l m start ends le (Gives x w) e h = record { v = h.v; inside = inside_less Cell Keep fr Set l m w h.v le h.inside; below = h.below; is = h.is }
  tested_less k l m start ends le (Raises x w) e h = h
  tested_less k l m start ends le (OutOfFuel w) e h = h

  pub decision_held : (d : tree.Label) (l k : ℕ) (start : kernel.World) → fr.base ≤ k → k < fr.width → (next : ℕ) (outcome : Bool) (steps : List Step) (w : World) (v : kernel.World)
      → In (l + 3 + 4) w v → Below k start v
      → Runs Stop (Held (l + 2) k start) (goes_to (completed d inst (record { outcome = outcome; steps = steps }) w) (λ b. give (number_of_truth b)))
      (ending_of d k next no_node (edge.Leaf true) (edge.Leaf false) outcome steps v)
  decision_held d l k start free room next outcome steps w v h below = by_outcome
      (λ o. Runs Stop (Held (l + 2) k start) (goes_to (completed d inst (record { outcome = o; steps = steps }) w) (λ b. give (number_of_truth b)))
      (ending_of d k next no_node (edge.Leaf true) (edge.Leaf false) o steps v))
      (held true) (held false) outcome
    where
      held : (o : Bool) → Held (l + 2) k start (number_of_truth o) (evaluated inst d steps w) (with_slot fr.fp k (number_of_truth o) (code_evaluated inst d steps v))
      held o = record {
        inside = completed_in d k (l + 2) o steps w v free room (inside_less Cell Keep fr Set (l + 3 + 4) (l + 2 + 2) w v (omega arith) h);
        slot = with_slot_at fr.fp k (number_of_truth o) (code_evaluated inst d steps v);
        word = truth_fits o;
        below = slots_below k (number_of_truth o) start (code_evaluated inst d steps v) room below;
      }

  -- the address of an object's first word
  pub addressed_is : (h : Home) (k : ℕ) (rest : Code) (v : kernel.World)
      → codes (and_op (simple (address_on k h)) rest) v ≡ codes rest (with_slot fr.fp k (pos (address_at fr.fp h)) (paid 1 v))
  addressed_is (in_frame j) k rest v = refl
  addressed_is (in_library n) k rest v = refl

  pub stands_now : (o : tree.Object) (l : ℕ) (w : World) (v : kernel.World) → Sees o → In l w v
      → Stands (Within Cell Set) (shape_of o) (place_in p inst w.depth o) (address_at fr.fp (home_of o))
  stands_now o l w v seen h =
      subst (λ d. Stands (Within Cell Set) (shape_of o) (place_in p inst d o) (address_at fr.fp (home_of o))) (sym h.depth_is) (sees o seen)

  pub own_place : (o : tree.Object) (d : ℕ) → d ≡ fr.depth → IsOwn (place_in p inst d o)
  own_place (tree.library_object g m) d is = inl refl
  own_place (tree.local_object m) d is = inr is

  pub located_first : (o : tree.Object) (l k : ℕ) (w : World) (v : kernel.World) → Sees o → fr.base ≤ k → k < fr.width → In (l + 1) w v
      → Located (shape_of o) l k v (place_in p inst w.depth o) w (with_slot fr.fp k (pos (address_at fr.fp (home_of o))) (paid 1 v))
  located_first o l k w v seen free room h =
      located_set (shape_of o) l k (address_at fr.fp (home_of o)) v (pos (address_at fr.fp (home_of o))) (place_in p inst w.depth o) w v refl free room (λ j lt. refl) h
      (stands_now o (l + 1) w v seen h) (own_place o w.depth h.depth_is)

  -- the place of a part, and then an operation on its address
  pub at_part : (o : tree.Object) (parts : tree.Parts) (l k : ℕ) (s : Simple) (f : Place → Action ℤ) (w : World) (v : kernel.World)
      → ((q : Place) (u : World) (m : kernel.World) → Located (part_shape (shape_of o) parts) (l + 3) k v q u m → Runs Stop (Held (l + 2) k v) (f q u) (does s m))
      → Runs Stop (Located (part_shape (shape_of o) parts) (l + 3) k v) (place p calls inst parts (place_in p inst w.depth o) (ticked w))
      (codes (parts_code (names_in p inst) shape_of home_of site k (shape_of o) parts) (with_slot fr.fp k (pos (address_at fr.fp (home_of o))) (paid 1 v)))
      → Runs Stop (Held (l + 2) k v) (goes_to (place p calls inst parts (place_in p inst w.depth o) (ticked w)) f)
      (codes (and_op (simple (address_on k (home_of o))) (joined (parts_code (names_in p inst) shape_of home_of site k (shape_of o) parts) (one s))) v)
  at_part o parts l k s f w v next h =
      rw (
        addressed_is (home_of o) k (joined (parts_code (names_in p inst) shape_of home_of site k (shape_of o) parts) (one s)) v,
        does_then (parts_code (names_in p inst) shape_of home_of site k (shape_of o) parts) s (with_slot fr.fp k (pos (address_at fr.fp (home_of o))) (paid 1 v)),
      )
      (runs_then Stop (Located (part_shape (shape_of o) parts) (l + 3) k v) (Runs Stop (Held (l + 2) k v)) (runs_stop Stop (Held (l + 2) k v)) f (does s) next _ _ h)

  -- the word of a part
  pub loaded : (s : Shape) (l k : ℕ) (start : kernel.World) (q : Place) (w : World) (v : kernel.World) → IsWord s → fr.base ≤ k → k < fr.width
      → Located s (l + 1) k start q w v → Runs Stop (Held l k start) (Gives (w.store q) w) (does (op.Load k k) v)
  loaded s l k start q w v is free room h =
      let read = h.inside.agree q h.address (word_cell (Within Cell Set) s q h.address is h.stands.lies) in
      let end = word_ends s is in
      rw (h.slot, in_area_is h.address 1 h.stands.low (omega (arith, h.stands.high, end)))
      (held_set l k start (w.store q) (v.memory h.address) w v read.0 read.1 free room h.below h.inside)

  -- an index is checked, and the address of its component worked out
  pub indexed_does : (R : Outcome Place → Ended → Type 0) → AtStops Stop R → (l k a : ℕ) (b : Bounds) (s : Shape) (rest : Code) (start : kernel.World) (q : Place) (x : ℤ)
      (f : Action Place) (w : World) (v : kernel.World) → fr.base ≤ k → k + 1 < fr.width → In (l + 2) w v → slot_in fr.fp k v ≡ pos a → slot_in fr.fp (k + 1) v ≡ x
      → Below k start v → Stands (Within Cell Set) (row b s) q a → IsOwn q
      → ((u : World) (m : kernel.World) → Located s l k start (part_at x q) u m → R (f u) (codes rest m))
      → R (goes_to (check b x w) (λ u. f))
      (codes (and_op (simple (op.Index (k + 1) (k + 1) b.low b.high (words s))) (and_op (simple (op.Offset k k (k + 1))) rest)) v)
  indexed_does R stops l k a b s rest start q x f w v free room h here index below stands own next = rw index (by_test (is_within b x) refl)
    where
      y : ℤ
      y = int_wrap w32 ((x -ℤ b.low) *ℤ pos (words s))

      v1 : kernel.World
      v1 = with_slot fr.fp (k + 1) y (paid 1 v)

      first : slot_in fr.fp k v1 ≡ pos a
      first = with_slot_other fr.fp (k + 1) k y (paid 1 v) (omega (arith, room, frame.room)) (omega (arith, room, frame.room)) (λ e. omega (arith, e)) ∙ here

      by_test : (t : Bool) → is_within b x ≡ t
          → R (goes_to ((if t then done else raise 1) w) (λ u. f)) (kernel.goes_on (if_valid t (with_slot fr.fp (k + 1) y) v) (codes (and_op (simple (op.Offset k k (k + 1))) rest)))
      by_test false is = stops.raises 1 1 w (paid 1 v) refl (fails_there (l + 1) w v (inside_less Cell Keep fr Set (l + 2) (l + 1 + 1) w v (omega arith) h))
      by_test true is =
          let at : IsPlaced b x (natural (x -ℤ b.low)) = placed b x is in
          let part : Stands (Within Cell Set) s (part_at x q) (a + natural (x -ℤ b.low) * words s) = element_stands (Within Cell Set) b s q a x (natural (x -ℤ b.low)) at stands in
          let second : slot_in fr.fp (k + 1) v1 ≡ pos (natural (x -ℤ b.low) * words s) =
          with_slot_at fr.fp (k + 1) y (paid 1 v) ∙ wraps_product (x -ℤ b.low) (natural (x -ℤ b.low)) (words s) at.behind (omega (arith, part.high)) in
          next w (with_slot fr.fp k (int_wrap w32 (slot_in fr.fp k v1 +ℤ slot_in fr.fp (k + 1) v1)) (paid 1 v1))
          (located_set s l k (a + natural (x -ℤ b.low) * words s) start (int_wrap w32 (slot_in fr.fp k v1 +ℤ slot_in fr.fp (k + 1) v1)) (part_at x q) w v1
          (wraps_sum (slot_in fr.fp k v1) (slot_in fr.fp (k + 1) v1) a (natural (x -ℤ b.low) * words s) first second (omega (arith, part.high)))
          free (omega (arith, room))
          (λ j lt. with_slot_other fr.fp (k + 1) j y (paid 1 v) (omega (arith, room, frame.room)) (omega (arith, lt, room, frame.room)) (λ e. omega (arith, e, lt)) ∙ below j lt)
          (worked Cell Keep fr frame Set (l + 1) (k + 1) y w (paid 1 v) (omega (arith, free)) room (inside_paid Cell Keep fr Set 1 (l + 1) w v
          (inside_less Cell Keep fr Set (l + 2) (l + 1 + 1) w v (omega arith) h))) part own)

  abbrev pub expr : (k : ℕ) → tree.Expr → Code
  expr k e = expr_code (names_in p inst) shape_of home_of site k e

  abbrev pub parts_of : (k : ℕ) → Shape → tree.Parts → Code
  parts_of k s parts = parts_code (names_in p inst) shape_of home_of site k s parts

  pub ticked_less : (l m : ℕ) (w : World) (v : kernel.World) → m ≤ l + rate → In l w v → In m (ticked w) v
  ticked_less l m w v le h = inside_less Cell Keep fr Set (l + rate) m (ticked w) v le (inside_ticked Cell Keep fr Set l w v h)

  pub located_less : (s : Shape) (l m k : ℕ) (start : kernel.World) (q : Place) (w : World) (v : kernel.World) → m ≤ l → Located s l k start q w v → Located s m k start q w v
  located_less s l m k start q w v le h = record {
    inside = inside_less Cell Keep fr Set l m w v le h.inside;
    address = h.address;
    slot = h.slot;
    stands = h.stands;
    own = h.own;
    below = h.below;
  }
