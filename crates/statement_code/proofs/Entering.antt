-- Parameters are copied in.
use Rattle.std.proofs.Common.{◌≡◌, ◌≢◌, ◌==◌, ℕ, suc, ◌+◌, ◌<◌, ◌≤◌, ◌⊎◌, inl, inr, ℤ, pos, Bool, true, false, FitsSigned, List, [], ◌∷◌, drop, length, if◌then◌else◌, refl, sym, ap, subst, ◌∙◌, arith, eq-eqb}
use Rattle.std.proofs.lemmas.Bool.{ne_eqb, eqb-true, false≢true}
use Rattle.std.specs.Int.{w32}
use Rattle.ada_meaning.specs.Calls.{Argument, of_value, of_variable, of_both, of_composite, next_parameter, copy_in, composite_in, copy_all_in}
use Rattle.ada_meaning.specs.Program.{Mode, in_mode, out_mode, in_out_mode}
use Rattle.ada_meaning.specs.Resolved.{ResolvedParameter, local_place}
use Rattle.ada_meaning.specs.Shape.{Shape, word, row, group, set_first}
use Rattle.ada_meaning.specs.State.{Place, same_place, Store, set_at, World, Gives, set_word, with_store}
use Rattle.ada_meaning.specs.Tree as tree
use Rattle.ada_resolved.specs.Sizes.{words}
use Rattle.kernel_ir.proofs.Joining.{joined_does}
use Rattle.kernel_ir.proofs.Memories.{with_word_other, with_slot_at, with_slot_other, copied_other, filled_other}
use Rattle.kernel_ir.specs.declared.kernel.Kernel.{Kernel}
use Rattle.kernel_ir.specs.declared.simple.Simple.TheVariants as op
use Rattle.kernel_ir.specs.Layouts.{Content, content_in}
use Rattle.kernel_ir.specs.Meaning as code
use Rattle.kernel_ir.specs.Simple.{copied, filled}
use Rattle.kernel_ir.specs.Tree.{simple, Code, and_op}
use Rattle.kernel_ir.specs.World.{Memory, Ended, Ends, data_word, area_end, slot_word, slot_in, with_slot, with_word, with_memory, paid}
use Rattle.kernel_ir.specs.World as kernel
use Rattle.statement_code.specs.Bodies.{parameter_in, scalar_parameter, composite_parameter, parameter_code, parameters_code, ParameterStands, ParametersStand, SetBy, Addresses}
use Rattle.statement_code.specs.Calls.{Outside, Handed, ArgumentsStand, AreFor}
use Rattle.statement_code.specs.Cells.{Cells, Lies, Agree, Within, With}
use Rattle.statement_code.specs.Frames.{rate, Frame, IsFrame, Inside}
use Rattle.statement_code.specs.Objects.{Among}
use Rattle.statement_code.specs.Statements.{HasLayout}
use Rattle.statement_code.specs.Stores.{first_content, first_store, copied_store, HasWords, after}
use Rattle.statement_code.specs.Values.{one, Home, in_frame, in_library, address_at, address_on, IsWord, IsComposite}
use Rattle.statement_code.proofs.Cells.{lies_more, cell_set}
use Rattle.statement_code.proofs.Frames.{ticked, inside_ticked, inside_paid, inside_less, stored, worked, other_frame}
use Rattle.statement_code.proofs.Operands.{in_area_is, word_cell, word_ends}
use Rattle.statement_code.proofs.Across.{among_lies, IsReadable, copy_across}
use Rattle.statement_code.proofs.Objects.{lies_among, of_object}
use Rattle.statement_code.proofs.Assignments.{first_keeps}
use Rattle.statement_code.proofs.Stores.{first_agrees, first_size, set_first_does, copy_parts_do}
use Rattle.statement_code.proofs.Sets.{set_keeps, in_or_behind, lies_covers, copied_keeps, words_cost, costs_one}

module _ (Library : Cells) (end depth : ℕ) (outer : (r : Place) (c : ℕ) → Library r c → r.frame ≡ 0) (w u : World) (v t : kernel.World)
    (stores : (r : Place) → r.frame ≤ depth → u.store r ≡ w.store r) (high : (c : ℕ) → end ≤ c → t.memory c ≡ v.memory c)
    (shared : (r : Place) (c : ℕ) → Library r c → t.memory c ≡ v.memory c) where
  -- an object outside stays as it is, and so do the arguments that are still to be copied in
  handed_stays : (s : Shape) (q : Place) (i : ℕ) → slot_in end i t ≡ slot_in end i v → Handed Library end depth i s q w v → Handed Library end depth i s q u t
  handed_stays s q i slot h = record {
    address = h.address;
    holds = slot ∙ h.holds;
    lies = lies_more (Outside Library end depth w.store v.memory) (Outside Library end depth u.store t.memory) kept s q h.address h.lies;
    low = h.low;
    high = h.high;
  }
    where
      same_store : (r : Place) (c : ℕ) → Library r c ⊎ ((1 ≤ r.frame) × ((r.frame ≤ depth) × (end ≤ c))) → u.store r ≡ w.store r
      same_store r c (inl library) = let is = outer r c library in stores r (omega (arith, is))
      same_store r c (inr local) = stores r local.1.0

      same_memory : (r : Place) (c : ℕ) → Library r c ⊎ ((1 ≤ r.frame) × ((r.frame ≤ depth) × (end ≤ c))) → t.memory c ≡ v.memory c
      same_memory r c (inl library) = shared r c library
      same_memory r c (inr local) = high c local.1.1

      kept : (r : Place) (c : ℕ) → Outside Library end depth w.store v.memory r c → Outside Library end depth u.store t.memory r c
      kept r c g =
          let same = same_store r c g.1 in
          ((same_memory r c g.1 ∙ (g.0.0 ∙ sym same), subst (FitsSigned w32) (sym same) g.0.1), g.1)

  pub arguments_stay : (xs : List Argument) (qs : List ResolvedParameter) (i : ℕ) → ((k : ℕ) → i ≤ k → k < i + length xs → slot_in end k t ≡ slot_in end k v)
      → ArgumentsStand Library end depth i qs xs w v → ArgumentsStand Library end depth i qs xs u t
  arguments_stay [] qs i slots h = record {}
  arguments_stay (of_value x ∷ xs) qs i slots h =
      ((slots i (omega arith) (omega arith) ∙ h.0.0, h.0.1), arguments_stay xs (drop 1 qs) (i + 1) (λ k le lt. slots k (omega (arith, le)) (omega (arith, lt))) h.1)
  arguments_stay (of_both q b x ∷ xs) qs i slots h =
      ((slots i (omega arith) (omega arith) ∙ h.0.0, h.0.1), arguments_stay xs (drop 1 qs) (i + 1) (λ k le lt. slots k (omega (arith, le)) (omega (arith, lt))) h.1)
  arguments_stay (of_variable q b ∷ xs) qs i slots h =
      arguments_stay xs (drop 1 qs) (i + 1) (λ k le lt. slots k (omega (arith, le)) (omega (arith, lt))) h
  arguments_stay (of_composite q ∷ xs) qs i slots h = (
    handed_stays (next_parameter qs).shape q i (slots i (omega arith) (omega arith)) h.0,
    arguments_stay xs (drop 1 qs) (i + 1) (λ k le lt. slots k (omega (arith, le)) (omega (arith, lt))) h.1,
  )

-- a word that is set to what it holds
same_word : (Cell : Cells) (store : Store) (a : ℕ) (x : ℤ) (m : Memory) → m a ≡ x → Agree Cell store (with_word a x m) → Agree Cell store m
same_word Cell store a x m same h q c here = (by_test (c == a) refl ∙ (h q c here).0, (h q c here).1)
  where
    by_test : (b : Bool) → (c == a) ≡ b → m c ≡ with_word a x m c
    by_test true is = ap m (eqb-true c a is) ∙ (same ∙ sym (ap (λ t. if t then x else m c) is))
    by_test false is = sym (ap (λ t. if t then x else m c) is)

-- the first value of a scalar shape
abbrev first_of : Shape → ℤ
first_of (word b) = b.low
first_of (row b s) = pos 0
first_of (group ss) = pos 0

scalar_code : (home_of : tree.Object → Home) (layout_of : ℕ → ℕ) (k i : ℕ) (q : ResolvedParameter) (s : Shape) → IsWord s
    → parameter_code home_of layout_of k i q s ≡ scalar_parameter i q.mode (one (op.Number i (first_of s)))
scalar_code home_of layout_of k i q (word b) is = refl
scalar_code home_of layout_of k i q (row b s) is = absurd is
scalar_code home_of layout_of k i q (group ss) is = absurd is

composite_code : (home_of : tree.Object → Home) (layout_of : ℕ → ℕ) (k i : ℕ) (q : ResolvedParameter) (s : Shape) → IsComposite s
    → parameter_code home_of layout_of k i q s ≡ composite_parameter home_of layout_of k i q
composite_code home_of layout_of k i q (word b) is = absurd is
composite_code home_of layout_of k i q (row b s) is = refl
composite_code home_of layout_of k i q (group ss) is = refl

first_set : (s : Shape) (p : Place) (w : World) → IsWord s → set_first s p w ≡ set_word p (first_of s) w
first_set (word b) p w is = refl
first_set (row b s) p w is = absurd is
first_set (group ss) p w is = absurd is

first_fits : (s : Shape) → IsWord s → HasWords s → FitsSigned w32 (first_of s)
first_fits (word b) is has = has
first_fits (row b s) is has = absurd is
first_fits (group ss) is has = absurd is

layout_is : (s : Shape) (c : Content) → IsComposite s → HasLayout s c → c ≡ first_content s
layout_is (word b) c is has = absurd is
layout_is (row b s) c is has = has
layout_is (group ss) c is has = has

-- What a callee's activation is entered with. Its words, and those of the library level, lie below the caller's frame; it has so many
-- parameters.
module _ (K : Kernel) (kcalls : code.Calls) (fuel : ℕ) (Cell Library : Cells) (fr : Frame) (frame : IsFrame Cell (λ a. fr.fp ≤ a) fr) (home_of : tree.Object → Home)
    (layout_of : ℕ → ℕ) (j depth count : ℕ) (deep : fr.depth ≡ suc depth) (outer : (r : Place) (c : ℕ) → Library r c → Cell r c × (r.frame ≡ 0))
    (under : (r : Place) (c : ℕ) → Cell r c → c < fr.fp) (small : fr.base < fr.width) (few : count ≤ fr.base) where
  abbrev Keep : ℕ → Type 0
  Keep a = fr.fp ≤ a

  abbrev In : (ℕ → Type 0) → ℕ → World → kernel.World → Type 0
  In Set l w v = Inside Cell Keep fr Set l w v

  abbrev codes : Code → kernel.World → Ended
  codes a v = code.does_code K kcalls fuel fr.width fr.fp fr.calls a v

  abbrev place_of : ResolvedParameter → Place
  place_of q = local_place j fr.depth q.declaration

  abbrev address_of : ResolvedParameter → ℕ
  address_of q = address_at fr.fp (home_of (tree.local_object q.declaration))

  abbrev StandsAt : ResolvedParameter → ℕ → Type 0
  StandsAt q i = ParameterStands K.layouts Cell home_of layout_of fr.fp j fr.depth count q i

  -- the words of a parameter
  abbrev entered : (ℕ → Type 0) → ResolvedParameter → ℕ → Type 0
  entered Set q = With Set (address_of q) (words q.shape)

  -- a parameter was copied in: the slots of those behind it, and all that lies outside, are as they were; the slot of a composite one holds its
  -- address
  record Entered (Set : ℕ → Type 0) (q : ResolvedParameter) (i l : ℕ) (w : World) (v : kernel.World) (u : World) (e : Ended) : Type 0 where
    pub t : kernel.World
    pub is : e ≡ Ends t
    pub inside : In (entered Set q) l u t
    pub stores : (r : Place) → r.frame ≤ depth → u.store r ≡ w.store r
    pub high : (c : ℕ) → fr.fp ≤ c → t.memory c ≡ v.memory c
    pub shared : (r : Place) (c : ℕ) → Library r c → t.memory c ≡ v.memory c
    pub slots : (k : ℕ) → k ≢ i → k < count → slot_in fr.fp k t ≡ slot_in fr.fp k v
    pub address : IsComposite q.shape → slot_in fr.fp i t ≡ pos (address_of q)

  not_word : (s : Shape) → IsWord s → IsComposite s → ⊥
  not_word (word b) is composite = composite
  not_word (row b s) is composite = is
  not_word (group ss) is composite = is

  -- a cell of this activation's, or of the library level, is apart from a place below
  below_frame : (q r : Place) → q.frame ≡ fr.depth → r.frame ≤ depth → q.frame ≢ r.frame
  below_frame q r here below e = omega (arith, here, below, e, deep)

  -- a library word is no word of a parameter's
  library_other : (q : ResolvedParameter) (a : ℕ) (r : Place) (c : ℕ) → Cell (place_of q) a → Library r c → c ≢ a
  library_other q a r c cell library e =
      let same : same_place (place_of q) r ≡ (c == a) = frame.apart (place_of q) r a c cell (outer r c library).0 in
      let differ : same_place (place_of q) r ≡ false = other_frame r (place_of q) (λ f. omega (arith, f, deep, (outer r c library).1)) in
      absurd (false≢true (sym differ ∙ (same ∙ eq-eqb c a e)))

  -- a scalar that is given: its word stands already
  adopted : (Set : ℕ → Type 0) (q : ResolvedParameter) (i l : ℕ) (x : ℤ) (w : World) (v : kernel.World) → StandsAt q i → IsWord q.shape → In Set l w v
      → slot_in fr.fp i v ≡ x → FitsSigned w32 x → Entered Set q i l w v (with_store (set_at (place_of q) x w.store) (ticked w)) (Ends v)
  adopted Set q i l x w v stand is h slot fits =
      let single_word = word_ends q.shape is in
      let cell = word_cell Cell q.shape (place_of q) (address_of q) is stand.stands.lies in
      record {
        t = v;
        is = refl;
        inside = record {
          depth_is = h.depth_is;
          input = h.input;
          agree = subst (λ n. Agree (Within Cell (With Set (address_of q) n)) (set_at (place_of q) x w.store) v.memory) (sym single_word)
              (same_word (Within Cell (With Set (address_of q) 1)) (set_at (place_of q) x w.store) (address_of q) x v.memory (ap v.memory (stand.scalar is) ∙ slot)
              (cell_set Cell frame.apart Set (place_of q) (address_of q) x w.store v.memory fits cell h.agree));
          words = h.words;
          kept = λ r one less. set_keeps (place_of q) r x w.store (λ e. omega (arith, e, less)) ∙ h.kept r one less;
          seen = record { events = h.seen.events; output = h.seen.output; cost = omega (arith, h.seen.cost) };
        };
        stores = λ r below. set_keeps (place_of q) r x w.store (below_frame (place_of q) r refl below);
        high = λ c above. refl;
        shared = λ r c library. refl;
        slots = λ k differ lt. refl;
        address = λ composite. absurd (not_word q.shape is composite);
      }

  -- a scalar of mode out: its slot gets its subtype's first value
  first_entered : (Set : ℕ → Type 0) (q : ResolvedParameter) (i l : ℕ) (w : World) (v : kernel.World) → StandsAt q i → IsWord q.shape → In Set l w v
      → Entered Set q i l w v (with_store (set_at (place_of q) (first_of q.shape) w.store) (ticked w)) (codes (one (op.Number i (first_of q.shape))) v)
  first_entered Set q i l w v stand is h =
      let single_word = word_ends q.shape is in
      let cell = word_cell Cell q.shape (place_of q) (address_of q) is stand.stands.lies in
      let at_slot : Cell (place_of q) (slot_word fr.fp i) = subst (Cell (place_of q)) (stand.scalar is) cell in
      let x : ℤ = first_of q.shape in
      let t : kernel.World = with_slot fr.fp i x (paid 1 v) in
      record {
        t = t;
        is = refl;
        inside = subst (λ n. Inside Cell Keep fr (With Set (address_of q) n) l (with_store (set_at (place_of q) x w.store) (ticked w)) t) (sym single_word)
            (subst (λ a. Inside Cell Keep fr (With Set a 1) l (with_store (set_at (place_of q) x w.store) (ticked w)) t) (sym (stand.scalar is))
            (stored Cell Keep fr frame Set l (place_of q) (slot_word fr.fp i) x (ticked w) (paid 1 v) (first_fits q.shape is stand.has) at_slot
            (inside_paid Cell Keep fr Set 1 l (ticked w) v (inside_less Cell Keep fr Set (l + rate) (l + 1) (ticked w) v (omega arith) (inside_ticked Cell Keep fr Set l w v h)))));
        stores = λ r below. set_keeps (place_of q) r x w.store (below_frame (place_of q) r refl below);
        high = λ c above. let low = under (place_of q) (slot_word fr.fp i) at_slot in with_word_other (slot_word fr.fp i) c x v.memory (λ e. omega (arith, e, low, above));
        shared = λ r c library. with_word_other (slot_word fr.fp i) c x v.memory (library_other q (slot_word fr.fp i) r c at_slot library);
        slots = λ k differ lt.
            let here = stand.here in
            with_slot_other fr.fp i k x (paid 1 v) (omega (arith, here, few, small, frame.room)) (omega (arith, lt, few, small, frame.room)) differ;
        address = λ composite. absurd (not_word q.shape is composite);
      }

  -- the words of a composite parameter are cells of this activation
  own_words : (q : ResolvedParameter) (i c : ℕ) → StandsAt q i → ((r : Place) → Cell r c → r.frame ≡ fr.depth → ⊥) → (c < address_of q) ⊎ (address_of q + words q.shape ≤ c)
  own_words q i c stand none =
      in_or_behind ((c < address_of q) ⊎ (address_of q + words q.shape ≤ c)) c (address_of q) (λ lt. inl lt)
      (λ low. in_or_behind ((c < address_of q) ⊎ (address_of q + words q.shape ≤ c)) c (address_of q + words q.shape)
      (λ high. absurd (found (lies_covers (Among q.shape (place_of q) (address_of q)) q.shape (place_of q) (address_of q) c
      (lies_among (Among q.shape (place_of q) (address_of q)) q.shape (place_of q) (address_of q) (λ r d h. h)) low high)))
      (λ le. inr le))
    where
      found : ((r : Place) × Among q.shape (place_of q) (address_of q) r c) → ⊥
      found there =
          none there.0 (among_lies Cell q.shape (place_of q) (address_of q) there.0 c stand.stands.lies there.1)
          (of_object q.shape (place_of q) (address_of q) there.0 c there.1).0

  high_word : (q : ResolvedParameter) (i c : ℕ) → StandsAt q i → fr.fp ≤ c → (c < address_of q) ⊎ (address_of q + words q.shape ≤ c)
  high_word q i c stand above = own_words q i c stand (λ r cell is. let low = under r c cell in omega (arith, low, above))

  library_word : (q : ResolvedParameter) (i : ℕ) (z : Place) (c : ℕ) → StandsAt q i → Library z c → (c < address_of q) ⊎ (address_of q + words q.shape ≤ c)
  library_word q i z c stand library = own_words q i c stand (λ r cell is. library_apart r cell is)
    where
      library_apart : (r : Place) → Cell r c → r.frame ≡ fr.depth → ⊥
      library_apart r cell is =
          let same : same_place r z ≡ (c == c) = frame.apart r z c c cell (outer z c library).0 in
          let differ : same_place r z ≡ false = other_frame z r (λ f. omega (arith, f, is, deep, (outer z c library).1)) in
          absurd (false≢true (sym differ ∙ (same ∙ eq-eqb c c refl)))

  -- a slot that is no cell's is set
  bare_set : (Set : ℕ → Type 0) (l i : ℕ) (x : ℤ) (w : World) (v : kernel.World) → ((r : Place) (a : ℕ) → Cell r a → a ≢ slot_word fr.fp i) → i < fr.fp → In Set l w v
      → In Set l w (with_slot fr.fp i x v)
  bare_set Set l i x w v bare lt h = record {
    depth_is = h.depth_is;
    input = h.input;
    agree = λ r a here. let before = h.agree r a here in (with_word_other (slot_word fr.fp i) a x v.memory (bare r a here.0) ∙ before.0, before.1);
    words = λ a above. with_word_other (slot_word fr.fp i) a x v.memory (λ e. omega (arith, e, above, lt)) ∙ h.words a above;
    kept = h.kept;
    seen = h.seen;
  }

  -- where a composite parameter's words were set, its slot gets their address
  finished : (Set : ℕ → Type 0) (q : ResolvedParameter) (i l : ℕ) (w : World) (v : kernel.World) (u : World) (m : kernel.World) → StandsAt q i → IsComposite q.shape
      → In (entered Set q) (l + 1) u m → slot_in fr.fp fr.base m ≡ pos (address_of q) → ((r : Place) → r.frame ≤ depth → u.store r ≡ w.store r)
      → ((c : ℕ) → (c < address_of q) ⊎ (address_of q + words q.shape ≤ c) → c ≢ slot_word fr.fp fr.base → m.memory c ≡ v.memory c)
      → Entered Set q i l w v u (codes (one (op.Move i fr.base)) m)
  finished Set q i l w v u m stand is h slot stores memory =
      let few_here = stand.here in
      let t : kernel.World = with_slot fr.fp i (slot_in fr.fp fr.base m) (paid 1 m) in
      record {
        t = t;
        is = refl;
        inside = bare_set (entered Set q) l i (slot_in fr.fp fr.base m) u (paid 1 m) (stand.bare is) (omega (arith, few_here, few, small, frame.room))
            (inside_paid Cell Keep fr (entered Set q) 1 l u m h);
        stores = stores;
        high = λ c above. with_word_other (slot_word fr.fp i) c (slot_in fr.fp fr.base m) m.memory (λ e. omega (arith, e, above, few_here, few, small, frame.room))
            ∙ memory c (high_word q i c stand above) (λ e. omega (arith, e, above, small, frame.room));
        shared = λ r c library. with_word_other (slot_word fr.fp i) c (slot_in fr.fp fr.base m) m.memory (stand.bare is r c (outer r c library).0)
            ∙ memory c (library_word q i r c stand library) (λ e. frame.free r c fr.base (outer r c library).0 (omega arith) (omega (arith, small)) e);
        slots = λ k differ lt.
            with_slot_other fr.fp i k (slot_in fr.fp fr.base m) (paid 1 m) (omega (arith, few_here, few, small, frame.room)) (omega (arith, lt, few, small, frame.room)) differ
            ∙ memory (slot_word fr.fp k) (stand.clear is k lt) (λ e. omega (arith, e, lt, few, small, frame.room));
        address = λ composite. with_slot_at fr.fp i (slot_in fr.fp fr.base m) (paid 1 m) ∙ slot;
      }

  address_is : (h : Home) (rest : Code) (v : kernel.World) → codes (and_op (simple (address_on fr.base h)) rest) v ≡ codes rest (with_slot fr.fp fr.base (pos (address_at fr.fp h)) (paid 1 v))
  address_is (in_frame n) rest v = refl
  address_is (in_library n) rest v = refl

  abbrev addressed : ResolvedParameter → kernel.World → kernel.World
  addressed q v = with_slot fr.fp fr.base (pos (address_of q)) (paid 1 v)

  inside_addressed : (Set : ℕ → Type 0) (q : ResolvedParameter) (l : ℕ) (w : World) (v : kernel.World) → In Set (l + 1) w v → In Set l w (addressed q v)
  inside_addressed Set q l w v h = worked Cell Keep fr frame Set l fr.base (pos (address_of q)) w (paid 1 v) (omega arith) small (inside_paid Cell Keep fr Set 1 l w v h)

  addressed_other : (q : ResolvedParameter) (c : ℕ) (v : kernel.World) → c ≢ slot_word fr.fp fr.base → (addressed q v).memory c ≡ v.memory c
  addressed_other q c v differ = with_word_other (slot_word fr.fp fr.base) c (pos (address_of q)) v.memory differ

  -- a composite parameter is copied from its actual
  copied_entered : (Set : ℕ → Type 0) (q : ResolvedParameter) (i l : ℕ) (p : Place) (w : World) (v : kernel.World) → StandsAt q i → IsComposite q.shape → In Set (l + 2) w v
      → Handed Library fr.fp depth i q.shape p w v
      → Entered Set q i (l + 2) w v (after (copied_store q.shape p (place_of q) w.store) (first_content q.shape).cost w)
      (codes (and_op (simple (address_on fr.base (home_of (tree.local_object q.declaration)))) (and_op (simple (op.Copy fr.base i (words q.shape))) (one (op.Move i fr.base)))) v)
  copied_entered Set q i l p w v stand is h handed =
      let few_here = stand.here in
      let m : kernel.World = with_memory (copied (words q.shape) from.address (address_of q) (addressed q v).memory) (paid (words q.shape + 1) (addressed q v)) in
      rw (
        address_is (home_of (tree.local_object q.declaration)) (and_op (simple (op.Copy fr.base i (words q.shape))) (one (op.Move i fr.base))) v,
        at_base,
        from.holds,
        in_area_is (address_of q) (words q.shape) stand.stands.low stand.stands.high,
        in_area_is from.address (words q.shape) from.low from.high,
      )
      (finished Set q i (l + 2) w v (after (copied_store q.shape p (place_of q) w.store) (first_content q.shape).cost w) m stand is
      (record {
        depth_is = before.depth_is;
        input = before.input;
        agree = copy_across Cell frame.apart Set q.shape p from.address w.store (addressed q v).memory readable (place_of q) (address_of q) stand.stands.lies before.agree;
        words = λ c above. copied_other (words q.shape) from.address (address_of q) c (addressed q v).memory (high_word q i c stand above) ∙ before.words c above;
        kept = λ r one less. copied_keeps q.shape p (place_of q) r w.store (λ e. omega (arith, e, less)) ∙ before.kept r one less;
        seen = record { events = before.seen.events; output = before.seen.output; cost = omega (arith, before.seen.cost, words_cost q.shape, costs_one q.shape) };
      })
      (copied_other (words q.shape) from.address (address_of q) (slot_word fr.fp fr.base) (addressed q v).memory
      (own_words q i (slot_word fr.fp fr.base) stand (λ r cell here. frame.free r (slot_word fr.fp fr.base) fr.base cell (omega arith) (omega (arith, small)) refl)) ∙ at_base)
      (λ r below. copied_keeps q.shape p (place_of q) r w.store (below_frame (place_of q) r refl below))
      (λ c apart differ. copied_other (words q.shape) from.address (address_of q) c (addressed q v).memory apart ∙ addressed_other q c v differ))
    where
      before : In Set (l + 1) w (addressed q v)
      before = inside_addressed Set q (l + 1) w v (inside_less Cell Keep fr Set (l + 2) (l + 1 + 1) w v (omega arith) h)

      at_base : slot_in fr.fp fr.base (addressed q v) ≡ pos (address_of q)
      at_base = with_slot_at fr.fp fr.base (pos (address_of q)) (paid 1 v)

      from : Handed Library fr.fp depth i q.shape p w (addressed q v)
      from = let few_here = stand.here in
          handed_stays Library fr.fp depth (λ r c library. (outer r c library).1) w w v (addressed q v) (λ r below. refl)
          (λ c above. addressed_other q c v (λ e. omega (arith, e, above, small, frame.room)))
          (λ r c library. addressed_other q c v (λ e. frame.free r c fr.base (outer r c library).0 (omega arith) (omega (arith, small)) e)) q.shape p i
          (addressed_other q (slot_word fr.fp i) v (λ e. omega (arith, e, few_here, few, small, frame.room))) handed

      separate : (r : Place) (c : ℕ) → Library r c ⊎ ((1 ≤ r.frame) × ((r.frame ≤ depth) × (fr.fp ≤ c))) → (z : Place) (d : ℕ) → Cell z d
          → (same_place r z ≡ (d == c)) × (same_place z r ≡ (c == d))
      separate r c (inl library) z d cell = (frame.apart r z c d (outer r c library).0 cell, frame.apart z r d c cell (outer r c library).0)
      separate r c (inr local) z d cell =
          let low = under z d cell in (
            other_frame z r (λ e. other (frame.own z d cell) (sym e)) ∙ sym (ne_eqb d c (λ e. omega (arith, e, low, local.1.1))),
            other_frame r z (other (frame.own z d cell)) ∙ sym (ne_eqb c d (λ e. omega (arith, e, low, local.1.1))),
          )
        where
          other : (z.frame ≡ 0) ⊎ (z.frame ≡ fr.depth) → z.frame ≢ r.frame
          other (inl at) e = omega (arith, at, e, local.0)
          other (inr at) e = omega (arith, at, e, local.1.0, deep)

      readable : Lies (IsReadable Cell w.store (addressed q v).memory) q.shape p from.address
      readable = lies_more (Outside Library fr.fp depth w.store (addressed q v).memory) (IsReadable Cell w.store (addressed q v).memory)
          (λ r c g. (g.0, λ z d cell. separate r c g.1 z d cell)) q.shape p from.address from.lies

  -- a composite parameter of mode out gets first values
  filled_entered : (Set : ℕ → Type 0) (q : ResolvedParameter) (i l : ℕ) (w : World) (v : kernel.World) → StandsAt q i → IsComposite q.shape → In Set (l + 2) w v
      → Entered Set q i (l + 2) w v (after (first_store q.shape (place_of q) w.store) (first_content q.shape).cost w)
      (codes (and_op (simple (address_on fr.base (home_of (tree.local_object q.declaration)))) (and_op (simple (op.Fill fr.base (layout_of q.declaration))) (one (op.Move i fr.base)))) v)
  filled_entered Set q i l w v stand is h =
      let few_here = stand.here in
      let size = first_size q.shape in
      let m : kernel.World = with_memory (filled (first_content q.shape).words (address_of q) (addressed q v).memory) (paid (1 + (first_content q.shape).cost) (addressed q v)) in
      rw (
        address_is (home_of (tree.local_object q.declaration)) (and_op (simple (op.Fill fr.base (layout_of q.declaration))) (one (op.Move i fr.base))) v,
        layout_is q.shape (content_in K.layouts (layout_of q.declaration)) is stand.layout,
        at_base,
        in_area_is (address_of q) (length (first_content q.shape).words) stand.stands.low (omega (arith, stand.stands.high, size)),
      )
      (finished Set q i (l + 2) w v (after (first_store q.shape (place_of q) w.store) (first_content q.shape).cost w) m stand is
      (record {
        depth_is = before.depth_is;
        input = before.input;
        agree = first_agrees Cell frame.apart q.shape Set (place_of q) (address_of q) w.store (addressed q v).memory stand.has stand.stands.lies before.agree;
        words = λ c above. filled_other (first_content q.shape).words (address_of q) c (addressed q v).memory (sized (high_word q i c stand above)) ∙ before.words c above;
        kept = λ r one less. first_keeps q.shape (place_of q) r w.store (λ e. omega (arith, e, less)) ∙ before.kept r one less;
        seen = record { events = before.seen.events; output = before.seen.output; cost = omega (arith, before.seen.cost, costs_one q.shape) };
      })
      (filled_other (first_content q.shape).words (address_of q) (slot_word fr.fp fr.base) (addressed q v).memory
      (sized (own_words q i (slot_word fr.fp fr.base) stand (λ r cell here. frame.free r (slot_word fr.fp fr.base) fr.base cell (omega arith) (omega (arith, small)) refl))) ∙ at_base)
      (λ r below. first_keeps q.shape (place_of q) r w.store (below_frame (place_of q) r refl below))
      (λ c apart differ. filled_other (first_content q.shape).words (address_of q) c (addressed q v).memory (sized apart) ∙ addressed_other q c v differ))
    where
      before : In Set (l + 1) w (addressed q v)
      before = inside_addressed Set q (l + 1) w v (inside_less Cell Keep fr Set (l + 2) (l + 1 + 1) w v (omega arith) h)

      at_base : slot_in fr.fp fr.base (addressed q v) ≡ pos (address_of q)
      at_base = with_slot_at fr.fp fr.base (pos (address_of q)) (paid 1 v)

      sized : {c : ℕ} → (c < address_of q) ⊎ (address_of q + words q.shape ≤ c) → (c < address_of q) ⊎ (address_of q + length (first_content q.shape).words ≤ c)
      sized (inl less) = inl less
      sized (inr le) = let size = first_size q.shape in inr (omega (arith, le, size))

  abbrev AllStandAt : List ResolvedParameter → ℕ → Type 0
  AllStandAt qs i = ParametersStand K.layouts Cell home_of layout_of fr.fp j fr.depth count qs i

  -- all parameters from number i on were copied in
  pub record AllEntered (Set : ℕ → Type 0) (qs : List ResolvedParameter) (xs : List Argument) (i l : ℕ) (w : World) (v : kernel.World) (e : Ended) : Type 0 where
    pub u : World
    pub t : kernel.World
    pub gives : copy_all_in j fr.depth qs xs w ≡ Gives (record {}) u
    pub is : e ≡ Ends t
    pub inside : In (SetBy home_of fr.fp Set qs) (l + 2) u t
    pub slots : (k : ℕ) → k < i → k < count → slot_in fr.fp k t ≡ slot_in fr.fp k v
    pub address : Addresses home_of fr.fp qs i t.memory

  -- one parameter, and then the others
  entered_then : (Set : ℕ → Type 0) (q : ResolvedParameter) (qs : List ResolvedParameter) (x : Argument) (xs : List Argument) (i l : ℕ) (w u : World) (v : kernel.World)
      → i + suc (length xs) ≤ count → Entered Set q i (l + 2) w v u (codes (parameter_code home_of layout_of fr.base i q q.shape) v)
      → copy_in q x (place_of q) w ≡ Gives (record {}) u → ArgumentsStand Library fr.fp depth (i + 1) qs xs w v
      → ((t : kernel.World) → In (entered Set q) (l + 2) u t → ArgumentsStand Library fr.fp depth (i + 1) qs xs u t
      → AllEntered (entered Set q) qs xs (i + 1) l u t (codes (parameters_code home_of layout_of fr.base (i + 1) qs) t))
      → AllEntered Set (q ∷ qs) (x ∷ xs) i l w v (codes (parameters_code home_of layout_of fr.base i (q ∷ qs)) v)
  entered_then Set q qs x xs i l w u v room one copies stand more =
      let others = more one.t one.inside
      (arguments_stay Library fr.fp depth (λ r c library. (outer r c library).1) w u v one.t one.stores one.high one.shared xs qs (i + 1)
      (λ k le lt. one.slots k (λ e. omega (arith, e, le)) (omega (arith, lt, room))) stand) in
      record {
        u = others.u;
        t = others.t;
        gives = rw copies others.gives;
        is = rw (joined_does K kcalls fuel fr.width fr.fp fr.calls (parameter_code home_of layout_of fr.base i q q.shape) (parameters_code home_of layout_of fr.base (i + 1) qs) v, one.is) others.is;
        inside = others.inside;
        slots = λ k less lt. others.slots k (omega (arith, less)) lt ∙ one.slots k (λ e. omega (arith, e, less)) lt;
        address = (λ composite. others.slots i (omega arith) (omega (arith, room)) ∙ one.address composite, others.address);
      }

  -- the code and the copying of a composite parameter, by its mode
  composite_entered : (Set : ℕ → Type 0) (q : ResolvedParameter) (m : Mode) (qs : List ResolvedParameter) (xs : List Argument) (i l : ℕ) (p : Place) (w : World) (v : kernel.World)
      → q.mode ≡ m → i + suc (length xs) ≤ count → StandsAt q i → IsComposite q.shape → In Set (l + 2) w v → Handed Library fr.fp depth i q.shape p w v
      → ArgumentsStand Library fr.fp depth (i + 1) qs xs w v
      → ((u : World) (t : kernel.World) → In (entered Set q) (l + 2) u t → ArgumentsStand Library fr.fp depth (i + 1) qs xs u t
      → AllEntered (entered Set q) qs xs (i + 1) l u t (codes (parameters_code home_of layout_of fr.base (i + 1) qs) t))
      → AllEntered Set (q ∷ qs) (of_composite p ∷ xs) i l w v (codes (parameters_code home_of layout_of fr.base i (q ∷ qs)) v)
  composite_entered Set q out_mode qs xs i l p w v mode room stand is h handed rest more =
      let u : World = after (first_store q.shape (place_of q) w.store) (first_content q.shape).cost w in
      entered_then Set q qs (of_composite p) xs i l w u v room
      (subst (λ a. Entered Set q i (l + 2) w v u (codes a v))
      (sym (composite_code home_of layout_of fr.base i q q.shape is
      ∙ ap (λ k. and_op (simple (address_on fr.base (home_of (tree.local_object q.declaration)))) (and_op (simple (parameter_in fr.base i k (words q.shape) (layout_of q.declaration))) (one (op.Move i fr.base)))) mode))
      (filled_entered Set q i l w v stand is h))
      (ap (λ k. composite_in k q.shape p (place_of q) w) mode ∙ set_first_does q.shape (place_of q) w) rest (more u)
  composite_entered Set q in_mode qs xs i l p w v mode room stand is h handed rest more =
      let u : World = after (copied_store q.shape p (place_of q) w.store) (first_content q.shape).cost w in
      entered_then Set q qs (of_composite p) xs i l w u v room
      (subst (λ a. Entered Set q i (l + 2) w v u (codes a v))
      (sym (composite_code home_of layout_of fr.base i q q.shape is
      ∙ ap (λ k. and_op (simple (address_on fr.base (home_of (tree.local_object q.declaration)))) (and_op (simple (parameter_in fr.base i k (words q.shape) (layout_of q.declaration))) (one (op.Move i fr.base)))) mode))
      (copied_entered Set q i l p w v stand is h handed))
      (ap (λ k. composite_in k q.shape p (place_of q) w) mode ∙ copy_parts_do q.shape p (place_of q) w) rest (more u)
  composite_entered Set q in_out_mode qs xs i l p w v mode room stand is h handed rest more =
      let u : World = after (copied_store q.shape p (place_of q) w.store) (first_content q.shape).cost w in
      entered_then Set q qs (of_composite p) xs i l w u v room
      (subst (λ a. Entered Set q i (l + 2) w v u (codes a v))
      (sym (composite_code home_of layout_of fr.base i q q.shape is
      ∙ ap (λ k. and_op (simple (address_on fr.base (home_of (tree.local_object q.declaration)))) (and_op (simple (parameter_in fr.base i k (words q.shape) (layout_of q.declaration))) (one (op.Move i fr.base)))) mode))
      (copied_entered Set q i l p w v stand is h handed))
      (ap (λ k. composite_in k q.shape p (place_of q) w) mode ∙ copy_parts_do q.shape p (place_of q) w) rest (more u)

  -- a body's parameters are copied in
  pub parameters_do : (qs : List ResolvedParameter) (xs : List Argument) (Set : ℕ → Type 0) (i l : ℕ) (w : World) (v : kernel.World) → AllStandAt qs i → AreFor qs xs
      → i + length xs ≤ count → ArgumentsStand Library fr.fp depth i qs xs w v → In Set (l + 2) w v
      → AllEntered Set qs xs i l w v (codes (parameters_code home_of layout_of fr.base i qs) v)
  parameters_do [] [] Set i l w v stand are room given h =
      record { u = w; t = v; gives = refl; is = refl; inside = h; slots = λ k less lt. refl; address = record {} }
  parameters_do [] (x ∷ xs) Set i l w v stand are room given h = absurd (none are.0)
    where
      none : 1 ≤ 0 → ⊥
      none le = omega (arith, le)
  parameters_do (q ∷ qs) [] Set i l w v stand are room given h = absurd (none (ap length are))
    where
      none : suc (length qs) ≡ 0 → ⊥
      none e = omega (arith, e)
  parameters_do (q ∷ qs) (of_value x ∷ xs) Set i l w v stand are room given h =
      entered_then Set q qs (of_value x) xs i l w (with_store (set_at (place_of q) x w.store) (ticked w)) v room
      (subst (λ a. Entered Set q i (l + 2) w v (with_store (set_at (place_of q) x w.store) (ticked w)) (codes a v))
      (sym (scalar_code home_of layout_of fr.base i q q.shape are.1.0.0 ∙ ap (λ m. scalar_parameter i m (one (op.Number i (first_of q.shape)))) are.1.0.1))
      (adopted Set q i (l + 2) x w v stand.0 are.1.0.0 h given.0.0 given.0.1))
      refl given.1
      (λ t inside rest. parameters_do qs xs (entered Set q) (i + 1) l (with_store (set_at (place_of q) x w.store) (ticked w)) t stand.1 are.1.1 (omega (arith, room)) rest inside)
  parameters_do (q ∷ qs) (of_both p b x ∷ xs) Set i l w v stand are room given h =
      entered_then Set q qs (of_both p b x) xs i l w (with_store (set_at (place_of q) x w.store) (ticked w)) v room
      (subst (λ a. Entered Set q i (l + 2) w v (with_store (set_at (place_of q) x w.store) (ticked w)) (codes a v))
      (sym (scalar_code home_of layout_of fr.base i q q.shape are.1.0.0 ∙ ap (λ m. scalar_parameter i m (one (op.Number i (first_of q.shape)))) are.1.0.1))
      (adopted Set q i (l + 2) x w v stand.0 are.1.0.0 h given.0.0 given.0.1))
      refl given.1
      (λ t inside rest. parameters_do qs xs (entered Set q) (i + 1) l (with_store (set_at (place_of q) x w.store) (ticked w)) t stand.1 are.1.1 (omega (arith, room)) rest inside)
  parameters_do (q ∷ qs) (of_variable p b ∷ xs) Set i l w v stand are room given h =
      entered_then Set q qs (of_variable p b) xs i l w (with_store (set_at (place_of q) (first_of q.shape) w.store) (ticked w)) v room
      (subst (λ a. Entered Set q i (l + 2) w v (with_store (set_at (place_of q) (first_of q.shape) w.store) (ticked w)) (codes a v))
      (sym (scalar_code home_of layout_of fr.base i q q.shape are.1.0.0 ∙ ap (λ m. scalar_parameter i m (one (op.Number i (first_of q.shape)))) are.1.0.1))
      (first_entered Set q i (l + 2) w v stand.0 are.1.0.0 h))
      (first_set q.shape (place_of q) w are.1.0.0) given
      (λ t inside rest. parameters_do qs xs (entered Set q) (i + 1) l (with_store (set_at (place_of q) (first_of q.shape) w.store) (ticked w)) t stand.1 are.1.1 (omega (arith, room)) rest inside)
  parameters_do (q ∷ qs) (of_composite p ∷ xs) Set i l w v stand are room given h =
      composite_entered Set q q.mode qs xs i l p w v refl room stand.0 are.1.0 h given.0 given.1
      (λ u t inside rest. parameters_do qs xs (entered Set q) (i + 1) l u t stand.1 are.1.1 (omega (arith, room)) rest inside)
