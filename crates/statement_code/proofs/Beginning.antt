-- A well-formed program and its kernel begin alike at the library level.
use Rattle.std.proofs.Common.{◌≡◌, ℕ, ◌+◌, ◌<◌, ◌≤◌, ◌≢◌, ◌⊎◌, nat_eq, true, false, map, inl, inr, ℤ, pos, List, [], ◌∷◌, sym, subst, ◌∙◌, arith, length, ap}
use Rattle.std.specs.Prelude.{if◌then◌else◌}
use Rattle.std.proofs.lemmas.Bool.{eq-eqb}
use Rattle.std.proofs.lemmas.Bool.Decides.{eqb_tells}
use Rattle.cov_base.specs.Lists.{Everywhere, Somewhere}
use Rattle.ada_meaning.specs.Bodies.{instances_of, StandsIn}
use Rattle.ada_meaning.proofs.BodyLaws.{instances_listed}
use Rattle.ada_meaning.specs.Declared.{library_shape}
use Rattle.ada_meaning.specs.Objects.{AreDistinct}
use Rattle.ada_meaning.specs.Execution.{library_place, initial}
use Rattle.ada_meaning.specs.Program.{Initial, no_initial, static_initial, others_initial, LibraryObject, Program}
use Rattle.ada_meaning.specs.Resolved.{number_in, shape_in}
use Rattle.ada_meaning.specs.Shape.{Shape, word, row, group, Shapes, no_shape, and_shape}
use Rattle.ada_meaning.specs.State.{Place}
use Rattle.ada_meaning.specs.WellFormed as formed
use Rattle.ada_resolved.specs.Sizes.{words}
use Rattle.kernel_ir.specs.declared.kernel.Kernel.{Kernel}
use Rattle.kernel_ir.specs.Meaning as code
use Rattle.kernel_ir.specs.World.{Memory, data_word}
use Rattle.statement_code.specs.Cells.{Agree}
use Rattle.statement_code.specs.Initial.{initial_content, InitialFits, InitialsFit, with_words, AreAddressed, HasInitialWords, IsObjectOf}
use Rattle.statement_code.specs.Objects.{Among, Standing, CellsOf}
use Rattle.statement_code.specs.Programs.{IsLibrary}
use Rattle.statement_code.proofs.Formed.{number_known}
use Rattle.statement_code.proofs.Initial.{initial_size, StandsThere, begins_law}
use Rattle.statement_code.proofs.Kernels.{each_is}
use Rattle.statement_code.proofs.Numbers.{word_is}
use Rattle.statement_code.proofs.Words.{objects_give}
use Rattle.statement_code.proofs.Objects.{among_words, among_good, cells_apart, lies_among}

-- initial values are words
module _ (p : Program) (inst : ℕ) where
  mutual
    initial_fits : (s : Shape) (v : Initial) → formed.IsType s → formed.IsInitial p inst v → InitialFits p inst s v
    initial_fits (word b) no_initial typed is = word_is b.low typed.0
    initial_fits (word b) (static_initial e) typed is = word_is (number_in p inst e) (number_known p inst (λ o. word b) e is)
    initial_fits (word b) (others_initial v) typed is = word_is b.low typed.0
    initial_fits (row b s) no_initial typed is = initial_fits s no_initial typed.1.1 tt
    initial_fits (row b s) (static_initial e) typed is = initial_fits s no_initial typed.1.1 tt
    initial_fits (row b s) (others_initial v) typed is = initial_fits s v typed.1.1 is
    initial_fits (group no_shape) v typed is = absurd typed
    initial_fits (group (and_shape s ss)) v typed is = (initial_fits s no_initial typed.0 tt, initials_fit ss typed.1)

    initials_fit : (ss : Shapes) → formed.AreTypes ss → InitialsFit p inst ss
    initials_fit no_shape typed = tt
    initials_fit (and_shape s ss) typed = (initial_fits s no_initial typed.0 tt, initials_fit ss typed.1)

-- the cells of an object are among all
member : (os : List Standing) (s : Shape) (q : Place) (a : ℕ) (r : Place) (c : ℕ) → Somewhere (λ o. (o.place ≡ q) × ((o.shape ≡ s) × (o.address ≡ a))) os → Among s q a r c → CellsOf os r c
member [] s q a r c there h = absurd there
member (o ∷ os) s q a r c (inl is) h =
    inl (subst (λ x. Among x o.place o.address r c) (sym is.1.0) (subst (λ x. Among s x o.address r c) (sym is.0) (subst (λ x. Among s q x r c) (sym is.1.1) h)))
member (o ∷ os) s q a r c (inr there) h = inr (member os s q a r c there h)

-- they are of the library level, between the first word of the data and the frames
record IsBelow (low : ℕ) (q : Place) (c : ℕ) : Type 0 where
  outside : q.frame ≡ 0
  first : data_word ≤ c
  last : c < low

below : (low : ℕ) (os : List Standing) → Everywhere (λ s. (s.place.frame ≡ 0) × ((data_word ≤ s.address) × (s.address + words s.shape ≤ low))) os → (q : Place) (c : ℕ) → CellsOf os q c → IsBelow low q c
below low [] all q c there = absurd there
below low (o ∷ os) all q c (inl here) =
    let at = among_words o.shape o.place o.address q c here in record {
      outside = among_good (λ r. r.frame ≡ 0) (λ i r is. is) o.shape o.place o.address q c all.0.0 here;
      first = omega (arith, at.0, all.0.1.0);
      last = omega (arith, at.1, all.0.1.1);
    }
below low (o ∷ os) all q c (inr there) = below low os all.1 q c there

module _ (p : Program) (library : List Standing) (low : ℕ) (apart : IsLibrary library low) (address_of : (inst declaration : ℕ) → ℕ) where
  abbrev outside : (q : Place) (c : ℕ) → CellsOf library q c → q.frame ≡ 0
  outside q c there = (below low library apart.outside q c there).outside

  abbrev Stands : LibraryObject → Type 0
  Stands o = (inst : ℕ) → StandsIn p o.generic inst → StandsThere p (CellsOf library) (cells_apart library apart.apart) outside address_of o inst

  all_stand : (os : List LibraryObject) → Everywhere (formed.IsLibraryObject p) os → AreAddressed p library address_of os → Everywhere Stands os
  all_stand [] well placed = tt
  all_stand (o ∷ os) well placed = (
    (λ inst stands. record {
      lies = lies_among (CellsOf library) (shape_in p inst o.subtype) (library_place inst o.declaration) (address_of inst o.declaration)
          (λ q c here. member library (shape_in p inst o.subtype) (library_place inst o.declaration) (address_of inst o.declaration) q c (placed.0 inst stands) here);
      fits = (let is = each_is (λ i. formed.IsType (shape_in p i o.subtype) × formed.IsInitial p i o.initial) (instances_of o.generic p.instances) inst well.0 (instances_listed p o.generic inst stands) in
          initial_fits p inst (shape_in p inst o.subtype) o.initial is.0 is.1);
    }),
    all_stand os well.1 placed.1,
  )

  -- memory that has the initial words of all objects is as one that they were filled into, at each cell
  cell_filled : (os : List Standing) → Everywhere (IsObjectOf p address_of) os → (memory m : Memory) → HasInitialWords p address_of memory p.objects → (q : Place) (c : ℕ) → CellsOf os q c
      → with_words p address_of p.objects m c ≡ memory c
  cell_filled [] are memory m has q c there = absurd there
  cell_filled (s ∷ os) are memory m has q c (inl here) =
      let at = among_words s.shape s.place s.address q c here in
      let is = are.0 in
      let address = is.address in
      let many : length (initial_content p is.inst (shape_in p is.inst is.object.subtype) is.object.initial).words ≡ words s.shape =
      initial_size p is.inst (shape_in p is.inst is.object.subtype) is.object.initial ∙ ap words (sym is.shape) in
      objects_give memory c p address_of p.objects is.object is.inst has is.declared is.stands (omega (arith, at.0, address)) (omega (arith, at.1, address, many)) m
  cell_filled (s ∷ os) are memory m has q c (inr there) = cell_filled os are.1 memory m has q c there

  pub begins_alike : (K : Kernel) → formed.IsWellFormed p → AreAddressed p library address_of p.objects → Everywhere (IsObjectOf p address_of) library
      → (input : List ℤ) → HasInitialWords p address_of (code.begin K input).memory p.objects → Agree (CellsOf library) (initial p input).store (code.begin K input).memory
  begins_alike K well placed are input has q c there =
      let agrees = begins_law p (CellsOf library) (cells_apart library apart.apart) outside address_of (all_stand p.objects well.library placed) input q c there in
      (sym (cell_filled library are (code.begin K input).memory (λ a. pos 0) has q c there) ∙ agrees.0, agrees.1)

-- an object of the library level that a text names stands there, with its shape
pub some_map : {X : Type 0} (P Q : X → Type 0) (xs : List X) → ((x : X) → P x → Q x) → Somewhere P xs → Somewhere Q xs
some_map P Q [] f there = absurd there
some_map P Q (x ∷ xs) f (inl is) = inl (f x is)
some_map P Q (x ∷ xs) f (inr there) = inr (some_map P Q xs f there)

module _ (p : Program) (library : List Standing) (address_of : (inst declaration : ℕ) → ℕ) (inst d : ℕ) where
  abbrev pub Found : Shape → Standing → Type 0
  Found a s = (s.place ≡ library_place inst d) × ((s.shape ≡ a) × (s.address ≡ address_of inst d))

  others_differ : (e : ℕ) (os : List LibraryObject) → Everywhere (λ x. e ≡ x → ⊥) (map (λ o. o.declaration) os)
      → Somewhere (λ (x : LibraryObject). (x.declaration ≡ d) × StandsIn p x.generic inst) os → e ≡ d → ⊥
  others_differ e [] apart there is = there
  others_differ e (o ∷ os) apart (inl here) is = apart.0 (is ∙ sym here.0)
  others_differ e (o ∷ os) apart (inr there) is = others_differ e os apart.1 there is

  pub found_outside : (os : List LibraryObject) → AreAddressed p library address_of os → AreDistinct (map (λ o. o.declaration) os)
      → Somewhere (λ (x : LibraryObject). (x.declaration ≡ d) × StandsIn p x.generic inst) os → Somewhere (Found (library_shape p inst d os)) library
  found_outside [] placed apart there = absurd there
  found_outside (o ∷ os) placed apart (inl here) =
      some_map (λ (s : Standing). (s.place ≡ library_place inst o.declaration) × ((s.shape ≡ shape_in p inst o.subtype) × (s.address ≡ address_of inst o.declaration)))
      (Found (library_shape p inst d (o ∷ os))) library (λ s is. (
        is.0 ∙ ap (library_place inst) here.0,
        (is.1.0 ∙ ap (λ b. if b then shape_in p inst o.subtype else library_shape p inst d os) (sym (eq-eqb o.declaration d here.0)), is.1.1 ∙ ap (address_of inst) here.0),
      ))
      (placed.0 inst here.1)
  found_outside (o ∷ os) placed apart (inr there) =
      some_map (Found (library_shape p inst d os)) (Found (library_shape p inst d (o ∷ os))) library
      (λ s is. (is.0, (is.1.0 ∙ ap (λ b. if b then shape_in p inst o.subtype else library_shape p inst d os) (sym (differs (eqb_tells o.declaration d))), is.1.1)))
      (found_outside os placed.1 apart.1 there)
    where
      differs : ((nat_eq o.declaration d ≡ true) × (o.declaration ≡ d)) ⊎ ((nat_eq o.declaration d ≡ false) × (o.declaration ≢ d)) → nat_eq o.declaration d ≡ false
      differs (inl is) = absurd (others_differ o.declaration os apart.0 there is.1)
      differs (inr not) = not.0

-- what stands there has a type
pub standing_typed : (p : Program) (address_of : (inst declaration : ℕ) → ℕ) (s : Standing) → formed.IsWellFormed p → IsObjectOf p address_of s → formed.IsType s.shape
standing_typed p address_of s well is =
    let object = each_is (formed.IsLibraryObject p) p.objects is.object well.library is.declared in
    subst formed.IsType (sym is.shape)
    (each_is (λ i. formed.IsType (shape_in p i is.object.subtype) × formed.IsInitial p i is.object.initial) (instances_of is.object.generic p.instances) is.inst object
    (instances_listed p is.object.generic is.inst is.stands)).0
