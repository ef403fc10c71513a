-- As a program begins, memory with the initial words of the library level holds what the store has.
use Rattle.std.proofs.Common.{◌≡◌, ℕ, zero, suc, ◌+◌, nat_eq, inr, ℤ, pos, ◌+ℤ◌, Bool, true, false, List, [], ◌∷◌, length, Option, None, Some, slice_get, option_map, refl, sym, ap, subst, ◌∙◌, arith}
use Rattle.std.specs.Prelude.{if◌then◌else◌}
use Rattle.std.proofs.lemmas.Bool.{eqb-true}
use Rattle.std.proofs.lemmas.Int.{ints}
use Rattle.std.proofs.lemmas.List.{length-append}
use Rattle.ada_meaning.specs.Arithmetic.{count_between}
use Rattle.ada_meaning.specs.Bodies.{StandsIn}
use Rattle.ada_meaning.specs.Execution.{of_components, filled as each_filled_store, in_each_instance, in_instances_of, library_place, with_initial, with_initials, with_objects, initial}
use Rattle.ada_meaning.specs.Program.{Initial, no_initial, LibraryObject, Instance, Program}
use Rattle.ada_meaning.specs.Resolved.{shape_in}
use Rattle.ada_meaning.specs.Shape.{Shape, word, row, group, Shapes, no_shape, and_shape}
use Rattle.ada_meaning.specs.State.{Place, part_at, Store}
use Rattle.ada_resolved.specs.Sizes.{words, all_words}
use Rattle.kernel_ir.specs.Simple.{filled}
use Rattle.kernel_ir.specs.World.{Memory}
use Rattle.cov_base.specs.Lists.{Everywhere}
use Rattle.statement_code.specs.Cells.{Cells, Lies, AllLie, AreApart, Agree, Within, With}
use Rattle.statement_code.specs.Initial.{initial_content, initial_contents, InitialFits, InitialsFit, in_each, in_all_of, with_words}
use Rattle.statement_code.specs.Stores.{each_store}
use Rattle.statement_code.proofs.Cells.{cell_set, fewer}
use Rattle.statement_code.proofs.Stores.{each_filled, in_parts, no_more, repeated_size, two_filled}

-- both say what components do
each_same : (n : ℕ) (i : ℤ) (f : ℤ → Store → Store) (store : Store) → each_store n i f store ≡ each_filled_store n i f store
each_same zero i f store = refl
each_same (suc n) i f store = each_same n (i +ℤ pos 1) f (f i store)

module _ (p : Program) (inst : ℕ) where
  mutual
    pub initial_size : (s : Shape) (v : Initial) → length (initial_content p inst s v).words ≡ words s
    initial_size (word b) v = refl
    initial_size (row b s) v = repeated_size (count_between b.low b.high) (initial_content p inst s (of_components v)) (words s) (initial_size s (of_components v))
    initial_size (group ss) v = initial_sizes ss

    initial_sizes : (ss : Shapes) → length (initial_contents p inst ss).words ≡ all_words ss
    initial_sizes no_shape = refl
    initial_sizes (and_shape s ss) =
        length-append (initial_content p inst s no_initial).words (initial_contents p inst ss).words ∙ (λ t. initial_size s no_initial t + initial_sizes ss t)

  module _ (Cell : Cells) (apart : AreApart Cell) where
    mutual
      -- an object gets its initial values
      initial_agrees : (s : Shape) (v : Initial) (Set : ℕ → Type 0) (q : Place) (a : ℕ) (store : Store) (m : Memory) → InitialFits p inst s v → Lies Cell s q a
          → Agree (Within Cell Set) store m
          → Agree (Within Cell (With Set a (words s))) (with_initial p inst s v q store) (filled (initial_content p inst s v).words a m)
      initial_agrees (word b) v Set q a store m fits lies agrees = cell_set Cell apart Set q a _ store m fits lies agrees
      initial_agrees (row b s) v Set q a store m fits lies agrees =
          let components = initial_content p inst s (of_components v) in
          subst (λ st. Agree (Within Cell (With Set a (words (row b s)))) st (filled (initial_content p inst (row b s) v).words a m))
          (each_same (count_between b.low b.high) b.low (λ i. with_initial p inst s (of_components v) (part_at i q)) store)
          (each_filled Cell (words s) (λ i c. Lies Cell s (part_at i q) c) (λ i. with_initial p inst s (of_components v) (part_at i q)) components (initial_size s (of_components v))
          (λ more i c st mem here g. initial_agrees s (of_components v) more (part_at i q) c st mem fits here g)
          (count_between b.low b.high) Set b.low a store m lies agrees)
      initial_agrees (group ss) v Set q a store m fits lies agrees = initials_agree ss (pos 0) Set q a store m fits lies agrees

      initials_agree : (ss : Shapes) (i : ℤ) (Set : ℕ → Type 0) (q : Place) (a : ℕ) (store : Store) (m : Memory) → InitialsFit p inst ss → AllLie Cell ss i q a
          → Agree (Within Cell Set) store m
          → Agree (Within Cell (With Set a (all_words ss))) (with_initials p inst ss i q store) (filled (initial_contents p inst ss).words a m)
      initials_agree no_shape i Set q a store m fits lies agrees = fewer Cell Set (With Set a 0) store m (λ c. no_more Set a 0 c refl) agrees
      initials_agree (and_shape s ss) i Set q a store m fits lies agrees =
          fewer Cell (With (With Set a (words s)) (a + words s) (all_words ss)) (With Set a (words s + all_words ss))
          (with_initials p inst (and_shape s ss) i q store) (filled (initial_contents p inst (and_shape s ss)).words a m) (in_parts Set a (words s) (all_words ss))
          (subst (Agree (Within Cell (With (With Set a (words s)) (a + words s) (all_words ss))) (with_initials p inst (and_shape s ss) i q store))
          (sym (two_filled (initial_content p inst s no_initial).words (initial_contents p inst ss).words (words s) a m (initial_size s no_initial)))
          (initials_agree ss (i +ℤ pos 1) (With Set a (words s)) q (a + words s) (with_initial p inst s no_initial (part_at i q) store)
          (filled (initial_content p inst s no_initial).words a m) fits.1 lies.1
          (initial_agrees s no_initial Set (part_at i q) a store m fits.0 lies.0 agrees)))

-- An object of the library level stands at its address, in each instance in which it stands, and its initial values are words.
module _ (p : Program) (Cell : Cells) (apart : AreApart Cell) (outside : (q : Place) (c : ℕ) → Cell q c → q.frame ≡ 0) (address_of : (inst declaration : ℕ) → ℕ) where
  pub record StandsThere (o : LibraryObject) (inst : ℕ) : Type 0 where
    pub lies : Lies Cell (shape_in p inst o.subtype) (library_place inst o.declaration) (address_of inst o.declaration)
    pub fits : InitialFits p inst (shape_in p inst o.subtype) o.initial

  abbrev sets : LibraryObject → ℕ → Store → Store
  sets o inst = with_initial p inst (shape_in p inst o.subtype) o.initial (library_place inst o.declaration)

  abbrev fills : LibraryObject → ℕ → Memory → Memory
  fills o inst = filled (initial_content p inst (shape_in p inst o.subtype) o.initial).words (address_of inst o.declaration)

  one_agrees : (o : LibraryObject) (inst : ℕ) → StandsThere o inst → (store : Store) (m : Memory) → Agree Cell store m → Agree Cell (sets o inst store) (fills o inst m)
  one_agrees o inst there store m agrees q c is =
      initial_agrees p inst Cell apart (shape_in p inst o.subtype) o.initial (λ a. ⊥) (library_place inst o.declaration) (address_of inst o.declaration) store m there.fits there.lies
      (λ r d within. agrees r d within.0) q c (is, inr (outside q c is))

  abbrev Behind : (m : ℕ) → List Instance → Type 0
  Behind m is = (n : ℕ) → slice_get p.instances (m + n) ≡ slice_get is n

  each_agrees : (o : LibraryObject) (g m : ℕ) (is : List Instance) → Behind m is → ((inst : ℕ) → StandsIn p (Some g) inst → StandsThere o inst) → (store : Store) (memory : Memory)
      → Agree Cell store memory → Agree Cell (in_each_instance g is (suc m) (sets o) store) (in_each g is (suc m) (fills o) memory)
  each_agrees o g m [] behind there store memory agrees = agrees
  each_agrees o g m (i ∷ is) behind there store memory agrees =
      by_test (nat_eq i.generic g) refl (λ st mem h. each_agrees o g (suc m) is later there st mem h)
    where
      later : Behind (suc m) is
      later n = ap (slice_get p.instances) (let e : suc m + n ≡ m + suc n = omega arith in e) ∙ behind (suc n)

      stands : nat_eq i.generic g ≡ true → StandsIn p (Some g) (suc m)
      stands is_one =
          ap (λ k. option_map (λ x. x.generic) (slice_get p.instances k)) (let e : m ≡ m + 0 = omega arith in e)
          ∙ ap (λ o. option_map (λ x. x.generic) o) (behind 0) ∙ ap Some (eqb-true i.generic g is_one)

      by_test : (b : Bool) → nat_eq i.generic g ≡ b
          → ((st : Store) (mem : Memory) → Agree Cell st mem → Agree Cell (in_each_instance g is (suc (suc m)) (sets o) st) (in_each g is (suc (suc m)) (fills o) mem))
          → Agree Cell (in_each_instance g is (suc (suc m)) (sets o) (if b then sets o (suc m) store else store)) (in_each g is (suc (suc m)) (fills o) (if b then fills o (suc m) memory else memory))
      by_test true is_one more = more (sets o (suc m) store) (fills o (suc m) memory) (one_agrees o (suc m) (there (suc m) (stands is_one)) store memory agrees)
      by_test false is_other more = more store memory agrees

  all_agree : (o : LibraryObject) (g : Option ℕ) → ((inst : ℕ) → StandsIn p g inst → StandsThere o inst) → (store : Store) (memory : Memory) → Agree Cell store memory
      → Agree Cell (in_instances_of g p.instances (sets o) store) (in_all_of g p.instances (fills o) memory)
  all_agree o None there store memory agrees = one_agrees o 0 (there 0 refl) store memory agrees
  all_agree o (Some g) there store memory agrees =
      each_agrees o g 0 p.instances (λ n. ap (slice_get p.instances) (let e : 0 + n ≡ n = omega arith in e)) there store memory agrees

  objects_agree : (os : List LibraryObject) → Everywhere (λ o. (inst : ℕ) → StandsIn p o.generic inst → StandsThere o inst) os → (store : Store) (memory : Memory) → Agree Cell store memory
      → Agree Cell (with_objects p os store) (with_words p address_of os memory)
  objects_agree [] there store memory agrees = agrees
  objects_agree (o ∷ os) there store memory agrees =
      objects_agree os there.1 (in_instances_of o.generic p.instances (sets o) store) (in_all_of o.generic p.instances (fills o) memory) (all_agree o o.generic there.0 store memory agrees)

  -- as the program begins
  pub begins_law : Everywhere (λ o. (inst : ℕ) → StandsIn p o.generic inst → StandsThere o inst) p.objects → (input : List ℤ)
      → Agree Cell (initial p input).store (with_words p address_of p.objects (λ a. pos 0))
  begins_law there input = objects_agree p.objects there (λ q. pos 0) (λ a. pos 0) (λ q c is. (refl, record { sfits = grind (arith, ints) }))
