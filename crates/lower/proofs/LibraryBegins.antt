-- The words of the library level are the initial values of its objects, in each instance.
use Rattle.std.proofs.Common.{◌≡◌, ℕ, zero, suc, ◌+◌, ◌-◌, ◌^◌, ◌<◌, ℤ, pos, negsuc, Bool, true, false, ◌&&◌, List, [], ◌∷◌, ◌++◌, length, map, Option, Some, None, option_map, slice_get, slice_index, refl, sym, ap, ◌∙◌, subst, arith}
use Rattle.std.specs.Prelude.{nat_le, nat_lt, if◌then◌else◌}
use Rattle.std.specs.Int.{w32, cast_signed, cast_unsigned}
use Rattle.std.proofs.lemmas.Bool.Decides.{nat_tests}
use Rattle.std.proofs.lemmas.Int.{to_z-of_z}
use Rattle.std.proofs.lemmas.Option.{get_or_from_slice_get, none-some, same_Some, slice_get-map, slice_get_within}
use Rattle.cov_base.specs.Lists.{Everywhere, Somewhere}
use Rattle.ada_meaning.specs.Arithmetic.{count_between}
use Rattle.ada_meaning.specs.Bodies.{StandsIn}
use Rattle.ada_meaning.specs.Execution.{initial_number, of_components}
use Rattle.ada_meaning.specs.Program.{Bounds}
use Rattle.ada_meaning.specs.Program as meaning
use Rattle.ada_meaning.specs.Resolved.{shape_in}
use Rattle.ada_meaning.specs.Shape.{Shape, word, row, group, Shapes, no_shape, and_shape}
use Rattle.ada_meaning.specs.WellFormed.{AreInBase, AreTypes, IsInBase, IsInitial, IsType, IsWellFormed}
use Rattle.ada_tree.specs.declared.program.Initial.{Initial}
use Rattle.ada_tree.specs.declared.program.Initial.TheVariants as initial
use Rattle.ada_tree.specs.declared.program.LibraryObject.{LibraryObject}
use Rattle.ada_tree.specs.declared.program.Program.{Program}
use Rattle.ada_tree.specs.Programs.{initial_of, program_of}
use Rattle.ada_tree.specs.View.{static_of}
use Rattle.ada_resolved.specs.Forms.{named_type, shape_of}
use Rattle.ada_resolved.specs.Library.{program_size}
use Rattle.kernel_ir.specs.declared.kernel.Kernel.{Kernel}
use Rattle.kernel_ir.specs.Layouts.{Content}
use Rattle.kernel_ir.specs.Layouts as content
use Rattle.kernel_ir.specs.Limits.{IsWord}
use Rattle.kernel_ir.specs.Meaning as code
use Rattle.kernel_ir.specs.World.{Memory, data_word}
use Rattle.statement_code.specs.Initial.{HasInitialWords, HasWordsAt, initial_content, initial_contents}
use Rattle.statement_code.proofs.Formed.{number_found, number_known}
use Rattle.statement_code.proofs.Numbers.{word_is}
use Rattle.storage_layout.specs.Initial.{all_initial_words, first_number, first_of, first_of_components, initial_words}
use Rattle.storage_layout.specs.Initial as layout
use Rattle.storage_layout.specs.Library.{words_in, all_words_in, words_of_instances, library_words}
use Rattle.lower.specs.Schemes.{address_in}
use Rattle.lower.specs.Standing.{IsSized, size_of}
use Rattle.lower.proofs.LibraryApart.{object_formed}
use Rattle.lower.proofs.LibraryObjects.{each_among, each_mapped, known, library_object, one_of}
use Rattle.lower.proofs.LibraryPlaces.{address_found, each_joined, placed_at}
use Rattle.lower.proofs.LibrarySizes.{IsSizedIn, SizedLibrary, first_of_parts, library_sized, parts_of, stands, stands_if, stands_test}
use Rattle.lower.proofs.Types.{meant, named_shape}

abbrev IsSmall : ℕ → Type 0
IsSmall w = w < 2 ^ 32

-- the number that a word is read as
abbrev read_as : ℕ → ℤ
read_as w = cast_signed w32 w

-- words of a memory that are read as these numbers
record AreRead (ws : List ℕ) (xs : List ℤ) : Type 0 where
  are : map read_as ws ≡ xs
  small : Everywhere IsSmall ws

word_small : (x : ℤ) → IsWord x → cast_unsigned w32 x < 2 ^ 32
word_small (pos n) fits = omega (arith, fits.sfits)
word_small (negsuc n) fits = omega arith

joined_read : (ws vs : List ℕ) (xs ys : List ℤ) → AreRead ws xs → AreRead vs ys → AreRead (ws ++ vs) (xs ++ ys)
joined_read ws vs xs ys r s = record {
  are = map_joined ws vs ∙ (λ t. r.are t ++ s.are t);
  small = each_joined IsSmall ws vs r.small s.small;
}
  where
    map_joined : (ws vs : List ℕ) → map read_as (ws ++ vs) ≡ map read_as ws ++ map read_as vs
    map_joined [] vs = refl
    map_joined (w ∷ ws) vs = ap (λ (zs : List ℤ). read_as w ∷ zs) (map_joined ws vs)

repeated_read : (n : ℕ) (ws : List ℕ) (c : Content) → AreRead ws c.words → AreRead (layout.repeated n ws) (content.repeated n c).words
repeated_read zero ws c r = record { are = refl; small = tt }
repeated_read (suc n) ws c r = joined_read ws (layout.repeated n ws) c.words (content.repeated n c).words r (repeated_read n ws c r)

-- the initial values of components
parts_initial : (v : Initial) → of_components (initial_of v) ≡ initial_of (parts_of v)
parts_initial initial.None = refl
parts_initial (initial.Static zero e) = refl
parts_initial (initial.Static (suc n) e) = refl

module _ (p : Program) (i : ℕ) where
  parts_formed : (v : Initial) → IsInitial (program_of p) i (initial_of v) → IsInitial (program_of p) i (initial_of (parts_of v))
  parts_formed initial.None is = tt
  parts_formed (initial.Static zero e) is = tt
  parts_formed (initial.Static (suc n) e) is = is

  number_read : (b : Bounds) (v : Initial) → AreInBase b → IsInitial (program_of p) i (initial_of v)
      → (first_number (first_of p i v) b ≡ initial_number (program_of p) i (initial_of v) b) × IsInBase (initial_number (program_of p) i (initial_of v) b)
  number_read b initial.None typed is = (refl, typed.0)
  number_read b (initial.Static zero e) typed is = (
    number_found (program_of p) i (λ o. word b) (static_of e) (pos 0) is,
    number_known (program_of p) i (λ o. word b) (static_of e) is,
  )
  number_read b (initial.Static (suc n) e) typed is = (refl, typed.0)

  mutual
    words_read : (s : Shape) (v : Initial) → IsType s → IsInitial (program_of p) i (initial_of v)
        → AreRead (initial_words s (first_of p i v)) (initial_content (program_of p) i s (initial_of v)).words
    words_read (word b) v typed is =
        let n = number_read b v typed is in
        let x = initial_number (program_of p) i (initial_of v) b in
        let fits = word_is x n.1 in
        record {
          are = ap (λ (y : ℤ). read_as (cast_unsigned w32 y) ∷ []) n.0 ∙ ap (λ (y : ℤ). y ∷ []) (to_z-of_z w32 x fits);
          small = (subst (λ (y : ℤ). cast_unsigned w32 y < 2 ^ 32) (sym n.0) (word_small x fits), tt);
        }
    words_read (row b s) v typed is =
        let parts = words_read s (parts_of v) typed.1.1 (parts_formed v is) in
        repeated_read (count_between b.low b.high) (initial_words s (first_of_components (first_of p i v)))
        (initial_content (program_of p) i s (of_components (initial_of v)))
        (subst (λ f. AreRead (initial_words s f) (initial_content (program_of p) i s (of_components (initial_of v))).words) (sym (first_of_parts p i v))
        (subst (λ u. AreRead (initial_words s (first_of p i (parts_of v))) (initial_content (program_of p) i s u).words) (sym (parts_initial v)) parts))
    words_read (group no_shape) v typed is = absurd typed
    words_read (group (and_shape s ss)) v typed is = all_words_read (and_shape s ss) typed

    all_words_read : (ss : Shapes) → AreTypes ss → AreRead (all_initial_words ss) (initial_contents (program_of p) i ss).words
    all_words_read no_shape typed = record { are = refl; small = tt }
    all_words_read (and_shape s ss) typed =
        joined_read (initial_words s (first_of p i initial.None)) (all_initial_words ss) (initial_content (program_of p) i s meaning.no_initial).words
        (initial_contents (program_of p) i ss).words (words_read s initial.None typed.0 tt) (all_words_read ss typed.1)

  -- those of an object where it stands
  words_in_read : (o : LibraryObject) → stands p i o ≡ true → IsSized (size_of p i o.subtype) → IsType (shape_in (program_of p) i (meant p o.subtype))
      → IsInitial (program_of p) i (initial_of o.initial)
      → AreRead (words_in p i o) (initial_content (program_of p) i (shape_in (program_of p) i (meant p o.subtype)) (initial_of o.initial)).words
  words_in_read o test sized typed is =
      let xs = (initial_content (program_of p) i (shape_in (program_of p) i (meant p o.subtype)) (initial_of o.initial)).words in
      subst (λ (b : Bool). AreRead (if b then initial_words (shape_of p (named_type p i o.subtype)) (first_of p i o.initial) else []) xs) (sym test)
      (subst (λ (s : Shape). AreRead (initial_words s (first_of p i o.initial)) xs) (sym (named_shape p i o.subtype sized))
      (words_read (shape_in (program_of p) i (meant p o.subtype)) o.initial typed is))

  all_small : (os : List LibraryObject) → Everywhere (λ o. Everywhere IsSmall (words_in p i o)) os → Everywhere IsSmall (all_words_in p i os)
  all_small [] each = tt
  all_small (o ∷ os) each = each_joined IsSmall (words_in p i o) (all_words_in p i os) each.0 (all_small os each.1)

-- a word of the library level is read as a kernel begins
word_begun : (K : Kernel) (input : List ℤ) (n w : ℕ) → slice_get K.library n ≡ Some w → (code.begin K input).memory (data_word + n) ≡ read_as w
word_begun K input n w is =
    let words = K.library in
    let within = slice_get_within words n w is in
    let first : nat_le data_word (data_word + n) ≡ true = grind (arith, nat_tests) in
    let last : nat_lt (data_word + n) (data_word + length words) ≡ true = grind (arith, nat_tests) in
    let same : data_word + n - data_word ≡ n = omega arith in
    ap (λ (b : Bool). read_as (if b && nat_lt (data_word + n) (data_word + length words) then slice_index words (data_word + n - data_word) else 0)) first
    ∙ ap (λ (b : Bool). read_as (if b then slice_index words (data_word + n - data_word) else 0)) last
    ∙ ap (λ (k : ℕ). read_as (slice_index words k)) same ∙ ap read_as (get_or_from_slice_get words n w 0 is)

-- a number that words are read as is that of a word
record ReadAt (ws : List ℕ) (k : ℕ) (x : ℤ) : Type 0 where
  read : ℕ
  at : slice_get ws k ≡ Some read
  is : read_as read ≡ x

read_at : (ws : List ℕ) (xs : List ℤ) (k : ℕ) (x : ℤ) → AreRead ws xs → slice_get xs k ≡ Some x → ReadAt ws k x
read_at ws xs k x r is = by_case (slice_get ws k) refl (sym (slice_get-map read_as ws k) ∙ ap (λ (ys : List ℤ). slice_get ys k) r.are ∙ is)
  where
    by_case : (o : Option ℕ) → slice_get ws k ≡ o → option_map read_as o ≡ Some x → ReadAt ws k x
    by_case None at is = absurd (none-some x is)
    by_case (Some w) at is = record { read = w; at = at; is = same_Some (read_as w) x is }

module _ (p : Program) (well : IsWellFormed (program_of p)) (has : IsSized (program_size (program_of p))) where
  abbrev sizes : SizedLibrary p
  sizes = library_sized p has

  words_small : (count i : ℕ) → ((k : ℕ) → k < count → Everywhere (λ o. Everywhere IsSmall (words_in p (i + k) o)) p.objects) → Everywhere IsSmall (words_of_instances p count i)
  words_small zero i each = tt
  words_small (suc count) i each =
      let here : i + 0 ≡ i = omega arith in
      each_joined IsSmall (all_words_in p i p.objects) (words_of_instances p count (i + 1))
      (all_small p i p.objects (subst (λ (j : ℕ). Everywhere (λ o. Everywhere IsSmall (words_in p j o)) p.objects) here (each 0 (omega arith))))
      (words_small count (i + 1) (λ k less. let e : i + suc k ≡ i + 1 + k = omega arith in
      subst (λ (j : ℕ). Everywhere (λ o. Everywhere IsSmall (words_in p j o)) p.objects) e (each (suc k) (omega (arith, less)))))

  object_small : (i : ℕ) → i < length p.instances + 1 → (o : LibraryObject) → Somewhere (λ x. x ≡ o) p.objects → Everywhere IsSmall (words_in p i o)
  object_small i less o among = by_test (stands p i o) refl
    where
      by_test : (b : Bool) → stands p i o ≡ b → Everywhere IsSmall (words_in p i o)
      by_test true test =
          let is = object_formed p well has o i among (stands_if (program_of p) o.generic i test) in
          (words_in_read p i o test (one_of (IsSizedIn p i) p.objects o (sizes.sized i less) among test) is.0 is.1).small
      by_test false test =
          subst (λ (b : Bool). Everywhere IsSmall (if b then initial_words (shape_of p (named_type p i o.subtype)) (first_of p i o.initial) else [])) (sym test) tt

  -- each is a number of 32 bits
  pub words_law : Everywhere (λ w. w < 2 ^ 32) (library_words p)
  words_law =
      words_small (length p.instances + 1) 0 (λ k less. let same : k ≡ 0 + k = omega arith in
      subst (λ (j : ℕ). Everywhere (λ o. Everywhere IsSmall (words_in p j o)) p.objects) same
      (each_among (λ o. Everywhere IsSmall (words_in p k o)) p.objects (object_small k less)))

  -- a kernel with these words begins with the initial values of the program
  module _ (K : Kernel) (library : K.library ≡ library_words p) (input : List ℤ) where
    abbrev memory : Memory
    memory = (code.begin K input).memory

    object_begins : (o : LibraryObject) → Somewhere (λ x. x ≡ o) p.objects → (i : ℕ) → StandsIn (program_of p) o.generic i
        → HasWordsAt (initial_content (program_of p) i (shape_in (program_of p) i (meant p o.subtype)) (initial_of o.initial)).words (address_in p i o.declaration) memory
    object_begins o among i is k x at =
        let known = known p well has o i among is in
        let formed = object_formed p well has o i among is in
        let test = stands_test (program_of p) o.generic i is in
        let xs = (initial_content (program_of p) i (shape_in (program_of p) i (meant p o.subtype)) (initial_of o.initial)).words in
        let r = read_at (words_in p i o) xs k x (words_in_read p i o test known.sized formed.0 formed.1) at in
        let before = known.row.before + known.placed.skipped in
        let there = known.row.words (known.placed.skipped + k) r.read (known.placed.words k r.read r.at) in
        let within = slice_get_within (library_words p) (known.row.before + (known.placed.skipped + k)) r.read there in
        let address = address_found p i o.declaration known.row (placed_at p i before o) known.placed.found in
        let same : address_in p i o.declaration + k ≡ data_word + (known.row.before + (known.placed.skipped + k)) = omega (arith, address, within, sizes.few) in
        ap memory same
        ∙ word_begun K input (known.row.before + (known.placed.skipped + k)) r.read
        (ap (λ (ws : List ℕ). slice_get ws (known.row.before + (known.placed.skipped + k))) library ∙ there) ∙ r.is

    pub begins_law : HasInitialWords (program_of p) (address_in p) (code.begin K input).memory (program_of p).objects
    begins_law =
        each_mapped (λ o. (i : ℕ) → StandsIn (program_of p) o.generic i
        → HasWordsAt (initial_content (program_of p) i (shape_in (program_of p) i o.subtype) o.initial).words (address_in p i o.declaration) memory)
        (library_object p) p.objects (each_among _ p.objects object_begins)
