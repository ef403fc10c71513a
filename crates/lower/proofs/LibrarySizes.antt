-- The library level has as many words as its objects take, by instance.
use Rattle.std.proofs.Common.{◌≡◌, ℕ, zero, suc, ◌+◌, ◌*◌, ◌<◌, ◌≤◌, Bool, true, false, List, [], ◌∷◌, length, map, Option, Some, None, option_map, slice_get, refl, sym, ap, ◌∙◌, subst, arith}
use Rattle.std.specs.Prelude.{nat_le, if◌then◌else◌}
use Rattle.std.specs.Option.{IfSome, option_and_then}
use Rattle.std.proofs.lemmas.Bool.{eqb-true, eq-eqb, false≢true}
use Rattle.std.proofs.lemmas.Bool.Decides.{nat_tests}
use Rattle.std.proofs.lemmas.List.{length-append, length-map}
use Rattle.std.proofs.lemmas.Option.{none-some, same_Some}
use Rattle.cov_base.specs.Lists.{Everywhere}
use Rattle.ada_meaning.specs.Arithmetic.{count_between}
use Rattle.ada_meaning.specs.Bodies.{StandsIn}
use Rattle.ada_meaning.specs.Program as meaning
use Rattle.ada_meaning.specs.Resolved.{shape_in}
use Rattle.ada_meaning.specs.Shape.{Shape, word, row, group, Shapes, no_shape, and_shape}
use Rattle.ada_tree.specs.declared.program.Initial.{Initial}
use Rattle.ada_tree.specs.declared.program.Initial.TheVariants as initial
use Rattle.ada_tree.specs.declared.program.LibraryObject.{LibraryObject}
use Rattle.ada_tree.specs.declared.program.Program.{Program}
use Rattle.ada_tree.specs.Programs.{instance_of, library_object_of, program_of, types_of}
use Rattle.ada_resolved.specs.Forms.{named_type, shape_of}
use Rattle.ada_resolved.specs.Library.{has_text, stands_in, with_object, with_objects, instance_size, with_instances, program_size}
use Rattle.ada_resolved.specs.Sizes.{limited, with_component, word_limit, words, all_words}
use Rattle.ada_resolved.proofs.SizeLaws.{size_exact}
use Rattle.storage_layout.specs.Initial.{first_of, first_of_components, initial_words, all_initial_words, repeated}
use Rattle.storage_layout.specs.Library.{words_in, all_words_in, words_of_instances, library_words}
use Rattle.lower.specs.Standing.{IsSized, size_of}
use Rattle.lower.proofs.Types.{meant, named_shape}

-- what stands in an instance is tested so
has_text_of : (g : ℕ) (o : Option meaning.Instance) → has_text g o ≡ true → option_map (λ x. x.generic) o ≡ Some g
has_text_of g None is = absurd (false≢true is)
has_text_of g (Some i) is = ap Some (eqb-true i.generic g is)

text_has : (g : ℕ) (o : Option meaning.Instance) → option_map (λ x. x.generic) o ≡ Some g → has_text g o ≡ true
text_has g None is = absurd (none-some g is)
text_has g (Some i) is = eq-eqb i.generic g (same_Some i.generic g is)

text_within : (g : ℕ) (is : List meaning.Instance) (n : ℕ) → option_map (λ x. x.generic) (slice_get is n) ≡ Some g → n < length is
text_within g [] n has = absurd (none-some g has)
text_within g (i ∷ is) zero has = omega arith
text_within g (i ∷ is) (suc n) has = omega (arith, text_within g is n has)

pub stands_if : (p : meaning.Program) (g : Option ℕ) (i : ℕ) → stands_in p.instances g i ≡ true → StandsIn p g i
stands_if p None zero is = refl
stands_if p None (suc i) is = absurd (false≢true is)
stands_if p (Some g) zero is = absurd (false≢true is)
stands_if p (Some g) (suc i) is = has_text_of g (slice_get p.instances i) is

pub stands_test : (p : meaning.Program) (g : Option ℕ) (i : ℕ) → StandsIn p g i → stands_in p.instances g i ≡ true
stands_test p None zero is = refl
stands_test p None (suc i) is = absurd (omega (arith, is))
stands_test p (Some g) zero is = absurd is
stands_test p (Some g) (suc i) is = text_has g (slice_get p.instances i) is

pub stands_within : (p : meaning.Program) (g : Option ℕ) (i : ℕ) → StandsIn p g i → i < length p.instances + 1
stands_within p None i is = omega (arith, is)
stands_within p (Some g) zero is = absurd is
stands_within p (Some g) (suc i) is = omega (arith, text_within g p.instances i is)

-- an object begins with as many words as it takes
repeated_length : (n k : ℕ) (ws : List ℕ) → length ws ≡ k → length (repeated n ws) ≡ n * k
repeated_length zero k ws is = omega arith
repeated_length (suc n) k ws is = omega (arith, length-append ws (repeated n ws), is, repeated_length n k ws is)

-- what the components of an object begin with, where it begins so
abbrev pub parts_of : Initial → Initial
parts_of initial.None = initial.None
parts_of (initial.Static zero e) = initial.None
parts_of (initial.Static (suc n) e) = initial.Static n e

module _ (p : Program) (inst : ℕ) where
  pub first_of_parts : (v : Initial) → first_of_components (first_of p inst v) ≡ first_of p inst (parts_of v)
  first_of_parts initial.None = refl
  first_of_parts (initial.Static zero e) = refl
  first_of_parts (initial.Static (suc n) e) = refl

  mutual
    pub words_length : (s : Shape) (v : Initial) → length (initial_words s (first_of p inst v)) ≡ words s
    words_length (word b) v = refl
    words_length (row b s) v =
        repeated_length (count_between b.low b.high) (words s) (initial_words s (first_of_components (first_of p inst v)))
        (ap (λ f. length (initial_words s f)) (first_of_parts v) ∙ words_length s (parts_of v))
    words_length (group ss) v = all_words_length ss

    all_words_length : (ss : Shapes) → length (all_initial_words ss) ≡ all_words ss
    all_words_length no_shape = refl
    all_words_length (and_shape s ss) =
        length-append (initial_words s (first_of p inst initial.None)) (all_initial_words ss)
        ∙ (λ t. words_length s initial.None t + all_words_length ss t)

-- a sum of words within the limit
limited_is : (n m : ℕ) → limited n ≡ Some m → (n ≡ m) × (m ≤ word_limit)
limited_is n m is = by_test (nat_le n word_limit) refl is
  where
    by_test : (b : Bool) → nat_le n word_limit ≡ b → (if b then Some n else None) ≡ Some m → (n ≡ m) × (m ≤ word_limit)
    by_test true few is = let same : n ≡ m = same_Some n m is in (same, grind (arith, nat_tests))
    by_test false many is = absurd (none-some m is)

record Joins (w : ℕ) (o : Option ℕ) (n : ℕ) : Type 0 where
  size : ℕ
  is : o ≡ Some size
  sum : w + size ≡ n
  few : n ≤ word_limit

joins : (w : ℕ) (o : Option ℕ) (n : ℕ) → with_component w o ≡ Some n → Joins w o n
joins w None n is = absurd (none-some n is)
joins w (Some k) n is = let l = limited_is (w + k) n is in record { size = k; is = refl; sum = l.0; few = l.1 }

module _ (p : Program) where
  abbrev pub stands : (inst : ℕ) → LibraryObject → Bool
  stands i o = stands_in (map instance_of p.instances) o.generic i

  -- an object has a size where it stands
  abbrev pub IsSizedIn : (inst : ℕ) → LibraryObject → Type 0
  IsSizedIn i o = stands i o ≡ true → IsSized (size_of p i o.subtype)

  abbrev library_object : LibraryObject → meaning.LibraryObject
  library_object o = library_object_of (types_of p.types) o

  sized_words : (i n : ℕ) (o : LibraryObject) → size_of p i o.subtype ≡ Some n
      → length (initial_words (shape_of p (named_type p i o.subtype)) (first_of p i o.initial)) ≡ n
  sized_words i n o is =
      let has : IsSized (size_of p i o.subtype) = subst IsSized (sym is) tt in
      let exact = size_exact (program_of p) i (meant p o.subtype) in
      words_length p i (shape_of p (named_type p i o.subtype)) o.initial ∙ ap words (named_shape p i o.subtype has)
      ∙ subst (λ x. IfSome x (λ m. words (shape_in (program_of p) i (meant p o.subtype)) ≡ m)) is exact

  one_sized : (i w n : ℕ) (o : LibraryObject) → with_object (program_of p) i w (library_object o) ≡ Some n
      → IsSizedIn i o × (w + length (words_in p i o) ≡ n)
  one_sized i w n o is = by_test (stands i o) refl is
    where
      by_test : (b : Bool) → stands i o ≡ b → (if b then with_component w (size_of p i o.subtype) else Some w) ≡ Some n
          → IsSizedIn i o × (w + length (if b then initial_words (shape_of p (named_type p i o.subtype)) (first_of p i o.initial) else []) ≡ n)
      by_test true e is =
          let j = joins w (size_of p i o.subtype) n is in
          ((λ s. subst IsSized (sym j.is) tt), ap (λ k. w + k) (sized_words i j.size o j.is) ∙ j.sum)
      by_test false e is = ((λ s. absurd (false≢true (sym e ∙ s))), omega (arith, same_Some w n is))

  record SizedObjects (i w n : ℕ) (os : List LibraryObject) : Type 0 where
    sized : Everywhere (IsSizedIn i) os
    sum : w + length (all_words_in p i os) ≡ n

  objects_sized : (i w n : ℕ) (os : List LibraryObject) → with_objects (program_of p) i w (map library_object os) ≡ Some n → SizedObjects i w n os
  objects_sized i w n [] is = record { sized = tt; sum = omega (arith, same_Some w n is) }
  objects_sized i w n (o ∷ os) is =
      by_case (with_object (program_of p) i w (library_object o)) refl is (λ m rest. objects_sized i m n os rest)
    where
      by_case : (x : Option ℕ) → with_object (program_of p) i w (library_object o) ≡ x
          → option_and_then (λ m. with_objects (program_of p) i m (map library_object os)) x ≡ Some n
          → ((m : ℕ) → with_objects (program_of p) i m (map library_object os) ≡ Some n → SizedObjects i m n os) → SizedObjects i w n (o ∷ os)
      by_case None e is behind = absurd (none-some n is)
      by_case (Some m) e is behind =
          let one = one_sized i w m o e in
          let rest = behind m is in
          record { sized = (one.0, rest.sized); sum = omega (arith, length-append (words_in p i o) (all_words_in p i os), one.1, rest.sum) }

  record SizedInstances (w count i n : ℕ) : Type 0 where
    sized : (k : ℕ) → k < count → Everywhere (IsSizedIn (i + k)) p.objects
    sum : w + length (words_of_instances p count i) ≡ n
    few : w ≤ word_limit → n ≤ word_limit

  instances_sized : (w count i n : ℕ) → with_instances (program_of p) w count i ≡ Some n → SizedInstances w count i n
  instances_sized w zero i n is =
      let same = same_Some w n is in record { sized = λ k less. absurd (omega (arith, less)); sum = omega (arith, same); few = λ few. omega (arith, few, same) }
  instances_sized w (suc count) i n is =
      by_case (with_component w (instance_size (program_of p) i)) refl is (λ m rest. instances_sized m count (i + 1) n rest)
    where
      by_case : (x : Option ℕ) → with_component w (instance_size (program_of p) i) ≡ x
          → option_and_then (λ m. with_instances (program_of p) m count (i + 1)) x ≡ Some n
          → ((m : ℕ) → with_instances (program_of p) m count (i + 1) ≡ Some n → SizedInstances m count (i + 1) n) → SizedInstances w (suc count) i n
      by_case None e is behind = absurd (none-some n is)
      by_case (Some m) e is behind =
          let j = joins w (instance_size (program_of p) i) m e in
          let here = objects_sized i 0 j.size p.objects j.is in
          let rest = behind m is in
          record {
            sized = each here.sized rest.sized;
            sum = omega (arith, length-append (all_words_in p i p.objects) (words_of_instances p count (i + 1)), here.sum, j.sum, rest.sum);
            few = λ few. rest.few j.few;
          }
        where
          each : Everywhere (IsSizedIn i) p.objects → ((k : ℕ) → k < count → Everywhere (IsSizedIn (i + 1 + k)) p.objects)
              → (k : ℕ) → k < suc count → Everywhere (IsSizedIn (i + k)) p.objects
          each first later zero less = let e : i ≡ i + 0 = omega arith in subst (λ j. Everywhere (IsSizedIn j) p.objects) e first
          each first later (suc k) less =
              let e : i + 1 + k ≡ i + suc k = omega arith in subst (λ j. Everywhere (IsSizedIn j) p.objects) e (later k (omega (arith, less)))

  -- the library level of a program within the limit
  pub record SizedLibrary : Type 0 where
    pub sized : (i : ℕ) → i < length p.instances + 1 → Everywhere (IsSizedIn i) p.objects
    pub few : length (library_words p) ≤ word_limit

  pub library_sized : IsSized (program_size (program_of p)) → SizedLibrary
  library_sized has = by_case (program_size (program_of p)) refl has
    where
      same_count : length (map instance_of p.instances) + 1 ≡ length p.instances + 1
      same_count = ap (λ n. n + 1) (length-map p.instances instance_of)

      by_case : (o : Option ℕ) → program_size (program_of p) ≡ o → IsSized o → SizedLibrary
      by_case None e has = absurd has
      by_case (Some n) e has =
          let all = instances_sized 0 (length p.instances + 1) 0 n (subst (λ c. with_instances (program_of p) 0 c 0 ≡ Some n) same_count e) in
          record { sized = λ i less. let same : 0 + i ≡ i = omega arith in subst (λ j. Everywhere (IsSizedIn j) p.objects) same (all.sized i less); few = omega (arith, all.sum, all.few (omega arith)) }
