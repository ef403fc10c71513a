-- The words of the objects of the library level, by instance (RM 7, 12.3). There is no such number where the type of
-- one of them has no size, or where they come to more words than a program may have.
use Rattle.std.specs.Prelude.{ℕ, zero, suc, ◌+◌, nat_eq, Bool, true, false, List, [], ◌∷◌, length, Option, Some, None, slice_get, if◌then◌else◌}
use Rattle.std.specs.Option.{option_and_then}
use Rattle.ada_meaning.specs.Program.{Program, Instance, LibraryObject}
use Rattle.ada_meaning.specs.Statics.{values_of}
use Rattle.ada_resolved.specs.Sizes.{type_size, with_component}

-- whether an instance, if there is one, has the text of this generic
abbrev pub has_text : ℕ → Option Instance → Bool
has_text g None = false
has_text g (Some i) = nat_eq i.generic g

-- whether what stands in this generic's text, or in none, stands in the instance with this number, which is 0 in no generic
abbrev pub stands_in : List Instance → Option ℕ → ℕ → Bool
stands_in is None zero = true
stands_in is None (suc n) = false
stands_in is (Some g) zero = false
stands_in is (Some g) (suc n) = has_text g (slice_get is n)

module _ (p : Program) where
  -- so many words, and those of an object where it stands in an instance
  abbrev pub with_object : (inst words : ℕ) → LibraryObject → Option ℕ
  with_object inst words o =
      if stands_in p.instances o.generic inst then with_component words (type_size (values_of p) inst o.subtype) else Some words

  abbrev pub with_objects : (inst words : ℕ) → List LibraryObject → Option ℕ
  with_objects inst words [] = Some words
  with_objects inst words (o ∷ os) = option_and_then (λ n. with_objects inst n os) (with_object inst words o)

  -- the words of an instance; 0 is all that is in no generic
  abbrev pub instance_size : ℕ → Option ℕ
  instance_size inst = with_objects inst 0 p.objects

  -- so many words, and those of so many instances from one on
  abbrev pub with_instances : (words count inst : ℕ) → Option ℕ
  with_instances words zero i = Some words
  with_instances words (suc n) i = option_and_then (λ w. with_instances w n (i + 1)) (with_component words (instance_size i))

  -- the words of a program: those in no generic, and those of each instance
  abbrev pub program_size : Option ℕ
  program_size = with_instances 0 (length p.instances + 1) 0
