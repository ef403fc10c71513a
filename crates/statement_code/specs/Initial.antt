-- The words of the library level as a program begins.
use Rattle.std.specs.Prelude.{◌≡◌, ℕ, ℤ, suc, ◌+◌, slice_get, nat_eq, List, [], ◌∷◌, Option, None, Some, if◌then◌else◌}
use Rattle.std.specs.Int.{w32}
use Rattle.std.specs.Int.RustNames.{FitsSigned}
use Rattle.ada_meaning.specs.Arithmetic.{count_between}
use Rattle.cov_base.specs.Lists.{Everywhere, Somewhere}
use Rattle.ada_meaning.specs.Bodies.{StandsIn}
use Rattle.ada_meaning.specs.Execution.{initial_number, of_components, library_place}
use Rattle.ada_meaning.specs.Program.{Initial, no_initial, LibraryObject, Instance, Program}
use Rattle.ada_meaning.specs.Resolved.{shape_in}
use Rattle.ada_meaning.specs.Shape.{Shape, word, row, group, Shapes, no_shape, and_shape}
use Rattle.kernel_ir.specs.Layouts.{Content, no_content, followed_by, repeated}
use Rattle.kernel_ir.specs.Simple.{filled}
use Rattle.kernel_ir.specs.World.{Memory}
use Rattle.statement_code.specs.Objects.{Standing}

module _ (p : Program) (inst : ℕ) where
  abbrev mutual
    -- the initial values of the scalar parts of an object, as words in order
    pub initial_content : Shape → Initial → Content
    initial_content (word b) i = record { words = initial_number p inst i b ∷ []; cost = 0 }
    initial_content (row b s) i = repeated (count_between b.low b.high) (initial_content s (of_components i))
    initial_content (group ss) i = initial_contents ss

    -- those of the components of a record
    pub initial_contents : Shapes → Content
    initial_contents no_shape = no_content
    initial_contents (and_shape s ss) = followed_by (initial_content s no_initial) (initial_contents ss)

  abbrev mutual
    -- these are words
    pub InitialFits : Shape → Initial → Type 0
    InitialFits (word b) i = FitsSigned w32 (initial_number p inst i b)
    InitialFits (row b s) i = InitialFits s (of_components i)
    InitialFits (group ss) i = InitialsFit ss

    pub InitialsFit : Shapes → Type 0
    InitialsFit no_shape = Unit {0}
    InitialsFit (and_shape s ss) = InitialFits s no_initial × InitialsFit ss

-- what each instance of a generic adds to a memory, of instances that are numbered from n on; and each that has the objects of a generic
abbrev pub in_each : (generic : ℕ) → List Instance → (n : ℕ) → (ℕ → Memory → Memory) → Memory → Memory
in_each g [] n f memory = memory
in_each g (i ∷ is) n f memory = in_each g is (suc n) f (if nat_eq i.generic g then f n memory else memory)

abbrev pub in_all_of : Option ℕ → List Instance → (ℕ → Memory → Memory) → Memory → Memory
in_all_of None is f memory = f 0 memory
in_all_of (Some g) is f memory = in_each g is 1 f memory

-- a memory where the objects of the library level have their initial words, by their addresses
abbrev pub with_words : (p : Program) → (address_of : (inst declaration : ℕ) → ℕ) → List LibraryObject → Memory → Memory
with_words p address_of [] memory = memory
with_words p address_of (o ∷ os) memory = with_words p address_of os (in_all_of o.generic p.instances
    (λ inst. filled (initial_content p inst (shape_in p inst o.subtype) o.initial).words (address_of inst o.declaration)) memory)

-- each object of the library level stands in each of its instances, at its address there
abbrev pub AreAddressed : (p : Program) → List Standing → (address_of : (inst declaration : ℕ) → ℕ) → List LibraryObject → Type 0
AreAddressed p library address_of os = Everywhere (λ o. (inst : ℕ) → StandsIn p o.generic inst
    → Somewhere (λ s. (s.place ≡ library_place inst o.declaration) × ((s.shape ≡ shape_in p inst o.subtype) × (s.address ≡ address_of inst o.declaration))) library) os

-- a memory has these words from an address on
abbrev pub HasWordsAt : List ℤ → (address : ℕ) → Memory → Type 0
HasWordsAt xs a memory = (k : ℕ) (x : ℤ) → slice_get xs k ≡ Some x → memory (a + k) ≡ x

-- it has the initial words of each object of the library level, in each of its instances
abbrev pub HasInitialWords : (p : Program) → (address_of : (inst declaration : ℕ) → ℕ) → Memory → List LibraryObject → Type 0
HasInitialWords p address_of memory os = Everywhere (λ o. (inst : ℕ) → StandsIn p o.generic inst
    → HasWordsAt (initial_content p inst (shape_in p inst o.subtype) o.initial).words (address_of inst o.declaration) memory) os

-- what stands at the library level is an object of the program, in an instance
pub record IsObjectOf (p : Program) (address_of : (inst declaration : ℕ) → ℕ) (s : Standing) : Type 0 where
  pub object : LibraryObject
  pub inst : ℕ
  pub declared : Somewhere (λ o. o ≡ object) p.objects
  pub stands : StandsIn p object.generic inst
  pub shape : s.shape ≡ shape_in p inst object.subtype
  pub address : s.address ≡ address_of inst object.declaration
