-- The library level of the kernel that is made of a typed program is laid out.
use Rattle.std.specs.Prelude.{◌≡◌, ℕ, ◌+◌, ◌*◌, ◌^◌, ◌<◌, ◌≤◌, ℤ, List, length}
use Rattle.std.proofs.Common.{refl}
use Rattle.cov_base.specs.Lists.{Everywhere}
use Rattle.ada_meaning.specs.Declared.{object_shape}
use Rattle.ada_meaning.specs.Resolved.{owner_in}
use Rattle.ada_meaning.specs.Tree as tree
use Rattle.ada_meaning.specs.Types as type
use Rattle.ada_meaning.specs.WellFormed.{IsWellFormed, StartSees}
use Rattle.ada_tree.specs.declared.program.Program.{Program}
use Rattle.ada_tree.specs.declared.program.Subprogram.{Subprogram}
use Rattle.ada_tree.specs.Programs.{program_of, subprogram_of, types_of}
use Rattle.ada_resolved.specs.Library.{program_size}
use Rattle.ada_resolved.specs.Sizes.{words}
use Rattle.generic_expand.specs.Expanded.{copies_of}
use Rattle.kernel_ir.specs.Limits.{most_words, widest}
use Rattle.kernel_ir.specs.Meaning as code
use Rattle.kernel_ir.specs.World.{area_end, data_word}
use Rattle.statement_code.specs.Initial.{AreAddressed, HasInitialWords, IsObjectOf}
use Rattle.statement_code.specs.Programs.{IsHome, IsLibrary}
use Rattle.storage_layout.specs.Layouts.{layouts_of}
use Rattle.storage_layout.specs.Library.{library_places, library_words}
use Rattle.lower.specs.Context.{home_by, shape_by}
use Rattle.lower.specs.Kernel.{kernel_for, surroundings_in}
use Rattle.lower.specs.Schemes.{address_in, library_standings}
use Rattle.lower.specs.Standing.{IsSized}
use Rattle.lower.proofs.LibraryApart.{above_law, apart_law, few_law, library_law, room_law}
use Rattle.lower.proofs.LibraryBegins.{begins_law, words_law}
use Rattle.lower.proofs.LibraryObjects.{addressed_law, objects_law, outside_law}

module _ (p : Program) where
  -- the objects of the library level stand below all frames, each at its address, and begin with their initial values; what a body sees of them
  -- stands where its code looks for it
  pub record IsLibraryLaid : Type 0 where
    pub apart : IsLibrary (library_standings p) (data_word + length (library_words p))
    pub above : data_word ≤ data_word + length (library_words p)
    pub room : data_word + length (library_words p) + widest * 512 ≤ area_end
    pub addressed : AreAddressed (program_of p) (library_standings p) (address_in p) (program_of p).objects
    pub objects : Everywhere (IsObjectOf (program_of p) (address_in p)) (library_standings p)
    pub begins : (input : List ℤ)
        → HasInitialWords (program_of p) (address_in p) (code.begin (kernel_for p (copies_of (program_of p))) input).memory (program_of p).objects
    pub library : Everywhere (λ o. (words o.shape ≤ most_words) × (o.address < data_word + length (library_words p))) (library_standings p)
    pub word_sizes : Everywhere (λ word. word < 2 ^ 32) (library_words p)
    pub library_few : length (library_words p) ≤ most_words
    pub outside : (j : ℕ) (s : Subprogram) (o : type.Owner) (d : ℕ)
        → StartSees (program_of p) j (subprogram_of (types_of p.types) s) (tree.library_object o d)
        → (object_shape (program_of p) j (subprogram_of (types_of p.types) s) (tree.library_object o d)
        ≡ shape_by (surroundings_in p (library_places p) (copies_of (program_of p)) (layouts_of p).laid j s) (tree.library_object o d))
        × IsHome (home_by (surroundings_in p (library_places p) (copies_of (program_of p)) (layouts_of p).laid j s) (tree.library_object o d))
        (address_in p (owner_in j o) d)

  pub library_laid : IsWellFormed (program_of p) → IsSized (program_size (program_of p)) → IsLibraryLaid
  library_laid well has = record {
    apart = apart_law p well has;
    above = above_law p well has;
    room = room_law p well has;
    addressed = addressed_law p well has;
    objects = objects_law p well has;
    begins = λ input. begins_law p well has (kernel_for p (copies_of (program_of p))) refl input;
    library = library_law p well has;
    word_sizes = words_law p well has;
    library_few = few_law p well has;
    outside = λ j s o d sees. outside_law p well has (copies_of (program_of p)) (layouts_of p).laid j s (subprogram_of (types_of p.types) s) o d sees;
  }
