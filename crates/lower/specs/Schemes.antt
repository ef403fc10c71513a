-- How the kernel of a typed program is laid out: the numbers of its bodies, the addresses of its objects, and how each body is laid out.
use Rattle.std.specs.Prelude.{ℕ, suc, ◌+◌, false, List, [], ◌∷◌, ◌++◌, map, length, Option, Some, None, option_map, slice_get, unwrap_or}
use Rattle.ada_meaning.specs.Declared.{is_function}
use Rattle.ada_meaning.specs.Execution.{library_place}
use Rattle.ada_meaning.specs.Obligations.{numbers}
use Rattle.ada_meaning.specs.Arithmetic.{base_range}
use Rattle.ada_meaning.specs.Shape.{word}
use Rattle.ada_tree.specs.declared.program.Program.{Program}
use Rattle.ada_tree.specs.declared.program.Subprogram.{Subprogram}
use Rattle.ada_tree.specs.Programs.{subprogram_of, types_of}
use Rattle.ada_resolved.specs.Forms.{named_type, shape_of}
use Rattle.generic_expand.specs.declared.copies.BodyCopy.{BodyCopy}
use Rattle.kernel_ir.specs.World.{data_word}
use Rattle.statement_code.specs.Kernels.{Scheme}
use Rattle.statement_code.specs.Objects.{Standing}
use Rattle.statement_code.specs.Programs.{Plan}
use Rattle.statement_code.specs.Values.{in_frame}
use Rattle.storage_layout.specs.declared.library.LibraryPlace.{LibraryPlace}
use Rattle.storage_layout.specs.Layouts.{layouts_of}
use Rattle.storage_layout.specs.Library.{library_places, library_words}
use Rattle.lower.specs.Context.{bodies_before, home_by, layout_by, place_among, shape_by}
use Rattle.lower.specs.Kernel.{base_of, surroundings_in}

module _ (p : Program) where
  -- an object of the library level in memory, in an instance; and all of them, by instance from one on
  abbrev pub standing_of : (inst : ℕ) → LibraryPlace → Standing
  standing_of inst x = record {
    place = library_place inst x.declaration;
    shape = shape_of p (named_type p inst x.subtype);
    address = data_word + x.word;
  }

  abbrev pub standings : (inst : ℕ) → List (List LibraryPlace) → List Standing
  standings inst [] = []
  standings inst (xs ∷ xss) = map (standing_of inst) xs ++ standings (suc inst) xss

  abbrev pub library_standings : List Standing
  library_standings = standings 0 (library_places p)

  -- the address of the object with this declaration in an instance
  abbrev pub address_in : (inst declaration : ℕ) → ℕ
  address_in inst d = data_word + unwrap_or (option_map (λ x. x.word) (place_among d (unwrap_or (slice_get (library_places p) inst) []))) 0

  module _ (copies : List BodyCopy) where
    -- how the body of a subprogram is laid out in an instance
    abbrev pub plan_in : (inst : ℕ) → Subprogram → Plan
    plan_in inst s =
        let c = surroundings_in p (library_places p) copies (layouts_of p).laid inst s in
        record {
          width = c.width;
          base = base_of p (library_places p) copies (layouts_of p).laid inst s;
          gives = is_function (subprogram_of (types_of p.types) s);
          locals = numbers 0 (length s.objects);
          shape_of = shape_by c;
          home_of = home_by c;
          layout_of = layout_by c;
        }

    -- one of no subprogram has no objects
    abbrev pub plan_by : (inst : ℕ) → Option Subprogram → Plan
    plan_by inst None = record { width = 1; base = 0; gives = false; locals = []; shape_of = λ o. word base_range; home_of = λ o. in_frame 0; layout_of = λ d. 0 }
    plan_by inst (Some s) = plan_in inst s

    abbrev pub scheme_for : Scheme
    scheme_for = record {
      number = λ inst m. bodies_before inst m copies;
      library = library_standings;
      address_of = address_in;
      low = data_word + length (library_words p);
      plan_of = λ inst m. plan_by inst (slice_get p.subprograms m);
    }
