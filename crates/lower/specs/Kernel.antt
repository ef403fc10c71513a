-- The kernel that is made of a typed program, with the copies of its bodies.
use Rattle.std.specs.Prelude.{ℕ, ◌+◌, List, map, length, Option, Some, None, slice_get}
use Rattle.ada_meaning.specs.Declared.{is_function}
use Rattle.ada_tree.specs.declared.program.Program.{Program}
use Rattle.ada_tree.specs.declared.program.Subprogram.{Subprogram}
use Rattle.ada_tree.specs.Objects.{capped}
use Rattle.ada_tree.specs.Programs.{subprogram_of, types_of}
use Rattle.frame_widths.specs.Ends.{end_of_block}
use Rattle.generic_expand.specs.declared.copies.BodyCopy.{BodyCopy}
use Rattle.kernel_ir.specs.declared.kernel.Body.{Body}
use Rattle.kernel_ir.specs.declared.kernel.Kernel.{Kernel}
use Rattle.kernel_ir.specs.Tree.{Code, no_op}
use Rattle.storage_layout.specs.declared.layouts.LaidType.{LaidType}
use Rattle.storage_layout.specs.declared.library.LibraryPlace.{LibraryPlace}
use Rattle.storage_layout.specs.Frames.{objects_of_frame, base_of_frame}
use Rattle.storage_layout.specs.Layouts.{layouts_of}
use Rattle.storage_layout.specs.Library.{library_places, library_words}
use Rattle.statement_code.specs.Bodies.{body_code}
use Rattle.lower.specs.Context.{Surroundings, bodies_before, home_by, layout_by, names_by, parameter_at, shape_by, site_by}

module _ (p : Program) (library : List (List LibraryPlace)) (copies : List BodyCopy) (layouts : List LaidType) where
  -- the first slot behind the objects of a body in an instance, and behind all slots that its code works in
  abbrev pub base_of : (inst : ℕ) → Subprogram → ℕ
  base_of inst s = base_of_frame p inst (length s.parameters) s.objects

  abbrev pub width_of : (inst : ℕ) → Subprogram → ℕ
  width_of inst s = capped (end_of_block (base_of inst s) s.body)

  -- what its code is made by
  abbrev pub surroundings_in : (inst : ℕ) → Subprogram → Surroundings
  surroundings_in inst s = record {
    program = p;
    instance = inst;
    width = width_of inst s;
    locals = objects_of_frame p inst (length s.parameters) s.objects;
    library = library;
    bodies = copies;
    layouts = layouts;
  }

  abbrev pub code_in : Surroundings → (inst : ℕ) → Subprogram → Code
  code_in c inst s =
      body_code (names_by c) (shape_by c) (home_by c) (site_by c) (layout_by c) (base_of inst s) (is_function (subprogram_of (types_of p.types) s))
      (map (parameter_at c inst) s.parameters) s.body

  abbrev pub body_in : (inst : ℕ) → Subprogram → Body
  body_in inst s = record { code = code_in (surroundings_in inst s) inst s; width = width_of inst s }

  -- the body of a copy; one of no subprogram has no code
  abbrev pub body_by : (inst : ℕ) → Option Subprogram → Body
  body_by inst None = record { code = no_op; width = 1 }
  body_by inst (Some s) = body_in inst s

  abbrev pub body_of_copy : BodyCopy → Body
  body_of_copy c = body_by c.instance.0 (slice_get p.subprograms c.subprogram)

  abbrev pub bodies_of_copies : List BodyCopy → List Body
  bodies_of_copies cs = map body_of_copy cs

abbrev pub kernel_for : Program → List BodyCopy → Kernel
kernel_for p copies = record {
  bodies = bodies_of_copies p (library_places p) copies (layouts_of p).laid copies;
  main = bodies_before 0 p.main copies;
  layouts = (layouts_of p).layouts;
  library = library_words p;
  exceptions = 4 + length p.exceptions;
}
