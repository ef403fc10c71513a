-- A body is made of what its frame, its width and its kind are.
use Rattle.std.proofs.Common.{◌≡◌, ℕ, Bool, List, length, map, ap, ◌∙◌}
use Rattle.ada_meaning.specs.Declared.{is_function}
use Rattle.ada_tree.specs.declared.program.Parameter.{Parameter}
use Rattle.ada_tree.specs.declared.program.Program.{Program}
use Rattle.ada_tree.specs.declared.program.Subprogram.{Subprogram}
use Rattle.ada_tree.specs.declared.types.Subtype.{Subtype}
use Rattle.ada_tree.specs.Objects.{capped}
use Rattle.ada_tree.specs.Programs.{subprogram_of, types_of}
use Rattle.frame_widths.specs.Ends.{end_of_block}
use Rattle.generic_expand.specs.declared.copies.BodyCopy.{BodyCopy}
use Rattle.kernel_ir.specs.declared.kernel.Body.{Body}
use Rattle.kernel_ir.specs.Sequence.{joined}
use Rattle.kernel_ir.specs.Tree.{Code, no_op}
use Rattle.statement_code.specs.Bodies.{body_code}
use Rattle.storage_layout.specs.declared.frames.LocalObject.{LocalObject}
use Rattle.storage_layout.specs.declared.layouts.LaidType.{LaidType}
use Rattle.storage_layout.specs.declared.library.LibraryPlace.{LibraryPlace}
use Rattle.storage_layout.specs.Frames.{objects_of_frame, base_of_frame}
use Rattle.lower.specs.Context.{Surroundings, home_by, layout_by, names_by, parameter_at, shape_by, site_by}
use Rattle.lower.specs.Kernel.{body_in}

module _ (p : Program) (library : List (List LibraryPlace)) (copies : List BodyCopy) (layouts : List LaidType) (inst : ℕ) (s : Subprogram) where
  -- what code is made by, of a frame with these objects and this width
  abbrev pub around : List LocalObject → (width : ℕ) → Surroundings
  around locals width =
      record { program = p; instance = inst; width = width; locals = locals; library = library; bodies = copies; layouts = layouts }

  abbrev pub code_around : Surroundings → (base : ℕ) → Bool → List Parameter → Code
  code_around c base gives qs =
      body_code (names_by c) (shape_by c) (home_by c) (site_by c) (layout_by c) base gives (map (parameter_at c inst) qs) s.body

  pub body_made : (qs : List Parameter) (ts : List Subtype) (objects locals : List LocalObject) (base width : ℕ) (gives : Bool) (begun code : Code)
      → qs ≡ s.parameters → ts ≡ s.objects → objects ≡ objects_of_frame p inst (length qs) ts → locals ≡ objects → base ≡ base_of_frame p inst (length qs) ts
      → width ≡ capped (end_of_block base s.body) → gives ≡ is_function (subprogram_of (types_of p.types) s) → begun ≡ no_op
      → code ≡ joined begun (code_around (around locals width) base gives qs)
      → ◌≡◌ {A = Body} (record { code = code; width = width }) (body_in p library copies layouts inst s)
  body_made qs ts objects locals base width gives begun code qs_is ts_is objects_is locals_is base_is width_is gives_is begun_is code_is =
      let base_all : base ≡ base_of_frame p inst (length s.parameters) s.objects = base_is ∙ (λ i. base_of_frame p inst (length (qs_is i)) (ts_is i)) in
      let width_all : width ≡ capped (end_of_block (base_of_frame p inst (length s.parameters) s.objects) s.body) =
      width_is ∙ ap (λ (b : ℕ). capped (end_of_block b s.body)) base_all in
      let locals_all : locals ≡ objects_of_frame p inst (length s.parameters) s.objects =
      locals_is ∙ (objects_is ∙ (λ i. objects_of_frame p inst (length (qs_is i)) (ts_is i))) in
      (λ i. record { code = (code_is ∙ ap (λ (b : Code). joined b (code_around (around locals width) base gives qs)) begun_is) i; width = width })
      ∙ (λ i. record { code = code_around (around (locals_all i) (width_all i)) (base_all i) (gives_is i) (qs_is i); width = width_all i })
