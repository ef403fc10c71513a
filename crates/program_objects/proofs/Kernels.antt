-- A whole kernel is one of its program, and its image one of the program.
use Rattle.std.proofs.Common.{◌≡◌, ℕ, ◌+◌, ◌≤◌, List, length, map, Result, Ok, Err, IfOk, OnOk, sym, ap, ◌∙◌, subst, arith, length-append}
use Rattle.std.proofs.lemmas.List.{length-map}
use Rattle.std.specs.declared.alloc.AllocError.{AllocError}
use Rattle.ada_meaning.specs.Obligations.{obligations_of, predefined_names, ordered_exceptions, ListedException}
use Rattle.ada_meaning.specs.Execution as source
use Rattle.ada_meaning.specs.Program.{Program}
use Rattle.ada_tree.specs.declared.program.Program.{Program as TypedProgram}
use Rattle.ada_tree.specs.Programs.{program_of}
use Rattle.assembler.specs.Reach.{AreItems}
use Rattle.assembler.specs.declared.piece.Piece.{Piece}
use Rattle.program_objects.specs.Held.{HoldsImage}
use Rattle.program_objects.specs.Kernels.{CanBeLaid, IsImageOf, IsKernelOf, nodes_of}
use Rattle.program_objects.specs.Made.{IsCompilable}
use Rattle.cov_base.specs.declared.obligations.Obligations.{Obligations}
use Rattle.cov_base.specs.declared.obligations.Region.{Region}
use Rattle.cov_base.specs.Lists.{Everywhere}
use Rattle.generic_expand.specs.Expanded.{copies_of}
use Rattle.generic_expand.specs.Limits.{types_weight}
use Rattle.kernel_code.specs.Pieces.{kernel_pieces}
use Rattle.kernel_ir.specs.declared.kernel.Kernel.{Kernel}
use Rattle.linker.specs.Linked.{linked, AreWithin}
use Rattle.linker.specs.declared.image.Image.{Image}
use Rattle.object_format.specs.declared.object.Object.{Object}
use Rattle.lower.specs.Kernel.{kernel_for}
use Rattle.lower.specs.Schemes.{scheme_for}
use Rattle.lower.proofs.LaidKernel.{kernel_law as laid_law}
use Rattle.lower.proofs.LaidSizes.{covered_law}
use Rattle.statement_code.specs.Copies.{AreCovered}
use Rattle.statement_code.specs.Kernels.{expanded_nodes, IsWhole, Scheme}
use Rattle.statement_code.proofs.AllFuels.{kernel_law}
use Rattle.statement_code.proofs.Kernels.{bytes_law, conditions_law, rows_law, well_formed_law, within_law}
use Rattle.statement_code.proofs.Laid.{whole_law}
use Rattle.storage_layout.specs.Layouts.{HasWord}
use Rattle.statement_code.proofs.Own.{own_law}

-- a whole kernel of a program that can be compiled, with layouts of types that weigh so much
pub whole_kernel : (p : Program) (k : Kernel) (s : Scheme) (types : ℕ) → IsCompilable p → IsWhole p k s → AreCovered k.layouts types → expanded_nodes p + types ≤ 4096
    → IsKernelOf p (expanded_nodes p + types) k
unfolding source.deepest
whole_kernel p k s types able whole covered few =
    record {
      does = kernel_law p k s whole.is_kernel;
      formed = λ graph graphs. well_formed_law p k s whole graph (own_law p able.numbered graph graphs able.few_conditions);
      rows = rows_law p k s whole;
      conditions = conditions_law p k s whole;
      exceptions = let e = whole.exceptions in omega (arith, e);
      within = within_law p k s whole types covered few;
      short = bytes_law p k s whole types covered (expanded_nodes p + types) (omega arith);
      few = few;
    }

pub laid_kernel : (t : TypedProgram) (k : Kernel) → IsCompilable (program_of t) → CanBeLaid t → k ≡ kernel_for t (copies_of (program_of t)) → Everywhere HasWord k.layouts
    → IsKernelOf (program_of t) (nodes_of t) k
laid_kernel t k able laid is words =
    let p = program_of t in
    let made = kernel_for t (copies_of (program_of t)) in
    let whole = whole_law p made (scheme_for t (copies_of (program_of t))) laid.well
    (laid_law t laid.well laid.named laid.limits (subst (λ (x : Kernel). Everywhere HasWord x.layouts) is words)) in
    subst (IsKernelOf p (nodes_of t)) (sym is)
    (whole_kernel p made (scheme_for t (copies_of (program_of t))) (types_weight t) able whole (covered_law t) laid.light)

-- the words of the library level lie within memory
pub library_fits : (p : Program) (nodes : ℕ) (k : Kernel) (words : List ℕ) → IsKernelOf p nodes k → words ≡ k.library → AreWithin words
library_fits p nodes k words is are = let few = is.within.library in subst AreWithin (sym are) (omega (arith, few))

-- the linked pieces of a kernel of a program are an image of the program
pub image_law : (p : Program) (nodes : ℕ) (k : Kernel) (pieces : List Piece) (words : List ℕ) (answer : Result Image AllocError) → IsKernelOf p nodes k
    → pieces ≡ kernel_pieces k → words ≡ k.library → IfOk answer (λ image. image ≡ linked pieces words) → OnOk answer (AreItems pieces) → IfOk answer (IsImageOf p nodes)
image_law p nodes k pieces words (Ok image) is are library image_is items = record {
  kernel = k;
  is_kernel = is;
  linked = image_is ∙ (ap (λ (ps : List Piece). linked ps words) are ∙ ap (linked (kernel_pieces k)) library);
  items = subst (λ (ps : List Piece). AreItems ps) are items;
}
image_law p nodes k pieces words (Err e) is are library image_is items = tt

-- an object of an image of a program holds its kernel's image
exceptions_listed : (p : Program) (regions : List Region) → IsCompilable p → length (obligations_of p regions).exceptions ≡ 4 + length p.exceptions
exceptions_listed p regions able =
    length-append predefined_names (map (λ (x : ListedException). x.name) (ordered_exceptions p))
    ∙ ap (λ (n : ℕ). 4 + n) (length-map (ordered_exceptions p) (λ (x : ListedException). x.name)
    ∙ (sym (length-map (ordered_exceptions p) (λ (x : ListedException). x.entry)) ∙ ap length (sym able.numbered.exceptions)))

pub holds_law : (p : Program) (nodes : ℕ) (regions : List Region) (o : Object) (image : Image) → IsCompilable p → (is : IsImageOf p nodes image) → o.entry ≡ image.entry → o.text ≡ image.text → o.init_at ≡ image.init_at → o.init ≡ image.init
    → o.rows ≡ image.rows → o.roles ≡ image.roles → o.obligations ≡ obligations_of p regions → HoldsImage is.kernel o
holds_law p nodes regions o image able is entry text at init rows roles obligations = record {
  items = is.items;
  text = text ∙ ap (λ (i : Image). i.text) is.linked;
  entry = entry ∙ ap (λ (i : Image). i.entry) is.linked;
  init_at = at ∙ ap (λ (i : Image). i.init_at) is.linked;
  init = init ∙ ap (λ (i : Image). i.init) is.linked;
  rows = rows ∙ ap (λ (i : Image). i.rows) is.linked;
  roles = roles ∙ ap (λ (i : Image). i.roles) is.linked;
  exceptions =
      let few = is.is_kernel.exceptions in
      let listed = ap (λ (ob : Obligations). length ob.exceptions) obligations ∙ exceptions_listed p regions able in
      omega (arith, few, listed);
}
