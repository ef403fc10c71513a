-- The object that holds the linked pieces of a program's kernel behaves as the program.
use Rattle.std.proofs.Common.{◌≡◌, ℕ, ℤ, List, find, option_map, refl, ap, ◌∙◌, ◌==◌}
use Rattle.std.specs.Option.{option_and_then}
use Rattle.ada_meaning.specs.Program.{Program}
use Rattle.assembler.specs.Laws.{ArePlaced}
use Rattle.assembler.specs.Placed.{address_of, labels}
use Rattle.program_objects.specs.Behaves.{Behaves, EndsInTime}
use Rattle.program_objects.specs.Held.{HoldsImage}
use Rattle.program_objects.proofs.Behaving.{behaves, ends_in_time}
use Rattle.ada_meaning.specs.Collected.{decisions_of}
use Rattle.program_objects.proofs.DecisionEntries.{object_graphs}
use Rattle.program_objects.proofs.Kept.{rows_kept, conditions_kept}
use Rattle.program_objects.proofs.Placing.{numbers_law}
use Rattle.program_objects.proofs.Sound.{decisions_are}
use Rattle.program_objects.specs.Made.{IsCompilable, IsMadeOf}
use Rattle.decision_map.specs.Roles as map
use Rattle.kernel_code.proofs.Implements.{code_implements}
use Rattle.kernel_code.proofs.PieceLaws.{pieces_are_marked}
use Rattle.kernel_code.proofs.PiecesFit.{pieces_can_be_placed}
use Rattle.kernel_code.proofs.Stands.{placed_kernels_hold}
use Rattle.kernel_code.proofs.Whole.{code_follows_law}
use Rattle.kernel_code.specs.Implements.{Implements}
use Rattle.kernel_code.specs.Line.{Site}
use Rattle.kernel_code.specs.Pieces.{kernel_pieces}
use Rattle.kernel_code.specs.Standing.{HaveMarks, site_of}
use Rattle.kernel_code.specs.Whole.{run_on}
use Rattle.kernel_ir.specs.declared.kernel.Kernel.{Kernel}
use Rattle.line_table.specs.declared.roles.Role.{Role}
use Rattle.line_table.specs.declared.rows.Row.{Row as Line}
use Rattle.linker.proofs.RoleMarks.{roles_are_found}
use Rattle.linker.proofs.RowMarks.{rows_are_found}
use Rattle.linker.specs.Linked.{linked}
use Rattle.object_facts.proofs.Fair.{fair}
use Rattle.object_facts.specs.Object.{facts_of, row_of, condition_of}
use Rattle.object_format.specs.Checked.{IsSound}
use Rattle.object_format.specs.declared.object.Object.{Object}
use Rattle.rv_machine.specs.Objects.{object_image, object_run}
use Rattle.rv_semantics.specs.Layout.{data_start}
use Rattle.rv_semantics.specs.Run.{runs}
use Rattle.rv_semantics.specs.State.{start}

-- the marks of placed pieces are what the object says of the items' addresses
marks_are_kept : (o : Object) (k : Kernel) → o.rows ≡ (linked (kernel_pieces k) k.library).rows → o.roles ≡ (linked (kernel_pieces k) k.library).roles → HaveMarks (facts_of o) (kernel_pieces k)
marks_are_kept o k rows roles = record {
  rows = λ n piece j there within.
      ap (λ (lines : List Line). option_map row_of (find (λ (line : Line). line.address == address_of (labels (kernel_pieces k)) n j) lines)) rows
      ∙ ap (option_map row_of) (rows_are_found (kernel_pieces k) k.library n piece j (pieces_are_marked k).marks there within)
      ∙ rows_kept (address_of (labels (kernel_pieces k)) n j) j piece.marks;
  conditions = λ n piece j there within.
      ap (λ (rs : List Role). option_map condition_of (option_and_then map.condition_of (find (λ role. role.address == address_of (labels (kernel_pieces k)) n j) rs))) roles
      ∙ ap (λ r. option_map condition_of (option_and_then map.condition_of r)) (roles_are_found (kernel_pieces k) k.library n piece j (pieces_are_marked k).marks there within)
      ∙ conditions_kept (address_of (labels (kernel_pieces k)) n j) j piece.marks;
}

-- the site of an object
abbrev site_in : Object → Kernel → Site
site_in o k = site_of (object_image o) (facts_of o) (kernel_pieces k)

-- what stands at the site of an object that holds the image implements the kernel
implements : (p : Program) (o : Object) → IsCompilable p → (made : IsMadeOf p o) → IsSound o → Implements (site_in o made.kernel) made.kernel
implements p o able made sound =
    let k = made.kernel in
    let pieces = kernel_pieces k in
    let graph = (facts_of o).graph in
    let hs = decisions_of p.subprograms in
    let formed = made.is_kernel.formed graph (object_graphs o hs (decisions_are p o able made) able.few_conditions able.once (numbers_law p able)) in
    let within = made.is_kernel.within in
    let holds = made.holds in
    let placeable = pieces_can_be_placed graph k formed within in
    let placed : ArePlaced (object_image o) pieces = record { text = holds.text; items = holds.items; in_reach = placeable.in_reach; in_time = placeable.in_time } in
    code_implements code_follows_law (site_in o k) k
    (placed_kernels_hold (object_image o) (facts_of o) pieces k placed (marks_are_kept o k holds.rows holds.roles) (pieces_are_marked k).have (fair o sound) holds.exceptions) formed within

-- the machine of an object that holds the image of a program's kernel is the kernel's
same_run : (k : Kernel) (o : Object) → HoldsImage k o → (budget : ℕ) (input : List ℤ) → object_run o budget input ≡ run_on (site_in o k) k input budget
same_run k o holds budget input =
    ap (λ entry. runs (object_image o) budget (start (object_image o) entry o.init_at o.init) input) holds.entry
    ∙ ap (λ at. runs (object_image o) budget (start (object_image o) (address_of (labels (kernel_pieces k)) 0 0) at o.init) input) holds.init_at
    ∙ ap (λ words. runs (object_image o) budget (start (object_image o) (address_of (labels (kernel_pieces k)) 0 0) data_start words) input) holds.init

pub image_behaves : (p : Program) (o : Object) → IsCompilable p → IsMadeOf p o → IsSound o → Behaves p o
image_behaves p o able made sound =
    behaves p made.kernel made.is_kernel.does o (site_in o made.kernel) (implements p o able made sound) refl (same_run made.kernel o made.holds)

pub image_ends_in_time : (p : Program) (o : Object) → IsCompilable p → IsMadeOf p o → IsSound o → EndsInTime p o
image_ends_in_time p o able made sound =
    ends_in_time p made.kernel made.is_kernel.does o (site_in o made.kernel) (implements p o able made sound) refl (same_run made.kernel o made.holds)
