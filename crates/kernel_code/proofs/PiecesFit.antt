-- The pieces of a kernel within its limits can be placed.
use Rattle.std.proofs.Common.{◌≡◌, ℕ, suc, ◌+◌, ◌≤◌, ◌<◌, List, [], ◌∷◌, ◌++◌, map, length, refl, arith, lit≤, length-append}
use Rattle.std.specs.List.{AllByRecursion}
use Rattle.cov_base.specs.declared.position.DecId.{DecId}
use Rattle.cov_base.specs.Graph.{Edges}
use Rattle.cov_base.specs.Lists.{Everywhere}
use Rattle.assembler.proofs.Codes.{all_append}
use Rattle.kernel_ir.specs.declared.kernel.Body.{Body}
use Rattle.kernel_ir.specs.declared.kernel.Kernel.{Kernel}
use Rattle.kernel_ir.specs.declared.kernel.Layout.{Layout}
use Rattle.kernel_ir.specs.declared.kernel.Layout.TheVariants as layout
use Rattle.kernel_ir.specs.Limits.{most_arguments, CodeFits, LayoutFits, LayoutsFit}
use Rattle.kernel_code.specs.SimpleCode.{call_piece}
use Rattle.kernel_code.specs.Code.{body_lines, start_lines}
use Rattle.kernel_code.specs.FillCode.{layout_lines}
use Rattle.kernel_code.specs.Calls.{first_layout, setting}
use Rattle.kernel_code.specs.Pieces.{body_piece, layout_pieces, kernel_pieces, PiecesCanBePlaced}
use Rattle.kernel_code.proofs.Fitting.{LinesFit}
use Rattle.kernel_code.proofs.CodeFitting.{body_fits, start_fits}
use Rattle.kernel_code.proofs.CodeMarks.{end_of_layout}
use Rattle.kernel_code.proofs.LengthLimits.{body_long, pieces_few}
use Rattle.kernel_code.proofs.PieceLaws.{bodies_long, layouts_long}
use Rattle.kernel_code.proofs.Reaching.{PieceFits, can_be_placed}

-- the calls of a layout's components
calls_fit : (count end first l place n : ℕ) (components : List ℕ) → Everywhere (λ c. c < n) components → first + n ≤ count
    → LinesFit count end place (map (λ component. call_piece (first + component)) components ++ end_of_layout l)
calls_fit count end first l place n [] known all = (tt, (tt, (tt, tt)))
calls_fit count end first l place n (component ∷ components) known all =
    let one = known.0 in
    ((omega arith, refl), calls_fit count end first l (place + 1) n components known.1 all)

layout_fits : (count first l n : ℕ) (x : Layout) → LayoutFits n x → first + n ≤ count
    → LinesFit count (length (layout_lines first l x)) 0 (layout_lines first l x)
layout_fits count first l n (layout.Word x) fits all = (tt, (tt, (tt, (tt, (tt, tt)))))
layout_fits count first l n (layout.Array times component) fits all =
    let one = fits.0 in
    (tt, (tt, (tt, (tt, (tt, (tt, (tt, (tt, ((lit≤ tt, lit≤ tt, lit≤ tt), (tt, (tt, ((omega arith, refl), (lit≤ tt, (tt, (tt, (tt, tt))))))))))))))))
layout_fits count first l n (layout.Record components) fits all =
    (tt, (tt, calls_fit count (length (layout_lines first l (layout.Record components))) first l (0 + 1 + 1) n components fits all))

layouts_fit : (count first l n : ℕ) (xs : List Layout) → LayoutsFit n xs → first + (n + length xs) ≤ count → AllByRecursion (PieceFits count) (layout_pieces first l xs)
layouts_fit count first l n [] fits all = tt
layouts_fit count first l n (x ∷ xs) fits all = (
  record { lines = layout_lines first l x; items = refl; fits = layout_fits count first l n x fits.0 (omega arith) },
  layouts_fit count first (l + 1) (suc n) xs fits.1 (omega arith),
)

bodies_fit : (p : Kernel) (graph : DecId → List Edges) (count : ℕ) → first_layout p + length p.layouts ≤ count
    → (bs : List Body) → Everywhere (λ b. CodeFits p (b.width + most_arguments) graph b.code) bs → AllByRecursion (PieceFits count) (map (body_piece p) bs)
bodies_fit p graph count all [] fits = tt
bodies_fit p graph count all (b ∷ bs) fits =
    let long = body_long (setting p b.width) b.code in (
      record {
        lines = body_lines (setting p b.width) b.code;
        items = refl;
        fits = body_fits p graph (b.width + most_arguments) b.width count (length (body_lines (setting p b.width) b.code)) all b.code fits.0 (omega arith);
      },
      bodies_fit p graph count all bs fits.1,
    )

pub pieces_can_be_placed : PiecesCanBePlaced
pieces_can_be_placed graph p formed within =
    let bodies = map (body_piece p) p.bodies in
    let layouts = layout_pieces (first_layout p) 0 p.layouts in
    let count = length (kernel_pieces p) in
    let long : length (bodies ++ layouts) ≡ length bodies + length layouts = length-append bodies layouts in
    let bodies_are : length bodies ≡ length p.bodies = bodies_long p p.bodies in
    let layouts_are : length layouts ≡ length p.layouts = layouts_long (first_layout p) 0 p.layouts in
    let all : first_layout p + length p.layouts ≤ count = omega arith in
    let few = pieces_few p in
    let limit = within.text in
    can_be_placed (kernel_pieces p) (omega arith) (
      record { lines = start_lines p.main; items = refl; fits = start_fits p graph 0 0 count (length (start_lines p.main)) all formed.main },
      all_append (PieceFits count) bodies layouts (bodies_fit p graph count all p.bodies formed.bodies)
          (layouts_fit count (first_layout p) 0 0 p.layouts formed.layouts (omega arith)),
    )
