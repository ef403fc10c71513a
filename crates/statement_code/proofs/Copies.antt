-- Bodies are copies of their texts, and a kernel of copies is well-formed and small.
use Rattle.std.proofs.Common.{◌≡◌, ℕ, suc, ◌+◌, ◌*◌, ◌^◌, ◌<◌, ◌≤◌, Bool, true, false, List, [], ◌∷◌, ◌++◌, map, length, sum_by, refl, sym, ap, subst, ◌∙◌, arith}
use Rattle.std.proofs.lemmas.List.{append-nil}
use Rattle.std.proofs.lemmas.List.Sums.{sum_by-cons, sum_by-append}
use Rattle.cov_base.specs.declared.position.DecId.{DecId}
use Rattle.cov_base.specs.Graph as logic
use Rattle.cov_base.specs.Graph.{Edges}
use Rattle.cov_base.specs.Lists.{Everywhere}
use Rattle.ada_meaning.specs.Collected.{Decision}
use Rattle.ada_meaning.specs.Obligations.{numbers}
use Rattle.ada_meaning.specs.Program.{Mode, in_mode, out_mode, in_out_mode}
use Rattle.ada_meaning.specs.Resolved.{ResolvedParameter}
use Rattle.ada_meaning.specs.Shape.{Shape, word, row, group}
use Rattle.ada_meaning.specs.Tree as tree
use Rattle.ada_resolved.specs.Sizes.{words}
use Rattle.kernel_ir.specs.declared.kernel.Kernel.{Kernel}
use Rattle.kernel_ir.specs.declared.kernel.Layout.{Layout}
use Rattle.kernel_ir.specs.declared.kernel.Layout.TheVariants as layout
use Rattle.kernel_ir.specs.declared.simple.Simple.TheVariants as op
use Rattle.kernel_ir.specs.Layouts.{contents_after}
use Rattle.kernel_ir.specs.Limits.{CodeFits, LayoutsFit, IsWellFormed, IsWithin, body_instructions, layout_instructions, kernel_instructions, most_arguments, most_words, widest}
use Rattle.kernel_ir.specs.Obligations.{Condition, rows, conditions, code_conditions, body_rows, body_conditions}
use Rattle.kernel_ir.specs.Sequence.{joined}
use Rattle.kernel_ir.specs.Tree.{Code}
use Rattle.statement_code.specs.Bodies.{parameter_in, scalar_parameter, composite_parameter, parameter_code, parameters_code, ending_code}
use Rattle.statement_code.specs.Copies.{Copy, IsCopy, rows_in, all_conditions_in, nodes_in, layouts_nodes, AreCovered}
use Rattle.statement_code.specs.Numbers.{ShapeFits, HomeFits, ParameterFits}
use Rattle.statement_code.specs.Fragments.{HaveOthers, AreOwn, row_in, conditions_in}
use Rattle.statement_code.specs.Sizes.{node_instructions}
use Rattle.statement_code.specs.Values.{one, Home, IsComposite}
use Rattle.statement_code.proofs.Numbers as number
use Rattle.statement_code.proofs.Numbers.{words_few}
use Rattle.statement_code.proofs.Fragments.{Is, shorter, listed, nothing, both, before, last}

-- decisions that are numbered from n on have numbers of their own
abbrev first_or : ℕ → List ℕ → ℕ
first_or d [] = d
first_or d (x ∷ xs) = x

abbrev others_of : List ℕ → List ℕ
others_of [] = []
others_of (x ∷ xs) = xs

numbered_others : (hs : List Decision) (n m : ℕ) → map (λ h. h.label.number) hs ≡ numbers n (length hs) → m < n → HaveOthers m hs
numbered_others [] n m numbered lt = tt
numbered_others (h ∷ hs) n m numbered lt =
    let is : h.label.number ≡ n = ap (first_or 0) numbered in
    (λ same. omega (arith, same, is, lt), numbered_others hs (suc n) m (ap others_of numbered) (omega (arith, lt)))

pub numbered_own : (graph : DecId → List Edges) (hs : List Decision) (n : ℕ)
    → Everywhere (λ h. graph (record { 0 = h.label.number }) ≡ logic.graph (tree.shape_of h.test)) hs
    → map (λ h. h.label.number) hs ≡ numbers n (length hs)
    → Everywhere (λ h. tree.conditions_of h.test ≤ 32) hs → AreOwn graph hs
numbered_own graph [] n own numbered few = tt
numbered_own graph (h ∷ hs) n own numbered few =
    let is : h.label.number ≡ n = ap (first_or 0) numbered in
    (own.0, (few.0, (numbered_others hs (suc n) h.label.number (ap others_of numbered) (omega (arith, is)), numbered_own graph hs (suc n) own.1 (ap others_of numbered) few.1)))

-- what a body is entered with, and how it ends
module _ (K : Kernel) (width : ℕ) (graph : DecId → List Edges) (inst : ℕ) (home_of : tree.Object → Home) (layout_of : (declaration : ℕ) → ℕ) where
  abbrev slots : ℕ
  slots = width + most_arguments

  abbrev Like : (more most : ℕ) → Code → Type 0
  Like more most a = Is K slots graph inst false [] [] more most a

  composite_like : (k i : ℕ) (q : ResolvedParameter) (m : Mode) → q.mode ≡ m → k < slots → i < slots → ShapeFits q.shape → HomeFits width K (home_of (tree.local_object q.declaration))
      → (q.mode ≡ out_mode → layout_of q.declaration < length K.layouts) → Like 0 47 (composite_parameter home_of layout_of k i q)
  composite_like k i q m is lt there shaped fits filled =
      shorter K slots graph inst 0 47 (omega arith)
      (number.address_before K width graph inst k (home_of (tree.local_object q.declaration)) fits lt
      (by_mode m is (last K slots graph inst false (op.Move i k) refl (there, lt))))
    where
      by_mode : {a : Code} {n : ℕ} (m : Mode) → q.mode ≡ m → Like 0 n a → Like 0 (34 + n) (joined (one (parameter_in k i q.mode (words q.shape) (layout_of q.declaration))) a)
      by_mode {a = a} {n = n} in_mode is h =
          subst (λ x. Like 0 (34 + n) (joined (one (parameter_in k i x (words q.shape) (layout_of q.declaration))) a)) (sym is)
          (before K slots graph inst (op.Copy k i (words q.shape)) refl (lt, there, words_few q.shape shaped) h)
      by_mode {a = a} {n = n} in_out_mode is h =
          subst (λ x. Like 0 (34 + n) (joined (one (parameter_in k i x (words q.shape) (layout_of q.declaration))) a)) (sym is)
          (before K slots graph inst (op.Copy k i (words q.shape)) refl (lt, there, words_few q.shape shaped) h)
      by_mode {a = a} {n = n} out_mode is h =
          subst (λ x. Like 0 (34 + n) (joined (one (parameter_in k i x (words q.shape) (layout_of q.declaration))) a)) (sym is)
          (shorter K slots graph inst 0 (34 + n) (omega arith) (before K slots graph inst (op.Fill k (layout_of q.declaration)) refl (lt, filled is) h))

  scalar_like : {a : Code} {n : ℕ} (i : ℕ) (m : Mode) → Like 0 n a → Like 0 n (scalar_parameter i m a)
  scalar_like i out_mode h = h
  scalar_like {n = n} i in_mode h = shorter K slots graph inst 0 n (omega arith) (nothing K slots graph inst false)
  scalar_like {n = n} i in_out_mode h = shorter K slots graph inst 0 n (omega arith) (nothing K slots graph inst false)

  parameter_like : (k i : ℕ) (q : ResolvedParameter) (s : Shape) → q.shape ≡ s → k < slots → i < slots → ParameterFits width K home_of layout_of q
      → Like 0 47 (parameter_code home_of layout_of k i q s)
  parameter_like k i q (word b) is lt there stands =
      let fits : ShapeFits (word b) = subst ShapeFits is stands.0 in
      shorter K slots graph inst 0 47 (omega arith) (scalar_like i q.mode (last K slots graph inst false (op.Number i b.low) refl (there, fits.0)))
  parameter_like k i q (row b s) is lt there stands =
      let composite = stands.1 (subst IsComposite (sym is) tt) in composite_like k i q q.mode refl lt there stands.0 composite.0 composite.1
  parameter_like k i q (group ss) is lt there stands =
      let composite = stands.1 (subst IsComposite (sym is) tt) in composite_like k i q q.mode refl lt there stands.0 composite.0 composite.1

  parameters_like : (qs : List ResolvedParameter) (k i : ℕ) → k < slots → i + length qs ≤ slots → Everywhere (ParameterFits width K home_of layout_of) qs
      → Like 0 (47 * length qs) (parameters_code home_of layout_of k i qs)
  parameters_like [] k i lt few stand = nothing K slots graph inst false
  parameters_like (q ∷ qs) k i lt few stand =
      shorter K slots graph inst 0 (47 * suc (length qs)) (omega arith)
      (both K slots graph inst (parameter_like k i q q.shape refl lt (omega (arith, few)) stand.0) (parameters_like qs k (i + 1) lt (omega (arith, few)) stand.1))

  ending_like : (gives : Bool) → 4 ≤ K.exceptions → Like 0 3 (ending_code gives)
  ending_like false some = shorter K slots graph inst 0 3 (omega arith) (nothing K slots graph inst false)
  ending_like true some = last K slots graph inst false (op.Raise 2) refl (omega arith, omega (arith, some))

  -- A body is a copy: it has a node for itself and for each parameter beside those of its block.
  pub body_like : {ls : List tree.Label} {hs : List Decision} {a : Code} (n : ℕ) (qs : List ResolvedParameter) (gives : Bool) (k : ℕ) → k < slots → length qs ≤ slots
      → Everywhere (ParameterFits width K home_of layout_of) qs → 4 ≤ K.exceptions → Is K slots graph inst false ls hs 0 (node_instructions * n) a
      → Is K slots graph inst false ls hs 8 (node_instructions * suc (length qs + n)) (joined (parameters_code home_of layout_of k 0 qs) (joined a (ending_code gives)))
  body_like {ls = ls} {hs = hs} n qs gives k lt few stand some h =
      shorter K slots graph inst 8 (node_instructions * suc (length qs + n)) (omega arith)
      (both K slots graph inst (parameters_like qs k 0 lt (omega (arith, few)) stand)
      (listed K slots graph inst (append-nil ls) (append-nil hs) (both K slots graph inst h (ending_like gives some))))

-- the rows, the conditions and the length of copies
copies_rows : (K : Kernel) (graph : DecId → List Edges) (cs : List Copy) → Everywhere (IsCopy K graph) cs → body_rows (map (λ c. c.body) cs) ≡ rows_in cs
copies_rows K graph [] are = refl
copies_rows K graph (c ∷ cs) are =
    ap (λ rs. rs ++ body_rows (map (λ d. d.body) cs)) are.0.rows ∙ ap (λ rs. map (row_in c.inst) c.labels ++ rs) (copies_rows K graph cs are.1)

copies_conditions : (K : Kernel) (graph : DecId → List Edges) (cs : List Copy) → Everywhere (IsCopy K graph) cs → (weight : Condition → ℕ)
    → sum_by weight (body_conditions (map (λ c. c.body) cs)) ≡ sum_by weight (all_conditions_in cs)
copies_conditions K graph [] are weight = refl
copies_conditions K graph (c ∷ cs) are weight =
    omega (
      arith,
      sum_by-append weight (code_conditions c.body.code) (body_conditions (map (λ d. d.body) cs)),
      sum_by-append weight (conditions_in c.inst c.decisions) (all_conditions_in cs),
      are.0.conditions weight,
      copies_conditions K graph cs are.1 weight,
    )

copies_short : (K : Kernel) (graph : DecId → List Edges) (cs : List Copy) → Everywhere (IsCopy K graph) cs
    → sum_by body_instructions (map (λ c. c.body) cs) ≤ node_instructions * nodes_in cs
copies_short K graph [] are = omega arith
copies_short K graph (c ∷ cs) are =
    omega (arith, sum_by-cons body_instructions c.body (map (λ d. d.body) cs), are.0.size, copies_short K graph cs are.1)

layouts_short : (ls : List Layout) → sum_by layout_instructions ls ≤ node_instructions * layouts_nodes ls
layouts_short [] = omega arith
layouts_short (layout.Word x ∷ ls) = omega (arith, sum_by-cons layout_instructions (layout.Word x) ls, layouts_short ls)
layouts_short (layout.Array times component ∷ ls) = omega (arith, sum_by-cons layout_instructions (layout.Array times component) ls, layouts_short ls)
layouts_short (layout.Record components ∷ ls) = omega (arith, sum_by-cons layout_instructions (layout.Record components) ls, layouts_short ls)

layouts_few : (ls : List Layout) → length ls ≤ layouts_nodes ls
layouts_few [] = omega arith
layouts_few (layout.Word x ∷ ls) = omega (arith, layouts_few ls)
layouts_few (layout.Array times component ∷ ls) = omega (arith, layouts_few ls)
layouts_few (layout.Record components ∷ ls) = omega (arith, layouts_few ls)

pub layouts_law : (ls : List Layout) → AreCovered ls (layouts_nodes ls)
layouts_law ls = record { few = layouts_few ls; short = layouts_short ls }

copies_fit : (K : Kernel) (graph : DecId → List Edges) (cs : List Copy) → Everywhere (IsCopy K graph) cs → Everywhere (λ c. AreOwn graph c.decisions) cs
    → Everywhere (λ b. CodeFits K (b.width + most_arguments) graph b.code) (map (λ c. c.body) cs)
copies_fit K graph [] are own = tt
copies_fit K graph (c ∷ cs) are own = (are.0.fits own.0, copies_fit K graph cs are.1 own.1)

-- a kernel whose bodies are copies
module _ (K : Kernel) (graph : DecId → List Edges) (cs : List Copy) (is : K.bodies ≡ map (λ c. c.body) cs) (are : Everywhere (IsCopy K graph) cs) where
  pub rows_law : rows K ≡ rows_in cs
  rows_law = ap body_rows is ∙ copies_rows K graph cs are

  pub conditions_law : (weight : Condition → ℕ) → sum_by weight (conditions K) ≡ sum_by weight (all_conditions_in cs)
  conditions_law weight = ap (λ bs. sum_by weight (body_conditions bs)) is ∙ copies_conditions K graph cs are weight

  pub well_formed_law : Everywhere (λ c. AreOwn graph c.decisions) cs → K.main < length K.bodies → LayoutsFit 0 K.layouts → Everywhere (λ word. word < 2 ^ 32) K.library
      → 4 ≤ K.exceptions → K.exceptions < 2 ^ 31 → IsWellFormed graph K
  well_formed_law own main layouts library predefined exceptions = record {
    bodies = subst (λ bs. Everywhere (λ b. CodeFits K (b.width + most_arguments) graph b.code) bs) (sym is) (copies_fit K graph cs are own);
    main = main;
    layouts = layouts;
    library = library;
    predefined = predefined;
    exceptions = exceptions;
  }

  pub short_law : (nodes : ℕ) → AreCovered K.layouts nodes → kernel_instructions K ≤ node_instructions * (nodes_in cs + nodes) + 16
  short_law nodes covered = let short = covered.short in omega (arith, ap (sum_by body_instructions) is, copies_short K graph cs are, short)

  -- that many bytes
  pub bytes_law : (nodes : ℕ) → AreCovered K.layouts nodes → (n : ℕ) → nodes_in cs + nodes ≤ n → 4 * kernel_instructions K ≤ 240 * n + 4096
  bytes_law nodes covered n few = omega (arith, short_law nodes covered, few)

  pub within_law : (nodes : ℕ) → AreCovered K.layouts nodes → nodes_in cs + nodes ≤ 4096 → Everywhere (λ c. (1 ≤ c.body.width) × (c.body.width + most_arguments ≤ widest)) cs
      → length K.library ≤ most_words → Everywhere (λ c. length c.words ≤ most_words) (contents_after [] K.layouts) → IsWithin K
  within_law nodes covered few wide library contents = record {
    widths = subst (λ bs. Everywhere (λ b. (1 ≤ b.width) × (b.width + most_arguments ≤ widest)) bs) (sym is) (widths cs wide);
    library = library;
    layouts = let many = covered.few in omega (arith, many, few);
    contents = contents;
    text = omega (arith, short_law nodes covered, few);
  }
    where
      widths : (ds : List Copy) → Everywhere (λ c. (1 ≤ c.body.width) × (c.body.width + most_arguments ≤ widest)) ds
          → Everywhere (λ b. (1 ≤ b.width) × (b.width + most_arguments ≤ widest)) (map (λ c. c.body) ds)
      widths [] h = tt
      widths (d ∷ ds) h = (h.0, widths ds h.1)
