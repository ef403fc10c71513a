-- The kernel of a whole program: it holds the body of each subprogram in each instance in which that stands, by its plan.
use Rattle.std.specs.Prelude.{◌≡◌, ℕ, suc, ◌+◌, ◌^◌, ◌<◌, ◌≤◌, nat_eq, ◌&&◌, if◌then◌else◌, Bool, List, [], ◌∷◌, ◌++◌, map, length, sum_by, Some, None, option_map, slice_get, unwrap_or}
use Rattle.cov_base.specs.Lists.{Everywhere}
use Rattle.ada_meaning.specs.Bodies.{Body, bodies_of, IsBody}
use Rattle.ada_meaning.specs.Collected.{block_labels, in_block}
use Rattle.ada_meaning.specs.Program.{out_mode, Subprogram, body_target, Program}
use Rattle.ada_meaning.specs.Resolved.{parameters_of}
use Rattle.ada_meaning.specs.Tree as tree
use Rattle.kernel_ir.specs.declared.kernel.Kernel.{Kernel}
use Rattle.kernel_ir.specs.Layouts.{contents_after}
use Rattle.kernel_ir.specs.Limits.{LayoutsFit, most_words}
use Rattle.kernel_ir.specs.Obligations.{Row, Condition}
use Rattle.kernel_ir.specs.World.{data_word}
use Rattle.statement_code.specs.Fragments.{row_in, conditions_in}
use Rattle.statement_code.specs.Numbers.{ShapeFits, BlockFits}
use Rattle.statement_code.specs.Objects.{Standing}
use Rattle.statement_code.specs.Programs.{Plan, IsKernelOf}
use Rattle.statement_code.specs.Sizes.{subprogram_nodes}
use Rattle.statement_code.specs.Values.{IsComposite}

-- How the kernel of a program is laid out: the numbers of its bodies, by instance and subprogram; the objects of the library level, all of
-- them below a word, and their addresses by instance and declaration; and how each body is laid out.
pub record Scheme : Type 0 where
  pub number : (inst subprogram : ℕ) → ℕ
  pub library : List Standing
  pub address_of : (inst declaration : ℕ) → ℕ
  pub low : ℕ
  pub plan_of : (inst subprogram : ℕ) → Plan

-- the text of the body of a subprogram with this number: what is none has none
abbrev pub text_at : List Subprogram → (subprogram : ℕ) → tree.Block
text_at ss m = unwrap_or (option_map (λ s. s.body) (slice_get ss m)) (tree.block [] tree.no_statement tree.no_handler)

-- how many nodes it has
abbrev pub nodes_at : List Subprogram → (subprogram : ℕ) → ℕ
nodes_at ss m = unwrap_or (option_map subprogram_nodes (slice_get ss m)) 0

-- subprograms that stand in no generic
abbrev pub AreOutside : List Subprogram → Type 0
AreOutside ss = Everywhere (λ s. s.generic ≡ None) ss

-- whether a body is that of a subprogram in an instance, and its first place among bodies
abbrev pub is_body_at : (inst subprogram : ℕ) → Body → Bool
is_body_at j m b = nat_eq b.subprogram m && nat_eq b.instance j

abbrev pub place_of : (inst subprogram : ℕ) → List Body → ℕ
place_of j m [] = 0
place_of j m (b ∷ bs) = if is_body_at j m b then 0 else suc (place_of j m bs)

module _ (p : Program) where
  -- a body of the program, by whether its plan gives a result
  abbrev pub BodyBy : Scheme → Bool → (inst subprogram : ℕ) → Type 0
  BodyBy s function j m = IsBody p (record { instance = j; subprogram = m }) × ((s.plan_of j m).gives ≡ function)

  -- a kernel whose bodies do what the program's do, by a scheme
  abbrev pub IsKernelBy : Kernel → Scheme → Type 0
  IsKernelBy K s = IsKernelOf p K s.number s.library (BodyBy s) s.plan_of s.low

  -- machine code has room for the numbers of a body: its objects have types that fit, its arrays and records have layouts where they get first
  -- values, and the bounds and values in its text are words
  pub record HasRoom (K : Kernel) (plan : Plan) (j m : ℕ) : Type 0 where
    pub types : Everywhere (λ d. ShapeFits (plan.shape_of (tree.local_object d))) plan.locals
    pub filled : Everywhere (λ q. IsComposite q.shape → q.mode ≡ out_mode → plan.layout_of q.declaration < length K.layouts) (parameters_of p (body_target j m))
    pub text : BlockFits p j K plan.shape_of plan.layout_of (text_at p.subprograms m)

  -- A kernel is that of a program, by a scheme: its bodies are the program's, in their order, each by its plan, and what it has beside them is
  -- small enough for machine code.
  pub record IsWhole (K : Kernel) (s : Scheme) : Type 0 where
    pub is_kernel : IsKernelBy K s
    pub many : length K.bodies ≡ length (bodies_of p)
    pub numbered : (n : ℕ) (b : Body) → slice_get (bodies_of p) n ≡ Some b → s.number b.instance b.subprogram ≡ n
    pub room : (j m : ℕ) → IsBody p (record { instance = j; subprogram = m }) → HasRoom K (s.plan_of j m) j m
    pub library : Everywhere (λ o. ShapeFits o.shape × (o.address < data_word + length K.library)) s.library
    pub library_words : Everywhere (λ word. word < 2 ^ 32) K.library
    pub library_few : length K.library ≤ most_words
    pub layouts : LayoutsFit 0 K.layouts
    pub contents : Everywhere (λ c. length c.words ≤ most_words) (contents_after [] K.layouts)
    pub exceptions : K.exceptions ≡ 4 + length p.exceptions
    pub exceptions_few : K.exceptions < 2 ^ 31

  -- the rows of bodies: each statement obligation of their texts, in the order of the text, in their instances
  abbrev pub rows_of : List Body → List Row
  rows_of [] = []
  rows_of (b ∷ bs) = map (row_in b.instance) (block_labels (text_at p.subprograms b.subprogram)) ++ rows_of bs

  -- their conditions: each of those of the decisions in their texts
  abbrev pub conditions_of : List Body → List Condition
  conditions_of [] = []
  conditions_of (b ∷ bs) = conditions_in b.instance (in_block (text_at p.subprograms b.subprogram)) ++ conditions_of bs

  -- the nodes of a program, where those of a generic count for each of its instances
  abbrev pub expanded_nodes : ℕ
  expanded_nodes = sum_by (λ b. nodes_at p.subprograms b.subprogram) (bodies_of p)
