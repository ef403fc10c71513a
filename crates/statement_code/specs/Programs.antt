-- How a kernel is made of a program: where objects stand, and which body is whose code.
use Rattle.std.specs.Prelude.{◌≡◌, ◌<◌, ◌≤◌, ◌⊎◌, ℕ, ◌+◌, ◌*◌, nat_eq, ℤ, Bool, true, false, List, [], ◌∷◌, length, Some, slice_get}
use Rattle.cov_base.specs.Lists.{Everywhere, Somewhere}
use Rattle.ada_meaning.specs.Execution.{library_place, initial}
use Rattle.ada_meaning.specs.Program.{in_mode, Subprogram, body_target, Program}
use Rattle.ada_meaning.specs.Resolved.{ResolvedParameter, owner_in, local_place, parameters_of}
use Rattle.ada_meaning.specs.Shape.{Shape}
use Rattle.ada_meaning.specs.State.{Outcome, Gives, Raises, OutOfFuel}
use Rattle.ada_meaning.specs.Tree as tree
use Rattle.ada_resolved.specs.Sizes.{words}
use Rattle.kernel_ir.specs.declared.kernel.Kernel.{Kernel}
use Rattle.kernel_ir.specs.declared.kernel.Layout.{Layout}
use Rattle.kernel_ir.specs.Layouts.{content_in}
use Rattle.kernel_ir.specs.Limits.{widest}
use Rattle.kernel_ir.specs.Meaning as code
use Rattle.kernel_ir.specs.World.{Ended, Ends, Cut, data_word, area_end}
use Rattle.kernel_ir.specs.World as kernel
use Rattle.frame_widths.specs.Ends.{end_of_block}
use Rattle.statement_code.specs.Names.{names_in}
use Rattle.statement_code.specs.Bodies.{body_code, IsParameterOf}
use Rattle.statement_code.specs.Cells.{Agree}
use Rattle.statement_code.specs.Frames.{Observed}
use Rattle.statement_code.specs.Objects.{Standing, CellsOf, AllApart}
use Rattle.statement_code.specs.Statements.{slot_of, IsInFrame, HasLayout, IsPlainBlock}
use Rattle.statement_code.specs.Stores.{HasWords}
use Rattle.statement_code.specs.Values.{Home, in_frame, in_library, address_at, arguments, IsWord, IsComposite, Site}

-- How a body is laid out: the width of its frame, the first slot that it works in, whether it gives a result, the declarations of its objects,
-- its parameters among them, and for each object its
-- shape, where it stands, and the layout of its first values.
pub record Plan : Type 0 where
  pub width : ℕ
  pub base : ℕ
  pub gives : Bool
  pub locals : List ℕ
  pub shape_of : tree.Object → Shape
  pub home_of : tree.Object → Home
  pub layout_of : ℕ → ℕ

-- the slot of an object of a body, which is that of its first word; the others stand in the slots before it
abbrev pub slot_in_plan : Plan → (declaration : ℕ) → ℕ
slot_in_plan plan d = slot_of (plan.home_of (tree.local_object d))

abbrev pub size_in_plan : Plan → (declaration : ℕ) → ℕ
size_in_plan plan d = words (plan.shape_of (tree.local_object d))

-- an object of a body stands in its frame, below the slots to work in
pub record IsLaid (plan : Plan) (d : ℕ) : Type 0 where
  pub framed : IsInFrame (plan.home_of (tree.local_object d))
  pub fits : size_in_plan plan d ≤ slot_in_plan plan d + 1
  pub low : slot_in_plan plan d < plan.base

-- two objects have no slot in common
abbrev pub AreBeside : Plan → ℕ → ℕ → Type 0
AreBeside plan d e =
    (nat_eq d e ≡ false) × ((slot_in_plan plan d + size_in_plan plan e ≤ slot_in_plan plan e) ⊎ (slot_in_plan plan e + size_in_plan plan d ≤ slot_in_plan plan d))

abbrev pub AreLaid : Plan → List ℕ → Type 0
AreLaid plan [] = Unit {0}
AreLaid plan (d ∷ ds) = IsLaid plan d × (Everywhere (AreBeside plan d) ds × AreLaid plan ds)

-- the objects of a body
abbrev pub IsLocal : Plan → ℕ → Type 0
IsLocal plan d = Somewhere (λ e. e ≡ d) plan.locals

-- an object of an activation of a body, in an instance and at a depth
abbrev pub standing : Plan → (fp inst depth : ℕ) → ℕ → Standing
standing plan fp inst depth d = record {
  place = local_place inst depth d;
  shape = plan.shape_of (tree.local_object d);
  address = address_at fp (plan.home_of (tree.local_object d));
}

-- A parameter with this number, of so many: a scalar one stands in the slot of its number; a composite one behind the slots of all
-- parameters, and nothing stands in the slot of its number.
pub record IsParameterLaid (layouts : List Layout) (plan : Plan) (count : ℕ) (q : ResolvedParameter) (i : ℕ) : Type 0 where
  pub among : IsLocal plan q.declaration
  pub shape : plan.shape_of (tree.local_object q.declaration) ≡ q.shape
  pub scalar : IsWord q.shape → plan.home_of (tree.local_object q.declaration) ≡ in_frame i
  pub composite : IsComposite q.shape → count + words q.shape ≤ slot_in_plan plan q.declaration + 1
  pub bare : IsComposite q.shape → Everywhere (λ d. (slot_in_plan plan d < i) ⊎ (i + size_in_plan plan d ≤ slot_in_plan plan d)) plan.locals
  pub here : i < count
  pub has : HasWords q.shape
  pub layout : HasLayout q.shape (content_in layouts (plan.layout_of q.declaration))

abbrev pub AreParametersLaid : List Layout → Plan → (count : ℕ) → List ResolvedParameter → ℕ → Type 0
AreParametersLaid layouts plan count [] i = Unit {0}
AreParametersLaid layouts plan count (q ∷ qs) i = IsParameterLaid layouts plan count q i × AreParametersLaid layouts plan count qs (i + 1)

-- all parameters have the mode in
abbrev pub AreGiven : List ResolvedParameter → Type 0
AreGiven qs = Everywhere (λ q. q.mode ≡ in_mode) qs

-- where an object of the library level stands
abbrev pub IsHome : Home → (address : ℕ) → Type 0
IsHome (in_frame j) a = ⊥
IsHome (in_library n) a = data_word + n ≡ a

-- the objects of the library level that a body names in an instance
abbrev pub IsOutside : List Standing → Plan → (inst : ℕ) → tree.Object → Type 0
IsOutside library plan inst (tree.local_object d) = ⊥
IsOutside library plan inst (tree.library_object o d) =
    Somewhere (λ s. (s.place ≡ library_place (owner_in inst o) d) × ((s.shape ≡ plan.shape_of (tree.library_object o d)) × IsHome (plan.home_of (tree.library_object o d)) s.address)) library

-- what is visible where a body's block begins
abbrev pub IsSeen : List Standing → Plan → (inst : ℕ) → List ResolvedParameter → tree.Object → Type 0
IsSeen library plan inst qs o = IsOutside library plan inst o ⊎ IsParameterOf plan.shape_of qs o

-- the objects of the library level stand from the first word of the data on, below a word
pub record IsLibrary (library : List Standing) (low : ℕ) : Type 0 where
  pub apart : AllApart library
  pub outside : Everywhere (λ s. (s.place.frame ≡ 0) × ((data_word ≤ s.address) × (s.address + words s.shape ≤ low))) library

module _ (p : Program) (K : Kernel) (number : (inst subprogram : ℕ) → ℕ) (library : List Standing) (Bodies : Bool → ℕ → ℕ → Type 0) where
  abbrev pub site_of : Plan → Site
  site_of plan = record { width = plan.width; body = number }

  -- the code of a subprogram in an instance, by a plan
  pub record IsPlanned (function : Bool) (j m : ℕ) (plan : Plan) : Type 0 where
    pub declared : Subprogram
    pub is_declared : slice_get p.subprograms m ≡ Some declared
    pub is_body : slice_get K.bodies (number j m) ≡ Some (record {
      code = body_code (names_in p j) plan.shape_of plan.home_of (site_of plan) plan.layout_of plan.base plan.gives (parameters_of p (body_target j m)) declared.body;
      width = plan.width;
    })
    pub gives : plan.gives ≡ function
    pub given : function ≡ true → AreGiven (parameters_of p (body_target j m))
    pub laid : AreLaid plan plan.locals
    pub parameters : AreParametersLaid K.layouts plan (length (parameters_of p (body_target j m))) (parameters_of p (body_target j m)) 0
    pub few : length (parameters_of p (body_target j m)) ≤ plan.base
    pub small : plan.base < plan.width
    pub narrow : plan.width + arguments ≤ widest
    pub plain : IsPlainBlock p j plan.shape_of plan.home_of (site_of plan) Bodies plan.layout_of (content_in K.layouts) (IsLocal plan) K.exceptions plan.gives
        (IsSeen library plan j (parameters_of p (body_target j m))) false false declared.body
    pub ends : end_of_block plan.base declared.body ≤ plan.width

  -- the bodies that may be called have plans; the objects of the library level stand below a word, and all frames above it
  pub record IsMade (plan_of : (inst subprogram : ℕ) → Plan) (low : ℕ) : Type 0 where
    pub bodies : (function : Bool) (j m : ℕ) → Bodies function j m → IsPlanned function j m (plan_of j m)
    pub outside : IsLibrary library low
    pub above : data_word ≤ low
    pub room : low + widest * 512 ≤ area_end
    pub predefined : 4 ≤ K.exceptions

-- both end alike, or both are cut off
abbrev pub Same : {A : Type 0} → Outcome A → Ended → Type 0
Same (Gives a w) (Ends v) = Observed 0 w.seen v.seen
Same (Raises x w) (kernel.Raises y v) = (y ≡ x) × Observed 0 w.seen v.seen
Same (OutOfFuel w) (Cut v) = Observed 0 w.seen v.seen
Same r e = ⊥

-- A kernel is that of a program: its bodies are made by plans, main is a procedure without parameters, and the library's words are as the
-- program begins.
pub record IsKernelOf (p : Program) (K : Kernel) (number : (inst subprogram : ℕ) → ℕ) (library : List Standing) (Bodies : Bool → ℕ → ℕ → Type 0) (plan_of : (inst subprogram : ℕ) → Plan)
    (low : ℕ) : Type 0 where
  pub made : IsMade p K number library Bodies plan_of low
  pub main_is : K.main ≡ number 0 p.main
  pub main_body : Bodies false 0 p.main
  pub no_parameter : parameters_of p (body_target 0 p.main) ≡ []
  pub begins : (input : List ℤ) → Agree (CellsOf library) (initial p input).store (code.begin K input).memory
