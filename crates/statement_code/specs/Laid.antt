-- How the kernel of a well-formed program is laid out: what code generation has to show beside that its bodies are their code.
use Rattle.std.specs.Prelude.{◌≡◌, ◌⊎◌, ℕ, ◌+◌, ◌*◌, ◌^◌, ◌<◌, ◌≤◌, ℤ, List, [], ◌∷◌, length, map, Some, slice_get}
use Rattle.cov_base.specs.Lists.{Everywhere}
use Rattle.ada_meaning.specs.Bodies.{bodies_of, IsBody}
use Rattle.ada_meaning.specs.Declared.{object_shape, is_function}
use Rattle.ada_meaning.specs.Objects.{objects_of}
use Rattle.ada_meaning.specs.Program.{Subprogram, body_target, Program}
use Rattle.ada_meaning.specs.Resolved.{ResolvedParameter, owner_in, parameter_in, parameters_of}
use Rattle.ada_meaning.specs.Tree as tree
use Rattle.ada_meaning.specs.Types as type
use Rattle.ada_meaning.specs.WellFormed.{StartSees}
use Rattle.ada_resolved.specs.Sizes.{words}
use Rattle.kernel_ir.specs.declared.kernel.Kernel.{Kernel}
use Rattle.kernel_ir.specs.Layouts.{content_in, contents_after}
use Rattle.kernel_ir.specs.Limits.{LayoutsFit, most_words, widest}
use Rattle.kernel_ir.specs.Meaning as code
use Rattle.kernel_ir.specs.World.{data_word, area_end}
use Rattle.frame_widths.specs.Ends.{end_of_block}
use Rattle.statement_code.specs.Alike.{AreNamesIn}
use Rattle.statement_code.specs.Bodies.{body_code}
use Rattle.statement_code.specs.Initial.{AreAddressed, HasInitialWords, IsObjectOf}
use Rattle.statement_code.specs.Kernels.{Scheme, place_of}
use Rattle.statement_code.specs.Names.{Names}
use Rattle.statement_code.specs.Programs.{Plan, slot_in_plan, size_in_plan, AreLaid, IsHome, IsLibrary}
use Rattle.statement_code.specs.Statements.{IsInFrame, HasLayout}
use Rattle.statement_code.specs.Values.{in_frame, arguments, IsWord, IsComposite}

-- A parameter with this number, of so many: a scalar one stands in the slot of its number; a composite one behind the slots of all
-- parameters, and nothing stands in the slot of its number.
pub record IsParameterPlaced (plan : Plan) (count : ℕ) (q : ResolvedParameter) (i : ℕ) : Type 0 where
  pub scalar : IsWord q.shape → plan.home_of (tree.local_object q.declaration) ≡ in_frame i
  pub composite : IsComposite q.shape → count + words q.shape ≤ slot_in_plan plan q.declaration + 1
  pub bare : IsComposite q.shape → Everywhere (λ d. (slot_in_plan plan d < i) ⊎ (i + size_in_plan plan d ≤ slot_in_plan plan d)) plan.locals

abbrev pub AreParametersPlaced : Plan → (count : ℕ) → List ResolvedParameter → ℕ → Type 0
AreParametersPlaced plan count [] i = Unit {0}
AreParametersPlaced plan count (q ∷ qs) i = IsParameterPlaced plan count q i × AreParametersPlaced plan count qs (i + 1)

-- Objects of a body stand behind one another from a slot on, below the slots to work in: that is a way to lay them out.
pub record IsStacked (plan : Plan) (from d : ℕ) : Type 0 where
  pub framed : IsInFrame (plan.home_of (tree.local_object d))
  pub behind : from + size_in_plan plan d ≤ slot_in_plan plan d + 1
  pub below : slot_in_plan plan d < plan.base

abbrev pub AreStacked : Plan → (from : ℕ) → List ℕ → Type 0
AreStacked plan from [] = Unit {0}
AreStacked plan from (d ∷ ds) = IsStacked plan from d × AreStacked plan (slot_in_plan plan d + 1) ds

module _ (p : Program) (K : Kernel) (s : Scheme) where
  -- The body of a subprogram in an instance, by its plan, and by names that come to what they mean there. Its objects have the shapes of their
  -- types, and stand in its frame, each with slots of its own; those of the library level that it sees stand there.
  pub record IsLaidOut (j m : ℕ) (declared : Subprogram) (plan : Plan) : Type 0 where
    pub names : Names
    pub named : AreNamesIn p j (object_shape p j declared) names
    pub is_body : slice_get K.bodies (s.number j m) ≡ Some (record {
      code = body_code names plan.shape_of plan.home_of (record { width = plan.width; body = s.number }) plan.layout_of plan.base plan.gives (parameters_of p (body_target j m)) declared.body;
      width = plan.width;
    })
    pub gives : plan.gives ≡ is_function declared
    pub locals : plan.locals ≡ objects_of declared
    pub shapes : Everywhere (λ d. object_shape p j declared (tree.local_object d) ≡ plan.shape_of (tree.local_object d)) plan.locals
    pub sizes : Everywhere (λ d. size_in_plan plan d ≤ most_words) plan.locals
    pub layouts : Everywhere (λ d. HasLayout (plan.shape_of (tree.local_object d)) (content_in K.layouts (plan.layout_of d))) plan.locals
    pub filled : Everywhere (λ d. IsComposite (plan.shape_of (tree.local_object d)) → plan.layout_of d < length K.layouts) plan.locals
    pub laid : AreLaid plan plan.locals
    pub parameters : AreParametersPlaced plan (length declared.parameters) (map (parameter_in p j) declared.parameters) 0
    pub outside : (o : type.Owner) (d : ℕ) → StartSees p j declared (tree.library_object o d)
        → (object_shape p j declared (tree.library_object o d) ≡ plan.shape_of (tree.library_object o d))
        × IsHome (plan.home_of (tree.library_object o d)) (s.address_of (owner_in j o) d)
    pub few : length declared.parameters ≤ plan.base
    pub small : plan.base < plan.width
    pub narrow : plan.width + arguments ≤ widest
    pub ends : end_of_block plan.base declared.body ≤ plan.width

  -- The kernel: it has the program's bodies in their order; just the program's objects stand at the library level, with their initial words, and
  -- below all frames; and what it has beside bodies is small enough for machine code.
  pub record IsLaidKernel : Type 0 where
    pub many : length K.bodies ≡ length (bodies_of p)
    pub numbers : (j m : ℕ) → IsBody p (record { instance = j; subprogram = m }) → s.number j m ≡ place_of j m (bodies_of p)
    pub main_is : K.main ≡ s.number 0 p.main
    pub bodies : (j m : ℕ) (is : IsBody p (record { instance = j; subprogram = m })) → IsLaidOut j m is.declared (s.plan_of j m)
    pub apart : IsLibrary s.library s.low
    pub above : data_word ≤ s.low
    pub room : s.low + widest * 512 ≤ area_end
    pub addressed : AreAddressed p s.library s.address_of p.objects
    pub objects : Everywhere (IsObjectOf p s.address_of) s.library
    pub begins : (input : List ℤ) → HasInitialWords p s.address_of (code.begin K input).memory p.objects
    pub library : Everywhere (λ o. (words o.shape ≤ most_words) × (o.address < data_word + length K.library)) s.library
    pub library_words : Everywhere (λ word. word < 2 ^ 32) K.library
    pub library_few : length K.library ≤ most_words
    pub layouts : LayoutsFit 0 K.layouts
    pub contents : Everywhere (λ c. length c.words ≤ most_words) (contents_after [] K.layouts)
    pub exceptions : K.exceptions ≡ 4 + length p.exceptions
    pub exceptions_few : K.exceptions < 2 ^ 31
