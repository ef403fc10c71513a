-- What the code of a body is made by: what names of its text come to in an instance, and where objects stand.
use Rattle.std.specs.Prelude.{ℕ, zero, suc, nat_eq, pos, ◌&&◌, List, [], ◌∷◌, map, Option, Some, None, option_map, slice_get, unwrap_or, if◌then◌else◌}
use Rattle.ada_meaning.specs.Arithmetic.{base_range}
use Rattle.ada_meaning.specs.Program.{Target, get_target, put_target, body_target}
use Rattle.ada_meaning.specs.Program as meaning
use Rattle.ada_meaning.specs.Resolved.{ResolvedParameter, owner_in, target_in, exception_in}
use Rattle.ada_meaning.specs.Shape.{Shape, word}
use Rattle.ada_meaning.specs.Statics.{static_value, static_bounds, values_of}
use Rattle.ada_meaning.specs.Tree as tree
use Rattle.ada_tree.specs.declared.program.Parameter.{Parameter}
use Rattle.ada_tree.specs.declared.program.Program.{Program}
use Rattle.ada_tree.specs.declared.program.Subprogram.{Subprogram}
use Rattle.ada_tree.specs.declared.types.Subtype.{Subtype}
use Rattle.ada_tree.specs.declared.types.Subtype.TheVariants as subtype
use Rattle.ada_tree.specs.Programs.{mode_of, program_of}
use Rattle.ada_tree.specs.View.{owner_of}
use Rattle.ada_resolved.specs.declared.forms.TypeIn.{TypeIn}
use Rattle.ada_resolved.specs.Forms.{named_type, shape_of}
use Rattle.generic_expand.specs.declared.copies.BodyCopy.{BodyCopy}
use Rattle.statement_code.specs.Names.{Names}
use Rattle.statement_code.specs.Values.{Home, in_frame, in_library, Site}
use Rattle.storage_layout.specs.declared.frames.LocalObject.{LocalObject}
use Rattle.storage_layout.specs.declared.layouts.LaidType.{LaidType}
use Rattle.storage_layout.specs.declared.library.LibraryPlace.{LibraryPlace}
use Rattle.storage_layout.specs.Layouts.{layouts_before}
use Rattle.lower.specs.declared.context.BodyContext.{BodyContext}
use Rattle.lower.specs.declared.context.Home.{Home as Place}
use Rattle.lower.specs.declared.context.Home.TheVariants as place
use Rattle.lower.specs.declared.context.Signature.{Signature}

-- where an object stands
abbrev pub home_of : Place → Home
home_of (place.Frame j) = in_frame j
home_of (place.Library n) = in_library n

-- the shape of a type, if there is one: what has no type has no parts
abbrev pub shape_named : Program → Option TypeIn → Shape
shape_named p None = word base_range
shape_named p (Some t) = shape_of p t

-- the place of an object of the library level, by its declaration
abbrev pub place_among : ℕ → List LibraryPlace → Option LibraryPlace
place_among d [] = None
place_among d (x ∷ xs) = if nat_eq x.declaration d then Some x else place_among d xs

-- how many bodies stand before that of a subprogram in an instance
abbrev pub bodies_before : (inst subprogram : ℕ) → List BodyCopy → ℕ
bodies_before i n [] = zero
bodies_before i n (b ∷ bs) = if nat_eq b.instance.0 i && nat_eq b.subprogram n then zero else suc (bodies_before i n bs)

abbrev pub parameters_at : Option Subprogram → List Parameter
parameters_at None = []
parameters_at (Some s) = s.parameters

-- what the code of a body is made by: the program, the instance, the width of the frame, the objects of the subprogram by number, those of the
-- library level by instance, the bodies and the layouts of the kernel by number
pub record Surroundings : Type 0 where
  pub program : Program
  pub instance : ℕ
  pub width : ℕ
  pub locals : List LocalObject
  pub library : List (List LibraryPlace)
  pub bodies : List BodyCopy
  pub layouts : List LaidType

module _ (c : Surroundings) where
  abbrev pub program_by : meaning.Program
  program_by = program_of c.program

  abbrev pub place_at : (inst declaration : ℕ) → Option LibraryPlace
  place_at inst d = place_among d (unwrap_or (slice_get c.library inst) [])

  -- the type of an object, if it has one
  abbrev pub type_by : tree.Object → Option TypeIn
  type_by (tree.local_object d) = option_map (λ o. named_type c.program c.instance o.subtype) (slice_get c.locals d)
  type_by (tree.library_object o d) = option_map (λ x. named_type c.program (owner_in c.instance o) x.subtype) (place_at (owner_in c.instance o) d)

  abbrev pub shape_by : tree.Object → Shape
  shape_by o = shape_named c.program (type_by o)

  abbrev pub home_by : tree.Object → Home
  home_by (tree.local_object d) = in_frame (unwrap_or (option_map (λ o. o.slot) (slice_get c.locals d)) 0)
  home_by (tree.library_object o d) = in_library (unwrap_or (option_map (λ x. x.word) (place_at (owner_in c.instance o) d)) 0)

  -- the number of the layout of a type, and of that of an object of the subprogram
  abbrev pub layout_named : Subtype → ℕ
  layout_named (subtype.Scalar r) = 0
  layout_named (subtype.Composite o n) = layouts_before (owner_in c.instance (owner_of o)) n c.layouts

  abbrev pub layout_at : Option LocalObject → ℕ
  layout_at None = 0
  layout_at (Some o) = layout_named o.subtype

  abbrev pub layout_by : (declaration : ℕ) → ℕ
  layout_by d = layout_at (slice_get c.locals d)

  abbrev pub site_by : Site
  site_by = record { width = c.width; body = λ i n. bodies_before i n c.bodies }

  abbrev pub parameter_at : (inst : ℕ) → Parameter → ResolvedParameter
  parameter_at inst q = record { declaration = q.number; mode = mode_of q.mode; shape = shape_of c.program (named_type c.program inst q.subtype) }

  -- the parameters of what is called
  abbrev pub parameters_by : Target → List ResolvedParameter
  parameters_by get_target = record { declaration = 0; mode = meaning.out_mode; shape = word base_range } ∷ []
  parameters_by put_target = record { declaration = 0; mode = meaning.in_mode; shape = word base_range } ∷ []
  parameters_by (body_target i n) = map (parameter_at i) (parameters_at (slice_get c.program.subprograms n))

  -- what names come to: 0 for a value and for bounds that are none
  abbrev pub names_by : Names
  names_by = record {
    instance = c.instance;
    number = λ e. unwrap_or (static_value (values_of program_by) c.instance e) (pos 0);
    bounds = λ r. unwrap_or (static_bounds (values_of program_by) c.instance r) (record { low = pos 0; high = pos 0 });
    target = target_in program_by c.instance;
    parameters = parameters_by;
    exception = exception_in program_by c.instance;
  }

-- the same of what code holds
abbrev pub surroundings_of : BodyContext → Surroundings
surroundings_of c = record {
  program = c.sizes.now.program.now;
  instance = c.instance;
  width = c.width;
  locals = c.locals.now;
  library = c.library.now;
  bodies = c.bodies.now;
  layouts = c.layouts.now;
}

module _ (c : BodyContext) where
  abbrev pub text : Program
  text = c.sizes.now.program.now

  abbrev pub type_for : tree.Object → Option TypeIn
  type_for = type_by (surroundings_of c)

  abbrev pub shape_for : tree.Object → Shape
  shape_for = shape_by (surroundings_of c)

  abbrev pub home_for : tree.Object → Home
  home_for = home_by (surroundings_of c)

  abbrev pub layout_of : Subtype → ℕ
  layout_of = layout_named (surroundings_of c)

  abbrev pub layout_for : (declaration : ℕ) → ℕ
  layout_for = layout_by (surroundings_of c)

  abbrev pub site_for : Site
  site_for = site_by (surroundings_of c)

  abbrev pub parameter_for : (inst : ℕ) → Parameter → ResolvedParameter
  parameter_for = parameter_at (surroundings_of c)

  abbrev pub signature_for : Signature → List ResolvedParameter
  signature_for s = map (parameter_for s.instance) s.parameters.now

  abbrev pub parameters_for : Target → List ResolvedParameter
  parameters_for = parameters_by (surroundings_of c)

  abbrev pub names_for : Names
  names_for = names_by (surroundings_of c)
