-- The cases of subprogram specifications and bodies (Ada RM 2012, 6.1, 6.3, 6.3.1, 6.5).
use Rattle.std.specs.Prelude.{ℕ, nat_eq, ◌+◌, Bool, true, false, not, ◌&&◌, List, [], ◌∷◌, ◌++◌, map, reverse, Option, Some, None, option_map, unwrap_or, if◌then◌else◌}
use Rattle.std.specs.List.{list_all}
use Rattle.cov_base.specs.declared.position.Pos.{Pos}
use Rattle.ada_syntax.specs.Tree.{Name}
use Rattle.ada_syntax.specs.declared.name.Identifier.{Identifier}
use Rattle.ada_syntax.specs.declared.unit.Mode.{Mode}
use Rattle.ada_syntax.specs.declared.unit.Mode.TheVariants as written
use Rattle.ada_syntax.specs.declared.unit.Parameter.{Parameter as SourceParameter}
use Rattle.ada_syntax.specs.declared.unit.Specification.{Specification}
use Rattle.ada_syntax.specs.declared.unit.SubprogramBody.{SubprogramBody}
use Rattle.ada_meaning.specs.Program as program
use Rattle.ada_meaning.specs.Program.{in_mode, out_mode, in_out_mode}
use Rattle.ada_meaning.specs.Tree as tree
use Rattle.ada_rules.specs.Plan.{Plan, Judgement, ◌>>=◌, rule, construct}
use Rattle.ada_rules.specs.Types.{Identity, same_identity, AdaSubtype, type_in, range_in, base, is_scalar, subtype_in_tree}
use Rattle.ada_rules.specs.Statics.{Spans, within}
use Rattle.ada_rules.specs.Entities.{key, same_name, Parameter, Routine, Entity, hidden, object, routine, Region, entity_of, redefined}
use Rattle.ada_rules.specs.Environment.{typed_rule, World, BodyName, State, Given, given, Returning, no_result, result_of, Env, with_local, opened, owner_of, exceeded, with_name, hide, hide_all}
use Rattle.ada_rules.specs.Expressions.{Marked, mark_part}
use Rattle.ada_rules.specs.Declarations.{with_objects, all_declared}
use Rattle.ada_rules.specs.Statements.{block_of, all_handled, frame_returns}

-- `in` may be left out (RM 6.1)
abbrev pub mode_of : Mode → program.Mode
mode_of written.Default = in_mode
mode_of written.In = in_mode
mode_of written.Out = out_mode
mode_of written.InOut = in_out_mode

abbrev pub same_mode : program.Mode → program.Mode → Bool
same_mode in_mode in_mode = true
same_mode out_mode out_mode = true
same_mode in_out_mode in_out_mode = true
same_mode m n = false

abbrev pub is_in : program.Mode → Bool
is_in m = same_mode m in_mode

-- a specification: its parameters and its result, and the region in which the parameters are declared
pub record Profile : Type 0 where
  pub parameters : List Parameter
  pub result : Option Parameter
  pub region : Region

-- parameters are the first objects of their subprogram; those that are `in` are not assigned
abbrev pub parameter_entity : ℕ → program.Mode → AdaSubtype → Entity
parameter_entity n m t = object (record {
  object = tree.local_object n;
  parts = tree.whole;
  subtype = t;
  is_writable = not (is_in m);
  is_indexed = false;
  known = None;
  values = within (range_in t);
})

abbrev pub parameters_for : program.Mode → Marked → List Identifier → List Parameter
parameters_for m t [] = []
parameters_for m t (i ∷ is) =
    record { name = key i; mode = m; mark = t.identity; subtype = t.subtype } ∷ parameters_for m t is

abbrev pub parameter_objects : program.Mode → AdaSubtype → ℕ → Region → List Identifier → Region
parameter_objects m t n region [] = region
parameter_objects m t n region (i ∷ is) =
    parameter_objects m t (n + 1) (redefined (key i) (parameter_entity n m t) region) is

-- the first parameter beyond the limit
abbrev pub most_parameters : ℕ
most_parameters = 16

abbrev pub limited : ℕ → List Identifier → State → State
limited n [] s = s
limited n (i ∷ is) s = limited (n + 1) is (exceeded (nat_eq n most_parameters) i.pos s)

-- parameters that are declared together, of which each hides its names (RM 6.1)
abbrev pub parameters_judged : Env → State → Pos → List SourceParameter → Judgement (Given Profile)
parameters_judged env s p [] =
    construct p (rule (Some (given (record { parameters = []; result = None; region = env.local }) s)))
parameters_judged env s p (q ∷ qs) = construct p (do
  names ← hide_all p env.local q.names
  t ← mark_part (with_local env names) s q.mark
  rest ← parameters_judged (with_local env (parameter_objects (mode_of q.mode) t.value.subtype t.next.objects names q.names))
      (with_objects t.value.subtype q.names (limited t.next.objects q.names t.next)) p qs
  rule (Some (given (record {
    parameters = parameters_for (mode_of q.mode) t.value q.names ++ rest.value.parameters;
    result = None;
    region = rest.value.region;
  }) rest.next)))

-- functions have `in` parameters and a scalar result (this language's profile)
abbrev pub as_result : Marked → Parameter
as_result t = record { name = []; mode = in_mode; mark = t.identity; subtype = t.subtype }

abbrev pub is_function_profile : List Parameter → Marked → Bool
is_function_profile qs t = list_all (λ q. is_in q.mode) qs && is_scalar (type_in t.subtype)

abbrev pub with_result : Given Profile → Given Marked → Given Profile
with_result q t =
    given (record { parameters = q.value.parameters; result = Some (as_result t.value); region = q.value.region }) t.next

abbrev pub result_judged : Env → Given Profile → Option Name → Plan (Given Profile)
result_judged env q None = rule (Some q)
result_judged env q (Some n) = do
  t ← mark_part (with_local env q.value.region) q.next n
  typed_rule env.step (with_result q t) (if is_function_profile q.value.parameters t.value then Some (with_result q t) else None)

-- a specification, in a new region for its parameters; they are numbered from 0
abbrev pub fresh : State → State
fresh s = record s { objects = 0; words = [] }

abbrev pub specified : Env → State → Specification → Judgement (Given Profile)
specified env s x = construct x.pos (do
  q ← parameters_judged (opened env) (fresh s) x.pos x.parameters
  result_judged (opened env) q x.result_mark)

-- a specification without a body declares no words
abbrev pub declared_only : State → State → State
declared_only before s = record s { objects = before.objects; words = before.words }

-- the number of a body: its place among all in the order of the text
abbrev pub is_body : List ℕ → List ℕ → BodyName → Bool
is_body unit name b = same_name b.package_name unit && same_name b.name name

abbrev pub place_among : List ℕ → List ℕ → ℕ → List BodyName → Option ℕ
place_among unit name n [] = None
place_among unit name n (b ∷ bs) = if is_body unit name b then Some n else place_among unit name (n + 1) bs

abbrev pub body_number : World → List ℕ → List ℕ → Option ℕ
body_number w unit name = place_among unit name 0 w.bodies

abbrev pub routine_values : Option Parameter → Spans
routine_values None = within base
routine_values (Some q) = within (range_in q.subtype)

abbrev pub routine_of : Env → List ℕ → Bool → Profile → Routine
routine_of env name awaits q = record {
  callee = tree.subprogram (owner_of env) (unwrap_or (body_number env.world env.unit_name name) 0);
  parameters = q.parameters;
  result = q.result;
  values = routine_values q.result;
  awaits_body = awaits;
}

-- a subprogram declaration in a package: it has a body (RM 7.2)
abbrev pub subprogram_declared : Env → State → Specification → Judgement (Given Region)
subprogram_declared env s x = construct x.pos (do
  region ← hide env.local x.name
  q ← specified (with_local env region) s x
  rule (option_map (λ n. given (redefined (key x.name) (routine (routine_of env (key x.name) true q.value)) region) (declared_only s q.next))
      (body_number env.world env.unit_name (key x.name))))

-- a body in a package completes a declaration that has none yet, or declares a subprogram (RM 6.3)
abbrev pub to_complete : Region → Identifier → Option Entity → Option Region
to_complete region i None = with_name region i hidden
to_complete region i (Some (routine r)) = if r.awaits_body then Some region else None
to_complete region i (Some x) = None

abbrev pub completed : Region → Identifier → Judgement Region
completed region i = construct i.pos (rule (to_complete region i (entity_of (key i) region)))

-- A body conforms to its declaration: the names of the parameters in order, their modes, and which subtypes they and
-- the result have (RM 6.3.1). A mark that is no subtype conforms to no subtype. Two of them are left to the rules on
-- types, which refuse both.
abbrev pub same_mark : Option Identity → Option Identity → Bool
same_mark None None = true
same_mark (Some a) (Some b) = same_identity a b
same_mark a b = false

abbrev pub same_parameter : Parameter → Parameter → Bool
same_parameter a b = same_name a.name b.name && same_mode a.mode b.mode && same_mark a.mark b.mark

abbrev pub same_parameters : List Parameter → List Parameter → Bool
same_parameters [] [] = true
same_parameters (a ∷ more) (b ∷ bs) = same_parameter a b && same_parameters more bs
same_parameters xs ys = false

abbrev pub same_result : Option Parameter → Option Parameter → Bool
same_result None None = true
same_result (Some a) (Some b) = same_mark a.mark b.mark
same_result a b = false

abbrev pub conforms : Profile → Option Entity → Bool
conforms q (Some (routine r)) = same_parameters r.parameters q.parameters && same_result r.result q.result
conforms q x = true

abbrev pub conforming : Pos → Region → Identifier → Profile → Judgement Unit
conforming p region i q = construct p (rule (if conforms q (entity_of (key i) region) then Some tt else None))

-- the name after `end` repeats the unit's name (RM 6.3)
abbrev pub repeats : Identifier → Identifier → Bool
repeats name i = same_name (key i) (key name)

abbrev pub closed_by : Pos → Identifier → Option Identifier → Judgement Unit
closed_by p name None = construct p (rule (Some tt))
closed_by p name (Some i) = construct i.pos (rule (if repeats name i then Some tt else None))

abbrev pub returning_of : Option Parameter → Returning
returning_of None = no_result
returning_of (Some q) = result_of q.subtype

-- a function has at least one `return` (RM 6.5)
abbrev pub may_end : SubprogramBody → Option Parameter → Bool
may_end b None = true
may_end b (Some q) = frame_returns b.statements

abbrev pub typed_parameters : ℕ → List Parameter → List program.Parameter
typed_parameters n [] = []
typed_parameters n (q ∷ qs) = record { declaration = n; mode = q.mode; subtype = subtype_in_tree q.subtype } ∷ typed_parameters (n + 1) qs

abbrev pub body_made : Env → State → Profile → tree.Block → State → State
body_made env before q b s = record s {
  objects = before.objects;
  words = before.words;
  subprogram_words = record { generic = env.generic; words = reverse s.words } ∷ s.subprogram_words;
  subprograms = record {
    generic = env.generic;
    parameters = typed_parameters 0 q.parameters;
    objects = map (λ w. w.subtype) (reverse s.words);
    body = b;
  } ∷ s.subprograms;
}

-- where the declarations and the statements of a body stand, in the region of its parameters, whose subprogram is
-- visible from its `is` on
abbrev pub inside_body : Env → Region → List ℕ → Profile → Env
inside_body env region name q = record (opened (with_local env region)) {
  local = q.region;
  subprogram_name = name;
  is_looping = false;
  is_handling = false;
  returning = returning_of q.result;
}

-- a body in this region, whose specification has this profile
abbrev pub body_judged : Env → State → SubprogramBody → Region → List ℕ → Given Profile → Judgement State
body_judged env before b region name q = construct b.specification.pos (do
  x ← all_declared (inside_body env region name q.value) q.next b.specification.pos b.declarations
  f ← all_handled (with_local (inside_body env region name q.value) x.region) x.next b.specification.pos b.statements
  end ← closed_by b.specification.pos b.specification.name b.end_name
  typed_rule env.step (body_made env before q.value (block_of x.made f.value) f.next)
      (if may_end b q.value.result then Some (body_made env before q.value (block_of x.made f.value) f.next) else None))

-- a body in a package, and the region behind it
abbrev pub with_routine : Env → Region → Identifier → Profile → Region
with_routine env region i q = redefined (key i) (routine (routine_of env (key i) false q)) region

abbrev pub packaged_body : Env → State → SubprogramBody → Judgement (Given Region)
packaged_body env s b = construct b.specification.pos (do
  region ← completed env.local b.specification.name
  q ← specified (with_local env region) s b.specification
  fit ← conforming b.specification.pos region b.specification.name q.value
  next ← body_judged env s b (with_routine env region b.specification.name q.value) (key b.specification.name) q
  rule (Some (given (with_routine env region b.specification.name q.value) next)))
