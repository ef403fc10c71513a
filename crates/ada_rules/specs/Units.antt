-- The cases of library units, and of the whole program (Ada RM 2012, 7.1, 7.2, 10.1, 12.1, 12.3).
use Rattle.std.specs.Prelude.{ℕ, pred, nat_eq, ◌+◌, Bool, true, false, ◌&&◌, ◌||◌, List, [], ◌∷◌, map, length, reverse, set, Option, Some, None, is_none, slice_get, if◌then◌else◌}
use Rattle.cov_base.specs.declared.position.Pos.{Pos}
use Rattle.ada_syntax.specs.declared.name.Identifier.{Identifier}
use Rattle.ada_syntax.specs.declared.unit.BodyItem.{BodyItem}
use Rattle.ada_syntax.specs.declared.unit.BodyItem.TheVariants as item
use Rattle.ada_syntax.specs.declared.unit.Formal.{Formal}
use Rattle.ada_syntax.specs.declared.unit.Instance.{Instance}
use Rattle.ada_syntax.specs.declared.unit.LibraryItem.{LibraryItem}
use Rattle.ada_syntax.specs.declared.unit.LibraryItem.TheVariants as library
use Rattle.ada_syntax.specs.declared.unit.PackageBody.{PackageBody}
use Rattle.ada_syntax.specs.declared.unit.PackageItem.{PackageItem}
use Rattle.ada_syntax.specs.declared.unit.PackageItem.TheVariants as part
use Rattle.ada_syntax.specs.declared.unit.PackageSpecification.{PackageSpecification}
use Rattle.ada_syntax.specs.declared.unit.SubprogramBody.{SubprogramBody}
use Rattle.ada_syntax.specs.declared.unit.Unit.{Unit as LibraryUnit}
use Rattle.ada_rules.specs.Plan.{Plan, Judgement, ◌>>=◌, rule, construct}
use Rattle.ada_meaning.specs.Program.{GenericConstant}
use Rattle.ada_rules.specs.Statics.{Facts, with_constants, Asked, instantiated}
use Rattle.ada_rules.specs.Entities.{Actual, key, same_name, Entity, hidden, routine, unit, Region}
use Rattle.ada_rules.specs.Environment.{Step, Interface, no_interface, package_interface, generic_interface, instance_interface, subprogram_interface, World, interface_of, State, beginning_state, Given, given, no_result, Env, with_local}
use Rattle.ada_rules.specs.Denoted.{nowhere}
use Rattle.ada_rules.specs.Declarations.{declared}
use Rattle.ada_rules.specs.Subprograms.{Profile, specified, declared_only, routine_of, subprogram_declared, closed_by, body_judged, packaged_body}
use Rattle.ada_rules.specs.Instances.{formals_declared, generic_named, formals_of, actuals_judged, instance_made, facts_made}
use Rattle.ada_rules.specs.Library.{Library, is_instance, heading, item_name, unit_named, clause_names, instance_number, all_bodies, seen_more}

-- where a unit stands that sees this of the library, besides the predefined names
abbrev pub env_of : Step → World → ℕ → List ℕ → Region → Env
env_of step w n name region = record {
  step = step;
  world = w;
  unit_number = n;
  unit_name = name;
  subprogram_name = [];
  generic = None;
  own_package = None;
  own = [];
  local = [];
  outer = region ∷ w.standard.predefined ∷ [];
  is_library = true;
  is_looping = false;
  is_handling = false;
  returning = no_result;
}

-- the text of a package, by the number of its unit, in which these are declared already
abbrev pub in_package : Env → (generic : Option ℕ) → ℕ → Region → Env
in_package env g n region = record env { generic = g; own_package = Some n; own = region; local = region }

abbrev pub generic_at : {A : Type 0} → Option A → ℕ → Option ℕ
generic_at None n = None
generic_at (Some x) n = Some n

-- a declaration in a package (RM 7.1)
abbrev pub package_item : Env → State → PackageItem → Plan (Given Region)
package_item env s (part.Declaration d) = do
  x ← declared env s d
  rule (Some (given x.region x.next))
package_item env s (part.Subprogram x) = do
  r ← subprogram_declared env s x
  rule (Some r)

abbrev pub package_items : Env → State → Pos → List PackageItem → Judgement (Given Region)
package_items env s p [] = construct p (rule (Some (given env.local s)))
package_items env s p (i ∷ is) = construct p (do
  r ← (construct p (package_item env s i))
  rest ← package_items (with_local env r.value) r.next p is
  rule (Some rest))

abbrev pub body_item : Env → State → BodyItem → Plan (Given Region)
body_item env s (item.Declared i) = package_item env s i
body_item env s (item.Body b) = do
  r ← packaged_body env s b
  rule (Some r)

abbrev pub body_items : Env → State → Pos → List BodyItem → Judgement (Given Region)
body_items env s p [] = construct p (rule (Some (given env.local s)))
body_items env s p (i ∷ is) = construct p (do
  r ← (construct p (body_item env s i))
  rest ← body_items (with_local env r.value) r.next p is
  rule (Some rest))

-- what other units see of a package
abbrev pub interface_with : {A : Type 0} → Option A → Region → Region → Interface
interface_with None formals region = package_interface region
interface_with (Some x) formals region = generic_interface formals region

-- the units, and the state behind them
pub record Walked : Type 0 where
  pub world : World
  pub next : State

abbrev pub with_interface : World → ℕ → Interface → World
with_interface w n i = record w { interfaces = set w.interfaces n i }

-- types are numbered anew in each unit
abbrev pub at_unit : State → State
at_unit s = record s { types = 0; library_words = [] }

-- behind a unit of the text of this package
abbrev pub behind_unit : Env → (package_unit : ℕ) → State → State
behind_unit env n s = record s {
  library_words = [];
  unit_words =
      record { unit = env.unit_number; package_unit = n; generic = env.generic; words = s.library_words } ∷ s.unit_words;
}

abbrev pub formals_in : Option (List Formal) → List Formal
formals_in None = []
formals_in (Some fs) = fs

-- the text of a package specification, where its formals are declared
abbrev pub in_specification : Env → ℕ → PackageSpecification → Region → Env
in_specification env n x formals = in_package env (generic_at x.formals n) n formals

abbrev pub with_package : Env → ℕ → PackageSpecification → Region → Given Region → Walked
with_package env n x formals region = record {
  world = with_interface env.world n (interface_with x.formals formals region.value);
  next = behind_unit (in_specification env n x []) n region.next;
}

abbrev pub package_judged : Env → State → Pos → ℕ → PackageSpecification → Judgement Walked
package_judged env s p n x = construct p (do
  formals ← formals_declared (in_specification env n x []) (at_unit s) p 0 (formals_in x.formals)
  region ← package_items (in_specification env n x formals.value) formals.next p x.items
  end ← closed_by p x.name x.end_name
  rule (Some (with_package env n x formals.value region)))

-- behind an instance, where it is one of a generic
abbrev pub instantiated_by : Option ℕ → ℕ → List Asked → List Asked
instantiated_by None k ds = ds
instantiated_by (Some g) k ds = instantiated g k ∷ ds

-- an instance: a package of its own, whose name is not visible in it (RM 12.3)
abbrev pub facts_set : List Facts → ℕ → Facts → List GenericConstant → List Facts
facts_set fs k f cs = set fs (pred k) (with_constants (set fs (pred k) f) cs k f)

abbrev pub with_instance : World → Pos → ℕ → ℕ → Instance → Option ℕ → List Actual → State → Walked
with_instance w p n k i g actuals s = record {
  world = record w {
    interfaces = set w.interfaces n (instance_interface g k actuals);
    instances = facts_set w.instances k (facts_made w g actuals) (reverse s.constants_declared);
  };
  next = record s {
    instances_declared = instance_made w p i g actuals ∷ s.instances_declared;
    demands = instantiated_by g k s.demands;
  };
}

abbrev pub instance_judged : Env → State → Pos → ℕ → ℕ → Instance → Judgement Walked
instance_judged env s p n k i = construct p (do
  g ← generic_named env i.generic_name
  actuals ← actuals_judged env (at_unit s) p k [] (formals_of env.world g) i.actuals
  rule (Some (with_instance env.world p n k i g actuals.value actuals.next)))

-- the specification of a library subprogram, in which its name is hidden
abbrev pub with_subprogram : World → ℕ → Interface → State → Walked
with_subprogram w n i s = record { world = with_interface w n i; next = s }

abbrev pub library_routine : Env → SubprogramBody → Profile → Interface
library_routine env b q = subprogram_interface (routine_of env (key b.specification.name) false q)

abbrev pub library_subprogram : Env → State → ℕ → SubprogramBody → Judgement Walked
library_subprogram env s n b = construct b.specification.pos (do
  q ← specified env (at_unit s) b.specification
  rule (Some (with_subprogram env.world n (library_routine env b q.value) (declared_only s q.next))))

abbrev pub seen_in : World → Library → LibraryUnit → Entity → Region
seen_in w l u x = seen_more w l (clause_names u.withs) ((key (item_name u.item), x) ∷ [])

-- what other units see of a unit (RM 10.1.1)
abbrev pub interface_judged : Step → Library → World → State → ℕ → LibraryUnit → LibraryItem → Judgement Walked
interface_judged step l w s n u (library.Package x) =
    package_judged (env_of step w n (key x.name) (seen_in w l u (unit n))) s u.item_pos n x
interface_judged step l w s n u (library.Instance i) =
    instance_judged (env_of step w n (key i.name) (seen_in w l u hidden)) s u.item_pos n (instance_number n l.units) i
interface_judged step l w s n u (library.Subprogram b) =
    library_subprogram (env_of step w n (key b.specification.name) (seen_in w l u hidden)) s n b
interface_judged step l w s n u (library.PackageBody b) = construct u.pos (rule (Some (record { world = w; next = s })))

-- those of all units, in the order in which they depend on each other
abbrev pub interface_at : Step → Library → Walked → ℕ → Option LibraryUnit → Judgement Walked
interface_at step l x n None = construct nowhere (rule (Some x))
interface_at step l x n (Some u) = construct u.pos (do
  y ← interface_judged step l x.world x.next n u u.item
  rule (Some y))

abbrev pub all_interfaces : Step → Library → Walked → List ℕ → Judgement Walked
all_interfaces step l x [] = construct nowhere (rule (Some x))
all_interfaces step l x (n ∷ ns) = construct nowhere (do
  y ← interface_at step l x n (slice_get l.units n)
  rest ← all_interfaces step l y ns
  rule (Some rest))

-- the bodies of a unit, in the order of the text; a body of a package also sees what the package's specification names
-- in `with`
abbrev pub region_of : Interface → Region
region_of (package_interface region) = region
region_of (generic_interface formals region) = region
region_of i = []

abbrev pub is_generic_interface : Interface → ℕ → Option ℕ
is_generic_interface (generic_interface formals region) n = Some n
is_generic_interface i n = None

abbrev pub withs_of : Option LibraryUnit → List Identifier
withs_of None = []
withs_of (Some u) = clause_names u.withs

abbrev pub seen_in_body : World → Library → ℕ → LibraryUnit → Region
seen_in_body w l n u = seen_more w l (withs_of (slice_get l.units n)) (seen_in w l u (unit n))

-- the text of a package's body: what its specification declares is declared already
abbrev pub in_body : Env → ℕ → Interface → Region → Env
in_body env n i region = in_package env (is_generic_interface i n) n region

abbrev pub package_body : Env → State → Pos → ℕ → PackageBody → Judgement State
package_body env s p n b = construct p (do
  region ← body_items (in_body env n (interface_of env.world n) (region_of (interface_of env.world n))) (at_unit s) p b.items
  end ← closed_by p b.name b.end_name
  rule (Some (behind_unit (in_body env n (interface_of env.world n) []) n region.next)))

-- a body of a package, which is looked at in the text of the package with this number
abbrev pub package_body_of : Step → Library → World → State → ℕ → LibraryUnit → PackageBody → Option ℕ → Judgement State
package_body_of step l w s m u b None = construct u.pos (rule (Some s))
package_body_of step l w s m u b (Some n) =
    package_body (env_of step w m (key b.name) (seen_in_body w l n u)) s u.item_pos n b

abbrev pub subprogram_body : Env → State → SubprogramBody → Judgement State
subprogram_body env s b = construct b.specification.pos (do
  q ← specified env (at_unit s) b.specification
  next ← body_judged env s b [] [] q
  rule (Some next))

abbrev pub library_body : Env → State → SubprogramBody → Judgement State
library_body env s b = subprogram_body (record env { is_library = false }) s b

abbrev pub routine_entity : Interface → Entity
routine_entity (subprogram_interface r) = routine r
routine_entity i = hidden

abbrev pub bodies_judged : Step → Library → World → State → ℕ → LibraryUnit → LibraryItem → Judgement State
bodies_judged step l w s n u (library.PackageBody b) =
    package_body_of step l w s n u b (unit_named l.names (key b.name))
bodies_judged step l w s n u (library.Subprogram b) =
    library_body (env_of step w n (key b.specification.name) (seen_in w l u (routine_entity (interface_of w n)))) s b
bodies_judged step l w s n u i = construct u.pos (rule (Some s))

abbrev pub all_bodies_judged : Step → Library → World → State → ℕ → List LibraryUnit → Judgement State
all_bodies_judged step l w s n [] = construct nowhere (rule (Some s))
all_bodies_judged step l w s n (u ∷ us) = construct nowhere (do
  x ← (construct u.pos (do
    y ← bodies_judged step l w s n u u.item
    rule (Some y)))
  rest ← all_bodies_judged step l w x (n + 1) us
  rule (Some rest))

abbrev pub all_headings : Library → ℕ → List LibraryUnit → Judgement Unit
all_headings l n [] = construct nowhere (rule (Some tt))
all_headings l n (u ∷ us) = construct nowhere (do
  x ← heading l n u
  rest ← all_headings l (n + 1) us
  rule (Some tt))

-- the units before any was looked at
abbrev pub no_facts : ℕ → LibraryUnit → List Facts → List Facts
no_facts count u fs = if is_instance u.item then record { generic = count; formals = []; constants = [] } ∷ fs else fs

abbrev pub facts_before : ℕ → List LibraryUnit → List Facts
facts_before count [] = []
facts_before count (u ∷ us) = no_facts count u (facts_before count us)

abbrev pub world_before : Library → World
world_before l = record {
  standard = l.standard;
  names = l.names;
  interfaces = map (λ u. no_interface) l.units;
  instances = facts_before (length l.units) l.units;
  bodies = all_bodies l.units;
}

-- The main unit is the library procedure without parameters of the name that is given; its number is that of its body.
abbrev pub is_bare : SubprogramBody → Bool
is_bare b = nat_eq (length b.specification.parameters) 0 && is_none b.specification.result_mark

abbrev pub is_main : List ℕ → LibraryItem → Bool
is_main name (library.Subprogram b) = is_bare b && same_name name (key b.specification.name)
is_main name i = false

abbrev pub has_main : List ℕ → List LibraryUnit → Bool
has_main name [] = false
has_main name (u ∷ us) = is_main name u.item || has_main name us

-- behind all bodies the instances have the values of all constants of their generics
abbrev pub all_with_constants : List Facts → List GenericConstant → ℕ → List Facts → List Facts
all_with_constants instances cs n [] = []
all_with_constants instances cs n (f ∷ fs) =
    with_constants instances cs n f ∷ all_with_constants instances cs (n + 1) fs

abbrev pub resolved : World → State → World
resolved w s = record w { instances = all_with_constants w.instances (reverse s.constants_declared) 1 w.instances }

-- a whole program in one of the steps; without its main unit it is refused where its first file begins
abbrev pub judged_in : Step → Library → List ℕ → Judgement Walked
judged_in step l main = construct nowhere (do
  headings ← all_headings l 0 l.units
  x ← all_interfaces step l (record { world = world_before l; next = beginning_state }) l.order
  s ← all_bodies_judged step l x.world x.next 0 l.units
  rule (if has_main main l.units then Some (record { world = resolved x.world s; next = s }) else None))
