-- Regions in which names are hidden, declared and redefined, and what a construct stands in.
use Rattle.std.proofs.Common.{ℕ, Bool, true, false, if◌then◌else◌, List, [], ◌∷◌, ◌++◌, Some, IfSome, IfOk}
use Rattle.cov_base.specs.declared.position.Pos.{Pos}
use Rattle.ada_syntax.specs.declared.name.Identifier.{Identifier}
use Rattle.ada_meaning.specs.Program.{Program}
use Rattle.ada_meaning.specs.Shape.{Shape}
use Rattle.ada_meaning.specs.Tree as tree
use Rattle.ada_rules.specs.Plan.{◌>>=◌, rule}
use Rattle.ada_rules.specs.Types.{AdaType}
use Rattle.ada_rules.specs.Entities.{key, same_name, Entity, hidden, Region, is_new, redefined}
use Rattle.ada_rules.specs.Environment.{Env, with_local, opened, in_loop, in_handler, with_name, hide, hide_all}
use Rattle.legal_laws.specs.Known.{IsEntity, IsRegion, IsEnv}
use Rattle.legal_laws.proofs.Passing.{if_test, answered, ruled_so, part_so, every_end}

module _ (p : Program) (inst : ℕ) (declared : AdaType → Type 0) (shape_of : tree.Object → Shape) (Sees : tree.Object → Type 0) where
  abbrev Entities : Entity → Type 0
  Entities x = IsEntity p inst declared shape_of Sees x

  abbrev Regions : Region → Type 0
  Regions region = IsRegion p inst declared shape_of Sees region

  abbrev Places : Env → Type 0
  Places env = IsEnv p inst declared shape_of Sees env

  pub name_added : (region : Region) (i : Identifier) (x : Entity) → Regions region → Entities x → IfSome (with_name region i x) Regions
  name_added region i x all h =
      if_test Regions (is_new region i) (Some (region ++ (key i, x) ∷ [])) (λ b. every_end (λ e. Entities e.1) region (key i, x) all h)

  pub hidden_known : (region : Region) (i : Identifier) → Regions region → IfOk (hide region i).answer Regions
  hidden_known region i all =
      answered Regions i.pos (rule (with_name region i hidden)).outcome (ruled_so Regions (with_name region i hidden) (name_added region i hidden all tt))

  pub all_hidden_known : (q : Pos) (region : Region) (is : List Identifier) → Regions region → IfOk (hide_all q region is).answer Regions
  all_hidden_known q region [] all = all
  all_hidden_known q region (i ∷ is) all =
      answered Regions q _
      (part_so Regions Regions (hide region i).answer (λ r. hide_all q r is >>= (λ rs. rule (Some rs))) (hidden_known region i all)
      (λ r h. part_so Regions Regions (hide_all q r is).answer (λ rs. rule (Some rs)) (all_hidden_known q r is h) (λ rs k. k)))

  redefined_if : (b : Bool) (e : List ℕ × Entity) (x : Entity) (es more : Region) → Entities x → Regions (e ∷ es) → Regions more
      → Regions (if b then (e.0, x) ∷ es else e ∷ more)
  redefined_if true e x es more h all rest = (h, all.1)
  redefined_if false e x es more h all rest = (all.0, rest)

  pub redefined_known : (name : List ℕ) (x : Entity) (region : Region) → Entities x → Regions region → Regions (redefined name x region)
  redefined_known name x [] h all = tt
  redefined_known name x (e ∷ es) h all =
      redefined_if (same_name name e.0) e x es (redefined name x es) h all (redefined_known name x es h all.1)

  -- where a construct stands
  own_local : (b : Bool) (region own : Region) → Regions region → Regions own → Regions (if b then region else own)
  own_local true region own h k = h
  own_local false region own h k = k

  pub local_known : (env : Env) (region : Region) → Places env → Regions region → Places (with_local env region)
  local_known env region is h = record {
    step = is.step;
    integers = is.integers;
    booleans = is.booleans;
    regions = (h, is.regions.1);
    own = own_local env.is_library region env.own h is.own;
    units = is.units;
    test_io = is.test_io;
  }

  pub opened_known : (env : Env) → Places env → Places (opened env)
  opened_known env is = record {
    step = is.step;
    integers = is.integers;
    booleans = is.booleans;
    regions = (tt, is.regions);
    own = is.own;
    units = is.units;
    test_io = is.test_io;
  }

  pub loop_known : (env : Env) → Places env → Places (in_loop env)
  loop_known env is = record {
    step = is.step;
    integers = is.integers;
    booleans = is.booleans;
    regions = is.regions;
    own = is.own;
    units = is.units;
    test_io = is.test_io;
  }

  pub handler_known : (env : Env) → Places env → Places (in_handler env)
  handler_known env is = record {
    step = is.step;
    integers = is.integers;
    booleans = is.booleans;
    regions = is.regions;
    own = is.own;
    units = is.units;
    test_io = is.test_io;
  }
