-- What names lead to, as far as marks go: types and subtypes, units, and Test_IO (Ada RM 2012, 4.1.3, 8.3).
use Rattle.std.specs.Prelude.{◌≡◌, ℕ, List, Option, Some, None}
use Rattle.std.specs.Option.{option_and_then}
use Rattle.ada_syntax.specs.Tree as source
use Rattle.ada_rules.specs.Denoted.{Denoted, a_mark, a_unit, the_test_io, denoted_of}
use Rattle.ada_rules.specs.Entities.{key, Entity, entity_of, visible}
use Rattle.ada_rules.specs.Environment.{Env, regions_of}
use Rattle.ada_rules.specs.Expressions.{part_of_unit}

abbrev pub leads : Denoted → Option Denoted
leads (a_mark i t) = Some (a_mark i t)
leads (a_unit n) = Some (a_unit n)
leads the_test_io = Some the_test_io
leads d = None

abbrev pub lead_of : Option Entity → Option Denoted
lead_of o = option_and_then (λ x. leads (denoted_of x)) o

-- a part of what a name leads to
abbrev pub part_lead : Env → List ℕ → Denoted → Option Denoted
part_lead env name (a_unit n) = lead_of (part_of_unit env n name)
part_lead env name the_test_io = lead_of (entity_of name env.world.standard.test_io_declarations)
part_lead env name d = None

abbrev pub lead : Env → source.Name → Option Denoted
lead env (source.simple i) = lead_of (visible (key i) (regions_of env))
lead env (source.selected n i) = option_and_then (part_lead env (key i)) (lead env n)
lead env (source.attribute n i) = None
lead env (source.applied n es) = None

-- where both lead to something, it is the same
abbrev pub Fit : Option Denoted → Option Denoted → Type 0
Fit (Some d) (Some e) = d ≡ e
Fit a b = Unit {0}
