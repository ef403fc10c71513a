-- Why an enumeration has a bound on its literals (`most_literals`): past it the position number of the last one is no number of the base
-- range, and the rules alone do not refuse the type.
use Rattle.std.proofs.Common.{◌≡◌, ◌<◌, ℕ, pos, ◌-ℤ◌, true, List, length, arith}
use Rattle.std.proofs.lemmas.Int.{ints}
use Rattle.ada_syntax.specs.declared.name.Identifier.{Identifier}
use Rattle.ada_meaning.specs.Arithmetic.{base_range, is_within}
use Rattle.ada_meaning.specs.Program.{Program}
use Rattle.ada_meaning.specs.Resolved.{shape_in}
use Rattle.ada_meaning.specs.WellFormed.{IsType}
use Rattle.ada_rules.specs.Declarations.{enumerated}
use Rattle.ada_rules.specs.Entities.{Region}
use Rattle.ada_rules.specs.Types.{Identity, subtype_in_tree}
use Rattle.legal_laws.specs.Written.{most_literals}

past_base : (n : ℕ) → most_literals < n → is_within base_range (pos n -ℤ pos 1) ≡ true → ⊥
past_base n many h = grind (arith, ints, many, h)

pub no_type : (p : Program) (inst : ℕ) (i : Identity) (region : Region) (names : List Identifier) → most_literals < length names
    → IsType (shape_in p inst (subtype_in_tree (enumerated i region names).subtype)) → ⊥
no_type p inst i region names many is = past_base (length names) many is.1
