-- Instances in their order, and with the values of constants.
use Rattle.std.specs.Prelude.{ℕ, zero, suc, Bool, List, [], ◌∷◌}
use Rattle.cov_base.specs.TextOrder.{precedes}
use Rattle.ada_meaning.specs.Program as meaning
use Rattle.ada_tree.specs.declared.program.Instance.{Instance}
use Rattle.ada_rules.specs.Statics.{Facts}

abbrev pub stands_before : Instance → Instance → Bool
stands_before a b = precedes a.place b.place

-- the instance at a place has the values of constants that these facts tell
abbrev pub with_values_at : ℕ → Facts → List meaning.Instance → List meaning.Instance
with_values_at n f [] = []
with_values_at zero f (i ∷ is) = record i { constants = f.constants } ∷ is
with_values_at (suc n) f (i ∷ is) = i ∷ with_values_at n f is
