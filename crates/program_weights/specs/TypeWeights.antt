-- What the declarations of composite types weigh, as the typed program counts it, those of a generic or of none too, and
-- when the typed program's are those (Ada RM 2012, 3.6, 3.8).
use Rattle.std.specs.Prelude.{ℕ, suc, ◌+◌, ◌≤◌, List, [], ◌∷◌, sum_by, Option, if◌then◌else◌}
use Rattle.ada_meaning.specs.Types.{Subtype, scalar, array, fields, subtype_of, Components, no_component, and_component}
use Rattle.ada_rules.specs.Environment.{Words, Declares}
use Rattle.ada_tree.specs.declared.types.TypeDeclaration.{TypeDeclaration}
use Rattle.ada_tree.specs.Weights.{type_nodes, stands_in}

abbrev pub component_count : Components → ℕ
component_count no_component = 0
component_count (and_component t cs) = suc (component_count cs)

-- TYPE, a name, IS, ARRAY, an index, OF and a component; or TYPE, a name, IS, RECORD, END, RECORD and each component
abbrev pub shape_weight : Subtype → ℕ
shape_weight (scalar r) = 0
shape_weight (array r t) = 7
shape_weight (fields cs) = 6 + component_count cs
shape_weight (subtype_of i t) = 0

abbrev pub words_weight : List Words → ℕ
words_weight [] = 0
words_weight (w ∷ ws) = shape_weight w.subtype + words_weight ws

abbrev pub types_weight : List Declares → ℕ
types_weight [] = 0
types_weight (d ∷ ds) = words_weight d.words + types_weight ds

-- of those that stand in a generic, or in none
abbrev pub types_weight_in : Option ℕ → List Declares → ℕ
types_weight_in g [] = 0
types_weight_in g (d ∷ ds) = (if stands_in g d.generic then words_weight d.words else 0) + types_weight_in g ds

-- The types of the typed program weigh no more than what is declared: all of them, and those of each generic.
pub record AreDeclared (ts : List TypeDeclaration) (ds : List Declares) : Type 0 where
  pub all : sum_by type_nodes ts ≤ types_weight ds
  pub each : (g : Option ℕ) → sum_by (λ t. if stands_in g t.generic then type_nodes t else 0) ts ≤ types_weight_in g ds
