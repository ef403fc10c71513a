-- Changes of a region, whatever the numbers in its entities lead to.
use Rattle.std.specs.Prelude.{◌≡◌, ℕ, List, [], ◌∷◌, ◌++◌, map, reverse, slice_get, unwrap_or, Option, Result, Ok, if◌then◌else◌}
use Rattle.std.specs.Option.{option_or}
use Rattle.cov_base.specs.declared.failure.Failure.{Failure}
use Rattle.cov_base.specs.declared.position.Pos.{Pos}
use Rattle.ada_syntax.specs.declared.name.Identifier.{Identifier}
use Rattle.ada_rules.specs.Plan.{rule, construct}
use Rattle.ada_rules.specs.Entities as rules
use Rattle.ada_rules.specs.Entities.{same_name}
use Rattle.ada_rules.specs.Environment.{with_name}
use Rattle.ada_rules.specs.Library.{seen_too}
use Rattle.ada_entities.specs.declared.entity.Entity.{Entity}
use Rattle.ada_entities.specs.declared.fault.Refusal.{Refusal}
use Rattle.ada_entities.specs.Answers.{Refuses}
use Rattle.ada_entities.specs.EntityViews.{Tables, entity_of, region_of}

-- a declaration of a name, which is a construct of its own (RM 8.3)
abbrev pub declaration : rules.Region → Identifier → rules.Entity → Result rules.Region Pos
declaration region i x = (construct i.pos (rule (with_name region i x))).answer

-- what is seen too, unless it is there already (RM 10.1.6)
abbrev pub Sees : (old : List (List ℕ × Entity)) → List ℕ → Entity → (new : List (List ℕ × Entity)) → Type 0
Sees old name x new = (k : Tables) → region_of k new ≡ seen_too name (entity_of k x) (region_of k old)

abbrev pub Declares : (old : List (List ℕ × Entity)) → Identifier → Entity → (new : List (List ℕ × Entity)) → Type 0
Declares old i x new = (k : Tables) → declaration (region_of k old) i (entity_of k x) ≡ Ok (region_of k new)

abbrev pub RefusesName : List (List ℕ × Entity) → Identifier → Entity → Failure Refusal → Type 0
RefusesName region i x f = (k : Tables) → Refuses (declaration (region_of k region) i (entity_of k x)) f

abbrev pub Redefines : (old : List (List ℕ × Entity)) → List ℕ → Entity → (new : List (List ℕ × Entity)) → Type 0
Redefines old name x new = (k : Tables) → region_of k new ≡ rules.redefined name (entity_of k x) (region_of k old)

-- a region with an entry at its place, or behind the others
abbrev pub with_entry : List ℕ → Entity → List (List ℕ × Entity) → List (List ℕ × Entity)
with_entry name x [] = (name, x) ∷ []
with_entry name x (e ∷ es) = if same_name name e.0 then (e.0, x) ∷ es else e ∷ with_entry name x es

-- regions that stand one in the other, the innermost first
abbrev pub regions_of : Tables → List (List (List ℕ × Entity)) → List rules.Region
regions_of k rs = map (region_of k) rs

-- and inside the predefined names
abbrev pub in_standard : Tables → List (List (List ℕ × Entity)) → List rules.Region
in_standard k rs = regions_of k rs ++ rules.predefined_region ∷ []

-- the innermost, and those round it
abbrev pub innermost : List (List (List ℕ × Entity)) → List (List ℕ × Entity)
innermost [] = []
innermost (r ∷ rs) = r

abbrev pub enclosing : List (List (List ℕ × Entity)) → List (List (List ℕ × Entity))
enclosing [] = []
enclosing (r ∷ rs) = rs

-- the region at this depth, 0 for the outermost
abbrev pub region_at : ℕ → List (List (List ℕ × Entity)) → List (List ℕ × Entity)
region_at depth rs = unwrap_or (slice_get (reverse rs) depth) []

-- what a name denotes behind regions that are looked at from the outermost, where it denoted this before
abbrev pub found_behind : Tables → List ℕ → Option rules.Entity → List (List (List ℕ × Entity)) → Option rules.Entity
found_behind k name o [] = o
found_behind k name o (r ∷ rs) = found_behind k name (option_or (rules.entity_of name (region_of k r)) o) rs
