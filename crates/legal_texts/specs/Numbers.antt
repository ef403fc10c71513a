-- The numbers of bodies: each body is the first of its name in its package, among all in the order of the text.
use Rattle.std.specs.Prelude.{◌≡◌, ℕ, List, Some, slice_get}
use Rattle.ada_rules.specs.Environment.{BodyName}
use Rattle.ada_rules.specs.Subprograms.{place_among}

abbrev pub AreNumbered : List BodyName → Type 0
AreNumbered bs = (k : ℕ) (b : BodyName) → slice_get bs k ≡ Some b → place_among b.package_name b.name 0 bs ≡ Some k
