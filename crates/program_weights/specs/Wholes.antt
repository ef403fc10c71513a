-- What the rules on types come to for whole programs: what their units and their declarations of types weigh, and where a
-- counted limit is passed first.
use Rattle.std.specs.Prelude.{◌≡◌, ℕ, List, Some, Ok}
use Rattle.cov_base.specs.declared.position.Pos.{Pos}
use Rattle.ada_syntax.specs.declared.unit.Unit.{Unit as LibraryUnit}
use Rattle.ada_tree.specs.declared.program.Program.{Program}
use Rattle.ada_rules.specs.Entities.{whole_standard}
use Rattle.ada_rules.specs.Environment.{typing}
use Rattle.ada_rules.specs.Library.{Library as RulesLibrary, library_of}
use Rattle.ada_rules.specs.Limits.{first_excess}
use Rattle.ada_rules.specs.Units.{Walked, judged_in}
use Rattle.program_weights.specs.Entries.{entries_of}
use Rattle.program_weights.specs.TypeWeights.{AreDeclared}

-- the rules' library of these units, in the whole language
abbrev pub whole_library : List LibraryUnit → RulesLibrary
whole_library units = library_of whole_standard units

-- what the limits ask of the units, in the world that the rules on types come to
abbrev pub HasEntries : RulesLibrary → (main : List ℕ) → Program → Type 0
HasEntries l main p = (x : Walked) → (judged_in typing l main).answer ≡ Ok x → p.units ≡ entries_of x.world l

-- what the types of the typed program weigh, beside what the rules on types leave declared
abbrev pub DeclaresTypes : RulesLibrary → (main : List ℕ) → Program → Type 0
DeclaresTypes l main p =
    (x : Walked) → (judged_in typing l main).answer ≡ Ok x → AreDeclared p.types x.next.types_declared

-- A library passes a counted limit here first, where the rules on types hold.
pub record PassesLimit (l : RulesLibrary) (main : List ℕ) (p : Pos) : Type 0 where
  pub walked : Walked
  pub typed : (judged_in typing l main).answer ≡ Ok walked
  pub excess : first_excess walked.world walked.next l.units ≡ Some p
