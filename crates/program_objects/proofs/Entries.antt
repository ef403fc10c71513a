-- What the limits ask of the units of a legal program is said in the world that the rules on types come to.
use Rattle.std.proofs.Common.{◌≡◌, ℕ, List, Ok, sym, subst}
use Rattle.ada_meaning.specs.Program.{Program}
use Rattle.ada_rules.specs.Environment.{typing}
use Rattle.ada_rules.specs.Legal.{legal, checked}
use Rattle.ada_rules.specs.Units.{Walked, judged_in}
use Rattle.ada_syntax.specs.declared.unit.Unit.{Unit as LibraryUnit}
use Rattle.ada_tree.specs.declared.program.UnitEntry.{UnitEntry}
use Rattle.legal_programs.proofs.Passed.{is_legal, legal_comes}
use Rattle.program_objects.specs.Legal.{entries_in, entries_for}
use Rattle.program_weights.specs.Entries.{entries_of}
use Rattle.program_weights.specs.Wholes.{whole_library}

-- what holds of the entries in each such world holds of them
pub entries_law : (units : List LibraryUnit) (main : List ℕ) (p : Program) → checked units main ≡ legal p → (P : List UnitEntry → Type 0)
    → ((x : Walked) → (judged_in typing (whole_library units) main).answer ≡ Ok x → P (entries_of x.world (whole_library units))) → P (entries_for units main)
entries_law units main p h P each =
    let comes = legal_comes (whole_library units) main p h in
    subst (λ r. P (entries_in (whole_library units) r)) (sym comes) (each (is_legal (whole_library units) main p h).walked comes)
