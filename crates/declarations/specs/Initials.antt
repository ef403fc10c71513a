-- Initial values of objects of the library level, as the checker keeps them.
use Rattle.std.specs.Prelude.{List, length, option_map, Result}
use Rattle.cov_base.specs.declared.position.Pos.{Pos}
use Rattle.cov_base.specs.declared.failure.Failure.{Failure}
use Rattle.ada_tree.specs.Programs.{initial_of}
use Rattle.ada_tree.specs.View.{static_value_of}
use Rattle.ada_rules.specs.Plan.{ruled, answer_at}
use Rattle.ada_rules.specs.Environment.{State, Given, given}
use Rattle.ada_rules.specs.Expressions as rules
use Rattle.ada_rules.specs.Declarations as declarations
use Rattle.ada_rules.specs.Declarations.{value_place, known_value}
use Rattle.ada_meaning.specs.Program as program
use Rattle.ada_entities.specs.declared.fault.Refusal.{Refusal}
use Rattle.ada_entities.specs.Answers.{Answers}
use Rattle.ada_entities.specs.declared.types.Subtype.{Subtype}
use Rattle.ada_entities.specs.EntityViews.{Tables}
use Rattle.program_walk.specs.declared.symbols.Symbols.{Symbols}
use Rattle.program_walk.specs.SymbolViews.{Begins, IsKnown}
use Rattle.program_walk.specs.declared.part.Valued.{Valued}
use Rattle.program_walk.specs.Parts.{valued_of}
use Rattle.program_walk.specs.Subtypes.{subtype_in}
use Rattle.declarations.specs.declared.within.Within.{Within}
use Rattle.declarations.specs.declared.initial.LibraryValue.{LibraryValue}
use Rattle.declarations.specs.Within.{initial_within}

abbrev pub library_value_of : Tables → LibraryValue → declarations.LibraryValue
library_value_of k v = record { initial = initial_of v.initial; known = option_map static_value_of v.known }

-- a static value in `others`, where there is an initial value
abbrev pub with_known : List Pos → rules.Valued → State → program.Initial → Given declarations.LibraryValue
with_known others e n v = given (record { initial = v; known = known_value others e }) n

-- in the step of types
abbrev pub IsTypedValue : Symbols → Pos → Subtype → Within → List Pos → Valued → Result LibraryValue (Failure Refusal)
    → Type 0
IsTypedValue symbols p t w others e result =
    IsKnown symbols → (k : Tables) → Begins symbols k → (n : State)
    → Answers (λ v. given (library_value_of k v) n)
    (answer_at (value_place p (subtype_in k t) others) (ruled (option_map (with_known others (valued_of k e) n)
    (initial_within k.types (length others) (valued_of k e) w)))) result
