-- What whole programs come to, and why they are refused.
use Rattle.std.specs.Prelude.{◌≡◌, ℕ, List, reverse, Option, Some, Result, Ok, Err}
use Rattle.cov_base.specs.declared.position.Pos.{Pos}
use Rattle.cov_base.specs.declared.failure.Failure.{Failure}
use Rattle.cov_base.specs.declared.failure.Failure.TheVariants.{Fault, WantOfMemory}
use Rattle.ada_syntax.specs.declared.unit.Unit.{Unit as LibraryUnit}
use Rattle.ada_meaning.specs.Program as meaning
use Rattle.ada_tree.specs.declared.program.Program.{Program}
use Rattle.ada_tree.specs.Programs as tree
use Rattle.ada_rules.specs.Environment.{World}
use Rattle.ada_rules.specs.Legal as rules
use Rattle.ada_rules.specs.Legal.{Checked, unnamed, mistyped, too_large, legal, checked, checked_in, after_names, after_values}
use Rattle.ada_rules.specs.Library.{Library as RulesLibrary}
use Rattle.ada_rules.specs.Limits.{first_excess}
use Rattle.ada_rules.specs.Refusals.{BreaksNames, BreaksTypes}
use Rattle.ada_rules.specs.Statics.{first_unmet}
use Rattle.ada_entities.specs.declared.fault.Refusal.{Refusal}
use Rattle.ada_entities.specs.EntityViews.{Tables}
use Rattle.ada_entities.specs.TypeTable.{tables}
use Rattle.ada_library.specs.declared.library.Library.{Library}
use Rattle.ada_phrases.specs.declared.scope.Step.TheVariants as step
use Rattle.typed_program.specs.program_walk.specs.States.{state_of}
use Rattle.typed_program.specs.program_walk.specs.Walks.{Begins}
use Rattle.word_limits.specs.Excess.{HasUnits}
use Rattle.walked_program.specs.declared.fault.CheckFault.{CheckFault}
use Rattle.walked_program.specs.declared.fault.CheckFault.TheVariants.{Naming, Typing, Limit}
use Rattle.walked_program.specs.declared.whole_walk.WholeWalk.{WholeWalk}
use Rattle.program_weights.specs.Wholes.{HasEntries, DeclaresTypes, PassesLimit}
use Rattle.walked_program.specs.Judging.{IsWholeLibrary, IsJudged, JudgedAs}

-- A verdict that refuses a program, as a fault: the rules' step, and where; of want of memory nothing is said.
pub data IsRefusal (verdict : Checked) : Failure CheckFault → Type 0 where
  breaks_names : {p : Pos} → verdict ≡ unnamed p → IsRefusal verdict (Fault (Naming p))
  breaks_types : {p : Pos} → verdict ≡ mistyped p → IsRefusal verdict (Fault (Typing p))
  passes_a_limit : {p : Pos} → verdict ≡ too_large p → IsRefusal verdict (Fault (Limit p))
  memory_is_out : IsRefusal verdict WantOfMemory

-- units with this main unit, whose name is in lower case, are refused
abbrev pub Refuses : List LibraryUnit → (main : List ℕ) → Failure CheckFault → Type 0
Refuses units main f = IsRefusal (checked units main) f

-- what a refusal tells of: a broken rule, or a limit
abbrev pub IsBroken : RulesLibrary → (main : List ℕ) → CheckFault → Type 0
IsBroken l main (Naming p) = BreaksNames l main p
IsBroken l main (Typing p) = BreaksTypes l main p
IsBroken l main (Limit p) = PassesLimit l main p

-- a refusal in one of the two steps
abbrev pub naming_of : Failure Refusal → Failure CheckFault
naming_of (Fault r) = Fault (Naming r.pos)
naming_of WantOfMemory = WantOfMemory

abbrev pub typing_of : Failure Refusal → Failure CheckFault
typing_of (Fault r) = Fault (Typing r.pos)
typing_of WantOfMemory = WantOfMemory

-- a step that passes leaves the verdict to those behind it
pub record Passes (verdict later : Checked) : Type 0 where
  pub comes : verdict ≡ later

pub record IsLegal (verdict : Checked) (p : meaning.Program) : Type 0 where
  pub comes : verdict ≡ legal p

-- The rules on names hold, or refuse the program.
abbrev pub NamedAs : {A : Type 0} → RulesLibrary → (main : List ℕ) → Result A (Failure CheckFault) → Type 0
NamedAs l main (Ok u) = Passes (checked_in l main) (after_names l main)
NamedAs l main (Err f) = IsRefusal (checked_in l main) f

abbrev pub ComesToNamed : {A : Type 0} → Library → List LibraryUnit → (main : List ℕ) → Result A (Failure CheckFault)
    → Type 0
ComesToNamed x units main result = (l : RulesLibrary) → IsWholeLibrary x units l → NamedAs l main result

-- Those on types come to this walk, or refuse the program.
abbrev pub TypedAs : Library → RulesLibrary → (main : List ℕ) → Result WholeWalk (Failure CheckFault) → Type 0
TypedAs x l main (Ok w) = JudgedAs step.Typing x l main (Ok w)
TypedAs x l main (Err f) = IsRefusal (after_names l main) f

abbrev pub ComesToTyped : Library → List LibraryUnit → (main : List ℕ) → Result WholeWalk (Failure CheckFault) → Type 0
ComesToTyped x units main result = (l : RulesLibrary) → IsWholeLibrary x units l → TypedAs x l main result

-- the first demand that is not met, and where a limit is passed first, behind such a walk
abbrev pub IsUnmet : WholeWalk → Option Pos → Type 0
IsUnmet w o = (k : Tables) → Begins w.walk k → o ≡ first_unmet w.instances (reverse (state_of k w.walk).demands)

abbrev pub IsExcess : WholeWalk → List LibraryUnit → Option Pos → Type 0
IsExcess w units o =
    (k : Tables) (world : World) → k.types ≡ tables w.walk.symbols.types
    → HasUnits w.instances w.walk.symbols.units world → o ≡ first_excess world (state_of k w.walk) units

-- what both come to
abbrev pub AcceptedAs : {A : Type 0} → Checked → meaning.Program → Result A (Failure CheckFault) → Type 0
AcceptedAs verdict p (Ok u) = IsLegal verdict p
AcceptedAs verdict p (Err f) = IsRefusal verdict f

abbrev pub ComesToAccepted : {A : Type 0} → List LibraryUnit → WholeWalk → Result A (Failure CheckFault) → Type 0
ComesToAccepted units w result =
    (x : Library) (l : RulesLibrary) (main : List ℕ) → IsWholeLibrary x units l → (k : Tables) → Begins w.walk k
    → k.types ≡ tables w.walk.symbols.types → (j : IsJudged step.Typing x l main w k)
    → AcceptedAs (after_values l main j.walked) (rules.program_of j.walked.world j.walked.next main) result

-- The verdict is this typed program, or a refusal.
abbrev pub VerdictAs : Checked → Result Program (Failure CheckFault) → Type 0
VerdictAs verdict (Ok p) = IsLegal verdict (tree.program_of p)
VerdictAs verdict (Err f) = IsRefusal verdict f

abbrev pub ComesToProgram : Library → List LibraryUnit → WholeWalk → (main : List ℕ)
    → Result Program (Failure CheckFault) → Type 0
ComesToProgram x units w main result =
    (l : RulesLibrary) → IsWholeLibrary x units l → JudgedAs step.Typing x l main (Ok w)
    → VerdictAs (after_names l main) result

abbrev pub HasEntriesOf : Library → List LibraryUnit → WholeWalk → (main : List ℕ) → Program → Type 0
HasEntriesOf x units w main p =
    (l : RulesLibrary) → IsWholeLibrary x units l → JudgedAs step.Typing x l main (Ok w) → HasEntries l main p

abbrev pub DeclaresTypesOf : Library → List LibraryUnit → WholeWalk → (main : List ℕ) → Program → Type 0
DeclaresTypesOf x units w main p =
    (l : RulesLibrary) → IsWholeLibrary x units l → JudgedAs step.Typing x l main (Ok w) → DeclaresTypes l main p

-- and over all steps
abbrev pub ComesToVerdict : Library → List LibraryUnit → (main : List ℕ) → Result Program (Failure CheckFault) → Type 0
ComesToVerdict x units main result =
    (l : RulesLibrary) → IsWholeLibrary x units l → VerdictAs (checked_in l main) result

abbrev pub HasEntriesIn : Library → List LibraryUnit → (main : List ℕ) → Program → Type 0
HasEntriesIn x units main p = (l : RulesLibrary) → IsWholeLibrary x units l → HasEntries l main p

abbrev pub DeclaresTypesIn : Library → List LibraryUnit → (main : List ℕ) → Program → Type 0
DeclaresTypesIn x units main p = (l : RulesLibrary) → IsWholeLibrary x units l → DeclaresTypes l main p
