-- What the headings of units are asked, one after the other.
use Rattle.std.specs.Prelude.{◌≡◌, ℕ, Bool, not, ◌&&◌, ◌||◌, List, ◌++◌, codes, Option, slice_get, Result, Ok, Err}
use Rattle.std.specs.Option.{option_and_then}
use Rattle.cov_base.specs.declared.position.Pos.{Pos}
use Rattle.cov_base.specs.declared.failure.Failure.{Failure}
use Rattle.ada_syntax.specs.declared.name.Identifier.{Identifier}
use Rattle.ada_syntax.specs.declared.unit.LibraryItem.{LibraryItem}
use Rattle.ada_syntax.specs.declared.unit.Unit.{Unit as LibraryUnit}
use Rattle.ada_rules.specs.Entities.{key, same_name}
use Rattle.ada_rules.specs.Library as rules
use Rattle.ada_rules.specs.Library.{unit_named, bodies_named, first_number, is_first_name, is_test_io, wants_body, is_declared_well, all_named_in_with}
use Rattle.ada_entities.specs.declared.fault.Refusal.{Refusal}
use Rattle.ada_rules.specs.Units.{all_headings}
use Rattle.ada_entities.specs.Answers.{Refuses, Answers}
use Rattle.ada_library.specs.declared.library.Library.{Library}
use Rattle.ada_library.specs.LibraryView.{IsLibrary}

abbrev pub the_same : {A : Type 0} → A → A
the_same x = x

-- the heading of a unit, and those of all, whichever the rules' library is
abbrev pub AnswersHeading : Library → List LibraryUnit → ℕ → LibraryUnit → Result (Unit {0}) (Failure Refusal) → Type 0
AnswersHeading x all n u result =
    (l : rules.Library) → IsLibrary x all l → Answers the_same (rules.heading l n u).answer result

abbrev pub AnswersHeadings : Library → List LibraryUnit → Result (Unit {0}) (Failure Refusal) → Type 0
AnswersHeadings x all result =
    (l : rules.Library) → IsLibrary x all l → Answers the_same (all_headings l 0 all).answer result

-- what comes first passes, and the rest decides; or it is refused, and so is the whole
abbrev pub PassesOn : {A B : Type 0} → (whole rest : Result A Pos) → Result B (Failure Refusal) → Type 0
PassesOn whole rest (Ok x) = whole ≡ rest
PassesOn whole rest (Err f) = Refuses whole f

abbrev pub MayName : Library → ℕ → LibraryItem → Option ℕ → Bool → Type 0
MayName x n i unit may =
    (all : List LibraryUnit) (l : rules.Library) → IsLibrary x all l → may ≡ rules.may_name l n i unit

abbrev pub IsKnown : Library → ℕ → LibraryItem → Identifier → Bool → Type 0
IsKnown x n item i known =
    (all : List LibraryUnit) (l : rules.Library) → IsLibrary x all l
    → known ≡ (is_test_io i || rules.may_name l n item (unit_named l.names (key i)))

-- names in `with` clauses of a unit, with others behind them
abbrev pub ChecksNames : Library → ℕ → LibraryUnit → List Identifier → Result (Unit {0}) (Failure Refusal) → Type 0
ChecksNames x n u names result =
    (all : List LibraryUnit) (l : rules.Library) (more : List Identifier) → IsLibrary x all l
    → PassesOn (all_named_in_with l n u (names ++ more)).answer (all_named_in_with l n u more).answer result

-- whether the package with a name has a body; whether a body is the only one, and is wanted; and whether a unit's name
-- is new
abbrev pub WantsBody : Library → List LibraryUnit → List ℕ → Bool → Type 0
WantsBody x all name wants =
    (l : rules.Library) → IsLibrary x all l
    → wants ≡ wants_body (option_and_then (slice_get l.units) (unit_named l.names name))

abbrev pub IsWanted : Library → List LibraryUnit → ℕ → List ℕ → Bool → Type 0
IsWanted x all n name wanted =
    (l : rules.Library) → IsLibrary x all l
    → wanted ≡ (wants_body (option_and_then (slice_get l.units) (unit_named l.names name))
    && is_first_name n (first_number (bodies_named name 0 l.units)))

abbrev pub IsNew : Library → ℕ → List ℕ → Bool → Type 0
IsNew x n name new =
    (all : List LibraryUnit) (l : rules.Library) → IsLibrary x all l
    → new ≡ (not (same_name name (codes "test_io")) && is_first_name n (unit_named l.names name))

abbrev pub IsDeclaredWell : Library → List LibraryUnit → ℕ → LibraryItem → Bool → Type 0
IsDeclaredWell x all n i well = (l : rules.Library) → IsLibrary x all l → well ≡ is_declared_well l n i
