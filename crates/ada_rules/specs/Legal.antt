-- What a list of units comes to: a typed program, or the first of the rules' steps that refuses it, and where. The
-- rules on names come first, then those on types, of which those on static values come last, then the counted limits.
use Rattle.std.specs.Prelude.{ℕ, List, [], ◌∷◌, map, reverse, Option, Some, None, unwrap_or, Result, Ok, Err}
use Rattle.cov_base.specs.declared.position.Pos.{Pos}
use Rattle.cov_base.specs.TextOrder.{precedes}
use Rattle.ada_syntax.specs.declared.unit.Unit.{Unit as LibraryUnit}
use Rattle.ada_meaning.specs.Obligations.{in_order, ordered_exceptions}
use Rattle.ada_meaning.specs.Program.{Instance, Program}
use Rattle.ada_rules.specs.Statics.{Facts, first_unmet}
use Rattle.ada_rules.specs.Entities.{Standard, whole_standard}
use Rattle.ada_rules.specs.Environment.{naming, typing, World, State}
use Rattle.ada_rules.specs.Subprograms.{body_number}
use Rattle.ada_rules.specs.Library.{Library, library_of}
use Rattle.ada_rules.specs.Limits.{first_excess}
use Rattle.ada_rules.specs.Units.{Walked, judged_in}

pub data Checked : Type 0 where
  unnamed : Pos → Checked
  mistyped : Pos → Checked
  too_large : Pos → Checked
  legal : Program → Checked

-- the typed program: instances stand in the order of the text, and exceptions as obligations list them
abbrev pub listed : Program → Program
listed p = record p { exceptions = map (λ x. x.entry) (ordered_exceptions p) }

-- with the values of constants
abbrev pub with_values : List Instance → List Facts → List Instance
with_values (i ∷ is) (f ∷ fs) = record i { constants = f.constants } ∷ with_values is fs
with_values is fs = is

abbrev pub program_of : World → State → List ℕ → Program
program_of w s main = listed (record {
  subprograms = reverse s.subprograms;
  main = unwrap_or (body_number w main main) 0;
  objects = reverse s.objects_declared;
  constants = reverse s.constants_declared;
  instances = with_values (in_order (λ a b. precedes a.place b.place) (reverse s.instances_declared)) w.instances;
  declared = reverse s.exceptions_declared;
  exceptions = [];
})

abbrev pub refused_or : (Pos → Checked) → Option Pos → (Unit {0} → Checked) → Checked
refused_or refusal None later = later tt
refused_or refusal (Some p) later = refusal p

abbrev pub after_step : {A : Type 0} → (Pos → Checked) → Result A Pos → (A → Checked) → Checked
after_step refusal (Err p) later = refusal p
after_step refusal (Ok x) later = later x

-- the steps behind the rules on names, each where those before it pass: the rules on types, those on static values, the
-- counted limits
abbrev pub after_counts : Library → List ℕ → Walked → Checked
after_counts l main x =
    refused_or too_large (first_excess x.world x.next l.units) (λ u. legal (program_of x.world x.next main))

abbrev pub after_values : Library → List ℕ → Walked → Checked
after_values l main x =
    refused_or mistyped (first_unmet x.world.instances (reverse x.next.demands)) (λ u. after_counts l main x)

abbrev pub after_names : Library → List ℕ → Checked
after_names l main = after_step mistyped (judged_in typing l main).answer (λ x. after_values l main x)

-- the name of the main unit is given in lower case
abbrev pub checked_in : Library → List ℕ → Checked
checked_in l main = after_step unnamed (judged_in naming l main).answer (λ x. after_names l main)

-- where these names are there before any unit, and in the whole language
abbrev pub checked_with : Standard → List LibraryUnit → List ℕ → Checked
checked_with standard units main = checked_in (library_of standard units) main

abbrev pub checked : List LibraryUnit → List ℕ → Checked
checked units main = checked_with whole_standard units main
