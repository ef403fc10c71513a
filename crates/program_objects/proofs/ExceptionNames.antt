-- The exceptions of a legal program have names, those of a generic in each of its instances.
use Rattle.std.proofs.Common.{ℕ, suc, ◌+◌, ◌*◌, ◌≤◌, nat_eq, Bool, true, false, List, [], ◌∷◌, length, map, Option, None, Some, if◌then◌else◌, arith, length-append}
use Rattle.std.specs.Prelude.{IsAscii}
use Rattle.std.proofs.lemmas.Str.{IsAscii-append}
use Rattle.std.proofs.lemmas.Str.Ascii.{IsAscii-cons}
use Rattle.cov_base.specs.Lists.{Everywhere}
use Rattle.ada_meaning.specs.Obligations.{is_listed_before, joined, listed, listed_by, listed_for, listed_in, ListedException, ordered_exceptions}
use Rattle.ada_meaning.specs.Program.{ExceptionDeclaration, Instance, Program}
use Rattle.ada_syntax.specs.declared.unit.Unit.{Unit as LibraryUnit}
use Rattle.parsed_texts.specs.legal_names.proofs.Programs.{every_ordered}
use Rattle.parsed_texts.specs.legal_names.specs.Named.{HasNames, IsNamed, IsOfUnits}
use Rattle.parsed_texts.specs.legal_names.specs.Spelled.{longest_word, IsWord}
use Rattle.program_objects.proofs.Counts.{both_lists}
use Rattle.program_objects.specs.Made.{exceptions_in, IsExceptionName}

-- a name behind that of a unit or an instance
whole_name : (unit name : List ℕ) → IsWord unit → IsAscii name → length name ≤ 2 * longest_word + 1 → IsExceptionName (joined unit name)
whole_name unit name h ascii short =
    let front = h.short in
    record {
      ascii = IsAscii-append unit (46 ∷ name) h.ascii (IsAscii-cons 46 name (omega arith) ascii);
      short = omega (arith, length-append unit (46 ∷ name), front, short);
    }

abbrev HasName : ListedException → Type 0
HasName x = IsExceptionName x.name

module _ (units : List LibraryUnit) where
  for_named : (d : ExceptionDeclaration) → IsNamed d → (g n : ℕ) (is : List Instance) → Everywhere (IsOfUnits units) is → Everywhere HasName (listed_for d g n is)
  for_named d h g n [] named = tt
  for_named d h g n (i ∷ is) named = by_test (nat_eq i.generic g) (whole_name i.name d.name named.0.name h.name h.short) (for_named d h g (suc n) is named.1)
    where
      by_test : (b : Bool) → HasName (listed_in d n i) → Everywhere HasName (listed_for d g (suc n) is)
          → Everywhere HasName (if b then listed_in d n i ∷ listed_for d g (suc n) is else listed_for d g (suc n) is)
      by_test true first rest = (first, rest)
      by_test false first rest = rest

  by_generic : (g : Option ℕ) (d : ExceptionDeclaration) → IsNamed d → (is : List Instance) → Everywhere (IsOfUnits units) is → Everywhere HasName (listed_by g d is)
  by_generic None d h is named = (whole_name d.unit d.name h.unit h.name h.short, tt)
  by_generic (Some g) d h is named = for_named d h g 1 is named

  listed_named : (ds : List ExceptionDeclaration) → Everywhere IsNamed ds → (is : List Instance) → Everywhere (IsOfUnits units) is → Everywhere HasName (listed ds is)
  listed_named [] h is named = tt
  listed_named (d ∷ ds) h is named = both_lists HasName (listed_by d.generic d is) (listed ds is) (by_generic d.generic d h.0 is named) (listed_named ds h.1 is named)

names_named : (xs : List ListedException) → Everywhere HasName xs → Everywhere IsExceptionName (map (λ (x : ListedException). x.name) xs)
names_named [] h = tt
names_named (x ∷ xs) h = (h.0, names_named xs h.1)

pub names_law : (units : List LibraryUnit) (p : Program) → HasNames units p → Everywhere IsExceptionName (exceptions_in p)
names_law units p h =
    names_named (ordered_exceptions p)
    (every_ordered HasName is_listed_before (listed p.declared p.instances) (listed_named units p.declared h.exceptions p.instances h.instances))
