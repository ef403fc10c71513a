-- The headings of a legal program: names are new, and a body of a package has its package.
use Rattle.std.proofs.Common.{◌≡◌, ◌+◌, ℕ, Bool, true, if◌then◌else◌, List, [], ◌∷◌, Option, Some, None, Ok, slice_get}
use Rattle.std.specs.Prelude.{◌&&◌}
use Rattle.std.specs.Option.{option_and_then}
use Rattle.std.proofs.lemmas.Bool.{false≢true}
use Rattle.cov_base.specs.Lists.{Everywhere}
use Rattle.ada_syntax.specs.declared.unit.LibraryItem.{LibraryItem}
use Rattle.ada_syntax.specs.declared.unit.LibraryItem.TheVariants as library
use Rattle.ada_syntax.specs.declared.unit.Unit.{Unit as LibraryUnit}
use Rattle.ada_rules.specs.Denoted.{nowhere}
use Rattle.ada_rules.specs.Entities.{key}
use Rattle.ada_rules.specs.Library.{Library, unit_named, clause_names, all_named_in_with, wants_body, is_first_name, first_number, bodies_named, is_declared_well, heading}
use Rattle.ada_rules.specs.Plan.{◌>>=◌, rule}
use Rattle.ada_rules.specs.Units.{all_headings}
use Rattle.legal_programs.specs.Homes.{IsThere, HasHome, AreHeaded}
use Rattle.legal_programs.proofs.Passed.{passed_part, passed_rule, passed_test}

module _ (l : Library) where
  pub are_headed : (n : ℕ) (us : List LibraryUnit) → (all_headings l n us).answer ≡ Ok tt → AreHeaded l n us
  are_headed n [] h = tt
  are_headed n (u ∷ us) h =
      let this = passed_part nowhere (heading l n u).answer (λ x. all_headings l (n + 1) us >>= (λ rest. rule (Some tt))) tt h in
      let rest = passed_part nowhere (all_headings l (n + 1) us).answer (λ x. rule (Some tt)) tt this.rest in
      let own = passed_part u.pos (all_named_in_with l n u (clause_names u.withs)).answer (λ x. rule (if is_declared_well l n u.item then Some tt else None)) this.value this.is in
      let well = passed_test (is_declared_well l n u.item) tt this.value
      (passed_rule u.pos (if is_declared_well l n u.item then Some tt else None) this.value own.rest) in
      ((well.0, own.is), are_headed (n + 1) us rest.is)

  is_there : (o : Option ℕ) (b : Bool) → (wants_body (option_and_then (slice_get l.units) o) && b) ≡ true → IsThere o
  is_there None b h = absurd (false≢true h)
  is_there (Some n) b h = tt

  pub has_home : (n : ℕ) (i : LibraryItem) → is_declared_well l n i ≡ true → HasHome l i
  has_home n (library.PackageBody b) h =
      is_there (unit_named l.names (key b.name)) (is_first_name n (first_number (bodies_named (key b.name) 0 l.units))) h
  has_home n (library.Package x) h = tt
  has_home n (library.Instance i) h = tt
  has_home n (library.Subprogram b) h = tt

  pub have_homes : (n : ℕ) (us : List LibraryUnit) → AreHeaded l n us → Everywhere (λ u. HasHome l u.item) us
  have_homes n [] h = tt
  have_homes n (u ∷ us) h = (has_home n u.item h.0.0, have_homes (n + 1) us h.1)
