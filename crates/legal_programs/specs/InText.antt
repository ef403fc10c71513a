-- What a program that a walk made still needs, to be well-formed: its obligations stand in the order of the text, its
-- instances have their values, and its objects and bodies are well-formed in each instance.
use Rattle.std.specs.Prelude.{◌≡◌, false, List, [], ◌∷◌, map}
use Rattle.std.specs.Option.{IfSome}
use Rattle.std.specs.Prelude.{slice_get}
use Rattle.cov_base.specs.Lists.{Everywhere}
use Rattle.cov_base.specs.TextOrder.{precedes}
use Rattle.cov_base.specs.declared.position.Pos.{Pos}
use Rattle.ada_syntax.specs.declared.unit.Unit.{Unit as LibraryUnit}
use Rattle.ada_meaning.specs.Bodies.{Body, bodies_of}
use Rattle.ada_meaning.specs.Collected.{decisions_of}
use Rattle.ada_meaning.specs.Obligations.{IsResolved}
use Rattle.ada_meaning.specs.Program.{Program}
use Rattle.ada_meaning.specs.WellFormed.{IsSubprogram, IsLibraryObject}
use Rattle.legal_programs.specs.TextPlaces.{units_places}

-- none of these places comes before the one that stands in front of it
abbrev pub IsBehind : Pos → List Pos → Type 0
IsBehind p [] = Unit {0}
IsBehind p (q ∷ qs) = precedes q p ≡ false

abbrev pub Rise : List Pos → Type 0
Rise [] = Unit {0}
Rise (p ∷ ps) = IsBehind p ps × Rise ps

-- statements stand in the order of the text in the units, and decisions in the typed program
pub record IsInTextOrder (units : List LibraryUnit) (p : Program) : Type 0 where
  pub statements : Rise (units_places units)
  pub decisions : Rise (map (λ h. h.label.place) (decisions_of p.subprograms))

-- what stands in instances is well-formed there
pub record IsFormedInInstances (p : Program) : Type 0 where
  pub resolved : IsResolved p
  pub library : Everywhere (IsLibraryObject p) p.objects
  pub bodies : Everywhere
      (λ (b : Body). IfSome (slice_get p.subprograms b.subprogram) (IsSubprogram p b.instance)) (bodies_of p)
