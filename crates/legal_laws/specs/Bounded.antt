-- Types whose bounds are known in an instance.
use Rattle.std.specs.Prelude.{◌≡◌, ℕ, Some, slice_get}
use Rattle.cov_base.specs.Lists.{Everywhere}
use Rattle.ada_meaning.specs.Bodies.{StandsIn}
use Rattle.ada_meaning.specs.Program.{Program, Subprogram}
use Rattle.ada_meaning.specs.Statics.{static_bounds, values_of}
use Rattle.ada_meaning.specs.Types.{Subtype, scalar, array, fields, subtype_of, Components, no_component, and_component}
use Rattle.legal_laws.specs.Valued.{AreOrdered}

module _ (p : Program) where
  abbrev mutual
    -- each range in it has bounds, the low one not above the high one (RM 3.5, 3.6, 3.8)
    pub IsBounded : ℕ → Subtype → Type 0
    IsBounded inst (scalar r) = AreOrdered (static_bounds (values_of p) inst r)
    IsBounded inst (array r t) = AreOrdered (static_bounds (values_of p) inst r) × IsBounded inst t
    IsBounded inst (fields cs) = AreBounded inst cs
    IsBounded inst (subtype_of i t) = IsBounded i t

    pub AreBounded : ℕ → Components → Type 0
    AreBounded inst no_component = Unit {0}
    AreBounded inst (and_component t cs) = IsBounded inst t × AreBounded inst cs

  -- the objects of each subprogram have such types, in each instance in which it stands
  abbrev pub AreObjectsBounded : Type 0
  AreObjectsBounded = (m inst : ℕ) (s : Subprogram) → slice_get p.subprograms m ≡ Some s → StandsIn p s.generic inst → Everywhere (IsBounded inst) s.objects
