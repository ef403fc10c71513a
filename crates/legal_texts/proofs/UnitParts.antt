-- What the walks over units and over what they show have in common: parts of regions, marks of specifications, lists in which an element is set, and states behind a unit.
use Rattle.std.proofs.Common.{◌≡◌, ◌<◌, ℕ, zero, suc, Bool, true, false, List, [], ◌∷◌, length, Option, Some, None, IfSome, slice_get, set, refl, ap, arith}
use Rattle.legal_programs.specs.Growing.{Extends}
use Rattle.legal_programs.proofs.Lists.{longer_by, longer_both}
use Rattle.ada_rules.specs.Entities.{entity_of, same_name, shown}
use Rattle.ada_rules.specs.Types.{declared_in}
use Rattle.ada_rules.specs.Units.{behind_unit}
use Rattle.std.specs.Prelude.{if◌then◌else◌}
use Rattle.cov_base.specs.Lists.{Everywhere}
use Rattle.ada_syntax.specs.declared.unit.LibraryItem.{LibraryItem}
use Rattle.ada_syntax.specs.declared.unit.LibraryItem.TheVariants as library
use Rattle.ada_meaning.specs.Program.{Program}
use Rattle.ada_rules.specs.Types.{Identity, AdaType, AdaSubtype, type_in, is_scalar}
use Rattle.ada_rules.specs.Entities.{Parameter, Entity, hidden, Region}
use Rattle.ada_rules.specs.Environment.{State, Env}
use Rattle.ada_rules.specs.Subprograms.{returning_of}
use Rattle.legal_laws.specs.Known.{IsOneOf, IsKnownSubtype}
use Rattle.legal_laws.specs.Standing.{ReturnsAs}
use Rattle.legal_laws.proofs.Giving.{returns_value}
use Rattle.legal_laws.proofs.Passing.{every_so}
use Rattle.legal_texts.proofs.MarkedNames.{IsMarkedAs}

-- an item of a region, and a part that is shown
pub entity_so : (P : Entity → Type 0) (name : List ℕ) (region : Region) → Everywhere (λ e. P e.1) region → IfSome (entity_of name region) P
entity_so P name [] all = tt
entity_so P name (e ∷ es) all = either_one (same_name name e.0) (entity_so P name es all.1)
  where
    either_one : (b : Bool) → IfSome (entity_of name es) P → IfSome (if b then Some e.1 else entity_of name es) P
    either_one true h = all.0
    either_one false h = h

pub shown_so : (P : Entity → Type 0) (o : Option Entity) → IfSome o P → IfSome (shown o) P
shown_so P None h = tt
shown_so P (Some hidden) h = tt
shown_so P (Some x) h = h

module _ (p : Program) (ts : List AdaType) where
  abbrev Types : AdaType → Type 0
  Types t = IsOneOf ts t

  abbrev pub IsKnownMark : Identity → AdaSubtype → Type 0
  IsKnownMark i t = IsKnownSubtype p 0 Types t

  -- what a specification with known marks says
  pub marks_known : (qs : List Parameter) → Everywhere (IsMarkedAs IsKnownMark) qs → Everywhere (λ r. IsKnownSubtype p 0 Types r.subtype) qs
  marks_known qs h = every_so (IsMarkedAs IsKnownMark) (λ r. IsKnownSubtype p 0 Types r.subtype) qs (λ r k. k.so) h

  pub returns_known : (o : Option Parameter) → IfSome o (λ r. IsMarkedAs IsKnownMark r × (is_scalar (type_in r.subtype) ≡ true))
      → ReturnsAs p 0 Types (returns_value (returning_of o)) (returning_of o)
  returns_known None h = refl
  returns_known (Some r) h = (refl, (h.1, h.0.so))

-- an interface that is set
pub set_either : {X : Type 0} (P : Option X → Type 0) (xs : List X) (n : ℕ) (x : X) → P (Some x) → P None → P (slice_get (set xs n x) n)
set_either P [] zero x h k = k
set_either P [] (suc n) x h k = k
set_either P (y ∷ xs) zero x h k = h
set_either P (y ∷ xs) (suc n) x h k = set_either P xs n x h k

pub below_length : {X : Type 0} (xs : List X) (k : ℕ) (x : X) → slice_get xs k ≡ Some x → k < length xs
below_length [] zero x h = absurd (cc h)
below_length [] (suc k) x h = absurd (cc h)
below_length (y ∷ xs) zero x h = omega (arith)
below_length (y ∷ xs) (suc k) x h = let rest = below_length xs k x h in omega (arith, rest)

pub set_there : {X : Type 0} (xs : List X) (n : ℕ) (x : X) → n < length xs → slice_get (set xs n x) n ≡ Some x
set_there [] n x less = absurd (nothing_below n less)
  where
    nothing_below : (k : ℕ) → k < 0 → ⊥
    nothing_below k h = omega (arith, h)
set_there (y ∷ xs) zero x less = refl
set_there (y ∷ xs) (suc n) x less = set_there xs n x (omega (arith, less))

pub set_length : {X : Type 0} (xs : List X) (n : ℕ) (x : X) → length (set xs n x) ≡ length xs
set_length [] zero x = refl
set_length [] (suc n) x = refl
set_length (y ∷ xs) zero x = refl
set_length (y ∷ xs) (suc n) x = ap suc (set_length xs n x)

abbrev pub IsPackageItem : LibraryItem → Type 0
IsPackageItem (library.Package x) = Unit {0}
IsPackageItem i = ⊥

-- an interface behind which others stand in the state of words
pub unbehind : (env : Env) (n : ℕ) (s t : State) → Extends (behind_unit env n s) t → Extends s t
unbehind env n s t h = record {
  demands = h.demands;
  types = h.types;
  objects = h.objects;
  constants = h.constants;
  exceptions = h.exceptions;
  objects_numbered = h.objects_numbered;
  exceptions_numbered = h.exceptions_numbered;
  subprograms = h.subprograms;
  subprogram_words = h.subprogram_words;
  instances = h.instances;
  unit_words = longer_both s.unit_words _ t.unit_words (longer_by _ s.unit_words) h.unit_words;
}

abbrev pub unit_in : Identity → ℕ
unit_in (declared_in o u n) = u
unit_in i = 0
