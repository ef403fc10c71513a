-- The exceptions and instances of a legal program have names of its text, in ASCII.
use Rattle.std.proofs.Common.{ℕ, Bool, true, false, if◌then◌else◌, List, [], ◌∷◌, reverse, sym, subst}
use Rattle.cov_base.specs.Lists.{Everywhere}
use Rattle.cov_base.specs.TextOrder.{precedes}
use Rattle.ada_syntax.specs.declared.unit.Unit.{Unit as LibraryUnit}
use Rattle.ada_meaning.specs.Obligations.{inserted, in_order}
use Rattle.ada_meaning.specs.Program.{Program}
use Rattle.ada_meaning.specs.Program as program
use Rattle.ada_rules.specs.Environment.{typing, beginning_state}
use Rattle.ada_rules.specs.Legal.{with_values}
use Rattle.ada_rules.specs.Library.{Library}
use Rattle.ada_rules.specs.Statics.{Facts}
use Rattle.ada_rules.specs.Units.{all_interfaces, all_bodies_judged, world_before}
use Rattle.legal_laws.proofs.KnownBodies.{every_reversed}
use Rattle.legal_programs.specs.Walked.{IsLegal}
use Rattle.legal_programs.proofs.Passed.{of_ok}
use Rattle.legal_names.specs.Named.{IsNamed, IsOfUnits, HasNames, Keeps}
use Rattle.legal_names.specs.Spelled.{AreUnitsSpelled}
use Rattle.legal_names.proofs.Units.{Interfaces, interfaces_keep, all_bodies_keep}

either_list : {X : Type 0} (P : X → Type 0) (b : Bool) (xs ys : List X) → Everywhere P xs → Everywhere P ys → Everywhere P (if b then xs else ys)
either_list P true xs ys h k = h
either_list P false xs ys h k = k

every_inserted : {X : Type 0} (P : X → Type 0) (before : X → X → Bool) (x : X) (ys : List X) → P x → Everywhere P ys → Everywhere P (inserted before x ys)
every_inserted P before x [] h k = (h, tt)
every_inserted P before x (y ∷ ys) h k =
    either_list P (before y x) (y ∷ inserted before x ys) (x ∷ y ∷ ys) (k.0, every_inserted P before x ys h k.1) (h, k)

pub every_ordered : {X : Type 0} (P : X → Type 0) (before : X → X → Bool) (xs : List X) → Everywhere P xs → Everywhere P (in_order before xs)
every_ordered P before [] h = tt
every_ordered P before (x ∷ xs) h = every_inserted P before x (in_order before xs) h.0 (every_ordered P before xs h.1)

valued_named : (us : List LibraryUnit) (is : List program.Instance) (fs : List Facts) → Everywhere (IsOfUnits us) is → Everywhere (IsOfUnits us) (with_values is fs)
valued_named us [] [] h = tt
valued_named us [] (f ∷ fs) h = tt
valued_named us (i ∷ is) [] h = h
valued_named us (i ∷ is) (f ∷ fs) h = (record { name = h.0.name; place = h.0.place }, valued_named us is fs h.1)

pub names_of : (l : Library) (main : List ℕ) (p : Program) → IsLegal l main p → AreUnitsSpelled l.units → HasNames l.units p
names_of l main p is spelled =
    let seen = of_ok (Interfaces l.units beginning_state) (all_interfaces typing l (record { world = world_before l; next = beginning_state }) l.order).answer is.walk.seen is.walk.interfaces
    (interfaces_keep typing l spelled (record { world = world_before l; next = beginning_state }) l.order) in
    let walked = of_ok (Keeps is.walk.seen.next) (all_bodies_judged typing l is.walk.seen.world is.walk.seen.next 0 l.units).answer is.walked.next is.walk.bodies
    (all_bodies_keep typing l is.walk.seen.world is.walk.seen.next 0 l.units spelled) in
    let instances = subst (Everywhere (IsOfUnits l.units)) (sym walked.instances) (seen.instances tt) in
    subst (HasNames l.units) (sym is.made) (record {
      exceptions = every_reversed IsNamed is.walked.next.exceptions_declared (walked.names (seen.names tt));
      instances = valued_named l.units (in_order (λ a b. precedes a.place b.place) (reverse is.walked.next.instances_declared)) is.walked.world.instances
          (every_ordered (IsOfUnits l.units) (λ a b. precedes a.place b.place) (reverse is.walked.next.instances_declared)
          (every_reversed (IsOfUnits l.units) is.walked.next.instances_declared instances));
    })
