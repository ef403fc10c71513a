-- A unit that sets its interface: what it leaves of the walk, and that what it shows hangs on no instance. Formals declare no object, and interfaces are of one kind.
use Rattle.std.proofs.Common.{◌≡◌, ◌<◌, ◌+◌, ℕ, zero, suc, nat_eq, Bool, true, false, if◌then◌else◌, List, [], ◌∷◌, ◌++◌, length, Option, Some, None, IfSome, IfOk, refl, sym, ap, ◌∙◌, subst, inl, inr, arith}
use Rattle.std.specs.Prelude.{◌⊎◌, unwrap_or}
use Rattle.std.proofs.lemmas.Bool.{eqb-true, eq-eqb, false≢true}
use Rattle.cov_base.specs.Lists.{Everywhere}
use Rattle.cov_base.specs.declared.position.Pos.{Pos}
use Rattle.ada_syntax.specs.declared.name.Identifier.{Identifier}
use Rattle.ada_syntax.specs.declared.unit.Formal.{Formal}
use Rattle.ada_syntax.specs.declared.unit.FormalKind.{FormalKind}
use Rattle.ada_syntax.specs.declared.unit.FormalKind.TheVariants as formal
use Rattle.ada_syntax.specs.declared.unit.Unit.{Unit as LibraryUnit}
use Rattle.ada_meaning.specs.Program.{LibraryObject, Program}
use Rattle.ada_meaning.specs.Types.{of_instance, static_formal}
use Rattle.ada_rules.specs.Entities.{key, Entity, formal_object, Region, redefined, Actual, Routine}
use Rattle.ada_rules.specs.Environment.{Interface, no_interface, package_interface, generic_interface, instance_interface, subprogram_interface, World, interface_of, entity_of_interface, State, Given, given, Env, with_local, hide, new_identity, one_type_more}
use Rattle.ada_rules.specs.Expressions.{scalar_mark, part_of_interface}
use Rattle.ada_rules.specs.Instances.{formal_mark, formal_type_declared, formal_routine, formal_declared, formals_declared}
use Rattle.ada_rules.specs.Library.{Library, is_instance, instance_number}
use Rattle.ada_rules.specs.Plan.{◌>>=◌, rule}
use Rattle.ada_rules.specs.Subprograms.{specified, declared_only}
use Rattle.ada_rules.specs.Types.{Identity, declared_in}
use Rattle.ada_rules.specs.Units.{Walked, with_interface}
use Rattle.legal_laws.specs.Kept.{OnlyDecides}
use Rattle.legal_laws.proofs.KeptExpressions.{scalar_mark_behind}
use Rattle.legal_laws.proofs.Passing.{IfPassed, answered, part_so, any_answer}
use Rattle.legal_programs.specs.Closed.{IsClosedEntity}
use Rattle.legal_programs.specs.Deciding.{IsWhole}
use Rattle.legal_programs.specs.Walked.{IsLegal}
use Rattle.legal_texts.proofs.AnywhereKnown.{ShowsClosed}
use Rattle.legal_texts.proofs.GrownWorlds.{IsGrown}
use Rattle.legal_texts.proofs.InterfaceWalk.{IsAtUnit, StepsTo}
use Rattle.legal_texts.proofs.KeptBodies.{IsShort, specified_short}
use Rattle.legal_texts.proofs.UnitParts.{below_length, set_there, set_length}
use Rattle.legal_texts.proofs.SeenWorlds.{IsOfTextOf, IsSeenSo, IsStep}

-- formals declare no object
abbrev pub SameObjects : {A : Type 0} → State → Given A → Type 0
SameObjects s g = g.next.objects_declared ≡ s.objects_declared

formal_type_same : (env : Env) (s : State) (i : Identifier) (k : ℕ) (integral : Bool) → IfPassed (formal_type_declared env s i k integral).outcome (SameObjects s)
formal_type_same env s i k integral =
    part_so (λ r. Unit {0}) (SameObjects s) (hide env.local i).answer
    (λ region. rule (Some (given (redefined (key i) (formal_mark (new_identity env s) k integral) region) (one_type_more s)))) (any_answer (hide env.local i).answer)
    (λ region u. refl)

formal_same : (env : Env) (s : State) (k : ℕ) (f : FormalKind) → IfPassed (formal_declared env s k f).outcome (SameObjects s)
formal_same env s k (formal.DiscreteType i) = formal_type_same env s i k false
formal_same env s k (formal.IntegerType i) = formal_type_same env s i k true
formal_same env s k (formal.Object i m n) =
    part_so (λ r. Unit {0}) (SameObjects s) (hide env.local i).answer
    (λ region. scalar_mark (with_local env region) s n
    >>= (λ t. rule (Some (given (redefined (key i) (formal_object t.value.subtype (static_formal k)) region) t.next)))) (any_answer (hide env.local i).answer)
    (λ region u. part_so (λ t. OnlyDecides s t.next) (SameObjects s) (scalar_mark (with_local env region) s n).answer
    (λ t. rule (Some (given (redefined (key i) (formal_object t.value.subtype (static_formal k)) region) t.next))) (scalar_mark_behind (with_local env region) s n)
    (λ t h. ap (λ y. y.objects_declared) h))
formal_same env s k (formal.Subprogram x) =
    part_so (λ r. Unit {0}) (SameObjects s) (hide env.local x.name).answer
    (λ region. specified (with_local env region) s x >>= (λ q. rule (Some (given (redefined (key x.name) (formal_routine k q.value) region) (declared_only s q.next)))))
    (any_answer (hide env.local x.name).answer)
    (λ region u. part_so (IsShort s) (SameObjects s) (specified (with_local env region) s x).answer
    (λ q. rule (Some (given (redefined (key x.name) (formal_routine k q.value) region) (declared_only s q.next))))
    (specified_short (with_local env region) s x) (λ q v. v.kept.objects refl))

pub formals_same : (env : Env) (s : State) (p : Pos) (k : ℕ) (fs : List Formal) → IfOk (formals_declared env s p k fs).answer (SameObjects s)
formals_same env s p k [] = refl
formals_same env s p k (f ∷ fs) =
    answered (SameObjects s) p _
    (part_so (SameObjects s) (SameObjects s) _ (λ region. formals_declared (with_local env region.value) region.next p (k + 1) fs >>= (λ rest. rule (Some rest)))
    (answered (SameObjects s) f.pos (formal_declared env s k f.kind).outcome (formal_same env s k f.kind))
    (λ region h. part_so (SameObjects region.next) (SameObjects s) (formals_declared (with_local env region.value) region.next p (k + 1) fs).answer (λ rest. rule (Some rest))
    (formals_same (with_local env region.value) region.next p (k + 1) fs) (λ rest m. m ∙ h)))

-- instances are numbered from 1 on
pub numbered_above : (n : ℕ) (us : List LibraryUnit) → 0 < instance_number n us
numbered_above n [] = omega (arith)
numbered_above zero (u ∷ us) = omega (arith)
numbered_above (suc n) (u ∷ us) = of_item (is_instance u.item) (numbered_above n us)
  where
    of_item : (b : Bool) → 0 < instance_number n us → 0 < (if b then instance_number n us + 1 else instance_number n us)
    of_item true h = omega (arith, h)
    of_item false h = h

-- a unit that was looked at for the first time leaves what was there
pub grown_step : (x : Walked) (n : ℕ) (y : Walked) → interface_of x.world n ≡ no_interface → StepsTo x.world n y → IsGrown x.world y.world
grown_step x n y fresh steps m = by_number (nat_eq n m) refl
  where
    by_number : (b : Bool) → nat_eq n m ≡ b → (interface_of x.world m ≡ no_interface) ⊎ (interface_of y.world m ≡ interface_of x.world m)
    by_number true e = inl (ap (interface_of x.world) (sym (eqb-true n m e)) ∙ fresh)
    by_number false e = inr (steps.others m (λ same. false≢true (sym e ∙ eq-eqb n m same)))

-- interfaces are of one kind
pub no_routine : (r : Routine) (region : Region) → subprogram_interface r ≡ package_interface region → ⊥
no_routine r region e = cc

pub no_routine_generic : (r : Routine) (formals region : Region) → subprogram_interface r ≡ generic_interface formals region → ⊥
no_routine_generic r formals region e = cc

pub no_routine_instance : (r : Routine) (g : Option ℕ) (k : ℕ) (actuals : List Actual) → subprogram_interface r ≡ instance_interface g k actuals → ⊥
no_routine_instance r g k actuals e = cc

pub no_package_generic : (r formals region : Region) → package_interface r ≡ generic_interface formals region → ⊥
no_package_generic r formals region e = cc

pub no_package_instance : (r : Region) (g : Option ℕ) (k : ℕ) (actuals : List Actual) → package_interface r ≡ instance_interface g k actuals → ⊥
no_package_instance r g k actuals e = cc

pub no_generic_package : (f r region : Region) → generic_interface f r ≡ package_interface region → ⊥
no_generic_package f r region e = cc

pub no_generic_instance : (f r : Region) (g : Option ℕ) (k : ℕ) (actuals : List Actual) → generic_interface f r ≡ instance_interface g k actuals → ⊥
no_generic_instance f r g k actuals e = cc

pub package_set : (r : Region) → package_interface r ≡ no_interface → ⊥
package_set r e = cc

pub generic_set : (f r : Region) → generic_interface f r ≡ no_interface → ⊥
generic_set f r e = cc

-- the instance of an identity
abbrev pub instance_in : Identity → ℕ
instance_in (declared_in (of_instance i) u n) = i
instance_in i = 0

-- what is in both
pub both_parts : (P Q R : Entity → Type 0) → ((x : Entity) → P x → Q x → R x) → (o : Option Entity) → IfSome o P → IfSome o Q → IfSome o R
both_parts P Q R so None a b = tt
both_parts P Q R so (Some x) a b = so x a b

module _ (l : Library) (main : List ℕ) (p : Program) (legal : IsLegal l main p) where
  abbrev final : World
  final = legal.walk.seen.world

  abbrev last : State
  last = legal.walked.next

  -- a unit that sets this interface
  module _ (x : Walked) (n : ℕ) (u : LibraryUnit) (h : IsSeenSo l main p legal x) (i : Interface) (next : State)
      (at : IsAtUnit l final last x n u (record { world = with_interface x.world n i; next = next })) where
    abbrev after : Walked
    after = record { world = with_interface x.world n i; next = next }

    pub set_now : interface_of after.world n ≡ i
    set_now =
        let less : n < length x.world.interfaces = subst (λ m. n < m) (sym h.sized) (below_length l.units n u at.there) in
        ap (λ o. unwrap_or o no_interface) (set_there x.world.interfaces n i less)

    pub set_last : interface_of final n ≡ i
    set_last = at.set ∙ set_now

    pub step_made : (more : List LibraryObject) → next.objects_declared ≡ more ++ x.next.objects_declared → Everywhere (IsOfTextOf n) more
        → Everywhere (λ o. IfSome o.generic (λ g. interface_of after.world g ≡ no_interface → ⊥)) more → next.words ≡ [] → next.objects ≡ length next.words
        → IsStep l main p legal x n after
    step_made more objects of_text set_texts words counted = record {
      fresh = at.fresh;
      steps = at.steps;
      grown = grown_step x n after at.fresh at.steps;
      more = more;
      objects = objects;
      of_text = of_text;
      set_texts = set_texts;
      base = h.base;
      sized = set_length x.world.interfaces n i ∙ h.sized;
      words = words;
      counted = counted;
    }

    -- what it shows hangs on no instance
    pub part_closed : ShowsClosed final → (name : List ℕ) → IfSome (part_of_interface final name i) (λ e. IsWhole e × IsClosedEntity e)
    part_closed closed name = subst (λ j. IfSome (part_of_interface final name j) (λ e. IsWhole e × IsClosedEntity e)) set_last (closed.parts n name)

    pub unit_closed : ShowsClosed final → IsWhole (entity_of_interface n i) × IsClosedEntity (entity_of_interface n i)
    unit_closed closed = subst (λ j. IsWhole (entity_of_interface n j) × IsClosedEntity (entity_of_interface n j)) set_last (closed.units n)
