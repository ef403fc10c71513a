-- What is known behind the declarations of a package, in an instance in which its text stands, if the final program serves the walk.
use Rattle.std.proofs.Common.{◌≡◌, ℕ, List, [], ◌++◌, length, Option, None, sym, ap, ◌∙◌, subst}
use Rattle.cov_base.specs.Lists.{Everywhere}
use Rattle.ada_meaning.specs.Bodies.{StandsIn}
use Rattle.ada_meaning.specs.Declared.{object_shape}
use Rattle.ada_meaning.specs.Program.{Subprogram, Program}
use Rattle.ada_meaning.specs.Tree as tree
use Rattle.ada_meaning.specs.WellFormed.{StartSees}
use Rattle.ada_rules.specs.Types.{AdaType}
use Rattle.ada_rules.specs.Entities.{Region}
use Rattle.ada_rules.specs.Environment.{State, Given, Env, owner_of}
use Rattle.ada_rules.specs.Library.{Library}
use Rattle.ada_rules.specs.Statics.{Facts}
use Rattle.legal_laws.specs.Known.{AreApart, IsRegion}
use Rattle.legal_laws.specs.LibraryLevel.{AreObjects}
use Rattle.legal_laws.specs.Served.{IsFinal, AreShaped}
use Rattle.legal_laws.specs.Standing.{with_types, Stands}
use Rattle.legal_laws.specs.Valued.{AreFactsOf}
use Rattle.legal_laws.proofs.Identities.{types_joined}
use Rattle.legal_laws.proofs.KnownDeclarations.{own_instance}
use Rattle.legal_laws.proofs.Passing.{every_both}
use Rattle.legal_programs.specs.Final.{IsServed}
use Rattle.legal_programs.specs.Growing.{Extends}
use Rattle.legal_programs.specs.Walked.{IsLegal}
use Rattle.legal_programs.proofs.Counted.{library_distinct}
use Rattle.legal_texts.proofs.KnownObjects.{ObjectsAt}
use Rattle.legal_texts.proofs.LibraryItems.{IsOfUnit}
use Rattle.legal_texts.proofs.NamesThere.{IsShownIn}
use Rattle.legal_texts.proofs.ObjectsSeen.{objects_seen, among_all}

-- what no subprogram's text sees
abbrev pub no_subprogram : Subprogram
no_subprogram = record { generic = None; parameters = []; objects = []; body = tree.block [] tree.no_statement tree.no_handler }

-- the text of a generic, or what stands in none, in an instance in which it stands, and that the final program serves
module _ (l : Library) (main : List ℕ) (p : Program) (legal : IsLegal l main p) (of_facts : AreFactsOf p legal.walked.world.instances) (generic : Option ℕ) (inst : ℕ)
    (standing : StandsIn p generic inst) (served : (s : State) → Extends s legal.walked.next → IsServed legal.walked.world.instances p generic inst s) where
  abbrev last : State
  last = legal.walked.next

  abbrev facts : List Facts
  facts = legal.walked.world.instances

  abbrev pub Standing : (AdaType → Type 0) → Env → State → Type 0
  Standing types env s = Stands p inst (object_shape p inst no_subprogram) types (StartSees p inst no_subprogram) env s

  abbrev pub Regions : (AdaType → Type 0) → Region → Type 0
  Regions types region = IsRegion p inst types (object_shape p inst no_subprogram) (StartSees p inst no_subprogram) region

  abbrev pub Formed : State → Type 0
  Formed s = ObjectsAt p inst s.objects_declared

  -- in no generic there is one instance
  pub alone_there : (env : Env) → env.generic ≡ generic → env.generic ≡ None → inst ≡ 0
  alone_there env here none = subst (λ g. StandsIn p g inst) (sym here ∙ none) standing

  -- what the final program keeps
  pub kept_there : (env : Env) (s : State) → env.generic ≡ generic → Extends s last → s.words ≡ []
      → IsFinal facts inst p (object_shape p inst no_subprogram) env.generic s
  kept_there env s here more words =
      let keeps = served s more in
      subst (λ g. IsFinal facts inst p (object_shape p inst no_subprogram) g s) (sym here)
      (record {
        serves = keeps.0;
        shaped = subst (λ ws. AreShaped facts inst p (object_shape p inst no_subprogram) ws) (sym words) tt;
        listed = keeps.1 (object_shape p inst no_subprogram);
      })

  pub objects_there : (env : Env) (s : State) → env.generic ≡ generic → Extends s last
      → AreObjects p inst env.generic (object_shape p inst no_subprogram) (StartSees p inst no_subprogram) (owner_of env) s.objects_declared
  objects_there env s here more =
      subst (λ g. AreObjects p inst g (object_shape p inst no_subprogram) (StartSees p inst no_subprogram) (owner_of env) s.objects_declared) (sym here)
      (objects_seen p inst no_subprogram generic standing (library_distinct l main p legal) (owner_of env) (own_instance inst env.generic (alone_there env here)) s.objects_declared
      (λ o there. among_all (λ x. x ≡ o) s.objects_declared last.objects_declared p.objects more.objects (ap (λ r. r.objects) legal.made) there))

  pub record AreKnown (types : AdaType → Type 0) (env : Env) (g : Given Region) : Type 0 where
    pub new : List AdaType
    pub own : Everywhere (IsOfUnit env) new
    pub shown : Everywhere (λ u. IsShownIn u g.value) new
    pub region : Regions (with_types types new) g.value
    pub apart : AreApart p (with_types types new)
    pub formed : Formed g.next
    pub words : g.next.words ≡ []
    pub counted : g.next.objects ≡ length g.next.words

  pub known_joined : (types : AdaType → Type 0) (env after : Env) (us : List AdaType) (g : Given Region) → Everywhere (IsOfUnit env) us
      → Everywhere (λ u. IsShownIn u g.value) us → (own : (ts : List AdaType) → Everywhere (IsOfUnit after) ts → Everywhere (IsOfUnit env) ts)
      → AreKnown (with_types types us) after g → AreKnown types env g
  known_joined types env after us g first shows own h = record {
    new = us ++ h.new;
    own = every_both (IsOfUnit env) us h.new first (own h.new h.own);
    shown = every_both (λ u. IsShownIn u g.value) us h.new shows h.shown;
    region = subst (λ ts. Regions ts g.value) (sym (types_joined types us h.new)) h.region;
    apart = subst (AreApart p) (sym (types_joined types us h.new)) h.apart;
    formed = h.formed;
    words = h.words;
    counted = h.counted;
  }
