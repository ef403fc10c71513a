-- Bodies in packages, and those of library subprograms: well-formed subprograms in the instance.
use Rattle.std.proofs.Common.{◌≡◌, ◌≤◌, ℕ, false, List, [], ◌∷◌, length, Option, Some, None, IfSome, IfOk, slice_get}
use Rattle.std.specs.Prelude.{unwrap_or}
use Rattle.cov_base.specs.Lists.{Everywhere}
use Rattle.ada_syntax.specs.declared.name.Identifier.{Identifier}
use Rattle.ada_syntax.specs.declared.unit.SubprogramBody.{SubprogramBody}
use Rattle.ada_meaning.specs.Bodies.{StandsIn}
use Rattle.ada_meaning.specs.Declared.{object_shape}
use Rattle.ada_meaning.specs.Program.{Subprogram, Program}
use Rattle.ada_meaning.specs.Shape.{Shape}
use Rattle.ada_meaning.specs.Tree as tree
use Rattle.ada_meaning.specs.WellFormed.{StartSees, most_parameters}
use Rattle.ada_rules.specs.Plan.{Plan, ◌>>=◌, rule, outcome_after}
use Rattle.ada_rules.specs.Types.{AdaType}
use Rattle.ada_rules.specs.Entities.{key, Entity, hidden, mark, literal, object, formal_object, routine, raisable, component, test_io, unit, Region, entity_of}
use Rattle.ada_rules.specs.Environment.{State, Given, given, Env, with_local, opened}
use Rattle.ada_rules.specs.Statics.{Facts}
use Rattle.ada_rules.specs.Subprograms.{Profile, to_complete, completed, conforming, specified, body_judged, body_number, routine_of, with_routine, packaged_body}
use Rattle.ada_rules.specs.Units.{at_unit, subprogram_body}
use Rattle.legal_laws.specs.Known.{IsRegion, IsEnv}
use Rattle.legal_laws.specs.Served.{Serves, AreListed, IsFormed}
use Rattle.legal_laws.specs.Standing.{Stands}
use Rattle.legal_laws.specs.Valued.{AreFactsInBase, HaveFacts}
use Rattle.legal_laws.specs.Written.{AreWritten, IsHandledText}
use Rattle.legal_laws.proofs.Passing.{if_test, answered, ruled_so, part_so, any_answer}
use Rattle.legal_laws.proofs.KnownRegions.{name_added, redefined_known, local_known}
use Rattle.legal_laws.proofs.KnownSpecifications.{Specifies, specified_known}
use Rattle.legal_laws.proofs.OwnRoutines.{own_known}
use Rattle.legal_laws.proofs.SpecifiedBodies.{RegionKnown, body_after}

module _ (p : Program) (facts : List Facts) (has : HaveFacts p.instances facts) (are : Everywhere AreFactsInBase facts) (inst : ℕ) (sub : Subprogram)
    (types : AdaType → Type 0) where
  abbrev shapes : tree.Object → Shape
  shapes o = object_shape p inst sub o

  abbrev Starts : tree.Object → Type 0
  Starts o = StartSees p inst sub o

  abbrev Regions : Region → Type 0
  Regions region = IsRegion p inst types shapes Starts region

  -- the subprogram that a state has last is well-formed, where the final facts keep that state
  abbrev pub LastIsFormed : Option ℕ → State → Type 0
  LastIsFormed o t =
      (rest : List Subprogram) → t.subprograms ≡ sub ∷ rest → Serves facts inst o t → AreListed facts inst p shapes o t.exceptions_declared
      → IsFormed p inst sub

  -- a body completes a declaration, or declares its subprogram
  completed_if : (region : Region) (i : Identifier) (o : Option Entity) → Regions region → IfSome (to_complete region i o) Regions
  completed_if region i None h = name_added p inst types shapes Starts region i hidden h tt
  completed_if region i (Some hidden) h = tt
  completed_if region i (Some (mark j t)) h = tt
  completed_if region i (Some (literal t x)) h = tt
  completed_if region i (Some (object v)) h = tt
  completed_if region i (Some (formal_object t e)) h = tt
  completed_if region i (Some (routine r)) h = if_test Regions r.awaits_body (Some region) (λ b. h)
  completed_if region i (Some (raisable e)) h = tt
  completed_if region i (Some component) h = tt
  completed_if region i (Some test_io) h = tt
  completed_if region i (Some (unit n)) h = tt

  completed_known : (region : Region) (i : Identifier) → Regions region → IfOk (completed region i).answer Regions
  completed_known region i h =
      answered Regions i.pos (rule (to_complete region i (entity_of (key i) region))).outcome
      (ruled_so Regions (to_complete region i (entity_of (key i) region)) (completed_if region i (entity_of (key i) region) h))

  module _ (env : Env) (s : State) (b : SubprogramBody) (written : AreWritten b.declarations × IsHandledText b.statements)
      (few : length sub.parameters ≤ most_parameters) where
    outside : (t : State) → Stands p inst shapes types Starts (opened env) t → IsEnv p inst types shapes Starts env
    outside t st = record {
      step = st.place.step;
      integers = st.place.integers;
      booleans = st.place.booleans;
      regions = st.place.regions.1;
      own = st.place.own;
      units = st.place.units;
      test_io = st.place.test_io;
    }

    -- a library subprogram
    pub subprogram_known : Stands p inst shapes types Starts (opened env) (at_unit s) → IfOk (subprogram_body env s b).answer (LastIsFormed env.generic)
    subprogram_known st =
        answered (LastIsFormed env.generic) b.specification.pos
        (outcome_after (specified env (at_unit s) b.specification).answer (λ q. body_judged env s b [] [] q >>= (λ next. rule (Some next))))
        (part_so (Specifies p facts has are inst sub types st.apart env.generic (at_unit s)) (LastIsFormed env.generic)
        (specified env (at_unit s) b.specification).answer (λ q. body_judged env s b [] [] q >>= (λ next. rule (Some next)))
        (specified_known p facts has are inst sub types st.apart env (at_unit s) b.specification (outside (at_unit s) st))
        (λ q c. part_so
        (λ t. (rest : List Subprogram) → t.subprograms ≡ sub ∷ rest → Serves facts inst env.generic t
        → AreListed facts inst p shapes env.generic t.exceptions_declared → RegionKnown p facts has are inst sub env s b [] [] q types (at_unit s) st → IsFormed p inst sub)
        (LastIsFormed env.generic) (body_judged env s b [] [] q).answer (λ next. rule (Some next))
        (body_after p facts has are inst sub env s b [] [] q types (at_unit s) st c written few)
        (λ t h rest same serves listed. h rest same serves listed (λ g e k. tt))))

    -- a body in a package, whose subprogram has this number
    pub packaged_known : (n : ℕ) → Stands p inst shapes types Starts (opened env) s → slice_get p.subprograms n ≡ Some sub → StandsIn p sub.generic inst
        → unwrap_or (body_number env.world env.unit_name (key b.specification.name)) 0 ≡ n
        → IfOk (packaged_body env s b).answer (λ g. LastIsFormed env.generic g.next)
    packaged_known n st is stands number =
        answered (λ (g : Given Region). LastIsFormed env.generic g.next) b.specification.pos
        (outcome_after (completed env.local b.specification.name).answer after_completed)
        (part_so Regions (λ (g : Given Region). LastIsFormed env.generic g.next) (completed env.local b.specification.name).answer after_completed
        (completed_known env.local b.specification.name st.place.regions.1.0)
        (λ region h. part_so (Specifies p facts has are inst sub types st.apart env.generic s) (λ (g : Given Region). LastIsFormed env.generic g.next)
        (specified (with_local env region) s b.specification).answer (after_specified region)
        (specified_known p facts has are inst sub types st.apart (with_local env region) s b.specification
        (local_known p inst types shapes Starts env region (outside s st) h))
        (λ q c. part_so (λ u. Unit {0}) (λ (g : Given Region). LastIsFormed env.generic g.next) (conforming b.specification.pos region b.specification.name q.value).answer
        (λ u. after_conforming region q) (any_answer (conforming b.specification.pos region b.specification.name q.value).answer)
        (λ u v. part_so
        (λ t. (rest : List Subprogram) → t.subprograms ≡ sub ∷ rest → Serves facts inst env.generic t
        → AreListed facts inst p shapes env.generic t.exceptions_declared
        → RegionKnown p facts has are inst sub env s b (with_routine env region b.specification.name q.value) (key b.specification.name) q types s st → IsFormed p inst sub)
        (λ (g : Given Region). LastIsFormed env.generic g.next)
        (body_judged env s b (with_routine env region b.specification.name q.value) (key b.specification.name) q).answer
        (λ next. rule (Some (given (with_routine env region b.specification.name q.value) next)))
        (body_after p facts has are inst sub env s b (with_routine env region b.specification.name q.value) (key b.specification.name) q types s st c written few)
        (λ t k rest same serves listed. k rest same serves listed
        (λ gives parameters known. redefined_known p inst types shapes Starts (key b.specification.name)
        (routine (routine_of env (key b.specification.name) false q.value)) region
        (own_known p inst types st.apart sub n is stands env (key b.specification.name) false q.value st.alone number gives parameters known.subtypes known.returns) h))))))
      where
        after_conforming : Region → Given Profile → Plan (Given Region)
        after_conforming region q =
            body_judged env s b (with_routine env region b.specification.name q.value) (key b.specification.name) q
            >>= (λ next. rule (Some (given (with_routine env region b.specification.name q.value) next)))

        after_specified : Region → Given Profile → Plan (Given Region)
        after_specified region q = conforming b.specification.pos region b.specification.name q.value >>= (λ u. after_conforming region q)

        after_completed : Region → Plan (Given Region)
        after_completed region = specified (with_local env region) s b.specification >>= (λ q. after_specified region q)
