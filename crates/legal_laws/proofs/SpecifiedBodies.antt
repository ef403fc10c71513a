-- A body with its specification: a well-formed subprogram in the instance.
use Rattle.std.proofs.Common.{◌≡◌, ◌≤◌, ◌+◌, ℕ, Bool, true, false, if◌then◌else◌, List, [], ◌∷◌, length, Option, Some, None, IfOk, refl, sym, ap, ◌∙◌, subst, arith, inl, inr}
use Rattle.cov_base.specs.Lists.{Everywhere, Somewhere}
use Rattle.ada_syntax.specs.declared.unit.SubprogramBody.{SubprogramBody}
use Rattle.ada_meaning.specs.Declared.{object_shape, is_function}
use Rattle.ada_meaning.specs.Program.{Subprogram, Program}
use Rattle.ada_meaning.specs.Program as program
use Rattle.ada_meaning.specs.Shape.{Shape}
use Rattle.ada_meaning.specs.Tree as tree
use Rattle.ada_meaning.specs.WellFormed.{StartSees, most_parameters}
use Rattle.ada_rules.specs.Plan.{◌>>=◌, outcome_after}
use Rattle.ada_rules.specs.Types.{AdaType}
use Rattle.ada_rules.specs.Entities.{Parameter, Region}
use Rattle.ada_rules.specs.Environment.{typing, typed_rule, State, Given, Env, with_local, opened}
use Rattle.ada_rules.specs.Declarations.{Declared, all_declared}
use Rattle.ada_rules.specs.Statements.{Frame, block_of, all_handled, frame_returns}
use Rattle.ada_rules.specs.Statics.{Facts}
use Rattle.ada_rules.specs.Subprograms.{Profile, returning_of, may_end, typed_parameters, body_made, inside_body, body_judged, closed_by}
use Rattle.legal_laws.specs.Known.{IsRegion}
use Rattle.legal_laws.specs.Served.{Serves, AreListed, IsFinal, IsFormed}
use Rattle.legal_laws.specs.Standing.{Stands}
use Rattle.legal_laws.specs.Valued.{AreFactsInBase, HaveFacts}
use Rattle.legal_laws.specs.Written.{AreWritten, IsHandledText}
use Rattle.legal_laws.proofs.Passing.{if_test, answered, part_so, typed_so, both_ok, each_ok, weaker_ok, any_answer}
use Rattle.legal_laws.proofs.Giving.{returns_value, FrameAs, handled_gives}
use Rattle.legal_laws.proofs.KnownBodies.{head_or, objects_shaped, IsSpecified, IsBodyOf, body_known, gives_as, parameter_count}
use Rattle.legal_laws.proofs.KnownSpecifications.{AreVisible, IsCountedProfile, IsProfileOf, Specifies}
use Rattle.legal_laws.proofs.Leading.{Lead, LeadsOn, leads_both, declarations_lead}
use Rattle.legal_laws.proofs.LeadingStatements.{handled_lead}

module _ (p : Program) (facts : List Facts) (has : HaveFacts p.instances facts) (are : Everywhere AreFactsInBase facts) (inst : ℕ) (sub : Subprogram) where
  abbrev shapes : tree.Object → Shape
  shapes o = object_shape p inst sub o

  abbrev Starts : tree.Object → Type 0
  Starts o = StartSees p inst sub o

  abbrev Final : Option ℕ → State → Type 0
  Final o s = IsFinal facts inst p shapes o s

  -- the parameters of a subprogram are visible in it
  visible_in : (n : ℕ) (qs : List Parameter) → ((P : program.Parameter → Type 0) → Somewhere P (typed_parameters n qs) → Somewhere P sub.parameters)
      → AreVisible p facts has are inst sub n qs
  visible_in n [] f = tt
  visible_in n (q ∷ qs) f = (f (λ r. r.declaration ≡ n) (inl refl), visible_in (n + 1) qs (λ P h. f P (inr h)))

  all_visible : (qs : List Parameter) → typed_parameters 0 qs ≡ sub.parameters → AreVisible p facts has are inst sub 0 qs
  all_visible qs e = visible_in 0 qs (λ P h. subst (Somewhere P) e h)

  module _ (env : Env) (before : State) (b : SubprogramBody) (region : Region) (name : List ℕ) (q : Given Profile) where
    abbrev inside : Env
    inside = inside_body env region name q.value

    abbrev made : Declared → Given Frame → State
    made x f = body_made env before q.value (block_of x.made f.value) f.next

    -- what the state behind a body keeps of the one behind its specification
    abbrev IsBehind : State → Type 0
    IsBehind t =
        (rest : List Subprogram) → t.subprograms ≡ sub ∷ rest → Serves facts inst env.generic t
        → AreListed facts inst p shapes env.generic t.exceptions_declared → Final env.generic q.next
        × ((typed_parameters 0 q.value.parameters ≡ sub.parameters) × (is_function sub ≡ returns_value (returning_of q.value.result)))

    behind_body : (x : Declared) (f : Given Frame) → q.next.objects ≡ length q.next.words → LeadsOn p facts are inst shapes env.generic q.next x
        → Lead p facts are inst shapes env.generic x.next f → FrameAs inside (frame_returns b.statements) f → may_end b q.value.result ≡ true → IsBehind (made x f)
    behind_body x f counted h k gives ends rest same serves listed =
        let own = ap (head_or sub) same in
        let go = leads_both p facts are inst shapes env.generic q.next x.next f.next h k in (
          go.back counted (record {
            serves = record { met = serves.met; constants = serves.constants; limits = serves.limits };
            shaped = objects_shaped p facts has are inst sub f.next.words (ap (λ s. s.objects) own);
            listed = listed;
          }),
          (
            ap (λ s. s.parameters) own,
            sym (ap is_function own) ∙ (gives ∙ gives_as p facts has are inst sub b q.value.result ends),
          ),
        )

    body_behind : env.step ≡ typing → q.next.objects ≡ length q.next.words → IfOk (body_judged env before b region name q).answer IsBehind
    body_behind step counted =
        answered IsBehind b.specification.pos
        (outcome_after (all_declared inside q.next b.specification.pos b.declarations).answer
        (λ x. all_handled (with_local inside x.region) x.next b.specification.pos b.statements
        >>= (λ f. closed_by b.specification.pos b.specification.name b.end_name
        >>= (λ u. typed_rule env.step (made x f) (if may_end b q.value.result then Some (made x f) else None)))))
        (part_so (LeadsOn p facts are inst shapes env.generic q.next) IsBehind (all_declared inside q.next b.specification.pos b.declarations).answer
        (λ x. all_handled (with_local inside x.region) x.next b.specification.pos b.statements
        >>= (λ f. closed_by b.specification.pos b.specification.name b.end_name
        >>= (λ u. typed_rule env.step (made x f) (if may_end b q.value.result then Some (made x f) else None))))
        (declarations_lead p facts are inst shapes inside q.next b.specification.pos b.declarations)
        (λ x h. part_so (λ f. Lead p facts are inst shapes env.generic x.next f × FrameAs inside (frame_returns b.statements) f) IsBehind (all_handled (with_local inside x.region) x.next b.specification.pos b.statements).answer
        (λ f. closed_by b.specification.pos b.specification.name b.end_name
        >>= (λ u. typed_rule env.step (made x f) (if may_end b q.value.result then Some (made x f) else None)))
        (both_ok (Lead p facts are inst shapes env.generic x.next) (FrameAs inside (frame_returns b.statements))
        (all_handled (with_local inside x.region) x.next b.specification.pos b.statements).answer
        (handled_lead p facts are inst shapes (with_local inside x.region) x.next b.specification.pos b.statements)
        (handled_gives (with_local inside x.region) x.next b.specification.pos b.statements step))
        (λ f k. part_so (λ u. Unit {0}) IsBehind (closed_by b.specification.pos b.specification.name b.end_name).answer
        (λ u. typed_rule env.step (made x f) (if may_end b q.value.result then Some (made x f) else None))
        (any_answer (closed_by b.specification.pos b.specification.name b.end_name).answer)
        (λ u v. typed_so IsBehind env.step (made x f) (if may_end b q.value.result then Some (made x f) else None) step
        (if_test IsBehind (may_end b q.value.result) (Some (made x f)) (λ e. behind_body x f counted h k.0 k.1 e))))))

    -- where a body stands, before its specification: its subprogram is visible in this region
    module _ (types : AdaType → Type 0) (s : State) (st : Stands p inst shapes types Starts (opened env) s) where
      specified_stands : (g : Given Profile) → IsCountedProfile p facts has are inst sub types st.apart env.generic s g → IsProfileOf p facts has are inst sub types st.apart g
          → IsRegion p inst types shapes Starts region → Stands p inst shapes types Starts (inside_body env region name g.value) g.next
      specified_stands g c known h = record {
        place = record {
          step = st.place.step;
          integers = st.place.integers;
          booleans = st.place.booleans;
          regions = (known.region, (h, st.place.regions.1.1));
          own = own_if env.is_library region env.own h st.place.own;
          units = st.place.units;
          test_io = st.place.test_io;
        };
        world = st.world;
        apart = st.apart;
        older = λ u n i e. let few = st.older u n i e in let rise = c.leads.rise in omega (arith, few, rise);
        counted = c.leads.counted refl;
        alone = st.alone;
      }
        where
          own_if : (b : Bool) (r own : Region) → IsRegion p inst types shapes Starts r → IsRegion p inst types shapes Starts own
              → IsRegion p inst types shapes Starts (if b then r else own)
          own_if true r own h k = h
          own_if false r own h k = k

      -- the region of a body is known where its own subprogram is one of the program
      abbrev pub RegionKnown : Type 0
      RegionKnown =
          is_function sub ≡ returns_value (returning_of q.value.result) → typed_parameters 0 q.value.parameters ≡ sub.parameters
          → IsProfileOf p facts has are inst sub types st.apart q → IsRegion p inst types shapes Starts region

      -- a body behind its specification
      pub body_after : (c : Specifies p facts has are inst sub types st.apart env.generic s q) → AreWritten b.declarations × IsHandledText b.statements
          → length sub.parameters ≤ most_parameters
          → IfOk (body_judged env before b region name q).answer
          (λ t. (rest : List Subprogram) → t.subprograms ≡ sub ∷ rest → Serves facts inst env.generic t
          → AreListed facts inst p shapes env.generic t.exceptions_declared → RegionKnown → IsFormed p inst sub)
      body_after c written few =
          weaker_ok
          (λ t. IsBehind t × ((is : IsSpecified p facts has are inst sub types env region name q)
          → IsBodyOf p facts has are inst sub types env before b region name q is written t))
          (λ t. (rest : List Subprogram) → t.subprograms ≡ sub ∷ rest → Serves facts inst env.generic t
          → AreListed facts inst p shapes env.generic t.exceptions_declared → RegionKnown → IsFormed p inst sub)
          (body_judged env before b region name q).answer
          (both_ok IsBehind (λ t. (is : IsSpecified p facts has are inst sub types env region name q)
          → IsBodyOf p facts has are inst sub types env before b region name q is written t)
          (body_judged env before b region name q).answer (body_behind st.place.step (c.0.leads.counted refl))
          (each_ok (λ (is : IsSpecified p facts has are inst sub types env region name q) t. IsBodyOf p facts has are inst sub types env before b region name q is written t)
          (body_judged env before b region name q).answer (λ is. body_known p facts has are inst sub types env before b region name q is written)))
          (λ t h rest same serves listed region_known.
          let before_body = h.0 rest same serves listed in
          let known = c.1 before_body.0 (all_visible q.value.parameters before_body.1.0) in
          h.1 (record {
            stands = specified_stands q c.0 known (region_known before_body.1.1 before_body.1.0 known);
            returns = known.returns;
            numbered = c.0.numbered;
            typed = known.typed;
            few = subst (λ n. n ≤ most_parameters) (ap length (sym before_body.1.0) ∙ parameter_count p facts has are inst sub 0 q.value.parameters) few;
            given = known.given;
            shapes_are = known.shapes_are;
          }) rest same serves listed)
