-- Formals of generics, of the rules' definitions.
use Rattle.std.proofs.Common.{◌≡◌, ℕ, Bool, Some, Ok, sym, ◌∙◌}
use Rattle.cov_base.specs.declared.position.Pos.{Pos}
use Rattle.cov_base.specs.declared.failure.Failure.{Failure}
use Rattle.ada_syntax.specs.Tree.{Name}
use Rattle.ada_syntax.specs.declared.name.Identifier.{Identifier}
use Rattle.ada_syntax.specs.declared.unit.FormalKind.TheVariants as formal
use Rattle.ada_syntax.specs.declared.unit.Specification.{Specification}
use Rattle.ada_rules.specs.Plan.{Plan, ◌>>=◌, rule, answer_at}
use Rattle.ada_rules.specs.Types.{Identity}
use Rattle.ada_rules.specs.Entities.{key, Region, redefined}
use Rattle.ada_rules.specs.Environment.{State, Given, given, Env, with_local, new_identity, one_type_more, hide}
use Rattle.ada_rules.specs.Expressions.{Marked, scalar_mark}
use Rattle.ada_rules.specs.Instances.{formal_mark, formal_type_declared, formal_routine, formal_declared}
use Rattle.ada_rules.specs.Subprograms.{Profile, specified, declared_only}
use Rattle.ada_entities.specs.Answers.{Refuses}
use Rattle.ada_entities.specs.declared.fault.Refusal.{Refusal}
use Rattle.ada_phrases.proofs.Parts.{passes_on, in_part, refused_as}
use Rattle.unit_walk.specs.Formals.{object_there, object_declared}

-- a formal type, by an identity
abbrev type_there : Identifier → ℕ → Bool → Identity → State → Region → Plan (Given Region)
type_there i n b j s region = rule (Some (given (redefined (key i) (formal_mark j n b) region) s))

module _ (env : Env) (s : State) (p : Pos) (i : Identifier) (n : ℕ) where
  pub type_refused : (b : Bool) (f : Failure Refusal) → Refuses (hide env.local i).answer f
      → Refuses (answer_at p (formal_type_declared env s i n b).outcome) f
  type_refused b f h = in_part p (hide env.local i).answer (type_there i n b (new_identity env s) (one_type_more s)) f h

  pub type_passes : (b : Bool) (region : Region) (m : State) (j : Identity) → (hide env.local i).answer ≡ Ok region → m ≡ one_type_more s
      → j ≡ new_identity env s
      → answer_at p (formal_type_declared env s i n b).outcome ≡ Ok (given (redefined (key i) (formal_mark j n b) region) m)
  type_passes b region m j hidden next own =
      passes_on p (hide env.local i).answer (type_there i n b (new_identity env s) (one_type_more s)) region hidden
      ∙ (λ z. Ok (given (redefined (key i) (formal_mark (sym own z) n b) region) (sym next z)))

  -- a formal object
  module _ (mark : Name) where
    abbrev then_mark : Region → Plan (Given Region)
    then_mark region = scalar_mark (with_local env region) s mark >>= object_there n i region

    pub object_refused : (f : Failure Refusal) → Refuses (hide env.local i).answer f → Refuses (answer_at p (object_declared env s n i mark).outcome) f
    object_refused f h = in_part p (hide env.local i).answer then_mark f h

    module _ (region : Region) (hidden : (hide env.local i).answer ≡ Ok region) where
      pub mark_refused : (f : Failure Refusal) → Refuses (scalar_mark (with_local env region) s mark).answer f
          → Refuses (answer_at p (object_declared env s n i mark).outcome) f
      mark_refused f h =
          refused_as _ _ f (passes_on p (hide env.local i).answer then_mark region hidden)
          (in_part p (scalar_mark (with_local env region) s mark).answer (object_there n i region) f h)

      pub object_passes : (t : Given Marked) → (scalar_mark (with_local env region) s mark).answer ≡ Ok t
          → answer_at p (object_declared env s n i mark).outcome ≡ answer_at p (object_there n i region t).outcome
      object_passes t h =
          passes_on p (hide env.local i).answer then_mark region hidden
          ∙ passes_on p (scalar_mark (with_local env region) s mark).answer (object_there n i region) t h

-- a formal subprogram
abbrev pub routine_declared : State → ℕ → Specification → Region → Given Profile → Given Region
routine_declared s n x region q = given (redefined (key x.name) (formal_routine n q.value) region) (declared_only s q.next)

abbrev routine_there : State → ℕ → Specification → Region → Given Profile → Plan (Given Region)
routine_there s n x region q = rule (Some (routine_declared s n x region q))

module _ (env : Env) (s : State) (p : Pos) (n : ℕ) (x : Specification) where
  abbrev then_specified : Region → Plan (Given Region)
  then_specified region = specified (with_local env region) s x >>= routine_there s n x region

  pub name_refused : (f : Failure Refusal) → Refuses (hide env.local x.name).answer f
      → Refuses (answer_at p (formal_declared env s n (formal.Subprogram x)).outcome) f
  name_refused f h = in_part p (hide env.local x.name).answer then_specified f h

  module _ (region : Region) (hidden : (hide env.local x.name).answer ≡ Ok region) where
    pub profile_refused : (f : Failure Refusal) → Refuses (specified (with_local env region) s x).answer f
        → Refuses (answer_at p (formal_declared env s n (formal.Subprogram x)).outcome) f
    profile_refused f h =
        refused_as _ _ f (passes_on p (hide env.local x.name).answer then_specified region hidden)
        (in_part p (specified (with_local env region) s x).answer (routine_there s n x region) f h)

    pub routine_passes : (q : Given Profile) → (specified (with_local env region) s x).answer ≡ Ok q
        → answer_at p (formal_declared env s n (formal.Subprogram x)).outcome ≡ Ok (routine_declared s n x region q)
    routine_passes q h =
        passes_on p (hide env.local x.name).answer then_specified region hidden
        ∙ passes_on p (specified (with_local env region) s x).answer (routine_there s n x region) q h
