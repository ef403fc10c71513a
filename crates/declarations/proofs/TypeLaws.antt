-- Definitions of types, of the rules' definitions.
use Rattle.std.proofs.Common.{◌≡◌, List, Some, Result, Ok, Err, refl, ap, ◌∙◌, subst}
use Rattle.cov_base.specs.declared.position.Pos.{Pos}
use Rattle.cov_base.specs.declared.failure.Failure.{Failure}
use Rattle.ada_meaning.specs.Types.{Range}
use Rattle.ada_syntax.specs.declared.declaration.Bounds.{Bounds}
use Rattle.ada_syntax.specs.declared.declaration.Component.{Component}
use Rattle.ada_syntax.specs.declared.declaration.DiscreteRange.{DiscreteRange}
use Rattle.ada_syntax.specs.declared.declaration.SubtypeIndication.{SubtypeIndication}
use Rattle.ada_syntax.specs.declared.declaration.TypeDefinition.TheVariants as definition
use Rattle.ada_syntax.specs.declared.name.Identifier.{Identifier}
use Rattle.ada_rules.specs.Plan.{Plan, ◌>>=◌, rule, outcome_after, answer_at}
use Rattle.ada_rules.specs.Types.{Identity, integer_type, array_type, record_type, AdaSubtype, of_type, Fields, is_integral, base}
use Rattle.ada_rules.specs.Entities.{Region}
use Rattle.ada_rules.specs.Environment.{State, Given, given, Env, opened, hide_all}
use Rattle.ada_rules.specs.Declarations.{bounded, index_of, indicated, fields_of, Defined, enumerated, unchanged, defined}
use Rattle.ada_entities.specs.declared.fault.Refusal.{Refusal}
use Rattle.ada_entities.specs.Answers.{Refuses, refused_at, no_memory, Answers}
use Rattle.ada_phrases.proofs.Parts.{passes_on, in_part, refused_as}

abbrev as_integer : Env → Identity → Given Range → Plan (Given Defined)
as_integer env i r = rule (Some (unchanged env.local (of_type (integer_type i) r.value) r.next))

abbrev as_array : Env → Identity → Given AdaSubtype → Given AdaSubtype → Plan (Given Defined)
as_array env i x t = rule (Some (unchanged env.local (of_type (array_type i x.value t.value) base) t.next))

abbrev then_component : Env → Identity → SubtypeIndication → Given AdaSubtype → Plan (Given Defined)
then_component env i c x = indicated env x.next c >>= as_array env i x

abbrev as_record : Env → Identity → Given Fields → Plan (Given Defined)
as_record env i fs = rule (Some (unchanged env.local (of_type (record_type i fs.value) base) fs.next))

module _ (env : Env) (s : State) (p : Pos) (i : Identity) where
  module _ (b : Bounds) (r : Range) (e : r ≡ base) where
    pub integer_refused : (f : Failure Refusal) → Refuses (bounded env s is_integral r b).answer f → Refuses (defined env s p i (definition.Integer b)).answer f
    integer_refused f h =
        in_part p (bounded env s is_integral base b).answer (as_integer env i) f (subst (λ q. Refuses (bounded env s is_integral q b).answer f) e h)

    pub integer_passes : (x : Given Range) → (bounded env s is_integral r b).answer ≡ Ok x
        → (defined env s p i (definition.Integer b)).answer ≡ Ok (unchanged env.local (of_type (integer_type i) x.value) x.next)
    integer_passes x h =
        passes_on p (bounded env s is_integral base b).answer (as_integer env i) x (subst (λ q. (bounded env s is_integral q b).answer ≡ Ok x) e h)

  module _ (r : DiscreteRange) (c : SubtypeIndication) where
    pub index_refused : (f : Failure Refusal) → Refuses (index_of env s r).answer f → Refuses (defined env s p i (definition.Array r c)).answer f
    index_refused f h = in_part p (index_of env s r).answer (then_component env i c) f h

    module _ (x : Given AdaSubtype) (index : (index_of env s r).answer ≡ Ok x) where
      pub component_refused : (f : Failure Refusal) → Refuses (indicated env x.next c).answer f
          → Refuses (defined env s p i (definition.Array r c)).answer f
      component_refused f h =
          refused_as _ _ f (passes_on p (index_of env s r).answer (then_component env i c) x index)
          (in_part p (indicated env x.next c).answer (as_array env i x) f h)

      pub array_passes : (t : Given AdaSubtype) → (indicated env x.next c).answer ≡ Ok t
          → (defined env s p i (definition.Array r c)).answer ≡ Ok (unchanged env.local (of_type (array_type i x.value t.value) base) t.next)
      array_passes t h =
          passes_on p (index_of env s r).answer (then_component env i c) x index
          ∙ passes_on p (indicated env x.next c).answer (as_array env i x) t h

  module _ (cs : List Component) where
    pub fields_refused : (f : Failure Refusal) → Refuses (fields_of (opened env) s p cs).answer f → Refuses (defined env s p i (definition.Record cs)).answer f
    fields_refused f h = in_part p (fields_of (opened env) s p cs).answer (as_record env i) f h

    pub record_passes : (fs : Given Fields) → (fields_of (opened env) s p cs).answer ≡ Ok fs
        → (defined env s p i (definition.Record cs)).answer ≡ Ok (unchanged env.local (of_type (record_type i fs.value) base) fs.next)
    record_passes fs h = passes_on p (fields_of (opened env) s p cs).answer (as_record env i) fs h

-- an enumeration, whose definition leaves the state as it is
abbrev pub with_state : {A : Type 0} → State → Result A Pos → Result (Given A) Pos
with_state s (Ok x) = Ok (given x s)
with_state s (Err p) = Err p

pub enumeration_is : (env : Env) (s : State) (p : Pos) (i : Identity) (names : List Identifier)
    → (defined env s p i (definition.Enumeration names)).answer
    ≡ with_state s (answer_at p (hide_all p env.local names >>= (λ r. rule (Some (enumerated i r names)))).outcome)
enumeration_is env s p i names = by_answer (hide_all p env.local names).answer where
  by_answer : (r : Result Region Pos) → answer_at p (outcome_after r (λ r. rule (Some (given (enumerated i r names) s))))
      ≡ with_state s (answer_at p (outcome_after r (λ r. rule (Some (enumerated i r names)))))
  by_answer (Ok r) = refl
  by_answer (Err q) = refl

pub answers_given : {A B : Type 0} (view : A → B) (n : State) (r : Result B Pos) (o : Result A (Failure Refusal)) → Answers view r o
    → Answers (λ x. given (view x) n) (with_state n r) o
answers_given view n r (Ok x) h = ap (with_state n) h
answers_given view n r (Err f) (refused_at h) = refused_at (ap (with_state n) h)
answers_given view n r (Err f) no_memory = no_memory
