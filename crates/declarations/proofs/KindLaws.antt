-- Declarations of each kind, of the rules' definitions.
use Rattle.std.proofs.Common.{◌≡◌, List, [], ◌∷◌, ◌++◌, Option, Some, Result, Ok, Err, refl, sym, ap, ◌∙◌}
use Rattle.std.proofs.lemmas.List.{append_assoc, append-nil}
use Rattle.cov_base.specs.declared.position.Pos.{Pos}
use Rattle.cov_base.specs.declared.failure.Failure.{Failure}
use Rattle.ada_meaning.specs.Tree as tree
use Rattle.ada_syntax.specs.declared.declaration.Constancy.{Constancy}
use Rattle.ada_syntax.specs.declared.declaration.Declaration.{Declaration}
use Rattle.ada_syntax.specs.declared.declaration.DeclarationKind.TheVariants as declares
use Rattle.ada_syntax.specs.declared.declaration.Initial.{Initial}
use Rattle.ada_syntax.specs.declared.declaration.SubtypeIndication.{SubtypeIndication}
use Rattle.ada_syntax.specs.declared.declaration.TypeDefinition.{TypeDefinition}
use Rattle.ada_syntax.specs.declared.name.Identifier.{Identifier}
use Rattle.ada_rules.specs.Plan.{Plan, ◌>>=◌, rule, outcome_after, answer_at}
use Rattle.ada_rules.specs.Types.{Identity, AdaSubtype}
use Rattle.ada_rules.specs.Entities.{Region}
use Rattle.ada_rules.specs.Environment.{State, Given, Env, with_local, new_identity, one_type_more, hide, hide_all}
use Rattle.ada_rules.specs.Declarations.{indicated, Defined, defined, Declared, objects_declared, exceptions_from, type_declared, subtype_declared, kind_declared, declared, all_declared}
use Rattle.ada_entities.specs.declared.fault.Refusal.{Refusal}
use Rattle.ada_entities.specs.Answers.{Refuses, refused_at, no_memory, Answers}
use Rattle.ada_phrases.proofs.Parts.{passes_on, in_part, refused_as}
use Rattle.declarations.specs.Made.{behind_made, behind}

abbrev as_type : Env → Pos → Identifier → Identity → Given Defined → Plan Declared
as_type env p i j x = rule (Some (type_declared env p i j x))

abbrev then_definition : Env → State → Pos → Identifier → Identity → TypeDefinition → Region → Plan Declared
then_definition env m p i j d region = defined (with_local env region) m p j d >>= as_type env p i j

abbrev as_subtype : Identifier → Region → Identity → Given AdaSubtype → Plan Declared
as_subtype i region j x = rule (Some (subtype_declared i region j x))

abbrev then_indicated : Env → State → Identifier → Identity → SubtypeIndication → Region → Plan Declared
then_indicated env m i j t region = indicated (with_local env region) m t >>= as_subtype i region j

abbrev then_objects : Env → State → Pos → Constancy → List Identifier → SubtypeIndication → Option Initial → Region → Plan Declared
then_objects env s p c is t i region = indicated (with_local env region) s t >>= (λ x. objects_declared env p c region is x i)

module _ (env : Env) (s : State) (p : Pos) where
  -- a type or a subtype, by the identity that is next
  module _ (i : Identifier) (m : State) (j : Identity) (next : m ≡ one_type_more s) (own : j ≡ new_identity env s) where
    type_as : (d : TypeDefinition)
        → answer_at p (kind_declared env s p (declares.Type i d)).outcome ≡ answer_at p (outcome_after (hide env.local i).answer (then_definition env m p i j d))
    type_as d = λ z. answer_at p (outcome_after (hide env.local i).answer (then_definition env (sym next z) p i (sym own z) d))

    subtype_as : (t : SubtypeIndication)
        → answer_at p (kind_declared env s p (declares.Subtype i t)).outcome ≡ answer_at p (outcome_after (hide env.local i).answer (then_indicated env m i j t))
    subtype_as t = λ z. answer_at p (outcome_after (hide env.local i).answer (then_indicated env (sym next z) i (sym own z) t))

    module _ (region : Region) (hidden : (hide env.local i).answer ≡ Ok region) where
      pub definition_refused : (d : TypeDefinition) (f : Failure Refusal) → Refuses (defined (with_local env region) m p j d).answer f
          → Refuses (answer_at p (kind_declared env s p (declares.Type i d)).outcome) f
      definition_refused d f h =
          refused_as _ _ f (type_as d ∙ passes_on p (hide env.local i).answer (then_definition env m p i j d) region hidden)
          (in_part p (defined (with_local env region) m p j d).answer (as_type env p i j) f h)

      pub type_passes : (d : TypeDefinition) (x : Given Defined) → (defined (with_local env region) m p j d).answer ≡ Ok x
          → answer_at p (kind_declared env s p (declares.Type i d)).outcome ≡ Ok (type_declared env p i j x)
      type_passes d x h =
          type_as d
          ∙ (passes_on p (hide env.local i).answer (then_definition env m p i j d) region hidden
          ∙ passes_on p (defined (with_local env region) m p j d).answer (as_type env p i j) x h)

      pub mark_refused : (t : SubtypeIndication) (f : Failure Refusal) → Refuses (indicated (with_local env region) m t).answer f
          → Refuses (answer_at p (kind_declared env s p (declares.Subtype i t)).outcome) f
      mark_refused t f h =
          refused_as _ _ f (subtype_as t ∙ passes_on p (hide env.local i).answer (then_indicated env m i j t) region hidden)
          (in_part p (indicated (with_local env region) m t).answer (as_subtype i region j) f h)

      pub subtype_passes : (t : SubtypeIndication) (x : Given AdaSubtype) → (indicated (with_local env region) m t).answer ≡ Ok x
          → answer_at p (kind_declared env s p (declares.Subtype i t)).outcome ≡ Ok (subtype_declared i region j x)
      subtype_passes t x h =
          subtype_as t
          ∙ (passes_on p (hide env.local i).answer (then_indicated env m i j t) region hidden
          ∙ passes_on p (indicated (with_local env region) m t).answer (as_subtype i region j) x h)

  pub name_refused : (i : Identifier) (d : TypeDefinition) (f : Failure Refusal) → Refuses (hide env.local i).answer f
      → Refuses (answer_at p (kind_declared env s p (declares.Type i d)).outcome) f
  name_refused i d f h = in_part p (hide env.local i).answer (then_definition env (one_type_more s) p i (new_identity env s) d) f h

  pub subtype_name_refused : (i : Identifier) (t : SubtypeIndication) (f : Failure Refusal) → Refuses (hide env.local i).answer f
      → Refuses (answer_at p (kind_declared env s p (declares.Subtype i t)).outcome) f
  subtype_name_refused i t f h = in_part p (hide env.local i).answer (then_indicated env (one_type_more s) i (new_identity env s) t) f h

  -- objects
  module _ (c : Constancy) (is : List Identifier) (t : SubtypeIndication) (o : Option Initial) where
    pub names_refused : (f : Failure Refusal) → Refuses (hide_all p env.local is).answer f
        → Refuses (answer_at p (kind_declared env s p (declares.Object is c t o)).outcome) f
    names_refused f h = in_part p (hide_all p env.local is).answer (then_objects env s p c is t o) f h

    module _ (region : Region) (hidden : (hide_all p env.local is).answer ≡ Ok region) where
      pub indication_refused : (f : Failure Refusal) → Refuses (indicated (with_local env region) s t).answer f
          → Refuses (answer_at p (kind_declared env s p (declares.Object is c t o)).outcome) f
      indication_refused f h =
          refused_as _ _ f (passes_on p (hide_all p env.local is).answer (then_objects env s p c is t o) region hidden)
          (in_part p (indicated (with_local env region) s t).answer (λ x. objects_declared env p c region is x o) f h)

      pub objects_pass : (x : Given AdaSubtype) → (indicated (with_local env region) s t).answer ≡ Ok x
          → answer_at p (kind_declared env s p (declares.Object is c t o)).outcome ≡ answer_at p (objects_declared env p c region is x o).outcome
      objects_pass x h =
          passes_on p (hide_all p env.local is).answer (then_objects env s p c is t o) region hidden
          ∙ passes_on p (indicated (with_local env region) s t).answer (λ x. objects_declared env p c region is x o) x h

  -- exceptions
  pub exceptions_refused : (is : List Identifier) (f : Failure Refusal) → Refuses (hide_all p env.local is).answer f
      → Refuses (answer_at p (kind_declared env s p (declares.Exception is)).outcome) f
  exceptions_refused is f h = in_part p (hide_all p env.local is).answer (λ region. rule (Some (exceptions_from env s region is))) f h

  pub exceptions_pass : (is : List Identifier) (region : Region) → (hide_all p env.local is).answer ≡ Ok region
      → answer_at p (kind_declared env s p (declares.Exception is)).outcome ≡ Ok (exceptions_from env s region is)
  exceptions_pass is region h = passes_on p (hide_all p env.local is).answer (λ region. rule (Some (exceptions_from env s region is))) region h

-- a declaration that makes nothing, behind others
pub made_alone : (done : List tree.Declaration) (d : Declared) → d.made ≡ [] → behind_made done d ≡ record d { made = done }
made_alone done d h = λ z. record d { made = (ap (λ xs. done ++ xs) h ∙ append-nil done) z }

pub behind_refused : (done : List tree.Declaration) (r : Result Declared Pos) (f : Failure Refusal) → Refuses r f → Refuses (behind done r) f
behind_refused done r f (refused_at h) = refused_at (ap (behind done) h)
behind_refused done r f no_memory = no_memory

pub answers_behind : {A : Type 0} (done : List tree.Declaration) (d : Declared) (r : Result Declared Pos) (o : Result A (Failure Refusal))
    → d.made ≡ [] → Answers (λ x. d) r o → Answers (λ x. record d { made = done }) (behind done r) o
answers_behind done d r (Ok x) e h = ap (behind done) h ∙ ap Ok (made_alone done d e)
answers_behind done d r (Err f) e h = behind_refused done r f h

front_refused : (done : List tree.Declaration) (r : Result Declared Pos) (f : Failure Refusal) → Refuses (behind done r) f → Refuses r f
front_refused done (Ok x) f (refused_at h) = cc
front_refused done (Ok x) f no_memory = no_memory
front_refused done (Err q) f (refused_at h) = refused_at h
front_refused done (Err q) f no_memory = no_memory

-- declarations in order
abbrev with_rest : Declared → Declared → Plan Declared
with_rest x xs = rule (Some (record { region = xs.region; next = xs.next; made = x.made ++ xs.made }))

abbrev then_others : Env → Pos → List Declaration → Declared → Plan Declared
then_others env p ds x = all_declared (with_local env x.region) x.next p ds >>= with_rest x

module _ (env : Env) (p : Pos) (ds : List Declaration) (done : List tree.Declaration) where
  rest_made : (x : Declared) (r : Result Declared Pos) → behind done (answer_at p (outcome_after r (with_rest x))) ≡ behind (done ++ x.made) r
  rest_made x (Ok xs) = λ z. Ok (record xs { made = sym (append_assoc done x.made xs.made) z })
  rest_made x (Err q) = refl

  after_first : (r : Result Declared Pos) (y : Declared) → behind done r ≡ Ok y
      → behind done (answer_at p (outcome_after r (then_others env p ds))) ≡ behind y.made (all_declared (with_local env y.region) y.next p ds).answer
  after_first (Ok x) y h =
      let same : behind_made done x ≡ y = cc in
      rest_made x (all_declared (with_local env x.region) x.next p ds).answer
      ∙ ap (λ (d : Declared). behind d.made (all_declared (with_local env d.region) d.next p ds).answer) same
  after_first (Err q) y h = absurd cc

  pub next_declared : (s : State) (d : Declaration) (y : Declared) → behind done (declared env s d).answer ≡ Ok y
      → behind done (all_declared env s p (d ∷ ds)).answer ≡ behind y.made (all_declared (with_local env y.region) y.next p ds).answer
  next_declared s d y h = after_first (declared env s d).answer y h

  pub next_refused : (s : State) (d : Declaration) (f : Failure Refusal) → Refuses (behind done (declared env s d).answer) f
      → Refuses (behind done (all_declared env s p (d ∷ ds)).answer) f
  next_refused s d f h =
      behind_refused done (all_declared env s p (d ∷ ds)).answer f
      (in_part p (declared env s d).answer (then_others env p ds) f (front_refused done (declared env s d).answer f h))
