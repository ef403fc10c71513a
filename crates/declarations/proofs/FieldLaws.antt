-- Components of records, one declaration behind the other.
use Rattle.std.proofs.Common.{◌≡◌, ℕ, ◌+◌, ◌<◌, ◌≤◌, List, [], ◌∷◌, ◌++◌, length, drop, get_or, Some, Result, Ok, Err, refl, sym, ap, ◌∙◌}
use Rattle.std.proofs.lemmas.List.{at_drop_all, at_drop_more}
use Rattle.cov_base.specs.declared.position.Pos.{Pos}
use Rattle.cov_base.specs.declared.failure.Failure.{Failure}
use Rattle.ada_syntax.specs.declared.declaration.Component.{Component}
use Rattle.ada_syntax.specs.declared.name.Identifier.{Identifier}
use Rattle.ada_rules.specs.Plan.{Plan, ◌>>=◌, rule, outcome_after, answer_at}
use Rattle.ada_rules.specs.Types.{AdaSubtype, Fields, no_field, and_field}
use Rattle.ada_rules.specs.Entities as rules
use Rattle.ada_rules.specs.Entities.{key, Region, redefined}
use Rattle.ada_rules.specs.Environment.{State, Given, given, Env, with_local, hide_all}
use Rattle.ada_rules.specs.Declarations.{indicated, with_fields, all_as, fields_of}
use Rattle.ada_entities.specs.declared.composite.Component.{Component as Field}
use Rattle.ada_entities.specs.declared.fault.Refusal.{Refusal}
use Rattle.ada_entities.specs.declared.types.Subtype.{Subtype}
use Rattle.ada_entities.specs.Answers.{Refuses}
use Rattle.ada_entities.specs.Tables as table
use Rattle.ada_entities.specs.Views.{TypeTables, subtype_of}
use Rattle.ada_phrases.proofs.Parts.{passes_on, in_part, refused_as}
use Rattle.declarations.specs.Fields.{fields_before, behind_fields}

-- names that are components from here on
pub turn_component : (region new : Region) (is : List Identifier) (j : ℕ) (i : Identifier) → j < length is → i ≡ get_or is j i
    → new ≡ redefined (key i) rules.component region → all_as rules.component region (drop j is) ≡ all_as rules.component new (drop (j + 1) is)
turn_component region new is j i less e h =
    at_drop_more (all_as rules.component region) is j i less
    ∙ (ap (λ x. all_as rules.component (redefined (key x) rules.component region) (drop (j + 1) is)) (sym e)
    ∙ ap (λ r. all_as rules.component r (drop (j + 1) is)) (sym h))

pub all_components : (region : Region) (is : List Identifier) (j : ℕ) → length is ≤ j → all_as rules.component region (drop j is) ≡ region
all_components region is j h = at_drop_all (all_as rules.component region) is j h

-- components before others
pub one_before : (k : TypeTables) (done : List Field) (c : Field) (rest : Fields)
    → fields_before k (done ++ c ∷ []) rest ≡ fields_before k done (and_field c.name (subtype_of k c.subtype) rest)
one_before k [] c rest = refl
one_before k (x ∷ done) c rest = ap (and_field x.name (subtype_of k x.subtype)) (one_before k done c rest)

pub turn_named : (k : TypeTables) (done new : List Field) (name : List ℕ) (t : Subtype) (rest : Fields) (is : List Identifier) (j : ℕ) (i : Identifier)
    → j < length is → i ≡ get_or is j i → name ≡ key i → new ≡ done ++ record { name = name; subtype = t } ∷ []
    → fields_before k new (with_fields (drop (j + 1) is) (subtype_of k t) rest) ≡ fields_before k done (with_fields (drop j is) (subtype_of k t) rest)
turn_named k done new name t rest is j i less e named added =
    ap (λ fs. fields_before k fs (with_fields (drop (j + 1) is) (subtype_of k t) rest)) added
    ∙ (one_before k done (record { name = name; subtype = t }) (with_fields (drop (j + 1) is) (subtype_of k t) rest)
    ∙ ap (fields_before k done)
    (ap (λ x. and_field x (subtype_of k t) (with_fields (drop (j + 1) is) (subtype_of k t) rest)) (named ∙ ap key e)
    ∙ sym (at_drop_more (λ xs. with_fields xs (subtype_of k t) rest) is j i less)))

pub all_named : (k : TypeTables) (done : List Field) (t : AdaSubtype) (rest : Fields) (is : List Identifier) (j : ℕ) → length is ≤ j
    → fields_before k done (with_fields (drop j is) t rest) ≡ fields_before k done rest
all_named k done t rest is j h = ap (fields_before k done) (at_drop_all (λ xs. with_fields xs t rest) is j h)

pub before_none : (k : TypeTables) (done : List Field) → fields_before k done no_field ≡ table.fields_of k done
before_none k [] = refl
before_none k (c ∷ done) = ap (and_field c.name (subtype_of k c.subtype)) (before_none k done)

-- the components of one declaration
abbrev at_end : List Identifier → Given AdaSubtype → Given Fields → Plan (Given Fields)
at_end is t fs = rule (Some (given (with_fields is t.value fs.value) fs.next))

abbrev then_rest : Env → Region → Component → Pos → List Component → Given AdaSubtype → Plan (Given Fields)
then_rest env names c p cs t =
    fields_of (with_local env (all_as rules.component names c.names)) t.next p cs >>= at_end c.names t

abbrev then_subtype : Env → State → Component → Pos → List Component → Region → Plan (Given Fields)
then_subtype env s c p cs names = indicated (with_local env names) s c.indication >>= then_rest env names c p cs

module _ (env : Env) (s : State) (c : Component) (p : Pos) (cs : List Component) where
  pub names_refused : (f : Failure Refusal) → Refuses (hide_all p env.local c.names).answer f → Refuses (fields_of env s p (c ∷ cs)).answer f
  names_refused f h = in_part p (hide_all p env.local c.names).answer (then_subtype env s c p cs) f h

  module _ (names : Region) (hidden : (hide_all p env.local c.names).answer ≡ Ok names) where
    pub subtype_refused : (f : Failure Refusal) → Refuses (indicated (with_local env names) s c.indication).answer f
        → Refuses (fields_of env s p (c ∷ cs)).answer f
    subtype_refused f h =
        refused_as _ _ f (passes_on p (hide_all p env.local c.names).answer (then_subtype env s c p cs) names hidden)
        (in_part p (indicated (with_local env names) s c.indication).answer (then_rest env names c p cs) f h)

    rest_behind : (k : TypeTables) (done new : List Field) (t : Given AdaSubtype) (r : Result (Given Fields) Pos)
        → ((rest : Fields) → fields_before k new rest ≡ fields_before k done (with_fields c.names t.value rest))
        → behind_fields k done (answer_at p (outcome_after r (at_end c.names t))) ≡ behind_fields k new r
    rest_behind k done new t (Ok fs) h = ap (λ x. Ok (given x fs.next)) (sym (h fs.value))
    rest_behind k done new t (Err q) h = refl

    pub fields_pass : (k : TypeTables) (done new : List Field) (t : Given AdaSubtype) (region : Region) (n : State)
        → (indicated (with_local env names) s c.indication).answer ≡ Ok t → region ≡ all_as rules.component names c.names → n ≡ t.next
        → ((rest : Fields) → fields_before k new rest ≡ fields_before k done (with_fields c.names t.value rest))
        → behind_fields k done (fields_of env s p (c ∷ cs)).answer ≡ behind_fields k new (fields_of (with_local env region) n p cs).answer
    fields_pass k done new t region n ok is_region is_next named =
        ap (behind_fields k done)
        (passes_on p (hide_all p env.local c.names).answer (then_subtype env s c p cs) names hidden
        ∙ passes_on p (indicated (with_local env names) s c.indication).answer (then_rest env names c p cs) t ok)
        ∙ (rest_behind k done new t (fields_of (with_local env (all_as rules.component names c.names)) t.next p cs).answer named
        ∙ (λ z. behind_fields k new (fields_of (with_local env (sym is_region z)) (sym is_next z) p cs).answer))
