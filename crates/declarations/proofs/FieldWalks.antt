-- Components of a record, as the walk goes on over their declarations.
use Rattle.std.proofs.Common.{◌≡◌, ℕ, ◌+◌, ◌<◌, ◌≤◌, List, [], ◌∷◌, length, drop, get_or, Result, Ok, Err, refl, sym, ap, ◌∙◌}
use Rattle.std.proofs.lemmas.List.{at_drop_all, at_drop_more}
use Rattle.cov_base.specs.declared.position.Pos.{Pos}
use Rattle.cov_base.specs.declared.failure.Failure.{Failure}
use Rattle.ada_syntax.specs.declared.declaration.Component.{Component}
use Rattle.ada_rules.specs.Types.{Fields}
use Rattle.ada_rules.specs.Environment.{Given, given, Env}
use Rattle.ada_rules.specs.Declarations.{fields_of}
use Rattle.ada_entities.specs.Answers.{Refuses, refused_at, no_memory}
use Rattle.ada_entities.specs.Tables as table
use Rattle.ada_entities.specs.Views.{TypeTables}
use Rattle.ada_entities.specs.declared.composite.Component.{Component as Field}
use Rattle.ada_entities.specs.declared.fault.Refusal.{Refusal}
use Rattle.ada_entities.specs.EntityViews.{Tables}
use Rattle.ada_phrases.proofs.Parts.{refused_as}
use Rattle.program_walk.specs.declared.context.Context.{Context}
use Rattle.program_walk.specs.declared.walk.Walk.{Walk}
use Rattle.program_walk.specs.States.{state_of}
use Rattle.program_walk.specs.Walks.{Begins, StandsAt, with_innermost}
use Rattle.declarations.specs.Fields.{behind_fields}
use Rattle.program_walk.specs.Going.{GoesInside}
use Rattle.declarations.proofs.FieldLaws.{before_none}
use Rattle.program_walk.proofs.GoingLaws.{stands_then}

-- where the walk stands behind some components, from which the rest comes to what all of them come to
pub record Reaches (c : Context) (old new : Walk) (k : Tables) (env : Env) (all rest : List Component) (done : List Field) : Type 0 where
  pub here : Env
  pub stands : StandsAt c new k here
  pub comes : (p : Pos) → (fields_of env (state_of k old) p all).answer ≡ behind_fields k.types done (fields_of here (state_of k new) p rest).answer

none_behind : (k : TypeTables) (r : Result (Given Fields) Pos) → r ≡ behind_fields k [] r
none_behind k (Ok g) = refl
none_behind k (Err p) = refl

pub reaches_first : (c : Context) (w : Walk) (k : Tables) (env : Env) (all : List Component) → StandsAt c w k env → Reaches c w w k env all all []
reaches_first c w k env all h = record { here = env; stands = h; comes = λ p. none_behind k.types (fields_of env (state_of k w) p all).answer }

behind_refused : (k : TypeTables) (done : List Field) (r : Result (Given Fields) Pos) (f : Failure Refusal) → Refuses r f → Refuses (behind_fields k done r) f
behind_refused k done r f (refused_at h) = refused_at (ap (behind_fields k done) h)
behind_refused k done r f no_memory = no_memory

module _ (c : Context) (old middle : Walk) (k : Tables) (env : Env) (all : List Component) (i : ℕ) (before : List Field)
    (r : Reaches c old middle k env all (drop i all) before) where
  rest_at : (x : Component) (p : Pos) → i < length all → x ≡ get_or all i x
      → (fields_of env (state_of k old) p all).answer
      ≡ behind_fields k.types before (fields_of r.here (state_of k middle) p (x ∷ drop (i + 1) all)).answer
  rest_at x p less e =
      r.comes p
      ∙ (at_drop_more (λ xs. behind_fields k.types before (fields_of r.here (state_of k middle) p xs).answer) all i x less
      ∙ ap (λ y. behind_fields k.types before (fields_of r.here (state_of k middle) p (y ∷ drop (i + 1) all)).answer) (sym e))

  pub reaches_next : (x : Component) (new : Walk) (after : List Field) → i < length all → x ≡ get_or all i x → GoesInside middle new → Begins new k
      → ((p : Pos) (cs : List Component)
      → behind_fields k.types before (fields_of r.here (state_of k middle) p (x ∷ cs)).answer
      ≡ behind_fields k.types after (fields_of (with_innermost new k r.here) (state_of k new) p cs).answer)
      → Reaches c old new k env all (drop (i + 1) all) after
  reaches_next x new after less e goes b has = record {
    here = with_innermost new k r.here;
    stands = stands_then c middle k r.here r.stands new goes b;
    comes = λ p. rest_at x p less e ∙ has p (drop (i + 1) all);
  }

  pub refuses_next : (x : Component) (f : Failure Refusal) (p : Pos) → i < length all → x ≡ get_or all i x
      → ((q : Pos) (cs : List Component) → Refuses (fields_of r.here (state_of k middle) q (x ∷ cs)).answer f)
      → Refuses (fields_of env (state_of k old) p all).answer f
  refuses_next x f p less e h =
      refused_as _ _ f (rest_at x p less e)
      (behind_refused k.types before (fields_of r.here (state_of k middle) p (x ∷ drop (i + 1) all)).answer f (h p (drop (i + 1) all)))

  pub reaches_last : (p : Pos) → length all ≤ i
      → (fields_of env (state_of k old) p all).answer ≡ Ok (given (table.fields_of k.types before) (state_of k middle))
  reaches_last p none =
      r.comes p
      ∙ (at_drop_all (λ xs. behind_fields k.types before (fields_of r.here (state_of k middle) p xs).answer) all i none
      ∙ ap (λ fs. Ok (given fs (state_of k middle))) (before_none k.types before))
