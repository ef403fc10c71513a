-- The beginning of a for loop, of the rules' definitions.
use Rattle.std.proofs.Common.{◌≡◌, ℕ, ◌+◌, List, [], ◌∷◌, map, reverse, Some, Result, Ok, Err, if◌then◌else◌, refl, sym, ap, ◌∙◌, subst}
use Rattle.std.proofs.lemmas.Cmp.{nat_list_eq_equiv}
use Rattle.cov_base.specs.declared.position.Pos.{Pos}
use Rattle.cov_base.specs.declared.failure.Failure.{Failure}
use Rattle.ada_syntax.specs.declared.declaration.DiscreteRange.{DiscreteRange}
use Rattle.ada_syntax.specs.declared.name.Identifier.{Identifier}
use Rattle.ada_tree.specs.declared.types.Subtype.{Subtype as TreeSubtype}
use Rattle.ada_rules.specs.Plan.{Plan, ◌>>=◌, rule, answer_at}
use Rattle.ada_rules.specs.Types.{AdaSubtype, subtype_in_tree}
use Rattle.ada_rules.specs.Entities.{key, Entity, hidden, Region, redefined}
use Rattle.ada_rules.specs.Environment.{State, Given, given, Env, beginning_state, hide, with_local, opened}
use Rattle.ada_rules.specs.Statements.{Turns, turned, one_object_more, loop_parameter}
use Rattle.ada_entities.specs.declared.fault.Refusal.{Refusal}
use Rattle.ada_entities.specs.Answers.{Refuses}
use Rattle.ada_entities.specs.EntityViews.{Tables, region_of}
use Rattle.ada_entities.specs.RegionCode.{innermost, enclosing}
use Rattle.ada_phrases.proofs.Parts.{passes_on, in_part, refused_as}
use Rattle.program_walk.specs.declared.place.Notes.{Notes}
use Rattle.program_walk.specs.Places.{with_notes}
use Rattle.program_walk.specs.declared.symbols.Symbols.{Symbols}
use Rattle.program_walk.specs.SymbolViews as symbols
use Rattle.program_walk.specs.Changes.{Becomes, ChangesInside, Opens}
use Rattle.program_walk.specs.declared.context.Context.{Context}
use Rattle.program_walk.specs.declared.context.Level.TheVariants as level
use Rattle.program_walk.specs.declared.walk.Walk.{Walk}
use Rattle.program_walk.specs.Walks.{Begins, StandsAt, IsInside}
use Rattle.program_walk.proofs.Following.{opened_inside, changed_inside, reopened_inside}
use Rattle.program_walk.specs.declared.counts.Counts.{Counts}
use Rattle.program_walk.specs.declared.found.Found.{Found}
use Rattle.program_walk.specs.States.{subtype_there, word_of, with_counts, kept_state}
use Rattle.program_walk.specs.Counting.{CountsObject}
use Rattle.program_walk.specs.Finding.{FindsWord}
use Rattle.statement_parts.specs.Turns.{turns_in}
use Rattle.statements.specs.declared.loops.Begun.{Begun as CodeBegun}
use Rattle.statements.specs.Begun.{HasParameter, OpensLoop}
use Rattle.statements.specs.Loops.{Begun, begun_plan}

-- the parameter is an object of the subprogram, with one word
pub parameter_state : (k : Tables) (n : Notes) (old new : Counts) (f g : Found) (t : AdaSubtype) (x : TreeSubtype) (p : Pos) → CountsObject old new
    → FindsWord f g (record { pos = p; subtype = x }) → subtype_there k x ≡ subtype_in_tree t
    → with_notes k n (kept_state k new g) ≡ one_object_more p t (with_notes k n (kept_state k old f))
parameter_state k n old new f g t x p counts finds tree =
    ap (λ c. with_notes k n (kept_state k c g)) counts
    ∙ (ap (with_notes k n) (finds k (with_counts (record old { objects = old.objects + 1 }) beginning_state))
    ∙ (λ z. record (with_notes k n (kept_state k old f)) {
      objects = old.objects + 1;
      words = record { place = p; subtype = tree z } ∷ reverse (map (word_of k) f.words.items);
    }))

-- the name of a region that was hidden there alone, and now denotes something else
abbrev redefined_in : List ℕ → Entity → Result Region Pos → Region
redefined_in name x (Ok r) = redefined name x r
redefined_in name x (Err p) = []

pub redefined_alone : (i : Identifier) (x : Entity) (region : Region) → (hide [] i).answer ≡ Ok region
    → redefined (key i) x region ≡ (key i, x) ∷ []
redefined_alone i x region h =
    sym (ap (redefined_in (key i) x) h)
    ∙ ap (λ b. if b then (key i, x) ∷ [] else (key i, hidden) ∷ []) (nat_list_eq_equiv.refl (key i))

module _ (env : Env) (s : State) (p : Pos) (i : Identifier) (r : DiscreteRange) where
  abbrev begun_by : Given Turns → Given Begun
  begun_by t = given (record { parameter = t.next.objects; turns = t.value }) (one_object_more p t.value.subtype t.next)

  abbrev then_turned : Region → Plan (Given Begun)
  then_turned region = turned (with_local (opened env) region) s r >>= (λ t. rule (Some (begun_by t)))

  pub name_refused : (f : Failure Refusal) → Refuses (hide [] i).answer f → Refuses (answer_at p (begun_plan env s p i r).outcome) f
  name_refused f h = in_part p (hide [] i).answer then_turned f h

  module _ (region : Region) (alone : (hide [] i).answer ≡ Ok region) where
    pub range_refused : (f : Failure Refusal) → Refuses (turned (with_local (opened env) region) s r).answer f
        → Refuses (answer_at p (begun_plan env s p i r).outcome) f
    range_refused f h =
        refused_as _ _ f (passes_on p (hide [] i).answer then_turned region alone)
        (in_part p (turned (with_local (opened env) region) s r).answer (λ t. rule (Some (begun_by t))) f h)

    pub begun_passes : (t : Given Turns) → (turned (with_local (opened env) region) s r).answer ≡ Ok t
        → answer_at p (begun_plan env s p i r).outcome ≡ Ok (begun_by t)
    begun_passes t h =
        passes_on p (hide [] i).answer then_turned region alone
        ∙ passes_on p (turned (with_local (opened env) region) s r).answer (λ t. rule (Some (begun_by t))) t h

-- where the range of a loop stands: in a new region that hides the name of the parameter
pub stands_hidden : (c : Context) (w : Walk) (a b : Symbols) (k : Tables) (env : Env) → StandsAt c w k env → Opens w.symbols a → ChangesInside a b
    → symbols.Begins b k
    → StandsAt (record c { level = level.Inside }) (record w { symbols = b }) k (with_local (opened env) (region_of k (innermost b.regions)))
stands_hidden c w a b k env h opens inside begins =
    let first : Walk = record w { symbols = a } in
    let second : Walk = record w { symbols = b } in
    let d : Context = record c { level = level.Inside } in
    changed_inside d first second inside k (opened env)
    (opened_inside c d w first refl opens k env h (record { symbols = inside.begins k begins; spans = h.spans }))
    (record { symbols = begins; spans = h.spans })

-- a region that opens, and changes
pub opened_changed : (a b c : Symbols) → Opens a b → ChangesInside b c → Becomes a c (innermost c.regions ∷ a.regions) a.units
opened_changed a b c opens inside = record {
  known = λ h. inside.known (opens.known h);
  stays = λ h k l alike. opens.stays h k l (inside.stays (opens.known h) k l alike);
  begins = λ k h. opens.begins k (inside.begins k h);
  regions = inside.regions ∙ ap (λ rs. innermost c.regions ∷ enclosing rs) opens.regions;
  units = inside.units ∙ opens.units;
}

-- where the statements of a loop stand: in the region of its parameter
pub stands_in_turn : (c d : Context) (old new : Walk) (i : Identifier) (b : CodeBegun) → IsInside c d → OpensLoop old new → HasParameter new i b
    → (k : Tables) (env : Env) → StandsAt c old k env → Begins new k
    → StandsAt d new k (with_local (opened env) ((key i, loop_parameter b.parameter (turns_in k b.turns)) ∷ []))
stands_in_turn c d old new i b inside opens has k env h begins =
    subst (λ r. StandsAt d new k (with_local (opened env) r)) (has k)
    (reopened_inside c d old new (innermost new.symbols.regions) inside opens k env h begins)
