-- Specifications, of the rules' definitions, and the region that opens for their parameters.
use Rattle.std.proofs.Common.{◌≡◌, ◌<◌, List, [], ◌∷◌, length, map, reverse, None, Ok, sym, ap, ◌∙◌, subst, arith}
use Rattle.std.specs.declared.vec.Vec.{Vec}
use Rattle.std.specs.declared.alloc.Global.{Global}
use Rattle.cov_base.specs.declared.failure.Failure.{Failure}
use Rattle.ada_syntax.specs.declared.unit.Parameter.{Parameter as Source}
use Rattle.ada_syntax.specs.declared.unit.Specification.{Specification}
use Rattle.ada_rules.specs.Plan.{outcome_after, answer_at}
use Rattle.ada_rules.specs.Entities.{Region}
use Rattle.ada_rules.specs.Environment.{State, Given, given, Env, opened}
use Rattle.ada_rules.specs.Subprograms.{Profile, parameters_judged, result_judged, fresh, specified}
use Rattle.ada_entities.specs.Answers.{Refuses}
use Rattle.ada_entities.specs.declared.fault.Refusal.{Refusal}
use Rattle.ada_entities.specs.declared.routines.Parameter.{Parameter}
use Rattle.ada_entities.specs.EntityViews.{Tables}
use Rattle.ada_entities.specs.RegionCode.{innermost, enclosing}
use Rattle.ada_phrases.proofs.Parts.{passes_on, in_part, refused_as}
use Rattle.program_walk.specs.declared.symbols.Symbols.{Symbols}
use Rattle.program_walk.specs.Changes.{IsOpen, Becomes, ChangesInside, Opens}
use Rattle.program_walk.specs.declared.place.Notes.{Notes}
use Rattle.program_walk.specs.Places.{with_notes}
use Rattle.program_walk.specs.declared.counts.Counts.{Counts}
use Rattle.program_walk.specs.declared.found.Found.{Found}
use Rattle.program_walk.specs.declared.found.Word.{Word}
use Rattle.program_walk.specs.declared.walk.Walk.{Walk}
use Rattle.program_walk.specs.States.{word_of, kept_state}
use Rattle.program_walk.specs.Walks.{Continues}
use Rattle.specifications.specs.Results.{profile_with}

-- the objects of a subprogram begin anew
pub fresh_state : (k : Tables) (n : Notes) (c : Counts) (f : Found) (words : Vec Word Global) → words.items ≡ []
    → with_notes k n (kept_state k (record c { objects = 0 }) (record f { words = words })) ≡ fresh (with_notes k n (kept_state k c f))
fresh_state k n c f words e = λ z. record (with_notes k n (kept_state k c f)) { objects = 0; words = reverse (map (word_of k) (e z)) }

module _ (env : Env) (s : State) (x : Specification) (n : State) (qs : List Source) (begins : n ≡ fresh s) (all : qs ≡ x.parameters) where
  from_fresh : (specified env s x).answer
      ≡ answer_at x.pos (outcome_after (parameters_judged (opened env) n x.pos qs).answer (λ q. result_judged (opened env) q x.result_mark))
  from_fresh = λ z. answer_at x.pos
      (outcome_after (parameters_judged (opened env) (sym begins z) x.pos (sym all z)).answer (λ q. result_judged (opened env) q x.result_mark))

  pub parameters_refused : (f : Failure Refusal) → Refuses (parameters_judged (opened env) n x.pos qs).answer f → Refuses (specified env s x).answer f
  parameters_refused f h =
      refused_as _ _ f from_fresh
      (in_part x.pos (parameters_judged (opened env) n x.pos qs).answer (λ q. result_judged (opened env) q x.result_mark) f h)

  pub parameters_pass : (q : Given Profile) → (parameters_judged (opened env) n x.pos qs).answer ≡ Ok q
      → (specified env s x).answer ≡ answer_at x.pos (result_judged (opened env) q x.result_mark).outcome
  parameters_pass q h =
      from_fresh
      ∙ passes_on x.pos (parameters_judged (opened env) n x.pos qs).answer (λ q. result_judged (opened env) q x.result_mark) q h

pub opens_open : (old new : Symbols) → Opens old new → IsOpen new
opens_open old new g = subst (λ rs. 0 < length rs) (sym g.regions) (omega arith)

-- a region that opens, and changes
pub opens_then : (a b c : Symbols) → Opens a b → ChangesInside b c → Becomes a c (innermost c.regions ∷ a.regions) a.units
opens_then a b c opens inside = record {
  known = λ h. inside.known (opens.known h);
  stays = λ h k l alike. opens.stays h k l (inside.stays (opens.known h) k l alike);
  begins = λ k h. opens.begins k (inside.begins k h);
  regions = inside.regions ∙ ap (λ rs. innermost c.regions ∷ enclosing rs) opens.regions;
  units = inside.units ∙ opens.units;
}

-- the walk in which a new region is open, and the objects of a subprogram begin anew
abbrev pub opened_walk : Walk → Symbols → Vec Word Global → Walk
opened_walk w s words = record w { symbols = s; counts = record w.counts { objects = 0 }; found = record w.found { words = words } }

pub opening_continues : (w : Walk) (s : Symbols) (words : Vec Word Global) → Opens w.symbols s → Continues w (opened_walk w s words)
opening_continues w s words opens k b = record { symbols = opens.begins k b.symbols; spans = b.spans }

-- the same list of parameters in other words
pub with_list : (k : Tables) (env : Env) (x : Specification) (region : Region) (s : State) (old new : List Parameter) → old ≡ new
    → answer_at x.pos (result_judged env (given (profile_with k region old None) s) x.result_mark).outcome
    ≡ answer_at x.pos (result_judged env (given (profile_with k region new None) s) x.result_mark).outcome
with_list k env x region s old new e = ap (λ qs. answer_at x.pos (result_judged env (given (profile_with k region qs None) s) x.result_mark).outcome) e
