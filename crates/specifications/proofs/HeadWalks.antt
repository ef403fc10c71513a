-- Where the walk stands behind the head of a body.
use Rattle.std.proofs.Common.{◌≡◌, ◌∷◌, refl, ap, subst}
use Rattle.ada_syntax.specs.declared.name.Identifier.{Identifier}
use Rattle.ada_rules.specs.Entities.{key, Region}
use Rattle.ada_rules.specs.Environment.{Env}
use Rattle.ada_rules.specs.Subprograms.{Profile, with_routine, inside_body}
use Rattle.ada_entities.specs.EntityViews.{Tables, region_of}
use Rattle.ada_entities.specs.RegionCode.{innermost, enclosing}
use Rattle.program_walk.specs.declared.symbols.Symbols.{Symbols}
use Rattle.program_walk.specs.Changes.{Becomes, ChangesInside}
use Rattle.program_walk.proofs.HideLaws.{then_inside}
use Rattle.specifications.specs.declared.conformance.Profile.{Profile as CodeProfile}
use Rattle.specifications.specs.Profiles.{profile_of}
use Rattle.program_walk.specs.declared.context.Context.{Context}
use Rattle.program_walk.specs.declared.context.Level.TheVariants as level
use Rattle.program_walk.specs.declared.walk.Walk.{Walk}
use Rattle.program_walk.specs.Walks.{Begins, StandsAt, with_innermost}
use Rattle.program_walk.proofs.Following.{changed_inside, reopened_inside}
use Rattle.specifications.specs.declared.typed.Head.{Head}
use Rattle.specifications.specs.Contexts.{IsBodyContext}
use Rattle.specifications.specs.Heads.{EntersBody}
use Rattle.specifications.specs.Typed.{HasHead}
use Rattle.specifications.proofs.ContextLaws.{stands_in_body}
use Rattle.specifications.proofs.HeadLaws.{round_changes}

-- the region round that of the parameters
pub round_is : (k : Tables) (env : Env) (a b : Symbols) (i : Identifier) (q : Profile) → Becomes a b (innermost b.regions ∷ a.regions) a.units
    → with_routine env (region_of k (innermost (enclosing b.regions))) i q ≡ with_routine env (region_of k (innermost a.regions)) i q
round_is k env a b i q enters = ap (λ rs. with_routine env (region_of k (innermost (enclosing rs))) i q) enters.regions

module _ (c d : Context) (w : Walk) (s : Symbols) (second : Walk) (last : Symbols) (k : Tables) (env : Env) (h : StandsAt c w k env) (i : Identifier)
    (p : CodeProfile) (head : Head) where
  abbrev profile_there : Profile
  profile_there = profile_of k (region_of k (innermost second.symbols.regions)) p

  pub stands_into : (e : EntersBody c second.symbols last i p) → ChangesInside w.symbols s
      → Becomes s second.symbols (innermost second.symbols.regions ∷ s.regions) s.units → Begins (record second { symbols = last }) k
      → (region : Region) → region_of k (innermost e.round.regions) ≡ region → HasHead k head profile_there.parameters profile_there.result
      → IsBodyContext c (key i) head.returning d
      → StandsAt d (record second { symbols = last }) k (inside_body env region (key i) profile_there)
  stands_into e inside enters b region is_round has is =
      let third : Walk = record second { symbols = e.round } in
      let fourth : Walk = record second { symbols = last } in
      let begins : Begins third k = record { symbols = e.opened.begins k b.symbols; spans = b.spans } in
      let at_round =
      changed_inside c w third (then_inside w.symbols s e.round inside (round_changes s second.symbols e.round enters e.named)) k env h begins in
      let inner =
      reopened_inside c (record c { level = level.Inside }) third fourth (innermost second.symbols.regions) refl e.opened k (with_innermost third k env)
      at_round b in
      subst (λ r. StandsAt d fourth k (inside_body env r (key i) profile_there)) is_round
      (stands_in_body c d fourth k _ (key i) head.returning profile_there.result inner is has.returning)
