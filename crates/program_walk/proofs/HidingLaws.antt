-- Names that are hidden in the innermost region of the walk, and what stands behind their declaration.
use Rattle.std.proofs.Common.{◌≡◌, List, Ok, sym, ap, ◌∙◌, subst, refl}
use Rattle.cov_base.specs.declared.position.Pos.{Pos}
use Rattle.cov_base.specs.declared.failure.Failure.{Failure}
use Rattle.cov_base.specs.declared.failure.Failure.TheVariants.{Fault, WantOfMemory}
use Rattle.ada_syntax.specs.declared.name.Identifier.{Identifier}
use Rattle.ada_rules.specs.Entities.{hidden}
use Rattle.ada_rules.specs.Environment.{Env, with_local, hide, hide_all}
use Rattle.ada_entities.specs.declared.entity.Entity.TheVariants as entity
use Rattle.ada_entities.specs.declared.fault.Refusal.{Refusal}
use Rattle.ada_entities.specs.Answers.{Refuses}
use Rattle.ada_entities.specs.EntityViews.{Tables, region_of}
use Rattle.ada_entities.specs.RegionCode.{innermost, declaration, RefusesName}
use Rattle.ada_demands.specs.SpanViews as spans
use Rattle.ada_demands.specs.SpanViews.{listed}
use Rattle.program_walk.specs.declared.symbols.Symbols.{Symbols}
use Rattle.program_walk.specs.Changes.{ChangesInside, DeclaresInside, HidesAll, RefusesNames}
use Rattle.program_walk.specs.Changes as changes
use Rattle.program_walk.specs.declared.place.Place.{Place}
use Rattle.program_walk.specs.Places as places
use Rattle.program_walk.specs.declared.context.Context.{Context}
use Rattle.program_walk.specs.declared.walk.Walk.{Walk}
use Rattle.program_walk.specs.Walks.{Begins, StandsAt, IsPlaceOf, Continues}
use Rattle.program_walk.specs.Going.{Stays, GoesInside}
use Rattle.program_walk.proofs.GoingLaws.{region_is, stands_then}

-- a walk with other symbols
abbrev pub with_symbols : Walk → Symbols → Walk
with_symbols w s = record w { symbols = s }

pub symbols_inside : (w : Walk) (s : Symbols) → ChangesInside w.symbols s → GoesInside w (with_symbols w s)
symbols_inside w s g = record { symbols = g; spans = refl }

-- what was declared before a refusal is still there
pub stays_there : (old new : Walk) (f : Failure Refusal) → Continues old new → Stays old new f
stays_there old new (Fault x) g = g
stays_there old new WantOfMemory g = tt

pub symbols_stay : (old new : Walk) (f : Failure Refusal) → changes.Continues old.symbols new.symbols → new.spans ≡ old.spans → Stays old new f
symbols_stay old new f g e = stays_there old new f (λ k b. record {
  symbols = g k b.symbols;
  spans = subst (λ s. spans.Begins (listed s) k) e b.spans;
})

module _ (c : Context) (w : Walk) (k : Tables) (env : Env) (h : StandsAt c w k env) where
  pub names_hidden : (s : Symbols) (is xs : List Identifier) (p : Pos) → xs ≡ is → HidesAll w.symbols s xs
      → (hide_all p env.local is).answer ≡ Ok (region_of k (innermost s.regions))
  names_hidden s is xs p e hides =
      (λ z. (hide_all p (region_is c w k env h z) (sym e z)).answer) ∙ hides k p

  pub names_refused : (is xs : List Identifier) (p : Pos) (f : Failure Refusal) → xs ≡ is → RefusesNames w.symbols xs f
      → Refuses (hide_all p env.local is).answer f
  names_refused is xs p f e refuses =
      subst (λ a. Refuses a f) (λ z. (hide_all p (sym (region_is c w k env h) z) (e z)).answer) (refuses k p)

  pub name_hidden : (s : Symbols) (i : Identifier) → DeclaresInside w.symbols s i entity.Hidden → (hide env.local i).answer ≡ Ok (region_of k (innermost s.regions))
  name_hidden s i declares = ap (λ r. declaration r i hidden) (region_is c w k env h) ∙ declares k

  pub name_refused : (i : Identifier) (f : Failure Refusal) → RefusesName (innermost w.symbols.regions) i entity.Hidden f → Refuses (hide env.local i).answer f
  name_refused i f refuses = subst (λ r. Refuses (declaration r i hidden) f) (sym (region_is c w k env h)) (refuses k)

  pub stands_behind : (s : Symbols) → ChangesInside w.symbols s → Begins (with_symbols w s) k
      → StandsAt c (with_symbols w s) k (with_local env (region_of k (innermost s.regions)))
  stands_behind s g b = stands_then c w k env h (with_symbols w s) (symbols_inside w s g) b

  pub place_is : (place : Place) → IsPlaceOf c w.symbols place → places.StandsAt place k env
  place_is place of = of k env h.symbols h.instances h.generic
