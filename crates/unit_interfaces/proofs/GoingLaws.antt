-- Walks that go on over bodies, one behind the other.
use Rattle.std.proofs.Common.{ℕ, ◌<◌, List, ◌∷◌, length, Ok, Err, Result, sym, ap, ◌∙◌, subst, arith}
use Rattle.cov_base.specs.declared.failure.Failure.{Failure}
use Rattle.cov_base.specs.declared.failure.Failure.TheVariants.{Fault, WantOfMemory}
use Rattle.ada_rules.specs.Environment.{Env, with_local}
use Rattle.ada_entities.specs.declared.entity.Entity.{Entity}
use Rattle.ada_entities.specs.declared.fault.Refusal.{Refusal}
use Rattle.ada_entities.specs.EntityViews.{Tables}
use Rattle.ada_entities.specs.RegionCode.{innermost, enclosing}
use Rattle.program_walk.specs.declared.symbols.Symbols.{Symbols}
use Rattle.program_walk.specs.Changes.{IsOpen, Becomes, ChangesInside, Closes, Grows, UnlessMemory}
use Rattle.program_walk.proofs.HideLaws.{then_inside}
use Rattle.program_walk.specs.declared.context.Context.{Context}
use Rattle.program_walk.specs.declared.walk.Walk.{Walk}
use Rattle.program_walk.specs.Walks.{Begins, Continues, StandsAt}
use Rattle.program_walk.proofs.Following.{changed_inside}
use Rattle.program_walk.specs.Going.{region_in, GoesInside, GoesOn, Stays}
use Rattle.program_walk.proofs.GoingLaws.{inside_continues}
use Rattle.program_walk.proofs.InsideLaws.{grows_inside, grows_itself, stays_open}
use Rattle.unit_walk.specs.specifications.specs.Going.{IsSound, Advances, AdvancesOn}

pub advances_nowhere : (w : Walk) → IsOpen w.symbols → Advances w w
advances_nowhere w open_now = record { symbols = grows_inside w.symbols w.symbols open_now (grows_itself w.symbols); continues = λ k b. b }

pub inside_advances : (old new : Walk) → GoesInside old new → Advances old new
inside_advances old new g = record { symbols = g.symbols; continues = inside_continues old new g }

pub advances_on : {A : Type 0} (old new : Walk) (r : Result A (Failure Refusal)) → GoesOn old new r → AdvancesOn old new r
advances_on old new (Ok x) g = inside_advances old new g
advances_on old new (Err f) g = g

pub then_advances : (old middle new : Walk) → Advances old middle → Advances middle new → Advances old new
then_advances old middle new a b = record {
  symbols = then_inside old.symbols middle.symbols new.symbols a.symbols b.symbols;
  continues = λ k h. a.continues k (b.continues k h);
}

pub sound_behind : (old new : Walk) → IsSound old → Advances old new → IsSound new
sound_behind old new s a = record { known = a.symbols.known s.known; open_now = stays_open old.symbols new.symbols a.symbols }

pub sound_there : (c : Context) (w : Walk) (k : Tables) (env : Env) → StandsAt c w k env → IsSound w
sound_there c w k env h = record { known = h.symbols.units.known; open_now = h.symbols.inside }

-- what grows where a region is open
pub grows_advances : (old new : Walk) → IsOpen old.symbols → Grows old.symbols new.symbols → Continues old new → Advances old new
grows_advances old new open_now g c = record { symbols = grows_inside old.symbols new.symbols open_now g; continues = c }

pub stands_advanced : (c : Context) (old new : Walk) (k : Tables) (env : Env) → StandsAt c old k env → Advances old new → Begins new k
    → StandsAt c new k (with_local env (region_in k new))
stands_advanced c old new k env h g b = changed_inside c old new g.symbols k env h b

pub memory_stays : (A : Type 0) (old new : Walk) (f : Failure Refusal) → UnlessMemory {A = A} (Continues old new) (Err f) → Stays old new f
memory_stays A old new (Fault x) h = h
memory_stays A old new WantOfMemory h = tt

-- the inner one of two regions changes, and closes
pub region_left : (a b c d : Symbols)
    → Becomes a b (innermost b.regions ∷ innermost (enclosing b.regions) ∷ enclosing a.regions) a.units → ChangesInside b c → Closes c d → ChangesInside a d
region_left a b c d into inside closes =
    let left : Becomes a d (enclosing c.regions) c.units = record {
      known = λ h. closes.known (inside.known (into.known h));
      stays = λ h k l alike. into.stays h k l (inside.stays (into.known h) k l (closes.stays (inside.known (into.known h)) k l alike));
      begins = λ k h. into.begins k (inside.begins k (closes.begins k h));
      regions = closes.regions;
      units = closes.units;
    } in
    let same = ap enclosing inside.regions ∙ ap enclosing into.regions in
    record {
      known = left.known;
      stays = left.stays;
      begins = left.begins;
      regions = left.regions ∙ (same ∙ ap (λ r. r ∷ enclosing a.regions) (sym (ap innermost (left.regions ∙ same))));
      units = left.units ∙ (inside.units ∙ into.units);
    }

pub into_open : (a b : Symbols) (r : List (List ℕ × Entity)) (rs : List (List (List ℕ × Entity))) → Becomes a b (r ∷ rs) a.units → IsOpen b
into_open a b r rs into = subst (λ xs. 0 < length xs) (sym into.regions) (omega arith)
