-- Symbol tables whose innermost region changes, or that only grow.
use Rattle.std.proofs.Common.{◌≡◌, ℕ, ◌<◌, List, [], ◌∷◌, length, refl, sym, ap, ◌∙◌, subst, arith}
use Rattle.ada_entities.specs.declared.entity.Entity.{Entity}
use Rattle.ada_entities.specs.RegionCode.{innermost, enclosing}
use Rattle.program_walk.specs.declared.symbols.Symbols.{Symbols}
use Rattle.program_walk.specs.Changes.{IsOpen, Grows, ChangesInside, Opens, Closes}

-- no change, and more types
kept_open : (rs : List (List (List ℕ × Entity))) → 0 < length rs → rs ≡ innermost rs ∷ enclosing rs
kept_open [] h = absurd (omega (arith, h))
kept_open (r ∷ rs) h = refl

pub grows_inside : (old new : Symbols) → IsOpen old → Grows old new → ChangesInside old new
grows_inside old new open_now g = record {
  known = g.known;
  stays = g.stays;
  begins = g.begins;
  regions = g.regions ∙ (kept_open old.regions open_now ∙ ap (λ rs. innermost rs ∷ enclosing old.regions) (sym g.regions));
  units = g.units;
}

pub grows_itself : (old : Symbols) → Grows old old
grows_itself old = record {
  known = λ h. h;
  stays = λ h k l a. a;
  begins = λ k b. b;
  regions = refl;
  units = refl;
}

-- a region that opens, changes and closes again
pub region_gone : (a b c d e : Symbols) → Opens a b → ChangesInside b c → Closes c d → Grows d e → Grows a e
region_gone a b c d e opens inside closes grows = record {
  known = λ h. grows.known (closes.known (inside.known (opens.known h)));
  stays = λ h k l alike.
      opens.stays h k l (inside.stays (opens.known h) k l (closes.stays (inside.known (opens.known h)) k l
      (grows.stays (closes.known (inside.known (opens.known h))) k l alike)));
  begins = λ k h. opens.begins k (inside.begins k (closes.begins k (grows.begins k h)));
  regions = grows.regions ∙ (closes.regions ∙ (ap enclosing inside.regions ∙ ap enclosing opens.regions));
  units = grows.units ∙ (closes.units ∙ (inside.units ∙ opens.units));
}

pub stays_open : (old new : Symbols) → ChangesInside old new → IsOpen new
stays_open old new g = subst (λ rs. 0 < length rs) (sym g.regions) (omega arith)
