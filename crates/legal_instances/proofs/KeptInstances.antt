-- What is kept of instances along the walk: each that was made stands beside its facts, by its number.
use Rattle.std.proofs.Common.{◌≡◌, ◌≤◌, ◌<◌, ℕ, zero, suc, pred, List, [], ◌∷◌, ◌++◌, map, Some, set, slice_get, refl, sym, ap, ◌∙◌, subst, arith, inl, inr}
use Rattle.std.specs.Prelude.{◌⊎◌}
use Rattle.ada_syntax.specs.declared.unit.Unit.{Unit as LibraryUnit}
use Rattle.ada_meaning.specs.Program.{Instance}
use Rattle.ada_rules.specs.Entities.{Actual, object_actual, type_actual, routine_actual}
use Rattle.ada_rules.specs.Instances.{fact_of, typed_actual}
use Rattle.ada_rules.specs.Library.{instance_number}
use Rattle.ada_rules.specs.Statics.{Asked, asked, instantiated, Facts}
use Rattle.legal_laws.specs.Demanded.{IsMade}
use Rattle.legal_laws.specs.Valued.{AreAlike}
use Rattle.legal_programs.specs.Growing.{IsLonger}
use Rattle.legal_instances.proofs.Cycles.{In}
use Rattle.legal_instances.proofs.InstanceNumbers.{IsInstanceAt, number_positive, number_less, set_others}

-- actuals of the typed program, and their facts
pub actuals_alike : (fs : List Facts) (actuals : List Actual) → AreAlike (map (typed_actual fs) actuals) (map (fact_of fs) actuals)
actuals_alike fs [] = tt
actuals_alike fs (object_actual e ∷ rest) = (refl, actuals_alike fs rest)
actuals_alike fs (type_actual t ∷ rest) = (refl, actuals_alike fs rest)
actuals_alike fs (routine_actual r ∷ rest) = (tt, actuals_alike fs rest)

-- an instance matches its facts
pub record Matches (i : Instance) (f : Facts) : Type 0 where
  pub generic : i.generic ≡ f.generic
  pub alike : AreAlike i.actuals f.formals

-- an instance that the unit with this number is
pub record IsKept (units : List LibraryUnit) (facts : List Facts) (demands : List Asked) (i : Instance) (n : ℕ) : Type 0 where
  pub at : IsInstanceAt units n
  pub place : i.place ≡ at.unit.item_pos
  pub has : Facts
  pub there : slice_get facts (pred (instance_number n units)) ≡ Some has
  pub matches : Matches i has
  pub made : IsMade has.generic (instance_number n units) demands

abbrev pub AreKept : List LibraryUnit → List Facts → List Asked → List Instance → List ℕ → Type 0
AreKept units facts demands [] [] = Unit {0}
AreKept units facts demands (i ∷ is) (n ∷ ns) = IsKept units facts demands i n × AreKept units facts demands is ns
AreKept units facts demands is ns = ⊥

pub made_behind : (g i : ℕ) (xs ys : List Asked) → IsMade g i ys → IsMade g i (xs ++ ys)
made_behind g i [] ys h = h
made_behind g i (asked d ∷ xs) ys h = made_behind g i xs ys h
made_behind g i (instantiated h j ∷ xs) ys k = inr (made_behind g i xs ys k)

pub kept_longer : (units : List LibraryUnit) (facts : List Facts) (ds es : List Asked) → IsLonger ds es → (is : List Instance) (ns : List ℕ)
    → AreKept units facts ds is ns → AreKept units facts es is ns
kept_longer units facts ds es more [] [] h = tt
kept_longer units facts ds es more [] (n ∷ ns) h = absurd h
kept_longer units facts ds es more (i ∷ is) [] h = absurd h
kept_longer units facts ds es more (i ∷ is) (n ∷ ns) h = (
  record {
    at = h.0.at;
    place = h.0.place;
    has = h.0.has;
    there = h.0.there;
    matches = h.0.matches;
    made = subst (IsMade h.0.has.generic (instance_number n units)) (sym more.is) (made_behind h.0.has.generic (instance_number n units) more.more ds h.0.made);
  },
  kept_longer units facts ds es more is ns h.1,
)

-- two instances have numbers of their own
apart_pred : (a b : ℕ) → 1 ≤ a → 1 ≤ b → pred a ≡ pred b → a ≡ b
apart_pred zero b h k e = absurd (none h)
  where
    none : 1 ≤ 0 → ⊥
    none l = omega (arith, l)
apart_pred (suc a) zero h k e = absurd (none k)
  where
    none : 1 ≤ 0 → ⊥
    none l = omega (arith, l)
apart_pred (suc a) (suc b) h k e = ap suc e

pub numbers_apart : (units : List LibraryUnit) (n m : ℕ) → IsInstanceAt units n → IsInstanceAt units m → (n ≡ m → ⊥)
    → pred (instance_number n units) ≡ pred (instance_number m units) → ⊥
numbers_apart units n m h k other e =
    by_order (nat_either n m)
  where
    same : instance_number n units ≡ instance_number m units
    same = apart_pred (instance_number n units) (instance_number m units) (number_positive n units) (number_positive m units) e

    not_less : (a b : ℕ) → a ≡ b → a < b → ⊥
    not_less a b f l = omega (arith, f, l)

    nat_either : (a b : ℕ) → (a < b) ⊎ ((a ≡ b) ⊎ (b < a))
    nat_either zero zero = inr (inl refl)
    nat_either zero (suc b) = inl (omega (arith))
    nat_either (suc a) zero = inr (inr (omega (arith)))
    nat_either (suc a) (suc b) = up (nat_either a b)
      where
        up : (a < b) ⊎ ((a ≡ b) ⊎ (b < a)) → (suc a < suc b) ⊎ ((suc a ≡ suc b) ⊎ (suc b < suc a))
        up (inl l) = inl (omega (arith, l))
        up (inr (inl f)) = inr (inl (ap suc f))
        up (inr (inr l)) = inr (inr (omega (arith, l)))

    by_order : (n < m) ⊎ ((n ≡ m) ⊎ (m < n)) → ⊥
    by_order (inl l) = not_less (instance_number n units) (instance_number m units) same (number_less units n m l h k)
    by_order (inr (inl f)) = other f
    by_order (inr (inr l)) = not_less (instance_number m units) (instance_number n units) (sym same) (number_less units m n l k h)

-- facts of another instance may be set
pub kept_set : (units : List LibraryUnit) (facts : List Facts) (ds : List Asked) (n : ℕ) (f : Facts) → IsInstanceAt units n → (is : List Instance) (ns : List ℕ)
    → (In ns n → ⊥) → AreKept units facts ds is ns → AreKept units (set facts (pred (instance_number n units)) f) ds is ns
kept_set units facts ds n f at [] [] new h = tt
kept_set units facts ds n f at [] (m ∷ ns) new h = absurd h
kept_set units facts ds n f at (i ∷ is) [] new h = absurd h
kept_set units facts ds n f at (i ∷ is) (m ∷ ns) new h = (
  record {
    at = h.0.at;
    place = h.0.place;
    has = h.0.has;
    there = set_others facts (pred (instance_number n units)) (pred (instance_number m units)) f
        (numbers_apart units n m at h.0.at (λ e. new (inl (sym e)))) ∙ h.0.there;
    matches = h.0.matches;
    made = h.0.made;
  },
  kept_set units facts ds n f at is ns (λ k. new (inr k)) h.1,
)
