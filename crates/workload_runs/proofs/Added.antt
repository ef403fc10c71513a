-- Runs that were added one after another.
use Rattle.std.proofs.Common.{◌≡◌, ◌↔◌, ◌⊎◌, inl, inr, ⊎_elim, ℕ, zero, suc, ◌+◌, ◌<◌, ◌≤◌, List, [], ◌∷◌, length, take, get_or, refl, ap, subst, arith}
use Rattle.cov_base.specs.declared.event.Event.{Event}
use Rattle.cov_base.specs.declared.failure.Failure.{Failure}
use Rattle.cov_base.specs.declared.failure.Failure.TheVariants.{Fault, WantOfMemory}
use Rattle.cov_base.specs.Lists.{Everywhere, Somewhere}
use Rattle.coverage_set.specs.Covered.{Covered, Has}
use Rattle.object_format.specs.declared.object.Object.{Object}
use Rattle.rv32_emulator.specs.declared.emulator.RunFault.{RunFault}
use Rattle.workload.specs.declared.inputs.Triple.{Triple}
use Rattle.workload_runs.specs.Runs.{AddsRun, AddsRuns, HasEnded, StopsAmong, StopsOn, TellsOn, TellsCovered, TellsTotals}

-- ---- one place of a list

pub at_place : {X : Type 0} (P : X → Type 0) (xs : List X) (i : ℕ) (d : X) → i < length xs → Everywhere P xs → P (get_or xs i d)
at_place P [] i d within all = absurd (omega (arith, within))
at_place P (x ∷ xs) zero d within all = all.0
at_place P (x ∷ xs) (suc i) d within all = at_place P xs i d (omega (arith, within)) all.1

pub some_place : {X : Type 0} (P : X → Type 0) (xs : List X) (i : ℕ) (d : X) → i < length xs → P (get_or xs i d) → Somewhere P xs
some_place P [] i d within here = absurd (omega (arith, within))
some_place P (x ∷ xs) zero d within here = inl here
some_place P (x ∷ xs) (suc i) d within here = inr (some_place P xs i d (omega (arith, within)) here)

behind : (i : ℕ) → suc i ≡ i + 1
behind i = omega arith

-- all up to a place, and the item there
one_behind : {X : Type 0} (P : X → Type 0) (xs : List X) (i : ℕ) (d : X) → i < length xs → Everywhere P (take i xs) → P (get_or xs i d)
    → Everywhere P (take (suc i) xs)
one_behind P [] i d within so_far here = absurd (omega (arith, within))
one_behind P (x ∷ xs) zero d within so_far here = (here, tt)
one_behind P (x ∷ xs) (suc i) d within so_far here = (so_far.0, one_behind P xs i d (omega (arith, within)) so_far.1 here)

pub one_more : {X : Type 0} (P : X → Type 0) (xs : List X) (i : ℕ) (d : X) → i < length xs → Everywhere P (take i xs) → P (get_or xs i d)
    → Everywhere P (take (i + 1) xs)
one_more P xs i d within so_far here = subst (λ (n : ℕ). Everywhere P (take n xs)) (behind i) (one_behind P xs i d within so_far here)

-- some item up to behind a place is one before it, or the item there
some_behind : {X : Type 0} (P : X → Type 0) (xs : List X) (i : ℕ) (d : X) → i < length xs
    → Somewhere P (take (suc i) xs) ↔ (Somewhere P (take i xs) ⊎ P (get_or xs i d))
some_behind P [] i d within = absurd (omega (arith, within))
some_behind P (x ∷ xs) zero d within =
    (λ s. ⊎_elim (λ here. inr here) (λ none. absurd none) s, λ s. ⊎_elim (λ none. absurd none) (λ here. inl here) s)
some_behind P (x ∷ xs) (suc i) d within =
    let later = some_behind P xs i d (omega (arith, within)) in (
      λ s. ⊎_elim (λ first. inl (inl first)) (λ rest. ⊎_elim (λ before. inl (inr before)) (λ here. inr here) (later.0 rest)) s,
      λ s. ⊎_elim (λ before. ⊎_elim (λ first. inl first) (λ rest. inr (later.1 (inl rest))) before) (λ here. inr (later.1 (inr here))) s,
    )

some_more : {X : Type 0} (P : X → Type 0) (xs : List X) (i : ℕ) (d : X) → i < length xs
    → Somewhere P (take (i + 1) xs) ↔ (Somewhere P (take i xs) ⊎ P (get_or xs i d))
some_more P xs i d within =
    subst (λ (n : ℕ). Somewhere P (take n xs) ↔ (Somewhere P (take i xs) ⊎ P (get_or xs i d))) (behind i) (some_behind P xs i d within)

-- ---- what was added

pub none_added : (o : Object) (c : Covered) → AddsRuns o [] c c
none_added o c = λ e. (λ has. inl has, λ either. ⊎_elim (λ has. has) (λ none. absurd none) either)

pub more_added : (o : Object) (inputs : List Triple) (i : ℕ) (d : Triple) (first old new : Covered) → i < length inputs
    → AddsRuns o (take i inputs) first old → AddsRun o (get_or inputs i d) old new → AddsRuns o (take (i + 1) inputs) first new
more_added o inputs i d first old new within so_far added = λ e.
    let some = some_more (TellsOn o e) inputs i d within in (
      λ has. ⊎_elim
          (λ before. ⊎_elim (λ at_first. inl at_first) (λ tells. inr (some.1 (inl tells))) ((so_far e).0 before))
          (λ tells. inr (some.1 (inr tells))) ((added e).0 has),
      λ either. (added e).1 (⊎_elim
          (λ at_first. inl ((so_far e).1 (inl at_first)))
          (λ tells. ⊎_elim (λ before. inl ((so_far e).1 (inr before))) (λ here. inr here) (some.0 tells)) either),
    )

-- behind the last place all are
whole : {X : Type 0} (xs : List X) (i : ℕ) → length xs ≤ i → take i xs ≡ xs
whole [] zero past = refl
whole [] (suc i) past = refl
whole (x ∷ xs) zero past = absurd (omega (arith, past))
whole (x ∷ xs) (suc i) past = ap (λ ys. x ∷ ys) (whole xs i (omega (arith, past)))

pub all_added : (o : Object) (inputs : List Triple) (i : ℕ) (first new : Covered) → length inputs ≤ i
    → AddsRuns o (take i inputs) first new → AddsRuns o inputs first new
all_added o inputs i first new past added =
    subst (λ (some : List Triple). AddsRuns o some first new) (whole inputs i past) added

-- one of the inputs stops it
pub stops_at : (o : Object) (inputs : List Triple) (i : ℕ) (d : Triple) (failure : Failure RunFault) → i < length inputs
    → StopsOn o failure (get_or inputs i d) → StopsAmong o inputs failure
stops_at o inputs i d (Fault fault) within stops = some_place (StopsOn o (Fault fault)) inputs i d within stops
stops_at o inputs i d WantOfMemory within stops = tt

-- the totals of what was covered are those of the runs, where nothing was covered before
pub told_by_runs : (o : Object) (inputs : List Triple) (old new : Covered) (text : List ℕ) → ((e : Event) → Has old e → ⊥)
    → Everywhere (HasEnded o) inputs → AddsRuns o inputs old new → TellsCovered o new text → TellsTotals o inputs text
told_by_runs o inputs old new text none ended added told = record {
  ended = ended;
  events = told.events;
  all_events = λ e. (
    λ there. ⊎_elim (λ before. absurd (none e before)) (λ tells. tells) ((added e).0 ((told.all_events e).0 there)),
    λ tells. (told.all_events e).1 ((added e).1 (inr tells)),
  );
  told = told.told;
}
