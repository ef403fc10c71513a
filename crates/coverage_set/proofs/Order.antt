-- The order of events, as it is stated and as the program compares.
use Rattle.std.proofs.Common.{◌≡◌, List, [], ◌∷◌, refl, sym, ◌∙◌}
use Rattle.std.specs.List.{AllByRecursion}
use Rattle.std.specs.List.Sorted.{IsStrictlySortedBy}
use Rattle.std.specs.declared.cmp.Ordering.TheVariants.{Less}
use Rattle.cov_base.specs.contracts.event.EventOrd.TheImpl.{ghosts as derived}
use Rattle.cov_base.specs.declared.event.Event.{Event}
use Rattle.cov_base.specs.declared.event.Event.TheVariants.{Start, Done}
use Rattle.coverage_set.specs.Exact.{event_cmp}

pub cmp_is : (x y : Event) → derived.cmp x y ≡ event_cmp x y
cmp_is (Start s i) (Start t j) = refl
cmp_is (Start s i) (Done d j w) = refl
cmp_is (Done d i v) (Start t j) = refl
cmp_is (Done d i v) (Done e j w) = refl

below : (x : Event) (xs : List Event) → AllByRecursion (λ y. derived.cmp x y ≡ Less) xs → AllByRecursion (λ y. event_cmp x y ≡ Less) xs
below x [] all = tt
below x (y ∷ xs) all = (sym (cmp_is x y) ∙ all.0, below x xs all.1)

pub ordered : (xs : List Event) → IsStrictlySortedBy derived.cmp xs → IsStrictlySortedBy event_cmp xs
unfolding IsStrictlySortedBy
ordered [] sorted = tt
ordered (x ∷ xs) sorted = (below x xs sorted.0, ordered xs sorted.1)
