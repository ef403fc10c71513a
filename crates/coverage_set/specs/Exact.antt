-- Events and digests that compare as equal are one.
use Rattle.std.specs.Prelude.{◌≡◌, ℕ, List}
use Rattle.std.proofs.Common.{refl}
use Rattle.std.specs.Ordering.{nat_cmp, ordering_then}
use Rattle.std.specs.Cmp.Lexicographic.{slice_cmp}
use Rattle.std.specs.declared.cmp.Ordering.{Ordering}
use Rattle.std.specs.declared.cmp.Ordering.TheVariants.{Less, Equal, Greater}
use Rattle.std.proofs.lemmas.Map.Lookups.{exact_unsigned, exact_bytes}
use Rattle.cov_base.specs.declared.event.Event.{Event}
use Rattle.cov_base.specs.declared.event.Event.TheVariants.{Start, Done}
use Rattle.cov_base.specs.contracts.event.EventOrd.TheImpl.{ghosts as derived}
use Rattle.coverage_set.specs.declared.consolidated.Decided.{Decided}
use Rattle.coverage_set.specs.contracts.consolidated.DecidedOrd.TheImpl.{ghosts as derived_decided}

-- starts come before evaluations; starts are ordered by statement and instance, evaluations by decision, instance, and the numbers of
-- their vectors
abbrev pub event_cmp : Event → Event → Ordering
event_cmp (Start s i) (Start t j) = ordering_then (nat_cmp s.0 t.0) (nat_cmp i.0 j.0)
event_cmp (Start s i) (Done d j w) = Less
event_cmp (Done d i v) (Start t j) = Greater
event_cmp (Done d i v) (Done e j w) =
    ordering_then (nat_cmp d.0 e.0) (ordering_then (nat_cmp i.0 j.0) (ordering_then (nat_cmp v.seen w.seen) (nat_cmp v.value w.value)))

-- the first of two comparisons, and the second, where both together say that values are equal
first_equal : (a b : Ordering) → ordering_then a b ≡ Equal → a ≡ Equal
first_equal Less b is = is
first_equal Equal b is = refl
first_equal Greater b is = is

second_equal : (a b : Ordering) → ordering_then a b ≡ Equal → b ≡ Equal
second_equal Less b is = absurd (cc is)
second_equal Equal b is = is
second_equal Greater b is = absurd (cc is)

pub event_exact : (x y : Event) → derived.cmp x y ≡ Equal → x ≡ y
event_exact (Start s i) (Start t j) is =
    let a = exact_unsigned s.0 t.0 (first_equal (nat_cmp s.0 t.0) _ is) in
    let b = exact_unsigned i.0 j.0 (second_equal (nat_cmp s.0 t.0) _ is) in
    λ k. Start (record { 0 = a k }) (record { 0 = b k })
event_exact (Start s i) (Done d j w) is = absurd (cc is)
event_exact (Done d i v) (Start t j) is = absurd (cc is)
event_exact (Done d i v) (Done e j w) is =
    let rest = second_equal (nat_cmp d.0 e.0) _ is in
    let last = second_equal (nat_cmp i.0 j.0) _ rest in
    let a = exact_unsigned d.0 e.0 (first_equal (nat_cmp d.0 e.0) _ is) in
    let b = exact_unsigned i.0 j.0 (first_equal (nat_cmp i.0 j.0) _ rest) in
    let c = exact_unsigned v.seen w.seen (first_equal (nat_cmp v.seen w.seen) _ last) in
    let f = exact_unsigned v.value w.value (second_equal (nat_cmp v.seen w.seen) _ last) in
    λ k. Done (record { 0 = a k }) (record { 0 = b k }) (record { seen = c k; value = f k })

pub digest_exact : (x y : List ℕ) → slice_cmp nat_cmp x y ≡ Equal → x ≡ y
digest_exact = exact_bytes

pub decided_exact : (x y : Decided) → derived_decided.cmp x y ≡ Equal → x ≡ y
decided_exact x y is =
    let a = exact_unsigned x.decision.0 y.decision.0 (first_equal (nat_cmp x.decision.0 y.decision.0) _ is) in
    let b = exact_unsigned x.instance.0 y.instance.0 (second_equal (nat_cmp x.decision.0 y.decision.0) _ is) in
    λ k. record { decision = record { 0 = a k }; instance = record { 0 = b k } }
