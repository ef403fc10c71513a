-- The entries of a consolidated file that events are: which they are, and in which order.
use Rattle.std.proofs.Common.{◌≡◌, ◌↔◌, ℕ, ◌+◌, ◌^◌, ◌≤◌, Bool, true, false, cond, List, [], ◌∷◌, Option, Some, None, refl, sym, ap, subst, ◌∙◌, inl, inr, arith, eq-eqb, min, max}
use Rattle.std.specs.Prelude.{bit_and, bit_or}
use Rattle.std.specs.Int.{bit_at}
use Rattle.std.specs.List.{AllByRecursion}
use Rattle.std.specs.List.Sorted.{IsStrictlySortedBy}
use Rattle.std.specs.declared.cmp.Ordering.TheVariants.{Less}
use Rattle.std.proofs.lemmas.Nat.Bits.{bit_at_and, bit_at_or, same_from_bits}
use Rattle.cov_base.specs.declared.event.Event.{Event}
use Rattle.cov_base.specs.declared.event.Event.TheVariants.{Start, Done}
use Rattle.cov_base.specs.Lists.{Somewhere}
use Rattle.cov_base.specs.Graph.{Edges}
use Rattle.cov_base.specs.Path.{Step, vector_of, IsPathVector}
use Rattle.cov_base.specs.declared.event.Vector.{Vector}
use Rattle.spelling.specs.Checks.{first_failing}
use Rattle.trace_format.specs.declared.consolidated.StartEntry.{StartEntry}
use Rattle.trace_format.specs.declared.consolidated.VectorEntry.{VectorEntry}
use Rattle.trace_format.specs.Consolidated.{start_cmp, vector_cmp}
use Rattle.trace_format.specs.ConsolidatedChecks.{is_true_where_seen}
use Rattle.coverage_set.specs.Consolidated.{start_of, done_of}
use Rattle.coverage_set.specs.Exact.{event_cmp}
use Rattle.coverage_set.specs.Written.{starts_among, vectors_among}

-- ---- which they are

-- the entry of an event that is a start, and of any other this one
abbrev pub start_or : StartEntry → Event → StartEntry
start_or other (Start s i) = record { statement = s; instance = i }
start_or other (Done d i v) = other

abbrev pub vector_or : VectorEntry → Event → VectorEntry
vector_or other (Start s i) = other
vector_or other (Done d i v) = record { decision = d; instance = i; vector = v }

pub start_there : (es : List Event) (s : StartEntry) → Somewhere (λ x. x ≡ s) (starts_among es) ↔ Somewhere (λ x. x ≡ start_of s) es
start_there [] s = (λ some. some, λ some. some)
start_there (Start a i ∷ es) s =
    let rest = start_there es s in (
      λ some. elim some [ inl is ↦ inl (ap start_of is) | inr later ↦ inr (rest.0 later) ],
      λ some. elim some [ inl is ↦ inl (ap (start_or s) is) | inr later ↦ inr (rest.1 later) ],
    )
start_there (Done d i v ∷ es) s =
    let rest = start_there es s in (
      λ some. inr (rest.0 some),
      λ some. elim some [ inl is ↦ absurd (cc is) | inr later ↦ rest.1 later ],
    )

pub vector_there : (es : List Event) (v : VectorEntry) → Somewhere (λ x. x ≡ v) (vectors_among es) ↔ Somewhere (λ x. x ≡ done_of v) es
vector_there [] v = (λ some. some, λ some. some)
vector_there (Start a i ∷ es) v =
    let rest = vector_there es v in (
      λ some. inr (rest.0 some),
      λ some. elim some [ inl is ↦ absurd (cc is) | inr later ↦ rest.1 later ],
    )
vector_there (Done d i w ∷ es) v =
    let rest = vector_there es v in (
      λ some. elim some [ inl is ↦ inl (ap done_of is) | inr later ↦ inr (rest.0 later) ],
      λ some. elim some [ inl is ↦ inl (ap (vector_or v) is) | inr later ↦ inr (rest.1 later) ],
    )

-- ---- their order

-- those behind an event stand above it
starts_above : (s : StartEntry) (es : List Event) → AllByRecursion (λ e. event_cmp (start_of s) e ≡ Less) es → AllByRecursion (λ t. start_cmp s t ≡ Less) (starts_among es)
starts_above s [] above = tt
starts_above s (Start a i ∷ es) above = (above.0, starts_above s es above.1)
starts_above s (Done d i v ∷ es) above = starts_above s es above.1

vectors_above : (v : VectorEntry) (es : List Event) → AllByRecursion (λ e. event_cmp (done_of v) e ≡ Less) es → AllByRecursion (λ w. vector_cmp v w ≡ Less) (vectors_among es)
vectors_above v [] above = tt
vectors_above v (Start a i ∷ es) above = vectors_above v es above.1
vectors_above v (Done d i w ∷ es) above = (above.0, vectors_above v es above.1)

-- of events that rise, so do the starts and the evaluations
pub starts_rise : (es : List Event) → IsStrictlySortedBy event_cmp es → IsStrictlySortedBy start_cmp (starts_among es)
unfolding IsStrictlySortedBy
starts_rise [] sorted = tt
starts_rise (Start a i ∷ es) sorted = (starts_above (record { statement = a; instance = i }) es sorted.0, starts_rise es sorted.1)
starts_rise (Done d i v ∷ es) sorted = starts_rise es sorted.1

pub vectors_rise : (es : List Event) → IsStrictlySortedBy event_cmp es → IsStrictlySortedBy vector_cmp (vectors_among es)
unfolding IsStrictlySortedBy
vectors_rise [] sorted = tt
vectors_rise (Start a i ∷ es) sorted = vectors_rise es sorted.1
vectors_rise (Done d i v ∷ es) sorted = (vectors_above (record { decision = d; instance = i; vector = v }) es sorted.0, vectors_rise es sorted.1)

-- ---- their vectors

max_of_less : (a b p : ℕ) → a ≤ b → max a p ≤ max b p
max_of_less a b p less = omega (arith, less)

min_of_less : (a b : ℕ) → a ≤ b → min a b ≡ a
min_of_less a b less = omega (arith, less)

less_or : (a b p : ℕ) → a ≤ b → a ≤ max b p
less_or a b p less = omega (arith, less)

-- on a path only a condition that was evaluated is True
bits_below : (path : List Step) (i : ℕ) → bit_at (vector_of path).value i ≤ bit_at (vector_of path).seen i
bits_below [] i = omega arith
bits_below (step ∷ older) i =
    subst (λ (n : ℕ). bit_at (vector_of (step ∷ older)).value i ≤ n) (sym (bit_at_or (vector_of older).seen (2 ^ step.at_node) i))
    (by_value (bits_below older i) step.value)
  where
    by_value : bit_at (vector_of older).value i ≤ bit_at (vector_of older).seen i → (b : Bool)
        → bit_at (cond b (bit_or (vector_of older).value (2 ^ step.at_node)) (vector_of older).value) i
        ≤ max (bit_at (vector_of older).seen i) (bit_at (2 ^ step.at_node) i)
    by_value less true =
        subst (λ (n : ℕ). n ≤ max (bit_at (vector_of older).seen i) (bit_at (2 ^ step.at_node) i)) (sym (bit_at_or (vector_of older).value (2 ^ step.at_node) i))
        (max_of_less (bit_at (vector_of older).value i) (bit_at (vector_of older).seen i) (bit_at (2 ^ step.at_node) i) less)
    by_value less false = less_or (bit_at (vector_of older).value i) (bit_at (vector_of older).seen i) (bit_at (2 ^ step.at_node) i) less

path_value : (path : List Step) → bit_and (vector_of path).value (vector_of path).seen ≡ (vector_of path).value
path_value path =
    same_from_bits (bit_and (vector_of path).value (vector_of path).seen) (vector_of path).value
    (λ i. bit_at_and (vector_of path).value (vector_of path).seen i
    ∙ min_of_less (bit_at (vector_of path).value i) (bit_at (vector_of path).seen i) (bits_below path i))

pub only_seen : (g : List Edges) (v : Vector) → IsPathVector g v → bit_and v.value v.seen ≡ v.value
only_seen g v is = subst (λ (w : Vector). bit_and w.value w.seen ≡ w.value) (sym is.shown) (path_value is.path)

-- vectors of which each is so pass the check of flags
pub flags_pass : (vs : List VectorEntry) → ((v : VectorEntry) → Somewhere (λ x. x ≡ v) vs → bit_and v.vector.value v.vector.seen ≡ v.vector.value)
    → (before : Option VectorEntry) (at : ℕ) → first_failing is_true_where_seen before at vs ≡ None
flags_pass [] so before at = refl
flags_pass (v ∷ vs) so before at =
    rw (eq-eqb (bit_and v.vector.value v.vector.seen) v.vector.value (so v (inl refl))) (flags_pass vs (λ w there. so w (inr there)) (Some v) (at + 1))
