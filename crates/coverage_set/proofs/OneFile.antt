-- A coverage has one consolidated file, and such a file says one thing.
use Rattle.std.proofs.Common.{◌≡◌, ◌↔◌, ℕ, suc, zero, ◌<◌, List, [], ◌∷◌, ◌++◌, map, length, slice_get, Option, Some, None, Result, Ok, Err, refl, sym, ap, subst, ◌∙◌, inl, inr, arith}
use Rattle.std.specs.Prelude.{IfSome}
use Rattle.std.specs.Cmp.{IsTotalOrder}
use Rattle.std.specs.Cmp.Lexicographic.{slice_cmp}
use Rattle.std.specs.List.Sorted.{IsStrictlySortedBy}
use Rattle.std.specs.Ordering.{nat_cmp}
use Rattle.std.specs.declared.cmp.Ordering.TheVariants.{Equal}
use Rattle.std.proofs.lemmas.Cmp.{nat_list_cmp_total}
use Rattle.cov_base.specs.contracts.event.EventOrd.TheImpl.{ghosts as derived}
use Rattle.cov_base.specs.contracts.event.EventOrd.TheImpl.Laws.{total-law}
use Rattle.cov_base.specs.declared.event.Event.{Event}
use Rattle.cov_base.specs.declared.event.Event.TheVariants.{Start, Done}
use Rattle.cov_base.specs.declared.failure.Failure.TheVariants.{Fault}
use Rattle.cov_base.specs.Lists.{Somewhere}
use Rattle.object_format.specs.declared.object.Object.{Object}
use Rattle.trace_format.proofs.ConsolidatedLaws.{one_file}
use Rattle.trace_format.specs.declared.consolidated.StartEntry.{StartEntry}
use Rattle.trace_format.specs.declared.consolidated.VectorEntry.{VectorEntry}
use Rattle.trace_format.specs.declared.consolidated.fault.ConsFault.{ConsFault}
use Rattle.trace_format.specs.declared.consolidated.fault.ConsFault.TheVariants as faults
use Rattle.trace_format.specs.Consolidated.{ConsolidatedFile, consolidated_in, start_cmp, vector_cmp}
use Rattle.trace_format.specs.ConsolidatedChecks.{IsSealed, run_rises, start_rises, vector_rises}
use Rattle.trace_format.specs.ConsolidatedFormats.{consolidated_spelling}
use Rattle.transcript.proofs.Lists.{in_append, in_left, in_right, in_map, to_map, weaker}
use Rattle.coverage_set.specs.Consolidated.{start_of, done_of, events_in, HasRow, IsPossible, FitsObject, IsRefusedBeside, IsReadOf, IsRefused}
use Rattle.coverage_set.specs.Covered.{Covered, HasRun, Has, AreSame}
use Rattle.coverage_set.specs.Exact.{event_cmp, event_exact, digest_exact}
use Rattle.coverage_set.specs.Written.{IsFileOf}
use Rattle.coverage_set.proofs.Listed.{start_or, vector_or}
use Rattle.coverage_set.proofs.Order.{cmp_is}
use Rattle.coverage_set.proofs.Rising.{passing, is_less, one_list}

-- ---- the orders of entries are those of their events

event_total : IsTotalOrder event_cmp
event_total = let same : derived.cmp ≡ event_cmp = λ k x y. cmp_is x y k in subst IsTotalOrder same total-law

start_total : IsTotalOrder start_cmp
start_total = record {
  antisymm = λ x y. event_total.antisymm (start_of x) (start_of y);
  trans = λ x y z. event_total.trans (start_of x) (start_of y) (start_of z);
  congr = λ x y z. event_total.congr (start_of x) (start_of y) (start_of z);
}

vector_total : IsTotalOrder vector_cmp
vector_total = record {
  antisymm = λ x y. event_total.antisymm (done_of x) (done_of y);
  trans = λ x y z. event_total.trans (done_of x) (done_of y) (done_of z);
  congr = λ x y z. event_total.congr (done_of x) (done_of y) (done_of z);
}

start_exact : (x y : StartEntry) → start_cmp x y ≡ Equal → x ≡ y
start_exact x y is = ap (start_or x) (event_exact (start_of x) (start_of y) is)

vector_exact : (x y : VectorEntry) → vector_cmp x y ≡ Equal → x ≡ y
vector_exact x y is = ap (vector_or x) (event_exact (done_of x) (done_of y) is)

-- ---- one file

runs_rise : (f : ConsolidatedFile) → IsSealed f → IsStrictlySortedBy (slice_cmp nat_cmp) f.runs
runs_rise f sealed = passing (slice_cmp nat_cmp) nat_list_cmp_total run_rises (λ a b is. is_less (slice_cmp nat_cmp a b) is) f.runs sealed.ordered.runs

starts_rise : (f : ConsolidatedFile) → IsSealed f → IsStrictlySortedBy start_cmp f.starts
starts_rise f sealed = passing start_cmp start_total start_rises (λ a b is. is_less (start_cmp a b) is) f.starts sealed.ordered.starts

vectors_rise : (f : ConsolidatedFile) → IsSealed f → IsStrictlySortedBy vector_cmp f.vectors
vectors_rise f sealed = passing vector_cmp vector_total vector_rises (λ a b is. is_less (vector_cmp a b) is) f.vectors sealed.ordered.vectors

-- two that are as others are, which are alike
joined : {A B C D : Type 0} → (A ↔ B) → (B ↔ C) → (D ↔ C) → A ↔ D
joined one two three = (λ a. three.1 (two.0 (one.0 a)), λ d. one.1 (two.1 (three.0 d)))

pub one : (a b : Covered) (xs ys : List ℕ) → AreSame a b → IsFileOf a xs → IsFileOf b ys → xs ≡ ys
one a b xs ys same f g =
    let object : f.file.object ≡ g.file.object = f.object ∙ ap (λ (o : Object). o.closing) same.object ∙ sym g.object in
    let runs : f.file.runs ≡ g.file.runs =
    one_list (slice_cmp nat_cmp) nat_list_cmp_total digest_exact f.file.runs g.file.runs (runs_rise f.file f.sealed) (runs_rise g.file g.sealed)
    (λ d. joined (f.runs d) (same.runs d) (g.runs d)) in
    let starts : f.file.starts ≡ g.file.starts =
    one_list start_cmp start_total start_exact f.file.starts g.file.starts (starts_rise f.file f.sealed) (starts_rise g.file g.sealed)
    (λ s. joined (f.starts s) (same.events (start_of s)) (g.starts s)) in
    let vectors : f.file.vectors ≡ g.file.vectors =
    one_list vector_cmp vector_total vector_exact f.file.vectors g.file.vectors (vectors_rise f.file f.sealed) (vectors_rise g.file g.sealed)
    (λ v. joined (f.vectors v) (same.events (done_of v)) (g.vectors v)) in
    let content : consolidated_in f.file ≡ consolidated_in g.file = λ k. record { object = object k; runs = runs k; starts = starts k; vectors = vectors k } in
    f.spelled ∙ ap consolidated_spelling content ∙ sym g.spelled

-- ---- it says one thing

turned : {A B C D : Type 0} → (A ↔ B) → (A ↔ C) → (C ↔ D) → B ↔ D
turned one two three = (λ b. three.0 (two.0 (one.1 b)), λ d. one.0 (two.1 (three.1 d)))

pub says_one : (a b : Covered) (bytes : List ℕ) → a.object ≡ b.object → IsFileOf a bytes → IsFileOf b bytes → AreSame a b
says_one a b bytes object f g =
    let same : f.file ≡ g.file = one_file f.file g.file f.sealed g.sealed (sym f.spelled ∙ g.spelled) in
    record {
      object = object;
      runs = λ d. turned (f.runs d) (subst (λ (x : ConsolidatedFile). Somewhere (λ y. y ≡ d) f.file.runs ↔ Somewhere (λ y. y ≡ d) x.runs) same (λ s. s, λ s. s)) (g.runs d);
      events = by_event same;
    }
  where
    by_event : f.file ≡ g.file → (e : Event) → Has a e ↔ Has b e
    by_event same (Start s i) =
        let entry : StartEntry = record { statement = s; instance = i } in
        turned (f.starts entry) (subst (λ (x : ConsolidatedFile). Somewhere (λ y. y ≡ entry) f.file.starts ↔ Somewhere (λ y. y ≡ entry) x.starts) same (λ s. s, λ s. s)) (g.starts entry)
    by_event same (Done d i v) =
        let entry : VectorEntry = record { decision = d; instance = i; vector = v } in
        turned (f.vectors entry) (subst (λ (x : ConsolidatedFile). Somewhere (λ y. y ≡ entry) f.file.vectors ↔ Somewhere (λ y. y ≡ entry) x.vectors) same (λ s. s, λ s. s)) (g.vectors entry)

-- ---- what is read

start_listed : (starts : List StartEntry) (vectors : List VectorEntry) (s : StartEntry)
    → Somewhere (λ x. x ≡ s) starts ↔ Somewhere (λ x. x ≡ start_of s) (map start_of starts ++ map done_of vectors)
start_listed starts vectors s = (
  λ some. in_left (λ x. x ≡ start_of s) (map start_of starts) (map done_of vectors)
      (to_map start_of (λ x. x ≡ start_of s) starts (weaker (λ x. x ≡ s) (λ x. start_of x ≡ start_of s) (λ x is. ap start_of is) starts some)),
  λ some. elim (in_append (λ x. x ≡ start_of s) (map start_of starts) (map done_of vectors) some) [
    | inl start ↦ weaker (λ x. start_of x ≡ start_of s) (λ x. x ≡ s) (λ x is. ap (start_or s) is) starts (in_map start_of (λ x. x ≡ start_of s) starts start)
    | inr done ↦ absurd (none_done vectors done)
  ],
)
  where
    none_done : (ws : List VectorEntry) → Somewhere (λ x. x ≡ start_of s) (map done_of ws) → ⊥
    none_done [] some = some
    none_done (w ∷ ws) some = elim some [ inl is ↦ cc is | inr later ↦ none_done ws later ]

vector_listed : (starts : List StartEntry) (vectors : List VectorEntry) (v : VectorEntry)
    → Somewhere (λ x. x ≡ v) vectors ↔ Somewhere (λ x. x ≡ done_of v) (map start_of starts ++ map done_of vectors)
vector_listed starts vectors v = (
  λ some. in_right (λ x. x ≡ done_of v) (map start_of starts) (map done_of vectors)
      (to_map done_of (λ x. x ≡ done_of v) vectors (weaker (λ x. x ≡ v) (λ x. done_of x ≡ done_of v) (λ x is. ap done_of is) vectors some)),
  λ some. elim (in_append (λ x. x ≡ done_of v) (map start_of starts) (map done_of vectors) some) [
    | inl start ↦ absurd (none_start starts start)
    | inr done ↦ weaker (λ x. done_of x ≡ done_of v) (λ x. x ≡ v) (λ x is. ap (vector_or v) is) vectors (in_map done_of (λ x. x ≡ done_of v) vectors done)
  ],
)
  where
    none_start : (ss : List StartEntry) → Somewhere (λ x. x ≡ done_of v) (map start_of ss) → ⊥
    none_start [] some = some
    none_start (s ∷ ss) some = elim some [ inl is ↦ cc is | inr later ↦ none_start ss later ]

back : {A B C : Type 0} → (A ↔ B) → (C ↔ B) → A ↔ C
back one two = (λ a. two.1 (one.0 a), λ c. one.1 (two.0 c))

-- what has the runs and events of a file has it as its file
pub listed_file : (f : ConsolidatedFile) (c : Covered) (bytes : List ℕ) → IsSealed f → bytes ≡ consolidated_spelling (consolidated_in f) → f.object ≡ c.object.closing
    → ((d : List ℕ) → HasRun c d ↔ Somewhere (λ x. x ≡ d) f.runs) → ((e : Event) → Has c e ↔ Somewhere (λ x. x ≡ e) (events_in f)) → IsFileOf c bytes
listed_file f c bytes sealed spelled object runs events = record {
  file = f;
  sealed = sealed;
  spelled = spelled;
  object = object;
  runs = λ d. ((runs d).1, (runs d).0);
  starts = λ s. back (start_listed f.starts f.vectors s) (events (start_of s));
  vectors = λ v. back (vector_listed f.starts f.vectors v) (events (done_of v));
}

-- and is not refused
abbrev fine : ConsolidatedFile → Result ConsolidatedFile ConsFault
fine f = Ok f

abbrev faulty : ConsFault → Result ConsolidatedFile ConsFault
faulty fault = Err fault

no_fault : (f : ConsolidatedFile) (fault : ConsFault) → fine f ≡ faulty fault → ⊥
no_fault f fault is = cc is

fine_is : (f g : ConsolidatedFile) → fine f ≡ fine g → f ≡ g
fine_is f g is = cc is

none_at : {X : Type 0} (xs : List X) (at : ℕ) → slice_get xs at ≡ None → at < length xs → ⊥
none_at [] at none below = omega (arith, below)
none_at (x ∷ xs) zero none below = cc none
none_at (x ∷ xs) (suc at) none below = none_at xs at none (omega (arith, below))

none_beyond : {X : Type 0} (P : X → Type 0) (xs : List X) (at : ℕ) (found : Option X) → slice_get xs at ≡ found → at < length xs → IfSome found P
    → IfSome found (λ x. P x → ⊥) → ⊥
none_beyond P xs at None is within so not_so = none_at xs at is within
none_beyond P xs at (Some x) is within so not_so = not_so so

beside : (o : Object) (f : ConsolidatedFile) (fault : ConsFault) → FitsObject o f → IsRefusedBeside o f fault → ⊥
beside o f (faults.Foreign kept object) fits refused = refused.2 fits.own
beside o f (faults.Start at) fits refused =
    none_beyond (HasRow o) f.starts at (slice_get f.starts at) refl refused.1.1 (fits.starts at refused.1.1) refused.1.2
beside o f (faults.Vector at) fits refused =
    none_beyond (IsPossible o) f.vectors at (slice_get f.vectors at) refl refused.2.1 (fits.vectors at refused.2.1) refused.2.2
beside o f faults.Short fits refused = refused
beside o f faults.Magic fits refused = refused
beside o f faults.Version fits refused = refused
beside o f faults.Long fits refused = refused
beside o f faults.Damaged fits refused = refused
beside o f (faults.Order at) fits refused = refused
beside o f (faults.Flag at) fits refused = refused

pub taken : (o : Object) (bytes : List ℕ) (c : Covered) (fault : ConsFault) → IsReadOf o bytes c → IsRefused o bytes (Fault fault) → ⊥
taken o bytes c fault read refused = elim refused [
  | inl format ↦ no_fault read.file fault (sym read.is ∙ format)
  | inr other ↦ beside o read.file fault read.fits
      (subst (λ (f : ConsolidatedFile). IsRefusedBeside o f fault) (fine_is other.file read.file (sym other.is ∙ read.is)) other.refused)
]
