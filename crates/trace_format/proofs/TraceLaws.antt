-- What is read as a trace is spelled so and passes, and what is spelled so and passes is read.
use Rattle.std.proofs.Common.{◌≡◌, ℕ, ◌+◌, ◌*◌, List, [], ◌∷◌, ◌++◌, length, Option, Some, None, Result, Ok, Err, refl, sym, ap, subst, ◌∙◌, arith}
use Rattle.std.specs.Prelude.{IfOk, OnOk, Vec}
use Rattle.std.specs.List.{flat_map}
use Rattle.std.proofs.Math.Nat.{mul-suc, mul-zero}
use Rattle.std.proofs.lemmas.List.{length-append}
use Rattle.std.proofs.lemmas.List.Concat.{flat_map-cons}
use Rattle.sha2.proofs.Facts256.{length-sha256}
use Rattle.spelling.specs.Format.{word}
use Rattle.spelling.specs.declared.fault.LayerFault.{LayerFault}
use Rattle.spelling.specs.Laws.{IsBytes}
use Rattle.spelling.specs.Layers.{File, single, unsealed}
use Rattle.spelling.specs.Checks.{first_failing}
use Rattle.spelling.proofs.LayersLaws.{single_took, file_only}
use Rattle.trace_format.specs.declared.trace.Block.{Block}
use Rattle.trace_format.specs.declared.trace.HistoryEntry.{HistoryEntry}
use Rattle.trace_format.specs.declared.trace.Trace.{Trace}
use Rattle.trace_format.specs.declared.fault.TraceFault.{TraceFault}
use Rattle.trace_format.specs.declared.fault.TraceFault.TheVariants as faults
use Rattle.trace_format.specs.Trace.{TraceFile, trace_in, closed_by}
use Rattle.trace_format.specs.Formats.{block_entry, history_entry, trace_magic, trace_parts, trace_parts_ok, trace_spelling, trace_digest}
use Rattle.trace_format.specs.Checks.{in_order, has_known_flags, has_known_edge, Passes, IsClosed, ◌>>=◌, file_of, as_fault, layered, unless, ordered, trace_of}

-- the value of a step that was answered
bind_ok : {A B : Type 0} (r : Result A TraceFault) (f : A → Result B TraceFault) (y : B) → (r >>= f) ≡ Ok y → (x : A) × (r ≡ Ok x) × (f x ≡ Ok y)
bind_ok (Ok x) f y e = (x, refl, e)
bind_ok (Err d) f y e = absurd cc

abbrev fine : {A : Type 0} → A → Result A TraceFault
fine x = Ok x

fine_is : {A : Type 0} (x y : A) → fine x ≡ fine y → x ≡ y
fine_is x y e = cc

as_fault_ok : {A : Type 0} (r : Result A LayerFault) (x : A) → as_fault r ≡ Ok x → r ≡ Ok x
as_fault_ok {A = A} (Ok y) x e = let same : y ≡ x = cc in ap (λ (z : A). let r : Result A LayerFault = Ok z in r) same
as_fault_ok (Err d) x e = absurd cc

file_of_ok : (r : Result (File Trace) LayerFault) (t : TraceFile) → file_of r ≡ Ok t → (f : File Trace) × (r ≡ Ok f) × (closed_by f.content f.closing ≡ t)
file_of_ok (Ok f) t e = (f, refl, cc)
file_of_ok (Err d) t e = absurd cc

unless_ok : (o : Option ℕ) (fault : ℕ → TraceFault) (u : Unit {0}) → unless o fault ≡ Ok u → o ≡ None
unless_ok None fault u e = refl
unless_ok (Some at) fault u e = absurd cc

-- a trace whose layers are right
record IsLayered (bytes : List ℕ) (t : TraceFile) : Type 0 where
  pub fits : trace_parts.Fits (trace_in t)
  pub closing : t.closing ≡ trace_digest (trace_in t)
  pub spelled : bytes ≡ trace_spelling (trace_in t)

layered_took : (bytes : List ℕ) (t : TraceFile) → IsBytes bytes → layered bytes ≡ Ok t → IsLayered bytes t
layered_took bytes t are e =
    let f = file_of_ok (single trace_magic 1 trace_parts bytes) t e in
    let s = single_took trace_magic 1 trace_parts trace_parts_ok bytes f.0 are f.1 in
    subst (λ (u : TraceFile). IsLayered bytes u) f.2 (record { fits = s.0; closing = s.1; spelled = s.2 })

-- a trace whose layers are right, and none of whose entries fails a check
pub closed_of : (bytes : List ℕ) (read t : TraceFile) → IsBytes bytes → layered bytes ≡ Ok read → t ≡ read → first_failing in_order None 0 t.blocks ≡ None
    → first_failing has_known_flags None 0 t.blocks ≡ None → first_failing has_known_edge None 0 t.history ≡ None → IsClosed t
closed_of bytes read t are e same order flags edges =
    let l = subst (λ (u : TraceFile). IsLayered bytes u) (sym same) (layered_took bytes read are e) in
    record { fits = l.fits; passes = record { order = order; flags = flags; edges = edges }; closing = l.closing }

ordered_took : (t u : TraceFile) → ordered t ≡ Ok u → Passes (trace_in t) × (t ≡ u)
ordered_took t u e =
    let a = bind_ok (unless (first_failing in_order None 0 t.blocks) faults.Order) (λ order. unless (first_failing has_known_flags None 0 t.blocks) faults.Flag >>= λ flags. unless (first_failing has_known_edge None 0 t.history) faults.Flag >>= λ edges. Ok t) u e in
    let b = bind_ok (unless (first_failing has_known_flags None 0 t.blocks) faults.Flag) (λ flags. unless (first_failing has_known_edge None 0 t.history) faults.Flag >>= λ edges. Ok t) u a.2 in
    let c = bind_ok (unless (first_failing has_known_edge None 0 t.history) faults.Flag) (λ edges. Ok t) u b.2 in
    (record { order = unless_ok _ faults.Order a.0 a.1; flags = unless_ok _ faults.Flag b.0 b.1; edges = unless_ok _ faults.Flag c.0 c.1 }, fine_is t u c.2)

pub trace_took : (bytes : List ℕ) (t : TraceFile) → IsBytes bytes → trace_of bytes ≡ Ok t → IsClosed t × (bytes ≡ trace_spelling (trace_in t))
unfolding trace_of
trace_took bytes t are e =
    let a = bind_ok (as_fault (layered bytes)) ordered t e in
    let l = layered_took bytes a.0 are (as_fault_ok (layered bytes) a.0 a.1) in
    let o = ordered_took a.0 t a.2 in
    subst (λ (u : TraceFile). IsClosed u × (bytes ≡ trace_spelling (trace_in u))) o.1 (record { fits = l.fits; passes = o.0; closing = l.closing }, l.spelled)

-- a trace that passes, closed by its own digest, is what its spelling is read as
pub trace_again : (t : TraceFile) → IsClosed t → trace_of (trace_spelling (trace_in t)) ≡ Ok t
unfolding trace_of
trace_again t is =
    let one = file_only trace_magic 1 trace_parts (trace_in t) refl (omega arith) trace_parts_ok is.fits in
    rw (one, ← is.closing, is.passes.order, is.passes.flags, is.passes.edges) refl

pub is_found : (bytes : List ℕ) (result : Result TraceFile TraceFault) → IsBytes bytes → result ≡ trace_of bytes → IfOk result (λ t. IsClosed t × (bytes ≡ trace_spelling (trace_in t)))
is_found bytes (Ok t) are e = trace_took bytes t are (sym e)
is_found bytes (Err fault) are e = tt

pub one_trace : (s t : TraceFile) → IsClosed s → IsClosed t → trace_spelling (trace_in s) ≡ trace_spelling (trace_in t) → s ≡ t
one_trace s t s-is t-is e = fine_is s t (sym (trace_again s s-is) ∙ ap trace_of e ∙ trace_again t t-is)

-- ---- how long a file is

pub word_len : (n : ℕ) → length (word n) ≡ 4
unfolding word
word_len n = refl

block_len : (b : Block) → length (block_entry.spell b) ≡ 9
block_len b = omega (arith, length-append (word b.start) (word b.last ++ b.flags ∷ []), length-append (word b.last) (b.flags ∷ []), word_len b.start, word_len b.last)

history_len : (h : HistoryEntry) → length (history_entry.spell h) ≡ 9
history_len h = omega (arith, length-append (word h.address) (word h.x8 ++ h.edge ∷ []), length-append (word h.x8) (h.edge ∷ []), word_len h.address, word_len h.x8)

-- a list of entries that take the same number of bytes each
pub entries_len : {X : Type 0} (spell : X → List ℕ) (size : ℕ) → ((x : X) → length (spell x) ≡ size) → (xs : List X) → length (flat_map spell xs) ≡ size * length xs
entries_len spell size each [] = sym (mul-zero size)
entries_len spell size each (x ∷ xs) = rw flat_map-cons (omega (arith, length-append (spell x) (flat_map spell xs), each x, entries_len spell size each xs, mul-suc size (length xs)))

pub trace_len : (t : Trace) → trace_parts.Fits t → length (trace_spelling t) ≡ 84 + 9 * (length t.blocks + length t.history)
trace_len t fits =
    let blocks : List ℕ = flat_map block_entry.spell t.blocks in
    let history : List ℕ = flat_map history_entry.spell t.history in
    let history_list : List ℕ = word (length t.history) ++ history in
    let lists : List ℕ = (word (length t.blocks) ++ blocks) ++ history_list in
    let body : List ℕ = t.object ++ (word t.ending ++ lists) in
    let first = length-append (trace_magic ++ (word 1 ++ body)) (trace_digest t) in
    let second = length-append (word 1) body in
    let third = length-append t.object (word t.ending ++ lists) in
    let fourth = length-append (word t.ending) lists in
    let fifth = length-append (word (length t.blocks) ++ blocks) history_list in
    let sixth = length-append (word (length t.blocks)) blocks in
    let seventh = length-append (word (length t.history)) history in
    let digest_len = length-sha256 (unsealed trace_magic 1 trace_parts t) in
    let blocks_len : length blocks ≡ 9 * length t.blocks = entries_len block_entry.spell 9 block_len t.blocks in
    let histories_len : length history ≡ 9 * length t.history = entries_len history_entry.spell 9 history_len t.history in
    omega (arith, word_len 1, word_len t.ending, word_len (length t.blocks), word_len (length t.history), fits.0)

-- ---- what was written

pub is_long : {Z E : Type 0} (t : Trace) (result : Result (Vec ℕ Z) E) → IfOk result (λ bytes. bytes.items ≡ trace_spelling t) → OnOk result (trace_parts.Fits t)
    → IfOk result (λ bytes. length bytes.items ≡ 84 + 9 * (length t.blocks + length t.history))
is_long t (Ok bytes) spelled fits = ap length spelled ∙ trace_len t fits
is_long t (Err refused) spelled fits = tt

pub reads_back : {Z E : Type 0} (t : Trace) (result : Result (Vec ℕ Z) E) → IfOk result (λ bytes. bytes.items ≡ trace_spelling t) → OnOk result (IsClosed (closed_by t (trace_digest t)))
    → IfOk result (λ bytes. trace_of bytes.items ≡ Ok (closed_by t (trace_digest t)))
reads_back t (Ok bytes) spelled is = ap trace_of spelled ∙ trace_again (closed_by t (trace_digest t)) is
reads_back t (Err refused) spelled is = tt

pub is_closed : {Z E : Type 0} (t : Trace) (result : Result (Vec ℕ Z) E) → Passes t → OnOk result (trace_parts.Fits t) → OnOk result (IsClosed (closed_by t (trace_digest t)))
is_closed t (Ok bytes) passes fits = record { fits = fits; passes = passes; closing = refl }
is_closed t (Err refused) passes fits = tt
