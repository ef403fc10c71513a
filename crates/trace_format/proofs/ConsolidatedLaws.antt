-- What is read as a consolidated file is spelled so and passes, and what is spelled so and passes is read.
use Rattle.std.proofs.Common.{◌≡◌, ℕ, ◌+◌, ◌*◌, List, [], ◌∷◌, ◌++◌, length, Option, Some, None, Result, Ok, Err, refl, sym, ap, subst, ◌∙◌, arith}
use Rattle.std.specs.Prelude.{IfOk, OnOk, Vec}
use Rattle.std.specs.List.{flat_map, AllByRecursion}
use Rattle.std.proofs.Math.Nat.{mul-suc}
use Rattle.std.proofs.lemmas.List.{length-append}
use Rattle.std.proofs.lemmas.List.Concat.{flat_map-cons}
use Rattle.sha2.proofs.Facts256.{length-sha256}
use Rattle.spelling.specs.Format.{digest, word, long_word}
use Rattle.spelling.specs.declared.fault.LayerFault.{LayerFault}
use Rattle.spelling.specs.Laws.{IsBytes}
use Rattle.spelling.specs.Layers.{File, single, unsealed}
use Rattle.spelling.specs.Checks.{first_failing}
use Rattle.spelling.proofs.LayersLaws.{single_took, file_only}
use Rattle.trace_format.specs.declared.consolidated.StartEntry.{StartEntry}
use Rattle.trace_format.specs.declared.consolidated.VectorEntry.{VectorEntry}
use Rattle.trace_format.specs.declared.consolidated.fault.ConsFault.{ConsFault}
use Rattle.trace_format.specs.declared.consolidated.fault.ConsFault.TheVariants as faults
use Rattle.trace_format.specs.Consolidated.{Consolidated, ConsolidatedFile, consolidated_in, sealed_by}
use Rattle.trace_format.specs.ConsolidatedFormats.{start_entry, vector_entry, consolidated_magic, consolidated_parts, consolidated_parts_ok, consolidated_spelling, consolidated_digest}
use Rattle.trace_format.specs.ConsolidatedChecks.{run_rises, start_rises, vector_rises, is_true_where_seen, IsOrdered, IsSealed, ◌>>=◌, file_of, as_fault, layered, unless, ordered, consolidated_of}
use Rattle.trace_format.proofs.TraceLaws.{word_len, entries_len}

-- the value of a step that was answered
bind_ok : {A B : Type 0} (r : Result A ConsFault) (f : A → Result B ConsFault) (y : B) → (r >>= f) ≡ Ok y → (x : A) × (r ≡ Ok x) × (f x ≡ Ok y)
bind_ok (Ok x) f y e = (x, refl, e)
bind_ok (Err d) f y e = absurd cc

abbrev fine : {A : Type 0} → A → Result A ConsFault
fine x = Ok x

fine_is : {A : Type 0} (x y : A) → fine x ≡ fine y → x ≡ y
fine_is x y e = cc

as_fault_ok : {A : Type 0} (r : Result A LayerFault) (x : A) → as_fault r ≡ Ok x → r ≡ Ok x
as_fault_ok {A = A} (Ok y) x e = let same : y ≡ x = cc in ap (λ (z : A). let r : Result A LayerFault = Ok z in r) same
as_fault_ok (Err d) x e = absurd cc

file_of_ok : (r : Result (File Consolidated) LayerFault) (c : ConsolidatedFile) → file_of r ≡ Ok c → (f : File Consolidated) × (r ≡ Ok f) × (sealed_by f.content f.closing ≡ c)
file_of_ok (Ok f) c e = (f, refl, cc)
file_of_ok (Err d) c e = absurd cc

unless_ok : (o : Option ℕ) (fault : ℕ → ConsFault) (u : Unit {0}) → unless o fault ≡ Ok u → o ≡ None
unless_ok None fault u e = refl
unless_ok (Some at) fault u e = absurd cc

-- a file whose layers are right
record IsLayered (bytes : List ℕ) (c : ConsolidatedFile) : Type 0 where
  pub fits : consolidated_parts.Fits (consolidated_in c)
  pub closing : c.closing ≡ consolidated_digest (consolidated_in c)
  pub spelled : bytes ≡ consolidated_spelling (consolidated_in c)

layered_took : (bytes : List ℕ) (c : ConsolidatedFile) → IsBytes bytes → layered bytes ≡ Ok c → IsLayered bytes c
layered_took bytes c are e =
    let f = file_of_ok (single consolidated_magic 1 consolidated_parts bytes) c e in
    let s = single_took consolidated_magic 1 consolidated_parts consolidated_parts_ok bytes f.0 are f.1 in
    subst (λ (u : ConsolidatedFile). IsLayered bytes u) f.2 (record { fits = s.0; closing = s.1; spelled = s.2 })

-- a file whose layers are right, and none of whose entries fails a check
pub sealed_of : (bytes : List ℕ) (read c : ConsolidatedFile) → IsBytes bytes → layered bytes ≡ Ok read → c ≡ read → IsOrdered (consolidated_in c) → IsSealed c
sealed_of bytes read c are e same are_ordered =
    let l = subst (λ (u : ConsolidatedFile). IsLayered bytes u) (sym same) (layered_took bytes read are e) in
    record { fits = l.fits; ordered = are_ordered; closing = l.closing }

-- the checks that come last, each with those behind it
abbrev flags_checked : ConsolidatedFile → Result ConsolidatedFile ConsFault
flags_checked c = unless (first_failing is_true_where_seen None 0 c.vectors) faults.Flag >>= λ flags. Ok c

abbrev vectors_checked : ConsolidatedFile → Result ConsolidatedFile ConsFault
vectors_checked c = unless (first_failing vector_rises None 0 c.vectors) faults.Order >>= λ vectors. flags_checked c

abbrev starts_checked : ConsolidatedFile → Result ConsolidatedFile ConsFault
starts_checked c = unless (first_failing start_rises None 0 c.starts) faults.Order >>= λ starts. vectors_checked c

ordered_took : (c u : ConsolidatedFile) → ordered c ≡ Ok u → IsOrdered (consolidated_in c) × (c ≡ u)
ordered_took c u e =
    let a = bind_ok (unless (first_failing run_rises None 0 c.runs) faults.Order) (λ runs. starts_checked c) u e in
    let b = bind_ok (unless (first_failing start_rises None 0 c.starts) faults.Order) (λ starts. vectors_checked c) u a.2 in
    let d = bind_ok (unless (first_failing vector_rises None 0 c.vectors) faults.Order) (λ vectors. flags_checked c) u b.2 in
    let f = bind_ok (unless (first_failing is_true_where_seen None 0 c.vectors) faults.Flag) (λ flags. Ok c) u d.2 in (
      record {
        runs = unless_ok _ faults.Order a.0 a.1;
        starts = unless_ok _ faults.Order b.0 b.1;
        vectors = unless_ok _ faults.Order d.0 d.1;
        flags = unless_ok _ faults.Flag f.0 f.1;
      },
      fine_is c u f.2,
    )

consolidated_took : (bytes : List ℕ) (c : ConsolidatedFile) → IsBytes bytes → consolidated_of bytes ≡ Ok c → IsSealed c × (bytes ≡ consolidated_spelling (consolidated_in c))
unfolding consolidated_of
consolidated_took bytes c are e =
    let a = bind_ok (as_fault (layered bytes)) ordered c e in
    let l = layered_took bytes a.0 are (as_fault_ok (layered bytes) a.0 a.1) in
    let o = ordered_took a.0 c a.2 in
    subst (λ (u : ConsolidatedFile). IsSealed u × (bytes ≡ consolidated_spelling (consolidated_in u))) o.1
    (record { fits = l.fits; ordered = o.0; closing = l.closing }, l.spelled)

-- a file that passes, closed by its own digest, is what its spelling is read as
pub consolidated_again : (c : ConsolidatedFile) → IsSealed c → consolidated_of (consolidated_spelling (consolidated_in c)) ≡ Ok c
unfolding consolidated_of
consolidated_again c is =
    let one = file_only consolidated_magic 1 consolidated_parts (consolidated_in c) refl (omega arith) consolidated_parts_ok is.fits in
    rw (one, ← is.closing, is.ordered.runs, is.ordered.starts, is.ordered.vectors, is.ordered.flags) refl

pub is_found : (bytes : List ℕ) (result : Result ConsolidatedFile ConsFault) → IsBytes bytes → result ≡ consolidated_of bytes
    → IfOk result (λ c. IsSealed c × (bytes ≡ consolidated_spelling (consolidated_in c)))
is_found bytes (Ok c) are e = consolidated_took bytes c are (sym e)
is_found bytes (Err fault) are e = tt

-- what a file says has one spelling
pub one_file : (a b : ConsolidatedFile) → IsSealed a → IsSealed b → consolidated_spelling (consolidated_in a) ≡ consolidated_spelling (consolidated_in b) → a ≡ b
one_file a b a-is b-is e = fine_is a b (sym (consolidated_again a a-is) ∙ ap consolidated_of e ∙ consolidated_again b b-is)

-- ---- how long a file is

long_word_len : (n : ℕ) → length (long_word n) ≡ 8
unfolding long_word
long_word_len n = refl

start_len : (s : StartEntry) → length (start_entry.spell s) ≡ 8
start_len s = omega (arith, length-append (word s.statement.0) (word s.instance.0), word_len s.statement.0, word_len s.instance.0)

vector_len : (v : VectorEntry) → length (vector_entry.spell v) ≡ 16
vector_len v =
    let last = length-append (word v.vector.seen) (word v.vector.value) in
    let behind = length-append (word v.instance.0) (word v.vector.seen ++ word v.vector.value) in
    let whole = length-append (word v.decision.0) (word v.instance.0 ++ (word v.vector.seen ++ word v.vector.value)) in
    omega (arith, last, behind, whole, word_len v.decision.0, word_len v.instance.0, word_len v.vector.seen, word_len v.vector.value)

-- digests
runs_len : (runs : List (List ℕ)) → AllByRecursion digest.Fits runs → length (flat_map digest.spell runs) ≡ 32 * length runs
runs_len [] fit = refl
runs_len (r ∷ rs) fit = rw flat_map-cons (omega (arith, length-append r (flat_map digest.spell rs), fit.0, runs_len rs fit.1, mul-suc 32 (length rs)))

file_len : (c : Consolidated) → consolidated_parts.Fits c
    → length (consolidated_spelling c) ≡ 96 + 32 * length c.runs + 8 * length c.starts + 16 * length c.vectors
file_len c fits =
    let runs : List ℕ = flat_map digest.spell c.runs in
    let starts : List ℕ = flat_map start_entry.spell c.starts in
    let vectors : List ℕ = flat_map vector_entry.spell c.vectors in
    let vectors_list : List ℕ = long_word (length c.vectors) ++ vectors in
    let starts_list : List ℕ = long_word (length c.starts) ++ starts in
    let runs_list : List ℕ = long_word (length c.runs) ++ runs in
    let body : List ℕ = c.object ++ (runs_list ++ (starts_list ++ vectors_list)) in
    let first = length-append (consolidated_magic ++ (word 1 ++ body)) (consolidated_digest c) in
    let second = length-append (word 1) body in
    let third = length-append c.object (runs_list ++ (starts_list ++ vectors_list)) in
    let fourth = length-append runs_list (starts_list ++ vectors_list) in
    let fifth = length-append starts_list vectors_list in
    let sixth = length-append (long_word (length c.runs)) runs in
    let seventh = length-append (long_word (length c.starts)) starts in
    let eighth = length-append (long_word (length c.vectors)) vectors in
    let digest_len = length-sha256 (unsealed consolidated_magic 1 consolidated_parts c) in
    let runs_are : length runs ≡ 32 * length c.runs = runs_len c.runs fits.1.0.1.1 in
    let starts_are : length starts ≡ 8 * length c.starts = entries_len start_entry.spell 8 start_len c.starts in
    let vectors_are : length vectors ≡ 16 * length c.vectors = entries_len vector_entry.spell 16 vector_len c.vectors in
    omega (arith, word_len 1, long_word_len (length c.runs), long_word_len (length c.starts), long_word_len (length c.vectors), fits.0)

-- ---- what was written

pub is_long : {Z E : Type 0} (c : Consolidated) (result : Result (Vec ℕ Z) E) → IfOk result (λ bytes. bytes.items ≡ consolidated_spelling c) → OnOk result (consolidated_parts.Fits c)
    → IfOk result (λ bytes. length bytes.items ≡ 96 + 32 * length c.runs + 8 * length c.starts + 16 * length c.vectors)
is_long c (Ok bytes) spelled fits = ap length spelled ∙ file_len c fits
is_long c (Err refused) spelled fits = tt

pub is_sealed : {Z E : Type 0} (c : Consolidated) (result : Result (Vec ℕ Z) E) → IsOrdered c → OnOk result (consolidated_parts.Fits c) → OnOk result (IsSealed (sealed_by c (consolidated_digest c)))
is_sealed c (Ok bytes) are_ordered fits = record { fits = fits; ordered = are_ordered; closing = refl }
is_sealed c (Err refused) are_ordered fits = tt

pub reads_back : {Z E : Type 0} (c : Consolidated) (result : Result (Vec ℕ Z) E) → IfOk result (λ bytes. bytes.items ≡ consolidated_spelling c)
    → OnOk result (IsSealed (sealed_by c (consolidated_digest c))) → IfOk result (λ bytes. consolidated_of bytes.items ≡ Ok (sealed_by c (consolidated_digest c)))
reads_back c (Ok bytes) spelled is = ap consolidated_of spelled ∙ consolidated_again (sealed_by c (consolidated_digest c)) is
reads_back c (Err refused) spelled is = tt
