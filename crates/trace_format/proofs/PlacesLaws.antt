-- What a trace file is read as, told by what stands where.
use Rattle.std.proofs.Common.{◌≡◌, ℕ, ◌+◌, ◌-◌, ◌*◌, ◌<◌, ◌≤◌, true, false, ltb, List, length, take, drop, Option, Some, None, Ok, Err, refl, sym, ap, ◌∙◌, arith, inl, inr}
use Rattle.std.proofs.lemmas.Bool.{cases_lt, le-ltb, lt-ltb}
use Rattle.std.proofs.lemmas.List.{length-drop, length-take, drop-drop, take_all}
use Rattle.sha2.specs.Sha256.{sha256}
use Rattle.spelling.specs.declared.fault.LayerFault.{LayerFault}
use Rattle.spelling.specs.declared.fault.LayerFault.TheVariants.{Short}
use Rattle.spelling.specs.Format.{Format, digest, number, list_of, read_many, read_word}
use Rattle.spelling.specs.Entries.{values, IsFixed}
use Rattle.spelling.specs.Fixed.{number_value, number_fixed, digest_fixed, long_reads, short_reads}
use Rattle.spelling.specs.Layers.{open_file, close_file}
use Rattle.spelling.proofs.EntryLists.{many_fixed}
use Rattle.trace_format.specs.Trace.{closed_by}
use Rattle.trace_format.specs.Formats.{block_entry, block_value, block_fixed, history_entry, history_value, history_fixed, trace_magic, trace_parts}
use Rattle.trace_format.specs.Checks.{layer_fault, ordered, trace_of}
use Rattle.trace_format.specs.Places.{block_count, first_blocks, history_count, first_history, closing_place, trace_at, closing_of, Opens}

abbrev pub some : {A : Type 0} → A → Option A
some x = Some x

pub at_place : (a b c : ℕ) (bytes : List ℕ) → c ≡ a + b → drop a (drop b bytes) ≡ drop c bytes
at_place a b c bytes e = drop-drop a b bytes ∙ ap (λ (k : ℕ). drop k bytes) (omega (arith, e))

-- ---- a list in front of bytes

list_reads : {X : Type 0} (f : Format X) (size : ℕ) (value : List ℕ → X) → IsFixed f size value → (r : List ℕ) (n : ℕ) → n ≡ number_value (take 4 r) → 4 + size * n ≤ length r
    → (list_of f).read r ≡ Some (values value size n (drop 4 r), drop (size * n) (drop 4 r))
list_reads f size value fixed r n n_is long =
    let one : read_word r ≡ some (n, drop 4 r) = long_reads number 4 number_value number_fixed r (omega (arith, long)) ∙ ap (λ (k : ℕ). some (k, drop 4 r)) (sym n_is) in
    let test : ltb (length (drop 4 r)) (size * n) ≡ false = le-ltb _ _ (omega (arith, length-drop 4 r, long)) in
    let two : read_many f.read n (drop 4 r) ≡ some (values value size n (drop 4 r), drop (size * n) (drop 4 r)) = many_fixed f size value fixed n (drop 4 r) ∙ rw test refl in
    rw (one, two) refl

pub list_without_count : {X : Type 0} (f : Format X) (r : List ℕ) → length r < 4 → (list_of f).read r ≡ None
list_without_count f r short = rw (short_reads number 4 number_value number_fixed r short) refl

list_too_short : {X : Type 0} (f : Format X) (size : ℕ) (value : List ℕ → X) → IsFixed f size value → (r : List ℕ) (n : ℕ) → n ≡ number_value (take 4 r) → 4 ≤ length r → length r < 4 + size * n
    → (list_of f).read r ≡ None
list_too_short f size value fixed r n n_is long short =
    let one : read_word r ≡ some (n, drop 4 r) = long_reads number 4 number_value number_fixed r long ∙ ap (λ (k : ℕ). some (k, drop 4 r)) (sym n_is) in
    let test : ltb (length (drop 4 r)) (size * n) ≡ true = lt-ltb _ _ (omega (arith, length-drop 4 r, short, long)) in
    let two : read_many f.read n (drop 4 r) ≡ None = many_fixed f size value fixed n (drop 4 r) ∙ rw test refl in
    rw (one, two) refl

-- ---- what stands between version and closing digest

pub digest_there : (bytes : List ℕ) → 48 ≤ length bytes → digest.read (drop 8 bytes) ≡ Some (take 32 (drop 8 bytes), drop 40 bytes)
digest_there bytes long =
    long_reads digest 32 (λ b. b) digest_fixed (drop 8 bytes) (omega (arith, long, length-drop 8 bytes)) ∙ ap (λ (r : List ℕ). some (take 32 (drop 8 bytes), r)) (at_place 32 8 40 bytes refl)

pub ending_there : (bytes : List ℕ) → 48 ≤ length bytes → read_word (drop 40 bytes) ≡ Some (number_value (take 4 (drop 40 bytes)), drop 44 bytes)
ending_there bytes long =
    long_reads number 4 number_value number_fixed (drop 40 bytes) (omega (arith, long, length-drop 40 bytes)) ∙ ap (λ (r : List ℕ). some (number_value (take 4 (drop 40 bytes)), r)) (at_place 4 40 44 bytes refl)

blocks_there : (bytes : List ℕ) → 48 + 9 * block_count bytes ≤ length bytes
    → (list_of block_entry).read (drop 44 bytes) ≡ Some (first_blocks bytes (block_count bytes), drop (48 + 9 * block_count bytes) bytes)
unfolding block_count
blocks_there bytes long =
    let n : ℕ = block_count bytes in
    let read = list_reads block_entry 9 block_value block_fixed (drop 44 bytes) n refl (omega (arith, long, length-drop 44 bytes)) in
    let four : drop 4 (drop 44 bytes) ≡ drop 48 bytes = at_place 4 44 48 bytes refl in
    read ∙ ap (λ (r : List ℕ). some (values block_value 9 n r, drop (9 * n) r)) four ∙ ap (λ (r : List ℕ). some (values block_value 9 n (drop 48 bytes), r)) (at_place (9 * n) 48 (48 + 9 * n) bytes (omega arith))

history_there : (bytes : List ℕ) → closing_place bytes ≤ length bytes
    → (list_of history_entry).read (drop (48 + 9 * block_count bytes) bytes) ≡ Some (first_history bytes (history_count bytes), drop (closing_place bytes) bytes)
unfolding history_count
history_there bytes long =
    let n : ℕ = block_count bytes in
    let m : ℕ = history_count bytes in
    let read = list_reads history_entry 9 history_value history_fixed (drop (48 + 9 * n) bytes) m refl (omega (arith, long, length-drop (48 + 9 * n) bytes)) in
    let four : drop 4 (drop (48 + 9 * n) bytes) ≡ drop (52 + 9 * n) bytes = at_place 4 (48 + 9 * n) (52 + 9 * n) bytes (omega arith) in
    read ∙ ap (λ (r : List ℕ). some (values history_value 9 m r, drop (9 * m) r)) four
    ∙ ap (λ (r : List ℕ). some (values history_value 9 m (drop (52 + 9 * n) bytes), r)) (at_place (9 * m) (52 + 9 * n) (52 + 9 * n + 9 * m) bytes (omega arith))

parts_there : (bytes : List ℕ) → closing_place bytes ≤ length bytes → trace_parts.read (drop 8 bytes) ≡ Some (trace_at bytes, drop (closing_place bytes) bytes)
parts_there bytes long =
    let head : 48 ≤ length bytes = omega (arith, long) in
    let blocks : 48 + 9 * block_count bytes ≤ length bytes = omega (arith, long) in
    rw (digest_there bytes head, ending_there bytes head, blocks_there bytes blocks, history_there bytes long) refl

blocks_missing : (bytes : List ℕ) → 48 ≤ length bytes → length bytes < 48 + 9 * block_count bytes → (list_of block_entry).read (drop 44 bytes) ≡ None
unfolding block_count
blocks_missing bytes head short =
    list_too_short block_entry 9 block_value block_fixed (drop 44 bytes) (block_count bytes) refl (omega (arith, head, length-drop 44 bytes)) (omega (arith, short, length-drop 44 bytes))

history_missing : (bytes : List ℕ) → 52 + 9 * block_count bytes ≤ length bytes → length bytes < closing_place bytes → (list_of history_entry).read (drop (48 + 9 * block_count bytes) bytes) ≡ None
unfolding history_count
history_missing bytes head short =
    list_too_short history_entry 9 history_value history_fixed (drop (48 + 9 * block_count bytes) bytes) (history_count bytes) refl
    (omega (arith, head, length-drop (48 + 9 * block_count bytes) bytes)) (omega (arith, short, length-drop (48 + 9 * block_count bytes) bytes))

-- the bytes end before the blocks do, or the count of the history
parts_without_blocks : (bytes : List ℕ) → 48 ≤ length bytes → length bytes < 52 + 9 * block_count bytes → trace_parts.read (drop 8 bytes) ≡ None
parts_without_blocks bytes head short = elim (cases_lt (length bytes) (48 + 9 * block_count bytes)) [
  | inl less ↦ rw (digest_there bytes head, ending_there bytes head, blocks_missing bytes head less) refl
  | inr more ↦
      let gone : (list_of history_entry).read (drop (48 + 9 * block_count bytes) bytes) ≡ None =
      list_without_count history_entry (drop (48 + 9 * block_count bytes) bytes) (omega (arith, short, length-drop (48 + 9 * block_count bytes) bytes)) in
      rw (digest_there bytes head, ending_there bytes head, blocks_there bytes more, gone) refl
]

parts_without_history : (bytes : List ℕ) → 52 + 9 * block_count bytes ≤ length bytes → length bytes < closing_place bytes → trace_parts.read (drop 8 bytes) ≡ None
parts_without_history bytes head short =
    rw (digest_there bytes (omega (arith, head)), ending_there bytes (omega (arith, head)), blocks_there bytes (omega (arith, head)), history_missing bytes head short) refl

-- ---- the whole file

short_of : (bytes : List ℕ) → open_file trace_magic bytes ≡ Ok (1, drop 8 bytes) → trace_parts.read (drop 8 bytes) ≡ None → trace_of bytes ≡ Err (layer_fault Short)
unfolding trace_of
short_of bytes opens none = rw (opens, none) refl

pub ends_in_blocks : (bytes : List ℕ) → Opens bytes → length bytes < 52 + 9 * block_count bytes → trace_of bytes ≡ Err (layer_fault Short)
ends_in_blocks bytes o short = short_of bytes o.opens (parts_without_blocks bytes o.long short)

pub ends_in_history : (bytes : List ℕ) → Opens bytes → 52 + 9 * block_count bytes ≤ length bytes → length bytes < closing_place bytes → trace_of bytes ≡ Err (layer_fault Short)
ends_in_history bytes o head short = short_of bytes o.opens (parts_without_history bytes head short)

-- ---- what stands behind the entries

close_same : (bytes : List ℕ) (at : ℕ) → at ≤ length bytes → close_file bytes (drop at bytes) ≡ closing_of (take 33 (drop at bytes)) (sha256 (take at bytes))
close_same bytes at within =
    let len : length (drop at bytes) ≡ length bytes - at = length-drop at bytes in
    elim (cases_lt (length (drop at bytes)) 32) [
      | inl short ↦
          let test : ltb (length (drop at bytes)) 32 ≡ true = lt-ltb _ _ short in
          let whole : take 33 (drop at bytes) ≡ drop at bytes = take_all 33 (drop at bytes) (omega (arith, short)) in
          rw (whole, test) refl
      | inr enough ↦
          let above : ltb (length (drop at bytes)) 32 ≡ false = le-ltb _ _ enough in
          elim (cases_lt 32 (length (drop at bytes))) [
            | inl more ↦
                let cut : length (take 33 (drop at bytes)) ≡ 33 = omega (arith, length-take 33 (drop at bytes), more) in
                let first : ltb (length (take 33 (drop at bytes))) 32 ≡ false = le-ltb _ _ (omega (arith, cut)) in
                let second : ltb 32 (length (take 33 (drop at bytes))) ≡ true = lt-ltb _ _ (omega (arith, cut)) in
                let long : ltb 32 (length (drop at bytes)) ≡ true = lt-ltb _ _ more in
                rw (above, long, first, second) refl
            | inr exact ↦
                let whole : take 33 (drop at bytes) ≡ drop at bytes = take_all 33 (drop at bytes) (omega (arith, exact)) in
                let place : length bytes - 32 ≡ at = omega (arith, len, enough, exact, within) in
                rw (whole, place) refl
          ]
    ]

-- what the digest and its test are worth
pub closed_wrong : (bytes : List ℕ) (fault : LayerFault) → Opens bytes → closing_place bytes ≤ length bytes
    → closing_of (take 33 (drop (closing_place bytes) bytes)) (sha256 (take (closing_place bytes) bytes)) ≡ Err fault → trace_of bytes ≡ Err (layer_fault fault)
unfolding trace_of
closed_wrong bytes fault o long e =
    let closes : close_file bytes (drop (closing_place bytes) bytes) ≡ Err fault = close_same bytes (closing_place bytes) long ∙ e in
    rw (o.opens, parts_there bytes long, closes) refl

pub closed_right : (bytes closing : List ℕ) → Opens bytes → closing_place bytes ≤ length bytes
    → closing_of (take 33 (drop (closing_place bytes) bytes)) (sha256 (take (closing_place bytes) bytes)) ≡ Ok closing → trace_of bytes ≡ ordered (closed_by (trace_at bytes) closing)
unfolding trace_of
closed_right bytes closing o long e =
    let closes : close_file bytes (drop (closing_place bytes) bytes) ≡ Ok closing = close_same bytes (closing_place bytes) long ∙ e in
    rw (o.opens, parts_there bytes long, closes) refl
