-- What the front of a trace file tells of the whole.
use Rattle.std.proofs.Common.{◌≡◌, ℕ, ◌<◌, ◌≤◌, Bool, true, false, cond, ltb, List, length, take, drop, Some, None, Result, Ok, Err, refl, sym, ap, subst, ◌∙◌, arith, inl, inr}
use Rattle.std.specs.Prelude.{bytes_eq, ◌==◌}
use Rattle.std.proofs.lemmas.Bool.{cases_lt, le-ltb, lt-ltb, eqb-true}
use Rattle.std.proofs.lemmas.List.{length-drop, length-take, take-take, drop-take}
use Rattle.spelling.specs.declared.fault.LayerFault.{LayerFault}
use Rattle.spelling.specs.declared.fault.LayerFault.TheVariants.{Short, Magic, Version}
use Rattle.spelling.specs.Format.{digest, number, ◌&◌, list_of, read_word}
use Rattle.spelling.specs.Fixed.{number_value, number_fixed, digest_fixed, both_values, and_fixed, long_reads, short_reads}
use Rattle.spelling.specs.Layers.{◌>>=◌, or_short, open_file, when}
use Rattle.trace_format.specs.declared.head.Head.{Head}
use Rattle.trace_format.specs.Formats.{block_entry, trace_magic, trace_parts}
use Rattle.trace_format.specs.Checks.{layer_fault, trace_of}
use Rattle.trace_format.specs.Places.{block_count, head_parts, heading, Opens, IsHead}
use Rattle.trace_format.proofs.PlacesLaws.{some, at_place, list_without_count}

abbrev opened : List ℕ → Result (ℕ × List ℕ) LayerFault
opened bytes = Ok (number_value (take 4 (drop 4 bytes)), drop 8 bytes)

opened_long : (bytes : List ℕ) → 8 ≤ length bytes → open_file trace_magic bytes ≡ cond (bytes_eq (take 4 bytes) trace_magic) (opened bytes) (Err Magic)
opened_long bytes long =
    let test : ltb (length bytes) 8 ≡ false = le-ltb _ _ long in
    let read : read_word (drop 4 bytes) ≡ some (number_value (take 4 (drop 4 bytes)), drop 8 bytes) =
    long_reads number 4 number_value number_fixed (drop 4 bytes) (omega (arith, long, length-drop 4 bytes)) ∙ ap (λ (r : List ℕ). some (number_value (take 4 (drop 4 bytes)), r)) (at_place 4 4 8 bytes refl) in
    rw (test, read) refl

opened_short : (bytes : List ℕ) → length bytes < 8 → open_file trace_magic bytes ≡ Err Short
opened_short bytes short = let test : ltb (length bytes) 8 ≡ true = lt-ltb _ _ short in rw test refl

-- the front of the front
abbrev front_opened : List ℕ → Result (ℕ × List ℕ) LayerFault
front_opened bytes = Ok (number_value (take 4 (drop 4 bytes)), take 40 (drop 8 bytes))

front_long : (bytes : List ℕ) → 8 ≤ length bytes → open_file trace_magic (take 48 bytes) ≡ cond (bytes_eq (take 4 bytes) trace_magic) (front_opened bytes) (Err Magic)
front_long bytes long =
    let magic : take 4 (take 48 bytes) ≡ take 4 bytes = take-take 4 48 bytes (omega arith) in
    let version : take 4 (drop 4 (take 48 bytes)) ≡ take 4 (drop 4 bytes) = ap (take 4) (drop-take 4 44 bytes) ∙ take-take 4 44 (drop 4 bytes) (omega arith) in
    let rest : drop 8 (take 48 bytes) ≡ take 40 (drop 8 bytes) = drop-take 8 40 bytes in
    opened_long (take 48 bytes) (omega (arith, long, length-take 48 bytes)) ∙ rw (magic, version, rest) refl

abbrev headed : Result (ℕ × List ℕ) LayerFault → Result Head LayerFault
headed r = r >>= λ opened. when (opened.0 == 1) Version >>= λ is_known. or_short (head_parts.read opened.1) >>= λ read. Ok (record { object = read.0.0; ending = read.0.1.0; blocks = read.0.1.1 })

abbrev bad : LayerFault → Result Head LayerFault
bad fault = Err fault

abbrev good : Head → Result Head LayerFault
good h = Ok h

bad_is : (x y : LayerFault) → bad x ≡ bad y → x ≡ y
bad_is x y e = cc

good_is : (x y : Head) → good x ≡ good y → x ≡ y
good_is x y e = cc

head_reads : (r : List ℕ) → 40 ≤ length r → head_parts.read r ≡ Some (both_values 32 (λ b. b) (both_values 4 number_value number_value) (take 40 r), drop 40 r)
head_reads r long = long_reads head_parts 40 (both_values 32 (λ b. b) (both_values 4 number_value number_value)) (and_fixed digest (number & number) 32 8 (λ b. b) (both_values 4 number_value number_value) digest_fixed (and_fixed number number 4 4 number_value number_value number_fixed number_fixed)) r long

head_missing : (r : List ℕ) → length r < 40 → head_parts.read r ≡ None
head_missing r short = short_reads head_parts 40 (both_values 32 (λ b. b) (both_values 4 number_value number_value)) (and_fixed digest (number & number) 32 8 (λ b. b) (both_values 4 number_value number_value) digest_fixed (and_fixed number number 4 4 number_value number_value number_fixed number_fixed)) r short

-- the bytes end before the blocks' count does
parts_without_head : (bytes : List ℕ) → length bytes < 48 → trace_parts.read (drop 8 bytes) ≡ None
parts_without_head bytes short =
    let len = length-drop 8 bytes in
    elim (cases_lt (length (drop 8 bytes)) 32) [
      | inl none ↦ rw (short_reads digest 32 (λ b. b) digest_fixed (drop 8 bytes) none) refl
      | inr some_digest ↦
          let one = long_reads digest 32 (λ b. b) digest_fixed (drop 8 bytes) some_digest in
          let rest = length-drop 32 (drop 8 bytes) in
          elim (cases_lt (length (drop 32 (drop 8 bytes))) 4) [
            | inl none ↦ rw (one, short_reads number 4 number_value number_fixed (drop 32 (drop 8 bytes)) none) refl
            | inr some_ending ↦
                let two = long_reads number 4 number_value number_fixed (drop 32 (drop 8 bytes)) some_ending in
                let none : (list_of block_entry).read (drop 4 (drop 32 (drop 8 bytes))) ≡ None =
                list_without_count block_entry (drop 4 (drop 32 (drop 8 bytes))) (omega (arith, short, len, rest, some_digest, some_ending, length-drop 4 (drop 32 (drop 8 bytes)))) in
                rw (one, two, none) refl
          ]
    ]

-- ---- what the front is answered, against the whole

not_found : (fault : LayerFault) (h : Head) → bad fault ≡ good h → ⊥
not_found fault h e = cc

no_opening : (bytes : List ℕ) (fault : LayerFault) → open_file trace_magic bytes ≡ Err fault → trace_of bytes ≡ Err (layer_fault fault)
unfolding trace_of
no_opening bytes fault e = rw e refl

other_version : (bytes : List ℕ) (version : ℕ) (rest : List ℕ) → open_file trace_magic bytes ≡ Ok (version, rest) → (version == 1) ≡ false → trace_of bytes ≡ Err (layer_fault Version)
unfolding trace_of
other_version bytes version rest opens differs = rw (opens, differs) refl

no_parts : (bytes : List ℕ) → open_file trace_magic bytes ≡ Ok (1, drop 8 bytes) → trace_parts.read (drop 8 bytes) ≡ None → trace_of bytes ≡ Err (layer_fault Short)
unfolding trace_of
no_parts bytes opens none = rw (opens, none) refl

-- an opening of version 1
opens_one : (bytes : List ℕ) → 8 ≤ length bytes → bytes_eq (take 4 bytes) trace_magic ≡ true → (number_value (take 4 (drop 4 bytes)) == 1) ≡ true → open_file trace_magic bytes ≡ Ok (1, drop 8 bytes)
opens_one bytes long magic version =
    let one : number_value (take 4 (drop 4 bytes)) ≡ 1 = eqb-true (number_value (take 4 (drop 4 bytes))) 1 version in
    opened_long bytes long ∙ rw (magic, one) refl

front_one : (bytes : List ℕ) → 8 ≤ length bytes → bytes_eq (take 4 bytes) trace_magic ≡ true → (number_value (take 4 (drop 4 bytes)) == 1) ≡ true
    → open_file trace_magic (take 48 bytes) ≡ Ok (1, take 40 (drop 8 bytes))
front_one bytes long magic version =
    let one : number_value (take 4 (drop 4 bytes)) ≡ 1 = eqb-true (number_value (take 4 (drop 4 bytes))) 1 version in
    front_long bytes long ∙ rw (magic, one) refl

front_short : (bytes : List ℕ) → length bytes < 8 → open_file trace_magic (take 48 bytes) ≡ Err Short
front_short bytes short = opened_short (take 48 bytes) (omega (arith, short, length-take 48 bytes))

front_magic : (bytes : List ℕ) → 8 ≤ length bytes → bytes_eq (take 4 bytes) trace_magic ≡ false → open_file trace_magic (take 48 bytes) ≡ Err Magic
front_magic bytes long magic = front_long bytes long ∙ rw magic refl

front_version : (bytes : List ℕ) → 8 ≤ length bytes → bytes_eq (take 4 bytes) trace_magic ≡ true → (number_value (take 4 (drop 4 bytes)) == 1) ≡ false → heading (take 48 bytes) ≡ Err Version
front_version bytes long magic version =
    let opens : open_file trace_magic (take 48 bytes) ≡ front_opened bytes = front_long bytes long ∙ rw magic refl in
    ap headed opens ∙ rw version refl

-- what 40 bytes behind the version tell
abbrev told : List ℕ → Head
told r = record { object = take 32 (take 40 r); ending = number_value (take 4 (drop 32 (take 40 r))); blocks = number_value (drop 4 (drop 32 (take 40 r))) }

front_told : (bytes : List ℕ) → 48 ≤ length bytes → bytes_eq (take 4 bytes) trace_magic ≡ true → (number_value (take 4 (drop 4 bytes)) == 1) ≡ true → heading (take 48 bytes) ≡ Ok (told (take 40 (drop 8 bytes)))
front_told bytes long magic version =
    let read = head_reads (take 40 (drop 8 bytes)) (omega (arith, long, length-drop 8 bytes, length-take 40 (drop 8 bytes))) in
    ap headed (front_one bytes (omega (arith, long)) magic version) ∙ rw read refl

front_ends : (bytes : List ℕ) → 8 ≤ length bytes → length bytes < 48 → bytes_eq (take 4 bytes) trace_magic ≡ true → (number_value (take 4 (drop 4 bytes)) == 1) ≡ true → heading (take 48 bytes) ≡ Err Short
front_ends bytes long short magic version =
    let none = head_missing (take 40 (drop 8 bytes)) (omega (arith, short, long, length-drop 8 bytes, length-take 40 (drop 8 bytes))) in
    ap headed (front_one bytes long magic version) ∙ rw none refl

-- a fault of the front is that of the whole
same_fault : (bytes : List ℕ) (fault found : LayerFault) → heading (take 48 bytes) ≡ Err fault → heading (take 48 bytes) ≡ Err found → trace_of bytes ≡ Err (layer_fault fault) → trace_of bytes ≡ Err (layer_fault found)
same_fault bytes fault found e f whole = subst (λ (x : LayerFault). trace_of bytes ≡ Err (layer_fault x)) (bad_is fault found (sym e ∙ f)) whole

fault_of : (bytes : List ℕ) (fault : LayerFault) (b t : Bool) → 8 ≤ length bytes → bytes_eq (take 4 bytes) trace_magic ≡ b → (number_value (take 4 (drop 4 bytes)) == 1) ≡ t → heading (take 48 bytes) ≡ Err fault
    → trace_of bytes ≡ Err (layer_fault fault)
fault_of bytes fault false t long magic version e =
    same_fault bytes Magic fault (ap headed (front_magic bytes long magic)) e (no_opening bytes Magic (opened_long bytes long ∙ rw magic refl))
fault_of bytes fault true false long magic version e =
    same_fault bytes Version fault (front_version bytes long magic version) e
    (other_version bytes (number_value (take 4 (drop 4 bytes))) (drop 8 bytes) (opened_long bytes long ∙ rw magic refl) version)
fault_of bytes fault true true long magic version e = elim (cases_lt (length bytes) 48) [
  | inl short ↦
      same_fault bytes Short fault (front_ends bytes long short magic version) e (no_parts bytes (opens_one bytes long magic version) (parts_without_head bytes short))
  | inr enough ↦ let there = front_told bytes enough magic version in absurd (not_found fault (told (take 40 (drop 8 bytes))) (sym e ∙ there))
]

pub head_fault : (bytes : List ℕ) (fault : LayerFault) → heading (take 48 bytes) ≡ Err fault → trace_of bytes ≡ Err (layer_fault fault)
head_fault bytes fault e = elim (cases_lt (length bytes) 8) [
  | inl short ↦ same_fault bytes Short fault (ap headed (front_short bytes short)) e (no_opening bytes Short (opened_short bytes short))
  | inr long ↦ fault_of bytes fault (bytes_eq (take 4 bytes) trace_magic) (number_value (take 4 (drop 4 bytes)) == 1) long refl refl e
]

told_right : (bytes : List ℕ) → Opens bytes → IsHead bytes (told (take 40 (drop 8 bytes)))
unfolding block_count
told_right bytes opens =
    let r : List ℕ = take 40 (drop 8 bytes) in
    let once : take 40 r ≡ r = take-take 40 40 (drop 8 bytes) (omega arith) in
    let behind : drop 32 (take 40 r) ≡ take 8 (drop 40 bytes) = ap (drop 32) once ∙ drop-take 32 8 (drop 8 bytes) ∙ ap (take 8) (at_place 32 8 40 bytes refl) in
    record {
      opens = opens;
      object = ap (take 32) once ∙ take-take 32 40 (drop 8 bytes) (omega arith);
      ending = ap number_value (ap (take 4) behind ∙ take-take 4 8 (drop 40 bytes) (omega arith));
      blocks = ap number_value (ap (drop 4) behind ∙ drop-take 4 4 (drop 40 bytes) ∙ ap (take 4) (at_place 4 40 44 bytes refl));
    }

head_of_all : (bytes : List ℕ) (h : Head) (b t : Bool) → 8 ≤ length bytes → bytes_eq (take 4 bytes) trace_magic ≡ b → (number_value (take 4 (drop 4 bytes)) == 1) ≡ t → heading (take 48 bytes) ≡ good h → IsHead bytes h
head_of_all bytes h false t long magic version e = absurd (not_found Magic h (sym (ap headed (front_magic bytes long magic)) ∙ e))
head_of_all bytes h true false long magic version e = absurd (not_found Version h (sym (front_version bytes long magic version) ∙ e))
head_of_all bytes h true true long magic version e = elim (cases_lt (length bytes) 48) [
  | inl short ↦ absurd (not_found Short h (sym (front_ends bytes long short magic version) ∙ e))
  | inr enough ↦
      let right = told_right bytes (record { opens = opens_one bytes long magic version; long = enough }) in
      subst (λ (x : Head). IsHead bytes x) (good_is (told (take 40 (drop 8 bytes))) h (sym (front_told bytes enough magic version) ∙ e)) right
]

pub head_found : (bytes : List ℕ) (h : Head) → heading (take 48 bytes) ≡ Ok h → IsHead bytes h
head_found bytes h e = elim (cases_lt (length bytes) 8) [
  | inl short ↦ absurd (not_found Short h (sym (ap headed (front_short bytes short)) ∙ e))
  | inr long ↦ head_of_all bytes h (bytes_eq (take 4 bytes) trace_magic) (number_value (take 4 (drop 4 bytes)) == 1) long refl refl e
]
