-- How a file that is fetched a part at a time goes on.
use Rattle.std.proofs.Common.{◌≡◌, ℕ, ◌+◌, ◌-◌, ◌^◌, ◌<◌, ◌≤◌, min, List, [], ◌∷◌, ◌++◌, length, take, drop, get_or, Option, Some, None, refl, sym, ap, subst, ◌∙◌, arith, add-one, inl, inr}
use Rattle.std.specs.Prelude.{IfSome, IsSomeAnd, slice_get, slice_set}
use Rattle.std.specs.FinMap as map
use Rattle.std.proofs.Math.Seq.{take-add, take-suc}
use Rattle.std.proofs.lemmas.List.{length-take, length-drop, get_or-take, get_or-drop, get_or-set_same, length-set, take-take, take-set-le, take_all, drop-take, drop-drop}
use Rattle.std.specs.List.{between}
use Rattle.std.proofs.lemmas.Slice.{between_is}
use Rattle.std.proofs.lemmas.Bool.{cases_lt}
use Rattle.std.proofs.lemmas.Option.{slice_get_past, slice_get_within, slice_get-get_or, get_or_from_slice_get}
use Rattle.sha2.specs.Hashers.{Holds256}
use Rattle.cov_io.specs.Outside.{Held, HoldsPart, IsPart}
use Rattle.trace_format.specs.declared.stream.Stream.{Stream}
use Rattle.trace_format.specs.Stream.{AreTold, StandsAt, HasNext}

-- the part of the bytes that the files tell
part_of_found : (found : Option (List ℕ)) (from : ℕ) (part bytes : List ℕ) → found ≡ Some bytes → IsSomeAnd found (λ there. IsPart from there part) → IsPart from bytes part
part_of_found None from part bytes e is = absurd cc
part_of_found (Some there) from part bytes e is = let same : there ≡ bytes = cc in subst (λ (b : List ℕ). IsPart from b part) same is

pub told_part : (held : Option Held) (name : List ℕ) (from : ℕ) (part bytes : List ℕ) → AreTold held name bytes → IfSome held (HoldsPart name from part) → IsPart from bytes part
told_part None name from part bytes told is = absurd told
told_part (Some h) name from part bytes told is = part_of_found (map.get h name) from part bytes told is

-- a part was fetched behind one that was taken to its end
pub fetched_next : (old new : Stream) (bytes : List ℕ) (taken : ℕ) → StandsAt old bytes taken → length old.part.items ≤ old.at → taken < 2 ^ 41
    → ((m : List ℕ) → Holds256 old.hasher m → Holds256 new.hasher (m ++ old.part.items)) → IsPart old.fetched bytes new.part.items → length new.part.items ≤ 65536
    → new.at ≡ 0 → new.fetched ≡ min (old.fetched + length new.part.items) (2 ^ 64 - 1) → StandsAt new bytes taken × HasNext new bytes taken
fetched_next old new bytes taken st used small update part few front sum =
    let before : taken ≡ old.fetched = omega (arith, st.taken_is, st.fetched, st.within, used) in
    let total : new.fetched ≡ old.fetched + length new.part.items = omega (arith, before, small, few, sum) in
    let long : length new.part.items ≡ min (length new.part.items) (length bytes - old.fetched) =
    ap length part.taken ∙ length-take (length new.part.items) (drop old.fetched bytes) ∙ ap (min (length new.part.items)) (length-drop old.fetched bytes) in
    let hashed : take st.start bytes ++ old.part.items ≡ take old.fetched bytes =
    ap (λ (p : List ℕ). take st.start bytes ++ p) st.part ∙ sym (take-add st.start (length old.part.items) bytes) ∙ ap (λ (n : ℕ). take n bytes) (sym st.fetched) in
    let stands : StandsAt new bytes taken = record {
      start = old.fetched;
      hashed = subst (λ (m : List ℕ). Holds256 new.hasher m) hashed (update (take st.start bytes) st.hashed);
      part = part.taken;
      fetched = total;
      reach = omega (arith, total, long, st.reach);
      taken_is = omega (arith, before, front);
      within = omega (arith, front);
    } in
    (stands, has_next new.part.items refl)
  where
    has_next : (items : List ℕ) → new.part.items ≡ items → HasNext new bytes taken
    has_next [] e = inr (omega (arith, part.ended.0 e, st.taken_is, st.fetched, st.within, used))
    has_next (x ∷ xs) e = inl (omega (arith, front, ap length e))

-- the next byte of the part is the next of the file
pub next_byte : (s : Stream) (bytes : List ℕ) (taken b : ℕ) → StandsAt s bytes taken → slice_get s.part.items s.at ≡ Some b → slice_get bytes taken ≡ Some b
next_byte s bytes taken b st e =
    let below : s.at < length s.part.items = slice_get_within s.part.items s.at b e in
    let there : get_or bytes taken b ≡ b =
    ap (λ (i : ℕ). get_or bytes i b) st.taken_is ∙ sym (get_or-drop st.start bytes s.at b)
    ∙ sym (get_or-take (length s.part.items) (drop st.start bytes) s.at b below)
    ∙ ap (λ (p : List ℕ). get_or p s.at b) (sym st.part) ∙ get_or_from_slice_get s.part.items s.at b b e in
    slice_get-get_or bytes taken b (omega (arith, st.taken_is, st.fetched, st.reach, below)) ∙ ap (λ (x : ℕ). some x) there
  where
    some : ℕ → Option ℕ
    some x = Some x

-- where the part has no next byte, the file has none
pub no_byte : (s : Stream) (bytes : List ℕ) (taken : ℕ) → HasNext s bytes taken → slice_get s.part.items s.at ≡ None → slice_get bytes taken ≡ None
no_byte s bytes taken (inl below) e = let there = slice_get-get_or s.part.items s.at 0 below in absurd cc
no_byte s bytes taken (inr past) e = slice_get_past bytes taken past

-- one byte was taken
pub byte_taken : (s new : Stream) (bytes : List ℕ) (taken b : ℕ) → StandsAt s bytes taken → slice_get s.part.items s.at ≡ Some b → new.part ≡ s.part → new.fetched ≡ s.fetched → new.hasher ≡ s.hasher → new.at ≡ s.at + 1
    → StandsAt new bytes (taken + 1)
byte_taken s new bytes taken b st e part fetched hasher at = record {
  start = st.start;
  hashed = rw hasher st.hashed;
  part = rw part st.part;
  fetched = rw (part, fetched) st.fetched;
  reach = rw fetched st.reach;
  taken_is = omega (arith, st.taken_is, at);
  within = rw part (omega (arith, at, slice_get_within s.part.items s.at b e));
}

-- so many bytes of the part in memory are the next of the file
pub bytes_ahead : (s : Stream) (bytes : List ℕ) (taken room : ℕ) → StandsAt s bytes taken → s.at + room ≤ length s.part.items
    → between s.at (s.at + room) s.part.items ≡ take room (drop taken bytes)
bytes_ahead s bytes taken room st h =
    let rest = drop st.start bytes in
    between_is s.part.items s.at (s.at + room) ∙ ap (λ (p : List ℕ). drop s.at (take (s.at + room) p)) st.part
    ∙ ap (drop s.at) (take-take (s.at + room) (length s.part.items) rest h) ∙ drop-take s.at room rest
    ∙ ap (take room) (drop-drop s.at st.start bytes ∙ ap (λ (n : ℕ). drop n bytes) (sym st.taken_is))

-- and were taken
pub ahead_taken : (s new : Stream) (bytes : List ℕ) (taken room : ℕ) → StandsAt s bytes taken → s.at + room ≤ length s.part.items
    → new.part ≡ s.part → new.fetched ≡ s.fetched → new.hasher ≡ s.hasher → new.at ≡ s.at + room → StandsAt new bytes (taken + room)
ahead_taken s new bytes taken room st h part fetched hasher at = record {
  start = st.start;
  hashed = rw hasher st.hashed;
  part = rw part st.part;
  fetched = rw (part, fetched) st.fetched;
  reach = rw fetched st.reach;
  taken_is = omega (arith, st.taken_is, at);
  within = rw part (omega (arith, at, h));
}

-- what was hashed, and what was taken of the part, is all that was taken
pub taken_part : (s : Stream) (bytes : List ℕ) (taken : ℕ) (part : List ℕ) (at : ℕ) (st : StandsAt s bytes taken) → part ≡ s.part.items → at ≡ min (length s.part.items) s.at → take st.start bytes ++ take at part ≡ take taken bytes
taken_part s bytes taken part at st is at_is =
    let same : at ≡ s.at = omega (arith, at_is, st.within) in
    let front : take s.at s.part.items ≡ take s.at (drop st.start bytes) = ap (take s.at) st.part ∙ take-take s.at (length s.part.items) (drop st.start bytes) st.within in
    rw (is, same) (ap (λ (p : List ℕ). take st.start bytes ++ p) front ∙ sym (take-add st.start s.at bytes) ∙ ap (λ (n : ℕ). take n bytes) (sym st.taken_is))

-- ---- bytes that are taken one by one

none_past : (xs : List ℕ) (i : ℕ) → slice_get xs i ≡ None → length xs ≤ i
none_past xs i e = elim (cases_lt i (length xs)) [
  | inl below ↦ let there = slice_get-get_or xs i 0 below in absurd cc
  | inr past ↦ past
]

-- at the end of the file there are no more
pub filled_short : (into bytes : List ℕ) (taken place room : ℕ) → take place into ≡ take place (drop taken bytes) → slice_get bytes (taken + place) ≡ None → place ≤ room
    → take place into ≡ take room (drop taken bytes)
filled_short into bytes taken place room so_far none within =
    let few : length (drop taken bytes) ≤ place = omega (arith, length-drop taken bytes, none_past bytes (taken + place) none) in
    so_far ∙ take_all place (drop taken bytes) few ∙ sym (take_all room (drop taken bytes) (omega (arith, few)))

-- one byte more
pub filled_next : (into bytes : List ℕ) (taken place b : ℕ) → take place into ≡ take place (drop taken bytes) → slice_get bytes (taken + place) ≡ Some b → place < length into
    → take (place + 1) (slice_set into place b) ≡ take (place + 1) (drop taken bytes)
filled_next into bytes taken place b so_far e within =
    let below : taken + place < length bytes = slice_get_within bytes (taken + place) b e in
    let byte : get_or (drop taken bytes) place b ≡ b = get_or-drop taken bytes place b ∙ get_or_from_slice_get bytes (taken + place) b b e in
    let left : take (place + 1) (slice_set into place b) ≡ take place into ++ (b ∷ []) =
    ap (λ (n : ℕ). take n (slice_set into place b)) (add-one place) ∙ take-suc (slice_set into place b) place b (omega (arith, within, length-set into place b)) ∙ rw (take-set-le place into place b (omega arith), get_or-set_same into place b b within) refl in
    let right : take (place + 1) (drop taken bytes) ≡ take place (drop taken bytes) ++ (b ∷ []) =
    ap (λ (n : ℕ). take n (drop taken bytes)) (add-one place) ∙ take-suc (drop taken bytes) place b (omega (arith, below, length-drop taken bytes)) ∙ rw byte refl in
    left ∙ ap (λ (p : List ℕ). p ++ (b ∷ [])) so_far ∙ sym right
