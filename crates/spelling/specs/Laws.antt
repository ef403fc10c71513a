-- The two laws of a format, what is read is spelled so and what is spelled is read, for each way to build one.
use Rattle.std.proofs.Common.{◌≡◌, ℕ, zero, suc, ◌+◌, ◌<◌, ◌≤◌, ◌^◌, Bool, true, false, cond, ltb, List, [], ◌∷◌, ◌++◌, length, take, drop, get_or, Option, Some, None, refl, sym, ap, subst, ◌∙◌, append_assoc, arith, inl, inr}
use Rattle.std.specs.Int.{w32, w64, to_le_bytes, from_le_bytes}
use Rattle.std.specs.List.{flat_map, AllByRecursion}
use Rattle.std.proofs.lemmas.Bool.{cases_lt, ltb-false, le-ltb}
use Rattle.std.proofs.lemmas.List.{take_at, drop_at, take-append-drop, length-append, length-take, get_or-drop, get_or-take, get_or_past, append-nil}
use Rattle.std.proofs.lemmas.List.Concat.{flat_map-cons}
use Rattle.std.proofs.lemmas.Nat.{le_bytes_4, le_bytes_8, from_le_bytes-to_le_bytes_4, from_le_bytes-to_le_bytes_8}
use Rattle.spelling.specs.Format.{Format, ◌>>=◌, bytes_of, digest, read_byte, byte, word, read_word, number, long_word, read_long_word, long_number, then_by, ◌&◌, seen_as, read_many, many, counted, list_of, long_list_of, string}

-- each value is a byte
abbrev pub IsBytes : List ℕ → Type 0
IsBytes bytes = (i : ℕ) → get_or bytes i 0 < 256

-- the bytes are the spelling of this value, which has one, and the bytes that follow
pub record Took {X : Type 0} (f : Format X) (bytes : List ℕ) (x : X) (rest : List ℕ) : Type 0 where
  pub parts : bytes ≡ f.spell x ++ rest
  pub fits : f.Fits x
  pub rest_bytes : IsBytes rest

-- what is read is spelled so, and what has a spelling is read back from it, whatever follows
pub record IsFormat {X : Type 0} (f : Format X) : Type 0 where
  pub took : (bytes : List ℕ) (x : X) (rest : List ℕ) → IsBytes bytes → f.read bytes ≡ Some (x, rest) → Took f bytes x rest
  pub again : (x : X) (rest : List ℕ) → f.Fits x → f.read (f.spell x ++ rest) ≡ Some (x, rest)

-- ---- small steps

pub IsBytes-drop : (n : ℕ) (bytes : List ℕ) → IsBytes bytes → IsBytes (drop n bytes)
IsBytes-drop n bytes h i = rw get_or-drop (h (n + i))

IsBytes-take : (n : ℕ) (bytes : List ℕ) → IsBytes bytes → IsBytes (take n bytes)
IsBytes-take n bytes h i =
    elim (cases_lt i n) [
      | inl lt ↦ rw (get_or-take n bytes i 0 lt) (h i)
      | inr le ↦ rw (get_or_past (take n bytes) i 0 (omega (arith, length-take n bytes))) (omega arith)
    ]

-- the value of a step that was read
pub bind_some : {A B : Type 0} (r : Option A) (f : A → Option B) (y : B) → (r >>= f) ≡ Some y → (x : A) × (r ≡ Some x) × (f x ≡ Some y)
bind_some (Some x) f y e = (x, refl, e)
bind_some None f y e = absurd cc

-- a test that did not stop the reading
guard_some : {A : Type 0} (b : Bool) (x y : A) → cond b None (Some x) ≡ Some y → (b ≡ false) × (x ≡ y)
guard_some true x y e = absurd cc
guard_some false x y e = (refl, cc)

abbrev there : {A : Type 0} → A → Option A
there x = Some x

some_is : {A : Type 0} (x y : A) → there x ≡ there y → x ≡ y
some_is x y e = cc

-- two pieces that follow one another are one
joined : (bytes one between two rest : List ℕ) → bytes ≡ one ++ between → between ≡ two ++ rest → bytes ≡ (one ++ two) ++ rest
joined bytes one between two rest p q = p ∙ ap (λ (t : List ℕ). one ++ t) q ∙ sym (append_assoc one two rest)

-- ---- the smallest formats

pub bytes_of_ok : (n : ℕ) → IsFormat (bytes_of n)
bytes_of_ok n = record {
  took = λ bytes x rest are e.
      let g = guard_some (ltb (length bytes) n) (take n bytes, drop n bytes) (x, rest) e in
      let long : n ≤ length bytes = ltb-false _ _ g.0 in
      let x-is : take n bytes ≡ x = ap (λ (p : List ℕ × List ℕ). p.0) g.1 in
      let rest-is : drop n bytes ≡ rest = ap (λ (p : List ℕ × List ℕ). p.1) g.1 in
      record {
        parts = rw (← x-is, ← rest-is) (sym (take-append-drop n bytes));
        fits = rw (← x-is) (omega (arith, length-take n bytes));
        rest_bytes = rw (← rest-is) (IsBytes-drop n bytes are);
      };
  again = λ x rest fits.
      let long : ltb (length (x ++ rest)) n ≡ false = le-ltb _ _ (omega (arith, length-append x rest)) in
      rw (long, take_at x rest n fits, drop_at x rest n fits) refl;
}

byte_took : (bytes : List ℕ) (x : ℕ) (rest : List ℕ) → IsBytes bytes → read_byte bytes ≡ Some (x, rest) → Took byte bytes x rest
byte_took [] x rest are e = absurd cc
byte_took (b ∷ bytes) x rest are e =
    let p = some_is (b, bytes) (x, rest) e in
    let x-is : b ≡ x = ap (λ (p : ℕ × List ℕ). p.0) p in
    let rest-is : bytes ≡ rest = ap (λ (p : ℕ × List ℕ). p.1) p in
    record { parts = rw (x-is, rest-is) refl; fits = rw (← x-is) (are 0); rest_bytes = rw (← rest-is) (λ i. are (suc i)) }

pub byte_ok : IsFormat byte
byte_ok = record { took = byte_took; again = λ x rest fits. refl }

-- any text of four bytes that spells a number is that number's word
word_took : (bytes : List ℕ) (x : ℕ) (rest : List ℕ) → IsBytes bytes → read_word bytes ≡ Some (x, rest) → Took number bytes x rest
unfolding read_word word
word_took bytes x rest are e =
    let g = guard_some (ltb (length bytes) 4) (from_le_bytes w32 (take 4 bytes), drop 4 bytes) (x, rest) e in
    let long : 4 ≤ length bytes = ltb-false _ _ g.0 in
    let x-is : from_le_bytes w32 (take 4 bytes) ≡ x = ap (λ (p : ℕ × List ℕ). p.0) g.1 in
    let rest-is : drop 4 bytes ≡ rest = ap (λ (p : ℕ × List ℕ). p.1) g.1 in
    let cut = IsBytes-take 4 bytes are in
    let spelled : to_le_bytes w32 x ≡ take 4 bytes = le_bytes_4 (take 4 bytes) x (omega (arith, length-take 4 bytes)) cut (sym x-is) in
    record {
      parts = sym (take-append-drop 4 bytes) ∙ ap (λ (t : List ℕ). t ++ drop 4 bytes) (sym spelled) ∙ ap (λ (t : List ℕ). to_le_bytes w32 x ++ t) rest-is;
      fits = rw (← x-is) (omega (arith, cut 0, cut 1, cut 2, cut 3));
      rest_bytes = rw (← rest-is) (IsBytes-drop 4 bytes are);
    }

-- four bytes in front of others
word_front : (text rest : List ℕ) → length text ≡ 4 → read_word (text ++ rest) ≡ Some (from_le_bytes w32 text, rest)
unfolding read_word
word_front text rest len =
    let long : ltb (length (text ++ rest)) 4 ≡ false = le-ltb _ _ (omega (arith, length-append text rest)) in
    rw (long, take_at text rest 4 len, drop_at text rest 4 len) refl

word_again : (x : ℕ) (rest : List ℕ) → x < 2 ^ 32 → read_word (word x ++ rest) ≡ Some (x, rest)
unfolding word
word_again x rest fits = word_front (to_le_bytes w32 x) rest refl ∙ ap (λ (n : ℕ). there (n, rest)) (from_le_bytes-to_le_bytes_4 x fits)

pub number_ok : IsFormat number
number_ok = record { took = word_took; again = word_again }

long_word_took : (bytes : List ℕ) (x : ℕ) (rest : List ℕ) → IsBytes bytes → read_long_word bytes ≡ Some (x, rest) → Took long_number bytes x rest
unfolding read_long_word long_word
long_word_took bytes x rest are e =
    let g = guard_some (ltb (length bytes) 8) (from_le_bytes w64 (take 8 bytes), drop 8 bytes) (x, rest) e in
    let long : 8 ≤ length bytes = ltb-false _ _ g.0 in
    let x-is : from_le_bytes w64 (take 8 bytes) ≡ x = ap (λ (p : ℕ × List ℕ). p.0) g.1 in
    let rest-is : drop 8 bytes ≡ rest = ap (λ (p : ℕ × List ℕ). p.1) g.1 in
    let cut = IsBytes-take 8 bytes are in
    let spelled : to_le_bytes w64 x ≡ take 8 bytes = le_bytes_8 (take 8 bytes) x (omega (arith, length-take 8 bytes)) cut (sym x-is) in
    record {
      parts = sym (take-append-drop 8 bytes) ∙ ap (λ (t : List ℕ). t ++ drop 8 bytes) (sym spelled) ∙ ap (λ (t : List ℕ). to_le_bytes w64 x ++ t) rest-is;
      fits = rw (← x-is) (omega (arith, cut 0, cut 1, cut 2, cut 3, cut 4, cut 5, cut 6, cut 7));
      rest_bytes = rw (← rest-is) (IsBytes-drop 8 bytes are);
    }

long_word_front : (text rest : List ℕ) → length text ≡ 8 → read_long_word (text ++ rest) ≡ Some (from_le_bytes w64 text, rest)
unfolding read_long_word
long_word_front text rest len =
    let long : ltb (length (text ++ rest)) 8 ≡ false = le-ltb _ _ (omega (arith, length-append text rest)) in
    rw (long, take_at text rest 8 len, drop_at text rest 8 len) refl

long_word_again : (x : ℕ) (rest : List ℕ) → x < 2 ^ 64 → read_long_word (long_word x ++ rest) ≡ Some (x, rest)
unfolding long_word
long_word_again x rest fits = long_word_front (to_le_bytes w64 x) rest refl ∙ ap (λ (n : ℕ). there (n, rest)) (from_le_bytes-to_le_bytes_8 x fits)

pub long_number_ok : IsFormat long_number
long_number_ok = record { took = long_word_took; again = long_word_again }

-- ---- formats made of others

then_by_took : {X Y : Type 0} (f : Format X) (g : X → Format Y) → IsFormat f → ((x : X) → IsFormat (g x))
    → (bytes : List ℕ) (p : X × Y) (rest : List ℕ) → IsBytes bytes → (then_by f g).read bytes ≡ Some (p, rest) → Took (then_by f g) bytes p rest
then_by_took {X = X} {Y = Y} f g f-ok g-ok bytes p rest are e =
    let a = bind_some (f.read bytes) (λ x. (g x.0).read x.1 >>= λ y. Some ((x.0, y.0), y.1)) (p, rest) e in
    let b = bind_some ((g a.0.0).read a.0.1) (λ y. Some ((a.0.0, y.0), y.1)) (p, rest) a.2 in
    let one = f-ok.took bytes a.0.0 a.0.1 are a.1 in
    let two = (g-ok a.0.0).took a.0.1 b.0.0 b.0.1 one.rest_bytes b.1 in
    let made : Took (then_by f g) bytes (a.0.0, b.0.0) b.0.1 = record {
      parts = joined bytes (f.spell a.0.0) a.0.1 ((g a.0.0).spell b.0.0) b.0.1 one.parts two.parts;
      fits = (one.fits, two.fits);
      rest_bytes = two.rest_bytes;
    } in
    subst (λ (q : (X × Y) × List ℕ). Took (then_by f g) bytes q.0 q.1) (some_is ((a.0.0, b.0.0), b.0.1) (p, rest) b.2) made

pub then_by_ok : {X Y : Type 0} (f : Format X) (g : X → Format Y) → IsFormat f → ((x : X) → IsFormat (g x)) → IsFormat (then_by f g)
then_by_ok f g f-ok g-ok = record {
  took = then_by_took f g f-ok g-ok;
  again = λ p rest fits. rw (append_assoc (f.spell p.0) ((g p.0).spell p.1) rest, f-ok.again p.0 ((g p.0).spell p.1 ++ rest) fits.0, (g-ok p.0).again p.1 rest fits.1) refl;
}

pub and_ok : {X Y : Type 0} (f : Format X) (g : Format Y) → IsFormat f → IsFormat g → IsFormat (f & g)
and_ok f g f-ok g-ok = then_by_ok f (λ _. g) f-ok (λ _. g-ok)

seen_as_took : {X Y : Type 0} (f : Format X) (to : X → Y) (from : Y → X) → IsFormat f → ((x : X) → f.Fits x → from (to x) ≡ x)
    → (bytes : List ℕ) (y : Y) (rest : List ℕ) → IsBytes bytes → (seen_as f to from).read bytes ≡ Some (y, rest) → Took (seen_as f to from) bytes y rest
seen_as_took {Y = Y} f to from f-ok back bytes y rest are e =
    let a = bind_some (f.read bytes) (λ x. Some (to x.0, x.1)) (y, rest) e in
    let one = f-ok.took bytes a.0.0 a.0.1 are a.1 in
    let same : from (to a.0.0) ≡ a.0.0 = back a.0.0 one.fits in
    let made : Took (seen_as f to from) bytes (to a.0.0) a.0.1 = record {
      parts = rw same one.parts;
      fits = rw same one.fits;
      rest_bytes = one.rest_bytes;
    } in
    subst (λ (q : Y × List ℕ). Took (seen_as f to from) bytes q.0 q.1) (some_is (to a.0.0, a.0.1) (y, rest) a.2) made

pub seen_as_ok : {X Y : Type 0} (f : Format X) (to : X → Y) (from : Y → X) → IsFormat f → ((x : X) → f.Fits x → from (to x) ≡ x) → ((y : Y) → to (from y) ≡ y)
    → IsFormat (seen_as f to from)
seen_as_ok f to from f-ok back there-back = record {
  took = seen_as_took f to from f-ok back;
  again = λ y rest fits. rw (f-ok.again (from y) rest fits, there-back y) refl;
}

many_took : {X : Type 0} (f : Format X) → IsFormat f
    → (n : ℕ) (bytes : List ℕ) (xs : List X) (rest : List ℕ) → IsBytes bytes → read_many f.read n bytes ≡ Some (xs, rest) → Took (many f n) bytes xs rest
many_took {X = X} f f-ok zero bytes xs rest are e =
    subst (λ (q : List X × List ℕ). Took (many f 0) bytes q.0 q.1) (some_is ([], bytes) (xs, rest) e) (record { parts = refl; fits = (refl, tt); rest_bytes = are })
many_took {X = X} f f-ok (suc n) bytes xs rest are e =
    let a = bind_some (f.read bytes) (λ first. read_many f.read n first.1 >>= λ others. Some (first.0 ∷ others.0, others.1)) (xs, rest) e in
    let b = bind_some (read_many f.read n a.0.1) (λ others. Some (a.0.0 ∷ others.0, others.1)) (xs, rest) a.2 in
    let one = f-ok.took bytes a.0.0 a.0.1 are a.1 in
    let two = many_took f f-ok n a.0.1 b.0.0 b.0.1 one.rest_bytes b.1 in
    let made : Took (many f (suc n)) bytes (a.0.0 ∷ b.0.0) b.0.1 = record {
      parts = joined bytes (f.spell a.0.0) a.0.1 (flat_map f.spell b.0.0) b.0.1 one.parts two.parts ∙ ap (λ (t : List ℕ). t ++ b.0.1) (sym (flat_map-cons f.spell a.0.0 b.0.0));
      fits = (ap suc two.fits.0, (one.fits, two.fits.1));
      rest_bytes = two.rest_bytes;
    } in
    subst (λ (q : List X × List ℕ). Took (many f (suc n)) bytes q.0 q.1) (some_is (a.0.0 ∷ b.0.0, b.0.1) (xs, rest) b.2) made

many_again : {X : Type 0} (f : Format X) → IsFormat f → (xs : List X) (rest : List ℕ) → AllByRecursion f.Fits xs → read_many f.read (length xs) (flat_map f.spell xs ++ rest) ≡ Some (xs, rest)
many_again f f-ok [] rest fits = refl
many_again f f-ok (x ∷ xs) rest fits =
    let regrouped : flat_map f.spell (x ∷ xs) ++ rest ≡ f.spell x ++ (flat_map f.spell xs ++ rest) = ap (λ (t : List ℕ). t ++ rest) (flat_map-cons f.spell x xs) ∙ append_assoc (f.spell x) (flat_map f.spell xs) rest in
    ap (read_many f.read (suc (length xs))) regrouped ∙ rw (f-ok.again x (flat_map f.spell xs ++ rest) fits.0, many_again f f-ok xs rest fits.1) refl

pub many_ok : {X : Type 0} (f : Format X) → IsFormat f → (n : ℕ) → IsFormat (many f n)
many_ok f f-ok n = record {
  took = many_took f f-ok n;
  again = λ xs rest fits. rw (← fits.0) (many_again f f-ok xs rest fits.1);
}

pub counted_ok : {X : Type 0} (count : Format ℕ) (f : ℕ → Format (List X)) → IsFormat count → ((n : ℕ) → IsFormat (f n)) → ((n : ℕ) (xs : List X) → (f n).Fits xs → length xs ≡ n)
    → IsFormat (counted count f)
counted_ok count f count-ok f-ok sized = seen_as_ok _ _ _ (then_by_ok count f count-ok f-ok) (λ p fits. rw (sized p.0 p.1 fits.1) refl) (λ _. refl)

pub list_of_ok : {X : Type 0} (f : Format X) → IsFormat f → IsFormat (list_of f)
list_of_ok f f-ok = counted_ok number (many f) number_ok (many_ok f f-ok) (λ n xs fits. fits.0)

pub long_list_of_ok : {X : Type 0} (f : Format X) → IsFormat f → IsFormat (long_list_of f)
long_list_of_ok f f-ok = counted_ok long_number (many f) long_number_ok (many_ok f f-ok) (λ n xs fits. fits.0)

pub digest_ok : IsFormat digest
digest_ok = bytes_of_ok 32

pub string_ok : IsFormat string
string_ok = counted_ok number bytes_of number_ok bytes_of_ok (λ n xs fits. fits)

-- ---- what the laws give

-- two values that are spelled alike are one value
pub one_value : {X : Type 0} (f : Format X) → IsFormat f → (x y : X) → f.Fits x → f.Fits y → f.spell x ≡ f.spell y → x ≡ y
one_value {X = X} f f-ok x y x-fits y-fits e =
    let first : f.read (f.spell x) ≡ Some (x, []) = ap f.read (sym (append-nil (f.spell x))) ∙ f-ok.again x [] x-fits in
    let second : f.read (f.spell y) ≡ Some (y, []) = ap f.read (sym (append-nil (f.spell y))) ∙ f-ok.again y [] y-fits in
    ap (λ (p : X × List ℕ). p.0) (some_is (x, []) (y, []) (sym first ∙ ap f.read e ∙ second))

-- bytes that are read to their end as a value are its spelling
pub one_spelling : {X : Type 0} (f : Format X) → IsFormat f → (bytes : List ℕ) (x : X) → IsBytes bytes → f.read bytes ≡ Some (x, []) → f.Fits x × (bytes ≡ f.spell x)
one_spelling f f-ok bytes x are e =
    let t = f-ok.took bytes x [] are e in
    (t.fits, t.parts ∙ append-nil (f.spell x))

-- where nothing is read, no spelling stands first in the bytes
pub none_begins : {X : Type 0} (f : Format X) → IsFormat f → (x : X) (rest : List ℕ) → f.Fits x → f.read (f.spell x ++ rest) ≡ None → ⊥
none_begins f f-ok x rest fits e = let again = f-ok.again x rest fits in absurd cc
