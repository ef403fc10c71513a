-- Where code stands, by induction on its instructions.
use Rattle.std.proofs.Common.{◌≡◌, ℕ, zero, suc, ◌+◌, ◌*◌, List, [], ◌∷◌, ◌++◌, length, map, slice_get, option_and_then, Some, refl, sym, ap, ◌∙◌, subst, arith, append_assoc, length-append}
use Rattle.std.proofs.lemmas.Bool.Decides.{nat_tests}
use Rattle.std.proofs.lemmas.List.{length-map}
use Rattle.rv_isa.specs.declared.instr.Instr.{Instr}
use Rattle.rv_isa.specs.Rows.{word}
use Rattle.rv_semantics.specs.Layout.{text_start, text_place, text_word}
use Rattle.rv_semantics.specs.State.{Image}
use Rattle.placed_code.specs.Code.{StandsAt, HasAt}
use Rattle.placed_code.specs.Laws.{StandsInParts, PartsStand, EachStands, TextStands}

moved : (image : Image) (from to : ℕ) (is : List Instr) → from ≡ to → HasAt image from is → HasAt image to is
moved image from to is e h = subst (λ a. HasAt image a is) e h

pub has_front : (image : Image) (address : ℕ) (xs ys : List Instr) → HasAt image address (xs ++ ys) → HasAt image address xs
has_front image address [] [] h = h
has_front image address [] (y ∷ ys) h = let within = h.0.within in omega arith
has_front image address (x ∷ xs) ys h = (h.0, has_front image (address + 4) xs ys h.1)

pub has_back : (image : Image) (address : ℕ) (xs ys : List Instr) → HasAt image address (xs ++ ys) → HasAt image (address + 4 * length xs) ys
has_back image address [] ys h = moved image address (address + 4 * 0) ys (omega arith) h
has_back image address (x ∷ xs) ys h =
    let e : address + 4 + 4 * length xs ≡ address + 4 * length (x ∷ xs) = omega arith in
    moved image _ _ ys e (has_back image (address + 4) xs ys h.1)

pub in_parts : StandsInParts
in_parts image address xs ys h = (has_front image address xs ys h, has_back image address xs ys h)

pub parts_stand : PartsStand
parts_stand image address [] ys h k = moved image (address + 4 * 0) address ys (omega arith) k
parts_stand image address (x ∷ xs) ys h k =
    let e : address + 4 * length (x ∷ xs) ≡ address + 4 + 4 * length xs = omega arith in
    (h.0, parts_stand image (address + 4) xs ys h.1 (moved image _ _ ys e k))

stands_elsewhere : (image : Image) (from to : ℕ) (x i : Instr) → from ≡ to → x ≡ i → StandsAt image from x → StandsAt image to i
stands_elsewhere image from to x i e is_i at =
    subst (λ a. StandsAt image a i) e (subst (λ y. StandsAt image from y) is_i at)

pub each_stands : EachStands
each_stands image address [] k i h e = absurd (let no : ⊥ = cc in no)
each_stands image address (x ∷ is) zero i h e =
    stands_elsewhere image address (address + 4 * 0) x i (omega arith) (let same : x ≡ i = cc in same) h.0
each_stands image address (x ∷ is) (suc k) i h e =
    let moved_on : address + 4 + 4 * k ≡ address + 4 * suc k = omega arith in
    stands_elsewhere image (address + 4 + 4 * k) (address + 4 * suc k) i i moved_on refl (each_stands image (address + 4) is k i h.1 e)

-- the word at an address of a text

word_there : (text : List ℕ) (k : ℕ) → text_word text (text_start + 4 * k) ≡ slice_get text k
word_there text k =
    let place : text_place (text_start + 4 * k) ≡ Some k = grind (arith, nat_tests) in
    ap (λ p. option_and_then (λ n. slice_get text n) p) place

word_of_map : (xs : List Instr) (i : Instr) (ys : List Instr) → slice_get (map word (xs ++ i ∷ ys)) (length xs) ≡ Some (word i)
word_of_map [] i ys = refl
word_of_map (x ∷ xs) i ys = word_of_map xs i ys

-- all within a text
pub text_stands : TextStands
text_stands image xs [] ys is_text fits ends =
    let e : length image.text ≡ length (map word (xs ++ ([] ++ ys))) = ap length is_text in
    omega (arith, length-map (xs ++ ([] ++ ys)) word, length-append xs ([] ++ ys))
text_stands image xs (i ∷ is) ys is_text fits ends =
    let e : length image.text ≡ length (map word (xs ++ (i ∷ (is ++ ys)))) = ap length is_text in
    let further : xs ++ (i ∷ (is ++ ys)) ≡ (xs ++ i ∷ []) ++ (is ++ ys) = sym (append_assoc xs (i ∷ []) (is ++ ys)) in
    let next : text_start + 4 * length (xs ++ i ∷ []) ≡ text_start + 4 * length xs + 4 = omega (arith, length-append xs (i ∷ [])) in
    let here : StandsAt image (text_start + 4 * length xs) i = record {
      reads = word_there image.text (length xs) ∙ (ap (λ t. slice_get t (length xs)) is_text ∙ word_of_map xs i (is ++ ys));
      fits = fits.0;
      within = omega (arith, length-map (xs ++ (i ∷ (is ++ ys))) word, length-append xs (i ∷ (is ++ ys)));
    } in
    (here, moved image _ _ is next (text_stands image (xs ++ i ∷ []) is ys (is_text ∙ ap (map word) further) fits.1 ends))
