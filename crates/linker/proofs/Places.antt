-- How many lists of labels there are, and where the first piece begins.
use Rattle.std.proofs.Common.{◌≡◌, ℕ, ◌+◌, ◌*◌, List, [], ◌∷◌, length, map, true, refl, ap, ◌∙◌, ◌<◌, arith}
use Rattle.std.proofs.lemmas.Bool.Decides.{nat_tests}
use Rattle.std.proofs.lemmas.List.{length-map}
use Rattle.rv_isa.specs.Rows.{word}
use Rattle.rv_semantics.specs.Layout.{text_start}
use Rattle.assembler.specs.declared.piece.Piece.{Piece}
use Rattle.assembler.specs.Placed.{words_of, words_in, labels_from, address_of, labels, code}
use Rattle.object_format.specs.Text.{is_in_text}
use Rattle.assembler.proofs.Labels.{first_begins}
use Rattle.assembler.proofs.Codes.{pieces_length}
use Rattle.linker.specs.Linked.{HasWord}
use Rattle.linker.specs.Laws.{IsEntered, LinkedArePlaced}

pub labels_count : (address : ℕ) (pieces : List Piece) → length (labels_from address pieces) ≡ length pieces
labels_count address [] = refl
labels_count address (piece ∷ pieces) =
    let rest = labels_count (address + 4 * words_of piece.items) pieces in omega arith

pub entry_is : (pieces : List Piece) → HasWord pieces → address_of (labels pieces) 0 0 ≡ text_start
entry_is [] has_word = absurd has_word
entry_is (piece ∷ pieces) has_word = first_begins piece pieces

-- a program is entered in its text

pub text_words : (pieces : List Piece) → length (map word (code pieces)) ≡ words_in pieces
text_words pieces = length-map (code pieces) word ∙ pieces_length (labels pieces) 0 text_start pieces

begins_in : (text : List ℕ) → 0 < length text → is_in_text text 0x10000 ≡ true
begins_in text some = grind (arith, nat_tests)

some_words : (pieces : List Piece) → HasWord pieces → 0 < words_in pieces
some_words [] has_word = absurd has_word
some_words (piece ∷ pieces) has_word = omega arith

pub is_entered : IsEntered
is_entered pieces init has_word =
    let some = some_words pieces has_word in
    let words = text_words pieces in
    ap (is_in_text (map word (code pieces))) (entry_is pieces has_word)
    ∙ begins_in (map word (code pieces)) (omega arith)

pub linked_are_placed : LinkedArePlaced
linked_are_placed pieces init exceptions items in_reach in_time =
    record { text = refl; items = items; in_reach = in_reach; in_time = in_time }
