-- One more piece in the loops that gather rows and roles.
use Rattle.std.proofs.Common.{◌≡◌, ℕ, ◌+◌, ◌<◌, List, ◌∷◌, ◌++◌, length, drop, get_or, sym, ap, ◌∙◌, append_assoc}
use Rattle.std.specs.List.{filter_map}
use Rattle.std.proofs.lemmas.List.{drop_more}
use Rattle.line_table.specs.declared.rows.Row.{Row}
use Rattle.line_table.specs.declared.roles.Role.{Role}
use Rattle.assembler.specs.declared.piece.Mark.{Mark}
use Rattle.assembler.specs.declared.piece.Piece.{Piece}
use Rattle.assembler.specs.Placed.{labels_at}
use Rattle.linker.specs.Linked.{row_of, role_of, rows_from, roles_from}

-- what is left is a part and a smaller rest
joined : {X : Type 0} (so_far more part rest left all : List X) → more ≡ so_far ++ part → left ≡ part ++ rest → so_far ++ left ≡ all → more ++ rest ≡ all
joined so_far more part rest left all is_more is_left whole =
    ap (λ xs. xs ++ rest) is_more
    ∙ (append_assoc so_far part rest ∙ (ap (λ xs. so_far ++ xs) (sym is_left) ∙ whole))

ahead : (pieces : List Piece) (own : ℕ) (piece : Piece) → own < length pieces → piece ≡ get_or pieces own piece → drop own pieces ≡ piece ∷ drop (own + 1) pieces
ahead pieces own piece within is_piece = drop_more pieces own piece within ∙ ap (λ p. p ∷ drop (own + 1) pieces) (sym is_piece)

pub rows_more : (so_far more all : List Row) (labels : List (List ℕ)) (own : ℕ) (pieces : List Piece) (piece : Piece) (own_labels : List ℕ) (marks : List Mark)
    → own < length pieces → piece ≡ get_or pieces own piece → own_labels ≡ labels_at labels own → marks ≡ piece.marks
    → more ≡ so_far ++ filter_map (row_of own_labels) marks
    → so_far ++ rows_from labels own (drop own pieces) ≡ all
    → more ++ rows_from labels (own + 1) (drop (own + 1) pieces) ≡ all
rows_more so_far more all labels own pieces piece own_labels marks within is_piece is_own is_marks is_more whole =
    joined so_far more (filter_map (row_of (labels_at labels own)) piece.marks) (rows_from labels (own + 1) (drop (own + 1) pieces)) (rows_from labels own (drop own pieces)) all
    (is_more ∙ (λ i. so_far ++ filter_map (row_of (is_own i)) (is_marks i)))
    (ap (rows_from labels own) (ahead pieces own piece within is_piece))
    whole

pub roles_more : (so_far more all : List Role) (labels : List (List ℕ)) (own : ℕ) (pieces : List Piece) (piece : Piece) (own_labels : List ℕ) (marks : List Mark)
    → own < length pieces → piece ≡ get_or pieces own piece → own_labels ≡ labels_at labels own → marks ≡ piece.marks
    → more ≡ so_far ++ filter_map (role_of own_labels) marks
    → so_far ++ roles_from labels own (drop own pieces) ≡ all
    → more ++ roles_from labels (own + 1) (drop (own + 1) pieces) ≡ all
roles_more so_far more all labels own pieces piece own_labels marks within is_piece is_own is_marks is_more whole =
    joined so_far more (filter_map (role_of (labels_at labels own)) piece.marks) (roles_from labels (own + 1) (drop (own + 1) pieces)) (roles_from labels own (drop own pieces)) all
    (is_more ∙ (λ i. so_far ++ filter_map (role_of (is_own i)) (is_marks i)))
    (ap (roles_from labels own) (ahead pieces own piece within is_piece))
    whole
