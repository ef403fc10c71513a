-- The pieces of a kernel, one behind the other.
use Rattle.std.proofs.Common.{◌≡◌, ℕ, zero, suc, ◌+◌, true, List, [], ◌∷◌, ◌++◌, map, length, slice_get, Some, refl, sym, ap, ap₂, ◌∙◌, arith, append_assoc}
use Rattle.std.proofs.lemmas.List.{append-nil}
use Rattle.std.proofs.lemmas.Option.{none-some, cond_some}
use Rattle.std.specs.List.{AllByRecursion}
use Rattle.assembler.specs.declared.piece.Piece.{Piece}
use Rattle.assembler.specs.Marks.{AreMarks}
use Rattle.assembler.proofs.Codes.{all_append}
use Rattle.kernel_ir.specs.declared.kernel.Body.{Body}
use Rattle.kernel_ir.specs.declared.kernel.Kernel.{Kernel}
use Rattle.kernel_ir.specs.declared.kernel.Layout.{Layout}
use Rattle.kernel_ir.specs.Obligations.{body_rows, body_conditions}
use Rattle.kernel_code.specs.FillCode.{layout_lines}
use Rattle.kernel_code.specs.Calls.{first_layout, setting}
use Rattle.kernel_code.specs.Marked.{piece_of, rows_marked, conditions_marked, HasCandidates}
use Rattle.kernel_code.specs.Pieces.{body_piece, layout_pieces, kernel_pieces, rows_of_pieces, conditions_of_pieces, PiecesAreMarked}
use Rattle.kernel_code.proofs.CodeMarks.{bodies_are_marked, layouts_are_marked, start_is_marked}

-- where the pieces are found

pub front_found : (xs ys : List Piece) (n : ℕ) (x : Piece) → slice_get xs n ≡ Some x → slice_get (xs ++ ys) n ≡ Some x
front_found [] ys n x is = absurd (none-some x is)
front_found (y ∷ xs) ys zero x is = is
front_found (y ∷ xs) ys (suc n) x is = front_found xs ys n x is

pub back_found : (xs ys : List Piece) (n : ℕ) → slice_get (xs ++ ys) (length xs + n) ≡ slice_get ys n
back_found [] ys n = ap (slice_get ys) (let x : 0 + n ≡ n = omega arith in x)
back_found (x ∷ xs) ys n =
    ap (slice_get ((x ∷ xs) ++ ys)) (let e : length (x ∷ xs) + n ≡ suc (length xs + n) = omega arith in e) ∙ back_found xs ys n

body_found : (p : Kernel) (bs : List Body) (f : ℕ) (b : Body) → slice_get bs f ≡ Some b → slice_get (map (body_piece p) bs) f ≡ Some (body_piece p b)
body_found p [] f b is = absurd (none-some b is)
body_found p (c ∷ bs) zero b is = ap (λ (d : Body). Some (body_piece p d)) (cond_some true c b is).1
body_found p (c ∷ bs) (suc f) b is = body_found p bs f b is

layout_found : (first l : ℕ) (xs : List Layout) (n : ℕ) (x : Layout) → slice_get xs n ≡ Some x → slice_get (layout_pieces first l xs) n ≡ Some (piece_of (layout_lines first (l + n) x))
layout_found first l [] n x is = absurd (none-some x is)
layout_found first l (y ∷ xs) zero x is =
    ap (λ (z : Layout). Some (piece_of (layout_lines first l z))) (cond_some true y x is).1
    ∙ ap (λ k. Some (piece_of (layout_lines first k x))) (let e : l ≡ l + 0 = omega arith in e)
layout_found first l (y ∷ xs) (suc n) x is =
    layout_found first (l + 1) xs n x is ∙ ap (λ k. Some (piece_of (layout_lines first k x))) (let e : l + 1 + n ≡ l + suc n = omega arith in e)

pub bodies_long : (p : Kernel) (bs : List Body) → length (map (body_piece p) bs) ≡ length bs
bodies_long p [] = refl
bodies_long p (b ∷ bs) = ap (λ n. suc n) (bodies_long p bs)

pub layouts_long : (first l : ℕ) (xs : List Layout) → length (layout_pieces first l xs) ≡ length xs
layouts_long first l [] = refl
layouts_long first l (x ∷ xs) = ap (λ n. suc n) (layouts_long first (l + 1) xs)

-- their marks

rows_in_parts : (xs ys : List Piece) → rows_of_pieces (xs ++ ys) ≡ rows_of_pieces xs ++ rows_of_pieces ys
rows_in_parts [] ys = refl
rows_in_parts (x ∷ xs) ys = ap (λ rs. rows_marked x.marks ++ rs) (rows_in_parts xs ys) ∙ sym (append_assoc (rows_marked x.marks) (rows_of_pieces xs) (rows_of_pieces ys))

conditions_in_parts : (xs ys : List Piece) → conditions_of_pieces (xs ++ ys) ≡ conditions_of_pieces xs ++ conditions_of_pieces ys
conditions_in_parts [] ys = refl
conditions_in_parts (x ∷ xs) ys = ap (λ rs. conditions_marked x.marks ++ rs) (conditions_in_parts xs ys) ∙ sym (append_assoc (conditions_marked x.marks) (conditions_of_pieces xs) (conditions_of_pieces ys))

bodies_name_rows : (p : Kernel) (bs : List Body) → rows_of_pieces (map (body_piece p) bs) ≡ body_rows bs
bodies_name_rows p [] = refl
bodies_name_rows p (b ∷ bs) = ap₂ (λ xs ys. xs ++ ys) (bodies_are_marked (setting p b.width) b.code).rows (bodies_name_rows p bs)

bodies_name_conditions : (p : Kernel) (bs : List Body) → conditions_of_pieces (map (body_piece p) bs) ≡ body_conditions bs
bodies_name_conditions p [] = refl
bodies_name_conditions p (b ∷ bs) = ap₂ (λ xs ys. xs ++ ys) (bodies_are_marked (setting p b.width) b.code).conditions (bodies_name_conditions p bs)

layouts_name_no_row : (first l : ℕ) (xs : List Layout) → rows_of_pieces (layout_pieces first l xs) ≡ []
layouts_name_no_row first l [] = refl
layouts_name_no_row first l (x ∷ xs) = ap₂ (λ ms ns. ms ++ ns) (layouts_are_marked first l x).rows (layouts_name_no_row first (l + 1) xs)

layouts_name_no_condition : (first l : ℕ) (xs : List Layout) → conditions_of_pieces (layout_pieces first l xs) ≡ []
layouts_name_no_condition first l [] = refl
layouts_name_no_condition first l (x ∷ xs) = ap₂ (λ ms ns. ms ++ ns) (layouts_are_marked first l x).conditions (layouts_name_no_condition first (l + 1) xs)

bodies_marked : (p : Kernel) (bs : List Body) → AllByRecursion AreMarks (map (body_piece p) bs)
bodies_marked p [] = tt
bodies_marked p (b ∷ bs) = ((bodies_are_marked (setting p b.width) b.code).marks, bodies_marked p bs)

layouts_marked : (first l : ℕ) (xs : List Layout) → AllByRecursion AreMarks (layout_pieces first l xs)
layouts_marked first l [] = tt
layouts_marked first l (x ∷ xs) = ((layouts_are_marked first l x).marks, layouts_marked first (l + 1) xs)

bodies_have_candidates : (p : Kernel) (bs : List Body) → AllByRecursion HasCandidates (map (body_piece p) bs)
bodies_have_candidates p [] = tt
bodies_have_candidates p (b ∷ bs) = ((bodies_are_marked (setting p b.width) b.code).candidates, bodies_have_candidates p bs)

layouts_have_candidates : (first l : ℕ) (xs : List Layout) → AllByRecursion HasCandidates (layout_pieces first l xs)
layouts_have_candidates first l [] = tt
layouts_have_candidates first l (x ∷ xs) = ((layouts_are_marked first l x).candidates, layouts_have_candidates first (l + 1) xs)

pub pieces_are_marked : PiecesAreMarked
pieces_are_marked p =
    let bodies = map (body_piece p) p.bodies in
    let layouts = layout_pieces (first_layout p) 0 p.layouts in
    record {
      have = record {
        start = refl;
        bodies = λ f b is.
            ap (slice_get (kernel_pieces p)) (let x : f + 1 ≡ suc f = omega arith in x)
            ∙ front_found bodies layouts f (body_piece p b) (body_found p p.bodies f b is);
        layouts = λ l x is.
            let long = bodies_long p p.bodies in
            ap (slice_get (kernel_pieces p)) (let e : first_layout p + l ≡ suc (length bodies + l) = omega arith in e)
            ∙ (back_found bodies layouts l
            ∙ (layout_found (first_layout p) 0 p.layouts l x is
            ∙ ap (λ k. Some (piece_of (layout_lines (first_layout p) k x))) (let e : 0 + l ≡ l = omega arith in e)));
      };
      marks = ((start_is_marked p.main).marks, all_append AreMarks bodies layouts (bodies_marked p p.bodies) (layouts_marked (first_layout p) 0 p.layouts));
      candidates = ((start_is_marked p.main).candidates, all_append HasCandidates bodies layouts (bodies_have_candidates p p.bodies) (layouts_have_candidates (first_layout p) 0 p.layouts));
      rows_named = rows_in_parts bodies layouts
          ∙ (ap₂ (λ xs ys. xs ++ ys) (bodies_name_rows p p.bodies) (layouts_name_no_row (first_layout p) 0 p.layouts) ∙ append-nil (body_rows p.bodies));
      conditions_named = conditions_in_parts bodies layouts
          ∙ (ap₂ (λ xs ys. xs ++ ys) (bodies_name_conditions p p.bodies) (layouts_name_no_condition (first_layout p) 0 p.layouts) ∙ append-nil (body_conditions p.bodies));
    }
