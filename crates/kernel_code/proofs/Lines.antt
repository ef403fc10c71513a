-- Lines as they are put one behind the other.
use Rattle.std.proofs.Common.{◌≡◌, ◌+◌, ◌*◌, arith, length-append, ℕ, zero, suc, unwrap_or, slice_get}
use Rattle.std.proofs.Common.{List, [], ◌∷◌, ◌++◌, map, length, refl, ap, sym, ◌∙◌, append_assoc}
use Rattle.kernel_code.specs.declared.line.Line.{Line as DeclaredLine}
use Rattle.kernel_code.specs.View.{line_of, lines_of}
use Rattle.kernel_code.specs.Line.{Line, plain}
use Rattle.kernel_code.specs.Words.{load_slot}
use Rattle.kernel_ir.specs.Layouts.{Content, content_at, content_of, joined, repeated, contents_after}
use Rattle.kernel_ir.specs.declared.kernel.Layout.{Layout}
use Rattle.kernel_ir.specs.declared.kernel.Layout.TheVariants as layout
use Rattle.kernel_code.specs.Frame.{sizes_of, sum_of, size_of, sizes_after}

pub lines_push : (xs : List DeclaredLine) (x : DeclaredLine) → lines_of (xs ++ x ∷ []) ≡ lines_of xs ++ line_of x ∷ []
lines_push [] x = refl
lines_push (y ∷ xs) x = ap (λ r. line_of y ∷ r) (lines_push xs x)

pub lines_assoc : (xs ys zs : List Line) → (xs ++ ys) ++ zs ≡ xs ++ (ys ++ zs)
lines_assoc xs ys zs = append_assoc xs ys zs

-- the words of a layout's content, as a number
pub size_at : (known : List Content) (l : ℕ) → unwrap_or (slice_get (map (λ c. length c.words) known) l) 0 ≡ length
    (content_at known l).words
size_at [] l = refl
size_at (c ∷ known) zero = refl
size_at (c ∷ known) (suc l) = size_at known l

-- the contents of layouts have as many words as is computed of them
repeated_size : (n : ℕ) (c : Content) → length (repeated n c).words ≡ n * length c.words
repeated_size zero c = omega arith
repeated_size (suc n) c = length-append c.words (repeated n c).words ∙ ap (λ k. length c.words + k) (repeated_size n c) ∙ omega arith

joined_size : (known : List Content) (ls : List ℕ) → length (joined known ls).words ≡ sum_of (map (λ c. length c.words) known) ls
joined_size known [] = refl
joined_size known (l ∷ ls) =
    length-append (content_at known l).words (joined known ls).words
    ∙ (λ i. sym (size_at known l) i + joined_size known ls i)

content_size : (known : List Content) (l : Layout) → length (content_of known l).words ≡ size_of (map (λ c. length c.words) known) l
content_size known (layout.Word x) = refl
content_size known (layout.Array count component) =
    repeated_size count (content_at known component) ∙ ap (λ k. count * k) (sym (size_at known component))
content_size known (layout.Record components) = joined_size known components

sizes_push : (known : List Content) (c : Content) → map (λ c. length c.words) (known ++ c ∷ []) ≡ map (λ c. length c.words) known
    ++ length c.words ∷ []
sizes_push [] c = refl
sizes_push (d ∷ known) c = ap (λ r. length d.words ∷ r) (sizes_push known c)

sizes_are_after : (known : List Content) (ls : List Layout) → map (λ c. length c.words) (contents_after known ls) ≡ sizes_after
    (map (λ c. length c.words) known) ls
sizes_are_after known [] = refl
sizes_are_after known (l ∷ ls) =
    sizes_are_after (known ++ content_of known l ∷ []) ls
    ∙ ap (λ sizes. sizes_after sizes ls) (sizes_push known (content_of known l) ∙ ap
    (λ n. map (λ c. length c.words) known ++ n ∷ []) (content_size known l))

pub sizes_are : (ls : List Layout) → sizes_after [] ls ≡ sizes_of ls
sizes_are ls = sym (sizes_are_after [] ls)

-- lines that begin with those that load a slot into a register
pub behind_load : (e0 e1 e2 : List Line) (x r j : ℕ) (b : List Line) → x ≡ r → e1 ≡ e0 ++ map plain (load_slot x j []) → e2 ≡ e1
    ++ b → e2 ≡ e0 ++ (map plain (load_slot r j []) ++ b)
behind_load e0 e1 e2 x r j b same first second =
    second ∙ ap (λ e. e ++ b) (first ∙ ap (λ y. e0 ++ map plain (load_slot y j [])) same) ∙ lines_assoc e0 (map plain (load_slot r j [])) b
