-- What code depends on, and the words of layouts as numbers.
use Rattle.std.specs.Prelude.{ℕ, ◌+◌, ◌*◌, List, [], ◌∷◌, ◌++◌, map, length, unwrap_or, slice_get}
use Rattle.kernel_ir.specs.declared.kernel.Layout.{Layout}
use Rattle.kernel_ir.specs.declared.kernel.Layout.TheVariants as layout
use Rattle.kernel_ir.specs.Layouts.{contents_after}

-- how many words each layout has
abbrev pub sizes_of : List Layout → List ℕ
sizes_of layouts = map (λ c. length c.words) (contents_after [] layouts)

-- the number of words of the layout with this number: none where there is no such layout
abbrev pub size_at : List ℕ → ℕ → ℕ
size_at sizes l = unwrap_or (slice_get sizes l) 0

-- that of several layouts
abbrev pub sum_of : List ℕ → List ℕ → ℕ
sum_of sizes [] = 0
sum_of sizes (l ∷ ls) = size_at sizes l + sum_of sizes ls

-- how many words a layout has that is built of layouts with these numbers of words
abbrev pub size_of : List ℕ → Layout → ℕ
size_of sizes (layout.Word x) = 1
size_of sizes (layout.Array count component) = count * size_at sizes component
size_of sizes (layout.Record components) = sum_of sizes components

-- the numbers of words of layouts, each of which is built of those before it
abbrev pub sizes_after : List ℕ → List Layout → List ℕ
sizes_after known [] = known
sizes_after known (l ∷ ls) = sizes_after (known ++ size_of known l ∷ []) ls
