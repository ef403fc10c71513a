-- Layouts: the first values of a type's scalar parts, as words in order.
use Rattle.std.specs.Prelude.{ℕ, zero, suc, ◌+◌, ℤ, List, [], ◌∷◌, ◌++◌, Option, Some, None, slice_get}
use Rattle.kernel_ir.specs.declared.kernel.Layout.{Layout}
use Rattle.kernel_ir.specs.declared.kernel.Layout.TheVariants as layout

-- the words of a layout, and its cost: one for each word and each composite part
pub record Content : Type 0 where
  pub words : List ℤ
  pub cost : ℕ

-- no words
abbrev pub no_content : Content
no_content = record { words = []; cost = 0 }

-- that of the layout with this number
abbrev pub content_or_none : Option Content → Content
content_or_none None = no_content
content_or_none (Some c) = c

abbrev pub content_at : List Content → ℕ → Content
content_at known l = content_or_none (slice_get known l)

-- one content, and another behind it
abbrev pub followed_by : Content → Content → Content
followed_by c d = record { words = c.words ++ d.words; cost = c.cost + d.cost }

-- so many times the same
abbrev pub repeated : ℕ → Content → Content
repeated zero c = no_content
repeated (suc n) c = followed_by c (repeated n c)

-- those of several layouts, in order
abbrev pub joined : List Content → List ℕ → Content
joined known [] = no_content
joined known (l ∷ ls) = followed_by (content_at known l) (joined known ls)

-- a composite part costs one more
abbrev pub composite : Content → Content
composite c = record { words = c.words; cost = 1 + c.cost }

-- the content of a layout that is built of these
abbrev pub content_of : List Content → Layout → Content
content_of known (layout.Word x) = record { words = x ∷ []; cost = 1 }
content_of known (layout.Array count component) = composite (repeated count (content_at known component))
content_of known (layout.Record components) = composite (joined known components)

-- the contents of layouts, each of which is built of those before it
abbrev pub contents_after : List Content → List Layout → List Content
contents_after known [] = known
contents_after known (l ∷ ls) = contents_after (known ++ content_of known l ∷ []) ls

-- the content of the layout with this number
abbrev pub content_in : List Layout → ℕ → Content
content_in layouts l = content_at (contents_after [] layouts) l
