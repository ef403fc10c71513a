-- The starts of rows, block by block.
use Rattle.std.proofs.Common.{◌≡◌, ℕ, zero, suc, ◌+◌, ◌<◌, ◌≤◌, cond, List, [], ◌∷◌, ◌++◌, drop, length, slice_get, Some, None, Option, refl, sym, ap, subst, ◌∙◌, append_assoc, append-nil, nat_lt, inl, inr, map, true, Bool}
use Rattle.std.proofs.lemmas.List.{drop_all}
use Rattle.cov_base.specs.declared.event.Event.{Event}
use Rattle.cov_base.specs.declared.event.Event.TheVariants.{Start, Done}
use Rattle.cov_base.specs.Lists.{Somewhere}
use Rattle.line_table.specs.declared.rows.Row.{Row}
use Rattle.object_format.specs.declared.object.Object.{Object}
use Rattle.spelling.specs.Checks.{first_failing, rising}
use Rattle.trace_format.specs.declared.trace.Block.{Block}
use Rattle.trace_format.specs.Checks.{in_order}
use Rattle.transcript.proofs.Lists.{in_append, in_left}
use Rattle.coverage_set.specs.declared.row_starts.RowStarts.{RowStarts}
use Rattle.coverage_set.specs.Consolidated.{ArePossible, IsPossibleEvent, starts_of}
use Rattle.coverage_set.specs.Read.{HasStarted}
use Rattle.coverage_set.specs.Said.{covers, starts_in}
use Rattle.coverage_set.proofs.Possible.{from_rows}
use Rattle.coverage_set.proofs.Starts.{StartAbove, decides, one_row, past_block, rows_from, step_by, all_above}

-- ---- one block

-- a row more that doesn't lie behind the block
pub row_more : (b : Block) (later : List Block) (rows : List Row) (at : ℕ) (row : Row) (is_covered : Bool) (before after whole : List Event)
    → rising (λ (one next : Row). nat_lt one.address next.address) rows ≡ true → slice_get rows at ≡ Some row
    → row.address ≤ b.last → StartAbove b.start later → is_covered ≡ covers row.address b
    → after ≡ before ++ cond is_covered (Start row.statement row.instance ∷ []) []
    → before ++ starts_in (b ∷ later) (drop at rows) ≡ whole
    → after ++ starts_in (b ∷ later) (drop (at + 1) rows) ≡ whole
row_more b later rows at row is_covered before after whole rises is reaches above covered added so_far =
    one_row (b ∷ later) rows at 0 0 row is_covered before after whole rises is (λ rs from. refl)
    (covered ∙ decides b later row.address reaches above) added so_far

-- behind the block only later ones are looked at
pub rows_past : (b : Block) (later : List Block) (rows : List Row) (at : ℕ) (row : Row) (before whole : List Event)
    → rising (λ (one next : Row). nat_lt one.address next.address) rows ≡ true → slice_get rows at ≡ Some row → b.last < row.address
    → before ++ starts_in (b ∷ later) (drop at rows) ≡ whole
    → before ++ starts_in later (drop at rows) ≡ whole
rows_past b later rows at row before whole rises is ends so_far =
    ap (λ (es : List Event). before ++ es) (past_block b later row.address (drop at rows) ends (rows_from rows at row rises is)) ∙ so_far

-- no row is left
pub no_rows : (b : Block) (later : List Block) (rows : List Row) (at next : ℕ) (before whole : List Event) → length rows ≤ at → length rows ≤ next
    → before ++ starts_in (b ∷ later) (drop at rows) ≡ whole
    → before ++ starts_in later (drop next rows) ≡ whole
no_rows b later rows at next before whole none behind so_far =
    ap (λ (rs : List Row). before ++ starts_in later rs) (drop_all next rows behind)
    ∙ ap (λ (rs : List Row). before ++ starts_in (b ∷ later) rs) (sym (drop_all at rows none)) ∙ so_far

-- ---- all blocks

-- of blocks in order, those behind one start above it
above_after : (before : Option Block) (at : ℕ) (blocks : List Block) (b : Block) (later : List Block)
    → first_failing in_order before at (blocks ++ b ∷ later) ≡ None → StartAbove b.start later
above_after before at [] b later none = all_above b (at + 1) later (step_by before b later at (in_order before b) refl none).1
above_after before at (first ∷ blocks) b later none =
    above_after (Some first) (at + 1) blocks b later (step_by before first (blocks ++ b ∷ later) at (in_order before first) refl none).1

-- a block's starts were added
abbrev pub AddsStarts : Object → RowStarts → RowStarts → Block → Type 0
AddsStarts o old new b = (later : List Block) → StartAbove b.start later
    → new.events.items ++ starts_in later (drop new.next o.rows) ≡ old.events.items ++ starts_in (b ∷ later) (drop old.next o.rows)

-- nothing was seen
pub none_started : (o : Object) (s : RowStarts) → s.next ≡ 0 → s.events.items ≡ [] → HasStarted o s []
none_started o s next events later none = rw (next, events) refl

-- a block more
pub block_started : (o : Object) (old new : RowStarts) (blocks : List Block) (b : Block) → HasStarted o old blocks
    → ((later : List Block) → StartAbove b.start later
    → new.events.items ++ starts_in later (drop new.next o.rows) ≡ old.events.items ++ starts_in (b ∷ later) (drop old.next o.rows))
    → HasStarted o new (blocks ++ b ∷ [])
block_started o old new blocks b so_far added later none =
    let whole : (blocks ++ b ∷ []) ++ later ≡ blocks ++ b ∷ later = append_assoc blocks (b ∷ []) later in
    let ordered : first_failing in_order None 0 (blocks ++ b ∷ later) ≡ None =
    subst (λ (bs : List Block). first_failing in_order None 0 bs ≡ None) whole none in
    added later (above_after None 0 blocks b later ordered) ∙ so_far (b ∷ later) ordered
    ∙ ap (λ (bs : List Block). starts_in bs o.rows) (sym whole)

-- all were seen
pub all_started : (o : Object) (s : RowStarts) (blocks : List Block) → HasStarted o s blocks → first_failing in_order None 0 blocks ≡ None
    → s.events.items ≡ starts_in blocks o.rows
all_started o s blocks started none =
    let whole : blocks ++ [] ≡ blocks = append-nil blocks in
    sym (append-nil s.events.items)
    ∙ ap (λ (es : List Event). s.events.items ++ es) (sym (no_block (drop s.next o.rows)))
    ∙ started [] (subst (λ (bs : List Block). first_failing in_order None 0 bs ≡ None) (sym whole) none)
    ∙ ap (λ (bs : List Block). starts_in bs o.rows) whole
  where
    no_block : (rows : List Row) → starts_in [] rows ≡ []
    no_block [] = refl
    no_block (row ∷ rows) = no_block rows

-- ---- the starts are those of rows

in_drop : {X : Type 0} (P : X → Type 0) (n : ℕ) (xs : List X) → Somewhere P (drop n xs) → Somewhere P xs
in_drop P zero xs some = some
in_drop P (suc n) [] some = some
in_drop P (suc n) (x ∷ xs) some = inr (in_drop P n xs some)

drop_map : {X Y : Type 0} (f : X → Y) (n : ℕ) (xs : List X) → map f (drop n xs) ≡ drop n (map f xs)
drop_map f zero xs = refl
drop_map f (suc n) [] = refl
drop_map f (suc n) (x ∷ xs) = drop_map f n xs

rows_behind : (n : ℕ) (rows : List Row) (e : Event) → Somewhere (λ x. x ≡ e) (map (λ (row : Row). Start row.statement row.instance) (drop n rows))
    → Somewhere (λ x. x ≡ e) (map (λ (row : Row). Start row.statement row.instance) rows)
rows_behind n rows e some =
    in_drop (λ x. x ≡ e) n (map (λ (row : Row). Start row.statement row.instance) rows)
    (subst (λ (es : List Event). Somewhere (λ x. x ≡ e) es) (drop_map (λ (row : Row). Start row.statement row.instance) n rows) some)

-- an event that is the start of a row is possible
of_a_row : (o : Object) (e : Event) → Somewhere (λ x. x ≡ e) (starts_of o) → IsPossibleEvent o e
of_a_row o (Start s i) some = some
of_a_row o (Done d i v) some = absurd (never o.rows some)
  where
    never : (rows : List Row) → Somewhere (λ x. x ≡ Done d i v) (map (λ (row : Row). Start row.statement row.instance) rows) → ⊥
    never [] none = none
    never (row ∷ rows) there = elim there [ inl is ↦ cc is | inr later ↦ never rows later ]

pub rows_possible : (o : Object) (old new : RowStarts) (b : Block) → ArePossible o old.events.items
    → ((later : List Block) → StartAbove b.start later
    → new.events.items ++ starts_in later (drop new.next o.rows) ≡ old.events.items ++ starts_in (b ∷ later) (drop old.next o.rows))
    → ArePossible o new.events.items
rows_possible o old new b all added e some =
    let there : Somewhere (λ x. x ≡ e) (old.events.items ++ starts_in (b ∷ []) (drop old.next o.rows)) =
    subst (λ (es : List Event). Somewhere (λ x. x ≡ e) es) (added [] tt) (in_left (λ x. x ≡ e) new.events.items (starts_in [] (drop new.next o.rows)) some) in
    elim (in_append (λ x. x ≡ e) old.events.items (starts_in (b ∷ []) (drop old.next o.rows)) there) [
      | inl early ↦ all e early
      | inr here ↦ of_a_row o e (rows_behind old.next o.rows e (from_rows (b ∷ []) (drop old.next o.rows) e here))
    ]
