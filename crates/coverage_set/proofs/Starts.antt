-- The starts whose rows lie in blocks.
use Rattle.std.proofs.Common.{◌≡◌, ℕ, ◌+◌, ◌<◌, ◌≤◌, Bool, true, false, cond, ◌&&◌, ◌||◌, ◌==◌, List, [], ◌∷◌, map, drop, length, get_or, slice_get, find, option_map, Option, Some, None, suc, zero, ◌⊎◌, ◌++◌, append_assoc, refl, sym, ap, subst, ◌∙◌, inl, inr, arith, nat_lt, nat_le, eq-eqb, ne_eqb, eqb-true, le-leb}
use Rattle.std.proofs.lemmas.Option.{slice_get_past}
use Rattle.std.specs.Prelude.{IfSome}
use Rattle.std.specs.List.{list_any}
use Rattle.std.proofs.lemmas.Bool.{and_parts, ltb-true, leb-true, leb-false, lt-leb}
use Rattle.cov_base.specs.declared.event.Event.{Event}
use Rattle.cov_base.specs.declared.event.Event.TheVariants.{Start}
use Rattle.cov_base.specs.declared.position.StmtId.{StmtId}
use Rattle.cov_base.specs.declared.position.InstId.{InstId}
use Rattle.cov_base.specs.Lists.{Somewhere, Everywhere}
use Rattle.line_table.specs.declared.rows.Row.{Row}
use Rattle.object_facts.specs.Object.{row_of, facts_of}
use Rattle.object_format.specs.Checked.{IsSound}
use Rattle.object_format.specs.declared.object.Object.{Object}
use Rattle.spelling.specs.Checks.{first_failing, rising, rising_after}
use Rattle.trace_format.specs.declared.trace.Block.{Block}
use Rattle.trace_format.specs.declared.trace.Trace.{Trace}
use Rattle.trace_format.specs.Checks.{in_order, Passes}
use Rattle.trace_format.specs.Trace.{TraceFile}
use Rattle.transcript.specs.Trace.{Says, Block as Executed}
use Rattle.vector_rebuild.proofs.LeafEdges.{left_at}
use Rattle.vector_rebuild.specs.Entries.{block_of, trace_in}
use Rattle.coverage_set.specs.Said.{covers, starts_in, AreFrom}

-- ---- blocks that cover an address

-- an address lies in a block, in the words of transcripts
abbrev pub LiesIn : ℕ → Executed → Type 0
LiesIn pc b = (b.start ≤ pc) × (pc ≤ b.last)

pub covered : (blocks : List Block) (pc : ℕ) → list_any (covers pc) blocks ≡ true → Somewhere (LiesIn pc) (map block_of blocks)
covered [] pc some = absurd (cc some)
covered (b ∷ blocks) pc some = by_first (covers pc b) refl (covered blocks pc) some
  where
    by_first : (here : Bool) → covers pc b ≡ here → (list_any (covers pc) blocks ≡ true → Somewhere (LiesIn pc) (map block_of blocks)) → (here || list_any (covers pc) blocks) ≡ true → Somewhere (LiesIn pc) (map block_of (b ∷ blocks))
    by_first true is rest some' =
        let parts = and_parts _ _ is in
        inl (leb-true b.start pc parts.0, leb-true pc b.last parts.1)
    by_first false is rest some' = inr (rest some')

pub cover : (blocks : List Block) (pc : ℕ) → Somewhere (LiesIn pc) (map block_of blocks) → list_any (covers pc) blocks ≡ true
cover [] pc some = absurd some
cover (b ∷ blocks) pc some = elim some [
  | inl lies ↦ rw (le-leb b.start pc lies.0, le-leb pc b.last lies.1) refl
  | inr later ↦ or_later (covers pc b) (cover blocks pc later)
]
  where
    or_later : (here : Bool) → list_any (covers pc) blocks ≡ true → (here || list_any (covers pc) blocks) ≡ true
    or_later true rest = refl
    or_later false rest = rest

-- ---- blocks and rows in their orders

-- a block that ends before the rows of a list covers none of them
ends_before : (b : Block) (pc : ℕ) → b.last < pc → covers pc b ≡ false
ends_before b pc ends = rw (lt-leb pc b.last ends) (and_false (nat_le b.start pc))
  where
    and_false : (t : Bool) → (t && false) ≡ false
    and_false true = refl
    and_false false = refl

starts_after : (b : Block) (pc : ℕ) → pc < b.start → covers pc b ≡ false
starts_after b pc starts = rw (lt-leb b.start pc starts) refl

pub past_block : (b : Block) (bs : List Block) (pc : ℕ) (rows : List Row) → b.last < pc → AreFrom pc rows → starts_in bs rows ≡ starts_in (b ∷ bs) rows
past_block b bs pc [] ends from = refl
past_block b bs pc (row ∷ rows) ends from =
    rw (ends_before b row.address (omega (arith, ends, from.0)))
    (ap (λ (es : List Event). cond (list_any (covers row.address) bs) (Start row.statement row.instance ∷ es) es) (past_block b bs pc rows ends from.1))

pub one_past : (blocks : List Block) (at : ℕ) (b : Block) (pc : ℕ) (rows : List Row) → slice_get blocks at ≡ Some b → b.last < pc → AreFrom pc rows
    → starts_in (drop (at + 1) blocks) rows ≡ starts_in (drop at blocks) rows
one_past blocks at b pc rows is ends from =
    past_block b (drop (at + 1) blocks) pc rows ends from ∙ ap (λ (bs : List Block). starts_in bs rows) (sym (left_at blocks at b is))

-- the first block passes the check of order, and so do those behind it
pub step_by : (before : Option Block) (b : Block) (bs : List Block) (at : ℕ) (t : Bool) → in_order before b ≡ t
    → cond t (first_failing in_order (Some b) (at + 1) bs) (Some at) ≡ None
    → (in_order before b ≡ true) × (first_failing in_order (Some b) (at + 1) bs ≡ None)
step_by before b bs at true is none = (is, none)
step_by before b bs at false is none = cc

above_here : (before b : Block) → in_order (Some before) b ≡ true → before.start < b.start
above_here before b is = ltb-true before.start b.start (and_parts _ (nat_lt before.start b.start) is).1

-- blocks start above an address
abbrev pub StartAbove : ℕ → List Block → Type 0
StartAbove pc bs = Everywhere (λ (b : Block). pc < b.start) bs

raised : (low high : ℕ) (bs : List Block) → low < high → StartAbove high bs → StartAbove low bs
raised low high [] less above = tt
raised low high (b ∷ bs) less above = (omega (arith, less, above.0), raised low high bs less above.1)

pub all_above : (b : Block) (at : ℕ) (bs : List Block) → first_failing in_order (Some b) at bs ≡ None → StartAbove b.start bs
all_above b at [] none = tt
all_above b at (n ∷ bs) none =
    let step = step_by (Some b) n bs at (in_order (Some b) n) refl none in
    let here : b.start < n.start = above_here b n step.0 in
    (here, raised b.start n.start bs here (all_above n (at + 1) bs step.1))

behind_above : (before : Option Block) (k : ℕ) (bs : List Block) (at : ℕ) (b : Block) → first_failing in_order before k bs ≡ None → slice_get bs at ≡ Some b
    → StartAbove b.start (drop (suc at) bs)
behind_above before k [] at b none is = absurd (cc is)
behind_above before k (first ∷ bs) zero b none is =
    let same : first ≡ b = cc is in
    subst (λ (x : Block). StartAbove x.start bs) same (all_above first (k + 1) bs (step_by before first bs k (in_order before first) refl none).1)
behind_above before k (first ∷ bs) (suc at) b none is =
    behind_above (Some first) (k + 1) bs at b (step_by before first bs k (in_order before first) refl none).1 is

none_covers : (pc : ℕ) (bs : List Block) → StartAbove pc bs → list_any (covers pc) bs ≡ false
none_covers pc [] above = refl
none_covers pc (b ∷ bs) above = rw (starts_after b pc above.0) (none_covers pc bs above.1)

-- of blocks, the first that doesn't end before an address decides whether one covers it
pub decides : (b : Block) (bs : List Block) (pc : ℕ) → pc ≤ b.last → StartAbove b.start bs → covers pc b ≡ (covers pc b || list_any (covers pc) bs)
decides b bs pc reaches above = elim (le_or_lt b.start pc) [
  | inl low ↦ rw (le-leb b.start pc low, le-leb pc b.last reaches) refl
  | inr high ↦ rw (starts_after b pc high) (sym (none_covers pc bs (raised pc b.start bs high above)))
]
  where
    le_or_lt : (m n : ℕ) → (m ≤ n) ⊎ (n < m)
    le_or_lt m n = by_test (nat_le m n) refl
      where
        by_test : (t : Bool) → nat_le m n ≡ t → (m ≤ n) ⊎ (n < m)
        by_test true is = inl (leb-true m n is)
        by_test false is = inr (leb-false m n is)

pub first_decides : (t : Trace) (at : ℕ) (b : Block) (pc : ℕ) → Passes t → slice_get t.blocks at ≡ Some b → pc ≤ b.last
    → covers pc b ≡ list_any (covers pc) (drop at t.blocks)
first_decides t at b pc passes is reaches =
    let next : at + 1 ≡ suc at = omega arith in
    let above : StartAbove b.start (drop (at + 1) t.blocks) =
    subst (λ (k : ℕ). StartAbove b.start (drop k t.blocks)) (sym next) (behind_above None 0 t.blocks at b passes.order is) in
    decides b (drop (at + 1) t.blocks) pc reaches above ∙ ap (list_any (covers pc)) (sym (left_at t.blocks at b is))

-- behind the last block there is none
pub none_there : (blocks : List Block) (at pc : ℕ) → at ≡ length blocks → IfSome (slice_get blocks at) (λ (b : Block). pc ≤ b.last)
none_there blocks at pc is = rw (slice_get_past blocks at (omega (arith, is))) tt

pub reached : (blocks : List Block) (at : ℕ) (b : Block) (pc : ℕ) → slice_get blocks at ≡ Some b
    → IfSome (slice_get blocks at) (λ (b : Block). pc ≤ b.last) → pc ≤ b.last
reached blocks at b pc is reaches = subst (λ (found : Option Block). IfSome found (λ (x : Block). pc ≤ x.last)) is reaches

-- rows from a row on stand at its address or above it
lowered : (low high : ℕ) (rows : List Row) → low ≤ high → AreFrom high rows → AreFrom low rows
lowered low high [] le from = tt
lowered low high (row ∷ rows) le from = (omega (arith, le, from.0), lowered low high rows le from.1)

rows_above : (first : Row) (rows : List Row) → rising_after (λ (one next : Row). nat_lt one.address next.address) first rows ≡ true → AreFrom first.address rows
rows_above first [] rises = tt
rows_above first (next ∷ rows) rises =
    let parts = and_parts (nat_lt first.address next.address) (rising_after (λ (one later : Row). nat_lt one.address later.address) next rows) rises in
    let step : first.address < next.address = ltb-true first.address next.address parts.0 in
    let here : first.address ≤ next.address = omega (arith, step) in
    (here, lowered first.address next.address rows here (rows_above next rows parts.1))

-- ---- rows by their addresses

-- rows after a row stand at higher addresses
above : (first : Row) (rows : List Row) (row : Row) → rising_after (λ (one next : Row). nat_lt one.address next.address) first rows ≡ true
    → Somewhere (λ (x : Row). x ≡ row) rows → first.address < row.address
above first [] row rises some = absurd some
above first (next ∷ rows) row rises some =
    let parts = and_parts (nat_lt first.address next.address) (rising_after (λ (one later : Row). nat_lt one.address later.address) next rows) rises in
    let step : first.address < next.address = ltb-true first.address next.address parts.0 in
    elim some [
      | inl is ↦ subst (λ (r : Row). first.address < r.address) is step
      | inr later ↦ let more : next.address < row.address = above next rows row parts.1 later in omega (arith, step, more)
    ]

rising_behind : (first : Row) (rows : List Row) → rising_after (λ (one next : Row). nat_lt one.address next.address) first rows ≡ true
    → rising (λ (one next : Row). nat_lt one.address next.address) rows ≡ true
rising_behind first [] rises = refl
rising_behind first (next ∷ rows) rises = (and_parts (nat_lt first.address next.address) (rising_after (λ (one later : Row). nat_lt one.address later.address) next rows) rises).1

pub rows_from : (rows : List Row) (at : ℕ) (row : Row) → rising (λ (one next : Row). nat_lt one.address next.address) rows ≡ true → slice_get rows at ≡ Some row
    → AreFrom row.address (drop at rows)
rows_from [] at row rises is = absurd (cc is)
rows_from (first ∷ rows) zero row rises is =
    let same : first ≡ row = cc is in
    let here : first.address ≤ first.address = omega arith in
    subst (λ (x : Row). AreFrom x.address (first ∷ rows)) same (here, rows_above first rows rises)
rows_from (first ∷ rows) (suc at) row rises is = rows_from rows at row (rising_behind first rows rises) is

-- a row of a list that is another by name
pub row_there : (rows known : List Row) (at : ℕ) (d : Row) → known ≡ rows → at < length known → slice_get rows at ≡ Some (get_or known at d)
row_there rows known at d same within = sym (ap (λ (rs : List Row). slice_get rs at) same) ∙ there known at d within
  where
    there : (rs : List Row) (k : ℕ) (e : Row) → k < length rs → slice_get rs k ≡ Some (get_or rs k e)
    there [] k e within' = absurd (omega arith)
    there (r ∷ rs) zero e within' = refl
    there (r ∷ rs) (suc k) e within' = there rs k e (omega arith)

-- one row more
pub one_row : (blocks : List Block) (rows : List Row) (at old new : ℕ) (row : Row) (covered : Bool) (before after whole : List Event)
    → rising (λ (one next : Row). nat_lt one.address next.address) rows ≡ true → slice_get rows at ≡ Some row
    → ((rs : List Row) → AreFrom row.address rs → starts_in (drop new blocks) rs ≡ starts_in (drop old blocks) rs)
    → covered ≡ list_any (covers row.address) (drop new blocks)
    → after ≡ before ++ cond covered (Start row.statement row.instance ∷ []) []
    → before ++ starts_in (drop old blocks) (drop at rows) ≡ whole
    → after ++ starts_in (drop new blocks) (drop (at + 1) rows) ≡ whole
one_row blocks rows at old new row covered before after whole rises is passed tells added so_far =
    ap (λ (es : List Event). es ++ starts_in (drop new blocks) (drop (at + 1) rows)) added
    ∙ append_assoc before (cond covered (Start row.statement row.instance ∷ []) []) (starts_in (drop new blocks) (drop (at + 1) rows))
    ∙ ap (λ (es : List Event). before ++ es)
    (joined covered ∙ ap (λ (t : Bool). cond t (Start row.statement row.instance ∷ starts_in (drop new blocks) (drop (at + 1) rows)) (starts_in (drop new blocks) (drop (at + 1) rows))) tells
    ∙ ap (λ (rs : List Row). starts_in (drop new blocks) rs) (sym (left_at rows at row is))
    ∙ passed (drop at rows) (rows_from rows at row rises is))
    ∙ so_far
  where
    joined : (t : Bool) → cond t (Start row.statement row.instance ∷ []) [] ++ starts_in (drop new blocks) (drop (at + 1) rows)
        ≡ cond t (Start row.statement row.instance ∷ starts_in (drop new blocks) (drop (at + 1) rows)) (starts_in (drop new blocks) (drop (at + 1) rows))
    joined true = refl
    joined false = refl

-- a row is the one of its address
pub row_found : (rows : List Row) (row : Row) → rising (λ (one next : Row). nat_lt one.address next.address) rows ≡ true
    → Somewhere (λ (x : Row). x ≡ row) rows → find (λ (line : Row). line.address == row.address) rows ≡ Some row
row_found [] row rises some = absurd some
row_found (first ∷ rows) row rises some = elim some [
  | inl is ↦ rw (is, eq-eqb row.address row.address refl) refl
  | inr later ↦
      let lower : first.address < row.address = above first rows row rises later in
      rw (ne_eqb first.address row.address (λ (same : first.address ≡ row.address). absurd (omega arith)))
      (row_found rows row (rising_behind first rows rises) later)
]

-- a row that is found is one of them, and has the address
pub record IsRowAt (rows : List Row) (pc : ℕ) (row : Row) : Type 0 where
  pub stands : Somewhere (λ (x : Row). x ≡ row) rows
  pub address : row.address ≡ pc

pub found_row : (rows : List Row) (pc : ℕ) (row : Row) → find (λ (line : Row). line.address == pc) rows ≡ Some row → IsRowAt rows pc row
found_row [] pc row is = absurd (cc is)
found_row (first ∷ rows) pc row is = by_test (first.address == pc) refl (found_row rows pc row) is
  where
    by_test : (b : Bool) → (first.address == pc) ≡ b → (find (λ (line : Row). line.address == pc) rows ≡ Some row → IsRowAt rows pc row)
        → cond b (Some first) (find (λ (line : Row). line.address == pc) rows) ≡ Some row → IsRowAt (first ∷ rows) pc row
    by_test true same rest found =
        let one : first ≡ row = cc found in
        record { stands = inl one; address = subst (λ (r : Row). r.address ≡ pc) one (eqb-true first.address pc same) }
    by_test false same rest found = let there = rest found in record { stands = inr there.stands; address = there.address }

-- ---- starts

-- a row that lies in a block, and whose start an event is
pub record IsStartOf (blocks : List Block) (rows : List Row) (e : Event) : Type 0 where
  pub row : Row
  pub stands : Somewhere (λ (x : Row). x ≡ row) rows
  pub lies : list_any (covers row.address) blocks ≡ true
  pub is : Start row.statement row.instance ≡ e

pub start_listed : (blocks : List Block) (rows : List Row) (e : Event) → Somewhere (λ x. x ≡ e) (starts_in blocks rows) → IsStartOf blocks rows e
start_listed blocks [] e some = absurd some
start_listed blocks (row ∷ rows) e some = by_row (list_any (covers row.address) blocks) refl (start_listed blocks rows e) some
  where
    later : IsStartOf blocks rows e → IsStartOf blocks (row ∷ rows) e
    later s = record { row = s.row; stands = inr s.stands; lies = s.lies; is = s.is }

    by_row : (b : Bool) → list_any (covers row.address) blocks ≡ b → (Somewhere (λ x. x ≡ e) (starts_in blocks rows) → IsStartOf blocks rows e)
        → Somewhere (λ x. x ≡ e) (cond b (Start row.statement row.instance ∷ starts_in blocks rows) (starts_in blocks rows)) → IsStartOf blocks (row ∷ rows) e
    by_row true is rest here = elim here [
      | inl same ↦ record { row = row; stands = inl refl; lies = is; is = same }
      | inr other ↦ later (rest other)
    ]
    by_row false is rest here = later (rest here)

pub listed_start : (blocks : List Block) (rows : List Row) (e : Event) → IsStartOf blocks rows e → Somewhere (λ x. x ≡ e) (starts_in blocks rows)
listed_start blocks [] e start = absurd start.stands
listed_start blocks (row ∷ rows) e start =
    elim start.stands [
      | inl same ↦
          let lies : list_any (covers row.address) blocks ≡ true = subst (λ (r : Row). list_any (covers r.address) blocks ≡ true) (sym same) start.lies in
          let is : Start row.statement row.instance ≡ e = subst (λ (r : Row). Start r.statement r.instance ≡ e) (sym same) start.is in
          subst (λ (b : Bool). Somewhere (λ x. x ≡ e) (cond b (Start row.statement row.instance ∷ starts_in blocks rows) (starts_in blocks rows))) (sym lies) (inl is)
      | inr there ↦
          by_row (list_any (covers row.address) blocks)
          (listed_start blocks rows e (record { row = start.row; stands = there; lies = start.lies; is = start.is }))
    ]
  where
    by_row : (b : Bool) → Somewhere (λ x. x ≡ e) (starts_in blocks rows)
        → Somewhere (λ x. x ≡ e) (cond b (Start row.statement row.instance ∷ starts_in blocks rows) (starts_in blocks rows))
    by_row true rest = inr rest
    by_row false rest = rest

-- the starts that a trace says are those listed
pub start_said : (o : Object) → IsSound o → (t : TraceFile) (s : StmtId) (i : InstId)
    → Somewhere (λ x. x ≡ Start s i) (starts_in t.blocks o.rows) → Says (facts_of o) (trace_in t) (Start s i)
start_said o sound t s i some =
    let start = start_listed t.blocks o.rows (Start s i) some in
    let statement : start.row.statement ≡ s = cc start.is in
    let instance : start.row.instance ≡ i = cc start.is in (
      start.row.address,
      ap (λ (found : Option Row). option_map row_of found) (row_found o.rows start.row sound.row.rising start.stands)
          ∙ (λ k. Some (record { statement = statement k; instance = instance k })),
      inl (covered t.blocks start.row.address start.lies),
    )

pub said_start : (o : Object) (t : TraceFile) (s : StmtId) (i : InstId)
    → Says (facts_of o) (trace_in t) (Start s i) → Somewhere (λ x. x ≡ Start s i) (starts_in t.blocks o.rows)
said_start o t s i says = by_row (find (λ (line : Row). line.address == says.0) o.rows) refl says.1
  where
    by_row : (found : Option Row) → find (λ (line : Row). line.address == says.0) o.rows ≡ found
        → option_map row_of found ≡ Some (record { statement = s; instance = i }) → Somewhere (λ x. x ≡ Start s i) (starts_in t.blocks o.rows)
    by_row None is told = absurd (cc told)
    by_row (Some row) is told =
        let there = found_row o.rows says.0 row is in
        let same : row_of row ≡ record { statement = s; instance = i } = cc told in
        let lies : list_any (covers says.0) t.blocks ≡ true =
        elim says.2 [ inl block ↦ cover t.blocks says.0 block | inr tail ↦ absurd tail ] in
        listed_start t.blocks o.rows (Start s i) (record {
          row = row;
          stands = there.stands;
          lies = subst (λ (pc : ℕ). list_any (covers pc) t.blocks ≡ true) (sym there.address) lies;
          is = λ k. Start (same k).statement (same k).instance;
        })
