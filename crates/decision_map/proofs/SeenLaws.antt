-- What a state of the checks holds after one entry more, and at the end.
use Rattle.std.proofs.Common.{◌≡◌, ℕ, zero, suc, ◌+◌, ◌<◌, ◌≤◌, ◌%◌, ◌-◌, ◌^◌, ◌&&◌, ◌||◌, eqb, eq-eqb, ne_eqb, get_or, append-nil, append_assoc, inl, inr, Bool, true, false, not, cond, List, [], ◌∷◌, ◌++◌, length, Option, Some, None, refl, sym, ap, subst, ◌∙◌, arith, find, option_map}
use Rattle.std.specs.Prelude.{IfSome, slice_set, slice_index_or, is_some}
use Rattle.std.specs.List.{position_from}
use Rattle.std.specs.Option.{option_or}
use Rattle.std.proofs.lemmas.List.Folds.{find-append}
use Rattle.object_format.specs.declared.object.Object.{Object}
use Rattle.trace_format.specs.declared.trace.Block.{Block}
use Rattle.trace_format.specs.Trace.{TraceFile, trace_in}
use Rattle.trace_format.specs.Checks.{Passes}
use Rattle.decision_map.specs.declared.fault.FitFault.{FitFault}
use Rattle.decision_map.specs.declared.fault.FitFault.TheVariants.{NotABlock}
use Rattle.decision_map.specs.declared.fit_state.FitState.{FitState}
use Rattle.decision_map.specs.Blocks.{is_block}
use Rattle.decision_map.specs.Kinds.{kinds_of_text}
use Rattle.decision_map.specs.Fits.{foreign, beyond_exceptions, not_a_block, wrong_edge, wrong_address, not_flat, fault_of}
use Rattle.decision_map.specs.Roles.{needs_history}
use Rattle.decision_map.specs.Seen.{HasSeen}
use Rattle.decision_map.specs.declared.fault.FitFault.TheVariants.{Edge, HistoryAddress, HistoryNotFlat}
use Rattle.decision_map.specs.declared.kind.WordKind.{WordKind}
use Rattle.decision_map.specs.Blocks.{agrees, has_its_flags, first_unlike, AreOrdered}
use Rattle.decision_map.specs.Kinds.{has_edges, kind_in}
use Rattle.decision_map.specs.Seen.{Closes, unshown, has_edge, shows_in, edges_with, shown_with}
use Rattle.decision_map.specs.declared.fit_state.Shown.{Shown}
use Rattle.trace_format.specs.declared.trace.HistoryEntry.{HistoryEntry}
use Rattle.decision_map.specs.Blocks.{shows_edge, shows_entry}
use Rattle.decision_map.specs.Kinds.{place_of, address_of}
use Rattle.decision_map.specs.Roles.{IsMappable}
use Rattle.decision_map.proofs.Standing.{address_of_place, branch_stands}
use Rattle.decision_map.proofs.Meant.{needed_kind}
use Rattle.std.specs.Option.{option_map_or}
use Rattle.std.specs.List.{list_any}
use Rattle.std.specs.Prelude.{bit_and, min}
use Rattle.trace_format.specs.declared.entry.Entry.TheVariants as entries
use Rattle.trace_format.specs.Reader.{block_given}
use Rattle.std.proofs.lemmas.Bool.Decides.{eqb_tells}
use Rattle.std.proofs.lemmas.List.Folds.{list_any-append}
use Rattle.std.proofs.lemmas.List.{get_or-set_same, get_or-set_other, length-set}
use Rattle.cov_base.specs.Marks.{same}
use Rattle.cov_base.specs.Lists.{Somewhere}
use Rattle.std.proofs.Math.Seq.{get_or-append_seam}
use Rattle.std.proofs.lemmas.Bool.{and_parts}
use Rattle.std.proofs.lemmas.List.{length-append, get_or_append_left}
use Rattle.decision_map.proofs.Inside.{ends_rise}
use Rattle.decision_map.proofs.Flags.{closes_more, tested}
use Rattle.decision_map.proofs.Ordered.{ordered_law}

abbrev some : {A : Type 0} → A → Option A
some x = Some x

none_behind : (a : Option FitFault) → option_or a None ≡ a
none_behind (Some x) = refl
none_behind None = refl

some_behind : (a : Option FitFault) (x : FitFault) (b : Option FitFault) → option_or (option_or a (Some x)) b ≡ option_or a (Some x)
some_behind (Some y) x b = refl
some_behind None x b = refl

-- the first of the faults that were found is the first of all
end_law : (head block edge address flat f b nb we wa nf : Option FitFault) → head ≡ option_or f b → block ≡ nb → (block ≡ None → edge ≡ we) → address ≡ wa → (block ≡ None → address ≡ None → flat ≡ nf)
    → option_or (option_or (option_or (option_or head block) edge) address) flat ≡ option_or f (option_or b (option_or nb (option_or we (option_or wa nf))))
end_law head block edge address flat (Some x) b nb we wa nf h hb he ha hf = rw h refl
end_law head block edge address flat None (Some x) nb we wa nf h hb he ha hf = rw h refl
end_law head (Some x) edge address flat None None nb we wa nf h hb he ha hf = rw (h, ← hb) refl
end_law head None edge (Some x) flat None None nb we wa nf h hb he ha hf = rw (h, ← hb, he refl, ← ha) (some_behind we x flat)
end_law head None edge None flat None None nb we wa nf h hb he ha hf = rw (h, ← hb, he refl, ← ha, hf refl refl, none_behind we) refl

pub end_is : (o : Object) (s : FitState) (t : TraceFile) → HasSeen o s t.object t.ending t.blocks t.history → Passes (trace_in t)
    → option_or (option_or (option_or (option_or s.head s.block) s.edge) s.address) s.flat ≡ fault_of o t
end_is o s t h is =
    end_law s.head s.block s.edge s.address s.flat (foreign o t) (beyond_exceptions o t) (not_a_block (kinds_of_text o.text) t.blocks) (wrong_edge (kinds_of_text o.text) t.blocks)
    (wrong_address (needs_history o) t.history) (not_flat t.blocks t.history) h.head h.block (λ none. h.edge none (ordered_law t.blocks is.order)) h.address h.flat

pub set_past : {X : Type 0} (xs : List X) (i : ℕ) (x : X) → length xs ≤ i → slice_set xs i x ≡ xs
set_past [] i x past = refl
set_past (y ∷ xs) zero x past = absurd (omega (arith, past))
set_past {X = X} (y ∷ xs) (suc i) x past = ap (λ (ys : List X). y ∷ ys) (set_past xs i x (omega (arith, past)))

-- ---- blocks

block_more : (kinds : List WordKind) (bs : List Block) (b : Block) → not_a_block kinds (bs ++ b ∷ []) ≡ option_or (not_a_block kinds bs) (cond (is_block kinds b) None (Some (NotABlock b.start)))
block_more kinds bs b =
    ap (option_map (λ (x : Block). NotABlock x.start)) (find-append (λ (x : Block). not (is_block kinds x)) bs (b ∷ []))
    ∙ mapped (find (λ (x : Block). not (is_block kinds x)) bs) (is_block kinds b)
  where
    mapped : (found : Option Block) (t : Bool) → option_map (λ (x : Block). NotABlock x.start) (option_or found (cond (not t) (Some b) None)) ≡ option_or (option_map (λ (x : Block). NotABlock x.start) found) (cond t None (Some (NotABlock b.start)))
    mapped (Some x) t = refl
    mapped None true = refl
    mapped None false = refl

none_or : (a : Option FitFault) → is_some a ≡ true → a ≡ None → ⊥
none_or (Some x) is e = absurd cc
none_or None is e = absurd cc

kept_or : (a b : Option FitFault) → is_some a ≡ true → a ≡ option_or a b
kept_or (Some x) b is = refl
kept_or None b is = absurd cc

-- what comes behind a block that is none of the text's
pub behind_fault : (o : Object) (s : FitState) (object : List ℕ) (ending : ℕ) (bs : List Block) (b : Block) → HasSeen o s object ending bs [] → is_some s.block ≡ true → HasSeen o s object ending (bs ++ b ∷ []) []
behind_fault o s object ending bs b h is = record {
  of = h.of;
  head = h.head;
  block = kept_or s.block _ is ∙ ap (λ (x : Option FitFault). option_or x (cond (is_block (kinds_of_text o.text) b) None (Some (NotABlock b.start)))) h.block ∙ sym (block_more (kinds_of_text o.text) bs b);
  known = λ none. absurd (none_or s.block is none);
  edge = λ none. absurd (none_or s.block is none);
  closes = λ none. absurd (none_or s.block is none);
  shown = λ none. absurd (none_or s.block is none);
  entries = h.entries;
  address = h.address;
  flat = λ none. absurd (none_or s.block is none);
}

-- a block that is none of the text's
pub block_fault : (o : Object) (s new : FitState) (object : List ℕ) (ending : ℕ) (bs : List Block) (b : Block) → HasSeen o s object ending bs [] → is_block (kinds_of_text o.text) b ≡ false → s.block ≡ None
    → new.map ≡ s.map → new.shown ≡ s.shown → new.head ≡ s.head → new.entries ≡ s.entries → new.address ≡ s.address → new.block ≡ Some (NotABlock b.start) → HasSeen o new object ending (bs ++ b ∷ []) []
block_fault o s new object ending bs b h fails fine map shown head entries address block = record {
  of = record { mappable = h.of.mappable; object = rw map h.of.object; long = rw shown h.of.long };
  head = head ∙ h.head;
  block = block ∙ sym (block_more (kinds_of_text o.text) bs b ∙ rw (← h.block, fine, fails) refl);
  known = λ none. absurd (faulty new.block b.start block none);
  edge = λ none. absurd (faulty new.block b.start block none);
  closes = λ none. absurd (faulty new.block b.start block none);
  shown = λ none. absurd (faulty new.block b.start block none);
  entries = entries ∙ h.entries;
  address = address ∙ h.address;
  flat = λ none. absurd (faulty new.block b.start block none);
}
  where
    faulty : (found : Option FitFault) (start : ℕ) → found ≡ Some (NotABlock start) → found ≡ None → ⊥
    faulty found start e none = let both : some (NotABlock start) ≡ None = sym e ∙ none in absurd cc

-- ---- orders of blocks

before_last : (bs : List Block) (b : Block) (i : ℕ) → i < length bs → AreOrdered (bs ++ b ∷ []) → (get_or bs i b).start < b.start
before_last bs b i within o =
    let rises = o.rise i (length bs) b within (omega (arith, length-append bs (b ∷ []))) in
    subst (λ (x : Block). (get_or bs i b).start < x.start) (get_or-append_seam bs b [] b)
    (subst (λ (x : Block). x.start < (get_or (bs ++ b ∷ []) (length bs) b).start) (get_or_append_left bs (b ∷ []) b i within) rises)

prefix_ordered : (bs : List Block) (b : Block) → AreOrdered (bs ++ b ∷ []) → AreOrdered bs
prefix_ordered bs b o = record {
  rise = λ i j d before within.
      subst (λ (x : Block). (get_or bs i d).start < x.start) (get_or_append_left bs (b ∷ []) d j within)
      (subst (λ (x : Block). x.start < (get_or (bs ++ b ∷ []) j d).start) (get_or_append_left bs (b ∷ []) d i (omega (arith, before, within))) (o.rise i j d before (omega (arith, within, length-append bs (b ∷ [])))));
  aligned = λ i d within. subst (λ (x : Block). x.start % 4 ≡ 0) (get_or_append_left bs (b ∷ []) d i within) (o.aligned i d (omega (arith, within, length-append bs (b ∷ []))));
}

last_aligned : (bs : List Block) (b : Block) → AreOrdered (bs ++ b ∷ []) → b.start % 4 ≡ 0
last_aligned bs b o = subst (λ (x : Block). x.start % 4 ≡ 0) (get_or-append_seam bs b [] b) (o.aligned (length bs) b (omega (arith, length-append bs (b ∷ []))))

placed : (bs : List Block) (k d : Block) → Somewhere (λ e. e ≡ k) bs → (i : ℕ) × (i < length bs) × (get_or bs i d ≡ k)
placed [] k d there = absurd there
placed (x ∷ bs) k d (inl here) = (0, omega arith, here)
placed (x ∷ bs) k d (inr later) = let p = placed bs k d later in (suc p.0, omega (arith, p.1), p.2)

rises_to : (kinds : List WordKind) (bs : List Block) (b : Block) (before : Option Block) → Closes before bs → IfSome before (λ (k : Block). is_block kinds k ≡ true) → is_block kinds b ≡ true → AreOrdered (bs ++ b ∷ [])
    → IfSome before (λ (k : Block). k.last ≤ b.last)
rises_to kinds bs b None closes known is o = tt
rises_to kinds bs b (Some k) closes known is o =
    let p = placed bs k b closes.1 in
    let lt : k.start < b.start = subst (λ (x : Block). x.start < b.start) p.2 (before_last bs b p.0 p.1 o) in
    ends_rise kinds k b known is lt (last_aligned bs b o)

unlike_more : (kinds : List WordKind) (earlier bs : List Block) (b : Block)
    → option_map (λ (x : Block). Edge x.start) (first_unlike kinds earlier (bs ++ b ∷ [])) ≡ option_or (option_map (λ (x : Block). Edge x.start) (first_unlike kinds earlier bs)) (cond (has_its_flags kinds (earlier ++ bs) b) None (Some (Edge b.start)))
unlike_more kinds earlier [] b = ap (λ (es : List Block). option_map (λ (x : Block). Edge x.start) (cond (has_its_flags kinds es b) None (Some b))) (sym (append-nil earlier)) ∙ chosen (has_its_flags kinds (earlier ++ []) b)
  where
    chosen : (t : Bool) → option_map (λ (x : Block). Edge x.start) (cond t None (Some b)) ≡ cond t None (Some (Edge b.start))
    chosen true = refl
    chosen false = refl
unlike_more kinds earlier (x ∷ bs) b = step (has_its_flags kinds earlier x) (unlike_more kinds (earlier ++ x ∷ []) bs b)
  where
    step : (t : Bool)
        → option_map (λ (y : Block). Edge y.start) (first_unlike kinds (earlier ++ x ∷ []) (bs ++ b ∷ []))
        ≡ option_or (option_map (λ (y : Block). Edge y.start) (first_unlike kinds (earlier ++ x ∷ []) bs)) (cond (has_its_flags kinds ((earlier ++ x ∷ []) ++ bs) b) None (Some (Edge b.start)))
        → option_map (λ (y : Block). Edge y.start) (cond t (first_unlike kinds (earlier ++ x ∷ []) (bs ++ b ∷ [])) (Some x))
        ≡ option_or (option_map (λ (y : Block). Edge y.start) (cond t (first_unlike kinds (earlier ++ x ∷ []) bs) (Some x))) (cond (has_its_flags kinds (earlier ++ (x ∷ bs)) b) None (Some (Edge b.start)))
    step true e = e ∙ ap (λ (es : List Block). option_or (option_map (λ (y : Block). Edge y.start) (first_unlike kinds (earlier ++ x ∷ []) bs)) (cond (has_its_flags kinds es b) None (Some (Edge b.start)))) (append_assoc earlier (x ∷ []) bs)
    step false e = refl

-- the edge check of one block more
edge_more : (kinds : List WordKind) (bs : List Block) (b : Block) (before : Option Block) (edge : Option FitFault) (passes : Bool) → edge ≡ wrong_edge kinds bs → (edge ≡ None → Closes before bs)
    → IfSome before (λ (k : Block). is_block kinds k ≡ true) → is_block kinds b ≡ true → AreOrdered (bs ++ b ∷ [])
    → passes ≡ (same (not (eqb b.flags 0)) (has_edges (kind_in kinds b.last)) && agrees before b)
    → option_or edge (cond passes None (Some (Edge b.start))) ≡ wrong_edge kinds (bs ++ b ∷ [])
edge_more kinds bs b before (Some f) passes e closes known is o passes_is = sym (unlike_more kinds [] bs b ∙ rw (← e) refl)
edge_more kinds bs b before None passes e closes known is o passes_is =
    let t = tested kinds before bs b (closes refl) (rises_to kinds bs b before (closes refl) known is o) passes passes_is in
    sym (unlike_more kinds [] bs b ∙ rw (← e, t) refl)

closes_next : (kinds : List WordKind) (bs : List Block) (b : Block) (before : Option Block) (edge : Option FitFault) (passes : Bool) → (edge ≡ None → Closes before bs)
    → IfSome before (λ (k : Block). is_block kinds k ≡ true) → is_block kinds b ≡ true → AreOrdered (bs ++ b ∷ [])
    → passes ≡ (same (not (eqb b.flags 0)) (has_edges (kind_in kinds b.last)) && agrees before b)
    → option_or edge (cond passes None (Some (Edge b.start))) ≡ None → Closes (Some b) (bs ++ b ∷ [])
closes_next kinds bs b before (Some f) passes closes known is o passes_is none = absurd cc
closes_next kinds bs b before None false closes known is o passes_is none = absurd cc
closes_next kinds bs b before None true closes known is o passes_is none =
    closes_more before bs b (closes refl) (rises_to kinds bs b before (closes refl) known is o) (and_parts (same (not (eqb b.flags 0)) (has_edges (kind_in kinds b.last))) (agrees before b) (sym passes_is)).1

-- ---- what was shown

map_len : (text : List ℕ) → length (kinds_of_text text) ≡ length text
map_len [] = refl
map_len (w ∷ text) = ap suc (map_len text)

edge_shown : (e : Shown) (flags edge : ℕ) → has_edge (edges_with e flags) edge ≡ (has_edge e edge || shows_edge flags edge)
edge_shown e flags edge = by_edge (eqb edge 0)
  where
    by_edge : (t : Bool) → cond t (e.not_taken || shows_edge flags 0) (e.taken || shows_edge flags 1) ≡ (cond t e.not_taken e.taken || not (eqb (bit_and flags (cond t 2 1)) 0))
    by_edge true = refl
    by_edge false = refl

or_false : (t : Bool) → t ≡ (t || false)
or_false true = refl
or_false false = refl

-- a block that ends elsewhere shows no edge of the entry
elsewhere : (b : Block) (h : HistoryEntry) (t : Bool) → (b.last ≡ h.address → ⊥) → t ≡ (t || shows_entry h b)
elsewhere b h t apart = or_false t ∙ ap (λ (x : Bool). t || x) (sym (ap (λ (x : Bool). x && shows_edge b.flags h.edge) (ne_eqb b.last h.address apart)))

shown_by : (shown : List Shown) (b : Block) (h : HistoryEntry) (place : ℕ) (there : Option ℕ) → place_of b.last ≡ there → place_of h.address ≡ Some place → place < length shown
    → has_edge (slice_index_or (option_map_or (λ (p : ℕ). slice_set shown p (edges_with (slice_index_or shown p unshown) b.flags)) there shown) place unshown) h.edge
    ≡ (has_edge (slice_index_or shown place unshown) h.edge || shows_entry h b)
shown_by shown b h place None nowhere at within = elsewhere b h (has_edge (slice_index_or shown place unshown) h.edge) (λ same. absurd (two_places (sym nowhere ∙ ap place_of same ∙ at)))
  where
    two_places : None ≡ some place → ⊥
    two_places e = cc
shown_by shown b h place (Some p) where_is at within = elim (eqb_tells p place) [
  | inl one ↦
      let last : b.last ≡ h.address = address_of_place b.last p where_is ∙ ap address_of one.1 ∙ sym (address_of_place h.address place at) in
      let entry : slice_index_or (slice_set shown p (edges_with (slice_index_or shown p unshown) b.flags)) place unshown ≡ edges_with (slice_index_or shown place unshown) b.flags =
      subst (λ (q : ℕ). slice_index_or (slice_set shown q (edges_with (slice_index_or shown q unshown) b.flags)) place unshown ≡ edges_with (slice_index_or shown place unshown) b.flags) (sym one.1)
      (get_or-set_same shown place (edges_with (slice_index_or shown place unshown) b.flags) unshown within) in
      ap (λ (e : Shown). has_edge e h.edge) entry ∙ edge_shown (slice_index_or shown place unshown) b.flags h.edge
      ∙ ap (λ (x : Bool). has_edge (slice_index_or shown place unshown) h.edge || (x && shows_edge b.flags h.edge)) (sym (eq-eqb b.last h.address last))
  | inr other ↦
      ap (λ (e : Shown). has_edge e h.edge) (get_or-set_other shown p place (edges_with (slice_index_or shown p unshown) b.flags) unshown (λ e. other.1 (sym e)))
      ∙ elsewhere b h (has_edge (slice_index_or shown place unshown) h.edge) (λ same. other.1 (one_place (sym where_is ∙ ap place_of same ∙ at)))
]
  where
    one_place : some p ≡ some place → p ≡ place
    one_place e = cc

shown_more : (o : Object) → IsMappable o → (shown : List Shown) (bs : List Block) (b : Block) (h : HistoryEntry) → length shown ≡ length o.text → needs_history o h.address ≡ true
    → shows_in shown h ≡ list_any (shows_entry h) bs → shows_in (shown_with shown b) h ≡ list_any (shows_entry h) (bs ++ b ∷ [])
shown_more o mappable shown bs b h long needs so_far =
    let s = branch_stands (kinds_of_text o.text) h.address (needed_kind o mappable h.address needs) in
    let within : s.0 < length shown = omega (arith, s.1.within, map_len o.text, long) in
    let before : has_edge (slice_index_or shown s.0 unshown) h.edge ≡ list_any (shows_entry h) bs = ap (λ (p : Option ℕ). option_map_or (λ (place : ℕ). has_edge (slice_index_or shown place unshown) h.edge) p false) (sym s.1.is) ∙ so_far in
    ap (λ (p : Option ℕ). option_map_or (λ (place : ℕ). has_edge (slice_index_or (shown_with shown b) place unshown) h.edge) p false) s.1.is
    ∙ shown_by shown b h s.0 (place_of b.last) refl s.1.is within
    ∙ ap (λ (t : Bool). t || shows_entry h b) before
    ∙ sym (list_any-append (shows_entry h) bs (b ∷ []) ∙ ap (λ (t : Bool). list_any (shows_entry h) bs || t) (sym (or_false (shows_entry h b))))

shown_long : (shown : List Shown) (b : Block) (place : Option ℕ) → length (option_map_or (λ (p : ℕ). slice_set shown p (edges_with (slice_index_or shown p unshown) b.flags)) place shown) ≡ length shown
shown_long shown b None = refl
shown_long shown b (Some p) = length-set shown p (edges_with (slice_index_or shown p unshown) b.flags)

-- a block of the text
pub block_seen : (o : Object) (s new : FitState) (object : List ℕ) (ending : ℕ) (bs : List Block) (b : Block) (passes : Bool) → HasSeen o s object ending bs [] → is_block (kinds_of_text o.text) b ≡ true → s.block ≡ None
    → passes ≡ (same (not (eqb b.flags 0)) (has_edges (kind_in (kinds_of_text o.text) b.last)) && agrees s.before b)
    → new.map ≡ s.map → new.shown.items ≡ shown_with s.shown.items b → new.head ≡ s.head → new.entries ≡ s.entries → new.address ≡ s.address → new.block ≡ s.block → new.before ≡ Some b
    → new.edge ≡ option_or s.edge (cond passes None (Some (Edge b.start))) → new.flat ≡ s.flat → HasSeen o new object ending (bs ++ b ∷ []) []
block_seen o s new object ending bs b passes h is fine passes_is map shown head entries address block before edge flat =
    let kinds : List WordKind = kinds_of_text o.text in
    record {
      of = record { mappable = h.of.mappable; object = rw map h.of.object; long = ap length shown ∙ shown_long s.shown.items b (place_of b.last) ∙ h.of.long };
      head = head ∙ h.head;
      block = block ∙ fine ∙ sym (block_more kinds bs b ∙ rw (← h.block, fine, is) refl);
      known = λ none. rw before is;
      edge = λ none ordered. edge ∙ edge_more kinds bs b s.before s.edge passes (h.edge fine (prefix_ordered bs b ordered)) (λ clear. h.closes fine clear (prefix_ordered bs b ordered)) (h.known fine) is ordered passes_is;
      closes = λ none clear ordered. rw before (closes_next kinds bs b s.before s.edge passes (λ quiet. h.closes fine quiet (prefix_ordered bs b ordered)) (h.known fine) is ordered passes_is (sym edge ∙ clear));
      shown = λ none entry needs. rw shown (shown_more o h.of.mappable s.shown.items bs b entry h.of.long needs (h.shown fine entry needs));
      entries = entries ∙ h.entries;
      address = address ∙ h.address;
      flat = λ none clear. flat ∙ h.flat fine (sym address ∙ clear);
    }

pub none_is : (a : Option FitFault) → is_some a ≡ false → a ≡ None
none_is (Some x) is = absurd cc
none_is None is = refl

-- the tests of a block, told of the object
pub next_is : (o : Object) (s : FitState) (object : List ℕ) (ending : ℕ) (bs : List Block) (b : Block) (result : Bool) → HasSeen o s object ending bs [] → s.block ≡ None
    → (IfSome s.before (λ (k : Block). is_block (kinds_of_text s.map.now.text) k ≡ true) → result ≡ is_block (kinds_of_text s.map.now.text) b) → result ≡ is_block (kinds_of_text o.text) b
next_is o s object ending bs b result h fine e =
    subst (λ (x : Object). IfSome s.before (λ (k : Block). is_block (kinds_of_text x.text) k ≡ true) → result ≡ is_block (kinds_of_text x.text) b) h.of.object e (h.known fine)

pub flags_are : (o : Object) (s : FitState) (object : List ℕ) (ending : ℕ) (bs : List Block) (b : Block) (passes : Bool) → HasSeen o s object ending bs []
    → passes ≡ (same (not (eqb b.flags 0)) (has_edges (kind_in (kinds_of_text s.map.now.text) b.last)) && agrees s.before b)
    → passes ≡ (same (not (eqb b.flags 0)) (has_edges (kind_in (kinds_of_text o.text) b.last)) && agrees s.before b)
flags_are o s object ending bs b passes h e =
    subst (λ (x : Object). passes ≡ (same (not (eqb b.flags 0)) (has_edges (kind_in (kinds_of_text x.text) b.last)) && agrees s.before b)) h.of.object e

-- ---- the history

position_more : {X : Type 0} (p : X → Bool) (i : ℕ) (xs : List X) (x : X) → position_from p i (xs ++ x ∷ []) ≡ option_or (position_from p i xs) (cond (p x) (Some (i + length xs)) None)
position_more p i [] x = ap (λ (n : ℕ). cond (p x) (some n) None) (omega arith)
position_more p i (y ∷ xs) x = step (p y) (position_more p (i + 1) xs x)
  where
    step : (t : Bool) → position_from p (i + 1) (xs ++ x ∷ []) ≡ option_or (position_from p (i + 1) xs) (cond (p x) (Some (i + 1 + length xs)) None)
        → cond t (some i) (position_from p (i + 1) (xs ++ x ∷ [])) ≡ option_or (cond t (some i) (position_from p (i + 1) xs)) (cond (p x) (Some (i + suc (length xs))) None)
    step true e = refl
    step false e = e ∙ ap (λ (n : ℕ). option_or (position_from p (i + 1) xs) (cond (p x) (some n) None)) (omega arith)

placed_fault : (fault : ℕ → FitFault) (found : Option ℕ) (t : Bool) (n m : ℕ) → n ≡ m → option_map fault (option_or found (cond (not t) (Some n) None)) ≡ option_or (option_map fault found) (cond t None (Some (fault m)))
placed_fault fault (Some x) t n m e = refl
placed_fault fault None true n m e = refl
placed_fault fault None false n m e = ap (λ (k : ℕ). some (fault k)) e

address_more : (f : ℕ → Bool) (hs : List HistoryEntry) (h : HistoryEntry) → wrong_address f (hs ++ h ∷ []) ≡ option_or (wrong_address f hs) (cond (f h.address) None (Some (HistoryAddress (length hs))))
address_more f hs h =
    ap (option_map HistoryAddress) (position_more (λ (x : HistoryEntry). not (f x.address)) 0 hs h)
    ∙ placed_fault HistoryAddress (position_from (λ (x : HistoryEntry). not (f x.address)) 0 hs) (f h.address) (0 + length hs) (length hs) (omega arith)

flat_more : (bs : List Block) (hs : List HistoryEntry) (h : HistoryEntry) → not_flat bs (hs ++ h ∷ []) ≡ option_or (not_flat bs hs) (cond (list_any (shows_entry h) bs) None (Some (HistoryNotFlat (length hs))))
flat_more bs hs h =
    ap (option_map HistoryNotFlat) (position_more (λ (x : HistoryEntry). not (list_any (shows_entry x) bs)) 0 hs h)
    ∙ placed_fault HistoryNotFlat (position_from (λ (x : HistoryEntry). not (list_any (shows_entry x) bs)) 0 hs) (list_any (shows_entry h) bs) (0 + length hs) (length hs) (omega arith)

clear_before : (a : Option FitFault) (t : Bool) (f : FitFault) → option_or a (cond t None (Some f)) ≡ None → (a ≡ None) × (t ≡ true)
clear_before (Some x) t f e = absurd cc
clear_before None true f e = (refl, refl)
clear_before None false f e = absurd cc

pub history_seen : (o : Object) (s new : FitState) (object : List ℕ) (ending : ℕ) (bs : List Block) (hs : List HistoryEntry) (entry : HistoryEntry) (kept shown : Bool) → HasSeen o s object ending bs hs → length hs < 2 ^ 32 - 1
    → kept ≡ needs_history s.map.now entry.address → shown ≡ shows_in s.shown.items entry → new.map ≡ s.map → new.shown ≡ s.shown → new.head ≡ s.head → new.before ≡ s.before → new.block ≡ s.block → new.edge ≡ s.edge
    → new.address ≡ option_or s.address (cond kept None (Some (HistoryAddress s.entries))) → new.flat ≡ option_or s.flat (cond shown None (Some (HistoryNotFlat s.entries)))
    → new.entries ≡ min (s.entries + 1) (2 ^ 32 - 1) → HasSeen o new object ending bs (hs ++ entry ∷ [])
history_seen o s new object ending bs hs entry kept shown h few kept_is shown_is map shown_same head before block edge address flat entries =
    let needs : kept ≡ needs_history o entry.address = kept_is ∙ ap (λ (x : Object). needs_history x entry.address) h.of.object in
    let addresses : new.address ≡ wrong_address (needs_history o) (hs ++ entry ∷ []) =
    address ∙ rw (h.address, needs, h.entries) (sym (address_more (needs_history o) hs entry)) in
    record {
      of = record { mappable = h.of.mappable; object = rw map h.of.object; long = rw shown_same h.of.long };
      head = head ∙ h.head;
      block = block ∙ h.block;
      known = λ none. rw before (h.known (sym block ∙ none));
      edge = λ none ordered. edge ∙ h.edge (sym block ∙ none) ordered;
      closes = λ none clear ordered. rw before (h.closes (sym block ∙ none) (sym edge ∙ clear) ordered);
      shown = λ none next needed. rw shown_same (h.shown (sym block ∙ none) next needed);
      entries = omega (arith, entries, h.entries, few, length-append hs (entry ∷ []));
      address = addresses;
      flat = λ none clear.
          let quiet = clear_before s.address kept (HistoryAddress s.entries) (sym address ∙ clear) in
          let there : shown ≡ list_any (shows_entry entry) bs = shown_is ∙ h.shown (sym block ∙ none) entry (sym needs ∙ quiet.1) in
          flat ∙ rw (h.flat (sym block ∙ none) quiet.0, there, h.entries) (sym (flat_more bs hs entry));
    }

-- ---- nothing seen yet

pub still_unshown : (shown : List Shown) → ((i : ℕ) → slice_index_or shown i unshown ≡ unshown) → (i : ℕ) → slice_index_or (shown ++ unshown ∷ []) i unshown ≡ unshown
still_unshown [] f zero = refl
still_unshown [] f (suc i) = refl
still_unshown (x ∷ xs) f zero = f 0
still_unshown (x ∷ xs) f (suc i) = still_unshown xs (λ (j : ℕ). f (suc j)) i

abbrev pub made : ℕ → ℕ → ℕ → Block
made start last flags = record { start = start; last = last; flags = flags }

pub given_block : (start last flags : ℕ) (b : Block) → entries.Block start last flags ≡ block_given b → made start last flags ≡ b
given_block start last flags b e =
    let first : start ≡ b.start = cc in
    let second : last ≡ b.last = cc in
    let third : flags ≡ b.flags = cc in
    λ i. record { start = first i; last = second i; flags = third i }
