-- The trace of a run is well formed.
use Rattle.std.proofs.Common.{◌≡◌, ℕ, inl, inr, ⊎_elim, Bool, true, false, cond, ◌||◌, List, [], ◌∷◌, map, Option, Some, None, is_some, filter_map, refl, sym, ap, subst, ◌∙◌}
use Rattle.std.specs.List.{cons_option}
use Rattle.rv_semantics.specs.declared.stepped.Seen.{Seen}
use Rattle.cov_base.specs.Lists.{Somewhere, Everywhere}
use Rattle.transcript.specs.Facts.{Facts, Condition}
use Rattle.transcript.specs.Reading.{IsDisciplined, AllFollow}
use Rattle.transcript.specs.Pieces.{Piece, closed, set_of, RunsOn, IsPieceOf, StartsRise}
use Rattle.transcript.specs.Trace.{Branched, took, block_of, piece_of, branched_by, kept_at, kept_of, trace_of, IsOfNoTree, HasEdges, visits_in}
use Rattle.transcript.proofs.Lists.{One, one_of, weaker, at_one}
use Rattle.transcript.proofs.Flat.{history_visits, flat_follow}
use Rattle.transcript.proofs.Blocks.{all_closed, last_executed}
use Rattle.transcript.proofs.Sets.{in_set, all_set, set_rises, starts_rise}
use Rattle.transcript.proofs.Flags.{Took, took_true, true_took}

-- the pieces of the blocks are the closed pieces, in rising order
pub block_pieces : (ss : List Seen) (ps : List Piece) → map piece_of (map (block_of ss) ps) ≡ ps
block_pieces ss [] = refl
block_pieces ss (p ∷ ps) = ap (λ (qs : List Piece). p ∷ qs) (block_pieces ss ps)

pub blocks_are : (o : Facts) (ss : List Seen) → map piece_of (trace_of o ss).blocks ≡ set_of (closed o ss)
blocks_are o ss = block_pieces ss (set_of (closed o ss))

pub set_of_text : (o : Facts) (ss : List Seen) → RunsOn o ss → Everywhere (IsPieceOf o) (set_of (closed o ss))
set_of_text o ss runs = all_set (IsPieceOf o) (closed o ss) (all_closed o ss runs)

pub blocks_rise : (o : Facts) (ss : List Seen) → RunsOn o ss → StartsRise (set_of (closed o ss))
blocks_rise o ss runs = starts_rise o (set_of (closed o ss)) (set_of_text o ss runs) (set_rises (closed o ss))

-- the history
all_kept : (o : Facts) (s : Seen) (c : Option Condition) → o.condition s.pc ≡ c → (rest : List Branched) → Everywhere (IsOfNoTree o) rest
    → Everywhere (IsOfNoTree o) (cons_option (kept_at o c s) rest)
all_kept o s None role rest all = all
all_kept o s (Some c) role rest all = by_tree (o.tree c.decision) refl s.edge
  where
    by_tree : (b : Bool) → o.tree c.decision ≡ b → (edge : Option Bool) → Everywhere (IsOfNoTree o) (cons_option (cond b None (branched_by s.pc s.x8 edge)) rest)
    by_tree true tree edge = all
    by_tree false tree None = all
    by_tree false tree (Some taken) = ((c, role, tree), all)

pub history_flat : (o : Facts) (ss : List Seen) → Everywhere (IsOfNoTree o) (trace_of o ss).history
history_flat o [] = tt
history_flat o (s ∷ ss) = all_kept o s (o.condition s.pc) refl (filter_map (kept_of o) ss) (history_flat o ss)

pub history_follows : (o : Facts) (ss : List Seen) → IsDisciplined o ss → AllFollow o [] (visits_in o (trace_of o ss).history)
history_follows o ss disciplined = rw (history_visits o ss) (flat_follow o _ [] disciplined)

-- the flags
item_of : {X : Type 0} (P : X → Type 0) (xs : List X) (x : X) → Everywhere P xs → Somewhere (λ y. y ≡ x) xs → P x
item_of P [] x all s = absurd s
item_of P (y ∷ ys) x all s = ⊎_elim (λ here. subst P here all.0) (λ there. item_of P ys x all.1 there) s

every_of : {X : Type 0} (P : X → Type 0) (xs : List X) → ((x : X) → Somewhere (λ y. y ≡ x) xs → P x) → Everywhere P xs
every_of P [] each = tt
every_of P (x ∷ xs) each = (each x (inl refl), every_of P xs (λ y there. each y (inr there)))

pub flags_law : (o : Facts) (ss : List Seen) (pc : ℕ) → HasEdges o ss → Somewhere (λ s. s.pc ≡ pc) ss → (took ss pc true || took ss pc false) ≡ o.branches pc
flags_law o ss pc edges executed = by_branch (o.branches pc) refl
  where
    one : One (λ (s : Seen). s.pc ≡ pc) ss
    one = one_of (λ s. s.pc ≡ pc) ss executed

    either : (b : Bool) → took ss pc b ≡ true → (took ss pc true || took ss pc false) ≡ true
    either true is = rw is refl
    either false is = rw is (or_true (took ss pc true))
      where
        or_true : (b : Bool) → (b || true) ≡ true
        or_true true = refl
        or_true false = refl

    edge_of : (edge : Option Bool) → one.item.edge ≡ edge → is_some edge ≡ true → (took ss pc true || took ss pc false) ≡ true
    edge_of None is some = absurd (cc some)
    edge_of (Some b) is some = either b (true_took ss pc b (at_one (Took pc b) ss one.item (record { address = one.is_so; edge = is }) one.stands))

    none : (b : Bool) → o.branches pc ≡ false → (f : Bool) → took ss pc b ≡ f → took ss pc b ≡ false
    none b is false not_taken = not_taken
    none b is true taken =
        let branch = one_of (Took pc b) ss (took_true ss pc b taken) in
        let off : true ≡ false =
        sym (ap is_some branch.is_so.edge)
        ∙ item_of (λ s. is_some s.edge ≡ o.branches s.pc) ss branch.item edges branch.stands
        ∙ ap o.branches branch.is_so.address
        ∙ is in
        absurd (cc off)

    by_branch : (b : Bool) → o.branches pc ≡ b → (took ss pc true || took ss pc false) ≡ o.branches pc
    by_branch true is =
        edge_of one.item.edge refl (item_of (λ s. is_some s.edge ≡ o.branches s.pc) ss one.item edges one.stands ∙ ap o.branches one.is_so ∙ is) ∙ sym is
    by_branch false is = rw (none true is (took ss pc true) refl, none false is (took ss pc false) refl) (sym is)

-- a block has a flag just where it ends in a branch
pub blocks_flagged : (o : Facts) (ss : List Seen) → HasEdges o ss → Everywhere (λ b. (b.taken || b.not_taken) ≡ o.branches b.last) (trace_of o ss).blocks
blocks_flagged o ss edges =
    all_map (set_of (closed o ss)) (every_of Flagged (set_of (closed o ss)) (λ p there.
    flags_law o ss p.last edges (last_executed o p.last ss None
    (weaker (λ q. q ≡ p) (λ q. q.last ≡ p.last) (λ q same. ap (λ (r : Piece). r.last) same) (closed o ss) (in_set (λ q. q ≡ p) (closed o ss) there)))))
  where
    Flagged : Piece → Type 0
    Flagged p = (took ss p.last true || took ss p.last false) ≡ o.branches p.last

    all_map : (ps : List Piece) → Everywhere (λ p. (took ss p.last true || took ss p.last false) ≡ o.branches p.last) ps
        → Everywhere (λ b. (b.taken || b.not_taken) ≡ o.branches b.last) (map (block_of ss) ps)
    all_map [] all = tt
    all_map (p ∷ ps) all = (all.0, all_map ps all.1)
