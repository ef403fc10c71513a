-- What the flags of blocks say, edge by edge.
use Rattle.std.proofs.Common.{◌≡◌, ◌↔◌, ◌⊎◌, ℕ, suc, zero, ◌+◌, Bool, true, false, not, List, [], ◌∷◌, ◌++◌, map, drop, slice_get, Option, Some, None, refl, sym, ap, subst, ◌∙◌, inl, inr, arith, if◌then◌else◌}
use Rattle.cov_base.specs.declared.event.Event.{Event}
use Rattle.cov_base.specs.declared.event.Event.TheVariants.{Start, Done}
use Rattle.cov_base.specs.declared.event.Vector.{Vector}
use Rattle.cov_base.specs.declared.position.DecId.{DecId}
use Rattle.cov_base.specs.Graph.{next_in}
use Rattle.cov_base.specs.Lists.{Somewhere}
use Rattle.cov_base.specs.Path.{IsVectorOfLeaf, IsOutcome}
use Rattle.trace_format.specs.declared.trace.Block.{Block as FileBlock}
use Rattle.transcript.proofs.Lists.{weaker, in_append, in_left, in_right, one_of, at_one}
use Rattle.transcript.proofs.Vectors.{one_vector}
use Rattle.transcript.specs.Facts.{Facts, Condition, AreFair}
use Rattle.transcript.specs.Trace.{Block, Trace, flag, IsFlagged}
use Rattle.vector_rebuild.specs.Entries.{block_of}
use Rattle.vector_rebuild.specs.Flagged.{EndsWith, EdgeSays, BlockSays, FlagsSay}

-- ---- one edge

-- the value of a condition where its branch takes an edge
abbrev pub value_at : Condition → Bool → Bool
value_at c taken = if taken then c.when_taken else not c.when_taken

-- the one evaluation that an edge ends
pub ends_one : (o : Facts) → AreFair o → (c : Condition) (taken : Bool) (vector : Vector) → o.tree c.decision ≡ true
    → IsVectorOfLeaf (o.graph c.decision) c.at_node (value_at c taken) vector
    → (e : Event) → (Some (Done c.decision c.instance vector) ≡ Some e) ↔ EndsWith o c taken e
ends_one o fair c taken vector tree leaf e = (
  λ is. let same : Done c.decision c.instance vector ≡ e = cc is in
      subst (EndsWith o c taken) same (record { of_decision = refl; of_instance = refl; of_tree = tree; ends = leaf }),
  back e,
)
  where
    back : (e : Event) → EndsWith o c taken e → Some (Done c.decision c.instance vector) ≡ Some e
    back (Start s i) ended = absurd ended
    back (Done d i w) ended =
        let there : IsVectorOfLeaf (o.graph c.decision) c.at_node (value_at c taken) w =
        subst (λ (x : DecId). IsVectorOfLeaf (o.graph x) c.at_node (value_at c taken) w) (sym ended.of_decision) ended.ends in
        let same : vector ≡ w = one_vector o fair c.decision tree c.at_node (value_at c taken) vector w leaf there in
        rw (ended.of_decision, ended.of_instance, same) refl

-- an edge of a decision that is no tree ends none
pub ends_no_tree : (o : Facts) (c : Condition) (taken : Bool) → o.tree c.decision ≡ false → (e : Event) → (None ≡ Some e) ↔ EndsWith o c taken e
ends_no_tree o c taken other e = (λ is. absurd (cc is), λ ended. absurd (never e ended))
  where
    never : (e : Event) → EndsWith o c taken e → ⊥
    never (Start s i) ended = ended
    never (Done d i w) ended = cc (sym other ∙ (ap o.tree ended.of_decision ∙ ended.of_tree))

-- nor does one that leads to a node
pub ends_no_leaf : (o : Facts) (c : Condition) (taken : Bool) → (IsOutcome (next_in (o.graph c.decision) c.at_node (value_at c taken)) → ⊥)
    → (e : Event) → (None ≡ Some e) ↔ EndsWith o c taken e
ends_no_leaf o c taken other e = (λ is. absurd (cc is), λ ended. absurd (never e ended))
  where
    never : (e : Event) → EndsWith o c taken e → ⊥
    never (Start s i) ended = ended
    never (Done d i w) ended =
        let there : IsVectorOfLeaf (o.graph c.decision) c.at_node (value_at c taken) w =
        subst (λ (x : DecId). IsVectorOfLeaf (o.graph x) c.at_node (value_at c taken) w) (sym ended.of_decision) ended.ends in
        other (subst IsOutcome (sym there.leads.0) tt)

-- what a block's flag says is what its edge ends
pub says_ended : (o : Facts) (b : Block) (c : Condition) (taken : Bool) (found : Option Event) → o.condition b.last ≡ Some c → flag taken b ≡ true
    → ((e : Event) → (found ≡ Some e) ↔ EndsWith o c taken e) → (e : Event) → (found ≡ Some e) ↔ EdgeSays o b taken e
says_ended o b c taken found role flagged law e = (
  λ is. record { condition = c; role = role; flagged = flagged; ended = (law e).0 is },
  λ says. let same : says.condition ≡ c = cc (sym says.role ∙ role) in
      (law e).1 (subst (λ (x : Condition). EndsWith o x taken e) same says.ended),
)

-- ---- lists of events

-- an event more in a list
pub one_more : (P : Event → Type 0) (events : List Event) (event : Event) → ((e : Event) → (Some event ≡ Some e) ↔ P e)
    → (e : Event) → Somewhere (λ x. x ≡ e) (events ++ event ∷ []) ↔ (Somewhere (λ x. x ≡ e) events ⊎ P e)
one_more P events event law e = (
  λ some. elim (in_append (λ x. x ≡ e) events (event ∷ []) some) [
    | inl here ↦ inl here
    | inr last ↦ elim last [ inl is ↦ inr ((law e).0 (ap (λ (x : Event). Some x) is)) | inr none ↦ absurd none ]
  ],
  λ some. elim some [
    | inl here ↦ in_left (λ x. x ≡ e) events (event ∷ []) here
    | inr says ↦ let is : event ≡ e = cc ((law e).1 says) in in_right (λ x. x ≡ e) events (event ∷ []) (inl is)
  ],
)

pub no_more : (P : Event → Type 0) (events : List Event) → ((e : Event) → (None ≡ Some e) ↔ P e)
    → (e : Event) → Somewhere (λ x. x ≡ e) events ↔ (Somewhere (λ x. x ≡ e) events ⊎ P e)
no_more P events law e = (
  λ some. inl some,
  λ some. elim some [ inl here ↦ here | inr says ↦ absurd (cc ((law e).1 says)) ],
)

-- ---- all blocks

-- what some of these blocks say
abbrev pub SomeSays : Facts → List FileBlock → Event → Type 0
SomeSays o blocks e = Somewhere (λ b. BlockSays o b e) (map block_of blocks)

-- the block at a place stands first in what is left there
left_from : {X : Type 0} (xs : List X) (at : ℕ) (x : X) → slice_get xs at ≡ Some x → drop at xs ≡ x ∷ drop (suc at) xs
left_from [] at x is = absurd (cc is)
left_from (first ∷ xs) zero x is = cc is
left_from (first ∷ xs) (suc at) x is = left_from xs at x is

pub left_at : {X : Type 0} (xs : List X) (at : ℕ) (x : X) → slice_get xs at ≡ Some x → drop at xs ≡ x ∷ drop (at + 1) xs
left_at xs at x is =
    let next : suc at ≡ at + 1 = omega arith in
    left_from xs at x is ∙ ap (λ (k : ℕ). x ∷ drop k xs) next

-- one block more
pub block_more : (o : Facts) (before middle after : List Event) (blocks : List FileBlock) (at : ℕ) (block : FileBlock) → slice_get blocks at ≡ Some block
    → ((e : Event) → Somewhere (λ x. x ≡ e) middle ↔ (Somewhere (λ x. x ≡ e) before ⊎ EdgeSays o (block_of block) true e))
    → ((e : Event) → Somewhere (λ x. x ≡ e) after ↔ (Somewhere (λ x. x ≡ e) middle ⊎ EdgeSays o (block_of block) false e))
    → ((e : Event) → (Somewhere (λ x. x ≡ e) before ⊎ SomeSays o (drop at blocks) e) ↔ SomeSays o blocks e)
    → (e : Event) → (Somewhere (λ x. x ≡ e) after ⊎ SomeSays o (drop (at + 1) blocks) e) ↔ SomeSays o blocks e
block_more o before middle after blocks at block is one two all e =
    let left : SomeSays o (drop at blocks) e ≡ (BlockSays o (block_of block) e ⊎ SomeSays o (drop (at + 1) blocks) e) =
    ap (λ (bs : List FileBlock). SomeSays o bs e) (left_at blocks at block is) in (
      λ some. elim some [
        | inl here ↦ elim ((two e).0 here) [
          | inl mid ↦ elim ((one e).0 mid) [
            | inl old ↦ (all e).0 (inl old)
            | inr says ↦ (all e).0 (inr (subst (λ (T : Type 0). T) (sym left) (inl (inl says))))
          ]
          | inr says ↦ (all e).0 (inr (subst (λ (T : Type 0). T) (sym left) (inl (inr says))))
        ]
        | inr later ↦ (all e).0 (inr (subst (λ (T : Type 0). T) (sym left) (inr later)))
      ],
      λ said. elim ((all e).1 said) [
        | inl old ↦ inl ((two e).1 (inl ((one e).1 (inl old))))
        | inr rest ↦ elim (subst (λ (T : Type 0). T) left rest) [
          | inl here ↦ elim here [
            | inl says ↦ inl ((two e).1 (inl ((one e).1 (inr says))))
            | inr says ↦ inl ((two e).1 (inr says))
          ]
          | inr later ↦ inr later
        ]
      ],
    )

-- no evaluation of a block is a start
says_done : (o : Facts) (t : Trace) (e : Event) → Somewhere (λ b. BlockSays o b e) t.blocks → FlagsSay o t e
says_done o t (Start s i) some =
    let found = one_of (λ b. BlockSays o b (Start s i)) t.blocks some in
    elim found.is_so [ inl says ↦ says.ended | inr says ↦ says.ended ]
says_done o t (Done d i vector) some =
    let found = one_of (λ b. BlockSays o b (Done d i vector)) t.blocks some in
    elim found.is_so [ inl says ↦ by_edge true found.item found.stands says | inr says ↦ by_edge false found.item found.stands says ]
  where
    by_edge : (taken : Bool) (b : Block) → Somewhere (λ y. y ≡ b) t.blocks → EdgeSays o b taken (Done d i vector) → IsFlagged o t d i vector
    by_edge taken b there says = record {
      address = b.last;
      condition = says.condition;
      taken = taken;
      role = says.role;
      of_decision = says.ended.of_decision;
      of_instance = says.ended.of_instance;
      of_tree = says.ended.of_tree;
      flagged = at_one (λ x. (x.last ≡ b.last) × (flag taken x ≡ true)) t.blocks b (refl, says.flagged) there;
      ends = says.ended.ends;
    }

done_says : (o : Facts) (t : Trace) (e : Event) → FlagsSay o t e → Somewhere (λ b. BlockSays o b e) t.blocks
done_says o t (Start s i) says = absurd says
done_says o t (Done d i vector) says =
    weaker (λ b. (b.last ≡ says.address) × (flag says.taken b ≡ true)) (λ b. BlockSays o b (Done d i vector)) (λ b here.
    let edge : EdgeSays o b says.taken (Done d i vector) = record {
      condition = says.condition;
      role = ap o.condition here.0 ∙ says.role;
      flagged = here.1;
      ended = record { of_decision = says.of_decision; of_instance = says.of_instance; of_tree = says.of_tree; ends = says.ends };
    } in
    by_taken says.taken b edge) t.blocks says.flagged
  where
    by_taken : (taken : Bool) (b : Block) → EdgeSays o b taken (Done d i vector) → BlockSays o b (Done d i vector)
    by_taken true b edge = inl edge
    by_taken false b edge = inr edge

-- what blocks say one by one is what the flags say
pub flags_law : (o : Facts) (t : Trace) (e : Event) → Somewhere (λ b. BlockSays o b e) t.blocks ↔ FlagsSay o t e
flags_law o t e = (says_done o t e, done_says o t e)

-- no block is left
pub all_said : (o : Facts) (events : List Event) (blocks : List FileBlock) (left : List FileBlock) → left ≡ []
    → ((e : Event) → (Somewhere (λ x. x ≡ e) events ⊎ SomeSays o left e) ↔ SomeSays o blocks e)
    → (e : Event) → Somewhere (λ x. x ≡ e) events ↔ SomeSays o blocks e
all_said o events blocks left none all e = (
  λ here. (all e).0 (inl here),
  λ said. elim ((all e).1 said) [ inl here ↦ here | inr rest ↦ absurd (subst (λ (bs : List FileBlock). SomeSays o bs e) none rest) ],
)
