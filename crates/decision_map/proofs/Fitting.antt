-- What the checks answer of the kinds that a map keeps, they answer of the object.
use Rattle.std.proofs.Common.{◌≡◌, ℕ, ◌+◌, Bool, not, ◌&&◌, ◌||◌, cond, List, [], ◌∷◌, ◌++◌, map, find, Option, Some, None, refl, sym, ap, subst, ◌∙◌, eqb, option_map}
use Rattle.std.specs.List.{list_all, position_from}
use Rattle.std.specs.Option.{option_or}
use Rattle.cov_base.specs.Marks.{same}
use Rattle.object_format.specs.declared.object.Object.{Object}
use Rattle.trace_format.specs.declared.trace.Block.{Block}
use Rattle.trace_format.specs.declared.trace.HistoryEntry.{HistoryEntry}
use Rattle.trace_format.specs.Trace.{TraceFile}
use Rattle.decision_map.specs.declared.kind.WordKind.{WordKind}
use Rattle.decision_map.specs.declared.fault.FitFault.{FitFault}
use Rattle.decision_map.specs.declared.fault.FitFault.TheVariants.{NotABlock, Edge, HistoryAddress}
use Rattle.decision_map.specs.Blocks.{is_number, is_block, has_its_flags, first_unlike}
use Rattle.decision_map.specs.Fits.{foreign, beyond_exceptions, not_a_block, wrong_edge, wrong_address, not_flat, fault_of}
use Rattle.decision_map.specs.Kinds.{has_edges, keeps_history, kind_in, kinds_of_text}
use Rattle.decision_map.specs.Mapped.{plain, AreKinds}
use Rattle.decision_map.specs.Roles.{needs_history, IsMappable}
use Rattle.decision_map.proofs.Meant.{keeps_law, plain_in, plain_end, plain_edges}

find_same : {X : Type 0} (p q : X → Bool) → ((x : X) → p x ≡ q x) → (xs : List X) → find p xs ≡ find q xs
find_same p q same [] = refl
find_same p q same (x ∷ xs) = ap (λ (b : Bool). cond b (Some x) (find p xs)) (same x) ∙ ap (λ found. cond (q x) (Some x) found) (find_same p q same xs)

position_same : {X : Type 0} (p q : X → Bool) → ((x : X) → p x ≡ q x) → (xs : List X) (i : ℕ) → position_from p i xs ≡ position_from q i xs
position_same p q same [] i = refl
position_same p q same (x ∷ xs) i =
    ap (λ (b : Bool). cond b (Some i) (position_from p (i + 1) xs)) (same x) ∙ ap (λ found. cond (q x) (Some i) found) (position_same p q same xs (i + 1))

plain_block : (kinds : List WordKind) (b : Block) → is_block (map plain kinds) b ≡ is_block kinds b
plain_block kinds b = ap (λ (found : Option ℕ). is_number found b.last) (plain_end kinds b.start)

plain_blocks : (kinds : List WordKind) (bs : List Block) → not_a_block (map plain kinds) bs ≡ not_a_block kinds bs
plain_blocks kinds bs =
    ap (option_map (λ (b : Block). NotABlock b.start))
    (find_same (λ (b : Block). not (is_block (map plain kinds) b)) (λ (b : Block). not (is_block kinds b)) (λ b. ap not (plain_block kinds b)) bs)

plain_flags : (kinds : List WordKind) (earlier : List Block) (b : Block) → has_its_flags (map plain kinds) earlier b ≡ has_its_flags kinds earlier b
plain_flags kinds earlier b =
    ap (λ (t : Bool). same (not (eqb b.flags 0)) t && list_all (λ (e : Block). not (eqb e.last b.last) || eqb e.flags b.flags) earlier)
    (ap has_edges (plain_in kinds b.last) ∙ plain_edges (kind_in kinds b.last))

plain_unlike : (kinds : List WordKind) (bs earlier : List Block) → first_unlike (map plain kinds) earlier bs ≡ first_unlike kinds earlier bs
plain_unlike kinds [] earlier = refl
plain_unlike kinds (b ∷ bs) earlier =
    ap (λ (t : Bool). cond t (first_unlike (map plain kinds) (earlier ++ b ∷ []) bs) (Some b)) (plain_flags kinds earlier b)
    ∙ ap (λ found. cond (has_its_flags kinds earlier b) found (Some b)) (plain_unlike kinds bs (earlier ++ b ∷ []))

-- the checks of a trace by the kinds that a map keeps
abbrev pub fault_by : Object → List WordKind → TraceFile → Option FitFault
fault_by o kinds t =
    option_or (foreign o t)
    (option_or (beyond_exceptions o t)
    (option_or (not_a_block kinds t.blocks)
    (option_or (wrong_edge kinds t.blocks)
    (option_or (wrong_address (λ pc. keeps_history (kind_in kinds pc)) t.history)
    (not_flat t.blocks t.history)))))

pub fault_law : (o : Object) → IsMappable o → (kinds : List WordKind) → AreKinds o kinds → (t : TraceFile) → fault_by o kinds t ≡ fault_of o t
fault_law o mappable kinds are t =
    let blocks : not_a_block kinds t.blocks ≡ not_a_block (kinds_of_text o.text) t.blocks =
    sym (plain_blocks kinds t.blocks) ∙ ap (λ (ks : List WordKind). not_a_block ks t.blocks) are.flow in
    let edges : wrong_edge kinds t.blocks ≡ wrong_edge (kinds_of_text o.text) t.blocks =
    sym (ap (option_map (λ (b : Block). Edge b.start)) (plain_unlike kinds t.blocks [])) ∙ ap (λ (ks : List WordKind). wrong_edge ks t.blocks) are.flow in
    let addresses : wrong_address (λ pc. keeps_history (kind_in kinds pc)) t.history ≡ wrong_address (needs_history o) t.history =
    ap (option_map HistoryAddress)
    (position_same (λ (h : HistoryEntry). not (keeps_history (kind_in kinds h.address))) (λ (h : HistoryEntry). not (needs_history o h.address))
    (λ h. ap not (keeps_law o mappable kinds are h.address)) t.history 0) in
    all_same (foreign o t) (beyond_exceptions o t) (not_flat t.blocks t.history) blocks edges addresses
  where
    all_same : (a b g : Option FitFault) {c d e x y z : Option FitFault} → c ≡ x → d ≡ y → e ≡ z
        → option_or a (option_or b (option_or c (option_or d (option_or e g)))) ≡ option_or a (option_or b (option_or x (option_or y (option_or z g))))
    all_same a b g p q r = cc

-- the first fault of several: one that comes behind a check that passes
pub past : (x : Option FitFault) {a r : Option FitFault} → None ≡ a → x ≡ r → x ≡ option_or a r
past x {a} {r} passes is = subst (λ (y : Option FitFault). x ≡ option_or y r) passes is

-- or that of the check itself
pub here : (f : FitFault) {a : Option FitFault} (r : Option FitFault) → Some f ≡ a → Some f ≡ option_or a r
here f r is = subst (λ (y : Option FitFault). Some f ≡ option_or y r) is refl
