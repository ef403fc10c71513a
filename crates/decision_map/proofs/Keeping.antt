-- The kinds of words once the branches that need a history are marked.
use Rattle.std.proofs.Common.{◌≡◌, ℕ, suc, zero, ◌+◌, ◌<◌, ◌≤◌, ◌≢◌, Bool, true, false, not, cond, List, [], ◌∷◌, length, get_or, take, map, find, Option, Some, None, refl, sym, ap, subst, ◌∙◌, eq-eqb, ne_eqb, arith, inl, inr, unwrap_or, option_map, option_and_then, slice_get}
use Rattle.std.proofs.Math.ListN.{set}
use Rattle.std.specs.Option.{option_map_or, option_or}
use Rattle.std.proofs.lemmas.Option.{slice_get-map, slice_get_past}
use Rattle.std.proofs.lemmas.List.{take_more, get_or-set_same, get_or-set_other, set-get_or, length-map, map-set, get_or-take, length-take, get_or_default}
use Rattle.std.proofs.lemmas.List.Folds.{find-append}
use Rattle.std.proofs.lemmas.Bool.Decides.{eqb_tells}
use Rattle.cov_base.specs.declared.obligations.DecEntry.{DecEntry}
use Rattle.cov_base.specs.Expr.{condition}
use Rattle.cov_base.specs.Graph.{graph}
use Rattle.line_table.specs.declared.roles.Role.{Role}
use Rattle.rv_isa.specs.declared.instr.Instr.{Instr}
use Rattle.rv_isa.specs.declared.instr.Instr.TheVariants.{Upper, Jal, Jalr, Branch as ConditionalBranch, Load, Store, Immediate, Shift, Register, Fence, Ecall, Ebreak}
use Rattle.rv_isa.specs.Decoding.{instr_of}
use Rattle.object_format.specs.declared.object.Object.{Object}
use Rattle.decision_map.specs.declared.condition.Condition.{Condition}
use Rattle.decision_map.specs.declared.graphs.DecisionGraph.{DecisionGraph}
use Rattle.decision_map.specs.declared.kind.WordKind.{WordKind}
use Rattle.decision_map.specs.declared.kind.WordKind.TheVariants.{Branch, HistoryBranch, Stop}
use Rattle.cov_base.specs.Expression.{expression_of}
use Rattle.decision_map.specs.Decisions.{is_tree, is_tree_at, graph_of_entry}
use Rattle.decision_map.specs.Kinds.{kind_of_instr, kind_of_word, keeps_history, address_of, kinds_of_text}
use Rattle.decision_map.specs.Mapped.{plain, marked}
use Rattle.decision_map.specs.Roles.{condition_of, IsMappable}
use Rattle.decision_map.proofs.Standing.{StandsAt, branch_stands}
use Rattle.decision_map.proofs.RoleSearch.{stands_at, Rise, found_none}

-- no decision has a number past the last one's
tree_of_none : (entry : Option DecEntry) → option_map graph_of_entry entry ≡ None
    → is_tree (graph (unwrap_or (option_map (λ (e : DecEntry). expression_of e.expression.postfix) entry) condition)) ≡ true
unfolding is_tree
tree_of_none None none = refl
tree_of_none (Some entry) none = cc

pub tree_beyond : (o : Object) (graphs : List DecisionGraph) (d : ℕ) → graphs ≡ map graph_of_entry o.obligations.decisions
    → length graphs ≤ d → is_tree_at o d ≡ true
tree_beyond o graphs d is past =
    let none : slice_get graphs d ≡ None = slice_get_past graphs d past in
    tree_of_none (slice_get o.obligations.decisions d)
    (sym (slice_get-map graph_of_entry o.obligations.decisions d) ∙ ap (λ (gs : List DecisionGraph). slice_get gs d) (sym is) ∙ none)

-- whether a role is that of a condition of a decision whose graph is no tree
abbrev pub is_kept : Object → Role → Bool
is_kept o role = option_map_or (λ (c : Condition). not (is_tree_at o c.decision.0)) (condition_of role) false

-- the same where there is a role
abbrev pub kept_by : Object → Option Role → Bool
kept_by o found = option_map_or (λ (c : Condition). not (is_tree_at o c.decision.0)) (option_and_then condition_of found) false

-- the kinds of an object's words, where these are its roles
pub record AreKindsBy (o : Object) (roles : List Role) (kinds : List WordKind) : Type 0 where
  pub flow : map plain kinds ≡ kinds_of_text o.text
  pub history : (place : ℕ) → place < length o.text → keeps_history (get_or kinds place Stop) ≡ kept_by o (find (stands_at (address_of place)) roles)

-- a word by itself never needs a history
abbrev pub IsPlain : WordKind → Type 0
IsPlain kind = (plain kind ≡ kind) × (keeps_history kind ≡ false)

plain_instr : (i : Option Instr) → IsPlain (kind_of_instr i)
plain_instr None = (refl, refl)
plain_instr (Some (Upper op rd imm)) = (refl, refl)
plain_instr (Some (Jal rd halves)) = (refl, refl)
plain_instr (Some (Jalr rd rs1 imm)) = (refl, refl)
plain_instr (Some (ConditionalBranch op rs1 rs2 halves)) = (refl, refl)
plain_instr (Some (Load op rd rs1 imm)) = (refl, refl)
plain_instr (Some (Store op rs1 rs2 imm)) = (refl, refl)
plain_instr (Some (Immediate op rd rs1 imm)) = (refl, refl)
plain_instr (Some (Shift op rd rs1 by)) = (refl, refl)
plain_instr (Some (Register op rd rs1 rs2)) = (refl, refl)
plain_instr (Some (Fence rd rs1 imm)) = (refl, refl)
plain_instr (Some Ecall) = (refl, refl)
plain_instr (Some Ebreak) = (refl, refl)

pub plain_word : (word : ℕ) → IsPlain (kind_of_word word)
unfolding kind_of_word
plain_word word = plain_instr (instr_of word)

plain_words : (text : List ℕ) → map plain (kinds_of_text text) ≡ kinds_of_text text
plain_words [] = refl
plain_words (word ∷ text) = ap2 (plain_word word).0 (plain_words text)
  where
    ap2 : {k j : WordKind} {ks js : List WordKind} → k ≡ j → ks ≡ js → (k ∷ ks) ≡ (j ∷ js)
    ap2 p q = cc

plain_places : (text : List ℕ) (place : ℕ) → keeps_history (get_or (kinds_of_text text) place Stop) ≡ false
plain_places [] place = refl
plain_places (word ∷ text) zero = (plain_word word).1
plain_places (word ∷ text) (suc place) = plain_places text place

-- no branch is marked before the first role
pub nothing_kept : (o : Object) (kinds : List WordKind) → kinds ≡ kinds_of_text o.text → AreKindsBy o [] kinds
nothing_kept o kinds is = record {
  flow = ap (map plain) is ∙ plain_words o.text;
  history = λ place within. ap (λ (ks : List WordKind). keeps_history (get_or ks place Stop)) is ∙ plain_places o.text place;
}

-- one role more is looked for after those before it
found_more : (roles : List Role) (i : ℕ) (d : Role) (pc : ℕ) → i < length roles
    → find (stands_at pc) (take (i + 1) roles) ≡ option_or (find (stands_at pc) (take i roles)) (cond (stands_at pc (get_or roles i d)) (Some (get_or roles i d)) None)
found_more roles i d pc within =
    ap (find (stands_at pc)) (take_more roles i d within) ∙ find-append (stands_at pc) (take i roles) (get_or roles i d ∷ [])

or_none : (found : Option Role) → option_or found None ≡ found
or_none None = refl
or_none (Some role) = refl

-- none before a role has its address
none_before : (roles : List Role) (i : ℕ) (d : Role) → Rise roles → i < length roles
    → find (stands_at (get_or roles i d).address) (take i roles) ≡ None
none_before roles i d rise within =
    found_none (take i roles) (get_or roles i d).address (λ k e below same.
    let low : k < i = omega (arith, below, length-take i roles) in
    let less : (get_or roles k d).address < (get_or roles i d).address = rise k i d low within in
    let here : (get_or roles k d).address ≡ (get_or roles i d).address =
    ap (λ (role : Role). role.address) (get_or_default roles k d e (omega arith) ∙ sym (get_or-take i roles k e low)) ∙ same in
    absurd (omega arith))

-- the kinds once a role more is looked at
abbrev pub kept_with : Bool → List WordKind → ℕ → List WordKind
kept_with kept kinds pc = cond kept (marked kinds pc) kinds

-- one role more that names a kept condition
marked_flow : (o : Object) (kinds : List WordKind) (place : ℕ) → map plain kinds ≡ kinds_of_text o.text → get_or (kinds_of_text o.text) place Stop ≡ Branch
    → map plain (set kinds place HistoryBranch) ≡ kinds_of_text o.text
marked_flow o kinds place flow is =
    map-set plain kinds place HistoryBranch
    ∙ ap (λ (ks : List WordKind). set ks place Branch) flow
    ∙ ap (set (kinds_of_text o.text) place) (sym is)
    ∙ set-get_or (kinds_of_text o.text) place Stop

module _ (o : Object) (mappable : IsMappable o) (i : ℕ) (d : Role) (within : i < length o.roles) (kinds : List WordKind) (before : AreKindsBy o (take i o.roles) kinds) where
  -- what the roles so far and this one say of an address
  said : (pc : ℕ) → (b : Bool) → stands_at pc (get_or o.roles i d) ≡ b
      → kept_by o (find (stands_at pc) (take (i + 1) o.roles)) ≡ kept_by o (option_or (find (stands_at pc) (take i o.roles)) (cond b (Some (get_or o.roles i d)) None))
  said pc b is =
      ap (kept_by o) (found_more o.roles i d pc within)
      ∙ ap (λ (t : Bool). kept_by o (option_or (find (stands_at pc) (take i o.roles)) (cond t (Some (get_or o.roles i d)) None))) is

  here : kept_by o (find (stands_at (get_or o.roles i d).address) (take (i + 1) o.roles)) ≡ is_kept o (get_or o.roles i d)
  here =
      said (get_or o.roles i d).address true (eq-eqb (get_or o.roles i d).address (get_or o.roles i d).address refl)
      ∙ ap (λ (found : Option Role). kept_by o (option_or found (Some (get_or o.roles i d)))) (none_before o.roles i d mappable.rise within)

  elsewhere : (pc : ℕ) → (get_or o.roles i d).address ≢ pc
      → kept_by o (find (stands_at pc) (take (i + 1) o.roles)) ≡ kept_by o (find (stands_at pc) (take i o.roles))
  elsewhere pc other =
      said pc false (ne_eqb (get_or o.roles i d).address pc other) ∙ ap (kept_by o) (or_none (find (stands_at pc) (take i o.roles)))

  length_same : length kinds ≡ length o.text
  length_same =
      sym (length-map kinds plain) ∙ ap (λ (ks : List WordKind). length ks) before.flow ∙ length-map o.text kind_of_word

  -- the role's branch
  stands : (place : ℕ) × StandsAt (kinds_of_text o.text) (get_or o.roles i d).address place
  stands = branch_stands (kinds_of_text o.text) (get_or o.roles i d).address (mappable.branches i d within)

  -- at another place nothing changes
  other_place : (place : ℕ) → place ≢ stands.0 → (get_or o.roles i d).address ≢ address_of place
  other_place place differs same = absurd (differs (omega (arith, same, stands.1.address)))

  not_here_before : keeps_history (get_or kinds stands.0 Stop) ≡ false
  not_here_before =
      before.history stands.0 (omega (arith, stands.1.within, length-map o.text kind_of_word))
      ∙ ap (λ (pc : ℕ). kept_by o (find (stands_at pc) (take i o.roles))) (sym stands.1.address)
      ∙ ap (kept_by o) (none_before o.roles i d mappable.rise within)

  pub more_kept : (kept : Bool) → kept ≡ is_kept o (get_or o.roles i d)
      → AreKindsBy o (take (i + 1) o.roles) (kept_with kept kinds (get_or o.roles i d).address)
  more_kept true kept = rw stands.1.is (record {
    flow = marked_flow o kinds stands.0 before.flow stands.1.kind;
    history = λ place inside. elim (eqb_tells place stands.0) [
      | inl same ↦
          let in_kinds : place < length kinds = omega (arith, length_same) in
          subst (λ (p : ℕ). keeps_history (get_or (set kinds p HistoryBranch) place Stop) ≡ kept_by o (find (stands_at (address_of place)) (take (i + 1) o.roles))) same.1
          (ap keeps_history (get_or-set_same kinds place HistoryBranch Stop in_kinds)
          ∙ kept
          ∙ sym here
          ∙ ap (λ (pc : ℕ). kept_by o (find (stands_at pc) (take (i + 1) o.roles))) (stands.1.address ∙ ap address_of (sym same.1)))
      | inr other ↦
          ap keeps_history (get_or-set_other kinds stands.0 place HistoryBranch Stop other.1)
          ∙ before.history place inside
          ∙ sym (elsewhere (address_of place) (other_place place other.1))
    ];
  })
  more_kept false kept = record {
    flow = before.flow;
    history = λ place inside. elim (eqb_tells place stands.0) [
      | inl same ↦
          ap (λ (p : ℕ). keeps_history (get_or kinds p Stop)) same.1
          ∙ not_here_before
          ∙ kept
          ∙ sym here
          ∙ ap (λ (pc : ℕ). kept_by o (find (stands_at pc) (take (i + 1) o.roles))) (stands.1.address ∙ ap address_of (sym same.1))
      | inr other ↦
          before.history place inside ∙ sym (elsewhere (address_of place) (other_place place other.1))
    ];
  }
