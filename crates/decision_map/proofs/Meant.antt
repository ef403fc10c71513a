-- What the kinds that a map keeps say of an address.
use Rattle.std.proofs.Common.{◌≡◌, ℕ, suc, zero, ◌+◌, ◌<◌, Bool, true, false, not, cond, List, [], ◌∷◌, length, get_or, map, drop, find, Option, Some, None, refl, sym, ap, subst, ◌∙◌, eqb-true, eqb, arith, inl, inr, unwrap_or, option_map, option_and_then, slice_get}
use Rattle.std.specs.Option.{option_map_or}
use Rattle.std.proofs.lemmas.Option.{slice_get-map, unwrap_or-slice_get}
use Rattle.std.proofs.lemmas.List.{length-map, get_or_past, drop-map}
use Rattle.std.proofs.lemmas.Bool.Decides.{leb_tells}
use Rattle.line_table.specs.declared.roles.Role.{Role}
use Rattle.object_format.specs.declared.object.Object.{Object}
use Rattle.decision_map.specs.declared.condition.Condition.{Condition}
use Rattle.decision_map.specs.declared.kind.WordKind.{WordKind}
use Rattle.decision_map.specs.declared.kind.WordKind.TheVariants.{GoesOn, Transfer, Branch, HistoryBranch, Stop}
use Rattle.decision_map.specs.Blocks.{first_transfer, block_end}
use Rattle.decision_map.specs.Decisions.{is_tree_at}
use Rattle.decision_map.specs.Kinds.{kind_of_word, has_edges, keeps_history, place_of, kind_in, kinds_of_text}
use Rattle.decision_map.specs.Mapped.{plain, AreKinds}
use Rattle.decision_map.specs.Roles.{condition_of, needs_history, kind_at, IsMappable}
use Rattle.decision_map.proofs.RoleSearch.{stands_at}
use Rattle.decision_map.proofs.Standing.{branch_stands, address_of_place}

-- a role that is found is one of them, and has the address
pub record IsFound (roles : List Role) (pc : ℕ) (role : Role) : Type 0 where
  pub place : ℕ
  pub within : place < length roles
  pub is : get_or roles place role ≡ role
  pub address : role.address ≡ pc

found_role : (roles : List Role) (pc : ℕ) (role : Role) → find (stands_at pc) roles ≡ Some role → IsFound roles pc role
found_role [] pc role is = cc
found_role (first ∷ roles) pc role is = by_test (eqb first.address pc) refl (found_role roles pc role) is
  where
    by_test : (b : Bool) → eqb first.address pc ≡ b → (find (stands_at pc) roles ≡ Some role → IsFound roles pc role)
        → cond b (Some first) (find (stands_at pc) roles) ≡ Some role → IsFound (first ∷ roles) pc role
    by_test true same later is =
        let this : first ≡ role = cc in
        record { place = zero; within = omega arith; is = this; address = ap (λ (r : Role). r.address) (sym this) ∙ eqb-true first.address pc same }
    by_test false same later is =
        let there = later is in
        record { place = suc there.place; within = omega (arith, there.within); is = there.is; address = there.address }

-- a word that needs a history is a conditional branch
needed_branch : (o : Object) → IsMappable o → (pc : ℕ) (found : Option Role) → find (stands_at pc) o.roles ≡ found
    → option_map_or (λ (c : Condition). not (is_tree_at o c.decision.0)) (option_and_then condition_of found) false ≡ true
    → kind_in (kinds_of_text o.text) pc ≡ Branch
needed_branch o mappable pc None is needs = cc
needed_branch o mappable pc (Some role) is needs =
    let there = found_role o.roles pc role is in
    subst (λ (at : ℕ). kind_in (kinds_of_text o.text) at ≡ Branch) there.address
    (subst (λ (r : Role). kind_in (kinds_of_text o.text) r.address ≡ Branch) there.is (mappable.branches there.place role there.within))

false_unless : (b : Bool) → (b ≡ true → ⊥) → b ≡ false
false_unless true never = absurd (never refl)
false_unless false never = refl

pub needed_kind : (o : Object) → IsMappable o → (pc : ℕ) → needs_history o pc ≡ true → kind_in (kinds_of_text o.text) pc ≡ Branch
needed_kind o mappable pc needs = needed_branch o mappable pc (find (stands_at pc) o.roles) refl needs

pub not_needed : (o : Object) → IsMappable o → (pc : ℕ) → (kind_in (kinds_of_text o.text) pc ≡ Branch → ⊥) → needs_history o pc ≡ false
not_needed o mappable pc other =
    false_unless (needs_history o pc) (λ needs. other (needed_branch o mappable pc (find (stands_at pc) o.roles) refl needs))

module _ (o : Object) (mappable : IsMappable o) (kinds : List WordKind) (are : AreKinds o kinds) where
  pub length_kinds : length kinds ≡ length o.text
  length_kinds =
      sym (length-map kinds plain) ∙ ap (λ (ks : List WordKind). length ks) are.flow ∙ length-map o.text kind_of_word

  keeps_by : (pc : ℕ) (found : Option ℕ) → place_of pc ≡ found
      → keeps_history (unwrap_or (option_and_then (slice_get kinds) found) Stop) ≡ needs_history o pc
  keeps_by pc None at =
      sym (not_needed o mappable pc (λ is. let there = branch_stands (kinds_of_text o.text) pc is in
      let bad : None ≡ Some there.0 = sym at ∙ there.1.is in cc))
  keeps_by pc (Some place) at =
      ap keeps_history (unwrap_or-slice_get kinds place Stop)
      ∙ elim (leb_tells (length o.text) place) [
        | inl past ↦
            ap keeps_history (get_or_past kinds place Stop (omega (arith, past.1, length_kinds)))
            ∙ sym (not_needed o mappable pc (λ is. let there = branch_stands (kinds_of_text o.text) pc is in
            let same : place ≡ there.0 = cc (sym at ∙ there.1.is) in
            absurd (omega (arith, same, past.1, there.1.within, length-map o.text kind_of_word))))
        | inr below ↦
            are.history place below.1 ∙ ap (needs_history o) (sym (address_of_place pc place at))
      ]

  pub keeps_law : (pc : ℕ) → keeps_history (kind_in kinds pc) ≡ needs_history o pc
  keeps_law pc = keeps_by pc (place_of pc) refl

-- the kind of a word by itself, looked up
plain_or_stop : (found : Option WordKind) → unwrap_or (option_map plain found) Stop ≡ plain (unwrap_or found Stop)
plain_or_stop None = refl
plain_or_stop (Some kind) = refl

plain_by : (kinds : List WordKind) (found : Option ℕ)
    → unwrap_or (option_and_then (slice_get (map plain kinds)) found) Stop ≡ plain (unwrap_or (option_and_then (slice_get kinds) found) Stop)
plain_by kinds None = refl
plain_by kinds (Some place) =
    ap (λ (found : Option WordKind). unwrap_or found Stop) (slice_get-map plain kinds place) ∙ plain_or_stop (slice_get kinds place)

pub plain_in : (kinds : List WordKind) (pc : ℕ) → kind_in (map plain kinds) pc ≡ plain (kind_in kinds pc)
plain_in kinds pc = plain_by kinds (place_of pc)

-- a kind is known by what it is by itself and whether it keeps a history
told : (kind : WordKind) → kind ≡ cond (keeps_history kind) HistoryBranch (plain kind)
told GoesOn = refl
told Transfer = refl
told Branch = refl
told HistoryBranch = refl
told Stop = refl

pub kind_law : (o : Object) → IsMappable o → (kinds : List WordKind) → AreKinds o kinds → (pc : ℕ) → kind_in kinds pc ≡ kind_at o pc
kind_law o mappable kinds are pc =
    told (kind_in kinds pc)
    ∙ ap (λ (b : Bool). cond b HistoryBranch (plain (kind_in kinds pc))) (keeps_law o mappable kinds are pc)
    ∙ ap (λ (k : WordKind). cond (needs_history o pc) HistoryBranch k)
    (sym (plain_in kinds pc) ∙ ap (λ (ks : List WordKind). kind_in ks pc) are.flow)

-- blocks are the same whether branches keep a history or not
plain_transfer : (pc : ℕ) (kinds : List WordKind) → first_transfer pc (map plain kinds) ≡ first_transfer pc kinds
plain_transfer pc [] = refl
plain_transfer pc (GoesOn ∷ kinds) = plain_transfer (pc + 4) kinds
plain_transfer pc (Transfer ∷ kinds) = refl
plain_transfer pc (Branch ∷ kinds) = refl
plain_transfer pc (HistoryBranch ∷ kinds) = refl
plain_transfer pc (Stop ∷ kinds) = refl

plain_end_by : (kinds : List WordKind) (start : ℕ) (found : Option ℕ)
    → option_and_then (λ (place : ℕ). first_transfer start (drop place (map plain kinds))) found
    ≡ option_and_then (λ (place : ℕ). first_transfer start (drop place kinds)) found
plain_end_by kinds start None = refl
plain_end_by kinds start (Some place) =
    ap (first_transfer start) (drop-map plain place kinds) ∙ plain_transfer start (drop place kinds)

pub plain_end : (kinds : List WordKind) (start : ℕ) → block_end (map plain kinds) start ≡ block_end kinds start
plain_end kinds start = plain_end_by kinds start (place_of start)

pub plain_edges : (kind : WordKind) → has_edges (plain kind) ≡ has_edges kind
plain_edges GoesOn = refl
plain_edges Transfer = refl
plain_edges Branch = refl
plain_edges HistoryBranch = refl
plain_edges Stop = refl
