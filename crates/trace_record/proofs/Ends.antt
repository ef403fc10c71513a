-- Where the pieces of a transcript stand in the text.
use Rattle.std.proofs.Common.{◌≡◌, ℕ, zero, suc, ◌+◌, ◌-◌, ◌*◌, ◌/◌, ◌%◌, ◌<◌, ◌≤◌, inl, inr, ⊎_elim, true, false, List, [], ◌∷◌, length, get_or, drop, option_to_list, Option, Some, None, refl, sym, ap, subst, ◌∙◌, arith, option_and_then, unwrap_or, slice_get}
use Rattle.std.proofs.lemmas.Bool.Decides.{leb_tells}
use Rattle.std.proofs.lemmas.List.{get_or-drop, get_or_past}
use Rattle.std.proofs.lemmas.Option.{unwrap_or-slice_get}
use Rattle.decision_map.proofs.Standing.{place_of_address, address_of_place}
use Rattle.decision_map.specs.declared.kind.WordKind.{WordKind}
use Rattle.decision_map.specs.declared.kind.WordKind.TheVariants.{GoesOn, Transfer, Branch, HistoryBranch, Stop}
use Rattle.decision_map.specs.Blocks.{first_transfer, block_end}
use Rattle.decision_map.specs.Kinds.{address_of, place_of, kind_in, kinds_of_text}
use Rattle.cov_base.specs.Lists.{Somewhere, Everywhere}
use Rattle.object_format.specs.declared.object.Object.{Object}
use Rattle.object_facts.proofs.Words.{kind_there, transfer_kind}
use Rattle.object_facts.specs.Kinds.{ends_piece, is_executable}
use Rattle.object_facts.specs.Object.{facts_of, IsTranscript}
use Rattle.rv_machine.specs.Objects.{object_image}
use Rattle.object_facts.specs.Held.{instruction_at}
use Rattle.rv_semantics.specs.declared.stepped.Seen.{Seen}
use Rattle.transcript.proofs.Blocks.{all_closed}
use Rattle.transcript.proofs.Lists.{at_one, in_left}
use Rattle.transcript.proofs.Rows.{rows_law}
use Rattle.transcript.specs.Pieces.{Piece, closed, left_open, pieces, Covers, IsPieceOf}

-- what holds everywhere holds of a member
pub of_member : {X : Type 0} (P : X → Type 0) (xs : List X) (x : X) → Everywhere P xs → Somewhere (λ y. y ≡ x) xs → P x
of_member P [] x all there = absurd there
of_member P (y ∷ xs) x all there = ⊎_elim (λ here. subst P here all.0) (λ later. of_member P xs x all.1 later) there

-- what holds of all addresses of a transcript holds of each
at_address : (P : ℕ → Type 0) (ss : List Seen) (pc : ℕ) → Everywhere (λ s. P s.pc) ss → Somewhere (λ s. s.pc ≡ pc) ss → P pc
at_address P [] pc all there = absurd there
at_address P (s ∷ ss) pc all there = ⊎_elim (λ here. subst P here all.0) (λ later. at_address P ss pc all.1 later) there

-- words that go on, and then a control transfer
walk : (kinds : List WordKind) (n pc : ℕ) → ((k : ℕ) → k < n → get_or kinds k Stop ≡ GoesOn) → ends_piece (get_or kinds n Stop) ≡ true
    → first_transfer pc kinds ≡ Some (pc + 4 * n)
walk [] n pc each ends = absurd (cc ends)
walk (kind ∷ kinds) zero pc each ends = by_kind kind ends
  where
    same : pc ≡ pc + 4 * zero
    same = omega arith

    by_kind : (k : WordKind) → ends_piece k ≡ true → first_transfer pc (k ∷ kinds) ≡ Some (pc + 4 * zero)
    by_kind GoesOn is = absurd (cc is)
    by_kind Transfer is = ap Some same
    by_kind Branch is = ap Some same
    by_kind HistoryBranch is = ap Some same
    by_kind Stop is = absurd (cc is)
walk (kind ∷ kinds) (suc n) pc each ends =
    let rest = walk kinds n (pc + 4) (λ k less. each (suc k) (omega arith)) ends in
    let same : pc + 4 + 4 * n ≡ pc + 4 * suc n = omega arith in
    subst (λ (k : WordKind). first_transfer pc (k ∷ kinds) ≡ Some (pc + 4 * suc n)) (sym (each zero (omega arith))) (rest ∙ ap Some same)

goes_on : (kind : WordKind) → is_executable kind ≡ true → ends_piece kind ≡ false → kind ≡ GoesOn
goes_on GoesOn can on = refl
goes_on Transfer can on = absurd (cc on)
goes_on Branch can on = absurd (cc on)
goes_on HistoryBranch can on = absurd (cc on)
goes_on Stop can on = absurd (cc can)

-- where a word that can be executed stands
pub record StandsAt (kinds : List WordKind) (pc place : ℕ) : Type 0 where
  pub is : place_of pc ≡ Some place
  pub within : place < length kinds
  pub address : pc ≡ address_of place

stands_by : (kinds : List WordKind) (pc : ℕ) (found : Option ℕ) → place_of pc ≡ found
    → is_executable (unwrap_or (option_and_then (slice_get kinds) found) Stop) ≡ true → (place : ℕ) × StandsAt kinds pc place
stands_by kinds pc None is can = absurd (cc can)
stands_by kinds pc (Some place) is can =
    let kind : is_executable (get_or kinds place Stop) ≡ true = ap is_executable (sym (unwrap_or-slice_get kinds place Stop)) ∙ can in (
      place,
      record {
        is = is;
        within = elim (leb_tells (length kinds) place) [
          | inl past ↦ let none : false ≡ true = ap is_executable (sym (get_or_past kinds place Stop past.1)) ∙ kind in absurd (cc none)
          | inr below ↦ below.1
        ];
        address = address_of_place pc place is;
      },
    )

pub stands : (kinds : List WordKind) (pc : ℕ) → is_executable (kind_in kinds pc) ≡ true → (place : ℕ) × StandsAt kinds pc place
stands kinds pc can = stands_by kinds pc (place_of pc) refl can

kind_at_place : (kinds : List WordKind) (place : ℕ) → kind_in kinds (address_of place) ≡ get_or kinds place Stop
kind_at_place kinds place =
    ap (λ (found : Option ℕ). unwrap_or (option_and_then (slice_get kinds) found) Stop) (place_of_address place)
    ∙ unwrap_or-slice_get kinds place Stop

ends_there : (o : Object) (pc : ℕ) → ends_piece (kind_in (kinds_of_text o.text) pc) ≡ (facts_of o).transfers pc
ends_there o pc = ap ends_piece (kind_there o.text pc) ∙ sym (transfer_kind (instruction_at (object_image o) pc))

module _ (o : Object) (ss : List Seen) (transcript : IsTranscript o ss) (p : Piece) (there : Somewhere (λ q. q ≡ p) (closed (facts_of o) ss)) where
  pub piece_is : IsPieceOf (facts_of o) p
  piece_is = of_member (IsPieceOf (facts_of o)) (closed (facts_of o) ss) p (all_closed (facts_of o) ss transcript.runs_on) there

  -- each word of the piece can be executed
  pub executed : (pc : ℕ) → pc % 4 ≡ 0 → p.start ≤ pc → pc ≤ p.last → is_executable (kind_in (kinds_of_text o.text) pc) ≡ true
  executed pc aligned from to =
      let covered : Somewhere (Covers pc) (pieces (facts_of o) ss) =
      in_left (Covers pc) (closed (facts_of o) ss) (option_to_list (left_open (facts_of o) None ss))
      (at_one (Covers pc) (closed (facts_of o) ss) p (from, to) there) in
      at_address (λ (a : ℕ). is_executable (kind_in (kinds_of_text o.text) a) ≡ true) ss pc transcript.placed
      ((rows_law (facts_of o) ss pc aligned transcript.runs_on).0 covered)

  pub start_stands : (place : ℕ) × StandsAt (kinds_of_text o.text) p.start place
  start_stands = stands (kinds_of_text o.text) p.start (executed p.start piece_is.start_aligned (omega arith) piece_is.forward)

  pub last_stands : (place : ℕ) × StandsAt (kinds_of_text o.text) p.last place
  last_stands = stands (kinds_of_text o.text) p.last (executed p.last piece_is.last_aligned piece_is.forward (omega arith))

  -- the piece ends where the block ends that starts there
  pub end_of_piece : block_end (kinds_of_text o.text) p.start ≡ Some p.last
  end_of_piece =
      let kinds = kinds_of_text o.text in
      let place : ℕ = start_stands.0 in
      let start : p.start ≡ 65536 + 4 * place = start_stands.1.address in
      let n : ℕ = (p.last - p.start) / 4 in
      let first : p.start % 4 ≡ 0 = piece_is.start_aligned in
      let final : p.last % 4 ≡ 0 = piece_is.last_aligned in
      let forward : p.start ≤ p.last = piece_is.forward in
      let last : p.last ≡ p.start + 4 * n = omega (arith, first, final, forward) in
      let kind_of : (k : ℕ) → kind_in kinds (p.start + 4 * k) ≡ get_or (drop place kinds) k Stop =
      λ k.
      let same : p.start + 4 * k ≡ 65536 + 4 * (place + k) = omega (arith, start) in
      ap (kind_in kinds) same ∙ kind_at_place kinds (place + k) ∙ sym (get_or-drop place kinds k Stop) in
      let on : (k : ℕ) → k < n → get_or (drop place kinds) k Stop ≡ GoesOn =
      λ k less.
      let aligned : (p.start + 4 * k) % 4 ≡ 0 = omega (arith, first) in
      let before : p.start + 4 * k < p.last = omega (arith, last, less) in
      sym (kind_of k) ∙ goes_on (kind_in kinds (p.start + 4 * k))
      (executed (p.start + 4 * k) aligned (omega arith) (omega (arith, before)))
      (ends_there o (p.start + 4 * k) ∙ piece_is.unbroken (p.start + 4 * k) (omega arith) before aligned) in
      let ends : ends_piece (get_or (drop place kinds) n Stop) ≡ true =
      ap ends_piece (sym (kind_of n) ∙ ap (kind_in kinds) (sym last)) ∙ ends_there o p.last ∙ piece_is.closed in
      ap (option_and_then (λ (at : ℕ). first_transfer p.start (drop at kinds))) start_stands.1.is
      ∙ walk (drop place kinds) n p.start on ends
      ∙ ap Some (sym last)
