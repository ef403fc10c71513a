-- Where words of text stand.
use Rattle.std.proofs.Common.{◌≡◌, ℕ, ◌+◌, ◌-◌, ◌*◌, ◌/◌, ◌%◌, ◌<◌, ◌≤◌, ◌&&◌, List, length, get_or, Option, Some, None, refl, sym, ◌∙◌, eqb-true, eqb, arith, inl, inr, unwrap_or, option_and_then, slice_get}
use Rattle.std.proofs.Math.Dec.{leb}
use Rattle.std.proofs.lemmas.Bool.{and_parts, le-leb, leb-true}
use Rattle.std.proofs.lemmas.Bool.Decides.{leb_tells}
use Rattle.std.proofs.lemmas.List.{get_or_past}
use Rattle.std.proofs.lemmas.Option.{unwrap_or-slice_get, cond_some}
use Rattle.decision_map.specs.declared.kind.WordKind.{WordKind}
use Rattle.decision_map.specs.declared.kind.WordKind.TheVariants.{Branch, Stop}
use Rattle.decision_map.specs.Kinds.{address_of, place_of, kind_in}

-- where a branch stands
pub record StandsAt (kinds : List WordKind) (pc place : ℕ) : Type 0 where
  pub is : place_of pc ≡ Some place
  pub address : pc ≡ address_of place
  pub within : place < length kinds
  pub kind : get_or kinds place Stop ≡ Branch

pub place_of_address : (place : ℕ) → place_of (address_of place) ≡ Some place
place_of_address place =
    let aligned : (65536 + 4 * place) % 4 ≡ 0 = omega arith in
    let back : (65536 + 4 * place - 65536) / 4 ≡ place = omega arith in
    let above : 65536 ≤ 65536 + 4 * place = omega arith in
    rw (le-leb 65536 (65536 + 4 * place) above, aligned, back) refl

pub address_of_place : (pc place : ℕ) → place_of pc ≡ Some place → pc ≡ address_of place
address_of_place pc place is =
    let passed = cond_some (leb 65536 pc && eqb (pc % 4) 0) ((pc - 65536) / 4) place is in
    let tests = and_parts (leb 65536 pc) (eqb (pc % 4) 0) passed.0 in
    let above : 65536 ≤ pc = leb-true 65536 pc tests.0 in
    let aligned : pc % 4 ≡ 0 = eqb-true (pc % 4) 0 tests.1 in
    let at : (pc - 65536) / 4 ≡ place = passed.1 in
    omega arith

-- where a branch stands whose place is known
stands_by : (kinds : List WordKind) (pc : ℕ) (found : Option ℕ) → place_of pc ≡ found
    → unwrap_or (option_and_then (slice_get kinds) found) Stop ≡ Branch → (place : ℕ) × StandsAt kinds pc place
stands_by kinds pc None at is = cc
stands_by kinds pc (Some place) at is =
    let kind : get_or kinds place Stop ≡ Branch = sym (unwrap_or-slice_get kinds place Stop) ∙ is in (
      place,
      record {
        is = at;
        address = address_of_place pc place at;
        within = elim (leb_tells (length kinds) place) [
          | inl past ↦ let none : get_or kinds place Stop ≡ Stop = get_or_past kinds place Stop past.1 in cc
          | inr below ↦ below.1
        ];
        kind = kind;
      },
    )

pub branch_stands : (kinds : List WordKind) (pc : ℕ) → kind_in kinds pc ≡ Branch → (place : ℕ) × StandsAt kinds pc place
branch_stands kinds pc is = stands_by kinds pc (place_of pc) refl is
