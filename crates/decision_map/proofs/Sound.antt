-- What the object's own checks say is what a map needs.
use Rattle.std.proofs.Common.{◌≡◌, ℕ, suc, zero, ◌+◌, ◌*◌, ◌<◌, ◌≤◌, Bool, true, false, cond, List, [], ◌∷◌, length, map, All, get_or, Option, Some, None, refl, sym, ap, ◌∙◌, arith, unwrap_or, option_and_then, slice_get}
use Rattle.std.proofs.lemmas.Bool.{and_parts, leb-true}
use Rattle.std.proofs.lemmas.List.{length-map, get_or-map}
use Rattle.std.proofs.lemmas.List.Elements.{All-from_recursion}
use Rattle.std.proofs.lemmas.Option.{unwrap_or-slice_get}
use Rattle.cov_base.specs.declared.obligations.DecEntry.{DecEntry}
use Rattle.cov_base.specs.Expr.{Expr, IsPostfixOf}
use Rattle.line_table.specs.declared.roles.Role.{Role}
use Rattle.object_format.specs.declared.object.Object.{Object}
use Rattle.object_format.specs.Checked.{IsSound}
use Rattle.object_format.specs.Decisions.{AreExpression, PassesDecision}
use Rattle.object_format.specs.Fields.{passes_field}
use Rattle.object_format.specs.RoleCheck.{branches_from, PassesRole}
use Rattle.rv_isa.specs.declared.instr.Instr.{Instr}
use Rattle.rv_isa.specs.declared.instr.Instr.TheVariants.{Upper, Jal, Jalr, Branch as ConditionalBranch, Load, Store, Immediate, Shift, Register, Fence, Ecall, Ebreak}
use Rattle.rv_isa.specs.Decoding.{instr_of}
use Rattle.rv_isa.specs.Control.{is_branch, holds}
use Rattle.decision_map.specs.declared.kind.WordKind.TheVariants.{Branch, Stop}
use Rattle.decision_map.specs.Kinds.{kind_of_instr, kind_of_word, kind_in, kinds_of_text}
use Rattle.decision_map.specs.Roles.{IsMappable}
use Rattle.decision_map.proofs.Standing.{place_of_address}

kind_of_branch : (i : Option Instr) → holds is_branch i ≡ true → kind_of_instr i ≡ Branch
kind_of_branch None is = cc
kind_of_branch (Some (Upper op rd imm)) is = cc
kind_of_branch (Some (Jal rd halves)) is = cc
kind_of_branch (Some (Jalr rd rs1 imm)) is = cc
kind_of_branch (Some (ConditionalBranch op rs1 rs2 halves)) is = refl
kind_of_branch (Some (Load op rd rs1 imm)) is = cc
kind_of_branch (Some (Store op rs1 rs2 imm)) is = cc
kind_of_branch (Some (Immediate op rd rs1 imm)) is = cc
kind_of_branch (Some (Shift op rd rs1 by)) is = cc
kind_of_branch (Some (Register op rd rs1 rs2)) is = cc
kind_of_branch (Some (Fence rd rs1 imm)) is = cc
kind_of_branch (Some Ecall) is = cc
kind_of_branch (Some Ebreak) is = cc

branch_word : (word : ℕ) → holds is_branch (instr_of word) ≡ true → kind_of_word word ≡ Branch
unfolding kind_of_word
branch_word word is = kind_of_branch (instr_of word) is

-- where the address of a branch stands among words from an address on
pub record BranchAt (from : ℕ) (words : List ℕ) (address : ℕ) : Type 0 where
  pub place : ℕ
  pub is : address ≡ from + 4 * place
  pub within : place < length words
  pub branch : kind_of_word (get_or words place 0) ≡ Branch

later : (from : ℕ) (word : ℕ) (words : List ℕ) (address : ℕ) → BranchAt (from + 4) words address → BranchAt from (word ∷ words) address
later from word words address at = record {
  place = suc at.place;
  is = omega (arith, at.is);
  within = omega (arith, at.within);
  branch = at.branch;
}

each_branch : (from : ℕ) (words : List ℕ) (i : ℕ) → i < length (branches_from from words) → BranchAt from words (get_or (branches_from from words) i 0)
each_branch from [] i within = absurd (omega arith)
each_branch from (word ∷ words) i within = by_word (holds is_branch (instr_of word)) refl i within (each_branch (from + 4) words)
  where
    by_word : (b : Bool) → holds is_branch (instr_of word) ≡ b → (i : ℕ) → i < length (cond b (from ∷ branches_from (from + 4) words) (branches_from (from + 4) words))
        → ((j : ℕ) → j < length (branches_from (from + 4) words) → BranchAt (from + 4) words (get_or (branches_from (from + 4) words) j 0))
        → BranchAt from (word ∷ words) (get_or (cond b (from ∷ branches_from (from + 4) words) (branches_from (from + 4) words)) i 0)
    by_word true is zero within each = record { place = zero; is = omega arith; within = omega arith; branch = branch_word word is }
    by_word true is (suc i) within each = later from word words (get_or (branches_from (from + 4) words) i 0) (each i (omega arith))
    by_word false is i within each = later from word words (get_or (branches_from (from + 4) words) i 0) (each i within)

branches_rise : (from : ℕ) (words : List ℕ) (i j : ℕ) → i < j → j < length (branches_from from words)
    → get_or (branches_from from words) i 0 < get_or (branches_from from words) j 0
branches_rise from [] i j before within = absurd (omega arith)
branches_rise from (word ∷ words) i j before within = by_word (holds is_branch (instr_of word)) i j before within (branches_rise (from + 4) words)
  where
    by_word : (b : Bool) (i j : ℕ) → i < j → j < length (cond b (from ∷ branches_from (from + 4) words) (branches_from (from + 4) words))
        → ((i j : ℕ) → i < j → j < length (branches_from (from + 4) words) → get_or (branches_from (from + 4) words) i 0 < get_or (branches_from (from + 4) words) j 0)
        → get_or (cond b (from ∷ branches_from (from + 4) words) (branches_from (from + 4) words)) i 0
        < get_or (cond b (from ∷ branches_from (from + 4) words) (branches_from (from + 4) words)) j 0
    by_word true i zero before within each = absurd (omega arith)
    by_word true zero (suc j) before within each =
        let at = each_branch (from + 4) words j (omega arith) in omega (arith, at.is)
    by_word true (suc i) (suc j) before within each = each i j (omega arith) (omega arith)
    by_word false i j before within each = each i j before within

-- a branch of the text has its kind at its address
kind_there : (text : List ℕ) (address : ℕ) → BranchAt 65536 text address → kind_in (kinds_of_text text) address ≡ Branch
kind_there text address at =
    ap (λ (pc : ℕ). kind_in (kinds_of_text text) pc) at.is
    ∙ ap (λ (found : Option ℕ). unwrap_or (option_and_then (slice_get (kinds_of_text text)) found) Stop) (place_of_address at.place)
    ∙ unwrap_or-slice_get (kinds_of_text text) at.place Stop
    ∙ get_or-map kind_of_word text at.place 0 Stop at.within
    ∙ at.branch

few_words : (o : Object) → passes_field o ≡ true → length o.text ≤ 4194304
few_words o passes =
    let placed = (and_parts _ _ (and_parts _ _ (and_parts _ _ (and_parts _ _ passes).0).0).0).0 in
    let words = (and_parts _ _ (and_parts _ _ (and_parts _ _ (and_parts _ _ placed).0).0).0).0 in
    leb-true (length o.text) 4194304 (and_parts _ _ words).1

-- text of few words, roles at its conditional branches, and decisions whose bytes spell expressions
pub mappable_by : (o : Object) → length o.text ≤ 4194304 → map (λ (r : Role). r.address) o.roles ≡ branches_from 65536 o.text
    → All (λ (d : DecEntry). (e : Expr) × IsPostfixOf d.expression.postfix e) o.obligations.decisions → IsMappable o
mappable_by o few branches spelled =
    let addresses : List ℕ = branches_from 65536 o.text in
    let long : length o.roles ≡ length addresses =
    sym (length-map o.roles (λ (r : Role). r.address)) ∙ ap (λ (xs : List ℕ). length xs) branches in
    let address_is : (k : ℕ) (d : Role) → k < length o.roles → (get_or o.roles k d).address ≡ get_or addresses k 0 =
    λ k d within. sym (get_or-map (λ (r : Role). r.address) o.roles k d 0 within) ∙ ap (λ (xs : List ℕ). get_or xs k 0) branches in
    record {
      few = few;
      rise = λ i j d before within.
          omega (arith, address_is i d (omega arith), address_is j d within, branches_rise 65536 o.text i j before (omega (arith, long)));
      branches = λ k d within.
          ap (λ (pc : ℕ). kind_in (kinds_of_text o.text) pc) (address_is k d within)
          ∙ kind_there o.text (get_or addresses k 0) (each_branch 65536 o.text k (omega (arith, long)));
      spelled = spelled;
    }

pub mappable : (o : Object) → passes_field o ≡ true → PassesDecision o → PassesRole o → IsMappable o
mappable o field decision role =
    mappable_by o (few_words o field) role.branches (λ k d within.
    let there = All-from_recursion (λ (e : DecEntry). AreExpression e.expression.postfix (length e.conditions)) o.obligations.decisions decision k d within in
    (there.0, there.1))

pub sound_mappable : (o : Object) → IsSound o → IsMappable o
sound_mappable o sound = mappable o sound.field sound.decision sound.role
