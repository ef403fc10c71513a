-- Parts of straight code, one behind the other.
use Rattle.std.proofs.Common.{◌≡◌, ℕ, ◌+◌, List, [], ◌∷◌, ◌++◌, map, refl, ap, ◌∙◌, append_assoc}
use Rattle.rv_isa.specs.declared.ops.BranchOp.TheVariants.{Bltu}
use Rattle.rv_isa.specs.declared.instr.Instr.{Instr}
use Rattle.rv_isa.specs.declared.instr.Instr.TheVariants.{Shift}
use Rattle.rv_isa.specs.declared.ops.ShiftOp.TheVariants as shifts
use Rattle.kernel_ir.specs.declared.simple.Operator.{Operator}
use Rattle.kernel_ir.specs.declared.simple.Relation.{Relation}
use Rattle.kernel_ir.specs.declared.simple.Relation.TheVariants as relation
use Rattle.kernel_code.specs.Line.{Line, plain, jump, checks}
use Rattle.kernel_code.specs.Words.{load_slot, store_slot, load_constant}
use Rattle.kernel_code.specs.SimpleCode.{branch, checked, measure, copy_loop, operate_front, operate_test, operate_back, raising, relate}

-- parts one behind the other
pub two_parts : (e0 e1 e2 a b : List Line) → e1 ≡ e0 ++ a → e2 ≡ e1 ++ b → e2 ≡ e0 ++ (a ++ b)
two_parts e0 e1 e2 a b h k = k ∙ ap (λ e. e ++ b) h ∙ append_assoc e0 a b

pub three_parts : (e0 e1 e2 e3 a b c : List Line) → e1 ≡ e0 ++ a → e2 ≡ e1 ++ b → e3 ≡ e2 ++ c → e3 ≡ e0 ++ (a ++ (b ++ c))
three_parts e0 e1 e2 e3 a b c h k l = two_parts e0 e1 e3 a (b ++ c) h (two_parts e1 e2 e3 b c k l)

pub four_parts : (e0 e1 e2 e3 e4 a b c d : List Line) → e1 ≡ e0 ++ a → e2 ≡ e1 ++ b → e3 ≡ e2 ++ c → e4 ≡ e3 ++ d → e4 ≡ e0 ++
    (a ++ (b ++ (c ++ d)))
four_parts e0 e1 e2 e3 e4 a b c d h k l m = two_parts e0 e1 e4 a (b ++ (c ++ d)) h (three_parts e1 e2 e3 e4 b c d k l m)

pub copy_put : (r p to from words count second turn : ℕ) (e0 e1 e2 e3 e4 : List Line)
    → count ≡ words → second ≡ p + 10 → turn ≡ p + 27
    → e1 ≡ e0 ++ checked r p (load_slot 10 from (measure count)) Bltu 11 13 []
    → e2 ≡ e1 ++ checked r second (load_slot 10 to (measure count)) Bltu 11 13 []
    → e3 ≡ e2 ++ map plain (Shift shifts.Slli 11 10 2 ∷ load_slot 10 from (Shift shifts.Slli 10 10 2 ∷ load_constant 13 words []))
    → e4 ≡ e3 ++ copy_loop turn
    → e4 ≡ e0 ++ (checked r p (load_slot 10 from (measure words)) Bltu 11 13 []
    ++ (checked r (p + 10) (load_slot 10 to (measure words)) Bltu 11 13
    (Shift shifts.Slli 11 10 2 ∷ load_slot 10 from (Shift shifts.Slli 10 10 2 ∷ load_constant 13 words []))
    ++ copy_loop (p + 27)))
copy_put r p to from words count second turn e0 e1 e2 e3 e4 hw hs ht h1 h2 h3 h4 =
    let check = checked r (p + 10) (load_slot 10 to (measure words)) Bltu 11 13 [] in
    let set = Shift shifts.Slli 11 10 2 ∷ load_slot 10 from (Shift shifts.Slli 10 10 2 ∷ load_constant 13 words []) in
    two_parts e0 e1 e4 (checked r p (load_slot 10 from (measure words)) Bltu 11 13 [])
    (checked r (p + 10) (load_slot 10 to (measure words)) Bltu 11 13 set ++ copy_loop (p + 27))
    (h1 ∙ (λ i. e0 ++ checked r p (load_slot 10 from (measure (hw i))) Bltu 11 13 []))
    (two_parts e1 e3 e4 (checked r (p + 10) (load_slot 10 to (measure words)) Bltu 11 13 set) (copy_loop (p + 27))
    (two_parts e1 e2 e3 check (map plain set) (h2 ∙ (λ i. e1 ++ checked r (hs i) (load_slot 10 to (measure (hw i))) Bltu 11 13 [])) h3)
    (h4 ∙ (λ i. e3 ++ copy_loop (ht i))))

-- what an operator puts behind its operands, as one
pub operator_put : (o : Operator) (past to r : ℕ) (e0 e1 : List Line)
    → e1 ≡ e0 ++ map plain (operate_front o ++ raising 1) ++
    (branch checks (operate_test o).op (operate_test o).left (operate_test o).right past ∷ jump r ∷ map plain
    (operate_back o (store_slot 14 to [])))
    → e1 ≡ e0 ++ (map plain (operate_front o ++ raising 1) ++
    (branch checks (operate_test o).op (operate_test o).left (operate_test o).right past ∷ jump r ∷ map plain
    (operate_back o (store_slot 14 to []))))
operator_put o past to r e0 e1 h =
    h ∙ append_assoc e0 (map plain (operate_front o ++ raising 1))
    (branch checks (operate_test o).op (operate_test o).left (operate_test o).right past ∷ jump r ∷ map plain
    (operate_back o (store_slot 14 to [])))

-- what relates two words, and what follows it
pub relate_behind : (r : Relation) (is : List Instr) → map plain (relate r []) ++ map plain is ≡ map plain (relate r is)
relate_behind relation.Equal is = refl
relate_behind relation.Unequal is = refl
relate_behind relation.Less is = refl
relate_behind relation.AtMost is = refl
relate_behind relation.Greater is = refl
relate_behind relation.AtLeast is = refl
