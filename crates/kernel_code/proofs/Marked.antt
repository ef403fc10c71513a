-- The marks of code, by its structure.
use Rattle.std.proofs.Common.{◌≡◌, ℕ, ◌+◌, ◌≤◌, ◌<◌, Bool, true, false, ◌&&◌, not, cond, List, [], ◌∷◌, ◌++◌, length, refl, sym, ap, subst, ◌∙◌, arith, append_assoc}
use Rattle.std.proofs.lemmas.List.{length-map}
use Rattle.rv_isa.specs.declared.ops.BranchOp.TheVariants as branch_op
use Rattle.assembler.specs.declared.piece.Item.{Item}
use Rattle.assembler.specs.declared.piece.Item.TheVariants.{Plain, Branch as BranchTo, Jump, Call}
use Rattle.assembler.specs.declared.piece.Mark.{Mark}
use Rattle.assembler.specs.declared.piece.Mark.TheVariants.{Row as RowMark, Role as RoleMark}
use Rattle.assembler.specs.Marks.{is_branch_item, branch_places, role_places, RowsRise}
use Rattle.kernel_ir.specs.Obligations.{Row, Condition}
use Rattle.kernel_code.specs.Line.{Line, Said, nothing, starts, decides, checks, steers, items_of, mark_of, marks_from}
use Rattle.kernel_code.specs.Marked.{becomes_candidate, candidate_places, rows_marked, conditions_marked, condition_places, IsMarked, CandidatesComeOfItems}

-- whether a role of a branch is said, and whether it is that of a condition
abbrev pub is_role : Said → Bool
is_role nothing = false
is_role (starts statement instance) = false
is_role (decides decision at_node instance) = true
is_role checks = true
is_role steers = true

abbrev pub is_condition : Said → Bool
is_condition nothing = false
is_condition (starts statement instance) = false
is_condition (decides decision at_node instance) = true
is_condition checks = false
is_condition steers = false

-- whether two tests come out the same
abbrev pub agree : Bool → Bool → Bool
agree true b = b
agree false b = not b

-- whether a role is said of a line just where it is a conditional branch, and that of a condition just
-- where it is BNE x10, x0
abbrev pub says_its_role : Line → Bool
says_its_role line =
    agree (is_branch_item line.item) (is_role line.said) && agree (becomes_candidate line.item) (is_condition line.said)

abbrev pub say_their_roles : List Line → Bool
say_their_roles [] = true
say_their_roles (line ∷ lines) = says_its_role line && say_their_roles lines

-- the statement that starts at an item, and the condition that it decides
abbrev pub row_in : Said → List Row
row_in (starts statement instance) = record { statement = statement; instance = instance } ∷ []
row_in other = []

abbrev pub condition_in : Said → List Condition
condition_in (decides decision at_node instance) =
    record { decision = decision; at_node = at_node; instance = instance } ∷ []
condition_in other = []

-- those of lines, in order
abbrev pub rows_in : List Line → List Row
rows_in [] = []
rows_in (line ∷ lines) = row_in line.said ++ rows_in lines

abbrev pub conditions_in : List Line → List Condition
conditions_in [] = []
conditions_in (line ∷ lines) = condition_in line.said ++ conditions_in lines

-- what lines of two parts say

pub rows_append : (xs ys : List Line) → rows_in (xs ++ ys) ≡ rows_in xs ++ rows_in ys
rows_append [] ys = refl
rows_append (x ∷ xs) ys = ap (λ rs. row_in x.said ++ rs) (rows_append xs ys) ∙ sym (append_assoc (row_in x.said) (rows_in xs) (rows_in ys))

pub conditions_append : (xs ys : List Line) → conditions_in (xs ++ ys) ≡ conditions_in xs ++ conditions_in ys
conditions_append [] ys = refl
conditions_append (x ∷ xs) ys = ap (λ cs. condition_in x.said ++ cs) (conditions_append xs ys) ∙ sym (append_assoc (condition_in x.said) (conditions_in xs) (conditions_in ys))

pub both_true : (a b : Bool) → a ≡ true → b ≡ true → (a && b) ≡ true
both_true a b p q = rw (p, q) refl

no_false : false ≡ true → ⊥
no_false is = subst IsFalse is tt
  where
    IsFalse : Bool → Type 0
    IsFalse true = ⊥
    IsFalse false = Unit {0}

left_true : (a b : Bool) → (a && b) ≡ true → a ≡ true
left_true true b p = refl
left_true false b p = p

right_true : (a b : Bool) → (a && b) ≡ true → b ≡ true
right_true true b p = p
right_true false b p = absurd (no_false p)

pub roles_append : (xs ys : List Line) → say_their_roles xs ≡ true → say_their_roles ys ≡ true → say_their_roles (xs ++ ys) ≡ true
roles_append [] ys p q = q
roles_append (x ∷ xs) ys p q =
    both_true (says_its_role x) (say_their_roles (xs ++ ys)) (left_true (says_its_role x) (say_their_roles xs) p)
    (roles_append xs ys (right_true (says_its_role x) (say_their_roles xs) p) q)

-- marks say what their lines say

marked_one : (said : Said) (place : ℕ) (marks : List Mark) → rows_marked (mark_of place said ++ marks) ≡ row_in said ++ rows_marked marks
marked_one nothing place marks = refl
marked_one (starts statement instance) place marks = refl
marked_one (decides decision at_node instance) place marks = refl
marked_one checks place marks = refl
marked_one steers place marks = refl

pub rows_of_marks : (place : ℕ) (lines : List Line) → rows_marked (marks_from place lines) ≡ rows_in lines
rows_of_marks place [] = refl
rows_of_marks place (line ∷ lines) = marked_one line.said place (marks_from (place + 1) lines) ∙ ap (λ rs. row_in line.said ++ rs) (rows_of_marks (place + 1) lines)

decided_one : (said : Said) (place : ℕ) (marks : List Mark) → conditions_marked (mark_of place said ++ marks) ≡ condition_in said ++ conditions_marked marks
decided_one nothing place marks = refl
decided_one (starts statement instance) place marks = refl
decided_one (decides decision at_node instance) place marks = refl
decided_one checks place marks = refl
decided_one steers place marks = refl

pub conditions_of_marks : (place : ℕ) (lines : List Line) → conditions_marked (marks_from place lines) ≡ conditions_in lines
conditions_of_marks place [] = refl
conditions_of_marks place (line ∷ lines) = decided_one line.said place (marks_from (place + 1) lines) ∙ ap (λ cs. condition_in line.said ++ cs) (conditions_of_marks (place + 1) lines)

-- rows rise, and roles are those of the branches

rows_rise_more : (from below end : ℕ) (marks : List Mark) → below ≤ from → RowsRise from end marks → RowsRise below end marks
rows_rise_more from below end [] least rise = tt
rows_rise_more from below end (RowMark item statement instance ∷ marks) least (low, high, rise) = (omega arith, high, rise)
rows_rise_more from below end (RoleMark item kind decision condition value instance ∷ marks) least rise =
    rows_rise_more from below end marks least rise

rise_one : (said : Said) (place end : ℕ) (marks : List Mark) → place < end → RowsRise (place + 1) end marks → RowsRise place end (mark_of place said ++ marks)
rise_one nothing place end marks below rise = rows_rise_more (place + 1) place end marks (omega arith) rise
rise_one (starts statement instance) place end marks below rise = (omega arith, below, rise)
rise_one (decides decision at_node instance) place end marks below rise = rows_rise_more (place + 1) place end marks (omega arith) rise
rise_one checks place end marks below rise = rows_rise_more (place + 1) place end marks (omega arith) rise
rise_one steers place end marks below rise = rows_rise_more (place + 1) place end marks (omega arith) rise

pub rows_rise : (place end : ℕ) (lines : List Line) → place + length lines ≤ end → RowsRise place end (marks_from place lines)
rows_rise place end [] fits = tt
rows_rise place end (line ∷ lines) fits = rise_one line.said place end (marks_from (place + 1) lines) (omega arith) (rows_rise (place + 1) end lines (omega arith))

role_one : (said : Said) (item : Item) (place : ℕ) (marks : List Mark) (places : List ℕ) → agree (is_branch_item item) (is_role said) ≡ true → role_places marks ≡ places
    → role_places (mark_of place said ++ marks) ≡ cond (is_branch_item item) (place ∷ places) places
role_one said item place marks places agrees same = by_test (is_branch_item item) said agrees
  where
    by_test : (branch : Bool) (s : Said) → agree branch (is_role s) ≡ true → role_places (mark_of place s ++ marks) ≡ cond branch (place ∷ places) places
    by_test true nothing is = absurd (no_false is)
    by_test true (starts statement instance) is = absurd (no_false is)
    by_test true (decides decision at_node instance) is = ap (λ ps. place ∷ ps) same
    by_test true checks is = ap (λ ps. place ∷ ps) same
    by_test true steers is = ap (λ ps. place ∷ ps) same
    by_test false nothing is = same
    by_test false (starts statement instance) is = same
    by_test false (decides decision at_node instance) is = absurd (no_false is)
    by_test false checks is = absurd (no_false is)
    by_test false steers is = absurd (no_false is)

pub roles_are_branches : (place : ℕ) (lines : List Line) → say_their_roles lines ≡ true → role_places (marks_from place lines) ≡ branch_places place (items_of lines)
roles_are_branches place [] said = refl
roles_are_branches place (line ∷ lines) said =
    role_one line.said line.item place (marks_from (place + 1) lines) (branch_places (place + 1) (items_of lines))
    (left_true (agree (is_branch_item line.item) (is_role line.said)) (agree (becomes_candidate line.item) (is_condition line.said)) (left_true (says_its_role line) (say_their_roles lines) said))
    (roles_are_branches (place + 1) lines (right_true (says_its_role line) (say_their_roles lines) said))

decided_place : (said : Said) (item : Item) (place : ℕ) (marks : List Mark) (places : List ℕ) → agree (becomes_candidate item) (is_condition said) ≡ true → condition_places marks ≡ places
    → condition_places (mark_of place said ++ marks) ≡ cond (becomes_candidate item) (place ∷ places) places
decided_place said item place marks places agrees same = by_test (becomes_candidate item) said agrees
  where
    by_test : (candidate : Bool) (s : Said) → agree candidate (is_condition s) ≡ true → condition_places (mark_of place s ++ marks) ≡ cond candidate (place ∷ places) places
    by_test true nothing is = absurd (no_false is)
    by_test true (starts statement instance) is = absurd (no_false is)
    by_test true (decides decision at_node instance) is = ap (λ ps. place ∷ ps) same
    by_test true checks is = absurd (no_false is)
    by_test true steers is = absurd (no_false is)
    by_test false nothing is = same
    by_test false (starts statement instance) is = same
    by_test false (decides decision at_node instance) is = absurd (no_false is)
    by_test false checks is = same
    by_test false steers is = same

pub conditions_are_candidates : (place : ℕ) (lines : List Line) → say_their_roles lines ≡ true → condition_places (marks_from place lines) ≡ candidate_places place (items_of lines)
conditions_are_candidates place [] said = refl
conditions_are_candidates place (line ∷ lines) said =
    decided_place line.said line.item place (marks_from (place + 1) lines) (candidate_places (place + 1) (items_of lines))
    (right_true (agree (is_branch_item line.item) (is_role line.said)) (agree (becomes_candidate line.item) (is_condition line.said)) (left_true (says_its_role line) (say_their_roles lines) said))
    (conditions_are_candidates (place + 1) lines (right_true (says_its_role line) (say_their_roles lines) said))

pub marked : (lines : List Line) (rows : List Row) (conditions : List Condition) → say_their_roles lines ≡ true → rows_in lines ≡ rows → conditions_in lines ≡ conditions
    → IsMarked lines rows conditions
marked lines rows conditions said rows_are conditions_are = record {
  marks = record {
    rows = rows_rise 0 (length (items_of lines)) lines (let same = length-map lines (λ line. line.item) in omega arith);
    roles = roles_are_branches 0 lines said;
  };
  rows = rows_of_marks 0 lines ∙ rows_are;
  conditions = conditions_of_marks 0 lines ∙ conditions_are;
  candidates = conditions_are_candidates 0 lines said;
}

-- instructions of items

pub candidates_come_of_items : CandidatesComeOfItems
candidates_come_of_items labels own address (Plain i) = refl
candidates_come_of_items labels own address (BranchTo branch_op.Beq rs1 rs2 to) = refl
candidates_come_of_items labels own address (BranchTo branch_op.Bne rs1 rs2 to) = refl
candidates_come_of_items labels own address (BranchTo branch_op.Blt rs1 rs2 to) = refl
candidates_come_of_items labels own address (BranchTo branch_op.Bge rs1 rs2 to) = refl
candidates_come_of_items labels own address (BranchTo branch_op.Bltu rs1 rs2 to) = refl
candidates_come_of_items labels own address (BranchTo branch_op.Bgeu rs1 rs2 to) = refl
candidates_come_of_items labels own address (Jump rd to) = refl
candidates_come_of_items labels own address (Call rd piece to) = refl
