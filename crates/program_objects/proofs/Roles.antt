-- The roles of a kernel are those of checks, of other control flow, and of its conditions, one for each branch.
use Rattle.std.proofs.Common.{◌≡◌, ℕ, ◌+◌, ◌≤◌, ◌<◌, ◌==◌, ◌&&◌, ◌||◌, cond, if◌then◌else◌, Bool, true, false, nat_lt, nat_le, List, [], ◌∷◌, ◌++◌, filter, length, map, slice_get, Option, Some, None, option_map, refl, sym, ap, ◌∙◌, subst, arith}
use Rattle.std.specs.List.{filter_map, cons_option, list_all, AllByRecursion}
use Rattle.std.proofs.lemmas.Bool.{and_parts}
use Rattle.std.proofs.lemmas.Bool.Decides.{nat_tests}
use Rattle.std.proofs.lemmas.List.{length-map}
use Rattle.assembler.proofs.Codes.{all_append}
use Rattle.assembler.specs.declared.piece.Mark.{Mark}
use Rattle.assembler.specs.declared.piece.Mark.TheVariants.{Row as RowMark, Role as RoleMark}
use Rattle.assembler.specs.declared.piece.Piece.{Piece}
use Rattle.assembler.specs.Placed.{labels, labels_at}
use Rattle.program_objects.proofs.Found.{IsOf, HaveConditions}
use Rattle.program_objects.specs.Held.{HoldsImage}
use Rattle.cov_base.specs.declared.obligations.DecEntry.{DecEntry}
use Rattle.cov_base.specs.Lists.{Everywhere}
use Rattle.kernel_code.proofs.PieceLaws.{pieces_are_marked}
use Rattle.kernel_code.specs.Calls.{first_layout, setting}
use Rattle.kernel_code.specs.Code.{start_lines, body_lines}
use Rattle.kernel_code.specs.FillCode.{layout_lines}
use Rattle.kernel_code.specs.Line.{Line, Said, nothing, starts, decides, checks, steers, mark_of, marks_from}
use Rattle.kernel_code.specs.Pieces.{body_piece, layout_pieces, kernel_pieces}
use Rattle.kernel_ir.specs.declared.kernel.Body.{Body}
use Rattle.kernel_ir.specs.declared.kernel.Kernel.{Kernel}
use Rattle.kernel_ir.specs.declared.kernel.Layout.{Layout}
use Rattle.line_table.specs.declared.roles.Role.{Role}
use Rattle.linker.proofs.Roles.{roles_are_branches}
use Rattle.linker.specs.Linked.{role_of, roles_from, linked}
use Rattle.object_format.specs.Fields.{is_role, is_other_role, is_condition_role, condition_count}
use Rattle.object_format.specs.RoleCheck.{branches_from, is_condition, condition_of, conditions_of, AreWhole, PassesRole}
use Rattle.object_format.specs.declared.object.Object.{Object}
use Rattle.rv_isa.specs.Control.{is_branch, holds}
use Rattle.rv_isa.specs.Decoding.{instr_of}

both_hold : (a b : Bool) → a ≡ true → b ≡ true → (a && b) ≡ true
both_hold a b p q = rw (p, q) refl

-- marks

-- the role of a check or of other control flow, or one of a condition, whose branch is taken where it is True
abbrev pub is_made_role : Role → Bool
is_made_role role = is_other_role role || ((role.kind.0 == 2) && (role.value == 1))

-- the mark is a row, or such a role
abbrev is_made_mark : Mark → Bool
is_made_mark (RowMark item statement instance) = true
is_made_mark (RoleMark item kind decision condition value instance) =
    (nat_lt kind.0 2 && (decision.0 == 0) && (condition.0 == 0) && (value == 0) && (instance.0 == 0)) || ((kind.0 == 2) && (value == 1))

abbrev AreMade : List Mark → Type 0
AreMade marks = list_all is_made_mark marks ≡ true

one_more : (place : ℕ) (said : Said) (marks : List Mark) → AreMade marks → AreMade (mark_of place said ++ marks)
one_more place nothing marks rest = rest
one_more place (starts statement instance) marks rest = rest
one_more place (decides decision at_node instance) marks rest = rest
one_more place checks marks rest = rest
one_more place steers marks rest = rest

lines_are_made : (place : ℕ) (lines : List Line) → AreMade (marks_from place lines)
lines_are_made place [] = refl
lines_are_made place (line ∷ lines) = one_more place line.said (marks_from (place + 1) lines) (lines_are_made (place + 1) lines)

-- pieces

abbrev PieceIsMade : Piece → Type 0
PieceIsMade piece = AreMade piece.marks

bodies_are_made : (k : Kernel) (bs : List Body) → AllByRecursion PieceIsMade (map (body_piece k) bs)
bodies_are_made k [] = tt
bodies_are_made k (b ∷ bs) = (lines_are_made 0 (body_lines (setting k b.width) b.code), bodies_are_made k bs)

layouts_are_made : (first l : ℕ) (xs : List Layout) → AllByRecursion PieceIsMade (layout_pieces first l xs)
layouts_are_made first l [] = tt
layouts_are_made first l (x ∷ xs) = (lines_are_made 0 (layout_lines first l x), layouts_are_made first (l + 1) xs)

pieces_are_made : (k : Kernel) → AllByRecursion PieceIsMade (kernel_pieces k)
pieces_are_made k = (
  lines_are_made 0 (start_lines k.main),
  all_append PieceIsMade (map (body_piece k) k.bodies) (layout_pieces (first_layout k) 0 k.layouts) (bodies_are_made k k.bodies) (layouts_are_made (first_layout k) 0 k.layouts),
)

-- roles

-- the role of a mark, where its item has an address
role_is_made : (f : ℕ → Role) (o : Option ℕ) (roles : List Role) (b : Bool) → ((address : ℕ) → is_made_role (f address) ≡ b) → b ≡ true → list_all is_made_role roles ≡ true
    → list_all is_made_role (cons_option (option_map f o) roles) ≡ true
role_is_made f None roles b is holds rest = rest
role_is_made f (Some address) roles b is holds rest = both_hold (is_made_role (f address)) (list_all is_made_role roles) (is address ∙ holds) rest

roles_of_marks : (own : List ℕ) (marks : List Mark) → AreMade marks → list_all is_made_role (filter_map (role_of own) marks) ≡ true
roles_of_marks own [] made = refl
roles_of_marks own (RowMark item statement instance ∷ marks) made = roles_of_marks own marks made
roles_of_marks own (RoleMark item kind decision condition value instance ∷ marks) made =
    let mark = is_made_mark (RoleMark item kind decision condition value instance) in
    let parts = and_parts mark (list_all is_made_mark marks) made in
    role_is_made (λ address. record { address = address; kind = kind; decision = decision; condition = condition; value = value; instance = instance })
    (slice_get own item.0) (filter_map (role_of own) marks) mark (λ address. refl) parts.0 (roles_of_marks own marks parts.1)

all_joined : (xs ys : List Role) → list_all is_made_role xs ≡ true → list_all is_made_role ys ≡ true → list_all is_made_role (xs ++ ys) ≡ true
all_joined [] ys front back = back
all_joined (x ∷ xs) ys front back =
    let parts = and_parts (is_made_role x) (list_all is_made_role xs) front in
    both_hold (is_made_role x) (list_all is_made_role (xs ++ ys)) parts.0 (all_joined xs ys parts.1 back)

roles_of_pieces : (all : List (List ℕ)) (own : ℕ) (pieces : List Piece) → AllByRecursion PieceIsMade pieces → list_all is_made_role (roles_from all own pieces) ≡ true
roles_of_pieces all own [] made = refl
roles_of_pieces all own (piece ∷ pieces) made =
    all_joined (filter_map (role_of (labels_at all own)) piece.marks) (roles_from all (own + 1) pieces)
    (roles_of_marks (labels_at all own) piece.marks made.0) (roles_of_pieces all (own + 1) pieces made.1)

-- the branches of a kernel belong to checks, to other control flow, or to conditions
pub roles_are_made : (k : Kernel) (init : List ℕ) → list_all is_made_role (linked (kernel_pieces k) init).roles ≡ true
roles_are_made k init = roles_of_pieces (labels (kernel_pieces k)) 0 (kernel_pieces k) (pieces_are_made k)

pub held_are_made : (k : Kernel) (o : Object) → HoldsImage k o → list_all is_made_role o.roles ≡ true
held_are_made k o holds = ap (list_all is_made_role) holds.roles ∙ roles_are_made k k.library

-- the conditions of decisions

module _ (entries : List DecEntry) (instances : ℕ) where
  -- such roles are roles of these decisions

  by_kind : (role : Role) (b : Bool) → is_condition role ≡ b → is_made_role role ≡ true → (b ≡ true → IsOf entries instances (condition_of role)) → is_role entries instances role ≡ true
  by_kind role true is made known =
      let k = known refl in
      let parts = value_of role is made in
      ap (λ c. is_other_role role || c) (both_hold _ _ (both_hold _ _ (both_hold (role.kind.0 == 2) (nat_lt role.condition.0 (condition_count (slice_get entries role.decision.0))) is (below_holds _ _ k.0)) parts) (below_holds _ _ k.1))
      ∙ or_true (is_other_role role)
    where
      below_holds : (a b : ℕ) → a < b → nat_lt a b ≡ true
      below_holds a b less = grind (arith, nat_tests)

      or_true : (a : Bool) → (a || true) ≡ true
      or_true true = refl
      or_true false = refl

      one_is_least : (n : ℕ) → (n == 1) ≡ true → nat_le n 1 ≡ true
      one_is_least n is = grind (arith, nat_tests)

      other_is_none : (n : ℕ) (d c v i : Bool) → (n == 2) ≡ true → (nat_lt n 2 && d && c && v && i) ≡ false
      other_is_none n d c v i two = ap (λ b. b && d && c && v && i) (let low : nat_lt n 2 ≡ false = grind (arith, nat_tests) in low)

      value_of : (r : Role) → is_condition r ≡ true → is_made_role r ≡ true → nat_le r.value 1 ≡ true
      value_of r two makes =
          one_is_least r.value (and_parts (r.kind.0 == 2) (r.value == 1)
          (sym (ap (λ b. b || ((r.kind.0 == 2) && (r.value == 1))) (other_is_none r.kind.0 (r.decision.0 == 0) (r.condition.0 == 0) (r.value == 0) (r.instance.0 == 0) two)) ∙ makes)).1
  by_kind role false is made known = ap (λ b. b || is_condition_role entries instances role) (other_of role is made)
    where
      drop_second : (a c d : Bool) → c ≡ false → (a || (c && d)) ≡ true → a ≡ true
      drop_second true c d none all = refl
      drop_second false true d none all = absurd (let x : ⊥ = cc in x)
      drop_second false false d none all = all

      other_of : (r : Role) → is_condition r ≡ false → is_made_role r ≡ true → is_other_role r ≡ true
      other_of r two makes = drop_second (is_other_role r) (r.kind.0 == 2) (r.value == 1) two makes

  roles_pass : (roles : List Role) → list_all is_made_role roles ≡ true → Everywhere (IsOf entries instances) (conditions_of roles) → list_all (is_role entries instances) roles ≡ true
  roles_pass [] made known = refl
  roles_pass (role ∷ roles) made known =
      let parts = and_parts (is_made_role role) (list_all is_made_role roles) made in
      by_test (is_condition role) refl parts.0 known (roles_pass roles parts.1)
    where
      by_test : (b : Bool) → is_condition role ≡ b → is_made_role role ≡ true
          → Everywhere (IsOf entries instances) (map condition_of (cond b (role ∷ filter is_condition roles) (filter is_condition roles)))
          → (Everywhere (IsOf entries instances) (conditions_of roles) → list_all (is_role entries instances) roles ≡ true) → list_all (is_role entries instances) (role ∷ roles) ≡ true
      by_test true is makes found rest =
          both_hold (is_role entries instances role) (list_all (is_role entries instances) roles) (by_kind role true is makes (λ e. found.0)) (rest found.1)
      by_test false is makes found rest =
          both_hold (is_role entries instances role) (list_all (is_role entries instances) roles) (by_kind role false is makes (λ e. absurd (let x : ⊥ = cc in x))) (rest found)

-- how many roles there are

branches_few : (address : ℕ) (words : List ℕ) → length (branches_from address words) ≤ length words
branches_few address [] = omega arith
branches_few address (word ∷ words) = by_test (holds is_branch (instr_of word)) (branches_few (address + 4) words)
  where
    by_test : (b : Bool) → length (branches_from (address + 4) words) ≤ length words
        → length (if b then address ∷ branches_from (address + 4) words else branches_from (address + 4) words) ≤ length (word ∷ words)
    by_test true few = omega (arith, few)
    by_test false few = omega (arith, few)

-- at most one for each word of the text
pub roles_few : (o : Object) → PassesRole o → length o.roles ≤ length o.text
roles_few o passes =
    omega (arith, sym (length-map o.roles (λ (role : Role). role.address)) ∙ ap length passes.branches, branches_few 0x10000 o.text)

-- an object that holds the image of a kernel, with conditions of these decisions in so many instances

module _ (entries : List DecEntry) (instances : ℕ) (k : Kernel) (o : Object) (holds : HoldsImage k o) (found : HaveConditions entries instances (conditions_of o.roles)) where
  pub held_are_roles : list_all (is_role entries instances) o.roles ≡ true
  held_are_roles = roles_pass entries instances o.roles (held_are_made k o holds) found.known

  pub held_passes : o.obligations.decisions ≡ entries → PassesRole o
  held_passes are = record {
    branches = ap (map (λ (role : Role). role.address)) holds.roles
        ∙ (roles_are_branches (kernel_pieces k) k.library (pieces_are_marked k).marks holds.items ∙ ap (branches_from 0x10000) (sym holds.text));
    single = found.single;
    whole = subst (λ ds. AreWhole ds (conditions_of o.roles)) (sym are) found.whole;
  }
