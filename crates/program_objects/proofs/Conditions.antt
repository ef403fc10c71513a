-- The conditions of the roles of linked pieces are those that the marks of the pieces name.
use Rattle.std.proofs.Common.{◌≡◌, ℕ, ◌+◌, ◌*◌, ◌<◌, ◌==◌, cond, if◌then◌else◌, Bool, true, false, List, [], ◌∷◌, ◌++◌, filter, length, map, drop, Option, option_map, refl, sym, ap, ◌∙◌, subst, arith}
use Rattle.std.specs.List.{filter_map, cons_option}
use Rattle.std.proofs.lemmas.List.{map-append}
use Rattle.assembler.specs.declared.piece.Item.{Item}
use Rattle.assembler.specs.declared.piece.Mark.{Mark}
use Rattle.assembler.specs.declared.piece.Mark.TheVariants.{Row as RowMark, Role as RoleMark}
use Rattle.assembler.specs.declared.piece.Piece.{Piece}
use Rattle.assembler.specs.Marks.{role_places, branch_places, is_branch_item}
use Rattle.assembler.specs.Placed.{words_of, labels_of, labels_from, labels_at, labels}
use Rattle.program_objects.specs.Held.{HoldsImage}
use Rattle.cov_base.specs.Lists.{Everywhere}
use Rattle.kernel_code.proofs.PieceLaws.{pieces_are_marked}
use Rattle.kernel_code.specs.Marked.{conditions_marked}
use Rattle.kernel_code.specs.Pieces.{kernel_pieces, conditions_of_pieces}
use Rattle.kernel_ir.specs.declared.kernel.Kernel.{Kernel}
use Rattle.kernel_ir.specs.Obligations.{Condition, conditions}
use Rattle.line_table.specs.declared.roles.Role.{Role}
use Rattle.linker.proofs.Roles.{drop_splits, own_labels_are}
use Rattle.linker.proofs.Words.{address_there}
use Rattle.linker.specs.Laws.{AllMarked}
use Rattle.linker.specs.Linked.{role_of, roles_from, linked}
use Rattle.object_format.specs.RoleCheck.{is_condition, condition_of, conditions_of}
use Rattle.object_format.specs.declared.object.Object.{Object}

-- the numbers of a condition
abbrev pub named : Condition → (ℕ × ℕ) × ℕ
named c = ((c.decision.0, c.instance.0), c.at_node)

-- the places of branches are places of items
places_within : (from : ℕ) (items : List Item) → Everywhere (λ place. place < from + length items) (branch_places from items)
places_within from [] = tt
places_within from (item ∷ items) = by_test (is_branch_item item) (wider (branch_places (from + 1) items) (places_within (from + 1) items))
  where
    wider : (places : List ℕ) → Everywhere (λ place. place < from + 1 + length items) places → Everywhere (λ place. place < from + length (item ∷ items)) places
    wider [] within = tt
    wider (p ∷ ps) within = (omega (arith, within.0), wider ps within.1)

    by_test : (b : Bool) → Everywhere (λ place. place < from + length (item ∷ items)) (branch_places (from + 1) items)
        → Everywhere (λ place. place < from + length (item ∷ items)) (if b then from ∷ branch_places (from + 1) items else branch_places (from + 1) items)
    by_test true later = (omega arith, later)
    by_test false later = later

-- one role more
one_more : (role : Role) (roles : List Role) (found : List ((ℕ × ℕ) × ℕ)) (b : Bool) → is_condition role ≡ b → conditions_of roles ≡ found
    → conditions_of (role ∷ roles) ≡ (if b then condition_of role ∷ found else found)
one_more role roles found true is rest = ap (λ c. map condition_of (cond c (role ∷ filter is_condition roles) (filter is_condition roles))) is ∙ ap (λ xs. condition_of role ∷ xs) rest
one_more role roles found false is rest = ap (λ c. map condition_of (cond c (role ∷ filter is_condition roles) (filter is_condition roles))) is ∙ rest

named_if : (b : Bool) (c : Condition) (cs : List Condition) → map named (if b then c ∷ cs else cs) ≡ (if b then named c ∷ map named cs else map named cs)
named_if true c cs = refl
named_if false c cs = refl

conditions_in_piece : (base : ℕ) (items : List Item) (marks : List Mark) → Everywhere (λ place. place < length items) (role_places marks)
    → conditions_of (filter_map (role_of (labels_of base items)) marks) ≡ map named (conditions_marked marks)
conditions_in_piece base items [] within = refl
conditions_in_piece base items (RowMark item statement instance ∷ marks) within = conditions_in_piece base items marks within
conditions_in_piece base items (RoleMark item kind decision condition value instance ∷ marks) within =
    subst
    (λ (o : Option ℕ). conditions_of (cons_option
    (option_map (λ a. record { address = a; kind = kind; decision = decision; condition = condition; value = value; instance = instance }) o)
    (filter_map (role_of (labels_of base items)) marks))
    ≡ map named (conditions_marked (RoleMark item kind decision condition value instance ∷ marks)))
    (sym (address_there base items item.0 within.0))
    (one_more (record { address = _; kind = kind; decision = decision; condition = condition; value = value; instance = instance })
    (filter_map (role_of (labels_of base items)) marks) (map named (conditions_marked marks)) (kind.0 == 2) refl (conditions_in_piece base items marks within.1)
    ∙ sym (named_if (kind.0 == 2) (record { decision = decision; at_node = condition.0; instance = instance }) (conditions_marked marks)))

filter_joined : (xs ys : List Role) → conditions_of (xs ++ ys) ≡ conditions_of xs ++ conditions_of ys
filter_joined [] ys = refl
filter_joined (x ∷ xs) ys = by_test (is_condition x) (filter_joined xs ys)
  where
    by_test : (b : Bool) → conditions_of (xs ++ ys) ≡ conditions_of xs ++ conditions_of ys
        → map condition_of (cond b (x ∷ filter is_condition (xs ++ ys)) (filter is_condition (xs ++ ys)))
        ≡ map condition_of (cond b (x ∷ filter is_condition xs) (filter is_condition xs)) ++ conditions_of ys
    by_test true rest = ap (λ cs. condition_of x ∷ cs) rest
    by_test false rest = rest

conditions_from : (all : List (List ℕ)) (own address : ℕ) (pieces : List Piece) → AllMarked pieces → drop own all ≡ labels_from address pieces
    → conditions_of (roles_from all own pieces) ≡ map named (conditions_of_pieces pieces)
conditions_from all own address [] marked is_left = refl
conditions_from all own address (p ∷ ps) marked is_left =
    let next = address + 4 * words_of p.items in
    let first = labels_of address p.items in
    let split = drop_splits all own first (labels_from next ps) is_left in
    let own_is = own_labels_are all own first (labels_from next ps) is_left in
    let zero_first : 0 + length p.items ≡ length p.items = omega arith in
    let within : Everywhere (λ place. place < length p.items) (role_places p.marks) =
    subst (λ places. Everywhere (λ place. place < length p.items) places) (sym marked.0.roles)
    (subst (λ n. Everywhere (λ place. place < n) (branch_places 0 p.items)) zero_first (places_within 0 p.items)) in
    filter_joined (filter_map (role_of (labels_at all own)) p.marks) (roles_from all (own + 1) ps)
    ∙ (ap (λ ls. conditions_of (filter_map (role_of ls) p.marks) ++ conditions_of (roles_from all (own + 1) ps)) own_is
    ∙ (ap (λ cs. cs ++ conditions_of (roles_from all (own + 1) ps)) (conditions_in_piece address p.items p.marks within)
    ∙ (ap (λ cs. map named (conditions_marked p.marks) ++ cs) (conditions_from all (own + 1) next ps marked.1 split.1)
    ∙ sym (map-append named (conditions_marked p.marks) (conditions_of_pieces ps)))))

-- the roles of linked pieces have the conditions that the marks of the pieces name
pub conditions_of_linked : (pieces : List Piece) (init : List ℕ) → AllMarked pieces → conditions_of (linked pieces init).roles ≡ map named (conditions_of_pieces pieces)
conditions_of_linked pieces init marked = conditions_from (labels pieces) 0 0x10000 pieces marked refl

-- those of an object that holds the image of a kernel are the kernel's
pub conditions_held : (k : Kernel) (o : Object) → HoldsImage k o → conditions_of o.roles ≡ map named (conditions k)
conditions_held k o holds =
    let marked = pieces_are_marked k in
    ap conditions_of holds.roles ∙ (conditions_of_linked (kernel_pieces k) k.library marked.marks ∙ ap (map named) marked.conditions_named)
