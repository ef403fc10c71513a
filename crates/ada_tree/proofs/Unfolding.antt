-- Unfolding the types of a program: without a type nothing changes, and the obligations and the objects of a body stay what they are.
use Rattle.std.proofs.Common.{◌≡◌, ℕ, zero, suc, List, [], ◌∷◌, ◌++◌, map, option_map, slice_get, refl, ap, ◌||◌}
use Rattle.std.specs.Prelude.{unwrap_or}
use Rattle.cov_base.specs.Lists.{Everywhere}
use Rattle.ada_meaning.specs.Collected.{in_value, in_decision, in_expr, in_parts, in_turns, in_declarations, in_stmt, in_stmts, in_branches, in_alternatives, in_handlers, in_block, declaration_labels, labels, all_labels, branch_labels, alternative_labels, handler_labels, block_labels, after_if, after_while}
use Rattle.ada_meaning.specs.Declared.{gives, some_gives, branch_gives, alternative_gives, handler_gives, block_gives}
use Rattle.ada_meaning.specs.Objects.{number_of, objects, all_objects, branch_objects, alternative_objects, handler_objects, block_objects}
use Rattle.ada_meaning.specs.Seen.{subtype_seen}
use Rattle.ada_meaning.specs.Types.{Subtype, scalar, array, fields, subtype_of, Components, no_component, and_component}
use Rattle.ada_meaning.specs.Tree as tree
use Rattle.ada_tree.specs.declared.types.CompositeType.{CompositeType}
use Rattle.ada_tree.specs.declared.types.CompositeType.TheVariants as composite
use Rattle.ada_tree.specs.declared.types.TypeDeclaration.{TypeDeclaration}
use Rattle.ada_tree.specs.View.{numbered, composite_of}
use Rattle.ada_tree.specs.Programs.{types_behind, types_of, unfolded, unfolded_components, unfolded_value, unfolded_declaration, unfolded_statement, unfolded_statements, unfolded_branches, unfolded_alternatives, unfolded_handlers, unfolded_block}

-- without a table nothing changes
mutual
  type_stays : (t : Subtype) → unfolded [] t ≡ t
  type_stays (scalar r) = refl
  type_stays (array r t) = ap (array r) (type_stays t)
  type_stays (fields cs) = ap fields (components_stay cs)
  type_stays (subtype_of n (fields no_component)) = refl
  type_stays (subtype_of n (fields (and_component t cs))) = ap (λ ds. subtype_of n (fields ds)) (components_stay (and_component t cs))
  type_stays (subtype_of n (scalar r)) = refl
  type_stays (subtype_of n (array r t)) = ap (λ u. subtype_of n (array r u)) (type_stays t)
  type_stays (subtype_of n (subtype_of i (fields no_component))) = refl
  type_stays (subtype_of n (subtype_of i (fields (and_component t cs)))) = ap (λ ds. subtype_of n (subtype_of i (fields ds))) (components_stay (and_component t cs))
  type_stays (subtype_of n (subtype_of i (scalar r))) = refl
  type_stays (subtype_of n (subtype_of i (array r t))) = ap (λ u. subtype_of n (subtype_of i (array r u))) (type_stays t)
  type_stays (subtype_of n (subtype_of i (subtype_of j t))) = ap (subtype_of n) (type_stays (subtype_of i (subtype_of j t)))

  components_stay : (cs : Components) → unfolded_components [] cs ≡ cs
  components_stay no_component = refl
  components_stay (and_component t cs) = λ i. and_component (type_stays t i) (components_stay cs i)

value_stays : (v : tree.NewValue) → unfolded_value [] v ≡ v
value_stays (tree.scalar_value r e) = refl
value_stays (tree.composite_value t o parts) = ap (λ u. tree.composite_value u o parts) (type_stays t)
value_stays (tree.others_value r v) = ap (tree.others_value r) (value_stays v)

declarations_stay : (ds : List tree.Declaration) → map (unfolded_declaration []) ds ≡ ds
declarations_stay [] = refl
declarations_stay (tree.initialized l d v ∷ ds) = λ i. tree.initialized l d (value_stays v i) ∷ declarations_stay ds i
declarations_stay (tree.without_value d t ∷ ds) = λ i. tree.without_value d (type_stays t i) ∷ declarations_stay ds i

mutual
  statement_stays : (s : tree.Stmt) → unfolded_statement [] s ≡ s
  statement_stays (tree.null_statement l) = refl
  statement_stays (tree.assignment l o parts v) = ap (tree.assignment l o parts) (value_stays v)
  statement_stays (tree.procedure_call l c actuals) = refl
  statement_stays (tree.if_statement l bs) = ap (tree.if_statement l) (branches_stay bs)
  statement_stays (tree.case_statement l e choices) = ap (tree.case_statement l e) (alternatives_stay choices)
  statement_stays (tree.bare_loop l ss) = ap (tree.bare_loop l) (statements_stay ss)
  statement_stays (tree.while_loop l d t ss) = ap (tree.while_loop l d t) (statements_stay ss)
  statement_stays (tree.for_loop l d reversed ts ss) = ap (tree.for_loop l d reversed ts) (statements_stay ss)
  statement_stays (tree.exit_statement l) = refl
  statement_stays (tree.exit_when l d t) = refl
  statement_stays (tree.return_statement l) = refl
  statement_stays (tree.return_value l r e) = refl
  statement_stays (tree.raise_statement l x) = refl
  statement_stays (tree.raise_again l) = refl
  statement_stays (tree.block_statement b) = ap tree.block_statement (block_stays b)

  statements_stay : (ss : tree.Stmts) → unfolded_statements [] ss ≡ ss
  statements_stay tree.no_statement = refl
  statements_stay (tree.and_statement s ss) = λ i. tree.and_statement (statement_stays s i) (statements_stay ss i)

  branches_stay : (bs : tree.Branches) → unfolded_branches [] bs ≡ bs
  branches_stay (tree.else_part ss) = ap tree.else_part (statements_stay ss)
  branches_stay (tree.branch d t ss bs) = λ i. tree.branch d t (statements_stay ss i) (branches_stay bs i)

  alternatives_stay : (xs : tree.Alternatives) → unfolded_alternatives [] xs ≡ xs
  alternatives_stay tree.no_alternative = refl
  alternatives_stay (tree.alternative cs ss xs) = λ i. tree.alternative cs (statements_stay ss i) (alternatives_stay xs i)

  handlers_stay : (hs : tree.Handlers) → unfolded_handlers [] hs ≡ hs
  handlers_stay tree.no_handler = refl
  handlers_stay (tree.handler cs ss hs) = λ i. tree.handler cs (statements_stay ss i) (handlers_stay hs i)

  pub block_stays : (b : tree.Block) → unfolded_block [] b ≡ b
  block_stays (tree.block ds ss hs) = λ i. tree.block (declarations_stay ds i) (statements_stay ss i) (handlers_stay hs i)

-- what a table of types leaves
module _ (types : List Subtype) where
  value_decisions : (n : ℕ) (v : tree.NewValue) → in_value n (unfolded_value types v) ≡ in_value n v
  value_decisions n (tree.scalar_value r e) = refl
  value_decisions n (tree.composite_value t o parts) = refl
  value_decisions n (tree.others_value r v) = value_decisions n v

  declared_decisions : (ds : List tree.Declaration) → in_declarations (map (unfolded_declaration types) ds) ≡ in_declarations ds
  declared_decisions [] = refl
  declared_decisions (tree.initialized l d v ∷ ds) = λ i. value_decisions l.number v i ++ declared_decisions ds i
  declared_decisions (tree.without_value d t ∷ ds) = declared_decisions ds

  declared_labels : (ds : List tree.Declaration) → declaration_labels (map (unfolded_declaration types) ds) ≡ declaration_labels ds
  declared_labels [] = refl
  declared_labels (tree.initialized l d v ∷ ds) = ap (λ ls. l ∷ ls) (declared_labels ds)
  declared_labels (tree.without_value d t ∷ ds) = declared_labels ds

  declared_objects : (ds : List tree.Declaration) → map number_of (map (unfolded_declaration types) ds) ≡ map number_of ds
  declared_objects [] = refl
  declared_objects (tree.initialized l d v ∷ ds) = ap (λ ns. d ∷ ns) (declared_objects ds)
  declared_objects (tree.without_value d t ∷ ds) = ap (λ ns. d ∷ ns) (declared_objects ds)

  mutual
    statement_decisions : (s : tree.Stmt) → in_stmt (unfolded_statement types s) ≡ in_stmt s
    statement_decisions (tree.null_statement l) = refl
    statement_decisions (tree.assignment l o parts v) = ap (λ hs. in_parts l.number parts ++ hs) (value_decisions l.number v)
    statement_decisions (tree.procedure_call l c actuals) = refl
    statement_decisions (tree.if_statement l bs) = branch_decisions l.number bs
    statement_decisions (tree.case_statement l e choices) = ap (λ hs. in_expr l.number e ++ hs) (alternative_decisions choices)
    statement_decisions (tree.bare_loop l ss) = statements_decisions ss
    statement_decisions (tree.while_loop l d t ss) = ap (λ hs. in_decision l.number after_while d t ++ hs) (statements_decisions ss)
    statement_decisions (tree.for_loop l d reversed ts ss) = ap (λ hs. in_turns l.number ts ++ hs) (statements_decisions ss)
    statement_decisions (tree.exit_statement l) = refl
    statement_decisions (tree.exit_when l d t) = refl
    statement_decisions (tree.return_statement l) = refl
    statement_decisions (tree.return_value l r e) = refl
    statement_decisions (tree.raise_statement l x) = refl
    statement_decisions (tree.raise_again l) = refl
    statement_decisions (tree.block_statement b) = block_decisions b

    statements_decisions : (ss : tree.Stmts) → in_stmts (unfolded_statements types ss) ≡ in_stmts ss
    statements_decisions tree.no_statement = refl
    statements_decisions (tree.and_statement s ss) = λ i. statement_decisions s i ++ statements_decisions ss i

    branch_decisions : (n : ℕ) (bs : tree.Branches) → in_branches n (unfolded_branches types bs) ≡ in_branches n bs
    branch_decisions n (tree.else_part ss) = statements_decisions ss
    branch_decisions n (tree.branch d t ss bs) =
        λ i. in_decision n after_if d t ++ statements_decisions ss i ++ branch_decisions n bs i

    alternative_decisions : (xs : tree.Alternatives) → in_alternatives (unfolded_alternatives types xs) ≡ in_alternatives xs
    alternative_decisions tree.no_alternative = refl
    alternative_decisions (tree.alternative cs ss xs) = λ i. statements_decisions ss i ++ alternative_decisions xs i

    handler_decisions : (hs : tree.Handlers) → in_handlers (unfolded_handlers types hs) ≡ in_handlers hs
    handler_decisions tree.no_handler = refl
    handler_decisions (tree.handler cs ss hs) = λ i. statements_decisions ss i ++ handler_decisions hs i

    pub block_decisions : (b : tree.Block) → in_block (unfolded_block types b) ≡ in_block b
    block_decisions (tree.block ds ss hs) = λ i. declared_decisions ds i ++ statements_decisions ss i ++ handler_decisions hs i

  mutual
    statement_labels : (s : tree.Stmt) → labels (unfolded_statement types s) ≡ labels s
    statement_labels (tree.null_statement l) = refl
    statement_labels (tree.assignment l o parts v) = refl
    statement_labels (tree.procedure_call l c actuals) = refl
    statement_labels (tree.if_statement l bs) = ap (λ ls. l ∷ ls) (labels_of_branches bs)
    statement_labels (tree.case_statement l e choices) = ap (λ ls. l ∷ ls) (labels_of_alternatives choices)
    statement_labels (tree.bare_loop l ss) = ap (λ ls. l ∷ ls) (statements_labels ss)
    statement_labels (tree.while_loop l d t ss) = ap (λ ls. l ∷ ls) (statements_labels ss)
    statement_labels (tree.for_loop l d reversed ts ss) = ap (λ ls. l ∷ ls) (statements_labels ss)
    statement_labels (tree.exit_statement l) = refl
    statement_labels (tree.exit_when l d t) = refl
    statement_labels (tree.return_statement l) = refl
    statement_labels (tree.return_value l r e) = refl
    statement_labels (tree.raise_statement l x) = refl
    statement_labels (tree.raise_again l) = refl
    statement_labels (tree.block_statement b) = labels_of_block b

    statements_labels : (ss : tree.Stmts) → all_labels (unfolded_statements types ss) ≡ all_labels ss
    statements_labels tree.no_statement = refl
    statements_labels (tree.and_statement s ss) = λ i. statement_labels s i ++ statements_labels ss i

    labels_of_branches : (bs : tree.Branches) → branch_labels (unfolded_branches types bs) ≡ branch_labels bs
    labels_of_branches (tree.else_part ss) = statements_labels ss
    labels_of_branches (tree.branch d t ss bs) = λ i. statements_labels ss i ++ labels_of_branches bs i

    labels_of_alternatives : (xs : tree.Alternatives) → alternative_labels (unfolded_alternatives types xs) ≡ alternative_labels xs
    labels_of_alternatives tree.no_alternative = refl
    labels_of_alternatives (tree.alternative cs ss xs) = λ i. statements_labels ss i ++ labels_of_alternatives xs i

    labels_of_handlers : (hs : tree.Handlers) → handler_labels (unfolded_handlers types hs) ≡ handler_labels hs
    labels_of_handlers tree.no_handler = refl
    labels_of_handlers (tree.handler cs ss hs) = λ i. statements_labels ss i ++ labels_of_handlers hs i

    pub labels_of_block : (b : tree.Block) → block_labels (unfolded_block types b) ≡ block_labels b
    labels_of_block (tree.block ds ss hs) = λ i. declared_labels ds i ++ statements_labels ss i ++ labels_of_handlers hs i

  mutual
    statement_objects : (s : tree.Stmt) → objects (unfolded_statement types s) ≡ objects s
    statement_objects (tree.null_statement l) = refl
    statement_objects (tree.assignment l o parts v) = refl
    statement_objects (tree.procedure_call l c actuals) = refl
    statement_objects (tree.if_statement l bs) = objects_of_branches bs
    statement_objects (tree.case_statement l e choices) = objects_of_alternatives choices
    statement_objects (tree.bare_loop l ss) = statements_objects ss
    statement_objects (tree.while_loop l d t ss) = statements_objects ss
    statement_objects (tree.for_loop l d reversed ts ss) = ap (λ ns. d ∷ ns) (statements_objects ss)
    statement_objects (tree.exit_statement l) = refl
    statement_objects (tree.exit_when l d t) = refl
    statement_objects (tree.return_statement l) = refl
    statement_objects (tree.return_value l r e) = refl
    statement_objects (tree.raise_statement l x) = refl
    statement_objects (tree.raise_again l) = refl
    statement_objects (tree.block_statement b) = objects_of_block b

    statements_objects : (ss : tree.Stmts) → all_objects (unfolded_statements types ss) ≡ all_objects ss
    statements_objects tree.no_statement = refl
    statements_objects (tree.and_statement s ss) = λ i. statement_objects s i ++ statements_objects ss i

    objects_of_branches : (bs : tree.Branches) → branch_objects (unfolded_branches types bs) ≡ branch_objects bs
    objects_of_branches (tree.else_part ss) = statements_objects ss
    objects_of_branches (tree.branch d t ss bs) = λ i. statements_objects ss i ++ objects_of_branches bs i

    objects_of_alternatives : (xs : tree.Alternatives) → alternative_objects (unfolded_alternatives types xs) ≡ alternative_objects xs
    objects_of_alternatives tree.no_alternative = refl
    objects_of_alternatives (tree.alternative cs ss xs) = λ i. statements_objects ss i ++ objects_of_alternatives xs i

    objects_of_handlers : (hs : tree.Handlers) → handler_objects (unfolded_handlers types hs) ≡ handler_objects hs
    objects_of_handlers tree.no_handler = refl
    objects_of_handlers (tree.handler cs ss hs) = λ i. statements_objects ss i ++ objects_of_handlers hs i

    pub objects_of_block : (b : tree.Block) → block_objects (unfolded_block types b) ≡ block_objects b
    objects_of_block (tree.block ds ss hs) = λ i. declared_objects ds i ++ (statements_objects ss i ++ objects_of_handlers hs i)

  mutual
    statement_gives : (s : tree.Stmt) → gives (unfolded_statement types s) ≡ gives s
    statement_gives (tree.null_statement l) = refl
    statement_gives (tree.assignment l o parts v) = refl
    statement_gives (tree.procedure_call l c actuals) = refl
    statement_gives (tree.if_statement l bs) = gives_of_branches bs
    statement_gives (tree.case_statement l e choices) = gives_of_alternatives choices
    statement_gives (tree.bare_loop l ss) = statements_give ss
    statement_gives (tree.while_loop l d t ss) = statements_give ss
    statement_gives (tree.for_loop l d reversed ts ss) = statements_give ss
    statement_gives (tree.exit_statement l) = refl
    statement_gives (tree.exit_when l d t) = refl
    statement_gives (tree.return_statement l) = refl
    statement_gives (tree.return_value l r e) = refl
    statement_gives (tree.raise_statement l x) = refl
    statement_gives (tree.raise_again l) = refl
    statement_gives (tree.block_statement b) = gives_of_block b

    statements_give : (ss : tree.Stmts) → some_gives (unfolded_statements types ss) ≡ some_gives ss
    statements_give tree.no_statement = refl
    statements_give (tree.and_statement s ss) = λ i. statement_gives s i || statements_give ss i

    gives_of_branches : (bs : tree.Branches) → branch_gives (unfolded_branches types bs) ≡ branch_gives bs
    gives_of_branches (tree.else_part ss) = statements_give ss
    gives_of_branches (tree.branch d t ss bs) = λ i. statements_give ss i || gives_of_branches bs i

    gives_of_alternatives : (xs : tree.Alternatives) → alternative_gives (unfolded_alternatives types xs) ≡ alternative_gives xs
    gives_of_alternatives tree.no_alternative = refl
    gives_of_alternatives (tree.alternative cs ss xs) = λ i. statements_give ss i || gives_of_alternatives xs i

    gives_of_handlers : (hs : tree.Handlers) → handler_gives (unfolded_handlers types hs) ≡ handler_gives hs
    gives_of_handlers tree.no_handler = refl
    gives_of_handlers (tree.handler cs ss hs) = λ i. statements_give ss i || gives_of_handlers hs i

    pub gives_of_block : (b : tree.Block) → block_gives (unfolded_block types b) ≡ block_gives b
    gives_of_block (tree.block ds ss hs) = λ i. statements_give ss i || gives_of_handlers hs i

-- a type of a table is an array or a record
abbrev pub IsComposite : Subtype → Type 0
IsComposite (scalar r) = ⊥
IsComposite t = Unit {0}

unfolded_composite : (types : List Subtype) (t : CompositeType) → IsComposite (unfolded types (composite_of t))
unfolded_composite types (composite.Array r t) = tt
unfolded_composite types (composite.Record ts) = tt

all_and_one : {X : Type 0} (P : X → Type 0) (xs : List X) (x : X) → Everywhere P xs → P x → Everywhere P (xs ++ x ∷ [])
all_and_one P [] x all one = (one, tt)
all_and_one P (y ∷ xs) x all one = (all.0, all_and_one P xs x all.1 one)

behind_composites : (types : List Subtype) (ts : List TypeDeclaration) → Everywhere IsComposite types → Everywhere IsComposite (types_behind types ts)
behind_composites types [] all = all
behind_composites types (t ∷ ts) all =
    behind_composites (types ++ unfolded types (composite_of t.definition) ∷ []) ts (all_and_one IsComposite types _ all (unfolded_composite types t.definition))

pub composites : (ts : List TypeDeclaration) → Everywhere IsComposite (types_of ts)
composites ts = behind_composites [] ts tt

-- so is what a number stands for
pub named_composite : (types : List Subtype) (n m : ℕ) → Everywhere IsComposite types → IsComposite (unwrap_or (slice_get types n) (numbered m))
named_composite [] n m all = tt
named_composite (t ∷ types) zero m all = all.0
named_composite (t ∷ types) (suc n) m all = named_composite types n m all.1

-- and what it stands for in an instance
seen_composite : (i : ℕ) (t : Subtype) → IsComposite t → IsComposite (subtype_seen i t)
seen_composite i (scalar r) h = absurd h
seen_composite i (array r t) h = tt
seen_composite i (fields cs) h = tt
seen_composite i (subtype_of j t) h = tt

pub instance_composite : (types : List Subtype) (i n m : ℕ) → Everywhere IsComposite types
    → IsComposite (unwrap_or (option_map (subtype_seen i) (slice_get types n)) (subtype_of i (numbered m)))
instance_composite [] i n m all = tt
instance_composite (t ∷ types) i zero m all = seen_composite i t all.0
instance_composite (t ∷ types) i (suc n) m all = instance_composite types i n m all.1
