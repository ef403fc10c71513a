-- Entries behind entries, and the obligations that they are parts of.
use Rattle.std.proofs.Common.{◌≡◌, ℕ, ◌+◌, ◌<◌, ◌≤◌, List, [], ◌∷◌, ◌++◌, map, length, get_or, drop, Result, Ok, Err, OnOk, refl, sym, ap, ◌∙◌}
use Rattle.std.proofs.lemmas.List.{append_assoc, append-nil, map-append, at_drop_more, at_drop_all}
use Rattle.cov_base.specs.declared.obligations.StmtEntry.{StmtEntry}
use Rattle.cov_base.specs.declared.obligations.DecEntry.{DecEntry}
use Rattle.ada_meaning.specs.Tree as tree
use Rattle.ada_meaning.specs.Tree.{Label, Test, Stmt, Stmts, Handlers, else_part, block}
use Rattle.ada_meaning.specs.Collected.{Standing, after_if, after_while, after_exit, Decision, in_decision, in_declarations, in_stmt, in_stmts, in_branches, in_alternatives, in_handlers, in_value, declaration_labels, labels, all_labels, branch_labels, alternative_labels, handler_labels}
use Rattle.ada_meaning.specs.Obligations.{statement_entry, decision_entry, predefined_names}
use Rattle.ada_tree.specs.View.{label_of, declaration_of, statements_of, branches_of, alternatives_of, handlers_of}
use Rattle.ada_tree.specs.declared.statement.Alternative.{Alternative}
use Rattle.ada_tree.specs.declared.statement.Branch.{Branch}
use Rattle.ada_tree.specs.declared.statement.Declaration.{Declaration}
use Rattle.ada_tree.specs.declared.statement.Handler.{Handler}
use Rattle.obligations.specs.Entries.{Entries, no_entry, joined, listed, of_entry, of_label, of_nested, of_decision, of_declarations, of_statement, of_statements, of_alternatives, of_handlers, of_block, of_branch, of_branches, predefined}

pub joined_nothing : (a : Entries) → joined a no_entry ≡ a
unfolding joined
joined_nothing a = λ k. record { statements = append-nil a.statements k; decisions = append-nil a.decisions k }

pub nothing_joined : (a : Entries) → joined no_entry a ≡ a
unfolding joined
nothing_joined a = refl

pub joined_assoc : (a b c : Entries) → joined (joined a b) c ≡ joined a (joined b c)
unfolding joined
joined_assoc a b c = λ k. record {
  statements = append_assoc a.statements b.statements c.statements k;
  decisions = append_assoc a.decisions b.decisions c.decisions k;
}

pub nothing_listed : listed [] [] ≡ no_entry
unfolding listed
nothing_listed = refl

-- some labels and decisions, and others behind them
pub listed_joined : (ls ms : List Label) (ds es : List Decision) → listed (ls ++ ms) (ds ++ es) ≡ joined (listed ls ds) (listed ms es)
unfolding joined listed
listed_joined ls ms ds es = λ k. record { statements = map-append statement_entry ls ms k; decisions = map-append decision_entry ds es k }

-- two parts, one after the other
pub two_added : (a b c x y : Entries) → b ≡ joined a x → c ≡ joined b y → c ≡ joined a (joined x y)
two_added a b c x y first second = second ∙ ap (λ z. joined z y) first ∙ joined_assoc a x y

-- the same where there may be no memory for the second part
pub then_added : {A E : Type 0} (r : Result A E) (a b c x y : Entries) → b ≡ joined a x → OnOk r (c ≡ joined b y) → OnOk r (c ≡ joined a (joined x y))
then_added (Ok u) a b c x y first second = two_added a b c x y first second
then_added (Err e) a b c x y first second = tt

-- where what was added is the same
pub same_added : {A E : Type 0} (r : Result A E) (a c x y : Entries) → x ≡ y → OnOk r (c ≡ joined a x) → OnOk r (c ≡ joined a y)
same_added (Ok u) a c x y e h = h ∙ ap (joined a) e
same_added (Err u) a c x y e h = tt

-- the entries of the items of a list, one after another: of one more item, and where none is left
pub one_more : {X : Type 0} (F : List X → Entries) (f : X → Entries) → ((x : X) (xs : List X) → F (x ∷ xs) ≡ joined (f x) (F xs))
    → (xs : List X) (i : ℕ) (d x : X) (a c : Entries) → i < length xs → x ≡ get_or xs i d → c ≡ joined a (f x) → joined c (F (drop (i + 1) xs)) ≡ joined a (F (drop i xs))
one_more F f step xs i d x a c lt is added =
    ap (λ z. joined z (F (drop (i + 1) xs))) (added ∙ ap (λ y. joined a (f y)) is) ∙ joined_assoc a (f (get_or xs i d)) (F (drop (i + 1) xs))
    ∙ ap (joined a) (sym (step (get_or xs i d) (drop (i + 1) xs)) ∙ sym (at_drop_more F xs i d lt))

pub none_left : {X : Type 0} (F : List X → Entries) → F [] ≡ no_entry → (xs : List X) (i : ℕ) (a c : Entries) → length xs ≤ i → joined a (F (drop i xs)) ≡ c → a ≡ c
none_left F empty xs i a c all whole = sym (joined_nothing a) ∙ ap (joined a) (sym (at_drop_all F xs i all ∙ empty)) ∙ whole

-- statements, declarations and branches, one after another
pub statements_front : (s : Stmt) (ss : List Stmt) → of_statements (statements_of (s ∷ ss)) ≡ joined (of_statement s) (of_statements (statements_of ss))
statements_front s ss = listed_joined (labels s) (all_labels (statements_of ss)) (in_stmt s) (in_stmts (statements_of ss))

pub declarations_front : (d : Declaration) (ds : List Declaration) → of_declarations (d ∷ ds) ≡ joined (of_declarations (d ∷ [])) (of_declarations ds)
declarations_front d ds = front (declaration_of d) (map declaration_of ds)
  where
    front : (d : tree.Declaration) (ds : List tree.Declaration)
        → listed (declaration_labels (d ∷ ds)) (in_declarations (d ∷ ds)) ≡ joined (listed (declaration_labels (d ∷ [])) (in_declarations (d ∷ []))) (listed (declaration_labels ds) (in_declarations ds))
    front (tree.initialized l n v) ds =
        ap (λ es. listed (l ∷ declaration_labels ds) (es ++ in_declarations ds)) (sym (append-nil (in_value l.number v)))
        ∙ listed_joined (l ∷ []) (declaration_labels ds) (in_value l.number v ++ []) (in_declarations ds)
    front (tree.without_value n t) ds = listed_joined [] (declaration_labels ds) [] (in_declarations ds)

-- the parts of statements
pub loop_parts : (l : Label) (ss : Stmts) → joined (of_label l) (of_statements ss) ≡ of_statement (tree.bare_loop l ss)
loop_parts l ss = sym (listed_joined (l ∷ []) (all_labels ss) [] (in_stmts ss))

pub decided_parts : (k : Standing) (n : ℕ) (d : Label) (t : Test) (ss : Stmts)
    → joined (of_decision k n d t) (of_statements ss) ≡ listed (all_labels ss) (in_decision n k d t ++ in_stmts ss)
decided_parts k n d t ss = sym (listed_joined [] (all_labels ss) (in_decision n k d t) (in_stmts ss))

pub while_parts : (l d : Label) (t : Test) (ss : Stmts)
    → joined (of_label l) (joined (of_decision after_while l.number d t) (of_statements ss)) ≡ of_statement (tree.while_loop l d t ss)
while_parts l d t ss =
    ap (joined (of_label l)) (decided_parts after_while l.number d t ss)
    ∙ sym (listed_joined (l ∷ []) (all_labels ss) [] (in_decision l.number after_while d t ++ in_stmts ss))

-- decisions that a statement holds, and those behind them; where there is none
pub nested_parts : (xs ys : List Decision) → joined (of_nested xs) (of_nested ys) ≡ of_nested (xs ++ ys)
nested_parts xs ys = sym (listed_joined [] [] xs ys)

pub nothing_added : (a : Entries) (hs : List Decision) → hs ≡ [] → a ≡ joined a (of_nested hs)
nothing_added a hs none = sym (ap (λ xs. joined a (of_nested xs)) none ∙ ap (joined a) nothing_listed ∙ joined_nothing a)

-- a statement and the decisions in its expressions
pub held_parts : (l : Label) (hs : List Decision) → joined (of_label l) (of_nested hs) ≡ listed (l ∷ []) hs
held_parts l hs = sym (listed_joined (l ∷ []) [] [] hs)

pub initialized_parts : (l : Label) (d : ℕ) (v : tree.NewValue)
    → joined (of_label l) (of_nested (in_value l.number v)) ≡ listed (declaration_labels (tree.initialized l d v ∷ [])) (in_declarations (tree.initialized l d v ∷ []))
initialized_parts l d v = held_parts l (in_value l.number v) ∙ ap (λ hs. listed (l ∷ []) hs) (sym (append-nil (in_value l.number v)))

pub exit_parts : (l d : Label) (t : Test) → joined (of_label l) (of_decision after_exit l.number d t) ≡ of_statement (tree.exit_when l d t)
exit_parts l d t = sym (listed_joined (l ∷ []) [] [] (in_decision l.number after_exit d t))

-- branches, and the else part behind them
pub branches_parts : (n : ℕ) (bs : List Branch) (other : Stmts)
    → joined (of_branches n bs) (of_statements other) ≡ listed (branch_labels (branches_of bs other)) (in_branches n (branches_of bs other))
branches_parts n [] other = nothing_joined (of_statements other)
branches_parts n (b ∷ bs) other =
    let ss = statements_of b.statements.items in
    let d = label_of b.decision.label in
    let t = b.decision.test in
    joined_assoc (of_branch n b) (of_branches n bs) (of_statements other)
    ∙ ap (joined (of_branch n b)) (branches_parts n bs other)
    ∙ ap (λ z. joined z (listed (branch_labels (branches_of bs other)) (in_branches n (branches_of bs other)))) (decided_parts after_if n d t ss)
    ∙ sym (listed_joined (all_labels ss) (branch_labels (branches_of bs other)) (in_decision n after_if d t ++ in_stmts ss) (in_branches n (branches_of bs other)))

pub if_parts : (l : Label) (bs : List Branch) (other : Stmts)
    → joined (of_label l) (joined (of_branches l.number bs) (of_statements other)) ≡ of_statement (tree.if_statement l (branches_of bs other))
if_parts l bs other =
    ap (joined (of_label l)) (branches_parts l.number bs other)
    ∙ sym (listed_joined (l ∷ []) (branch_labels (branches_of bs other)) [] (in_branches l.number (branches_of bs other)))

-- the decisions in the expressions of a statement, and what is in it behind them
pub held_behind : (l : Label) (hs : List Decision) (ls : List Label) (ds : List Decision)
    → joined (of_label l) (joined (of_nested hs) (listed ls ds)) ≡ listed (l ∷ ls) (hs ++ ds)
held_behind l hs ls ds = ap (joined (of_label l)) (sym (listed_joined [] ls hs ds)) ∙ sym (listed_joined (l ∷ []) ls [] (hs ++ ds))

-- alternatives and handlers, one after another
pub alternatives_front : (a : Alternative) (rest : List Alternative)
    → of_alternatives (alternatives_of (a ∷ rest)) ≡ joined (of_statements (statements_of a.statements.items)) (of_alternatives (alternatives_of rest))
alternatives_front a rest =
    let ss = statements_of a.statements.items in
    listed_joined (all_labels ss) (alternative_labels (alternatives_of rest)) (in_stmts ss) (in_alternatives (alternatives_of rest))

pub handlers_front : (h : Handler) (rest : List Handler)
    → of_handlers (handlers_of (h ∷ rest)) ≡ joined (of_statements (statements_of h.statements.items)) (of_handlers (handlers_of rest))
handlers_front h rest =
    let ss = statements_of h.statements.items in
    listed_joined (all_labels ss) (handler_labels (handlers_of rest)) (in_stmts ss) (in_handlers (handlers_of rest))

-- a block
pub block_parts : (ds : List Declaration) (ss : Stmts) (hs : Handlers)
    → joined (of_declarations ds) (joined (of_statements ss) (of_handlers hs)) ≡ of_block (block (map declaration_of ds) ss hs)
block_parts ds ss hs =
    let ls = declaration_labels (map declaration_of ds) in
    let es = in_declarations (map declaration_of ds) in
    sym (joined_assoc (of_declarations ds) (of_statements ss) (of_handlers hs))
    ∙ ap (λ z. joined z (of_handlers hs)) (sym (listed_joined ls (all_labels ss) es (in_stmts ss)))
    ∙ sym (listed_joined (ls ++ all_labels ss) (handler_labels hs) (es ++ in_stmts ss) (in_handlers hs))

-- three parts
pub three_added : {A E : Type 0} (r : Result A E) (a b c d x y z : Entries)
    → b ≡ joined a x → c ≡ joined b y → OnOk r (d ≡ joined c z) → OnOk r (d ≡ joined a (joined x (joined y z)))
three_added r a b c d x y z first second third = then_added r a b d x (joined y z) first (then_added r b c d y z second third)

abbrev pub entries_of : List StmtEntry → List DecEntry → Entries
entries_of ss ds = record { statements = ss; decisions = ds }

-- one more entry
pub statement_added : (ss new : List StmtEntry) (ds : List DecEntry) (a : Entries) (e : StmtEntry) (l : Label)
    → entries_of ss ds ≡ a → e ≡ statement_entry l → new ≡ ss ++ e ∷ [] → entries_of new ds ≡ joined a (of_label l)
unfolding joined listed
statement_added ss new ds a e l view is pushed =
    (λ k. entries_of ((pushed ∙ ap (λ x. ss ++ x ∷ []) is) k) (sym (append-nil ds) k)) ∙ ap (λ z. joined z (of_label l)) view

-- entries behind entries
pub entries_appended : (ss others new : List StmtEntry) (ds ms es : List DecEntry) (a b : Entries)
    → entries_of ss ds ≡ a → entries_of others ms ≡ b → new ≡ ss ++ others → es ≡ ds ++ ms → entries_of new es ≡ joined a b
unfolding joined
entries_appended ss others new ds ms es a b view seen first second =
    (λ k. entries_of (first k) (second k)) ∙ (λ k. joined (view k) (seen k))

-- an entry of a decision, and others behind it
pub decision_added : {A E : Type 0} (r : Result A E) (ss : List StmtEntry) (ds new : List DecEntry) (a b c : Entries) (e f : DecEntry)
    → entries_of ss ds ≡ a → e ≡ f → new ≡ ds ++ e ∷ [] → OnOk r (c ≡ joined (entries_of ss new) b) → OnOk r (c ≡ joined a (joined (of_entry f) b))
unfolding joined
decision_added (Err u) ss ds new a b c e f view is pushed rest = tt
decision_added (Ok u) ss ds new a b c e f view is pushed rest =
    let one : entries_of ss new ≡ joined a (of_entry f) =
    (λ k. entries_of (sym (append-nil ss) k) ((pushed ∙ ap (λ x. ds ++ x ∷ []) is) k)) ∙ ap (λ z. joined z (of_entry f)) view in
    rest ∙ ap (λ z. joined z b) one ∙ joined_assoc a (of_entry f) b

pub predefined_are : predefined ≡ predefined_names
unfolding predefined
predefined_are = refl
