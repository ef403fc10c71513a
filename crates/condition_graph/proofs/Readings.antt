-- What is read from an expression's postfix bytes are the nodes of its graph.
use Rattle.std.proofs.Common.{◌≡◌, ℕ, ◌+◌, ◌-◌, ◌<◌, ◌≤◌, true, false, List, [], ◌∷◌, ◌++◌, take, length, get_or, Some, None, refl, sym, ap, subst, ◌∙◌, append_assoc, append-nil, ne_eqb, add-one, arith, take-suc}
use Rattle.cov_base.specs.Expr.{Expr, condition, negation, operator, size, postfix_from, IsPostfixOf}
use Rattle.cov_base.specs.Graph.{node, leaf, Edges, nodes, graph}
use Rattle.condition_graph.specs.Reading.{Open, State, exits_by, begun, turned, read_down, started}

-- to read one list after another
pub read_append : (xs ys : List ℕ) (s : State) → read_down (xs ++ ys) s ≡ read_down xs (read_down ys s)
read_append [] ys s = refl
read_append (x ∷ xs) ys s = ap (turned x) (read_append xs ys s)

-- the bytes before one place more
pub read_take : (xs : List ℕ) (i : ℕ) (s : State) → i < length xs → read_down (take (i + 1) xs) s ≡ read_down (take i xs) (turned (get_or xs i 0) s)
read_take xs i s within =
    rw (add-one, take-suc xs i 0) (read_append (take i xs) (get_or xs i 0 ∷ []) s)

-- to read one byte more, the last of those that are left
pub read_before : (xs : List ℕ) (i : ℕ) (s later whole : State) → 0 < i → i ≤ length xs → later ≡ turned (get_or xs (i - 1) 0) s
    → read_down (take i xs) s ≡ whole → read_down (take (i - 1) xs) later ≡ whole
read_before xs i s later whole some within is left =
    let again : (i - 1) + 1 ≡ i = omega arith in
    let before : read_down (take i xs) s ≡ read_down (take (i - 1) xs) (turned (get_or xs (i - 1) 0) s) =
    subst (λ (k : ℕ). read_down (take k xs) s ≡ read_down (take (i - 1) xs) (turned (get_or xs (i - 1) 0) s)) again
    (read_take xs (i - 1) s (omega arith)) in
    ap (read_down (take (i - 1) xs)) is ∙ sym before ∙ left

-- a byte that is no operator is a condition
condition_byte : (n first : ℕ) (exits : Edges) (pending : List Open) (rest : List Edges) → n < 32
    → begun n exits first pending rest ≡ record { first = n; pending = pending; nodes = exits ∷ rest }
condition_byte n first exits pending rest small =
    rw (ne_eqb n 32 (λ e. absurd (omega arith)), ne_eqb n 33 (λ e. absurd (omega arith)), ne_eqb n 34 (λ e. absurd (omega arith))) refl

-- what stands of an expression once it has been read
abbrev after : Expr → ℕ → Edges → List Open → List Edges → State
after e n exits pending rest = record { first = n; pending = pending; nodes = nodes e n exits.on_true exits.on_false ++ rest }

pub read_expression : (e : Expr) (n first : ℕ) (next : Open) (pending : List Open) (rest : List Edges) → n + size e ≤ 32
    → read_down (postfix_from n e) (record { first = first; pending = next ∷ pending; nodes = rest })
    ≡ after e n (exits_by next.goes_on first next.exits) pending rest
read_expression condition n first next pending rest fits =
    condition_byte n first (exits_by next.goes_on first next.exits) pending rest (omega arith)
read_expression (negation e) n first next pending rest fits =
    let exits : Edges = exits_by next.goes_on first next.exits in
    read_append (postfix_from n e) (32 ∷ []) (record { first = first; pending = next ∷ pending; nodes = rest })
    ∙ read_expression e n first (record { exits = record { on_true = exits.on_false; on_false = exits.on_true }; goes_on = None }) pending rest fits
read_expression (operator true left right) n first next pending rest fits =
    let exits : Edges = exits_by next.goes_on first next.exits in
    let middle : ℕ = n + size left in
    let later : Open = record { exits = exits; goes_on = Some true } in
    read_append (postfix_from n left) (postfix_from middle right ++ 33 ∷ []) (record { first = first; pending = next ∷ pending; nodes = rest })
    ∙ ap (read_down (postfix_from n left)) (read_append (postfix_from middle right) (33 ∷ []) (record { first = first; pending = next ∷ pending; nodes = rest }))
    ∙ ap (read_down (postfix_from n left)) (read_expression right middle first (record { exits = exits; goes_on = None }) (later ∷ pending) rest (omega arith))
    ∙ read_expression left n middle later pending (nodes right middle exits.on_true exits.on_false ++ rest) (omega arith)
    ∙ ap (λ ns. record { first = n; pending = pending; nodes = ns })
    (sym (append_assoc (nodes left n (node middle) exits.on_false) (nodes right middle exits.on_true exits.on_false) rest))
read_expression (operator false left right) n first next pending rest fits =
    let exits : Edges = exits_by next.goes_on first next.exits in
    let middle : ℕ = n + size left in
    let later : Open = record { exits = exits; goes_on = Some false } in
    let whole : State = record { first = first; pending = next ∷ pending; nodes = rest } in
    let operands : read_down (postfix_from n (operator false left right)) whole
    ≡ read_down (postfix_from n left) (read_down (postfix_from middle right) (read_down (34 ∷ []) whole)) =
    read_append (postfix_from n left) (postfix_from middle right ++ 34 ∷ []) whole
    ∙ ap (read_down (postfix_from n left)) (read_append (postfix_from middle right) (34 ∷ []) whole) in
    let right_read : read_down (postfix_from middle right) (read_down (34 ∷ []) whole) ≡ after right middle exits (later ∷ pending) rest =
    read_expression right middle first (record { exits = exits; goes_on = None }) (later ∷ pending) rest (omega arith) in
    operands
    ∙ ap (read_down (postfix_from n left)) right_read
    ∙ read_expression left n middle later pending (nodes right middle exits.on_true exits.on_false ++ rest) (omega arith)
    ∙ ap (λ ns. record { first = n; pending = pending; nodes = ns })
    (sym (append_assoc (nodes left n exits.on_true (node middle)) (nodes right middle exits.on_true exits.on_false) rest))

-- the graph of a decision is read from its bytes
pub read_graph : (bytes : List ℕ) (e : Expr) → IsPostfixOf bytes e → (read_down bytes started).nodes ≡ graph e
read_graph bytes e is =
    ap (λ (xs : List ℕ). (read_down xs started).nodes) is.spelled
    ∙ ap (λ (s : State). s.nodes) (read_expression e 0 0 (record { exits = record { on_true = leaf true; on_false = leaf false }; goes_on = None }) [] [] (omega (arith, is.fits)))
    ∙ append-nil (graph e)
