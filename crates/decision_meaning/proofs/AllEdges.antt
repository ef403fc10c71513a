-- On a tree, vectors that take every edge have a pair of both kinds for every condition.
use Rattle.std.proofs.Common.{◌≡◌, ◌≢◌, ℕ, ◌<◌, ◌≤◌, zero, suc, Bool, true, false, not, ◌&&◌, ◌||◌, inl, inr, List, [], ◌∷◌, ◌++◌, eqb, refl, sym, ap, subst, ◌∙◌, eqb-true, eq-eqb, ne_eqb, arith, ⊎_elim}
use Rattle.std.proofs.lemmas.Bool.{cases_lt, eqb-false, and_from}
use Rattle.cov_base.specs.declared.event.Vector.{Vector}
use Rattle.cov_base.specs.Expr.{Expr, size}
use Rattle.cov_base.specs.Graph.{Next, node, leaf, graph, next_in, IsTree}
use Rattle.cov_base.specs.Marks.{Marks, marks, bit, same, outcome}
use Rattle.cov_base.specs.Path.{Step, LeadsTo, vector_of, IsPathVector}
use Rattle.cov_base.specs.Lists.{Everywhere, Somewhere}
use Rattle.decision_meaning.specs.Pair.{turns, agrees, others_agree, is_unique_cause, is_masking, Pair}
use Rattle.decision_meaning.specs.Verdict.{TakesEdge, TakesAllEdges, HasPair}
use Rattle.cov_base.proofs.Edges.{edges_rise}
use Rattle.cov_base.proofs.Bits.{some_step, is_at, is_true_at, bit_seen, bit_value}
use Rattle.cov_base.proofs.Reached.{one_path}
use Rattle.cov_base.proofs.Follows.{outcome_law}
use Rattle.decision_meaning.proofs.Pairs.{unique_masks}
use Rattle.decision_meaning.proofs.Choices.{Leads, parts, path_to}

-- a path to node m has no step at m or after it
pub none_past : (e : Expr) (test : ℕ → Step → Bool) → ((k : ℕ) (s : Step) → s.at_node < k → test k s ≡ false)
    → (path : List Step) (m k : ℕ) → LeadsTo (graph e) path (node m) → m ≤ k → some_step (test k) path ≡ false
none_past e test apart [] m k leads past = refl
none_past e test apart (step ∷ older) m k leads past =
    let rise = edges_rise e step.at_node step.value m leads.0 in
    rw (apart k step (omega (arith, rise.0))) (none_past e test apart older step.at_node k leads.1 (omega (arith, rise.0)))

apart_at : (k : ℕ) (s : Step) → s.at_node < k → is_at k s ≡ false
apart_at k s below = ne_eqb k s.at_node (λ e. absurd (omega arith))

apart_true : (k : ℕ) (s : Step) → s.at_node < k → is_true_at k s ≡ false
apart_true k s below = rw (ne_eqb k s.at_node (λ e. absurd (omega arith))) refl

or_assoc : (x y z : Bool) → (x || (y || z)) ≡ ((x || y) || z)
or_assoc true y z = refl
or_assoc false y z = refl

some_append : (test : Step → Bool) (more older : List Step) → some_step test (more ++ older) ≡ (some_step test more || some_step test older)
some_append test [] older = refl
some_append test (step ∷ more) older =
    ap (λ (b : Bool). test step || b) (some_append test more older) ∙ or_assoc (test step) (some_step test more) (some_step test older)

or_false : (x : Bool) → (x || false) ≡ x
or_false true = refl
or_false false = refl

-- the value at a step that a path takes
pub value_at : (e : Expr) (step : Step) (older : List Step) → LeadsTo (graph e) older (node step.at_node) → some_step (is_true_at step.at_node) (step ∷ older) ≡ step.value
value_at e step older leads =
    rw (eq-eqb step.at_node step.at_node refl, none_past e is_true_at apart_true older step.at_node step.at_node leads (omega arith)) (or_false step.value)

-- a path to a node that takes a step takes it on the way to a node
inner_step : (e : Expr) (path : List Step) (m k : ℕ) → LeadsTo (graph e) path (node m) → some_step (is_at k) path ≡ true
    → (j : ℕ) × (next_in (graph e) k (some_step (is_true_at k) path) ≡ node j)
inner_step e [] m k leads takes = absurd (cc takes)
inner_step e (step ∷ older) m k leads takes = by_place (inner_step e older step.at_node k leads.1) (eqb k step.at_node) refl takes
  where
    by_place : (some_step (is_at k) older ≡ true → (j : ℕ) × (next_in (graph e) k (some_step (is_true_at k) older) ≡ node j)) → (b : Bool) → eqb k step.at_node ≡ b
        → (b || some_step (is_at k) older) ≡ true
        → (j : ℕ) × (next_in (graph e) k ((eqb k step.at_node && step.value) || some_step (is_true_at k) older) ≡ node j)
    by_place later true is takes =
        let here : k ≡ step.at_node = eqb-true k step.at_node is in (
          m,
          subst (λ (i : ℕ). next_in (graph e) i ((eqb i step.at_node && step.value) || some_step (is_true_at i) older) ≡ node m) (sym here)
              (ap (next_in (graph e) step.at_node) (value_at e step older leads.1) ∙ leads.0),
        )
    by_place later false is takes = rw is (later takes)

-- a path that takes an edge to a leaf ends with it
ends_with : (e : Expr) → IsTree (graph e) → (path : List Step) (ends : Bool) (s : Step) (older : List Step) (o : Bool) → LeadsTo (graph e) path (leaf ends)
    → next_in (graph e) s.at_node s.value ≡ leaf o → LeadsTo (graph e) older (node s.at_node)
    → some_step (is_at s.at_node) path ≡ true → some_step (is_true_at s.at_node) path ≡ s.value → path ≡ s ∷ older
ends_with e tree [] ends s older o leads last to_last takes value = absurd (cc takes)
ends_with e tree (step ∷ rest) ends s older o leads last to_last takes value = by_place (eqb s.at_node step.at_node) refl takes
  where
    by_place : (b : Bool) → eqb s.at_node step.at_node ≡ b → (b || some_step (is_at s.at_node) rest) ≡ true → step ∷ rest ≡ s ∷ older
    by_place true is takes =
        let here : step.at_node ≡ s.at_node = sym (eqb-true s.at_node step.at_node is) in
        let same_value : step.value ≡ s.value =
        sym (value_at e step rest leads.1) ∙ subst (λ (i : ℕ). some_step (is_true_at i) (step ∷ rest) ≡ s.value) (sym here) value in
        let same_step : step ≡ s = λ i. record { at_node = here i; value = same_value i } in
        let same_rest : rest ≡ older =
        one_path e tree rest older s.at_node (subst (λ (i : ℕ). LeadsTo (graph e) rest (node i)) here leads.1) to_last in
        ap (λ (x : Step). x ∷ rest) same_step ∙ ap (λ (xs : List Step). s ∷ xs) same_rest
    by_place false is takes =
        let inner = inner_step e rest step.at_node s.at_node leads.1 takes in
        let same_value : some_step (is_true_at s.at_node) rest ≡ s.value = rw is at value in
        let both : leaf o ≡ node inner.0 = sym last ∙ ap (next_in (graph e) s.at_node) (sym same_value) ∙ inner.1 in
        absurd (cc both)

-- the vector of a path of a tree to an outcome is among vectors that take all edges
path_taken : (e : Expr) → IsTree (graph e) → (vectors : List Vector) → Everywhere (IsPathVector (graph e)) vectors → (s : Step) (older : List Step) (o : Bool)
    → next_in (graph e) s.at_node s.value ≡ leaf o → LeadsTo (graph e) older (node s.at_node) → TakesEdge vectors s.at_node s.value
    → Somewhere (λ v. v ≡ vector_of (s ∷ older)) vectors
path_taken e tree [] all s older o last to_last takes = absurd takes
path_taken e tree (v ∷ vectors) all s older o last to_last takes =
    ⊎_elim (λ here. inl (the_path all.0 here.0 here.1)) (λ there. inr (path_taken e tree vectors all.1 s older o last to_last there)) takes
  where
    the_path : IsPathVector (graph e) v → bit v.seen s.at_node ≡ true → bit v.value s.at_node ≡ s.value → v ≡ vector_of (s ∷ older)
    the_path is seen value =
        let takes : some_step (is_at s.at_node) is.path ≡ true =
        sym (bit_seen is.path s.at_node) ∙ subst (λ (w : Vector). bit w.seen s.at_node ≡ true) is.shown seen in
        let by : some_step (is_true_at s.at_node) is.path ≡ s.value =
        sym (bit_value is.path s.at_node) ∙ subst (λ (w : Vector). bit w.value s.at_node ≡ s.value) is.shown value in
        is.shown ∙ ap vector_of (ends_with e tree is.path is.ends s older o is.leads last to_last takes by)

-- a path over an edge of condition c to an outcome
pub record Over (e : Expr) (c : ℕ) (b : Bool) (base : List Step) (o : Bool) : Type 0 where
  pub more : List Step
  pub leads : Leads (next_in (graph e)) (next_in (graph e) c b) more (leaf o)

abbrev over_edge : ℕ → Bool → List Step → List Step → List Step
over_edge c b base more = more ++ (record { at_node = c; value = b }) ∷ base

-- what is led to from a place that a path leads to
pub led_on : (e : Expr) (x y : Next) (more path : List Step) → Leads (next_in (graph e)) x more y → LeadsTo (graph e) path x → LeadsTo (graph e) (more ++ path) y
led_on e x y [] path leads first = subst (λ (z : Next). LeadsTo (graph e) path z) (sym leads) first
led_on e x y (step ∷ more) path leads first = (leads.0, led_on e x (node step.at_node) more path leads.1 first)

-- steps on from an edge of node c come after c
more_after : (e : Expr) (c : ℕ) (b : Bool) (more : List Step) (j : ℕ) → Leads (next_in (graph e)) (next_in (graph e) c b) more (node j) → c < j
more_after e c b [] j leads = (edges_rise e c b j (sym leads)).0
more_after e c b (step ∷ more) j leads =
    let later = more_after e c b more step.at_node leads.1 in
    let rise = edges_rise e step.at_node step.value j leads.0 in
    omega (arith, later, rise.0)

none_before : (e : Expr) (test : ℕ → Step → Bool) → ((k : ℕ) (s : Step) → k < s.at_node → test k s ≡ false)
    → (c : ℕ) (b : Bool) (more : List Step) (y : Next) (k : ℕ) → Leads (next_in (graph e)) (next_in (graph e) c b) more y → k ≤ c → some_step (test k) more ≡ false
none_before e test apart c b [] y k leads before = refl
none_before e test apart c b (step ∷ more) y k leads before =
    let later = more_after e c b more step.at_node leads.1 in
    rw (apart k step (omega (arith, later))) (none_before e test apart c b more (node step.at_node) k leads.1 before)

before_at : (k : ℕ) (s : Step) → k < s.at_node → is_at k s ≡ false
before_at k s below = ne_eqb k s.at_node (λ e. absurd (omega arith))

before_true : (k : ℕ) (s : Step) → k < s.at_node → is_true_at k s ≡ false
before_true k s below = rw (ne_eqb k s.at_node (λ e. absurd (omega arith))) refl

-- such a path evaluates c to that value
over_seen : (e : Expr) (c : ℕ) (b : Bool) (base more : List Step) → some_step (is_at c) (over_edge c b base more) ≡ true
over_seen e c b base more =
    some_append (is_at c) more ((record { at_node = c; value = b }) ∷ base)
    ∙ rw (eq-eqb c c refl) (or_true (some_step (is_at c) more))
  where
    or_true : (x : Bool) → (x || true) ≡ true
    or_true true = refl
    or_true false = refl

over_value : (e : Expr) (c : ℕ) (b : Bool) (base more : List Step) (y : Next) → LeadsTo (graph e) base (node c)
    → Leads (next_in (graph e)) (next_in (graph e) c b) more y → some_step (is_true_at c) (over_edge c b base more) ≡ b
over_value e c b base more y leads on =
    some_append (is_true_at c) more ((record { at_node = c; value = b }) ∷ base)
    ∙ ap (λ (x : Bool). x || some_step (is_true_at c) ((record { at_node = c; value = b }) ∷ base)) (none_before e is_true_at before_true c b more y c on (omega arith))
    ∙ value_at e (record { at_node = c; value = b }) base leads

-- the part of such a path that leads to a later node
pub record Later (e : Expr) (c : ℕ) (b : Bool) (base : List Step) (d : ℕ) : Type 0 where
  pub more : List Step
  pub leads : Leads (next_in (graph e)) (next_in (graph e) c b) more (node d)

later_part : (e : Expr) (c : ℕ) (b : Bool) (base more : List Step) (y : Next) (d : ℕ) → Leads (next_in (graph e)) (next_in (graph e) c b) more y
    → some_step (is_at d) more ≡ true → Later e c b base d
later_part e c b base [] y d leads takes = absurd (cc takes)
later_part e c b base (step ∷ more) y d leads takes = by_place (later_part e c b base more (node step.at_node) d leads.1) (eqb d step.at_node) refl takes
  where
    by_place : (some_step (is_at d) more ≡ true → Later e c b base d) → (x : Bool) → eqb d step.at_node ≡ x → (x || some_step (is_at d) more) ≡ true → Later e c b base d
    by_place on true is takes =
        let here : step.at_node ≡ d = sym (eqb-true d step.at_node is) in
        record { more = more; leads = subst (λ (k : ℕ). Leads (next_in (graph e)) (next_in (graph e) c b) more (node k)) here leads.1 }
    by_place on false is takes = on takes

-- in the paths over the two edges every other condition has one value, or is in one of them alone
one_value : (e : Expr) → IsTree (graph e) → (c : ℕ) (base p q : List Step) (x y : Next) → LeadsTo (graph e) base (node c)
    → Leads (next_in (graph e)) (next_in (graph e) c true) p x → Leads (next_in (graph e)) (next_in (graph e) c false) q y
    → (d : ℕ) → d ≢ c → some_step (is_at d) (over_edge c true base p) ≡ true → some_step (is_at d) (over_edge c false base q) ≡ true
    → some_step (is_true_at d) (over_edge c true base p) ≡ some_step (is_true_at d) (over_edge c false base q)
one_value e tree c base p q x y leads on_p on_q d other in_p in_q = ⊎_elim before past (cases_lt d c)
  where
    value_before : (b : Bool) (more : List Step) (z : Next) → Leads (next_in (graph e)) (next_in (graph e) c b) more z → d < c
        → some_step (is_true_at d) (over_edge c b base more) ≡ some_step (is_true_at d) base
    value_before b more z on less =
        some_append (is_true_at d) more ((record { at_node = c; value = b }) ∷ base)
        ∙ rw (none_before e is_true_at before_true c b more z d on (omega arith), ne_eqb d c other) refl

    before : d < c → some_step (is_true_at d) (over_edge c true base p) ≡ some_step (is_true_at d) (over_edge c false base q)
    before less = value_before true p x on_p less ∙ sym (value_before false q y on_q less)

    in_more : (b : Bool) (more : List Step) → c < d → some_step (is_at d) (over_edge c b base more) ≡ true → some_step (is_at d) more ≡ true
    in_more b more above takes =
        let none : some_step (is_at d) base ≡ false = none_past e is_at apart_at base c d leads (omega arith) in
        let split : some_step (is_at d) (over_edge c b base more) ≡ (some_step (is_at d) more || (eqb d c || some_step (is_at d) base)) =
        some_append (is_at d) more ((record { at_node = c; value = b }) ∷ base) in
        sym (rw (ne_eqb d c other, none) at split ∙ or_false (some_step (is_at d) more)) ∙ takes

    past : c ≤ d → some_step (is_true_at d) (over_edge c true base p) ≡ some_step (is_true_at d) (over_edge c false base q)
    past from =
        let above : c < d = omega arith in
        let part_p = later_part e c true base p x d on_p (in_more true p above in_p) in
        let part_q = later_part e c false base q y d on_q (in_more false q above in_q) in
        let to_p : LeadsTo (graph e) (over_edge c true base part_p.more) (node d) =
        led_on e (next_in (graph e) c true) (node d) part_p.more ((record { at_node = c; value = true }) ∷ base) part_p.leads (refl, leads) in
        let to_q : LeadsTo (graph e) (over_edge c false base part_q.more) (node d) =
        led_on e (next_in (graph e) c false) (node d) part_q.more ((record { at_node = c; value = false }) ∷ base) part_q.leads (refl, leads) in
        let one : over_edge c true base part_p.more ≡ over_edge c false base part_q.more = one_path e tree _ _ d to_p to_q in
        let both : true ≡ false =
        sym (over_value e c true base part_p.more (node d) leads part_p.leads)
        ∙ ap (some_step (is_true_at c)) one
        ∙ over_value e c false base part_q.more (node d) leads part_q.leads in
        absurd (cc both)

more_below : (e : Expr) (c : ℕ) (b : Bool) (more : List Step) (j : ℕ) → Leads (next_in (graph e)) (next_in (graph e) c b) more (node j) → j < size e
more_below e c b [] j leads = (edges_rise e c b j (sym leads)).1
more_below e c b (step ∷ more) j leads = (edges_rise e step.at_node step.value j leads.0).1

-- the vector of a path over an edge is among vectors that take all edges
over_taken : (e : Expr) → IsTree (graph e) → (vectors : List Vector) → Everywhere (IsPathVector (graph e)) vectors → TakesAllEdges e vectors
    → (c : ℕ) (b : Bool) (base more : List Step) (o : Bool) → c < size e → LeadsTo (graph e) base (node c)
    → Leads (next_in (graph e)) (next_in (graph e) c b) more (leaf o) → Somewhere (λ v. v ≡ vector_of (over_edge c b base more)) vectors
over_taken e tree vectors all takes c b base [] o below leads on =
    path_taken e tree vectors all (record { at_node = c; value = b }) base o (sym on) leads (takes c b below)
over_taken e tree vectors all takes c b base (step ∷ more) o below leads on =
    path_taken e tree vectors all step (over_edge c b base more) o on.0
    (led_on e (next_in (graph e) c b) (node step.at_node) more ((record { at_node = c; value = b }) ∷ base) on.1 (refl, leads))
    (takes step.at_node step.value (more_below e c b more step.at_node on.1))

all_agree : (c m : ℕ) (v w : Marks) → ((d : ℕ) → d < m → d ≢ c → agrees d v w ≡ true) → others_agree c m v w ≡ true
all_agree c zero v w each = refl
all_agree c (suc m) v w each =
    and_from (eqb m c || agrees m v w) (others_agree c m v w) (by_place (eqb m c) refl) (all_agree c m v w (λ d below. each d (omega arith)))
  where
    by_place : (b : Bool) → eqb m c ≡ b → (b || agrees m v w) ≡ true
    by_place true is = refl
    by_place false is = each m (omega arith) (eqb-false m c is)

agree_where : (a b x y : Bool) → (a ≡ true → b ≡ true → x ≡ y) → (not (a && b) || same x y) ≡ true
agree_where true true true y each = sym (each refl refl)
agree_where true true false y each = ap not (sym (each refl refl))
agree_where true false x y each = refl
agree_where false b x y each = refl

-- on a tree, vectors that take every edge have a pair of both kinds for each condition
pub all_edges_law : (e : Expr) → IsTree (graph e) → (vectors : List Vector) → Everywhere (IsPathVector (graph e)) vectors → TakesAllEdges e vectors
    → (c : ℕ) → c < size e → HasPair (is_unique_cause e c) vectors × HasPair (is_masking e c) vectors
all_edges_law e tree vectors all takes c below =
    let two = parts e c below in
    let base = path_to e c c (omega arith) below in
    let p : List Step = over_edge c true base.0 two.on_true.steps in
    let q : List Step = over_edge c false base.0 two.on_false.steps in
    let to_p : LeadsTo (graph e) p (leaf two.by_true) =
    led_on e (next_in (graph e) c true) (leaf two.by_true) two.on_true.steps ((record { at_node = c; value = true }) ∷ base.0) two.on_true.leads (refl, base.1) in
    let to_q : LeadsTo (graph e) q (leaf (not two.by_true)) =
    led_on e (next_in (graph e) c false) (leaf (not two.by_true)) two.on_false.steps ((record { at_node = c; value = false }) ∷ base.0) two.on_false.leads (refl, base.1) in
    let v : Marks = marks (vector_of p) in
    let w : Marks = marks (vector_of q) in
    let seen_v : v.seen c ≡ true = bit_seen p c ∙ over_seen e c true base.0 two.on_true.steps in
    let seen_w : w.seen c ≡ true = bit_seen q c ∙ over_seen e c false base.0 two.on_false.steps in
    let value_v : v.value c ≡ true = bit_value p c ∙ over_value e c true base.0 two.on_true.steps (leaf two.by_true) base.1 two.on_true.leads in
    let value_w : w.value c ≡ false = bit_value q c ∙ over_value e c false base.0 two.on_false.steps (leaf (not two.by_true)) base.1 two.on_false.leads in
    let outcomes : not (same (outcome e v) (outcome e w)) ≡ true =
    rw (outcome_law e p two.by_true to_p, outcome_law e q (not two.by_true) to_q) (apart two.by_true) in
    let turned : turns c v w ≡ true = rw (seen_v, seen_w, value_v, value_w) refl in
    let others : others_agree c (size e) v w ≡ true = all_agree c (size e) v w (λ d less other.
    agree_where (v.seen d) (w.seen d) (v.value d) (w.value d) (λ in_v in_w.
    bit_value p d
    ∙ one_value e tree c base.0 two.on_true.steps two.on_false.steps (leaf two.by_true) (leaf (not two.by_true)) base.1 two.on_true.leads two.on_false.leads d other
    (sym (bit_seen p d) ∙ in_v) (sym (bit_seen q d) ∙ in_w)
    ∙ sym (bit_value q d))) in
    let unique : is_unique_cause e c v w ≡ true =
    and_from (not (same (outcome e v) (outcome e w)) && turns c v w) (others_agree c (size e) v w)
    (and_from (not (same (outcome e v) (outcome e w))) (turns c v w) outcomes turned) others in
    let path_v : IsPathVector (graph e) (vector_of p) = record { path = p; ends = two.by_true; leads = to_p; shown = refl } in
    let path_w : IsPathVector (graph e) (vector_of q) = record { path = q; ends = not two.by_true; leads = to_q; shown = refl } in
    let in_v = over_taken e tree vectors all takes c true base.0 two.on_true.steps two.by_true below base.1 two.on_true.leads in
    let in_w = over_taken e tree vectors all takes c false base.0 two.on_false.steps (not two.by_true) below base.1 two.on_false.leads in
    let pair : Pair = record { first = vector_of p; second = vector_of q } in (
      (pair, record { has_first = in_v; has_second = in_w; passes = unique }),
      (pair, record { has_first = in_v; has_second = in_w; passes = unique_masks e c (vector_of p) (vector_of q) path_v path_w unique }),
    )
  where
    apart : (b : Bool) → not (same b (not b)) ≡ true
    apart true = refl
    apart false = refl
