-- Fragments of code behind one another, and in operations.
use Rattle.std.proofs.Common.{◌≡◌, ◌≢◌, ℕ, zero, suc, ◌+◌, ◌<◌, ◌≤◌, Bool, true, false, List, [], ◌∷◌, ◌++◌, map, length, sum_by, refl, sym, ap, subst, ◌∙◌, arith}
use Rattle.std.proofs.lemmas.List.{append-nil, map-append}
use Rattle.std.proofs.lemmas.List.Sums.{sum_by-cons, sum_by-append}
use Rattle.cov_base.specs.declared.position.DecId.{DecId}
use Rattle.cov_base.specs.Graph as logic
use Rattle.cov_base.specs.Graph.{Edges}
use Rattle.cov_base.specs.Lists.{Everywhere}
use Rattle.ada_meaning.specs.Collected.{Standing, Decision, in_test, in_decision}
use Rattle.ada_meaning.specs.Obligations.{numbers}
use Rattle.ada_meaning.specs.Tree as tree
use Rattle.kernel_ir.proofs.Joining.{joined_fits, joined_lacks, joined_rows, joined_conditions, joined_instructions}
use Rattle.kernel_ir.specs.declared.code.Edge.{Edge}
use Rattle.kernel_ir.specs.declared.kernel.Kernel.{Kernel}
use Rattle.kernel_ir.specs.declared.simple.Simple.{Simple}
use Rattle.kernel_ir.specs.Limits.{SimpleFits, NodesFit, NodesLack, EdgeFits, simple_instructions, nodes_instructions, count, edges_of}
use Rattle.kernel_ir.specs.Obligations.{Condition, simple_rows, code_rows, code_conditions, node_rows, node_conditions}
use Rattle.kernel_ir.specs.Sequence.{joined}
use Rattle.kernel_ir.specs.Tree.{simple, choose, forever, for_loop, exit, returns, catch, decide, call, Code, no_op, and_op, Nodes, no_node, and_node}
use Rattle.statement_code.specs.Fragments.{row_in, condition_in, conditions_in, HaveOthers, AreOwn, CodeLeaves, NodesLeave, Fragment}
use Rattle.statement_code.specs.Statements.{start_of}
use Rattle.statement_code.specs.Values.{single, one}

no_more : {X : Type 0} (xs : List X) → xs ++ [] ≡ xs
no_more xs = append-nil xs

-- what holds of two lists holds of each
pub first_all : {X : Type 0} (P : X → Type 0) (xs ys : List X) → Everywhere P (xs ++ ys) → Everywhere P xs
first_all P [] ys h = tt
first_all P (x ∷ xs) ys h = (h.0, first_all P xs ys h.1)

pub second_all : {X : Type 0} (P : X → Type 0) (xs ys : List X) → Everywhere P (xs ++ ys) → Everywhere P ys
second_all P [] ys h = h
second_all P (x ∷ xs) ys h = second_all P xs ys h.1

pub first_others : (n : ℕ) (xs ys : List Decision) → HaveOthers n (xs ++ ys) → HaveOthers n xs
first_others n xs ys h = first_all (λ g. n ≢ g.label.number) xs ys h

pub second_others : (n : ℕ) (xs ys : List Decision) → HaveOthers n (xs ++ ys) → HaveOthers n ys
second_others n xs ys h = second_all (λ g. n ≢ g.label.number) xs ys h

pub first_own : (graph : DecId → List Edges) (xs ys : List Decision) → AreOwn graph (xs ++ ys) → AreOwn graph xs
first_own graph [] ys h = tt
first_own graph (x ∷ xs) ys h = (h.0, (h.1.0, (first_others x.label.number xs ys h.1.1.0, first_own graph xs ys h.1.1.1)))

pub second_own : (graph : DecId → List Edges) (xs ys : List Decision) → AreOwn graph (xs ++ ys) → AreOwn graph ys
second_own graph [] ys h = h
second_own graph (x ∷ xs) ys h = second_own graph xs ys h.1.1.1

-- code of two parts
joined_leaves : (looping : Bool) (a b : Code) → CodeLeaves looping a → CodeLeaves looping b → CodeLeaves looping (joined a b)
joined_leaves looping no_op b h g = g
joined_leaves looping (and_op o a) b h g = (h.0, joined_leaves looping a b h.1 g)

-- how much the conditions of decisions weigh, and those of one decision from a place on
abbrev pub weighed : (inst : ℕ) → (Condition → ℕ) → List Decision → ℕ
weighed inst weight hs = sum_by weight (conditions_in inst hs)

abbrev pub weighed_from : (inst : ℕ) → (Condition → ℕ) → (decision n count : ℕ) → ℕ
weighed_from inst weight d n count = sum_by weight (map (condition_in inst d) (numbers n count))

pub both_weigh : (inst : ℕ) (weight : Condition → ℕ) (hs gs : List Decision) → weighed inst weight (hs ++ gs) ≡ weighed inst weight hs + weighed inst weight gs
both_weigh inst weight [] gs = omega arith
both_weigh inst weight (h ∷ hs) gs = omega (
  arith,
  sum_by-append weight (map (condition_in inst h.label.number) (numbers 0 (tree.conditions_of h.test))) (conditions_in inst (hs ++ gs)),
  sum_by-append weight (map (condition_in inst h.label.number) (numbers 0 (tree.conditions_of h.test))) (conditions_in inst hs),
  both_weigh inst weight hs gs,
)

pub split_weighs : (inst : ℕ) (weight : Condition → ℕ) (d a b n m count : ℕ) → count ≡ a + b → m ≡ n + a
    → weighed_from inst weight d n count ≡ weighed_from inst weight d n a + weighed_from inst weight d m b
split_weighs inst weight d zero b n m count all from =
    let same : count ≡ b = omega (arith, all) in
    let here : m ≡ n = omega (arith, from) in
    rw (same, here) (omega arith)
split_weighs inst weight d (suc a) b n m count all from =
    let same : count ≡ suc (a + b) = omega (arith, all) in
    rw same
    (omega (
      arith,
      sum_by-cons weight (condition_in inst d n) (map (condition_in inst d) (numbers (suc n) (a + b))),
      sum_by-cons weight (condition_in inst d n) (map (condition_in inst d) (numbers (suc n) a)),
      split_weighs inst weight d a b (suc n) m (a + b) refl (omega (arith, from)),
    ))

module _ (K : Kernel) (slots : ℕ) (graph : DecId → List Edges) (inst : ℕ) where
  abbrev pub Is : (looping : Bool) → List tree.Label → List Decision → (more most : ℕ) → Code → Type 0
  Is = Fragment K slots graph inst

  -- a bound that follows
  pub shorter : {x : Bool} {ls : List tree.Label} {hs : List Decision} {a : Code} {m n : ℕ} (j k : ℕ) → n + j ≤ k + m → Is x ls hs m n a → Is x ls hs j k a
  shorter j k le h = record {
    rows = h.rows;
    conditions = h.conditions;
    fits = h.fits;
    lacks = h.lacks;
    leaves = h.leaves;
    size = omega (arith, h.size, le);
  }

  -- the same statements and decisions, listed in another way
  pub listed : {x : Bool} {ls ms : List tree.Label} {hs gs : List Decision} {a : Code} {m n : ℕ} → ls ≡ ms → hs ≡ gs → Is x ls hs m n a → Is x ms gs m n a
  listed {x = x} {ls = ls} {gs = gs} {a = a} {m = m} {n = n} same are h =
      subst (λ l. Is x l gs m n a) same (subst (λ g. Is x ls g m n a) are h)

  pub nothing : (x : Bool) → Is x [] [] 0 0 no_op
  nothing x = record { rows = refl; conditions = λ weight. refl; fits = λ own. tt; lacks = λ d others. tt; leaves = tt; size = omega arith }

  pub both : {x : Bool} {ls ms : List tree.Label} {hs gs : List Decision} {a b : Code} {j k m n : ℕ} → Is x ls hs j m a → Is x ms gs k n b
      → Is x (ls ++ ms) (hs ++ gs) (j + k) (m + n) (joined a b)
  both {x = x} {ls = ls} {ms = ms} {hs = hs} {gs = gs} {a = a} {b = b} h g = record {
    rows = joined_rows a b ∙ ap (λ rs. rs ++ code_rows b) h.rows ∙ ap (λ rs. map (row_in inst) ls ++ rs) g.rows ∙ sym (map-append (row_in inst) ls ms);
    conditions = λ weight.
        let are : sum_by weight (code_conditions (joined a b)) ≡ sum_by weight (code_conditions a) + sum_by weight (code_conditions b) =
        ap (sum_by weight) (joined_conditions a b) ∙ sum_by-append weight (code_conditions a) (code_conditions b) in
        omega (arith, are, h.conditions weight, g.conditions weight, both_weigh inst weight hs gs);
    fits = λ own. joined_fits K slots graph a b (h.fits (first_own graph hs gs own)) (g.fits (second_own graph hs gs own));
    lacks = λ d others. joined_lacks d a b (h.lacks d (first_others d.0 hs gs others)) (g.lacks d (second_others d.0 hs gs others));
    leaves = joined_leaves x a b h.leaves g.leaves;
    size = omega (arith, joined_instructions a b, h.size, g.size);
  }

  -- an operation that holds no others, before code
  pub before : {x : Bool} {ls : List tree.Label} {hs : List Decision} {a : Code} {m n : ℕ} (s : Simple) → simple_rows s ≡ [] → SimpleFits K slots s → Is x ls hs m n a
      → Is x ls hs m (simple_instructions s + n) (and_op (simple s) a)
  before {a = a} s none fit h = record {
    rows = ap (λ rs. rs ++ code_rows a) none ∙ h.rows;
    conditions = h.conditions;
    fits = λ own. (fit, h.fits own);
    lacks = λ d others. (tt, h.lacks d others);
    leaves = (tt, h.leaves);
    size = omega (arith, h.size);
  }

  pub last : (x : Bool) (s : Simple) → simple_rows s ≡ [] → SimpleFits K slots s → Is x [] [] 0 (simple_instructions s) (one s)
  last x s none fit = shorter 0 (simple_instructions s) (omega arith) (before s none fit (nothing x))

  -- an operation behind code
  pub behind : {x : Bool} {ls : List tree.Label} {hs : List Decision} {a : Code} {m n : ℕ} (s : Simple) → simple_rows s ≡ [] → SimpleFits K slots s → Is x ls hs m n a
      → Is x ls hs m (n + simple_instructions s) (joined a (one s))
  behind {x = x} {ls = ls} {hs = hs} {m = m} {n = n} s none fit h =
      shorter m (n + simple_instructions s) (omega arith) (listed (no_more ls) (no_more hs) (both h (last x s none fit)))

  -- a statement starts
  pub started : {x : Bool} {ls : List tree.Label} {hs : List Decision} {a : Code} {m n : ℕ} (l : tree.Label) → Is x ls hs m n a
      → Is x (l ∷ ls) hs m (1 + n) (and_op (simple (start_of inst l)) a)
  started l h = record {
    rows = ap (λ rs. row_in inst l ∷ rs) h.rows;
    conditions = h.conditions;
    fits = λ own. (tt, h.fits own);
    lacks = λ d others. (tt, h.lacks d others);
    leaves = (tt, h.leaves);
    size = omega (arith, h.size);
  }

  pub chosen : {x : Bool} {ls ms : List tree.Label} {hs gs : List Decision} {a b : Code} {i j m n : ℕ} (k : ℕ) → k < slots → Is x ls hs i m a → Is x ms gs j n b
      → Is x (ls ++ ms) (hs ++ gs) (i + j) (m + n + 7) (single (choose k a b))
  chosen {ls = ls} {ms = ms} {hs = hs} {gs = gs} {a = a} {b = b} k lt h g = record {
    rows = no_more (code_rows a ++ code_rows b) ∙ ap (λ rs. rs ++ code_rows b) h.rows ∙ ap (λ rs. map (row_in inst) ls ++ rs) g.rows ∙ sym (map-append (row_in inst) ls ms);
    conditions = λ weight. omega (
      arith,
      ap (sum_by weight) (no_more (code_conditions a ++ code_conditions b)),
      sum_by-append weight (code_conditions a) (code_conditions b),
      h.conditions weight,
      g.conditions weight,
      both_weigh inst weight hs gs,
    );
    fits = λ own. ((lt, h.fits (first_own graph hs gs own), g.fits (second_own graph hs gs own)), tt);
    lacks = λ d others. ((h.lacks d (first_others d.0 hs gs others), g.lacks d (second_others d.0 hs gs others)), tt);
    leaves = ((h.leaves, g.leaves), tt);
    size = omega (arith, h.size, g.size);
  }

  pub caught : {x : Bool} {ls ms : List tree.Label} {hs gs : List Decision} {a b : Code} {i j m n : ℕ} (k : ℕ) → k < slots → Is x ls hs i m a → Is x ms gs j n b
      → Is x (ls ++ ms) (hs ++ gs) (i + j) (m + n + 4) (single (catch a k b))
  caught {ls = ls} {ms = ms} {hs = hs} {gs = gs} {a = a} {b = b} k lt h g = record {
    rows = no_more (code_rows a ++ code_rows b) ∙ ap (λ rs. rs ++ code_rows b) h.rows ∙ ap (λ rs. map (row_in inst) ls ++ rs) g.rows ∙ sym (map-append (row_in inst) ls ms);
    conditions = λ weight. omega (
      arith,
      ap (sum_by weight) (no_more (code_conditions a ++ code_conditions b)),
      sum_by-append weight (code_conditions a) (code_conditions b),
      h.conditions weight,
      g.conditions weight,
      both_weigh inst weight hs gs,
    );
    fits = λ own. ((h.fits (first_own graph hs gs own), lt, g.fits (second_own graph hs gs own)), tt);
    lacks = λ d others. ((h.lacks d (first_others d.0 hs gs others), g.lacks d (second_others d.0 hs gs others)), tt);
    leaves = ((h.leaves, g.leaves), tt);
    size = omega (arith, h.size, g.size);
  }

  pub looped : {ls : List tree.Label} {hs : List Decision} {a : Code} {m n : ℕ} (x : Bool) → Is true ls hs m n a → Is x ls hs m (n + 1) (single (forever a))
  looped {a = a} x h = record {
    rows = no_more (code_rows a) ∙ h.rows;
    conditions = λ weight. ap (sum_by weight) (no_more (code_conditions a)) ∙ h.conditions weight;
    fits = λ own. (h.fits own, tt);
    lacks = λ d others. (h.lacks d others, tt);
    leaves = (h.leaves, tt);
    size = omega (arith, h.size);
  }

  pub counted : {ls : List tree.Label} {hs : List Decision} {a : Code} {m n : ℕ} (x : Bool) → Is true ls hs m n a → Is x ls hs m (n + 1) (single (for_loop a))
  counted {a = a} x h = record {
    rows = no_more (code_rows a) ∙ h.rows;
    conditions = λ weight. ap (sum_by weight) (no_more (code_conditions a)) ∙ h.conditions weight;
    fits = λ own. (h.fits own, tt);
    lacks = λ d others. (h.lacks d others, tt);
    leaves = (h.leaves, tt);
    size = omega (arith, h.size);
  }

  pub left : (x : Bool) → x ≡ true → Is x [] [] 0 1 (single exit)
  left x is = record { rows = refl; conditions = λ weight. refl; fits = λ own. (tt, tt); lacks = λ d others. (tt, tt); leaves = (is, tt); size = omega arith }

  pub returned : (x : Bool) → Is x [] [] 0 1 (single returns)
  returned x = record { rows = refl; conditions = λ weight. refl; fits = λ own. (tt, tt); lacks = λ d others. (tt, tt); leaves = (tt, tt); size = omega arith }

  -- a call of a body of the kernel
  pub calling : {x : Bool} {ls : List tree.Label} {hs : List Decision} {a : Code} {m n : ℕ} (f : ℕ) → f < length K.bodies → Is x ls hs m n a
      → Is x ls hs m (13 + n) (and_op (call f) a)
  calling f there h = record {
    rows = h.rows;
    conditions = h.conditions;
    fits = λ own. (there, h.fits own);
    lacks = λ d others. (tt, h.lacks d others);
    leaves = (tt, h.leaves);
    size = omega (arith, h.size);
  }

  -- Nodes of a decision before others: they hold its conditions from a number on, and the decisions in their code.
  pub record Held (d n : ℕ) (ns : Nodes) (conditions : ℕ) (hs : List Decision) (next : ℕ) (rest : Nodes) (more most : ℕ) (on_true on_false : Edge) : Type 0 where
    pub rows : node_rows ns ≡ node_rows rest
    pub weigh : (weight : Condition → ℕ) → sum_by weight (node_conditions (record { 0 = d }) (record { 0 = inst }) n ns)
        ≡ weighed inst weight hs + weighed_from inst weight d n conditions + sum_by weight (node_conditions (record { 0 = d }) (record { 0 = inst }) next rest)
    pub fits : AreOwn graph hs → EdgeFits on_true rest → EdgeFits on_false rest → NodesFit K slots graph rest → NodesFit K slots graph ns
    pub lacks : (e : DecId) → HaveOthers e.0 hs → NodesLack e rest → NodesLack e ns
    pub leave : NodesLeave rest → NodesLeave ns
    pub size : nodes_instructions ns + more ≤ most + nodes_instructions rest

  -- the node of a condition
  pub held_condition : (d at next : ℕ) {hs : List Decision} {a : Code} {m n : ℕ} (k : ℕ) (t f : Edge) (rest : Nodes) → next ≡ suc at → k < slots → Is false [] hs m n a
      → Held d at (and_node a k t f rest) 1 hs next rest m (n + 8) t f
  held_condition d at next {hs = hs} {a = a} k t f rest following lt h = record {
    rows = ap (λ rs. rs ++ node_rows rest) h.rows;
    weigh = λ weight. rw following
        (omega (
          arith,
          sum_by-append weight (code_conditions a) (condition_in inst d at ∷ node_conditions (record { 0 = d }) (record { 0 = inst }) (suc at) rest),
          sum_by-cons weight (condition_in inst d at) (node_conditions (record { 0 = d }) (record { 0 = inst }) (suc at) rest),
          sum_by-cons weight (condition_in inst d at) [],
          h.conditions weight,
        ));
    fits = λ own true_fits false_fits others. (h.fits own, lt, true_fits, false_fits, others);
    lacks = λ e others more. (h.lacks e others, more);
    leave = λ more. (h.leaves, more);
    size = omega (arith, h.size);
  }

  -- a decision of a statement, into a slot
  pub decided : {ns : Nodes} {m n : ℕ} (x : Bool) (standing : Standing) (s : ℕ) (d : tree.Label) (t : tree.Test) (k next : ℕ) (e f : Edge) → k < slots
      → edges_of zero ns ≡ logic.graph (tree.shape_of t) → 1 ≤ tree.conditions_of t → count ns ≡ tree.conditions_of t
      → EdgeFits e no_node → EdgeFits f no_node → Held d.number 0 ns (tree.conditions_of t) (in_test s t) next no_node m n e f
      → Is x [] (in_decision s standing d t) m (n + 9) (single (decide (record { 0 = d.number }) (record { 0 = inst }) k ns))
  decided {ns = ns} x standing s d t k next e f lt graphed some many true_fits false_fits h = record {
    rows = no_more (node_rows ns) ∙ h.rows;
    conditions = λ weight. omega (
      arith,
      ap (sum_by weight) (no_more (node_conditions (record { 0 = d.number }) (record { 0 = inst }) 0 ns)),
      h.weigh weight,
      sum_by-append weight (map (condition_in inst d.number) (numbers 0 (tree.conditions_of t))) (conditions_in inst (in_test s t)),
    );
    fits = λ own. ((lt, graphed ∙ sym own.0, omega (arith, some, many), omega (arith, many, own.1.0), h.lacks (record { 0 = d.number }) own.1.1.0 tt, h.fits own.1.1.1 true_fits false_fits tt), tt);
    lacks = λ g others. ((others.0, h.lacks g others.1 tt), tt);
    leaves = (h.leave tt, tt);
    size = omega (arith, h.size);
  }

  pub held_twice : (d at middle next i j : ℕ) {ns ms rest : Nodes} {hs gs : List Decision} {m n k l : ℕ} {t f u g : Edge} (total : ℕ) → total ≡ i + j → middle ≡ at + i
      → (EdgeFits u rest → EdgeFits g rest → EdgeFits t ms × EdgeFits f ms)
      → Held d at ns i hs middle ms m n t f → Held d middle ms j gs next rest k l u g → Held d at ns total (hs ++ gs) next rest (m + k) (n + l) u g
  held_twice d at middle next i j {hs = hs} {gs = gs} total all from edges h o = record {
    rows = h.rows ∙ o.rows;
    weigh = λ weight. omega (arith, h.weigh weight, o.weigh weight, both_weigh inst weight hs gs, split_weighs inst weight d i j at middle total all from);
    fits = λ own true_fits false_fits others.
        let e = edges true_fits false_fits in
        h.fits (first_own graph hs gs own) e.0 e.1 (o.fits (second_own graph hs gs own) true_fits false_fits others);
    lacks = λ e others more. h.lacks e (first_others e.0 hs gs others) (o.lacks e (second_others e.0 hs gs others) more);
    leave = λ more. h.leave (o.leave more);
    size = omega (arith, h.size, o.size);
  }
