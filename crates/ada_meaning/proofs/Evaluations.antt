-- The steps of a decision's evaluation are a path of its graph, to the leaf of its outcome.
use Rattle.std.proofs.Common.{◌≡◌, ◌<◌, ◌≤◌, ℕ, ◌+◌, Bool, true, false, not, List, [], ◌∷◌, ◌++◌, if◌then◌else◌, eq-eqb, refl, sym, ap, subst, ◌∙◌, arith}
use Rattle.cov_base.specs.declared.event.Event.TheVariants.{Done}
use Rattle.cov_base.specs.Expr.{size}
use Rattle.cov_base.specs.Expr as logic
use Rattle.cov_base.specs.Graph.{Next, node, leaf, Edges, nodes, graph, next_from, next_in}
use Rattle.cov_base.specs.Path.{Step, LeadsTo, vector_of}
use Rattle.cov_base.proofs.Follows.{outcome_law as path_law}
use Rattle.cov_base.proofs.Edges.{length-nodes}
use Rattle.cov_base.proofs.Reached.{next_left, next_right}
use Rattle.ada_meaning.specs.Tree.{Label, Test, condition, negation, operator, shape_of}
use Rattle.ada_meaning.specs.Program.{Program}
use Rattle.ada_meaning.specs.Arithmetic.{is_true}
use Rattle.ada_meaning.specs.State.{with_seen, World, Outcome, Gives, Raises, OutOfFuel, Action, goes_to, ◌>>=◌, give, tick}
use Rattle.ada_meaning.specs.Calls.{Calls}
use Rattle.ada_meaning.specs.Expressions.{value, test, decides, completed, Evaluation}
use Rattle.ada_meaning.specs.Events.{IsNoted}

-- what an outcome gives is so
abbrev pub Given : {A : Type 0} → (A → Type 0) → Outcome A → Type 0
Given P (Gives a w) = P a
Given P (Raises e w) = Unit {0}
Given P (OutOfFuel w) = Unit {0}

-- what an action gives is so
pub record Yields {A : Type 0} (P : A → Type 0) (m : Action A) : Type 0 where
  pub at_world : (w : World) → Given P (m w)

goes_given : {A B : Type 0} {P : A → Type 0} {Q : B → Type 0} (o : Outcome A) (f : A → Action B) → Given P o → ((a : A) → P a → Yields Q (f a))
    → Given Q (goes_to o f)
goes_given (Gives a w) f h g = (g a h).at_world w
goes_given (Raises e w) f h g = tt
goes_given (OutOfFuel w) f h g = tt

pub bind_yields : {A B : Type 0} {P : A → Type 0} {Q : B → Type 0} {m : Action A} {f : A → Action B} → Yields P m → ((a : A) → P a → Yields Q (f a))
    → Yields Q (m >>= f)
bind_yields {P = P} {Q = Q} {m = m} {f = f} h g = record { at_world = λ w. goes_given {P = P} {Q = Q} (m w) f (h.at_world w) g }

anything : {A : Type 0} (o : Outcome A) → Given (λ a. Unit {0}) o
anything (Gives a w) = tt
anything (Raises e w) = tt
anything (OutOfFuel w) = tt

-- nothing is asked
pub any_yields : {A : Type 0} (m : Action A) → Yields (λ a. Unit {0}) m
any_yields m = record { at_world = λ w. anything (m w) }

pub give_yields : {A : Type 0} (P : A → Type 0) (a : A) → P a → Yields P (give a)
give_yields P a h = record { at_world = λ w. h }

-- where an expression with two exits is left
abbrev exit : Bool → Next → Next → Next
exit b t f = if b then t else f

-- the graph has the nodes of an expression from n on, with exits t and f
abbrev Holds : List Edges → logic.Expr → ℕ → Next → Next → Type 0
Holds g e n t f = (k : ℕ) (b : Bool) → n ≤ k → k < n + size e → next_in g k b ≡ next_from n (nodes e n t f) k b

left_holds : (g : List Edges) (l r : logic.Expr) (n : ℕ) (t f t' f' : Next)
    → ((k : ℕ) (b : Bool) → n ≤ k → k < n + (size l + size r) → next_in g k b ≡ next_from n (nodes l n t f ++ nodes r (n + size l) t' f') k b)
    → Holds g l n t f
left_holds g l r n t f t' f' all k b from below =
    let long = length-nodes l n t f in
    all k b from (omega (arith, below)) ∙ next_left n (nodes l n t f) (nodes r (n + size l) t' f') k b from (omega (arith, below, long))

right_holds : (g : List Edges) (l r : logic.Expr) (n : ℕ) (t f t' f' : Next)
    → ((k : ℕ) (b : Bool) → n ≤ k → k < n + (size l + size r) → next_in g k b ≡ next_from n (nodes l n t f ++ nodes r (n + size l) t' f') k b)
    → Holds g r (n + size l) t' f'
right_holds g l r n t f t' f' all k b from below =
    let long = length-nodes l n t f in
    all k b (omega (arith, from)) (omega (arith, below))
    ∙ next_right n (n + size l) (nodes l n t f) (nodes r (n + size l) t' f') k b (omega (arith, long)) from

-- the steps lead to the exit of the outcome
abbrev Leads : List Edges → Next → Next → Evaluation → Type 0
Leads g t f v = LeadsTo g v.steps (exit v.outcome t f)

one_node : (n : ℕ) (t f : Next) (b : Bool) → next_from n (nodes logic.condition n t f) n b ≡ exit b t f
one_node n t f true = rw (eq-eqb n n refl) refl
one_node n t f false = rw (eq-eqb n n refl) refl

swapped : (g : List Edges) (steps : List Step) (b : Bool) (t f : Next) → LeadsTo g steps (exit b f t) → LeadsTo g steps (exit (not b) t f)
swapped g steps true t f h = h
swapped g steps false t f h = h

module _ (p : Program) (calls : Calls) (inst : ℕ) (g : List Edges) where
  -- the right operand of `and then`, and of `or else`
  after_and : (v : Evaluation) (m : ℕ) (t f : Next) (rest : Action Evaluation) (b : Bool) → v.outcome ≡ b → Leads g (node m) f v
      → (LeadsTo g v.steps (node m) → Yields (Leads g t f) rest) → Yields (Leads g t f) (if b then rest else give v)
  after_and v m t f rest true is leads go = go (subst (λ x. LeadsTo g v.steps (exit x (node m) f)) is leads)
  after_and v m t f rest false is leads go = give_yields (Leads g t f) v
      (subst (λ x. LeadsTo g v.steps (exit x t f)) (sym is) (subst (λ x. LeadsTo g v.steps (exit x (node m) f)) is leads))

  after_or : (v : Evaluation) (m : ℕ) (t f : Next) (rest : Action Evaluation) (b : Bool) → v.outcome ≡ b → Leads g t (node m) v
      → (LeadsTo g v.steps (node m) → Yields (Leads g t f) rest) → Yields (Leads g t f) (if b then give v else rest)
  after_or v m t f rest true is leads go = give_yields (Leads g t f) v
      (subst (λ x. LeadsTo g v.steps (exit x t f)) (sym is) (subst (λ x. LeadsTo g v.steps (exit x t (node m))) is leads))
  after_or v m t f rest false is leads go = go (subst (λ x. LeadsTo g v.steps (exit x t (node m))) is leads)

  test_leads : (u : Test) (n : ℕ) (steps : List Step) (t f : Next) → Holds g (shape_of u) n t f → LeadsTo g steps (node n)
      → Yields (Leads g t f) (test p calls inst u n steps)
  test_leads (condition at e) n steps t f holds here = bind_yields (any_yields tick) (λ a h. bind_yields (any_yields (value p calls inst e)) (λ x k.
      give_yields (Leads g t f) (record { outcome = is_true x; steps = record { at_node = n; value = is_true x } ∷ steps })
      (holds n (is_true x) (omega arith) (omega arith) ∙ one_node n t f (is_true x), here)))
  test_leads (negation u) n steps t f holds here = bind_yields (any_yields tick) (λ a h. bind_yields (test_leads u n steps f t holds here) (λ v leads.
      give_yields (Leads g t f) (record { outcome = not v.outcome; steps = v.steps }) (swapped g v.steps v.outcome t f leads)))
  test_leads (operator true l r) n steps t f holds here =
      let middle : ℕ = n + size (shape_of l) in
      bind_yields (any_yields tick) (λ a h.
      bind_yields (test_leads l n steps (node middle) f (left_holds g (shape_of l) (shape_of r) n (node middle) f t f holds) here) (λ v leads.
      after_and v middle t f (test p calls inst r middle v.steps) v.outcome refl leads
      (test_leads r middle v.steps t f (right_holds g (shape_of l) (shape_of r) n (node middle) f t f holds))))
  test_leads (operator false l r) n steps t f holds here =
      let middle : ℕ = n + size (shape_of l) in
      bind_yields (any_yields tick) (λ a h.
      bind_yields (test_leads l n steps t (node middle) (left_holds g (shape_of l) (shape_of r) n t (node middle) t f holds) here) (λ v leads.
      after_or v middle t f (test p calls inst r middle v.steps) v.outcome refl leads
      (test_leads r middle v.steps t f (right_holds g (shape_of l) (shape_of r) n t (node middle) t f holds))))

to_leaf : (g : List Edges) (steps : List Step) (b : Bool) → LeadsTo g steps (exit b (leaf true) (leaf false)) → LeadsTo g steps (leaf b)
to_leaf g steps true h = h
to_leaf g steps false h = h

-- a whole evaluation
abbrev pub LeadsToOutcome : Test → Evaluation → Type 0
LeadsToOutcome t v = LeadsTo (graph (shape_of t)) v.steps (leaf v.outcome)

leaves_at : (o : Outcome Evaluation) (t : Test) → Given (Leads (graph (shape_of t)) (leaf true) (leaf false)) o → Given (LeadsToOutcome t) o
leaves_at (Gives v w) t h = to_leaf (graph (shape_of t)) v.steps v.outcome h
leaves_at (Raises e w) t h = tt
leaves_at (OutOfFuel w) t h = tt

pub evaluation_leads : (p : Program) (calls : Calls) (inst : ℕ) (t : Test) → Yields (LeadsToOutcome t) (test p calls inst t 0 [])
evaluation_leads p calls inst t = record {
  at_world = λ w. leaves_at (test p calls inst t 0 [] w) t
      ((test_leads p calls inst (graph (shape_of t)) t 0 [] (leaf true) (leaf false) (λ k b from below. refl) refl).at_world w);
}

given_at : {A : Type 0} (P : A → Type 0) (o : Outcome A) (a : A) (w : World) → o ≡ Gives a w → Given P o → P a
given_at P o a w is h = subst (Given P) is h

pub leads_law : (p : Program) (calls : Calls) (inst : ℕ) (t : Test) (w v : World) (found : Evaluation) → test p calls inst t 0 [] w ≡ Gives found v
    → LeadsToOutcome t found
leads_law p calls inst t w v found is =
    given_at (LeadsToOutcome t) (test p calls inst t 0 [] w) found v is ((evaluation_leads p calls inst t).at_world w)

-- what stands after an evaluation that gave b
noted_after : (d : Label) (inst : ℕ) (t : Test) (b : Bool) (v : World) (o : Outcome Evaluation) → Given (LeadsToOutcome t) o
    → goes_to o (completed d inst) ≡ Gives b v → IsNoted d inst t b v
noted_after d inst t b v (Gives found u) leads is =
    let gave : found.outcome ≡ b = cc is in
    let state : with_seen (record {
      events = Done (record { 0 = d.number }) (record { 0 = inst }) (vector_of found.steps) ∷ u.seen.events;
      output = u.seen.output;
      cost = u.seen.cost;
    }) u ≡ v = cc is in
    record {
      vector = vector_of found.steps;
      before = u.seen.events;
      events = sym (ap (λ (x : World). x.seen.events) state);
      path = record { path = found.steps; ends = found.outcome; leads = leads; shown = refl };
      outcome = path_law (shape_of t) found.steps found.outcome leads ∙ gave;
    }
noted_after d inst t b v (Raises e w) leads is = cc is
noted_after d inst t b v (OutOfFuel w) leads is = cc is

pub noted_law : (p : Program) (calls : Calls) (inst : ℕ) (d : Label) (t : Test) (w v : World) (b : Bool)
    → decides p calls inst d t w ≡ Gives b v → IsNoted d inst t b v
noted_law p calls inst d t w v b is =
    noted_after d inst t b v (test p calls inst t 0 [] w) ((evaluation_leads p calls inst t).at_world w) is
