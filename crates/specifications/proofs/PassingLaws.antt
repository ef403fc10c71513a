-- One actual of an instance, in both steps.
use Rattle.std.proofs.Common.{◌≡◌, ℕ, Bool, true, false, List, [], ◌∷◌, Option, Some, None, option_map, slice_get, Result, Ok, Err, refl, sym, ap, ◌∙◌, subst}
use Rattle.std.specs.Option.{ok_or}
use Rattle.std.specs.Result.{result_and}
use Rattle.std.proofs.lemmas.Bool.{false≢true}
use Rattle.std.proofs.lemmas.Option.{slice_get-map}
use Rattle.cov_base.specs.declared.failure.Failure.{Failure}
use Rattle.cov_base.specs.declared.position.Pos.{Pos}
use Rattle.ada_syntax.specs.Tree as source
use Rattle.ada_syntax.specs.Tree.{expr_pos}
use Rattle.ada_syntax.specs.TreeView.{with_operands, joined, is_filled, has_operators, expr_at}
use Rattle.ada_syntax.specs.declared.expr.ExprKind.{ExprKind}
use Rattle.ada_syntax.specs.declared.expr.ExprKind.TheVariants as kind
use Rattle.ada_syntax.specs.declared.expr.LogicalOperator.{LogicalOperator}
use Rattle.ada_syntax.specs.declared.expr.Operand.{Operand}
use Rattle.ada_meaning.specs.Types.{Static}
use Rattle.ada_rules.specs.Plan.{Plan, ◌>>=◌, outcome_after, rule, ruled, answer_at}
use Rattle.ada_rules.specs.Types.{AdaSubtype, Kind, type_in, range_in, fits}
use Rattle.ada_rules.specs.Statics.{Test}
use Rattle.ada_rules.specs.Entities as rules
use Rattle.ada_rules.specs.Entities.{Actual, object_actual, formal_object, subtype_seen}
use Rattle.ada_rules.specs.Environment.{Step, naming, typing, typed_rule, State, Given, given, Env}
use Rattle.ada_rules.specs.Denoted.{Judged, Denoted}
use Rattle.ada_rules.specs.Expressions.{Valued, itself, denoted, judged, static_part}
use Rattle.ada_rules.specs.Declarations.{in_range}
use Rattle.ada_rules.specs.Instances.{any_actual, actual_plan, any_plan}
use Rattle.ada_entities.specs.declared.entity.Entity.{Entity}
use Rattle.ada_entities.specs.declared.entity.Entity.TheVariants as entity
use Rattle.ada_entities.specs.declared.fault.Refusal.{Refusal}
use Rattle.ada_entities.specs.Answers.{refusal, Refuses, refused_at, no_memory, Answers}
use Rattle.ada_entities.specs.EntityViews.{Tables, entity_of, named, region_of}
use Rattle.ada_phrases.proofs.Parts.{passes_on, in_part, answers_as}
use Rattle.specifications.specs.Passing.{name_given, by_name, by_other, name_plan}

-- what is given whatever a part comes to, where it passes
behind_part : {A B C J : Type 0} (seen : J → B) (view : A → C) (p : Pos) (part : Result B Pos) (k : B → Plan C) (o : Result A (Failure Refusal))
    → ((j : J) → Answers view (answer_at p (k (seen j)).outcome) o) → (r : Result J (Failure Refusal)) → Answers seen part r
    → Answers view (answer_at p (outcome_after part k)) (result_and r o)
behind_part seen view p part k o each (Ok j) h = answers_as view _ _ o (passes_on p part k (seen j) h) (each j)
behind_part seen view p part k o each (Err f) h = in_part p part k f h

and_then : {A B C J : Type 0} (seen : J → B) (view : A → C) (p : Pos) (part : Result B Pos) (k : B → Plan C) (o result : Result A (Failure Refusal))
    (r : Result J (Failure Refusal)) → result ≡ result_and r o → ((j : J) → Answers view (answer_at p (k (seen j)).outcome) o) → Answers seen part r
    → Answers view (answer_at p (outcome_after part k)) result
and_then seen view p part k o result r is each h =
    subst (λ x. Answers view (answer_at p (outcome_after part k)) x) (sym is) (behind_part seen view p part k o each r h)

-- for a formal object, whose type and values are known in other words
abbrev object_behind : Given Valued → Plan (Given Actual)
object_behind v = rule (Some (given (object_actual v.value.value) v.next))

module _ (env : Env) (s : State) (n : ℕ) (before : List Actual) (t : AdaSubtype) (e : Static) (x : source.Expr)
    (accepts : Kind → Bool) (test : Static → Test) (same : accepts ≡ fits (type_in (subtype_seen n before t)))
    (within : test ≡ in_range (range_in (subtype_seen n before t))) where
  pub object_refused : (f : Failure Refusal) → Refuses (static_part env s accepts test x).answer f
      → Refuses (answer_at (expr_pos x) (actual_plan env s n before (formal_object t e) x).outcome) f
  object_refused f h =
      in_part (expr_pos x) (static_part env s (fits (type_in (subtype_seen n before t))) (in_range (range_in (subtype_seen n before t))) x).answer object_behind f
      (subst (λ u. Refuses (static_part env s (fits (type_in (subtype_seen n before t))) u x).answer f) within
      (subst (λ a. Refuses (static_part env s a test x).answer f) same h))

  pub object_passes : (v : Given Valued) → (static_part env s accepts test x).answer ≡ Ok v
      → answer_at (expr_pos x) (actual_plan env s n before (formal_object t e) x).outcome ≡ Ok (given (object_actual v.value.value) v.next)
  object_passes v h =
      passes_on (expr_pos x) (static_part env s (fits (type_in (subtype_seen n before t))) (in_range (range_in (subtype_seen n before t))) x).answer object_behind v
      ((λ z. (static_part env s (sym same z) (sym within z) x).answer) ∙ h)

-- a name, and another expression
module _ (env : Env) (s : State) (n : ℕ) (before : List Actual) (f : rules.Entity) (p : Pos) (x : source.Name) where
  pub name_refused : (fault : Failure Refusal) → Refuses (denoted env s x).answer fault → Refuses (answer_at p (by_name env s n before f x).outcome) fault
  name_refused fault h = in_part p (denoted env s x).answer (name_given env n before f) fault h

  pub name_passes : (d : Given Denoted) → (denoted env s x).answer ≡ Ok d
      → answer_at p (by_name env s n before f x).outcome ≡ answer_at p (name_given env n before f d).outcome
  name_passes d h = passes_on p (denoted env s x).answer (name_given env n before f) d h

abbrev none_behind : Step → Given Judged → Plan (Given Actual)
none_behind st y = typed_rule st (given any_actual y.next) None

pub other_given : {A J : Type 0} (env : Env) (s : State) (x : source.Expr) (p q : Pos) (n : State) (seen : J → Judged) (view : A → Actual)
    (o result : Result A (Failure Refusal)) (r : Result J (Failure Refusal)) (st : Step) → env.step ≡ st → q ≡ p → result ≡ result_and r o
    → Answers (λ a. given (view a) n) (answer_at q (typed_rule st (given any_actual n) None).outcome) o
    → Answers (λ j. given (seen j) n) (judged env itself s x).answer r
    → Answers (λ a. given (view a) n) (answer_at p (by_other env s x).outcome) result
other_given env s x p q n seen view o result r st step at is own h =
    and_then (λ j. given (seen j) n) (λ a. given (view a) n) p (judged env itself s x).answer (none_behind env.step) o result r is
    (λ j. subst (λ t. Answers (λ a. given (view a) n) (answer_at p (typed_rule t (given any_actual n) None).outcome) o) (sym step)
    (subst (λ u. Answers (λ a. given (view a) n) (answer_at u (typed_rule st (given any_actual n) None).outcome) o) at own)) h

-- what is looked at for its names
abbrev any_behind : {A : Type 0} → Given A → Plan (Given Actual)
any_behind d = rule (Some (given any_actual d.next))

abbrev any_other : Env → State → source.Expr → Plan (Given Actual)
any_other env s x = judged env itself s x >>= any_behind

pub any_named : {A D : Type 0} (env : Env) (s : State) (p q : Pos) (x : source.Name) (n : State) (seen : D → Denoted) (view : A → Actual)
    (a : A) (result : Result A (Failure Refusal)) (r : Result D (Failure Refusal)) → view a ≡ any_actual → result ≡ result_and r (Ok a)
    → Answers (λ d. given (seen d) n) (denoted env s x).answer r
    → Answers (λ b. given (view b) n) (answer_at p (any_plan env s (source.named q x)).outcome) result
any_named env s p q x n seen view a result r any is h =
    and_then (λ d. given (seen d) n) (λ b. given (view b) n) p (denoted env s x).answer any_behind (Ok a) result r is
    (λ d. ap (λ b. Ok (given b n)) (sym any)) h

-- which expressions are names
abbrev pub is_named : source.Expr → Bool
is_named (source.named p x) = true
is_named x = false

operands_named : (p : Pos) (a : source.Expr) (os : List Operand) → is_named a ≡ false → is_named (with_operands p a os) ≡ false
operands_named p a [] h = h
operands_named p a (o ∷ os) h = operands_named p (source.binary p a o.operator o.operand) os refl

joined_named : (p : Pos) (op : LogicalOperator) (a : source.Expr) (bs : List source.Expr) → is_named a ≡ false → is_named (joined p op a bs) ≡ false
joined_named p op a [] h = h
joined_named p op a (b ∷ bs) h = joined_named p op (source.logical p a op b) bs refl

filled_named : (p : Pos) (a : source.Expr) (os : List Operand) → is_filled os ≡ true → is_named (with_operands p a os) ≡ false
filled_named p a [] h = absurd (false≢true h)
filled_named p a (o ∷ os) h = operands_named p (source.binary p a o.operator o.operand) os refl

chained_named : (p : Pos) (op : LogicalOperator) (a : source.Expr) (bs : List source.Expr) → is_filled bs ≡ true → is_named (joined p op a bs) ≡ false
chained_named p op a [] h = absurd (false≢true h)
chained_named p op a (b ∷ bs) h = joined_named p op (source.logical p a op b) bs refl

pub no_name : (p : Pos) (k : ExprKind) → has_operators k ≡ true → ((x : _) → k ≡ kind.Name x → ⊥) → is_named (expr_at p k) ≡ false
no_name p (kind.Numeral n) h other = refl
no_name p (kind.Name x) h other = absurd (other x refl)
no_name p (kind.Parenthesized e) h other = refl
no_name p (kind.Unary op e) h other = refl
no_name p (kind.Product e os) h other = filled_named p e.value os.items h
no_name p (kind.Sum e os) h other = filled_named p e.value os.items h
no_name p (kind.Relation a op b) h other = refl
no_name p (kind.Logical op e es) h other = chained_named p op e.value es.items h

pub other_plan : (env : Env) (s : State) (n : ℕ) (before : List Actual) (f : rules.Entity) (x : source.Expr) → is_named x ≡ false
    → name_plan env s n before f x ≡ by_other env s x
other_plan env s n before f (source.numeral p y) h = refl
other_plan env s n before f (source.named p y) h = absurd (false≢true (sym h))
other_plan env s n before f (source.parenthesized p y) h = refl
other_plan env s n before f (source.unary p op y) h = refl
other_plan env s n before f (source.binary p y op z) h = refl
other_plan env s n before f (source.relation p y op z) h = refl
other_plan env s n before f (source.logical p y op z) h = refl

any_as : (env : Env) (s : State) (x : source.Expr) → is_named x ≡ false → any_plan env s x ≡ any_other env s x
any_as env s (source.numeral p y) h = refl
any_as env s (source.named p y) h = absurd (false≢true (sym h))
any_as env s (source.parenthesized p y) h = refl
any_as env s (source.unary p op y) h = refl
any_as env s (source.binary p y op z) h = refl
any_as env s (source.relation p y op z) h = refl
any_as env s (source.logical p y op z) h = refl

pub any_unnamed : {A J : Type 0} (env : Env) (s : State) (p : Pos) (x : source.Expr) (n : State) (seen : J → Judged) (view : A → Actual)
    (a : A) (result : Result A (Failure Refusal)) (r : Result J (Failure Refusal)) → is_named x ≡ false → view a ≡ any_actual
    → result ≡ result_and r (Ok a) → Answers (λ j. given (seen j) n) (judged env itself s x).answer r
    → Answers (λ b. given (view b) n) (answer_at p (any_plan env s x).outcome) result
any_unnamed env s p x n seen view a result r other any is h =
    answers_as (λ b. given (view b) n) _ _ result (ap (λ (q : Plan (Given Actual)). answer_at p q.outcome) (any_as env s x other))
    (and_then (λ j. given (seen j) n) (λ b. given (view b) n) p (judged env itself s x).answer any_behind (Ok a) result r is
    (λ j. ap (λ b. Ok (given b n)) (sym any)) h)

-- a formal that is no object takes a name
abbrev pub is_object : rules.Entity → Bool
is_object (rules.formal_object t e) = true
is_object f = false

named_plan : (env : Env) (s : State) (n : ℕ) (before : List Actual) (f : rules.Entity) (x : source.Expr) → is_object f ≡ false
    → actual_plan env s n before f x ≡ name_plan env s n before f x
named_plan env s n before (rules.formal_object t e) x h = absurd (false≢true (sym h))
named_plan env s n before rules.hidden (source.numeral p y) h = refl
named_plan env s n before rules.hidden (source.named p y) h = refl
named_plan env s n before rules.hidden (source.parenthesized p y) h = refl
named_plan env s n before rules.hidden (source.unary p op y) h = refl
named_plan env s n before rules.hidden (source.binary p y op z) h = refl
named_plan env s n before rules.hidden (source.relation p y op z) h = refl
named_plan env s n before rules.hidden (source.logical p y op z) h = refl
named_plan env s n before (rules.mark i t) (source.numeral p y) h = refl
named_plan env s n before (rules.mark i t) (source.named p y) h = refl
named_plan env s n before (rules.mark i t) (source.parenthesized p y) h = refl
named_plan env s n before (rules.mark i t) (source.unary p op y) h = refl
named_plan env s n before (rules.mark i t) (source.binary p y op z) h = refl
named_plan env s n before (rules.mark i t) (source.relation p y op z) h = refl
named_plan env s n before (rules.mark i t) (source.logical p y op z) h = refl
named_plan env s n before (rules.literal t v) (source.numeral p y) h = refl
named_plan env s n before (rules.literal t v) (source.named p y) h = refl
named_plan env s n before (rules.literal t v) (source.parenthesized p y) h = refl
named_plan env s n before (rules.literal t v) (source.unary p op y) h = refl
named_plan env s n before (rules.literal t v) (source.binary p y op z) h = refl
named_plan env s n before (rules.literal t v) (source.relation p y op z) h = refl
named_plan env s n before (rules.literal t v) (source.logical p y op z) h = refl
named_plan env s n before (rules.object v) (source.numeral p y) h = refl
named_plan env s n before (rules.object v) (source.named p y) h = refl
named_plan env s n before (rules.object v) (source.parenthesized p y) h = refl
named_plan env s n before (rules.object v) (source.unary p op y) h = refl
named_plan env s n before (rules.object v) (source.binary p y op z) h = refl
named_plan env s n before (rules.object v) (source.relation p y op z) h = refl
named_plan env s n before (rules.object v) (source.logical p y op z) h = refl
named_plan env s n before (rules.routine r) (source.numeral p y) h = refl
named_plan env s n before (rules.routine r) (source.named p y) h = refl
named_plan env s n before (rules.routine r) (source.parenthesized p y) h = refl
named_plan env s n before (rules.routine r) (source.unary p op y) h = refl
named_plan env s n before (rules.routine r) (source.binary p y op z) h = refl
named_plan env s n before (rules.routine r) (source.relation p y op z) h = refl
named_plan env s n before (rules.routine r) (source.logical p y op z) h = refl
named_plan env s n before (rules.raisable e) (source.numeral p y) h = refl
named_plan env s n before (rules.raisable e) (source.named p y) h = refl
named_plan env s n before (rules.raisable e) (source.parenthesized p y) h = refl
named_plan env s n before (rules.raisable e) (source.unary p op y) h = refl
named_plan env s n before (rules.raisable e) (source.binary p y op z) h = refl
named_plan env s n before (rules.raisable e) (source.relation p y op z) h = refl
named_plan env s n before (rules.raisable e) (source.logical p y op z) h = refl
named_plan env s n before rules.component (source.numeral p y) h = refl
named_plan env s n before rules.component (source.named p y) h = refl
named_plan env s n before rules.component (source.parenthesized p y) h = refl
named_plan env s n before rules.component (source.unary p op y) h = refl
named_plan env s n before rules.component (source.binary p y op z) h = refl
named_plan env s n before rules.component (source.relation p y op z) h = refl
named_plan env s n before rules.component (source.logical p y op z) h = refl
named_plan env s n before rules.test_io (source.numeral p y) h = refl
named_plan env s n before rules.test_io (source.named p y) h = refl
named_plan env s n before rules.test_io (source.parenthesized p y) h = refl
named_plan env s n before rules.test_io (source.unary p op y) h = refl
named_plan env s n before rules.test_io (source.binary p y op z) h = refl
named_plan env s n before rules.test_io (source.relation p y op z) h = refl
named_plan env s n before rules.test_io (source.logical p y op z) h = refl
named_plan env s n before (rules.unit u) (source.numeral p y) h = refl
named_plan env s n before (rules.unit u) (source.named p y) h = refl
named_plan env s n before (rules.unit u) (source.parenthesized p y) h = refl
named_plan env s n before (rules.unit u) (source.unary p op y) h = refl
named_plan env s n before (rules.unit u) (source.binary p y op z) h = refl
named_plan env s n before (rules.unit u) (source.relation p y op z) h = refl
named_plan env s n before (rules.unit u) (source.logical p y op z) h = refl

no_object : (k : Tables) (f : Entity) → ((t : _) (o : _) (v : _) → f ≡ entity.FormalObject t o v → ⊥) → is_object (entity_of k f) ≡ false
no_object k (entity.FormalObject t o v) other = absurd (other t o v refl)
no_object k entity.Hidden other = refl
no_object k (entity.Mark i t) other = refl
no_object k (entity.Literal t v) other = refl
no_object k (entity.Object o) other = refl
no_object k (entity.Routine r) other = refl
no_object k (entity.Exception e) other = refl
no_object k entity.Component other = refl
no_object k entity.TestIo other = refl
no_object k (entity.Unit u) other = refl

pub formal_plan : (env : Env) (s : State) (n : ℕ) (before : List Actual) (k : Tables) (f : Entity) (x : source.Expr)
    → ((t : _) (o : _) (v : _) → f ≡ entity.FormalObject t o v → ⊥)
    → actual_plan env s n before (entity_of k f) x ≡ name_plan env s n before (entity_of k f) x
formal_plan env s n before k f x other = named_plan env s n before (entity_of k f) x (no_object k f other)

-- the formals of a generic, as they are seen
pub formal_there : (k : Tables) (r : List (List ℕ × Entity)) (place : ℕ)
    → option_map (entity_of k) (option_map (λ (e : List ℕ × Entity). e.1) (slice_get r place))
    ≡ option_map (λ (e : List ℕ × rules.Entity). e.1) (slice_get (region_of k r) place)
formal_there k r place = each (slice_get r place) ∙ ap (option_map (λ (e : List ℕ × rules.Entity). e.1)) (sym (slice_get-map (named k) r place)) where
  each : (o : Option (List ℕ × Entity)) → option_map (entity_of k) (option_map (λ (e : List ℕ × Entity). e.1) o)
      ≡ option_map (λ (e : List ℕ × rules.Entity). e.1) (option_map (named k) o)
  each None = refl
  each (Some e) = refl

-- what a rule on types finds, in the step of types
pub found_typed : {A B : Type 0} (view : A → B) (n : State) (st : Step) (p : Pos) (b : B) (found : Option A) (o : Option B) (r : Result A (Failure Refusal))
    → st ≡ typing → option_map view found ≡ o → r ≡ ok_or found (refusal p)
    → Answers (λ x. given (view x) n) (answer_at p (typed_rule st (given b n) (option_map (λ x. given x n) o)).outcome) r
found_typed {A = A} view n st p b found o r step e is =
    subst (λ t. Answers (λ x. given (view x) n) (answer_at p (typed_rule t (given b n) (option_map (λ x. given x n) o)).outcome) r) (sym step)
    (subst (λ y. Answers (λ x. given (view x) n) (answer_at p (ruled (option_map (λ x. given x n) y))) r) e
    (subst (λ y. Answers (λ x. given (view x) n) (answer_at p (ruled (option_map (λ x. given x n) (option_map view found)))) y) (sym is) (each found)))
  where
    each : (found : Option A) → Answers (λ x. given (view x) n) (answer_at p (ruled (option_map (λ x. given x n) (option_map view found)))) (ok_or found (refusal p))
    each None = refused_at refl
    each (Some x) = refl

pub ruleset parts = (no_memory)
