-- Handlers, one by one, as the walk goes on over them.
use Rattle.std.proofs.Common.{◌≡◌, ℕ, ◌+◌, ◌<◌, ◌≤◌, nat_eq, Bool, ◌&&◌, List, [], ◌∷◌, ◌++◌, length, map, drop, get_or, Some, Result, Ok, Err, refl, sym, ap, ◌∙◌, inl, inr, eq-eqb, length-drop, arith}
use Rattle.std.proofs.lemmas.Bool.{ne_eqb}
use Rattle.std.proofs.lemmas.Bool.Decides.{eqb_tells}
use Rattle.std.proofs.lemmas.List.{at_drop_more, at_drop_all, map-append}
use Rattle.cov_base.specs.declared.position.Pos.{Pos}
use Rattle.cov_base.specs.declared.failure.Failure.{Failure}
use Rattle.ada_syntax.specs.StatementTree as text
use Rattle.ada_syntax.specs.StatementView.{statements_of, handlers_of}
use Rattle.ada_syntax.specs.declared.statement.ExceptionChoice.{ExceptionChoice}
use Rattle.ada_syntax.specs.declared.statement.Handler.{Handler as SourceHandler}
use Rattle.ada_meaning.specs.Tree as tree
use Rattle.ada_tree.specs.declared.statement.Handler.{Handler}
use Rattle.ada_tree.specs.View.{exception_choice_of}
use Rattle.ada_rules.specs.Plan.{Plan, ◌>>=◌, rule, answer_at}
use Rattle.ada_rules.specs.Environment.{State, Given, given, Env, in_handler}
use Rattle.ada_rules.specs.Statements.{is_last, all_caught, all_stated, all_handlers, all_handled, Frame, stmts_of}
use Rattle.ada_entities.specs.declared.fault.Refusal.{Refusal}
use Rattle.ada_entities.specs.Answers.{Refuses, refused_at, no_memory}
use Rattle.ada_entities.specs.EntityViews.{Tables}
use Rattle.ada_phrases.proofs.Parts.{passes_on, in_part, refused_as}
use Rattle.ada_entities.specs.Trees.{shapes_in_tree}
use Rattle.statement_parts.proofs.CaseLaws.{statements_in}
use Rattle.program_walk.specs.Changes.{Grows, UnlessMemory}
use Rattle.program_walk.specs.declared.context.Context.{Context}
use Rattle.program_walk.specs.declared.walk.Walk.{Walk}
use Rattle.program_walk.specs.States.{state_of}
use Rattle.program_walk.specs.Walks.{Begins, Continues, StandsAt}
use Rattle.program_walk.proofs.Following.{grown}
use Rattle.statements.specs.Handling.{Caught, with_handlers, behind_handlers, handler_once}
use Rattle.statements.specs.Made.{handler_in, handlers_in, handler_at}
use Rattle.statements.proofs.NestedLaws.{the_handlers, allows_others, handler_passes, handler_refused}
use Rattle.statements.proofs.SimpleLaws.{same_symbols}
use Rattle.statements.proofs.Steps.{fails, then_grows, refused_behind}

-- one handler: its choices, and its statements
module _ (env : Env) (p : Pos) (s : State) (b : Bool) (cs : List ExceptionChoice) (ss : text.Statements) where
  abbrev caught_by : Given (List tree.ExceptionChoice) → Given (List tree.Stmt) → Given Caught
  caught_by ds xs = given (record { choices = ds.value; statements = xs.value }) xs.next

  abbrev then_caught : Given (List tree.ExceptionChoice) → Plan (Given Caught)
  then_caught ds = all_stated (in_handler env) ds.next p ss >>= (λ xs. rule (Some (caught_by ds xs)))

  pub names_refused : (f : Failure Refusal) → Refuses (all_caught env s b p cs).answer f → Refuses (answer_at p (handler_once env s b p cs ss).outcome) f
  names_refused f h = in_part p (all_caught env s b p cs).answer then_caught f h

  module _ (ds : Given (List tree.ExceptionChoice)) (h : (all_caught env s b p cs).answer ≡ Ok ds) where
    pub statements_refused : (f : Failure Refusal) → Refuses (all_stated (in_handler env) ds.next p ss).answer f
        → Refuses (answer_at p (handler_once env s b p cs ss).outcome) f
    statements_refused f g =
        refused_as _ _ f (passes_on p (all_caught env s b p cs).answer then_caught ds h)
        (in_part p (all_stated (in_handler env) ds.next p ss).answer (λ xs. rule (Some (caught_by ds xs))) f g)

    pub one_passes : (xs : Given (List tree.Stmt)) → (all_stated (in_handler env) ds.next p ss).answer ≡ Ok xs
        → answer_at p (handler_once env s b p cs ss).outcome ≡ Ok (caught_by ds xs)
    one_passes xs g =
        passes_on p (all_caught env s b p cs).answer then_caught ds h
        ∙ passes_on p (all_stated (in_handler env) ds.next p ss).answer (λ xs. rule (Some (caught_by ds xs))) xs g

-- the statements and the handlers of a body or a block
module _ (env : Env) (p : Pos) (s : State) (ss : text.Statements) (hs : text.Handlers) where
  abbrev frame_by : Given (List tree.Stmt) → Given tree.Handlers → Given Frame
  frame_by xs ys = given (record { statements = xs.value; handlers = ys.value }) ys.next

  abbrev then_handlers : Given (List tree.Stmt) → Plan (Given Frame)
  then_handlers xs = all_handlers env xs.next p hs >>= (λ ys. rule (Some (frame_by xs ys)))

  pub body_refused : (f : Failure Refusal) → Refuses (all_stated env s p ss).answer f → Refuses (all_handled env s p (text.handled ss hs)).answer f
  body_refused f h = in_part p (all_stated env s p ss).answer then_handlers f h

  module _ (xs : Given (List tree.Stmt)) (h : (all_stated env s p ss).answer ≡ Ok xs) where
    pub handlers_refused : (f : Failure Refusal) → Refuses (all_handlers env xs.next p hs).answer f
        → Refuses (all_handled env s p (text.handled ss hs)).answer f
    handlers_refused f g =
        refused_as _ _ f (passes_on p (all_stated env s p ss).answer then_handlers xs h)
        (in_part p (all_handlers env xs.next p hs).answer (λ ys. rule (Some (frame_by xs ys))) f g)

    pub handled_passes : (ys : Given tree.Handlers) → (all_handlers env xs.next p hs).answer ≡ Ok ys
        → (all_handled env s p (text.handled ss hs)).answer ≡ Ok (frame_by xs ys)
    handled_passes ys g =
        passes_on p (all_stated env s p ss).answer then_handlers xs h
        ∙ passes_on p (all_handlers env xs.next p hs).answer (λ ys. rule (Some (frame_by xs ys))) ys g

-- What is left of the handlers, behind those that were made, comes to what all of them come to.
pub record HandlersReach (c : Context) (old new : Walk) (whole rest : List SourceHandler) (done : List Handler) : Type 0 where
  pub comes : (p : Pos) (k : Tables) (env : Env) → StandsAt c old k env → Begins new k
      → the_handlers env p (state_of k old) whole
      ≡ behind_handlers (map (handler_in k) done) (the_handlers env p (state_of k new) rest)
  pub continues : Continues old new
  pub grows : Grows old.symbols new.symbols

none_behind : (r : Result (Given tree.Handlers) Pos) → r ≡ behind_handlers [] r
none_behind (Ok g) = refl
none_behind (Err q) = refl

pub handlers_first : (c : Context) (w : Walk) (whole : List SourceHandler) → HandlersReach c w w whole whole []
handlers_first c w whole = record {
  comes = λ p k env h b. none_behind (the_handlers env p (state_of k w) whole);
  continues = λ k b. b;
  grows = same_symbols w.symbols;
}

joined : (xs ys : List Caught) (hs : tree.Handlers) → with_handlers xs (with_handlers ys hs) ≡ with_handlers (xs ++ ys) hs
joined [] ys hs = refl
joined (x ∷ xs) ys hs = ap (tree.handler x.choices (stmts_of x.statements)) (joined xs ys hs)

behind_more : (xs ys : List Caught) (r : Result (Given tree.Handlers) Pos) → behind_handlers xs (behind_handlers ys r) ≡ behind_handlers (xs ++ ys) r
behind_more xs ys (Ok g) = ap (λ hs. Ok (given hs g.next)) (joined xs ys g.value)
behind_more xs ys (Err q) = refl

behind_refused : (xs : List Caught) (r : Result (Given tree.Handlers) Pos) (f : Failure Refusal) → Refuses r f → Refuses (behind_handlers xs r) f
behind_refused xs r f (refused_at h) = refused_at (ap (behind_handlers xs) h)
behind_refused xs r f no_memory = no_memory

-- handlers of the typed program, as they were made
pub made_in : (k : Tables) (hs : List Handler) → with_handlers (map (handler_in k) hs) tree.no_handler ≡ handlers_in k hs
made_in k [] = refl
made_in k (h ∷ hs) =
    λ z. tree.handler (map exception_choice_of h.choices) (sym (statements_in k (shapes_in_tree k.types) h.statements.items) z) (made_in k hs z)

-- the last one is the one behind which there is none
none_left : (hs : List SourceHandler) → is_last (handlers_of hs) ≡ nat_eq (length hs) 0
none_left [] = refl
none_left (h ∷ hs) = sym (ne_eqb (length (h ∷ hs)) 0 (λ e. omega (arith, e)))

is_behind : (n m l : ℕ) → n + m ≡ l → nat_eq m 0 ≡ nat_eq n l
is_behind n m l h =
    elim (eqb_tells m 0) [ inl w ↦ w.0 ∙ sym (eq-eqb n l (omega (arith, h, w.1))) | inr w ↦ w.0 ∙ sym (ne_eqb n l (λ e. w.1 (omega (arith, h, e)))) ]

last_at : (xs : List SourceHandler) (i : ℕ) → i < length xs → is_last (handlers_of (drop (i + 1) xs)) ≡ nat_eq (i + 1) (length xs)
last_at xs i h = none_left (drop (i + 1) xs) ∙ is_behind (i + 1) (length (drop (i + 1) xs)) (length xs) (omega (arith, h, length-drop (i + 1) xs))

module _ (c : Context) (old middle : Walk) (xs : List SourceHandler) (i : ℕ) (done : List Handler) (r : HandlersReach c old middle xs (drop i xs) done)
    (x : SourceHandler) (b : Bool) (less : i < length xs) (is : x ≡ get_or xs i x) (last : b ≡ nat_eq (i + 1) (length xs)) where
  one_at : (env : Env) (p : Pos) (s : State)
      → answer_at p (handler_once env s (allows_others env p x (drop (i + 1) xs)) p x.choices (statements_of x.statements.items)).outcome
      ≡ handler_at env s b p x
  one_at env p s =
      ap (λ t. answer_at p (handler_once env s (t && nat_eq (length x.choices) 1) p x.choices (statements_of x.statements.items)).outcome)
      (last_at xs i less ∙ sym last)

  rest_at : (k : Tables) (env : Env) (p : Pos) → StandsAt c old k env → Begins middle k
      → the_handlers env p (state_of k old) xs
      ≡ behind_handlers (map (handler_in k) done) (the_handlers env p (state_of k middle) (x ∷ drop (i + 1) xs))
  rest_at k env p h begins =
      r.comes p k env h begins
      ∙ (at_drop_more (λ ys. behind_handlers (map (handler_in k) done) (the_handlers env p (state_of k middle) ys)) xs i x less
      ∙ ap (λ y. behind_handlers (map (handler_in k) done) (the_handlers env p (state_of k middle) (y ∷ drop (i + 1) xs))) (sym is))

  pub handlers_next : (new : Walk) (y : Handler) (after : List Handler) → Continues middle new → Grows middle.symbols new.symbols
      → ((p : Pos) (k : Tables) (env : Env) → StandsAt c middle k env → Begins new k
      → handler_at env (state_of k middle) b p x ≡ Ok (given (handler_in k y) (state_of k new)))
      → after ≡ done ++ y ∷ [] → HandlersReach c old new xs (drop (i + 1) xs) after
  handlers_next new y after goes grows passes added = record {
    comes = λ p k env h begins.
        let before = goes k begins in
        let done_in = map (handler_in k) done in
        let rest = the_handlers env p (state_of k new) (drop (i + 1) xs) in
        rest_at k env p h before
        ∙ (ap (behind_handlers done_in)
        (handler_passes env p (state_of k middle) x (drop (i + 1) xs) (given (handler_in k y) (state_of k new))
        (one_at env p (state_of k middle) ∙ passes p k env (grown c old middle r.grows k env h before) begins))
        ∙ (behind_more done_in (handler_in k y ∷ []) rest
        ∙ ap (λ ys. behind_handlers ys rest) (sym (ap (map (handler_in k)) added ∙ map-append (handler_in k) done (y ∷ [])))));
    continues = λ k begins. r.continues k (goes k begins);
    grows = then_grows _ _ _ r.grows grows;
  }

  pub handlers_refuse : (new : Walk) (f : Failure Refusal) → UnlessMemory (Continues middle new) (fails f)
      → ((p : Pos) (k : Tables) (env : Env) → StandsAt c middle k env → Begins new k → Refuses (handler_at env (state_of k middle) b p x) f)
      → (p : Pos) (k : Tables) (env : Env) → StandsAt c old k env → Begins new k → Refuses (the_handlers env p (state_of k old) xs) f
  handlers_refuse new f goes refuses p k env h begins =
      refused_behind middle new k f _ goes begins (λ before.
      refused_as _ _ f (rest_at k env p h before)
      (behind_refused (map (handler_in k) done) _ f
      (handler_refused env p (state_of k middle) x (drop (i + 1) xs) f
      (refused_as _ _ f (one_at env p (state_of k middle)) (refuses p k env (grown c old middle r.grows k env h before) begins)))))

pub handlers_last : (c : Context) (old middle : Walk) (xs : List SourceHandler) (i : ℕ) (done : List Handler)
    → HandlersReach c old middle xs (drop i xs) done → length xs ≤ i → (p : Pos) (k : Tables) (env : Env) → StandsAt c old k env → Begins middle k
    → the_handlers env p (state_of k old) xs ≡ Ok (given (handlers_in k done) (state_of k middle))
handlers_last c old middle xs i done r none p k env h begins =
    r.comes p k env h begins
    ∙ (at_drop_all (λ ys. behind_handlers (map (handler_in k) done) (the_handlers env p (state_of k middle) ys)) xs i none
    ∙ ap (λ hs. Ok (given hs (state_of k middle))) (made_in k done))
