-- Statements and blocks of well-formed programs are such that code can be made of them, and their numbers fit.
use Rattle.std.proofs.Common.{◌≡◌, ℕ, ◌+◌, ◌<◌, ◌≤◌, ◌^◌, ◌⊎◌, inl, inr, pos, Bool, true, false, List, [], ◌∷◌, ◌++◌, map, length, sym, subst, ◌∙◌, arith}
use Rattle.std.proofs.lemmas.Int.{ints}
use Rattle.cov_base.specs.Lists.{Everywhere}
use Rattle.ada_meaning.specs.Objects.{number_of, objects, all_objects, branch_objects, alternative_objects, handler_objects, block_objects}
use Rattle.ada_meaning.specs.Program.{Target, get_target, put_target, body_target, Program}
use Rattle.ada_meaning.specs.Resolved.{number_in, bounds_in, exception_in, target_in, parameters_of}
use Rattle.ada_meaning.specs.Shape.{Shape}
use Rattle.ada_meaning.specs.Tree as tree
use Rattle.ada_meaning.specs.WellFormed as formed
use Rattle.kernel_ir.specs.declared.kernel.Kernel.{Kernel}
use Rattle.kernel_ir.specs.Layouts.{Content}
use Rattle.kernel_ir.specs.Limits.{IsWord as IsNumberWord}
use Rattle.statement_code.specs.Numbers.{ActualsFit, RangeFits, ChoiceFits, ExceptionChoiceFits, DeclarationFits, StatementFits, StatementsFit, BranchesFit, AlternativesFit, HandlersFit, BlockFits}
use Rattle.statement_code.specs.Statements.{IsInFrame, HasLayout, behind, behind_all, declared_in, ArePlainDeclarations, IsPlainRange, IsPlainCall, IsPlainStatement, ArePlainStatements, ArePlainBranches, ArePlainAlternatives, IsPlainBlock, ArePlainHandlers}
use Rattle.statement_code.specs.Sets.{IsPlainValue}
use Rattle.statement_code.specs.Stores.{HasWords}
use Rattle.statement_code.specs.Values.{Home, Site, IsWord, IsComposite, IsBody, arguments, ArePlainParts}
use Rattle.statement_code.proofs.Formed as expression
use Rattle.statement_code.proofs.Formed.{number_known, range_known, word_if, chosen_if, same_part, bounds_words, type_has}
use Rattle.statement_code.proofs.Fragments.{first_all, second_all}
use Rattle.statement_code.proofs.Numbers.{word_is}

-- small numbers are words
small_word : (n : ℕ) → n < 2 ^ 31 → IsNumberWord (pos n)
small_word n few = record { sfits = grind (arith, ints, few) }

-- the objects of the first declaration of several, and of those behind it
first_object : (P : ℕ → Type 0) (d : tree.Declaration) (ds : List tree.Declaration) → Everywhere P (map number_of (d ∷ ds)) → P (declared_in d)
first_object P (tree.initialized l d v) ds all = all.0
first_object P (tree.without_value d t) ds all = all.0

module _ (p : Program) (inst : ℕ) (shape shape_of : tree.Object → Shape) (home_of : tree.Object → Home) (site : Site) (Bodies : Bool → ℕ → ℕ → Type 0)
    (callable : (f : Bool) (t : Target) → formed.IsCallable p f t → IsBody Bodies f t × (length (parameters_of p t) ≤ arguments)) (K : Kernel) (layout_of : ℕ → ℕ)
    (content : ℕ → Content) (Declares : ℕ → Type 0) (gives : Bool) (exceptions : 4 + length p.exceptions ≤ K.exceptions) (few : 4 + length p.exceptions < 2 ^ 31) where
  -- how an object of the body stands
  pub record IsLocalObject (d : ℕ) : Type 0 where
    pub framed : IsInFrame (home_of (tree.local_object d))
    pub typed : formed.IsType (shape (tree.local_object d))
    pub same : shape (tree.local_object d) ≡ shape_of (tree.local_object d)
    pub layout : HasLayout (shape_of (tree.local_object d)) (content (layout_of d))
    pub there : IsComposite (shape_of (tree.local_object d)) → layout_of d < length K.layouts

  module _ (local : (d : ℕ) → Declares d → IsLocalObject d) where
    -- what is visible has types, and is visible to both
    pub record AreSeen (Sees Seen : tree.Object → Type 0) : Type 0 where
      pub seen : (o : tree.Object) → Sees o → Seen o
      pub typed : (o : tree.Object) → Sees o → formed.IsType (shape o)
      pub same : (o : tree.Object) → Sees o → shape o ≡ shape_of o

    seen_behind : (Sees Seen : tree.Object → Type 0) (d : ℕ) → Declares d → AreSeen Sees Seen → AreSeen (formed.behind Sees d) (behind Seen d)
    seen_behind Sees Seen d is are = record { seen = seen_too; typed = typed_too; same = same_too }
      where
        seen_too : (o : tree.Object) → Sees o ⊎ (o ≡ tree.local_object d) → Seen o ⊎ (o ≡ tree.local_object d)
        seen_too o (inl there) = inl (are.seen o there)
        seen_too o (inr here) = inr here

        typed_too : (o : tree.Object) → Sees o ⊎ (o ≡ tree.local_object d) → formed.IsType (shape o)
        typed_too o (inl there) = are.typed o there
        typed_too o (inr here) = subst (λ x. formed.IsType (shape x)) (sym here) (local d is).typed

        same_too : (o : tree.Object) → Sees o ⊎ (o ≡ tree.local_object d) → shape o ≡ shape_of o
        same_too o (inl there) = are.same o there
        same_too o (inr here) = subst (λ x. shape x ≡ shape_of x) (sym here) (local d is).same

    seen_behind_all : (ds : List tree.Declaration) (Sees Seen : tree.Object → Type 0) → Everywhere Declares (map number_of ds) → AreSeen Sees Seen
        → AreSeen (formed.behind_all Sees ds) (behind_all Seen ds)
    seen_behind_all [] Sees Seen are seen = record { seen = seen.seen; typed = seen.typed; same = seen.same }
    seen_behind_all (tree.initialized l d v ∷ ds) Sees Seen are seen =
        let more = seen_behind_all ds (formed.behind Sees d) (behind Seen d) are.1 (seen_behind Sees Seen d are.0 seen) in record { seen = more.seen; typed = more.typed; same = more.same }
    seen_behind_all (tree.without_value d t ∷ ds) Sees Seen are seen =
        let more = seen_behind_all ds (formed.behind Sees d) (behind Seen d) are.1 (seen_behind Sees Seen d are.0 seen) in record { seen = more.seen; typed = more.typed; same = more.same }

    declarations_formed : (ds : List tree.Declaration) (Sees Seen : tree.Object → Type 0) → AreSeen Sees Seen → Everywhere Declares (map number_of ds)
        → formed.AreDeclarations p inst shape Sees ds
        → ArePlainDeclarations p inst shape_of home_of site Bodies layout_of content Declares K.exceptions gives Seen ds × Everywhere (DeclarationFits p inst K shape_of layout_of) ds
    declarations_formed [] Sees Seen seen are is = (tt, tt)
    declarations_formed (tree.initialized l d v ∷ ds) Sees Seen seen are is =
        let x = expression.value_formed p inst shape shape_of home_of site Bodies callable Sees Seen seen.seen seen.same v (shape (tree.local_object d)) (local d are.0).typed is.0.0 in
        let more = declarations_formed ds (formed.behind Sees d) (behind Seen d) (seen_behind Sees Seen d are.0 seen) are.1 is.1 in
        (((are.0, subst (λ a. IsPlainValue p inst shape_of home_of site Bodies Seen a v) (local d are.0).same x.0), more.0), (x.1, more.1))
    declarations_formed (tree.without_value d t ∷ ds) Sees Seen seen are is =
        let object = local d are.0 in
        let more = declarations_formed ds (formed.behind Sees d) (behind Seen d) (seen_behind Sees Seen d are.0 seen) are.1 is.1 in
        (((are.0, (is.0 ∙ object.same, (object.layout, subst HasWords object.same (type_has (shape (tree.local_object d)) object.typed)))), more.0), (object.there, more.1))

    turns_formed : (ts : tree.LoopRange) (Sees Seen : tree.Object → Type 0) → AreSeen Sees Seen → formed.IsTurns p inst shape Sees ts
        → IsPlainRange p inst shape_of home_of site Bodies layout_of content Declares K.exceptions gives Seen ts × RangeFits p inst ts
    turns_formed (tree.over_subtype r) Sees Seen seen is = (range_known p inst shape r is, tt)
    turns_formed (tree.over_bounds e f) Sees Seen seen is =
        let x = expression.expr_formed p inst shape shape_of home_of site Bodies callable Sees Seen seen.seen seen.same e is.0 in
        let y = expression.expr_formed p inst shape shape_of home_of site Bodies callable Sees Seen seen.seen seen.same f is.1 in
        ((x.0, y.0), (x.1, y.1))

    call_formed : (t : Target) (actuals : tree.Actuals) (Sees Seen : tree.Object → Type 0) → AreSeen Sees Seen → formed.IsCall p inst shape Sees t actuals
        → IsPlainCall p inst shape_of home_of site Bodies layout_of content Declares K.exceptions gives Seen t actuals × ActualsFit p inst actuals
    call_formed put_target (tree.by_expression e tree.no_actual) Sees Seen seen is =
        let x = expression.expr_formed p inst shape shape_of home_of site Bodies callable Sees Seen seen.seen seen.same e is in (x.0, (x.1, tt))
    call_formed put_target tree.no_actual Sees Seen seen is = absurd is
    call_formed put_target (tree.by_expression e (tree.by_expression f rest)) Sees Seen seen is = absurd is
    call_formed put_target (tree.by_expression e (tree.by_variable o parts r rest)) Sees Seen seen is = absurd is
    call_formed put_target (tree.by_expression e (tree.by_composite o parts rest)) Sees Seen seen is = absurd is
    call_formed put_target (tree.by_variable o parts r rest) Sees Seen seen is = absurd is
    call_formed put_target (tree.by_composite o parts rest) Sees Seen seen is = absurd is
    call_formed get_target (tree.by_variable o parts r tree.no_actual) Sees Seen seen is =
        let q = expression.parts_formed p inst shape shape_of home_of site Bodies callable Sees Seen seen.seen seen.same parts (shape o) is.1.0 in (
          (
            seen.seen o is.0,
            (
              subst (λ a. ArePlainParts p inst shape_of home_of site Bodies Seen a parts) (seen.same o is.0) q.0,
              (expression.scalar_part p inst shape shape_of home_of site Bodies callable Sees Seen seen.seen seen.same o parts is.0 is.1.1.0, range_known p inst shape r is.1.1.1),
            ),
          ),
          (q.1, (bounds_words (bounds_in p inst r) (range_known p inst shape r is.1.1.1), tt)),
        )
    call_formed get_target tree.no_actual Sees Seen seen is = absurd is
    call_formed get_target (tree.by_expression e rest) Sees Seen seen is = absurd is
    call_formed get_target (tree.by_variable o parts r (tree.by_expression e rest)) Sees Seen seen is = absurd is
    call_formed get_target (tree.by_variable o parts r (tree.by_variable q others s rest)) Sees Seen seen is = absurd is
    call_formed get_target (tree.by_variable o parts r (tree.by_composite q others rest)) Sees Seen seen is = absurd is
    call_formed get_target (tree.by_composite o parts rest) Sees Seen seen is = absurd is
    call_formed (body_target j m) actuals Sees Seen seen is =
        let b = callable false (body_target j m) is.0 in
        let q = expression.actuals_formed p inst shape shape_of home_of site Bodies callable Sees Seen seen.seen seen.same actuals (parameters_of p (body_target j m)) is.1 in (
          (b.0, (q.0, omega (arith, b.1, expression.counted p inst shape shape_of home_of site Bodies callable Sees Seen seen.seen seen.same actuals (parameters_of p (body_target j m)) is.1))),
          q.1,
        )

    choices_formed : (cs : List tree.Choice) → Everywhere (formed.IsChoice p inst shape) cs → Everywhere (ChoiceFits p inst) cs
    choices_formed [] are = tt
    choices_formed (tree.value_choice e ∷ cs) are = (word_is (number_in p inst e) (number_known p inst shape e are.0), choices_formed cs are.1)
    choices_formed (tree.range_choice e f ∷ cs) are = ((word_is (number_in p inst e) (number_known p inst shape e are.0.0), word_is (number_in p inst f) (number_known p inst shape f are.0.1)), choices_formed cs are.1)
    choices_formed (tree.other_values ∷ cs) are = (tt, choices_formed cs are.1)

    exceptions_formed : (cs : List tree.ExceptionChoice) → Everywhere (formed.IsExceptionChoice p inst shape) cs → Everywhere (ExceptionChoiceFits p inst) cs
    exceptions_formed [] are = tt
    exceptions_formed (tree.named_exception x ∷ cs) are = (small_word (exception_in p inst x) (omega (arith, are.0.1, few)), exceptions_formed cs are.1)
    exceptions_formed (tree.other_exceptions ∷ cs) are = (tt, exceptions_formed cs are.1)

    mutual
      statement_formed : (s : tree.Stmt) (Sees Seen : tree.Object → Type 0) (x handling : Bool) → AreSeen Sees Seen → Everywhere Declares (objects s)
          → formed.IsStatement p inst shape gives Sees x handling s
          → IsPlainStatement p inst shape_of home_of site Bodies layout_of content Declares K.exceptions gives Seen x handling s × StatementFits p inst K shape_of layout_of s
      statement_formed (tree.null_statement l) Sees Seen x handling seen are is = (tt, tt)
      statement_formed (tree.assignment l o parts v) Sees Seen x handling seen are is =
          let q = expression.parts_formed p inst shape shape_of home_of site Bodies callable Sees Seen seen.seen seen.same parts (shape o) is.1.0 in
          let typed = expression.part_typed p inst shape shape_of home_of site Bodies callable Sees Seen seen.seen seen.same parts (shape o) (seen.typed o is.0) is.1.0 in
          let y = expression.value_formed p inst shape shape_of home_of site Bodies callable Sees Seen seen.seen seen.same v (formed.part_shape (shape o) parts) typed is.1.1 in (
            (
              seen.seen o is.0,
              (
                subst (λ a. ArePlainParts p inst shape_of home_of site Bodies Seen a parts) (seen.same o is.0) q.0,
                subst (λ a. IsPlainValue p inst shape_of home_of site Bodies Seen a v)
                    (expression.same_place p inst shape shape_of home_of site Bodies callable Sees Seen seen.seen seen.same o parts is.0) y.0,
              ),
            ),
            (q.1, y.1),
          )
      statement_formed (tree.procedure_call l c actuals) Sees Seen x handling seen are is = call_formed (target_in p inst c) actuals Sees Seen seen is
      statement_formed (tree.if_statement l bs) Sees Seen x handling seen are is = branches_formed bs Sees Seen x handling seen are is
      statement_formed (tree.case_statement l e choices) Sees Seen x handling seen are is =
          let y = expression.expr_formed p inst shape shape_of home_of site Bodies callable Sees Seen seen.seen seen.same e is.0 in
          let z = alternatives_formed choices Sees Seen x handling seen are is.1 in
          ((y.0, z.0), (y.1, z.1))
      statement_formed (tree.bare_loop l ss) Sees Seen x handling seen are is = statements_formed ss Sees Seen true handling seen are is
      statement_formed (tree.while_loop l d t ss) Sees Seen x handling seen are is =
          let y = expression.test_formed p inst shape shape_of home_of site Bodies callable Sees Seen seen.seen seen.same t is.0 in
          let z = statements_formed ss Sees Seen true handling seen are is.1 in
          ((y.0, z.0), (y.1, z.1))
      statement_formed (tree.for_loop l d reversed ts ss) Sees Seen x handling seen are is =
          let y = turns_formed ts Sees Seen seen is.1.0 in
          let z = statements_formed ss (formed.behind Sees d) (behind Seen d) true handling (seen_behind Sees Seen d are.0 seen) are.1 is.1.1 in
          ((are.0, (subst IsWord (local d are.0).same (word_if (shape (tree.local_object d)) is.0), ((local d are.0).framed, (y.0, z.0)))), (y.1, z.1))
      statement_formed (tree.exit_statement l) Sees Seen x handling seen are is = (is, tt)
      statement_formed (tree.exit_when l d t) Sees Seen x handling seen are is =
          let y = expression.test_formed p inst shape shape_of home_of site Bodies callable Sees Seen seen.seen seen.same t is.1 in ((is.0, y.0), y.1)
      statement_formed (tree.return_statement l) Sees Seen x handling seen are is = (is, tt)
      statement_formed (tree.return_value l r e) Sees Seen x handling seen are is =
          let y = expression.expr_formed p inst shape shape_of home_of site Bodies callable Sees Seen seen.seen seen.same e is.1.1 in
          ((is.0, y.0), (bounds_words (bounds_in p inst r) (range_known p inst shape r is.1.0), y.1))
      statement_formed (tree.raise_statement l e) Sees Seen x handling seen are is = ((is.0, omega (arith, is.1, exceptions)), tt)
      statement_formed (tree.raise_again l) Sees Seen x handling seen are is = (is, tt)
      statement_formed (tree.block_statement b) Sees Seen x handling seen are is = block_formed b Sees Seen x handling seen are is

      statements_formed : (ss : tree.Stmts) (Sees Seen : tree.Object → Type 0) (x handling : Bool) → AreSeen Sees Seen → Everywhere Declares (all_objects ss)
          → formed.AreStatements p inst shape gives Sees x handling ss
          → ArePlainStatements p inst shape_of home_of site Bodies layout_of content Declares K.exceptions gives Seen x handling ss × StatementsFit p inst K shape_of layout_of ss
      statements_formed tree.no_statement Sees Seen x handling seen are is = (tt, tt)
      statements_formed (tree.and_statement s ss) Sees Seen x handling seen are is =
          let y = statement_formed s Sees Seen x handling seen (first_all Declares (objects s) (all_objects ss) are) is.0 in
          let z = statements_formed ss Sees Seen x handling seen (second_all Declares (objects s) (all_objects ss) are) is.1 in
          ((y.0, z.0), (y.1, z.1))

      branches_formed : (bs : tree.Branches) (Sees Seen : tree.Object → Type 0) (x handling : Bool) → AreSeen Sees Seen → Everywhere Declares (branch_objects bs)
          → formed.AreBranches p inst shape gives Sees x handling bs
          → ArePlainBranches p inst shape_of home_of site Bodies layout_of content Declares K.exceptions gives Seen x handling bs × BranchesFit p inst K shape_of layout_of bs
      branches_formed (tree.else_part ss) Sees Seen x handling seen are is = statements_formed ss Sees Seen x handling seen are is
      branches_formed (tree.branch d t ss bs) Sees Seen x handling seen are is =
          let v = expression.test_formed p inst shape shape_of home_of site Bodies callable Sees Seen seen.seen seen.same t is.0 in
          let y = statements_formed ss Sees Seen x handling seen (first_all Declares (all_objects ss) (branch_objects bs) are) is.1.0 in
          let z = branches_formed bs Sees Seen x handling seen (second_all Declares (all_objects ss) (branch_objects bs) are) is.1.1 in
          ((v.0, (y.0, z.0)), (v.1, (y.1, z.1)))

      alternatives_formed : (choices : tree.Alternatives) (Sees Seen : tree.Object → Type 0) (x handling : Bool) → AreSeen Sees Seen → Everywhere Declares (alternative_objects choices)
          → formed.AreAlternatives p inst shape gives Sees x handling choices
          → ArePlainAlternatives p inst shape_of home_of site Bodies layout_of content Declares K.exceptions gives Seen x handling choices × AlternativesFit p inst K shape_of layout_of choices
      alternatives_formed tree.no_alternative Sees Seen x handling seen are is = (tt, tt)
      alternatives_formed (tree.alternative cs ss rest) Sees Seen x handling seen are is =
          let y = statements_formed ss Sees Seen x handling seen (first_all Declares (all_objects ss) (alternative_objects rest) are) is.1.0 in
          let z = alternatives_formed rest Sees Seen x handling seen (second_all Declares (all_objects ss) (alternative_objects rest) are) is.1.1 in
          ((chosen_if cs is.0.0, (y.0, z.0)), (choices_formed cs is.0.1, (y.1, z.1)))

      pub block_formed : (b : tree.Block) (Sees Seen : tree.Object → Type 0) (x handling : Bool) → AreSeen Sees Seen → Everywhere Declares (block_objects b)
          → formed.IsFrame p inst shape gives Sees x handling b
          → IsPlainBlock p inst shape_of home_of site Bodies layout_of content Declares K.exceptions gives Seen x handling b × BlockFits p inst K shape_of layout_of b
      block_formed (tree.block ds ss hs) Sees Seen x handling seen are is =
          let here = first_all Declares (map number_of ds) (all_objects ss ++ handler_objects hs) are in
          let later = second_all Declares (map number_of ds) (all_objects ss ++ handler_objects hs) are in
          let inner = seen_behind_all ds Sees Seen here seen in
          let v = declarations_formed ds Sees Seen seen here is.0 in
          let y = statements_formed ss (formed.behind_all Sees ds) (behind_all Seen ds) x handling inner (first_all Declares (all_objects ss) (handler_objects hs) later) is.1.0 in
          let z = handlers_formed hs (formed.behind_all Sees ds) (behind_all Seen ds) x inner (second_all Declares (all_objects ss) (handler_objects hs) later) is.1.1 in
          ((v.0, (y.0, z.0)), (v.1, (y.1, z.1)))

      handlers_formed : (hs : tree.Handlers) (Sees Seen : tree.Object → Type 0) (x : Bool) → AreSeen Sees Seen → Everywhere Declares (handler_objects hs)
          → formed.AreHandlers p inst shape gives Sees x hs
          → ArePlainHandlers p inst shape_of home_of site Bodies layout_of content Declares K.exceptions gives Seen x hs × HandlersFit p inst K shape_of layout_of hs
      handlers_formed tree.no_handler Sees Seen x seen are is = (tt, tt)
      handlers_formed (tree.handler cs ss hs) Sees Seen x seen are is =
          let y = statements_formed ss Sees Seen x true seen (first_all Declares (all_objects ss) (handler_objects hs) are) is.1.0 in
          let z = handlers_formed hs Sees Seen x seen (second_all Declares (all_objects ss) (handler_objects hs) are) is.1.1 in
          ((chosen_if cs is.0.0, (y.0, z.0)), (exceptions_formed cs is.0.1, (y.1, z.1)))
