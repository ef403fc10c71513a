-- The code of declarations and statements.
use Rattle.std.specs.Prelude.{◌≡◌, ℕ, ◌+◌, ◌≤◌, ◌⊎◌, pos, Bool, true, List, [], ◌∷◌, drop, false}
use Rattle.ada_meaning.specs.Arithmetic.{base_range, is_within}
use Rattle.ada_meaning.specs.Calls.{next_parameter}
use Rattle.ada_meaning.specs.Program.{Mode, in_mode, out_mode, in_out_mode, Target, get_target, put_target, body_target, Program}
use Rattle.ada_meaning.specs.Resolved.{bounds_in, shape_in, exception_in, ResolvedParameter, target_in, parameters_of}
use Rattle.ada_meaning.specs.Shape.{Shape, word, row, group}
use Rattle.ada_meaning.specs.Tree as tree
use Rattle.ada_meaning.specs.Types as type
use Rattle.kernel_ir.specs.declared.simple.Relation.TheVariants as relation
use Rattle.kernel_ir.specs.declared.simple.Simple.{Simple}
use Rattle.kernel_ir.specs.declared.simple.Simple.TheVariants as op
use Rattle.kernel_ir.specs.Sequence.{joined}
use Rattle.kernel_ir.specs.Tree.{simple, choose, forever, exit, returns, catch, call, Code, no_op, and_op}
use Rattle.ada_resolved.specs.Sizes.{words}
use Rattle.kernel_ir.specs.Layouts.{Content}
use Rattle.statement_code.specs.Stores.{first_content, HasWords}
use Rattle.statement_code.specs.Names.{Names}
use Rattle.statement_code.specs.Flows.{range_code, decided_code, choices_code}
use Rattle.statement_code.specs.Sets.{set_code, IsPlainValue}
use Rattle.statement_code.specs.Values.{single, one, within, Home, in_frame, in_library, address_on, part_shape, IsWord, expr_code, parts_code, IsPlainExpr, ArePlainParts, IsPlainTest, Site, ArePlainActuals, actuals_code, moves_code, count_of, arguments}

-- an object of one word is set to the value of a slot
abbrev pub keep_on : (slot : ℕ) → Home → Simple
keep_on k (in_frame j) = op.Move j k
keep_on k (in_library n) = op.WriteLibrary n k

-- the slot in which an object's first word stands
abbrev pub slot_of : Home → ℕ
slot_of (in_frame j) = j
slot_of (in_library n) = n

-- what is copied back of a composite parameter
abbrev pub copied_back : Mode → Code → Code
copied_back in_mode a = no_op
copied_back out_mode a = a
copied_back in_out_mode a = a

-- a statement starts
abbrev pub start_of : (inst : ℕ) → tree.Label → Simple
start_of inst l = op.Start (record { 0 = l.number }) (record { 0 = inst })

-- the statements with handlers, or without
abbrev pub guarded_code : tree.Handlers → (body : Code) → (k : ℕ) → (handlers : Code) → Code
guarded_code tree.no_handler body k handlers = body
guarded_code (tree.handler cs ss hs) body k handlers = single (catch body k handlers)

module _ (names : Names) (shape_of : tree.Object → Shape) (home_of : tree.Object → Home) (site : Site) where
  -- sets parts of an object to a value
  abbrev pub assign_at : (k : ℕ) → tree.Object → tree.Parts → tree.NewValue → Code
  assign_at k o parts v =
      and_op (simple (address_on k (home_of o)))
      (joined (parts_code names shape_of home_of site k (shape_of o) parts) (set_code names shape_of home_of site k (k + 1) (part_shape (shape_of o) parts) v))

  abbrev pub assign_code : (k : ℕ) → tree.Object → tree.Parts → tree.NewValue → Code
  assign_code k o tree.whole (tree.scalar_value r e) =
      joined (expr_code names shape_of home_of site k e) (and_op (simple (within k (names.bounds r))) (one (keep_on k (home_of o))))
  assign_code k o tree.whole (tree.composite_value t q parts) = assign_at k o tree.whole (tree.composite_value t q parts)
  assign_code k o tree.whole (tree.others_value r v) = assign_at k o tree.whole (tree.others_value r v)
  assign_code k o (tree.component n parts) v = assign_at k o (tree.component n parts) v
  assign_code k o (tree.element r e parts) v = assign_at k o (tree.element r e parts) v

  -- sets a part of an object, whose address stands in the slot k, to the next word of the input, which its subtype has
  abbrev pub get_at : (k : ℕ) → tree.Object → tree.Parts → type.Range → Code
  get_at k o parts r =
      and_op (simple (address_on k (home_of o)))
      (joined (parts_code names shape_of home_of site k (shape_of o) parts)
      (and_op (simple (op.Get (k + 1))) (and_op (simple (within (k + 1) (names.bounds r))) (one (op.Store k (k + 1))))))

  abbrev pub get_code : (k : ℕ) → tree.Object → tree.Parts → type.Range → Code
  get_code k o tree.whole r = and_op (simple (op.Get k)) (and_op (simple (within k (names.bounds r))) (one (keep_on k (home_of o))))
  get_code k o (tree.component n parts) r = get_at k o (tree.component n parts) r
  get_code k o (tree.element q e parts) r = get_at k o (tree.element q e parts) r

  -- puts the value of an expression, which the parameter's subtype Integer has
  abbrev pub put_code : (k : ℕ) → tree.Expr → Code
  put_code k e = joined (expr_code names shape_of home_of site k e) (and_op (simple (within k base_range)) (one (op.Put k)))

  -- Copies parameters back, which stand in the first slots of the callee's frame, from number i on, to variables: whole objects, or those whose
  -- addresses stand in slots from k on. What a variable gets is checked (RM 6.4.1).
  abbrev pub backs_code : (k i : ℕ) → List ResolvedParameter → tree.Actuals → Code
  backs_code k i qs tree.no_actual = no_op
  backs_code k i qs (tree.by_expression e rest) = backs_code (k + 1) (i + 1) (drop 1 qs) rest
  backs_code k i qs (tree.by_variable o tree.whole r rest) =
      and_op (simple (within (site.width + i) (names.bounds r))) (and_op (simple (keep_on (site.width + i) (home_of o))) (backs_code (k + 1) (i + 1) (drop 1 qs) rest))
  backs_code k i qs (tree.by_variable o (tree.component n parts) r rest) =
      and_op (simple (within (site.width + i) (names.bounds r)))
      (and_op (simple (op.Store k (site.width + i))) (backs_code (k + 2) (i + 1) (drop 1 qs) rest))
  backs_code k i qs (tree.by_variable o (tree.element t e parts) r rest) =
      and_op (simple (within (site.width + i) (names.bounds r)))
      (and_op (simple (op.Store k (site.width + i))) (backs_code (k + 2) (i + 1) (drop 1 qs) rest))
  backs_code k i qs (tree.by_composite o parts rest) =
      joined (copied_back (next_parameter qs).mode (one (op.Copy k (site.width + i) (words (next_parameter qs).shape)))) (backs_code (k + 1) (i + 1) (drop 1 qs) rest)

  -- what a call does when its statement has started
  abbrev pub call_code : (k : ℕ) → Target → tree.Actuals → Code
  call_code k put_target (tree.by_expression e rest) = put_code k e
  call_code k get_target (tree.by_variable o parts r rest) = get_code k o parts r
  call_code k (body_target j m) actuals =
      joined (actuals_code names shape_of home_of site k (names.parameters (body_target j m)) actuals)
      (joined (moves_code site.width k 0 actuals) (and_op (call (site.body j m)) (backs_code k 0 (names.parameters (body_target j m)) actuals)))
  call_code k t actuals = no_op

  -- the first value of an object, by the number of its type's layout
  abbrev pub first_code : (k : ℕ) → Shape → (layout : ℕ) → Home → Code
  first_code k (word b) layout h = and_op (simple (op.Number k b.low)) (one (keep_on k h))
  first_code k (row b s) layout h = and_op (simple (address_on k h)) (one (op.Fill k layout))
  first_code k (group ss) layout h = and_op (simple (address_on k h)) (one (op.Fill k layout))

  -- whether the exception in the slot k is among those of a choice, and of choices in order, into the slot k + 1 (RM 11.4)
  abbrev pub exception_choice_code : (k : ℕ) → tree.ExceptionChoice → Code
  exception_choice_code k (tree.named_exception x) =
      and_op (simple (op.Number (k + 2) (pos (names.exception x)))) (one (op.Compare relation.Equal (k + 1) k (k + 2)))
  exception_choice_code k tree.other_exceptions = one (op.Number (k + 1) (pos 1))

  abbrev pub exception_choices_code : (k : ℕ) → List tree.ExceptionChoice → Code
  exception_choices_code k [] = one (op.Number (k + 1) (pos 0))
  exception_choices_code k (c ∷ cs) = joined (exception_choice_code k c) (single (choose (k + 1) no_op (exception_choices_code k cs)))

  -- the bounds of a loop, into the slots k and k + 1
  abbrev pub bounds_code : (k : ℕ) → tree.LoopRange → Code
  bounds_code k (tree.over_subtype r) = and_op (simple (op.Number k (names.bounds r).low)) (one (op.Number (k + 1) (names.bounds r).high))
  bounds_code k (tree.over_bounds e f) = joined (expr_code names shape_of home_of site k e) (expr_code names shape_of home_of site (k + 1) f)

  -- by the layouts of objects, by their declarations
  module _ (layout_of : ℕ → ℕ) where
    abbrev pub declaration_code : (k : ℕ) → tree.Declaration → Code
    declaration_code k (tree.initialized l d v) = and_op (simple (start_of names.instance l)) (assign_code k (tree.local_object d) tree.whole v)
    declaration_code k (tree.without_value d t) = first_code k (shape_of (tree.local_object d)) (layout_of d) (home_of (tree.local_object d))

    abbrev pub declarations_code : (k : ℕ) → List tree.Declaration → Code
    declarations_code k [] = no_op
    declarations_code k (d ∷ ds) = joined (declaration_code k d) (declarations_code k ds)

    -- the code of a statement, where t is the slot of the exception that the innermost handler took
    abbrev mutual
      pub statement_code : (k t : ℕ) → tree.Stmt → Code
      statement_code k t (tree.null_statement l) = one (start_of names.instance l)
      statement_code k t (tree.assignment l o parts v) = and_op (simple (start_of names.instance l)) (assign_code k o parts v)
      statement_code k t (tree.procedure_call l c actuals) = and_op (simple (start_of names.instance l)) (call_code k (names.target c) actuals)
      statement_code k t (tree.if_statement l bs) = and_op (simple (start_of names.instance l)) (branches_code k t bs)
      statement_code k t (tree.case_statement l e choices) =
          and_op (simple (start_of names.instance l)) (joined (expr_code names shape_of home_of site k e) (alternatives_code k t choices))
      statement_code k t (tree.bare_loop l ss) = and_op (simple (start_of names.instance l)) (single (forever (statements_code k t ss)))
      statement_code k t (tree.while_loop l d u ss) =
          and_op (simple (start_of names.instance l)) (single (forever (decided_code names shape_of home_of site k d u (statements_code k t ss) (single exit))))
      statement_code k t (tree.for_loop l d reversed ts ss) =
          and_op (simple (start_of names.instance l))
          (joined (bounds_code k ts) (range_code k (k + 2) (slot_of (home_of (tree.local_object d))) reversed (statements_code (k + 2) t ss)))
      statement_code k t (tree.exit_statement l) = and_op (simple (start_of names.instance l)) (single exit)
      statement_code k t (tree.exit_when l d u) = and_op (simple (start_of names.instance l)) (decided_code names shape_of home_of site k d u (single exit) no_op)
      statement_code k t (tree.return_statement l) = and_op (simple (start_of names.instance l)) (single returns)
      statement_code k t (tree.return_value l r e) =
          and_op (simple (start_of names.instance l))
          (joined (expr_code names shape_of home_of site k e) (and_op (simple (within k (names.bounds r))) (and_op (simple (op.Move 0 k)) (single returns))))
      statement_code k t (tree.raise_statement l x) = and_op (simple (start_of names.instance l)) (one (op.Raise (names.exception x)))
      statement_code k t (tree.raise_again l) = and_op (simple (start_of names.instance l)) (one (op.RaiseSlot t))
      statement_code k t (tree.block_statement b) = block_code k t b

      pub statements_code : (k t : ℕ) → tree.Stmts → Code
      statements_code k t tree.no_statement = no_op
      statements_code k t (tree.and_statement s ss) = joined (statement_code k t s) (statements_code k t ss)

      pub branches_code : (k t : ℕ) → tree.Branches → Code
      branches_code k t (tree.else_part ss) = statements_code k t ss
      branches_code k t (tree.branch d u ss bs) = decided_code names shape_of home_of site k d u (statements_code k t ss) (branches_code k t bs)

      -- the value stands in the slot k
      pub alternatives_code : (k t : ℕ) → tree.Alternatives → Code
      alternatives_code k t tree.no_alternative = one (op.Raise 1)
      alternatives_code k t (tree.alternative cs ss rest) =
          joined (choices_code names shape_of home_of site k cs) (single (choose (k + 1) (statements_code k t ss) (alternatives_code k t rest)))

      -- handlers serve for the statements alone (RM 11.4)
      pub block_code : (k t : ℕ) → tree.Block → Code
      block_code k t (tree.block ds ss hs) =
          joined (declarations_code k ds) (guarded_code hs (statements_code k t ss) k (handlers_code k hs))

      -- the exception stands in the slot k
      pub handlers_code : (k : ℕ) → tree.Handlers → Code
      handlers_code k tree.no_handler = one (op.RaiseSlot k)
      handlers_code k (tree.handler cs ss hs) =
          joined (exception_choices_code k cs) (single (choose (k + 1) (statements_code (k + 1) k ss) (handlers_code k hs)))

-- an object stands in the frame
abbrev pub IsInFrame : Home → Type 0
IsInFrame (in_frame j) = Unit {0}
IsInFrame (in_library n) = ⊥

-- the content of a layout is that of the first values of a shape; one word needs no layout
abbrev pub HasLayout : Shape → Content → Type 0
HasLayout (word b) c = Unit {0}
HasLayout (row b s) c = c ≡ first_content (row b s)
HasLayout (group ss) c = c ≡ first_content (group ss)

-- there is a choice
abbrev pub HasChoice : {C : Type 0} → List C → Type 0
HasChoice [] = ⊥
HasChoice (c ∷ cs) = Unit {0}

-- what is visible behind the declaration of an object
abbrev pub behind : (tree.Object → Type 0) → (declaration : ℕ) → tree.Object → Type 0
behind Sees d o = Sees o ⊎ (o ≡ tree.local_object d)

-- the object that a declaration declares
abbrev pub declared_in : tree.Declaration → ℕ
declared_in (tree.initialized l d v) = d
declared_in (tree.without_value d t) = d

abbrev pub behind_all : (tree.Object → Type 0) → List tree.Declaration → tree.Object → Type 0
behind_all Sees [] o = Sees o
behind_all Sees (d ∷ ds) o = behind_all (behind Sees (declared_in d)) ds o

module _ (p : Program) (inst : ℕ) (shape_of : tree.Object → Shape) (home_of : tree.Object → Home) (site : Site) (Bodies : Bool → ℕ → ℕ → Type 0) (layout_of : ℕ → ℕ) (content : ℕ → Content)
    (Declares : ℕ → Type 0) (top : ℕ) (gives : Bool) where
  -- declarations over visible objects, which declare objects of the body
  abbrev pub IsPlainDeclaration : (tree.Object → Type 0) → tree.Declaration → Type 0
  IsPlainDeclaration Sees (tree.initialized l d v) = Declares d × IsPlainValue p inst shape_of home_of site Bodies Sees (shape_of (tree.local_object d)) v
  IsPlainDeclaration Sees (tree.without_value d t) =
      Declares d × ((shape_in p inst t ≡ shape_of (tree.local_object d))
      × (HasLayout (shape_of (tree.local_object d)) (content (layout_of d)) × HasWords (shape_of (tree.local_object d))))

  abbrev pub ArePlainDeclarations : (tree.Object → Type 0) → List tree.Declaration → Type 0
  ArePlainDeclarations Sees [] = Unit {0}
  ArePlainDeclarations Sees (d ∷ ds) = IsPlainDeclaration Sees d × ArePlainDeclarations (behind Sees (declared_in d)) ds

  -- bounds in the base range, or two expressions
  abbrev pub IsPlainRange : (tree.Object → Type 0) → tree.LoopRange → Type 0
  IsPlainRange Sees (tree.over_subtype r) =
      (is_within base_range (bounds_in p inst r).low ≡ true) × (is_within base_range (bounds_in p inst r).high ≡ true)
  IsPlainRange Sees (tree.over_bounds e f) = IsPlainExpr p inst shape_of home_of site Bodies Sees e × IsPlainExpr p inst shape_of home_of site Bodies Sees f

  -- Test_IO.Put of an expression, Test_IO.Get of a variable with bounds in the base range, or a procedure with its actuals
  abbrev pub IsPlainCall : (tree.Object → Type 0) → Target → tree.Actuals → Type 0
  IsPlainCall Sees put_target (tree.by_expression e tree.no_actual) = IsPlainExpr p inst shape_of home_of site Bodies Sees e
  IsPlainCall Sees get_target (tree.by_variable o parts r tree.no_actual) =
      Sees o × (ArePlainParts p inst shape_of home_of site Bodies Sees (shape_of o) parts × (IsWord (part_shape (shape_of o) parts)
      × ((is_within base_range (bounds_in p inst r).low ≡ true) × (is_within base_range (bounds_in p inst r).high ≡ true))))
  IsPlainCall Sees (body_target j m) actuals =
      Bodies false j m × (ArePlainActuals p inst shape_of home_of site Bodies Sees (parameters_of p (body_target j m)) actuals × (count_of actuals ≤ arguments))
  IsPlainCall Sees t actuals = ⊥

  abbrev mutual
    -- statements over visible objects; `looping`: whether they stand in a loop, `handling`: in a handler
    pub IsPlainStatement : (tree.Object → Type 0) → (looping handling : Bool) → tree.Stmt → Type 0
    IsPlainStatement Sees looping handling (tree.null_statement l) = Unit {0}
    IsPlainStatement Sees looping handling (tree.assignment l o parts v) =
        Sees o × (ArePlainParts p inst shape_of home_of site Bodies Sees (shape_of o) parts × IsPlainValue p inst shape_of home_of site Bodies Sees (part_shape (shape_of o) parts) v)
    IsPlainStatement Sees looping handling (tree.procedure_call l c actuals) = IsPlainCall Sees (target_in p inst c) actuals
    IsPlainStatement Sees looping handling (tree.if_statement l bs) = ArePlainBranches Sees looping handling bs
    IsPlainStatement Sees looping handling (tree.case_statement l e choices) = IsPlainExpr p inst shape_of home_of site Bodies Sees e × ArePlainAlternatives Sees looping handling choices
    IsPlainStatement Sees looping handling (tree.bare_loop l ss) = ArePlainStatements Sees true handling ss
    IsPlainStatement Sees looping handling (tree.while_loop l d t ss) = IsPlainTest p inst shape_of home_of site Bodies Sees t × ArePlainStatements Sees true handling ss
    IsPlainStatement Sees looping handling (tree.for_loop l d reversed ts ss) =
        Declares d × (IsWord (shape_of (tree.local_object d)) × (IsInFrame (home_of (tree.local_object d))
        × (IsPlainRange Sees ts × ArePlainStatements (behind Sees d) true handling ss)))
    IsPlainStatement Sees looping handling (tree.exit_statement l) = looping ≡ true
    IsPlainStatement Sees looping handling (tree.exit_when l d t) = (looping ≡ true) × IsPlainTest p inst shape_of home_of site Bodies Sees t
    IsPlainStatement Sees looping handling (tree.return_statement l) = gives ≡ false
    IsPlainStatement Sees looping handling (tree.return_value l r e) = (gives ≡ true) × IsPlainExpr p inst shape_of home_of site Bodies Sees e
    IsPlainStatement Sees looping handling (tree.raise_statement l x) = (1 ≤ exception_in p inst x) × (exception_in p inst x ≤ top)
    IsPlainStatement Sees looping handling (tree.raise_again l) = handling ≡ true
    IsPlainStatement Sees looping handling (tree.block_statement b) = IsPlainBlock Sees looping handling b

    pub ArePlainStatements : (tree.Object → Type 0) → (looping handling : Bool) → tree.Stmts → Type 0
    ArePlainStatements Sees looping handling tree.no_statement = Unit {0}
    ArePlainStatements Sees looping handling (tree.and_statement s ss) = IsPlainStatement Sees looping handling s × ArePlainStatements Sees looping handling ss

    pub ArePlainBranches : (tree.Object → Type 0) → (looping handling : Bool) → tree.Branches → Type 0
    ArePlainBranches Sees looping handling (tree.else_part ss) = ArePlainStatements Sees looping handling ss
    ArePlainBranches Sees looping handling (tree.branch d t ss bs) =
        IsPlainTest p inst shape_of home_of site Bodies Sees t × (ArePlainStatements Sees looping handling ss × ArePlainBranches Sees looping handling bs)

    pub ArePlainAlternatives : (tree.Object → Type 0) → (looping handling : Bool) → tree.Alternatives → Type 0
    ArePlainAlternatives Sees looping handling tree.no_alternative = Unit {0}
    ArePlainAlternatives Sees looping handling (tree.alternative cs ss rest) =
        HasChoice cs × (ArePlainStatements Sees looping handling ss × ArePlainAlternatives Sees looping handling rest)

    pub IsPlainBlock : (tree.Object → Type 0) → (looping handling : Bool) → tree.Block → Type 0
    IsPlainBlock Sees looping handling (tree.block ds ss hs) =
        ArePlainDeclarations Sees ds × (ArePlainStatements (behind_all Sees ds) looping handling ss × ArePlainHandlers (behind_all Sees ds) looping hs)

    pub ArePlainHandlers : (tree.Object → Type 0) → (looping : Bool) → tree.Handlers → Type 0
    ArePlainHandlers Sees looping tree.no_handler = Unit {0}
    ArePlainHandlers Sees looping (tree.handler cs ss hs) = HasChoice cs × (ArePlainStatements Sees looping true ss × ArePlainHandlers Sees looping hs)
