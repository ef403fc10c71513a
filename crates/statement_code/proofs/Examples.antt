-- How many instructions constructs have, beside their parts.
use Rattle.std.proofs.Common.{◌≡◌, ℕ, zero, suc, ◌+◌, pos, Bool, true, false, List, [], ◌∷◌, refl}
use Rattle.cov_base.specs.declared.position.Pos.{Pos}
use Rattle.ada_meaning.specs.Arithmetic.{base_range}
use Rattle.ada_meaning.specs.Program.{Bounds, out_mode, in_out_mode, Program}
use Rattle.ada_meaning.specs.Resolved.{ResolvedParameter}
use Rattle.ada_meaning.specs.Shape.{Shape, word, row, group, no_shape, and_shape}
use Rattle.ada_meaning.specs.Tree as tree
use Rattle.ada_meaning.specs.Types as type
use Rattle.kernel_ir.specs.Limits.{code_instructions}
use Rattle.statement_code.specs.Names.{names_in}
use Rattle.statement_code.specs.Bodies.{parameter_code, ending_code}
use Rattle.statement_code.specs.Flows.{choices_code}
use Rattle.statement_code.specs.Statements.{backs_code, get_code, put_code, first_code, statement_code}
use Rattle.statement_code.specs.Values.{Home, in_frame, in_library, Site, expr_code, actuals_code, moves_code}

-- local object 0 is a scalar, 1 an array, 2 an array of arrays, and others are records of a scalar and an array
ten : Bounds
ten = record { low = pos 1; high = pos 10 }

module _ (p : Program) (Bodies : Bool → ℕ → ℕ → Type 0) (at : Pos) where
  abbrev shape : ℕ → Shape
  shape zero = word base_range
  shape (suc zero) = row ten (word base_range)
  shape (suc (suc zero)) = row ten (row ten (word base_range))
  shape (suc (suc (suc n))) = group (and_shape (word base_range) (and_shape (row ten (word base_range)) no_shape))

  abbrev shapes : tree.Object → Shape
  shapes (tree.library_object o d) = shape d
  shapes (tree.local_object d) = shape d

  abbrev homes : tree.Object → Home
  homes (tree.library_object o d) = in_library d
  homes (tree.local_object d) = in_frame d

  abbrev site : Site
  site = record { width = 20; body = λ inst m. m }

  abbrev label : tree.Label
  label = record { number = 0; place = at }

  abbrev numbers : type.Range
  numbers = type.between (type.static_number (pos 1)) (type.static_number (pos 10))

  abbrev scalar : tree.Expr
  scalar = tree.read (tree.local_object 0) tree.whole

  abbrev choice : tree.Test
  choice = tree.condition at scalar

  abbrev expr : tree.Expr → ℕ
  expr e = code_instructions (expr_code (names_in p 0) shapes homes site 4 e)

  abbrev statement : tree.Stmt → ℕ
  statement s = code_instructions (statement_code (names_in p 0) shapes homes site (λ d. 0) 4 4 s)

  abbrev none : tree.Stmts
  none = tree.no_statement

  -- a literal, a scalar object, one of the library level, a component, an element, an element of an element
  names : (expr (tree.literal (pos 7)) ≡ 5) × (expr scalar ≡ 6) × (expr (tree.read (tree.library_object type.here 0) tree.whole) ≡ 5)
      × (expr (tree.read (tree.local_object 3) (tree.component 0 tree.whole)) ≡ 31)
      × (expr (tree.read (tree.local_object 1) (tree.element numbers scalar tree.whole)) ≡ 52 + 6)
      × (expr (tree.read (tree.local_object 2) (tree.element numbers scalar (tree.element numbers scalar tree.whole))) ≡ 82 + 6 + 6)
  names = (refl, refl, refl, refl, refl, refl)

  -- signs, operators, relations, `not`, a conversion, and a decision of two conditions
  operations : (expr (tree.signed type.unary_minus scalar) ≡ 11 + 6) × (expr (tree.signed type.absolute_value scalar) ≡ 15 + 6)
      × (expr (tree.operation type.addition scalar scalar) ≡ 21 + 6 + 6) × (expr (tree.relation type.equal scalar scalar) ≡ 11 + 6 + 6)
      × (expr (tree.complement scalar) ≡ 8 + 6) × (expr (tree.conversion numbers scalar) ≡ 13 + 6)
      × (expr (tree.decision label (tree.operator true choice choice)) ≡ 9 + 8 + 6 + 8 + 6)
  operations = (refl, refl, refl, refl, refl, refl, refl)

  -- assignments of a scalar and of an element of a name, of an array, and of all components of an array, and of an array of arrays
  assignments : (statement (tree.assignment label (tree.local_object 0) tree.whole (tree.scalar_value numbers scalar)) ≡ 20 + 6)
      × (statement (tree.assignment label (tree.local_object 1) (tree.element numbers scalar tree.whole) (tree.scalar_value numbers scalar)) ≡ 66 + 6 + 6)
      × (statement (tree.assignment label (tree.local_object 1) tree.whole (tree.composite_value (type.scalar numbers) (tree.local_object 1) tree.whole)) ≡ 49)
      × (statement (tree.assignment label (tree.local_object 1) tree.whole (tree.others_value numbers (tree.scalar_value numbers scalar))) ≡ 8 + (38 + (28 + 6)))
      × (statement (tree.assignment label (tree.local_object 2) tree.whole (tree.others_value numbers (tree.others_value numbers (tree.scalar_value numbers scalar)))) ≡ 8 + (29 + (38 + (28 + 6))))
  assignments = (refl, refl, refl, refl, refl)

  -- first values of a scalar and of an array
  firsts : (code_instructions (first_code (names_in p 0) shapes homes site 4 (shape 0) 0 (in_frame 0)) ≡ 11) × (code_instructions (first_code (names_in p 0) shapes homes site 4 (shape 1) 0 (in_frame 0)) ≡ 19)
  firsts = (refl, refl)

  -- if with a condition, while, a bare loop, a loop over a subtype and a reverse one, exit, exit when
  flows : (statement (tree.if_statement label (tree.branch label choice none (tree.else_part none))) ≡ 1 + (16 + 8 + 6))
      × (statement (tree.while_loop label label choice none) ≡ 1 + (18 + 8 + 6)) × (statement (tree.bare_loop label none) ≡ 2)
      × (statement (tree.for_loop label 0 false (tree.over_subtype numbers) none) ≡ 64) × (statement (tree.for_loop label 0 true (tree.over_subtype numbers) none) ≡ 82)
      × (statement (tree.exit_statement label) ≡ 2) × (statement (tree.exit_when label label choice) ≡ 18 + 8 + 6)
  flows = (refl, refl, refl, refl, refl, refl, refl)

  -- case: its end, an alternative, and choices of a value, of a range, and of all others
  abbrev chosen : List tree.Choice → ℕ
  chosen cs = code_instructions (choices_code (names_in p 0) shapes homes site 4 cs)

  choices : (statement (tree.case_statement label scalar tree.no_alternative) ≡ 4 + 6) × (statement (tree.case_statement label scalar (tree.alternative [] none tree.no_alternative)) ≡ 4 + 12 + 6)
      × (chosen (tree.value_choice (type.static_number (pos 1)) ∷ []) ≡ 5 + 23) × (chosen (tree.range_choice (type.static_number (pos 1)) (type.static_number (pos 2)) ∷ []) ≡ 5 + 46)
      × (chosen (tree.other_values ∷ []) ≡ 5 + 12)
  choices = (refl, refl, refl, refl, refl)

  -- return, with a result, raise by name and again, and a block with a handler of one name, and of all others
  endings : (statement (tree.return_statement label) ≡ 2) × (statement (tree.return_value label numbers scalar) ≡ 21 + 6)
      × (statement (tree.raise_statement label (tree.predefined 1)) ≡ 4) × (statement (tree.raise_again label) ≡ 10)
      × (statement (tree.block_statement (tree.block [] none (tree.handler (tree.named_exception (tree.predefined 1) ∷ []) none tree.no_handler))) ≡ 13 + (12 + 23))
      × (statement (tree.block_statement (tree.block [] none (tree.handler (tree.other_exceptions ∷ []) none tree.no_handler))) ≡ 13 + (12 + 12))
  endings = (refl, refl, refl, refl, refl, refl)

  -- Get of a scalar, and of an element; Put
  puts : (code_instructions (get_code (names_in p 0) shapes homes site 4 (tree.local_object 0) tree.whole numbers) ≡ 27)
      × (code_instructions (get_code (names_in p 0) shapes homes site 4 (tree.local_object 1) (tree.element numbers scalar tree.whole) numbers) ≡ 73 + 6)
      × (code_instructions (put_code (names_in p 0) shapes homes site 4 scalar) ≡ 18 + 6)
  puts = (refl, refl, refl)

  -- an actual: how it is evaluated and checked, moved below the frame, and copied back
  abbrev parameter : ResolvedParameter
  parameter = record { declaration = 0; mode = in_out_mode; shape = shape 0 }

  abbrev array_parameter : ResolvedParameter
  array_parameter = record { declaration = 0; mode = in_out_mode; shape = shape 1 }

  abbrev actual : ResolvedParameter → tree.Actuals → ℕ
  actual q xs = code_instructions (actuals_code (names_in p 0) shapes homes site 4 (q ∷ []) xs) + code_instructions (moves_code 20 4 0 xs)
      + code_instructions (backs_code (names_in p 0) shapes homes site 4 0 (q ∷ []) xs)

  actuals : (actual parameter (tree.by_expression scalar tree.no_actual) ≡ 19 + 6)
      × (actual parameter (tree.by_variable (tree.local_object 0) tree.whole numbers tree.no_actual) ≡ 44)
      × (actual parameter (tree.by_variable (tree.local_object 3) (tree.component 0 tree.whole) numbers tree.no_actual) ≡ 78)
      × (actual parameter (tree.by_variable (tree.local_object 1) (tree.element numbers scalar tree.whole) numbers tree.no_actual) ≡ 99 + 6)
      × (actual array_parameter (tree.by_composite (tree.local_object 1) tree.whole tree.no_actual) ≡ 47)
  actuals = (refl, refl, refl, refl, refl)

  -- in the callee: parameters of mode out and in out, scalar and composite ones, and the end of a function
  abbrev entered : ResolvedParameter → ℕ
  entered q = code_instructions (parameter_code homes (λ d. 0) 4 0 q q.shape)

  entries : (entered parameter ≡ 0) × (entered (record { declaration = 0; mode = out_mode; shape = shape 0 }) ≡ 5) × (entered array_parameter ≡ 47)
      × (entered (record { declaration = 0; mode = out_mode; shape = shape 1 }) ≡ 25) × (code_instructions (ending_code true) ≡ 3)
  entries = (refl, refl, refl, refl, refl)

  -- An element whose index is a call of a function, as an actual that is copied back, has the most for its nodes: 118 for 2. The call is that of
  -- Test_IO.Put here, whose actuals and result are not looked at: the length is that of each call without actuals.
  dearest : actual parameter (tree.by_variable (tree.local_object 1) (tree.element numbers (tree.call tree.test_put tree.no_actual) tree.whole) numbers tree.no_actual) ≡ 118
  dearest = refl
