-- Calls of a program's bodies, and of their code, come to the same.
use Rattle.std.proofs.Common.{◌≡◌, ◌≢◌, ℕ, zero, suc, ◌+◌, ◌-◌, ◌*◌, ◌<◌, ◌≤◌, ◌⊎◌, inl, inr, nat_lt, Bool, true, false, FitsSigned, List, [], ◌∷◌, length, map, Some, None, slice_get, refl, sym, ap, subst, ◌∙◌, arith, ℤ, Option}
use Rattle.std.proofs.lemmas.Bool.Decides.{nat_tests}
use Rattle.std.specs.Int.{w32}
use Rattle.ada_meaning.specs.Calls.{Argument, of_value, of_variable, of_both, of_composite, composite_back, copy_all_in, copy_all_back, result_of}
use Rattle.ada_meaning.specs.Execution.{deepest, result_in, called, calls_in, initial, exec}
use Rattle.ada_meaning.specs.Program.{Mode, in_mode, out_mode, in_out_mode, Subprogram, body_target, Program}
use Rattle.ada_meaning.specs.Resolved.{ResolvedParameter, parameters_of_subprogram, parameter_in, parameters_of}
use Rattle.ada_meaning.specs.Shape.{Shape}
use Rattle.ada_meaning.specs.State.{Place, World, Outcome, Gives, Raises, OutOfFuel, goes_to, Action, give, framed, ◌>>=◌, ◌>>◌}
use Rattle.ada_meaning.specs.Statements.{Flow, does_block}
use Rattle.kernel_ir.specs.declared.kernel.Body.{Body}
use Rattle.kernel_ir.specs.declared.kernel.Kernel.{Kernel}
use Rattle.kernel_ir.specs.Limits.{widest}
use Rattle.kernel_ir.specs.Meaning as code
use Rattle.kernel_ir.specs.World.{Ended, data_word, area_end, slot_in, paid}
use Rattle.kernel_ir.specs.World as kernel
use Rattle.statement_code.specs.Names.{names_in}
use Rattle.statement_code.specs.Calls.{ArgumentsStand, AreFor, FunctionsDo, ProceduresDo, Called, Results}
use Rattle.statement_code.specs.Bodies.{body_code, ParametersStand, IsStage}
use Rattle.statement_code.specs.Cells.{Cells, Agree}
use Rattle.statement_code.specs.Frames.{Observed, Runs}
use Rattle.statement_code.specs.Objects.{Standing, CellsOf}
use Rattle.statement_code.specs.Programs.{Plan, IsLocal, AreGiven, IsSeen, site_of, IsPlanned, IsMade, Same, IsKernelOf}
use Rattle.statement_code.specs.Values.{arguments, Site}
use Rattle.statement_code.proofs.Bodies.{procedure_runs, function_runs}
use Rattle.statement_code.proofs.Flows.{goes_to_twice}
use Rattle.statement_code.proofs.Frames.{ticked, observed_less, runs_are}
use Rattle.statement_code.proofs.Stages.{Cell, stage_of, stand_local, parameters_stand, visible}

goes_to_same : {A B : Type 0} (r : Outcome A) (f g : A → Action B) → ((a : A) (w : World) → f a w ≡ g a w) → goes_to r f ≡ goes_to r g
goes_to_same (Gives a w) f g same = same a w
goes_to_same (Raises x w) f g same = refl
goes_to_same (OutOfFuel w) f g same = refl

not_given : (m : Mode) → m ≡ in_mode → (m ≡ out_mode) ⊎ (m ≡ in_out_mode) → ⊥
not_given in_mode is (inl other) = cc other
not_given in_mode is (inr other) = cc other
not_given out_mode is other = cc is
not_given in_out_mode is other = cc is

composite_given : (m : Mode) (s : Shape) (q r : Place) (w : World) → m ≡ in_mode → composite_back m s q r w ≡ Gives (record {}) w
composite_given in_mode s q r w is = refl
composite_given out_mode s q r w is = absurd (not_given out_mode is (inl refl))
composite_given in_out_mode s q r w is = absurd (not_given in_out_mode is (inr refl))

-- nothing is copied back where all modes are in
nothing_back : (inst depth : ℕ) (qs : List ResolvedParameter) (xs : List Argument) (w : World) → AreFor qs xs → AreGiven qs → copy_all_back inst depth qs xs w ≡ Gives (record {}) w
nothing_back inst depth qs [] w are given = refl
nothing_back inst depth [] (x ∷ xs) w are given = absurd (none are.0)
  where
    none : 1 ≤ 0 → ⊥
    none le = omega (arith, le)
nothing_back inst depth (q ∷ qs) (of_value x ∷ xs) w are given = nothing_back inst depth qs xs w are.1.1 given.1
nothing_back inst depth (q ∷ qs) (of_variable r b ∷ xs) w are given = absurd (not_given q.mode given.0 (inl are.1.0.1))
nothing_back inst depth (q ∷ qs) (of_both r b x ∷ xs) w are given = absurd (not_given q.mode given.0 (inr are.1.0.1))
nothing_back inst depth (q ∷ qs) (of_composite r ∷ xs) w are given =
    rw (composite_given q.mode q.shape _ r w given.0) (nothing_back inst depth qs xs w are.1.1 given.1)

-- a call below the greatest depth
source_call : (p : Program) (fuel j m : ℕ) (s : Subprogram) (xs : List Argument) (w : World) → slice_get p.subprograms m ≡ Some s → w.depth < 512
    → calls_in p (suc fuel) j m xs w
    ≡ goes_to (framed (copy_all_in j (suc w.depth) (parameters_of p (body_target j m)) xs >> does_block p (calls_in p fuel) (suc fuel) j s.body None) (ticked w))
    (λ r. copy_all_back j (suc w.depth) (parameters_of p (body_target j m)) xs >>= λ u. give (result_in r))
unfolding deepest
source_call p fuel j m s xs w is less =
    subst (λ o. called p (calls_in p fuel) (suc fuel) j o xs w
    ≡ goes_to (framed (copy_all_in j (suc w.depth) (map (parameter_in p j) (parameters_of_subprogram o)) xs >> does_block p (calls_in p fuel) (suc fuel) j s.body None) (ticked w))
    (λ r. copy_all_back j (suc w.depth) (map (parameter_in p j) (parameters_of_subprogram o)) xs >>= λ u. give (result_in r)))
    (sym is) (by_depth less)
  where
    by_depth : w.depth < 512 → called p (calls_in p fuel) (suc fuel) j (Some s) xs w
        ≡ goes_to (framed (copy_all_in j (suc w.depth) (map (parameter_in p j) s.parameters) xs >> does_block p (calls_in p fuel) (suc fuel) j s.body None) (ticked w))
        (λ r. copy_all_back j (suc w.depth) (map (parameter_in p j) s.parameters) xs >>= λ u. give (result_in r))
    by_depth lt = rw (is_less lt) refl
      where
        is_less : w.depth < 512 → nat_lt w.depth 512 ≡ true
        is_less le = grind (arith, nat_tests, le)

-- a call at the greatest depth
source_full : (p : Program) (fuel j m : ℕ) (s : Subprogram) (xs : List Argument) (w : World) → slice_get p.subprograms m ≡ Some s → w.depth ≡ 512
    → calls_in p (suc fuel) j m xs w ≡ Raises 3 (ticked w)
unfolding deepest
source_full p fuel j m s xs w is full =
    subst (λ o. called p (calls_in p fuel) (suc fuel) j o xs w ≡ Raises 3 (ticked w)) (sym is) (by_depth full)
  where
    by_depth : w.depth ≡ 512 → called p (calls_in p fuel) (suc fuel) j (Some s) xs w ≡ Raises 3 (ticked w)
    by_depth at = rw at refl

code_call : (K : Kernel) (fuel n fp left : ℕ) (b : Body) (v : kernel.World) → slice_get K.bodies n ≡ Some b
    → code.calls_in K (suc fuel) n fp left v ≡ code.back (code.does_code K (code.calls_in K fuel) (suc fuel) b.width fp left b.code (paid 1 v))
code_call K fuel n fp left b v is = rw is refl

paid_twice : (v : kernel.World) → paid 1 (paid 1 v) ≡ paid 2 v
paid_twice v = ap (λ c. record { memory = v.memory; input = v.input; seen = record { events = v.seen.events; output = v.seen.output; cost = c } }) (same v.seen.cost)
  where
    same : (n : ℕ) → n + 1 + 1 ≡ n + 2
    same n = omega arith

module _ (p : Program) (K : Kernel) (number : ℕ → ℕ → ℕ) (library : List Standing) (Bodies : Bool → ℕ → ℕ → Type 0) (plan_of : ℕ → ℕ → Plan) (low : ℕ)
    (made : IsMade p K number library Bodies plan_of low) where
  abbrev Outer : Cells
  Outer = CellsOf library

  abbrev site : (width : ℕ) → Site
  site width = record { width = width; body = number }

  abbrev parameters : (j m : ℕ) → List ResolvedParameter
  parameters j m = parameters_of p (body_target j m)

  -- calls from a body of this width, where so many may nest, come to the same
  pub record CallsAre (fuel width fp left : ℕ) : Type 0 where
    pub functions : FunctionsDo p (calls_in p fuel) (code.calls_in K fuel) Outer (site width) Bodies K.exceptions width fp left
    pub procedures : ProceduresDo p (calls_in p fuel) (code.calls_in K fuel) Outer (site width) Bodies K.exceptions width fp left

  -- a body in an activation
  module _ (function : Bool) (j m : ℕ) (body : Bodies function j m) (fuel fp left : ℕ) (room : low + widest * suc left ≤ fp) (top_word : fp ≤ area_end)
      (inner : CallsAre fuel (plan_of j m).width fp left) (xs : List Argument) (are : AreFor (parameters j m) xs) (spare : ℕ) (w : World) (v : kernel.World)
      (given : ArgumentsStand Outer fp w.depth 0 (parameters j m) xs w v) (agree : Agree Outer w.store v.memory) (seen : Observed spare w.seen v.seen) (input : v.input ≡ w.input)
      (depth : suc w.depth + left ≡ 512) (payment : ℕ) (cheap : payment ≤ 2) where
    abbrev plan : Plan
    plan = plan_of j m

    abbrev planned : IsPlanned p K number library Bodies function j m plan
    planned = made.bodies function j m body

    bottom : low + (plan.width + arguments) ≤ fp
    bottom = let narrow = planned.narrow in omega (arith, room, narrow)

    deep : 1 ≤ suc w.depth
    deep = omega arith

    abbrev Cells_here : Cells
    Cells_here = Cell library low made.outside K.layouts plan planned.laid planned.small made.above fp bottom top_word j (suc w.depth) deep

    here : IsStage Cells_here Outer fp plan.width plan.base (suc w.depth) K.exceptions (length (parameters j m))
    here = stage_of library low made.outside K.layouts plan planned.laid planned.small made.above fp bottom top_word j (suc w.depth) deep K.exceptions (length (parameters j m)) made.predefined planned.few

    stand_here : ParametersStand K.layouts Cells_here plan.home_of plan.layout_of fp j (suc w.depth) (length (parameters j m)) (parameters j m) 0
    stand_here = parameters_stand library low made.outside K.layouts plan planned.laid planned.small made.above fp bottom top_word j (suc w.depth) deep (parameters j m) 0
        (length (parameters j m)) planned.few planned.parameters

    abbrev source_does : Outcome Flow
    source_does = framed (copy_all_in j (suc w.depth) (parameters j m) xs >> does_block p (calls_in p fuel) (suc fuel) j planned.declared.body None) (ticked w)

    abbrev code_does : Ended
    code_does = code.back (code.does_code K (code.calls_in K fuel) (suc fuel) plan.width fp left
        (body_code (names_in p j) plan.shape_of plan.home_of (site_of p K number library Bodies plan) plan.layout_of plan.base plan.gives (parameters j m) planned.declared.body)
        (paid payment v))

    procedure_entered : function ≡ false
        → Runs (λ x u t. ((1 ≤ x) × (x ≤ K.exceptions)) × Called Outer fp spare w v u t)
        (λ r u t. Called Outer fp spare w v u t × Results Outer fp j (suc w.depth) 0 (parameters j m) xs u t)
        (goes_to source_does (λ f. give (result_in f))) code_does
    procedure_entered is =
        procedure_runs p (calls_in p fuel) j K (code.calls_in K fuel) (suc fuel) Cells_here Outer plan.shape_of plan.home_of (site_of p K number library Bodies plan) Bodies plan.layout_of (parameters j m) fp plan.width plan.base left K.exceptions w v here stand_here (IsLocal plan) (IsSeen library plan j (parameters j m)) plan.gives spare refl
        (stand_local library low made.outside K.layouts plan planned.laid planned.small made.above fp bottom top_word j (suc w.depth) deep)
        (visible library low made.outside K.layouts plan planned.laid planned.small made.above fp bottom top_word j (suc w.depth) deep p (parameters j m))
        inner.functions inner.procedures depth refl xs are given agree input seen payment cheap planned.declared.body planned.plain planned.ends (planned.gives ∙ is)

    function_entered : function ≡ true → (n : ℕ) → n + 1 ≤ spare
        → Runs (λ x u t. ((1 ≤ x) × (x ≤ K.exceptions)) × Called Outer fp n w v u t)
        (λ x u t. Called Outer fp n w v u t × ((slot_in fp 0 t ≡ x) × FitsSigned w32 x))
        (goes_to (goes_to source_does (λ f. give (result_in f))) (λ o. result_of o)) code_does
    function_entered is n le =
        function_runs p (calls_in p fuel) j K (code.calls_in K fuel) (suc fuel) Cells_here Outer plan.shape_of plan.home_of (site_of p K number library Bodies plan) Bodies plan.layout_of (parameters j m) fp plan.width plan.base left K.exceptions w v here stand_here (IsLocal plan) (IsSeen library plan j (parameters j m)) plan.gives spare refl
        (stand_local library low made.outside K.layouts plan planned.laid planned.small made.above fp bottom top_word j (suc w.depth) deep)
        (visible library low made.outside K.layouts plan planned.laid planned.small made.above fp bottom top_word j (suc w.depth) deep p (parameters j m))
        inner.functions inner.procedures depth refl xs are given agree input seen payment cheap planned.declared.body planned.plain planned.ends (planned.gives ∙ is) n le

  observed_at : (l m : ℕ) (w : World) (v : kernel.World) → m ≤ l → Observed l w.seen v.seen → Observed m w.seen v.seen
  observed_at l m w v le h = observed_less l m w.seen v.seen le h

  -- a call that would be too deep
  too_deep : (end spare : ℕ) (w : World) (v : kernel.World) → Agree Outer w.store v.memory → Observed (spare + 1) w.seen v.seen → v.input ≡ w.input
      → ((1 ≤ 3) × (3 ≤ K.exceptions)) × Called Outer end spare w v (ticked w) (paid 1 v)
  too_deep end spare w v agree seen input = (
    (omega arith, let few = made.predefined in omega (arith, few)),
    record {
      depth_is = refl;
      input = input;
      library = agree;
      words = λ a le. refl;
      kept = λ q one le. refl;
      seen = record { events = seen.events; output = seen.output; cost = omega (arith, seen.cost) };
    },
  )

  cut_off : (l : ℕ) (w : World) (v : kernel.World) → 1 ≤ l → Observed l w.seen v.seen → Observed 0 w.seen (paid 1 v).seen
  cut_off l w v one seen = record { events = seen.events; output = seen.output; cost = omega (arith, seen.cost, one) }

  -- the code of a body that is called
  called_is : (j m fuel fp left : ℕ) (function : Bool) (body : Bodies function j m) (v : kernel.World)
      → code.calls_in K (suc fuel) (number j m) fp left (paid 1 v)
      ≡ code.back (code.does_code K (code.calls_in K fuel) (suc fuel) (plan_of j m).width fp left
      (body_code (names_in p j) (plan_of j m).shape_of (plan_of j m).home_of (site_of p K number library Bodies (plan_of j m)) (plan_of j m).layout_of (plan_of j m).base
      (plan_of j m).gives (parameters j m) (made.bodies function j m body).declared.body)
      (paid 2 v))
  called_is j m fuel fp left function body v =
      rw (sym (paid_twice v)) (code_call K fuel (number j m) fp left _ (paid 1 v) (made.bodies function j m body).is_body)

  -- calls under more fuel, by those inside of the bodies
  module _ (fuel width fp left : ℕ) (narrow : width ≤ widest) (room : low + widest * suc (suc left) ≤ fp) (top_word : fp ≤ area_end)
      (inner : (plan : Plan) → plan.width ≤ widest → CallsAre fuel plan.width (fp - width) left) where
    lower_room : low + widest * suc left ≤ fp - width
    lower_room = omega (arith, room, narrow)

    lower_top : fp - width ≤ area_end
    lower_top = omega (arith, top_word)

    inside_of : (function : Bool) (j m : ℕ) → Bodies function j m → CallsAre fuel (plan_of j m).width (fp - width) left
    inside_of function j m body = let few = (made.bodies function j m body).narrow in inner (plan_of j m) (omega (arith, few))

    functions_do : FunctionsDo p (calls_in p (suc fuel)) (code.calls_in K (suc fuel)) Outer (site width) Bodies K.exceptions width fp (suc left)
    functions_do j m body xs are few spare w v given agree seen input depth =
        let planned = made.bodies true j m body in
        let less : w.depth < 512 = omega (arith, depth) in
        rw (
          source_call p fuel j m planned.declared xs w planned.is_declared less,
          goes_to_same (framed (copy_all_in j (suc w.depth) (parameters j m) xs >> does_block p (calls_in p fuel) (suc fuel) j planned.declared.body None) (ticked w))
              (λ r. copy_all_back j (suc w.depth) (parameters j m) xs >>= λ u. give (result_in r)) (λ r. give (result_in r))
              (λ r u. ap (λ o. goes_to o (λ t. give (result_in r))) (nothing_back j (suc w.depth) (parameters j m) xs u are (planned.given refl))),
          called_is j m fuel (fp - width) left true body v,
        )
        (function_entered true j m body fuel (fp - width) left lower_room lower_top (inside_of true j m body) xs are (spare + 1) w v given agree
        (observed_at (spare + 2) (spare + 1) w v (omega arith) seen) input (omega (arith, depth)) 2 (omega arith) refl spare (omega arith))

    procedures_do : ProceduresDo p (calls_in p (suc fuel)) (code.calls_in K (suc fuel)) Outer (site width) Bodies K.exceptions width fp (suc left)
    procedures_do j m body xs are few spare w v given agree seen input depth =
        let planned = made.bodies false j m body in
        let less : w.depth < 512 = omega (arith, depth) in
        let does = framed (copy_all_in j (suc w.depth) (parameters j m) xs >> does_block p (calls_in p fuel) (suc fuel) j planned.declared.body None) (ticked w) in
        record {
          outcome = goes_to does (λ f. give (result_in f));
          is = source_call p fuel j m planned.declared xs w planned.is_declared less
              ∙ sym (goes_to_twice does (λ f. give (result_in f)) (λ r. copy_all_back j (suc w.depth) (parameters j m) xs >>= λ u. give r));
          runs = rw (called_is j m fuel (fp - width) left false body v)
              (procedure_entered false j m body fuel (fp - width) left lower_room lower_top (inside_of false j m body) xs are spare w v given agree
              (observed_at (spare + 1) spare w v (omega arith) seen) input (omega (arith, depth)) 2 (omega arith) refl);
        }

  -- Calls under a fuel. Where the fuel and the calls that may nest are used up together, the program is cut off and the kernel raises
  -- Storage_Error.
  pub calls_do : (fuel width fp left : ℕ) → fuel ≢ left → width ≤ widest → low + widest * suc left ≤ fp → fp ≤ area_end → CallsAre fuel width fp left
  calls_do zero width fp zero other narrow room top_word = absurd (other refl)
  calls_do zero width fp (suc left) other narrow room top_word = record {
    functions = λ j m body xs are few spare w v given agree seen input depth. cut_off (spare + 2) w v (omega arith) seen;
    procedures = λ j m body xs are few spare w v given agree seen input depth. record { outcome = OutOfFuel w; is = refl; runs = cut_off (spare + 1) w v (omega arith) seen };
  }
  calls_do (suc fuel) width fp zero other narrow room top_word = record {
    functions = λ j m body xs are few spare w v given agree seen input depth.
        let planned = made.bodies true j m body in
        rw (source_full p fuel j m planned.declared xs w planned.is_declared (omega (arith, depth)))
        (refl, too_deep (fp - width) spare w v agree (observed_at (spare + 2) (spare + 1) w v (omega arith) seen) input);
    procedures = λ j m body xs are few spare w v given agree seen input depth.
        let planned = made.bodies false j m body in
        record {
          outcome = Raises 3 (ticked w);
          is = source_full p fuel j m planned.declared xs w planned.is_declared (omega (arith, depth));
          runs = (refl, too_deep (fp - width) spare w v agree seen input);
        };
  }
  calls_do (suc fuel) width fp (suc left) other narrow room top_word = record {
    functions = functions_do fuel width fp left narrow room top_word
        (λ plan few. calls_do fuel plan.width (fp - width) left (λ e. other (ap suc e)) few (omega (arith, room, narrow)) (omega (arith, top_word)));
    procedures = procedures_do fuel width fp left narrow room top_word
        (λ plan few. calls_do fuel plan.width (fp - width) left (λ e. other (ap suc e)) few (omega (arith, room, narrow)) (omega (arith, top_word)));
  }

-- A kernel does what its program does, under each fuel but the greatest depth of calls.
module _ (p : Program) (K : Kernel) (number : ℕ → ℕ → ℕ) (library : List Standing) (Bodies : Bool → ℕ → ℕ → Type 0) (plan_of : ℕ → ℕ → Plan) (low : ℕ)
    (kernel_is : IsKernelOf p K number library Bodies plan_of low) where
  same_of : (spare : ℕ) (start : World) (begun : kernel.World) (After : Option ℤ → World → kernel.World → Type 0)
      → ((a : Option ℤ) (u : World) (t : kernel.World) → After a u t → Observed 0 u.seen t.seen) → (r : Outcome (Option ℤ)) (e : Ended)
      → Runs (λ x u t. ((1 ≤ x) × (x ≤ K.exceptions)) × Called (CellsOf library) area_end spare start begun u t) After r e → Same r e
  same_of spare start begun After after =
      runs_are (λ x u t. ((1 ≤ x) × (x ≤ K.exceptions)) × Called (CellsOf library) area_end spare start begun u t) After Same
      (record { raises = λ x y u t same stop. (same, observed_less spare 0 u.seen t.seen (omega arith) stop.1.seen); cut = λ u t seen. seen }) after

  pub same_law : (fuel : ℕ) (input : List ℤ) → fuel ≢ 512 → Same (exec p fuel input) (code.exec K fuel input)
  same_law zero input other = record { events = refl; output = refl; cost = omega arith }
  same_law (suc fuel) input other =
      let made = kernel_is.made in
      let body = kernel_is.main_body in
      let planned = made.bodies false 0 p.main body in
      let narrow = planned.narrow in
      let w : World = initial p input in
      let v : kernel.World = code.begin K input in
      let does = framed (copy_all_in 0 (suc w.depth) (parameters_of p (body_target 0 p.main)) [] >> does_block p (calls_in p fuel) (suc fuel) 0 planned.declared.body None) (ticked w) in
      rw (source_call p fuel 0 p.main planned.declared [] w planned.is_declared (omega arith), kernel_is.main_is, code_call K fuel (number 0 p.main) area_end code.nested_calls _ v planned.is_body)
      (same_of 0 w v (λ r u t. Called (CellsOf library) area_end 0 w v u t × Results (CellsOf library) area_end 0 (suc w.depth) 0 (parameters_of p (body_target 0 p.main)) [] u t)
      (λ r u t h. h.0.seen) (goes_to does (λ r. give (result_in r))) _
      (procedure_entered p K number library Bodies plan_of low made false 0 p.main body fuel area_end 511 made.room (omega arith)
      (calls_do p K number library Bodies plan_of low made fuel (plan_of 0 p.main).width area_end 511 (λ e. other (ap suc e)) (omega (arith, narrow)) made.room (omega arith)) [] kernel_is.no_parameter 0 w v
      (record {}) (kernel_is.begins input) (record { events = refl; output = refl; cost = omega arith }) refl refl 1 (omega arith) refl))
