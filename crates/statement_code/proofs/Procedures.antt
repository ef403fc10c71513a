-- Calls of procedures, and their code.
use Rattle.std.proofs.Common.{◌≡◌, ℕ, suc, ◌+◌, ◌-◌, ◌<◌, ◌≤◌, ℤ, Bool, false, List, Option, refl, sym, ap, subst, ◌∙◌, arith}
use Rattle.ada_meaning.specs.Calls.{Argument, Calls, copy_all_back}
use Rattle.ada_meaning.specs.Expressions.{given, performed}
use Rattle.ada_meaning.specs.Program.{body_target, Program}
use Rattle.ada_meaning.specs.Resolved.{ResolvedParameter, parameters_of}
use Rattle.ada_meaning.specs.Shape.{Shape}
use Rattle.ada_meaning.specs.State.{World, goes_to, give, ◌>>=◌}
use Rattle.ada_meaning.specs.Statements.{goes_on}
use Rattle.ada_meaning.specs.Tree as tree
use Rattle.kernel_ir.proofs.Joining.{joined_does}
use Rattle.kernel_ir.specs.declared.kernel.Kernel.{Kernel}
use Rattle.kernel_ir.specs.Meaning as code
use Rattle.kernel_ir.specs.Sequence.{joined}
use Rattle.kernel_ir.specs.Tree.{call, Code, and_op}
use Rattle.kernel_ir.specs.World.{Ended, Ends, slot_word, slot_in}
use Rattle.kernel_ir.specs.World as kernel
use Rattle.frame_widths.specs.Ends.{end_of_actuals}
use Rattle.frame_widths.proofs.Above.{actuals_are_above}
use Rattle.statement_code.specs.Names.{names_in}
use Rattle.statement_code.specs.Calls.{MayCall, ArgumentsStand, Called, Results, ProcedureDoes}
use Rattle.statement_code.specs.Cells.{Cells, Within}
use Rattle.statement_code.specs.Frames.{Frame, IsFrame, Inside, Failed}
use Rattle.statement_code.specs.Statements.{backs_code, call_code}
use Rattle.statement_code.specs.Steps.{Step}
use Rattle.statement_code.specs.Values.{Home, Site, arguments, count_of, actuals_code, moves_code, ArePlainActuals, SeesIn}
use Rattle.statement_code.proofs.Backs.{backs_do, temporaries_stay}
use Rattle.statement_code.proofs.Flows.{step_stops, run_step, goes_to_twice}
use Rattle.statement_code.proofs.Frames.{observed_less, inside_less, runs_then}
use Rattle.statement_code.proofs.Arguments.{Given, Moved, moves_do, arguments_stand, after_call, library_agrees}
use Rattle.statement_code.proofs.Values.{given_do}

module _ (p : Program) (calls : Calls) (inst : ℕ) (K : Kernel) (kcalls : code.Calls) (fuel : ℕ) (Cell : Cells) (Keep : ℕ → Type 0) (fr : Frame)
    (frame : IsFrame Cell Keep fr) (Set : ℕ → Type 0) (shape_of : tree.Object → Shape) (home_of : tree.Object → Home) (site : Site) (Bodies : Bool → ℕ → ℕ → Type 0)
    (Library : Cells) (may : MayCall p calls kcalls Library site Bodies Cell Keep fr) (Sees : tree.Object → Type 0)
    (sees : SeesIn p inst shape_of home_of site Bodies Sees (Within Cell Set) fr.fp fr.depth) where
  abbrev In : ℕ → World → kernel.World → Type 0
  In l w v = Inside Cell Keep fr Set l w v

  abbrev Stop : ℕ → World → kernel.World → Type 0
  Stop = Failed Cell Keep fr Set

  abbrev codes : Code → kernel.World → Ended
  codes a v = code.does_code K kcalls fuel fr.width fr.fp fr.calls a v

  abbrev end : ℕ
  end = fr.fp - fr.width

  module _ (Back : Option ℤ → World → kernel.World → Type 0) (looping : Bool) (j m : ℕ) (is : Bodies false j m) (actuals : tree.Actuals)
      (plain : ArePlainActuals p inst shape_of home_of site Bodies Sees (parameters_of p (body_target j m)) actuals) (few : count_of actuals ≤ arguments)
      (room : end_of_actuals fr.base actuals ≤ fr.width) where
    abbrev qs : List ResolvedParameter
    qs = parameters_of p (body_target j m)

    abbrev backs : Code
    backs = backs_code (names_in p inst) shape_of home_of (record { width = fr.width; body = site.body }) fr.base 0 qs actuals

    narrow : fr.base < fr.width
    narrow = omega (arith, room, actuals_are_above fr.base actuals)

    -- a call that returned: its parameters go back
    returned : (xs : List Argument) (u : World) (t s : kernel.World) (o : Option ℤ) (y : World) (z : kernel.World)
        → Given p calls inst K kcalls fuel Cell Keep fr frame Set shape_of home_of site Bodies Library may Sees sees (2 + count_of actuals) fr.base qs actuals t xs u t
        → ((i : ℕ) → i < fr.width → slot_in fr.fp i s ≡ slot_in fr.fp i t) → In 1 u s
        → Called Library end (fr.spare + 1) u s y z → Results Library end j (suc fr.depth) 0 qs xs y z
        → Step Back looping Stop (In 0) (goes_to (goes_to (copy_all_back j (suc fr.depth) qs xs y) (λ a. give o)) (λ r. give goes_on)) (codes backs z)
    returned xs u t s o y z g kept before called results =
        subst (λ x. Step Back looping Stop (In 0) x (codes backs z)) (sym (goes_to_twice (copy_all_back j (suc fr.depth) qs xs y) (λ a. give o) (λ r. give goes_on)))
        (run_step Back looping {A = Unit {0}} Stop (λ a. In (0 + 1)) (In 0) (λ a w v i. inside_less Cell Keep fr Set (0 + 1) 0 w v (omega arith) i) (λ a. give goes_on) (λ a w. refl)
        (copy_all_back j (suc fr.depth) qs xs y) (codes backs z)
        (backs_do p calls inst K kcalls fuel Cell Keep fr frame Set shape_of home_of site Bodies Library may Sees sees j actuals qs xs fr.base 0 0 y z plain (omega arith)
        (omega (arith, narrow)) room (omega (arith, few, g.count))
        (temporaries_stay p calls inst K kcalls fuel Cell Keep fr frame Set shape_of home_of site Bodies Library may Sees sees actuals qs xs fr.base t z
        (λ i le lt. called.words (slot_word fr.fp i) (omega (arith, lt, frame.room)) ∙ kept i lt) room g.temporaries)
        results (after_call p calls inst K kcalls fuel Cell Keep fr frame Set shape_of home_of site Bodies Library may Sees sees 1 u y s z before called)))

    -- the arguments stand in the callee's frame
    handed : (xs : List Argument) (u : World) (t : kernel.World)
        → Given p calls inst K kcalls fuel Cell Keep fr frame Set shape_of home_of site Bodies Library may Sees sees (2 + count_of actuals) fr.base qs actuals t xs u t
        → Moved p calls inst K kcalls fuel Cell Keep fr frame Set shape_of home_of site Bodies Library may Sees sees 2 fr.base 0 actuals u t (codes (moves_code fr.width fr.base 0 actuals) t)
        → Step Back looping Stop (In 0) (goes_to (calls j m xs u) (λ r. give goes_on)) (codes (joined (moves_code fr.width fr.base 0 actuals) (and_op (call (site.body j m)) backs)) t)
    handed xs u t g moved =
        rw (
          joined_does K kcalls fuel fr.width fr.fp fr.calls (moves_code fr.width fr.base 0 actuals) (and_op (call (site.body j m)) backs) t,
          moved.is,
          same,
          goes_to_twice does.outcome (λ r. copy_all_back j (suc fr.depth) qs xs >>= λ a. give r) (λ r. give goes_on),
        )
        (runs_then (λ x y z. ((1 ≤ x) × (x ≤ fr.top)) × Called Library end (fr.spare + 1) u moved.u y z)
        (λ r y z. Called Library end (fr.spare + 1) u moved.u y z × Results Library end j (suc u.depth) 0 qs xs y z) (Step Back looping Stop (In 0))
        (record {
          raises = λ x y w v eq stop. (
            eq,
            (
              stop.0,
              inside_less Cell Keep fr Set 1 0 w v (omega arith)
                  (after_call p calls inst K kcalls fuel Cell Keep fr frame Set shape_of home_of site Bodies Library may Sees sees 1 u w moved.u v before stop.1),
            ),
          );
          cut = λ w v seen. seen;
        })
        (λ r y. goes_to (goes_to (copy_all_back j (suc fr.depth) qs xs y) (λ a. give r)) (λ r. give goes_on)) (codes backs)
        (λ o y z ended. returned xs u t moved.u o y z g (λ i lt. moved.kept i (omega (arith, lt))) before ended.0
        (subst (λ d. Results Library end j (suc d) 0 qs xs y z) g.inside.depth_is ended.1))
        does.outcome (code.called kcalls fr.width fr.fp fr.calls (site.body j m) moved.u) does.runs)
      where
        before : In 1 u moved.u
        before = inside_less Cell Keep fr Set 2 1 u moved.u (omega arith) moved.inside

        does : ProcedureDoes p calls kcalls Library fr.top fr.width fr.fp fr.calls (site.body j m) j m xs (fr.spare + 1) u moved.u
        does = may.procedures j m is xs g.for (omega (arith, few, g.count)) (fr.spare + 1) u moved.u
            (subst (λ d. ArgumentsStand Library end d 0 qs xs u moved.u) (sym g.inside.depth_is)
            (arguments_stand p calls inst K kcalls fuel Cell Keep fr frame Set shape_of home_of site Bodies Library may Sees sees actuals qs xs fr.base 0 2 u t moved.u g.temporaries moved.from moved.inside))
            (library_agrees p calls inst K kcalls fuel Cell Keep fr frame Set shape_of home_of site Bodies Library may Sees sees 2 u moved.u moved.inside)
            (observed_less (fr.spare + 2) (fr.spare + 1 + 1) u.seen moved.u.seen (omega arith) moved.inside.seen)
            moved.inside.input (ap (λ d. d + fr.calls) g.inside.depth_is ∙ may.full)

        same : calls j m xs u ≡ goes_to does.outcome (λ r. copy_all_back j (suc fr.depth) qs xs >>= λ a. give r)
        same = does.is ∙ ap (λ d. goes_to does.outcome (λ r. copy_all_back j (suc d) qs xs >>= λ a. give r)) g.inside.depth_is

    -- a call of a procedure, behind the start of its statement
    pub procedure_called : (w : World) (v : kernel.World) → In 2 w v
        → Step Back looping Stop (In 0) (goes_to (given p calls inst actuals qs w) (λ arguments. performed calls (body_target j m) arguments >>= λ r. give goes_on))
        (codes (call_code (names_in p inst) shape_of home_of site fr.base (body_target j m) actuals) v)
    procedure_called w v h =
        subst (λ st. Step Back looping Stop (In 0) (goes_to (given p calls inst actuals qs w) (λ arguments. performed calls (body_target j m) arguments >>= λ r. give goes_on))
        (codes (joined evaluated (joined (moves_code st.width fr.base 0 actuals) (and_op (call (site.body j m)) (backs_code (names_in p inst) shape_of home_of st fr.base 0 qs actuals)))) v))
        here
        (rw (joined_does K kcalls fuel fr.width fr.fp fr.calls evaluated (joined (moves_code fr.width fr.base 0 actuals) (and_op (call (site.body j m)) backs)) v)
        (runs_then Stop (Given p calls inst K kcalls fuel Cell Keep fr frame Set shape_of home_of site Bodies Library may Sees sees (2 + count_of actuals) fr.base qs actuals v)
        (Step Back looping Stop (In 0)) (step_stops Back looping Stop (In 0)) (λ xs. calls j m xs >>= λ r. give goes_on)
        (codes (joined (moves_code fr.width fr.base 0 actuals) (and_op (call (site.body j m)) backs)))
        (λ xs u t g. handed xs u t (restarted xs u t g)
        (moves_do p calls inst K kcalls fuel Cell Keep fr frame Set shape_of home_of site Bodies Library may Sees sees actuals 2 fr.base 0 u t (omega (arith, narrow)) (omega (arith, few)) room g.inside))
        (given p calls inst actuals qs w) (codes evaluated v)
        (given_do p calls inst K kcalls fuel Cell Keep fr frame Set shape_of home_of site Bodies Library may Sees sees actuals qs 2 fr.base w v plain (omega arith) room h)))
      where
        evaluated : Code
        evaluated = actuals_code (names_in p inst) shape_of home_of site fr.base qs actuals

        here : record { width = fr.width; body = site.body } ≡ site
        here = λ t. record { width = sym may.width_is t; body = site.body }

        restarted : (xs : List Argument) (u : World) (t : kernel.World)
            → Given p calls inst K kcalls fuel Cell Keep fr frame Set shape_of home_of site Bodies Library may Sees sees (2 + count_of actuals) fr.base qs actuals v xs u t
            → Given p calls inst K kcalls fuel Cell Keep fr frame Set shape_of home_of site Bodies Library may Sees sees (2 + count_of actuals) fr.base qs actuals t xs u t
        restarted xs u t g = record { inside = g.inside; below = λ i lt. refl; temporaries = g.temporaries; for = g.for; count = g.count }
