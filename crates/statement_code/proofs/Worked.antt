-- A kernel of a whole program: a procedure of a generic with a parameter, which the main procedure calls in the one instance.
use Rattle.std.proofs.Common.{◌≡◌, ℕ, zero, suc, ◌+◌, pos, false, [], ◌∷◌, Some, None, slice_get, refl, sym, subst, arith}
use Rattle.cov_base.specs.declared.position.Pos.{Pos}
use Rattle.ada_meaning.specs.Bodies.{StandsIn, IsBody, bodies_of}
use Rattle.ada_meaning.specs.Program.{Bounds, in_mode, Subprogram, body_target, Program}
use Rattle.ada_meaning.specs.Resolved.{parameters_of}
use Rattle.ada_meaning.specs.Shape.{word}
use Rattle.ada_meaning.specs.Declared.{object_shape}
use Rattle.ada_meaning.specs.Tree as tree
use Rattle.ada_meaning.specs.Types as type
use Rattle.ada_meaning.specs.WellFormed as formed
use Rattle.kernel_ir.specs.declared.kernel.Body.{Body}
use Rattle.kernel_ir.specs.declared.kernel.Kernel.{Kernel}
use Rattle.kernel_ir.specs.World.{data_word}
use Rattle.statement_code.specs.Alike.{AreNamesIn}
use Rattle.statement_code.specs.Bodies.{body_code}
use Rattle.statement_code.specs.Kernels.{Scheme, IsWhole, place_of}
use Rattle.statement_code.specs.Laid.{IsLaidOut, IsLaidKernel}
use Rattle.statement_code.specs.Names.{names_in}
use Rattle.statement_code.specs.Programs.{Plan}
use Rattle.statement_code.specs.Values.{in_frame}
use Rattle.statement_code.proofs.Laid.{whole_law}
use Rattle.statement_code.proofs.Stacked.{stacked_law}

abbrev at : ℕ → Pos
at n = record { file = 0; line = n; col = 1 }

abbrev ten : type.Range
ten = type.between (type.static_number (pos 1)) (type.static_number (pos 10))

abbrev bounds : Bounds
bounds = record { low = pos 1; high = pos 10 }

abbrev label : ℕ → tree.Label
label n = record { number = n; place = at (n + 1) }

abbrev only : tree.Stmt → tree.Block
only s = tree.block [] (tree.and_statement s tree.no_statement) tree.no_handler

abbrev called : Subprogram
called = record {
  generic = Some 0;
  parameters = record { declaration = 0; mode = in_mode; subtype = type.scalar ten } ∷ [];
  objects = type.scalar ten ∷ [];
  body = only (tree.null_statement (label 0));
}

abbrev caller : Subprogram
caller = record {
  generic = None;
  parameters = [];
  objects = [];
  body = only (tree.procedure_call (label 1) (tree.subprogram (type.of_instance 1) 0) (tree.by_expression (tree.literal (pos 5)) tree.no_actual));
}

abbrev program : Program
program = record {
  subprograms = called ∷ caller ∷ [];
  main = 1;
  objects = [];
  constants = [];
  instances = record { name = []; place = at 3; generic = 0; actuals = []; constants = [] } ∷ [];
  declared = [];
  exceptions = [];
}

abbrev plan_of : ℕ → ℕ → Plan
plan_of j zero = record { width = 2; base = 1; gives = false; locals = 0 ∷ []; shape_of = λ o. word bounds; home_of = λ o. in_frame 0; layout_of = λ d. 0 }
plan_of j (suc m) = record { width = 2; base = 0; gives = false; locals = []; shape_of = λ o. word bounds; home_of = λ o. in_frame 0; layout_of = λ d. 0 }

abbrev scheme : Scheme
scheme = record { number = λ j m. place_of j m (bodies_of program); library = []; address_of = λ inst d. data_word; low = data_word; plan_of = plan_of }

abbrev body : (j m : ℕ) → tree.Block → Body
body j m b = record {
  code = body_code (names_in program j) (plan_of j m).shape_of (plan_of j m).home_of (record { width = (plan_of j m).width; body = scheme.number }) (plan_of j m).layout_of (plan_of j m).base
      (plan_of j m).gives (parameters_of program (body_target j m)) b;
  width = (plan_of j m).width;
}

abbrev kernel : Kernel
kernel = record { bodies = body 1 0 called.body ∷ body 0 1 caller.body ∷ []; main = 1; layouts = []; library = []; exceptions = 4 }

-- what is called is a body
abbrev called_is : IsBody program (record { instance = 1; subprogram = 0 })
called_is = record { declared = called; is_declared = refl; stands = refl }

-- it is well-formed
well : formed.IsWellFormed program
well = record {
  numbered = record { statements = refl; decisions = refl; instances = refl; exceptions = refl };
  declared = record { locals = ((tt, tt), (tt, tt)); library = tt; exceptions = tt };
  resolved = (record { formals = tt; constants = refl }, tt);
  narrow = tt;
  library = tt;
  bodies = (
    record { numbered = refl; types = ((refl, refl), tt); profile = (refl, tt); few = omega arith; given = λ e. (refl, tt); frame = (tt, ((tt, tt), tt)) },
    (
      record {
        numbered = refl;
        types = tt;
        profile = tt;
        few = omega arith;
        given = λ e. tt;
        frame = (tt, ((((called_is, refl), (omega arith, (tt, (refl, (refl, refl))))), tt), tt));
      },
      tt,
    ),
  );
  main = caller;
  is_main = refl;
  main_alone = record { procedure = refl; bare = refl; apart = refl };
}

named : (j m : ℕ) (declared : Subprogram) → AreNamesIn program j (object_shape program j declared) (names_in program j)
named j m declared = record { instance = refl; numbers = λ e is. refl; bounds = λ r is. refl; targets = λ c. refl; parameters = λ f t is. refl; exceptions = λ x is. refl }

-- how its bodies are laid out
called_laid : IsLaidOut program kernel scheme 1 0 called (plan_of 1 0)
called_laid = record {
  names = names_in program 1;
  named = named 1 0 called;
  is_body = refl;
  gives = refl;
  locals = refl;
  shapes = (refl, tt);
  sizes = (omega arith, tt);
  layouts = (tt, tt);
  filled = ((λ none. absurd none), tt);
  laid = stacked_law (plan_of 1 0) (0 ∷ []) 0 (record { framed = tt; behind = omega arith; below = omega arith }, tt) (tt, tt);
  parameters = (record { scalar = λ is. refl; composite = λ none. absurd none; bare = λ none. absurd none }, tt);
  outside = λ o d none. absurd none;
  few = omega arith;
  small = omega arith;
  narrow = omega arith;
  ends = omega arith;
}

caller_laid : IsLaidOut program kernel scheme 0 1 caller (plan_of 0 1)
caller_laid = record {
  names = names_in program 0;
  named = named 0 1 caller;
  is_body = refl;
  gives = refl;
  locals = refl;
  shapes = tt;
  sizes = tt;
  layouts = tt;
  filled = tt;
  laid = tt;
  parameters = tt;
  outside = λ o d none. absurd none;
  few = omega arith;
  small = omega arith;
  narrow = omega arith;
  ends = omega arith;
}

each_laid : (j m : ℕ) (is : IsBody program (record { instance = j; subprogram = m })) → IsLaidOut program kernel scheme j m is.declared (plan_of j m)
each_laid j zero is = by_instance j (subst (λ s. StandsIn program s.generic j) (sym (found is.is_declared)) is.stands) (found is.is_declared)
  where
    found : slice_get program.subprograms 0 ≡ Some is.declared → called ≡ is.declared
    found e = cc e

    by_instance : (i : ℕ) → StandsIn program (Some 0) i → called ≡ is.declared → IsLaidOut program kernel scheme i 0 is.declared (plan_of i 0)
    by_instance zero none e = absurd none
    by_instance (suc zero) one e = subst (λ s. IsLaidOut program kernel scheme 1 0 s (plan_of 1 0)) e called_laid
    by_instance (suc (suc i)) none e = absurd (let x : ⊥ = cc none in x)
each_laid j (suc zero) is =
    subst (λ i. IsLaidOut program kernel scheme i 1 is.declared (plan_of i 1)) (sym (subst (λ s. StandsIn program s.generic j) (sym (found is.is_declared)) is.stands))
    (subst (λ s. IsLaidOut program kernel scheme 0 1 s (plan_of 0 1)) (found is.is_declared) caller_laid)
  where
    found : slice_get program.subprograms 1 ≡ Some is.declared → caller ≡ is.declared
    found e = cc e
each_laid j (suc (suc m)) is = absurd (let none = is.is_declared in let x : ⊥ = cc none in x)

kernel_laid : IsLaidKernel program kernel scheme
kernel_laid = record {
  many = refl;
  numbers = λ j m is. refl;
  main_is = refl;
  bodies = each_laid;
  apart = record { apart = tt; outside = tt };
  above = omega arith;
  room = omega arith;
  addressed = tt;
  objects = tt;
  begins = λ input. tt;
  library = tt;
  library_words = tt;
  library_few = omega arith;
  layouts = tt;
  contents = tt;
  exceptions = refl;
  exceptions_few = omega arith;
}

-- so the kernel is whole
whole : IsWhole program kernel scheme
whole = whole_law program kernel scheme well kernel_laid
