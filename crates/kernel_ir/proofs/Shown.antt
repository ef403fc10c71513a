-- Shown by computing.
use Rattle.std.proofs.Common.{ℕ, ◌^◌, ◌<◌, pos, List, arith, refl}
use Rattle.std.proofs.lemmas.Int.{fits_signed_from_abs}
use Rattle.std.specs.Int.{w32}
use Rattle.cov_base.specs.declared.position.DecId.{DecId}
use Rattle.cov_base.specs.Graph.{Edges}
use Rattle.kernel_ir.specs.declared.kernel.Kernel.{Kernel}
use Rattle.kernel_ir.specs.Tree.{no_op}
use Rattle.kernel_ir.specs.Limits.{IsWord, CodeFits}
use Rattle.std.specs.Int.{int_wrap}
use Rattle.kernel_ir.specs.Examples.{says, and_or, deciding, Values, Operators, Checks, Words, Components, Composites, Input, Decisions, Abandoned, Loops, Handlers, CallsOf, Depth, Marks, WithinLimits}

pub values : Values
values = refl

pub operators : Operators
operators = refl

pub checks : Checks
checks = (refl, refl, refl, refl, refl)

pub words : Words
unfolding int_wrap
words = (refl, refl, refl, refl)

pub components : Components
unfolding int_wrap
components = (refl, refl)

pub composites : Composites
composites = refl

pub input : Input
input = refl

pub decisions : Decisions
decisions = (refl, refl, refl, refl, refl)

pub abandoned : Abandoned
abandoned = refl

pub loops : Loops
loops = (refl, refl, refl)

pub handlers : Handlers
handlers = (refl, refl, refl)

pub calls_of : CallsOf
unfolding int_wrap
calls_of = (refl, refl)

pub depth : Depth
unfolding int_wrap
depth = (refl, refl, refl)

pub marks : Marks
marks = (refl, refl)

-- a number below 2 ^ 31 is a word
word : (n : ℕ) → n < 2 ^ 31 → IsWord (pos n)
word n h = fits_signed_from_abs w32 (pos n) h

-- what says a number fits
says_fits : (n : ℕ) → n < 2 ^ 31 → (p : Kernel) (graph : DecId → List Edges) → CodeFits p 26 graph (says n no_op)
says_fits n h p graph = ((omega arith, word n h), (omega arith, tt))

pub within_limits : WithinLimits
within_limits = (
  record {
    bodies = (
      (
        (omega arith, word 1 (omega arith)),
        (
          (omega arith, word 0 (omega arith)),
          (
            (omega arith, word 1 (omega arith)),
            (
              tt,
              (
                (
                  omega arith,
                  refl,
                  omega arith,
                  omega arith,
                  ((tt, (tt, tt)), ((tt, (tt, tt)), ((tt, (tt, tt)), tt))),
                  (
                    says_fits 1 (omega arith) (deciding 1 0 1) and_or,
                    omega arith,
                    omega arith,
                    tt,
                    (
                      says_fits 2 (omega arith) (deciding 1 0 1) and_or,
                      omega arith,
                      tt,
                      omega arith,
                      (says_fits 3 (omega arith) (deciding 1 0 1) and_or, omega arith, tt, tt, tt),
                    ),
                  ),
                ),
                ((omega arith, says_fits 7 (omega arith) (deciding 1 0 1) and_or, says_fits 9 (omega arith) (deciding 1 0 1) and_or), tt),
              ),
            ),
          ),
        ),
      ),
      (tt, tt),
    );
    main = omega arith;
    layouts = (word 7 (omega arith), ((omega arith, omega arith), ((omega arith, (omega arith, tt)), tt)));
    library = (omega arith, (omega arith, (omega arith, (omega arith, tt))));
    predefined = omega arith;
    exceptions = omega arith;
  },
  record {
    widths = ((omega arith, omega arith), ((omega arith, omega arith), tt));
    library = omega arith;
    layouts = omega arith;
    contents = (omega arith, (omega arith, (omega arith, tt)));
    text = omega arith;
  },
  refl,
)
