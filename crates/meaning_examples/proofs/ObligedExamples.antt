-- Shown by computing.
use Rattle.std.proofs.Common.{refl, arith}
use Rattle.meaning_examples.specs.Obliged.{OfNested, OfCount}

pub of_nested : OfNested
of_nested = (
  refl,
  record { statements = refl; decisions = refl; instances = refl; exceptions = refl },
  record {
    locals = ((((λ e. absurd (omega (arith, e))), ((λ e. absurd (omega (arith, e))), tt)), (((λ e. absurd (omega (arith, e))), tt), (tt, tt))), tt);
    library = tt;
    exceptions = tt;
  },
)

pub of_count : OfCount
of_count = (
  refl,
  record { statements = refl; decisions = refl; instances = refl; exceptions = refl },
  (record { formals = (refl, (refl, (tt, tt))); constants = refl }, (record { formals = (refl, (refl, (tt, tt))); constants = refl }, tt)),
)
