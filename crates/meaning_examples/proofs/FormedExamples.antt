-- Shown by computing, and by a search for what each part has to be.
use Rattle.std.proofs.Common.{◌≡◌, ◌⊎◌, ◌<◌, ℕ, zero, suc, true, false, refl, inl, inr, arith}
use Rattle.std.proofs.lemmas.Bool.{false≢true, leb-true}
use Rattle.cov_base.specs.Lists.{Everywhere}
use Rattle.ada_meaning.specs.Objects.{AreDistinct}
use Rattle.ada_meaning.specs.Obligations.{numbers}
use Rattle.ada_meaning.specs.Program.{body_target}
use Rattle.ada_meaning.specs.WellFormed.{IsCallable, IsSubprogram, IsWellFormed}
use Rattle.meaning_examples.specs.Frames.{fact, factorial, calling_fact}
use Rattle.meaning_examples.specs.Generics.{count, counting, next_one}
use Rattle.meaning_examples.specs.Loops.{t, procedure_t}

never : (A : Type 0) → false ≡ true → A
never A h = absurd (false≢true h)

this_one : (A B : Type 0) → A → A ⊎ B
this_one A B x = inl x

later_one : (A B : Type 0) → B → A ⊎ B
later_one A B x = inr x

of_first : IsCallable count false (body_target 1 0)
of_first = (record { declared = next_one; is_declared = refl; stands = refl }, refl)

of_second : IsCallable count false (body_target 2 0)
of_second = (record { declared = next_one; is_declared = refl; stands = refl }, refl)

next_formed : IsSubprogram count 1 next_one
next_formed = record {
  numbered = refl;
  types = tt;
  profile = tt;
  few = leb-true 0 16 refl;
  given = λ h. tt;
  frame = search (leb-true, this_one, later_one) depth 20;
}

next_formed_again : IsSubprogram count 2 next_one
next_formed_again = record {
  numbered = refl;
  types = tt;
  profile = tt;
  few = leb-true 0 16 refl;
  given = λ h. tt;
  frame = search (leb-true, this_one, later_one) depth 20;
}

main_formed : IsSubprogram count 0 counting
main_formed = record {
  numbered = refl;
  types = tt;
  profile = tt;
  few = leb-true 0 16 refl;
  given = λ h. tt;
  frame = search (leb-true, of_first, of_second) depth 20;
}

pub count_formed : IsWellFormed count
count_formed = record {
  numbered = record { statements = refl; decisions = refl; instances = refl; exceptions = refl };
  declared = search;
  resolved = search;
  narrow = (leb-true 1 32 refl, tt);
  library = search;
  bodies = (next_formed, (next_formed_again, (main_formed, tt)));
  main = counting;
  is_main = refl;
  main_alone = record { procedure = refl; bare = refl; apart = refl };
}

-- numbers from one on differ
others_differ : (m n count : ℕ) → m < n → Everywhere (λ k. m ≡ k → ⊥) (numbers n count)
others_differ m n zero less = tt
others_differ m n (suc count) less = ((λ e. omega (arith, less, e)), others_differ m (suc n) count (omega (arith, less)))

all_differ : (n count : ℕ) → AreDistinct (numbers n count)
all_differ n zero = tt
all_differ n (suc count) = (others_differ n (suc n) count (omega arith), all_differ (suc n) count)

-- a function with a parameter and an object that is set when it is declared
of_fact : IsCallable factorial true (body_target 0 0)
of_fact = (record { declared = fact; is_declared = refl; stands = refl }, refl)

fact_formed : IsSubprogram factorial 0 fact
fact_formed = record {
  numbered = refl;
  types = ((refl, refl), ((refl, refl), tt));
  profile = (refl, tt);
  few = leb-true 1 16 refl;
  given = λ h. (refl, tt);
  frame = search (leb-true, this_one, later_one, of_fact) depth 20;
}

calling_formed : IsSubprogram factorial 0 calling_fact
calling_formed = record {
  numbered = refl;
  types = tt;
  profile = tt;
  few = leb-true 0 16 refl;
  given = λ h. tt;
  frame = search (leb-true, of_fact) depth 20;
}

pub factorial_formed : IsWellFormed factorial
factorial_formed = record {
  numbered = record { statements = refl; decisions = refl; instances = refl; exceptions = refl };
  declared = record { locals = (all_differ 0 2, (tt, tt)); library = tt; exceptions = tt };
  resolved = search;
  narrow = (leb-true 1 32 refl, tt);
  library = search;
  bodies = (fact_formed, (calling_formed, tt));
  main = calling_fact;
  is_main = refl;
  main_alone = record { procedure = refl; bare = refl; apart = refl };
}

-- a procedure with an array, an object without an initial value and a loop parameter
procedure_formed : IsSubprogram t 0 procedure_t
procedure_formed = record {
  numbered = refl;
  types = search;
  profile = tt;
  few = leb-true 0 16 refl;
  given = λ h. tt;
  frame = search (this_one, later_one) depth 20;
}

pub t_formed : IsWellFormed t
t_formed = record {
  numbered = record { statements = refl; decisions = refl; instances = refl; exceptions = refl };
  declared = record { locals = (all_differ 0 4, tt); library = tt; exceptions = tt };
  resolved = search;
  narrow = tt;
  library = search;
  bodies = (procedure_formed, tt);
  main = procedure_t;
  is_main = refl;
  main_alone = record { procedure = refl; bare = refl; apart = refl };
}
