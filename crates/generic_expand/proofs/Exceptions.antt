-- A program has as many exceptions as are declared, copies counted.
use Rattle.std.proofs.Common.{◌≡◌, ℕ, suc, ◌+◌, nat_eq, Bool, true, false, List, [], ◌∷◌, length, map, sum_by, Option, Some, None, if◌then◌else◌, refl, sym, ap, ◌∙◌}
use Rattle.std.proofs.lemmas.List.{length-append, length-map}
use Rattle.std.proofs.lemmas.List.Sums.{sum_by-cons}
use Rattle.ada_meaning.specs.Bodies.{instances_from, instances_of}
use Rattle.ada_meaning.specs.Obligations.{IsNumbered, in_order, inserted, is_listed_before, listed, listed_by, listed_for, listed_in, ordered_exceptions}
use Rattle.ada_meaning.specs.Program as meaning
use Rattle.ada_tree.specs.Programs.{exception_declaration_of, instance_of, program_of, raisable_of}
use Rattle.ada_tree.specs.declared.program.ExceptionDeclaration.{ExceptionDeclaration}
use Rattle.ada_tree.specs.declared.program.Program.{Program}
use Rattle.generic_expand.specs.Limits.{declared_copies, exception_count}

module _ {X : Type 0} (before : X → X → Bool) where
  one_longer : (x : X) (ys : List X) → length (inserted before x ys) ≡ suc (length ys)
  one_longer x [] = refl
  one_longer x (y ∷ ys) = by_test (before y x) (one_longer x ys) where
    by_test : (b : Bool) → length (inserted before x ys) ≡ suc (length ys) → length (if b then y ∷ inserted before x ys else x ∷ y ∷ ys) ≡ suc (suc (length ys))
    by_test true rest = ap suc rest
    by_test false rest = refl

  pub as_long : (xs : List X) → length (in_order before xs) ≡ length xs
  as_long [] = refl
  as_long (x ∷ xs) = one_longer x (in_order before xs) ∙ ap suc (as_long xs)

-- whatever the numbers are
for_each : (d : meaning.ExceptionDeclaration) (g n m : ℕ) (is : List meaning.Instance) → length (listed_for d g n is) ≡ length (instances_from g m is)
for_each d g n m [] = refl
for_each d g n m (i ∷ is) = by_test (nat_eq i.generic g) (for_each d g (suc n) (m + 1) is) where
  by_test : (b : Bool) → length (listed_for d g (suc n) is) ≡ length (instances_from g (m + 1) is)
      → length (if b then listed_in d n i ∷ listed_for d g (suc n) is else listed_for d g (suc n) is)
      ≡ length (if b then m ∷ instances_from g (m + 1) is else instances_from g (m + 1) is)
  by_test true rest = ap suc rest
  by_test false rest = rest

of_one : (d : meaning.ExceptionDeclaration) (g : Option ℕ) (is : List meaning.Instance) → length (listed_by g d is) ≡ length (instances_of g is)
of_one d None is = refl
of_one d (Some g) is = for_each d g 1 1 is

-- declarations list as many exceptions as there are, each once for every instance of its generic
pub listed_long : (ds : List meaning.ExceptionDeclaration) (is : List meaning.Instance)
    → length (listed ds is) ≡ sum_by (λ (d : meaning.ExceptionDeclaration). length (instances_of d.generic is)) ds
listed_long [] is = refl
listed_long (d ∷ ds) is =
    length-append (listed_by d.generic d is) (listed ds is)
    ∙ (λ i. of_one d d.generic is i + listed_long ds is i)
    ∙ sym (sum_by-cons (λ (e : meaning.ExceptionDeclaration). length (instances_of e.generic is)) d ds)

-- a declaration that is typed is seen with its generic
seen_declared : (p : Program) (ds : List ExceptionDeclaration)
    → sum_by (λ (d : meaning.ExceptionDeclaration). length (instances_of d.generic (map instance_of p.instances))) (map exception_declaration_of ds)
    ≡ sum_by (λ d. declared_copies p d.generic) ds
seen_declared p [] = refl
seen_declared p (d ∷ ds) =
    sum_by-cons (λ (e : meaning.ExceptionDeclaration). length (instances_of e.generic (map instance_of p.instances))) (exception_declaration_of d)
    (map exception_declaration_of ds)
    ∙ (λ i. declared_copies p d.generic + seen_declared p ds i)
    ∙ sym (sum_by-cons (λ e. declared_copies p e.generic) d ds)

pub exceptions_counted : (p : Program) → IsNumbered (program_of p) → length p.exceptions ≡ exception_count p
exceptions_counted p numbered =
    sym (length-map p.exceptions raisable_of) ∙ ap length numbered.exceptions
    ∙ length-map (ordered_exceptions (program_of p)) (λ x. x.entry)
    ∙ as_long is_listed_before (listed (map exception_declaration_of p.declared) (map instance_of p.instances))
    ∙ listed_long (map exception_declaration_of p.declared) (map instance_of p.instances) ∙ seen_declared p p.declared
