-- Actions that add no event and hang on no fuel: setting, copying, checks, and choices.
use Rattle.std.proofs.Common.{ℕ, zero, suc, ℤ, pos, ◌+ℤ◌, true, false, List, [], ◌∷◌, drop, Option, Some, None, ◌&&◌, int_eq}
use Rattle.ada_meaning.specs.Tree.{Choice, ExceptionChoice}
use Rattle.ada_meaning.specs.Program.{Bounds, Mode, in_mode, out_mode, in_out_mode, Program}
use Rattle.ada_meaning.specs.Arithmetic.{base_range, is_within, divides, exact}
use Rattle.ada_meaning.specs.State.{Place, part_at, Action, done}
use Rattle.ada_meaning.specs.Shape.{Shape, word, row, group, Shapes, no_shape, and_shape, each_from, each_in, set_first, set_firsts, copy_parts, copy_components}
use Rattle.ada_meaning.specs.Resolved.{ResolvedParameter, local_place, constraint_error, program_error, end_error}
use Rattle.ada_meaning.specs.Calls.{Argument, of_value, of_variable, of_both, of_composite, Calls, next_parameter, check, checked, argument_of, composite_in, copy_in, copy_all_in, word_back, composite_back, copy_back, copy_all_back, get_word, put_word, with_one, result_of}
use Rattle.ada_meaning.specs.Expressions.{operated}
use Rattle.ada_meaning.specs.Statements.{raised_again, is_chosen, chooses, is_caught, catches}
use Rattle.ada_meaning.proofs.Quiet.{Quiet, bind_quiet, then_quiet, if_quiet, give_quiet, raise_quiet, tick_quiet, puts_quiet, fetch_quiet, set_word_quiet, take_word_quiet}

pub done_quiet : Quiet done
done_quiet = give_quiet (record {})

pub each_from_quiet : (n : ℕ) (i : ℤ) {f : ℤ → Action (Unit {0})} → ((j : ℤ) → Quiet (f j)) → Quiet (each_from n i f)
each_from_quiet zero i g = done_quiet
each_from_quiet (suc n) i g = then_quiet (g i) (each_from_quiet n (i +ℤ pos 1) g)

pub each_in_quiet : (b : Bounds) {f : ℤ → Action (Unit {0})} → ((j : ℤ) → Quiet (f j)) → Quiet (each_in b f)
each_in_quiet b g = each_from_quiet _ _ g

mutual
  pub set_first_quiet : (s : Shape) (q : Place) → Quiet (set_first s q)
  set_first_quiet (word b) q = set_word_quiet q b.low
  set_first_quiet (row b s) q = then_quiet tick_quiet (each_in_quiet b (λ i. set_first_quiet s (part_at i q)))
  set_first_quiet (group ss) q = then_quiet tick_quiet (set_firsts_quiet ss (pos 0) q)

  set_firsts_quiet : (ss : Shapes) (i : ℤ) (q : Place) → Quiet (set_firsts ss i q)
  set_firsts_quiet no_shape i q = done_quiet
  set_firsts_quiet (and_shape s ss) i q = then_quiet (set_first_quiet s (part_at i q)) (set_firsts_quiet ss (i +ℤ pos 1) q)

mutual
  pub copy_parts_quiet : (s : Shape) (q r : Place) → Quiet (copy_parts s q r)
  copy_parts_quiet (word b) q r = bind_quiet (fetch_quiet q) (λ x. set_word_quiet r x)
  copy_parts_quiet (row b s) q r = then_quiet tick_quiet (each_in_quiet b (λ i. copy_parts_quiet s (part_at i q) (part_at i r)))
  copy_parts_quiet (group ss) q r = then_quiet tick_quiet (copy_components_quiet ss (pos 0) q r)

  copy_components_quiet : (ss : Shapes) (i : ℤ) (q r : Place) → Quiet (copy_components ss i q r)
  copy_components_quiet no_shape i q r = done_quiet
  copy_components_quiet (and_shape s ss) i q r =
      then_quiet (copy_parts_quiet s (part_at i q) (part_at i r)) (copy_components_quiet ss (i +ℤ pos 1) q r)

pub check_quiet : (b : Bounds) (x : ℤ) → Quiet (check b x)
check_quiet b x = if_quiet (is_within b x) done_quiet (raise_quiet constraint_error)

pub checked_quiet : (b : Bounds) (x : ℤ) → Quiet (checked b x)
checked_quiet b x = then_quiet (check_quiet b x) (give_quiet x)

pub operated_quiet : (o : _) (x y : ℤ) → Quiet (operated o x y)
operated_quiet o x y =
    if_quiet (divides o && int_eq y (pos 0)) (raise_quiet constraint_error) (checked_quiet base_range (exact o x y))

pub argument_of_quiet : (m : Mode) (b : Bounds) (q : Place) (c : Bounds) → Quiet (argument_of m b q c)
argument_of_quiet out_mode b q c = give_quiet (of_variable q c)
argument_of_quiet in_mode b q c = bind_quiet (fetch_quiet q) (λ x. then_quiet (check_quiet b x) (give_quiet (of_value x)))
argument_of_quiet in_out_mode b q c = bind_quiet (fetch_quiet q) (λ x. then_quiet (check_quiet b x) (give_quiet (of_both q c x)))

composite_in_quiet : (m : Mode) (s : Shape) (q r : Place) → Quiet (composite_in m s q r)
composite_in_quiet out_mode s q r = set_first_quiet s r
composite_in_quiet in_mode s q r = copy_parts_quiet s q r
composite_in_quiet in_out_mode s q r = copy_parts_quiet s q r

copy_in_quiet : (f : ResolvedParameter) (a : Argument) (q : Place) → Quiet (copy_in f a q)
copy_in_quiet f (of_value x) q = set_word_quiet q x
copy_in_quiet f (of_variable r b) q = set_first_quiet f.shape q
copy_in_quiet f (of_both r b x) q = set_word_quiet q x
copy_in_quiet f (of_composite r) q = composite_in_quiet f.mode f.shape r q

pub copy_all_in_quiet : (inst depth : ℕ) (qs : List ResolvedParameter) (arguments : List Argument) → Quiet (copy_all_in inst depth qs arguments)
copy_all_in_quiet inst depth qs [] = done_quiet
copy_all_in_quiet inst depth qs (a ∷ rest) =
    then_quiet (copy_in_quiet (next_parameter qs) a (local_place inst depth (next_parameter qs).declaration)) (copy_all_in_quiet inst depth (drop 1 qs) rest)

word_back_quiet : (q r : Place) (b : Bounds) → Quiet (word_back q r b)
word_back_quiet q r b = bind_quiet (fetch_quiet q) (λ x. then_quiet (check_quiet b x) (set_word_quiet r x))

composite_back_quiet : (m : Mode) (s : Shape) (q r : Place) → Quiet (composite_back m s q r)
composite_back_quiet in_mode s q r = done_quiet
composite_back_quiet out_mode s q r = copy_parts_quiet s q r
composite_back_quiet in_out_mode s q r = copy_parts_quiet s q r

copy_back_quiet : (f : ResolvedParameter) (a : Argument) (q : Place) → Quiet (copy_back f a q)
copy_back_quiet f (of_value x) q = done_quiet
copy_back_quiet f (of_variable r b) q = word_back_quiet q r b
copy_back_quiet f (of_both r b x) q = word_back_quiet q r b
copy_back_quiet f (of_composite r) q = composite_back_quiet f.mode f.shape q r

pub copy_all_back_quiet : (inst depth : ℕ) (qs : List ResolvedParameter) (arguments : List Argument) → Quiet (copy_all_back inst depth qs arguments)
copy_all_back_quiet inst depth qs [] = done_quiet
copy_all_back_quiet inst depth qs (a ∷ rest) =
    then_quiet (copy_back_quiet (next_parameter qs) a (local_place inst depth (next_parameter qs).declaration)) (copy_all_back_quiet inst depth (drop 1 qs) rest)

pub get_word_quiet : (a : Argument) → Quiet (get_word a)
get_word_quiet (of_value x) = done_quiet
get_word_quiet (of_variable q b) = bind_quiet (take_word_quiet end_error) (λ x. then_quiet (check_quiet b x) (set_word_quiet q x))
get_word_quiet (of_both q b x) = done_quiet
get_word_quiet (of_composite q) = done_quiet

pub put_word_quiet : (a : Argument) → Quiet (put_word a)
put_word_quiet (of_value x) = puts_quiet x
put_word_quiet (of_variable q b) = done_quiet
put_word_quiet (of_both q b x) = done_quiet
put_word_quiet (of_composite q) = done_quiet

pub with_one_quiet : {f : Argument → Action (Unit {0})} → ((a : Argument) → Quiet (f a)) → (arguments : List Argument) → Quiet (with_one f arguments)
with_one_quiet g [] = done_quiet
with_one_quiet g (a ∷ rest) = g a

pub result_of_quiet : (r : Option ℤ) → Quiet (result_of r)
result_of_quiet None = raise_quiet program_error
result_of_quiet (Some x) = give_quiet x

pub raised_again_quiet : (taken : Option ℕ) → Quiet (raised_again taken)
raised_again_quiet None = give_quiet _
raised_again_quiet (Some e) = raise_quiet e

pub chooses_quiet : (p : Program) (calls : Calls) (fuel inst : ℕ) (cs : List Choice) (x : ℤ) → Quiet (chooses p calls fuel inst cs x)
chooses_quiet p calls fuel inst [] x = give_quiet false
chooses_quiet p calls fuel inst (c ∷ cs) x =
    then_quiet tick_quiet (if_quiet (is_chosen p calls fuel inst c x) (give_quiet true) (chooses_quiet p calls fuel inst cs x))

pub catches_quiet : (p : Program) (calls : Calls) (fuel inst : ℕ) (cs : List ExceptionChoice) (e : ℕ) → Quiet (catches p calls fuel inst cs e)
catches_quiet p calls fuel inst [] e = give_quiet false
catches_quiet p calls fuel inst (c ∷ cs) e =
    then_quiet tick_quiet (if_quiet (is_caught p calls fuel inst c e) (give_quiet true) (catches_quiet p calls fuel inst cs e))
