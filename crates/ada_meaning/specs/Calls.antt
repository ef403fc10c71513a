-- What a call hands over: how arguments are copied into parameters, and back.
use Rattle.std.specs.Prelude.{ℕ, ℤ, List, [], ◌∷◌, drop, Option, Some, None, if◌then◌else◌}
use Rattle.ada_meaning.specs.Program.{Bounds, Mode, in_mode, out_mode, in_out_mode}
use Rattle.ada_meaning.specs.Arithmetic.{base_range, is_within}
use Rattle.ada_meaning.specs.State.{Place, Action, give, raise, done, ◌>>=◌, ◌>>◌, puts, fetch, set_word, take_word}
use Rattle.ada_meaning.specs.Shape.{Shape, word, row, group, set_first, copy_parts}
use Rattle.ada_meaning.specs.Resolved.{ResolvedParameter, local_place, constraint_error, program_error, end_error}

-- What an actual comes to before the call: the value of a scalar of mode in; the place and the bounds of a scalar of mode out, with the
-- value too for mode in out; the place of a composite.
pub data Argument : Type 0 where
  of_value : ℤ → Argument
  of_variable : Place → Bounds → Argument
  of_both : Place → Bounds → ℤ → Argument
  of_composite : Place → Argument

-- how the body of a subprogram is executed: the instance, the subprogram, and the arguments; a function gives its result, unless it
-- reaches its end
abbrev pub Calls : Type 0
Calls = ℕ → ℕ → List Argument → Action (Option ℤ)

-- a range check (RM 3.5)
abbrev pub check : Bounds → ℤ → Action (Unit {0})
check b x = if is_within b x then done else raise constraint_error

-- the value, if it passes the check
abbrev pub checked : Bounds → ℤ → Action ℤ
checked b x = check b x >> give x

-- the bounds of a scalar shape
abbrev pub word_bounds : Shape → Bounds
word_bounds (word b) = b
word_bounds (row b s) = base_range
word_bounds (group ss) = base_range

-- the first of the parameters that are left
abbrev pub next_parameter : List ResolvedParameter → ResolvedParameter
next_parameter [] = record { declaration = 0; mode = in_mode; shape = word base_range }
next_parameter (q ∷ qs) = q

-- a scalar variable as an argument, by mode: it gives its value unless the mode is out
abbrev pub argument_of : Mode → Bounds → Place → Bounds → Action Argument
argument_of out_mode parameter p b = give (of_variable p b)
argument_of in_mode parameter p b = do
  x ← fetch p
  check parameter x
  give (of_value x)
argument_of in_out_mode parameter p b = do
  x ← fetch p
  check parameter x
  give (of_both p b x)

-- a composite parameter of mode in or in out has the value of its actual, one of mode out has first values
abbrev pub composite_in : Mode → Shape → Place → Place → Action (Unit {0})
composite_in out_mode s p q = set_first s q
composite_in in_mode s p q = copy_parts s p q
composite_in in_out_mode s p q = copy_parts s p q

-- sets a parameter at q (RM 6.4.1)
abbrev pub copy_in : ResolvedParameter → Argument → Place → Action (Unit {0})
copy_in f (of_value x) q = set_word q x
copy_in f (of_variable p b) q = set_first f.shape q
copy_in f (of_both p b x) q = set_word q x
copy_in f (of_composite p) q = composite_in f.mode f.shape p q

-- sets the parameters, in order, in an activation at a depth
abbrev pub copy_all_in : ℕ → ℕ → List ResolvedParameter → List Argument → Action (Unit {0})
copy_all_in inst depth qs [] = done
copy_all_in inst depth qs (a ∷ rest) =
    copy_in (next_parameter qs) a (local_place inst depth (next_parameter qs).declaration) >> copy_all_in inst depth (drop 1 qs) rest

-- checks the value of a scalar parameter at q, and sets the variable to it
abbrev pub word_back : Place → Place → Bounds → Action (Unit {0})
word_back q p b = do
  x ← fetch q
  check b x
  set_word p x

-- sets the parts of a composite actual to those of the parameter, unless its mode is in
abbrev pub composite_back : Mode → Shape → Place → Place → Action (Unit {0})
composite_back in_mode s q p = done
composite_back out_mode s q p = copy_parts s q p
composite_back in_out_mode s q p = copy_parts s q p

-- copies a parameter at q back to its actual (RM 6.4.1)
abbrev pub copy_back : ResolvedParameter → Argument → Place → Action (Unit {0})
copy_back f (of_value x) q = done
copy_back f (of_variable p b) q = word_back q p b
copy_back f (of_both p b x) q = word_back q p b
copy_back f (of_composite p) q = composite_back f.mode f.shape q p

-- copies the parameters back, in order, from an activation at a depth
abbrev pub copy_all_back : ℕ → ℕ → List ResolvedParameter → List Argument → Action (Unit {0})
copy_all_back inst depth qs [] = done
copy_all_back inst depth qs (a ∷ rest) =
    copy_back (next_parameter qs) a (local_place inst depth (next_parameter qs).declaration) >> copy_all_back inst depth (drop 1 qs) rest

-- Test_IO.Get: takes a word, checks it and sets the variable to it; its argument is always a variable
abbrev pub get_word : Argument → Action (Unit {0})
get_word (of_value x) = done
get_word (of_variable p b) = do
  x ← take_word end_error
  check b x
  set_word p x
get_word (of_both p b x) = done
get_word (of_composite p) = done

-- Test_IO.Put; its argument is always a value
abbrev pub put_word : Argument → Action (Unit {0})
put_word (of_value x) = puts x
put_word (of_variable p b) = done
put_word (of_both p b x) = done
put_word (of_composite p) = done

-- an action with the one argument of Test_IO's procedures
abbrev pub with_one : (Argument → Action (Unit {0})) → List Argument → Action (Unit {0})
with_one f [] = done
with_one f (a ∷ rest) = f a

-- the result of a function; a function that reached its end raises Program_Error in its caller (RM 6.4)
abbrev pub result_of : Option ℤ → Action ℤ
result_of None = raise program_error
result_of (Some x) = give x
