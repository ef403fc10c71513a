-- The lines that tell of a run.
use Rattle.std.specs.Prelude.{ℕ, ◌-◌, ℤ, List, ◌++◌, ◌==◌, length, drop, codes, slice_get, Option, None, Some, if◌then◌else◌}
use Rattle.std.specs.Fmt.{decimal, signed_decimal}
use Rattle.std.specs.List.{flat_map}
use Rattle.hex.specs.Hex.{encode_lower}

-- the line of a word that a program put
abbrev pub put_line : ℤ → List ℕ
put_line word = codes "put: " ++ (signed_decimal word ++ codes "\n")

-- the name of the exception with this number, from 1; 0 is none
abbrev pub exception_name : List (List ℕ) → ℕ → Option (List ℕ)
exception_name exceptions number = if number == 0 then None else slice_get exceptions (number - 1)

-- the line of how a run ended: by return, or by the exception of this name
abbrev pub ending_line : Option (List ℕ) → List ℕ
ending_line None = codes "ending: return\n"
ending_line (Some name) = codes "ending: exception " ++ (name ++ codes "\n")

-- the digest at a file's end, its last 32 bytes
abbrev pub closing_of : List ℕ → List ℕ
closing_of file = drop (length file - 32) file

-- the lines of how many instructions were executed, and of which run it is: the digest of its trace
abbrev pub length_lines : (count : ℕ) → (trace : List ℕ) → List ℕ
length_lines count trace =
    codes "instructions: " ++ (decimal count ++ (codes "\nrun: " ++ (encode_lower (closing_of trace) ++ codes "\n")))

-- all lines of a run: what it put, how it ended, how long it was, which it is
abbrev pub run_lines : (exceptions : List (List ℕ)) → (put : List ℤ) → (ending count : ℕ) → (trace : List ℕ) → List ℕ
run_lines exceptions put ending count trace =
    (flat_map put_line put ++ ending_line (exception_name exceptions ending)) ++ length_lines count trace
