-- The sources of the workload.
use Rattle.std.specs.Prelude.{ℕ, zero, suc, ◌+◌, ◌*◌, ◌/◌, ◌%◌, ◌^◌, ◌==◌, List, [], ◌++◌, codes, if◌then◌else◌}
use Rattle.std.specs.Fmt.{decimal}

-- the number behind one: those of a source begin behind its own number
abbrev pub next_number : ℕ → ℕ
next_number x = (1103515245 * x + 12345) % 2 ^ 31

-- of each number the lower 16 bits are left out; the next two tell the shape of a decision, the next three its bound
abbrev pub shape_of : ℕ → ℕ
shape_of x = (x / 65536) % 4

abbrev pub bound_of : ℕ → ℕ
bound_of x = (x / 262144) % 8

-- a decision of this shape: all its relations have one bound
abbrev pub decision_text : (shape bound : ℕ) → List ℕ
decision_text shape bound =
    if shape == 0 then codes "A > " ++ (decimal bound ++ (codes " and then B > " ++ decimal bound))
    else if shape == 1 then codes "A > " ++ (decimal bound ++ (codes " or else B > " ++ decimal bound))
    else if shape == 2 then codes "A > " ++ (decimal bound ++ (codes " and then (B > "
    ++ (decimal bound ++ (codes " or else C > " ++ (decimal bound ++ codes ")")))))
    else codes "(A > " ++ (decimal bound ++ (codes " and then B > "
    ++ (decimal bound ++ (codes ") or else C > " ++ decimal bound))))

-- a statement that counts where its decision is true
abbrev pub branch_text : (x : ℕ) → List ℕ
branch_text x =
    codes "   if " ++ (decision_text (shape_of x) (bound_of x) ++ codes " then\n      S := S + 1;\n   end if;\n")

-- so many of them, by the numbers behind one
abbrev pub branches : (count x : ℕ) → List ℕ
branches zero x = []
branches (suc count) x = branch_text (next_number x) ++ branches count (next_number x)

abbrev pub head_text : List ℕ
head_text =
    codes "with Test_IO;\nprocedure Work is\n   A, B, C, S : Integer;\nbegin\n   S := 0;\n"
    ++ codes "   Test_IO.Get (A);\n   Test_IO.Get (B);\n   Test_IO.Get (C);\n"

abbrev pub tail_text : List ℕ
tail_text = codes "   Test_IO.Put (S);\nend Work;\n"

-- the source with a number, which has so many decisions
abbrev pub source_of : (n : ℕ) → List ℕ
source_of n = head_text ++ (branches n n ++ tail_text)
