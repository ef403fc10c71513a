-- Worked examples: command lines, and what they ask for.
use Rattle.std.specs.Prelude.{◌≡◌, ℕ, List, [], ◌∷◌, replicate, Option, Some, None, codes}
use Rattle.cov_base.specs.declared.level.Level.{Level}
use Rattle.cov_base.specs.declared.level.Level.TheVariants.{Stmt, Decision, Mcdc, UcMcdc}
use Rattle.cov_base.specs.declared.level.Annotation.{Annotation}
use Rattle.cov_base.specs.declared.level.Annotation.TheVariants.{Report, Xcov, Json}
use Rattle.command_words.specs.Task.{Task, Compile, Run, Coverage, Consolidate, task_of}

-- the words of `gnatcov compile` and of each other command, with more words after them
abbrev pub compile : List (List ℕ) → List (List ℕ)
compile words = codes "gnatcov" ∷ codes "compile" ∷ words

abbrev pub run : List (List ℕ) → List (List ℕ)
run words = codes "gnatcov" ∷ codes "run" ∷ words

abbrev pub coverage : List (List ℕ) → List (List ℕ)
coverage words = codes "gnatcov" ∷ codes "coverage" ∷ words

abbrev pub consolidate : List (List ℕ) → List (List ℕ)
consolidate words = codes "gnatcov" ∷ codes "consolidate" ∷ words

abbrev pub ran : ℕ → Option Task
ran budget = Some (Run (codes "I") budget (codes "T") (codes "O"))

-- the command that shows coverage so, from these traces
abbrev pub covered : Level → Annotation → List (List ℕ) → Option Task
covered level annotation traces = Some (Coverage level annotation (codes "O") traces)

-- the command that compiles these sources
abbrev pub made : List (List ℕ) → Option Task
made sources = Some (Compile (codes "M") (codes "O") sources)

-- one source: options in any order, before and behind it; a value in a word of its own, behind `=` or behind its letter;
-- `--` before a name
abbrev pub Compiles : Type 0
Compiles =
    let one = made (codes "S" ∷ []) in
    (task_of (compile (codes "--main=M" ∷ codes "-o" ∷ codes "O" ∷ codes "S" ∷ [])) ≡ one)
    × (task_of (compile (codes "S" ∷ codes "-oO" ∷ codes "--main" ∷ codes "M" ∷ [])) ≡ one)
    × (task_of (compile (codes "--main=M" ∷ codes "-o=O" ∷ codes "--" ∷ codes "S" ∷ [])) ≡ one)
    × (task_of (compile (codes "--main=" ∷ codes "-o" ∷ codes "O" ∷ codes "--" ∷ codes "-S" ∷ []))
    ≡ Some (Compile [] (codes "O") (codes "-S" ∷ [])))

-- several sources, in their order: with options between them, the same one twice, `--` before and between them, and 64
abbrev pub CompilesSeveral : Type 0
CompilesSeveral =
    (task_of (compile (codes "--main=M" ∷ codes "-o" ∷ codes "O" ∷ codes "T" ∷ codes "S" ∷ []))
    ≡ made (codes "T" ∷ codes "S" ∷ []))
    × (task_of (compile (codes "S" ∷ codes "--main=M" ∷ codes "T" ∷ codes "-oO" ∷ codes "S" ∷ []))
    ≡ made (codes "S" ∷ codes "T" ∷ codes "S" ∷ []))
    × (task_of (compile (codes "--main=M" ∷ codes "-oO" ∷ codes "S" ∷ codes "--" ∷ codes "-T" ∷ codes "--" ∷ []))
    ≡ made (codes "S" ∷ codes "-T" ∷ codes "--" ∷ []))
    × (task_of (compile (codes "--main=M" ∷ codes "-oO" ∷ replicate 64 (codes "S"))) ≡ made (replicate 64 (codes "S")))

-- the budget is 100000000 where none is given, and goes from 1 to 4294967295
abbrev pub Runs : Type 0
Runs =
    (task_of (run (codes "--input=I" ∷ codes "-o" ∷ codes "T" ∷ codes "O" ∷ [])) ≡ ran 100000000)
    × (task_of (run (codes "--input=I" ∷ codes "--budget=1" ∷ codes "-o" ∷ codes "T" ∷ codes "O" ∷ [])) ≡ ran 1)
    × (task_of (run (codes "--budget=4294967295" ∷ codes "--input=I" ∷ codes "-o" ∷ codes "T" ∷ codes "O" ∷ [])) ≡ ran 4294967295)

-- no trace, and two, at each level
abbrev pub Covers : Type 0
Covers =
    (task_of (coverage (codes "--level=stmt" ∷ codes "--annotate=report" ∷ codes "--object=O" ∷ []))
    ≡ covered Stmt Report [])
    × (task_of (coverage (codes "T" ∷ codes "--level" ∷ codes "stmt" ∷ codes "--annotate=report" ∷ codes "--object=O" ∷ codes "U" ∷ []))
    ≡ covered Stmt Report (codes "T" ∷ codes "U" ∷ []))
    × (task_of (coverage (codes "--level=stmt+decision" ∷ codes "--annotate=report" ∷ codes "--object=O" ∷ codes "T" ∷ []))
    ≡ covered Decision Report (codes "T" ∷ []))
    × (task_of (coverage (codes "--level=stmt+mcdc" ∷ codes "--annotate=report" ∷ codes "--object=O" ∷ []))
    ≡ covered Mcdc Report [])
    × (task_of (coverage (codes "--level=stmt+uc_mcdc" ∷ codes "--annotate=report" ∷ codes "--object=O" ∷ []))
    ≡ covered UcMcdc Report [])

-- annotated sources and JSON, without a trace and with two, at different levels
abbrev pub CoversInEachForm : Type 0
CoversInEachForm =
    (task_of (coverage (codes "--level=stmt" ∷ codes "--annotate=xcov" ∷ codes "--object=O" ∷ []))
    ≡ covered Stmt Xcov [])
    × (task_of (coverage (codes "T" ∷ codes "--annotate" ∷ codes "xcov" ∷ codes "--level=stmt+uc_mcdc" ∷ codes "--object=O" ∷ codes "U" ∷ []))
    ≡ covered UcMcdc Xcov (codes "T" ∷ codes "U" ∷ []))
    × (task_of (coverage (codes "--level=stmt+decision" ∷ codes "--annotate=json" ∷ codes "--object=O" ∷ []))
    ≡ covered Decision Json [])
    × (task_of (coverage (codes "--level=stmt+mcdc" ∷ codes "--annotate=json" ∷ codes "--object=O" ∷ codes "T" ∷ codes "U" ∷ []))
    ≡ covered Mcdc Json (codes "T" ∷ codes "U" ∷ []))

-- no trace, and two, one of them twice
abbrev pub Consolidates : Type 0
Consolidates =
    (task_of (consolidate (codes "--object=O" ∷ codes "-o" ∷ codes "F" ∷ [])) ≡ Some (Consolidate (codes "O") (codes "F") []))
    × (task_of (consolidate (codes "T" ∷ codes "-oF" ∷ codes "T" ∷ codes "--object" ∷ codes "O" ∷ codes "U" ∷ []))
    ≡ Some (Consolidate (codes "O") (codes "F") (codes "T" ∷ codes "T" ∷ codes "U" ∷ [])))

-- help and version, in any form
abbrev pub Asks : Type 0
Asks =
    (task_of (codes "gnatcov" ∷ codes "--help" ∷ []) ≡ None)
    × (task_of (codes "gnatcov" ∷ codes "help" ∷ []) ≡ None)
    × (task_of (run (codes "--help" ∷ [])) ≡ None)
    × (task_of (run (codes "--input=I" ∷ codes "-o" ∷ codes "T" ∷ codes "O" ∷ codes "-h" ∷ [])) ≡ None)
    × (task_of (run (codes "--input=I" ∷ codes "-o" ∷ codes "T" ∷ codes "O" ∷ codes "--version" ∷ [])) ≡ None)

-- no words, no command, no option that has to be given, and one that is given twice
abbrev pub Lacks : Type 0
Lacks =
    (task_of [] ≡ None)
    × (task_of (codes "gnatcov" ∷ []) ≡ None)
    × (task_of (codes "gnatcov" ∷ codes "compiles" ∷ []) ≡ None)
    × (task_of (compile (codes "-o" ∷ codes "O" ∷ codes "S" ∷ [])) ≡ None)
    × (task_of (compile (codes "--main=M" ∷ codes "-o" ∷ codes "O" ∷ [])) ≡ None)
    × (task_of (run (codes "--input=I" ∷ codes "--input=I" ∷ codes "-o" ∷ codes "T" ∷ codes "O" ∷ [])) ≡ None)
    × (task_of (consolidate (codes "--object=O" ∷ codes "T" ∷ [])) ≡ None)
    × (task_of (consolidate (codes "-o" ∷ codes "F" ∷ codes "T" ∷ [])) ≡ None)

-- 65 sources, a name of 4097 bytes, a budget out of its range, a level that there is not, and forms that there are not:
-- of another name, in capitals, without a name
abbrev pub Exceeds : Type 0
Exceeds =
    (task_of (compile (codes "--main=M" ∷ codes "-oO" ∷ replicate 65 (codes "S"))) ≡ None)
    × (task_of (compile (codes "--main=M" ∷ codes "-oO" ∷ codes "S" ∷ replicate 4097 83 ∷ [])) ≡ None)
    × (task_of (run (codes "--input=I" ∷ codes "--budget=0" ∷ codes "-o" ∷ codes "T" ∷ codes "O" ∷ [])) ≡ None)
    × (task_of (run (codes "--input=I" ∷ codes "--budget=4294967296" ∷ codes "-o" ∷ codes "T" ∷ codes "O" ∷ [])) ≡ None)
    × (task_of (coverage (codes "--level=mcdc" ∷ codes "--annotate=report" ∷ codes "--object=O" ∷ [])) ≡ None)
    × (task_of (coverage (codes "--level=stmt" ∷ codes "--annotate=html" ∷ codes "--object=O" ∷ [])) ≡ None)
    × (task_of (coverage (codes "--level=stmt" ∷ codes "--annotate=JSON" ∷ codes "--object=O" ∷ [])) ≡ None)
    × (task_of (coverage (codes "--level=stmt" ∷ codes "--annotate=" ∷ codes "--object=O" ∷ [])) ≡ None)
