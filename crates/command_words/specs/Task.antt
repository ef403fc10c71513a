-- The command words, and what they ask for.
use Rattle.std.specs.Prelude.{ℕ, ◌<◌, ◌≤◌, ◌^◌, ◌&&◌, Bool, nat_le, List, [], ◌∷◌, length, codes, Option, Some, None, option_and_then, unwrap_or, if◌then◌else◌}
use Rattle.std.specs.List.{AllByRecursion, list_all}
use Rattle.std.specs.Str.{bytes_eq}
use Rattle.clap.specs.Words.{Row, Text, all_of, first_of, one_of}
use Rattle.cov_base.specs.declared.level.Level.{Level}
use Rattle.cov_base.specs.declared.level.Level.TheVariants.{Stmt, Decision, Mcdc, UcMcdc}
use Rattle.cov_base.specs.declared.level.Annotation.{Annotation}
use Rattle.cov_base.specs.declared.level.Annotation.TheVariants.{Report, Xcov, Json}
use Rattle.command_words.specs.Lines.{compile_app, consolidate_app, coverage_app, given, number_of, run_app}

-- what the words ask for, each name as its bytes; the budget is a number of instructions
pub data Task : Type 0 where
  Compile : (main object : List ℕ) (sources : List (List ℕ)) → Task
  Run : (input : List ℕ) (budget : ℕ) (trace object : List ℕ) → Task
  Coverage : (level : Level) (annotation : Annotation) (object : List ℕ) (traces : List (List ℕ)) → Task
  Consolidate : (object out : List ℕ) (traces : List (List ℕ)) → Task

-- ---- words

-- a command word has at most 4096 bytes; the program's name, which comes first, may have more
abbrev pub is_short : Text → Bool
is_short word = nat_le (length word) 4096

-- the levels
abbrev pub level_named : Text → Option Level
level_named name =
    if bytes_eq name (codes "stmt") then Some Stmt
    else if bytes_eq name (codes "stmt+decision") then Some Decision
    else if bytes_eq name (codes "stmt+mcdc") then Some Mcdc
    else if bytes_eq name (codes "stmt+uc_mcdc") then Some UcMcdc
    else None

-- the forms in which coverage is shown
abbrev pub annotation_named : Text → Option Annotation
annotation_named name =
    if bytes_eq name (codes "report") then Some Report
    else if bytes_eq name (codes "xcov") then Some Xcov
    else if bytes_eq name (codes "json") then Some Json
    else None

-- ---- compile

-- so many sources may be named
abbrev pub is_count : ℕ → Bool
is_count count = nat_le 1 count && nat_le count 64

-- 1 to 64 sources are named, each by a short name
abbrev pub are_sources : List Text → Bool
are_sources sources = is_count (length sources) && list_all is_short sources

-- each part has to be there, and so many sources are named so
abbrev pub compile_with : Option Text → Option Text → List Text → Option Task
compile_with (Some main) (Some object) sources =
    if are_sources sources then Some (Compile main object sources) else None
compile_with _ _ sources = None

abbrev pub compile_from : List Row → Option Task
compile_from rows =
    compile_with (first_of (codes "main") rows) (first_of (codes "object") rows)
    (unwrap_or (all_of (codes "source") rows) [])

-- what the words ask for, of which the first is `compile`
unfoldable pub compile_of : List Text → Option Task
compile_of words = option_and_then compile_from (given compile_app words)

-- ---- run

-- each part has to be there, and the budget is at least 1
abbrev pub run_with : Option Text → Option ℕ → Option Text → Option Text → Option Task
run_with (Some input) (Some budget) (Some trace) (Some object) = if nat_le 1 budget then Some (Run input budget trace object) else None
run_with _ _ _ _ = None

abbrev pub run_from : List Row → Option Task
run_from rows =
    run_with (first_of (codes "input") rows) (option_and_then number_of (one_of (codes "budget") rows)) (first_of (codes "trace") rows)
    (first_of (codes "object") rows)

-- what the words ask for, of which the first is `run`
unfoldable pub run_of : List Text → Option Task
run_of words = option_and_then run_from (given run_app words)

-- ---- coverage

-- each part has to be there, and at most 4096 traces are named
abbrev pub coverage_with : Option Level → Option Annotation → Option Text → List Text → Option Task
coverage_with (Some level) (Some annotation) (Some object) traces =
    if nat_le (length traces) 4096 then Some (Coverage level annotation object traces) else None
coverage_with _ _ _ traces = None

abbrev pub coverage_from : List Row → Option Task
coverage_from rows =
    coverage_with (option_and_then level_named (first_of (codes "level") rows)) (option_and_then annotation_named (first_of (codes "annotate") rows))
    (first_of (codes "object") rows) (unwrap_or (all_of (codes "trace") rows) [])

-- what the words ask for, of which the first is `coverage`
unfoldable pub coverage_of : List Text → Option Task
coverage_of words = option_and_then coverage_from (given coverage_app words)

-- ---- consolidate

-- each part has to be there, and at most 4096 traces are named
abbrev pub consolidate_with : Option Text → Option Text → List Text → Option Task
consolidate_with (Some object) (Some out) traces = if nat_le (length traces) 4096 then Some (Consolidate object out traces) else None
consolidate_with _ _ traces = None

abbrev pub consolidate_from : List Row → Option Task
consolidate_from rows =
    consolidate_with (first_of (codes "object") rows) (first_of (codes "out") rows) (unwrap_or (all_of (codes "trace") rows) [])

-- what the words ask for, of which the first is `consolidate`
unfoldable pub consolidate_of : List Text → Option Task
consolidate_of words = option_and_then consolidate_from (given consolidate_app words)

-- ---- the commands

-- what the words ask for, of which the first is this name
abbrev pub named : Text → List Text → Option Task
named name words =
    if bytes_eq name (codes "compile") then compile_of words
    else if bytes_eq name (codes "run") then run_of words
    else if bytes_eq name (codes "coverage") then coverage_of words
    else if bytes_eq name (codes "consolidate") then consolidate_of words
    else None

-- what the words after the program's name ask for
abbrev pub asked : List Text → Option Task
asked [] = None
asked (name ∷ words) = named name (name ∷ words)

-- what the words ask for; none where they are no command
abbrev pub task_of : List Text → Option Task
task_of [] = None
task_of (program ∷ words) = if list_all is_short words then asked words else None

-- these are names of sources: 1 to 64, each of at most 4096 bytes
pub record AreSources (names : List Text) : Type 0 where
  pub some : 1 ≤ length names
  pub few : length names ≤ 64
  pub short : AllByRecursion (λ name. length name ≤ 4096) names

-- a task's names and numbers are within their limits
abbrev pub IsWithinLimits : Task → Type 0
IsWithinLimits (Compile main object sources) = AreSources sources
IsWithinLimits (Run input budget trace object) = (1 ≤ budget) × (budget < 2 ^ 32)
IsWithinLimits (Coverage level annotation object traces) = length traces ≤ 4096
IsWithinLimits (Consolidate object out traces) = length traces ≤ 4096
