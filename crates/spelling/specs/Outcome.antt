-- What a reader answered, against what reading gives.
use Rattle.std.specs.Prelude.{◌≡◌, Option, Some, None, Result, Ok, Err}
use Rattle.cov_base.specs.declared.failure.Failure.{Failure}
use Rattle.cov_base.specs.declared.failure.Failure.TheVariants.{Fault, WantOfMemory}
use Rattle.spelling.specs.declared.fault.Short.{Short}

-- a reader that takes no memory answers, seen by the view, exactly what reading gives
abbrev pub Reads : {X Y : Type 0} → (X → Y) → Result X Short → Option Y → Type 0
Reads view (Ok x) read = read ≡ Some (view x)
Reads view (Err short) read = read ≡ None

-- a reader that failed met the end of the bytes, where memory wasn't refused
abbrev pub Misses : {Y : Type 0} → Failure Short → Option Y → Type 0
Misses (Fault short) read = read ≡ None
Misses WantOfMemory read = Unit {0}

-- a reader that takes memory answers so where it isn't refused
abbrev pub Gives : {X Y : Type 0} → (X → Y) → Result X (Failure Short) → Option Y → Type 0
Gives view (Ok x) read = read ≡ Some (view x)
Gives view (Err failure) read = Misses failure read

-- a check that takes no memory answers, seen by the view, exactly this
abbrev pub IsAnswer : {X Y F : Type 0} → (X → Y) → Result X F → Result Y F → Type 0
IsAnswer view (Ok x) answer = answer ≡ Ok (view x)
IsAnswer view (Err fault) answer = answer ≡ Err fault

-- a check that failed met this fault, where memory wasn't refused
abbrev pub Fails : {Y F : Type 0} → Failure F → Result Y F → Type 0
Fails (Fault fault) answer = answer ≡ Err fault
Fails WantOfMemory answer = Unit {0}

-- a check that takes memory answers so where it isn't refused
abbrev pub Delivers : {X Y F : Type 0} → (X → Y) → Result X (Failure F) → Result Y F → Type 0
Delivers view (Ok x) answer = answer ≡ Ok (view x)
Delivers view (Err failure) answer = Fails failure answer
