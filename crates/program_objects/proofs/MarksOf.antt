-- Each statement of a program has its row, and each condition its branch, in every instance in which it stands.
use Rattle.std.proofs.Common.{◌≡◌, ℕ, ◌≤◌, ◌==◌, ◌&&◌, cond, Bool, true, false, nat_eq, List, [], ◌∷◌, filter, map, refl, sym, subst, arith, inl, inr}
use Rattle.std.proofs.lemmas.Bool.Decides.{nat_tests}
use Rattle.ada_meaning.specs.Obligations.{IsNumbered}
use Rattle.ada_meaning.specs.Program.{Program}
use Rattle.program_objects.proofs.Conditions.{conditions_held}
use Rattle.program_objects.proofs.Conditions.{named as named_condition}
use Rattle.program_objects.proofs.RowStarts.{named, starts_held}
use Rattle.program_objects.specs.Held.{HoldsImage}
use Rattle.program_objects.specs.Kernels.{IsKernelOf}
use Rattle.program_objects.specs.Source.{IsRowOf, IsRoleOf, HasItsMarks}
use Rattle.cov_base.specs.Lists.{Somewhere}
use Rattle.kernel_ir.specs.declared.kernel.Kernel.{Kernel}
use Rattle.kernel_ir.specs.Obligations.{Row as MarkedRow, Condition, rows, conditions}
use Rattle.line_table.specs.declared.roles.Role.{Role}
use Rattle.line_table.specs.declared.rows.Row.{Row}
use Rattle.object_format.specs.declared.object.Object.{Object}
use Rattle.object_format.specs.RoleCheck.{is_condition, conditions_of}
use Rattle.object_format.specs.RoleCheck.{condition_of as numbers_of}
use Rattle.object_format.specs.RowCheck.{start_of}
use Rattle.statement_code.proofs.Own.{some_weighs, weighs_some, equal_numbers, numbers_equal, once_law}
use Rattle.statement_code.specs.Own.{MarksOnce, one_if, is_row, row_times, condition_times}
use Rattle.statement_code.specs.Own.{is_condition as is_evaluated}

there_in_map : {X Y : Type 0} (P : Y → Type 0) (f : X → Y) (xs : List X) → Somewhere (λ x. P (f x)) xs → Somewhere P (map f xs)
there_in_map P f [] there = absurd there
there_in_map P f (x ∷ xs) (inl is) = inl is
there_in_map P f (x ∷ xs) (inr later) = inr (there_in_map P f xs later)

pub map_there : {X Y : Type 0} (P : Y → Type 0) (f : X → Y) (xs : List X) → Somewhere P (map f xs) → Somewhere (λ x. P (f x)) xs
map_there P f [] there = absurd there
map_there P f (x ∷ xs) (inl is) = inl is
map_there P f (x ∷ xs) (inr later) = inr (map_there P f xs later)

-- where both of two tests hold, as counts
both_count : (a b : Bool) → 1 ≤ one_if a → 1 ≤ one_if b → 1 ≤ one_if (a && b)
both_count true b first second = second
both_count false b first second = absurd (omega (arith, first))

first_counts : (a b : Bool) → 1 ≤ one_if (a && b) → 1 ≤ one_if a
first_counts true b both = omega arith
first_counts false b both = both

second_counts : (a b : Bool) → 1 ≤ one_if (a && b) → 1 ≤ one_if b
second_counts true b both = both
second_counts false b both = absurd (omega (arith, both))

-- rows

-- the two numbers of a start
abbrev IsStart : (statement instance : ℕ) → ℕ × ℕ → Type 0
IsStart statement instance start = (start.0 ≡ statement) × (start.1 ≡ instance)

row_is_start : (s i : ℕ) (r : MarkedRow) → 1 ≤ one_if (is_row i s r) → IsStart s i (named r)
row_is_start s i r counts = (
  equal_numbers r.statement.0 s (second_counts (nat_eq r.instance.0 i) (nat_eq r.statement.0 s) counts),
  equal_numbers r.instance.0 i (first_counts (nat_eq r.instance.0 i) (nat_eq r.statement.0 s) counts),
)

start_is_row : (s i : ℕ) (r : MarkedRow) → IsStart s i (named r) → 1 ≤ one_if (is_row i s r)
start_is_row s i r is =
    both_count (nat_eq r.instance.0 i) (nat_eq r.statement.0 s) (numbers_equal r.instance.0 i is.1) (numbers_equal r.statement.0 s is.0)

row_start : (s i : ℕ) (lines : List Row) → Somewhere (IsRowOf s i) lines → Somewhere (IsStart s i) (map start_of lines)
row_start s i lines there = there_in_map (IsStart s i) start_of lines there

start_row : (s i : ℕ) (lines : List Row) → Somewhere (IsStart s i) (map start_of lines) → Somewhere (IsRowOf s i) lines
start_row s i lines there = map_there (IsStart s i) start_of lines there

-- starts that are those of marked rows
row_counts : (s i : ℕ) (lines : List Row) (rs : List MarkedRow) → map start_of lines ≡ map named rs → Somewhere (IsRowOf s i) lines → 1 ≤ row_times i s rs
row_counts s i lines rs are there =
    weighs_some (λ r. one_if (is_row i s r)) (λ r. IsStart s i (named r)) (start_is_row s i) rs
    (map_there (IsStart s i) named rs (subst (λ ss. Somewhere (IsStart s i) ss) are (row_start s i lines there)))

counts_row : (s i : ℕ) (lines : List Row) (rs : List MarkedRow) → map start_of lines ≡ map named rs → 1 ≤ row_times i s rs → Somewhere (IsRowOf s i) lines
counts_row s i lines rs are counts =
    start_row s i lines
    (subst (λ ss. Somewhere (IsStart s i) ss) (sym are) (there_in_map (IsStart s i) named rs (some_weighs (λ r. one_if (is_row i s r)) (λ r. IsStart s i (named r)) (row_is_start s i) rs counts)))

-- conditions

abbrev IsCase : (decision condition instance : ℕ) → (ℕ × ℕ) × ℕ → Type 0
IsCase d c i found = (found.0.0 ≡ d) × (found.1 ≡ c) × (found.0.1 ≡ i)

condition_is_case : (d c i : ℕ) (x : Condition) → 1 ≤ one_if (is_evaluated i d c x) → IsCase d c i (named_condition x)
condition_is_case d c i x counts =
    let rest = second_counts (nat_eq x.instance.0 i) (nat_eq x.decision.0 d && nat_eq x.at_node c) counts in (
      equal_numbers x.decision.0 d (first_counts (nat_eq x.decision.0 d) (nat_eq x.at_node c) rest),
      equal_numbers x.at_node c (second_counts (nat_eq x.decision.0 d) (nat_eq x.at_node c) rest),
      equal_numbers x.instance.0 i (first_counts (nat_eq x.instance.0 i) (nat_eq x.decision.0 d && nat_eq x.at_node c) counts),
    )

case_is_condition : (d c i : ℕ) (x : Condition) → IsCase d c i (named_condition x) → 1 ≤ one_if (is_evaluated i d c x)
case_is_condition d c i x is =
    both_count (nat_eq x.instance.0 i) (nat_eq x.decision.0 d && nat_eq x.at_node c) (numbers_equal x.instance.0 i is.2)
    (both_count (nat_eq x.decision.0 d) (nat_eq x.at_node c) (numbers_equal x.decision.0 d is.0) (numbers_equal x.at_node c is.1))

kind_is : (n : ℕ) (b : Bool) → (n == 2) ≡ b → n ≡ 2 → b ≡ true
kind_is n true test is = refl
kind_is n false test is = grind (arith, nat_tests)

kind_was : (n : ℕ) → (n == 2) ≡ true → n ≡ 2
kind_was n test = grind (arith, nat_tests)

role_case : (d c i : ℕ) (roles : List Role) → Somewhere (IsRoleOf d c i) roles → Somewhere (IsCase d c i) (conditions_of roles)
role_case d c i [] there = absurd there
role_case d c i (role ∷ roles) there = by_test (is_condition role) refl there (role_case d c i roles)
  where
    by_test : (b : Bool) → is_condition role ≡ b → Somewhere (IsRoleOf d c i) (role ∷ roles)
        → (Somewhere (IsRoleOf d c i) roles → Somewhere (IsCase d c i) (conditions_of roles))
        → Somewhere (IsCase d c i) (map numbers_of (cond b (role ∷ filter is_condition roles) (filter is_condition roles)))
    by_test true test (inl is) rest = inl (is.1, is.2, is.3)
    by_test true test (inr later) rest = inr (rest later)
    by_test false test (inl is) rest = absurd (let x : ⊥ = cc (kind_is role.kind.0 false test is.0) in x)
    by_test false test (inr later) rest = rest later

case_role : (d c i : ℕ) (roles : List Role) → Somewhere (IsCase d c i) (conditions_of roles) → Somewhere (IsRoleOf d c i) roles
case_role d c i [] there = absurd there
case_role d c i (role ∷ roles) there = by_test (is_condition role) refl there (case_role d c i roles)
  where
    by_test : (b : Bool) → is_condition role ≡ b → Somewhere (IsCase d c i) (map numbers_of (cond b (role ∷ filter is_condition roles) (filter is_condition roles)))
        → (Somewhere (IsCase d c i) (conditions_of roles) → Somewhere (IsRoleOf d c i) roles) → Somewhere (IsRoleOf d c i) (role ∷ roles)
    by_test true test (inl is) rest = inl (kind_was role.kind.0 test, is.0, is.1, is.2)
    by_test true test (inr later) rest = inr (rest later)
    by_test false test later rest = inr (rest later)

-- conditions that are those that are marked
role_counts : (d c i : ℕ) (roles : List Role) (cs : List Condition) → conditions_of roles ≡ map named_condition cs → Somewhere (IsRoleOf d c i) roles → 1 ≤ condition_times i d c cs
role_counts d c i roles cs are there =
    weighs_some (λ x. one_if (is_evaluated i d c x)) (λ x. IsCase d c i (named_condition x)) (case_is_condition d c i) cs
    (map_there (IsCase d c i) named_condition cs (subst (λ found. Somewhere (IsCase d c i) found) are (role_case d c i roles there)))

counts_role : (d c i : ℕ) (roles : List Role) (cs : List Condition) → conditions_of roles ≡ map named_condition cs → 1 ≤ condition_times i d c cs → Somewhere (IsRoleOf d c i) roles
counts_role d c i roles cs are counts =
    case_role d c i roles
    (subst (λ found. Somewhere (IsCase d c i) found) (sym are)
    (there_in_map (IsCase d c i) named_condition cs (some_weighs (λ x. one_if (is_evaluated i d c x)) (λ x. IsCase d c i (named_condition x)) (condition_is_case d c i) cs counts)))

pub marks_law : (p : Program) (nodes : ℕ) (k : Kernel) (o : Object) → IsNumbered p → IsKernelOf p nodes k → HoldsImage k o → HasItsMarks p o
marks_law p nodes k o numbered is_kernel holds =
    let once : MarksOnce p (rows k) (conditions k) = once_law p numbered (rows k) (conditions k) is_kernel.rows is_kernel.conditions in
    let starts = starts_held k o holds in
    let found = conditions_held k o holds in
    record {
      rows = λ s i. (
        λ there. once.row_own i s (row_counts s i o.rows (rows k) starts there),
        λ stands. let one = once.row_once i s stands in counts_row s i o.rows (rows k) starts (omega (arith, one)),
      );
      roles = λ d c i. (
        λ there. once.condition_own i d c (role_counts d c i o.roles (conditions k) found there),
        λ stands. let one = once.condition_once i d c stands in counts_role d c i o.roles (conditions k) found (omega (arith, one)),
      );
    }
