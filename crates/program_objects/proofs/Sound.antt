-- An object that is made of a program passes the checks of objects.
use Rattle.std.proofs.Common.{◌≡◌, ◌≢◌, ℕ, ◌+◌, ◌*◌, ◌^◌, ◌≤◌, ◌<◌, ◌&&◌, Bool, true, false, nat_lt, nat_le, List, [], ◌∷◌, ◌++◌, length, map, AllPairs, refl, sym, ap, ◌∙◌, subst, arith, lit≤, length-append}
use Rattle.std.specs.List.{list_all, AllByRecursion}
use Rattle.std.specs.Str.{is_utf8}
use Rattle.std.proofs.lemmas.Bool.Decides.{nat_tests}
use Rattle.std.proofs.lemmas.List.{length-map}
use Rattle.std.proofs.lemmas.List.Elements.{All-from_recursion}
use Rattle.std.proofs.lemmas.Str.{IsUtf8-from_ascii, is_utf8-from_IsUtf8}
use Rattle.ada_meaning.specs.Collected.{labels_of, decisions_of}
use Rattle.ada_meaning.specs.Obligations.{predefined_names, ordered_labels, statement_entry, decision_entry, instance_entry}
use Rattle.ada_meaning.specs.Program.{Program}
use Rattle.program_objects.proofs.Conditions.{conditions_held}
use Rattle.program_objects.proofs.DecisionEntries.{are_expressions}
use Rattle.program_objects.proofs.Found.{HaveConditions, starts_differ, starts_known, found_law}
use Rattle.program_objects.proofs.Placing.{placed_law, text_bound}
use Rattle.program_objects.proofs.Roles.{roles_few, held_are_roles, held_passes}
use Rattle.program_objects.proofs.RowStarts.{named, starts_held, rows_in_range, rows_few}
use Rattle.program_objects.specs.Made.{exceptions_in, IsExceptionName, IsCompilable, IsMadeOf}
use Rattle.cov_base.specs.Lists.{Everywhere}
use Rattle.kernel_code.proofs.PieceLaws.{pieces_are_marked}
use Rattle.kernel_code.specs.Pieces.{kernel_pieces}
use Rattle.kernel_ir.specs.Obligations.{rows, conditions}
use Rattle.line_table.specs.declared.rows.Row.{Row as TableRow}
use Rattle.linker.proofs.RowMarks.{rows_are_in_order}
use Rattle.linker.specs.Linked.{linked}
use Rattle.statement_code.proofs.Own.{once_law}
use Rattle.statement_code.specs.Own.{MarksOnce}
use Rattle.object_format.specs.Checked.{IsSound}
use Rattle.object_format.specs.Counts.{IsCountable, AreCountable, IsCounted}
use Rattle.object_format.specs.Decisions.{AreExpression}
use Rattle.object_format.specs.Fields.{is_placed, are_files, are_exceptions, are_obliged, is_row, is_role, passes_field}
use Rattle.object_format.specs.Read.{HasObject}
use Rattle.object_format.specs.RoleCheck.{conditions_of, PassesRole}
use Rattle.object_format.specs.RowCheck.{is_in, PassesRow}
use Rattle.object_format.specs.declared.object.FileEntry.{FileEntry}
use Rattle.object_format.specs.declared.object.Object.{Object}
use Rattle.spelling.specs.Checks.{rising}

both_hold : (a b : Bool) → a ≡ true → b ≡ true → (a && b) ≡ true
both_hold a b p q = rw (p, q) refl

left_holds : (a b : Bool) → (a && b) ≡ true → a ≡ true
left_holds true b both = refl
left_holds false b both = both

right_holds : (a b : Bool) → (a && b) ≡ true → b ≡ true
right_holds true b both = both
right_holds false b both = absurd (let x : ⊥ = cc in x)

-- names of exceptions

names_are_utf8 : (names : List (List ℕ)) → Everywhere IsExceptionName names → list_all is_utf8 names ≡ true
names_are_utf8 [] named = refl
names_are_utf8 (n ∷ ns) named = both_hold (is_utf8 n) (list_all is_utf8 ns) (is_utf8-from_IsUtf8 n (IsUtf8-from_ascii n named.0.ascii)) (names_are_utf8 ns named.1)

names_are_exceptions : (names : List (List ℕ)) → Everywhere IsExceptionName names → length names ≤ 4096 → are_exceptions (predefined_names ++ names) ≡ true
names_are_exceptions names named few =
    both_hold (nat_le (length names) 4294967290) (list_all is_utf8 names) (grind (arith, nat_tests)) (names_are_utf8 names named)

few_files : (files : List FileEntry) → are_files files ≡ true → length files ≤ 64
few_files files are =
    let front = left_holds (nat_lt 0 (length files) && nat_le (length files) 64) _ are in
    let few = right_holds (nat_lt 0 (length files)) (nat_le (length files) 64) front in
    at_most (length files) few
  where
    at_most : (n : ℕ) → nat_le n 64 ≡ true → n ≤ 64
    at_most n few = grind (arith, nat_tests)

-- how many statements and instances it lists, and which decisions

statements_long : (p : Program) (o : Object) → IsCompilable p → IsMadeOf p o → length o.obligations.statements ≡ length (labels_of p.subprograms)
statements_long p o able made = ap (λ ob. length ob.statements) made.obligations ∙ (length-map (ordered_labels p) statement_entry ∙ ap length able.in_order)

instances_long : (p : Program) (o : Object) → IsMadeOf p o → length o.obligations.instances ≡ 1 + length p.instances
instances_long p o made = ap (λ ob. length ob.instances) made.obligations ∙ omega (arith, length-map p.instances instance_entry)

pub decisions_are : (p : Program) (o : Object) → IsCompilable p → IsMadeOf p o → o.obligations.decisions ≡ map decision_entry (decisions_of p.subprograms)
decisions_are p o able made = ap (λ ob. ob.decisions) made.obligations ∙ ap (map decision_entry) able.decisions_in_order

-- what marks its kernel has, each once

marks_once : (p : Program) (o : Object) → IsCompilable p → (made : IsMadeOf p o) → MarksOnce p (rows made.kernel) (conditions made.kernel)
marks_once p o able made = once_law p able.numbered (rows made.kernel) (conditions made.kernel) made.is_kernel.rows made.is_kernel.conditions

-- the conditions that its roles have
roles_found : (p : Program) (o : Object) → IsCompilable p → IsMadeOf p o
    → HaveConditions (map decision_entry (decisions_of p.subprograms)) (1 + length p.instances) (conditions_of o.roles)
roles_found p o able made =
    let k = made.kernel in
    subst (HaveConditions (map decision_entry (decisions_of p.subprograms)) (1 + length p.instances)) (sym (conditions_held k o made.holds))
    (found_law p able (rows k) (conditions k) (marks_once p o able made))

-- the four checks

obliged_law : (p : Program) (o : Object) → IsCompilable p → IsMadeOf p o → are_obliged (length o.files) o.obligations ≡ true
obliged_law p o able made =
    let exceptions : are_exceptions o.obligations.exceptions ≡ true =
    ap (λ ob. are_exceptions ob.exceptions) made.obligations ∙ names_are_exceptions (exceptions_in p) able.exceptions able.few_exceptions in
    both_hold _ _ (both_hold _ _ (both_hold _ _ (both_hold _ _ made.instances exceptions) made.statements) made.decisions) made.regions.placed

field_law : (p : Program) (o : Object) → IsCompilable p → IsMadeOf p o → passes_field o ≡ true
field_law p o able made =
    let k = made.kernel in
    let statements = statements_long p o able made in
    let instances = instances_long p o made in
    let decisions = decisions_are p o able made in
    let rows_pass : list_all (is_row (length o.obligations.statements) (length o.obligations.instances)) o.rows ≡ true =
    (λ i. list_all (is_row (statements i) (instances i)) o.rows)
    ∙ rows_in_range (length (labels_of p.subprograms)) (1 + length p.instances) o.rows (map named (rows k)) (starts_held k o made.holds)
    (starts_known p able (rows k) (conditions k) (marks_once p o able made)) in
    let roles_pass : list_all (is_role o.obligations.decisions (length o.obligations.instances)) o.roles ≡ true =
    (λ i. list_all (is_role (decisions i) (instances i)) o.roles)
    ∙ held_are_roles (map decision_entry (decisions_of p.subprograms)) (1 + length p.instances) k o made.holds (roles_found p o able made) in
    both_hold _ _ (both_hold _ _ (both_hold _ _ (both_hold (is_placed o) (are_files o.files) (placed_law p made.nodes made.kernel o able made.is_kernel made.holds) made.files)
    (obliged_law p o able made)) rows_pass) roles_pass

row_law : (p : Program) (o : Object) → IsCompilable p → IsMadeOf p o → PassesRow o
row_law p o able made =
    let pieces = kernel_pieces made.kernel in
    let ordered = rows_are_in_order pieces made.kernel.library (pieces_are_marked made.kernel).marks in
    record {
      placed = ap (λ text. list_all (is_in text) o.rows) made.holds.text ∙ (ap (list_all (is_in (linked pieces made.kernel.library).text)) made.holds.rows ∙ ordered.0);
      rising = ap (rising (λ (one next : TableRow). nat_lt one.address next.address)) made.holds.rows ∙ ordered.1;
      once = subst (λ starts. AllPairs (λ one next. one ≢ next) starts) (sym (starts_held made.kernel o made.holds))
          (starts_differ p able (rows made.kernel) (conditions made.kernel) (marks_once p o able made));
    }

pub role_law : (p : Program) (o : Object) → IsCompilable p → IsMadeOf p o → PassesRole o
role_law p o able made =
    held_passes (map decision_entry (decisions_of p.subprograms)) (1 + length p.instances) made.kernel o made.holds (roles_found p o able made) (decisions_are p o able made)

sound_law : (p : Program) (o : Object) → IsCompilable p → IsMadeOf p o → IsSound o
sound_law p o able made = record {
  field = field_law p o able made;
  decision = subst (AllByRecursion (λ d. AreExpression d.expression.postfix (length d.conditions))) (sym (decisions_are p o able made))
      (are_expressions (decisions_of p.subprograms) able.few_conditions able.once);
  row = row_law p o able made;
  role = role_law p o able made;
}

-- the counts

text_few : (p : Program) (o : Object) (made : IsMadeOf p o) → 4 * length o.text ≤ 240 * 4096 + 4096
text_few p o made = let few = made.is_kernel.few in omega (arith, text_bound p made.nodes made.kernel o made.is_kernel made.holds, few)

names_short : (names : List (List ℕ)) → Everywhere IsExceptionName names → AllByRecursion IsCountable names
names_short [] named = tt
names_short (n ∷ ns) named = (named.0.short, names_short ns named.1)

names_counted : (names : List (List ℕ)) → Everywhere IsExceptionName names → length names ≤ 4096 → AreCountable IsCountable (predefined_names ++ names)
names_counted names named few =
    (omega (arith, few, length-append predefined_names names), All-from_recursion IsCountable (predefined_names ++ names) (lit≤ tt, (lit≤ tt, (lit≤ tt, (lit≤ tt, names_short names named)))))

counted_law : (p : Program) (o : Object) → IsCompilable p → IsMadeOf p o → IsCounted o
counted_law p o able made =
    let labelled = able.few_statements in
    let decided = able.few_decisions in
    let row = row_law p o able made in
    record {
      text = omega (arith, text_few p o made);
      init = let within = made.is_kernel.within.library in subst (λ (words : List ℕ). length words < 2 ^ 32) (sym made.holds.init) (omega (arith, within));
      files = (omega (arith, few_files o.files made.files), made.names);
      instances = made.instance_names;
      exceptions = subst (λ ob. AreCountable IsCountable ob.exceptions) (sym made.obligations) (names_counted (exceptions_in p) able.exceptions able.few_exceptions);
      statements = omega (arith, statements_long p o able made, labelled);
      decisions = omega (arith, ap length (decisions_are p o able made), length-map (decisions_of p.subprograms) decision_entry, decided);
      regions = let few = made.regions.few in (omega (arith, few, few_files o.files made.files), made.regions.short);
      rows = omega (arith, rows_few o.text o.rows row.placed row.rising, text_few p o made);
      roles = omega (arith, roles_few o (role_law p o able made), text_few p o made);
    }

pub made_law : (p : Program) (o : Object) → IsCompilable p → IsMadeOf p o → HasObject o
made_law p o able made = record { sound = sound_law p o able made; counted = counted_law p o able made }
