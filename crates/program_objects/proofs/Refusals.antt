-- Sources that are a legal program are not refused.
use Rattle.std.proofs.Common.{◌≡◌, ℕ, List, ◌++◌, Option, Some, None, Result, Ok, Err, refl, sym, ap, ◌∙◌, subst}
use Rattle.std.specs.Str.{str_to_ascii_lowercase}
use Rattle.ada_lexer.specs.declared.token.Token.{Token}
use Rattle.ada_meaning.specs.Program.{Program}
use Rattle.ada_parser.proofs.FileLaws.{file_unique}
use Rattle.ada_syntax.specs.declared.unit.Unit.{Unit as LibraryUnit}
use Rattle.ada_rules.specs.Legal as rules
use Rattle.ada_rules.specs.Legal.{unnamed, mistyped, legal}
use Rattle.program_objects.specs.Exemptions.{pragmas_of, exempt_regions}
use Rattle.program_objects.specs.Legal.{entries_for, AreProgram, IsLegal, BreakRules, breaks_names, breaks_types, PassLimits, passes_a_limit, has_too_many_instances, has_too_many_nodes, AreRefused, no_units, broken_rules, unpaired_pragma, passed_limits}
use Rattle.cov_base.specs.declared.obligations.SourceFile.{SourceFile}
use Rattle.generic_expand.specs.Expanded.{past_instances, first_past}
use Rattle.ada_parser.specs.Opening.{open_extent}
use Rattle.program_objects.specs.Units.{all_tokens, first_nested, first_too_large, AreUnits, no_file, file_then, BreaksGrammar, here, behind, HaveTokens, HaveUnits, HaveNoUnits, too_large, without_tokens, too_deep, without_units}
use Rattle.program_objects.specs.declared.fault.SourceFault.{SourceFault}

none_some : {X : Type 0} (o : Option X) (x : X) → o ≡ None → o ≡ Some x → ⊥
none_some o x none some = let found : None ≡ Some x = sym none ∙ some in let y : ⊥ = cc found in y

err_ok : {X Y : Type 0} (r : Result X Y) (y : Y) (x : X) → r ≡ Err y → r ≡ Ok x → ⊥
err_ok r y x err ok = let found : Err y ≡ Ok x = sym err ∙ ok in let z : ⊥ = cc found in z

one_ok : {X Y : Type 0} (r : Result X Y) (x y : X) → r ≡ Ok x → r ≡ Ok y → x ≡ y
one_ok r x y first second = let same : Ok x ≡ Ok y = sym first ∙ second in cc same

-- tokens have one list of units
one_list : {lists : List (List Token)} {units others : List LibraryUnit} → AreUnits lists units → AreUnits lists others → units ≡ others
one_list no_file no_file = refl
one_list (file_then {units = mine} {more = later} is rest) (file_then {units = yours} other left) =
    ap (λ us. us ++ later) (file_unique open_extent is other) ∙ ap (λ us. yours ++ us) (one_list rest left)

-- tokens with units break no rule of the grammar
derived : {lists : List (List Token)} {units : List LibraryUnit} {n : ℕ} {fault : SourceFault} → AreUnits lists units → BreaksGrammar n lists fault → ⊥
derived no_file breaks = elim breaks [ ]
derived (file_then {units = units} is rest) (here refused) = refused.none units is
derived (file_then is rest) (behind other later) = derived rest later

-- sources have one list of tokens
one_tokens : (files : List SourceFile) (some others : List (List Token)) → HaveTokens files some → HaveTokens files others → some ≡ others
one_tokens files some others have also = one_ok (all_tokens 0 files) some others have.tokens also.tokens

-- and one list of units
pub one_program : (files : List SourceFile) (units others : List LibraryUnit) → HaveUnits files units → HaveUnits files others → units ≡ others
one_program files units others have also =
    one_list have.parsed (subst (λ lists. AreUnits lists others) (one_tokens files also.tokens have.tokens also.flat have.flat) also.parsed)

-- sources with units don't have none
have_units : (files : List SourceFile) (units : List LibraryUnit) (fault : SourceFault) → HaveUnits files units → HaveNoUnits files fault → ⊥
have_units files units _ have (too_large {n} large) = none_some (first_too_large 0 files) n have.flat.sizes large
have_units files units _ have (without_tokens {fault} fits wrong) = err_ok (all_tokens 0 files) fault have.tokens wrong have.flat.tokens
have_units files units _ have (too_deep {tokens} {pos} fits same deep) =
    none_some (first_nested have.tokens) pos have.flat.flat (ap first_nested (one_ok (all_tokens 0 files) have.tokens tokens have.flat.tokens same) ∙ deep)
have_units files units fault have (without_units {tokens} flat breaks) =
    derived have.parsed (subst (λ lists. BreaksGrammar 0 lists fault) (one_tokens files tokens have.tokens flat have.flat) breaks)

-- units that are a program within the limits break no rule and pass no limit
no_broken_rule : (us : List LibraryUnit) (main : List ℕ) (p : Program) (fault : SourceFault) → AreProgram us main p → BreakRules us main fault → ⊥
no_broken_rule us main p _ h (breaks_names {pos} is offends) = let e : unnamed pos ≡ legal p = sym is ∙ h.legal in let x : ⊥ = cc e in x
no_broken_rule us main p _ h (breaks_types {pos} is offends) = let e : mistyped pos ≡ legal p = sym is ∙ h.legal in let x : ⊥ = cc e in x

no_limit_passed : (us : List LibraryUnit) (main : List ℕ) (p : Program) (fault : SourceFault) → AreProgram us main p → PassLimits us main fault → ⊥
no_limit_passed us main p _ h (passes_a_limit {pos} is passed) = let e : rules.too_large pos ≡ legal p = sym is ∙ h.legal in let x : ⊥ = cc e in x
no_limit_passed us main p _ h (has_too_many_instances {pos = pos} is past) = none_some (past_instances 0 (entries_for us main)) pos h.few_instances past
no_limit_passed us main p _ h (has_too_many_nodes {pos = pos} is few past) = none_some (first_past 0 (entries_for us main)) pos h.few past

pub not_refused : (files : List SourceFile) (main : List ℕ) (p : Program) (fault : SourceFault) → IsLegal files main p → AreRefused files main fault → ⊥
not_refused files main p fault h (no_units none) = have_units files h.units fault h.parsed none
not_refused files main p fault h (broken_rules {units} have broken) =
    no_broken_rule h.units (str_to_ascii_lowercase main) p fault h.program
    (subst (λ us. BreakRules us (str_to_ascii_lowercase main) fault) (one_program files units h.units have h.parsed) broken)
not_refused files main p _ h (unpaired_pragma {unpaired = unpaired} have passed pairs) = err_ok (pragmas_of files) unpaired (exempt_regions files) pairs h.exemptions
not_refused files main p fault h (passed_limits {units} have paired passed) =
    no_limit_passed h.units (str_to_ascii_lowercase main) p fault h.program
    (subst (λ us. PassLimits us (str_to_ascii_lowercase main) fault) (one_program files units h.units have h.parsed) passed)
