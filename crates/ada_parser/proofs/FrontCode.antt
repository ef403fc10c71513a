-- How choices and optional parts are read of tokens that were split into the first one and the rest, answer by answer.
use Rattle.std.proofs.Common.{◌≡◌, ◌<◌, true, false, ◌∷◌, length, Some, None, sym, subst}
use Rattle.ada_lexer.specs.declared.token.Token.{Token}
use Rattle.ada_syntax.specs.Tree.{Expr, Name}
use Rattle.ada_syntax.specs.declared.statement.Choice.TheVariants as choice
use Rattle.ada_syntax.specs.declared.statement.ExceptionChoice.TheVariants as exception
use Rattle.expression_parser.specs.declared.symbol.Symbol.TheVariants as symbol
use Rattle.expression_parser.specs.declared.extent.Extent.{Extent}
use Rattle.expression_parser.specs.declared.extent.Extent.TheVariants.{Subprograms}
use Rattle.expression_parser.specs.declared.fault.Fault.{Fault}
use Rattle.expression_parser.specs.declared.fault.Fault.TheVariants.{Syntax, Memory}
use Rattle.expression_parser.specs.Symbols.{symbol_of}
use Rattle.expression_parser.specs.Extents.{opens}
use Rattle.expression_parser.specs.Reading.{Tokens, Reading, Got, Stuck}
use Rattle.expression_parser.specs.Depth as at
use Rattle.expression_parser.specs.Shows.{Shows, Reads, IsOpen, after}
use Rattle.expression_parser.proofs.Faults.{failed}
use Rattle.ada_parser.specs.StatementReading as read
use Rattle.ada_parser.proofs.SimpleCode.{choice_fail, choice_value, choice_range, choice_range_fail, exception_name, exception_fail, a_result, result_fail, result_closed, raised_name, raised_fail}

-- a part that is not open
pub closed_on : {A : Type 0} (Q : Reading A → Type 0) (x needed : Extent) (ts : Tokens) (f : Fault) → IsOpen x needed ts (failed f) → (opens x needed ≡ false → Q (Stuck ts)) → Shows Q (failed f)
closed_on Q x needed ts (Syntax rest) p h = subst (λ us. Q (Stuck us)) (sym p.1) (h p.0)
closed_on Q x needed ts Memory p h = absurd p

module _ (x : Extent) (ts us : Tokens) (t : Token) (front : ts ≡ t ∷ us) where
  module _ (off : symbol_of t.lexeme ≡ symbol.Others → ⊥) where
    pub choice_fails : (rest : Tokens) → Reads (at.at_simple x) ts (Stuck rest) → Reads (read.choice_by x) ts (Stuck rest)
    choice_fails rest = subst (λ zs. Reads (at.at_simple x) zs (Stuck rest) → Reads (read.choice_by x) zs (Stuck rest)) (sym front) (choice_fail x t us rest off)

    pub value_chosen : (rest : Tokens) (a : Expr) → Reads (at.at_simple x) ts (Got a rest) → length rest < length ts → after symbol.DoubleDot rest ≡ None → Reads (read.choice_by x) ts (Got (choice.Value a) rest)
    value_chosen rest a =
        subst (λ zs. Reads (at.at_simple x) zs (Got a rest) → length rest < length zs → after symbol.DoubleDot rest ≡ None → Reads (read.choice_by x) zs (Got (choice.Value a) rest)) (sym front)
        (choice_value x t us rest a off)

    pub range_chosen : (vs ws rest : Tokens) (a b : Expr) → Reads (at.at_simple x) ts (Got a vs) → length vs < length ts → after symbol.DoubleDot vs ≡ Some ws → Reads (at.at_simple x) ws (Got b rest)
        → length rest < length ws → Reads (read.choice_by x) ts (Got (choice.Range (record { low = a; high = b })) rest)
    range_chosen vs ws rest a b r l = subst (λ zs. Reads (at.at_simple x) zs (Got a vs) → length vs < length zs → after symbol.DoubleDot vs ≡ Some ws → Reads (at.at_simple x) ws (Got b rest)
        → length rest < length ws → Reads (read.choice_by x) zs (Got (choice.Range (record { low = a; high = b })) rest)) (sym front) (choice_range x t us vs ws rest a b off) r l

    pub range_fails : (vs ws rest : Tokens) (a : Expr) → Reads (at.at_simple x) ts (Got a vs) → length vs < length ts → after symbol.DoubleDot vs ≡ Some ws → Reads (at.at_simple x) ws (Stuck rest)
        → Reads (read.choice_by x) ts (Stuck rest)
    range_fails vs ws rest a = subst (λ zs. Reads (at.at_simple x) zs (Got a vs) → length vs < length zs → after symbol.DoubleDot vs ≡ Some ws → Reads (at.at_simple x) ws (Stuck rest)
        → Reads (read.choice_by x) zs (Stuck rest)) (sym front) (choice_range_fail x t us vs ws rest a off)

    pub exception_named : (rest : Tokens) (n : Name) → Reads (at.at_name x) ts (Got n rest) → length rest < length ts → Reads (read.exception_by x) ts (Got (exception.Named n) rest)
    exception_named rest n = subst (λ zs. Reads (at.at_name x) zs (Got n rest) → length rest < length zs → Reads (read.exception_by x) zs (Got (exception.Named n) rest)) (sym front) (exception_name x t us rest n off)

    pub exception_fails : (rest : Tokens) → Reads (at.at_name x) ts (Stuck rest) → Reads (read.exception_by x) ts (Stuck rest)
    exception_fails rest = subst (λ zs. Reads (at.at_name x) zs (Stuck rest) → Reads (read.exception_by x) zs (Stuck rest)) (sym front) (exception_fail x t us rest off)

  module _ (off : symbol_of t.lexeme ≡ symbol.Semicolon → ⊥) where
    pub value_closed : opens x Subprograms ≡ false → Reads (read.result_by x) ts (Stuck ts)
    value_closed o = subst (λ zs. Reads (read.result_by x) zs (Stuck zs)) (sym front) (result_closed x t us off o)

    pub value_fails : (rest : Tokens) → opens x Subprograms ≡ true → Reads (at.at_expr x) ts (Stuck rest) → Reads (read.result_by x) ts (Stuck rest)
    value_fails rest o = subst (λ zs. Reads (at.at_expr x) zs (Stuck rest) → Reads (read.result_by x) zs (Stuck rest)) (sym front) (result_fail x t us rest off o)

    pub value_given : (rest : Tokens) (e : Expr) → opens x Subprograms ≡ true → Reads (at.at_expr x) ts (Got e rest) → length rest < length ts → Reads (read.result_by x) ts (Got (Some e) rest)
    value_given rest e o = subst (λ zs. Reads (at.at_expr x) zs (Got e rest) → length rest < length zs → Reads (read.result_by x) zs (Got (Some e) rest)) (sym front) (a_result x t us rest e off o)

    pub name_raised : (rest : Tokens) (n : Name) → Reads (at.at_name x) ts (Got n rest) → length rest < length ts → Reads (read.raised_by x) ts (Got (Some n) rest)
    name_raised rest n = subst (λ zs. Reads (at.at_name x) zs (Got n rest) → length rest < length zs → Reads (read.raised_by x) zs (Got (Some n) rest)) (sym front) (raised_name x t us rest n off)

    pub raising_fails : (rest : Tokens) → Reads (at.at_name x) ts (Stuck rest) → Reads (read.raised_by x) ts (Stuck rest)
    raising_fails rest = subst (λ zs. Reads (at.at_name x) zs (Stuck rest) → Reads (read.raised_by x) zs (Stuck rest)) (sym front) (raised_fail x t us rest off)
