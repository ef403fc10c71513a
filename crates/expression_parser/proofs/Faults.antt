-- Faults that are handed on: where a part gets stuck, so does the whole, and want of memory stays that.
use Rattle.std.proofs.Common.{◌≡◌, false, Option, sym, subst}
use Rattle.std.specs.Prelude.{Result, Err}
use Rattle.ada_syntax.specs.Tree.{Name}
use Rattle.ada_syntax.specs.declared.expr.LogicalOperator.{LogicalOperator}
use Rattle.expression_parser.specs.declared.extent.Extent.{Extent}
use Rattle.expression_parser.specs.declared.fault.Fault.{Fault}
use Rattle.expression_parser.specs.declared.fault.Fault.TheVariants.{Syntax, Memory}
use Rattle.expression_parser.specs.declared.symbol.Symbol.{Symbol}
use Rattle.expression_parser.specs.declared.symbol.Symbol.TheVariants as symbol
use Rattle.expression_parser.specs.Reading.{Tokens, Reading, Stuck, expect}
use Rattle.expression_parser.specs.Depth as at
use Rattle.expression_parser.specs.Operators.{FindsOperator, FindsJoint, HalfJoint, IsClosed}
use Rattle.expression_parser.specs.Extents.{opens}
use Rattle.expression_parser.specs.Shows.{IsOpen, Shows, ShowsAs, More, TakesWord, TakesIdentifier, NextSuffix}

abbrev pub failed : {A : Type 0} → Fault → Result A Fault
failed f = Err f

module _ {B : Type 0} (Q : Reading B → Type 0) where
  pub handed_on : {A : Type 0} (P : Reading A → Type 0) (f : Fault) → Shows P (failed f) → ((rest : Tokens) → P (Stuck rest) → Q (Stuck rest)) → Shows Q (failed f)
  handed_on P (Syntax rest) p h = h rest.now p
  handed_on P Memory p h = tt

  pub word_handed_on : (s : Symbol) (ts : Tokens) (f : Fault) → TakesWord s ts (failed f) → ((rest : Tokens) → expect s ts ≡ Stuck rest → Q (Stuck rest)) → Shows Q (failed f)
  word_handed_on s ts (Syntax rest) p h = h rest.now p
  word_handed_on s ts Memory p h = tt

-- a part of the grammar that is closed
pub closed_handed_on : {B : Type 0} (Q : Reading B → Type 0) (x needed : Extent) (ts : Tokens) (f : Fault) → IsOpen x needed ts (failed f) → (opens x needed ≡ false → Q (Stuck ts)) → Shows Q (failed f)
closed_handed_on Q x needed ts (Syntax rest) p h = subst (λ us. Q (Stuck us)) (sym p.1) (h p.0)
closed_handed_on Q x needed ts Memory p h = absurd p

-- the same of a whole that is seen by a view
module _ {A B : Type 0} (view : B → A) (Q : Reading A → Type 0) where
  pub shown_as : {C : Type 0} (P : Reading C → Type 0) (f : Fault) → Shows P (failed f) → ((rest : Tokens) → P (Stuck rest) → Q (Stuck rest)) → ShowsAs view Q (failed f)
  shown_as P (Syntax rest) p h = h rest.now p
  shown_as P Memory p h = tt

  pub operator_shown_as : {C : Type 0} (of : Symbol → Option C) (x needed : Extent) (ts : Tokens) (f : Fault) → FindsOperator of x needed ts (failed f) → ((rest : Tokens) → IsClosed of x needed ts rest → Q (Stuck rest)) → ShowsAs view Q (failed f)
  operator_shown_as of x needed ts (Syntax rest) p h = h rest.now p
  operator_shown_as of x needed ts Memory p h = tt

  pub joint_shown_as : (x : Extent) (op : LogicalOperator) (ts : Tokens) (f : Fault) → FindsJoint x op ts (failed f) → ((rest : Tokens) → HalfJoint x op ts rest → Q (Stuck rest)) → ShowsAs view Q (failed f)
  joint_shown_as x op ts (Syntax rest) p h = h rest.now p
  joint_shown_as x op ts Memory p h = tt

-- the same of a part of a name
module _ (x : Extent) (ts : Tokens) where
  pub suffix_identifier_fault : (us : Tokens) (f : Fault) → TakesIdentifier us (failed f) → ((rest : Tokens) → expect symbol.Identifier us ≡ Stuck rest → (n : Name) → More (at.suffix_turns x) ts n (Stuck rest)) → NextSuffix x ts (failed f)
  suffix_identifier_fault us (Syntax rest) p h = h rest.now p
  suffix_identifier_fault us Memory p h = tt
