-- The parts of an object that passes the checks have room in its file.
use Rattle.std.proofs.Common.{◌≡◌, ℕ, ◌+◌, ◌*◌, ◌<◌, ◌≤◌, Bool, true, false, not, [], ◌∷◌, ◌++◌, length, subst, sym, arith}
use Rattle.std.proofs.lemmas.Bool.{and_parts, not-true}
use Rattle.std.proofs.lemmas.List.{length-append}
use Rattle.std.proofs.lemmas.List.Elements.{All-from_recursion, All-weaker}
use Rattle.cov_base.specs.Expr.{Expr, condition, negation, operator, size, operator_byte, postfix_from, postfix_of, is_negation, negates_once}
use Rattle.cov_base.specs.declared.obligations.DecEntry.{DecEntry}
use Rattle.object_format.specs.declared.object.Object.{Object}
use Rattle.object_format.specs.Checked.{IsSound}
use Rattle.object_format.specs.Counts.{DecisionFits, IsCounted, HasFile}
use Rattle.object_format.specs.Decisions.{AreExpression}
use Rattle.object_format.specs.File.{closed_object, HasSpelling}
use Rattle.object_format.specs.Read.{IsObject, HasObject}
use Rattle.object_format.proofs.FileLaws.{IsClosed-closed_object, HasFile-from_spelling}

-- what a negation adds
abbrev extra : Bool → ℕ
extra true = 1
extra false = 0

-- with n conditions there are less than n operators, and at most one negation in front of each part
bytes_fit : (e : Expr) (n : ℕ) → negates_once e ≡ true → length (postfix_from n e) + 3 ≤ 4 * size e + extra (is_negation e)
bytes_fit condition n once = omega arith
bytes_fit (negation e) n once =
    let parts = and_parts (not (is_negation e)) (negates_once e) once in
    let before = subst (λ b. length (postfix_from n e) + 3 ≤ 4 * size e + extra b) (not-true (is_negation e) parts.0) (bytes_fit e n parts.1) in
    omega (arith, length-append (postfix_from n e) (32 ∷ []), before)
bytes_fit (operator neutral left right) n once =
    let parts = and_parts (negates_once left) (negates_once right) once in
    let one = bytes_fit left n parts.0 in
    let two = bytes_fit right (n + size left) parts.1 in
    omega (
      arith,
      length-append (postfix_from n left) (postfix_from (n + size left) right ++ operator_byte neutral ∷ []),
      length-append (postfix_from (n + size left) right) (operator_byte neutral ∷ []),
      one,
      two,
      at_most_one (is_negation left),
      at_most_one (is_negation right),
    )
  where
    at_most_one : (b : Bool) → extra b ≤ 1
    at_most_one true = omega arith
    at_most_one false = omega arith

expression_fits : (d : DecEntry) → AreExpression d.expression.postfix (length d.conditions) → DecisionFits d
expression_fits d found =
    let e = found.0 in
    let fits = found.1.fits in
    let count = found.2 in
    let short : length (postfix_of e) < 256 = omega (arith, bytes_fit e 0 found.1.once, at_most_one (is_negation e)) in
    (subst (λ bytes. length bytes < 256) (sym found.1.spelled) short, omega arith)
  where
    at_most_one : (b : Bool) → extra b ≤ 1
    at_most_one true = omega arith
    at_most_one false = omega arith

-- of the checks only that of the decisions is needed
pub has_file : (o : Object) → HasObject o → HasFile o
has_file o h = let counted = h.counted in record {
  text = counted.text;
  init = counted.init;
  files = counted.files;
  obligations = record {
    instances = counted.instances;
    exceptions = counted.exceptions;
    statements = counted.statements;
    decisions = (
      counted.decisions,
      All-weaker (λ d. AreExpression d.expression.postfix (length d.conditions)) DecisionFits expression_fits o.obligations.decisions
          (All-from_recursion (λ d. AreExpression d.expression.postfix (length d.conditions)) o.obligations.decisions h.sound.decision),
    );
    regions = counted.regions;
  };
  rows = counted.rows;
  roles = counted.roles;
}

-- the checks don't look at the digest
pub sound_closed : (o : Object) → IsSound o → IsSound (closed_object o)
sound_closed o s = record { field = s.field; decision = s.decision; row = record { placed = s.row.placed; rising = s.row.rising; once = s.row.once }; role = record { branches = s.role.branches; single = s.role.single; whole = s.role.whole } }

-- what has a spelling and passes the checks is an object, once it has the digest of its file
pub closed_is_object : (o : Object) → IsSound o → HasSpelling o → IsObject (closed_object o)
closed_is_object o s fits = record { closed = IsClosed-closed_object o fits; sound = sound_closed o s }

-- what has a file is counted
counted_file : (o : Object) → HasFile o → IsCounted o
counted_file o h = record {
  text = h.text;
  init = h.init;
  files = h.files;
  instances = h.obligations.instances;
  exceptions = h.obligations.exceptions;
  statements = h.obligations.statements;
  decisions = h.obligations.decisions.0;
  regions = h.obligations.regions;
  rows = h.rows;
  roles = h.roles;
}

pub can_be_written : (o : Object) → IsObject o → HasObject o
can_be_written o is = record { sound = is.sound; counted = counted_file o (HasFile-from_spelling o is.closed.spelled) }
