use Rattle.std.proofs.Common.{◌≡◌, Bool, true, false, sym, refl}
use Rattle.std.specs.Str.{is_utf8}
use Rattle.std.proofs.lemmas.Str.{IsUtf8-from_is_utf8, is_utf8-from_IsUtf8}
use Rattle.object_format.proofs.checks.field.is_text.Goals as goal

not_text : (b : Bool) → (b ≡ true → ⊥) → false ≡ b
not_text false h = refl
not_text true h = absurd (h refl)

pub returns-in-Ok : goal.returns-in-Ok
returns-in-Ok c = sym (is_utf8-from_IsUtf8 c.args.bytes.now c.in-Ok.ensures.cases.1)

pub returns-in-Err : goal.returns-in-Err
returns-in-Err c = not_text (is_utf8 c.args.bytes.now) (λ e. c.in-Err.ensures.cases.0 (IsUtf8-from_is_utf8 c.args.bytes.now e))
