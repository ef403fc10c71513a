-- What reading an object answers.
use Rattle.std.proofs.Common.{◌≡◌, inl, inr, ℕ, List, Result, Ok, Err, IfOk, IfErr, OnOk, sym, ap, subst, ◌∙◌, true≢false}
use Rattle.std.specs.Result.{result_and}
use Rattle.cov_base.specs.declared.failure.Failure.{Failure}
use Rattle.cov_base.specs.declared.failure.Failure.TheVariants.{Fault, WantOfMemory}
use Rattle.object_format.specs.declared.fault.ObjectFault.{ObjectFault}
use Rattle.object_format.specs.declared.fault.ObjectFault.TheVariants.{Short, Magic, Version, Long, Damaged, Field, Decision, Row, Role}
use Rattle.object_format.specs.declared.object.Object.{Object}
use Rattle.object_format.specs.Checked.{IsSound, FailsFirst, IsRefusal}
use Rattle.object_format.specs.Fields.{passes_field}
use Rattle.object_format.specs.File.{object_bytes, structured}
use Rattle.object_format.specs.Read.{IsObject, IsFailure}
use Rattle.object_format.proofs.FileLaws.{structured_found, structured_only}
use Rattle.spelling.specs.Laws.{IsBytes}
use Rattle.spelling.specs.Outcome.{Delivers}

-- a sound object fails no check
sound_passes : (o : Object) (f : ObjectFault) → IsSound o → FailsFirst (passes_field o) o f → ⊥
sound_passes o Field s h = true≢false (sym s.field ∙ h)
sound_passes o Decision s h = h.1 s.decision
sound_passes o Row s h = h.2 s.row
sound_passes o Role s h = h.3 s.role
sound_passes o Short s h = h
sound_passes o Magic s h = h
sound_passes o Version s h = h
sound_passes o Long s h = h
sound_passes o Damaged s h = h

abbrev fine : Object → Result Object ObjectFault
fine o = Ok o

abbrev bad_one : ObjectFault → Result Object ObjectFault
bad_one f = Err f

fine_is : (a b : Object) → fine a ≡ fine b → a ≡ b
fine_is a b e = cc

apart : (o : Object) (f : ObjectFault) → fine o ≡ bad_one f → ⊥
apart o f e = cc

-- what is read is an object
pub found : (bytes : List ℕ) (r : Result Object (Failure ObjectFault)) → IsBytes bytes → IfOk r (λ o. (structured bytes ≡ Ok o) × IsSound o)
    → IfOk r (λ o. IsObject o × (bytes ≡ object_bytes o))
found bytes (Ok o) are h = let is = structured_found bytes o are h.0 in (record { closed = is.0; sound = h.1 }, is.1)
found bytes (Err failure) are h = tt

pub read_as : (bytes : List ℕ) (r : Result Object (Failure ObjectFault)) → IfOk r (λ o. (structured bytes ≡ Ok o) × IsSound o) → IfOk r (λ o. structured bytes ≡ Ok o)
read_as bytes (Ok o) h = h.0
read_as bytes (Err failure) h = tt

-- the file of an object is read as it
pub delivered : (bytes : List ℕ) (r : Result Object (Failure ObjectFault)) → IfOk r (λ o. structured bytes ≡ Ok o) → IfErr r (IsFailure bytes)
    → (o : Object) → IsObject o → bytes ≡ object_bytes o → Delivers (λ o. o) r (Ok o)
delivered bytes (Ok given) read failed o is e = sym (ap structured e ∙ structured_only o is.closed) ∙ read
delivered bytes (Err WantOfMemory) read failed o is e = tt
delivered bytes (Err (Fault f)) read failed o is e =
    let there : structured bytes ≡ Ok o = ap structured e ∙ structured_only o is.closed in
    elim failed [
      | inl layer ↦ absurd (apart o f (sym there ∙ layer))
      | inr check ↦
          let same = fine_is check.0 o (sym check.1 ∙ there) in
          absurd (sound_passes o f is.sound (subst (λ p. FailsFirst (passes_field p) p f) same check.2))
    ]

-- ---- at the exits

pub check_fails : (bytes : List ℕ) (o : Object) (failure : Failure ObjectFault) → structured bytes ≡ Ok o → IsRefusal o failure → IsFailure bytes failure
check_fails bytes o (Fault f) there h = inr (o, there, h)
check_fails bytes o WantOfMemory there h = tt

-- ---- an object that is kept where a test passes

abbrev taken : Object → Result Object (Failure ObjectFault)
taken o = Ok o

pub kept : {X : Type 0} (P : Object → Type 0) (test : Result X (Failure ObjectFault)) (o : Object) (r : Result Object (Failure ObjectFault))
    → r ≡ result_and test (taken o) → OnOk test (P o) → IfOk r P
kept P (Ok x) o r e h = subst (λ q. IfOk q P) (sym e) h
kept P (Err failure) o r e h = subst (λ q. IfOk q P) (sym e) tt

pub not_kept : {X : Type 0} (Q : Failure ObjectFault → Type 0) (test : Result X (Failure ObjectFault)) (o : Object) (r : Result Object (Failure ObjectFault))
    → r ≡ result_and test (taken o) → IfErr test Q → IfErr r Q
not_kept Q (Ok x) o r e h = subst (λ q. IfErr q Q) (sym e) tt
not_kept Q (Err failure) o r e h = subst (λ q. IfErr q Q) (sym e) h
