-- What the layers ask of an object, from what is known of it.
use Rattle.std.proofs.Common.{◌≡◌, ℕ, ◌≤◌, ◌++◌, IsTrue, IsUtf8, List, [], ◌∷◌, length, All, inl, inr, ap, ◌∙◌, arith}
use Rattle.std.proofs.lemmas.Bool.{and_parts}
use Rattle.std.proofs.lemmas.List.Elements.{All-nil, All-cons, All-append}
use Rattle.std.specs.Str.{is_utf8}
use Rattle.std.proofs.lemmas.Str.{is_utf8-from_IsUtf8}
use Rattle.commands.specs.Content.{RefusesSources}
use Rattle.commands.specs.declared.status.Status.{Status}
use Rattle.commands.specs.Failures.{source_status}
use Rattle.commands.specs.Reading.{UnlessMemory}
use Rattle.program_objects.specs.Built.{HasPlainName}
use Rattle.program_objects.specs.declared.fault.SourceFault.{SourceFault}
use Rattle.program_objects.specs.Legal.{RefusesFor}
use Rattle.cov_base.specs.declared.failure.Failure.{Failure}
use Rattle.cov_base.specs.declared.failure.Failure.TheVariants.{Fault}
use Rattle.cov_base.specs.declared.failure.Failure.TheVariants as failures
use Rattle.cov_base.specs.declared.obligations.SourceFile.{SourceFile}
use Rattle.object_format.specs.declared.object.Object.{Object}
use Rattle.object_format.specs.Fields.{is_placed}
use Rattle.object_format.specs.Read.{IsObject}
use Rattle.decision_map.specs.Roles.{IsMappable}
use Rattle.decision_map.proofs.Sound.{mappable}

-- an object that was checked has what a map needs
pub has_map : (o : Object) → IsObject o → IsMappable o
has_map o is = mappable o is.sound.field is.sound.decision is.sound.role

-- its text is limited
pub few_words : (o : Object) → IsObject o → length o.text ≤ 4194304
few_words o is = (has_map o is).few

-- its text, its entry and its data lie where they may
pub placed : (o : Object) → IsObject o → IsTrue (is_placed o)
placed o is = (and_parts _ _ (and_parts _ _ (and_parts _ _ (and_parts _ _ is.sound.field).0).0).0).0

-- a source with a name that a command has can be named by an object
pub plain_name : (source : SourceFile) (name : List ℕ) → source.name ≡ name → IsUtf8 name → length name ≤ 4096 → HasPlainName source
plain_name source name named text short =
    (ap is_utf8 named ∙ is_utf8-from_IsUtf8 name text, omega (arith, ap (λ (n : List ℕ). length n) named, short))

-- one more such source
pub one_more_plain : (sources more : List SourceFile) (source : SourceFile) → more ≡ sources ++ (source ∷ []) → All HasPlainName sources → HasPlainName source
    → All HasPlainName more
one_more_plain sources more source is plain one =
    rw is (All-append HasPlainName sources (source ∷ []) plain (All-cons HasPlainName source [] one (All-nil HasPlainName)))

-- ---- sources

-- why sources are refused, as a status
pub sources_refused : (main : List ℕ) (sources : List SourceFile) (failure : Failure SourceFault) (status : Status)
    → RefusesFor sources main failure → status ≡ source_status failure → UnlessMemory (RefusesSources main sources) status
sources_refused main sources (Fault fault) status refused is = inr (fault, refused, is)
sources_refused main sources failures.WantOfMemory status refused is = inl is
