-- What is read as an object is the file of its parts, and that file is read as the object.
use Rattle.std.proofs.Common.{◌≡◌, ℕ, List, Result, Ok, Err, refl, sym, ap, ◌∙◌, subst, arith}
use Rattle.std.specs.Prelude.{◌==◌, IfOk}
use Rattle.std.proofs.lemmas.Bool.{eqb-true}
use Rattle.std.proofs.lemmas.List.Elements.{All-from_recursion, All-weaker}
use Rattle.cov_base.specs.declared.failure.Failure.{Failure}
use Rattle.object_format.specs.declared.fault.ObjectFault.{ObjectFault}
use Rattle.object_format.specs.declared.object.Object.{Object}
use Rattle.object_format.specs.declared.parts.Parts.{Parts}
use Rattle.object_format.specs.Counts.{IsCountable, AreCountable, FileFits, InstanceFits, DecisionFits, RegionFits, HasFile}
use Rattle.object_format.specs.File.{magic, parts_of, with_digest, object_bytes, closed_object, HasSpelling, IsClosed, as_object, structured}
use Rattle.object_format.specs.Layout.{file_entry, instance_entry, decision_entry, region, segment, listed, obligations, to_cover, parts}
use Rattle.object_format.specs.LayoutLaws.{parts_ok}
use Rattle.spelling.specs.declared.fault.LayerFault.{LayerFault}
use Rattle.spelling.specs.Format.{Format, string, list_of}
use Rattle.spelling.specs.Laws.{IsBytes}
use Rattle.spelling.specs.Outcome.{Delivers}
use Rattle.spelling.specs.Layers.{File, file, single}
use Rattle.spelling.proofs.LayersLaws.{layers_took, file_only}

as_object_ok : (r : Result (File Parts) LayerFault) (o : Object) → as_object r ≡ Ok o → (f : File Parts) × (r ≡ Ok f) × (with_digest f.content f.closing ≡ o)
as_object_ok (Ok f) o e = (f, refl, cc)
as_object_ok (Err fault) o e = absurd cc

-- what is read is spelled so
pub structured_found : (bytes : List ℕ) (o : Object) → IsBytes bytes → structured bytes ≡ Ok o → IsClosed o × (bytes ≡ object_bytes o)
unfolding structured
structured_found bytes o are e =
    let a = as_object_ok (single magic 1 parts bytes) o e in
    let t = layers_took magic (λ v. v == 1) (λ _. parts) (λ _. parts_ok) bytes a.0 are a.1 in
    let version : a.0.version ≡ 1 = eqb-true a.0.version 1 t.0.version_known in
    let made : IsClosed (with_digest a.0.content a.0.closing) = record {
      spelled = t.0.fits;
      closing = t.0.closing ∙ rw version refl;
    } in
    subst (λ p. IsClosed p × (bytes ≡ object_bytes p)) a.2 (made, t.1 ∙ ap (λ v. file magic v parts a.0.content) version)

-- a file is read as its parts, closed by its digest
pub structured_again : (o : Object) → HasSpelling o → structured (object_bytes o) ≡ Ok (closed_object o)
unfolding structured
structured_again o fits = ap as_object (file_only magic 1 parts (parts_of o) refl (omega arith) parts_ok fits)

abbrev fine : Object → Result Object ObjectFault
fine o = Ok o

fine_is : (a b : Object) → fine a ≡ fine b → a ≡ b
fine_is a b e = cc

-- what is spelled so is read
pub structured_only : (o : Object) → IsClosed o → structured (object_bytes o) ≡ Ok o
structured_only o is = structured_again o is.spelled ∙ ap fine (ap (with_digest (parts_of o)) (sym is.closing))

-- parts that have a spelling are closed by the digest of their file
pub IsClosed-closed_object : (o : Object) → HasSpelling o → IsClosed (closed_object o)
IsClosed-closed_object o fits = record { spelled = fits; closing = refl }

-- objects of one file are one object
pub one_object : (a b : Object) → IsClosed a → IsClosed b → object_bytes a ≡ object_bytes b → a ≡ b
one_object a b a-is b-is e = fine_is a b (sym (structured_only a a-is) ∙ ap structured e ∙ structured_only b b-is)

-- ---- what has a spelling has a file

countable : {X : Type 0} (f : Format X) (Fits : X → Type 0) → ((x : X) → f.Fits x → Fits x) → (xs : List X) → (list_of f).Fits xs → AreCountable Fits xs
countable f Fits weaker xs fits = (fits.0, All-weaker f.Fits Fits weaker xs (All-from_recursion f.Fits xs fits.1.1))

pub HasFile-from_spelling : (o : Object) → HasSpelling o → HasFile o
unfolding parts segment listed obligations to_cover
HasFile-from_spelling o fits = record {
  text = fits.0.1.0;
  init = fits.1.0.1.0;
  files = countable file_entry FileFits (λ f h. h.0.0) o.files fits.1.1.0;
  obligations = record {
    instances = countable instance_entry InstanceFits (λ i h. h.0.0) o.obligations.instances fits.1.1.1.0.0;
    exceptions = countable string IsCountable (λ e h. h.0) o.obligations.exceptions fits.1.1.1.0.1.0;
    statements = fits.1.1.1.0.1.1.0.0;
    decisions = countable decision_entry DecisionFits (λ d h. (h.1.0.1, h.1.0.0)) o.obligations.decisions fits.1.1.1.0.1.1.1.0;
    regions = countable region RegionFits (λ r h. h.1.1.1.1.1.0) o.obligations.regions fits.1.1.1.0.1.1.1.1;
  };
  rows = fits.1.1.1.1.0.0;
  roles = fits.1.1.1.1.1.0;
}

-- ---- against what a call answered

pub delivers_found : (bytes : List ℕ) (result : Result Object (Failure ObjectFault)) → IsBytes bytes → Delivers (λ o. o) result (structured bytes) → IfOk result (λ o. IsClosed o × (bytes ≡ object_bytes o))
delivers_found bytes (Ok o) are e = structured_found bytes o are e
delivers_found bytes (Err failure) are e = tt
