-- The two laws of whole files: what is read is spelled so, and what is spelled so is read.
use Rattle.std.proofs.Common.{◌≡◌, ℕ, ◌-◌, ◌<◌, ◌≤◌, ◌^◌, Bool, true, false, cond, ltb, List, ◌++◌, length, take, drop, Option, Some, None, Result, Ok, Err, refl, sym, ap, subst, ◌∙◌, append_assoc, arith, bytes_eq}
use Rattle.std.specs.Prelude.{IfOk, ◌==◌}
use Rattle.std.proofs.lemmas.Bool.{ltb-false, le-ltb, eq-eqb, eqb-true}
use Rattle.std.proofs.lemmas.List.{take_at, drop_at, take-append-drop, length-append}
use Rattle.std.proofs.lemmas.Slice.Eq.{bytes_eq-Decides}
use Rattle.sha2.specs.Sha256.{sha256}
use Rattle.sha2.proofs.Facts256.{length-sha256}
use Rattle.cov_base.specs.declared.failure.Failure.{Failure}
use Rattle.spelling.specs.declared.fault.LayerFault.{LayerFault}
use Rattle.spelling.specs.declared.fault.LayerFault.TheVariants.{Short, Magic, Version, Long, Damaged}
use Rattle.spelling.specs.Format.{Format, word, read_word}
use Rattle.spelling.specs.Laws.{IsBytes, IsBytes-drop, IsFormat, Took, number_ok}
use Rattle.spelling.specs.Outcome.{Delivers}
use Rattle.spelling.specs.Layers.{◌>>=◌, or_short, File, sealed, unsealed, file, unsealed, IsFile, open_file, when, close_file, layers, single, of_version}

-- the value of a step that was answered
pub bind_ok : {A B : Type 0} (r : Result A LayerFault) (f : A → Result B LayerFault) (y : B) → (r >>= f) ≡ Ok y → (x : A) × (r ≡ Ok x) × (f x ≡ Ok y)
bind_ok (Ok x) f y e = (x, refl, e)
bind_ok (Err d) f y e = absurd cc

or_short_ok : {A : Type 0} (o : Option A) (x : A) → or_short o ≡ Ok x → o ≡ Some x
or_short_ok {A = A} (Some y) x e = let same : y ≡ x = cc in ap (λ (z : A). let o : Option A = Some z in o) same
or_short_ok None x e = absurd cc

-- a test that didn't fail, by which the checks go on
goes_on : {A : Type 0} (b : Bool) (fault : LayerFault) (next : Result A LayerFault) (x : A) → cond b (Err fault) next ≡ Ok x → (b ≡ false) × (next ≡ Ok x)
goes_on true fault next x e = absurd cc
goes_on false fault next x e = (refl, e)

holds : {A : Type 0} (b : Bool) (fault : LayerFault) (next : Result A LayerFault) (x : A) → cond b next (Err fault) ≡ Ok x → (b ≡ true) × (next ≡ Ok x)
holds true fault next x e = (refl, e)
holds false fault next x e = absurd cc

abbrev fine : {A : Type 0} → A → Result A LayerFault
fine x = Ok x

fine_is : {A : Type 0} (x y : A) → fine x ≡ fine y → x ≡ y
fine_is x y e = cc

-- what an opened file begins with
record Opened (magic bytes : List ℕ) (version : ℕ) (rest : List ℕ) : Type 0 where
  pub parts : bytes ≡ magic ++ (word version ++ rest)
  pub version_fits : version < 2 ^ 32
  pub rest_bytes : IsBytes rest

opened_took : (magic bytes : List ℕ) (version : ℕ) (rest : List ℕ) → IsBytes bytes → open_file magic bytes ≡ Ok (version, rest) → Opened magic bytes version rest
opened_took magic bytes version rest are e =
    let a = goes_on (ltb (length bytes) 8) Short (cond (bytes_eq (take 4 bytes) magic) (or_short (read_word (drop 4 bytes))) (Err Magic)) (version, rest) e in
    let b = holds (bytes_eq (take 4 bytes) magic) Magic (or_short (read_word (drop 4 bytes))) (version, rest) a.1 in
    let same : take 4 bytes ≡ magic = (bytes_eq-Decides (take 4 bytes) magic).0 b.0 in
    let t = number_ok.took (drop 4 bytes) version rest (IsBytes-drop 4 bytes are) (or_short_ok _ _ b.1) in
    record {
      parts = sym (take-append-drop 4 bytes) ∙ ap (λ (x : List ℕ). x ++ drop 4 bytes) same ∙ ap (λ (x : List ℕ). magic ++ x) t.parts;
      version_fits = t.fits;
      rest_bytes = t.rest_bytes;
    }

word_len : (n : ℕ) → length (word n) ≡ 4
unfolding word
word_len n = refl

bytes_same : (xs : List ℕ) → bytes_eq xs xs ≡ true
bytes_same xs = (bytes_eq-Decides xs xs).1 refl

opened_again : (magic rest : List ℕ) (version : ℕ) → length magic ≡ 4 → version < 2 ^ 32 → open_file magic (magic ++ (word version ++ rest)) ≡ Ok (version, rest)
opened_again magic rest version len fits =
    let long : ltb (length (magic ++ (word version ++ rest))) 8 ≡ false = le-ltb _ _ (omega (arith, length-append magic (word version ++ rest), length-append (word version) rest, word_len version)) in
    let same : bytes_eq (take 4 (magic ++ (word version ++ rest))) magic ≡ true = rw (take_at magic (word version ++ rest) 4 len) (bytes_same magic) in
    let read : or_short (read_word (drop 4 (magic ++ (word version ++ rest)))) ≡ Ok (version, rest) = rw (drop_at magic (word version ++ rest) 4 len, number_ok.again version rest fits) refl in
    rw (long, same, read) refl

cut_at : (front rest : List ℕ) → length rest ≡ 32 → take (length (front ++ rest) - 32) (front ++ rest) ≡ front
cut_at front rest len = take_at front rest (length (front ++ rest) - 32) (omega (arith, length-append front rest))

closed_took : (front rest closing : List ℕ) → close_file (front ++ rest) rest ≡ Ok closing → (rest ≡ sha256 front) × (closing ≡ rest)
closed_took front rest closing e =
    let wanted : List ℕ = sha256 (take (length (front ++ rest) - 32) (front ++ rest)) in
    let a = goes_on (ltb (length rest) 32) Short (cond (ltb 32 (length rest)) (Err Long) (cond (bytes_eq rest wanted) (Ok rest) (Err Damaged))) closing e in
    let b = goes_on (ltb 32 (length rest)) Long (cond (bytes_eq rest wanted) (Ok rest) (Err Damaged)) closing a.1 in
    let c = holds (bytes_eq rest wanted) Damaged (Ok rest) closing b.1 in
    let at_least : 32 ≤ length rest = ltb-false _ _ a.0 in
    let at_most : length rest ≤ 32 = ltb-false _ _ b.0 in
    let same : rest ≡ wanted = (bytes_eq-Decides rest wanted).0 c.0 in
    (same ∙ ap sha256 (cut_at front rest (omega arith)), sym (fine_is rest closing c.1))

closed_again : (front : List ℕ) → close_file (sealed front) (sha256 front) ≡ Ok (sha256 front)
closed_again front =
    let len = length-sha256 front in
    let at_least : ltb (length (sha256 front)) 32 ≡ false = le-ltb _ _ (omega (arith, len)) in
    let at_most : ltb 32 (length (sha256 front)) ≡ false = le-ltb _ _ (omega (arith, len)) in
    let same : bytes_eq (sha256 front) (sha256 (take (length (sealed front) - 32) (sealed front))) ≡ true = rw (cut_at front (sha256 front) len) (bytes_same (sha256 front)) in
    rw (at_least, at_most, same) refl

when_ok : (b : Bool) (fault : LayerFault) (u : Unit {0}) → when b fault ≡ Ok u → b ≡ true
when_ok true fault u e = refl
when_ok false fault u e = absurd cc

-- the front of a file, its content and its digest
whole : (magic version content rest between bytes : List ℕ) → bytes ≡ magic ++ (version ++ between) → between ≡ content ++ rest → bytes ≡ (magic ++ (version ++ content)) ++ rest
whole magic version content rest between bytes p q =
    p ∙ ap (λ (x : List ℕ). magic ++ (version ++ x)) q ∙ simp append_assoc

made_file : {X : Type 0} (magic : List ℕ) (known : ℕ → Bool) (format : ℕ → Format X) (bytes between rest closing : List ℕ) (version : ℕ) (x : X) (f : File X)
    → known version ≡ true → Opened magic bytes version between → Took (format version) between x rest → close_file bytes rest ≡ Ok closing → fine (record { version = version; content = x; closing = closing }) ≡ Ok f
    → IsFile magic known format f × (bytes ≡ file magic f.version (format f.version) f.content)
made_file {X = X} magic known format bytes between rest closing version x f is_known o t closes e =
    let front : List ℕ = unsealed magic version (format version) x in
    let parts : bytes ≡ front ++ rest = whole magic (word version) ((format version).spell x) rest between bytes o.parts t.parts in
    let z = closed_took front rest closing (ap (λ (y : List ℕ). close_file y rest) (sym parts) ∙ closes) in
    let is : IsFile magic known format (record { version = version; content = x; closing = closing }) = record {
      version_known = is_known;
      version_fits = o.version_fits;
      fits = t.fits;
      closing = z.1 ∙ z.0;
    } in
    subst (λ (g : File X). IsFile magic known format g × (bytes ≡ file magic g.version (format g.version) g.content)) (fine_is _ f e) (is, parts ∙ ap (λ (y : List ℕ). front ++ y) z.0)

-- what is read as a file is spelled so
pub layers_took : {X : Type 0} (magic : List ℕ) (known : ℕ → Bool) (format : ℕ → Format X) → ((v : ℕ) → IsFormat (format v))
    → (bytes : List ℕ) (f : File X) → IsBytes bytes → layers magic known format bytes ≡ Ok f → IsFile magic known format f × (bytes ≡ file magic f.version (format f.version) f.content)
layers_took magic known format ok bytes f are e =
    let a = bind_ok (open_file magic bytes) (λ opened. when (known opened.0) Version >>= λ is_known. or_short ((format opened.0).read opened.1) >>= λ read. close_file bytes read.1 >>= λ closing. Ok (record { version = opened.0; content = read.0; closing = closing })) f e in
    let b = bind_ok (when (known a.0.0) Version) (λ is_known. or_short ((format a.0.0).read a.0.1) >>= λ read. close_file bytes read.1 >>= λ closing. Ok (record { version = a.0.0; content = read.0; closing = closing })) f a.2 in
    let c = bind_ok (or_short ((format a.0.0).read a.0.1)) (λ read. close_file bytes read.1 >>= λ closing. Ok (record { version = a.0.0; content = read.0; closing = closing })) f b.2 in
    let d = bind_ok (close_file bytes c.0.1) (λ closing. Ok (record { version = a.0.0; content = c.0.0; closing = closing })) f c.2 in
    let o = opened_took magic bytes a.0.0 a.0.1 are a.1 in
    let t = (ok a.0.0).took a.0.1 c.0.0 c.0.1 o.rest_bytes (or_short_ok ((format a.0.0).read a.0.1) c.0 c.1) in
    made_file magic known format bytes a.0.1 c.0.1 d.0 a.0.0 c.0.0 f (when_ok (known a.0.0) Version b.0 b.1) o t d.1 d.2

-- what is spelled as a file is read
pub layers_again : {X : Type 0} (magic : List ℕ) (known : ℕ → Bool) (format : ℕ → Format X) → length magic ≡ 4 → ((v : ℕ) → IsFormat (format v))
    → (f : File X) → IsFile magic known format f → layers magic known format (file magic f.version (format f.version) f.content) ≡ Ok f
layers_again {X = X} magic known format len ok f is =
    let content : List ℕ = (format f.version).spell f.content in
    let front : List ℕ = unsealed magic f.version (format f.version) f.content in
    let regrouped : sealed front ≡ magic ++ (word f.version ++ (content ++ sha256 front)) = simp append_assoc in
    let opens : open_file magic (sealed front) ≡ Ok (f.version, content ++ sha256 front) = ap (open_file magic) regrouped ∙ opened_again magic (content ++ sha256 front) f.version len is.version_fits in
    let reads : (format f.version).read (content ++ sha256 front) ≡ Some (f.content, sha256 front) = (ok f.version).again f.content (sha256 front) is.fits in
    rw (opens, is.version_known, reads, closed_again front, ← is.closing) refl

-- ---- files of one version, against what a call answered

pub file_found : {X : Type 0} (magic : List ℕ) (version : ℕ) (f : Format X) (bytes : List ℕ) (result : Result (X × List ℕ) (Failure LayerFault)) → IsFormat f → IsBytes bytes
    → Delivers (of_version version) result (single magic version f bytes) → IfOk result (λ x. f.Fits x.0 × (bytes ≡ file magic version f x.0))
file_found magic version f bytes (Ok x) ok are e =
    let t = layers_took magic (λ v. v == version) (λ _. f) (λ _. ok) bytes (of_version version x) are e in
    (t.0.fits, t.1)
file_found magic version f bytes (Err failure) ok are e = tt

pub file_only : {X : Type 0} (magic : List ℕ) (version : ℕ) (f : Format X) (x : X) → length magic ≡ 4 → version < 2 ^ 32 → IsFormat f → f.Fits x
    → single magic version f (file magic version f x) ≡ Ok (of_version version (x, sha256 (unsealed magic version f x)))
file_only magic version f x len small ok fits =
    layers_again magic (λ v. v == version) (λ _. f) len (λ _. ok) (of_version version (x, sha256 (unsealed magic version f x))) (record {
      version_known = eq-eqb version version refl;
      version_fits = small;
      fits = fits;
      closing = refl;
    })

-- what is read as a file of one version has a spelling, and is spelled so
pub single_took : {X : Type 0} (magic : List ℕ) (version : ℕ) (f : Format X) → IsFormat f → (bytes : List ℕ) (x : File X) → IsBytes bytes → single magic version f bytes ≡ Ok x
    → f.Fits x.content × (x.closing ≡ sha256 (unsealed magic version f x.content)) × (bytes ≡ file magic version f x.content)
single_took magic version f ok bytes x are e =
    let t = layers_took magic (λ v. v == version) (λ _. f) (λ _. ok) bytes x are e in
    let same : x.version ≡ version = eqb-true x.version version t.0.version_known in
    (t.0.fits, t.0.closing ∙ ap (λ (v : ℕ). sha256 (unsealed magic v f x.content)) same, t.1 ∙ ap (λ (v : ℕ). file magic v f x.content) same)
