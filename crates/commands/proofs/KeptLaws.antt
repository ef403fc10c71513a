-- The sources that an object lists, read one after another.
use Rattle.std.proofs.Common.{◌≡◌, ℕ, zero, suc, ◌+◌, ◌<◌, ◌≤◌, List, [], ◌∷◌, ◌++◌, length, map, take, drop, get_or, unwrap_or, Option, None, Some, IsSome, IfSome, IsUtf8, MatchOption, Result, Ok, Err, inl, inr, refl, sym, ap, ◌∙◌, subst, arith}
use Rattle.std.specs.FinMap as finmap
use Rattle.std.specs.List.{AllByRecursion}
use Rattle.std.proofs.lemmas.List.{length-append, length-map, length-take-le, map-append, take-append-drop, take_all, drop_more}
use Rattle.cov_base.specs.declared.level.Annotation.{Annotation}
use Rattle.cov_base.specs.declared.level.Annotation.TheVariants.{Report, Xcov, Json}
use Rattle.cov_base.specs.declared.obligations.SourceFile.{SourceFile}
use Rattle.cov_io.specs.Outside.{Held, Holds}
use Rattle.commands.specs.declared.status.FileRef.TheVariants.{Source}
use Rattle.commands.specs.declared.status.Refusal.{Refusal}
use Rattle.commands.specs.declared.status.Status.{Status}
use Rattle.commands.specs.declared.status.Status.TheVariants.{ReadFault}
use Rattle.commands.specs.Reading.{IsKept, AreKept, StopsAtSource, StopsAmongSources, WereKept}
use Rattle.commands.specs.Ready.{TellsOneSource, TellsSource, source_told}
use Rattle.commands.specs.TaskFiles.{entry_names, held_under, name_in_place, names_in, names_read, read_for}
use Rattle.commands.specs.Texts.{names_of}
use Rattle.commands.specs.Verdict.{Output, AfterFile, AfterDigest, AfterKept}
use Rattle.object_format.specs.declared.object.FileEntry.{FileEntry}
use Rattle.object_format.specs.declared.object.Object.{Object}
use Rattle.object_format.specs.File.{structured}
use Rattle.sha2.specs.Sha256.{sha256}
use Rattle.commands.proofs.NameLaws.{one_told}

-- ---- all of them are kept

-- what follows of them
pub all_kept : (told : Held) (number : ℕ) (entries : List FileEntry) (Then : Result Output Status → Type 0) (verdict : Result Output Status)
    → AreKept told entries → Then verdict → AfterKept told number entries Then verdict
all_kept told number [] Then verdict kept says = says
all_kept told number (entry ∷ entries) Then verdict kept says =
    rw kept.0.1 (inr (kept.0.2, all_kept told (number + 1) entries Then verdict kept.1 says))

-- they stop nothing
pub none_stops : (told : Held) (number : ℕ) (entries : List FileEntry) (Then : Result Output Status → Type 0) (verdict : Result Output Status)
    → AreKept told entries → AfterKept told number entries Then verdict → Then verdict
none_stops told number [] Then verdict kept says = says
none_stops told number (entry ∷ entries) Then verdict kept says =
    passes (none_stops told (number + 1) entries Then verdict kept.1) (rw kept.0.1 at says)
  where
    passes : (AfterKept told (number + 1) entries Then verdict → Then verdict)
        → AfterDigest number entry kept.0.0 (AfterKept told (number + 1) entries Then) verdict → Then verdict
    passes rest (inl other) = absurd (other.0 kept.0.2)
    passes rest (inr same) = rest same.1

-- ---- those before one are kept

pub kept_up_to : (told : Held) (number at : ℕ) (earlier : List FileEntry) (entry : FileEntry) (later : List FileEntry)
    (Then : Result Output Status → Type 0) (verdict : Result Output Status)
    → at ≡ length earlier + number → AreKept told earlier
    → ((Next : Result Output Status → Type 0) → AfterFile told (Source at) entry.name (λ source. AfterDigest at entry source Next) verdict)
    → AfterKept told number (earlier ++ (entry ∷ later)) Then verdict
kept_up_to told number at [] entry later Then verdict is kept says =
    let same : number ≡ at = omega (arith, is) in
    rw same (says (AfterKept told (at + 1) later Then))
kept_up_to told number at (first ∷ earlier) entry later Then verdict is kept says =
    let next : at ≡ length earlier + (number + 1) = omega (arith, is) in
    rw kept.0.1 (inr (kept.0.2, kept_up_to told (number + 1) at earlier entry later Then verdict next kept.1 says))

-- ---- an output came of them

-- an output, as a verdict
abbrev succeeds : Output → Result Output Status
succeeds output = Ok output

-- each of them is there, and what follows holds of the output
pub record Follows (told : Held) (names : List (List ℕ)) (Then : Result Output Status → Type 0) (output : Output) : Type 0 where
  pub there : AllByRecursion (λ name. IsSome (finmap.get told name)) names
  pub says : Then (Ok output)

pub kept_follow : (told : Held) (number : ℕ) (entries : List FileEntry) (Then : Result Output Status → Type 0) (output : Output)
    → AfterKept told number entries Then (Ok output) → Follows told (entry_names entries) Then output
kept_follow told number [] Then output says = record { there = tt; says = says }
kept_follow told number (entry ∷ entries) Then output says =
    by_file (finmap.get told entry.name) refl says (kept_follow told (number + 1) entries Then output)
  where
    by_digest : (source : List ℕ) → finmap.get told entry.name ≡ Some source
        → AfterDigest number entry source (AfterKept told (number + 1) entries Then) (Ok output)
        → (AfterKept told (number + 1) entries Then (Ok output) → Follows told (entry_names entries) Then output)
        → Follows told (entry.name ∷ entry_names entries) Then output
    by_digest source is (inl other) later = let x : ⊥ = cc (other.1) in absurd x
    by_digest source is (inr same) later =
        let rest = later same.1 in
        record { there = (rw is refl, rest.there); says = rest.says }

    by_file : (got : Option (List ℕ)) → finmap.get told entry.name ≡ got
        → MatchOption got (succeeds output ≡ Err (ReadFault (Source number)))
        (λ source. AfterDigest number entry source (AfterKept told (number + 1) entries Then) (Ok output))
        → (AfterKept told (number + 1) entries Then (Ok output) → Follows told (entry_names entries) Then output)
        → Follows told (entry.name ∷ entry_names entries) Then output
    by_file None is says later = let x : ⊥ = cc says in absurd x
    by_file (Some source) is says later = by_digest source is says later

-- ---- their names

-- those that are read are those of the object that was read
pub names_are : (annotation : Annotation) (object : Option (List ℕ)) (bytes : List ℕ) (o : Object) → object ≡ Some bytes → structured bytes ≡ Ok o
    → names_read annotation object ≡ entry_names (read_for annotation o.files)
names_are annotation object bytes o there read = ap (names_read annotation) there ∙ ap (names_in annotation) read

-- a place among them
pub placed : (entries earlier : List FileEntry) (entry : FileEntry) (later : List FileEntry) → entries ≡ earlier ++ (entry ∷ later)
    → length earlier < length (entry_names entries)
placed entries earlier entry later are =
    omega (arith, length-map entries (λ (e : FileEntry). e.name), ap (λ (es : List FileEntry). length es) are, length-append earlier (entry ∷ later))

-- and the name in it
pub name_at : (entries earlier : List FileEntry) (entry : FileEntry) (later : List FileEntry) → entries ≡ earlier ++ (entry ∷ later)
    → name_in_place (entry_names entries) (length earlier) ≡ entry.name
name_at entries earlier entry later are =
    ap (λ (es : List FileEntry). name_in_place (entry_names es) (length earlier)) are ∙ among earlier
  where
    among : (before : List FileEntry) → name_in_place (entry_names (before ++ (entry ∷ later))) (length before) ≡ entry.name
    among [] = refl
    among (first ∷ before) = among before

no_more : (earlier : List FileEntry) (entry : FileEntry) (later : List FileEntry) → [] ≡ earlier ++ (entry ∷ later) → ⊥
no_more [] entry later e = cc e
no_more (first ∷ earlier) entry later e = cc e

-- only annotated sources are read
pub annotated : (annotation : Annotation) (entries earlier : List FileEntry) (entry : FileEntry) (later : List FileEntry)
    → read_for annotation entries ≡ earlier ++ (entry ∷ later) → annotation ≡ Xcov
annotated Report entries earlier entry later are = absurd (no_more earlier entry later are)
annotated Xcov entries earlier entry later are = refl
annotated Json entries earlier entry later are = absurd (no_more earlier entry later are)

-- ---- reading them, of which this entry stands in a place

-- one more of a list
take_more : {X : Type 0} (xs : List X) (i : ℕ) (d : X) → i < length xs → take (i + 1) xs ≡ take i xs ++ (get_or xs i d ∷ [])
take_more [] i d lt = absurd (omega (arith, lt))
take_more (x ∷ xs) zero d lt = refl
take_more (x ∷ xs) (suc i) d lt =
    let next : suc i + 1 ≡ suc (i + 1) = omega arith in
    rw next (ap (λ ys. x ∷ ys) (take_more xs i d (omega (arith, lt))))

both_kept : (told : Held) (entries others : List FileEntry) → AreKept told entries → AreKept told others → AreKept told (entries ++ others)
both_kept told [] others first second = second
both_kept told (entry ∷ entries) others first second = (first.0, both_kept told entries others first.1 second)

-- nothing was read yet
pub none_kept : (held : Option Held) → WereKept [] held []
none_kept held = record { named = refl; read = by_held held }
  where
    by_held : (h : Option Held) → IfSome h (λ told. AreKept told [] × ([] ≡ held_under told []))
    by_held None = tt
    by_held (Some told) = (tt, refl)

-- a source was read, and has the digest that is kept
pub one_kept : (entry : FileEntry) (held : Option Held) (source : SourceFile) (bytes : List ℕ) → source.name ≡ entry.name → source.bytes ≡ bytes
    → IfSome held (Holds entry.name bytes) → sha256 bytes ≡ entry.sha256 → WereKept (entry ∷ []) held (source ∷ [])
one_kept entry held source bytes named is holds digest =
    record { named = ap (λ (n : List ℕ). n ∷ []) named; read = by_held held holds }
  where
    by_held : (h : Option Held) → IfSome h (Holds entry.name bytes)
        → IfSome h (λ told. AreKept told (entry ∷ []) × (source ∷ [] ≡ held_under told (entry.name ∷ [])))
    by_held None there = tt
    by_held (Some told) there =
        let same : source.bytes ≡ unwrap_or (finmap.get told entry.name) [] = is ∙ ap (λ (got : Option (List ℕ)). unwrap_or got []) (sym there) in
        let one : source ≡ record { name = entry.name; bytes = unwrap_or (finmap.get told entry.name) [] } = λ k. record { name = named k; bytes = same k } in
        (((bytes, there, digest), tt), ap (λ (s : SourceFile). s ∷ []) one)

-- both lists were read
both_read : (held : Option Held) (entries others : List FileEntry) (sources more : List SourceFile) → WereKept entries held sources → WereKept others held more
    → WereKept (entries ++ others) held (sources ++ more)
both_read held entries others sources more first second = record {
  named = map-append (λ (s : SourceFile). s.name) sources more ∙ ap (λ (ns : List (List ℕ)). ns ++ names_of more) first.named
      ∙ ap (λ (ns : List (List ℕ)). entry_names entries ++ ns) second.named ∙ sym (map-append (λ (e : FileEntry). e.name) entries others);
  read = by_held held first.read second.read;
}
  where
    file_of : Held → List ℕ → SourceFile
    file_of told name = record { name = name; bytes = unwrap_or (finmap.get told name) [] }

    by_held : (h : Option Held) → IfSome h (λ told. AreKept told entries × (sources ≡ held_under told (entry_names entries)))
        → IfSome h (λ told. AreKept told others × (more ≡ held_under told (entry_names others)))
        → IfSome h (λ told. AreKept told (entries ++ others) × (sources ++ more ≡ held_under told (entry_names (entries ++ others))))
    by_held None a b = tt
    by_held (Some told) a b = (
      both_kept told entries others a.0 b.0,
      ap (λ (ss : List SourceFile). ss ++ more) a.1 ∙ ap (λ (ss : List SourceFile). held_under told (entry_names entries) ++ ss) b.1
          ∙ sym (map-append (λ (name : List ℕ). file_of told name) (entry_names entries) (entry_names others))
          ∙ ap (held_under told) (sym (map-append (λ (e : FileEntry). e.name) entries others)),
    )

-- one more source was read
pub one_more_kept : (entries : List FileEntry) (i : ℕ) (entry : FileEntry) (held held' : Option Held) (sources more : List SourceFile) (source : SourceFile)
    → i < length entries → entry ≡ get_or entries i entry → held' ≡ held → more ≡ sources ++ (source ∷ []) → WereKept (take i entries) held sources
    → WereKept (entry ∷ []) held' (source ∷ []) → WereKept (take (i + 1) entries) held more
one_more_kept entries i entry held held' sources more source lt stands same is before one =
    rw is (subst (λ (es : List FileEntry). WereKept es held (sources ++ (source ∷ []))) (sym (take_more entries i entry lt))
    (both_read held (take i entries) (get_or entries i entry ∷ []) sources (source ∷ []) before
    (subst (λ (e : FileEntry). WereKept (e ∷ []) held (source ∷ [])) stands
    (subst (λ (h : Option Held). WereKept (entry ∷ []) h (source ∷ [])) same one))))

-- all of them were read
pub all_taken : (entries : List FileEntry) (i : ℕ) (held : Option Held) (sources : List SourceFile) → length entries ≤ i
    → WereKept (take i entries) held sources → WereKept entries held sources
all_taken entries i held sources past were = subst (λ (es : List FileEntry). WereKept es held sources) (take_all i entries past) were

-- one stops the command, behind those that were read
pub stops_among : (entries : List FileEntry) (i : ℕ) (entry : FileEntry) (held held' : Option Held) (reads reads' reads'' : ℕ) (status : Status) (sources : List SourceFile)
    → i < length entries → entry ≡ get_or entries i entry → held' ≡ held → reads' ≡ reads → WereKept (take i entries) held sources
    → StopsAtSource i entry held' reads' reads'' status → StopsAmongSources entries held reads reads'' status
stops_among entries i entry held held' reads reads' reads'' status sources lt stands same count were stops =
    let long : i ≡ length (take i entries) = omega (arith, length-take-le i entries (omega (arith, lt))) in
    let here = subst (λ (h : Option Held). StopsAtSource i entry h reads' reads'' status) same stops in
    let then_so = subst (λ (n : ℕ). StopsAtSource i entry held n reads'' status) count here in
    record {
      earlier = take i entries;
      entry = entry;
      later = drop (i + 1) entries;
      are = sym (take-append-drop i entries) ∙ ap (λ rest. take i entries ++ rest) (drop_more entries i entry lt)
          ∙ ap (λ (e : FileEntry). take i entries ++ (e ∷ drop (i + 1) entries)) (sym stands);
      read = by_held held were.read;
      stops = subst (λ (k : ℕ). StopsAtSource k entry held reads reads'' status) long then_so;
    }
  where
    by_held : (h : Option Held) → IfSome h (λ told. AreKept told (take i entries) × (sources ≡ held_under told (entry_names (take i entries))))
        → IfSome h (λ told. AreKept told (take i entries))
    by_held None read = tt
    by_held (Some told) read = read.0

-- its name is that of the source in its place
named_place : (entries : List FileEntry) (i : ℕ) (d : FileEntry) → i < length entries → name_in_place (entry_names entries) i ≡ (get_or entries i d).name
named_place [] i d lt = absurd (omega (arith, lt))
named_place (entry ∷ entries) zero d lt = refl
named_place (entry ∷ entries) (suc i) d lt = named_place entries i d (omega (arith, lt))

pub tells_one : (entries : List FileEntry) (i : ℕ) (entry : FileEntry) (refusal : Refusal) → i < length entries → entry ≡ get_or entries i entry
    → TellsOneSource i entry.name refusal → TellsSource (entry_names entries) refusal
tells_one entries i entry refusal lt stands tells =
    one_told (entry_names entries) i entry.name refusal.status (source_told refusal)
    (named_place entries i entry lt ∙ ap (λ (e : FileEntry). e.name) (sym stands)) tells

-- ---- what an object says of its sources

-- the name in a place is UTF-8
utf8_in : (entries : List FileEntry) (i : ℕ) (d : FileEntry) → AllByRecursion (λ entry. IsUtf8 entry.name) entries → i < length entries
    → IsUtf8 (get_or entries i d).name
utf8_in [] i d utf8 lt = absurd (omega (arith, lt))
utf8_in (entry ∷ entries) zero d utf8 lt = utf8.0
utf8_in (entry ∷ entries) (suc i) d utf8 lt = utf8_in entries i d utf8.1 (omega (arith, lt))

pub utf8_at : (entries : List FileEntry) (i : ℕ) (entry : FileEntry) → AllByRecursion (λ entry. IsUtf8 entry.name) entries → i < length entries
    → entry ≡ get_or entries i entry → IsUtf8 entry.name
utf8_at entries i entry utf8 lt stands = subst (λ (e : FileEntry). IsUtf8 e.name) (sym stands) (utf8_in entries i entry utf8 lt)
