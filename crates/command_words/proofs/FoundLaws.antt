-- What is read of a command line's words, as an answer.
use Rattle.std.proofs.Common.{◌≡◌, ◌&&◌, ◌^◌, ℕ, Bool, true, false, List, [], ◌∷◌, length, Option, Some, None, Result, Ok, Err, refl, sym, ap, lt-ltb, ltb-true, nat_lt}
use Rattle.std.specs.Prelude.{option_map, option_and_then}
use Rattle.std.specs.List.{list_all}
use Rattle.std.specs.Option.{ok_or}
use Rattle.std.specs.Result.{result_ok}
use Rattle.std.specs.Char.{digit_value}
use Rattle.std.specs.Str.Parse.{AllDigits, ParsesUnsigned, digits_value, without_leading_plus}
use Rattle.clap.specs.Words.{App, Row, Text, IsAmong, ReadsOne, fault_of, matches_of}
use Rattle.clap.specs.ValueTests.{is_numeral}
use Rattle.clap.specs.declared.error.kind.ErrorKind.{ErrorKind}
use Rattle.clap.proofs.WalkLemmas.{both}
use Rattle.cov_base.specs.declared.failure.Failure.{Failure}
use Rattle.cov_base.specs.declared.failure.Failure.TheVariants.{Fault, WantOfMemory}
use Rattle.command_words.specs.Gives.{Gives}
use Rattle.command_words.specs.Lines.{given, number_of, rows_unless}

-- ---- answers

-- the fault stands for what is not there
pub gives-ok_or : {A B F : Type 0} (view : A → B) (wanted : Option B) (found : Option A) (fault : F) → option_map view found ≡ wanted
    → Gives view wanted (ok_or {E = Failure F} found (Fault fault))
gives-ok_or view wanted (Some a) fault e = sym e
gives-ok_or view wanted None fault e = sym e

-- any failure does where nothing is wanted
pub fault-gives : {A B F : Type 0} (view : A → B) (wanted : Option B) (failure : Failure F) → wanted ≡ None → Gives view wanted (Err failure)
fault-gives view wanted (Fault fault) e = e
fault-gives view wanted WantOfMemory e = tt

-- want of memory does always
pub memory-gives : {A B F : Type 0} (view : A → B) (wanted : Option B) (failure : Failure F) → failure ≡ WantOfMemory → Gives view wanted (Err failure)
memory-gives view wanted failure e = rw e tt

-- ---- what clap gives

pub given-rows : (app : App) (words : List Text) (rows : List Row) → fault_of app words ≡ [] → rows ≡ matches_of app words → given app words ≡ Some rows
unfolding given
given-rows app words rows none same = rw none (ap Some (sym same))

faulty : (kind : ErrorKind) (kinds : List ErrorKind) (rows : List Row) → IsAmong kind kinds → rows_unless kinds rows ≡ None
faulty kind [] rows among = absurd among
faulty kind (k ∷ ks) rows among = refl

pub given-none : (app : App) (words : List Text) (kind : ErrorKind) → IsAmong kind (fault_of app words) → given app words ≡ None
unfolding given
given-none app words kind among = faulty kind (fault_of app words) (matches_of app words) among

-- ---- numbers

digits_pass : (ds : List ℕ) → AllDigits 10 ds → list_all (λ d. nat_lt (digit_value d) 10) ds ≡ true
digits_pass [] h = refl
digits_pass (d ∷ ds) h = rw (lt-ltb (digit_value d) 10 h.0) (digits_pass ds h.1)

digits_from : (ds : List ℕ) → list_all (λ d. nat_lt (digit_value d) 10) ds ≡ true → AllDigits 10 ds
digits_from [] e = tt
digits_from (d ∷ ds) e =
    let parts = both _ _ e in
    (ltb-true _ _ parts.0, digits_from ds parts.1)

abbrev spells : Text → Bool
spells ds = is_numeral ds && nat_lt (digits_value 10 ds) (2 ^ 32)

number_parsed : (E : Type 0) (text : Text) (r : Result ℕ E) → ParsesUnsigned 32 10 text r → number_of text ≡ result_ok r
number_parsed E text (Ok n) h =
    let ds = without_leading_plus text in
    rw (lt-ltb 0 (length ds) h.0.0.0, digits_pass ds h.0.0.1, lt-ltb (digits_value 10 ds) (2 ^ 32) h.0.1) (ap Some (sym h.1))
number_parsed E text (Err e) h = go (spells (without_leading_plus text)) refl
  where
    go : (b : Bool) → spells (without_leading_plus text) ≡ b → number_of text ≡ None
    go true t =
        let outer = both _ _ t in
        let inner = both _ _ outer.0 in
        absurd (h ((ltb-true _ _ inner.0, digits_from (without_leading_plus text) inner.1), ltb-true _ _ outer.1))
    go false t = rw t refl

-- the number that a typed getter reads, by a relation that says how a text is parsed
pub number_of-read : (E : Type 0) (gives : List ℕ → Result ℕ E → Type 0) → ((text : Text) (r : Result ℕ E) → gives text r → ParsesUnsigned 32 10 text r)
    → (text : Option Text) (r : Option ℕ) → (text ≡ None → r ≡ None) → ((t : Text) → text ≡ Some t → ReadsOne gives t r)
    → option_map (λ n. n) r ≡ option_and_then number_of text
number_of-read E gives parses None r none value = rw (none refl) refl
number_of-read E gives parses (Some t) (Some n) none value = sym (number_parsed E t (Ok n) (parses t (Ok n) (value t refl)))
number_of-read E gives parses (Some t) None none value =
    let failed = value t refl in
    sym (number_parsed E t (Err failed.0) (parses t (Err failed.0) failed.1))
