-- What a run leaves, and the lines that tell of it.
use Rattle.std.proofs.Common.{◌≡◌, ℕ, ℤ, zero, ◌+◌, ◌-◌, ◌≤◌, List, [], ◌∷◌, ◌++◌, drop, length, map, get_or, slice_get, unwrap_or, Option, Result, Ok, Err, OnOk, suc, refl, sym, ap, ◌∙◌, subst, arith}
use Rattle.std.proofs.lemmas.List.{append_assoc}
use Rattle.std.proofs.lemmas.Option.{unwrap_or-slice_get}
use Rattle.std.specs.Bool.{if◌then◌else◌}
use Rattle.std.specs.List.{flat_map}
use Rattle.std.specs.Result.{is_ok}
use Rattle.commands.specs.Content.{RunsTo, trace_file}
use Rattle.commands.specs.RunLines.{run_lines}
use Rattle.object_facts.specs.Object.{facts_of}
use Rattle.object_facts.proofs.Placed.{run_ended}
use Rattle.object_format.specs.Checked.{IsSound}
use Rattle.object_format.specs.declared.object.Object.{Object}
use Rattle.rv32_emulator.specs.Ran.{HoldsAll}
use Rattle.rv_machine.specs.Objects.{object_run}
use Rattle.rv_semantics.specs.Run.Outcome.{Ended}
use Rattle.trace_format.specs.Checks.{trace_of}
use Rattle.trace_format.specs.Formats.{trace_spelling}
use Rattle.trace_record.specs.Recorded.{Recorded}
use Rattle.trace_record.specs.Written.{traced}
use Rattle.transcript.specs.Pieces.{IsEnded}

-- ---- lines that are appended one after another

-- what was appended, if it was
pub appended : {E : Type 0} (r : Result (Unit {0}) E) (old new y : List ℕ) → new ≡ (if is_ok r then old ++ y else old) → OnOk r (new ≡ old ++ y)
appended (Ok u) old new y is = is
appended (Err e) old new y is = tt

-- what was appended in three pieces
pub three : {E : Type 0} (r : Result (Unit {0}) E) (old one two new x name y : List ℕ) → one ≡ old ++ x → two ≡ one ++ name
    → new ≡ (if is_ok r then two ++ y else two) → OnOk r (new ≡ old ++ (x ++ (name ++ y)))
three (Err e) old one two new x name y a b c = tt
three (Ok u) old one two new x name y a b c =
    c ∙ ap (λ (l : List ℕ). l ++ y) (b ∙ ap (λ (l : List ℕ). l ++ name) a) ∙ append_assoc (old ++ x) name y ∙ append_assoc old x (name ++ y)

-- one more item's line, and those of the items that are left
pub line_more : {X : Type 0} (f : X → List ℕ) (xs : List X) (i : ℕ) (x : X) (text more all : List ℕ) → drop i xs ≡ x ∷ drop (i + 1) xs
    → more ≡ text ++ f x → text ++ flat_map f (drop i xs) ≡ all → more ++ flat_map f (drop (i + 1) xs) ≡ all
line_more f xs i x text more all next is lines =
    ap (λ (l : List ℕ). l ++ flat_map f (drop (i + 1) xs)) is ∙ append_assoc text (f x) (flat_map f (drop (i + 1) xs))
    ∙ ap (λ l. text ++ flat_map f l) (sym next) ∙ lines

-- ---- a run that ended

-- its transcript ends in a control transfer
pub ended : (o : Object) (budget : ℕ) (input : List ℤ) (number : ℕ) (r : Recorded) → IsSound o → (object_run o budget input).outcome ≡ Ended number → r.object ≡ o
    → IsEnded (facts_of r.object) (object_run o budget input).entries
ended o budget input number r sound is same =
    subst (λ (x : Object). IsEnded (facts_of x) (object_run o budget input).entries) (sym same) (run_ended o budget input number sound is)

-- its trace and its lines
pub ran : (o : Object) (budget : ℕ) (input : List ℤ) (number count : ℕ) (r : Recorded) (first put : List ℤ) (file text : List ℕ) (exceptions : List (List ℕ))
    → (object_run o budget input).outcome ≡ Ended number → count ≡ length (object_run o budget input).entries
    → HoldsAll (object_run o budget input) r first put → first ≡ [] → r.object ≡ o
    → file ≡ trace_spelling (traced r.object (object_run o budget input).entries number)
    → trace_of file ≡ Ok (trace_file r.object (object_run o budget input).entries number)
    → exceptions ≡ o.obligations.exceptions → text ≡ run_lines exceptions put number count file
    → RunsTo o budget input (record { file = file; text = text })
ran o budget input number count r first put file text exceptions is counted holds none same traced_is read named told =
    let output : put ≡ (object_run o budget input).output = holds.output ∙ ap (λ (l : List ℤ). l ++ (object_run o budget input).output) none in
    record {
      ending = number;
      ended = is;
      traced = traced_is ∙ ap (λ (x : Object). trace_spelling (traced x (object_run o budget input).entries number)) same;
      reads_back = read ∙ ap (λ (x : Object). Ok (trace_file x (object_run o budget input).entries number)) same;
      told = told ∙ ap (λ (names : List (List ℕ)). run_lines names put number count file) named
          ∙ ap (λ (words : List ℤ). run_lines o.obligations.exceptions words number count file) output
          ∙ ap (λ (n : ℕ). run_lines o.obligations.exceptions (object_run o budget input).output number n file) counted;
    }

-- ---- names by their places

got_map : {X : Type 0} (now : X → List ℕ) (xs : List X) (i : ℕ) (d : X) → now d ≡ [] → now (get_or xs i d) ≡ get_or (map now xs) i []
got_map now [] i d empty = empty
got_map now (x ∷ xs) zero d empty = refl
got_map now (x ∷ xs) (suc i) d empty = got_map now xs i d empty

-- the name in a place, which was looked up, and is empty where there is none
pub named_at : {X : Type 0} (now : X → List ℕ) (names : List X) (place : ℕ) (o o' : Option X) (d result : X)
    → result ≡ unwrap_or o d → o ≡ o' → (place ≤ place → (e : X) → unwrap_or o' e ≡ get_or names place e) → now d ≡ []
    → now result ≡ unwrap_or (slice_get (map now names) place) []
named_at now names place o o' d result taken same looked empty =
    ap now (taken ∙ ap (λ x. unwrap_or x d) same ∙ looked (omega arith) d) ∙ got_map now names place d empty
    ∙ sym (unwrap_or-slice_get (map now names) place [])

-- the same behind a first name
pub behind_first : (first : List ℕ) (later : List (List ℕ)) (place p : ℕ) (result : List ℕ)
    → 1 ≤ place → p ≡ place - 1 → result ≡ unwrap_or (slice_get later p) []
    → result ≡ unwrap_or (slice_get (first ∷ later) place) []
behind_first first later zero p result some is found = absurd (omega (arith, some))
behind_first first later (suc place) p result some is found =
    let same : p ≡ place = omega (arith, is) in
    found ∙ ap (λ (i : ℕ). unwrap_or (slice_get later i) []) same
