-- What one instruction makes of where a run stands.
use Rattle.std.proofs.Common.{◌≡◌, ℕ, suc, ◌+◌, ◌-◌, ◌<◌, ℤ, List, [], ◌∷◌, ◌++◌, length, refl, sym, ap, subst, ◌∙◌, arith}
use Rattle.std.proofs.lemmas.List.{append-nil, append_assoc, length-append}
use Rattle.object_format.specs.Checked.{IsSound}
use Rattle.object_format.specs.declared.object.Object.{Object}
use Rattle.object_facts.proofs.Placed.{transcript_begins, run_transcript}
use Rattle.object_facts.specs.Object.{IsTranscript}
use Rattle.rv_machine.specs.Objects.{object_image, object_run}
use Rattle.rv_semantics.specs.declared.stepped.Seen.{Seen}
use Rattle.rv_semantics.specs.Run.{Run, before, after, runs, Outcome}
use Rattle.rv_semantics.specs.Run.Outcome.{Cut}
use Rattle.rv_semantics.specs.State.{Image, State}
use Rattle.rv_semantics.specs.Step.{Answer, step}
use Rattle.trace_record.specs.Recorded.{Recorded, Records}
use Rattle.rv32_emulator.specs.Ran.{HoldsAll, HoldsPart, Stands}

-- what was recorded and put is a beginning
pub stands_part : (run : Run) (image : Image) (left : ℕ) (s : State) (input : List ℤ) (r : Recorded) (first out : List ℤ) (count : ℕ)
    → Stands run image left s input r first out count → HoldsPart run r first out
stands_part run image left s input r first out count stands = record {
  seen = stands.seen;
  unseen = (runs image left s input).entries;
  put = stands.put;
  unput = (runs image left s input).output;
  entries = sym (ap (λ (x : Run). x.entries) stands.rest);
  words = sym (ap (λ (x : Run). x.output) stands.rest);
  recorded = stands.recorded;
  output = stands.output;
}

-- a run after one step
next_run : (image : Image) (left : ℕ) (s : State) (input : List ℤ) → after (runs image left) (step image s) input ≡ runs image (suc left) s input
unfolding runs
next_run image left s input = refl

module _ (run : Run) (image : Image) (left : ℕ) (s : State) (input : List ℤ) (r : Recorded) (first out : List ℤ) (count : ℕ)
    (transcript : IsTranscript r.object run.entries) (stands : Stands run image (suc left) s input r first out count) where
  -- the run, where the step came to this
  pub stepped : (answer : Answer) → answer ≡ step image s → before stands.seen stands.put (after (runs image left) answer input) ≡ run
  stepped answer is =
      ap (λ (a : Answer). before stands.seen stands.put (after (runs image left) a input)) is
      ∙ ap (before stands.seen stands.put) (next_run image left s input)
      ∙ stands.rest

  -- the recorder saw one instruction more
  module _ (x : Seen) (more : List ℤ) (tail : Run) (whole : before stands.seen stands.put (before (x ∷ []) more tail) ≡ run)
      (r' : Recorded) (saw : (ss : List Seen) → Records r ss → IsTranscript r.object (ss ++ x ∷ []) → Records r' (ss ++ x ∷ [])) where
    entries_are : run.entries ≡ (stands.seen ++ x ∷ []) ++ tail.entries
    entries_are = sym (ap (λ (y : Run). y.entries) whole) ∙ sym (append_assoc stands.seen (x ∷ []) tail.entries)

    words_are : run.output ≡ stands.put ++ (more ++ tail.output)
    words_are = sym (ap (λ (y : Run). y.output) whole)

    pub recorded : Records r' (stands.seen ++ x ∷ [])
    recorded = saw stands.seen stands.recorded
        (transcript_begins r.object (stands.seen ++ x ∷ []) tail.entries (subst (IsTranscript r.object) entries_are transcript))

    -- the word was not put
    pub seen_part : HoldsPart run r' first out
    seen_part = record {
      seen = stands.seen ++ x ∷ [];
      unseen = tail.entries;
      put = stands.put;
      unput = more ++ tail.output;
      entries = entries_are;
      words = words_are;
      recorded = recorded;
      output = stands.output;
    }

    counted : length (stands.seen ++ x ∷ []) ≡ count + 1
    counted =
        let long : length (stands.seen ++ x ∷ []) ≡ length stands.seen + 1 = length-append stands.seen (x ∷ []) in
        omega (arith, long, stands.counted)

    output_more : (out' : List ℤ) → out' ≡ out ++ more → out' ≡ first ++ (stands.put ++ more)
    output_more out' is = is ∙ ap (λ (xs : List ℤ). xs ++ more) stands.output ∙ append_assoc first stands.put more

    one_more : before (stands.seen ++ x ∷ []) (stands.put ++ more) tail ≡ run
    one_more =
        (λ i. record {
          entries = append_assoc stands.seen (x ∷ []) tail.entries i;
          output = append_assoc stands.put more tail.output i;
          outcome = tail.outcome;
        })
        ∙ whole

    pub ended : (out' : List ℤ) → out' ≡ out ++ more → tail.entries ≡ [] → tail.output ≡ []
        → (run.outcome ≡ tail.outcome) × (length run.entries ≡ count + 1) × HoldsAll run r' first out'
    ended out' is no_entries no_words =
        let entries : run.entries ≡ stands.seen ++ x ∷ [] =
        entries_are ∙ ap (λ (xs : List Seen). (stands.seen ++ x ∷ []) ++ xs) no_entries ∙ append-nil (stands.seen ++ x ∷ []) in
        let words : run.output ≡ stands.put ++ more =
        words_are ∙ ap (λ (xs : List ℤ). stands.put ++ (more ++ xs)) no_words ∙ ap (λ (xs : List ℤ). stands.put ++ xs) (append-nil more) in (
          sym (ap (λ (y : Run). y.outcome) whole),
          ap (λ (xs : List Seen). length xs) entries ∙ counted,
          record {
            recorded = subst (Records r') (sym entries) recorded;
            output = output_more out' is ∙ ap (λ (xs : List ℤ). first ++ xs) (sym words);
          },
        )

  -- the run goes on
  pub on : (x : Seen) (more : List ℤ) (s' : State) (input' : List ℤ)
      → before stands.seen stands.put (before (x ∷ []) more (runs image left s' input')) ≡ run
      → (r' : Recorded) → ((ss : List Seen) → Records r ss → IsTranscript r.object (ss ++ x ∷ []) → Records r' (ss ++ x ∷ []))
      → (out' : List ℤ) → out' ≡ out ++ more → Stands run image left s' input' r' first out' (count + 1)
  on x more s' input' whole r' saw out' is = record {
    seen = stands.seen ++ x ∷ [];
    put = stands.put ++ more;
    recorded = recorded x more (runs image left s' input') whole r' saw;
    output = output_more x more (runs image left s' input') whole r' saw out' is;
    counted = counted x more (runs image left s' input') whole r' saw;
    rest = one_more x more (runs image left s' input') whole r' saw;
  }

  -- the run is over before another instruction
  pub over : (outcome : Outcome) → before stands.seen stands.put (record { entries = []; output = []; outcome = outcome }) ≡ run
      → (run.outcome ≡ outcome) × (length run.entries ≡ count) × HoldsAll run r first out
  over outcome whole =
      let entries : run.entries ≡ stands.seen = sym (ap (λ (y : Run). y.entries) whole) ∙ append-nil stands.seen in
      let words : run.output ≡ stands.put = sym (ap (λ (y : Run). y.output) whole) ∙ append-nil stands.put in (
        sym (ap (λ (y : Run). y.outcome) whole),
        ap (λ (xs : List Seen). length xs) entries ∙ stands.counted,
        record {
          recorded = subst (Records r) (sym entries) stands.recorded;
          output = stands.output ∙ ap (λ (xs : List ℤ). first ++ xs) (sym words);
        },
      )

-- the budget is used up
pub cut_off : (run : Run) (image : Image) (s : State) (input : List ℤ) (r : Recorded) (first out : List ℤ) (count : ℕ)
    → Stands run image 0 s input r first out count → (run.outcome ≡ Cut) × (length run.entries ≡ count) × HoldsAll run r first out
unfolding runs
cut_off run image s input r first out count stands =
    let whole : before stands.seen stands.put (record { entries = []; output = []; outcome = Cut }) ≡ run = stands.rest in
    let entries : run.entries ≡ stands.seen = sym (ap (λ (y : Run). y.entries) whole) ∙ append-nil stands.seen in
    let words : run.output ≡ stands.put = sym (ap (λ (y : Run). y.output) whole) ∙ append-nil stands.put in (
      sym (ap (λ (y : Run). y.outcome) whole),
      ap (λ (xs : List Seen). length xs) entries ∙ stands.counted,
      record {
        recorded = subst (Records r) (sym entries) stands.recorded;
        output = stands.output ∙ ap (λ (xs : List ℤ). first ++ xs) (sym words);
      },
    )

-- before the first instruction
pub at_start : (image : Image) (budget : ℕ) (s : State) (input : List ℤ) (r : Recorded) (out : List ℤ) → Records r []
    → Stands (runs image budget s input) image budget s input r out out 0
at_start image budget s input r out fresh = record {
  seen = [];
  put = [];
  recorded = fresh;
  output = sym (append-nil out);
  counted = refl;
  rest = refl;
}

-- nothing was done yet
pub nothing_part : (run : Run) (r : Recorded) (out : List ℤ) → Records r [] → HoldsPart run r out out
nothing_part run r out fresh = record {
  seen = [];
  unseen = run.entries;
  put = [];
  unput = run.output;
  entries = refl;
  words = refl;
  recorded = fresh;
  output = sym (append-nil out);
}

-- what one instruction more asks of where the run stands
pub ready : (o : Object) (budget : ℕ) (input first : List ℤ) (done : ℕ) (image : Image) (s : State) (words : List ℤ) (r : Recorded) (out : List ℤ)
    → done < budget → r.object ≡ o → image ≡ object_image o → IsSound o
    → Stands (object_run o budget input) (object_image o) (budget - done) s words r first out done
    → IsTranscript r.object (object_run o budget input).entries
    × Stands (object_run o budget input) image (suc (budget - (done + 1))) s words r first out done
ready o budget input first done image s words r out less same image_is sound stands =
    let left : budget - done ≡ suc (budget - (done + 1)) = omega (arith, less) in (
      subst (λ (x : Object). IsTranscript x (object_run o budget input).entries) (sym same) (run_transcript o budget input sound),
      subst (λ (x : Image). Stands (object_run o budget input) x (suc (budget - (done + 1))) s words r first out done) (sym image_is)
          (subst (λ (n : ℕ). Stands (object_run o budget input) (object_image o) n s words r first out done) left stands),
    )
