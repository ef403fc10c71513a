-- Three calls in turn, each of them done, are a use.
use Rattle.std.proofs.Common.{◌≡◌, ◌≢◌, inl, inr, ℕ, ℤ, List, [], ◌∷◌, Option, Some, None, IfSome, refl, sym, subst, ◌∙◌}
use Rattle.std.specs.FinMap as finmap
use Rattle.command_words.specs.Task.{Task, Compile, Run, Coverage}
use Rattle.cov_io.specs.Outside.{Held, Holds, WhereTold}
use Rattle.commands.specs.declared.status.Status.TheVariants.{Done}
use Rattle.commands.specs.TaskFiles.{output_of}
use Rattle.user_calls.specs.Calls.{ACall, IsMade, RanOn, IsOfRuns}
use Rattle.user_calls.specs.Use.{IsUse, AUseTellsTheSources, TellsTheSources}
use Rattle.user_calls.proofs.WayLaws.{use_law}
use Rattle.calls_made.specs.Way.{Way, HasInput}

abbrev some_name : List ℕ → Option (List ℕ)
some_name name = Some name

one_name : (a b : List ℕ) → some_name a ≡ some_name b → a ≡ b
one_name a b same = cc same

-- a call writes no other name than its task's output
writes_no_other : (name other : List ℕ) (o : Option Task) (asked : Task) → o ≡ Some asked → output_of asked ≡ Some other → name ≢ other
    → IfSome o (λ asked. output_of asked ≢ Some name)
writes_no_other name other o asked is writes differ =
    subst (λ (task : Option Task). IfSome task (λ asked. output_of asked ≢ Some name)) (sym is)
    (λ same. differ (one_name name other (sym same ∙ writes)))

-- a name that keeps what it has, where it had these bytes, has them afterwards
stays_from : (name bytes : List ℕ) (before : Held) (new : Option Held) → Holds name bytes before
    → WhereTold (λ (old now : Held). finmap.get now name ≡ finmap.get old name) (Some before) new
    → (after : Held) × (new ≡ Some after) × Holds name bytes after
stays_from name bytes before None there told = absurd told
stays_from name bytes before (Some after) there told = (after, refl, told ∙ there)

stays : (name bytes : List ℕ) (old new : Option Held) (before : Held) → old ≡ Some before → Holds name bytes before
    → WhereTold (λ (old now : Held). finmap.get now name ≡ finmap.get old name) old new
    → (after : Held) × (new ≡ Some after) × Holds name bytes after
stays name bytes old new before is there told =
    stays_from name bytes before new there
    (subst (λ (o : Option Held). WhereTold (λ (old now : Held). finmap.get now name ≡ finmap.get old name) o new) is told)

module _ (way : Way) (first second last : ACall) (one : IsMade first) (two : IsMade second) (three : IsMade last)
    (turn : second.call.held ≡ first.call.held_after) (next : last.call.held ≡ second.call.held_after)
    (compiles : first.status ≡ Done) (runs : second.status ≡ Done) (covers : last.status ≡ Done)
    (to_compile : first.task ≡ Some (Compile way.main way.object way.sources))
    (to_run : second.task ≡ Some (Run way.input way.budget way.trace way.object))
    (to_cover : last.task ≡ Some (Coverage way.level way.annotation way.object (way.trace ∷ [])))
    (input_apart : way.input ≢ way.object) (trace_apart : way.trace ≢ way.object)
    (held : Held) (told : first.call.held ≡ Some held) (numbers : List ℤ) (input : HasInput way held numbers) where
  a_use : IsUse way.main way.object way.sources held first (second ∷ [])
  a_use = record {
    made = one;
    told = told;
    asked = to_compile;
    done = compiles;
    turn = (two, turn, tt);
    spared = (
      inl (writes_no_other way.object way.trace second.task (Run way.input way.budget way.trace way.object) to_run refl
          (λ same. trace_apart (sym same))),
      tt,
    );
  }

  left : (now : Held) × (first.call.held_after ≡ Some now) × Holds way.input input.bytes now
  left = stays way.input input.bytes first.call.held first.call.held_after held told input.there
      (one.others way.input (writes_no_other way.input way.object first.task (Compile way.main way.object way.sources) to_compile refl input_apart))

  ran : RanOn way.object second way.trace (numbers ∷ [])
  ran = record {
    input = way.input;
    budget = way.budget;
    asked = to_run;
    done = runs;
    held = left.0;
    told = turn ∙ left.1;
    bytes = input.bytes;
    there = left.2;
    numbers = numbers;
    read = input.read;
    alone = refl;
  }

  known : IsOfRuns way.object (second ∷ []) way.trace (numbers ∷ [])
  known = inl ran

  pub way_told : TellsTheSources way.level way.annotation way.main way.sources held (numbers ∷ []) last.call
  unfolding AUseTellsTheSources
  way_told = use_law way.main way.object way.sources held first (second ∷ []) a_use last (three, next) way.level way.annotation
      (way.trace ∷ []) to_cover covers (numbers ∷ []) (numbers ∷ [], [], refl, known, refl)
