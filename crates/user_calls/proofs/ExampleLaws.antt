-- The example's last file is of three runs.
use Rattle.std.proofs.Common.{◌≡◌, ◌≢◌, inl, inr, ℕ, ℤ, List, [], ◌∷◌, Option, Some, IfSome, refl, sym, subst, ◌∙◌}
use Rattle.command_words.specs.Task.{Task, Run, Consolidate}
use Rattle.commands.specs.TaskFiles.{output_of}
use Rattle.user_calls.specs.Calls.{ACall, Spares, RanOn, AreTogether, ConsolidatedOf, IsOfRuns}
use Rattle.user_calls.specs.Example.{Consolidated, ThreeRunsInOneFile}

abbrev some_name : List ℕ → Option (List ℕ)
some_name name = Some name

one_name : (a b : List ℕ) → some_name a ≡ some_name b → a ≡ b
one_name a b same = cc same

-- a call that writes another name spares this one
spares_other : (name other : List ℕ) (c : ACall) (asked : Task) → c.task ≡ Some asked → output_of asked ≡ Some other → name ≢ other → Spares name c
spares_other name other c asked is writes differ =
    inl (subst (λ (task : Option Task). IfSome task (λ asked. output_of asked ≢ Some name)) (sym is)
    (λ same. differ (one_name name other (sym same ∙ writes))))

run_spares : (object name other : List ℕ) (c : ACall) (inputs : List (List ℤ)) → RanOn object c other inputs → name ≢ other → Spares name c
run_spares object name other c inputs ran differ = spares_other name other c (Run ran.input ran.budget other object) ran.asked refl differ

consolidation_spares : (object name other : List ℕ) (c : ACall) (names : List (List ℕ)) → Consolidated object c other names → name ≢ other → Spares name c
consolidation_spares object name other c names done differ = spares_other name other c (Consolidate object other names) done.0 refl differ

-- the file of a consolidation, by the files that it took
merged : (object name : List ℕ) (c : ACall) (earlier : List ACall) (names : List (List ℕ)) (inputs : List (List ℤ)) → Consolidated object c name names
    → AreTogether (IsOfRuns object earlier) names inputs → IsOfRuns object (c ∷ earlier) name inputs
merged object name c earlier names inputs done are = inr (inl (record { names = names; asked = done.0; done = done.1; together = are }))

pub example_law : ThreeRunsInOneFile
unfolding ThreeRunsInOneFile
example_law = λ object one two both all x y a b c d apart also first second third fourth.
    let of_one : IsOfRuns object (b ∷ a ∷ []) one (x ∷ []) = inr (inr (run_spares object one two b (y ∷ []) second apart, inl first)) in
    let of_two : IsOfRuns object (b ∷ a ∷ []) two (y ∷ []) = inl second in
    let of_both : IsOfRuns object (c ∷ b ∷ a ∷ []) both (x ∷ y ∷ []) =
    merged object both c (b ∷ a ∷ []) (one ∷ two ∷ []) (x ∷ y ∷ []) third (x ∷ [], y ∷ [], refl, of_one, (y ∷ [], [], refl, of_two, refl)) in
    let still_one : IsOfRuns object (c ∷ b ∷ a ∷ []) one (x ∷ []) =
    inr (inr (consolidation_spares object one both c (one ∷ two ∷ []) third also, of_one)) in
    merged object all d (c ∷ b ∷ a ∷ []) (both ∷ one ∷ []) (x ∷ y ∷ x ∷ []) fourth
    (x ∷ y ∷ [], x ∷ [], refl, of_both, (x ∷ [], [], refl, still_one, refl))
