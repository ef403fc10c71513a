-- The state of the walk, where a body is added to what was found.
use Rattle.std.proofs.Common.{◌≡◌, ℕ, ◌+◌, ◌<◌, ◌≤◌, List, [], ◌∷◌, ◌++◌, length, drop, get_or, map, reverse, Option, refl, sym, ap, ◌∙◌}
use Rattle.std.proofs.lemmas.List.{at_drop_all, at_drop_more, append_assoc, append-nil, reverse-reverse}
use Rattle.std.specs.declared.alloc.Global.{Global}
use Rattle.std.specs.declared.vec.Vec.{Vec}
use Rattle.ada_tree.specs.Programs.{subprogram_of, unfolded_block}
use Rattle.ada_tree.specs.declared.program.Parameter.{Parameter}
use Rattle.ada_tree.specs.declared.program.Subprogram.{Subprogram}
use Rattle.ada_tree.specs.declared.types.Subtype.{Subtype}
use Rattle.ada_meaning.specs.Tree as tree
use Rattle.ada_rules.specs.Environment.{State, beginning_state, Env}
use Rattle.ada_rules.specs.Subprograms.{Profile, typed_parameters, declared_only, body_made}
use Rattle.ada_entities.specs.EntityViews.{Tables}
use Rattle.program_walk.specs.declared.place.Notes.{Notes}
use Rattle.program_walk.specs.Places.{with_notes}
use Rattle.program_walk.specs.declared.counts.Counts.{Counts}
use Rattle.program_walk.specs.declared.found.Found.{Found}
use Rattle.program_walk.specs.declared.found.SubprogramWords.{SubprogramWords}
use Rattle.program_walk.specs.declared.found.Word.{Word}
use Rattle.program_walk.specs.Finding.{FindsSubprogramWords, FindsSubprogram}
use Rattle.program_walk.specs.States.{types_in, subtype_there, word_of, subprogram_words_of, with_counts, with_found, kept_state}
use Rattle.unit_walk.specs.Recording.{RecordsBody}
use Rattle.specifications.specs.Typed.{parameters_there}

-- the subtypes of objects, one by one
module _ (ws : List Word) (j : ℕ) where
  pub turn_subtypes : (d : Word) (done new : List Subtype) → j < length ws → new ≡ done ++ (get_or ws j d).subtype ∷ []
      → new ++ map (λ (x : Word). x.subtype) (drop (j + 1) ws) ≡ done ++ map (λ (x : Word). x.subtype) (drop j ws)
  turn_subtypes d done new less added =
      let rest = map (λ (x : Word). x.subtype) (drop (j + 1) ws) in
      ap (λ xs. xs ++ rest) added
      ∙ (append_assoc done ((get_or ws j d).subtype ∷ []) rest
      ∙ ap (λ xs. done ++ xs) (sym (at_drop_more (λ xs. map (λ (x : Word). x.subtype) xs) ws j d less)))

  pub all_subtypes : (done : List Subtype) → length ws ≤ j → done ++ map (λ (x : Word). x.subtype) (drop j ws) ≡ done
  all_subtypes done none =
      ap (λ xs. done ++ xs) (at_drop_all (λ xs. map (λ (x : Word). x.subtype) xs) ws j none) ∙ append-nil done

twice : {A B C : Type 0} (f : A → B) (g : B → C) (xs : List A) → map g (map f xs) ≡ map (λ x. g (f x)) xs
twice f g [] = refl
twice f g (x ∷ xs) = ap (λ ys. g (f x) ∷ ys) (twice f g xs)

-- what was found, without the objects of the subprogram
abbrev pub emptied : Found → Vec Word Global → Found
emptied f words = record f { words = words }

pub body_recorded : (old second new : Found) (empty words : Vec Word Global) (d : SubprogramWords) (x : Subprogram) (generic : Option ℕ)
    (qs : List Parameter) (b : tree.Block) → empty.items ≡ [] → words ≡ old.words
    → d ≡ record { generic = generic; words = words } → FindsSubprogramWords (emptied old empty) second d → FindsSubprogram second new x
    → x.generic ≡ generic → x.parameters ≡ qs → x.objects ≡ map (λ (w : Word). w.subtype) words.items → x.body ≡ b
    → RecordsBody old new generic qs b
body_recorded old second new empty words d x generic qs b none same is_words listed found g ps os body k s =
    let objects = ap (map (subtype_there k)) (os ∙ ap (λ (v : Vec Word Global). map (λ (w : Word). w.subtype) v.items) same)
    ∙ twice (λ (w : Word). w.subtype) (subtype_there k) old.words.items in
    let given = is_words ∙ ap (λ (v : Vec Word Global). record { generic = generic; words = v }) same in
    found k s
    ∙ (ap (λ (t : State). record t { subprograms = subprogram_of (types_in k) x ∷ t.subprograms }) (listed k s)
    ∙ (λ z. record (with_found k old s) {
      words = reverse (map (word_of k) (none z));
      subprogram_words = subprogram_words_of k (given z) ∷ (with_found k old s).subprogram_words;
      subprograms = record {
        generic = g z;
        parameters = parameters_there k (ps z);
        objects = objects z;
        body = unfolded_block (types_in k) (body z);
      } ∷ (with_found k old s).subprograms;
    }))

-- and in the state of the rules
pub body_is_made : (k : Tables) (n : Notes) (c : Counts) (old new : Found) (generic : Option ℕ) (qs : List Parameter) (b made : tree.Block)
    (env : Env) (before : State) (q : Profile) → RecordsBody old new generic qs b → env.generic ≡ generic
    → parameters_there k qs ≡ typed_parameters 0 q.parameters → unfolded_block (types_in k) b ≡ made
    → declared_only before (with_notes k n (kept_state k c new)) ≡ body_made env before q made (with_notes k n (kept_state k c old))
body_is_made k n c old new generic qs b made env before q recorded g ps body =
    let words = sym (reverse-reverse (map (word_of k) old.words.items)) in
    let objects = sym (twice (word_of k) (λ w. w.subtype) old.words.items) ∙ ap (map (λ w. w.subtype)) words in
    ap (λ (t : State). declared_only before (with_notes k n t)) (recorded k (with_counts c beginning_state))
    ∙ (λ z. record (with_notes k n (kept_state k c old)) {
      objects = before.objects;
      words = before.words;
      subprogram_words = record { generic = sym g z; words = words z } ∷ (kept_state k c old).subprogram_words;
      subprograms = record {
        generic = sym g z;
        parameters = ps z;
        objects = objects z;
        body = body z;
      } ∷ (kept_state k c old).subprograms;
    })
