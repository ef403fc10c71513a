-- Names of sources, by the test of their number and by that of each.
use Rattle.std.proofs.Common.{◌≡◌, ◌≤◌, ◌&&◌, true, List, [], ◌∷◌, length, map, refl, leb-true}
use Rattle.std.specs.List.{AllByRecursion, list_all}
use Rattle.std.proofs.lemmas.List.{length-map}
use Rattle.std.proofs.lemmas.List.Folds.{list_all-map}
use Rattle.clap.specs.Words.{Text}
use Rattle.clap.proofs.WalkLemmas.{both}
use Rattle.command_words.specs.Task.{AreSources, are_sources, is_count, is_short}

-- the test of names that are kept as other values
pub sources_test : {X : Type 0} (text : X → Text) (xs : List X) → are_sources (map text xs) ≡ (is_count (length xs) && list_all (λ x. is_short (text x)) xs)
sources_test text xs = rw (length-map xs text, list_all-map is_short text xs) refl

each_short : (names : List Text) → list_all is_short names ≡ true → AllByRecursion (λ name. length name ≤ 4096) names
each_short [] e = tt
each_short (name ∷ names) e =
    let parts = both _ _ e in
    (leb-true (length name) 4096 parts.0, each_short names parts.1)

-- names that pass it
pub are_names : (names : List Text) → are_sources names ≡ true → AreSources names
are_names names e =
    let parts = both _ _ e in
    let counts = both _ _ parts.0 in
    record {
      some = leb-true 1 (length names) counts.0;
      few = leb-true (length names) 64 counts.1;
      short = each_short names parts.1;
    }
