-- What rows say of types.
use Rattle.std.proofs.Common.{◌≡◌, ℕ, zero, suc, ◌+◌, ◌*◌, List, [], ◌∷◌, ◌++◌, Option, Some, None, IfSome, option_map, option_and_then, slice_get, refl, sym, ap, ◌∙◌, subst}
use Rattle.std.specs.Prelude.{unwrap_or}
use Rattle.std.proofs.lemmas.Option.{IfSome_then}
use Rattle.ada_meaning.proofs.SeenShapes.{seen_bounds}
use Rattle.ada_meaning.specs.Seen.{subtype_seen, components_seen}
use Rattle.ada_meaning.specs.Types as type
use Rattle.ada_meaning.specs.Types.{array, fields}
use Rattle.ada_tree.specs.declared.types.Owner.{Owner}
use Rattle.ada_tree.specs.declared.types.Owner.TheVariants.{Here, Instance}
use Rattle.ada_tree.specs.declared.types.ScalarRange.{ScalarRange}
use Rattle.ada_tree.specs.declared.types.Subtype.{Subtype}
use Rattle.ada_tree.specs.declared.types.Subtype.TheVariants as subtype
use Rattle.ada_tree.specs.declared.types.TypeDeclaration.{TypeDeclaration}
use Rattle.ada_tree.specs.Programs.{types_behind, types_of, unfolded}
use Rattle.ada_tree.specs.View.{composite_of, numbered, scalar_range_of, subtype_by, subtype_of}
use Rattle.ada_rules.specs.Limits.{length_of, words_in, words_in_fields}
use Rattle.ada_rules.specs.Statics.{Facts, bounds_in, instance_values}
use Rattle.word_limits.specs.declared.ranges.Scope.{Scope}
use Rattle.word_limits.specs.declared.ranges.Scope.TheVariants as scope
use Rattle.word_limits.specs.declared.rows.Entry.{Entry}
use Rattle.word_limits.specs.declared.rows.Row.{Row}
use Rattle.word_limits.specs.declared.rows.Row.TheVariants as row
use Rattle.word_limits.specs.Capped.{capped}
use Rattle.word_limits.specs.Ranges.{IsAt, owned, HasLength}
use Rattle.word_limits.specs.Rows.{Takes, AreEntries, IsRow, AreRows}
use Rattle.word_limits.proofs.CapLaws.{cap_product}

module _ (is : List Facts) where
  -- a type that is seen through an instance has its words there
  module _ (inst j : ℕ) where
    mutual
      seen_words : (t : type.Subtype) → words_in is inst (subtype_seen j t) ≡ words_in is j t
      seen_words (type.scalar r) = refl
      seen_words (type.array r t) = λ s. length_of (seen_bounds (instance_values is) inst j r s) * seen_words t s
      seen_words (type.fields cs) = seen_fields cs
      seen_words (type.subtype_of n t) = refl

      seen_fields : (cs : type.Components) → words_in_fields is inst (components_seen j cs) ≡ words_in_fields is j cs
      seen_fields type.no_component = refl
      seen_fields (type.and_component t cs) = λ s. seen_words t s + seen_fields cs s

  entry_there : (t : type.Subtype) (es : List Entry) (n : ℕ) → AreEntries is t es
      → IfSome (slice_get es n) (λ e. e.words ≡ capped (words_in is e.instance t))
  entry_there t [] n h = tt
  entry_there t (e ∷ es) zero h = h.0
  entry_there t (e ∷ es) (suc n) h = entry_there t es n h.1

  pub entry_found : (t : type.Subtype) (es : List Entry) (n : ℕ) (e : Entry) (inst : ℕ) → AreEntries is t es → slice_get es n ≡ Some e → e.instance ≡ inst
      → e.words ≡ capped (words_in is inst t)
  entry_found t es n e inst all found same =
      subst (λ o. IfSome o (λ e. e.words ≡ capped (words_in is e.instance t))) found (entry_there t es n all) ∙ ap (λ i. capped (words_in is i t)) same

  row_there : (ts : List type.Subtype) (rs : List Row) (n m : ℕ) → AreRows is ts rs → IfSome (slice_get rs n) (IsRow is (unwrap_or (slice_get ts n) (numbered m)))
  row_there [] [] n m h = tt
  row_there [] (r ∷ rs) n m h = absurd h
  row_there (t ∷ ts) [] n m h = tt
  row_there (t ∷ ts) (r ∷ rs) zero m h = h.0
  row_there (t ∷ ts) (r ∷ rs) (suc n) m h = row_there ts rs n m h.1

  pub row_found : (ts : List type.Subtype) (rs : List Row) (n : ℕ) (r : Row) → AreRows is ts rs → slice_get rs n ≡ Some r
      → IsRow is (unwrap_or (slice_get ts n) (numbered n)) r
  row_found ts rs n r all found = subst (λ o. IfSome o (IsRow is (unwrap_or (slice_get ts n) (numbered n)))) found (row_there ts rs n n all)

  pub entries_of : (t : type.Subtype) (r : Row) (es fs : List Entry) → r ≡ row.ByInstance es → fs ≡ es → IsRow is t r → AreEntries is t fs
  entries_of t r es fs e f h = subst (AreEntries is t) (sym f) (subst (IsRow is t) e h)

  pub taken_there : (t : type.Subtype) (s : Scope) (n : ℕ) (o : Option ℕ) → s ≡ scope.Instance n → IfSome o (λ w. w ≡ capped (words_in is n t)) → IfSome o (Takes is s t)
  taken_there t s n o e h =
      subst (λ s. IfSome o (Takes is s t)) (sym e) (IfSome_then o h (λ w is_so i at. is_so ∙ ap (λ j. capped (words_in is j t)) at))

  owned_takes : (s : Scope) (o : Owner) (n : ℕ) (ts : List type.Subtype) (w : ℕ) → Takes is (owned s o) (unwrap_or (slice_get ts n) (numbered n)) w
      → Takes is s (unfolded ts (subtype_by o (numbered n))) w
  owned_takes s Here n ts w h i at = h i at
  owned_takes s (Instance j) n ts w h i at = h j refl ∙ ap capped (by_case (slice_get ts n)) where
    by_case : (o : Option type.Subtype) → words_in is j (unwrap_or o (numbered n))
        ≡ words_in is i (unwrap_or (option_map (subtype_seen j) o) (type.subtype_of j (numbered n)))
    by_case None = refl
    by_case (Some t) = sym (seen_words i j t)

  pub composite_taken : (s there : Scope) (t : Subtype) (o : Owner) (n : ℕ) (ts : List type.Subtype) (r : Option ℕ) → t ≡ subtype.Composite o n → there ≡ owned s o
      → IfSome r (Takes is there (unwrap_or (slice_get ts n) (numbered n))) → IfSome r (Takes is s (unfolded ts (subtype_of t)))
  composite_taken s there t o n ts r e f h =
      subst (λ t. IfSome r (Takes is s (unfolded ts (subtype_of t)))) (sym e)
      (IfSome_then r (subst (λ x. IfSome r (Takes is x (unwrap_or (slice_get ts n) (numbered n)))) f h) (owned_takes s o n ts))

  one_array : (s : Scope) (r : ScalarRange) (t : type.Subtype) (n w : ℕ) → ((i : ℕ) → IsAt s i → n ≡ length_of (bounds_in is i (scalar_range_of r)))
      → Takes is s t w → Takes is s (array (scalar_range_of r) t) (capped (n * w))
  one_array s r t n w h k i at = (λ z. capped (h i at z * k i at z)) ∙ cap_product (length_of (bounds_in is i (scalar_range_of r))) (words_in is i t)

  pub array_taken : (s : Scope) (r : ScalarRange) (t : type.Subtype) (length part : Option ℕ) → HasLength is s r length → IfSome part (Takes is s t)
      → IfSome (option_and_then (λ n. option_map (λ w. capped (n * w)) part) length) (Takes is s (array (scalar_range_of r) t))
  array_taken s r t None part h k = tt
  array_taken s r t (Some n) None h k = tt
  array_taken s r t (Some n) (Some w) h k = one_array s r t n w h k

  pub entries_more : (t : type.Subtype) (es : List Entry) (e : Entry) → AreEntries is t es → e.words ≡ capped (words_in is e.instance t) → AreEntries is t (es ++ e ∷ [])
  entries_more t [] e h k = (k, tt)
  entries_more t (d ∷ es) e h k = (h.0, entries_more t es e h.1 k)

  pub rows_more : (ts : List type.Subtype) (rs : List Row) (t : type.Subtype) (r : Row) → AreRows is ts rs → IsRow is t r → AreRows is (ts ++ t ∷ []) (rs ++ r ∷ [])
  rows_more [] [] t r h k = (k, tt)
  rows_more [] (q ∷ rs) t r h k = absurd h
  rows_more (u ∷ ts) [] t r h k = absurd h
  rows_more (u ∷ ts) (q ∷ rs) t r h k = (h.0, rows_more ts rs t r h.1 k)

-- the rows so far are those of types that have been seen, behind which those that are left are all
pub record SoFar (is : List Facts) (all left : List TypeDeclaration) (rows : List Row) : Type 0 where
  pub seen : List type.Subtype
  pub are : AreRows is seen rows
  pub rest : types_behind seen left ≡ types_of all

pub one_more : (is : List Facts) (all left : List TypeDeclaration) (d : TypeDeclaration) (rows grown : List Row) (r : Row) → SoFar is all (d ∷ left) rows
    → ((ts : List type.Subtype) → AreRows is ts rows → IsRow is (unfolded ts (composite_of d.definition)) r) → grown ≡ rows ++ r ∷ []
    → SoFar is all left grown
one_more is all left d rows grown r s h e =
    let t = unfolded s.seen (composite_of d.definition) in
    record {
      seen = s.seen ++ t ∷ [];
      are = subst (AreRows is (s.seen ++ t ∷ [])) (sym e) (rows_more is s.seen rows t r s.are (h s.seen s.are));
      rest = s.rest;
    }

pub all_seen : (is : List Facts) (all : List TypeDeclaration) (rows : List Row) → SoFar is all [] rows → AreRows is (types_of all) rows
all_seen is all rows s = subst (λ ts. AreRows is ts rows) s.rest s.are

pub taken_at : (is : List Facts) (t : type.Subtype) (r : Option ℕ) (w i : ℕ) → r ≡ Some w → IfSome r (Takes is (scope.Instance i) t)
    → w ≡ capped (words_in is i t)
taken_at is t r w i e h = subst (λ o. IfSome o (Takes is (scope.Instance i) t)) e h i refl
