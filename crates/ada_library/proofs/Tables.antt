-- Tables in which a key has the number that it was given first.
use Rattle.std.proofs.Common.{◌≡◌, ℕ, Bool, true, false, cond, List, [], ◌∷◌, map, Option, Some, None, is_some, if◌then◌else◌, refl, sym, ap, ◌∙◌, true≢false}
use Rattle.std.specs.Map.{lookup}
use Rattle.std.specs.Option.{option_or}
use Rattle.indexmap.specs.IndexMap.{insert_entry}

-- a key with its number, at its place or behind the others
abbrev pub put : {K : Type 0} → (K → Bool) → K → ℕ → List (K × ℕ) → List (K × ℕ)
put own key n [] = (key, n) ∷ []
put own key n (e ∷ es) = if own e.0 then (e.0, n) ∷ es else e ∷ put own key n es

-- a table as it is seen
module _ {C K : Type 0} (view : C → K) where
  abbrev pub seen : C × ℕ → K × ℕ
  seen e = (view e.0, e.1)

  pub lookup_seen : (s : C → Bool) (t : K → Bool) → ((c : C) → s c ≡ t (view c)) → (es : List (C × ℕ)) → lookup s es ≡ lookup t (map seen es)
  lookup_seen s t same [] = refl
  lookup_seen s t same (e ∷ es) = λ z. cond (same e.0 z) (Some e.1) (lookup_seen s t same es z)

  put_by : (b : Bool) (e : C × ℕ) (n : ℕ) (es fs : List (C × ℕ)) (gs : List (K × ℕ)) → map seen fs ≡ gs
      → map seen (if b then (e.0, n) ∷ es else e ∷ fs) ≡ (if b then (view e.0, n) ∷ map seen es else seen e ∷ gs)
  put_by true e n es fs gs h = refl
  put_by false e n es fs gs h = ap (λ gs. seen e ∷ gs) h

  pub put_seen : (eq : C → C → Bool) (own : K → Bool) (c : C) → ((d : C) → eq c d ≡ own (view d)) → (n : ℕ) (es : List (C × ℕ))
      → map seen (insert_entry eq es c n) ≡ put own (view c) n (map seen es)
  put_seen eq own c same n [] = refl
  put_seen eq own c same n (e ∷ es) =
      put_by (eq c e.0) e n es (insert_entry eq es c n) (put own (view c) n (map seen es)) (put_seen eq own c same n es)
      ∙ ap (λ b. if b then (view e.0, n) ∷ map seen es else seen e ∷ put own (view c) n (map seen es)) (same e.0)

-- look-ups, of which one is of the key itself
or_taken : (a b c : Option ℕ) → is_some a ≡ true → option_or a b ≡ option_or a c
or_taken None b c h = absurd (true≢false (sym h))
or_taken (Some x) b c h = refl

or_three : (o : Option ℕ) (b : Bool) (n : ℕ) (r : Option ℕ) → option_or (option_or o (cond b (Some n) None)) r ≡ option_or o (cond b (Some n) r)
or_three (Some x) b n r = refl
or_three None true n r = refl
or_three None false n r = refl

by_test : (c : Bool) (x : ℕ) (o p r : Option ℕ) → p ≡ option_or o r → cond c (Some x) p ≡ option_or (cond c (Some x) o) r
by_test true x o p r h = refl
by_test false x o p r h = h

module _ {Q K : Type 0} (test : Q → K → Bool) (own : Q) (key : K) (same : (q : Q) → test q key ≡ true → q ≡ own) where
  put_at : (b : Bool) (q : Q) (n : ℕ) (e : K × ℕ) (es fs : List (K × ℕ)) (o : Option ℕ) → cond b (Some e.1) o ≡ None
      → (o ≡ None → lookup (test q) fs ≡ option_or (lookup (test q) es) (cond (test q key) (Some n) None))
      → lookup (test q) (if b then (e.0, n) ∷ es else e ∷ fs) ≡ option_or (lookup (test q) (e ∷ es)) (cond (test q key) (Some n) None)
  put_at true q n e es fs o h rest = absurd (true≢false (ap is_some h))
  put_at false q n e es fs o h rest =
      by_test (test q e.0) e.1 (lookup (test q) es) (lookup (test q) fs) (cond (test q key) (Some n) None) (rest h)

  put_found : (q : Q) (n : ℕ) (es : List (K × ℕ)) → lookup (test own) es ≡ None
      → lookup (test q) (put (test own) key n es) ≡ option_or (lookup (test q) es) (cond (test q key) (Some n) None)
  put_found q n [] h = refl
  put_found q n (e ∷ es) h =
      put_at (test own e.0) q n e es (put (test own) key n es) (lookup (test own) es) h (put_found q n es)

  pub added : (q : Q) (n : ℕ) (es : List (K × ℕ)) (o : Option ℕ) → lookup (test own) es ≡ None
      → option_or (lookup (test q) (put (test own) key n es)) o ≡ option_or (lookup (test q) es) (cond (test q key) (Some n) o)
  added q n es o h = ap (λ x. option_or x o) (put_found q n es h) ∙ or_three (lookup (test q) es) (test q key) n o

  pub there_already : (q : Q) (n : ℕ) (es : List (K × ℕ)) (o : Option ℕ) → is_some (lookup (test own) es) ≡ true
      → option_or (lookup (test q) es) o ≡ option_or (lookup (test q) es) (cond (test q key) (Some n) o)
  there_already q n es o h = by_key (test q key) refl where
    by_key : (b : Bool) → test q key ≡ b → option_or (lookup (test q) es) o ≡ option_or (lookup (test q) es) (cond b (Some n) o)
    by_key true e =
        or_taken (lookup (test q) es) o (Some n) (ap (λ r. is_some (lookup (test r) es)) (same q e) ∙ h)
    by_key false e = refl

pub none_there : {A : Type 0} (o : Option A) → is_some o ≡ false → o ≡ None
none_there None h = refl
none_there (Some x) h = absurd (true≢false h)
