-- The marks of a generic, seen through an instance, are told by the identities that belong to the instance.
use Rattle.std.proofs.Common.{◌≡◌, ℕ, nat_eq, Bool, true, false, if◌then◌else◌, List, [], ◌∷◌, Option, Some, None, option_map, is_some, IfSome, refl, sym, ap, ◌∙◌}
use Rattle.std.proofs.lemmas.Bool.{eqb-true, eq-eqb}
use Rattle.cov_base.specs.Lists.{Everywhere}
use Rattle.ada_meaning.specs.Types.{Owner, here, of_instance}
use Rattle.ada_rules.specs.Types.{Identity, integer, natural, positive, boolean, declared_in, AdaSubtype}
use Rattle.ada_rules.specs.Entities.{Entity, hidden, mark, literal, object, formal_object, routine, raisable, component, test_io, unit, Region, entity_of, shown, Actual, identity_seen, subtype_seen, seen}
use Rattle.ada_rules.specs.Environment.{generic_interface}
use Rattle.ada_rules.specs.Expressions.{unless_formal, part_of_generic}
use Rattle.legal_texts.specs.Leading.{lead_of}
use Rattle.legal_texts.specs.Told.{Table, IsToldEntity, IsToldRegion, TellsMore, Names}
use Rattle.legal_texts.proofs.DeclaredHere.{IsIdentityOf}
use Rattle.legal_texts.proofs.UnitParts.{entity_so, shown_so}
use Rattle.legal_texts.proofs.MarkedNames.{IsMarked}
use Rattle.legal_laws.proofs.Passing.{every_so}

-- what an instance has for what its generic declares
abbrev pub seen_table : Table → ℕ → List Actual → Table
seen_table table k actuals (declared_in (of_instance i) u n) =
    if nat_eq i k then option_map (subtype_seen k actuals) (table (declared_in here u n)) else table (declared_in (of_instance i) u n)
seen_table table k actuals i = table i

-- marks of a generic's own
abbrev pub IsOwnMark : ℕ → Entity → Type 0
IsOwnMark g (mark i t) = IsIdentityOf here g i
IsOwnMark g x = Unit {0}

abbrev pub AreOwnMarks : ℕ → Region → Type 0
AreOwnMarks g region = Everywhere (λ e. IsOwnMark g e.1) region

module _ (table : Table) (k : ℕ) (actuals : List Actual) where
  abbrev now : Table
  now = seen_table table k actuals

  seen_here : (u n : ℕ) → now (declared_in (of_instance k) u n) ≡ option_map (subtype_seen k actuals) (table (declared_in here u n))
  seen_here u n =
      ap (λ b. if b then option_map (subtype_seen k actuals) (table (declared_in here u n)) else table (declared_in (of_instance k) u n)) (eq-eqb k k refl)

  pub seen_other : (i u n : ℕ) → (i ≡ k → ⊥) → now (declared_in (of_instance i) u n) ≡ table (declared_in (of_instance i) u n)
  seen_other i u n other = by_test (nat_eq i k) refl
    where
      by_test : (b : Bool) → nat_eq i k ≡ b
          → (if b then option_map (subtype_seen k actuals) (table (declared_in here u n)) else table (declared_in (of_instance i) u n)) ≡ table (declared_in (of_instance i) u n)
      by_test true e = absurd (other (eqb-true i k e))
      by_test false e = refl

  -- where nothing was told of this instance
  pub seen_more_told : ((u n : ℕ) → table (declared_in (of_instance k) u n) ≡ None) → TellsMore table now
  seen_more_told silent integer t h = h
  seen_more_told silent natural t h = h
  seen_more_told silent positive t h = h
  seen_more_told silent boolean t h = h
  seen_more_told silent (declared_in here u n) t h = h
  seen_more_told silent (declared_in (of_instance i) u n) t h = by_test (nat_eq i k) refl
    where
      by_test : (b : Bool) → nat_eq i k ≡ b
          → (if b then option_map (subtype_seen k actuals) (table (declared_in here u n)) else table (declared_in (of_instance i) u n)) ≡ Some t
      by_test true e = absurd (cc (sym (silent u n) ∙ (ap (λ j. table (declared_in (of_instance j) u n)) (sym (eqb-true i k e)) ∙ h)))
      by_test false e = h

  -- of a unit of which nothing is told, nothing is told of it in the instance
  pub seen_none : (m j : ℕ) → ((o : Owner) → table (declared_in o m j) ≡ None) → (o : Owner) → now (declared_in o m j) ≡ None
  seen_none m j none here = none here
  seen_none m j none (of_instance i) = by_test (nat_eq i k)
    where
      by_test : (b : Bool) → (if b then option_map (subtype_seen k actuals) (table (declared_in here m j)) else table (declared_in (of_instance i) m j)) ≡ None
      by_test true = ap (option_map (subtype_seen k actuals)) (none here)
      by_test false = none (of_instance i)

  -- a mark that is seen
  module _ (g : ℕ) where
    mark_seen : (i : Identity) (t : AdaSubtype) → table i ≡ Some t → IsIdentityOf here g i → now (identity_seen k i) ≡ Some (subtype_seen k actuals t)
    mark_seen i t told own =
        ap (λ j. now (identity_seen k j)) own.is
        ∙ (seen_here g own.number ∙ (ap (λ j. option_map (subtype_seen k actuals) (table j)) (sym own.is) ∙ ap (option_map (subtype_seen k actuals)) told))

    abbrev IsSeenMark : Entity → Type 0
    IsSeenMark x = IsMarked (Names now) (lead_of (Some (seen k actuals x)))

    entity_seen : (x : Entity) → IsToldEntity table x → IsOwnMark g x → IsSeenMark x
    entity_seen hidden h own = tt
    entity_seen (mark i t) h own = mark_seen i t h own
    entity_seen (literal t x) h own = tt
    entity_seen (object v) h own = tt
    entity_seen (formal_object t e) h own = tt
    entity_seen (routine r) h own = tt
    entity_seen (raisable e) h own = tt
    entity_seen component h own = tt
    entity_seen test_io h own = tt
    entity_seen (unit n) h own = tt

    all_seen : (region : Region) → IsToldRegion table region → AreOwnMarks g region → Everywhere (λ e. IsSeenMark e.1) region
    all_seen region told own =
        every_so (λ e. IsToldEntity table e.1 × IsOwnMark g e.1) (λ e. IsSeenMark e.1) region (λ e h. entity_seen e.1 h.0 h.1)
        (both_of region told own)
      where
        both_of : (r : Region) → IsToldRegion table r → AreOwnMarks g r → Everywhere (λ e. IsToldEntity table e.1 × IsOwnMark g e.1) r
        both_of [] h k = tt
        both_of (e ∷ es) h k = ((h.0, k.0), both_of es h.1 k.1)

    mapped_seen : (o : Option Entity) → IfSome o IsSeenMark → IsMarked (Names now) (lead_of (option_map (seen k actuals) o))
    mapped_seen None h = tt
    mapped_seen (Some x) h = h

    unless_seen : (formals : Region) (name : List ℕ) (o : Option Entity) → IfSome o IsSeenMark → IfSome (unless_formal formals name o) IsSeenMark
    unless_seen formals name o h = by_test (is_some (entity_of name formals))
      where
        by_test : (b : Bool) → IfSome (if b then None else o) IsSeenMark
        by_test true = tt
        by_test false = h

    -- what the instance shows of the generic
    pub parts_seen : (formals region : Region) → IsToldRegion table region → AreOwnMarks g region → (name : List ℕ)
        → IsMarked (Names now) (lead_of (part_of_generic k actuals name (generic_interface formals region)))
    parts_seen formals region told own name =
        mapped_seen (unless_formal formals name (shown (entity_of name region)))
        (unless_seen formals name (shown (entity_of name region))
        (shown_so IsSeenMark (entity_of name region) (entity_so IsSeenMark name region (all_seen region told own))))
