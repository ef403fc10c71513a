-- Types, ranges and values of a generic's text as they are seen through an instance.
use Rattle.std.proofs.Common.{◌≡◌, ℕ, refl, sym, ap, ◌∙◌}
use Rattle.ada_rules.specs.ada_meaning.specs.Seen.{range_seen}
use Rattle.ada_rules.specs.ada_meaning.specs.Types.{Owner, here, of_instance, Static, Range, between, formal_range}
use Rattle.ada_tree.specs.View.{owner_of, range_by}
use Rattle.ada_tree.specs.declared.types.Owner.{Owner as CodeOwner}
use Rattle.ada_tree.specs.declared.types.Owner.TheVariants as owner
use Rattle.ada_rules.specs.Types.{Identity, AdaType, declared_in, integer_type, integer}
use Rattle.ada_rules.specs.Types as rules
use Rattle.ada_rules.specs.Entities.{owner_seen, type_seen, identity_seen}
use Rattle.ada_rules.proofs.Seen.{type_twice}
use Rattle.ada_entities.specs.Views.{Shape, array_shape, record_shape, shaped, TypeTables, actuals_of, type_by, identity_by, range_with}

-- a type that is seen through an instance, through another one
pub type_after : (k : TypeTables) (n : ℕ) (o : Owner) (t : AdaType) → type_by k (owner_seen n o) t ≡ type_seen n (actuals_of k n) (type_by k o t)
type_after k n here t = refl
type_after k n (of_instance i) t = sym (type_twice i (actuals_of k i) n (actuals_of k n) t)

by_owner : (o : CodeOwner) (r : Range) → range_by o r ≡ range_with (owner_of o) r
by_owner owner.Here r = refl
by_owner (owner.Instance n) r = refl

between_with : (n : ℕ) (o : Owner) (a b : Static) → range_with (owner_seen n o) (between a b) ≡ range_seen n (range_with o (between a b))
between_with n here a b = refl
between_with n (of_instance i) a b = refl

formal_with : (n : ℕ) (o : Owner) (place : ℕ) → range_with (owner_seen n o) (formal_range place) ≡ range_seen n (range_with o (formal_range place))
formal_with n here place = refl
formal_with n (of_instance i) place = refl

pub between_after : (n : ℕ) (o p : CodeOwner) (a b : Static) → owner_of p ≡ owner_seen n (owner_of o)
    → range_by p (between a b) ≡ range_seen n (range_by o (between a b))
between_after n o p a b h =
    by_owner p (between a b) ∙ (ap (λ w. range_with w (between a b)) h
    ∙ (between_with n (owner_of o) a b ∙ ap (range_seen n) (sym (by_owner o (between a b)))))

pub formal_after : (n : ℕ) (o p : CodeOwner) (place : ℕ) → owner_of p ≡ owner_seen n (owner_of o)
    → range_by p (formal_range place) ≡ range_seen n (range_by o (formal_range place))
formal_after n o p place h =
    by_owner p (formal_range place) ∙ (ap (λ w. range_with w (formal_range place)) h
    ∙ (formal_with n (owner_of o) place ∙ ap (range_seen n) (sym (by_owner o (formal_range place)))))

-- which type a composite type is
shape_identity : (i : Identity) (s : Shape) → rules.identity_of (shaped i s) ≡ i
shape_identity i (array_shape x c) = refl
shape_identity i (record_shape fs) = refl

seen_identity : (k : TypeTables) (n : ℕ) (i : Identity) (s : Shape) → rules.identity_of (type_seen n (actuals_of k n) (shaped i s)) ≡ identity_seen n i
seen_identity k n i (array_shape x c) = refl
seen_identity k n i (record_shape fs) = refl

pub composite_identity : (k : TypeTables) (o : Owner) (i : Identity) (s : Shape) → identity_by o i ≡ rules.identity_of (type_by k o (shaped i s))
composite_identity k here i s = sym (shape_identity i s)
composite_identity k (of_instance n) i s = sym (seen_identity k n i s)
