-- Ranges and types of a generic's text as they are seen through an instance, from outside that text (RM 12.3): each range in them is the
-- instance's. What another instance has stays that instance's.
use Rattle.std.specs.Prelude.{ℕ}
use Rattle.ada_meaning.specs.Types.{Range, range_of, Subtype, scalar, array, fields, subtype_of, Components, no_component, and_component}

abbrev pub range_seen : ℕ → Range → Range
range_seen inst (range_of i r) = range_of i r
range_seen inst r = range_of inst r

abbrev mutual
  pub subtype_seen : ℕ → Subtype → Subtype
  subtype_seen inst (scalar r) = scalar (range_seen inst r)
  subtype_seen inst (array r t) = array (range_seen inst r) (subtype_seen inst t)
  subtype_seen inst (fields cs) = fields (components_seen inst cs)
  subtype_seen inst (subtype_of i t) = subtype_of i t

  pub components_seen : ℕ → Components → Components
  components_seen inst no_component = no_component
  components_seen inst (and_component t cs) = and_component (subtype_seen inst t) (components_seen inst cs)
