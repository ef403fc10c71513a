-- Laws of unions.
use Rattle.std.proofs.Common.{◌≡◌, Result, Ok, Err, OnOk, OnErr, sym, ap, ◌∙◌}
use Rattle.coverage_set.specs.Covered.{Covered, HasRun, Has, AreSame, IsUnion, ARun, AnEvent, HasPart}
use Rattle.coverage_set.specs.Joined.{IsUnionBy, swapped, regrouped, doubled}

-- a union of coverages is one of what they have
pub by_parts : (a b both : Covered) → IsUnion a b both → IsUnionBy HasPart a b both
by_parts a b both u (ARun digest) = u.runs digest
by_parts a b both u (AnEvent e) = u.events e

-- what a call answers that joins the second to the first
pub joined_parts : {T E : Type 0} (r : Result T E) (a b new : Covered) → OnOk r (IsUnion a b new) → OnOk r (IsUnionBy HasPart a b new)
joined_parts (Ok x) a b new u = by_parts a b new u
joined_parts (Err e) a b new u = tt

pub joined_object : {T E : Type 0} (r : Result T E) (a b new : Covered) → OnOk r (IsUnion a b new) → OnErr r (new ≡ a) → new.object ≡ a.object
joined_object (Ok x) a b new u same = u.object
joined_object (Err e) a b new u same = ap (λ (c : Covered). c.object) same

pub commutative : (a b ab ba : Covered) → a.object ≡ b.object → IsUnion a b ab → IsUnion b a ba → AreSame ab ba
commutative a b ab ba one u v = record {
  object = u.object ∙ one ∙ sym v.object;
  runs = λ digest. swapped (HasRun a digest) (HasRun b digest) (HasRun ab digest) (HasRun ba digest) (u.runs digest) (v.runs digest);
  events = λ e. swapped (Has a e) (Has b e) (Has ab e) (Has ba e) (u.events e) (v.events e);
}

pub associative : (a b c ab bc left right : Covered) → IsUnion a b ab → IsUnion ab c left → IsUnion b c bc → IsUnion a bc right → AreSame left right
associative a b c ab bc left right u v w x = record {
  object = v.object ∙ u.object ∙ sym x.object;
  runs = λ digest. regrouped (HasRun a digest) (HasRun b digest) (HasRun c digest) (HasRun ab digest) (HasRun bc digest) (HasRun left digest)
      (HasRun right digest) (u.runs digest) (v.runs digest) (w.runs digest) (x.runs digest);
  events = λ e. regrouped (Has a e) (Has b e) (Has c e) (Has ab e) (Has bc e) (Has left e) (Has right e) (u.events e) (v.events e) (w.events e) (x.events e);
}

pub idempotent : (a both : Covered) → IsUnion a a both → AreSame a both
idempotent a both u = record {
  object = sym u.object;
  runs = λ digest. doubled (HasRun a digest) (HasRun both digest) (u.runs digest);
  events = λ e. doubled (Has a e) (Has both e) (u.events e);
}
