-- The constants of each generic, as constants are added.
use Rattle.std.proofs.Common.{◌≡◌, ℕ, ◌<◌, Bool, true, false, List, [], ◌∷◌, ◌++◌, length, map, reverse, get_or, set, nat_eq, if◌then◌else◌, refl, sym, ap, ◌∙◌, arith}
use Rattle.std.specs.declared.vec.Vec.{Vec}
use Rattle.std.specs.declared.alloc.Global.{Global}
use Rattle.std.proofs.lemmas.Bool.Decides.{Decides-eqb}
use Rattle.std.proofs.lemmas.List.{length_push, map_push}
use mathlib.Core.List.{reverse-cons}
use Rattle.ada_meaning.specs.Program as program
use Rattle.ada_meaning.specs.Statics.{constants_of}
use Rattle.ada_tree.specs.declared.program.GenericConstant.{GenericConstant}
use Rattle.ada_tree.specs.Programs.{constant_of}
use Rattle.ada_demands.specs.Grouping.{group_at, AreGrouped}
use Rattle.ada_demands.proofs.GroupLaws.{at_changed, at_place}

pub constants_push : (g : ℕ) (cs : List program.GenericConstant) (c : program.GenericConstant)
    → constants_of g (cs ++ c ∷ []) ≡ (if nat_eq c.generic g then constants_of g cs ++ c ∷ [] else constants_of g cs)
constants_push g [] c = refl
constants_push g (x ∷ cs) c =
    more (nat_eq x.generic g) (nat_eq c.generic g) (constants_of g (cs ++ c ∷ [])) (constants_of g cs) (constants_push g cs c)
  where
    more : (b d : Bool) (whole part : List program.GenericConstant) → whole ≡ (if d then part ++ c ∷ [] else part)
        → (if b then x ∷ whole else whole) ≡ (if d then (if b then x ∷ part else part) ++ c ∷ [] else (if b then x ∷ part else part))
    more true true whole part e = ap (λ l. x ∷ l) e
    more true false whole part e = ap (λ l. x ∷ l) e
    more false true whole part e = e
    more false false whole part e = e

abbrev items_of : Vec GenericConstant Global → List GenericConstant
items_of v = v.items

-- the group at a place
pub group_is : (groups : List (Vec GenericConstant Global)) (i : ℕ) (v : Vec GenericConstant Global) → i < length groups → v ≡ get_or groups i v
    → group_at groups i ≡ v.items
group_is groups i v less e = at_place items_of [] groups i v less e

-- a constant that comes behind the others, in its group too
pub grouped_push : (cs ds : List GenericConstant) (groups : List (Vec GenericConstant Global)) (c : GenericConstant) (v : Vec GenericConstant Global)
    → AreGrouped cs groups → c.generic < length groups → v.items ≡ group_at groups c.generic ++ c ∷ [] → ds ≡ cs ++ c ∷ []
    → AreGrouped ds (set groups c.generic v)
grouped_push cs ds groups c v are less e added g =
    ap (map constant_of) (at_changed items_of [] groups c.generic v g less)
    ∙ (one (nat_eq c.generic g) (Decides-eqb c.generic g).0
    ∙ sym (ap (λ xs. constants_of g (map constant_of xs)) added
    ∙ (ap (constants_of g) (map_push constant_of cs c) ∙ constants_push g (map constant_of cs) (constant_of c))))
  where
    one : (b : Bool) → (b ≡ true → c.generic ≡ g) → map constant_of (if b then v.items else group_at groups g)
        ≡ (if b then constants_of g (map constant_of cs) ++ constant_of c ∷ [] else constants_of g (map constant_of cs))
    one true h =
        ap (map constant_of) (e ∙ ap (λ j. group_at groups j ++ c ∷ []) (h refl))
        ∙ (map_push constant_of (group_at groups g) c ∙ ap (λ l. l ++ constant_of c ∷ []) (are g))
    one false h = are g

-- where both stay as they are
pub grouped_kept : (cs ds : List GenericConstant) (groups : List (Vec GenericConstant Global)) (i : ℕ) (v : Vec GenericConstant Global)
    → AreGrouped cs groups → i < length groups → v.items ≡ group_at groups i → ds ≡ cs → AreGrouped ds (set groups i v)
grouped_kept cs ds groups i v are less e same g =
    ap (map constant_of) (at_changed items_of [] groups i v g less ∙ one (nat_eq i g) (Decides-eqb i g).0)
    ∙ (are g ∙ ap (λ xs. constants_of g (map constant_of xs)) (sym same))
  where
    one : (b : Bool) → (b ≡ true → i ≡ g) → (if b then v.items else group_at groups g) ≡ group_at groups g
    one true h = e ∙ ap (group_at groups) (h refl)
    one false h = refl

pub grouped_same : (cs : List GenericConstant) (groups others : List (Vec GenericConstant Global)) → AreGrouped cs groups
    → ((g : ℕ) → group_at others g ≡ group_at groups g) → AreGrouped cs others
grouped_same cs groups others are same g = ap (map constant_of) (same g) ∙ are g

-- in the other order there are as many
pub as_many_reversed : (g : ℕ) (cs : List program.GenericConstant) → length (constants_of g (reverse cs)) ≡ length (constants_of g cs)
as_many_reversed g [] = refl
as_many_reversed g (c ∷ cs) =
    ap (λ xs. length (constants_of g xs)) (reverse-cons c cs)
    ∙ (ap length (constants_push g (reverse cs) c) ∙ one (nat_eq c.generic g) (constants_of g (reverse cs)) (constants_of g cs) (as_many_reversed g cs))
  where
    one : (b : Bool) (xs ys : List program.GenericConstant) → length xs ≡ length ys
        → length (if b then xs ++ c ∷ [] else xs) ≡ length (if b then c ∷ ys else ys)
    one true xs ys e = omega (arith, e, length_push xs c)
    one false xs ys e = e
