-- What was asked so far of each generic, as groups grow.
use Rattle.std.proofs.Common.{◌≡◌, ℕ, ◌<◌, List, [], ◌∷◌, ◌++◌, map, length, get_or, sym, ap, ◌∙◌}
use Rattle.std.specs.Borrow.{Bor}
use Rattle.std.specs.declared.vec.Vec.{Vec}
use Rattle.std.specs.declared.alloc.Global.{Global}
use Rattle.std.proofs.lemmas.List.{map_push}
use Rattle.ada_demands.specs.declared.demand.Demand.{Demand}
use Rattle.ada_demands.specs.declared.history.Group.{Group}
use Rattle.ada_demands.specs.Meeting.{lent}
use Rattle.ada_demands.specs.Past.{nothing, past_of, with_demand, with_instance}
use Rattle.ada_demands.proofs.GroupLaws.{at_place}

pub one_demand : (groups : List Group) (i : ℕ) (x : Group) (v : Vec (Bor Demand) Global) (d : Bor Demand) → i < length groups → x ≡ get_or groups i x
    → v.items ≡ x.demands.items ++ d ∷ []
    → past_of (record { demands = v; instances = x.instances }) ≡ with_demand d.now (get_or (map past_of groups) i nothing)
one_demand groups i x v d less e more =
    (λ t. record { demands = (ap lent more ∙ map_push (λ (b : Bor Demand). b.now) x.demands.items d) t; instances = x.instances.items })
    ∙ ap (with_demand d.now) (sym (at_place past_of nothing groups i x less e))

pub one_instance : (groups : List Group) (i : ℕ) (x : Group) (v : Vec ℕ Global) (n : ℕ) → i < length groups → x ≡ get_or groups i x
    → v.items ≡ x.instances.items ++ n ∷ []
    → past_of (record { demands = x.demands; instances = v }) ≡ with_instance n (get_or (map past_of groups) i nothing)
one_instance groups i x v n less e more =
    (λ t. record { demands = lent x.demands.items; instances = more t })
    ∙ ap (with_instance n) (sym (at_place past_of nothing groups i x less e))
