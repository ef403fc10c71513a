use Rattle.std.proofs.Common.{refl, ap, ◌∙◌}
use Rattle.std.specs.Option.{option_map}
use Rattle.vector_rebuild.specs.Rebuilt.{half_as, key_in}
use Rattle.vector_rebuild.proofs.rebuild.Rebuild.reserve.Goals as goal

pub returns-clause-kept : goal.returns-clause-kept
returns-clause-kept c = record { kept = λ k. ap (option_map half_as) (c.reserve.ensures.alike (key_in k)); count = refl }

pub returns-clause-fed : goal.returns-clause-fed
returns-clause-fed c = λ o fed r. record {
  follow = r.follow;
  kept = λ k. ap (option_map half_as) (c.reserve.ensures.alike (key_in k)) ∙ r.kept k;
  count = r.count;
}
