use Rattle.coverage_set.proofs.UnionLaws.{joined_parts, joined_object}
use Rattle.coverage_set.proofs.coverage.CoverageJoin.TheImpl.Goals as goal

-- the clauses of the trait by those of coverages
pub join-tells : goal.join-tells
join-tells g c = record {
  union = joined_parts c.result c.args.self.now c.args.other.now c.new.self.now c.ensures.ok;
  alike = joined_object c.result c.args.self.now c.args.other.now c.new.self.now c.ensures.ok c.ensures.err;
  refused = c.ensures.err;
}
