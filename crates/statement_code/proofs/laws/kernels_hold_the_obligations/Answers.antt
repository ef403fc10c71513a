use Rattle.statement_code.proofs.Kernels.{well_formed_law, rows_law, conditions_law, leaves_law, raises_law}
use Rattle.statement_code.proofs.Own.{own_law, once_law}
use Rattle.statement_code.proofs.laws.kernels_hold_the_obligations.Goals as goal

pub returns : goal.returns
returns c = record {
  well_formed = λ p K s whole numbered graph graphs few. well_formed_law p K s whole graph (own_law p numbered graph graphs few);
  rows = rows_law;
  conditions = conditions_law;
  once = λ p K s whole numbered. once_law p numbered _ _ (rows_law p K s whole) (conditions_law p K s whole);
  leaves = leaves_law;
  raises = raises_law;
}
