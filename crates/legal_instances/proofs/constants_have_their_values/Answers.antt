use Rattle.legal_instances.proofs.OwnValues.{own_values, all_constants, served}
use Rattle.legal_instances.proofs.constants_have_their_values.Goals as goal

pub returns-clause-own : goal.returns-clause-own
returns-clause-own c = λ units main p is rise. own_values units main p is rise

pub returns-clause-typed : goal.returns-clause-typed
returns-clause-typed c = λ units main p is rise. all_constants units main p is rise

pub returns-clause-served : goal.returns-clause-served
returns-clause-served c = λ units main p is rise o inst stands s more. served units main p is rise o inst stands s more
