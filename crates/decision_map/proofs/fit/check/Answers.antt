use Rattle.std.proofs.Common.{rules}
use Rattle.std.proofs.Common.{arith}
use Rattle.std.proofs.lemmas.Grind.{common_steps}
use Rattle.std.proofs.Common.{refl, sym, ◌∙◌}
use Rattle.std.proofs.lemmas.Result.{err_from_is_err_and}
use Rattle.decision_map.proofs.Fitting.{fault_law, past, here}
use Rattle.decision_map.proofs.Flags.{flat_law}
use Rattle.decision_map.proofs.fit.check.Goals as goal

pub returns-in_err-check_blocks : goal.returns-in_err-check_blocks
returns-in_err-check_blocks c =
    let p = err_from_is_err_and c.from_residual-in_err-check_blocks.result c.from_residual-in_err-check_blocks.ensures.1 in
    rw (p.1, p.2)
    (past _ c.in_ok-check_object.ensures.fault (past _ c.in_ok-check_ending.ensures (here _ _ c.in_err-check_blocks.ensures))
    ∙ fault_law c.args.object.now c.requires.mappable c.args.kinds.now c.requires.kinds c.args.view.now)

pub returns-in_err-check_edges : goal.returns-in_err-check_edges
returns-in_err-check_edges c =
    let p = err_from_is_err_and c.from_residual-in_err-check_edges.result c.from_residual-in_err-check_edges.ensures.1 in
    rw (p.1, p.2)
    (past _ c.in_ok-check_object.ensures.fault (past _ c.in_ok-check_ending.ensures (past _ c.in_ok-check_blocks.ensures (here _ _ c.in_err-check_edges.ensures)))
    ∙ fault_law c.args.object.now c.requires.mappable c.args.kinds.now c.requires.kinds c.args.view.now)

pub returns-in_err-check_addresses : goal.returns-in_err-check_addresses
returns-in_err-check_addresses c =
    let p = err_from_is_err_and c.from_residual-in_err-check_addresses.result c.from_residual-in_err-check_addresses.ensures.1 in
    rw (p.1, p.2)
    (past _ c.in_ok-check_object.ensures.fault (past _ c.in_ok-check_ending.ensures (past _ c.in_ok-check_blocks.ensures
    (past _ c.in_ok-check_edges.ensures (here _ _ c.in_err-check_addresses.ensures))))
    ∙ fault_law c.args.object.now c.requires.mappable c.args.kinds.now c.requires.kinds c.args.view.now)

pub check_edges_of_history-requires : goal.check_edges_of_history-requires
check_edges_of_history-requires c =
    flat_law c.args.kinds.now c.args.view.now.blocks c.check_object.ensures.ordered (sym c.in_ok-check_blocks.ensures) (sym c.in_ok-check_edges.ensures)

pub returns : goal.returns
returns c =
    c.check_edges_of_history.ensures
    ∙ past _ c.in_ok-check_object.ensures.fault (past _ c.in_ok-check_ending.ensures (past _ c.in_ok-check_blocks.ensures
    (past _ c.in_ok-check_edges.ensures (past _ c.in_ok-check_addresses.ensures refl))))
    ∙ fault_law c.args.object.now c.requires.mappable c.args.kinds.now c.requires.kinds c.args.view.now

pub check_blocks-requires-clause-few : goal.check_blocks-requires-clause-few
check_blocks-requires-clause-few c = grind (arith, common_steps) steps 2000000

pub check_edges-requires : goal.check_edges-requires
check_edges-requires c = search rules
