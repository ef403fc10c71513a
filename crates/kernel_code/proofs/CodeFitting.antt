-- The lines of code can be placed in a piece that is long enough.
use Rattle.std.proofs.Common.{ℕ, zero, suc, ◌+◌, ◌≤◌, ◌<◌, true, false, List, [], ◌∷◌, ◌++◌, map, length, refl, arith}
use Rattle.cov_base.specs.declared.position.DecId.{DecId}
use Rattle.cov_base.specs.declared.position.InstId.{InstId}
use Rattle.cov_base.specs.Graph.{Edges}
use Rattle.kernel_ir.specs.declared.code.Edge.{Edge}
use Rattle.kernel_ir.specs.declared.code.Edge.TheVariants.{Leaf, NodeAfter}
use Rattle.kernel_ir.specs.declared.kernel.Kernel.{Kernel}
use Rattle.kernel_ir.specs.Tree.{Op, simple, choose, forever, for_loop, exit, returns, catch, decide, call, Code, no_op, and_op, Nodes, no_node, and_node}
use Rattle.kernel_ir.specs.Limits.{OpFits, CodeFits, NodesFit}
use Rattle.kernel_code.specs.Line.{plain, jump}
use Rattle.kernel_code.specs.Words.{store_slot}
use Rattle.kernel_code.specs.SimpleCode.{Setting, Targets}
use Rattle.kernel_code.specs.Code.{op_length, code_length, nodes_length, node_place, edge_place, inside, guarded, op_lines, code_lines, nodes_lines, body_targets, body_lines, start_lines}
use Rattle.kernel_code.specs.Calls.{first_layout, setting}
use Rattle.kernel_code.proofs.Lengths.{op_long, code_long, nodes_long}
use Rattle.kernel_code.proofs.Fitting.{LinesFit, fits_at, fits_behind}
use Rattle.kernel_code.proofs.SimpleFits.{simple_fits}
use Rattle.kernel_code.proofs.CodeMarks.{rest_of_nodes, after_decision, end_of_body}

-- nodes that follow lie up to their end
node_within : (n : ℕ) (ns : Nodes) (p : ℕ) → node_place n ns p ≤ p + nodes_length ns
node_within zero ns p = omega arith
node_within (suc n) no_node p = omega arith
node_within (suc n) (and_node a k t f ns) p = omega (arith, node_within n ns (p + code_length a + 8))

edge_within : (end true_at false_at : ℕ) (ns : Nodes) (p : ℕ) (edge : Edge) → true_at ≤ end → false_at ≤ end → p + nodes_length ns ≤ end → edge_place true_at false_at ns p edge ≤ end
edge_within end true_at false_at ns p (Leaf true) on_true on_false within = on_true
edge_within end true_at false_at ns p (Leaf false) on_true on_false within = on_false
edge_within end true_at false_at ns p (NodeAfter n) on_true on_false within = omega (arith, node_within n ns p)

-- the labels to which code may lead lie in the piece
pub record AreInside (end : ℕ) (t : Targets) : Type 0 where
  pub raise_to : t.raise_to ≤ end
  pub exit_to : t.exit_to ≤ end
  pub return_to : t.return_to ≤ end

module _ (p : Kernel) (graph : DecId → List Edges) (bound width count end : ℕ) (all : first_layout p + length p.layouts ≤ count) where
  abbrev e : Setting
  e = setting p width

  -- code that is left for the place behind its jump back
  inside_fits : (t : Targets) (place : ℕ) (a : Code) → AreInside end t → place + (code_length a + 1) ≤ end → AreInside end (inside t place a)
  inside_fits t place a targets within = record { raise_to = targets.raise_to; exit_to = omega arith; return_to = targets.return_to }

  loop_fits : (t : Targets) (place : ℕ) (a : Code) → LinesFit count end place (code_lines e (inside t place a) place a) → place + (code_length a + 1) ≤ end
      → LinesFit count end place (code_lines e (inside t place a) place a ++ (jump place ∷ []))
  loop_fits t place a fits within =
      let long = code_long e (inside t place a) place a in
      fits_behind count end place (place + code_length a) (code_lines e (inside t place a) place a) (jump place ∷ []) (omega arith) fits (omega arith, tt)

  mutual
    pub op_fits : (t : Targets) (place : ℕ) (o : Op) → AreInside end t → OpFits p bound graph o → place + op_length o ≤ end → LinesFit count end place (op_lines e t place o)
    op_fits t place (simple s) targets fits within = simple_fits p bound width count end t.raise_to place targets.raise_to all s fits within
    op_fits t place (choose k a b) targets fits within =
        let long = code_long e t (place + 6) a in (
          tt,
          (
            tt,
            (
              tt,
              (
                tt,
                (
                  (omega arith, omega arith, omega arith),
                  (
                    omega arith,
                    fits_at count end (place + 6) (place + 1 + 1 + 1 + 1 + 1 + 1)
                        (code_lines e t (place + 6) a ++ (jump (place + 7 + code_length a + code_length b) ∷ code_lines e t (place + 7 + code_length a) b)) (omega arith)
                        (fits_behind count end (place + 6) (place + 6 + code_length a) (code_lines e t (place + 6) a)
                        (jump (place + 7 + code_length a + code_length b) ∷ code_lines e t (place + 7 + code_length a) b) (omega arith)
                        (code_fits t (place + 6) a targets fits.1 (omega arith)) (
                          omega arith,
                          fits_at count end (place + 7 + code_length a) (place + 6 + code_length a + 1) (code_lines e t (place + 7 + code_length a) b) (omega arith)
                              (code_fits t (place + 7 + code_length a) b targets fits.2 (omega arith)),
                        )),
                  ),
                ),
              ),
            ),
          ),
        )
    op_fits t place (forever a) targets fits within =
        loop_fits t place a (code_fits (inside t place a) place a (inside_fits t place a targets within) fits (omega arith)) within
    op_fits t place (for_loop a) targets fits within =
        loop_fits t place a (code_fits (inside t place a) place a (inside_fits t place a targets within) fits (omega arith)) within
    op_fits t place exit targets fits within = (targets.exit_to, tt)
    op_fits t place returns targets fits within = (targets.return_to, tt)
    op_fits t place (catch a k b) targets fits within =
        let long = code_long e (guarded t place a) place a in
        fits_behind count end place (place + code_length a) (code_lines e (guarded t place a) place a)
        (jump (place + code_length a + 4 + code_length b) ∷ (map plain (store_slot 12 k []) ++ code_lines e t (place + code_length a + 4) b)) (omega arith)
        (code_fits (guarded t place a) place a (record { raise_to = omega arith; exit_to = targets.exit_to; return_to = targets.return_to }) fits.0 (omega arith)) (
          omega arith,
          (
            tt,
            (
              tt,
              (
                tt,
                fits_at count end (place + code_length a + 4) (place + code_length a + 1 + 1 + 1 + 1) (code_lines e t (place + code_length a + 4) b) (omega arith)
                    (code_fits t (place + code_length a + 4) b targets fits.2 (omega arith)),
              ),
            ),
          ),
        )
    op_fits t place (decide d i k ns) targets fits within =
        let true_at = place + nodes_length ns in
        let long = nodes_long e t true_at (true_at + 5) d i 0 place ns in
        fits_behind count end place true_at (nodes_lines e t true_at (true_at + 5) d i 0 place ns) (after_decision (true_at + 9) k) (omega arith)
        (nodes_fit t true_at (true_at + 5) d i 0 place ns targets (omega arith) (omega arith) fits.5 (omega arith))
        (tt, (tt, (tt, (tt, (omega arith, (tt, (tt, (tt, (tt, tt)))))))))
    op_fits t place (call f) targets fits within = (
      tt,
      (
        tt,
        (
          (omega arith, omega arith, omega arith),
          (
            targets.raise_to,
            (tt, (tt, (tt, ((omega arith, refl), (tt, (tt, (tt, ((omega arith, omega arith, omega arith), (targets.raise_to, tt))))))))),
          ),
        ),
      ),
    )

    pub code_fits : (t : Targets) (place : ℕ) (a : Code) → AreInside end t → CodeFits p bound graph a → place + code_length a ≤ end → LinesFit count end place (code_lines e t place a)
    code_fits t place no_op targets fits within = tt
    code_fits t place (and_op o a) targets fits within =
        let long = op_long e t place o in
        fits_behind count end place (place + op_length o) (op_lines e t place o) (code_lines e t (place + op_length o) a) (omega arith)
        (op_fits t place o targets fits.0 (omega arith)) (code_fits t (place + op_length o) a targets fits.1 (omega arith))

    nodes_fit : (t : Targets) (true_at false_at : ℕ) (d : DecId) (i : InstId) (n place : ℕ) (ns : Nodes) → AreInside end t → true_at ≤ end → false_at ≤ end
        → NodesFit p bound graph ns → place + nodes_length ns ≤ end → LinesFit count end place (nodes_lines e t true_at false_at d i n place ns)
    nodes_fit t true_at false_at d i n place no_node targets on_true on_false fits within = tt
    nodes_fit t true_at false_at d i n place (and_node a k to_true to_false ns) targets on_true on_false fits within =
        let long = code_long e t place a in
        let next = place + code_length a + 8 in
        fits_behind count end place (place + code_length a) (code_lines e t place a) (rest_of_nodes e t true_at false_at d i n place a k to_true to_false ns) (omega arith)
        (code_fits t place a targets fits.0 (omega arith)) (
          tt,
          (
            tt,
            (
              tt,
              (
                tt,
                (
                  tt,
                  (
                    (omega arith, omega arith, omega arith),
                    (
                      edge_within end true_at false_at ns next to_false on_true on_false (omega arith),
                      (
                        edge_within end true_at false_at ns next to_true on_true on_false (omega arith),
                        fits_at count end next (place + code_length a + 1 + 1 + 1 + 1 + 1 + 1 + 1 + 1) (nodes_lines e t true_at false_at d i (suc n) next ns) (omega arith)
                            (nodes_fit t true_at false_at d i (suc n) next ns targets on_true on_false fits.4 (omega arith)),
                      ),
                    ),
                  ),
                ),
              ),
            ),
          ),
        )

  pub body_fits : (a : Code) → CodeFits p bound graph a → code_length a + 6 ≤ end → LinesFit count end 0 (body_lines e a)
  body_fits a fits within =
      let long = code_long e (body_targets a) 2 a in (
        tt,
        (
          tt,
          fits_behind count end 2 (2 + code_length a) (code_lines e (body_targets a) 2 a) end_of_body (omega arith)
              (code_fits (body_targets a) 2 a (record { raise_to = omega arith; exit_to = omega arith; return_to = omega arith }) fits (omega arith))
              (tt, (tt, (tt, (tt, tt)))),
        ),
      )

  pub start_fits : p.main < length p.bodies → LinesFit count end 0 (start_lines p.main)
  start_fits known = (tt, (tt, (tt, ((omega arith, refl), (tt, (tt, (tt, tt)))))))
