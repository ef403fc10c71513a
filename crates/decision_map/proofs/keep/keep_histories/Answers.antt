use Rattle.std.proofs.Common.{◌≡◌, ◌<◌, ◌+◌, true, false, List, length, get_or, take, subst, sym, ◌∙◌}
use Rattle.line_table.specs.declared.roles.Role.{Role}
use Rattle.decision_map.specs.Mapped.{marked}
use Rattle.decision_map.proofs.Keeping.{nothing_kept, more_kept, is_kept, AreKindsBy}
use Rattle.decision_map.proofs.keep.keep_histories.Goals as goal
use Rattle.decision_map.proofs.keep.keep_histories.Goals.{then-is_kept, else-is_kept}

pub loop-role-init : goal.loop-role-init
loop-role-init c = record { items = c.as_slice-role-items.ensures; kinds = nothing_kept c.args.object.now c.args.kinds.now c.requires.kinds }

-- the role that is read
abbrev no_role : Role
no_role = record { address = 0; kind = record { 0 = 0 }; decision = record { 0 = 0 }; condition = record { 0 = 0 }; value = 0; instance = record { 0 = 0 } }

pub loop-role-preserved : goal.loop-role-preserved
loop-role-preserved c =
    let o = c.args.object.now in
    let i = c.loop-role.role-index in
    let items : c.as_slice-role-items.result.now ≡ o.roles = c.as_slice-role-items.ensures in
    let within : i < length o.roles = subst (λ (roles : List Role). i < length roles) items c.loop-role-test.true in
    let kept : c.is_kept.result ≡ is_kept o (get_or o.roles i no_role) =
    subst (λ (roles : List Role). c.is_kept.result ≡ is_kept o (get_or roles i no_role)) items c.is_kept.ensures in
    record {
      items = items;
      kinds = elim c.if-is_kept.branch [
        | then-is_kept w ↦
            let is : c.if-is_kept.kinds ≡ marked c.loop-role.kinds (get_or o.roles i no_role).address =
            w.kinds-is ∙ subst (λ (roles : List Role). w.mark.new.kinds ≡ marked c.loop-role.kinds (get_or roles i no_role).address) items w.mark.ensures in
            subst (AreKindsBy o (take (i + 1) o.roles)) (sym is)
            (more_kept o c.requires.mappable i no_role within c.loop-role.kinds c.loop-role.invariant.kinds true (sym w.if-is_kept.true ∙ kept))
        | else-is_kept w ↦
            subst (AreKindsBy o (take (i + 1) o.roles)) (sym w.kinds-is)
            (more_kept o c.requires.mappable i no_role within c.loop-role.kinds c.loop-role.invariant.kinds false (sym w.if-is_kept.false ∙ kept))
      ];
    }
