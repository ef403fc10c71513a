use Rattle.std.proofs.Common.{arith}
use Rattle.std.proofs.lemmas.Grind.{common_steps}
use Rattle.std.proofs.Common.{[], ◌∷◌, ◌++◌, sym, ap, ◌∙◌}
use Rattle.ada_demands.proofs.ConstantLaws.{group_is, grouped_push, grouped_kept, grouped_same}
use Rattle.ada_demands.proofs.constants.GenericConstants.add.Goals as goal

pub invariant_of-self-in_err-push_both : goal.invariant_of-self-in_err-push_both
invariant_of-self-in_err-push_both c =
    let cs = c.self.inside.declared.items in
    let groups = c.make_room.new.groups.items in
    let there = c.in_ok-make_room.ensures.there in
    let group = group_is groups c.args.constant.generic c.index_mut-group.result.now there c.index_mut-group.ensures.value in
    grouped_kept cs c.push_both.new.declared.items groups c.args.constant.generic c.push_both.new.group
    (grouped_same cs c.self.inside.groups.items groups c.self.invariant c.make_room.ensures.same) there
    (c.in_err-push_both.ensures.group_kept ∙ sym group) c.in_err-push_both.ensures.kept

pub invariant_of-self-2 : goal.invariant_of-self-2
invariant_of-self-2 c =
    let cs = c.self.inside.declared.items in
    let groups = c.make_room.new.groups.items in
    let there = c.in_ok-make_room.ensures.there in
    let group = group_is groups c.args.constant.generic c.index_mut-group.result.now there c.index_mut-group.ensures.value in
    grouped_push cs c.push_both.new.declared.items groups c.args.constant c.push_both.new.group
    (grouped_same cs c.self.inside.groups.items groups c.self.invariant c.make_room.ensures.same) there
    (c.in_ok-push_both.ensures.grouped ∙ ap (λ l. l ++ c.args.constant ∷ []) (sym group)) c.in_ok-push_both.ensures.declared

pub returns : goal.returns
returns c = record { number = grind (arith, common_steps); added = grind (arith, common_steps) }

pub invariant_of-self-in_err-number : goal.invariant_of-self-in_err-number
invariant_of-self-in_err-number c = grind (arith, common_steps)
