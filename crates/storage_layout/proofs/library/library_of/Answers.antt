use Rattle.std.proofs.Common.{◌≡◌, ◌+◌, ◌-◌, length, ◌∙◌, arith, rules}
use Rattle.storage_layout.proofs.Instances.{next_words, next_places}
use Rattle.storage_layout.proofs.library.library_of.Goals as goal

pub loop-instance-preserved : goal.loop-instance-preserved
loop-instance-preserved c =
    let p = c.args.sizes.now.program.now in
    let i = c.loop-instance.instance in
    let last : c.in_ok-last.last ≡ length p.instances = search rules in
    let left = length p.instances + 1 - i in
    let less = length p.instances + 1 - (i + 1) in
    let inside : left ≡ less + 1 = omega (arith, last, c.loop-instance-test.true) in (
      next_places p left less i c.loop-instance.words.items c.push_instance.new.words.items c.in_ok-push_instance.field-0 c.loop-instance.places.items c.push.new.self.items inside
          c.in_ok-push_instance.ensures.words c.in_ok-push_instance.ensures.places c.in_ok-push.ensures.items ∙ c.loop-instance.invariant.0,
      next_words p left less i c.loop-instance.words.items c.push_instance.new.words.items inside c.in_ok-push_instance.ensures.words ∙ c.loop-instance.invariant.1,
    )
