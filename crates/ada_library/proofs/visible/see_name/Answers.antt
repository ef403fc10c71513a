use Rattle.std.proofs.Common.{subst}
use Rattle.ada_library.specs.Seeing.{IsDenoted}
use Rattle.ada_library.proofs.SeenLaws.{see_one, see_none}
use Rattle.ada_library.proofs.visible.see_name.Goals as goal

pub returns-in-Some : goal.returns-in-Some
returns-in-Some c =
    let x = c.args.library.now in
    let units = c.args.interfaces.now in
    let lower = c.in_ok-lower.lower.items in
    let named = subst (λ n. IsDenoted x units n c.denoted.result) c.as_slice.ensures.value c.denoted.ensures in
    let one = subst (λ o. IsDenoted x units lower o) c.in-Some.is named in
    see_one x units c.args.name.now lower c.in_ok-lower.ensures c.args.region.now c.in-Some.entity c.see.new.self c.see.result one c.see.ensures

pub returns-in-None : goal.returns-in-None
returns-in-None c =
    let x = c.args.library.now in
    let units = c.args.interfaces.now in
    let lower = c.in_ok-lower.lower.items in
    let named = subst (λ n. IsDenoted x units n c.denoted.result) c.as_slice.ensures.value c.denoted.ensures in
    let none = subst (λ o. IsDenoted x units lower o) c.in-None.is named in
    see_none x units c.args.name.now lower c.in_ok-lower.ensures c.args.region.now none
