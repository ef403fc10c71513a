-- What the check of the rows comes to.
use Rattle.std.proofs.Common.{◌≡◌, ◌≢◌, ◌↔◌, IsTrue, Bool, true, map, nat_lt, AllPairs, Result, IfOk}
use Rattle.std.specs.List.{list_all}
use Rattle.std.specs.declared.alloc.AllocError.{AllocError}
use Rattle.std.proofs.lemmas.Result.{IfOk-weaker}
use Rattle.object_format.specs.declared.object.Object.{Object}
use Rattle.object_format.specs.RowCheck.{start_of, is_in, PassesRow}
use Rattle.spelling.specs.Checks.{rising}

-- where the rows stand in the text and rise, only a start that has two is left
pub rows_pass : (o : Object) (r : Result Bool AllocError) → list_all (is_in o.text) o.rows ≡ true
    → rising (λ one next. nat_lt one.address next.address) o.rows ≡ true
    → IfOk r (λ once. IsTrue once ↔ AllPairs (λ one next. one ≢ next) (map start_of o.rows))
    → IfOk r (λ passes. IsTrue passes ↔ PassesRow o)
rows_pass o r placed rising once =
    IfOk-weaker r _ _ (λ b h. (λ yes. record { placed = placed; rising = rising; once = h.0 yes }, λ p. h.1 p.once)) once
