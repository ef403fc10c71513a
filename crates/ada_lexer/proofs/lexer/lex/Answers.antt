use Rattle.std.proofs.Common.{arith}
use Rattle.std.proofs.lemmas.Grind.{common_steps}
use Rattle.std.proofs.Common.{◌≡◌, ◌<◌, ◌≤◌, Some, length}
use Rattle.ada_lexer.specs.declared.cut.Cut.TheVariants as cut
use Rattle.ada_lexer.specs.Cut.{cut_of}
use Rattle.ada_lexer.proofs.Places.{line_fits, col_fits}
use Rattle.ada_lexer.proofs.Cutting.{IsAt-within, blank_step, token_step}
use Rattle.ada_lexer.proofs.lexer.lex.Goals as goal

pub pos_after-pos-requires-clause-line : goal.pos_after-pos-requires-clause-line
pos_after-pos-requires-clause-line c =
    let at = c.loop-rest.invariant in
    let n = c.in-Some-Blank.length in
    let fits : n ≤ length c.loop-rest.rest.now = rw c.in-Some-Blank.field-0-is at c.in-Some-Blank.ensures.within in
    rw c.split_at.ensures.front_len (line_fits c.args.file c.args.source.now c.loop-rest.from n c.loop-rest.pos at.place (IsAt-within at n fits) c.requires)

pub pos_after-pos-requires-clause-column : goal.pos_after-pos-requires-clause-column
pos_after-pos-requires-clause-column c =
    let at = c.loop-rest.invariant in
    let n = c.in-Some-Blank.length in
    let fits : n ≤ length c.loop-rest.rest.now = rw c.in-Some-Blank.field-0-is at c.in-Some-Blank.ensures.within in
    rw c.split_at.ensures.front_len (col_fits c.args.file c.args.source.now c.loop-rest.from n c.loop-rest.pos at.place (IsAt-within at n fits) c.requires)

pub loop-rest-preserved-in-Some-Blank : goal.loop-rest-preserved-in-Some-Blank
loop-rest-preserved-in-Some-Blank c =
    let n = c.in-Some-Blank.length in
    let e : cut_of c.loop-rest.rest.now ≡ Some (cut.Blank n) = cc c.in-Some-Blank.ensures.cut in
    let fits : n ≤ length c.loop-rest.rest.now = rw c.in-Some-Blank.field-0-is at c.in-Some-Blank.ensures.within in
    let some : 0 < n = rw c.in-Some-Blank.field-0-is at c.in-Some-Blank.ensures.some in
    let h = c.split_at.ensures in
    rw (c.pos_after-pos.ensures, h.front, h.back) (blank_step c.loop-rest.invariant n e some fits)

pub pos_after-pos-requires-in-Some-Token-clause-line : goal.pos_after-pos-requires-in-Some-Token-clause-line
pos_after-pos-requires-in-Some-Token-clause-line c =
    let at = c.loop-rest.invariant in
    let n = c.in-Some-Token.length in
    let fits : n ≤ length c.loop-rest.rest.now = rw c.in-Some-Token.field-0-is at c.in-Some-Token.ensures.within in
    rw c.split_at-in-Some-Token.ensures.front_len (line_fits c.args.file c.args.source.now c.loop-rest.from n c.loop-rest.pos at.place (IsAt-within at n fits) c.requires)

pub pos_after-pos-requires-in-Some-Token-clause-column : goal.pos_after-pos-requires-in-Some-Token-clause-column
pos_after-pos-requires-in-Some-Token-clause-column c =
    let at = c.loop-rest.invariant in
    let n = c.in-Some-Token.length in
    let fits : n ≤ length c.loop-rest.rest.now = rw c.in-Some-Token.field-0-is at c.in-Some-Token.ensures.within in
    rw c.split_at-in-Some-Token.ensures.front_len (col_fits c.args.file c.args.source.now c.loop-rest.from n c.loop-rest.pos at.place (IsAt-within at n fits) c.requires)

pub overflow_cast-from-in-Some-Token : goal.overflow_cast-from-in-Some-Token
overflow_cast-from-in-Some-Token c =
    let n = c.in-Some-Token.length in
    let fits : n ≤ length c.loop-rest.rest.now = rw c.in-Some-Token.field-0-is at c.in-Some-Token.ensures.within in
    omega (arith, IsAt-within c.loop-rest.invariant n fits, c.requires)

pub overflow_add-from-in-Some-Token : goal.overflow_add-from-in-Some-Token
overflow_add-from-in-Some-Token c =
    let n = c.in-Some-Token.length in
    let fits : n ≤ length c.loop-rest.rest.now = rw c.in-Some-Token.field-0-is at c.in-Some-Token.ensures.within in
    omega (arith, IsAt-within c.loop-rest.invariant n fits, c.requires)

pub loop-rest-smaller : goal.loop-rest-smaller
loop-rest-smaller c =
    let n = c.in-Some-Token.length in
    let some : 0 < n = rw c.in-Some-Token.field-0-is at c.in-Some-Token.ensures.some in
    let fits : n ≤ length c.loop-rest.rest.now = rw c.in-Some-Token.field-0-is at c.in-Some-Token.ensures.within in
    omega (arith, some, fits, c.split_at-in-Some-Token.ensures.back_len)

pub loop-rest-preserved : goal.loop-rest-preserved
loop-rest-preserved c =
    let n = c.in-Some-Token.length in
    let e : cut_of c.loop-rest.rest.now ≡ Some (cut.Token c.in-Some-Token.lexeme n) = cc c.in-Some-Token.ensures.cut in
    let fits : n ≤ length c.loop-rest.rest.now = rw c.in-Some-Token.field-0-is at c.in-Some-Token.ensures.within in
    let some : 0 < n = rw c.in-Some-Token.field-0-is at c.in-Some-Token.ensures.some in
    let h = c.split_at-in-Some-Token.ensures in
    rw (c.in_ok-push-in-Some-Token.ensures.items, c.in_ok-make_token-in-Some-Token.ensures, c.pos_after-pos-in-Some-Token.ensures, h.front_len, h.front, h.back) (token_step c.loop-rest.invariant n c.in-Some-Token.lexeme e some fits)

pub make_token-requires : goal.make_token-requires
make_token-requires c = grind (arith, common_steps) steps 2000000

pub overflow_cast-from : goal.overflow_cast-from
overflow_cast-from c = grind (arith, common_steps) steps 2000000

pub returns-clause-rising : goal.returns-clause-rising
returns-clause-rising c = grind (arith, common_steps) steps 2000000

pub returns-clause-tokens : goal.returns-clause-tokens
returns-clause-tokens c = grind (arith, common_steps) steps 2000000

pub overflow_add-from : goal.overflow_add-from
overflow_add-from c = grind (arith, common_steps) steps 2000000
