-- What the reading of a file tells of its derivations.
use Rattle.std.proofs.Common.{◌≡◌, max, List, [], length, refl, sym, ◌∙◌, subst, arith}
use Rattle.ada_syntax.specs.declared.unit.Unit.{Unit as LibraryUnit}
use Rattle.expression_parser.specs.declared.extent.Extent.{Extent}
use Rattle.expression_parser.specs.Reading.{Tokens, Reading, Got, Stuck}
use Rattle.ada_parser.specs.Grammar.{AreUnits, IsFile}
use Rattle.expression_parser.specs.Syntax.{Agree}
use Rattle.ada_parser.specs.UnitReading as read
use Rattle.expression_parser.specs.Shows.{Reads}
use Rattle.expression_parser.proofs.Agree.{local_stuck}
use Rattle.expression_parser.proofs.Yields.{Yields}
use Rattle.ada_parser.proofs.UnitLocal.{file_local}
use Rattle.ada_parser.proofs.UnitSound.{file_sound}
use Rattle.ada_parser.proofs.UnitComplete.{file_complete}

module _ (x : Extent) where
  -- what was read derives the tokens
  pub file_derives : {units : List LibraryUnit} {tokens : Tokens} → Reads (read.file_by x) tokens (Got units []) → IsFile x units tokens
  file_derives {units} {tokens} r =
      let y = file_sound x (length tokens) tokens in
      subst (Yields (λ zs rest. rest ≡ [] → IsFile x zs tokens)) (r.by (length tokens) (omega arith)) (weak (read.file_by x (length tokens) tokens) y) refl
    where
      weak : (q : Reading (List LibraryUnit)) → Yields (λ zs rest. AreUnits x zs tokens rest) q → Yields (λ zs rest. rest ≡ [] → IsFile x zs tokens) q
      weak (Got zs rest) d = λ e. subst (λ r. AreUnits x zs tokens r) e d
      weak (Stuck rest) d = tt

  -- two trees of one token list are one
  pub file_unique : {units others : List LibraryUnit} {tokens : Tokens} → IsFile x units tokens → IsFile x others tokens → units ≡ others
  file_unique {units} {others} {tokens} d e =
      let p = sym (file_complete x (length tokens) d (omega arith)) ∙ file_complete x (length tokens) e (omega arith) in cc

  -- tokens in which reading gets stuck derive no file
  pub file_refused : {units : List LibraryUnit} {tokens at : Tokens} → Reads (read.file_by x) tokens (Stuck at) → IsFile x units tokens → ⊥
  file_refused {units} {tokens} {at} r d =
      let p = sym (r.by (length tokens) (omega arith)) ∙ file_complete x (length tokens) d (omega arith) in cc

  -- and so do those that begin with the tokens up to that place
  pub file_cut : {units : List LibraryUnit} {tokens at tokens' at' : Tokens} → Reads (read.file_by x) tokens (Stuck at) → Agree tokens at tokens' at' → IsFile x units tokens' → ⊥
  file_cut {units} {tokens} {at} {tokens'} {at'} r g d =
      let m = max (length tokens) (length tokens') in
      let same = local_stuck (read.file_by x m) tokens at tokens' at' (file_local x m tokens) (r.by m (omega arith)) g in
      let p = sym same ∙ file_complete x m d (omega arith) in cc
