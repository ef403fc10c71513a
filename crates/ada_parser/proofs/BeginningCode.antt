-- How statements with statements in them begin, answer by answer.
use Rattle.std.proofs.Common.{◌≡◌, true, ◌∷◌, Option, Some, None, refl, sym, ap, subst, ◌∙◌}
use Rattle.cov_base.specs.declared.position.Pos.{Pos}
use Rattle.ada_syntax.specs.StatementTree.{Statement}
use Rattle.ada_syntax.specs.declared.statement.LoopScheme.TheVariants.{Forever}
use Rattle.expression_parser.specs.declared.symbol.Symbol.{Symbol}
use Rattle.expression_parser.specs.declared.symbol.Symbol.TheVariants as symbol
use Rattle.expression_parser.specs.declared.extent.Extent.{Extent}
use Rattle.expression_parser.specs.declared.extent.Extent.TheVariants.{Decisions, Types}
use Rattle.expression_parser.specs.Extents.{opens}
use Rattle.expression_parser.specs.Reading.{Tokens, Reading}
use Rattle.expression_parser.specs.Shows.{Reads}
use Rattle.ada_parser.specs.StatementDepth as at
use Rattle.ada_parser.specs.Beginnings.{extent_of, Begins}
use Rattle.ada_parser.proofs.CompoundCode.{an_if, a_case, a_loop, a_while, a_for, a_block, a_declaring}

module _ (x : Extent) where
  abbrev some_extent : Extent → Option Extent
  some_extent e = Some e

  same_extent : (a b : Extent) → some_extent a ≡ some_extent b → a ≡ b
  same_extent a b e = cc

  module _ (ts us : Tokens) (p : Pos) (q : Reading Statement) where
    -- what stands behind the word, read at the word's place
    behind : (s : Symbol) (b : Begins x ts s p us) (P : Pos → Reading Statement → Type 0) → P p q → P b.first.pos q
    behind s b P = subst (λ n. P n q) (sym b.place)

    on_front : (s : Symbol) (b : Begins x ts s p us) → Reads (at.at_compound x) (b.first ∷ us) q → Reads (at.at_compound x) ts q
    on_front s b = subst (λ zs. Reads (at.at_compound x) zs q) (sym b.front)

    opened : (s : Symbol) (e : Extent) (b : Begins x ts s p us) → extent_of s ≡ Some e → opens x e ≡ true
    opened s e b is = ap (opens x) (same_extent e b.needed (sym is ∙ b.needs)) ∙ b.is_open

    pub begins_if : Begins x ts symbol.If p us → Reads (at.at_if x p) us q → Reads (at.at_compound x) ts q
    begins_if b r = on_front symbol.If b (an_if x b.first us q b.is (opened symbol.If Decisions b refl) (behind symbol.If b (λ n z. Reads (at.at_if x n) us z) r))

    pub begins_case : Begins x ts symbol.Case p us → Reads (at.at_case x p) us q → Reads (at.at_compound x) ts q
    begins_case b r = on_front symbol.Case b (a_case x b.first us q b.is (opened symbol.Case Types b refl) (behind symbol.Case b (λ n z. Reads (at.at_case x n) us z) r))

    pub begins_loop : Begins x ts symbol.Loop p us → Reads (at.at_loop x p Forever) ts q → Reads (at.at_compound x) ts q
    begins_loop b r =
        on_front symbol.Loop b (a_loop x b.first us q b.is (opened symbol.Loop Decisions b refl)
        (behind symbol.Loop b (λ n z. Reads (at.at_loop x n Forever) (b.first ∷ us) z) (subst (λ zs. Reads (at.at_loop x p Forever) zs q) b.front r)))

    pub begins_while : Begins x ts symbol.While p us → Reads (at.at_while x p) us q → Reads (at.at_compound x) ts q
    begins_while b r = on_front symbol.While b (a_while x b.first us q b.is (opened symbol.While Decisions b refl) (behind symbol.While b (λ n z. Reads (at.at_while x n) us z) r))

    pub begins_for : Begins x ts symbol.For p us → Reads (at.at_for x p) us q → Reads (at.at_compound x) ts q
    begins_for b r = on_front symbol.For b (a_for x b.first us q b.is (opened symbol.For Types b refl) (behind symbol.For b (λ n z. Reads (at.at_for x n) us z) r))

    pub begins_block : Begins x ts symbol.Begin p us → Reads (at.at_block x p None) us q → Reads (at.at_compound x) ts q
    begins_block b r = on_front symbol.Begin b (a_block x b.first us q b.is (opened symbol.Begin Decisions b refl) (behind symbol.Begin b (λ n z. Reads (at.at_block x n None) us z) r))

    pub begins_declaring : Begins x ts symbol.Declare p us → Reads (at.at_declaring x p) us q → Reads (at.at_compound x) ts q
    begins_declaring b r = on_front symbol.Declare b (a_declaring x b.first us q b.is (opened symbol.Declare Decisions b refl) (behind symbol.Declare b (λ n z. Reads (at.at_declaring x n) us z) r))
