-- Lines of code: the items of a piece with what is said of each, and where they stand.
use Rattle.std.specs.Prelude.{◌≡◌, ℕ, ◌+◌, ◌%◌, true, List, [], ◌∷◌, ◌++◌, map, Option, Some, None}
use Rattle.cov_base.specs.declared.position.StmtId.{StmtId}
use Rattle.cov_base.specs.declared.position.DecId.{DecId}
use Rattle.cov_base.specs.declared.position.InstId.{InstId}
use Rattle.rv_isa.specs.declared.instr.Instr.{Instr}
use Rattle.rv_isa.specs.declared.instr.Instr.TheVariants.{Jal, Branch}
use Rattle.rv_isa.specs.declared.ops.BranchOp.{BranchOp}
use Rattle.rv_isa.specs.Immediates.{branch_offset, jump_offset}
use Rattle.rv_semantics.specs.Arithmetic.{sum_32}
use Rattle.rv_semantics.specs.State.{Image}
use Rattle.placed_code.specs.Code.{StandsAt}
use Rattle.transcript.specs.Facts.{Facts, Row, Condition}
use Rattle.assembler.specs.declared.piece.Item.{Item}
use Rattle.assembler.specs.declared.piece.Item.TheVariants.{Plain, Branch as BranchTo, Jump, Call}
use Rattle.assembler.specs.declared.piece.Mark.{Mark}
use Rattle.assembler.specs.declared.piece.Mark.TheVariants.{Row as RowMark, Role as RoleMark}

-- what is said of an item: nothing, that it is executed once for each start of a statement, that its
-- branch decides a condition and is taken where that is True, or that its branch belongs to a check
-- of the language or to other control flow
pub data Said : Type 0 where
  nothing : Said
  starts : (statement : StmtId) (instance : InstId) → Said
  decides : (decision : DecId) (at_node : ℕ) (instance : InstId) → Said
  checks : Said
  steers : Said

-- a line of code
pub record Line : Type 0 where
  pub item : Item
  pub said : Said

-- an instruction of which nothing is said
abbrev pub plain : Instr → Line
plain i = record { item = Plain i; said = nothing }

-- a jump to a label of the same piece
abbrev pub jump : ℕ → Line
jump to = record { item = Jump 0 (record { 0 = to }); said = nothing }

-- the items of lines
abbrev pub items_of : List Line → List Item
items_of lines = map (λ line. line.item) lines

-- the mark of an item at a place: kinds of roles are 0 for checks, 1 for other control flow and 2 for
-- conditions
abbrev pub mark_of : (place : ℕ) → Said → List Mark
mark_of place nothing = []
mark_of place (starts statement instance) = RowMark (record { 0 = place }) statement instance ∷ []
mark_of place (decides decision at_node instance) =
    RoleMark (record { 0 = place }) (record { 0 = 2 }) decision (record { 0 = at_node }) 1 instance ∷ []
mark_of place checks =
    RoleMark (record { 0 = place }) (record { 0 = 0 }) (record { 0 = 0 }) (record { 0 = 0 }) 0 (record { 0 = 0 }) ∷ []
mark_of place steers =
    RoleMark (record { 0 = place }) (record { 0 = 1 }) (record { 0 = 0 }) (record { 0 = 0 }) 0 (record { 0 = 0 }) ∷ []

-- the marks of lines, of which the first one is at a place
abbrev pub marks_from : (place : ℕ) → List Line → List Mark
marks_from place [] = []
marks_from place (line ∷ lines) = mark_of place line.said ++ marks_from (place + 1) lines

-- the row and the condition that are said of an item
abbrev pub row_said : Said → Option Row
row_said (starts statement instance) = Some (record { statement = statement; instance = instance })
row_said _ = None

abbrev pub condition_said : Said → Option Condition
condition_said (decides decision at_node instance) =
    Some (record { decision = decision; at_node = at_node; when_taken = true; instance = instance })
condition_said _ = None

-- where pieces stand: an image, what is said of its addresses, and the address of each label
pub record Site : Type 0 where
  pub image : Image
  pub facts : Facts
  pub address : (piece label : ℕ) → ℕ

-- a branch, and a jump, that stand at an address and lead to another
pub record BranchStands (image : Image) (from : ℕ) (op : BranchOp) (rs1 rs2 to : ℕ) : Type 0 where
  pub halves : ℕ
  pub stands : StandsAt image from (Branch op rs1 rs2 halves)
  pub lands : sum_32 from (branch_offset halves) ≡ to
  pub aligned : to % 4 ≡ 0

pub record JumpStands (image : Image) (from rd to : ℕ) : Type 0 where
  pub halves : ℕ
  pub stands : StandsAt image from (Jal rd halves)
  pub lands : sum_32 from (jump_offset halves) ≡ to
  pub aligned : to % 4 ≡ 0

-- an item of the piece `own` stands at an address
abbrev pub ItemStands : Site → (own from : ℕ) → Item → Type 0
ItemStands site own from (Plain i) = StandsAt site.image from i
ItemStands site own from (BranchTo op rs1 rs2 to) =
    BranchStands site.image from op rs1 rs2 (site.address own to.0)
ItemStands site own from (Jump rd to) = JumpStands site.image from rd (site.address own to.0)
ItemStands site own from (Call rd piece to) = JumpStands site.image from rd (site.address piece.0 to.0)

-- a line of the piece `own` stands at a place of it, with what is said of it
pub record LineStands (site : Site) (own place : ℕ) (line : Line) : Type 0 where
  pub item : ItemStands site own (site.address own place) line.item
  pub next : site.address own (place + 1) ≡ site.address own place + 4
  pub aligned : site.address own place % 4 ≡ 0
  pub row : site.facts.row (site.address own place) ≡ row_said line.said
  pub condition : site.facts.condition (site.address own place) ≡ condition_said line.said

-- lines stand from a place on
abbrev pub HasLines : Site → (own place : ℕ) → List Line → Type 0
HasLines site own place [] = Unit {0}
HasLines site own place (line ∷ lines) =
    LineStands site own place line × HasLines site own (place + 1) lines
