-- How each form of the manual's section 'Base Instruction Formats' lays its fields out in a word of
-- 32 bits.
use Rattle.std.specs.Prelude.{ℕ, ◌+◌, ◌-◌, ◌*◌, ◌/◌, ◌%◌, ◌^◌}

-- the bits from `high` down to `low` of a number, as the manual's imm[11:5] has them
abbrev pub bit_range : (n high low : ℕ) → ℕ
bit_range n high low = n / 2 ^ low % 2 ^ (high + 1 - low)

-- form R: two sources and a destination
abbrev pub r_word : (funct7 rs2 rs1 funct3 rd opcode : ℕ) → ℕ
r_word funct7 rs2 rs1 funct3 rd opcode =
    funct7 * 2 ^ 25 + rs2 * 2 ^ 20 + rs1 * 2 ^ 15 + funct3 * 2 ^ 12 + rd * 2 ^ 7 + opcode

-- form I: imm[11:0] in place of the second source and funct7
abbrev pub i_word : (imm rs1 funct3 rd opcode : ℕ) → ℕ
i_word imm rs1 funct3 rd opcode = imm * 2 ^ 20 + rs1 * 2 ^ 15 + funct3 * 2 ^ 12 + rd * 2 ^ 7 + opcode

-- form S: imm[11:5] in place of funct7, and imm[4:0] in place of the destination
abbrev pub s_word : (imm rs2 rs1 funct3 opcode : ℕ) → ℕ
s_word imm rs2 rs1 funct3 opcode = r_word (bit_range imm 11 5) rs2 rs1 funct3 (bit_range imm 4 0) opcode

-- form B: imm[12|10:5] in place of funct7, and imm[4:1|11] in place of the destination, where imm
-- counts bytes
abbrev pub b_word : (halves rs2 rs1 funct3 opcode : ℕ) → ℕ
b_word halves rs2 rs1 funct3 opcode =
    let imm = halves * 2 in
    r_word
    (bit_range imm 12 12 * 2 ^ 6 + bit_range imm 10 5)
    rs2
    rs1
    funct3
    (bit_range imm 4 1 * 2 + bit_range imm 11 11)
    opcode

-- form U: imm[31:12] above the destination
abbrev pub u_word : (imm rd opcode : ℕ) → ℕ
u_word imm rd opcode = imm * 2 ^ 12 + rd * 2 ^ 7 + opcode

-- form J: imm[20|10:1|11|19:12] above the destination, where imm counts bytes
abbrev pub j_word : (halves rd opcode : ℕ) → ℕ
j_word halves rd opcode =
    let imm = halves * 2 in
    bit_range imm 20 20 * 2 ^ 31 +
    bit_range imm 10 1 * 2 ^ 21 +
    bit_range imm 11 11 * 2 ^ 20 +
    bit_range imm 19 12 * 2 ^ 12 +
    rd * 2 ^ 7 +
    opcode

-- the fields of a word, whatever its form

abbrev pub opcode_of : ℕ → ℕ
opcode_of w = bit_range w 6 0

abbrev pub rd_of : ℕ → ℕ
rd_of w = bit_range w 11 7

abbrev pub funct3_of : ℕ → ℕ
funct3_of w = bit_range w 14 12

abbrev pub rs1_of : ℕ → ℕ
rs1_of w = bit_range w 19 15

abbrev pub rs2_of : ℕ → ℕ
rs2_of w = bit_range w 24 20

abbrev pub funct7_of : ℕ → ℕ
funct7_of w = bit_range w 31 25

-- the immediate of a word of each form: its raw bits, and for B and J the number of half-words

abbrev pub i_imm_of : ℕ → ℕ
i_imm_of w = bit_range w 31 20

abbrev pub s_imm_of : ℕ → ℕ
s_imm_of w = bit_range w 31 25 * 2 ^ 5 + bit_range w 11 7

abbrev pub b_halves_of : ℕ → ℕ
b_halves_of w =
    bit_range w 31 31 * 2 ^ 11 +
    bit_range w 7 7 * 2 ^ 10 +
    bit_range w 30 25 * 2 ^ 4 +
    bit_range w 11 8

abbrev pub u_imm_of : ℕ → ℕ
u_imm_of w = bit_range w 31 12

abbrev pub j_halves_of : ℕ → ℕ
j_halves_of w =
    bit_range w 31 31 * 2 ^ 19 +
    bit_range w 19 12 * 2 ^ 11 +
    bit_range w 20 20 * 2 ^ 10 +
    bit_range w 30 21
