use Rattle.std.proofs.Common.{◌≡◌, ◌∙◌, Some, sym, ap}
use Rattle.rv_isa.specs.Decoding.{instr_of}
use Rattle.rv_isa.proofs.Laws.{again}
use Rattle.rv_isa.proofs.codec.one_word.Goals as goal

pub returns : goal.returns
returns c i j i_is j_is same =
    let read : Some i ≡ Some j = sym (again i i_is) ∙ ap instr_of same ∙ again j j_is in cc
