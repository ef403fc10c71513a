use Rattle.std.specs.Prelude.{ℕ, List, codes}
use Rattle.rv_semantics.specs.declared.stepped.TrapWhy.{TrapWhy}
use Rattle.rv_semantics.specs.declared.stepped.TrapWhy.TheVariants.{Outside, BadWord, Break, BadCall, Misaligned, Store}

-- the words by which the cause of a trap is told
abbrev pub trap_words : TrapWhy → List ℕ
trap_words Outside = codes "outside"
trap_words BadWord = codes "bad word"
trap_words Break = codes "break"
trap_words BadCall = codes "bad call"
trap_words Misaligned = codes "misaligned"
trap_words Store = codes "store into text"
