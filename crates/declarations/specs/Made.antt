-- Declarations behind others that were made, of the rules' results.
use Rattle.std.specs.Prelude.{List, ◌++◌, Result, Ok, Err}
use Rattle.cov_base.specs.declared.position.Pos.{Pos}
use Rattle.ada_meaning.specs.Tree as tree
use Rattle.ada_rules.specs.Declarations.{Declared}

abbrev pub behind_made : List tree.Declaration → Declared → Declared
behind_made done d = record d { made = done ++ d.made }

abbrev pub behind : List tree.Declaration → Result Declared Pos → Result Declared Pos
behind done (Ok d) = Ok (behind_made done d)
behind done (Err p) = Err p
