-- The laws of what stands within statements.
use Rattle.std.proofs.Common.{◌≡◌, ℕ, ◌<◌, ◌≤◌, List, length, refl, ap, arith}
use Rattle.ada_syntax.specs.declared.declaration.Declaration.{Declaration}
use Rattle.ada_syntax.specs.declared.declaration.DiscreteRange.{DiscreteRange}
use Rattle.ada_syntax.specs.declared.declaration.Initial.{Initial}
use Rattle.ada_syntax.specs.declared.declaration.Pragma.{Pragma}
use Rattle.expression_parser.specs.declared.symbol.Symbol.TheVariants as symbol
use Rattle.expression_parser.specs.declared.extent.Extent.{Extent}
use Rattle.expression_parser.specs.Reading.{Tokens, Got}
use Rattle.expression_parser.proofs.Agree.{Local}
use Rattle.expression_parser.proofs.Yields.{Yields}
use Rattle.declaration_parser.specs.Subtypes.{IsInitial, IsRange}
use Rattle.declaration_parser.specs.Declarations.{IsPragma, AreDeclarations}
use Rattle.declaration_parser.specs.SubtypeReading.{initial_by, range_by}
use Rattle.declaration_parser.specs.DeclarationReading.{pragma_by, declarations_by, begins_declaration}
use Rattle.expression_parser.proofs.Comes.{ends_at}
use Rattle.declaration_parser.proofs.SubtypeLocal.{initial_by_local, range_local}
use Rattle.declaration_parser.proofs.SubtypeSound.{initial_by_sound, range_sound}
use Rattle.declaration_parser.proofs.SubtypeComplete.{not_next, initial_shorter, range_shorter, initial_complete, range_complete}
use Rattle.declaration_parser.proofs.DeclarationLocal.{pragma_local, declarations_local}
use Rattle.declaration_parser.proofs.DeclarationSound.{pragma_sound, declarations_sound}
use Rattle.declaration_parser.proofs.DeclarationComplete.{pragma_shorter, declarations_shorter, pragma_complete, declarations_complete}
use Rattle.ada_parser.specs.Words.{Word, word}
use Rattle.ada_parser.proofs.Complete.{ends_word}

pub record ShortersBelow (x : Extent) : Type 0 where
  pub initial_shorter : (i : Initial) (ts rest : Tokens) → IsInitial x i ts rest → length rest < length ts
  pub range_shorter : (r : DiscreteRange) (ts rest : Tokens) → IsRange x r ts rest → length rest < length ts
  pub pragma_shorter : (a : Pragma) (ts rest : Tokens) → IsPragma x a ts rest → length rest < length ts
  pub declarations_shorter : (ds : List Declaration) (ts rest : Tokens) → AreDeclarations x ds ts rest → length rest ≤ length ts

pub record LocalsBelow (x : Extent) (m : ℕ) : Type 0 where
  pub initial_local : Local (initial_by x m)
  pub range_local : Local (range_by x m)
  pub pragma_local : Local (pragma_by x m)
  pub declarations_local : Local (declarations_by x m)

pub record SoundBelow (x : Extent) (m : ℕ) : Type 0 where
  pub initial_sound : (ts : Tokens) → Yields (λ i rest. IsInitial x i ts rest) (initial_by x m ts)
  pub range_sound : (ts : Tokens) → Yields (λ r rest. IsRange x r ts rest) (range_by x m ts)
  pub pragma_sound : (ts : Tokens) → Yields (λ a rest. IsPragma x a ts rest) (pragma_by x m ts)
  pub declarations_sound : (ts : Tokens) → Yields (λ ds rest. AreDeclarations x ds ts rest) (declarations_by x m ts)

pub record CompleteBelow (x : Extent) (m : ℕ) : Type 0 where
  pub initial_complete : (i : Initial) (ts us rest : Tokens) → IsInitial x i ts us → Word symbol.Semicolon us rest → length ts ≤ m → initial_by x m ts ≡ Got i us
  pub range_complete : (r : DiscreteRange) (ts us rest : Tokens) → IsRange x r ts us → Word symbol.Loop us rest → length ts ≤ m → range_by x m ts ≡ Got r us
  pub pragma_complete : (a : Pragma) (ts rest : Tokens) → IsPragma x a ts rest → length ts ≤ m → pragma_by x m ts ≡ Got a rest
  pub declarations_complete : (ds : List Declaration) (ts us rest : Tokens) → AreDeclarations x ds ts us → Word symbol.Begin us rest → length ts ≤ m → declarations_by x m ts ≡ Got ds us

pub shorters_below : (x : Extent) → ShortersBelow x
shorters_below x = record {
  initial_shorter = λ i ts rest d. initial_shorter x d;
  range_shorter = λ r ts rest d. range_shorter x d;
  pragma_shorter = λ a ts rest d. pragma_shorter x d;
  declarations_shorter = λ ds ts rest d. declarations_shorter x d;
}

pub locals_below : (x : Extent) (m : ℕ) → LocalsBelow x m
locals_below x m = record { initial_local = initial_by_local x m; range_local = range_local x m; pragma_local = pragma_local x m; declarations_local = declarations_local x m }

pub sound_below : (x : Extent) (m : ℕ) → SoundBelow x m
sound_below x m = record { initial_sound = initial_by_sound x m; range_sound = range_sound x m; pragma_sound = pragma_sound x m; declarations_sound = declarations_sound x m }

range_before_loop : (x : Extent) (m : ℕ) (r : DiscreteRange) (ts us rest : Tokens) → IsRange x r ts us → Word symbol.Loop us rest → length ts ≤ m → range_by x m ts ≡ Got r us
range_before_loop x m r ts us rest d (word {t = t} i) h = range_complete x m d h (ends_at 2 symbol.Loop t rest i (omega arith)) (not_next symbol.Loop symbol.DoubleDot t rest i refl)

declarations_before_begin : (x : Extent) (m : ℕ) (ds : List Declaration) (ts us rest : Tokens) → AreDeclarations x ds ts us → Word symbol.Begin us rest → length ts ≤ m → declarations_by x m ts ≡ Got ds us
declarations_before_begin x m ds ts us rest d (word i) h = declarations_complete x m d (ap begins_declaration i) h

pub complete_below : (x : Extent) (m : ℕ) → CompleteBelow x m
complete_below x m = record {
  initial_complete = λ i ts us rest d w h. initial_complete x d m h (ends_word 4 w (omega arith));
  range_complete = range_before_loop x m;
  pragma_complete = λ a ts rest d h. pragma_complete x m d;
  declarations_complete = declarations_before_begin x m;
}
