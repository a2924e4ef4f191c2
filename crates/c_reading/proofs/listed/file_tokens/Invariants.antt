use Rattle.std.proofs.Common.{length, take}
use Rattle.std.specs.Prelude.{All}
use Rattle.c_reading.specs.FileTokens.{IsWithin}
use Rattle.c_reading.proofs.FileTokens.{AreTaken}
use Rattle.c_reading.proofs.listed.file_tokens.Given as goal

abbrev pub invariant-loop-token : goal.invariant-loop-token
invariant-loop-token l = record {
  taken : AreTaken l.bytes (take l.token-index l.token-items) l.kinds.items;
  within : All (IsWithin (length l.bytes)) l.kinds.items;
}
