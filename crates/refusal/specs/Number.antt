-- The specification's number of each refusal.
-- Assumes nothing.
use Rattle.std.specs.Prelude.{ℕ, Result, Ok, Err}
use Rattle.refusal.specs.declared.Cause.{Cause}
use Rattle.refusal.specs.declared.Cause.TheVariants.{HeaderShort, PrimeUnlisted, DepthRange, ExponentRange, WordCount, GateKind, GateWires, InputCount, InputWord, BufferShort}
use Rattle.refusal.specs.declared.Cause.TheVariants.{CoinCount, CoinWord, OutputWord, MessageLength, MessageWord, RoundDiffers, LineDiffers, InputDiffers, RecordUnfit, BytesUnfit, OutputCount}

abbrev pub number_of : Cause → ℕ
number_of HeaderShort = 1
number_of PrimeUnlisted = 2
number_of DepthRange = 3
number_of ExponentRange = 4
number_of WordCount = 5
number_of GateKind = 6
number_of GateWires = 7
number_of InputCount = 8
number_of InputWord = 9
number_of BufferShort = 10
number_of CoinCount = 11
number_of CoinWord = 12
number_of OutputWord = 13
number_of MessageLength = 14
number_of MessageWord = 15
number_of RoundDiffers = 16
number_of LineDiffers = 17
number_of InputDiffers = 18
number_of RecordUnfit = 19
number_of BytesUnfit = 20
number_of OutputCount = 21

-- the number of an answer that a refusal may stand in place of; 0 where none does
abbrev pub cause_of : {A : Type 0} → Result A Cause → ℕ
cause_of (Ok _) = 0
cause_of (Err cause) = number_of cause
