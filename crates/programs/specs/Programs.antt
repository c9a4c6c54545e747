-- What the programs print for the bytes on standard input, whatever they are.
-- Assumes nothing.
use Rattle.std.specs.Prelude.{ℕ, List, [], get_or}
use Rattle.printing.specs.Limits.{max_line}
use Rattle.printing.specs.Input.{given}
use Rattle.printing.specs.Printed.{printed}
use Rattle.transcript_text.specs.Limits.{max_text}
use Rattle.transcript_text.specs.Transcript as transcript
use Rattle.verdict_text.specs.Verdict as verdict
use Rattle.evaluate_text.specs.Output as output
use Rattle.programs.specs.declared.Program.{Program}
use Rattle.programs.specs.declared.Program.TheVariants.{Transcript, Verdict, Evaluate}

-- of "circuit, input, coins, transcript" the program `transcript` reads the first three, `verdict` all, `evaluate` the first two
abbrev pub arrays_of : Program → ℕ
arrays_of Transcript = 3
arrays_of Verdict = 4
arrays_of Evaluate = 2

-- what it prints for these lists
unfoldable pub text_of : Program → List (List ℕ) → List ℕ
text_of Transcript ls = transcript.lists_text (get_or ls 0 []) (get_or ls 1 []) (get_or ls 2 [])
text_of Verdict ls = verdict.lists_text (get_or ls 0 []) (get_or ls 1 []) (get_or ls 2 []) (get_or ls 3 [])
text_of Evaluate ls = output.lists_text (get_or ls 0 []) (get_or ls 1 [])

-- and for these bytes
unfoldable pub program_text : Program → List ℕ → List ℕ
program_text program bytes = printed (text_of program) (given (arrays_of program) bytes)

-- no text is longer
abbrev pub longest : Program → ℕ
longest Transcript = max_text
longest Verdict = max_line
longest Evaluate = output.max_text
