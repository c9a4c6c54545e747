-- What the program `evaluate` prints: `output` and the circuit's outputs, or `refused` and the number, one of 1 to 9 or 20.
-- Assumes nothing.
use Rattle.std.specs.Prelude.{ℕ, ◌+◌, ◌*◌, List}
use Rattle.circuit.specs.Limits.{max_outputs}
use Rattle.circuit.specs.Legal.{lists_cause}
use Rattle.circuit.specs.Values.{outputs}
use Rattle.text.specs.Lines.{ascii, line_text}
use Rattle.printing.specs.Printed.{answer_text}

-- the longest text: 7 bytes for the word and the line's end, and for each output a space and ten digits
abbrev pub max_text : ℕ
max_text = 7 + 11 * max_outputs

abbrev pub outputs_text : List ℕ → List ℕ
outputs_text ys = line_text (ascii "output") ys

-- 1 to 9 are Evaluate's refusals, but for a buffer of its caller
unfoldable pub lists_text : List ℕ → List ℕ → List ℕ
lists_text c input = answer_text (lists_cause c input) (outputs_text (outputs c input))
