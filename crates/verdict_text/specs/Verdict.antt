-- What the program `verdict` prints: `accepted`, or `refused` and the number.
-- Assumes nothing.
use Rattle.std.specs.Prelude.{ℕ, List, [], ◌∷◌, take, drop}
use Rattle.circuit.specs.Circuit.{output_exponent, width_of}
use Rattle.protocol.specs.Check.{check_answer}
use Rattle.text.specs.Lines.{ascii, line_text}
use Rattle.printing.specs.Printed.{answer_text}

abbrev pub accepted_text : List ℕ
accepted_text = line_text (ascii "accepted") []

-- Check's number for a transcript, which is 2^k_0 outputs and then the message words: of fewer words than outputs, all are outputs, and are refused
-- by 21. One without an output is none: 20.
abbrev pub lists_number : List ℕ → List ℕ → List ℕ → List ℕ → ℕ
lists_number c input cs [] = 20
lists_number c input cs (y ∷ ms) =
    check_answer c input (take (width_of (output_exponent c)) (y ∷ ms)) cs (drop (width_of (output_exponent c)) (y ∷ ms))

unfoldable pub lists_text : List ℕ → List ℕ → List ℕ → List ℕ → List ℕ
lists_text c input cs ts = answer_text (lists_number c input cs ts) accepted_text
