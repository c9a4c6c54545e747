-- What every program prints: "On a refusal a program prints only `refused` and the number." "Input above 65,536 bytes is 20".
-- Assumes nothing.
use Rattle.std.specs.Prelude.{ℕ, zero, suc, List, [], ◌∷◌}
use Rattle.std.proofs.Math.Option.{Option, none, some}
use Rattle.text.specs.Lines.{ascii, line_text}

unfoldable pub refused_text : ℕ → List ℕ
refused_text cause = line_text (ascii "refused") (cause ∷ [])

-- what is printed for an operation that answers this number: its text where nothing is refused
abbrev pub answer_text : ℕ → List ℕ → List ℕ
answer_text zero text = text
answer_text (suc cause) text = refused_text (suc cause)

-- what is printed for the lists that were read, or the refusal where there are none
unfoldable pub printed : (List (List ℕ) → List ℕ) → Option (List (List ℕ)) → List ℕ
printed text none = refused_text 20
printed text (some ls) = text ls
