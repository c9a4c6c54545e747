-- A refusal's line is short, and so is what a program prints where it is for every lists.
-- Assumes nothing.
use Prim.Native.Nat.{ℕ, zero, suc, ◌≤◌}
use mathlib.Core.Path.{◌≡◌, refl}
use mathlib.Core.Option.{Option, none, some}
use mathlib.Core.List.{List, [], ◌∷◌}
use native.Mathlib.Omega.{arith}
use lib.ListN.{length}
use Rattle.text.specs.Lines.{ascii}
use Rattle.text.proofs.Lengths.{line_short}
use Rattle.printing.specs.Limits.{max_line}
use Rattle.printing.specs.Printed.{refused_text, answer_text, printed}

pub refused_short : (n : ℕ) → length (refused_text n) ≤ max_line
unfolding refused_text
refused_short n = omega (arith, line_short (ascii "refused") (n ∷ []))

pub answer_short : (n : ℕ) (text : List ℕ) (most : ℕ) → max_line ≤ most → (n ≡ 0 → length text ≤ most) → length (answer_text n text) ≤ most
answer_short zero text most h short = short refl
answer_short (suc n) text most h short = omega (arith, refused_short (suc n))

pub printed_short : (text : List (List ℕ) → List ℕ) (most : ℕ) → max_line ≤ most → ((ls : List (List ℕ)) → length (text ls) ≤ most)
    → (found : Option (List (List ℕ))) → length (printed text found) ≤ most
unfolding printed
printed_short text most h short none = omega (arith, refused_short 20)
printed_short text most h short (some ls) = short ls
