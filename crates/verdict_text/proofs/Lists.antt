-- What is printed for lists, from what a check answers. No text is longer than the line of a refusal.
-- Assumes nothing.
use Prim.Native.Nat.{ℕ, ◌≤◌, min}
use mathlib.Core.Path.{◌≡◌, refl, ap₂}
use mathlib.Core.List.{List, [], ◌∷◌}
use native.Mathlib.Omega.{arith}
use lib.ListN.{length, take, drop}
use Rattle.lists.proofs.Parts.{least_front, least_rest}
use Rattle.circuit.specs.Circuit.{output_exponent, width_of}
use Rattle.protocol.specs.Check.{check_answer}
use Rattle.text.specs.Lines.{ascii}
use Rattle.text.proofs.Lengths.{line_short}
use Rattle.printing.specs.Limits.{max_line}
use Rattle.printing.specs.Printed.{refused_text, answer_text}
use Rattle.printing.proofs.Lengths.{answer_short}
use Rattle.verdict_text.specs.Verdict.{accepted_text, lists_number, lists_text}

pub printed_empty : (c input cs ts : List ℕ) → length ts ≡ 0 → refused_text 20 ≡ lists_text c input cs ts
unfolding lists_text
printed_empty c input cs [] e = refl
printed_empty c input cs (y ∷ ms) e = absurd (omega arith)

pub printed_checked : (c input cs ts : List ℕ) (n : ℕ) → ¬ (length ts ≡ 0) → n ≡ min (length ts) (width_of (output_exponent c))
    → answer_text (check_answer c input (take n ts) cs (drop n ts)) accepted_text ≡ lists_text c input cs ts
unfolding lists_text
printed_checked c input cs [] n some e = absurd (some refl)
printed_checked c input cs (y ∷ ms) n some e =
    ap₂ (λ (ys ws : List ℕ). answer_text (check_answer c input ys cs ws) accepted_text)
    (least_front (width_of (output_exponent c)) (y ∷ ms) n e) (least_rest (width_of (output_exponent c)) (y ∷ ms) n e)

pub lists_short : (c input cs ts : List ℕ) → length (lists_text c input cs ts) ≤ max_line
unfolding lists_text
lists_short c input cs ts =
    answer_short (lists_number c input cs ts) accepted_text max_line (omega arith) (λ e. omega (arith, line_short (ascii "accepted") []))
