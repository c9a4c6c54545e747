-- What a program prints for bytes, from the lists that were read from them; and no text is longer than the program's longest.
-- Assumes nothing.
use Prim.Native.Nat.{ℕ, ◌+◌, ◌≤◌}
use mathlib.Core.Path.{◌≡◌, refl, ap, ◌∙◌}
use mathlib.Core.List.{List, [], ◌∷◌}
use native.Mathlib.Omega.{arith}
use lib.ListN.{length, take, drop, get_or}
use Rattle.std.proofs.Common.{subst}
use Rattle.std.specs.Prelude.{Option, Result, Ok, Err, None, Some, OnOk, IfSome}
use Rattle.std.specs.Io.KnownBytes.{Appends}
use Rattle.xdr.specs.Read.{refused, counts_of}
use Rattle.printing.specs.Limits.{max_bytes, max_line}
use Rattle.printing.specs.Input.{given}
use Rattle.printing.proofs.Input.{given_front}
use Rattle.printing.specs.Printed.{refused_text, printed}
use Rattle.printing.proofs.Parts.{Parts, refused_unfit, printed_lists}
use Rattle.printing.proofs.Lengths.{printed_short}
use Rattle.transcript_text.specs.Limits.{max_text}
use Rattle.transcript_text.proofs.Length as transcript
use Rattle.verdict_text.proofs.Lists as verdict
use Rattle.evaluate_text.proofs.Lists as output
use Rattle.programs.specs.declared.Program.{Program}
use Rattle.programs.specs.declared.Program.TheVariants.{Transcript, Verdict, Evaluate}
use Rattle.programs.specs.Programs.{arrays_of, text_of, program_text, longest}

-- only the first four lists count
four : (program : Program) (ls : List (List ℕ))
    → text_of program (get_or ls 0 [] ∷ get_or ls 1 [] ∷ get_or ls 2 [] ∷ get_or ls 3 [] ∷ []) ≡ text_of program ls
unfolding text_of
four Transcript ls = refl
four Verdict ls = refl
four Evaluate ls = refl

-- as many arrays are read as it calls for
module _ (program : Program) (bytes : List ℕ) (number : ℕ) (called-for : number ≡ arrays_of program) where
  printed_text : printed (text_of program) (given number bytes) ≡ program_text program bytes
  unfolding program_text
  printed_text = ap (λ (n : ℕ). printed (text_of program) (given n bytes)) called-for

  pub printed_unfit : (n : ℕ) → refused n ≡ counts_of (given number bytes) → refused_text n ≡ program_text program bytes
  printed_unfit n e = refused_unfit (text_of program) (given number bytes) n e ∙ printed_text

  pub printed_parts : (a b c d : ℕ) (words : List ℕ) → Parts (given number bytes) a b c d words
      → text_of program (take a words ∷ take b (drop a words) ∷ take c (drop (a + b) words) ∷ take d (drop (a + b + c) words) ∷ [])
      ≡ program_text program bytes
  printed_parts a b c d words p =
      rw (p.first, p.second, p.third, p.fourth)
      (four program p.lists ∙ printed_lists (text_of program) (given number bytes) p.lists p.are ∙ printed_text)

-- THE LENGTH
lists_short : (program : Program) (ls : List (List ℕ)) → length (text_of program ls) ≤ longest program
unfolding text_of
lists_short Transcript ls = transcript.lists_short (get_or ls 0 []) (get_or ls 1 []) (get_or ls 2 [])
lists_short Verdict ls = verdict.lists_short (get_or ls 0 []) (get_or ls 1 []) (get_or ls 2 []) (get_or ls 3 [])
lists_short Evaluate ls = output.lists_short (get_or ls 0 []) (get_or ls 1 [])

line_fits : (program : Program) → max_line ≤ longest program
line_fits Transcript = omega arith
line_fits Verdict = omega arith
line_fits Evaluate = omega arith

pub text_short : (program : Program) (bytes : List ℕ) → length (program_text program bytes) ≤ longest program
unfolding program_text
text_short program bytes =
    printed_short (text_of program) (longest program) (line_fits program) (lists_short program) (given (arrays_of program) bytes)

-- one buffer holds them all
pub longest_fits : (program : Program) → longest program ≤ max_text
longest_fits Transcript = omega arith
longest_fits Verdict = omega arith
longest_fits Evaluate = omega arith

-- THE INPUT
-- of bytes that are too many a program prints the same as of one byte more than may be read
text_front : (program : Program) (xs : List ℕ) → program_text program (take (max_bytes + 1) xs) ≡ program_text program xs
unfolding program_text
text_front program xs = ap (printed (text_of program)) (given_front (arrays_of program) xs)

-- a text that was printed for the bytes that were read of an input
pub text_known : {T E : Type 0} (r : Result T E) (input : Option (List ℕ)) (before after : Option (List ℕ)) (program : Program) (bytes : List ℕ)
    → IfSome input (λ xs. bytes ≡ take (max_bytes + 1) xs) → OnOk r (Appends before after (program_text program bytes))
    → OnOk r (IfSome input (λ xs. Appends before after (program_text program xs)))
text_known (Err e) input before after program bytes front printed = tt
text_known (Ok x) None before after program bytes front printed = tt
text_known (Ok x) (Some xs) before after program bytes front printed =
    subst (Appends before after) (ap (program_text program) front ∙ text_front program xs) printed
