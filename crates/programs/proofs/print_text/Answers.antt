-- `print_text` meets its contract: the buffer holds every text.
use Rattle.std.proofs.Common.{arith, ◌≡◌, ap, ◌∙◌, subst, ℕ, List, take, ◌++◌, length}
use lib.Seq.{take-append_seam}
use Rattle.std.specs.Io.KnownBytes.{Appends}
use Rattle.text.proofs.Writing.{wrote_whole}
use Rattle.programs.specs.Programs.{program_text}
use Rattle.programs.proofs.Texts.{text_short, longest_fits}
use Rattle.programs.proofs.print_text.Goals as goal

-- what was written to the buffer's front is the text
text_front : (text rest after : List ℕ) (count : ℕ) → count ≡ length text → after ≡ text ++ rest → take count after ≡ text
text_front text rest after count size stands = ap (take count) stands ∙ ap (λ (k : ℕ). take k (text ++ rest)) size ∙ take-append_seam text rest

pub returns : goal.returns
returns g c =
    let text = program_text c.args.program c.args.bytes.now in
    let short = text_short c.args.program c.args.bytes.now in
    let most = longest_fits c.args.program in
    let whole = wrote_whole _ _ _ _ c.write_text-count.ensures (omega (arith, short, most)) in
    record {
      count = whole.0;
      short = omega (arith, short, whole.0);
      printed = subst (Appends _ _) (text_front _ _ _ _ whole.0 whole.1) c.in_ok-write_all.ensures.bytes;
    }
