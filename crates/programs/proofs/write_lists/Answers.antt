-- `write_lists` meets its contract: each program has its own text of the lists.
use Rattle.std.proofs.Common.{sym, ap, [], ◌∷◌}
use Rattle.text.proofs.Writing.{wrote_as}
use Rattle.programs.specs.declared.Program.{Program}
use Rattle.programs.specs.Programs.{text_of}
use Rattle.programs.proofs.write_lists.Goals as goal

pub returns-in-Transcript : goal.returns-in-Transcript
unfolding text_of
returns-in-Transcript c =
    let a = c.args in
    wrote_as _ _ _ _ c.write_lists.ensures _
    (ap (λ (p : Program). text_of p (a.circuit.now ∷ a.input.now ∷ a.coins.now ∷ a.transcript.now ∷ [])) (sym c.in-Transcript.is))

pub returns-in-Verdict : goal.returns-in-Verdict
unfolding text_of
returns-in-Verdict c =
    let a = c.args in
    wrote_as _ _ _ _ c.write_lists-in-Verdict.ensures _
    (ap (λ (p : Program). text_of p (a.circuit.now ∷ a.input.now ∷ a.coins.now ∷ a.transcript.now ∷ [])) (sym c.in-Verdict.is))

pub returns-in-Evaluate : goal.returns-in-Evaluate
unfolding text_of
returns-in-Evaluate c =
    let a = c.args in
    wrote_as _ _ _ _ c.write_lists-in-Evaluate.ensures _
    (ap (λ (p : Program). text_of p (a.circuit.now ∷ a.input.now ∷ a.coins.now ∷ a.transcript.now ∷ [])) (sym c.in-Evaluate.is))
