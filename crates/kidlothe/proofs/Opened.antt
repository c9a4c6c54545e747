-- What the case of an opening says of its number, of the coins beside it and of the words that it leaves.
-- Assumes nothing.
use Prim.Native.Nat.{ℕ}
use mathlib.Core.Path.{◌≡◌, sym, ap, ap₂, ◌∙◌}
use mathlib.Core.Bool.{cond}
use mathlib.Core.List.{List}
use lib.Dec.{eqb}
use Rattle.refusal.specs.Number.{number_of}
use Rattle.refusal.specs.declared.Cause.{Cause}
use Rattle.refusal.proofs.Order.{left_by}
use Rattle.short_list.specs.Short.{short}
use Rattle.short_list.specs.declared.ShortList.{ShortList}
use Rattle.walk.specs.Session.{Record}
use Rattle.protocol.specs.Rounds.{Place}
use Rattle.protocol.specs.Session.{OpenAnswer, opens, refuses, open_cause, opened_at, open_answer}
use Rattle.protocol.proofs.Opening.{cause_in, answer_cause, opened_free, opened_given}
use Rattle.session.specs.Answers.{coins_in}
use Rattle.kidlothe.specs.Record.{session_words}
use Rattle.kidlothe.specs.Answers.{plain_opening, ExportsOpen}

module _ (c input ys cs before : List ℕ) (row : ShortList) (told : row ≡ short (coins_in (open_answer c input ys cs))) where
  pub export_opened : (us : List ℕ) (s : Record Place) → opens us s ≡ open_answer c input ys cs → (after : List ℕ) → after ≡ session_words s
      → ExportsOpen c input ys cs before (record { refusal = 0; coins = row }) after
  export_opened us s e after written =
      let none = opened_free c input ys cs us s e in
      record {
        answer =
            ap (λ (r : ShortList). record { refusal = 0; coins = r }) (told ∙ ap (λ (a : OpenAnswer). short (coins_in a)) (sym e)) ∙ ap plain_opening e;
        words =
            written ∙ ap session_words (opened_given c input ys cs us s e).1
            ∙ ap (λ (n : ℕ). cond (eqb n 0) (session_words (opened_at c ys cs)) before) (sym none);
      }

  pub export_refused : (cause : Cause) → refuses (number_of cause) ≡ open_answer c input ys cs → (r : ℕ) → r ≡ number_of cause
      → ExportsOpen c input ys cs before (record { refusal = r; coins = row }) before
  export_refused cause e r same = record {
    answer =
        ap₂ (λ (n : ℕ) (l : ShortList). record { refusal = n; coins = l }) same (told ∙ ap (λ (a : OpenAnswer). short (coins_in a)) (sym e))
        ∙ ap plain_opening e;
    words = sym (left_by cause (open_cause c input ys cs) (session_words (opened_at c ys cs)) before (sym (ap cause_in e ∙ answer_cause c input ys cs)));
  }
