-- What follows the start of a whole check.
-- Assumes nothing.
use Prim.Native.Nat.{ℕ}
use mathlib.Core.Path.{◌≡◌, refl, sym, ap, ◌∙◌}
use mathlib.Core.List.{List}
use lib.ListN.{length}
use borrow.Author.Tests.{ne_eqb}
use Rattle.refusal.specs.Number.{number_of}
use Rattle.refusal.specs.declared.Cause.{Cause}
use Rattle.refusal.proofs.Order.{refused_first}
use Rattle.circuit.specs.Circuit.{message_words}
use Rattle.protocol.specs.Check.{Counted, walk_from, check_answer}
use Rattle.protocol.specs.Session.{open_cause}
use Rattle.session.specs.Answers.{Starts}
use Rattle.std.specs.Prelude.{Ok}
use Rattle.protocol.proofs.Check.{opened, check_opening, check_walk}

module _ (c input ys cs ms : List ℕ) where
  pub check_refused : (cause : Cause) → number_of cause ≡ open_cause c input ys cs → number_of cause ≡ check_answer c input ys cs ms
  check_refused cause e = sym (check_opening c input ys cs ms ∙ refused_first cause (open_cause c input ys cs) _ e)

  module _ (claim : ℕ) (s : Starts c input ys cs (Ok claim)) where
    none : open_cause c input ys cs ≡ 0
    none = sym s.cause

    pub started_given : Counted c input cs
    started_given = (opened c input ys cs none).given

    pub check_length : ¬ (length ms ≡ message_words c) → 14 ≡ check_answer c input ys cs ms
    check_length ne = sym (check_opening c input ys cs ms ∙ rw (none, ne_eqb (length ms) (message_words c) ne) refl)

    pub check_walks : length ms ≡ message_words c → walk_from c input claim cs ms ≡ check_answer c input ys cs ms
    check_walks n =
        ap (λ (y : ℕ). walk_from c input y cs ms) s.claim
        ∙ sym (check_walk c input ys cs ms (opened c input ys cs none) n)
