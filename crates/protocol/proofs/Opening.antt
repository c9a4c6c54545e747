-- What an opening's answer says: its cause, and the coins and the record that it gives.
-- Assumes nothing.
use Prim.Native.Nat.{ℕ, zero, suc}
use mathlib.Core.Path.{◌≡◌, refl, sym, ap, ◌∙◌}
use mathlib.Core.Bool.{false, false≢true}
use mathlib.Core.List.{List, []}
use Rattle.walk.specs.Session.{Record}
use Rattle.walk.specs.Game.{passes}
use Rattle.protocol.specs.Start.{first_point}
use Rattle.protocol.specs.Rounds.{Place}
use Rattle.protocol.specs.Session.{OpenAnswer, opens, refuses, open_cause, opened_at, opened_by, open_answer, steps_from, session_on}

abbrev pub cause_in : OpenAnswer → ℕ
cause_in (opens us s) = 0
cause_in (refuses n) = n

cause_by : (n : ℕ) (us : List ℕ) (s : Record Place) → cause_in (opened_by n us s) ≡ n
cause_by zero us s = refl
cause_by (suc n) us s = refl

given_by : (n : ℕ) (us vs : List ℕ) (r s : Record Place) → opens us s ≡ opened_by n vs r → (us ≡ vs) × (s ≡ r)
given_by zero us vs r s e = (cc, cc)
given_by (suc n) us vs r s e = (cc, cc)

module _ (c input ys cs : List ℕ) where
  pub free_opens : open_cause c input ys cs ≡ 0 → open_answer c input ys cs ≡ opens (first_point c cs) (opened_at c ys cs)
  unfolding open_answer
  free_opens e = ap (λ (n : ℕ). opened_by n (first_point c cs) (opened_at c ys cs)) e

  pub answer_cause : cause_in (open_answer c input ys cs) ≡ open_cause c input ys cs
  unfolding open_answer
  answer_cause = cause_by (open_cause c input ys cs) (first_point c cs) (opened_at c ys cs)

  -- a list of outputs that is none opens nothing, whatever messages follow
  pub none_opened : (ms : List (List ℕ)) → passes (open_cause c input ys cs) ≡ false → session_on c input ys cs ms ≡ []
  unfolding open_answer
  none_opened ms = go (open_cause c input ys cs)
    where
      go : (n : ℕ) → passes n ≡ false → steps_from c input cs (opened_by n (first_point c cs) (opened_at c ys cs)) ms ≡ []
      go zero e = absurd (false≢true (sym e))
      go (suc n) e = refl

  module _ (us : List ℕ) (s : Record Place) (e : opens us s ≡ open_answer c input ys cs) where
    pub opened_free : open_cause c input ys cs ≡ 0
    opened_free = sym (ap cause_in e ∙ answer_cause)

    pub opened_given : (us ≡ first_point c cs) × (s ≡ opened_at c ys cs)
    unfolding open_answer
    opened_given = given_by (open_cause c input ys cs) us (first_point c cs) (opened_at c ys cs) s e
