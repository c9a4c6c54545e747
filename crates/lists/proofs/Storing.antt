-- A list stored over the front of a buffer word by word: i of its words stand there, and all behind them is as it was. Every loop that fills a
-- buffer from its front keeps this position, whatever the words are.
-- Assumes nothing.
use mathlib.Core.Path.{◌≡◌, refl, sym, ap, ap₂, ◌∙◌}
use mathlib.Core.List.{List}
use Prim.Native.Nat.{ℕ, ◌+◌, ◌≤◌, ◌<◌, min}
use native.Mathlib.Omega.{arith}
use lib.ListN.{length, get_or, set, take, length-take, length-set}
use lib.Seq.{length-take-le, take_all, get_or-take}
use Rattle.lists.specs.Buffer.{over}
use Rattle.lists.proofs.Buffer.{over_set, get_d_over_after}
use Rattle.lists.proofs.Steps.{take_up}

module _ {A : Type 0} where
  pub record Stored (ms before buffer : List A) (i : ℕ) : Type 0 where
    pub within : i ≤ length ms
    pub room : length ms ≤ length before
    pub size : length buffer ≡ length before
    pub stands : buffer ≡ over (take i ms) before

  pub start : (ms l : List A) → length ms ≤ length l → Stored ms l l 0
  start ms l h = record { within = omega arith; room = h; size = refl; stands = refl }

  module _ {ms l b : List A} {i : ℕ} (s : Stored ms l b i) where
    -- a word that is not yet stored over
    pub kept : (j : ℕ) (d : A) → i ≤ j → get_or b j d ≡ get_or l j d
    kept j d h =
        ap (λ (t : List A). get_or t j d) s.stands
        ∙ get_d_over_after (take i ms) l j d (omega (arith, length-take-le i ms s.within))

    pub next : (d x : A) → i < length ms → x ≡ get_or ms i d → Stored ms l (set b i x) (i + 1)
    next d x h e =
        let room = s.room in
        record {
          within = omega arith;
          room = room;
          size = length-set b i x ∙ s.size;
          stands = ap₂ (λ (t : List A) (y : A). set t i y) s.stands e
              ∙ over_set (take i ms) l i (get_or ms i d) (length-take-le i ms (omega arith)) (omega arith)
              ∙ ap (λ (t : List A). over t l) (sym (take_up ms i d h));
        }

    pub end : length ms ≤ i → b ≡ over ms l
    end h = s.stands ∙ ap (λ (t : List A). over t l) (take_all i ms h)

  -- the same of a list's front, as many of its words as the buffer holds
  module _ (ws l : List A) where
    abbrev count : ℕ
    count = min (length ws) (length l)

    pub length_held : length (take (length l) ws) ≡ count
    length_held = omega (arith, length-take (length l) ws)

    module _ {b : List A} {i : ℕ} (s : Stored (take (length l) ws) l b i) where
      pub next_held : (d x : A) → i < count → x ≡ get_or ws i d → Stored (take (length l) ws) l (set b i x) (i + 1)
      next_held d x h e = next s d x (omega (arith, length_held)) (e ∙ sym (get_or-take (length l) ws i d (omega arith)))

      pub end_held : count ≤ i → b ≡ over (take (length l) ws) l
      end_held h = end s (omega (arith, length_held))
