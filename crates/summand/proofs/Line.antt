-- Laws of the line between two points: its coordinates, its first coordinates, and the loop that writes it word by word.
-- Assumes nothing.
use mathlib.Core.Path.{◌≡◌, refl, sym, ap, ◌∙◌}
use mathlib.Core.List.{List, [], ◌∷◌, append-nil, ◌++◌}
use Prim.Native.Nat.{ℕ, zero, suc, ◌+◌, ◌≤◌, ◌<◌}
use native.Mathlib.Omega.{arith}
use lib.ListN.{length, take, get_or, set, drop_of_length-le}
use Rattle.lists.proofs.Storing.{Stored, next, start as stored-start, end as stored-end}
use Rattle.algebra.specs.Numbers.{Numbers}
use Rattle.sumcheck.specs.Summand.{line_point}
use Rattle.sumcheck.proofs.Message.{length_line}

module _ {C : Type 0} (N : Numbers C) where
  -- the first coordinates of a line's point are those of the line between the first coordinates
  pub take_line : (k : ℕ) (u v : List C) (t : C) → take k (line_point N u v t) ≡ line_point N (take k u) (take k v) t
  unfolding line_point
  take_line zero u v t = refl
  take_line (suc k) [] v t = refl
  take_line (suc k) (x ∷ u) [] t = refl
  take_line (suc k) (x ∷ u) (y ∷ v) t = ap (λ (l : List C). N.add x (N.mul t (N.sub y x)) ∷ l) (take_line k u v t)

  pub get_d_line : (i : ℕ) (u v : List C) (t d : C) → i < length u → i < length v
      → get_or (line_point N u v t) i d ≡ N.add (get_or u i d) (N.mul t (N.sub (get_or v i d) (get_or u i d)))
  unfolding line_point
  get_d_line i [] v t d h h' = absurd (omega arith)
  get_d_line i (x ∷ u) [] t d h h' = absurd (omega arith)
  get_d_line zero (x ∷ u) (y ∷ v) t d h h' = refl
  get_d_line (suc i) (x ∷ u) (y ∷ v) t d h h' = get_d_line i u v t d (omega arith) (omega arith)

  -- i coordinates stand at the front of a row of n
  pub record Drawn (n : ℕ) (u v : List C) (t : C) (line₀ line : List C) (i : ℕ) : Type 0 where
    pub length_u : length u ≡ n
    pub length_v : length v ≡ n
    pub length_before : length line₀ ≡ n
    pub drawn : Stored (line_point N u v t) line₀ line i

  pub start : (n : ℕ) (u v : List C) (t : C) (line : List C) → length u ≡ n → length v ≡ n → length line ≡ n → Drawn n u v t line line 0
  start n u v t line eu ev e = record {
    length_u = eu;
    length_v = ev;
    length_before = e;
    drawn = stored-start (line_point N u v t) line (omega (arith, length_line N n u v t eu ev));
  }

  pub step : (n : ℕ) (u v : List C) (t : C) (line₀ line : List C) (i : ℕ) → Drawn n u v t line₀ line i → i < n
      → Drawn n u v t line₀ (set line i (N.add (get_or u i N.𝟘) (N.mul t (N.sub (get_or v i N.𝟘) (get_or u i N.𝟘))))) (i + 1)
  step n u v t line₀ line i h more =
      let eu = h.length_u in
      let ev = h.length_v in
      record {
        length_u = eu;
        length_v = ev;
        length_before = h.length_before;
        drawn = next h.drawn N.𝟘 _ (omega (arith, length_line N n u v t eu ev)) (sym (get_d_line i u v t N.𝟘 (omega arith) (omega arith)));
      }

  pub end : (n : ℕ) (u v : List C) (t : C) (line₀ line : List C) (i : ℕ) → Drawn n u v t line₀ line i → n ≤ i → line ≡ line_point N u v t
  end n u v t line₀ line i h all =
      let e₀ = h.length_before in
      let whole = line_point N u v t in
      let size : length whole ≡ n = length_line N n u v t h.length_u h.length_v in
      stored-end h.drawn (omega arith)
      ∙ ap (λ (l : List C). whole ++ l) (drop_of_length-le line₀ {i = length whole} (omega arith)) ∙ append-nil whole
