-- The rounds of a circuit, as loops over layers and rounds meet them.
-- Assumes nothing.
use Prim.Native.Nat.{ℕ, zero, suc, ◌+◌, ◌-◌, ◌*◌, ◌≤◌, ◌<◌}
use mathlib.Core.Path.{◌≡◌, refl, ap, ap₂, ◌∙◌}
use mathlib.Core.List.{List, [], ◌∷◌, ◌++◌, map}
use native.Mathlib.Omega.{arith}
use lib.ListN.{length, take, drop, get_or, drop_of_length-le, get_or-append}
use lib.Seq.{drop-cons, get_or-append-add}
use Rattle.lists.proofs.Count.{sum_nil, sum_cons}
use Rattle.circuit.specs.Circuit.{depth, output_exponent, exponents, exponent_at}
use Rattle.circuit.proofs.Sized.{deep}
use Rattle.protocol.specs.Rounds.{Place, place, rounds_of, rounds_from, rounds, coins_of, layer_start, AtRound}
use Rattle.protocol.specs.Prove.{place_of}
use Rattle.protocol.proofs.Rounds.{length_rounds_of}

-- m rounds of layer i from round j on
unfoldable pub some : ℕ → ℕ → ℕ → List Place
some i j zero = []
some i j (suc m) = place i j ∷ some i (suc j) m

rounds_some : (i j n : ℕ) → rounds_of i j n ≡ some i j (suc n)
unfolding rounds_of some
rounds_some i j zero = refl
rounds_some i j (suc n) = ap (λ (l : List Place). place i j ∷ l) (rounds_some i (suc j) n)

module _ (c : List ℕ) where
  -- what is left before layer i
  abbrev pub before_layer : ℕ → List Place
  before_layer zero = []
  before_layer (suc l) = rounds_from (suc l) (drop l (exponents c))

  -- and before round j of layer i
  abbrev pub before_round : ℕ → ℕ → List Place
  before_round i j = some i j (2 * exponent_at c i + 1 - j) ++ before_layer (suc i)

  pub layer_opens : (l : ℕ) → l < length (exponents c) → before_layer (suc l) ≡ before_round (suc l) 0
  unfolding rounds_from
  layer_opens l h =
      let n : suc (2 * exponent_at c (suc l)) ≡ 2 * exponent_at c (suc l) + 1 - 0 = omega arith in
      ap (rounds_from (suc l)) (drop-cons (exponents c) l 0 h)
      ∙ ap (λ (ps : List Place). ps ++ before_layer (suc (suc l))) (rounds_some (suc l) 0 (2 * exponent_at c (suc l)) ∙ ap (some (suc l) 0) n)

  pub round_opens : (i j : ℕ) → j < 2 * exponent_at c i + 1 → before_round i j ≡ place i j ∷ before_round i (j + 1)
  unfolding some
  round_opens i j h =
      let m : ℕ = 2 * exponent_at c i + 1 - (j + 1) in
      let e : 2 * exponent_at c i + 1 - j ≡ suc m = omega arith in
      let s : suc j ≡ j + 1 = omega arith in
      ap (λ (n : ℕ). some i j n ++ before_layer (suc i)) e ∙ ap (λ (n : ℕ). place i j ∷ (some i n m ++ before_layer (suc i))) s

  pub layer_closes : (i j : ℕ) → 2 * exponent_at c i + 1 ≡ j → before_round i j ≡ before_layer (suc i)
  unfolding some
  layer_closes i j h = let e : 2 * exponent_at c i + 1 - j ≡ 0 = omega arith in ap (λ (n : ℕ). some i j n ++ before_layer (suc i)) e

  pub none_left : (l : ℕ) → length (exponents c) ≡ l → before_layer (suc l) ≡ []
  unfolding rounds_from
  none_left l h = ap (rounds_from (suc l)) (drop_of_length-le (exponents c) {i = l} (omega arith))

-- A ROUND is found by the coins before it
at_round : (i j n m : ℕ) (d : Place) → m ≤ n → get_or (rounds_of i j n) m d ≡ place i (j + m)
unfolding rounds_of
at_round i j zero zero d h = ap (place i) (omega arith)
at_round i j zero (suc m) d h = absurd (omega arith)
at_round i j (suc n) zero d h = ap (place i) (omega arith)
at_round i j (suc n) (suc m) d h = at_round i (suc j) n m d (omega arith) ∙ ap (place i) (omega arith)

at_layer : (i : ℕ) (ks : List ℕ) (l j : ℕ) (d : Place) → l < length ks → j ≤ 2 * get_or ks l 0
    → get_or (rounds_from i ks) (coins_of (take l ks) + j) d ≡ place (i + l) j
unfolding rounds_from
at_layer i [] l j d n h = absurd (omega arith)
at_layer i (k ∷ ks) zero j d n h =
    let own : List Place = rounds_of i 0 (2 * k) in
    let e : coins_of [] + j ≡ j = omega (arith, sum_nil) in
    ap (λ (m : ℕ). get_or (own ++ rounds_from (suc i) ks) m d) e
    ∙ get_or-append own (rounds_from (suc i) ks) d j (omega (arith, length_rounds_of i 0 (2 * k)))
    ∙ at_round i 0 (2 * k) j d h ∙ ap₂ place (omega arith) (omega arith)
at_layer i (k ∷ ks) (suc l) j d n h =
    let own : List Place = rounds_of i 0 (2 * k) in
    let rest : ℕ = coins_of (take l ks) + j in
    let e : coins_of (k ∷ take l ks) + j ≡ length own + rest = omega (arith, length_rounds_of i 0 (2 * k), sum_cons (2 * k + 1) (map (λ k. 2 * k + 1) (take l ks))) in
    ap (λ (m : ℕ). get_or (own ++ rounds_from (suc i) ks) m d) e
    ∙ get_or-append-add own (rounds_from (suc i) ks) rest d
    ∙ at_layer (suc i) ks l j d (omega arith) h ∙ ap (λ (m : ℕ). place m j) (omega arith)

place_at : (c : List ℕ) (l j : ℕ) (d : Place) → l < length (exponents c) → j ≤ 2 * exponent_at c (suc l)
    → get_or (rounds c) (layer_start c (suc l) + j - output_exponent c) d ≡ place (suc l) j
place_at c l j d n h =
    ap (λ (m : ℕ). get_or (rounds c) m d) (omega arith) ∙ at_layer 1 (exponents c) l j d n h ∙ ap (λ (m : ℕ). place m j) (omega arith)

-- the round after a prefix is the one that the prefix names
pub named : (c prefix : List ℕ) (r : Place) → AtRound c r (length prefix) → place_of c prefix ≡ r
named c prefix r h =
    ap (λ (n : ℕ). get_or (rounds c) (n - output_exponent c) (place 0 0)) h.counted ∙ go r.layer h.first h.last h.reached
  where
    go : (i : ℕ) → 1 ≤ i → i ≤ depth c → r.round ≤ 2 * exponent_at c i
        → get_or (rounds c) (layer_start c i + r.round - output_exponent c) (place 0 0) ≡ place i r.round
    go zero f l m = absurd (omega arith)
    go (suc l) f i m = place_at c l r.round (place 0 0) (omega (arith, deep c h.legal)) m
