-- The true claim at each round, and the honest message: it has the round's length, gives the true claim where the round compares, and at the
-- coin gives the true claim of the next round.
-- Assumes nothing.
use Prim.Native.Nat.{ℕ, zero, suc, ◌+◌, ◌-◌, ◌*◌, ◌≤◌, ◌<◌}
use mathlib.Core.Path.{◌≡◌, refl, sym, ap, ap₂, ◌∙◌, subst}
use mathlib.Core.Bool.{Bool, true, false, ◌&&◌, cond, true≢false, false≢true}
use mathlib.Core.List.{List, [], ◌∷◌, ◌++◌, append-nil}
use native.Mathlib.Nat.{not-suc-le-zero}
use native.Mathlib.Numerals.{add-one}
use native.Mathlib.Omega.{arith}
use lib.Dec.{eqb}
use lib.ListN.{length, length-drop, take, drop, drop_of_length-le}
use lib.Seq.{length-take-le, take_all}
use borrow.Author.Tests.{eq-eqb, eqb-true}
use Rattle.lists.specs.Each.{All}
use Rattle.lists.proofs.Count.{sum_nil}
use Rattle.algebra.specs.Numbers.{words}
use Rattle.multilinear.specs.Extension.{extension}
use Rattle.multilinear.proofs.Words.{below}
use Rattle.refusal.proofs.Order.{first_none}
use Rattle.circuit.specs.Gate.{Gate}
use Rattle.circuit.specs.Circuit.{prime_of, depth, output_exponent, exponents, exponent_at, gates_at}
use Rattle.circuit.specs.Legal.{load_answer, lists_cause}
use Rattle.circuit.specs.Values.{values_at, outputs}
use Rattle.circuit.proofs.Loading.{legal_lists}
use Rattle.circuit.proofs.Sized.{deep}
use Rattle.circuit.proofs.Layers.{legal_prime, layer_sizes, last_layer, layer_by_layer, wires_below_next}
use Rattle.sumcheck.specs.Summand.{combined, summand, cube, partial_sum}
use Rattle.sumcheck.proofs.Words.{layer_identity, sum_of_two, sum_message_value, line_message_value, line_ends, sum_message_words, line_message_words}
use Rattle.walk.specs.Session.{Follows}
use Rattle.protocol.specs.Start.{first_point, claim_at}
use Rattle.protocol.specs.Rounds.{Place, place, layer_start, is_line, AtRound}
use Rattle.protocol.specs.Judge.{fixed, point_at, gates_above, line_claim, message_at, message_length, compared, descent}
use Rattle.protocol.specs.Prove.{honest}
use Rattle.protocol.proofs.Rounds.{within}
use Rattle.protocol.proofs.Points.{fixed_more, fixed_none, point_more, point_line}

module _ (c input : List ℕ) where
  -- the true claim at a round, and after the last
  unfoldable pub truth_at : Place → List ℕ → ℕ
  truth_at r past =
      partial_sum (words (prime_of c)) (exponent_at c r.layer) (gates_above c r.layer) (point_at c r.layer past)
      (values_at c input r.layer) (fixed c r.layer past)

  unfoldable pub truth : List Place → List ℕ → ℕ
  truth [] past = extension (words (prime_of c)) input (point_at c (suc (length (exponents c))) past)
  truth (r ∷ rs) past = truth_at r past

-- with every coordinate fixed the partial sum is the summand
sum_fixed : (p k : ℕ) (gs : List Gate) (point vs xs : List ℕ) → length xs ≡ 2 * k
    → partial_sum (words p) k gs point vs xs
    ≡ combined (words p) gs point (take k xs) (drop k xs) (extension (words p) vs (take k xs)) (extension (words p) vs (drop k xs))
unfolding partial_sum cube summand
sum_fixed p k gs point vs xs e =
    let z : 2 * k - length xs ≡ 0 = omega arith in
    rw (z, append-nil xs)

module _ (c input : List ℕ) (legal : lists_cause c input ≡ 0) where
  pub loaded : load_answer c ≡ 0
  unfolding lists_cause
  loaded = (first_none (load_answer c) _ legal).0

  pub positive : 0 < prime_of c
  positive = let two : 2 ≤ prime_of c = (legal_prime c loaded).two_le in omega arith

  -- the sum over a layer is the extension of the values above it
  pub layer_sum_lem : (i : ℕ) (z : List ℕ) → i < length (exponents c)
      → partial_sum (words (prime_of c)) (exponent_at c (suc i)) (gates_at c i) z (values_at c input (suc i)) []
      ≡ extension (words (prime_of c)) (values_at c input i) z
  layer_sum_lem i z n =
      let shallow : i < depth c = subst (λ (d : ℕ). i < d) (deep c (legal_lists c input legal).circuit) n in
      layer_identity (prime_of c) positive (exponent_at c (suc i)) (gates_at c i) z (values_at c input (suc i))
      (layer_sizes c input legal (suc i) shallow) (wires_below_next c loaded i shallow)
      ∙ ap (λ (vs : List ℕ). extension (words (prime_of c)) vs z) (sym (layer_by_layer c input legal i shallow))

  module _ (past : List ℕ) where
    -- layer i's coordinates so far, and its two points at the line
    length_fixed : (i j : ℕ) → AtRound c (place i j) (length past) → length (fixed c i past) ≡ j
    length_fixed i j h = let n : length past ≡ layer_start c i + j = h.counted in rw length-drop (omega arith)

    sum_round : (i j : ℕ) → is_line c (place i j) ≡ false → AtRound c (place i j) (length past) → j < 2 * exponent_at c i
    sum_round i j eb h =
        let ne : ¬ (j ≡ 2 * exponent_at c i) = λ (q : j ≡ 2 * exponent_at c i). true≢false (sym (eq-eqb j (2 * exponent_at c i) q) ∙ eb) in
        let le : j ≤ 2 * exponent_at c i = h.reached in
        omega arith

    length_first : (i j : ℕ) → is_line c (place i j) ≡ true → AtRound c (place i j) (length past) → length (take (exponent_at c i) (fixed c i past)) ≡ exponent_at c i
    length_first i j eb h =
        let lx : length (fixed c i past) ≡ j = length_fixed i j h in
        let ej : j ≡ 2 * exponent_at c i = eqb-true j (2 * exponent_at c i) eb in
        length-take-le (exponent_at c i) (fixed c i past) (omega arith)

    length_second : (i j : ℕ) → is_line c (place i j) ≡ true → AtRound c (place i j) (length past) → length (drop (exponent_at c i) (fixed c i past)) ≡ exponent_at c i
    length_second i j eb h =
        let lx : length (fixed c i past) ≡ j = length_fixed i j h in
        let ej : j ≡ 2 * exponent_at c i = eqb-true j (2 * exponent_at c i) eb in
        rw length-drop (omega arith)

    length_at : (i j : ℕ) (b : Bool) → is_line c (place i j) ≡ b → AtRound c (place i j) (length past)
        → length (honest c input (place i j) past) ≡ message_length c (place i j)
    unfolding honest message_length
    length_at i j false eb h =
        rw eb (sum_message_words (prime_of c) positive (exponent_at c i) (gates_above c i) (point_at c i past) (values_at c input i) (fixed c i past)).0
    length_at i j true eb h =
        let k : ℕ = exponent_at c i in
        rw eb ((line_message_words (prime_of c) positive (values_at c input i) (take k (fixed c i past)) (drop k (fixed c i past))).0
        ∙ ap suc (length_first i j eb h) ∙ sym (add-one k))

    residues_at : (i j : ℕ) (b : Bool) → is_line c (place i j) ≡ b → All (λ w. w < prime_of c) (honest c input (place i j) past)
    unfolding honest
    residues_at i j false eb =
        rw eb (sum_message_words (prime_of c) positive (exponent_at c i) (gates_above c i) (point_at c i past) (values_at c input i) (fixed c i past)).1
    residues_at i j true eb =
        let k : ℕ = exponent_at c i in
        rw eb (line_message_words (prime_of c) positive (values_at c input i) (take k (fixed c i past)) (drop k (fixed c i past))).1

    compared_at : (i j : ℕ) (b : Bool) → is_line c (place i j) ≡ b → AtRound c (place i j) (length past)
        → compared c (is_line c (place i j)) (place i j) past (honest c input (place i j) past) ≡ truth_at c input (place i j) past
    unfolding honest compared truth_at line_claim
    compared_at i j false eb h =
        let p : ℕ = prime_of c in
        let k : ℕ = exponent_at c i in
        let xs : List ℕ = fixed c i past in
        let val : (t : ℕ) → _ = sum_message_value p positive k (gates_above c i) (point_at c i past) (values_at c input i) xs in
        let lx : length xs < 2 * k = subst (λ (n : ℕ). n < 2 * k) (sym (length_fixed i j h)) (sum_round i j eb h) in
        rw eb (ap₂ (words p).add (val 0) (val 1) ∙ sym (sum_of_two p k (gates_above c i) (point_at c i past) (values_at c input i) xs lx))
    compared_at i j true eb h =
        let p : ℕ = prime_of c in
        let k : ℕ = exponent_at c i in
        let xs : List ℕ = fixed c i past in
        let vs : List ℕ = values_at c input i in
        let u : List ℕ = take k xs in
        let v : List ℕ = drop k xs in
        let ends = line_ends p positive vs u v (length_first i j eb h ∙ sym (length_second i j eb h)) in
        let lx : length xs ≡ 2 * k = length_fixed i j h ∙ eqb-true j (2 * k) eb in
        rw eb (ap₂ (combined (words p) (gates_above c i) (point_at c i past) u v)
        (line_message_value p positive vs u v 0 ∙ ends.0) (line_message_value p positive vs u v 1 ∙ ends.1)
        ∙ sym (sum_fixed p k (gates_above c i) (point_at c i past) vs xs lx))

    -- the next round's true claim, as a function of the coin
    next_sum : (i j t : ℕ) (rs : List Place) → is_line c (place i j) ≡ false → AtRound c (place i j) (length past) → Follows (descent c) (place i j) rs
        → message_at c (honest c input (place i j) past) t ≡ truth c input rs (past ++ (t ∷ []))
    unfolding descent truth honest truth_at
    next_sum i j t [] eb h f = absurd (false≢true (sym (ap (λ (b : Bool). b && eqb i (length (exponents c))) eb) ∙ f))
    next_sum i j t (r ∷ rs) eb h f =
        let er : place i (suc j) ≡ r = sym (ap (λ (b : Bool). cond b (place (suc i) 0) (place i (suc j))) eb) ∙ f.1 in
        subst (λ (x : Place). message_at c (honest c input (place i j) past) t ≡ truth_at c input x (past ++ (t ∷ []))) er (go h.counted (within c (place i j) (length past) h))
      where
        go : length past ≡ layer_start c i + j → i ≤ length (exponents c)
            → message_at c (honest c input (place i j) past) t ≡ truth_at c input (place i (suc j)) (past ++ (t ∷ []))
        go n w =
            rw (eb, point_more c i past (t ∷ []) w (omega arith), fixed_more c i past t (omega arith))
            (sum_message_value (prime_of c) positive (exponent_at c i) (gates_above c i) (point_at c i past) (values_at c input i) (fixed c i past) t)

    -- the line's value is that of the extension at the point which the coin gives
    line_at : (l t : ℕ) → AtRound c (place (suc l) (2 * exponent_at c (suc l))) (length past)
        → message_at c (honest c input (place (suc l) (2 * exponent_at c (suc l))) past) t
        ≡ extension (words (prime_of c)) (values_at c input (suc l)) (point_at c (suc (suc l)) (past ++ (t ∷ [])))
    unfolding honest
    line_at l t h =
        let k : ℕ = exponent_at c (suc l) in
        let xs : List ℕ = fixed c (suc l) past in
        let il : is_line c (place (suc l) (2 * k)) ≡ true = eq-eqb (2 * k) (2 * k) refl in
        rw il
        (line_message_value (prime_of c) positive (values_at c input (suc l)) (take k xs) (drop k xs) t
        ∙ ap (extension (words (prime_of c)) (values_at c input (suc l))) (sym (point_line c l past t (sym h.counted))))

    next_line : (l t : ℕ) (rs : List Place) → AtRound c (place (suc l) (2 * exponent_at c (suc l))) (length past)
        → Follows (descent c) (place (suc l) (2 * exponent_at c (suc l))) rs
        → message_at c (honest c input (place (suc l) (2 * exponent_at c (suc l))) past) t ≡ truth c input rs (past ++ (t ∷ []))
    unfolding descent truth truth_at
    next_line l t [] h f =
        let k : ℕ = exponent_at c (suc l) in
        let il : is_line c (place (suc l) (2 * k)) ≡ true = eq-eqb (2 * k) (2 * k) refl in
        let el : suc l ≡ length (exponents c) = eqb-true (suc l) (length (exponents c)) (sym (ap (λ (b : Bool). b && eqb (suc l) (length (exponents c))) il) ∙ f) in
        let last : values_at c input (suc l) ≡ input = ap (values_at c input) (el ∙ deep c (legal_lists c input legal).circuit) ∙ last_layer c input legal in
        line_at l t h
        ∙ ap₂ (λ (vs : List ℕ) (n : ℕ). extension (words (prime_of c)) vs (point_at c (suc n) (past ++ (t ∷ [])))) last el
    next_line l t (r ∷ rs) h f =
        let k : ℕ = exponent_at c (suc l) in
        let il : is_line c (place (suc l) (2 * k)) ≡ true = eq-eqb (2 * k) (2 * k) refl in
        let ne : ¬ (suc l ≡ length (exponents c)) = λ (q : suc l ≡ length (exponents c)).
        true≢false (sym (eq-eqb (suc l) (length (exponents c)) q) ∙ sym (ap (λ (b : Bool). b && eqb (suc l) (length (exponents c))) il) ∙ f.0) in
        let er : place (suc (suc l)) 0 ≡ r = sym (ap (λ (b : Bool). cond b (place (suc (suc l)) 0) (place (suc l) (suc (2 * k)))) il) ∙ f.1 in
        let w : suc l ≤ length (exponents c) = within c (place (suc l) (2 * k)) (length past) h in
        let none : fixed c (suc (suc l)) (past ++ (t ∷ [])) ≡ [] = fixed_none c l past t (omega arith) (sym h.counted) in
        let sum : truth_at c input (place (suc (suc l)) 0) (past ++ (t ∷ []))
        ≡ extension (words (prime_of c)) (values_at c input (suc l)) (point_at c (suc (suc l)) (past ++ (t ∷ []))) =
        rw none (layer_sum_lem (suc l) (point_at c (suc (suc l)) (past ++ (t ∷ []))) (omega arith)) in
        line_at l t h ∙ sym sum ∙ ap (λ (x : Place). truth_at c input x (past ++ (t ∷ []))) er

    next_at : (i j t : ℕ) (b : Bool) (rs : List Place) → is_line c (place i j) ≡ b → AtRound c (place i j) (length past) → Follows (descent c) (place i j) rs
        → message_at c (honest c input (place i j) past) t ≡ truth c input rs (past ++ (t ∷ []))
    next_at i j t false rs eb h f = next_sum i j t rs eb h f
    next_at zero j t true rs eb h f = absurd (not-suc-le-zero h.first)
    next_at (suc l) j t true rs eb h f =
        let ej : j ≡ 2 * exponent_at c (suc l) = eqb-true j (2 * exponent_at c (suc l)) eb in
        subst (λ (x : ℕ). message_at c (honest c input (place (suc l) x) past) t ≡ truth c input rs (past ++ (t ∷ []))) (sym ej)
        (next_line l t rs (subst (λ (x : ℕ). AtRound c (place (suc l) x) (length past)) ej h)
        (subst (λ (x : ℕ). Follows (descent c) (place (suc l) x) rs) ej f))

  -- THE HONEST MESSAGE at any round
  -- the honest message is as long as its round calls for; its words are residues at any place
  pub honest_residues : (r : Place) (past : List ℕ) → All (λ w. w < prime_of c) (honest c input r past)
  honest_residues r past = residues_at past r.layer r.round (is_line c r) refl

  pub honest_words : (r : Place) (past : List ℕ) → AtRound c r (length past)
      → (length (honest c input r past) ≡ message_length c r) × All (λ w. w < prime_of c) (honest c input r past)
  honest_words r past h = (length_at past r.layer r.round (is_line c r) refl h, honest_residues r past)

  pub honest_compared : (r : Place) (past : List ℕ) → AtRound c r (length past) → compared c (is_line c r) r past (honest c input r past) ≡ truth_at c input r past
  honest_compared r past h = compared_at past r.layer r.round (is_line c r) refl h

  pub honest_next : (r : Place) (rs : List Place) (past : List ℕ) (t : ℕ) → AtRound c r (length past) → Follows (descent c) r rs
      → message_at c (honest c input r past) t ≡ truth c input rs (past ++ (t ∷ []))
  honest_next r rs past t h f = next_at past r.layer r.round t (is_line c r) rs refl h f

  -- a claim of any outputs is a residue
  pub claim_below : (ys us : List ℕ) → claim_at c ys us < prime_of c
  unfolding claim_at
  claim_below ys us = below (prime_of c) positive ys us

  -- there is a layer, and after the coins before its first round the true claim is that of the circuit's outputs
  pub some_layer : 0 < length (exponents c)
  some_layer = subst (λ (d : ℕ). 0 < d) (sym (deep c (legal_lists c input legal).circuit)) (legal_lists c input legal).circuit.some

  pub first_truth : (us : List ℕ) → length us ≡ output_exponent c → truth_at c input (place 1 0) us ≡ claim_at c (outputs c input) us
  unfolding truth_at claim_at
  first_truth us e =
      let none : fixed c 1 us ≡ [] = drop_of_length-le us {i = layer_start c 1} (omega (arith, sum_nil)) in
      let all : first_point c us ≡ us = take_all (output_exponent c) us (omega arith) in
      rw (none, all) (layer_sum_lem 0 us some_layer)
