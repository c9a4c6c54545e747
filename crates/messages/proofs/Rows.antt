-- A round's message, from what stands at it: the two rows hold the layer's coins so far, and what the code computes from them is the honest
-- message.
-- Assumes nothing.
use Prim.Native.Nat.{ℕ, zero, suc, ◌+◌, ◌-◌, ◌*◌, ◌^◌, ◌≤◌, ◌<◌, min}
use mathlib.Core.Path.{◌≡◌, refl, sym, ap, ap₂, ◌∙◌}
use mathlib.Core.Bool.{Bool, true, false, cond, true≢false}
use mathlib.Core.List.{List, [], ◌++◌}
use native.Mathlib.Nat.{le_of_eq}
use native.Mathlib.Numerals.{add-one}
use native.Mathlib.Decide.{dec_lt}
use native.Mathlib.Omega.{arith}
use lib.ListN.{length, length-take, length-drop, take, drop, get_or, take-append-drop}
use lib.Seq.{length-take-le, take_all, take-take, take-append-le, take-append-add}
use borrow.Author.Tests.{eq-eqb, eqb-true}
use Rattle.lists.specs.Each.{All}
use Rattle.lists.specs.Buffer.{over}
use Rattle.lists.proofs.Buffer.{over_whole}
use Rattle.lists.proofs.Front.{front_take}
use Rattle.primes.specs.Prime.{Prime}
use Rattle.primes.proofs.Prime.{listed_prime, listed_least}
use Rattle.algebra.specs.Numbers.{Numbers, words}
use Rattle.extension.specs.Limits.{row_length}
use Rattle.circuit.specs.Limits.{max_exponent}
use Rattle.circuit.specs.Gate.{Gate}
use Rattle.circuit.specs.Circuit.{prime_of, depth, exponent_at}
use Rattle.circuit.proofs.Gates.{layer_count}
use Rattle.circuit.proofs.Layers.{legal_wires}
use Rattle.layout.specs.Gates.{GatesAbove}
use Rattle.sumcheck.specs.Message.{sum_message, line_message}
use Rattle.sumcheck.specs.Line.{line_halving}
use Rattle.sumcheck.proofs.Words.{sum_message_words, line_message_words}
use Rattle.sumcheck.proofs.Line.{line_by_halves, length_line_halving}
use Rattle.summand.specs.Gates.{gates_in}
use Rattle.line.specs.Row.{padded}
use Rattle.line.proofs.Parts.{take_front}
use Rattle.sums.specs.Round.{round_message}
use Rattle.sums.proofs.Rounds.{honest_round}
use Rattle.protocol.specs.Rounds.{place, is_line, AtRound}
use Rattle.protocol.specs.Judge.{fixed, point_at, gates_above, message_length}
use Rattle.protocol.specs.Prove.{message_from}
use Rattle.standing.specs.Standing.{Row, Stands}
use Rattle.standing.specs.declared.Stand.{Stand}
use Rattle.standing.proofs.Lengths.{length_of_line, length_of_sum}
use Rattle.standing.proofs.Rounds.{own_small, own_coins, point_size, gates_above_lem}
use Rattle.messages.specs.Writing.{Writable}

-- the front of a computed row, put over a buffer that holds it
pub written : (words buffer after m : List ℕ) (n : ℕ) → n ≤ length buffer → take n words ≡ m
    → after ≡ over (take (length buffer) (take n words)) buffer → after ≡ over m buffer
written words buffer after m n room e put =
    over_whole (take n words) buffer after (omega (arith, length-take n words)) put ∙ ap (λ (l : List ℕ). over l buffer) e

-- the rows of a list's two parts give the list back
rows_back : (k : ℕ) (xs u v : List ℕ) → k ≤ row_length → length xs ≤ 2 * k → Row (take k xs) u → Row (drop k xs) v
    → take (length xs) (take k u ++ take k v) ≡ xs
rows_back k xs u v small fits first second = go (dec_lt (length xs) k)
  where
    wide : length (take k u) ≡ k
    wide = length-take-le k u (omega (arith, first.size))

    go : Dec (length xs < k) → take (length xs) (take k u ++ take k v) ≡ xs
    go (yes h) =
        let all : take k xs ≡ xs = take_all k xs (omega arith) in
        take-append-le (length xs) (take k u) (take k v) (omega (arith, wide))
        ∙ take-take (length xs) k u (omega arith)
        ∙ front_take first (length xs) (sym (ap length all)) ∙ all
    go (no h) =
        let n : ℕ = length xs - k in
        let size : length (take k xs) ≡ k = length-take-le k xs (omega arith) in
        let rest : length (drop k xs) ≡ n = length-drop k xs in
        let sum : length xs ≡ length (take k u) + n = omega (arith, wide) in
        ap (λ (m : ℕ). take m (take k u ++ take k v)) sum
        ∙ take-append-add (take k u) (take k v) n
        ∙ ap₂ (λ (a b : List ℕ). a ++ b)
        (front_take first k (sym size)) (take-take n k v (omega arith) ∙ front_take second n (sym rest))
        ∙ take-append-drop k xs

-- what the code computes from a stand, modulo p
abbrev pub summed : ℕ → List ℕ → List ℕ → ℕ → Stand → List ℕ
summed p gates vs round s =
    round_message (words p) (min s.own row_length) (gates_in gates) s.point vs (s.points) round

abbrev pub lined : ℕ → List ℕ → Stand → List ℕ
lined p vs s = padded (line_halving (words p) vs (take s.own (get_or s.points 0 [])) (take s.own (get_or s.points 1 [])))

module _ (c : List ℕ) (layer round : ℕ) (past vs buffer : List ℕ) (h : Writable c (place layer round) past vs buffer) where
  here : AtRound c (place layer round) (length past)
  here = h.there

  prime : Prime (prime_of c)
  prime = listed_prime (prime_of c) here.legal.listed

  least : 13 ≤ prime_of c
  least = listed_least (prime_of c) here.legal.listed

  wired : All (λ g. (g.left < 2 ^ exponent_at c layer) × (g.right < 2 ^ exponent_at c layer)) (gates_above c layer)
  wired = go layer here.first here.last
    where
      go : (i : ℕ) → 1 ≤ i → i ≤ depth c → All (λ g. (g.left < 2 ^ exponent_at c i) × (g.right < 2 ^ exponent_at c i)) (gates_above c i)
      go zero low n = absurd (omega arith)
      go (suc i) low n = legal_wires c here.legal i n

  count_above : length (gates_above c layer) ≡ 2 ^ exponent_at c (layer - 1)
  count_above = go layer here.first here.last
    where
      go : (i : ℕ) → 1 ≤ i → i ≤ depth c → length (gates_above c i) ≡ 2 ^ exponent_at c (i - 1)
      go zero low n = absurd (omega arith)
      go (suc i) low n =
          let e : suc i - 1 ≡ i = omega arith in
          layer_count c here.legal.sized.headed i n ∙ ap (λ (j : ℕ). 2 ^ exponent_at c j) (sym e)

  -- the message of a round, by whether it is a line
  abbrev either : Bool → List ℕ
  either b =
      let k = exponent_at c layer in
      let xs = fixed c layer past in
      let N = words (prime_of c) in
      cond b (line_message N vs (take k xs) (drop k xs)) (sum_message N k (gates_above c layer) (point_at c layer past) vs xs)

  -- a message has its round's length
  message_size : length (message_from c vs (place layer round) past) ≡ message_length c (place layer round)
  message_size = go (is_line c (place layer round)) refl
    where
      N : Numbers ℕ
      N = words (prime_of c)

      k : ℕ
      k = exponent_at c layer

      xs : List ℕ
      xs = fixed c layer past

      pos : 0 < prime_of c
      pos = let p = least in omega arith

      go : (b : Bool) → is_line c (place layer round) ≡ b → length (either (is_line c (place layer round))) ≡ message_length c (place layer round)
      go true e =
          let all : round ≡ 2 * k = eqb-true round (2 * k) e in
          let wide : length (take k xs) ≡ k = length-take-le k xs (omega (arith, all, own_coins c layer round past here)) in
          ap (λ (b : Bool). length (either b)) e
          ∙ (line_message_words (prime_of c) pos vs (take k xs) (drop k xs)).0 ∙ ap suc wide ∙ sym (add-one k) ∙ length_of_line c (place layer round) k refl e
      go false e =
          ap (λ (b : Bool). length (either b)) e
          ∙ (sum_message_words (prime_of c) pos k (gates_above c layer) (point_at c layer past) vs xs).0 ∙ length_of_sum c (place layer round) e

  pub sum_written : (ws after : List ℕ) → ws ≡ message_from c vs (place layer round) past → after ≡ over (take (length buffer) ws) buffer
      → after ≡ over (message_from c vs (place layer round) past) buffer
  sum_written ws after e put =
      over_whole ws buffer after (omega (arith, h.room, ap length e, message_size)) put ∙ ap (λ (l : List ℕ). over l buffer) e

  module _ (s : Stand) (t : Stands c layer past s) where
    pub sum_words : is_line c (place layer round) ≡ false → (gates : List ℕ) → GatesAbove c layer gates
        → summed (prime_of c) gates vs round s ≡ message_from c vs (place layer round) past
    sum_words nl gates above =
        let N = words (prime_of c) in
        let k : ℕ = exponent_at c layer in
        let xs : List ℕ = fixed c layer past in
        let ms : ℕ → List Gate → List ℕ → List ℕ = λ k gs z. round_message N (min k row_length) gs z vs s.points round in
        let size : length xs ≡ round = own_coins c layer round past here in
        let few : k ≤ max_exponent = own_small c layer round past here in
        let small : k ≤ row_length = omega arith in
        let reached : round ≤ 2 * k = here.reached in
        let ne : ¬ (round ≡ 2 * k) = λ (q : round ≡ 2 * k). true≢false (sym (eq-eqb round (2 * k) q) ∙ nl) in
        let law =
        honest_round (prime_of c) prime (let p = least in omega arith) k round (gates_above c layer) (point_at c layer past) vs s.points few
        (omega (arith, reached, ne)) t.first.size t.second.size h.sized wired (le_of_eq (count_above ∙ ap (λ (n : ℕ). 2 ^ n) (sym (point_size c layer round past here)))) in
        let back : take round (take k (get_or s.points 0 []) ++ take k (get_or s.points 1 [])) ≡ xs =
        ap (λ (n : ℕ). take n (take k (get_or s.points 0 []) ++ take k (get_or s.points 1 []))) (sym size)
        ∙ rows_back k xs (get_or s.points 0 []) (get_or s.points 1 []) small (omega arith) t.first t.second in
        ap (λ (n : ℕ). ms n (gates_in gates) s.point) t.own
        ∙ ap₂ (ms k) (gates_above_lem c layer round past here gates above) t.point ∙ law
        ∙ ap (sum_message N k (gates_above c layer) (point_at c layer past) vs) back
        ∙ sym (ap either nl)

    pub line_words : is_line c (place layer round) ≡ true → (n : ℕ) → n ≡ message_length c (place layer round)
        → take n (lined (prime_of c) vs s) ≡ message_from c vs (place layer round) past
    line_words il n en =
        let N = words (prime_of c) in
        let k : ℕ = exponent_at c layer in
        let xs : List ℕ = fixed c layer past in
        let all : round ≡ 2 * k = eqb-true round (2 * k) il in
        let size : length xs ≡ 2 * k = own_coins c layer round past here ∙ all in
        let small : k ≤ max_exponent = own_small c layer round past here in
        let wide-u : length (take k xs) ≡ k = length-take-le k xs (omega arith) in
        let wide-v : length (drop k xs) ≡ k = length-drop k xs ∙ omega arith in
        let u : take s.own (get_or s.points 0 []) ≡ take k xs = front_take t.first s.own (t.own ∙ sym wide-u) in
        let v : take s.own (get_or s.points 1 []) ≡ drop k xs = front_take t.second s.own (t.own ∙ sym wide-v) in
        let same : length (take k xs) ≡ length (drop k xs) = wide-u ∙ sym wide-v in
        let count : length (line_halving N vs (take k xs) (drop k xs)) ≡ n =
        length_line_halving N vs (take k xs) (drop k xs) same ∙ ap suc wide-u ∙ sym (add-one k) ∙ length_of_line c (place layer round) k refl il ∙ sym en in
        take_front (line_halving N vs (take k xs) (drop k xs)) _ _ n (ap₂ (λ (a b : List ℕ). padded (line_halving N vs a b)) u v) count
        ∙ line_by_halves (prime_of c) prime vs (take k xs) (drop k xs) same (let p = least in omega (arith, wide-u, small))
        (h.sized ∙ ap (λ (m : ℕ). 2 ^ m) (sym wide-u)) h.residues
        ∙ sym (ap either il)
