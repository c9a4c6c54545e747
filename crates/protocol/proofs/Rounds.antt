-- The rounds of a circuit follow one another, one coin each.
-- Assumes nothing.
use Prim.Native.Nat.{ℕ, zero, suc, ◌+◌, ◌*◌, ◌≤◌, ◌<◌}
use mathlib.Core.Path.{◌≡◌, refl, sym, ap, ap₂, ◌∙◌, subst}
use mathlib.Core.Bool.{Bool, true, false, ◌&&◌, cond}
use mathlib.Core.List.{List, [], ◌∷◌, ◌++◌, map, append_assoc}
use native.Mathlib.Nat.{add-zero}
use native.Mathlib.Numerals.{add-one}
use native.Mathlib.Omega.{arith}
use lib.Dec.{eqb}
use lib.ListN.{length, length-append, length-drop, take, get_or, take-append-drop}
use lib.Seq.{length-take-le, take-append_seam, get_or-append_seam}
use borrow.Author.Tests.{eq-eqb, ne_eqb}
use Rattle.lists.specs.Count.{sum}
use Rattle.lists.proofs.Each.{all_take, all_drop}
use Rattle.lists.proofs.Count.{sum_nil, sum_cons, sum_append}
use Rattle.lists.proofs.Map.{map_append}
use Rattle.counting.specs.Coins.{CoinList}
use Rattle.circuit.specs.Circuit.{prime_of, output_exponent, exponents, exponent_at, coin_count}
use Rattle.circuit.proofs.Sized.{deep}
use Rattle.walk.specs.Session.{Follows, Chain}
use Rattle.protocol.specs.Start.{first_point, later_coins}
use Rattle.protocol.specs.Rounds.{Place, place, rounds_of, rounds_from, rounds, coins_of, layer_start, is_line, AtRound}
use Rattle.protocol.specs.Judge.{descent}

pub coins_append : (a b : List ℕ) → coins_of (a ++ b) ≡ coins_of a + coins_of b
coins_append a b = ap sum (map_append (λ k. 2 * k + 1) a b) ∙ sum_append (map (λ k. 2 * k + 1) a) (map (λ k. 2 * k + 1) b)

pub coins_one : (k : ℕ) → coins_of (k ∷ []) ≡ 2 * k + 1
coins_one k = sum_cons (2 * k + 1) [] ∙ ap (λ (n : ℕ). 2 * k + 1 + n) sum_nil ∙ add-zero (2 * k + 1)

module _ (c : List ℕ) where
  follows_rounds : (r : Place) (i j n : ℕ) (rest : List Place) → (descent c).last r ≡ false → (descent c).after r ≡ place i j → Follows (descent c) r (rounds_of i j n ++ rest)
  unfolding rounds_of
  follows_rounds r i j zero rest a b = (a, b)
  follows_rounds r i j (suc n) rest a b = (a, b)

  chain_rounds : (i j n s : ℕ) (rest : List Place) → layer_start c i + j ≡ s → j + n ≡ 2 * exponent_at c i
      → Follows (descent c) (place i (2 * exponent_at c i)) rest → Chain (descent c) rest (s + n + 1) → Chain (descent c) (rounds_of i j n ++ rest) s
  unfolding rounds_of Chain descent
  chain_rounds i j zero s rest e l f ch =
      (e, subst (λ (x : ℕ). Follows (descent c) (place i x) rest) (sym (sym (add-zero j) ∙ l)) f, subst (Chain (descent c) rest) (rw (add-zero) (add-one s)) ch)
  chain_rounds i j (suc n) s rest e l f ch =
      let ne : ¬ (j ≡ 2 * exponent_at c i) = λ (q : j ≡ 2 * exponent_at c i). omega arith in
      let nl : is_line c (place i j) ≡ false = ne_eqb _ _ ne in (
        e,
        follows_rounds (place i j) i (suc j) n rest (ap (λ (b : Bool). b && eqb i (length (exponents c))) nl)
            (ap (λ (b : Bool). cond b (place (suc i) 0) (place i (suc j))) nl),
        chain_rounds i (suc j) n (suc s) rest (omega arith) (omega arith) f (subst (Chain (descent c) rest) (omega arith) ch),
      )

  line_follows : (i : ℕ) (back : List ℕ) → i + length back ≡ length (exponents c) → Follows (descent c) (place i (2 * exponent_at c i)) (rounds_from (suc i) back)
  unfolding rounds_from descent exponents
  line_follows i [] n =
      let il : is_line c (place i (2 * exponent_at c i)) ≡ true = eq-eqb (2 * exponent_at c i) (2 * exponent_at c i) refl in
      ap₂ (λ (a b : Bool). a && b) il (eq-eqb i (length (exponents c)) (sym (add-zero i) ∙ n))
  line_follows i (k ∷ back) n =
      let il : is_line c (place i (2 * exponent_at c i)) ≡ true = eq-eqb (2 * exponent_at c i) (2 * exponent_at c i) refl in
      let ne : ¬ (i ≡ length (exponents c)) = λ (q : i ≡ length (exponents c)). omega arith in
      follows_rounds (place i (2 * exponent_at c i)) (suc i) 0 (2 * k) (rounds_from (suc (suc i)) back)
      (ap₂ (λ (a b : Bool). a && b) il (ne_eqb _ _ ne))
      (ap (λ (b : Bool). cond b (place (suc i) 0) (place i (suc (2 * exponent_at c i)))) il)

  chain_from : (front back : List ℕ) → front ++ back ≡ exponents c → Chain (descent c) (rounds_from (suc (length front)) back) (output_exponent c + coins_of front)
  unfolding rounds_from Chain
  chain_from front [] e = tt
  chain_from front (k ∷ back) e =
      let i : ℕ = suc (length front) in
      let ek : exponent_at c i ≡ k = subst (λ (l : List ℕ). get_or l (length front) 0 ≡ k) e (get_or-append_seam front k back 0) in
      let k₀ : ℕ = output_exponent c in
      let seam = ap coins_of (take-append_seam front (k ∷ back)) in
      let es : coins_of (take (length front) (exponents c)) ≡ coins_of front = subst (λ (l : List ℕ). coins_of (take (length front) l) ≡ coins_of front) e seam in
      let front' : List ℕ = front ++ (k ∷ []) in
      let en : length front' ≡ suc (length front) = length-append front (k ∷ []) ∙ add-one (length front) in
      let ec : k₀ + coins_of front' ≡ k₀ + coins_of front + 2 * k + 1 = omega (arith, coins_append front (k ∷ []), coins_one k) in
      let ih : Chain (descent c) (rounds_from (suc (length front')) back) (k₀ + coins_of front') = chain_from front' back (append_assoc front (k ∷ []) back ∙ e) in
      chain_rounds i 0 (2 * k) (k₀ + coins_of front) (rounds_from (suc i) back) (omega arith) (rw ek (omega arith))
      (line_follows i back (omega (arith, length-append front (k ∷ back), ap length e)))
      (subst (Chain (descent c) (rounds_from (suc i) back)) ec (subst (λ (x : ℕ). Chain (descent c) (rounds_from (suc x) back) (k₀ + coins_of front')) en ih))

  pub chain_all : Chain (descent c) (rounds c) (output_exponent c)
  chain_all =
      subst (Chain (descent c) (rounds c)) (ap (λ (n : ℕ). output_exponent c + n) sum_nil ∙ add-zero (output_exponent c)) (chain_from [] (exponents c) refl)

pub length_rounds_of : (i j n : ℕ) → length (rounds_of i j n) ≡ suc n
unfolding rounds_of
length_rounds_of i j zero = refl
length_rounds_of i j (suc n) = ap suc (length_rounds_of i (suc j) n)

-- as many rounds as coins
length_rounds : (i : ℕ) (ks : List ℕ) → length (rounds_from i ks) ≡ coins_of ks
unfolding rounds_from
length_rounds i [] = sym sum_nil
length_rounds i (k ∷ ks) =
    length-append (rounds_of i 0 (2 * k)) (rounds_from (suc i) ks)
    ∙ omega (arith, length_rounds_of i 0 (2 * k), length_rounds (suc i) ks, sum_cons (2 * k + 1) (map (λ k. 2 * k + 1) ks))

pub as_many : (c : List ℕ) → output_exponent c + length (rounds c) ≡ coin_count c
unfolding coin_count
as_many c = ap (λ (n : ℕ). output_exponent c + n) (length_rounds 1 (exponents c))

-- a coin list is the first point's coins and one for each round
pub record Split (c cs : List ℕ) : Type 0 where
  pub before : CoinList (prime_of c) (output_exponent c) (first_point c cs)
  pub later : CoinList (prime_of c) (length (rounds c)) (later_coins c cs)
  pub whole : first_point c cs ++ later_coins c cs ≡ cs

pub coins_split : (c cs : List ℕ) → CoinList (prime_of c) (coin_count c) cs → Split c cs
coins_split c cs v =
    let k : ℕ = output_exponent c in
    let n = as_many c in
    let m : length cs ≡ coin_count c = v.0 in
    record {
      before = (length-take-le k cs (omega arith), all_take (λ t. t < prime_of c) k cs v.1);
      later = (length-drop k cs ∙ omega arith, all_drop (λ t. t < prime_of c) k cs v.1);
      whole = take-append-drop k cs;
    }

-- a round's layer is one of the exponents'
pub within : (c : List ℕ) (r : Place) (n : ℕ) → AtRound c r n → r.layer ≤ length (exponents c)
within c r n h = subst (λ (d : ℕ). r.layer ≤ d) (sym (deep c h.legal)) h.last
