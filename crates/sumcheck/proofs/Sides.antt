-- A wire's number, cut where a point's fixed coordinates end: the quotient has its first bits, the remainder the others; half of the divisor
-- added turns the first of these. So the tables of a side have the weights and the extension's values that a gate's term asks for.
-- Assumes nothing.
use mathlib.Core.Path.{◌≡◌, refl, sym, ap, ap₂, ◌∙◌}
use mathlib.Core.Bool.{Bool, true, false, not}
use mathlib.Core.List.{List, [], ◌∷◌, ◌++◌}
use Prim.Native.Nat.{ℕ, zero, suc, ◌+◌, ◌*◌, ◌/◌, ◌-◌, ◌%◌, ◌^◌, ◌<◌}
use native.Mathlib.Nat.{mod-lt, two-pow-succ, zero-add, add-zero, add_comm, add-div_right}
use native.Mathlib.Omega.{arith}
use lib.Dec.{ltb}
use lib.Pow.{pow_pos, shr-shr, shr_lt, split, low}
use borrow.Author.Tests.{lt-ltb, le-ltb, eq-eqb, ne_eqb}
use lib.ListN.{length, get_or}
use Rattle.algebra.specs.Numbers.{Numbers}
use Rattle.algebra.specs.Ring.{Ring}
use Rattle.algebra.proofs.Solve.{var, 𝟏, ◌:+◌, ◌:-◌, ◌:*◌, equal, solve}
use Rattle.multilinear.specs.Extension.{odd, bits, factor, weight_of_bits, extension, between, bit, corner}
use Rattle.multilinear.specs.Tables.{weights, folded}
use Rattle.multilinear.proofs.Bits.{bits_suc, bits_multiple}
use Rattle.multilinear.proofs.Extension.{half}
use Rattle.multilinear.proofs.Linear.{linear}
use Rattle.multilinear.proofs.Tables.{listed, folded_entry}
use Rattle.sumcheck.specs.Gatewise.{Side, side_of, share, own, other, is_one}

pub bits_split : (j m b : ℕ) → bits (j + m) b ≡ bits j (b / 2 ^ m) ++ bits m b
unfolding bits
bits_split zero m b = ap (λ (n : ℕ). bits n b) (zero-add m)
bits_split (suc j) m b =
    let more : suc j + m ≡ suc (j + m) = omega arith in
    ap (λ (n : ℕ). bits n b) more
    ∙ ap₂ (λ (t : Bool) (bs : List Bool). t ∷ bs)
    (ap odd (ap (λ (n : ℕ). b / 2 ^ n) (add_comm j m) ∙ sym (shr-shr b m j))) (bits_split j m b)

bits_remainder : (m b : ℕ) → bits m (b % 2 ^ m) ≡ bits m b
bits_remainder m b =
    sym (bits_multiple m (b / 2 ^ m) (b % 2 ^ m)) ∙ ap (bits m) (omega (arith, split b m))

odd_turned : (n : ℕ) → odd (n + 1) ≡ not (odd n)
odd_turned n = go (n % 2) refl (mod-lt n (omega arith))
  where
    go : (r : ℕ) → n % 2 ≡ r → r < 2 → odd (n + 1) ≡ not (odd n)
    go zero e h = eq-eqb ((n + 1) % 2) 1 (omega arith) ∙ ap not (sym (ne_eqb (n % 2) 1 (λ q. omega arith)))
    go (suc zero) e h = ne_eqb ((n + 1) % 2) 1 (λ q. omega arith) ∙ ap not (sym (eq-eqb (n % 2) 1 e))
    go (suc (suc r)) e h = absurd (omega arith)

-- with 2^n added, the first of n + 1 bits turns, and it was 1 where the remainder gets smaller
bits_turned : (n b : ℕ) → bits (suc n) ((b + 2 ^ n) % 2 ^ suc n) ≡ not (odd (b / 2 ^ n)) ∷ bits n b
bits_turned n b =
    bits_remainder (suc n) (b + 2 ^ n) ∙ bits_suc n (b + 2 ^ n)
    ∙ ap₂ (λ (t : Bool) (bs : List Bool). t ∷ bs) (ap odd (add-div_right b (pow_pos n)) ∙ odd_turned (b / 2 ^ n))
    (ap (bits n) (omega arith) ∙ bits_multiple n 1 b)

turned_less : (n b : ℕ) → ltb ((b + 2 ^ n) % 2 ^ suc n) (b % 2 ^ suc n) ≡ odd (b / 2 ^ n)
turned_less n b = go (b / 2 ^ n % 2) refl (mod-lt (b / 2 ^ n) (omega arith))
  where
    t : ℕ
    t = b % 2 ^ n

    c : ℕ
    c = b / 2 ^ n / 2

    below : t < 2 ^ n
    below = mod-lt b (pow_pos n)

    double : 2 ^ suc n ≡ 2 ^ n + 2 ^ n
    double = two-pow-succ n

    whole : (o : ℕ) → b / 2 ^ n % 2 ≡ o → b ≡ c * 2 ^ suc n + (o * 2 ^ n + t)
    whole o e =
        let parts : b / 2 ^ n ≡ 2 * c + o = omega arith in
        omega (arith, split b n, ap (λ (x : ℕ). x * 2 ^ n) parts, ap (λ (x : ℕ). c * x) double)

    go : (o : ℕ) → b / 2 ^ n % 2 ≡ o → o < 2 → ltb ((b + 2 ^ n) % 2 ^ suc n) (b % 2 ^ suc n) ≡ odd (b / 2 ^ n)
    go zero e h =
        let at : b % 2 ^ suc n ≡ t = ap (λ (x : ℕ). x % 2 ^ suc n) (whole 0 e ∙ omega arith) ∙ low c (suc n) {lo = t} (omega (arith, below, double)) in
        let up : (b + 2 ^ n) % 2 ^ suc n ≡ t + 2 ^ n =
        ap (λ (x : ℕ). x % 2 ^ suc n) (omega (arith, whole 0 e)) ∙ low c (suc n) {lo = t + 2 ^ n} (omega (arith, below, double)) in
        le-ltb ((b + 2 ^ n) % 2 ^ suc n) (b % 2 ^ suc n) (omega arith) ∙ sym (ne_eqb (b / 2 ^ n % 2) 1 (λ q. omega arith))
    go (suc zero) e h =
        let at : b % 2 ^ suc n ≡ t + 2 ^ n =
        ap (λ (x : ℕ). x % 2 ^ suc n) (omega (arith, whole 1 e)) ∙ low c (suc n) {lo = t + 2 ^ n} (omega (arith, below, double)) in
        let down : (b + 2 ^ n) % 2 ^ suc n ≡ t =
        ap (λ (x : ℕ). x % 2 ^ suc n) (omega (arith, whole 1 e, ap (λ (x : ℕ). (c + 1) * x) double)) ∙ low (c + 1) (suc n) {lo = t} (omega (arith, below, double)) in
        lt-ltb ((b + 2 ^ n) % 2 ^ suc n) (b % 2 ^ suc n) (omega (arith, below)) ∙ sym (eq-eqb (b / 2 ^ n % 2) 1 e)
    go (suc (suc o)) e h = absurd (omega arith)

module _ {C : Type 0} (N : Numbers C) where
  open N use {add as ◌⊕◌, sub as ◌⊖◌, mul as ◌⊗◌}

  infixl 60 ◌⊕◌ ◌⊖◌
  infixl 70 ◌⊗◌
  -- from x, at t = 0, to y, at t = 1
  abbrev pub toward : C → C → C → C
  toward t x y = x ⊕ t ⊗ (y ⊖ x)

-- a layer of 2^k values restricted to the points that begin with xs: m coordinates are free
pub record Restricted {C : Type 0} (k : ℕ) (vs xs : List C) (m : ℕ) : Type 0 where
  pub parts : length xs + m ≡ k
  pub whole : length vs ≡ 2 ^ k

module _ {C : Type 0} {N : Numbers C} (R : Ring N) where
  open N use {𝟘}

  -- between the values at 0 and at 1, from the one at the bit
  between_toward : (b : Bool) (r : C) (f : Bool → C) → between N r (f false) (f true) ≡ toward N (factor N b r) (f (not b)) (f b)
  unfolding equal
  between_toward true r f =
      solve R (r ∷ f false ∷ f true ∷ []) ((𝟏 :- var 0) :* var 1 :+ var 0 :* var 2) (var 1 :+ var 0 :* (var 2 :- var 1)) tt
  between_toward false r f =
      solve R (r ∷ f false ∷ f true ∷ []) ((𝟏 :- var 0) :* var 1 :+ var 0 :* var 2) (var 2 :+ (𝟏 :- var 0) :* (var 1 :- var 2)) tt

  -- THE TABLES OF A SIDE
  module _ {k : ℕ} {vs xs : List C} {m : ℕ} (s : Restricted k vs xs m) where
    free : k - length xs ≡ m
    free = omega arith

    pub share_is : (next : Bool) (i : ℕ) → i < 2 ^ k → share N (side_of N k vs xs next) i ≡ weight_of_bits N (bits (length xs) (i / 2 ^ m)) xs
    share_is next i h =
        let whole : 2 ^ k ≡ 2 ^ (length xs + m) = ap (λ (n : ℕ). 2 ^ n) (sym s.parts) in
        ap (λ (n : ℕ). get_or (weights N xs) (i / 2 ^ n) 𝟘) free ∙ listed N xs (i / 2 ^ m) (shr_lt (length xs) m (omega arith))

    entry : (i : ℕ) → get_or (folded N xs vs) (i % 2 ^ (k - length xs)) 𝟘 ≡ extension N vs (xs ++ corner N (bits m (i % 2 ^ m)))
    entry i =
        ap (λ (n : ℕ). get_or (folded N xs vs) (i % 2 ^ n) 𝟘) free
        ∙ folded_entry R xs vs m (i % 2 ^ m) (s.whole ∙ ap (λ (n : ℕ). 2 ^ n) (sym s.parts)) (mod-lt i (pow_pos m))

    pub own_is : (next : Bool) (i : ℕ) → own N (side_of N k vs xs next) i ≡ extension N vs (xs ++ corner N (bits m i))
    own_is next i = entry i ∙ ap (λ (bs : List Bool). extension N vs (xs ++ corner N bs)) (bits_remainder m i)

    -- where the next coordinate is the other point's
    pub other_own : (i : ℕ) → other N (side_of N k vs xs false) i ≡ own N (side_of N k vs xs false) i
    other_own i = ap (own N (side_of N k vs xs false)) (add-zero i)

    pub none_one : (i : ℕ) → is_one N (side_of N k vs xs false) i ≡ false
    none_one i =
        let same : (i + 0) % 2 ^ (k - length xs) ≡ i % 2 ^ (k - length xs) = ap (λ (n : ℕ). n % 2 ^ (k - length xs)) (add-zero i) in
        le-ltb ((i + 0) % 2 ^ (k - length xs)) (i % 2 ^ (k - length xs)) (omega arith)

  -- where the next coordinate is this point's
  module _ {k : ℕ} {vs xs : List C} {n : ℕ} (s : Restricted k vs xs (suc n)) (i : ℕ) where
    abbrev here : Side C
    here = side_of N k vs xs true

    size_is : 2 ^ (k - length xs) ≡ 2 ^ suc n
    size_is = ap (λ (m : ℕ). 2 ^ m) (free s)

    half_is : 2 ^ (k - length xs) / 2 ≡ 2 ^ n
    half_is = half n (2 ^ (k - length xs)) size_is

    pub one_is : is_one N here i ≡ odd (i / 2 ^ n)
    one_is = ap₂ (λ (h z : ℕ). ltb ((i + h) % z) (i % z)) half_is size_is ∙ turned_less n i

    other_is : other N here i ≡ extension N vs (xs ++ (bit N (not (odd (i / 2 ^ n))) ∷ corner N (bits n i)))
    other_is =
        ap (λ (h : ℕ). get_or (folded N xs vs) ((i + h) % 2 ^ (k - length xs)) 𝟘) half_is
        ∙ entry s (i + 2 ^ n) ∙ ap (λ (bs : List Bool). extension N vs (xs ++ corner N bs)) (bits_turned n i)

    pub along : (r : C) → extension N vs (xs ++ (r ∷ corner N (bits n i))) ≡ toward N (factor N (odd (i / 2 ^ n)) r) (other N here i) (own N here i)
    along r =
        let at : Bool → C = λ t. extension N vs (xs ++ (bit N t ∷ corner N (bits n i))) in
        linear R vs xs r (corner N (bits n i))
        ∙ between_toward (odd (i / 2 ^ n)) r at
        ∙ ap₂ (toward N (factor N (odd (i / 2 ^ n)) r)) (sym other_is)
        (sym (own_is s true i ∙ ap (λ (bs : List Bool). extension N vs (xs ++ corner N bs)) (bits_suc n i)))
