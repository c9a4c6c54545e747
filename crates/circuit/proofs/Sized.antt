-- Laws of a list's exponents: they are small, and so are the widths and counts that follow from them.
-- Assumes nothing.
use Prim.Native.Nat.{ℕ, zero, suc, ◌+◌, ◌-◌, ◌*◌, ◌^◌, ◌≤◌, ◌<◌, zero-le}
use mathlib.Core.Path.{◌≡◌, refl, sym, ap, subst}
use mathlib.Core.Bool.{Bool, true, false, cond, ◌&&◌, false≢true}
use mathlib.Core.List.{List, [], ◌∷◌}
use native.Mathlib.Nat.{pow-le-pow_right, le_refl, mul-le-mul_left}
use native.Mathlib.Decide.{dec_le}
use native.Mathlib.Numerals.{add-one}
use native.Mathlib.Omega.{arith}
use lib.Dec.{ltb, lit<}
use lib.ListN.{length, get_or}
use borrow.Author.Tests.{ltb-true, le-leb, lt-leb}
use Rattle.circuit.specs.Limits.{max_depth, max_exponent, max_output_exponent, max_width, max_outputs, max_gates}
use Rattle.circuit.specs.Circuit.{width_of, depth, exponents, exponent_at, output_exponent, gate_count, input_exponent}
use Rattle.circuit.specs.Legal.{all_below}
use Rattle.circuit.specs.Sized.{Exponents, LegalCircuit, LayerOf}

-- a list whose words are all below a bound, at a place
below_each : (p : ℕ) (ws : List ℕ) (i : ℕ) → all_below p ws ≡ true → i < length ws → get_or ws i 0 < p
unfolding all_below
below_each p [] i e h = absurd (omega arith)
below_each p (w ∷ ws) i e h = go (ltb w p) refl e i h (λ j f g. below_each p ws j f g)
  where
    go : (b : Bool) → ltb w p ≡ b → (b && all_below p ws) ≡ true → (j : ℕ) → j < suc (length ws)
        → ((j : ℕ) → all_below p ws ≡ true → j < length ws → get_or ws j 0 < p) → get_or (w ∷ ws) j 0 < p
    go true q f zero g ih = ltb-true w p q
    go true q f (suc j) g ih = ih j f (omega arith)
    go false q f j g ih = absurd (false≢true f)

below_rest : (p w : ℕ) (ws : List ℕ) → all_below p (w ∷ ws) ≡ true → all_below p ws ≡ true
unfolding all_below
below_rest p w ws e = go (ltb w p) e
  where
    go : (b : Bool) → (b && all_below p ws) ≡ true → all_below p ws ≡ true
    go true f = f
    go false f = absurd (false≢true f)

-- a layer's width
pub width_le : (k : ℕ) → k ≤ max_exponent → 2 ^ k ≤ max_width
width_le k h = pow-le-pow_right (lit< tt) h

pub width_of_lem : (k : ℕ) → k ≤ max_exponent → width_of k ≡ 2 ^ k
unfolding width_of
width_of_lem k h = ap (λ (b : Bool). cond b (2 ^ k) 0) (le-leb k max_exponent h)

pub width_none : (k : ℕ) → max_exponent < k → width_of k ≡ 0
unfolding width_of
width_none k h = ap (λ (b : Bool). cond b (2 ^ k) 0) (lt-leb k max_exponent h)

pub width_small : (k : ℕ) → width_of k ≤ max_width
width_small k = go (dec_le k max_exponent)
  where
    go : Dec (k ≤ max_exponent) → width_of k ≤ max_width
    go (yes h) = rw (width_of_lem k h) (width_le k h)
    go (no h) = rw (width_none k (omega arith)) zero-le

-- how many gates there can be
count_bound : (k : ℕ) (ks : List ℕ) → k ≤ max_exponent → all_below (max_exponent + 1) ks ≡ true → gate_count k ks ≤ max_width * length ks
unfolding gate_count
count_bound k [] l e = omega arith
count_bound k (k' ∷ ks) l e =
    let w = width_le k l in
    let low : k' < max_exponent + 1 = below_each (max_exponent + 1) (k' ∷ ks) 0 e (omega arith) in
    let ih = count_bound k' ks (omega arith) (below_rest (max_exponent + 1) k' ks e) in
    omega arith

-- the outputs of a list whose exponents are there
pub outputs_few : (k : ℕ) → k ≤ max_output_exponent → 2 ^ k ≤ max_outputs
outputs_few k h = pow-le-pow_right (lit< tt) h

-- layer 0 has a gate for each output, and the others are no wider than a layer can be
count_others : (k : ℕ) (ks : List ℕ) → k ≤ max_output_exponent → all_below (max_exponent + 1) ks ≡ true → length ks ≤ max_depth → gate_count k ks ≤ max_gates
unfolding gate_count
count_others k [] l e m = omega arith
count_others k (k' ∷ ks) l e m =
    let w = outputs_few k l in
    let low : k' < max_exponent + 1 = below_each (max_exponent + 1) (k' ∷ ks) 0 e (omega arith) in
    let b = count_bound k' ks (omega arith) (below_rest (max_exponent + 1) k' ks e) in
    let others : length ks ≤ max_depth - 1 = omega arith in
    let all : max_width * length ks ≤ max_width * (max_depth - 1) = mul-le-mul_left max_width others in
    omega arith

pub count_few : (c : List ℕ) → Exponents c → gate_count (output_exponent c) (exponents c) ≤ max_gates
count_few c h = count_others (output_exponent c) (exponents c) h.few h.small (let n = h.shallow in omega (arith, h.whole))

-- a layer's exponent
pub exponent_small : (c : List ℕ) (layer : ℕ) → LayerOf c layer → exponent_at c layer ≤ max_exponent
exponent_small c zero h = let few = h.headed.few in omega arith
exponent_small c (suc l) h =
    let e : get_or (exponents c) l 0 < max_exponent + 1 = below_each (max_exponent + 1) (exponents c) l h.headed.small (omega (arith, h.headed.whole, h.inside)) in
    omega arith

pub exponent_width : (c : List ℕ) (layer : ℕ) → LayerOf c layer → width_of (exponent_at c layer) ≡ 2 ^ exponent_at c layer
exponent_width c layer h = width_of_lem (exponent_at c layer) (exponent_small c layer h)

-- the one after layer i's is the i-th that is written
pub exponent_next : (c written : List ℕ) (i : ℕ) → written ≡ exponents c → get_or written i 0 ≡ exponent_at c (i + 1)
exponent_next c written i e = rw (add-one, e)

module _ (c : List ℕ) (h : LegalCircuit c) where
  -- a legal circuit has D exponents
  pub deep : length (exponents c) ≡ depth c
  deep = h.sized.headed.whole

  pub layer_of : (i : ℕ) → i ≤ depth c → LayerOf c i
  layer_of i n = record { headed = h.sized.headed; inside = n }

  -- the input's exponent is layer D's
  pub last_exponent : exponent_at c (depth c) ≡ input_exponent c
  unfolding input_exponent
  last_exponent = ap (exponent_at c) (sym deep)

  pub last_small : input_exponent c ≤ max_exponent
  last_small = subst (λ (k : ℕ). k ≤ max_exponent) last_exponent (exponent_small c (depth c) (layer_of (depth c) (le_refl (depth c))))
