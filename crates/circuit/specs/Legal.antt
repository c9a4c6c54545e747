-- "A circuit is legal if none of 1 to 7 holds of its list .., an input if it is 2^k_D residues": the refusals 1 to 9 in their order.
-- Assumes nothing.
use Rattle.std.specs.Prelude.{ℕ, ◌+◌, ◌^◌, Bool, true, not, ◌&&◌, ◌||◌, List, [], ◌∷◌, eqb, ltb, leb, length}
use Rattle.primes.specs.Prime.{is_listed}
use Rattle.refusal.specs.Order.{need, first}
use Rattle.circuit.specs.Limits.{header_words, max_depth, max_exponent, max_output_exponent}
use Rattle.circuit.specs.Gate.{Gate, max_kind}
use Rattle.circuit.specs.Circuit.{prime_of, depth, output_exponent, exponents, gate_layers, word_count, input_count}

unfoldable pub all_below : ℕ → List ℕ → Bool
all_below p [] = true
all_below p (w ∷ ws) = ltb w p && all_below p ws

-- 3 "D is outside 1 to 12", 4 "the list ends before its exponents", or k_0 is above 4 or another one above 8
abbrev pub depth_good : List ℕ → Bool
depth_good c = leb 1 (depth c) && leb (depth c) max_depth

abbrev pub exponents_good : List ℕ → Bool
exponents_good c =
    leb (output_exponent c) max_output_exponent && (eqb (length (exponents c)) (depth c) && all_below (max_exponent + 1) (exponents c))

-- the wires of a gate above a layer of `next` gates; 7 "a gate's left or right is outside the next layer, left is above right and the kind is not 3,
-- or the gate is empty and has a nonzero wire"
unfoldable pub wires_good : ℕ → Gate → Bool
wires_good next g =
    ltb g.left next
    && (ltb g.right next && ((eqb g.kind 3 || leb g.left g.right) && (not (eqb g.kind 0) || (eqb g.left 0 && eqb g.right 0))))

-- 6 "a gate's kind is above 3", then 7: "inside a gate 6 before 7"
unfoldable pub gate_cause : ℕ → Gate → ℕ
gate_cause next g = need (leb g.kind max_kind) 6 (need (wires_good next g) 7 0)

unfoldable pub gates_cause : ℕ → List Gate → ℕ
gates_cause next [] = 0
gates_cause next (g ∷ gs) = first (gate_cause next g) (gates_cause next gs)

-- layer by layer, each above a layer of 2^k gates
unfoldable pub layers_cause : List ℕ → List (List Gate) → ℕ
layers_cause ks [] = 0
layers_cause [] (gs ∷ ls) = 0
layers_cause (k ∷ ks) (gs ∷ ls) = first (gates_cause (2 ^ k) gs) (layers_cause ks ls)

-- LOAD: "It refuses by 1, 2, 3, 4, 5 in this order, then by the first bad gate"; 0 where the list is legal
unfoldable pub load_answer : List ℕ → ℕ
load_answer c =
    need (leb header_words (length c)) 1
    (need (is_listed (prime_of c)) 2
    (need (depth_good c) 3
    (need (exponents_good c) 4
    (need (eqb (length c) (word_count c)) 5
    (layers_cause (exponents c) (gate_layers c))))))

-- 8 "the input count is not 2^k_D", 9 "an input word is not below p"
unfoldable pub input_cause : List ℕ → List ℕ → ℕ
input_cause c input = need (eqb (length input) (input_count c)) 8 (need (all_below (prime_of c) input) 9 0)

-- the refusals 1 to 9 that every operation on a circuit and its input begins with
unfoldable pub lists_cause : List ℕ → List ℕ → ℕ
lists_cause c input = first (load_answer c) (input_cause c input)
