-- A circuit, from its word list: "The circuit list is p, D, k_0, k_1 to k_D, then the gates of layers 0 to D-1 in order". The definitions
-- are total; what they give means something where the list is legal.
-- Assumes nothing.
use Rattle.std.specs.Prelude.{ℕ, zero, suc, ◌+◌, ◌*◌, ◌^◌, cond, List, [], ◌∷◌, map, leb, length, take, drop, get_or}
use Rattle.lists.specs.Count.{sum}
use Rattle.circuit.specs.Limits.{header_words, max_exponent}
use Rattle.circuit.specs.Gate.{Gate, gate}

abbrev pub prime_of : List ℕ → ℕ
prime_of c = get_or c 0 0

abbrev pub depth : List ℕ → ℕ
depth c = get_or c 1 0

-- k_0
abbrev pub output_exponent : List ℕ → ℕ
output_exponent c = get_or c 2 0

-- k_1 to k_D
unfoldable pub exponents : List ℕ → List ℕ
exponents c = take (depth c) (drop header_words c)

-- k_i
abbrev pub exponent_at : List ℕ → ℕ → ℕ
exponent_at c i = get_or (output_exponent c ∷ exponents c) i 0

-- "Layer i has 2^k gates for its width exponent": none where the exponent is too large
unfoldable pub width_of : ℕ → ℕ
width_of k = cond (leb k max_exponent) (2 ^ k) 0

-- the first n gates of a list of words
unfoldable pub gates_of : ℕ → List ℕ → List Gate
gates_of zero ws = []
gates_of (suc n) ws = gate (get_or ws 0 0) (get_or ws 1 0) (get_or ws 2 0) ∷ gates_of n (drop 3 ws)

-- the layers of exponent k and of those that follow it, the last one, the input, left out
unfoldable pub layers_of : ℕ → List ℕ → List ℕ → List (List Gate)
layers_of k [] ws = []
layers_of k (k' ∷ ks) ws = gates_of (2 ^ k) ws ∷ layers_of k' ks (drop (3 * 2 ^ k) ws)

-- how many gates they have
unfoldable pub gate_count : ℕ → List ℕ → ℕ
gate_count k [] = 0
gate_count k (k' ∷ ks) = 2 ^ k + gate_count k' ks

-- where the gates start
abbrev pub gates_start : List ℕ → ℕ
gates_start c = header_words + depth c

-- the words of n gates, from gate number i on
abbrev pub gate_words : List ℕ → ℕ → ℕ → List ℕ
gate_words c i n = take (3 * n) (drop (gates_start c + 3 * i) c)

-- the gates of layers 0 to D-1
unfoldable pub gate_layers : List ℕ → List (List Gate)
gate_layers c = layers_of (output_exponent c) (exponents c) (drop (gates_start c) c)

-- how many gates stand before layer i
abbrev pub gates_before : List ℕ → ℕ → ℕ
gates_before c i = gate_count (output_exponent c) (take i (exponents c))

-- the gates of layer i
unfoldable pub gates_at : List ℕ → ℕ → List Gate
gates_at c i = get_or (gate_layers c) i []

-- the words that the exponents call for
unfoldable pub word_count : List ℕ → ℕ
word_count c = gates_start c + 3 * gate_count (output_exponent c) (exponents c)

-- k_D, and the number of input words
unfoldable pub input_exponent : List ℕ → ℕ
input_exponent c = exponent_at c (length (exponents c))

abbrev pub input_count : List ℕ → ℕ
input_count c = 2 ^ input_exponent c

-- all gate and input words
unfoldable pub value_count : List ℕ → ℕ
value_count c = gate_count (output_exponent c) (exponents c) + input_count c

-- "k_0 coins come before any message", and "each message has one coin: n is k_0 and the sum of 2k_i + 1 over the layers 1 to D. The messages have
-- 7k_i + 1 words a layer."
unfoldable pub coin_count : List ℕ → ℕ
coin_count c = output_exponent c + sum (map (λ k. 2 * k + 1) (exponents c))

unfoldable pub message_words : List ℕ → ℕ
message_words c = sum (map (λ k. 7 * k + 1) (exponents c))

-- "K is the sum of k_1 to k_D, never with k_0."
unfoldable pub exponent_sum : List ℕ → ℕ
exponent_sum c = sum (exponents c)
