-- The layers of a legal circuit: their sizes, their values, their wires.
-- Assumes nothing.
use Prim.Native.Nat.{ℕ, zero, suc, ◌+◌, ◌-◌, ◌*◌, ◌^◌, ◌≤◌, ◌<◌, zero-le}
use mathlib.Core.Path.{◌≡◌, refl, sym, ap, ap₂, ◌∙◌}
use mathlib.Core.Bool.{Bool, true, ◌&&◌}
use mathlib.Core.List.{List, [], ◌∷◌, map}
use native.Mathlib.Nat.{le_of_suc-le-suc, le_trans, le_of_eq}
use native.Mathlib.Omega.{arith}
use lib.Dec.{ltb}
use lib.ListN.{length, length-map, get_or, drop}
use borrow.Author.Tests.{lt-ltb, ltb-true}
use Rattle.lists.specs.Each.{All}
use Rattle.primes.proofs.Prime.{listed_prime}
use Rattle.refusal.proofs.Order.{first_none}
use Rattle.algebra.specs.Numbers.{Numbers, words}
use Rattle.circuit.specs.Limits.{max_outputs}
use Rattle.circuit.specs.Gate.{Gate, gate_value}
use Rattle.circuit.specs.Circuit.{prime_of, depth, exponents, exponent_at, output_exponent, gates_start, gates_of, layers_of, gate_layers, gates_at, input_exponent}
use Rattle.circuit.specs.Legal.{all_below, gate_cause, gates_cause, layers_cause, lists_cause}
use Rattle.circuit.specs.Sized.{LegalCircuit}
use Rattle.circuit.specs.Values.{layers_from, layers, values_at, outputs}
use Rattle.circuit.specs.Theorems.{LegalPrime, ValuesAreResidues, LayerSizes, LastLayer, LayerByLayer, WiresBelow, OutputLayer, OneOutput}
use Rattle.circuit.proofs.Operate.{operate_below}
use Rattle.circuit.proofs.Sized.{outputs_few, deep}
use Rattle.circuit.proofs.Gates.{length_layers}
use Rattle.circuit.proofs.Loading.{split_true, legal_circuit, legal_lists}
use Rattle.circuit.proofs.Legal.{gate_wires, length_gates}

pub legal_prime : LegalPrime
legal_prime c e = listed_prime (prime_of c) (legal_circuit c e).listed

-- words below a bound, as a test and as a fact
pub all_below_lem : (p : ℕ) (ws : List ℕ) → all_below p ws ≡ true → All (λ w. w < p) ws
unfolding all_below
all_below_lem p [] e = tt
all_below_lem p (w ∷ ws) e =
    let parts = split_true (ltb w p) (all_below p ws) e in
    (ltb-true w p parts.0, all_below_lem p ws parts.1)

pub below_all : (p : ℕ) (ws : List ℕ) → All (λ w. w < p) ws → all_below p ws ≡ true
unfolding all_below
below_all p [] h = refl
below_all p (w ∷ ws) h = ap₂ (λ (a b : Bool). a && b) (lt-ltb w p h.0) (below_all p ws h.1)

-- VALUES
values_below : (p : ℕ) → 0 < p → (next : List ℕ) (gs : List Gate) → All (λ v. v < p) (map (gate_value (words p) next) gs)
unfolding gate_value
values_below p pos next [] = tt
values_below p pos next (g ∷ gs) = (operate_below p pos g.kind _ _, values_below p pos next gs)

layers_below : (p : ℕ) → 0 < p → (ls : List (List Gate)) (input : List ℕ) → All (λ v. v < p) input
    → All (λ layer. All (λ v. v < p) layer) (layers_from (words p) ls input)
unfolding layers_from
layers_below p pos [] input h = (h, tt)
layers_below p pos (gs ∷ ls) input h = (values_below p pos (get_or (layers_from (words p) ls input) 0 []) gs, layers_below p pos ls input h)

pub values_are_residues : ValuesAreResidues
unfolding layers
values_are_residues c input e =
    let legal = legal_lists c input e in
    let two = (listed_prime (prime_of c) legal.circuit.listed).two_le in
    layers_below (prime_of c) (omega arith) (gate_layers c) input (all_below_lem (prime_of c) input legal.residues)

-- SIZES
sizes_from : (N : Numbers ℕ) (k : ℕ) (ks ws input : List ℕ) (i : ℕ) → i ≤ length ks → length input ≡ 2 ^ get_or (k ∷ ks) (length ks) 0
    → length (get_or (layers_from N (layers_of k ks ws) input) i []) ≡ 2 ^ get_or (k ∷ ks) i 0
unfolding layers_from layers_of
sizes_from N k [] ws input zero h e = e
sizes_from N k [] ws input (suc i) h e = absurd (omega arith)
sizes_from N k (k' ∷ ks) ws input zero h e =
    length-map (gates_of (2 ^ k) ws) (gate_value N (get_or (layers_from N (layers_of k' ks (drop (3 * 2 ^ k) ws)) input) 0 [])) ∙ length_gates (2 ^ k) ws
sizes_from N k (k' ∷ ks) ws input (suc i) h e = sizes_from N k' ks (drop (3 * 2 ^ k) ws) input i (le_of_suc-le-suc h) e

pub layer_sizes : LayerSizes
unfolding values_at layers gate_layers input_exponent
layer_sizes c input e i h =
    let legal = legal_lists c input e in
    let size = deep c legal.circuit in
    sizes_from (words (prime_of c)) (output_exponent c) (exponents c) (drop (gates_start c) c) input i (omega arith) legal.sized

length_from : (N : Numbers ℕ) (ls : List (List Gate)) (input : List ℕ) → length (layers_from N ls input) ≡ suc (length ls)
unfolding layers_from
length_from N [] input = refl
length_from N (gs ∷ ls) input = ap suc (length_from N ls input)

pub length_all_layers : (c input : List ℕ) → LegalCircuit c → length (layers c input) ≡ suc (depth c)
unfolding layers gate_layers
length_all_layers c input legal =
    length_from (words (prime_of c)) (layers_of (output_exponent c) (exponents c) (drop (gates_start c) c)) input
    ∙ ap suc (length_layers (output_exponent c) (exponents c) (drop (gates_start c) c) ∙ deep c legal)

-- LAYER BY LAYER
last_from : (N : Numbers ℕ) (ls : List (List Gate)) (input : List ℕ) → get_or (layers_from N ls input) (length ls) [] ≡ input
unfolding layers_from
last_from N [] input = refl
last_from N (gs ∷ ls) input = last_from N ls input

pub last_layer : LastLayer
unfolding values_at layers gate_layers
last_layer c input e =
    let legal = legal_lists c input e in
    let size : depth c ≡ length (layers_of (output_exponent c) (exponents c) (drop (gates_start c) c)) =
    sym (length_layers (output_exponent c) (exponents c) (drop (gates_start c) c) ∙ deep c legal.circuit) in
    ap (λ (i : ℕ). get_or (layers_from (words (prime_of c)) (layers_of (output_exponent c) (exponents c) (drop (gates_start c) c)) input) i []) size
    ∙ last_from (words (prime_of c)) (layers_of (output_exponent c) (exponents c) (drop (gates_start c) c)) input

step_from : (N : Numbers ℕ) (ls : List (List Gate)) (input : List ℕ) (i : ℕ) → i < length ls
    → get_or (layers_from N ls input) i [] ≡ map (gate_value N (get_or (layers_from N ls input) (suc i) [])) (get_or ls i [])
unfolding layers_from
step_from N [] input i h = absurd (omega arith)
step_from N (gs ∷ ls) input zero h = refl
step_from N (gs ∷ ls) input (suc i) h = step_from N ls input i (le_of_suc-le-suc h)

pub layer_by_layer : LayerByLayer
unfolding values_at layers gate_layers gates_at
layer_by_layer c input e i h =
    let legal = legal_lists c input e in
    let size = length_layers (output_exponent c) (exponents c) (drop (gates_start c) c) ∙ deep c legal.circuit in
    step_from (words (prime_of c)) (layers_of (output_exponent c) (exponents c) (drop (gates_start c) c)) input i (omega (arith, size))

-- WIRES
gates_wired : (next : ℕ) (gs : List Gate) → gates_cause next gs ≡ 0 → All (λ g. (g.left < next) × (g.right < next)) gs
unfolding gates_cause
gates_wired next [] e = tt
gates_wired next (g ∷ gs) e =
    let parts = first_none (gate_cause next g) (gates_cause next gs) e in
    let w = gate_wires next g parts.0 in
    ((w.left, w.right), gates_wired next gs parts.1)

layers_wired : (ks : List ℕ) (ls : List (List Gate)) (i : ℕ) → layers_cause ks ls ≡ 0 → i < length ks
    → All (λ g. (g.left < 2 ^ get_or ks i 0) × (g.right < 2 ^ get_or ks i 0)) (get_or ls i [])
unfolding layers_cause
layers_wired [] ls i e h = absurd (omega arith)
layers_wired (k ∷ ks) [] i e h = tt
layers_wired (k ∷ ks) (gs ∷ ls) zero e h = gates_wired (2 ^ k) gs (first_none (gates_cause (2 ^ k) gs) (layers_cause ks ls) e).0
layers_wired (k ∷ ks) (gs ∷ ls) (suc i) e h =
    layers_wired ks ls i (first_none (gates_cause (2 ^ k) gs) (layers_cause ks ls) e).1 (le_of_suc-le-suc h)

pub legal_wires : (c : List ℕ) → LegalCircuit c → (i : ℕ) → i < depth c
    → All (λ g. (g.left < 2 ^ exponent_at c (suc i)) × (g.right < 2 ^ exponent_at c (suc i))) (gates_at c i)
unfolding gates_at
legal_wires c legal i h = layers_wired (exponents c) (gate_layers c) i legal.wired (le_trans h (le_of_eq (sym (deep c legal))))

pub wires_below_next : WiresBelow
wires_below_next c e i h = legal_wires c (legal_circuit c e) i h

first_below : (p : ℕ) (ls : List (List ℕ)) → All (λ layer. All (λ v. v < p) layer) ls → All (λ v. v < p) (get_or ls 0 [])
first_below p [] h = tt
first_below p (vs ∷ ls) h = h.0

pub output_layer : OutputLayer
unfolding values_at
output_layer c input e = record {
  size = layer_sizes c input e 0 zero-le;
  residues = first_below (prime_of c) (layers c input) (values_are_residues c input e);
}

pub outputs_short : (c input : List ℕ) → lists_cause c input ≡ 0 → length (outputs c input) ≤ max_outputs
outputs_short c input e =
    le_trans (le_of_eq (output_layer c input e).size) (outputs_few (output_exponent c) (legal_lists c input e).circuit.sized.headed.few)

-- a list of one word
single : (l : List ℕ) → length l ≡ 1 → l ≡ get_or l 0 0 ∷ []
single [] e = absurd (omega arith)
single (x ∷ []) e = refl
single (x ∷ y ∷ l) e = absurd (omega arith)

pub one_output : OneOutput
one_output c input e none = single (outputs c input) ((output_layer c input e).size ∙ ap (λ (k : ℕ). 2 ^ k) none)

-- the largest residue of a listed prime
pub prime_modulus : (c : List ℕ) → LegalCircuit c → (largest : ℕ) → largest ≡ prime_of c - 1 → largest + 1 ≡ prime_of c
prime_modulus c h largest e = let two = (listed_prime (prime_of c) h.listed).two_le in omega arith
