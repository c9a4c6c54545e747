-- Load's answer, refusal by refusal, in the order in which they are tried.
-- Assumes nothing.
use Prim.Native.Nat.{ℕ, ◌+◌, ◌^◌, ◌≤◌, ◌<◌}
use mathlib.Core.Path.{◌≡◌, refl, ap, ◌∙◌}
use mathlib.Core.Bool.{Bool, true, false, ◌&&◌, false≢true}
use mathlib.Core.List.{List, [], ◌∷◌}
use lib.Dec.{eqb, leb}
use lib.ListN.{length}
use borrow.Author.Tests.{lt-leb, le-leb, eq-eqb, ne_eqb, leb-true, eqb-true}
use Rattle.refusal.specs.Number.{number_of}
use Rattle.refusal.specs.declared.Cause.{Cause}
use Rattle.refusal.proofs.Order.{need_none, first_none, refused_first, need_all, first_all}
use Rattle.primes.specs.Prime.{is_listed}
use Rattle.circuit.specs.Limits.{header_words, max_depth, max_exponent, max_output_exponent}
use Rattle.circuit.specs.Gate.{Gate, max_kind}
use Rattle.circuit.specs.Circuit.{prime_of, depth, output_exponent, exponents, gate_layers, word_count, input_count}
use Rattle.circuit.specs.Legal.{all_below, depth_good, exponents_good, wires_good, gate_cause, gates_cause, layers_cause, load_answer, input_cause, lists_cause}
use Rattle.circuit.specs.Sized.{Exponents, LegalCircuit}

both_true : {a b : Bool} → a ≡ true → b ≡ true → (a && b) ≡ true
both_true {a} {b} e f = ap (λ (x : Bool). x && b) e ∙ f

second_false : (a : Bool) {b : Bool} → b ≡ false → (a && b) ≡ false
second_false true e = e
second_false false e = refl

pub split_true : (a b : Bool) → (a && b) ≡ true → (a ≡ true) × (b ≡ true)
split_true true b e = (refl, e)
split_true false b e = absurd (false≢true e)

-- neither 3 nor 4
pub headed : (c : List ℕ) → depth c ≤ max_depth → exponents_good c ≡ true → Exponents c
headed c shallow e =
    let outs = split_true (leb (output_exponent c) max_output_exponent) _ e in
    let exps = split_true (eqb (length (exponents c)) (depth c)) (all_below (max_exponent + 1) (exponents c)) outs.1 in
    record {
      shallow = shallow;
      few = leb-true (output_exponent c) max_output_exponent outs.0;
      whole = eqb-true (length (exponents c)) (depth c) exps.0;
      small = exps.1;
    }

-- none of 1 to 3
pub record Ranged (c : List ℕ) : Type 0 where
  pub headed : leb header_words (length c) ≡ true
  pub listed : is_listed (prime_of c) ≡ true
  pub low : 1 ≤ depth c
  pub high : depth c ≤ max_depth

module _ (c : List ℕ) where
  pub load_short : leb header_words (length c) ≡ false → load_answer c ≡ 1
  unfolding load_answer
  load_short h = simp h

  module _ (two : leb header_words (length c) ≡ true) where
    pub load_prime : is_listed (prime_of c) ≡ false → load_answer c ≡ 2
    unfolding load_answer
    load_prime h = simp (two, h)

    module _ (listed : is_listed (prime_of c) ≡ true) where
      load_depth : depth_good c ≡ false → load_answer c ≡ 3
      unfolding load_answer
      load_depth h = simp (two, listed, h)

      pub load_flat : depth c < 1 → load_answer c ≡ 3
      load_flat h = load_depth (ap (λ (x : Bool). x && leb (depth c) max_depth) (lt-leb 1 (depth c) h))

      pub load_deep : max_depth < depth c → load_answer c ≡ 3
      load_deep h = load_depth (second_false (leb 1 (depth c)) (lt-leb (depth c) max_depth h))

  module _ (r : Ranged c) where
    depth_good_lem : depth_good c ≡ true
    depth_good_lem = both_true (le-leb 1 (depth c) r.low) (le-leb (depth c) max_depth r.high)

    pub load_exponents : exponents_good c ≡ false → load_answer c ≡ 4
    unfolding load_answer
    load_exponents h = simp (r.headed, r.listed, depth_good_lem, h)

    module _ (x : Exponents c) where
      exponents_good_lem : exponents_good c ≡ true
      exponents_good_lem =
          both_true (le-leb (output_exponent c) max_output_exponent x.few)
          (both_true (eq-eqb (length (exponents c)) (depth c) x.whole) x.small)

      pub load_count : ¬ (length c ≡ word_count c) → load_answer c ≡ 5
      unfolding load_answer
      load_count h = simp (r.headed, r.listed, depth_good_lem, exponents_good_lem, ne_eqb (length c) (word_count c) h)

      pub load_gates : length c ≡ word_count c → load_answer c ≡ layers_cause (exponents c) (gate_layers c)
      unfolding load_answer
      load_gates h = simp (r.headed, r.listed, depth_good_lem, exponents_good_lem, eq-eqb (length c) (word_count c) h)

-- NO REFUSAL: what it says of the list
pub legal_circuit : (c : List ℕ) → load_answer c ≡ 0 → LegalCircuit c
unfolding load_answer
legal_circuit c e =
    let two = need_none (leb header_words (length c)) 0 _ e in
    let listed = need_none (is_listed (prime_of c)) 1 _ two.1 in
    let deep = need_none (depth_good c) 2 _ listed.1 in
    let wide = need_none (exponents_good c) 3 _ deep.1 in
    let full = need_none (eqb (length c) (word_count c)) 4 _ wide.1 in
    let range = split_true (leb 1 (depth c)) (leb (depth c) max_depth) deep.0 in
    record {
      sized = record {
        headed = headed c (leb-true (depth c) max_depth range.1) wide.0;
        counted = eqb-true (length c) (word_count c) full.0;
      };
      listed = listed.0;
      some = leb-true 1 (depth c) range.0;
      wired = full.1;
    }

-- THE LISTS OF AN OPERATION, refusal by refusal
module _ (c input : List ℕ) (legal : load_answer c ≡ 0) where
  pub lists_count : ¬ (length input ≡ input_count c) → lists_cause c input ≡ 8
  unfolding lists_cause input_cause
  lists_count h = simp (legal, ne_eqb (length input) (input_count c) h)

  pub lists_word : length input ≡ input_count c → all_below (prime_of c) input ≡ false → lists_cause c input ≡ 9
  unfolding lists_cause input_cause
  lists_word h w = simp (legal, eq-eqb (length input) (input_count c) h, w)

  pub lists_legal : length input ≡ input_count c → all_below (prime_of c) input ≡ true → lists_cause c input ≡ 0
  unfolding lists_cause input_cause
  lists_legal h w = simp (legal, eq-eqb (length input) (input_count c) h, w)

pub lists_load : (c input : List ℕ) (cause : Cause) → number_of cause ≡ load_answer c → lists_cause c input ≡ number_of cause
unfolding lists_cause
lists_load c input cause e = refused_first cause (load_answer c) (input_cause c input) e

-- no refusal of 1 to 9
pub record LegalLists (c input : List ℕ) : Type 0 where
  pub circuit : LegalCircuit c
  pub sized : length input ≡ input_count c
  pub residues : all_below (prime_of c) input ≡ true

pub legal_lists : (c input : List ℕ) → lists_cause c input ≡ 0 → LegalLists c input
unfolding lists_cause input_cause
legal_lists c input e =
    let parts = first_none (load_answer c) (input_cause c input) e in
    let count = need_none (eqb (length input) (input_count c)) 7 _ parts.1 in
    let word = need_none (all_below (prime_of c) input) 8 _ count.1 in
    record { circuit = legal_circuit c parts.0; sized = eqb-true (length input) (input_count c) count.0; residues = word.0 }

-- THE NUMBERS are those up to 9
Low : ℕ → Type 0
Low n = leb n 9 ≡ true

gates_low : (next : ℕ) (gs : List Gate) → Low (gates_cause next gs)
unfolding Low gates_cause gate_cause
gates_low next [] = refl
gates_low next (g ∷ gs) =
    first_all Low (gate_cause next g) (need_all Low (leb g.kind max_kind) refl (need_all Low (wires_good next g) refl refl)) (gates_low next gs)

layers_low : (ks : List ℕ) (ls : List (List Gate)) → Low (layers_cause ks ls)
unfolding Low layers_cause
layers_low ks [] = refl
layers_low [] (gs ∷ ls) = refl
layers_low (k ∷ ks) (gs ∷ ls) = first_all Low (gates_cause (2 ^ k) gs) (gates_low (2 ^ k) gs) (layers_low ks ls)

pub lists_at_most : (c input : List ℕ) → lists_cause c input ≤ 9
unfolding Low lists_cause load_answer input_cause
lists_at_most c input =
    leb-true (lists_cause c input) 9
    (first_all Low (load_answer c)
    (need_all Low (leb header_words (length c)) refl
    (need_all Low (is_listed (prime_of c)) refl
    (need_all Low (depth_good c) refl
    (need_all Low (exponents_good c) refl
    (need_all Low (eqb (length c) (word_count c)) refl (layers_low (exponents c) (gate_layers c)))))))
    (need_all Low (eqb (length input) (input_count c)) refl (need_all Low (all_below (prime_of c) input) refl refl)))
