-- `load` meets its contract: each return is one case of `load_answer`, tried in its order.
use Prim.Native.Nat.{ℕ, ◌≤◌}
use mathlib.Core.Path.{◌≡◌, sym, ap, ◌∙◌}
use mathlib.Core.Bool.{true}
use mathlib.Core.List.{List}
use lib.Dec.{leb}
use native.Mathlib.Omega.{arith}
use lib.ListN.{length}
use Rattle.primes.specs.Prime.{is_listed}
use Rattle.circuit.specs.Limits.{header_words, max_depth}
use Rattle.circuit.specs.Circuit.{prime_of, depth}
use Rattle.circuit.proofs.Loading.{Ranged, load_short, load_prime, headed, load_flat, load_deep, load_exponents, load_count, load_gates}
use Rattle.legality.proofs.load.Goals as goal
use Rattle.legality.proofs.load.Goals.{then-depth-lt1-via-then-depth-lt1, then-depth-lt1-via-else-depth-lt1+then-depth-gt-MAX_DEPTH}

-- behind 3: the list has its header, its prime is listed, and its depth is in range
ranged : (l : List ℕ) (d : ℕ) → leb header_words (length l) ≡ true → is_listed (prime_of l) ≡ true → d ≡ depth l → 1 ≤ d → d ≤ max_depth → Ranged l
ranged l d two listed deep low high = record { headed = two; listed = listed; low = omega arith; high = omega arith }

pub returns-then-not-has_header : goal.returns-then-not-has_header
returns-then-not-has_header c = sym (load_short c.args.circuit.now (sym c.has_header.ensures ∙ c.if-not-has_header.true))

pub returns-then-not-is_listed : goal.returns-then-not-is_listed
returns-then-not-is_listed c =
    sym (load_prime c.args.circuit.now (sym c.has_header.ensures ∙ c.if-not-has_header.false) (sym (ap is_listed c.prime.ensures) ∙ sym c.is_listed.ensures ∙ c.if-not-is_listed.true))

pub returns-then-depth-lt1 : goal.returns-then-depth-lt1
returns-then-depth-lt1 c =
    let two = sym c.has_header.ensures ∙ c.if-not-has_header.false in
    let listed = sym (ap is_listed c.prime.ensures) ∙ sym c.is_listed.ensures ∙ c.if-not-is_listed.false in
    elim c.then-depth-lt1.branch [
      | then-depth-lt1-via-then-depth-lt1 w ↦ sym (load_flat c.args.circuit.now two listed (omega (arith, w.if-depth-lt1.true, c.depth-depth.ensures.0)))
      | then-depth-lt1-via-else-depth-lt1+then-depth-gt-MAX_DEPTH w ↦
          sym (load_deep c.args.circuit.now two listed (omega (arith, w.if-depth-gt-MAX_DEPTH.true, c.depth-depth.ensures.0)))
    ]

pub returns-then-not-exponents_good : goal.returns-then-not-exponents_good
returns-then-not-exponents_good c =
    let two = sym c.has_header.ensures ∙ c.if-not-has_header.false in
    let listed = sym (ap is_listed c.prime.ensures) ∙ sym c.is_listed.ensures ∙ c.if-not-is_listed.false in
    let r = ranged c.args.circuit.now _ two listed c.depth-depth.ensures.0 c.if-depth-lt1.false c.if-depth-gt-MAX_DEPTH.false in
    sym (load_exponents c.args.circuit.now r (sym c.exponents_good.ensures ∙ c.if-not-exponents_good.true))

pub returns-then-circuit-word_count : goal.returns-then-circuit-word_count
returns-then-circuit-word_count c =
    let l = c.args.circuit.now in
    let two = sym c.has_header.ensures ∙ c.if-not-has_header.false in
    let listed = sym (ap is_listed c.prime.ensures) ∙ sym c.is_listed.ensures ∙ c.if-not-is_listed.false in
    let r = ranged l _ two listed c.depth-depth.ensures.0 c.if-depth-lt1.false c.if-depth-gt-MAX_DEPTH.false in
    let x = headed l r.high (sym c.exponents_good.ensures ∙ c.if-not-exponents_good.false) in
    sym (load_count l r x (λ e. c.if-circuit-word_count.true (e ∙ sym (c.word_count.ensures x))))

pub returns : goal.returns
returns c =
    let l = c.args.circuit.now in
    let two = sym c.has_header.ensures ∙ c.if-not-has_header.false in
    let listed = sym (ap is_listed c.prime.ensures) ∙ sym c.is_listed.ensures ∙ c.if-not-is_listed.false in
    let r = ranged l _ two listed c.depth-depth.ensures.0 c.if-depth-lt1.false c.if-depth-gt-MAX_DEPTH.false in
    let x = headed l r.high (sym c.exponents_good.ensures ∙ c.if-not-exponents_good.false) in
    c.check_layers.ensures ∙ sym (load_gates l r x (c.if-circuit-word_count.false ∙ c.word_count.ensures x))
