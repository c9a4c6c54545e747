-- `check_layers` meets its contract: what is left from a layer on decides as all the layers do.
use Prim.Native.Nat.{ℕ, ◌+◌, ◌/◌, ◌^◌, ◌<◌}
use mathlib.Core.Path.{◌≡◌, sym, ap, ◌∙◌}
use mathlib.Core.List.{List, map}
use native.Mathlib.Omega.{arith}
use lib.ListN.{length, get_or}
use Rattle.refusal.proofs.Told.{passed_on}
use Rattle.circuit.specs.Circuit.{depth, exponents, exponent_at, gates_of, width_of}
use Rattle.circuit.specs.Legal.{gates_cause}
use Rattle.circuit.specs.Sized.{Sized}
use Rattle.circuit.proofs.Sized.{exponent_width, exponent_next}
use Rattle.layout.specs.Gate.{gate_in}
use Rattle.legality.proofs.Checking.{checks_start, layer_there, layer_refused, layer_legal, checks_end}
use Rattle.legality.proofs.check_layers.Goals as goal

-- the layer behind a layer, as wide as its exponent says
turn : (c es : List ℕ) (i : ℕ) {w : ℕ} → Sized c → es ≡ exponents c → i < length es → w ≡ width_of (get_or es i 0)
    → (i < depth c) × (w ≡ 2 ^ exponent_at c (i + 1))
turn c es i h e more wide =
    let low : i < depth c = omega (arith, ap length e, h.headed.whole) in
    (low, wide ∙ ap width_of (exponent_next c es i e) ∙ exponent_width c (i + 1) (record { headed = h.headed; inside = omega arith }))

pub loop-k-init : goal.loop-k-init
loop-k-init c =
    checks_start c.args.circuit.now c.requires _ _ (c.layer_width-count.ensures)
    (c.gates-gates.ensures ∙ ap (λ (ws : List ℕ). gates_of (length ws / 3) ws) c.all_gates.ensures)

pub split_at-requires : goal.split_at-requires
split_at-requires c =
    let t = turn c.args.circuit.now _ _ c.requires c.exponents-k-items.ensures c.loop-k-test.true c.width-next.ensures in
    layer_there _ c.requires _ _ _ c.loop-k.invariant t.0

pub returns-in_err-check_gates : goal.returns-in_err-check_gates
returns-in_err-check_gates c =
    let t = turn c.args.circuit.now _ _ c.requires c.exponents-k-items.ensures c.loop-k-test.true c.width-next.ensures in
    let r = c.in_err-check_gates in
    passed_on _ _ c.from_residual.ensures.1
    (sym (layer_refused _ c.requires _ _ _ c.loop-k.invariant t.0 _ t.1 r.field-0.0
    (r.ensures ∙ ap (λ (rows : List (List ℕ)). gates_cause c.width-next.result (map gate_in rows)) c.split_at.ensures.front)))

pub loop-k-preserved : goal.loop-k-preserved
loop-k-preserved c =
    let t = turn c.args.circuit.now _ _ c.requires c.exponents-k-items.ensures c.loop-k-test.true c.width-next.ensures in
    let legal = sym (c.in_ok-check_gates.ensures ∙ ap (λ (rows : List (List ℕ)). gates_cause c.width-next.result (map gate_in rows)) c.split_at.ensures.front) in
    rw c.split_at.ensures.back (layer_legal _ c.requires _ _ _ c.loop-k.invariant t.0 _ t.1 legal)

pub returns : goal.returns
returns c =
    let all = ap length c.exponents-k-items.ensures in
    sym (checks_end c.args.circuit.now c.requires _ _ _ c.loop-k.invariant (omega (arith, c.loop-k-test.false, all, c.requires.headed.whole)))
