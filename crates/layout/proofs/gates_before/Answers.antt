-- `gates_before` meets its contract: before word i of the exponents the count is of the gates of the layers before i, and layer i is `own` wide.
use Prim.Native.Nat.{ℕ, ◌<◌, ◌≤◌, min}
use mathlib.Core.Path.{◌≡◌, refl, ap, ◌∙◌}
use mathlib.Core.List.{List}
use native.Mathlib.Omega.{arith}
use lib.ListN.{length, take}
use lib.Seq.{get_or-take, length-take-le}
use Rattle.circuit.specs.Limits.{max_depth, max_width}
use Rattle.circuit.specs.Circuit.{depth, exponent_at, width_of}
use Rattle.circuit.proofs.Sized.{width_small, exponent_next}
use Rattle.circuit.proofs.Gates.{count_none, count_turn}
use borrow.Author.Rules.{rules}
use Rattle.layout.proofs.gates_before.Goals as goal

-- a turn is of a layer before the one asked for
before : (es : List ℕ) (i n layer : ℕ) → n ≡ min layer (length es) → i < length (take n es) → i < n
before es i n layer e h = omega (arith, length-take-le n es (omega arith))

pub loop-k-init : goal.loop-k-init
loop-k-init c = (search rules, c.layer_width-own.ensures, λ h. count_none c.args.circuit.now)

pub overflow_add-count : goal.overflow_add-count
overflow_add-count c =
    let s = width_small (exponent_at c.args.circuit.now c.loop-k.k-index) in
    let w : c.loop-k.own ≤ max_width = omega (arith, c.loop-k.invariant.1) in
    let n : c.loop-k.k-index < max_depth = omega (arith, before _ _ _ _ c.min.ensures c.loop-k-test.true, c.min.ensures, c.if-layer-gt-MAX_DEPTH.false) in
    omega arith

pub loop-k-preserved : goal.loop-k-preserved
loop-k-preserved c =
    let l = c.args.circuit.now in
    let i = c.loop-k.k-index in
    let s = width_small (exponent_at l i) in
    let w : c.loop-k.own ≤ max_width = omega (arith, c.loop-k.invariant.1) in
    let low = before _ _ _ _ c.min.ensures c.loop-k-test.true in (
      omega arith,
      c.width-own.ensures ∙ ap width_of (get_or-take _ c.exponents-written.result.now i 0 low ∙ exponent_next l _ i c.exponents-written.ensures),
      λ h.
          let inside : i < depth l = omega (arith, h.inside, c.min.ensures) in
          count_turn l h.headed i c.loop-k.count (exponent_at l i) c.loop-k.own inside (c.loop-k.invariant.2 h) refl c.loop-k.invariant.1,
    )
