-- `wirings` meets its contract. The loop keeps `Passed`: the sums over the gates passed, from the first on.
use Prim.Native.Nat.{ℕ, ◌<◌}
use mathlib.Core.Path.{◌≡◌, sym, ap, ◌∙◌}
use mathlib.Core.List.{List, [], map}
use native.Mathlib.Omega.{arith}
use lib.ListN.{length, length-map, get_or}
use Rattle.circuit.specs.Gate.{Gate}
use Rattle.lists.proofs.Map.{get_d_map_lt}
use Rattle.field.specs.Modulus.{numbers}
use Rattle.layout.specs.Gate.{gate_in}
use Rattle.summand.specs.Gates.{wirings}
use Rattle.summand.proofs.Sums.{none, start, none_counts, one_counts, end}
use Rattle.summand.proofs.wirings.Goals as goal
use Rattle.summand.proofs.wirings.Goals.{in-Some, in_default}

-- a triple as the gate that was read of it
turn : (rows : List (List ℕ)) (i : ℕ) {g : Gate} → i < length rows → g ≡ gate_in (get_or rows i [])
    → (i < length (map gate_in rows)) × (get_or (map gate_in rows) i none ≡ g)
turn rows i h e = (omega (arith, length-map rows gate_in), get_d_map_lt gate_in rows i none [] h ∙ sym e)

pub loop-a-init : goal.loop-a-init
loop-a-init c = start _ _ _ _ _ (omega arith)

pub loop-a-preserved : goal.loop-a-preserved
loop-a-preserved c =
    let t = turn c.gates-words-items.result.now c.loop-a.a c.loop-a-test.true c.from-gate.ensures in
    elim c.match-place.branch [
      | in-Some w ↦
          rw (w.sums-is, w.add.ensures)
          (one_counts _ _ _ _ _ c.loop-a.invariant t.0 t.1 w.in-Some.ensures.0 w.in-Some.ensures.1 w.gate_weight-weight.ensures)
      | in_default w ↦ rw w.sums-is (none_counts _ _ _ _ _ c.loop-a.invariant t.0 t.1 w.in_default.ensures)
    ]

pub returns : goal.returns
returns c =
    let args = c.args in
    let size = length-map c.gates-words-items.result.now gate_in in
    end _ _ _ _ _ _ _ c.loop-a.invariant (omega (arith, c.loop-a-test.false))
    ∙ ap (λ (gs : List Gate). wirings (numbers args.f) gs args.point.now args.u.now args.v.now) c.gates-words-items.ensures
