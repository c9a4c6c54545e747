-- `write_message` meets its contract: the part of all values that it lends on is the layer's.
use mathlib.Core.Logic.{inl, inr}
use mathlib.Core.Path.{sym, ◌∙◌}
use native.Mathlib.Omega.{arith}
use Rattle.messages.proofs.Parts.{part_small, part_inside, part_written}
use borrow.Author.Rules.{rules}
use Rattle.messages.proofs.write_message.Goals as goal

pub overflow_add-to : goal.overflow_add-to
overflow_add-to c = let few = part_small _ _ _ _ _ c.gates_before-from.ensures c.layer_width.ensures in search rules

pub returns-in_default : goal.returns-in_default
returns-in_default c h =
    let wide = c.layer_width.ensures in
    let inside = part_inside _ _ _ _ _ _ h _ _ c.gates_before-from.ensures wide in
    elim c.in_default.ensures.lookup.0 [
      | inl backwards ↦ absurd (omega (arith, backwards))
      | inr outside ↦ absurd (omega (arith, inside, outside))
    ]

pub returns-then-is_line : goal.returns-then-is_line
returns-then-is_line c h =
    part_written _ _ _ _ _ _ h _ _ c.gates_before-from.ensures c.layer_width.ensures _ c.in-Some.ensures.lookup.0.2
    (c.write_line.ensures (sym c.is_line.ensures ∙ search rules))

pub returns-else-is_line : goal.returns-else-is_line
returns-else-is_line c h =
    part_written _ _ _ _ _ _ h _ _ c.gates_before-from.ensures c.layer_width.ensures _ c.in-Some.ensures.lookup.0.2
    (c.write_sum.ensures (sym c.is_line.ensures ∙ search rules))
