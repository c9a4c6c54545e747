-- `each_pair` meets its contract. The loop keeps `Paired`: i pairs of entries are replaced, and the others are as they were.
use Rattle.std.proofs.Common.{arith, ℕ, ◌≤◌, length, ap, ◌∙◌}
use Rattle.tables.proofs.Pairing.{start, step, end, halved}
use Rattle.tables.proofs.each_pair.Goals as goal

pub loop-i-init : goal.loop-i-init
loop-i-init g c = λ a b e room. start a b _ _ room

pub loop-i-preserved : goal.loop-i-preserved
loop-i-preserved g c =
    λ a b e room. let made = e _ _ _ c.step.ensures in
    step a b _ _ room _ _ _ _ _ (c.loop-i.invariant a b e room) c.loop-i-test.true (ap (λ (r : ℕ × ℕ). r.0) made) (ap (λ (r : ℕ × ℕ). r.1) made)

pub returns : goal.returns
returns g c =
    let parts = c.split_at_mut-lower.ensures in
    let room : length c.split_at_mut-lower.result.0.now ≤ length c.split_at_mut-lower.result.1.now = omega arith in
    λ a b e. end a b _ _ room _ _ _ (c.loop-i.invariant a b e room) c.loop-i-test.false ∙ halved a b _ _ _ parts.front parts.back parts.value
