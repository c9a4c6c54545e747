-- `go_on` meets its contract: the next round, the next layer, or the last comparison.
use Rattle.std.proofs.Common.{◌<◌, Bool, sym, ap, ◌∙◌, arith}
use Rattle.circuit.specs.Circuit.{depth}
use Rattle.walk.specs.Session.{step_final}
use Rattle.protocol.specs.Rounds.{Place, is_line}
use Rattle.session.specs.Answers.{record_of}
use Rattle.session.proofs.Records.{small_round, goes_round, goes_layer, goes_ended}
use Rattle.session.proofs.go_on.Goals as goal

pub overflow_add-session : goal.overflow_add-session
overflow_add-session c = let low = small_round c.args.session c.args.job.counted c.requires in omega arith

pub returns-then-not-is_line : goal.returns-then-not-is_line
returns-then-not-is_line c =
    let at = ap (is_line c.args.job.circuit.now) (sym c.place-place.ensures) ∙ sym c.is_line.ensures in
    goes_round c.args.session c.args.job.counted c.requires c.args.coin c.args.claim (at ∙ c.if-not-is_line.true) _ c.went_on.ensures

pub returns-then-place-depth : goal.returns-then-place-depth
returns-then-place-depth c =
    let at = ap (is_line c.args.job.circuit.now) (sym c.place-place.ensures) ∙ sym c.is_line.ensures in
    let own = ap (λ (r : Place). r.layer) c.place-place.ensures in
    let more : c.args.session.layer < depth c.args.job.circuit.now = omega (arith, own, c.if-place-depth.true, c.depth.ensures.0) in
    goes_layer c.args.session c.args.job.counted c.requires c.args.coin c.args.claim (at ∙ c.if-not-is_line.false) more _ c.went_on-then-place-depth.ensures

pub returns-then-not-input_agrees : goal.returns-then-not-input_agrees
returns-then-not-input_agrees c =
    let at = ap (is_line c.args.job.circuit.now) (sym c.place-place.ensures) ∙ sym c.is_line.ensures in
    let own = ap (λ (r : Place). r.layer) c.place-place.ensures in
    goes_ended c.args.session c.args.job.counted c.requires c.args.coin c.args.claim (at ∙ c.if-not-is_line.false)
    (λ more. omega (arith, own, more, c.if-place-depth.false, c.depth.ensures.0)) _ (c.refusal.ensures.1 ∙ c.ended-closed.ensures)
    (c.refusal.ensures.0
    ∙ ap (λ (b : Bool). (step_final b (record_of c.args.session)).0) (sym c.if-not-input_agrees.true ∙ c.input_agrees.ensures c.args.job.counted))

pub returns : goal.returns
returns c =
    let at = ap (is_line c.args.job.circuit.now) (sym c.place-place.ensures) ∙ sym c.is_line.ensures in
    let own = ap (λ (r : Place). r.layer) c.place-place.ensures in
    goes_ended c.args.session c.args.job.counted c.requires c.args.coin c.args.claim (at ∙ c.if-not-is_line.false)
    (λ more. omega (arith, own, more, c.if-place-depth.false, c.depth.ensures.0)) _ c.ended-closed.ensures
    (ap (λ (b : Bool). (step_final b (record_of c.args.session)).0) (sym c.if-not-input_agrees.false ∙ c.input_agrees.ensures c.args.job.counted))
