-- `stand` meets its contract: at a round the guards are passed, and the parts are those that the law `stands` names.
use Rattle.std.proofs.Common.{ℕ, min, List, take, drop, ap, ◌∙◌, subst, arith}
use Rattle.extension.specs.Limits.{row_length}
use Rattle.standing.specs.Standing.{Row, PointStands}
use Rattle.standing.proofs.Rounds.{stands}
use Rattle.standing.proofs.Round.stand.Goals as goal

pub returns : goal.returns
returns c =
    let a = c.args.self in
    let n = c.min.result in
    let start = c.in-Some.ensures.1 in
    let coins = c.split_at.ensures.back ∙ ap (λ (i : ℕ). drop i a.past.now) start in
    let before = c.split_at.ensures.front ∙ ap (λ (i : ℕ). take i a.past.now) start in
    let parts = c.split_at-2.ensures in
    let stand = c.standing_point in
    record {
      within = omega (arith, c.min-own.ensures);
      stands =
          λ h.
          stands a.circuit.now a.place.layer a.place.round a.past.now h _ n
          (record {
            own = c.min-own.ensures ∙ ap (λ (k : ℕ). min k row_length) c.exponent.ensures;
            fewer = c.min.ensures;
            first = subst (λ (l : List ℕ). Row (take row_length l) c.row.result) (parts.front ∙ ap (take n) coins) c.row.ensures.front;
            second = subst (λ (l : List ℕ). Row (take row_length l) c.row-2.result) (parts.back ∙ ap (drop n) coins) c.row-2.ensures.front;
            point = subst (λ (l : List ℕ). PointStands a.circuit.now a.place.layer l stand.result) before stand.ensures;
          });
    }
