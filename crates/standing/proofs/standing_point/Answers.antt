-- `standing_point` meets its contract: the last 2k + 1 coins are those of the layer above, and its line ends at the point.
use Rattle.std.proofs.Common.{ℕ, ◌-◌, ◌≡◌, List, length, length-drop, length-take, take, drop, get_or, ap, ap₂, ◌∙◌, subst, arith}
use lib.Seq.{take_all}
use Rattle.algebra.specs.Numbers.{words}
use Rattle.extension.specs.Limits.{row_length}
use Rattle.circuit.proofs.Layers.{prime_modulus}
use Rattle.sumcheck.specs.Summand.{line_point}
use Rattle.standing.specs.Standing.{Row}
use Rattle.standing.proofs.Points.{standing_enough, first_row, last_coins, standing_row}
use Rattle.standing.proofs.standing_point.Goals as goal

pub returns-then-layer-lt2 : goal.returns-then-layer-lt2
returns-then-layer-lt2 c h = c.new.ensures ∙ first_row _ c.args.past.now c.args.layer h c.if-layer-lt2.true

pub returns-in_default : goal.returns-in_default
returns-in_default c h =
    absurd (c.in_default.ensures (standing_enough _ c.args.past.now c.args.layer _ h c.if-layer-lt2.false c.exponent-k.ensures))

pub returns : goal.returns
returns c h =
    let l = c.args.circuit.now in
    let past = c.args.past.now in
    let k = c.exponent-k.result in
    let start = c.in-Some.start in
    let coins : take (length past - start) (drop start past) ≡ last_coins past k =
    take_all (length past - start) (drop start past) (omega (arith, length-drop start past)) ∙ ap (λ (i : ℕ). drop i past) c.in-Some.ensures.1 in
    let first = c.split_at.ensures in
    let second = c.split_at-2.ensures in
    let rest = first.back ∙ ap (drop k) coins in
    let f = prime_modulus l h.there.legal _ c.field-f.ensures in
    let n = c.min.result in
    let cut = length-take n c.line_point-line.result in
    c.new-2.ensures ∙ take_all row_length (take n c.line_point-line.result) (omega (arith, cut, c.min.ensures))
    ∙ rw c.min.ensures
    (standing_row l past c.args.layer k c.row.result c.row-2.result _ h c.if-layer-lt2.false c.exponent-k.ensures
    (record {
      first = subst (λ (u : List ℕ). Row (take row_length u) c.row.result) (first.front ∙ ap (take k) coins) c.row.ensures.front;
      second = subst (λ (v : List ℕ). Row (take row_length v) c.row-2.result) (second.front ∙ ap (take k) rest) c.row-2.ensures.front;
      point =
          c.line_point-line.ensures
          ∙ ap₂ (λ (p : ℕ) (end : List ℕ). line_point (words p) c.row.result c.row-2.result (get_or end 0 0)) f (second.back ∙ ap (drop k) rest);
    }))
