-- `scan` meets its contract. Invariant: the arrays done, put before those found in the rest, are all arrays, and their counts stand over zeros.
use Rattle.std.proofs.Common.{arith, ℕ, ◌+◌, ◌-◌, List, drop, Bool, true, false, cond, ◌≡◌, refl, sym, ap, ◌∙◌, [], ◌∷◌, ◌++◌, length-append, length-take}
use Rattle.std.proofs.lemmas.Grind.{common_steps}
use Rattle.std.proofs.Math.Option.{some}
use Rattle.std.specs.Prelude.{Option, Some, None, Err, ok_or}
use mathlib.Core.List.{append-nil}
use mathlib.Core.Logic.{inl, inr}
use Rattle.refusal.specs.declared.Cause.{Cause}
use Rattle.xdr.specs.Read.{first_word, whole, arrays, counts_of}
use Rattle.xdr.proofs.Found.{zeros, after, after_front, front, length_front, whole_fits, refused_found}
use Rattle.xdr.proofs.Found.{called_none, called_some, arrays_none, arrays_end, arrays_left_over, counts_found, counts_more}
use Rattle.xdr.proofs.scan.Goals as goal

-- what stands at the front, as the code tells it
fit : (b : Bool) (w n : ℕ) (front : Option ℕ) → front ≡ cond b (Some w) None → front ≡ Some n → (b ≡ true) × (n ≡ w)
fit true w n front f h = (refl, cc)
fit false w n front f h = absurd (let z : ◌≡◌ {A = ℕ} 0 1 = cc in omega arith)

unfit : (b : Bool) (w : ℕ) (front : Option ℕ) (e cause : Cause) → front ≡ cond b (Some w) None → Err cause ≡ ok_or front e → (b ≡ false) × (cause ≡ e)
unfit true w front e cause f h = absurd (let z : ◌≡◌ {A = ℕ} 0 1 = cc in omega arith)
unfit false w front e cause f h = (refl, cc)

pub returns-then-number-lt1 : goal.returns-then-number-lt1
returns-then-number-lt1 c =
    sym (refused_found (called_none c.args.number c.args.bytes.now (elim c.then-number-lt1.either [ inl w ↦ inl w | inr w ↦ inr w.1 ])))

pub returns-in_err-count : goal.returns-in_err-count
returns-in_err-count c =
    let l = c.loop-count.rest.now in
    let inv = c.loop-count.invariant in
    let no = unfit (whole l) (first_word l) c.front.result _ _ c.front.ensures (c.in_err-count.ensures {u = tt}).value in
    let found = called_some c.args.number c.args.bytes.now (omega arith) (omega arith) ∙ inv.3 in
    let all = found ∙ ap (after inv.0) (arrays_none _ l (omega (arith, length-take c.args.number zeros)) no.0) in
    let none = refused_found all in
    grind (arith, common_steps, none, no.1)

pub split_at-requires : goal.split_at-requires
split_at-requires c =
    let l = c.loop-count.rest.now in
    let yes = fit (whole l) (first_word l) c.in_ok-count.field-0 c.front.result c.front.ensures (c.in_ok-count.ensures {u = tt}).ok_part in
    omega (arith, (whole_fits l yes.0).1)

pub loop-count-preserved : goal.loop-count-preserved
loop-count-preserved c =
    let l = c.loop-count.rest.now in
    let inv = c.loop-count.invariant in
    let yes = fit (whole l) (first_word l) c.in_ok-count.field-0 c.front.result c.front.ensures (c.in_ok-count.ensures {u = tt}).ok_part in
    let inside = (whole_fits l yes.0).1 in
    let behind = c.split_at.ensures.back ∙ ap (λ (n : ℕ). drop n l) c.size.ensures in (
      inv.0 ++ (front l ∷ []),
      simp length-append (omega arith),
      counts_more inv.0 (front l) c.loop-count.count-items _ c.loop-count.count-index _ inv.2 inv.1 (omega arith) (yes.1 ∙ sym (length_front l inside)),
      after_front c.args.number c.loop-count.count-index _ l inv.0 _ inv.3 (omega (arith, length-take c.args.number zeros)) yes.0 yes.1
          ∙ ap (λ (t : List ℕ). after (inv.0 ++ (front l ∷ [])) (arrays (c.args.number - (c.loop-count.count-index + 1)) t)) (sym behind),
    )

pub returns-then-not-is_empty : goal.returns-then-not-is_empty
returns-then-not-is_empty c =
    let l = c.loop-count.rest.now in
    let inv = c.loop-count.invariant in
    let found = called_some c.args.number c.args.bytes.now (omega arith) (omega arith) ∙ inv.3 in
    let all = found ∙ ap (after inv.0) (arrays_left_over _ l (omega (arith, length-take c.args.number zeros)) (grind arith)) in
    sym (refused_found all)

pub returns : goal.returns
returns c =
    let l = c.loop-count.rest.now in
    let inv = c.loop-count.invariant in
    let found = called_some c.args.number c.args.bytes.now (omega arith) (omega arith) ∙ inv.3 in
    let all = found ∙ ap (after inv.0) (arrays_end _ l (omega (arith, length-take c.args.number zeros)) (grind arith)) ∙ ap some (append-nil inv.0) in
    counts_found inv.0 c.loop-count.count-items c.args.number (omega arith) (omega (arith, length-take c.args.number zeros)) inv.2 ∙ ap counts_of (sym all)
