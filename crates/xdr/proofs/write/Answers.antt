-- `write` meets its contract. Invariant: the words done stand over the buffer, the arrays ahead are all in the rest, and together they are all words.
use Rattle.std.proofs.Common.{arith, ℕ, ◌≡◌, ◌+◌, ◌-◌, ◌≤◌, List, ◌++◌, length, drop, take}
use Rattle.std.proofs.Common.{refl, sym, ap, ◌∙◌, append_assoc, length-append, length-drop, length-take}
use mathlib.Core.List.{append-nil}
use Rattle.lists.specs.Buffer.{over}
use Rattle.lists.proofs.Buffer.{over_more, over_whole}
use Rattle.xdr.proofs.Words.{length_words}
use Rattle.xdr.proofs.Found.{front, step, words_none}
use Rattle.xdr.proofs.write.Goals as goal

pub split_at-requires : goal.split_at-requires
split_at-requires c =
    let here = c.loop in
    let left = c.args.number - here.counter in
    let s = step left (c.args.number - (here.counter + 1)) c.first_word.result here.rest.now _ (omega arith) here.invariant.4 c.first_word.ensures refl in
    omega arith

pub loop-preserved : goal.loop-preserved
loop-preserved c =
    let here = c.loop in
    let inv = here.invariant in
    let l = here.rest.now in
    let behind = c.split_at.ensures.back ∙ ap (λ (n : ℕ). drop n l) c.size.ensures in
    let array = c.split_at.ensures.front ∙ ap (λ (n : ℕ). take n l) c.size.ensures in
    let left = c.args.number - here.counter in
    let s = step left (c.args.number - (here.counter + 1)) c.first_word.result l _ (omega arith) inv.4 c.first_word.ensures behind in
    let buffer = c.args.buffer.now in
    let ws = front l in
    let lent = take (length here.buffer - here.to) (drop here.to here.buffer) in
    let room : length ws ≤ length lent = simp (length-take, length-drop) (omega arith) in
    let bytes = take (length c.split_at.result.0.now - 4) (drop 4 c.split_at.result.0.now) in
    let same = s.part _ array in
    let part = over_whole ws lent _ room (rw same at c.put_words-to.ensures.words) in
    let put : c.put_words-to.result ≡ length ws = omega (arith, c.put_words-to.ensures.count, length_words bytes, ap length same, room) in
    let now = over_more inv.0 ws buffer here.buffer c.put_words-to.new.buffer here.to inv.2 inv.1 part (omega arith) in (
      inv.0 ++ ws,
      simp length-append (omega arith),
      now,
      omega arith,
      s.there,
      inv.5 ∙ ap (λ (t : List ℕ). inv.0 ++ t) s.all ∙ sym (append_assoc inv.0 ws _),
    )

pub returns : goal.returns
returns c =
    let inv = c.loop.invariant in
    let none = words_none (c.args.number - c.loop.counter) c.loop.rest.now (omega arith) in
    inv.2 ∙ ap (λ (ms : List ℕ). over ms c.args.buffer.now) (sym (inv.5 ∙ ap (λ (t : List ℕ). inv.0 ++ t) none ∙ append-nil inv.0))
