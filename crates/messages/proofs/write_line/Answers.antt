-- `write_line` meets its contract: what stands at the round gives the two points of the line.
use Prim.Native.Nat.{ℕ, ◌+◌, ◌≤◌}
use mathlib.Core.Path.{◌≡◌, sym, ap, ◌∙◌, subst}
use lib.ListN.{length, take}
use Rattle.circuit.proofs.Layers.{prime_modulus}
use Rattle.protocol.specs.Rounds.{place}
use Rattle.protocol.specs.Judge.{message_length}
use Rattle.standing.proofs.Lengths.{length_of_line}
use Rattle.messages.proofs.Rows.{lined, written, line_words}
use Rattle.messages.proofs.write_line.Goals as goal

pub returns : goal.returns
returns c il h =
    let a = c.args.round in
    let l = a.circuit.now in
    let past = a.past.now in
    let vs = c.args.values.now in
    let st = c.stand-stand.result in
    let t = c.stand-stand.ensures.stands h.there in
    let r = place a.place.layer a.place.round in
    let n : st.own + 1 ≡ message_length l r = length_of_line l r st.own t.own il in
    let f = prime_modulus l h.there.legal _ c.field-f.ensures in
    let words = c.line_message-words in
    let said =
    ap (take (st.own + 1)) (words.ensures ∙ ap (λ (p : ℕ). lined p vs st) f)
    ∙ line_words l a.place.layer a.place.round past vs c.args.buffer.now h st t il (st.own + 1) n in
    let room = subst (λ (i : ℕ). i ≤ length c.args.buffer.now) (sym n) h.room in
    written words.result c.args.buffer.now _ _ (st.own + 1) room said c.put.ensures.items
