-- `prove_one` meets its contract: refusal by refusal, then the message of the round that follows the prefix.
use mathlib.Core.Path.{sym, ◌∙◌}
use native.Mathlib.Omega.{arith}
use Rattle.refusal.proofs.Told.{refused_is}
use Rattle.circuit.proofs.Legal.{below_told}
use Rattle.circuit.proofs.Loading.{legal_lists}
use Rattle.prover.proofs.Values.{writable}
use Rattle.prover.proofs.Following.{due_of, one_lists, one_count, one_word, one_short, one_written}
use Rattle.prover.proofs.prove_one.Goals as goal

pub returns-in_err-check_lists : goal.returns-in_err-check_lists
returns-in_err-check_lists c = rw (refused_is _ _ c.from_residual.ensures.1) (one_lists _ _ _ _ _ c.in_err-check_lists.ensures)

pub returns-then-not-followed : goal.returns-then-not-followed
returns-then-not-followed c =
    let none = sym c.in_ok-check_lists.ensures in
    one_count _ _ _ _ none (sym (c.followed.ensures (legal_lists _ _ none).circuit) ∙ c.if-not-followed.true)

pub returns-then-not-all_below : goal.returns-then-not-all_below
returns-then-not-all_below c =
    let none = sym c.in_ok-check_lists.ensures in
    let follows = sym (c.followed.ensures (legal_lists _ _ none).circuit) ∙ c.if-not-followed.false in
    one_word _ _ _ _ none follows (below_told c.args.prefix.now c.prime.ensures c.all_below.ensures ∙ c.if-not-all_below.true)

pub place_after-place-requires : goal.place_after-place-requires
place_after-place-requires c =
    let legal = (legal_lists _ _ (sym c.in_ok-check_lists.ensures)).circuit in
    (legal, sym (c.followed.ensures legal) ∙ c.if-not-followed.false)

pub returns-then-buffer-words : goal.returns-then-buffer-words
returns-then-buffer-words c =
    let legal = (legal_lists _ _ (sym c.in_ok-check_lists.ensures)).circuit in
    let follows = sym (c.followed.ensures legal) ∙ c.if-not-followed.false in
    let residues = below_told c.args.prefix.now c.prime.ensures c.all_below.ensures ∙ c.if-not-all_below.false in
    let due = due_of _ _ _ c.args.buffer.now c.in_ok-check_lists.ensures follows residues c.place_after-place.ensures in
    one_short _ _ _ _ due (omega (arith, c.message_length-words.ensures, c.if-buffer-words.true))

pub returns : goal.returns
returns c =
    let legal = (legal_lists _ _ (sym c.in_ok-check_lists.ensures)).circuit in
    let follows = sym (c.followed.ensures legal) ∙ c.if-not-followed.false in
    let residues = below_told c.args.prefix.now c.prime.ensures c.all_below.ensures ∙ c.if-not-all_below.false in
    let due = due_of _ _ _ c.args.buffer.now c.in_ok-check_lists.ensures follows residues c.place_after-place.ensures in
    let size = c.message_length-words in
    let values = c.fill_values.ensures.written in
    rw size.ensures
    (one_written _ _ _ _ due (omega (arith, size.ensures, c.if-buffer-words.false)) values
    (c.write_message.ensures
    (writable _ _ due.none _ values _ _ _ _ due.there (omega (arith, size.ensures, c.if-buffer-words.false)))))
