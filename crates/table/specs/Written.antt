-- The honest side of the cases: the transcripts of C1, C13, C16, C19, C25 and C30, C9's message 7 and C10's, as the circuit's outputs and as
-- the honest messages; and C1, C9, C10 and C25 as both forms of Prove leave them in a buffer.
-- Assumes nothing.
use Rattle.std.specs.Prelude.{ℕ, ◌≡◌, List, [], ◌∷◌, ◌++◌, map}
use Rattle.lists.specs.Each.{All}
use Rattle.circuit.specs.Values.{outputs}
use Rattle.protocol.specs.Prove.{honest, messages_on, Proof, proved, refused, prove_answer, prove_buffer, OneMessage, wrote, prove_one_answer, prove_one_buffer}
use Rattle.table.specs.Rows.{Row, one, two, three, product, square, empty, c1, c9_accepted, c10, c25, c30, pair, differences, true_output, every_coin}

-- THE HONEST ROWS OF THE TABLE: their outputs are the circuit's, and their messages are the honest ones
unfoldable pub honest_rows : List Row
honest_rows = (c1 ∷ c25 ∷ c30 ∷ []) ++ map true_output differences ++ every_coin c9_accepted ++ every_coin c10

-- of C1: "claim 2 sum 2 8 3 sum 0 5 12 line 11 4"
abbrev pub IsHonest : Row → Type 0
IsHonest r =
    (outputs r.circuit r.input ≡ r.outputs)
    × (messages_on r.circuit (honest r.circuit r.input) r.coins ≡ r.messages)

abbrev pub AllHonest : Type 0
AllHonest = All IsHonest honest_rows

-- WHAT PROVE WRITES: the buffer before, the answer, and the buffer after
pub record Written : Type 0 where
  pub circuit : List ℕ
  pub input : List ℕ
  pub coins : List ℕ
  pub before : List ℕ
  pub answer : Proof
  pub after : List ℕ

abbrev pub written : List ℕ → List ℕ → List ℕ → List ℕ → Proof → List ℕ → Written
written c input cs before answer after =
    record { circuit = c; input = input; coins = cs; before = before; answer = answer; after = after }

unfoldable pub whole_proofs : List Written
whole_proofs =
    -- C1 into a buffer of exactly its eight words
    written product (two 3 5) (three 4 6 9) (1 ∷ 2 ∷ 3 ∷ 4 ∷ 5 ∷ 6 ∷ 7 ∷ 8 ∷ []) (proved (one 2) 8) (2 ∷ 8 ∷ 3 ∷ 0 ∷ 5 ∷ 12 ∷ 11 ∷ 4 ∷ [])
    -- into one of ten, whose last two stay
    ∷ written product (two 3 5) (three 4 6 9) (1 ∷ 2 ∷ 3 ∷ 4 ∷ 5 ∷ 6 ∷ 7 ∷ 8 ∷ 9 ∷ 10 ∷ []) (proved (one 2) 8) (2 ∷ 8 ∷ 3 ∷ 0 ∷ 5 ∷ 12 ∷ 11 ∷ 4 ∷ 9 ∷ 10 ∷ [])
    -- into one that is a word short: refused, and unchanged
    ∷ written product (two 3 5) (three 4 6 9) (1 ∷ 2 ∷ 3 ∷ 4 ∷ 5 ∷ 6 ∷ 7 ∷ []) (refused 10) (1 ∷ 2 ∷ 3 ∷ 4 ∷ 5 ∷ 6 ∷ 7 ∷ [])
    -- C9 and C10
    ∷ written square (one 7) (one 5) (two 1 2) (proved (one 10) 1) (two 7 2)
    ∷ written empty (one 7) (one 5) (two 1 2) (proved (one 0) 1) (two 7 2)
    -- C25
    ∷ written pair (two 3 5) c25.coins (1 ∷ 2 ∷ 3 ∷ 4 ∷ 5 ∷ 6 ∷ 7 ∷ 8 ∷ []) (proved (two 2 8) 8) (10 ∷ 11 ∷ 5 ∷ 0 ∷ 3 ∷ 1 ∷ 11 ∷ 4 ∷ [])
    ∷ []

abbrev pub Proves : Written → Type 0
Proves w =
    (prove_answer w.circuit w.input w.coins w.before ≡ w.answer)
    × (prove_buffer w.circuit w.input w.coins w.before ≡ w.after)

abbrev pub AllProve : Type 0
AllProve = All Proves whole_proofs

-- ONE MESSAGE, after a prefix of the coins
pub record WrittenOne : Type 0 where
  pub circuit : List ℕ
  pub input : List ℕ
  pub prefix : List ℕ
  pub before : List ℕ
  pub answer : OneMessage
  pub after : List ℕ

abbrev pub written_one : List ℕ → List ℕ → List ℕ → List ℕ → OneMessage → List ℕ → WrittenOne
written_one c input prefix before answer after =
    record { circuit = c; input = input; prefix = prefix; before = before; answer = answer; after = after }

unfoldable pub one_proofs : List WrittenOne
one_proofs =
    -- C1's three messages, the last after n - 1 coins into a buffer of exactly its two words
    written_one product (two 3 5) [] (1 ∷ 2 ∷ 3 ∷ 4 ∷ []) (wrote 3) (2 ∷ 8 ∷ 3 ∷ 4 ∷ [])
    ∷ written_one product (two 3 5) (one 4) (three 1 2 3) (wrote 3) (three 0 5 12)
    ∷ written_one product (two 3 5) (two 4 6) (two 1 2) (wrote 2) (two 11 4)
    -- a buffer that is a word short, and a prefix of n coins: refused, and unchanged
    ∷ written_one product (two 3 5) (two 4 6) (one 1) (OneMessage.refused 10) (one 1)
    ∷ written_one product (two 3 5) (three 4 6 9) (three 1 2 3) (OneMessage.refused 11) (three 1 2 3)
    -- C9 and C10
    ∷ written_one square (one 7) [] (two 1 2) (wrote 1) (two 7 2)
    ∷ written_one empty (one 7) [] (two 1 2) (wrote 1) (two 7 2)
    -- C25: no message follows fewer coins than come before any; the first follows these
    ∷ written_one pair (two 3 5) [] (three 1 2 3) (OneMessage.refused 11) (three 1 2 3)
    ∷ written_one pair (two 3 5) (one 10) (three 1 2 3) (wrote 3) (three 10 11 5)
    ∷ []

abbrev pub ProvesOne : WrittenOne → Type 0
ProvesOne w =
    (prove_one_answer w.circuit w.input w.prefix w.before ≡ w.answer)
    × (prove_one_buffer w.circuit w.input w.prefix w.before ≡ w.after)

abbrev pub AllProveOne : Type 0
AllProveOne = All ProvesOne one_proofs
