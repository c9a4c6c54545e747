-- When a round's message can be written, and what is written then.
-- Assumes nothing.
use Rattle.std.specs.Prelude.{ℕ, ◌^◌, ◌≤◌, ◌<◌, ◌≡◌, Bool, List, length, take, drop}
use Rattle.lists.specs.Each.{All}
use Rattle.lists.specs.Buffer.{over}
use Rattle.circuit.specs.Circuit.{prime_of, exponent_at, gates_before}
use Rattle.protocol.specs.Rounds.{Place, is_line, AtRound}
use Rattle.protocol.specs.Judge.{message_length}
use Rattle.protocol.specs.Prove.{message_from}

-- a layer's values in a list of all layers' values
abbrev pub values_in : List ℕ → ℕ → List ℕ → List ℕ
values_in c layer values = take (2 ^ exponent_at c layer) (drop (gates_before c layer) values)

-- a round's message can be written: its layer has these values, and the buffer has room
pub record Writable (c : List ℕ) (r : Place) (past vs buffer : List ℕ) : Type 0 where
  pub there : AtRound c r (length past)
  pub sized : length vs ≡ 2 ^ exponent_at c r.layer
  pub residues : All (λ v. v < prime_of c) vs
  pub room : message_length c r ≤ length buffer

-- the message of its round, from its layer's values, goes over the buffer's front
abbrev pub WritesFrom : List ℕ → Place → List ℕ → List ℕ → List ℕ → List ℕ → Type 0
WritesFrom c r past vs before after = Writable c r past vs before → after ≡ over (message_from c vs r past) before

-- the same of a line, or of a round that is none
abbrev pub WritesIf : Bool → List ℕ → Place → List ℕ → List ℕ → List ℕ → List ℕ → Type 0
WritesIf line c r past vs before after = is_line c r ≡ line → WritesFrom c r past vs before after

-- the same from all layers' values
abbrev pub WritesMessage : List ℕ → Place → List ℕ → List ℕ → List ℕ → List ℕ → Type 0
WritesMessage c r past values before after = WritesFrom c r past (values_in c r.layer values) before after
