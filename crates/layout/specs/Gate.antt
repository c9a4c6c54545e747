-- A gate's kind and its words, as the code holds them.
-- Assumes nothing.
use Rattle.std.specs.Prelude.{ℕ, ◌<◌, ◌≡◌, List, Result, MatchResult, get_or}
use Rattle.refusal.specs.declared.Cause.{Cause}
use Rattle.refusal.specs.declared.Cause.TheVariants.{GateKind}
use Rattle.circuit.specs.Gate.{Gate, gate, max_kind}
use Rattle.layout.specs.declared.Kind.{Kind}
use Rattle.layout.specs.declared.Kind.TheVariants.{Empty, Add, Multiply, Subtract}
use Rattle.layout.specs.declared.Gate as held

-- a kind's number
abbrev pub kind_number : Kind → ℕ
kind_number Empty = 0
kind_number Add = 1
kind_number Multiply = 2
kind_number Subtract = 3

-- the kind with a number, or refusal 6 for a number above the last kind's
abbrev pub KindOf : ℕ → Result Kind Cause → Type 0
KindOf number r = MatchResult r (λ kind. kind_number kind ≡ number) (λ cause. (cause ≡ GateKind) × (max_kind < number))

-- the gate that the code holds
abbrev pub gate_of : held.Gate → Gate
gate_of g = gate g.kind g.left g.right

-- the gate that three words say
abbrev pub gate_in : List ℕ → Gate
gate_in ws = gate (get_or ws 0 0) (get_or ws 1 0) (get_or ws 2 0)
