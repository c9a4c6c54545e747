-- A side of a sum message, and what its tables say of a wire and of a gate.
-- Assumes nothing.
use Rattle.std.specs.Prelude.{ℕ, ◌+◌, ◌-◌, ◌/◌, ◌%◌, ◌^◌, ◌≡◌, Bool, cond, ◌||◌, ltb, get_or}
use Rattle.algebra.specs.Numbers.{Numbers}
use Rattle.circuit.specs.Gate.{operate}
use Rattle.sumcheck.specs.Gatewise.{Side}
use Rattle.sums.specs.declared.wires.Cut.{Cut}
use Rattle.sums.specs.declared.wires.Side.{Side as Tables}
use Rattle.sums.specs.declared.wires.Wire.{Wire}
use Rattle.sums.specs.declared.Counts.{Counts}

-- the cut of a point with n of k coordinates fixed
pub record CutAt (k n : ℕ) (next : Bool) (c : Cut) : Type 0 where
  pub free : c.free ≡ k - n
  pub size : c.size ≡ 2 ^ (k - n)
  pub half : c.half ≡ cond next (2 ^ (k - n) / 2) 0

-- the two tables and how a wire's number is cut
abbrev pub side : Tables → Side ℕ
side s = record { shares = s.shares.now; table = s.table.now; size = s.cut.size; half = s.cut.half }

-- `Gatewise`'s share, own, other and is_one of a wire
pub record Reads (s : Side ℕ) (i : ℕ) (w : Wire) : Type 0 where
  pub share : w.share ≡ get_or s.shares (i / s.size) 0
  pub own : w.own ≡ get_or s.table (i % s.size) 0
  pub other : w.other ≡ get_or s.table ((i + s.half) % s.size) 0
  pub one : w.one ≡ ltb ((i + s.half) % s.size) (i % s.size)

module _ (N : Numbers ℕ) where
  -- a gate's weight, times its wires', and what that is multiplied by in each of the three sums
  pub record Counted (kind weight : ℕ) (l r : Wire) (c : Counts) : Type 0 where
    pub share : c.share ≡ N.mul weight (N.mul l.share r.share)
    pub zeros : c.zeros ≡ cond (l.one || r.one) N.𝟘 (operate N kind l.own r.own)
    pub ones : c.ones ≡ cond (l.one || r.one) (operate N kind l.own r.own) N.𝟘
    pub squares : c.squares ≡ N.sub (operate N kind l.own r.own) (operate N kind l.other r.other)
