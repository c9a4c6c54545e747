-- The table holds: the checker computes both answers of every row and compares them with the row's.
-- Assumes nothing.
use mathlib.Core.Bool.{Bool, true, false, ◌&&◌}
use mathlib.Core.List.{List, [], ◌∷◌}
use lib.Dec.{T, eqb, eqb→eq}
use Rattle.lists.specs.Each.{All}
use Rattle.lists.specs.Count.{range}
use Rattle.table.specs.Rows.{Row, table, whole_answer, session_answer, Holds, AllHold}
use Rattle.table.proofs.Opened.{stepping}

-- both answers of a row, as a test that computes
unfoldable holds : Row → Bool
holds r = eqb (whole_answer r) r.answer && eqb (session_answer r) r.answer

unfoldable all_of : List Row → Bool
unfolding holds
all_of [] = true
all_of (r ∷ rs) = holds r && all_of rs

split_T : (a b : Bool) → T (a && b) → T a × T b
split_T true b t = (tt, t)
split_T false b t = absurd t

held : (r : Row) → T (holds r) → Holds r
unfolding holds
held r t = (eqb→eq (whole_answer r) r.answer both.0, eqb→eq (session_answer r) r.answer both.1)
  where
    both : T (eqb (whole_answer r) r.answer) × T (eqb (session_answer r) r.answer)
    both = split_T (eqb (whole_answer r) r.answer) (eqb (session_answer r) r.answer) t

all_held : (rs : List Row) → T (all_of rs) → All Holds rs
unfolding all_of
all_held [] t = tt
all_held (r ∷ rs) t = (held r (split_T (holds r) (all_of rs) t).0, all_held rs (split_T (holds r) (all_of rs) t).1)

-- the computation
computed : T (all_of table)
unfolding all_of holds table range whole_answer session_answer stepping
computed = tt

pub table_holds : AllHold
table_holds = all_held table computed
