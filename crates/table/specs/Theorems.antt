-- What is proved of the worked cases.
-- Assumes nothing.
use Rattle.table.specs.Rows.{AllHold}
use Rattle.table.specs.Written.{AllHonest, AllProve, AllProveOne}
use Rattle.table.specs.Count.{LuckyCoins, LuckyFirst}

-- all that this crate states; `proved` in `proofs/Proved` inhabits it
pub record Theorems : Type 0 where
  pub all_hold : AllHold
  pub all_honest : AllHonest
  pub all_prove : AllProve
  pub all_prove_one : AllProveOne
  pub lucky_coins_lem : LuckyCoins
  pub lucky_first_lem : LuckyFirst
