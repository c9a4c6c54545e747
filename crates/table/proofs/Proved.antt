-- Every statement of this crate, proved.
-- Assumes nothing.
use Rattle.table.specs.Theorems.{Theorems}
use Rattle.table.proofs.Rows.{table_holds}
use Rattle.table.proofs.Written.{rows_honest, all_prove, all_prove_one}
use Rattle.table.proofs.Count.{lucky_coins_lem, lucky_first_lem}

pub proved : Theorems
proved = record {
  all_hold = table_holds;
  all_honest = rows_honest;
  all_prove = all_prove;
  all_prove_one = all_prove_one;
  lucky_coins_lem = lucky_coins_lem;
  lucky_first_lem = lucky_first_lem;
}
