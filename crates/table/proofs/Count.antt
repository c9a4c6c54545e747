-- The counts, by computation.
-- Assumes nothing.
use mathlib.Core.Path.{refl}
use lib.Dec.{leb→le}
use mathlib.Core.List.{flat_map}
use Rattle.lists.specs.Count.{count, range}
use Rattle.counting.specs.Coins.{coin_lists}
use Rattle.circuit.specs.Circuit.{exponent_sum}
use Rattle.counting.specs.Doomed.{luckless}
use Rattle.table.specs.Count.{passes_with, lucky_coins, allowed, LuckyCoins, LuckyFirst}
use Rattle.table.specs.Rows.{c7}
use Rattle.table.proofs.Opened.{checking}

pub lucky_coins_lem : LuckyCoins
unfolding lucky_coins coin_lists flat_map count range passes_with checking allowed exponent_sum
lucky_coins_lem = (refl, refl, leb→le (lucky_coins c7) (allowed c7) tt)

pub lucky_first_lem : LuckyFirst
unfolding lucky_coins coin_lists flat_map count range passes_with checking allowed exponent_sum luckless
lucky_first_lem = (refl, refl, refl)
