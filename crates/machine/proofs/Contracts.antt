-- By what the texts are: nothing is left to argue.
-- Assumes nothing.
use Rattle.machine.specs.Said.{ContractsSay}

pub contracts_say : ContractsSay
contracts_say = record {
  check = λ κs a x e told. told;
  check_asks = λ κs a. tt;
  begin = λ κs a x e told. told;
  begin_asks = λ κs a. tt;
  step = λ κs a x e told. told;
  step_asks = λ κs a. tt;
  prove = λ κs a x e told. told;
  prove_asks = λ κs a. tt;
  prove_one = λ κs a x e told. told;
  prove_one_asks = λ κs a. tt;
  exported_check = λ κs a x e told. told;
  exported_check_asks = λ κs a. tt;
  exported_begin = λ κs a x e told. told;
  exported_begin_asks = λ κs a. tt;
  exported_step = λ κs a x e told. told;
  exported_step_asks = λ κs a. tt;
  exported_prove = λ κs a x e told. told;
  exported_prove_asks = λ κs a. tt;
  exported_prove_one = λ κs a x e told. told;
  exported_prove_one_asks = λ κs a. tt;
}
