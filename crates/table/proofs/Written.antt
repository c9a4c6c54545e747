-- The honest rows and the written buffers, by computation.
-- Assumes nothing.
use Prim.Native.Nat.{ℕ}
use mathlib.Core.Path.{refl}
use mathlib.Core.List.{◌++◌, map}
use Rattle.lists.specs.Each.{All}
use Rattle.lists.specs.Count.{range}
use Rattle.lists.proofs.Each.{all_always, all_append, all_map}
use Rattle.table.specs.Rows.{Row, c1, c9_accepted, c10, c25, c30, differences, true_output, every_coin}
use Rattle.table.specs.Written.{IsHonest, honest_rows, AllHonest, whole_proofs, AllProve, one_proofs, AllProveOne}
use Rattle.table.proofs.Opened.{proving}

-- C1, C25 and C30
c1_honest : IsHonest c1
unfolding proving
c1_honest = (refl, refl)

c25_honest : IsHonest c25
unfolding proving
c25_honest = (refl, refl)

c30_honest : IsHonest c30
unfolding proving
c30_honest = (refl, refl)

-- C13, C16 and C19
differences_honest : All IsHonest (map true_output differences)
unfolding proving
differences_honest = ((refl, refl), ((refl, refl), ((refl, refl), tt)))

-- C9 and C10: the one message comes before the coin, so it is the same for each
c9_honest : (t : ℕ) → IsHonest (c9_accepted t)
unfolding proving
c9_honest t = (refl, refl)

c10_honest : (t : ℕ) → IsHonest (c10 t)
unfolding proving
c10_honest t = (refl, refl)

every_coin_lem : (P : Row → Type 0) (case : ℕ → Row) → ((t : ℕ) → P (case t)) → All P (every_coin case)
every_coin_lem P case each = all_map P case (range 13) (all_always (range 13) each)

pub rows_honest : AllHonest
unfolding honest_rows
rows_honest = (
  c1_honest,
  (
    c25_honest,
    (
      c30_honest,
      all_append IsHonest (map true_output differences) (every_coin c9_accepted ++ every_coin c10) differences_honest
          (all_append IsHonest (every_coin c9_accepted) (every_coin c10)
          (every_coin_lem IsHonest c9_accepted c9_honest) (every_coin_lem IsHonest c10 c10_honest)),
    ),
  ),
)

pub all_prove : AllProve
unfolding whole_proofs proving
all_prove = ((refl, refl), ((refl, refl), ((refl, refl), ((refl, refl), ((refl, refl), ((refl, refl), tt))))))

pub all_prove_one : AllProveOne
unfolding one_proofs proving
all_prove_one = ((refl, refl), ((refl, refl), ((refl, refl), ((refl, refl), ((refl, refl), ((refl, refl), ((refl, refl), ((refl, refl), ((refl, refl), tt)))))))))
