-- The points that the check reads off the coins.
-- Assumes nothing.
use Prim.Native.Nat.{ℕ, zero, suc, ◌+◌, ◌-◌, ◌*◌, ◌≤◌, ◌<◌, zero-le, min}
use mathlib.Core.Path.{◌≡◌, refl, sym, ap, ap₂, ◌∙◌, subst}
use mathlib.Core.List.{List}
use native.Mathlib.Omega.{arith}
use lib.ListN.{length, length-drop, take, drop, get_or}
use lib.Seq.{take_all, get_or-drop, length-take-le}
use Rattle.lists.proofs.Count.{sum_nil}
use Rattle.lists.proofs.Front.{front_whole, front_take}
use Rattle.algebra.specs.Numbers.{words}
use Rattle.extension.specs.Limits.{row_length}
use Rattle.circuit.specs.Circuit.{prime_of, depth, output_exponent, exponent_at}
use Rattle.circuit.proofs.Sized.{deep, exponent_small, layer_of}
use Rattle.sumcheck.specs.Summand.{line_point}
use Rattle.sumcheck.proofs.Words.{line_point_length}
use Rattle.summand.proofs.Line.{take_line}
use Rattle.protocol.specs.Rounds.{layer_start}
use Rattle.protocol.specs.Judge.{line_end, point_at}
use Rattle.protocol.proofs.Points.{start_next}
use Rattle.standing.specs.Standing.{AtLayer, Row}

-- a row that the coordinates fit
pub row_whole : {l m r : List ℕ} → l ≡ m → length m ≤ row_length → Row (take row_length l) r → Row m r
row_whole {l} {m} {r} e h row = front_whole row_length m r h (subst (λ (a : List ℕ). Row (take row_length a) r) e row)

-- the coins of a layer of exponent k, where they are the last of those so far
abbrev pub last_coins : List ℕ → ℕ → List ℕ
last_coins past k = drop (length past - (2 * k + 1)) past

-- its coins in parts, k for the row of its first point, k for that of its second and one for its line, and the point that the line has there
pub record LineRows (p : ℕ) (coins : List ℕ) (k : ℕ) (u v r : List ℕ) : Type 0 where
  pub first : Row (take row_length (take k coins)) u
  pub second : Row (take row_length (take k (drop k coins))) v
  pub point : r ≡ line_point (words p) u v (get_or (drop k (drop k coins)) 0 0)

module _ (c : List ℕ) (l : ℕ) (past : List ℕ) (h : AtLayer c (suc (suc l)) (length past)) where
  inside : suc l ≤ depth c
  inside = let low : suc (suc l) ≤ 1 + depth c = h.there.last in omega arith

  -- the layer above: its exponent, where its coins start, and those that are left from there on
  abbrev K : ℕ
  K = exponent_at c (suc l)

  abbrev s : ℕ
  s = layer_start c (suc l)

  abbrev cs : List ℕ
  cs = drop s past

  fits : K ≤ row_length
  fits = let low = exponent_small c (suc l) (record { headed = h.there.legal.sized.headed; inside = inside }) in omega arith

  -- they are its 2k + 1 coins
  above_coins : length past ≡ s + 2 * K + 1
  above_coins = let low = inside in h.counted ∙ start_next c l (omega (arith, deep c h.there.legal))

  own_coins : length cs ≡ 2 * K + 1
  own_coins = let size = above_coins in rw length-drop (omega arith)

  first_long : length (take K cs) ≡ K
  first_long = let own = own_coins in length-take-le K cs (omega arith)

  second_long : length (take K (drop K cs)) ≡ K
  second_long = let own = own_coins in length-take-le K (drop K cs) (rw length-drop (omega arith))

  -- the point has k coordinates
  point_own : point_at c (suc (suc l)) past ≡ line_end c K cs
  point_own = ap (line_end c K) (take_all (2 * K + 1) cs (omega (arith, own_coins)))

  above_length : length (point_at c (suc (suc l)) past) ≡ K
  above_length = ap length point_own ∙ line_point_length (prime_of c) _ _ _ (first_long ∙ sym second_long) ∙ first_long

  -- its coins are where the code looks for them
  own_last : last_coins past K ≡ cs
  own_last = let size = above_coins in let place : length past - (2 * K + 1) ≡ s = omega arith in ap (λ (i : ℕ). drop i past) place

  line_coin : get_or (drop K (drop K cs)) 0 0 ≡ get_or cs (2 * K) 0
  line_coin = get_or-drop K (drop K cs) 0 0 ∙ get_or-drop K cs (K + 0) 0 ∙ ap (λ (i : ℕ). get_or cs i 0) (omega arith)

  line_row : (u v r : List ℕ) → LineRows (prime_of c) (last_coins past K) K u v r → take K r ≡ point_at c (suc (suc l)) past
  line_row u v r found =
      let N = words (prime_of c) in
      let rows = subst (λ (l : List ℕ). LineRows (prime_of c) l K u v r) own_last found in
      let t : ℕ = get_or (drop K (drop K cs)) 0 0 in
      let front-u : take K u ≡ take K cs = front_take (row_whole refl (rw first_long fits) rows.first) K (sym first_long) in
      let front-v : take K v ≡ take K (drop K cs) = front_take (row_whole refl (rw second_long fits) rows.second) K (sym second_long) in
      ap (take K) rows.point ∙ take_line N K u v t ∙ ap₂ (λ (a b : List ℕ). line_point N a b t) front-u front-v
      ∙ ap (line_point N (take K cs) (take K (drop K cs))) line_coin ∙ sym point_own

-- the same, of a layer that is not the first
module _ (c : List ℕ) (past : List ℕ) where
  standing_coins : (layer : ℕ) → AtLayer c layer (length past) → 2 ≤ layer → length past ≡ layer_start c (layer - 1) + 2 * exponent_at c (layer - 1) + 1
  standing_coins zero h ne = absurd (let low : 1 ≤ 0 = h.there.first in omega arith)
  standing_coins (suc zero) h ne = absurd (omega arith)
  standing_coins (suc (suc l)) h ne =
      let e : suc (suc l) - 1 ≡ suc l = omega arith in
      above_coins c l past h ∙ ap (λ (i : ℕ). layer_start c i + 2 * exponent_at c i + 1) (sym e)

  pub standing_enough : (layer k : ℕ) → AtLayer c layer (length past) → 2 ≤ layer → k ≡ exponent_at c (layer - 1) → 2 * k + 1 ≤ length past
  standing_enough layer k h ne ek = omega (arith, ek, standing_coins layer h ne)

  pub standing_row : (layer k : ℕ) (u v r : List ℕ) → AtLayer c layer (length past) → 2 ≤ layer → k ≡ exponent_at c (layer - 1)
      → LineRows (prime_of c) (last_coins past k) k u v r → take (min k row_length) r ≡ point_at c layer past
  standing_row zero k u v r h ne ek rows = absurd (let low : 1 ≤ 0 = h.there.first in omega arith)
  standing_row (suc zero) k u v r h ne ek rows = absurd (omega arith)
  standing_row (suc (suc l)) k u v r h ne ek rows =
      let e : suc (suc l) - 1 ≡ suc l = omega arith in
      let own : k ≡ exponent_at c (suc l) = ek ∙ ap (exponent_at c) e in
      let small = fits c l past h in
      ap (λ (n : ℕ). take n r) (omega (arith, own, small))
      ∙ line_row c l past h u v r (subst (λ (n : ℕ). LineRows (prime_of c) (last_coins past n) n u v r) own rows)

  first_length : AtLayer c 1 (length past) → length (point_at c 1 past) ≡ exponent_at c 0
  first_length h = length-take-le (output_exponent c) past (omega (arith, h.counted, sum_nil))

  pub point_length : (layer : ℕ) → AtLayer c layer (length past) → length (point_at c layer past) ≡ exponent_at c (layer - 1)
  point_length zero h = absurd (let low : 1 ≤ 0 = h.there.first in omega arith)
  point_length (suc zero) h = let e : suc zero - 1 ≡ 0 = omega arith in first_length h ∙ ap (exponent_at c) (sym e)
  point_length (suc (suc l)) h = let e : suc (suc l) - 1 ≡ suc l = omega arith in above_length c l past h ∙ ap (exponent_at c) (sym e)

  -- at layer 1 the coins so far are the first point
  pub first_row : (layer : ℕ) → AtLayer c layer (length past) → layer < 2 → take row_length past ≡ point_at c layer past
  first_row layer h low =
      let some : 1 ≤ layer = h.there.first in
      let e : 1 ≡ layer = omega arith in
      let counted : length past ≡ layer_start c layer = h.counted in
      let few : length past ≡ output_exponent c = counted ∙ ap (layer_start c) (sym e) ∙ omega (arith, sum_nil) in
      let small = exponent_small c 0 (layer_of c h.there.legal 0 zero-le) in
      take_all row_length past (omega (arith, few, small)) ∙ sym (take_all (output_exponent c) past (omega arith))
      ∙ ap (λ (i : ℕ). point_at c i past) e
