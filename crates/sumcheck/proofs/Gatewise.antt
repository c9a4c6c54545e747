-- One pass over the gates gives the sum message. Over a ring a gate's term with r for the next coordinate is a polynomial in r, from the values
-- of the gate's operation at its own bit and at the other one; the tables have these; and three sums over the gates are the coefficients.
-- Assumes nothing.
use mathlib.Core.Path.{◌≡◌, refl, sym, ap, ap₂, ◌∙◌}
use mathlib.Core.Bool.{Bool, true, false, cond, not, ◌||◌, or-false}
use mathlib.Core.Logic.{inl, inr}
use mathlib.Core.List.{List, [], ◌∷◌, ◌++◌, map, append-nil, append_assoc}
use Prim.Native.Nat.{ℕ, suc, ◌+◌, ◌-◌, ◌*◌, ◌/◌, ◌%◌, ◌^◌, ◌≤◌, ◌<◌, Fin}
use native.Mathlib.Nat.{mod-lt, zero-add, div-one}
use native.Mathlib.Omega.{arith}
use lib.Dec.{ltb}
use lib.ListN.{length, take, drop, get_or, length-append, length-map}
use lib.Seq.{take_at, drop_at}
use borrow.Author.Tests.{lt-ltb, le-ltb}
use Rattle.lists.specs.Each.{All}
use Rattle.lists.specs.Count.{range}
use Rattle.lists.proofs.Count.{length_range, all_range, distinct_range}
use Rattle.lists.proofs.Each.{all_weaken, all_always}
use Rattle.lists.proofs.Map.{map_append}
use Rattle.algebra.specs.Numbers.{Numbers, words}
use Rattle.algebra.specs.Residue.{residue, residues}
use Rattle.algebra.specs.Ring.{Ring}
use Rattle.algebra.specs.Polynomial.{value_at}
use Rattle.algebra.specs.Hom.{Hom}
use Rattle.algebra.proofs.Polynomial.{hom_value, value_below}
use Rattle.algebra.proofs.Residue.{residues_ring, residue_hom, residue_injective}
use Rattle.algebra.proofs.Roots.{equal_words}
use Rattle.algebra.proofs.Hom.{hom_sub, hom_mul}
use Rattle.algebra.proofs.Ring.{ring}
use Rattle.algebra.proofs.Solve.{var, 𝟎, 𝟏, ◌:+◌, ◌:-◌, ◌:*◌, equal, solve}
use Rattle.multilinear.specs.Extension.{odd, bits, factor, weight_of_bits, weight, sum_from, extension, bit, corner}
use Rattle.multilinear.specs.Tables.{weights, folded}
use Rattle.multilinear.proofs.Bits.{length_bits}
use Rattle.multilinear.proofs.Extension.{length_corner}
use Rattle.multilinear.proofs.Weight.{weight_none, weight_more, weight_append}
use Rattle.multilinear.proofs.Sum.{sum_from_same_below, sum_from_same_all}
use Rattle.multilinear.proofs.Tables.{listed, weights_kept, folded_kept}
use Rattle.multilinear.proofs.Hom.{hom_sum_from, hom_get_d}
use Rattle.multilinear.proofs.Words.{sum_from_below}
use Rattle.circuit.specs.Gate.{Gate, operate}
use Rattle.circuit.proofs.Operate.{hom_operate, linear_left, linear_right}
use Rattle.sumcheck.specs.Gatewise.{Side, side_of, share, own, other, coefficients, three_sums, gate_share, gate_is_one, gate_own, gate_other, sums_of, sum_by_gates, InOrder, SumByGates}
use Rattle.sumcheck.specs.Message.{sum_message}
use Rattle.sumcheck.specs.Summand.{partial_sum}
use Rattle.sumcheck.proofs.Hom.{hom_cond, hom_sum_message}
use Rattle.sumcheck.proofs.Message.{sum_value}
use Rattle.sumcheck.proofs.Words.{sum_message_words}
use Rattle.sumcheck.proofs.Layer.{wires, operate_at, reached, partial_gates}
use Rattle.sumcheck.proofs.Sides.{bits_split, toward, Restricted, share_is, own_is, other_own, none_one, one_is, along}

module _ {C : Type 0} {N : Numbers C} (R : Ring N) where
  open N use {𝟘, 𝟙, add as ◌⊕◌, sub as ◌⊖◌, mul as ◌⊗◌}

  infixl 60 ◌⊕◌ ◌⊖◌
  infixl 70 ◌⊗◌
  -- THE THREE SUMS: what a gate counts with r for the next coordinate
  abbrev counted : C → (ℕ → Gate → C) → (Gate → Bool) → (Gate → C) → (Gate → C) → ℕ → Gate → C
  counted r w b o o' a g = w a g ⊗ (factor N (b g) r ⊗ toward N (factor N (b g) r) (o' g) (o g))

  no_gates : (r : C) → value_at N (coefficients N 𝟘 𝟘 𝟘) r ≡ 𝟘
  unfolding value_at equal
  no_gates r = solve R (r ∷ []) (𝟎 :+ var 0 :* ((𝟎 :- 𝟎 :- 𝟎) :+ var 0 :* (𝟎 :+ var 0 :* 𝟎))) 𝟎 tt

  one_gate : (r w o o' z s q : C) (b : Bool)
      → value_at N (coefficients N (cond b 𝟘 (w ⊗ o) ⊕ z) (cond b (w ⊗ o) 𝟘 ⊕ s) (w ⊗ (o ⊖ o') ⊕ q)) r
      ≡ w ⊗ (factor N b r ⊗ toward N (factor N b r) o' o) ⊕ value_at N (coefficients N z s q) r
  unfolding value_at equal
  one_gate r w o o' z s q true =
      solve R (r ∷ w ∷ o ∷ o' ∷ z ∷ s ∷ q ∷ [])
      ((𝟎 :+ var 4) :+ var 0 :* (((var 1 :* var 2 :+ var 5) :- (𝟎 :+ var 4) :- (var 1 :* (var 2 :- var 3) :+ var 6))
      :+ var 0 :* ((var 1 :* (var 2 :- var 3) :+ var 6) :+ var 0 :* 𝟎)))
      (var 1 :* (var 0 :* (var 3 :+ var 0 :* (var 2 :- var 3))) :+ (var 4 :+ var 0 :* ((var 5 :- var 4 :- var 6) :+ var 0 :* (var 6 :+ var 0 :* 𝟎)))) tt
  one_gate r w o o' z s q false =
      solve R (r ∷ w ∷ o ∷ o' ∷ z ∷ s ∷ q ∷ [])
      ((var 1 :* var 2 :+ var 4) :+ var 0 :* (((𝟎 :+ var 5) :- (var 1 :* var 2 :+ var 4) :- (var 1 :* (var 2 :- var 3) :+ var 6))
      :+ var 0 :* ((var 1 :* (var 2 :- var 3) :+ var 6) :+ var 0 :* 𝟎)))
      (var 1 :* ((𝟏 :- var 0) :* (var 3 :+ (𝟏 :- var 0) :* (var 2 :- var 3)))
      :+ (var 4 :+ var 0 :* ((var 5 :- var 4 :- var 6) :+ var 0 :* (var 6 :+ var 0 :* 𝟎)))) tt

  three_sums_value : (r : C) (w : ℕ → Gate → C) (b : Gate → Bool) (o o' : Gate → C) (gs : List Gate)
      → value_at N (three_sums N w b o o' gs) r ≡ sum_from N (counted r w b o o') 0 gs
  unfolding three_sums sum_from
  three_sums_value r w b o o' gs = go 0 gs
    where
      go : (a : ℕ) (gs : List Gate)
          → value_at N (coefficients N (sum_from N (λ a g. cond (b g) 𝟘 (w a g ⊗ o g)) a gs) (sum_from N (λ a g. cond (b g) (w a g ⊗ o g) 𝟘) a gs)
          (sum_from N (λ a g. w a g ⊗ (o g ⊖ o' g)) a gs)) r
          ≡ sum_from N (counted r w b o o') a gs
      go a [] = no_gates r
      go a (g ∷ gs) =
          one_gate r (w a g) (o g) (o' g) (sum_from N (λ a g. cond (b g) 𝟘 (w a g ⊗ o g)) (suc a) gs)
          (sum_from N (λ a g. cond (b g) (w a g ⊗ o g) 𝟘) (suc a) gs) (sum_from N (λ a g. w a g ⊗ (o g ⊖ o' g)) (suc a) gs) (b g)
          ∙ ap (λ (y : C). counted r w b o o' a g ⊕ y) (go (suc a) gs)

  -- THE OPERATION goes with each wire's value from one value to another, as whatever is linear does
  toward_linear : (t x x' s c : C) → toward N t x x' ⊗ s ⊕ c ≡ toward N t (x ⊗ s ⊕ c) (x' ⊗ s ⊕ c)
  unfolding equal
  toward_linear t x x' s c =
      solve R (t ∷ x ∷ x' ∷ s ∷ c ∷ []) ((var 1 :+ var 0 :* (var 2 :- var 1)) :* var 3 :+ var 4)
      (var 1 :* var 3 :+ var 4 :+ var 0 :* (var 2 :* var 3 :+ var 4 :- (var 1 :* var 3 :+ var 4))) tt

  operate_left : (kind : ℕ) (t x x' y : C) → operate N kind (toward N t x x') y ≡ toward N t (operate N kind x y) (operate N kind x' y)
  operate_left kind t x x' y =
      linear_left R kind (toward N t x x') y ∙ toward_linear t x x' _ _
      ∙ sym (ap₂ (toward N t) (linear_left R kind x y) (linear_left R kind x' y))

  operate_right : (kind : ℕ) (t x y y' : C) → operate N kind x (toward N t y y') ≡ toward N t (operate N kind x y) (operate N kind x y')
  operate_right kind t x y y' =
      linear_right R kind x (toward N t y y') ∙ toward_linear t y y' _ _
      ∙ sym (ap₂ (toward N t) (linear_right R kind x y) (linear_right R kind x y'))

  -- the two points' coordinates in one list, the first k being u
  split_at : (k : ℕ) (vs u v : List C) (g : Gate) → length u ≡ k
      → operate_at N k vs g (u ++ v) ≡ operate N g.kind (extension N vs u) (extension N vs v)
  unfolding operate_at
  split_at k vs u v g e = ap₂ (λ (x y : List C). operate N g.kind (extension N vs x) (extension N vs y)) (take_at u v k e) (drop_at u v k e)

  -- A GATE'S TERM
  abbrev term : ℕ → List C → List C → C → C → Gate → C
  term k vs xs r w g =
      w ⊗ weight_of_bits N (take (length (xs ++ (r ∷ []))) (wires k g)) (xs ++ (r ∷ [])) ⊗ operate_at N k vs g (reached N k (xs ++ (r ∷ [])) g)

  -- the same from the tables
  abbrev tabled : Side C → Side C → C → C → Gate → C
  tabled l r z w g =
      w ⊗ (share N l g.left ⊗ share N r g.right)
      ⊗ (factor N (gate_is_one N l r g) z ⊗ toward N (factor N (gate_is_one N l r g) z) (gate_other N l r g) (gate_own N l r g))

  -- a gate in the round that fixes z after xs: its wires' bits before and after the round's own, and its term's factors as the two sides have them
  record Split (k : ℕ) (vs xs : List C) (z : C) (l r : Side C) (g : Gate) : Type 0 where
    pre : List Bool
    post : List Bool
    cut : wires k g ≡ pre ++ (gate_is_one N l r g ∷ post)
    size : length pre ≡ length xs
    shares : weight_of_bits N pre xs ≡ share N l g.left ⊗ share N r g.right
    value : operate_at N k vs g (xs ++ (z ∷ corner N post)) ≡ toward N (factor N (gate_is_one N l r g) z) (gate_other N l r g) (gate_own N l r g)

  joined : {k : ℕ} {vs xs : List C} {z : C} {l r : Side C} {g : Gate} → Split k vs xs z l r g → (w : C) → term k vs xs z w g ≡ tabled l r z w g
  joined {k} {vs} {xs} {z} {l} {r} {g} h w =
      let b = gate_is_one N l r g in
      let ys : List C = xs ++ (z ∷ []) in
      let front : List Bool = h.pre ++ (b ∷ []) in
      let cut : wires k g ≡ front ++ h.post = h.cut ∙ sym (append_assoc h.pre (b ∷ []) h.post) in
      let size : length front ≡ length ys = length-append h.pre (b ∷ []) ∙ ap (λ (m : ℕ). m + 1) h.size ∙ sym (length-append xs (z ∷ [])) in
      ap₂ (λ (f l : List Bool). w ⊗ weight_of_bits N f ys ⊗ operate_at N k vs g (ys ++ corner N l))
      (ap (take (length ys)) cut ∙ take_at front h.post (length ys) size) (ap (drop (length ys)) cut ∙ drop_at front h.post (length ys) size)
      ∙ ap₂ (λ (x y : C). w ⊗ x ⊗ y)
      (weight_append R h.pre (b ∷ []) xs (z ∷ []) h.size
      ∙ ap₂ ◌⊗◌ h.shares (weight_more N b [] z [] ∙ ap (λ (x : C). factor N b z ⊗ x) (weight_none N [])))
      (ap (operate_at N k vs g) (append_assoc xs (z ∷ []) (corner N h.post)) ∙ h.value)
      ∙ shift w (share N l g.left ⊗ share N r g.right) (factor N b z) (toward N (factor N b z) (gate_other N l r g) (gate_own N l r g))
    where
      shift : (w x f o : C) → w ⊗ (x ⊗ (f ⊗ 𝟙)) ⊗ o ≡ w ⊗ x ⊗ (f ⊗ o)
      shift w x f o = simp ring

  in_first : {k : ℕ} {vs u : List C} {n : ℕ} → Restricted k vs u (suc n) → (z : C) (g : Gate) → (g.left < 2 ^ k) × (g.right < 2 ^ k)
      → Split k vs u z (side_of N k vs u true) (side_of N k vs [] false) g
  unfolding bits
  in_first {k} {vs} {u} {n} s z g h =
      let l = side_of N k vs u true in
      let r = side_of N k vs [] false in
      let none : Restricted k vs [] k = record { parts = zero-add k; whole = s.whole } in
      let pre : List Bool = bits (length u) (g.left / 2 ^ suc n) in
      let b : Bool = odd (g.left / 2 ^ n) in
      let one : gate_is_one N l r g ≡ b = ap₂ ◌||◌ (one_is R s g.left) (none_one R none g.right) ∙ or-false b in
      let near : List C = corner N (bits n g.left) in
      let far : List C = corner N (bits k g.right) in
      record {
        pre = pre;
        post = bits n g.left ++ bits k g.right;
        cut = rw one (ap (λ (j : ℕ). bits j g.left ++ bits k g.right) (sym s.parts)
            ∙ ap (λ (bs : List Bool). bs ++ bits k g.right) (bits_split (length u) (suc n) g.left)
            ∙ append_assoc pre (b ∷ bits n g.left) (bits k g.right));
        size = length_bits (length u) (g.left / 2 ^ suc n);
        shares = sym (ap₂ ◌⊗◌ (share_is R s true g.left h.0) (share_is R none false g.right h.1 ∙ weight_none N []) ∙ R.mul_one _);
        value = rw one (ap (operate_at N k vs g)
            (ap (λ (zs : List C). u ++ (z ∷ zs)) (map_append (bit N) (bits n g.left) (bits k g.right)) ∙ sym (append_assoc u (z ∷ near) far))
            ∙ split_at k vs (u ++ (z ∷ near)) far g (length-append u (z ∷ near) ∙ ap (λ (m : ℕ). length u + suc m) (length_corner N n g.left) ∙ s.parts)
            ∙ ap₂ (operate N g.kind) (along R s g.left z) (sym (own_is R none false g.right))
            ∙ operate_left g.kind (factor N b z) (other N l g.left) (own N l g.left) (own N r g.right)
            ∙ ap (λ (y : C). toward N (factor N b z) (operate N g.kind (other N l g.left) y) (gate_own N l r g)) (sym (other_own R none g.right)));
      }

  in_second : {k : ℕ} {vs u v : List C} {n : ℕ} → Restricted k vs u 0 → Restricted k vs v (suc n) → (z : C) (g : Gate)
      → (g.left < 2 ^ k) × (g.right < 2 ^ k) → Split k vs (u ++ v) z (side_of N k vs u false) (side_of N k vs v true) g
  unfolding bits
  in_second {k} {vs} {u} {v} {n} all s z g h =
      let l = side_of N k vs u false in
      let r = side_of N k vs v true in
      let whole : length u ≡ k = omega arith in
      let first : List Bool = bits k g.left in
      let second : List Bool = bits (length v) (g.right / 2 ^ suc n) in
      let sized : length first ≡ length u = length_bits k g.left ∙ sym whole in
      let b : Bool = odd (g.right / 2 ^ n) in
      let one : gate_is_one N l r g ≡ b = ap₂ ◌||◌ (none_one R all g.left) (one_is R s g.right) in
      let near : List C = corner N (bits n g.right) in
      record {
        pre = first ++ second;
        post = bits n g.right;
        cut = rw one (ap (λ (j : ℕ). first ++ bits j g.right) (sym s.parts)
            ∙ ap (λ (bs : List Bool). first ++ bs) (bits_split (length v) (suc n) g.right)
            ∙ sym (append_assoc first second (b ∷ bits n g.right)));
        size = length-append first second ∙ ap₂ ◌+◌ sized (length_bits (length v) (g.right / 2 ^ suc n)) ∙ sym (length-append u v);
        shares = weight_append R first second u v sized
            ∙ sym (ap₂ ◌⊗◌
            (share_is R all false g.left h.0 ∙ ap₂ (λ (j i : ℕ). weight_of_bits N (bits j i) u) whole (div-one g.left))
            (share_is R s true g.right h.1));
        value = rw one (ap (operate_at N k vs g) (append_assoc u v (z ∷ near))
            ∙ split_at k vs u (v ++ (z ∷ near)) g whole
            ∙ ap₂ (operate N g.kind) (ap (extension N vs) (sym (append-nil u)) ∙ sym (own_is R all false g.left)) (along R s g.right z)
            ∙ operate_right g.kind (factor N b z) (own N l g.left) (other N r g.right) (own N r g.right)
            ∙ ap (λ (x : C). toward N (factor N b z) (operate N g.kind x (other N r g.right)) (gate_own N l r g)) (sym (other_own R all g.left)));
      }

  -- THE MESSAGE'S VALUE, from what the tables give of each term
  from_tables : (k : ℕ) (gs : List Gate) (point vs xs : List C) (z : C) (l r : Side C)
      → All (Split k vs xs z l r) gs → length gs ≤ 2 ^ length point → length xs < 2 * k
      → value_at N (sums_of N (weights N point) l r gs) z ≡ partial_sum N k gs point vs (xs ++ (z ∷ []))
  from_tables k gs point vs xs z l r each few more =
      three_sums_value z (gate_share N (weights N point) l r) (gate_is_one N l r) (gate_own N l r) (gate_other N l r) gs
      ∙ sum_from_same_below N (2 ^ length point) (λ a g. tabled l r z (get_or (weights N point) a 𝟘) g) (λ a g. tabled l r z (weight N a point) g)
      (λ a g h. ap (λ (w : C). tabled l r z w g) (listed N point a h)) 0 gs (omega arith)
      ∙ sum_from_same_all N (Split k vs xs z l r) (λ a g. tabled l r z (weight N a point) g)
      (λ a g. term k vs xs z (weight N a point) g) (λ a g h. sym (joined h (weight N a point))) 0 gs each
      ∙ sym (partial_gates R k gs point vs (xs ++ (z ∷ [])) (omega (arith, length-append xs (z ∷ []))))

  pub gatewise_value : (k : ℕ) (gs : List Gate) (point vs u v : List C) (z : C) → length vs ≡ 2 ^ k
      → All (λ g. (g.left < 2 ^ k) × (g.right < 2 ^ k)) gs → length gs ≤ 2 ^ length point → InOrder k u v
      → value_at N (sum_by_gates N k gs point vs u v) z ≡ partial_sum N k gs point vs ((u ++ v) ++ (z ∷ []))
  unfolding sum_by_gates
  gatewise_value k gs point vs u [] z e below few (inl h) =
      let less = h.0 in
      let some : Restricted k vs u (suc (k - length u - 1)) = record { parts = omega arith; whole = e } in
      ap (λ (t : Bool). value_at N (sums_of N (weights N point) (side_of N k vs u t) (side_of N k vs [] (not t)) gs) z) (lt-ltb (length u) k less)
      ∙ from_tables k gs point vs u z _ _ (all_weaken gs (in_first some z) below) few (omega arith)
      ∙ ap (λ (xs : List C). partial_sum N k gs point vs (xs ++ (z ∷ []))) (sym (append-nil u))
  gatewise_value k gs point vs u (x ∷ v) z e below few (inl h) = absurd (omega (arith, h.1))
  gatewise_value k gs point vs u v z e below few (inr h) =
      let whole = h.0 in
      let less = h.1 in
      let all : Restricted k vs u 0 = record { parts = omega arith; whole = e } in
      let some : Restricted k vs v (suc (k - length v - 1)) = record { parts = omega arith; whole = e } in
      ap (λ (t : Bool). value_at N (sums_of N (weights N point) (side_of N k vs u t) (side_of N k vs v (not t)) gs) z) (le-ltb (length u) k (omega arith))
      ∙ from_tables k gs point vs (u ++ v) z _ _ (all_weaken gs (in_second all some z) below) few (omega (arith, length-append u v))

-- MAPS THAT KEEP THE OPERATIONS
module _ {C D : Type 0} {N : Numbers C} {M : Numbers D} {h : C → D} (H : Hom N M h) where
  hom_three_sums : (w : ℕ → Gate → C) (w' : ℕ → Gate → D) (b : Gate → Bool) (o n : Gate → C) (o' n' : Gate → D)
      → ((a : ℕ) (g : Gate) → h (w a g) ≡ w' a g) → ((g : Gate) → h (o g) ≡ o' g) → ((g : Gate) → h (n g) ≡ n' g) → (gs : List Gate)
      → map h (three_sums N w b o n gs) ≡ three_sums M w' b o' n' gs
  unfolding three_sums
  hom_three_sums w w' b o n o' n' ew eo en gs =
      let zeros = hom_sum_from H _ (λ a g. cond (b g) M.𝟘 (M.mul (w' a g) (o' g))) (λ a g. hom_cond H (b g) H.keeps_𝟘 (hom_mul H (ew a g) (eo g))) 0 gs in
      let ones = hom_sum_from H _ (λ a g. cond (b g) (M.mul (w' a g) (o' g)) M.𝟘) (λ a g. hom_cond H (b g) (hom_mul H (ew a g) (eo g)) H.keeps_𝟘) 0 gs in
      let squares = hom_sum_from H _ (λ a g. M.mul (w' a g) (M.sub (o' g) (n' g))) (λ a g. hom_mul H (ew a g) (hom_sub H (eo g) (en g))) 0 gs in
      ap₂ (λ (c : D) (l : List D). c ∷ l) zeros (ap₂ (λ (c d : D). c ∷ d ∷ []) (hom_sub H (hom_sub H ones zeros) squares) squares)

  abbrev mapped : Side C → Side D
  mapped s = record { shares = map h s.shares; table = map h s.table; size = s.size; half = s.half }

  hom_sums_of : (ps : List C) (l r : Side C) (gs : List Gate) → map h (sums_of N ps l r gs) ≡ sums_of M (map h ps) (mapped l) (mapped r) gs
  hom_sums_of ps l r gs =
      hom_three_sums (gate_share N ps l r) (gate_share M (map h ps) (mapped l) (mapped r)) (gate_is_one N l r) (gate_own N l r) (gate_other N l r)
      (gate_own M (mapped l) (mapped r)) (gate_other M (mapped l) (mapped r))
      (λ a g. hom_mul H (hom_get_d H ps a) (hom_mul H (hom_get_d H l.shares _) (hom_get_d H r.shares _)))
      (λ g. value g (g.left % l.size) (g.right % r.size)) (λ g. value g ((g.left + l.half) % l.size) ((g.right + r.half) % r.size)) gs
    where
      value : (g : Gate) (i j : ℕ) → h (operate N g.kind (get_or l.table i N.𝟘) (get_or r.table j N.𝟘))
          ≡ operate M g.kind (get_or (map h l.table) i M.𝟘) (get_or (map h r.table) j M.𝟘)
      value g i j = hom_operate H g.kind _ _ ∙ ap₂ (operate M g.kind) (hom_get_d H l.table i) (hom_get_d H r.table j)

  hom_side : (k : ℕ) (vs xs : List C) (next : Bool) → mapped (side_of N k vs xs next) ≡ side_of M k (map h vs) (map h xs) next
  hom_side k vs xs next =
      ap₂ (λ (s t : List D). made s t (length xs)) (weights_kept H xs) (folded_kept H xs vs)
      ∙ ap (made (weights M (map h xs)) (folded M (map h xs) (map h vs))) (sym (length-map xs h))
    where
      made : List D → List D → ℕ → Side D
      made s t n = record { shares = s; table = t; size = 2 ^ (k - n); half = cond next (2 ^ (k - n) / 2) 0 }

  pub hom_sum_by_gates : (k : ℕ) (gs : List Gate) (point vs u v : List C)
      → map h (sum_by_gates N k gs point vs u v) ≡ sum_by_gates M k gs (map h point) (map h vs) (map h u) (map h v)
  unfolding sum_by_gates
  hom_sum_by_gates k gs point vs u v =
      hom_sums_of (weights N point) (side_of N k vs u (ltb (length u) k)) (side_of N k vs v (not (ltb (length u) k))) gs
      ∙ ap₂ (λ (l r : Side D). sums_of M (map h (weights N point)) l r gs) (hom_side k vs u (ltb (length u) k)) (hom_side k vs v (not (ltb (length u) k)))
      ∙ ap₂ (λ (ps : List D) (n : ℕ). sums_of M ps (side_of M k (map h vs) (map h u) (ltb n k)) (side_of M k (map h vs) (map h v) (not (ltb n k))) gs)
      (weights_kept H point) (sym (length-map u h))

-- ON WORDS: both lists have three residues, and they agree at 0, 1 and 2
module _ (p : ℕ) (pos : 0 < p) where
  three_words : (k : ℕ) (gs : List Gate) (point vs u v : List ℕ)
      → (length (sum_by_gates (words p) k gs point vs u v) ≡ 3) × All (λ c. c < p) (sum_by_gates (words p) k gs point vs u v)
  unfolding sum_by_gates three_sums
  three_words k gs point vs u v = (refl, (sum_from_below p pos _ 0 gs, (mod-lt _ pos, (sum_from_below p pos _ 0 gs, tt))))

  agree : (k : ℕ) (gs : List Gate) (point vs u v : List ℕ) → length vs ≡ 2 ^ k
      → All (λ g. (g.left < 2 ^ k) × (g.right < 2 ^ k)) gs → length gs ≤ 2 ^ length point → InOrder k u v → (x : ℕ)
      → value_at (words p) (sum_by_gates (words p) k gs point vs u v) x ≡ value_at (words p) (sum_message (words p) k gs point vs (u ++ v)) x
  agree k gs point vs u v e below few order x =
      residue_injective p pos (value_at (words p) (sum_by_gates (words p) k gs point vs u v) x)
      (value_at (words p) (sum_message (words p) k gs point vs (u ++ v)) x)
      (value_below p pos (sum_by_gates (words p) k gs point vs u v) x) (value_below p pos (sum_message (words p) k gs point vs (u ++ v)) x)
      (hom_value H (sum_by_gates (words p) k gs point vs u v) x
      ∙ ap (λ (f : List (Fin p)). value_at (residues p pos) f (ι x)) (hom_sum_by_gates H k gs point vs u v)
      ∙ gatewise_value (residues_ring p pos) k gs (map ι point) (map ι vs) (map ι u) (map ι v) (ι x) (length-map vs ι ∙ e) below
      (rw (length-map point ι) few) (rw (length-map u ι, length-map v ι) order)
      ∙ ap (λ (xs : List (Fin p)). partial_sum (residues p pos) k gs (map ι point) (map ι vs) (xs ++ (ι x ∷ []))) (sym (map_append ι u v))
      ∙ sym (hom_value H (sum_message (words p) k gs point vs (u ++ v)) x
      ∙ ap (λ (f : List (Fin p)). value_at (residues p pos) f (ι x)) (hom_sum_message H k gs point vs (u ++ v))
      ∙ sum_value (residues_ring p pos) k gs (map ι point) (map ι vs) (map ι (u ++ v)) (ι x)))
    where
      ι : ℕ → Fin p
      ι = residue p pos

      H : Hom (words p) (residues p pos) (residue p pos)
      H = residue_hom p pos

pub sum_by_gates_lem : SumByGates
sum_by_gates_lem p prime three k gs point vs u v e below few order =
    let f = three_words p pos k gs point vs u v in
    let g = sum_message_words p pos k gs point vs (u ++ v) in
    equal_words p prime (sum_by_gates (words p) k gs point vs u v) (sum_message (words p) k gs point vs (u ++ v)) (range 3)
    (f.0 ∙ sym g.0) f.1 g.1 (all_weaken (range 3) (λ x h. omega arith) (all_range 3)) (distinct_range 3)
    (omega (arith, f.0, length_range 3)) (all_always (range 3) at)
  where
    pos : 0 < p
    pos = omega arith

    at : (x : ℕ) → value_at (words p) (sum_by_gates (words p) k gs point vs u v) x ≡ value_at (words p) (sum_message (words p) k gs point vs (u ++ v)) x
    at = agree p pos k gs point vs u v e below few order
