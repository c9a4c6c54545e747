-- The coefficients from halves: at t they give what halving gives at the line's point, since low + z (high - low) is (1 - z) low + z high. On
-- words they are residues, so over a prime they are the line message, which has the same values at 0, 1, .., k.
-- Assumes nothing.
use mathlib.Core.Path.{◌≡◌, refl, sym, ap, ap₂, ◌∙◌}
use mathlib.Core.List.{List, [], ◌∷◌, map}
use Prim.Native.Nat.{ℕ, zero, suc, ◌/◌, ◌^◌, ◌<◌, Fin}
use native.Mathlib.Nat.{mod-lt, suc_inj}
use native.Mathlib.Omega.{arith}
use lib.ListN.{length, take, drop, get_or, length-map}
use Rattle.lists.specs.Each.{All}
use Rattle.lists.specs.Count.{range}
use Rattle.lists.proofs.Each.{all_always, all_weaken}
use Rattle.lists.proofs.Map.{map_take, map_drop}
use Rattle.lists.proofs.Count.{length_range, all_range, distinct_range}
use Rattle.algebra.specs.Numbers.{Numbers, words}
use Rattle.algebra.specs.Ring.{Ring}
use Rattle.algebra.specs.Hom.{Hom}
use Rattle.algebra.specs.Residue.{residue, residues}
use Rattle.algebra.specs.Polynomial.{value_at}
use Rattle.algebra.proofs.Hom.{hom_add, hom_mul}
use Rattle.algebra.proofs.Polynomial.{hom_value, value_below, value_constant}
use Rattle.algebra.proofs.Residue.{residues_ring, residue_hom, residue_injective}
use Rattle.algebra.proofs.Roots.{equal_words}
use Rattle.algebra.proofs.Solve.{var, 𝟎, 𝟏, ◌:+◌, ◌:-◌, ◌:*◌, equal, solve}
use Rattle.multilinear.specs.Extension.{extension, between, halving}
use Rattle.multilinear.proofs.Hom.{hom_get_d}
use Rattle.multilinear.proofs.Extension.{halving_is_extension}
use Rattle.multilinear.proofs.Words.{halving_below}
use Rattle.sumcheck.specs.Summand.{line_point}
use Rattle.sumcheck.specs.Message.{line_message}
use Rattle.sumcheck.specs.Line.{along, line_halving}
use Rattle.sumcheck.specs.Theorems.{LineByHalves}
use Rattle.sumcheck.proofs.Hom.{hom_line_message}
use Rattle.sumcheck.proofs.Message.{length_line, line_value}
use Rattle.sumcheck.proofs.Words.{line_message_words}

-- STEP BY STEP
module _ {C : Type 0} (N : Numbers C) where
  pub line_none : (vs u v : List C) → length u ≡ 0 → line_halving N vs u v ≡ get_or vs 0 N.𝟘 ∷ []
  unfolding line_halving
  line_none vs [] v e = refl
  line_none vs (x ∷ u) v e = absurd (omega arith)

  pub line_step : (vs u v : List C) (d : C) → 0 < length u → 0 < length v
      → line_halving N vs u v
      ≡ along N (get_or u 0 d) (N.sub (get_or v 0 d) (get_or u 0 d)) N.𝟘
      (line_halving N (take (length vs / 2) vs) (drop 1 u) (drop 1 v)) (line_halving N (drop (length vs / 2) vs) (drop 1 u) (drop 1 v))
  unfolding line_halving
  line_step vs [] v d h h' = absurd (omega arith)
  line_step vs (x ∷ u) [] d h h' = absurd (omega arith)
  line_step vs (x ∷ u) (y ∷ v) d h h' = refl

-- LENGTHS
module _ {C : Type 0} (N : Numbers C) where
  pub length_along : (n : ℕ) (x d carry : C) (low high : List C) → length low ≡ n → length high ≡ n
      → length (along N x d carry low high) ≡ suc n
  unfolding along
  length_along n x d carry [] high e f = ap suc e
  length_along n x d carry (a ∷ low) [] e f = ap suc f
  length_along zero x d carry (a ∷ low) (b ∷ high) e f = absurd (omega arith)
  length_along (suc n) x d carry (a ∷ low) (b ∷ high) e f =
      ap suc (length_along n x d (N.sub b a) low high (suc_inj e) (suc_inj f))

  pub length_line_halving : (vs u v : List C) → length u ≡ length v → length (line_halving N vs u v) ≡ suc (length u)
  unfolding line_halving
  length_line_halving vs [] v e = refl
  length_line_halving vs (x ∷ u) [] e = absurd (omega arith)
  length_line_halving vs (x ∷ u) (y ∷ v) e =
      let low : List C = take (length vs / 2) vs in
      let high : List C = drop (length vs / 2) vs in
      length_along (suc (length u)) x (N.sub y x) N.𝟘 (line_halving N low u v) (line_halving N high u v)
      (length_line_halving low u v (suc_inj e)) (length_line_halving high u v (suc_inj e))

-- VALUES
module _ {C : Type 0} {N : Numbers C} (R : Ring N) where
  open N use {𝟘, 𝟙, add as ◌⊕◌, sub as ◌⊖◌, mul as ◌⊗◌}

  infixl 60 ◌⊕◌ ◌⊖◌
  infixl 70 ◌⊗◌
  pub along_value : (x d carry : C) (low high : List C) (t : C) → length low ≡ length high
      → value_at N (along N x d carry low high) t
      ≡ value_at N low t ⊕ (x ⊕ t ⊗ d) ⊗ (value_at N high t ⊖ value_at N low t) ⊕ d ⊗ carry
  unfolding value_at along equal
  along_value x d carry [] [] t e = last x d carry t
    where
      last : (x d carry t : C) → d ⊗ carry ⊕ t ⊗ 𝟘 ≡ 𝟘 ⊕ (x ⊕ t ⊗ d) ⊗ (𝟘 ⊖ 𝟘) ⊕ d ⊗ carry
      last x d carry t =
          solve R (x ∷ d ∷ carry ∷ t ∷ [])
          (var 1 :* var 2 :+ var 3 :* 𝟎)
          (𝟎 :+ (var 0 :+ var 3 :* var 1) :* (𝟎 :- 𝟎) :+ var 1 :* var 2)
          tt
  along_value x d carry [] (b ∷ high) t e = absurd (omega arith)
  along_value x d carry (a ∷ low) [] t e = absurd (omega arith)
  along_value x d carry (a ∷ low) (b ∷ high) t e =
      ap (λ (y : C). a ⊕ x ⊗ (b ⊖ a) ⊕ d ⊗ carry ⊕ t ⊗ y) (along_value x d (b ⊖ a) low high t (suc_inj e))
      ∙ next x d carry a b t (value_at N low t) (value_at N high t)
    where
      next : (x d carry a b t l h : C)
          → a ⊕ x ⊗ (b ⊖ a) ⊕ d ⊗ carry ⊕ t ⊗ (l ⊕ (x ⊕ t ⊗ d) ⊗ (h ⊖ l) ⊕ d ⊗ (b ⊖ a))
          ≡ a ⊕ t ⊗ l ⊕ (x ⊕ t ⊗ d) ⊗ (b ⊕ t ⊗ h ⊖ (a ⊕ t ⊗ l)) ⊕ d ⊗ carry
      next x d carry a b t l h =
          solve R (x ∷ d ∷ carry ∷ a ∷ b ∷ t ∷ l ∷ h ∷ [])
          (var 3 :+ var 0 :* (var 4 :- var 3) :+ var 1 :* var 2
          :+ var 5 :* (var 6 :+ (var 0 :+ var 5 :* var 1) :* (var 7 :- var 6) :+ var 1 :* (var 4 :- var 3)))
          (var 3 :+ var 5 :* var 6 :+ (var 0 :+ var 5 :* var 1) :* (var 4 :+ var 5 :* var 7 :- (var 3 :+ var 5 :* var 6)) :+ var 1 :* var 2)
          tt

  pub halving_value : (vs u v : List C) (t : C) → length u ≡ length v
      → value_at N (line_halving N vs u v) t ≡ halving N vs (line_point N u v t)
  unfolding line_halving line_point halving equal
  halving_value vs [] v t e = value_constant R (get_or vs 0 𝟘) t
  halving_value vs (x ∷ u) [] t e = absurd (omega arith)
  halving_value vs (x ∷ u) (y ∷ v) t e =
      let low : List C = take (length vs / 2) vs in
      let high : List C = drop (length vs / 2) vs in
      let same : length u ≡ length v = suc_inj e in
      along_value x (y ⊖ x) 𝟘 (line_halving N low u v) (line_halving N high u v) t
      (length_line_halving N low u v same ∙ sym (length_line_halving N high u v same))
      ∙ first x (y ⊖ x) t (value_at N (line_halving N low u v) t) (value_at N (line_halving N high u v) t)
      ∙ ap₂ (between N (x ⊕ t ⊗ (y ⊖ x))) (halving_value low u v t same) (halving_value high u v t same)
    where
      first : (x d t l h : C) → l ⊕ (x ⊕ t ⊗ d) ⊗ (h ⊖ l) ⊕ d ⊗ 𝟘 ≡ (𝟙 ⊖ (x ⊕ t ⊗ d)) ⊗ l ⊕ (x ⊕ t ⊗ d) ⊗ h
      first x d t l h =
          solve R (x ∷ d ∷ t ∷ l ∷ h ∷ [])
          (var 3 :+ (var 0 :+ var 2 :* var 1) :* (var 4 :- var 3) :+ var 1 :* 𝟎)
          ((𝟏 :- (var 0 :+ var 2 :* var 1)) :* var 3 :+ (var 0 :+ var 2 :* var 1) :* var 4)
          tt

  pub line_halving_value : (vs u v : List C) (t : C) → length u ≡ length v → length vs ≡ 2 ^ length u
      → value_at N (line_halving N vs u v) t ≡ extension N vs (line_point N u v t)
  line_halving_value vs u v t e n =
      halving_value vs u v t e
      ∙ halving_is_extension R vs (line_point N u v t) (n ∙ ap (λ (k : ℕ). 2 ^ k) (sym (length_line N (length u) u v t refl (sym e))))

-- MAPS THAT KEEP THE OPERATIONS
module _ {C D : Type 0} {N : Numbers C} {M : Numbers D} {h : C → D} (H : Hom N M h) where
  hom_along : (x d carry : C) {d' carry' : D} (low high : List C) → h d ≡ d' → h carry ≡ carry'
      → map h (along N x d carry low high) ≡ along M (h x) d' carry' (map h low) (map h high)
  unfolding along
  hom_along x d carry [] high e f = ap (λ (c : D). c ∷ []) (hom_mul H e f)
  hom_along x d carry (a ∷ low) [] e f = ap (λ (c : D). c ∷ []) (hom_mul H e f)
  hom_along x d carry (a ∷ low) (b ∷ high) e f =
      let less : h (N.sub b a) ≡ M.sub (h b) (h a) = H.keeps_sub b a in
      ap₂ (λ (c : D) (l : List D). c ∷ l) (hom_add H (hom_add H refl (hom_mul H refl less)) (hom_mul H e f)) (hom_along x d (N.sub b a) low high e less)

  pub hom_line_halving : (vs u v : List C) → map h (line_halving N vs u v) ≡ line_halving M (map h vs) (map h u) (map h v)
  unfolding line_halving
  hom_line_halving vs [] v = ap (λ (c : D). c ∷ []) (hom_get_d H vs 0)
  hom_line_halving vs (x ∷ u) [] = ap (λ (c : D). c ∷ []) (hom_get_d H vs 0)
  hom_line_halving vs (x ∷ u) (y ∷ v) =
      let n : length (map h vs) ≡ length vs = length-map vs h in
      let low : List C = take (length vs / 2) vs in
      let high : List C = drop (length vs / 2) vs in
      rw n
      (hom_along x (N.sub y x) N.𝟘 (line_halving N low u v) (line_halving N high u v) (H.keeps_sub y x) H.keeps_𝟘
      ∙ ap₂ (along M (h x) (M.sub (h y) (h x)) M.𝟘)
      (hom_line_halving low u v ∙ ap (λ (l : List D). line_halving M l (map h u) (map h v)) (map_take h (length vs / 2) vs))
      (hom_line_halving high u v ∙ ap (λ (l : List D). line_halving M l (map h u) (map h v)) (map_drop h (length vs / 2) vs)))

-- ON WORDS
module _ (p : ℕ) (pos : 0 < p) where
  along_below : (x d carry : ℕ) (low high : List ℕ) → All (λ c. c < p) (along (words p) x d carry low high)
  unfolding along
  along_below x d carry [] high = (mod-lt _ pos, tt)
  along_below x d carry (a ∷ low) [] = (mod-lt _ pos, tt)
  along_below x d carry (a ∷ low) (b ∷ high) = (mod-lt _ pos, along_below x d ((words p).sub b a) low high)

  pub line_halving_words : (vs u v : List ℕ) → All (λ w. w < p) vs → All (λ c. c < p) (line_halving (words p) vs u v)
  unfolding line_halving halving
  line_halving_words vs [] v h = (halving_below p pos vs [] h, tt)
  line_halving_words vs (x ∷ u) [] h = (halving_below p pos vs [] h, tt)
  line_halving_words vs (x ∷ u) (y ∷ v) h =
      along_below x ((words p).sub y x) 0 (line_halving (words p) (take (length vs / 2) vs) u v) (line_halving (words p) (drop (length vs / 2) vs) u v)

  word_value : (vs u v : List ℕ) (t : ℕ) → length u ≡ length v → length vs ≡ 2 ^ length u
      → value_at (words p) (line_halving (words p) vs u v) t ≡ value_at (words p) (line_message (words p) vs u v) t
  word_value vs u v t e n =
      residue_injective p pos (value_at (words p) (line_halving (words p) vs u v) t) (value_at (words p) (line_message (words p) vs u v) t)
      (value_below p pos (line_halving (words p) vs u v) t) (value_below p pos (line_message (words p) vs u v) t)
      (hom_value H (line_halving (words p) vs u v) t
      ∙ ap (λ (f : List (Fin p)). value_at (residues p pos) f (ι t)) (hom_line_halving H vs u v)
      ∙ line_halving_value (residues_ring p pos) (map ι vs) (map ι u) (map ι v) (ι t)
      (length-map u ι ∙ e ∙ sym (length-map v ι)) (length-map vs ι ∙ n ∙ ap (λ (k : ℕ). 2 ^ k) (sym (length-map u ι)))
      ∙ sym (line_value (residues_ring p pos) (map ι vs) (map ι u) (map ι v) (ι t))
      ∙ ap (λ (f : List (Fin p)). value_at (residues p pos) f (ι t)) (sym (hom_line_message H vs u v))
      ∙ sym (hom_value H (line_message (words p) vs u v) t))
    where
      ι : ℕ → Fin p
      ι = residue p pos

      H : Hom (words p) (residues p pos) (residue p pos)
      H = residue_hom p pos

pub line_by_halves : LineByHalves
line_by_halves p prime vs u v e enough n h =
    equal_words p prime (line_halving (words p) vs u v) (line_message (words p) vs u v) (range (suc (length u)))
    (size ∙ sym message.0) (line_halving_words p pos vs u v h) message.1
    (all_weaken (range (suc (length u))) (λ x l. omega (arith, l, enough)) (all_range (suc (length u)))) (distinct_range (suc (length u)))
    (omega (arith, size, length_range (suc (length u))))
    (all_always (range (suc (length u))) (λ t. word_value p pos vs u v t e n))
  where
    pos : 0 < p
    pos = omega arith

    size : length (line_halving (words p) vs u v) ≡ suc (length u)
    size = length_line_halving (words p) vs u v e

    message : (length (line_message (words p) vs u v) ≡ suc (length u)) × All (λ c. c < p) (line_message (words p) vs u v)
    message = line_message_words p pos vs u v
