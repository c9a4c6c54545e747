-- Identities of commutative rings by computation. An expression's normal form is a sorted list of terms (a - b) · m, with a and b
-- numbers and m a sorted list of variables; two expressions whose difference has the empty normal form are equal in every ring.
-- Use: `solve R (x ∷ y ∷ []) (var 0 :+ var 1) (var 1 :+ var 0) tt`, under `unfolding equal`.
-- Assumes nothing.
use Prim.Native.Nat.{ℕ, zero, suc, ◌+◌, ◌*◌, ◌-◌, ◌≤◌, compare, Ordering}
use mathlib.Core.Path.{◌≡◌, refl, sym, ◌∙◌, ap, ap₂, subst}
use mathlib.Core.Bool.{Bool, true, false}
use mathlib.Core.List.{List, [], ◌∷◌}
use lib.Dec.{T, compare_is_eq, leb, eqb, eqb→eq}
use lib.ListN.{get_or}
use native.Mathlib.Nat.{add-suc, mul-suc, add-zero, sub-add_cancel, sub-eq-zero_of_le}
use native.Mathlib.Nat.{mul-zero as n-mul-zero}
use native.Mathlib.Omega.{arith}
use native.Mathlib.Decide.{dec_le}
use Rattle.algebra.specs.Numbers.{Numbers}
use Rattle.algebra.specs.Ring.{Ring}
use Rattle.algebra.proofs.Ring.{ring, neg, mul_zero, zero_mul, zero_add, one_mul, sub_zero, add_sub}

pub data Expr : Type 0 where
  var : ℕ → Expr
  𝟎 𝟏 : Expr
  ◌:+◌ ◌:-◌ ◌:*◌ : Expr → Expr → Expr

infixl 60 ◌:+◌ ◌:-◌
infixl 70 ◌:*◌
pub data Term : Type 0 where
  term : ℕ → ℕ → List ℕ → Term

cmp_m : List ℕ → List ℕ → Ordering
cmp_m [] [] = Ordering.eq
cmp_m [] (j ∷ n) = Ordering.lt
cmp_m (i ∷ m) [] = Ordering.gt
cmp_m (i ∷ m) (j ∷ n) = elim (compare i j) [ Ordering.lt ↦ Ordering.lt | Ordering.eq ↦ cmp_m m n | Ordering.gt ↦ Ordering.gt ]

ins_v : ℕ → List ℕ → List ℕ
ins_v i [] = i ∷ []
ins_v i (j ∷ m) = elim (leb i j) [ true ↦ i ∷ j ∷ m | false ↦ j ∷ ins_v i m ]

mul_m : List ℕ → List ℕ → List ℕ
mul_m [] n = n
mul_m (i ∷ m) n = ins_v i (mul_m m n)

ins : ℕ → ℕ → List ℕ → List Term → List Term
ins a b m [] = term a b m ∷ []
ins a b m (term c d n ∷ p) = elim (cmp_m m n) [ Ordering.lt ↦ term a b m ∷ term c d n ∷ p | Ordering.eq ↦ term (a + c) (b + d) n ∷ p | Ordering.gt ↦ term c d n ∷ ins a b m p ]

add_p : List Term → List Term → List Term
add_p [] q = q
add_p (term a b m ∷ p) q = ins a b m (add_p p q)

mul_t : ℕ → ℕ → List ℕ → List Term → List Term
mul_t a b m [] = []
mul_t a b m (term c d n ∷ p) = ins (a * c + b * d) (a * d + b * c) (mul_m m n) (mul_t a b m p)

mul_p : List Term → List Term → List Term
mul_p [] q = []
mul_p (term a b m ∷ p) q = add_p (mul_t a b m q) (mul_p p q)

neg_p : List Term → List Term
neg_p [] = []
neg_p (term a b m ∷ p) = term b a m ∷ neg_p p

norm : Expr → List Term
norm (var i) = term 1 0 (i ∷ []) ∷ []
norm 𝟎 = []
norm 𝟏 = term 1 0 [] ∷ []
norm (e :+ f) = add_p (norm e) (norm f)
norm (e :* f) = mul_p (norm e) (norm f)
norm (e :- f) = add_p (norm e) (neg_p (norm f))

canon : List Term → List Term
canon [] = []
canon (term a b m ∷ p) = elim (eqb a b) [ true ↦ canon p | false ↦ term (a - b) (b - a) m ∷ canon p ]

is_nil : List Term → Bool
is_nil [] = true
is_nil (t ∷ p) = false

unfoldable pub equal : Expr → Expr → Bool
unfolding cmp_m ins_v mul_m ins add_p mul_t mul_p neg_p norm canon is_nil
equal e f = is_nil (canon (norm (e :- f)))

cons_path : {i j : ℕ} {m n : List ℕ} → i ≡ j → m ≡ n → i ∷ m ≡ j ∷ n
cons_path p q = cc

is_eq : (i j : ℕ) (o : Ordering) → compare i j ≡ o → T (compare_is_eq o) → i ≡ j
is_eq i j o e t = eqb→eq i j (subst (λ (o : Ordering). T (compare_is_eq o)) (sym e) t)

cmp_m_eq : (m n : List ℕ) → T (compare_is_eq (cmp_m m n)) → m ≡ n
unfolding cmp_m
cmp_m_eq [] [] t = refl
cmp_m_eq [] (j ∷ n) t = absurd t
cmp_m_eq (i ∷ m) [] t = absurd t
cmp_m_eq (i ∷ m) (j ∷ n) t = go (cmp_m_eq m n) (compare i j) refl t
  where
    go : (T (compare_is_eq (cmp_m m n)) → m ≡ n) → (o : Ordering) → compare i j ≡ o
        → T (compare_is_eq (elim o [ Ordering.lt ↦ Ordering.lt | Ordering.eq ↦ cmp_m m n | Ordering.gt ↦ Ordering.gt ])) → i ∷ m ≡ j ∷ n
    go h Ordering.lt e t = absurd t
    go h Ordering.eq e t = cons_path (is_eq i j Ordering.eq e tt) (h t)
    go h Ordering.gt e t = absurd t

module _ {C : Type 0} {N : Numbers C} (R : Ring N) where
  open N use {add as ◌⊕◌, sub as ◌⊖◌, mul as ◌⊗◌, 𝟘, 𝟙}

  infixl 60 ◌⊕◌ ◌⊖◌
  infixl 70 ◌⊗◌
  nat : ℕ → C
  nat zero = 𝟘
  nat (suc n) = nat n ⊕ 𝟙

  nat_add : (a b : ℕ) → nat (a + b) ≡ nat a ⊕ nat b
  unfolding nat
  nat_add a zero = rw (add-zero a) (sym (R.add_zero (nat a)))
  nat_add a (suc b) = rw (add-suc a b) (ap (λ (x : C). x ⊕ 𝟙) (nat_add a b) ∙ R.add_assoc (nat a) (nat b) 𝟙)

  step : (x y : C) → x ⊗ y ⊕ x ≡ x ⊗ (y ⊕ 𝟙)
  step x y = simp ring

  nat_mul : (a b : ℕ) → nat (a * b) ≡ nat a ⊗ nat b
  unfolding nat
  nat_mul a zero = rw (n-mul-zero a) (sym (mul_zero R (nat a)))
  nat_mul a (suc b) = rw (mul-suc a b, nat_add (a * b) a, nat_mul a b) (step (nat a) (nat b))

  nat_zero : nat 0 ≡ 𝟘
  unfolding nat
  nat_zero = refl

  abbrev co : ℕ → ℕ → C
  co a b = nat a ⊖ nat b

  co_add : (a b c d : ℕ) → co (a + c) (b + d) ≡ co a b ⊕ co c d
  co_add a b c d = simp (co, nat_add, ring)

  co_mul : (a b c d : ℕ) → co (a * c + b * d) (a * d + b * c) ≡ co a b ⊗ co c d
  co_mul a b c d = simp (co, nat_add, nat_mul, ring)

  co_flip : (a b : ℕ) → co b a ≡ neg N (co a b)
  co_flip a b = simp (co, ring)

  co_canon : (a b : ℕ) → co (a - b) (b - a) ≡ co a b
  co_canon a b = go (dec_le a b)
    where
      less : (y x : C) → 𝟘 ⊖ x ≡ y ⊖ (x ⊕ y)
      less y x = simp ring

      plain : (x : C) → x ⊖ 𝟘 ≡ x
      plain x = simp ring

      go : Dec (a ≤ b) → co (a - b) (b - a) ≡ co a b
      go (yes h) =
          rw (sub-eq-zero_of_le h)
          (ap (λ (x : C). x ⊖ nat (b - a)) nat_zero ∙ less (nat a) (nat (b - a)) ∙ ap (λ (x : C). nat a ⊖ x) (sym (nat_add (b - a) a) ∙ ap nat (sub-add_cancel h)))
      go (no h) =
          let h' : b ≤ a = omega arith in
          rw (sub-eq-zero_of_le h')
          (ap (λ (x : C). nat (a - b) ⊖ x) nat_zero ∙ plain (nat (a - b)) ∙ sym (add_sub R (nat (a - b)) (nat b))
          ∙ ap (λ (x : C). x ⊖ nat b) (sym (nat_add (a - b) b) ∙ ap nat (sub-add_cancel h')))

  module _ (ρ : List C) where
    abbrev pub ⟦◌⟧ : Expr → C
    ⟦ var i ⟧ = get_or ρ i 𝟘
    ⟦ 𝟎 ⟧ = 𝟘
    ⟦ 𝟏 ⟧ = 𝟙
    ⟦ e :+ f ⟧ = ⟦ e ⟧ ⊕ ⟦ f ⟧
    ⟦ e :* f ⟧ = ⟦ e ⟧ ⊗ ⟦ f ⟧
    ⟦ e :- f ⟧ = ⟦ e ⟧ ⊖ ⟦ f ⟧

    ev_m : List ℕ → C
    ev_m [] = 𝟙
    ev_m (i ∷ m) = get_or ρ i 𝟘 ⊗ ev_m m

    ev_p : List Term → C
    ev_p [] = 𝟘
    ev_p (term a b m ∷ p) = co a b ⊗ ev_m m ⊕ ev_p p

    ins_v_ok : (i : ℕ) (m : List ℕ) → ev_m (ins_v i m) ≡ get_or ρ i 𝟘 ⊗ ev_m m
    unfolding ins_v ev_m
    ins_v_ok i [] = refl
    ins_v_ok i (j ∷ m) = go (ins_v_ok i m) (leb i j)
      where
        go : ev_m (ins_v i m) ≡ get_or ρ i 𝟘 ⊗ ev_m m → (b : Bool)
            → ev_m (elim b [ true ↦ i ∷ j ∷ m | false ↦ j ∷ ins_v i m ]) ≡ get_or ρ i 𝟘 ⊗ (get_or ρ j 𝟘 ⊗ ev_m m)
        go h true = refl
        go h false = ap (λ (x : C). get_or ρ j 𝟘 ⊗ x) h ∙ swap_mul (get_or ρ j 𝟘) (get_or ρ i 𝟘) (ev_m m)
          where
            swap_mul : (x y z : C) → x ⊗ (y ⊗ z) ≡ y ⊗ (x ⊗ z)
            swap_mul x y z = simp ring

    mul_m_ok : (m n : List ℕ) → ev_m (mul_m m n) ≡ ev_m m ⊗ ev_m n
    unfolding mul_m ev_m
    mul_m_ok [] n = sym (one_mul R (ev_m n))
    mul_m_ok (i ∷ m) n = ins_v_ok i (mul_m m n) ∙ ap (λ (x : C). get_or ρ i 𝟘 ⊗ x) (mul_m_ok m n) ∙ sym (R.mul_assoc (get_or ρ i 𝟘) (ev_m m) (ev_m n))

    same : (x y m p : C) → (x ⊕ y) ⊗ m ⊕ p ≡ x ⊗ m ⊕ (y ⊗ m ⊕ p)
    same x y m p = simp ring

    ins_ok : (a b : ℕ) (m : List ℕ) (p : List Term) → ev_p (ins a b m p) ≡ co a b ⊗ ev_m m ⊕ ev_p p
    unfolding ins ev_p
    ins_ok a b m [] = refl
    ins_ok a b m (term c d n ∷ p) = go (ins_ok a b m p) (cmp_m m n) refl
      where
        go : ev_p (ins a b m p) ≡ co a b ⊗ ev_m m ⊕ ev_p p → (o : Ordering) → cmp_m m n ≡ o
            → ev_p (elim o [ Ordering.lt ↦ term a b m ∷ term c d n ∷ p | Ordering.eq ↦ term (a + c) (b + d) n ∷ p | Ordering.gt ↦ term c d n ∷ ins a b m p ])
            ≡ co a b ⊗ ev_m m ⊕ (co c d ⊗ ev_m n ⊕ ev_p p)
        go h Ordering.lt e = refl
        go h Ordering.eq e =
            ap (λ (x : C). x ⊗ ev_m n ⊕ ev_p p) (co_add a b c d) ∙ same (co a b) (co c d) (ev_m n) (ev_p p)
            ∙ ap (λ (l : List ℕ). co a b ⊗ ev_m l ⊕ (co c d ⊗ ev_m n ⊕ ev_p p)) (sym (cmp_m_eq m n (subst (λ (o : Ordering). T (compare_is_eq o)) (sym e) tt)))
        go h Ordering.gt e = ap (λ (x : C). co c d ⊗ ev_m n ⊕ x) h ∙ swap_add (co c d ⊗ ev_m n) (co a b ⊗ ev_m m) (ev_p p)
          where
            swap_add : (x y z : C) → x ⊕ (y ⊕ z) ≡ y ⊕ (x ⊕ z)
            swap_add x y z = simp ring

    add_p_ok : (p q : List Term) → ev_p (add_p p q) ≡ ev_p p ⊕ ev_p q
    unfolding add_p ev_p
    add_p_ok [] q = sym (zero_add R (ev_p q))
    add_p_ok (term a b m ∷ p) q = ins_ok a b m (add_p p q) ∙ ap (λ (x : C). co a b ⊗ ev_m m ⊕ x) (add_p_ok p q) ∙ sym (R.add_assoc (co a b ⊗ ev_m m) (ev_p p) (ev_p q))

    mul_t_ok : (a b : ℕ) (m : List ℕ) (p : List Term) → ev_p (mul_t a b m p) ≡ co a b ⊗ ev_m m ⊗ ev_p p
    unfolding mul_t ev_p
    mul_t_ok a b m [] = sym (mul_zero R (co a b ⊗ ev_m m))
    mul_t_ok a b m (term c d n ∷ p) =
        ins_ok (a * c + b * d) (a * d + b * c) (mul_m m n) (mul_t a b m p)
        ∙ ap₂ (λ (x y : C). x ⊗ y ⊕ ev_p (mul_t a b m p)) (co_mul a b c d) (mul_m_ok m n)
        ∙ ap (λ (x : C). co a b ⊗ co c d ⊗ (ev_m m ⊗ ev_m n) ⊕ x) (mul_t_ok a b m p)
        ∙ shuffle (co a b) (co c d) (ev_m m) (ev_m n) (ev_p p)
      where
        shuffle : (x y m n p : C) → x ⊗ y ⊗ (m ⊗ n) ⊕ x ⊗ m ⊗ p ≡ x ⊗ m ⊗ (y ⊗ n ⊕ p)
        shuffle x y m n p = simp ring

    mul_p_ok : (p q : List Term) → ev_p (mul_p p q) ≡ ev_p p ⊗ ev_p q
    unfolding mul_p ev_p
    mul_p_ok [] q = sym (zero_mul R (ev_p q))
    mul_p_ok (term a b m ∷ p) q =
        add_p_ok (mul_t a b m q) (mul_p p q) ∙ ap₂ (λ (x y : C). x ⊕ y) (mul_t_ok a b m q) (mul_p_ok p q)
        ∙ join (co a b ⊗ ev_m m) (ev_p p) (ev_p q)
      where
        join : (x p q : C) → x ⊗ q ⊕ p ⊗ q ≡ (x ⊕ p) ⊗ q
        join x p q = simp ring

    neg_p_ok : (p : List Term) → ev_p (neg_p p) ≡ neg N (ev_p p)
    unfolding neg_p ev_p
    neg_p_ok [] = none
      where
        none : 𝟘 ≡ neg N 𝟘
        none = simp ring
    neg_p_ok (term a b m ∷ p) = ap₂ (λ (x y : C). x ⊗ ev_m m ⊕ y) (co_flip a b) (neg_p_ok p) ∙ out (co a b) (ev_m m) (ev_p p)
      where
        out : (x m p : C) → neg N x ⊗ m ⊕ neg N p ≡ neg N (x ⊗ m ⊕ p)
        out x m p = simp ring

    norm_ok : (e : Expr) → ev_p (norm e) ≡ ⟦ e ⟧
    unfolding norm ev_p ev_m nat
    norm_ok (var i) = single (get_or ρ i 𝟘)
      where
        single : (x : C) → (𝟘 ⊕ 𝟙 ⊖ 𝟘) ⊗ (x ⊗ 𝟙) ⊕ 𝟘 ≡ x
        single x = simp ring
    norm_ok 𝟎 = refl
    norm_ok 𝟏 = unit
      where
        unit : (𝟘 ⊕ 𝟙 ⊖ 𝟘) ⊗ 𝟙 ⊕ 𝟘 ≡ 𝟙
        unit = simp ring
    norm_ok (e :+ f) = add_p_ok (norm e) (norm f) ∙ ap₂ (λ (x y : C). x ⊕ y) (norm_ok e) (norm_ok f)
    norm_ok (e :* f) = mul_p_ok (norm e) (norm f) ∙ ap₂ (λ (x y : C). x ⊗ y) (norm_ok e) (norm_ok f)
    norm_ok (e :- f) =
        add_p_ok (norm e) (neg_p (norm f)) ∙ ap₂ (λ (x y : C). x ⊕ y) (norm_ok e) (neg_p_ok (norm f) ∙ ap (neg N) (norm_ok f)) ∙ back ⟦ e ⟧ ⟦ f ⟧
      where
        back : (x y : C) → x ⊕ neg N y ≡ x ⊖ y
        back x y = simp ring

    canon_ok : (p : List Term) → ev_p (canon p) ≡ ev_p p
    unfolding canon ev_p
    canon_ok [] = refl
    canon_ok (term a b m ∷ p) = go (canon_ok p) (eqb a b) refl
      where
        go : ev_p (canon p) ≡ ev_p p → (t : Bool) → eqb a b ≡ t → ev_p (elim t [ true ↦ canon p | false ↦ term (a - b) (b - a) m ∷ canon p ]) ≡ co a b ⊗ ev_m m ⊕ ev_p p
        go h true e = h ∙ sym (ap (λ (n : ℕ). (nat n ⊖ nat b) ⊗ ev_m m ⊕ ev_p p) (eqb→eq a b (subst T (sym e) tt)) ∙ gone (nat b) (ev_m m) (ev_p p))
          where
            gone : (x m p : C) → (x ⊖ x) ⊗ m ⊕ p ≡ p
            gone x m p = simp ring
        go h false e = ap₂ (λ (x y : C). x ⊗ ev_m m ⊕ y) (co_canon a b) h

    nil_ok : (p : List Term) → T (is_nil p) → ev_p p ≡ 𝟘
    unfolding is_nil ev_p
    nil_ok [] t = refl
    nil_ok (x ∷ p) t = absurd t

    pub solve : (e f : Expr) → T (equal e f) → ⟦ e ⟧ ≡ ⟦ f ⟧
    unfolding equal
    solve e f h =
        sub_zero R ⟦ e ⟧ ⟦ f ⟧ (sym (canon_ok (norm (e :- f)) ∙ norm_ok (e :- f)) ∙ nil_ok (canon (norm (e :- f))) h)
