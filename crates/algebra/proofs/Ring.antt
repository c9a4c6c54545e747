-- What follows from the laws of a ring, and the set `ring`: `simp ring` multiplies out and sorts.
-- Assumes nothing.
use mathlib.Core.Path.{◌≡◌, sym, ◌∙◌, ap}
use Rattle.algebra.specs.Numbers.{Numbers}
use Rattle.algebra.specs.Ring.{Ring}

module _ {C : Type 0} (N : Numbers C) where
  -- the negative: a name of its own, so that `ring` has one form for each difference
  pub neg : C → C
  neg a = N.sub N.𝟘 a

module _ {C : Type 0} {N : Numbers C} (R : Ring N) where
  open N use {add as ◌⊕◌, sub as ◌⊖◌, mul as ◌⊗◌, 𝟘, 𝟙}

  infixl 60 ◌⊕◌ ◌⊖◌
  infixl 70 ◌⊗◌
  pub add_assoc : (a b c : C) → a ⊕ b ⊕ c ≡ a ⊕ (b ⊕ c)
  add_assoc = R.add_assoc

  pub add_comm : (a b : C) → a ⊕ b ≡ b ⊕ a
  add_comm = R.add_comm

  pub add_zero : (a : C) → a ⊕ 𝟘 ≡ a
  add_zero = R.add_zero

  pub mul_assoc : (a b c : C) → a ⊗ b ⊗ c ≡ a ⊗ (b ⊗ c)
  mul_assoc = R.mul_assoc

  pub mul_comm : (a b : C) → a ⊗ b ≡ b ⊗ a
  mul_comm = R.mul_comm

  pub mul_one : (a : C) → a ⊗ 𝟙 ≡ a
  mul_one = R.mul_one

  pub mul_add : (a b c : C) → a ⊗ (b ⊕ c) ≡ a ⊗ b ⊕ a ⊗ c
  mul_add = R.mul_add

  pub zero_add : (a : C) → 𝟘 ⊕ a ≡ a
  zero_add a = add_comm 𝟘 a ∙ add_zero a

  pub one_mul : (a : C) → 𝟙 ⊗ a ≡ a
  one_mul a = mul_comm 𝟙 a ∙ mul_one a

  pub add_left_comm : (a b c : C) → a ⊕ (b ⊕ c) ≡ b ⊕ (a ⊕ c)
  add_left_comm a b c = sym (add_assoc a b c) ∙ ap (λ (x : C). x ⊕ c) (add_comm a b) ∙ add_assoc b a c

  pub mul_left_comm : (a b c : C) → a ⊗ (b ⊗ c) ≡ b ⊗ (a ⊗ c)
  mul_left_comm a b c = sym (mul_assoc a b c) ∙ ap (λ (x : C). x ⊗ c) (mul_comm a b) ∙ mul_assoc b a c

  pub add_mul : (a b c : C) → (a ⊕ b) ⊗ c ≡ a ⊗ c ⊕ b ⊗ c
  add_mul a b c = rw (mul_comm (a ⊕ b) c, mul_add c a b, mul_comm c a, mul_comm c b)

  pub add_neg : (a : C) → a ⊕ neg N a ≡ 𝟘
  unfolding neg
  add_neg a = add_comm a (𝟘 ⊖ a) ∙ R.sub_add 𝟘 a

  pub neg_add_cancel : (a b : C) → neg N a ⊕ (a ⊕ b) ≡ b
  neg_add_cancel a b = sym (add_assoc (neg N a) a b) ∙ ap (λ (x : C). x ⊕ b) (add_comm (neg N a) a ∙ add_neg a) ∙ zero_add b

  pub add_neg_cancel : (a b : C) → a ⊕ (neg N a ⊕ b) ≡ b
  add_neg_cancel a b = add_left_comm a (neg N a) b ∙ neg_add_cancel a b

  pub add_left_cancel : (a b c : C) → a ⊕ b ≡ a ⊕ c → b ≡ c
  add_left_cancel a b c h = sym (neg_add_cancel a b) ∙ ap (λ (x : C). neg N a ⊕ x) h ∙ neg_add_cancel a c

  pub neg_unique : (a b : C) → a ⊕ b ≡ 𝟘 → b ≡ neg N a
  neg_unique a b h = add_left_cancel a b (neg N a) (h ∙ sym (add_neg a))

  pub sub_neg : (a b : C) → a ⊖ b ≡ a ⊕ neg N b
  sub_neg a b =
      add_left_cancel b (a ⊖ b) (a ⊕ neg N b)
      (add_comm b (a ⊖ b) ∙ R.sub_add a b ∙ sym (add_left_comm b a (neg N b) ∙ ap (λ (x : C). a ⊕ x) (add_neg b) ∙ add_zero a))

  pub neg_neg : (a : C) → neg N (neg N a) ≡ a
  neg_neg a = sym (neg_unique (neg N a) a (add_comm (neg N a) a ∙ add_neg a))

  pub neg_zero : neg N 𝟘 ≡ 𝟘
  neg_zero = sym (neg_unique 𝟘 𝟘 (add_zero 𝟘))

  pub mul_zero : (a : C) → a ⊗ 𝟘 ≡ 𝟘
  mul_zero a =
      add_left_cancel (a ⊗ 𝟘) (a ⊗ 𝟘) 𝟘 (sym (mul_add a 𝟘 𝟘) ∙ ap (λ (x : C). a ⊗ x) (add_zero 𝟘) ∙ sym (add_zero (a ⊗ 𝟘)))

  pub zero_mul : (a : C) → 𝟘 ⊗ a ≡ 𝟘
  zero_mul a = mul_comm 𝟘 a ∙ mul_zero a

  pub mul_neg : (a b : C) → a ⊗ neg N b ≡ neg N (a ⊗ b)
  mul_neg a b =
      neg_unique (a ⊗ b) (a ⊗ neg N b) (sym (mul_add a b (neg N b)) ∙ ap (λ (x : C). a ⊗ x) (add_neg b) ∙ mul_zero a)

  pub neg_mul : (a b : C) → neg N a ⊗ b ≡ neg N (a ⊗ b)
  neg_mul a b = rw (mul_comm (neg N a) b, mul_neg b a, mul_comm b a)

  pub neg_add : (a b : C) → neg N (a ⊕ b) ≡ neg N a ⊕ neg N b
  neg_add a b = sym (neg_unique (a ⊕ b) (neg N a ⊕ neg N b)
      (rw (add_assoc a b (neg N a ⊕ neg N b), add_left_comm b (neg N a) (neg N b), add_neg b, add_zero (neg N a)) (add_neg a)))

pub ruleset ring = (
  sub_neg,
  zero_add,
  one_mul,
  add_left_comm,
  mul_left_comm,
  add_mul,
  neg_neg,
  neg_zero,
  mul_zero,
  zero_mul,
  mul_neg,
  neg_mul,
  neg_add,
  neg_add_cancel,
  add_neg_cancel,
  add_assoc,
  add_comm,
  add_zero,
  add_neg,
  mul_assoc,
  mul_comm,
  mul_one,
  mul_add,
)

module _ {C : Type 0} {N : Numbers C} (R : Ring N) where
  open N use {add as ◌⊕◌, sub as ◌⊖◌, mul as ◌⊗◌, 𝟘, 𝟙}

  infixl 60 ◌⊕◌ ◌⊖◌
  infixl 70 ◌⊗◌
  pub sub_zero : (a b : C) → a ⊖ b ≡ 𝟘 → a ≡ b
  sub_zero a b e = sym (R.sub_add a b) ∙ ap (λ (x : C). x ⊕ b) e ∙ zero_add R b

  pub sub_self : (a b : C) → a ≡ b → a ⊖ b ≡ 𝟘
  sub_self a b e = ap (λ (x : C). x ⊖ b) e ∙ simp ring

  pub add_sub : (a b : C) → a ⊕ b ⊖ b ≡ a
  add_sub a b = sub_neg R (a ⊕ b) b ∙ add_assoc R a b (neg N b) ∙ ap (λ (x : C). a ⊕ x) (add_neg R b) ∙ add_zero R a
