-- Laws of sums and counts.
-- Assumes nothing.
use mathlib.Core.Path.{◌≡◌, refl, sym, ap, ap₂, ◌∙◌}
use mathlib.Core.Logic.{◌≢◌}
use mathlib.Core.Bool.{Bool, true, false, cond, not, ◌||◌}
use mathlib.Core.List.{List, [], ◌∷◌, ◌++◌, map, flat_map}
use Prim.Native.Nat.{ℕ, zero, suc, ◌+◌, ◌*◌, ◌≤◌, ◌<◌, zero-le}
use native.Mathlib.Nat.{le_refl, le_step, le_of_eq, add-le-add, zero-mul, zero-add, add-zero}
use native.Mathlib.Numerals.{add-one}
use native.Mathlib.Omega.{arith}
use native.Mathlib.Decide.{ℕ_discrete}
use lib.Dec.{eqb}
use borrow.Author.Tests.{eq-eqb, ne_eqb}
use lib.ListN.{length, length-append, take, get_or}
use lib.Seq.{take-suc}
use Rattle.lists.specs.Each.{All, Distinct}
use Rattle.lists.specs.Count.{sum, one_if, count, range}
use Rattle.lists.proofs.Each.{all_weaken, all_append, distinct_snoc}
use Rattle.lists.proofs.Map.{map_append, map_map}

-- SUMS
pub sum_nil : sum [] ≡ 0
unfolding sum
sum_nil = refl

pub sum_cons : (n : ℕ) (l : List ℕ) → sum (n ∷ l) ≡ n + sum l
unfolding sum
sum_cons n l = refl

-- after some, those of the elements left make n of them: the first's are there, and pass
module _ {A : Type 0} (f : A → ℕ) (x : A) (l : List A) (some n : ℕ) (e : some + sum (map f (x ∷ l)) ≡ n) where
  pub sum_there : some + f x ≤ n
  unfolding sum
  sum_there = omega arith

  pub sum_passed : some + f x + sum (map f l) ≡ n
  unfolding sum
  sum_passed = omega arith

pub sum_append : (l m : List ℕ) → sum (l ++ m) ≡ sum l + sum m
unfolding sum
sum_append [] m = sym (zero-add _)
sum_append (n ∷ l) m = let ih = sum_append l m in omega arith

pub sum_take : {A : Type 0} (f : A → ℕ) (l : List A) (d : A) (i : ℕ) → i < length l → sum (map f (take (suc i) l)) ≡ sum (map f (take i l)) + f (get_or l i d)
sum_take {A} f l d i h =
    ap (λ (m : List A). sum (map f m)) (take-suc l i d h)
    ∙ ap sum (map_append f (take i l) (get_or l i d ∷ []))
    ∙ sum_append (map f (take i l)) (f (get_or l i d) ∷ [])
    ∙ ap (λ (n : ℕ). sum (map f (take i l)) + n) (sum_cons (f (get_or l i d)) [] ∙ rw sum_nil (add-zero (f (get_or l i d))))

module _ {A : Type 0} where
  pub sum_same : (P : A → Type 0) (f g : A → ℕ) → ((x : A) → P x → f x ≡ g x) → (l : List A) → All P l → sum (map f l) ≡ sum (map g l)
  unfolding sum
  sum_same P f g e [] h = refl
  sum_same P f g e (x ∷ l) h = ap₂ (λ (a b : ℕ). a + b) (e x h.0) (sum_same P f g e l h.1)

  pub sum_le : (P : A → Type 0) (f g : A → ℕ) → ((x : A) → P x → f x ≤ g x) → (l : List A) → All P l → sum (map f l) ≤ sum (map g l)
  unfolding sum
  sum_le P f g e [] h = le_refl 0
  sum_le P f g e (x ∷ l) h = add-le-add (e x h.0) (sum_le P f g e l h.1)

  pub sum_add : (f g : A → ℕ) (l : List A) → sum (map (λ x. f x + g x) l) ≡ sum (map f l) + sum (map g l)
  unfolding sum
  sum_add f g [] = refl
  sum_add f g (x ∷ l) = let ih = sum_add f g l in omega arith

  pub sum_scale : (a : ℕ) (f : A → ℕ) (l : List A) → sum (map (λ x. f x * a) l) ≡ sum (map f l) * a
  unfolding sum
  sum_scale a f [] = sym (zero-mul a)
  sum_scale a f (x ∷ l) = let ih = sum_scale a f l in omega arith

  pub sum_const : (a : ℕ) (l : List A) → sum (map (λ x. a) l) ≡ length l * a
  unfolding sum
  sum_const a [] = sym (zero-mul a)
  sum_const a (x ∷ l) = let ih = sum_const a l in omega arith

pub sum_flat_map : {A B : Type 0} (g : A → List B) (f : B → ℕ) (l : List A) → sum (map f (flat_map g l)) ≡ sum (map (λ x. sum (map f (g x))) l)
unfolding flat_map sum
sum_flat_map g f [] = refl
sum_flat_map g f (x ∷ l) =
    ap sum (map_append f (g x) (flat_map g l)) ∙ sum_append (map f (g x)) (map f (flat_map g l))
    ∙ ap (λ (n : ℕ). sum (map f (g x)) + n) (sum_flat_map g f l)

-- COUNTS
one_if_le : (a b : Bool) → (a ≡ true → b ≡ true) → one_if a ≤ one_if b
one_if_le true b h = le_of_eq (sym (ap one_if (h refl)))
one_if_le false b h = zero-le

one_if_or : (a b : Bool) → one_if (a || b) ≤ one_if a + one_if b
one_if_or true true = omega arith
one_if_or true false = omega arith
one_if_or false true = omega arith
one_if_or false false = omega arith

module _ {A : Type 0} where
  pub count_sum : (f : A → Bool) (l : List A) → count f l ≡ sum (map (λ x. one_if (f x)) l)
  unfolding count
  count_sum f l = refl

  pub count_nil : (f : A → Bool) → count f [] ≡ 0
  unfolding count sum
  count_nil f = refl

  pub count_cons : (f : A → Bool) (x : A) (l : List A) → count f (x ∷ l) ≡ one_if (f x) + count f l
  unfolding count sum
  count_cons f x l = refl

  pub count_append : (f : A → Bool) (l m : List A) → count f (l ++ m) ≡ count f l + count f m
  unfolding count
  count_append f l m = ap sum (map_append (λ x. one_if (f x)) l m) ∙ sum_append (map (λ x. one_if (f x)) l) (map (λ x. one_if (f x)) m)

  pub count_map : {B : Type 0} (g : A → B) (f : B → Bool) (l : List A) → count f (map g l) ≡ count (λ x. f (g x)) l
  unfolding count
  count_map g f l = ap sum (map_map g (λ y. one_if (f y)) l)

  pub count_same : (P : A → Type 0) (f g : A → Bool) → ((x : A) → P x → f x ≡ g x) → (l : List A) → All P l → count f l ≡ count g l
  unfolding count
  count_same P f g e l h = sum_same P (λ x. one_if (f x)) (λ x. one_if (g x)) (λ x q. ap one_if (e x q)) l h

  pub count_le : (P : A → Type 0) (f g : A → Bool) → ((x : A) → P x → f x ≡ true → g x ≡ true) → (l : List A) → All P l → count f l ≤ count g l
  unfolding count
  count_le P f g e l h = sum_le P (λ x. one_if (f x)) (λ x. one_if (g x)) (λ x q. one_if_le (f x) (g x) (e x q)) l h

  pub count_or : (f g : A → Bool) (l : List A) → count (λ x. f x || g x) l ≤ count f l + count g l
  unfolding count sum
  count_or f g [] = le_refl 0
  count_or f g (x ∷ l) = let ih = count_or f g l in let o = one_if_or (f x) (g x) in omega arith

  pub count_none : (l : List A) → count (λ x. false) l ≡ 0
  unfolding count sum
  count_none [] = refl
  count_none (x ∷ l) = let ih = count_none l in omega arith

  -- what passes and what does not
  pub count_not : (f : A → Bool) (l : List A) → count (λ x. not (f x)) l + count f l ≡ length l
  unfolding count sum
  count_not f [] = refl
  count_not f (x ∷ l) = go (f x) (count_not f l)
    where
      go : (b : Bool) → count (λ y. not (f y)) l + count f l ≡ length l
          → one_if (not b) + count (λ y. not (f y)) l + (one_if b + count f l) ≡ suc (length l)
      go true ih = omega arith
      go false ih = omega arith

  pub count_every : (l : List A) → count (λ x. true) l ≡ length l
  unfolding count sum
  count_every [] = refl
  count_every (x ∷ l) = let ih = count_every l in omega arith

  -- the elements that pass
  pub passed : (A → Bool) → List A → List A
  passed f [] = []
  passed f (x ∷ l) = cond (f x) (x ∷ passed f l) (passed f l)

  pub length_passed : (f : A → Bool) (l : List A) → length (passed f l) ≡ count f l
  unfolding passed count sum
  length_passed f [] = refl
  length_passed f (x ∷ l) = go (f x) (length_passed f l)
    where
      go : (b : Bool) → length (passed f l) ≡ count f l
          → length (cond b (x ∷ passed f l) (passed f l)) ≡ one_if b + count f l
      go true e = omega arith
      go false e = omega arith

  pub all_passed : (P : A → Type 0) (f : A → Bool) (l : List A) → All P l → All (λ x. P x × (f x ≡ true)) (passed f l)
  unfolding passed
  all_passed P f [] h = tt
  all_passed P f (x ∷ l) h = go (f x) refl (all_passed P f l h.1)
    where
      go : (b : Bool) → f x ≡ b → All (λ y. P y × (f y ≡ true)) (passed f l)
          → All (λ y. P y × (f y ≡ true)) (cond b (x ∷ passed f l) (passed f l))
      go true e r = ((h.0, e), r)
      go false e r = r

  pub distinct_passed : (f : A → Bool) (l : List A) → Distinct l → Distinct (passed f l)
  unfolding passed
  distinct_passed f [] d = tt
  distinct_passed f (x ∷ l) d = go (f x) (distinct_passed f l d.1)
    where
      go : (b : Bool) → Distinct (passed f l) → Distinct (cond b (x ∷ passed f l) (passed f l))
      go true r = (all_weaken (passed f l) (λ y g. g.0) (all_passed (λ y. y ≢ x) f l d.0), r)
      go false r = r

pub count_flat_map : {A B : Type 0} (g : A → List B) (f : B → Bool) (l : List A) → count f (flat_map g l) ≡ sum (map (λ x. count f (g x)) l)
unfolding count
count_flat_map g f l = sum_flat_map g (λ y. one_if (f y)) l

-- THE NUMBERS BELOW A BOUND
pub length_range : (n : ℕ) → length (range n) ≡ n
unfolding range
length_range zero = refl
length_range (suc n) = length-append (range n) (n ∷ []) ∙ ap (λ (k : ℕ). k + 1) (length_range n) ∙ add-one n

pub all_range : (n : ℕ) → All (λ x. x < n) (range n)
unfolding range
all_range zero = tt
all_range (suc n) = all_append (λ x. x < suc n) (range n) (n ∷ []) (all_weaken (range n) (λ x h. le_step h) (all_range n)) (le_refl (suc n), tt)

pub distinct_range : (n : ℕ) → Distinct (range n)
unfolding range
distinct_range zero = tt
distinct_range (suc n) = distinct_snoc (range n) n (distinct_range n) (all_weaken (range n) (λ x h e. absurd (omega (arith, h, e))) (all_range n))

-- a number stands once below each greater bound, and not at all below the others
count_last : (c n : ℕ) → count (eqb c) (range (suc n)) ≡ count (eqb c) (range n) + one_if (eqb c n)
unfolding range count sum
count_last c n = count_append (eqb c) (range n) (n ∷ []) ∙ ap (λ (k : ℕ). count (eqb c) (range n) + k) (add-zero (one_if (eqb c n)))

count_above : (c n : ℕ) → n ≤ c → count (eqb c) (range n) ≡ 0
unfolding range count sum
count_above c zero h = refl
count_above c (suc n) h =
    let other : eqb c n ≡ false = ne_eqb c n (λ e. omega arith) in
    count_last c n ∙ omega (arith, count_above c n (omega arith), ap one_if other)

pub count_below : (c n : ℕ) → c < n → count (eqb c) (range n) ≡ 1
count_below c zero h = absurd (omega arith)
count_below c (suc n) h = go (ℕ_discrete c n) (λ l. count_below c n l)
  where
    go : Dec (c ≡ n) → (c < n → count (eqb c) (range n) ≡ 1) → count (eqb c) (range (suc n)) ≡ 1
    go (yes e) ih = count_last c n ∙ omega (arith, count_above c n (omega arith), ap one_if (eq-eqb c n e))
    go (no e) ih = count_last c n ∙ omega (arith, ih (omega arith), ap one_if (ne_eqb c n e))
