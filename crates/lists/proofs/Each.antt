-- Laws of `All` and `Distinct`.
-- Assumes nothing.
use mathlib.Core.Path.{◌≡◌, sym}
use mathlib.Core.Logic.{◌≢◌}
use mathlib.Core.List.{List, [], ◌∷◌, ◌++◌, map, flatten, flat_map}
use Prim.Native.Nat.{ℕ, zero, suc, ◌<◌}
use native.Mathlib.Nat.{not-suc-le-zero, le_of_suc-le-suc}
use lib.ListN.{length, take, drop, get_or}
use Rattle.lists.specs.Each.{All, Distinct}

module _ {A : Type 0} where
  pub all_always : {P : A → Type 0} (l : List A) → ((x : A) → P x) → All P l
  all_always [] f = tt
  all_always (x ∷ l) f = (f x, all_always l f)

  pub all_weaken : {P Q : A → Type 0} (l : List A) → ((x : A) → P x → Q x) → All P l → All Q l
  all_weaken [] f h = tt
  all_weaken (x ∷ l) f h = (f x h.0, all_weaken l f h.1)

  pub all_at : (P : A → Type 0) (l : List A) (i : ℕ) (d : A) → i < length l → All P l → P (get_or l i d)
  all_at P [] i d h a = absurd (not-suc-le-zero h)
  all_at P (x ∷ l) zero d h a = a.0
  all_at P (x ∷ l) (suc i) d h a = all_at P l i d (le_of_suc-le-suc h) a.1

  pub all_both : (P Q : A → Type 0) (l : List A) → All P l → All Q l → All (λ x. P x × Q x) l
  all_both P Q [] g h = tt
  all_both P Q (x ∷ l) g h = ((g.0, h.0), all_both P Q l g.1 h.1)

  pub all_append : (P : A → Type 0) (l m : List A) → All P l → All P m → All P (l ++ m)
  all_append P [] m g h = h
  all_append P (x ∷ l) m g h = (g.0, all_append P l m g.1 h)

  pub all_take : (P : A → Type 0) (n : ℕ) (l : List A) → All P l → All P (take n l)
  all_take P zero l h = tt
  all_take P (suc n) [] h = tt
  all_take P (suc n) (x ∷ l) h = (h.0, all_take P n l h.1)

  pub all_drop : (P : A → Type 0) (n : ℕ) (l : List A) → All P l → All P (drop n l)
  all_drop P zero l h = h
  all_drop P (suc n) [] h = tt
  all_drop P (suc n) (x ∷ l) h = all_drop P n l h.1

  pub all_flatten : (P : A → Type 0) (ls : List (List A)) → All (λ l. All P l) ls → All P (flatten ls)
  unfolding flatten
  all_flatten P [] h = tt
  all_flatten P (l ∷ ls) h = all_append P l (flatten ls) h.0 (all_flatten P ls h.1)

  pub all_map : {B : Type 0} (P : B → Type 0) (f : A → B) (l : List A) → All (λ x. P (f x)) l → All P (map f l)
  all_map P f [] h = tt
  all_map P f (x ∷ l) h = (h.0, all_map P f l h.1)

  -- one more element at the end
  pub distinct_snoc : (l : List A) (y : A) → Distinct l → All (λ x. x ≢ y) l → Distinct (l ++ (y ∷ []))
  distinct_snoc [] y d h = (tt, tt)
  distinct_snoc (x ∷ l) y d h =
      (all_append (λ z. z ≢ x) l (y ∷ []) d.0 (λ e. h.0 (sym e), tt), distinct_snoc l y d.1 h.1)

  -- under a map that keeps the elements of the list apart
  pub distinct_map : {B : Type 0} (P : A → Type 0) (f : A → B) → ((x y : A) → P x → P y → f x ≡ f y → x ≡ y)
      → (l : List A) → All P l → Distinct l → Distinct (map f l)
  distinct_map P f inj [] h d = tt
  distinct_map P f inj (x ∷ l) h d = (
    all_map (λ z. z ≢ f x) f l
        (all_weaken l (λ y g e. g.1 (inj y x g.0 h.0 e)) (all_both P (λ y. y ≢ x) l h.1 d.0)),
    distinct_map P f inj l h.1 d.1,
  )

pub all_flat_map : {A B : Type 0} (P : B → Type 0) (g : A → List B) (l : List A) → All (λ x. All P (g x)) l → All P (flat_map g l)
unfolding flat_map
all_flat_map P g [] h = tt
all_flat_map P g (x ∷ l) h = all_append P (g x) (flat_map g l) h.0 (all_flat_map P g l h.1)
