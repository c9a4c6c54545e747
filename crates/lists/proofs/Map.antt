-- `map` along the other operations on lists.
-- Assumes nothing.
use mathlib.Core.Path.{◌≡◌, refl, ap, ap₂}
use mathlib.Core.List.{List, [], ◌∷◌, ◌++◌, map}
use Prim.Native.Nat.{ℕ, zero, suc, ◌<◌}
use native.Mathlib.Nat.{le_of_suc-le-suc}
use native.Mathlib.Omega.{arith}
use lib.ListN.{length, get_or, take, drop}

module _ {A B : Type 0} (f : A → B) where
  pub map_append : (l m : List A) → map f (l ++ m) ≡ map f l ++ map f m
  map_append [] m = refl
  map_append (x ∷ l) m = ap (λ t. f x ∷ t) (map_append l m)

  pub map_take : (n : ℕ) (l : List A) → map f (take n l) ≡ take n (map f l)
  map_take zero l = refl
  map_take (suc n) [] = refl
  map_take (suc n) (x ∷ l) = ap (λ t. f x ∷ t) (map_take n l)

  pub map_drop : (n : ℕ) (l : List A) → map f (drop n l) ≡ drop n (map f l)
  map_drop zero l = refl
  map_drop (suc n) [] = refl
  map_drop (suc n) (x ∷ l) = map_drop n l

  pub map_map : {C : Type 0} (g : B → C) (l : List A) → map g (map f l) ≡ map (λ x. g (f x)) l
  map_map g [] = refl
  map_map g (x ∷ l) = ap (λ t. g (f x) ∷ t) (map_map g l)

  pub map_same : (g : A → B) (l : List A) → ((x : A) → f x ≡ g x) → map f l ≡ map g l
  map_same g [] e = refl
  map_same g (x ∷ l) e = ap₂ (λ (b : B) (t : List B). b ∷ t) (e x) (map_same g l e)

  -- an element that is there, whatever stands for one that isn't
  pub get_d_map_lt : (l : List A) (i : ℕ) (d : B) (e : A) → i < length l → get_or (map f l) i d ≡ f (get_or l i e)
  get_d_map_lt [] i d e h = absurd (omega arith)
  get_d_map_lt (x ∷ l) zero d e h = refl
  get_d_map_lt (x ∷ l) (suc i) d e h = get_d_map_lt l i d e (le_of_suc-le-suc h)

pub map_id : {A : Type 0} (f : A → A) (l : List A) → ((x : A) → f x ≡ x) → map f l ≡ l
map_id f [] e = refl
map_id {A} f (x ∷ l) e = ap₂ (λ (b : A) (t : List A). b ∷ t) (e x) (map_id f l e)
