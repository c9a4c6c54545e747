-- `all_below` meets its contract: the call tests each word as the definition does.
use Rattle.std.proofs.Common.{◌≡◌, ℕ, List, [], ◌∷◌, Bool, ◌&&◌, ltb, refl, ap, ◌∙◌, rules, tests}
use Rattle.std.specs.List.{list_all}
use Rattle.std.proofs.lemmas.Iterator.{YieldsList-from_slice}
use Rattle.std.proofs.lemmas.Iterator.Search.{all_from_yields_List}
use Rattle.circuit.specs.Legal.{all_below}
use Rattle.legality.proofs.all_below.Goals as goal

each_below : (p : ℕ) (ws : List ℕ) → list_all (λ w. ltb w p) ws ≡ all_below p ws
unfolding all_below
each_below p [] = refl
each_below p (w ∷ ws) = ap (λ (b : Bool). ltb w p && b) (each_below p ws)

pub returns : goal.returns
returns c =
    all_from_yields_List (λ w. ltb w c.args.p) _ _ c.all.result c.all.ensures.ran (YieldsList-from_slice c.args.words.now cc) (λ x b q k. search (rules, tests))
    ∙ each_below c.args.p c.args.words.now
