-- The session and the whole check end alike, and no answer looks ahead.
-- Assumes nothing.
use Prim.Native.Nat.{ℕ, zero, suc, ◌<◌}
use mathlib.Core.Path.{◌≡◌, refl, sym, ap, ap₂, ◌∙◌}
use mathlib.Core.Bool.{Bool, true, false, cond, false≢true}
use mathlib.Core.List.{List, [], ◌∷◌, ◌++◌, map, flatten, append-nil, append_assoc}
use native.Mathlib.Nat.{suc_inj, suc-ne-zero, not-suc-le-zero, le_of_suc-le-suc}
use native.Mathlib.Numerals.{add-one}
use native.Mathlib.Omega.{arith}
use lib.ListN.{length, length-append, length-drop, take, drop, get_or, take-append-drop}
use lib.Seq.{take_at, drop_at, get_or_at, length-take-le}
use Rattle.lists.specs.Each.{All}
use Rattle.lists.specs.Count.{sum}
use Rattle.lists.proofs.Each.{all_take, all_drop}
use Rattle.lists.proofs.Count.{sum_nil, sum_cons}
use Rattle.refusal.specs.Order.{first}
use Rattle.walk.specs.Game.{Game, Comparison, passes, walk}
use Rattle.walk.specs.Rule.{Rule, said, Fits}
use Rattle.walk.specs.Session.{Answer, accepted, going_on, refused, Record, ended, any_accepted, end_of, giving, up_to, claim_before}
use Rattle.walk.specs.Session.{step_final, step_last, step_judge, step_open, step, calls, at, Follows, Chain, cut}
use Rattle.walk.specs.Theorems.{SessionAccepts, SessionEnds, ComparedFirst, NoEarlyCoin}
use Rattle.walk.proofs.Play.{walk_said}

module _ {R : Type 0} (g : Game R) where
  -- messages of the lengths that the rounds call for
  unfoldable pub Sized : List R → List (List ℕ) → Type 0
  Sized [] [] = Unit {0}
  Sized [] (m ∷ ms) = ⊥
  Sized (r ∷ rs) [] = ⊥
  Sized (r ∷ rs) (m ∷ ms) = (length m ≡ g.len r) × Sized rs ms

  -- the words of all messages
  abbrev pub words_of : List R → ℕ
  words_of rs = sum (map g.len rs)

  pub said_sized : (rule : Rule R) (rs : List R) (past cs : List ℕ) → Fits g rule rs past cs → length cs ≡ length rs → Sized rs (said rule rs past cs)
  unfolding Fits Sized said
  said_sized rule [] past [] f n = tt
  said_sized rule [] past (c ∷ cs) f n = absurd (suc-ne-zero _ n)
  said_sized rule (r ∷ rs) past [] f n = absurd (suc-ne-zero _ (sym n))
  said_sized rule (r ∷ rs) past (c ∷ cs) f n = (f.0, said_sized rule rs (past ++ (c ∷ [])) cs f.1 (suc_inj n))

  pub sized_words : (rs : List R) (ms : List (List ℕ)) → Sized rs ms → length (flatten ms) ≡ words_of rs
  unfolding Sized flatten
  sized_words [] [] s = sym sum_nil
  sized_words [] (m ∷ ms) s = absurd s
  sized_words (r ∷ rs) [] s = absurd s
  sized_words (r ∷ rs) (m ∷ ms) s =
      length-append m (flatten ms) ∙ omega (arith, s.0, sized_words rs ms s.1, sum_cons (g.len r) (map g.len rs))

  pub sized_at : (rs : List R) (ms : List (List ℕ)) (j : ℕ) (d : R) → Sized rs ms → j < length rs → length (get_or ms j []) ≡ g.len (get_or rs j d)
  unfolding Sized
  sized_at [] ms j d s l = absurd (not-suc-le-zero l)
  sized_at (r ∷ rs) [] j d s l = absurd s
  sized_at (r ∷ rs) (m ∷ ms) zero d s l = s.0
  sized_at (r ∷ rs) (m ∷ ms) (suc j) d s l = sized_at rs ms j d s.1 (le_of_suc-le-suc l)

  pub cut_sized : (rs : List R) (ms : List ℕ) → length ms ≡ words_of rs → Sized rs (cut g rs ms)
  unfolding cut Sized
  cut_sized [] ms e = tt
  cut_sized (r ∷ rs) ms e =
      let s = sum_cons (g.len r) (map g.len rs) in
      (length-take-le (g.len r) ms (omega arith), cut_sized rs (drop (g.len r) ms) (rw length-drop (omega arith)))

  pub cut_all : (P : ℕ → Type 0) (rs : List R) (ms : List ℕ) → All P ms → All (λ m. All P m) (cut g rs ms)
  unfolding cut
  cut_all P [] ms h = tt
  cut_all P (r ∷ rs) ms h = (all_take P (g.len r) ms h, cut_all P rs (drop (g.len r) ms) (all_drop P (g.len r) ms h))

  pub cut_joined : (rs : List R) (ms : List ℕ) → length ms ≡ words_of rs → flatten (cut g rs ms) ≡ ms
  unfolding cut flatten
  cut_joined [] [] e = refl
  cut_joined [] (m ∷ ms) e = absurd (omega (arith, e, sum_nil))
  cut_joined (r ∷ rs) ms e =
      let s = sum_cons (g.len r) (map g.len rs) in
      ap (λ (l : List ℕ). take (g.len r) ms ++ l) (cut_joined rs (drop (g.len r) ms) (rw length-drop (omega arith)))
      ∙ take-append-drop (g.len r) ms

module _ {R : Type 0} (g : Game R) (final : Comparison) where
  -- an ended record answers 19 for good
  pub closed_calls : (cs : List ℕ) (s : Record R) (ms : List (List ℕ)) → s.opened ≡ false → any_accepted (calls g final cs s ms) ≡ false
  unfolding calls any_accepted step
  closed_calls cs s [] e = refl
  closed_calls cs s (m ∷ ms) e = rw e (rw e at (closed_calls cs s ms e))

  -- A STEP of an open session with the claim standing at round r, on message m and its coin c
  module _ (past : List ℕ) (c : ℕ) (r : R) (claim : ℕ) (m : List ℕ) where
    -- what it gives where the judge says k of the message
    abbrev judged : ℕ → Answer × Record R
    judged k = step_judge g final k past c (at r claim) m

    step_at : (rest : List ℕ) → g.before r ≡ length past → step g final (past ++ c ∷ rest) (at r claim) m ≡ judged (g.judge r past claim m)
    unfolding step
    step_at rest e = rw (take_at past (c ∷ rest) (g.before r) (sym e), get_or_at past c rest 0 (g.before r) (sym e))

    one_end : (k : ℕ) → g.last r ≡ true → end_of ((judged k).0 ∷ []) ≡ first k (cond (final (past ++ (c ∷ [])) (g.next m c)) 0 18)
    unfolding end_of
    one_end (suc k) e = refl
    one_end zero e = rw e (go (final (past ++ (c ∷ [])) (g.next m c)))
      where
        go : (b : Bool) → end_of ((step_final b (at r claim)).0 ∷ []) ≡ cond b 0 18
        go true = refl
        go false = refl

    more_end : (k : ℕ) (all : List ℕ) (ms : List (List ℕ)) → g.last r ≡ false
        → end_of ((judged k).0 ∷ calls g final all (judged k).1 ms) ≡ first k (end_of (calls g final all (at (g.after r) (g.next m c)) ms))
    unfolding end_of
    more_end (suc k) all ms e = refl
    more_end zero all ms e = rw e

    -- what holds of the ended record and of the next round's holds of the one that the step leaves
    after_step : (Q : Record R → Type 0) (rs : List R) → Follows g r rs → Q (ended (at r claim))
        → ((r' : R) (rs' : List R) → rs ≡ r' ∷ rs' → Q (at r' (g.next m c))) → (k : ℕ) → Q (judged k).1
    after_step Q rs f over on (suc k) = over
    after_step Q [] f over on zero = rw f (go (final (past ++ (c ∷ [])) (g.next m c)))
      where
        go : (b : Bool) → Q (step_final b (at r claim)).1
        go true = over
        go false = over
    after_step Q (r' ∷ rs) f over on zero = rw (f.0, f.1) (on r' rs refl)

  pub session_walk : (r : R) (rs : List R) (past : List ℕ) (claim : ℕ) (ms : List (List ℕ)) (cs : List ℕ)
      → Chain g (r ∷ rs) (length past) → Sized g (r ∷ rs) ms → length cs ≡ length (r ∷ rs)
      → end_of (calls g final (past ++ cs) (at r claim) ms) ≡ walk g final (r ∷ rs) past claim (flatten ms) cs
  unfolding end_of calls walk flatten Chain Sized
  session_walk r rs past claim [] cs ch sz n = absurd sz
  session_walk r rs past claim (m ∷ ms) [] ch sz n = absurd (suc-ne-zero _ (sym n))
  session_walk r [] past claim (m ∷ []) (c ∷ []) ch sz n =
      rw (step_at past c r claim m [] ch.0, take_at m [] (g.len r) sz.0) (one_end past c r claim m (g.judge r past claim m) ch.1)
  session_walk r [] past claim (m ∷ []) (c ∷ c' ∷ cs) ch sz n = absurd (suc-ne-zero _ (suc_inj n))
  session_walk r [] past claim (m ∷ m' ∷ ms) (c ∷ cs) ch sz n = absurd sz.1
  session_walk r (r' ∷ rs) past claim (m ∷ ms) (c ∷ cs) ch sz n =
      let past' : List ℕ = past ++ (c ∷ []) in
      let ih : end_of (calls g final (past' ++ cs) (at r' (g.next m c)) ms) ≡ walk g final (r' ∷ rs) past' (g.next m c) (flatten ms) cs =
      session_walk r' rs past' (g.next m c) ms cs (rw (length-append, add-one) ch.2) sz.1 (suc_inj n) in
      let taken : take (g.len r) (flatten (m ∷ ms)) ≡ m = take_at m (flatten ms) (g.len r) sz.0 in
      let left : drop (g.len r) (flatten (m ∷ ms)) ≡ flatten ms = drop_at m (flatten ms) (g.len r) sz.0 in
      rw (step_at past c r claim m cs ch.0)
      (more_end past c r claim m (g.judge r past claim m) (past ++ c ∷ cs) ms ch.1.0
      ∙ ap (first (g.judge r past claim m)) (rw ch.1.1 (rw append_assoc at ih))
      ∙ sym (ap₂ (λ (a b : List ℕ). first (g.judge r past claim a) (walk g final (r' ∷ rs) past' (g.next a c) b cs)) taken left))

  -- the session accepts exactly when it ends with 0
  step_ends : (b : Bool) (past : List ℕ) (c : ℕ) (s : Record R) (m : List ℕ) (all : List ℕ) (ms : List (List ℕ)) → s.opened ≡ b
      → any_accepted (calls g final all (step_open g final b past c s m).1 ms) ≡ passes (end_of (calls g final all (step_open g final b past c s m).1 ms))
      → any_accepted ((step_open g final b past c s m).0 ∷ calls g final all (step_open g final b past c s m).1 ms)
      ≡ passes (end_of ((step_open g final b past c s m).0 ∷ calls g final all (step_open g final b past c s m).1 ms))
  unfolding any_accepted end_of
  step_ends false past c s m all ms o ih = closed_calls all s ms o
  step_ends true past c s m all ms o ih = go_judge (g.judge s.round past s.claim m) ih
    where
      Good : Answer × Record R → Type 0
      Good a =
          any_accepted (calls g final all a.1 ms) ≡ passes (end_of (calls g final all a.1 ms))
          → any_accepted (a.0 ∷ calls g final all a.1 ms) ≡ passes (end_of (a.0 ∷ calls g final all a.1 ms))

      shut : any_accepted (calls g final all (ended s) ms) ≡ false
      shut = closed_calls all (ended s) ms refl

      go_final : (b : Bool) → Good (step_final b s)
      go_final true h = refl
      go_final false h = shut

      go_last : (b : Bool) → Good (step_last g final b past c s m)
      go_last true h = go_final (final (past ++ (c ∷ [])) (g.next m c)) h
      go_last false h = h

      go_judge : (k : ℕ) → Good (step_judge g final k past c s m)
      go_judge zero h = go_last (g.last s.round) h
      go_judge (suc k) h = shut

  pub accepts_end : (all : List ℕ) (s : Record R) (ms : List (List ℕ)) → any_accepted (calls g final all s ms) ≡ passes (end_of (calls g final all s ms))
  unfolding calls step any_accepted end_of
  accepts_end all s [] = refl
  accepts_end all s (m ∷ ms) = step_ends s.opened _ _ s m all ms refl (accepts_end all (step g final all s m).1 ms)

  -- the session of a rule
  pub session_play : SessionAccepts g final
  session_play rule r rs past claim cs ch f n =
      accepts_end (past ++ cs) (at r claim) (said rule (r ∷ rs) past cs)
      ∙ ap passes (session_walk r rs past claim (said rule (r ∷ rs) past cs) cs ch (said_sized g rule (r ∷ rs) past cs f n) n
      ∙ walk_said g final rule (r ∷ rs) past claim cs f)

  -- THE COMPARISON COMES FIRST: a step that goes on has judged its message, and an ended record's never goes on
  abbrev is_going : Answer → Bool
  is_going accepted = false
  is_going (going_on t) = true
  is_going (refused cause) = false

  abbrev coin_in : Answer → ℕ
  coin_in accepted = 0
  coin_in (going_on t) = t
  coin_in (refused cause) = 0

  closed_stops : (all : List ℕ) (s : Record R) (ms : List (List ℕ)) (j : ℕ) → is_going (get_or (calls g final all (ended s) ms) j accepted) ≡ false
  unfolding calls step
  closed_stops all s [] j = refl
  closed_stops all s (m ∷ ms) zero = refl
  closed_stops all s (m ∷ ms) (suc j) = closed_stops all s ms j

  going_passed : (past : List ℕ) (c : ℕ) (r : R) (claim : ℕ) (m : List ℕ) (k t : ℕ) → (judged past c r claim m k).0 ≡ going_on t → (k ≡ 0) × (t ≡ c)
  going_passed past c r claim m (suc k) t e = absurd (false≢true (ap is_going e))
  going_passed past c r claim m zero t e = (refl, go (g.last r) e)
    where
      ending : (b : Bool) → (step_final b (at r claim)).0 ≡ going_on t → t ≡ c
      ending true q = absurd (false≢true (ap is_going q))
      ending false q = absurd (false≢true (ap is_going q))

      go : (b : Bool) → (step_last g final b past c (at r claim) m).0 ≡ going_on t → t ≡ c
      go false q = sym (ap coin_in q)
      go true q = ending (final (past ++ (c ∷ [])) (g.next m c)) q

  pub compared_first : ComparedFirst g final
  unfolding calls Chain claim_before
  compared_first [] r d rs past claim cs j t ch n e = absurd (false≢true (ap is_going e))
  compared_first (m ∷ ms) r d rs past claim [] j t ch n e = absurd (suc-ne-zero _ (sym n))
  compared_first (m ∷ ms) r d rs past claim (c ∷ cs) zero t ch n e =
      let told = going_passed past c r claim m (g.judge r past claim m) t (ap (λ (x : Answer × Record R). x.0) (sym (step_at past c r claim m cs ch.0)) ∙ e) in
      (rw append-nil told.0, told.1)
  compared_first (m ∷ ms) r d rs past claim (c ∷ cs) (suc j) t ch n e =
      let Told : Record R → Type 0 = λ s. get_or (calls g final (past ++ c ∷ cs) s ms) j accepted ≡ going_on t
      → (g.judge (get_or rs j d) (past ++ c ∷ take j cs) (claim_before g (g.next m c) ms cs j) (get_or ms j []) ≡ 0) × (t ≡ get_or cs j 0) in
      after_step past c r claim m Told rs ch.1
      (λ q. absurd (false≢true (sym (closed_stops (past ++ c ∷ cs) (at r claim) ms j) ∙ ap is_going q)))
      (λ r' rs' same q.
      let ih = compared_first ms r' d rs' (past ++ (c ∷ [])) (g.next m c) cs j t (rw (length-append, add-one) (rw same at ch.2)) (suc_inj n ∙ ap length same)
      (rw append_assoc q) in
      (rw same (rw append_assoc at ih.0), ih.1))
      (g.judge r past claim m)
      (ap (λ (x : Answer × Record R). get_or (calls g final (past ++ c ∷ cs) x.1 ms) j accepted) (sym (step_at past c r claim m cs ch.0)) ∙ e)

  -- NO EARLY COIN: the answers before answer j depend on the coins before coin j alone, and answer j on coin j only where it gives it. An ended
  -- record's answers give no coin.
  closed_same : (all all' : List ℕ) (s : Record R) (j c : ℕ) (ms : List (List ℕ))
      → up_to j c (calls g final all (ended s) ms) ≡ take (suc j) (calls g final all' (ended s) ms)
  unfolding calls step up_to
  closed_same all all' s j c [] = refl
  closed_same all all' s zero c (m ∷ ms) = refl
  closed_same all all' s (suc j) c (m ∷ ms) = ap (λ (l : List Answer). refused 19 ∷ l) (closed_same all all' s j c ms)

  -- a message that is not the last, with two coins
  own_coin : (past : List ℕ) (c c' : ℕ) (r : R) (claim : ℕ) (m : List ℕ) (k : ℕ) → g.last r ≡ false
      → giving c' (judged past c r claim m k).0 ≡ (judged past c' r claim m k).0
  own_coin past c c' r claim m (suc k) e = refl
  own_coin past c c' r claim m zero e = rw e refl

  pub no_early_coin : NoEarlyCoin g final
  unfolding calls Chain up_to
  no_early_coin [] r rs past claim common c c' rest rest' ch n = refl
  no_early_coin (m ∷ ms) r [] past claim [] c c' rest rest' ch n = absurd (not-suc-le-zero n)
  no_early_coin (m ∷ ms) r (r' ∷ rs) past claim [] c c' rest rest' ch n =
      rw (step_at past c r claim m rest ch.0, step_at past c' r claim m rest' ch.0)
      (ap (λ (a : Answer). a ∷ []) (own_coin past c c' r claim m (g.judge r past claim m) ch.1.0))
  no_early_coin (m ∷ ms) r rs past claim (d ∷ common) c c' rest rest' ch n =
      let left : List ℕ = common ++ c ∷ rest in
      let left' : List ℕ = common ++ c' ∷ rest' in
      let Same : Record R → Type 0 = λ s.
      up_to (length common) c' (calls g final (past ++ d ∷ left) s ms) ≡ take (suc (length common)) (calls g final (past ++ d ∷ left') s ms) in
      rw (step_at past d r claim m left ch.0, step_at past d r claim m left' ch.0)
      (ap (λ (l : List Answer). (judged past d r claim m (g.judge r past claim m)).0 ∷ l)
      (after_step past d r claim m Same rs ch.1 (closed_same _ _ (at r claim) (length common) c' ms)
      (λ r' rs' e. rw (← append_assoc past (d ∷ []) left, ← append_assoc past (d ∷ []) left')
      (no_early_coin ms r' rs' (past ++ (d ∷ [])) (g.next m d) common c c' rest rest' (rw (length-append, add-one) (rw e at ch.2))
      (omega (arith, n, ap length e))))
      (g.judge r past claim m)))

  -- from opening, steps on the messages of a transcript of exact length end as the whole check does
  pub transcript_session : SessionEnds g final
  transcript_session r rs past claim ms cs ch n nc =
      session_walk r rs past claim (cut g (r ∷ rs) ms) cs ch (cut_sized g (r ∷ rs) ms n) nc
      ∙ ap (λ (l : List ℕ). walk g final (r ∷ rs) past claim l cs) (cut_joined g (r ∷ rs) ms n)
