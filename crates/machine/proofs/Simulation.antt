-- A machine simulates the definitions: what it keeps a session in stands for a record, and each call on words answers as the definition does. Then
-- its lists of calls give the definitions' answers.
-- Assumes nothing.
use Prim.Native.Nat.{ℕ, zero, suc}
use mathlib.Core.Path.{◌≡◌, refl, sym, ap, ap₂, ◌∙◌}
use mathlib.Core.Bool.{true, false≢true}
use mathlib.Core.List.{List, [], ◌∷◌, ◌++◌}
use Rattle.lists.specs.Each.{All}
use Rattle.lists.proofs.Each.{all_append, all_flatten}
use Rattle.walk.specs.Game.{passes}
use Rattle.walk.specs.Rule.{Rule, said}
use Rattle.walk.specs.Session.{Record, is_accepted, any_accepted, end_of}
use Rattle.walk.proofs.Play.{said_all}
use Rattle.protocol.specs.Start.{first_point, later_coins}
use Rattle.protocol.specs.Rounds.{Place, rounds}
use Rattle.protocol.specs.Check.{check_answer}
use Rattle.protocol.specs.Session.{OpenAnswer, opens, refuses, open_cause, open_answer, step_answer, steps, steps_from, session_on}
use Rattle.protocol.specs.Prove.{OneMessage, message_in, messages_on, transcript, prove_answer, prove_buffer, prove_one_answer, prove_one_buffer}
use Rattle.protocol.specs.Prove as definition
use Rattle.protocol.specs.Accept as accept
use Rattle.protocol.proofs.Opening.{opened_free}
use Rattle.machine.specs.Words.{Word, Words, WordRule, WordLists}
use Rattle.machine.specs.Machine.{Begun, begun, declined, is_begun, Machine, stepping, continued, answers, whole_accepts, session_accepts, asking}
use Rattle.machine.specs.Exported.{number_answer}
use Rattle.machine.specs.Theorems.{OpenedOn}
use Rattle.machine.proofs.Figures.{Figures, opened_figures}

-- a machine's opening, from the definitions', where a record is written down as a session
abbrev pub begun_by : {S : Type 0} → (Record Place → S) → OpenAnswer → Begun S
begun_by write (opens us s) = begun us (write s)
begun_by write (refuses cause) = declined cause

abbrev pair : {A B : Type 0} → A → B → A × B
pair a b = (a, b)

pub both : {A B : Type 0} {a a' : A} {b b' : B} → a ≡ a' → b ≡ b' → pair a b ≡ pair a' b'
both e f = ap₂ pair e f

pub record Simulates {S : Type 0} (M : Machine S) (Store : S → Type 0) (read : S → Record Place) : Type 0 where
  pub check : (c input ys cs ms : List ℕ) → WordLists c input cs → Words ys → Words ms
      → M.check c input ys cs ms ≡ number_answer (check_answer c input ys cs ms)
  pub write : Record Place → S
  pub read_back : (s : Record Place) → read (write s) ≡ s
  pub stored : (s : Record Place) → Figures s → Store (write s)
  pub begin : (c input ys cs : List ℕ) → WordLists c input cs → Words ys → M.begin c input ys cs ≡ begun_by write (open_answer c input ys cs)
  pub step : (c input cs : List ℕ) (s : S) (m : List ℕ) → WordLists c input cs → Store s → Words m
      → (M.step c input cs s m).0 ≡ (step_answer c input cs (read s) m).0
  pub step_record : (c input cs : List ℕ) (s : S) (m : List ℕ) → WordLists c input cs → Store s → Words m
      → read (M.step c input cs s m).1 ≡ (step_answer c input cs (read s) m).1
  pub step_stored : (c input cs : List ℕ) (s : S) (m : List ℕ) → WordLists c input cs → Store s → Words m → Store (M.step c input cs s m).1
  pub prove : (c input cs buffer : List ℕ) → WordLists c input cs → Words buffer
      → M.prove c input cs buffer ≡ (prove_answer c input cs buffer, prove_buffer c input cs buffer)
  pub prove_one : (c input prefix buffer : List ℕ) → WordLists c input prefix → Words buffer
      → M.prove_one c input prefix buffer ≡ (prove_one_answer c input prefix buffer, prove_one_buffer c input prefix buffer)

accepted_passes : (n : ℕ) → is_accepted (number_answer n) ≡ passes n
accepted_passes zero = refl
accepted_passes (suc n) = refl

pub number_end : (n : ℕ) → end_of (number_answer n ∷ []) ≡ n
unfolding end_of
number_end zero = refl
number_end (suc n) = refl

module _ {S : Type 0} (M : Machine S) (Store : S → Type 0) (read : S → Record Place) (sim : Simulates M Store read) where
  -- THE CALLS OF A SESSION
  stepping_is : (c input cs : List ℕ) → WordLists c input cs → (s : S) → Store s → (ms : List (List ℕ)) → All Words ms
      → stepping M c input cs s ms ≡ steps c input cs (read s) ms
  unfolding stepping steps
  stepping_is c input cs w s st [] h = refl
  stepping_is c input cs w s st (m ∷ ms) h =
      ap₂ ◌∷◌ (sim.step c input cs s m w st h.0)
      (stepping_is c input cs w (M.step c input cs s m).1 (sim.step_stored c input cs s m w st h.0) ms h.1
      ∙ ap (λ (r : Record Place). steps c input cs r ms) (sim.step_record c input cs s m w st h.0))

  pub answers_are : (c input ys cs : List ℕ) → WordLists c input cs → Words ys → (ms : List (List ℕ)) → All Words ms
      → answers M c input ys cs ms ≡ session_on c input ys cs ms
  answers_are c input ys cs w wy ms h =
      ap (λ (b : Begun S). continued M c input cs b ms) (sim.begin c input ys cs w wy) ∙ go (open_answer c input ys cs) refl
    where
      go : (a : OpenAnswer) → a ≡ open_answer c input ys cs → continued M c input cs (begun_by sim.write a) ms ≡ steps_from c input cs a ms
      go (opens us s) e =
          stepping_is c input cs w (sim.write s) (sim.stored s (opened_figures c input ys cs us s w.circuit e)) ms h
          ∙ ap (λ (r : Record Place). steps c input cs r ms) (sim.read_back s)
      go (refuses cause) e = refl

  -- an opening that gives a session refuses nothing
  pub opened_cause : (c input ys cs : List ℕ) → OpenedOn M c input ys cs → open_cause c input ys cs ≡ 0
  opened_cause c input ys cs o = go (open_answer c input ys cs) refl (sym (ap is_begun (sim.begin c input ys cs o.lists o.outputs)) ∙ o.opened)
    where
      go : (a : OpenAnswer) → a ≡ open_answer c input ys cs → is_begun (begun_by sim.write a) ≡ true → open_cause c input ys cs ≡ 0
      go (opens us s) e t = opened_free c input ys cs us s e
      go (refuses cause) e t = absurd (false≢true t)

  -- ACCEPTANCE
  module _ (c input ys : List ℕ) (wy : Words ys) (rule : Rule Place) (wr : WordRule rule) (cs : List ℕ) (w : WordLists c input cs) where
    messages_words : All Words (messages_on c rule cs)
    messages_words = said_all Words rule wr (rounds c) (first_point c cs) (later_coins c cs)

    pub whole_is : whole_accepts M c input ys rule cs ≡ accept.whole_accepts c input ys rule cs
    unfolding transcript
    whole_is =
        ap is_accepted (sim.check c input ys cs (transcript c rule cs) w wy (all_flatten Word (messages_on c rule cs) messages_words))
        ∙ accepted_passes (check_answer c input ys cs (transcript c rule cs))

    pub session_is : session_accepts M c input ys rule cs ≡ accept.session_accepts c input ys rule cs
    session_is = ap any_accepted (answers_are c input ys cs w wy (messages_on c rule cs) messages_words)

  -- PROVE, ASKED FOR ONE MESSAGE AFTER ANOTHER
  pub asking_is : (c input : List ℕ) → Words c → Words input → (buffer : List ℕ → List ℕ) → ((past : List ℕ) → Words (buffer past))
      → (rs : List Place) (past cs : List ℕ) → Words past → Words cs
      → said (asking M c input buffer) rs past cs ≡ said (definition.asking c input buffer) rs past cs
  unfolding said
  asking_is c input wc wi buffer wb [] past cs wp ws = refl
  asking_is c input wc wi buffer wb (r ∷ rs) past [] wp ws = refl
  asking_is c input wc wi buffer wb (r ∷ rs) past (t ∷ cs) wp ws =
      let w : WordLists c input past = record { circuit = wc; values = wi; coins = wp } in
      ap₂ ◌∷◌ (ap (λ (x : OneMessage × List ℕ). message_in x.0 x.1) (sim.prove_one c input past (buffer past) w (wb past)))
      (asking_is c input wc wi buffer wb rs (past ++ (t ∷ [])) cs (all_append Word past (t ∷ []) wp (ws.0, tt)) ws.1)
