-- A reply that is accepted is to an outstanding request, and ends it.
use Rattle.turn_client_laws.proofs.Common.{◌≡◌, ◌∙◌, sym, ℕ, true, false, List, inl, inr, refl, SocketAddr, cases_Bool}
use Rattle.turn_client_laws.proofs.Machine.{id_of, is_outstanding, is_outstanding-without, State, DataConnection, fresh_id, is_taken, Judgement, SignedSuccess, SignedError, bind_judgement}
use Rattle.turn_client_laws.proofs.Machine.{judgement_of, bind_answered, message_step}
use Rattle.turn_agent.specs.Agent as A
use Rattle.turn_client_laws.specs.LawsReplies.{IsAccepted}
use Rattle.turn_client_laws.proofs.ChallengeJudgement.{Says, bind-says, judgement-says}
use Rattle.turn_client_laws.proofs.NewIdMessageLemmas.{IsOneOf, signed-one}
use Rattle.turn_client_laws.proofs.NewIdLemmas.{fresh-free}

-- ---- which replies are accepted

reply-outstanding : (Answers : Type 0) (message : List ℕ) (s : State) (j : Judgement) → Says Answers message s j → IsAccepted j → is_outstanding (id_of message) s.transactions ≡ true
reply-outstanding Answers message s SignedSuccess (answers, is) h = is.outstanding
reply-outstanding Answers message s SignedError (answers, is) h = is.outstanding
reply-outstanding Answers message s j is h = absurd h

pub accepted-outstanding : (message : List ℕ) (s : State) → IsAccepted (judgement_of s message) → is_outstanding (id_of message) s.transactions ≡ true
accepted-outstanding message s = reply-outstanding _ message s (judgement_of s message) (judgement-says s message)

pub bind-outstanding : (local : SocketAddr) (message : List ℕ) (s : State) → IsAccepted (bind_judgement s local message) → is_outstanding (id_of message) s.transactions ≡ true
bind-outstanding local message s = reply-outstanding _ message s (bind_judgement s local message) (bind-says s local message)

-- ---- an accepted reply ends its request

pub accepted-ended : (message : List ℕ) (now : ℕ) (s : State) → IsAccepted (judgement_of s message) → is_outstanding (id_of message) (message_step message now s).1.transactions ≡ true
    → id_of message ≡ fresh_id s
accepted-ended message now s = by (judgement_of s message) refl
  where
    id : ℕ
    id = id_of message

    drawn : IsOneOf id (A.without_transaction id s.transactions) s → id ≡ fresh_id s
    drawn (inl was) = let gone = is_outstanding-without id s.transactions in cc
    drawn (inr e) = e

    by : (j : Judgement) → judgement_of s message ≡ j → IsAccepted (judgement_of s message) → is_outstanding id (message_step message now s).1.transactions ≡ true → id ≡ fresh_id s
    by SignedSuccess e = rw e (λ h is. drawn (signed-one id s.phase true message now s is))
    by SignedError e = rw e (λ h is. drawn (signed-one id s.phase false message now s is))
    by j e = rw e (λ h is. absurd h)

pub bind-ended : (c : DataConnection) (message : List ℕ) (now : ℕ) (s : State) → IsAccepted (bind_judgement s c.local message)
    → is_outstanding (id_of message) (bind_answered c message now s).transactions ≡ false
bind-ended c message now s = by (bind_judgement s c.local message) refl
  where
    by : (j : Judgement) → bind_judgement s c.local message ≡ j → IsAccepted (bind_judgement s c.local message) → is_outstanding (id_of message) (bind_answered c message now s).transactions ≡ false
    by SignedSuccess e = rw e (λ h. is_outstanding-without (id_of message) s.transactions)
    by SignedError e = rw e (λ h. is_outstanding-without (id_of message) s.transactions)
    by j e = rw e (λ h. absurd h)

-- an ID that is used is free, so that it is not the ID of the reply
pub accepted-gone : (message : List ℕ) (now : ℕ) (s : State) → IsAccepted (judgement_of s message) → is_outstanding (id_of message) (message_step message now s).1.transactions ≡ false
accepted-gone message now s accepted = elim (cases_Bool (is_outstanding (id_of message) (message_step message now s).1.transactions)) [
  | inl e ↦
      let taken : is_taken (id_of message) s ≡ true = rw (accepted-outstanding message s accepted) refl in
      let free : is_taken (id_of message) s ≡ false = rw (accepted-ended message now s accepted e) (fresh-free s) in
      let no : true ≡ false = sym taken ∙ free in
      cc
  | inr e ↦ e
]
