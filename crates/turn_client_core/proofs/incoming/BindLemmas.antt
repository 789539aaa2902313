-- Data connections that are bound, or whose binding fails (RFC 6062, section 4.3).
use Rattle.turn_client_laws.proofs.Common.{◌≡◌, ℕ, Bool, true, false, List, [], ◌∷◌, Some, None, refl, inl, inr, list_any, find, is_some, SocketAddr}
use Rattle.turn_client_laws.proofs.Machine.{Challenge, bind_again, bind_answered, not_bound, purposes_of, Judgement, bind_judgement, is_bind_of, request_started, fresh_id, queued, request_for}
use Rattle.turn_client_laws.proofs.Machine.{sent_from, waits_from, with_held, State, DataConnection, Purpose, cases_Option}
use Rattle.turn_client_laws.proofs.Laws.{binds_if}
use Rattle.turn_client_grants.specs.Asked.{bind_retried}
use Rattle.turn_client_core.specs.Apart.{with_streams_of}
use Rattle.turn_client_core.specs.Judged.{judgement_in}
use Rattle.turn_client_core.specs.declared.protocol.incoming.judge.Judged.{Judged}
use Rattle.turn_client_core.specs.declared.protocol.incoming.judge.Judged.TheVariants.{Challenged, SignedSuccess, SignedError}

-- an item is found if one passes the test
pub found_any : {X : Type 0} (p : X → Bool) (xs : List X) → is_some (find p xs) ≡ list_any p xs
found_any p [] = refl
found_any p (x ∷ xs) = by (p x) refl (found_any p xs)
  where
    by : (b : Bool) → p x ≡ b → is_some (find p xs) ≡ list_any p xs → is_some (find p (x ∷ xs)) ≡ list_any p (x ∷ xs)
    by true e rest = rw e refl
    by false e rest = rw e rest

-- ---- a challenge is answered

pub bind-asked : (s : State) (d : DataConnection) (id fresh : ℕ) (from : SocketAddr) (text : List ℕ) (purpose : Purpose) (challenge : Challenge) (now waits : ℕ)
    → find (is_bind_of d.local) (purposes_of id s) ≡ Some purpose → text ≡ request_for (with_held challenge s) purpose fresh → from ≡ sent_from s purpose → fresh ≡ fresh_id s → waits ≡ waits_from now s
    → queued true from text (request_started fresh text (purpose ∷ []) waits (bind_retried d.local now (with_held challenge s))) ≡ bind_again d id challenge now s
bind-asked s d id fresh from text purpose challenge now waits found is sent next begins = rw (found, is, sent, next, begins) refl

-- the stream stays as it was
pub again-streams : (d : DataConnection) (id : ℕ) (challenge : Challenge) (now : ℕ) (s : State)
    → bind_again d id challenge now s ≡ with_streams_of s (bind_again d id challenge now s)
again-streams d id challenge now s = elim (cases_Option (find (is_bind_of d.local) (purposes_of id s))) [ inl f ↦ rw f refl | inr (purpose, f) ↦ rw f refl ]

-- ---- a message that does not bind the connection ends it

pub not_bound-otherwise : (d : DataConnection) (message : List ℕ) (now : ℕ) (s : State) (judged : Judged) → judgement_in judged ≡ bind_judgement s d.local message
    → ((challenge : Challenge) → judged ≡ Challenged challenge → ⊥) → (judged ≡ SignedSuccess → ⊥) → (judged ≡ SignedError → ⊥) → bind_answered d message now s ≡ not_bound d s
not_bound-otherwise d message now s (Challenged challenge) is a b c = absurd (a challenge refl)
not_bound-otherwise d message now s SignedSuccess is a b c = absurd (b refl)
not_bound-otherwise d message now s SignedError is a b c = absurd (c refl)
not_bound-otherwise d message now s judged is a b c = rw (← is) refl

-- and binds nothing
pub binds-otherwise : (d : DataConnection) (judged : Judged) (j : Judgement) → judgement_in judged ≡ j → (judged ≡ SignedSuccess → ⊥) → binds_if d j ≡ None
binds-otherwise d SignedSuccess j is other = absurd (other refl)
binds-otherwise d judged j is other = rw (← is) refl
