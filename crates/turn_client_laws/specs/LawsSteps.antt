-- What every call keeps.
use Rattle.std.specs.Prelude.{◌≡◌, ◌⊎◌, ◌+◌, ◌<◌, ◌≤◌, Some, IsSome, ℕ, List}
use Rattle.turn_auth.specs.LongTerm.{Challenge}
use Rattle.turn_client_api.specs.State.{State}
use Rattle.turn_client_api.specs.declared.state.Phase.{Phase}
use Rattle.turn_client_api.specs.declared.state.Phase.TheVariants.{New, Requesting, Authenticating, Allocated, Closed}
use Rattle.turn_client_api.specs.Judgement.{Challenged, judgement_of}
use Rattle.turn_client_api.specs.Payloads.{message_step}

-- a client that has ended stays so
abbrev pub StaysClosed : State → State → Type 0
StaysClosed s t = s.phase ≡ Closed → t.phase ≡ Closed

-- no more challenges are answered than the configuration allows
abbrev pub KeepsChallengeLimit : State → State → Type 0
KeepsChallengeLimit s t = s.challenges ≤ s.config.max_stale_nonces → t.challenges ≤ t.config.max_stale_nonces

-- realm and algorithm, once held, stay
abbrev pub KeepsRealm : State → State → Type 0
KeepsRealm s t =
    (c : Challenge) → s.held ≡ Some c → (d : Challenge) × (t.held ≡ Some d) × (d.realm ≡ c.realm) × (d.algorithm ≡ c.algorithm)

-- A challenge over the control connection is answered only if fewer were than the configuration allows, and
-- counted then. One that is for nothing changes nothing, and one too many ends the client.
abbrev pub IsChallengeCounted : State → State → Type 0
IsChallengeCounted s t =
    (t ≡ s) ⊎ (((s.challenges < s.config.max_stale_nonces) × (t.challenges ≡ s.challenges + 1))
    ⊎ ((s.config.max_stale_nonces ≤ s.challenges) × (t.phase ≡ Closed) × (t.challenges ≡ s.challenges)))

-- each challenge that is processed in this state is counted so
abbrev pub CountsChallenge : List ℕ → ℕ → State → Type 0
CountsChallenge message now s =
    (challenge : Challenge) → judgement_of s message ≡ Challenged challenge → IsChallengeCounted s (message_step message now s).1

-- the progress of a client
abbrev pub rank : Phase → ℕ
rank New = 0
rank Requesting = 1
rank Authenticating = 2
rank Allocated = 3
rank Closed = 4

-- a client advances from phase to phase and never back, and it stays one that has sent a request
abbrev pub GoesOn : State → State → Type 0
GoesOn s t = (rank s.phase ≤ rank t.phase) × (IsSome s.last_send → IsSome t.last_send)
