-- When a client needs memory: for what a message requires of it, for a copy of data, or for a request that it makes.
use Rattle.std.specs.Prelude.{◌≡◌, ◌≢◌, ◌⊎◌, ℕ, List, [], IsSome, None, false, ⊤}
use Rattle.turn_agent.specs.Agent.{due}
use Rattle.turn_client_api.specs.Due.{is_paused}
use Rattle.turn_client_api.specs.Judgement.{Judgement, SignedError, SignedSuccess, judgement_of}
use Rattle.turn_client_api.specs.Payloads.{answered_purposes}
use Rattle.turn_client_api.specs.State.{State, agent_of}
use Rattle.turn_client_api.specs.Transmit.{next_queued}
use Rattle.turn_client_api.specs.declared.state.Phase.TheVariants.{Authenticating}

-- ---- a signed reply

-- it answers an ALLOCATE, or concerns something that its request was made for
abbrev pub ReplyWantsMemory : List ℕ → State → Type 0
ReplyWantsMemory message s = (s.phase ≡ Authenticating) ⊎ (answered_purposes message s ≢ [])

-- the same for a message that is one
abbrev pub WantsMemoryIfReply : List ℕ → State → Type 0
WantsMemoryIfReply message s = by (judgement_of s message)
  where
    by : Judgement → Type 0
    by SignedSuccess = ReplyWantsMemory message s
    by SignedError = ReplyWantsMemory message s
    by _ = ⊤

-- ---- a packet to send

-- a retransmission is due, or no queued packet is sent next, so that a request is made now: a queued packet is moved
abbrev pub SendWantsMemory : ℕ → State → Type 0
SendWantsMemory now s = IsSome (due (agent_of s) now) ⊎ ((is_paused now s ≡ false) × (next_queued now s ≡ None))
