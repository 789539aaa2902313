-- What expires as time passes, step by step.
use Rattle.std.specs.Prelude.{ℕ, ◌≡◌, Bool, List, [], ◌∷◌, fold, Option}
use Rattle.std.specs.declared.net.socket_addr.SocketAddr.{SocketAddr}
use Rattle.turn_client_api.specs.Effect.{reserved}
use Rattle.turn_client_api.specs.Grants.{jump}
use Rattle.turn_client_api.specs.Poll.{expired_allocation}
use Rattle.turn_client_api.specs.State.{State}
use Rattle.turn_client_api.specs.declared.grant.Purpose.{Purpose}
use Rattle.turn_client_api.specs.declared.grant.Relay.{Relay}
use Rattle.turn_client_api.specs.declared.event.TurnEvent.TheVariants.{ChannelCreateFailed}
use Rattle.turn_client_grants.specs.Ledger.{Ledger, with_ledger}

-- the step takes each client whose requests are timed so, and which has the first ledger, to one that has the second
abbrev pub Becomes : Bool → Ledger → Ledger → (State → State) → Type 0
Becomes timed_from_send was is step = (s : State) → s.config.timed_from_send ≡ timed_from_send → with_ledger is s ≡ step (with_ledger was s)

-- an active channel expires: its failure is queued before all events, and its number and peer are
-- reserved
abbrev pub channel_ended : ℕ → SocketAddr → ℕ → State → State
channel_ended number peer expiry s =
    jump (ChannelCreateFailed s.config.allocation_transport peer ∷ []) (reserved number peer expiry s)

-- what expires in each of these allocations, in order
abbrev pub expired_each : Option ℕ → List Purpose → ℕ → State → List Relay → State
expired_each given purposes now s relays = fold (expired_allocation given purposes now) s relays
