-- A worked run, with times in nanoseconds: of two allocations the one of IPv6 expires after 1000 s, with a permission that is pending.
use Rattle.std.specs.Prelude.{◌≡◌, ℕ, true, false, [], ◌∷◌, None}
use Rattle.std.specs.declared.net.ip_addr.IpAddr.{IpAddr}
use Rattle.std.specs.declared.net.ip_addr.IpAddr.TheVariants as Ip
use Rattle.std.specs.declared.net.socket_addr.SocketAddr.{SocketAddr}
use Rattle.std.specs.declared.net.socket_addr.SocketAddr.TheVariants.{V4, V6}
use Rattle.turn_stun.specs.XorAddress.{xor_v4, xor_v6}
use Rattle.turn_client_api.specs.Effect.{new_allocation}
use Rattle.turn_client_api.specs.Poll.{poll_step}
use Rattle.turn_client_api.specs.State.{State}
use Rattle.turn_client_api.specs.declared.grant.Grant.TheVariants.{Permission}
use Rattle.turn_client_api.specs.declared.grant.Progress.TheVariants.{Pending}
use Rattle.turn_client_api.specs.declared.state.Phase.TheVariants.{Allocated}
use Rattle.turn_session_book.specs.Book.{new_book}
use Rattle.turn_session_book.specs.Held.{held_grant}
use Rattle.turn_session_book.specs.OpenRequests.{new_request}
use Rattle.turn_session_book.specs.declared.answers.Outcome.TheVariants.{TimedOut}
use Rattle.turn_session_book.specs.declared.events.Event.TheVariants.{Lost, Outcome}
use Rattle.turn_session_book.specs.declared.keys.Key.{Key}
use Rattle.turn_session_book.specs.declared.keys.Key.TheVariants as Keys
use Rattle.turn_session_book.specs.declared.open_requests.Progress.TheVariants.{Queued}
use Rattle.turn_session_client.specs.Expiring.{expiry_noted, first_expired}
use Rattle.turn_session_client.specs.Notes.{new_notes}
use Rattle.turn_session_client.specs.NotedState.{NotedState, new_noted}
use Rattle.turn_session_client.specs.Polling.{next_time}

abbrev pub relayed_v4 : SocketAddr
relayed_v4 = V4 (xor_v4 (10 ∷ 0 ∷ 0 ∷ 1 ∷ []) 5000)

abbrev pub relayed_v6 : SocketAddr
relayed_v6 = V6 (xor_v6 (0x2001 ∷ 0xdb8 ∷ 0 ∷ 0 ∷ 0 ∷ 0 ∷ 0 ∷ 1 ∷ []) 5000)

abbrev pub ip_of_peer : IpAddr
ip_of_peer = Ip.V6 (record { segments = 0x2001 ∷ 0xdb8 ∷ 0 ∷ 0 ∷ 0 ∷ 0 ∷ 0 ∷ 0x77 ∷ [] })

-- peers of IPv4 and of IPv6 with a channel, and one whose permission is requested
abbrev pub channel_v4 : Key
channel_v4 = Keys.Channel (V4 (xor_v4 (10 ∷ 0 ∷ 0 ∷ 3 ∷ []) 9000))

abbrev pub channel_v6 : Key
channel_v6 = Keys.Channel (V6 (xor_v6 (0x2001 ∷ 0xdb8 ∷ 0 ∷ 0 ∷ 0 ∷ 0 ∷ 0 ∷ 2 ∷ []) 9000))

abbrev pub permission_v6 : Key
permission_v6 = Keys.Permission ip_of_peer

-- IPv4 was refreshed at 900 s, and IPv6 was not
abbrev pub client_before : State → State
client_before c = record c {
  phase = Allocated;
  grants = new_allocation 1_000 900_000_000_000 relayed_v4 ∷ new_allocation 1_000 0 relayed_v6 ∷ Permission ip_of_peer (Pending true) ∷ [];
  listed = [];
  transactions = [];
  queue = [];
  events = [];
  closes = [];
}

abbrev pub session_before : State → NotedState
session_before c = record (new_noted false 2_000_000_000 0 (client_before c)) {
  notes = record new_notes {
    book = record new_book {
      requests = new_request 1 permission_v6 Queued ∷ [];
      held = held_grant channel_v4 true ∷ held_grant channel_v6 true ∷ [];
    };
  };
}

-- the client is polled at 1000.05 s, and has no event
abbrev pub polled : NotedState → NotedState
polled s = record s { client = (poll_step 1_000_050_000_000 s.client).1 }

abbrev pub noted : NotedState → NotedState
noted s = (expiry_noted 1_000_050_000_000 s).1

pub record IsReported (s : NotedState) : Type 0 where
  -- no event of the client reports it, and the session is polled at once
  pub silent : s.client.events ≡ []
  pub at_once : (time : ℕ) → next_time time 1_000_050_000_000 s ≡ 1_000_050_000_000
  -- what was kept is lost, and the request has timed out
  pub events : (noted (noted s)).notes.book.events ≡ Lost channel_v6 (TimedOut None) ∷ Outcome 1 permission_v6 (TimedOut None) ∷ []
  pub none_waits : (noted (noted s)).notes.book.requests ≡ []
  -- what is in the other allocation stays
  pub held : (noted (noted s)).notes.book.held ≡ held_grant channel_v4 true ∷ []
  pub none_left : first_expired (noted (noted s)) ≡ None

pub record ExpiriesAreReported : Type 0 where
  pub reported : (c : State) → IsReported (polled (session_before c))
