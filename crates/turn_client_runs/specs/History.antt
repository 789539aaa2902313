-- When requests were first made, which packets came on top of those, and what was let go.
use Rattle.std.specs.Prelude.{◌≡◌, ℕ, zero, suc, ◌+◌, ◌==◌, ◌≤◌, nat_le, nat_lt, Bool, false, not, ◌&&◌, ◌||◌, if◌then◌else◌}
use Rattle.std.specs.Prelude.{List, [], ◌∷◌, ◌++◌, filter, is_ok, is_some, length, map}
use Rattle.std.specs.List.{list_any}
use Rattle.std.specs.declared.net.ip_addr.IpAddr.{IpAddr}
use Rattle.std.specs.declared.net.socket_addr.SocketAddr.{SocketAddr}
use Rattle.turn_stun.specs.Message.{id_of}
use Rattle.turn_stun.specs.declared.transport.TransportType.{TransportType}
use Rattle.turn_agent.specs.Agent.{due, is_outstanding, same_address}
use Rattle.turn_agent.specs.Schedule.{Timers, resends_of, wait_at}
use Rattle.turn_client_api.specs.Calls.{channel_kept_step, permission_kept_step}
use Rattle.turn_client_api.specs.Grants.{has_request, same_ip}
use Rattle.turn_client_api.specs.Requests.{fresh_id}
use Rattle.turn_client_api.specs.State.{State, agent_of}
use Rattle.turn_client_api.specs.Steps.{state_after}
use Rattle.turn_client_api.specs.declared.call.Call.{Call}
use Rattle.turn_client_api.specs.declared.call.Call.TheVariants.{Poll, PollTransmit, Recv, SetChannelKept, SetPermissionKept}
use Rattle.turn_client_api.specs.declared.grant.Grant.{Grant}
use Rattle.turn_client_api.specs.declared.grant.Grant.TheVariants.{Channel, Permission}
use Rattle.turn_client_runs.specs.OnTime.{time_of}

-- what came before in a run
pub record History : Type 0 where
  -- when the request with this ID was first made; made again after a challenge, it has the time of the first one
  pub made : ℕ → ℕ
  -- The times of extra packets, the last one first: of retransmissions, of requests made again after a challenge, and of
  -- refreshes whose grant expired before their reply.
  pub extra : List ℕ
  -- how many challenges in a row were answered, since the last success of a request that was listed
  pub challenged : ℕ
  -- the permission for this IP address was let go
  pub permission_let_go : IpAddr → Bool
  -- the channel of this number to this peer was let go
  pub channel_let_go : ℕ → SocketAddr → Bool

-- where nothing is outstanding, no packet was extra, and all is kept; challenges that were answered before count
abbrev pub no_history : State → History
no_history s = record {
  made = λ id. 0;
  extra = [];
  challenged = s.challenges;
  permission_let_go = λ ip. false;
  channel_let_go = λ number peer. false;
}

-- the call retransmits a request, or answers a challenge, which makes a request again
abbrev pub is_extra : Call → State → Bool
is_extra (PollTransmit now) s = is_some (due (agent_of s) now)
is_extra (Recv packet now) s = nat_lt s.challenges (state_after (Recv packet now) s).challenges
is_extra call s = false

-- a request that is listed had its reply, under this ID
abbrev pub is_replied : ℕ → Call → State → Bool
is_replied id call s =
    list_any (λ l. l.id == id) s.listed && is_outstanding id s.transactions && not (is_outstanding id (state_after call s).transactions)

-- the grants that a request was made for, and that expired in the call, before the reply
abbrev pub lost : Call → State → List Grant
lost (Poll now) s = filter (λ g. has_request g s && not (has_request g (state_after (Poll now) s))) s.grants
lost call s = []

-- the call lets the permission for this IP address go
abbrev pub lets_permission_go : Call → State → IpAddr → Bool
lets_permission_go (SetPermissionKept transport ip false) s other = is_ok (permission_kept_step transport ip false s).0 && same_ip other ip
lets_permission_go call s other = false

-- the call lets the channel to this peer go
abbrev pub lets_channel_go : Call → State → SocketAddr → Bool
lets_channel_go (SetChannelKept transport peer false) s other = is_ok (channel_kept_step transport peer false s).0 && same_address other peer
lets_channel_go call s other = false

-- When the request that this call makes was first made: now, unless it is one that is outstanding and was challenged.
abbrev pub first_made : Call → ℕ → State → History → ℕ
first_made (Recv packet received) now s past =
    if is_outstanding (id_of packet.payload) s.transactions then past.made (id_of packet.payload) else now
first_made call now s past = now

-- A challenge that is answered is one more. Any other reply to a request that is listed begins a row anew.
abbrev pub challenged_by : Call → State → ℕ → ℕ
challenged_by (Recv packet now) s row =
    if is_extra (Recv packet now) s then row + 1 else (if is_replied (id_of packet.payload) (Recv packet now) s then 0 else row)
challenged_by call s row = row

-- a call makes one request at most, under the next ID
abbrev pub with_call : Call → ℕ → State → History → History
with_call call now s past = record {
  made = λ id. if id == fresh_id s then first_made call now s past else past.made id;
  extra = if is_extra call s then now ∷ past.extra else map (λ g. now) (lost call s) ++ past.extra;
  challenged = challenged_by call s past.challenged;
  permission_let_go = λ ip. past.permission_let_go ip || lets_permission_go call s ip;
  channel_let_go = λ number peer. past.channel_let_go number peer || lets_channel_go call s peer;
}

-- what came before, once all of these calls are made
abbrev pub with_calls : List Call → ℕ → State → History → History
with_calls [] before s past = past
with_calls (call ∷ calls) before s past =
    let now = time_of before call in
    with_calls calls now (state_after call s) (with_call call now s past)

-- a call let the grant go
abbrev pub was_let_go : History → Grant → Bool
was_let_go past (Permission ip progress) = past.permission_let_go ip
was_let_go past (Channel number peer progress) = past.channel_let_go number peer
was_let_go past grant = false

-- none of these calls lets the grant go
abbrev pub IsKeptBy : List Call → ℕ → State → Grant → Type 0
IsKeptBy calls before s grant = was_let_go (with_calls calls before s (no_history s)) grant ≡ false

-- how many packets were extra from this time on
abbrev pub extra_since : ℕ → History → ℕ
extra_since since past = length (filter (λ time. nat_le since time) past.extra)

-- at most so many packets were extra within this duration until now
abbrev pub IsSeldom : ℕ → ℕ → ℕ → History → Type 0
IsSeldom extras duration now past = (since : ℕ) → now ≤ since + duration → extra_since since past ≤ extras

-- ---- retransmissions

-- the sum of the waits after so many sends of a request
abbrev pub waited : Timers → TransportType → ℕ → ℕ
waited timers transport zero = 0
waited timers transport (suc sends) = waited timers transport sends + wait_at timers transport sends

-- when a request times out, from its first send on (RFC 8489, section 6.2)
abbrev pub all_waits : Timers → TransportType → ℕ
all_waits timers transport = waited timers transport (suc (resends_of timers transport))
