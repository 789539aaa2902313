-- The result of processing a message or a ChannelData message.
use Rattle.std.specs.Prelude.{◌≡◌, ◌≤◌, ℕ, List, length, slice_range, Some, ⊤}
use Rattle.turn_client_api.specs.Payloads.{Outcome, Handled, Ignored, PeerData, PeerIcmp}
use Rattle.turn_client_api.specs.State.{State}
use Rattle.turn_client_core.specs.declared.protocol_recv.TurnProtocolRecv.{TurnProtocolRecv}
use Rattle.turn_client_core.specs.declared.protocol_recv.TurnProtocolRecv.TheVariants as T

abbrev pub outcome_in : List ℕ → TurnProtocolRecv → Outcome
outcome_in bytes T.Handled = Handled
outcome_in bytes T.Ignored = Ignored
outcome_in bytes (T.PeerData transport peer range) = PeerData (record {
  transport = transport;
  peer = peer;
  bytes = slice_range bytes range.start range.end;
  place = Some range;
})
outcome_in bytes (T.PeerIcmp transport peer icmp) = PeerIcmp transport peer icmp

-- data is a part of the received bytes, and changes nothing
abbrev pub IsPart : List ℕ → State → State → TurnProtocolRecv → Type 0
IsPart bytes was s (T.PeerData transport peer range) = (range.start ≤ range.end) × (range.end ≤ length bytes) × (s ≡ was)
IsPart bytes was s _ = ⊤

-- data is a part of the received bytes
abbrev pub IsRangeWithin : List ℕ → TurnProtocolRecv → Type 0
IsRangeWithin bytes (T.PeerData transport peer range) = (range.start ≤ range.end) × (range.end ≤ length bytes)
IsRangeWithin bytes _ = ⊤
