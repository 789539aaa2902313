-- The frames that a `TurnTcpBuffer` returns.
use Rattle.std.specs.Prelude.{◌≡◌, ℕ, ◌<◌, ◌≤◌, List, [], length, slice_range}
use Rattle.turn_stun.specs.declared.transport.Transmit.{Transmit}
use Rattle.turn_types.specs.Frames.{IsMessageFrame, IsChannelFrame}
use Rattle.turn_types.specs.declared.tcp.incoming.IncomingTcp.{IncomingTcp}
use Rattle.turn_types.specs.declared.tcp.incoming.IncomingTcp.TheVariants.{CompleteMessage, CompleteChannel, StoredMessage, StoredChannel}
use Rattle.turn_types.specs.declared.tcp.incoming.StoredTcp.{StoredTcp}
use Rattle.turn_types.specs.declared.tcp.incoming.StoredTcp.TheVariants.{Message, Channel}

-- the bytes of the frame
abbrev pub stored_bytes : StoredTcp → List ℕ
stored_bytes (Message frame) = frame.items
stored_bytes (Channel frame) = frame.items

-- its variant fits its kind
abbrev pub IsNamedStored : StoredTcp → Type 0
IsNamedStored (Message frame) = IsMessageFrame frame.items
IsNamedStored (Channel frame) = IsChannelFrame frame.items

module _ {T : Type 0} (items : T → List ℕ) where
  -- the bytes of the frame, a range of those received or owned
  abbrev pub incoming_bytes : IncomingTcp T → List ℕ
  incoming_bytes (CompleteMessage transmit range) = slice_range (items transmit.payload) range.start range.end
  incoming_bytes (CompleteChannel transmit range) = slice_range (items transmit.payload) range.start range.end
  incoming_bytes (StoredMessage frame transmit) = frame.items
  incoming_bytes (StoredChannel frame transmit) = frame.items

  -- its variant fits its kind
  abbrev pub IsNamedIncoming : IncomingTcp T → Type 0
  IsNamedIncoming (CompleteMessage transmit range) = IsMessageFrame (slice_range (items transmit.payload) range.start range.end)
  IsNamedIncoming (CompleteChannel transmit range) = IsChannelFrame (slice_range (items transmit.payload) range.start range.end)
  IsNamedIncoming (StoredMessage frame transmit) = IsMessageFrame frame.items
  IsNamedIncoming (StoredChannel frame transmit) = IsChannelFrame frame.items

  -- It is returned with the input: as a range at its start if the buffer was empty, else owned.
  abbrev pub ComesWith : List ℕ → Transmit T → IncomingTcp T → Type 0
  ComesWith waited came (CompleteMessage transmit range) = (waited ≡ []) × (transmit ≡ came) × (range.start ≡ 0) × (range.end ≤ length (items came.payload))
  ComesWith waited came (CompleteChannel transmit range) = (waited ≡ []) × (transmit ≡ came) × (range.start ≡ 0) × (range.end ≤ length (items came.payload))
  ComesWith waited came (StoredMessage frame transmit) = (0 < length waited) × (transmit ≡ came)
  ComesWith waited came (StoredChannel frame transmit) = (0 < length waited) × (transmit ≡ came)
