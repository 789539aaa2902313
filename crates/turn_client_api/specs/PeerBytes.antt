-- Data of a peer.
use Rattle.std.specs.Prelude.{ℕ, List, ⊤}
use Rattle.std.specs.declared.convert.AsSlice.{Ghosts}
use Rattle.turn_client_api.specs.declared.receive.DataRangeOrOwned.{DataRangeOrOwned}
use Rattle.turn_client_api.specs.declared.receive.DataRangeOrOwned.TheVariants.{Range, Owned}
use Rattle.turn_client_api.specs.declared.receive.TurnPeerData.{TurnPeerData}
use Rattle.turn_client_api.specs.Range.{part_of}

-- the bytes, a range of the input or owned
abbrev pub held_bytes : {T : Type 0} {g : Ghosts T ℕ} → DataRangeOrOwned T g → List ℕ
held_bytes (Range range) = part_of range
held_bytes (Owned bytes) = bytes.items

-- the bytes are owned already
abbrev pub IsOwned : {T : Type 0} {g : Ghosts T ℕ} → DataRangeOrOwned T g → Type 0
IsOwned (Range range) = ⊥
IsOwned (Owned bytes) = ⊤

-- the holder of what the peer sent
abbrev pub held_in : {T : Type 0} {g : Ghosts T ℕ} → TurnPeerData T g → DataRangeOrOwned T g
held_in p = p.data

-- what the peer sent
abbrev pub payload_of : {T : Type 0} {g : Ghosts T ℕ} → TurnPeerData T g → List ℕ
payload_of p = held_bytes (held_in p)
