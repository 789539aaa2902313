-- What a step does, apart from the streams.
use Rattle.turn_client_api.specs.State.{State}

-- the second state, with the streams of the first
abbrev pub with_streams_of : State → State → State
with_streams_of was s = record s { streams = was.streams }

-- what it gives, and the state that it leaves apart from the streams
abbrev pub apart_from_streams : {A : Type 0} → State → A × State → A × State
apart_from_streams was p = (p.0, with_streams_of was p.1)
