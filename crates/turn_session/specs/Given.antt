-- What a frame of a stream gave.
use Rattle.std.specs.Prelude.{None}
use Rattle.turn_client_api.specs.Payloads.{Outcome, Payload}
use Rattle.turn_client_api.specs.Payloads as Outcomes
use Rattle.turn_session.specs.declared.given.Given.{Given}
use Rattle.turn_session.specs.declared.given.Given.TheVariants as Frame
use Rattle.turn_session.specs.declared.given.PeerBytes.{PeerBytes}

-- it is no part of what the caller passed in
abbrev pub given_data : PeerBytes → Payload
given_data d = record { transport = d.transport; peer = d.peer; bytes = d.bytes.items; place = None }

abbrev pub given_outcome : Given → Outcome
given_outcome Frame.Handled = Outcomes.Handled
given_outcome Frame.Ignored = Outcomes.Ignored
given_outcome (Frame.PeerData d) = Outcomes.PeerData (given_data d)
given_outcome (Frame.PeerIcmp r) =
    Outcomes.PeerIcmp r.transport r.peer (record { icmp_type = r.icmp_type; code = r.icmp_code; «data» = r.icmp_data })
