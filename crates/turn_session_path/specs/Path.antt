-- The path to the server, and what the caller reports of it.
use Rattle.std.specs.Prelude.{ℕ, Option, Some, None}
use Rattle.turn_stun.specs.declared.transport.TransportType.{TransportType}
use Rattle.turn_stun.specs.declared.transport.TransportType.TheVariants.{Udp, Tcp}
use Rattle.turn_agent.specs.TransactionIds.{Source}
use Rattle.turn_session_path.specs.Asked.{asked_with, behind_round}
use Rattle.turn_session_path.specs.FullStream.{full_since}
use Rattle.turn_session_path.specs.Prober.{first_prober}
use Rattle.turn_session_path.specs.SocketErrors.{after_error}
use Rattle.turn_session_path.specs.declared.path.ErrorRequest.{ErrorRequest}
use Rattle.turn_session_path.specs.declared.path.ErrorRequest.TheVariants.{Unsent, Due}
use Rattle.turn_session_path.specs.declared.path.Path.{Path}
use Rattle.turn_session_path.specs.declared.path.PathCheck.{PathCheck}
use Rattle.turn_session_path.specs.declared.prober.Prober.{Prober}
use Rattle.turn_session_path.specs.declared.round.Asks.TheVariants.{Binding}
use Rattle.turn_session_path.specs.declared.socket_errors.ErrorRun.{ErrorRun}
use Rattle.turn_session_book.specs.declared.tags.Tag.{Tag}

abbrev pub probed_every : ℕ → Option ℕ → Option Prober
probed_every now None = None
probed_every now (Some time) = Some (first_prober time now)

abbrev pub first_path : TransportType → Option ℕ → Source → ℕ → Path
first_path transport every ids now = record {
  transport = transport;
  ids = ids;
  check = None;
  prober = probed_every now every;
  errors = record { run = None };
  error_request = Unsent;
  full = record { since = None };
  sent = None;
}

abbrev pub after_probing : Option ℕ → ℕ → Path → Path
after_probing every now p = record p { prober = probed_every now every }

-- who asks while a check is under way shares its ticket and its round
abbrev pub ticket_of : ℕ → Path → ℕ
ticket_of ticket p = by p.check
  where
    by : Option PathCheck → ℕ
    by None = ticket
    by (Some check) = check.ticket

abbrev pub begun_check : ℕ → ℕ → Path → Path
begun_check ticket now p =
    record p { check = Some (record { ticket = ticket; asked = asked_with Binding now p.ids }); ids = behind_round p.ids }

abbrev pub after_check : ℕ → ℕ → Path → Path
after_check ticket now p = by p.check
  where
    by : Option PathCheck → Path
    by None = begun_check ticket now p
    by (Some check) = p

-- the first error leads to a Binding request
abbrev pub request_after : Option ErrorRun → ErrorRequest → ErrorRequest
request_after None request = Due
request_after (Some run) request = request

-- over a stream an error is its end, which is reported by itself
abbrev pub after_failure : Tag → ℕ → Path → Path
after_failure tag now p = by p.transport
  where
    by : TransportType → Path
    by Udp = record p { errors = record { run = after_error tag now p.errors.run }; error_request = request_after p.errors.run p.error_request }
    by Tcp = p

abbrev pub after_full : ℕ → Path → Path
after_full now p = record p { full = record { since = full_since now p.full.since } }

abbrev pub after_room : Path → Path
after_room p = record p { full = record { since = None } }

abbrev pub after_sending : ℕ → Path → Path
after_sending now p = record p { sent = Some now }
