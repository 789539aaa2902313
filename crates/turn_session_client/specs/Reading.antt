-- Responses to requests of the client: what they say, and what of it counts once the client has accepted or ignored them.
use Rattle.std.specs.Prelude.{◌≡◌, ◌⊎◌, ◌==◌, ◌||◌, ℕ, Bool, true, false, not, if◌then◌else◌, List, slice_get, Option, Some, None}
use Rattle.std.specs.Prelude.{IsSome, is_some, option_and_then, option_map}
use Rattle.std.specs.declared.net.socket_addr.SocketAddr.{SocketAddr}
use Rattle.turn_stun.specs.Message.{IsMessage, attributes_of, fault_of, id_of, type_of}
use Rattle.turn_stun.specs.declared.message.header.MessageClass.{MessageClass}
use Rattle.turn_stun.specs.declared.message.header.MessageClass.TheVariants as Class
use Rattle.turn_client_api.specs.Grants.{purposes_of}
use Rattle.turn_client_api.specs.Judgement.{class_in, lifetime_in, method_in}
use Rattle.turn_client_api.specs.RequestViews.{viewed_request}
use Rattle.turn_client_api.specs.Requests.{method_for}
use Rattle.turn_client_api.specs.State.{State}
use Rattle.turn_client_api.specs.declared.grant.Purpose.{Purpose}
use Rattle.turn_client_api.specs.declared.grant.Purpose.TheVariants.{ForAllocation, ForRefresh, ForPermission, ForChannel, ForConnect, ForBind}
use Rattle.turn_hints.specs.Hints.{mapped_in}
use Rattle.turn_session_book.specs.declared.keys.Key.{Key}
use Rattle.turn_session_book.specs.declared.keys.Key.TheVariants.{Permission, Channel, Connect}
use Rattle.turn_session_book.specs.declared.replies.ErrorReply.{ErrorReply}
use Rattle.turn_session_life.specs.declared.responses.Asked.{Asked}
use Rattle.turn_session_life.specs.declared.responses.Asked.TheVariants.{Allocate, Refresh, Other}
use Rattle.turn_session_life.specs.declared.responses.Response.{Response}
use Rattle.turn_session_life.specs.declared.responses.Said.{Said}
use Rattle.turn_session_life.specs.declared.responses.Said.TheVariants.{Granted, Denied, Nothing}
use Rattle.turn_session_client.specs.Answering.{IsReply, is_channel_data}
use Rattle.turn_session_client.specs.declared.reading.Reading.{Reading}
use Rattle.turn_session_client.specs.declared.reading.Text.{Text}
use Rattle.turn_session_client.specs.declared.reading.Text.TheVariants.{Success, Error}

-- ---- what is received

abbrev pub asked_for : Purpose → Asked
asked_for ForAllocation = Allocate
asked_for (ForRefresh family lifetime) = Refresh
asked_for _ = Other

-- the grant that a request was made for; a CONNECTION_BIND ends what a CONNECT began (RFC 6062, section 4.3)
abbrev pub key_for : Purpose → Option Key
key_for (ForPermission ip) = Some (Permission ip)
key_for (ForChannel number peer) = Some (Channel peer)
key_for (ForConnect peer) = Some (Connect peer)
key_for (ForBind local peer id) = Some (Connect peer)
key_for _ = None

-- what a success and an error say; requests and indications are none
abbrev pub IsText : List ℕ → Option Text → Type 0
IsText bytes text = by (class_in bytes) text
  where
    by : MessageClass → Option Text → Type 0
    by Class.Success (Some (Success lifetime mapped)) = (lifetime ≡ lifetime_in bytes) × (mapped ≡ mapped_in bytes)
    by Class.Error (Some (Error reply)) = IsReply bytes reply
    by Class.Request None = Unit {0}
    by Class.Indication None = Unit {0}
    by _ _ = ⊥

abbrev pub first_purpose : List ℕ → State → Option Purpose
first_purpose bytes s = slice_get (purposes_of (id_of bytes) s) 0

-- a CHANNEL_BIND is for a permission too, if none was there (RFC 8656, section 12.2)
abbrev pub second_purpose : List ℕ → State → Option Purpose
second_purpose bytes s = slice_get (purposes_of (id_of bytes) s) 1

-- a response answers the request that the client lists under its ID
pub record IsResponseTo (bytes : List ℕ) (s : State) (r : Reading) : Type 0 where
  pub is_message : is_channel_data bytes ≡ false
  pub is_valid : IsMessage bytes (type_of bytes) (id_of bytes) (attributes_of bytes)
  pub asked : option_map asked_for (first_purpose bytes s) ≡ Some r.asked
  pub key : option_map key_for (first_purpose bytes s) ≡ Some r.key
  pub second : r.second ≡ option_and_then key_for (second_purpose bytes s)
  pub is_awaited : r.is_awaited ≡ is_some (viewed_request (id_of bytes) s).resends
  pub text : IsText bytes (Some r.text)

-- nothing is read of ChannelData, of what is no message, of one that answers no request, and of one that is no response
abbrev pub IsReading : List ℕ → State → Option Reading → Type 0
IsReading bytes s (Some r) = IsResponseTo bytes s r
IsReading bytes s None =
    (is_channel_data bytes ≡ true) ⊎ (IsSome (fault_of bytes) ⊎ ((first_purpose bytes s ≡ None) ⊎ IsText bytes None))

-- what others than the server send answers no request
abbrev pub IsReadingFrom : Bool → List ℕ → State → Option Reading → Type 0
IsReadingFrom true bytes s reading = IsReading bytes s reading
IsReadingFrom false bytes s reading = reading ≡ None

-- ---- a response that answers nothing

-- it has another method than the request with its ID (RFC 8489, section 6.3)
abbrev pub has_other_method : List ℕ → State → Bool
has_other_method bytes s = by (class_in bytes) (first_purpose bytes s)
  where
    by : MessageClass → Option Purpose → Bool
    by Class.Success (Some purpose) = not (method_for purpose == method_in bytes)
    by Class.Error (Some purpose) = not (method_for purpose == method_in bytes)
    by _ _ = false

abbrev pub is_foreign : List ℕ → State → Bool
is_foreign bytes s = if is_channel_data bytes || is_some (fault_of bytes) then false else has_other_method bytes s

-- ---- what of it counts

-- its error is that of the events of a client that accepts it
abbrev pub reply_in : Option Reading → Option ErrorReply
reply_in None = None
reply_in (Some r) = by r.text
  where
    by : Text → Option ErrorReply
    by (Success lifetime mapped) = None
    by (Error reply) = Some reply

-- a success counts that the client accepted, and an error to a request that awaits its response, accepted or not
abbrev pub said_by : Text → Bool → Bool → Said
said_by (Success lifetime mapped) is_awaited true = Granted lifetime
said_by (Error reply) true is_taken = Denied (record reply { is_taken = is_taken })
said_by _ _ _ = Nothing

abbrev pub response_to : Reading → Bool → Response
response_to r is_taken = record { asked = r.asked; said = said_by r.text r.is_awaited is_taken }

-- an error that the client has ignored, which anyone may have sent
abbrev pub ignored_in : Response → Option ErrorReply
ignored_in r = by r.said
  where
    by : Said → Option ErrorReply
    by (Denied error) = if not error.is_taken then Some error else None
    by _ = None

-- an error of the ALLOCATE that is not signed
abbrev pub hint_in : Response → Option ErrorReply
hint_in r = by r.asked r.said
  where
    by : Asked → Said → Option ErrorReply
    by Allocate (Denied error) = if not error.is_taken then Some error else None
    by _ _ = None

-- the mapped address is that of a success of the ALLOCATE that the client accepted
abbrev pub mapped_after : Reading → Bool → Option SocketAddr → Option SocketAddr
mapped_after r is_taken before = by r.asked r.text is_taken
  where
    by : Asked → Text → Bool → Option SocketAddr
    by Allocate (Success lifetime mapped) true = mapped
    by _ _ _ = before
