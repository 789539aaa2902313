-- The first line of a trace: the client and its server.
use Rattle.std.specs.Prelude.{ℕ, ◌-◌, ◌^◌, Bool, true, false, if◌then◌else◌, List, [], ◌∷◌, codes, Option, Some, None}
use Rattle.std.specs.Option.{option_map}
use Rattle.std.specs.Str.{bytes_eq}
use Rattle.turn_types.specs.declared.family.AddressFamily.{AddressFamily}
use Rattle.turn_types.specs.declared.family.AddressFamily.TheVariants.{IPV4, IPV6}
use Rattle.turn_auth.specs.Credentials.{Credentials}
use Rattle.turn_auth.specs.declared.feature.Feature.{Feature}
use Rattle.turn_auth.specs.declared.feature.Feature.TheVariants.{Auto, Disabled, Required}
use Rattle.turn_auth.specs.declared.integrity.IntegrityAlgorithm.{IntegrityAlgorithm}
use Rattle.turn_auth.specs.declared.integrity.IntegrityAlgorithm.TheVariants.{Sha1, Sha256}
use Rattle.turn_client_calls.specs.Checks.{◌>>=◌}
use Rattle.turn_client_calls.specs.Settings.{credentials_with, relayed_for}
use Rattle.turn_client_calls.specs.declared.settings.Ends.{Ends}
use Rattle.turn_client_calls.specs.declared.settings.Request.{Request}
use Rattle.turn_client_calls.specs.declared.settings.Waits.{Waits}
use Rattle.turn_lines.specs.Address.{address_of}
use Rattle.turn_lines.specs.Field.{bytes_of, seed_of, transport_of}
use Rattle.turn_lines.specs.Number.{decimal_up_to}
use Rattle.turn_lines.specs.Parts.{parts_of, next, ends}
use Rattle.turn_lines.specs.declared.head.Head.{Head}

-- one family or both, in this order
abbrev pub families_of : List ℕ → Option (AddressFamily × Option AddressFamily)
families_of text =
    if bytes_eq text (codes "4") then Some (IPV4, None)
    else if bytes_eq text (codes "6") then Some (IPV6, None)
    else if bytes_eq text (codes "4,6") then Some (IPV4, Some IPV6)
    else if bytes_eq text (codes "6,4") then Some (IPV6, Some IPV4)
    else None

-- one algorithm or both, in this order
abbrev pub algorithms_of : List ℕ → Option (IntegrityAlgorithm × Option IntegrityAlgorithm)
algorithms_of text =
    if bytes_eq text (codes "sha1") then Some (Sha1, None)
    else if bytes_eq text (codes "sha256") then Some (Sha256, None)
    else if bytes_eq text (codes "sha1,sha256") then Some (Sha1, Some Sha256)
    else if bytes_eq text (codes "sha256,sha1") then Some (Sha256, Some Sha1)
    else None

abbrev pub feature_of : List ℕ → Option Feature
feature_of text =
    if bytes_eq text (codes "auto") then Some Auto
    else if bytes_eq text (codes "required") then Some Required
    else if bytes_eq text (codes "disabled") then Some Disabled
    else None

-- T LOCAL REMOTE
unfoldable pub ends_of : List (List ℕ) → Option (Ends × List (List ℕ))
ends_of fields = do
  transport ← next transport_of fields
  local ← next address_of transport.1
  remote ← next address_of local.1
  Some (record { transport = transport.0; local = local.0; remote = remote.0 }, remote.1)

-- ALLOC FAMS INTEG ANON
unfoldable pub request_of : List (List ℕ) → Option (Request × List (List ℕ))
request_of fields = do
  allocation ← next transport_of fields
  families ← next families_of allocation.1
  algorithms ← next algorithms_of families.1
  anonymous ← next feature_of algorithms.1
  Some (record { allocation = allocation.0; families = families.0; algorithms = algorithms.0; anonymous = anonymous.0 }, anonymous.1)

-- USER PASS
unfoldable pub credentials_of : List (List ℕ) → Option (Credentials × List (List ℕ))
credentials_of fields = do
  user ← next bytes_of fields
  password ← next bytes_of user.1
  credentials ← credentials_with user.0 password.0
  Some (credentials, password.1)

-- INITIAL,MAX,COUNT,FINAL
unfoldable pub waits_of : List ℕ → Option Waits
waits_of text = do
  initial ← next (decimal_up_to (2 ^ 64 - 1)) (parts_of 44 text)
  max ← next (decimal_up_to (2 ^ 64 - 1)) initial.1
  count ← next (decimal_up_to (2 ^ 32 - 1)) max.1
  last ← next (decimal_up_to (2 ^ 64 - 1)) count.1
  _ ← ends last.1
  Some (record { initial = initial.0; max = max.0; count = count.0; last = last.0 })

-- the word for requests that are timed from their first copies
abbrev pub is_from_send : List ℕ → Bool
is_from_send text = bytes_eq text (codes "timed_from_send")

-- whether that word is left, and no field after it
abbrev pub from_send_of : List (List ℕ) → Option Bool
from_send_of [] = Some false
from_send_of (field ∷ fields) = if is_from_send field then option_map (λ _. true) (ends fields) else None

-- the retransmission times, if there is a field for them, and whether the word is the last field
abbrev pub timing_of : List (List ℕ) → Option (Option Waits × Bool)
timing_of [] = Some (None, false)
timing_of (field ∷ fields) =
    if is_from_send field then option_map (λ _. (None, true)) (ends fields)
    else do
      waits ← waits_of field
      from_send ← from_send_of fields
      Some (Some waits, from_send)

-- T LOCAL REMOTE ALLOC FAMS INTEG ANON USER PASS SEED, and optionally how requests are timed
unfoldable pub head_of : List ℕ → Option Head
head_of line = do
  places ← ends_of (parts_of 32 line)
  request ← request_of places.1
  _ ← relayed_for places.0.transport request.0.allocation
  credentials ← credentials_of request.1
  seed ← next seed_of credentials.1
  timing ← timing_of seed.1
  Some (record {
    ends = places.0;
    request = request.0;
    credentials = credentials.0;
    seed = seed.0;
    waits = timing.0;
    timed_from_send = timing.1;
  })
