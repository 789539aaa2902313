-- The arguments of the calls that only a session has.
use Rattle.std.specs.Prelude.{ℕ, ◌-◌, ◌^◌, if◌then◌else◌, List, codes, Option, Some, None}
use Rattle.std.specs.Option.{option_map}
use Rattle.std.specs.Str.{bytes_eq}
use Rattle.std.specs.declared.net.socket_addr.SocketAddr.{SocketAddr}
use Rattle.turn_client_calls.specs.Checks.{◌>>=◌}
use Rattle.turn_lines.specs.Address.{address_of, ip_of}
use Rattle.turn_lines.specs.Number.{decimal_up_to}
use Rattle.turn_lines.specs.Parts.{next, ends}
use Rattle.turn_session_book.specs.declared.keys.Key.{Key}
use Rattle.turn_session_book.specs.declared.keys.Key.TheVariants.{Permission, Channel, Connect}
use Rattle.turn_session_book.specs.declared.tags.Tag.{Tag}

abbrev pub key_in : List ℕ → List ℕ → Option Key
key_in kind whose =
    if bytes_eq kind (codes "permission") then option_map Permission (ip_of whose)
    else if bytes_eq kind (codes "channel") then option_map Channel (address_of whose)
    else if bytes_eq kind (codes "connect") then option_map Connect (address_of whose)
    else None

-- `permission IP`, `channel PEER` or `connect PEER`
unfoldable pub key_of : List (List ℕ) → Option Key
key_of fields = do
  kind ← next Some fields
  whose ← next Some kind.1
  _ ← ends whose.1
  key_in kind.0 whose.0

abbrev pub tag_in : List ℕ → Option Tag
tag_in text = option_map (λ number. record { 0 = number }) (decimal_up_to (2 ^ 32 - 1) text)

unfoldable pub tag_of : List (List ℕ) → Option Tag
tag_of fields = do
  tag ← next tag_in fields
  _ ← ends tag.1
  Some tag.0

abbrev pub optional_tag_in : List ℕ → Option (Option Tag)
optional_tag_in text = if bytes_eq text (codes "-") then Some None else option_map Some (tag_in text)

-- `-` for no error
unfoldable pub optional_tag_of : List (List ℕ) → Option (Option Tag)
optional_tag_of fields = do
  tag ← next optional_tag_in fields
  _ ← ends tag.1
  Some tag.0

-- LOCAL PEER TAG
unfoldable pub closed_of : List (List ℕ) → Option (SocketAddr × SocketAddr × Tag)
closed_of fields = do
  local ← next address_of fields
  peer ← next address_of local.1
  tag ← tag_of peer.1
  Some (local.0, peer.0, tag)
