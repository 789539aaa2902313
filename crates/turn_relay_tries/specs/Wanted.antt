-- What a session of a relay is asked for: what the one before it had, and what the caller requests.
use Rattle.std.specs.Prelude.{ℕ, ◌+◌, ◌-◌, ◌%◌, ◌^◌, ◌==◌, ◌&&◌, ◌||◌, min, nat_lt, not, Bool, true, false, if◌then◌else◌}
use Rattle.std.specs.Prelude.{List, [], ◌∷◌, ◌++◌, find, fold, option_map, Option, Some, None}
use Rattle.std.specs.List.{list_any}
use Rattle.turn_session_book.specs.First.{with_first, without_first}
use Rattle.turn_session_book.specs.Keys.{same_key}
use Rattle.turn_session_book.specs.declared.answers.Outcome.{Outcome}
use Rattle.turn_session_book.specs.declared.answers.Outcome.TheVariants as Outcome
use Rattle.turn_session_book.specs.declared.held.HeldGrant.{HeldGrant}
use Rattle.turn_session_book.specs.declared.keys.Key.{Key}
use Rattle.turn_session_book.specs.declared.keys.Key.TheVariants.{Channel}
use Rattle.turn_relay_tries.specs.Tasks.{sooner_of}
use Rattle.turn_relay_tries.specs.WantedState.{WantedState}
use Rattle.turn_relay_tries.specs.declared.wanted.Doubt.{Doubt}
use Rattle.turn_relay_tries.specs.declared.wanted.Unsure.{Unsure}
use Rattle.turn_relay_tries.specs.declared.wanted.Unsure.TheVariants as Unsure
use Rattle.turn_relay_tries.specs.declared.wanted.WantedKey.{WantedKey}

abbrev pub nothing_wanted : WantedState
nothing_wanted = record { keys = []; session = 0; next_ticket = 1 }

abbrev pub of_key : Key → WantedKey → Bool
of_key key row = same_key row.key key

abbrev pub is_wanted : Key → WantedState → Bool
is_wanted key s = list_any (of_key key) s.keys

abbrev pub row_of : Key → WantedState → Option WantedKey
row_of key s = find (of_key key) s.keys

abbrev pub is_channel_in : Key → Bool
is_channel_in (Channel peer) = true
is_channel_in _ = false

abbrev pub new_key : Key → Option ℕ → WantedKey
new_key key ticket = record { key = key; is_channel = is_channel_in key; ticket = ticket; asked = 0; doubt = None }

-- ---- what was lost

-- each key once
abbrev pub wanted_too : Key → WantedState → WantedState
wanted_too key s = if is_wanted key s then s else record s { keys = s.keys ++ new_key key None ∷ [] }

abbrev pub wanted_if_kept : WantedState → HeldGrant → WantedState
wanted_if_kept s grant = if grant.is_kept then wanted_too grant.key s else s

-- what its caller keeps of a session that ends
abbrev pub wanted_all : List HeldGrant → WantedState → WantedState
wanted_all grants s = fold wanted_if_kept s grants

-- ---- what the caller requests

abbrev pub behind_ticket : WantedState → WantedState
behind_ticket s = record s { next_ticket = (s.next_ticket + 1) % 2 ^ 32 }

abbrev pub added : Key → WantedState → WantedState
added key s = behind_ticket (record s { keys = s.keys ++ new_key key (Some s.next_ticket) ∷ [] })

abbrev pub ticketed_by : ℕ → WantedKey → WantedKey
ticketed_by ticket row = record row { ticket = Some ticket }

abbrev pub ticketed : Key → ℕ → WantedState → WantedState
ticketed key ticket s = record s { keys = with_first (of_key key) (ticketed_by ticket) s.keys }

-- a request of the same key that has no outcome yet has the ticket
abbrev pub next_of : WantedKey → WantedState → ℕ
next_of row s = by row.ticket
  where
    by : Option ℕ → ℕ
    by (Some ticket) = ticket
    by None = s.next_ticket

abbrev pub with_ticket : WantedKey → WantedState → WantedState
with_ticket row s = by row.ticket
  where
    by : Option ℕ → WantedState
    by (Some ticket) = s
    by None = ticketed row.key s.next_ticket (behind_ticket s)

abbrev pub ticket_for : Key → WantedState → ℕ
ticket_for key s = by (row_of key s)
  where
    by : Option WantedKey → ℕ
    by (Some row) = next_of row s
    by None = s.next_ticket

abbrev pub after_request : Key → WantedState → WantedState
after_request key s = by (row_of key s)
  where
    by : Option WantedKey → WantedState
    by (Some row) = with_ticket row s
    by None = added key s

-- ---- what the session is asked for

-- another session is asked for all
abbrev pub anew : WantedState → WantedState
anew s = record s { session = min (s.session + 1) (2 ^ 64 - 1) }

-- the answer of this session is in doubt
abbrev pub is_doubted_in : ℕ → WantedKey → Bool
is_doubted_in session row = by row.doubt
  where
    by : Option Doubt → Bool
    by (Some doubt) = doubt.session == session
    by None = false

abbrev pub is_open_channel_in : ℕ → WantedKey → Bool
is_open_channel_in session row = row.is_channel && not (is_doubted_in session row)

-- a channel brings the permission of its IP address (RFC 8656, section 12)
abbrev pub waits_for_channels : WantedState → Bool
waits_for_channels s = list_any (is_open_channel_in s.session) s.keys

abbrev pub is_due_in : Bool → ℕ → WantedKey → Bool
is_due_in waits session row = nat_lt row.asked session && (row.is_channel || not waits)

abbrev pub is_next : WantedState → WantedKey → Bool
is_next s = is_due_in (waits_for_channels s) s.session

abbrev pub key_in : WantedKey → Key
key_in row = row.key

-- the first key that waits for nothing
abbrev pub next_key : WantedState → Option Key
next_key s = option_map key_in (find (is_next s) s.keys)

abbrev pub asked_by : ℕ → WantedKey → WantedKey
asked_by session row = record row { asked = session }

abbrev pub after_asking : Key → WantedState → WantedState
after_asking key s = record s { keys = with_first (of_key key) (asked_by s.session) s.keys }

-- ---- what becomes of it

abbrev pub after_answer : Key → WantedState → WantedState
after_answer key s = record s { keys = without_first (of_key key) s.keys }

abbrev pub doubted_by : Doubt → WantedKey → WantedKey
doubted_by doubt row = record row { doubt = Some doubt }

-- the next session is asked again, unless this one goes on
abbrev pub after_doubt : Key → Unsure → ℕ → WantedState → WantedState
after_doubt key answer until s =
    record s { keys = with_first (of_key key) (doubted_by (record { session = s.session; until = until; answer = answer })) s.keys }

abbrev pub outcome_of : Unsure → Outcome
outcome_of (Unsure.Refused error) = Outcome.Refused error
outcome_of (Unsure.TimedOut error) = Outcome.TimedOut error

-- the answer of this session counts, since the session goes on
abbrev pub begins_to_count : ℕ → ℕ → WantedKey → Bool
begins_to_count now session row = by row.doubt
  where
    by : Option Doubt → Bool
    by (Some doubt) = (doubt.session == session) && not (nat_lt now doubt.until)
    by None = false

abbrev pub counts_at : ℕ → WantedState → Option WantedKey
counts_at now s = find (begins_to_count now s.session) s.keys

abbrev pub sooner_doubt : ℕ → Option ℕ → WantedKey → Option ℕ
sooner_doubt session due row = by row.doubt
  where
    by : Option Doubt → Option ℕ
    by (Some doubt) = if doubt.session == session then sooner_of due doubt.until else due
    by None = due

-- the least of the times at which an answer of this session counts
abbrev pub due_in : ℕ → List WantedKey → Option ℕ
due_in session keys = fold (sooner_doubt session) None keys

-- ---- when a session is as the one before it was

-- an earlier session had it, and this one has no answer yet
abbrev pub is_wanted_again : ℕ → WantedKey → Bool
is_wanted_again session row = by row.ticket
  where
    by : Option ℕ → Bool
    by (Some ticket) = false
    by None = not (is_doubted_in session row)

abbrev pub is_restored : WantedState → Bool
is_restored s = not (list_any (is_wanted_again s.session) s.keys)
