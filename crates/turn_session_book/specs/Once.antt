-- A key stands once among rows that each have one.
use Rattle.std.specs.Prelude.{ℕ, ◌≤◌, if◌then◌else◌, List, length}
use Rattle.std.specs.List.{sum_by}
use Rattle.turn_session_book.specs.Keys.{same_key}
use Rattle.turn_session_book.specs.declared.keys.Key.{Key}
use Rattle.turn_session_book.specs.declared.open_requests.OpenRequest.{OpenRequest}
use Rattle.turn_session_book.specs.declared.rests.Rest.{Rest}

abbrev pub stands : {X : Type 0} → (X → Key) → Key → X → ℕ
stands key_of key row = if same_key (key_of row) key then 1 else 0

abbrev pub times : {X : Type 0} → (X → Key) → Key → List X → ℕ
times key_of key rows = sum_by (stands key_of key) rows

-- no key stands twice
abbrev pub StandOnce : {X : Type 0} → (X → Key) → List X → Type 0
StandOnce key_of rows = (key : Key) → times key_of key rows ≤ 1

-- ---- the rows of a session

abbrev pub rest_key : Rest → Key
rest_key r = r.key

abbrev pub request_key : OpenRequest → Key
request_key r = r.key

-- what the rests of a session are at any time
pub record AreRests (rests : List Rest) : Type 0 where
  pub few : length rests ≤ 4096
  pub once : StandOnce rest_key rests

-- a key is requested once at a time, so one outcome answers all who ask for it
abbrev pub AreRequests : List OpenRequest → Type 0
AreRequests requests = StandOnce request_key requests
