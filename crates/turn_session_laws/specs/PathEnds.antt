-- What a path ends by.
use Rattle.std.specs.Prelude.{◌≡◌, ◌⊎◌, ℕ, zero, suc, ◌+◌, ◌-◌, ◌^◌, ◌≤◌, min, true, List, [], ◌∷◌, Option, Some, None}
use Rattle.turn_stun.specs.declared.transport.TransportType.{TransportType}
use Rattle.turn_agent.specs.TransactionIds.{Source}
use Rattle.turn_session_book.specs.declared.causes.Why.{Why}
use Rattle.turn_session_book.specs.declared.causes.Why.TheVariants.{SocketErrors, StreamFull, Unanswered}
use Rattle.turn_session_book.specs.declared.tags.Tag.{Tag}
use Rattle.turn_session_path.specs.Path.{first_path}
use Rattle.turn_session_path.specs.PathPoll.{path_step}
use Rattle.turn_session_path.specs.declared.path.Path.{Path}
use Rattle.turn_session_path.specs.declared.path.PathTask.{PathTask}
use Rattle.turn_session_path.specs.declared.path.PathTask.TheVariants.{Send, End}
use Rattle.turn_session_laws.specs.PathRuns.{IsError, IsSignAt, PathCall, is_quiet, is_still_full, path_after}
use Rattle.turn_session_laws.specs.PathRuns.PathCall.{Failed, Full, Polled}

-- so many nanoseconds later
abbrev pub after : ℕ → ℕ → ℕ
after nanos time = min (time + nanos) (2 ^ 63 - 1)

-- ---- checks in a row

abbrev pub IsRequest : Option PathTask → Type 0
IsRequest (Some (Send request id)) = Unit {0}
IsRequest _ = ⊥

-- So many checks in a row: each began with a request and was over 3.5 s later, and since the first began nothing was received.
-- One more is under way since the time that is given, if one is.
abbrev pub AreSilent : Path → ℕ → Option ℕ → List PathCall → Type 0
AreSilent first zero None before = Unit {0}
AreSilent first (suc n) None [] = ⊥
AreSilent first (suc n) None (call ∷ before) =
    (is_quiet call (path_after first before) ≡ true)
    × (AreSilent first (suc n) None before
    ⊎ ((now : ℕ) × (began : ℕ) × (call ≡ Polled now) × (after 3_500_000_000 began ≤ now) × AreSilent first n (Some began) before))
AreSilent first n (Some began) [] = ⊥
AreSilent first n (Some began) (call ∷ before) =
    ((is_quiet call (path_after first before) ≡ true) × AreSilent first n (Some began) before)
    ⊎ ((call ≡ Polled began) × IsRequest (path_step began (path_after first before)).0 × AreSilent first n None before)

-- ---- errors of the socket

-- the first one, with this tag and at this time, and so many more, and nothing was received since
abbrev pub AreErrors : Path → ℕ → Tag → ℕ → List PathCall → Type 0
AreErrors first n tag at [] = ⊥
AreErrors first zero tag at (call ∷ before) =
    (is_quiet call (path_after first before) ≡ true) × (AreErrors first zero tag at before ⊎ (call ≡ Failed tag at))
AreErrors first (suc n) tag at (call ∷ before) =
    (is_quiet call (path_after first before) ≡ true)
    × (AreErrors first (suc n) tag at before ⊎ (IsError call × AreErrors first n tag at before))

-- ---- a full stream

-- it is full, and nothing was received since this time
abbrev pub IsFullSince : Path → ℕ → List PathCall → Type 0
IsFullSince first since [] = ⊥
IsFullSince first since (call ∷ before) =
    (call ≡ Full since)
    ⊎ ((IsSignAt since call (path_after first before) × (earlier : ℕ) × IsFullSince first earlier before)
    ⊎ ((is_still_full call (path_after first before) ≡ true) × IsFullSince first since before))

-- ---- the end

-- a path that is polled at this time: three checks in a row had no response, an error of the socket was followed by three more, at
-- least 3 s ago, or a stream is full since 60 s, and nothing was received meanwhile
abbrev pub PathEndsBy : Path → Why → ℕ → List PathCall → Type 0
PathEndsBy first (Unanswered n) now before = (n ≡ 3) × AreSilent first 3 None (Polled now ∷ before)
PathEndsBy first (SocketErrors tag) now before = (at : ℕ) × (after 3_000_000_000 at ≤ now) × AreErrors first 3 tag at before
PathEndsBy first StreamFull now before = (since : ℕ) × (after 60_000_000_000 since ≤ now) × IsFullSince first since before
PathEndsBy first _ now before = ⊥

-- whatever was called before
abbrev pub PathsEndByCauses : Type 0
PathsEndByCauses =
    (transport : TransportType) (every : Option ℕ) (ids : Source) (began now : ℕ) (before : List PathCall) (why : Why)
    → (path_step now (path_after (first_path transport every ids began) before)).0 ≡ Some (End why)
    → PathEndsBy (first_path transport every ids began) why now before
