-- A new session.
use Rattle.std.specs.Prelude.{◌≡◌, ℕ, ◌==◌, if◌then◌else◌, max, unwrap_or, List, [], length, Option, Some, None, IsSome, Result, Ok, Err, IsOk}
use Rattle.std.specs.Option.{option_map}
use Rattle.turn_auth.specs.Credentials.{Credentials}
use Rattle.turn_client_api.specs.Config.{Config, least_keepalive, least_refresh_ahead}
use Rattle.turn_client_api.specs.State.{State, initial}
use Rattle.turn_client_calls.specs.Checks.{needed}
use Rattle.turn_client_calls.specs.Settings.{config_with, credentials_with}
use Rattle.turn_c_calls.specs.Held.{Held, held}
use Rattle.turn_c_calls.specs.Settings.{plan_of}
use Rattle.turn_c_calls.specs.declared.code.TheConstants.{BAD_CREDENTIALS, BAD_SEED, BAD_SETTINGS, OUT_OF_MEMORY}
use Rattle.turn_c_calls.specs.declared.opening.OpenError.{OpenError}
use Rattle.turn_c_calls.specs.declared.opening.OpenError.TheVariants as Errors
use Rattle.turn_c_calls.specs.declared.settings.Plan.{Plan}
use Rattle.turn_c_calls.specs.declared.settings.Settings.{Settings}

-- 32 bytes
abbrev pub c_seed : List ℕ → Option (List ℕ)
c_seed seed = if length seed == 32 then Some seed else None

-- the same with another limit of challenges, if it is one
abbrev pub limited : ℕ → Config → Config
limited limit config = record config { max_stale_nonces = if limit == 0 then config.max_stale_nonces else limit }

-- the same with the times that a plan has, of which two are at least the least that a configuration takes, and from when on
-- requests wait for their responses
abbrev pub paced : Plan → Config → Config
paced plan config = record config {
  request_cadence = unwrap_or plan.request_cadence config.request_cadence;
  keepalive = option_map (max least_keepalive) plan.keepalive;
  refresh_ahead = unwrap_or (option_map (max least_refresh_ahead) plan.refresh_ahead) config.refresh_ahead;
  timed_from_send = plan.timed_from_send;
}

abbrev pub config_of : Plan → Credentials → Config
config_of plan credentials = paced plan (limited plan.max_stale_nonces (config_with plan.request credentials plan.waits))

-- the new client of a plan
abbrev pub new_client : Plan → Credentials → List ℕ → State
new_client plan credentials seed =
    initial plan.ends.transport plan.ends.local plan.ends.remote (config_of plan credentials) seed

-- of which nothing is to be read
abbrev pub new_session : Plan → Credentials → List ℕ → Held
new_session plan credentials seed = held (new_client plan credentials seed) []

-- the requested session, or the first error
abbrev pub session_of : Settings → List ℕ → List ℕ → List ℕ → Result Held OpenError
session_of settings user password seed =
    needed (plan_of settings) Errors.Settings (λ plan.
    needed (credentials_with user password) Errors.Credentials (λ credentials.
    needed (c_seed seed) Errors.Seed (λ seed. Ok (new_session plan credentials seed))))

-- why there are no credentials: they are invalid, or memory allocation failed
abbrev pub IsNoUser : List ℕ → List ℕ → OpenError → Type 0
IsNoUser user password Errors.Credentials = credentials_with user password ≡ None
IsNoUser user password Errors.OutOfMemory = IsSome (credentials_with user password)
IsNoUser user password _ = ⊥

-- why there is none: the first error, or if there is none memory allocation failed
abbrev pub Refuses : Result Held OpenError → OpenError → Type 0
Refuses said Errors.OutOfMemory = IsOk said
Refuses said fault = said ≡ Err fault

abbrev pub error_code : OpenError → ℕ
error_code Errors.Settings = BAD_SETTINGS
error_code Errors.Credentials = BAD_CREDENTIALS
error_code Errors.Seed = BAD_SEED
error_code Errors.OutOfMemory = OUT_OF_MEMORY
