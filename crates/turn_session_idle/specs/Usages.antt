-- The uses of all grants.
use Rattle.std.specs.Prelude.{ℕ, Bool, List, find, unwrap_or}
use Rattle.turn_session_book.specs.Keys.{same_key}
use Rattle.turn_session_book.specs.declared.held.HeldGrant.{HeldGrant}
use Rattle.turn_session_book.specs.declared.keys.Key.{Key}
use Rattle.turn_session_idle.specs.Usage.{looked_at, new_usage}
use Rattle.turn_session_idle.specs.declared.usage.Usage.{Usage}

abbrev pub is_usage_of : Key → Usage → Bool
is_usage_of key u = same_key u.key key

-- a grant that is not known yet is used now
abbrev pub usage_of : Key → ℕ → List Usage → Usage
usage_of key now usages = unwrap_or (find (is_usage_of key) usages) (new_usage key now)

-- what is granted, after a look at its peer
abbrev pub grant_at : ℕ → ℕ → List Usage → HeldGrant → Usage
grant_at idle now usages g = looked_at g.is_kept idle now (usage_of g.key now usages)
