-- The credentials of a client (RFC 8489, section 9.2).
use Rattle.std.specs.Prelude.{ℕ, ◌≤◌, List, length}

-- the bytes of the user name and of the password
pub record Credentials : Type 0 where
  pub user : List ℕ
  pub password : List ℕ

-- the user name is one that a USERNAME can carry (section 14.3)
pub record IsUser (user : List ℕ) : Type 0 where
  pub some : 1 ≤ length user
  pub short : length user ≤ 508

-- what holds for all credentials; the bound on the password is our choice
pub record IsCredentials (credentials : Credentials) : Type 0 where
  pub user : IsUser credentials.user
  pub password : length credentials.password ≤ 65535

abbrev pub user_of : Credentials → List ℕ
user_of credentials = credentials.user

abbrev pub password_of : Credentials → List ℕ
password_of credentials = credentials.password
