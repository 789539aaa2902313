-- A session to which a C program has a pointer.
use Rattle.std.specs.Prelude.{◌≡◌, ℕ, List, if◌then◌else◌}
use Prim.Native.Nat.{zero, suc}
use mir.Syntax.{Ty}
use base.Fraction.{full_share}
use base.Fml.{Fml, ftrue, fsep, fex}
use denote.RattleType.{RattleType}
use denote.RawPtr.{Ptr, block_ptr, null_ptr}
use Rattle.std.specs.Box.Ownership.{box_owns}
use Rattle.std.specs.declared.alloc.Global.{Global}
use Rattle.std.specs.contracts.impls.GlobalAllocator.TheImpl.{ghosts}
use Rattle.turn_c_calls.specs.Head.{Responds, asks_for_head}
use Rattle.turn_c_calls.specs.Held.{Held}
use Rattle.turn_c_calls.specs.Look.{LooksAt}
use Rattle.turn_c_calls.specs.declared.answer.Answer.{Answer}
use Rattle.turn_c_calls.specs.declared.request.Request.{Request}
use Rattle.turn_c_calls.specs.declared.settings.Settings.{Settings}
use Rattle.turn_c_calls.specs.contracts.session.Session.{the_row}
use Rattle.turn_c.specs.Bytes.{Given, bytes_at}
use Rattle.turn_c.specs.Starts.{IsStarted, NewIsRefused}

-- `Global` takes no bytes, so there is one
abbrev pub heap : Global
heap = record { memory = record { seal = tt } }

-- the right of `Global` to free a block
abbrev pub freeable : Ty → Ptr → Fml
freeable = ghosts.dealloc_token heap

-- the memory at p is a box of the value, that `Global` may free
abbrev pub boxed : (R : RattleType) → Ptr → R.Denot → Fml
boxed R p x = box_owns freeable R p x

abbrev pub holds_at : Ptr → Held → Fml
holds_at p session = boxed the_row p session

-- 0 and the requested session at the place, or the number of the error and the place as it was
abbrev pub new_at : Settings → List ℕ → List ℕ → List ℕ → Ptr → Ptr → ℕ → Fml
new_at settings user password seed before after zero =
    fex Held (λ session. fsep (holds_at after session) (fex (IsStarted settings user password seed session) (λ _. ftrue)))
new_at settings user password seed before after (suc n) =
    fex (NewIsRefused settings user password seed (suc n) × (after ≡ before)) (λ _. ftrue)

-- what a new session is made of, beside its settings
pub record Named : Type 0 where
  pub user : Given
  pub password : Given
  pub seed : Given

-- the bytes of the three, each at its pointer
abbrev pub named_at : Ptr → ℕ → Ptr → ℕ → Ptr → ℕ → Named → Fml
named_at user user_len password password_len seed seed_len given =
    fsep (bytes_at given.user.share user user_len given.user.bytes)
    (fsep (bytes_at given.password.share password password_len given.password.bytes) (bytes_at given.seed.share seed seed_len given.seed.bytes))

-- what is passed to a call beside its request: the session, the bytes, and the buffer as it was
pub record Passed : Type 0 where
  pub session : Held
  pub given : Given
  pub buffer : List ℕ

-- how many bytes of the data a request reads: for a head it only counts them
abbrev pub read_len : Request → ℕ → ℕ
read_len request len = if asks_for_head request then 0 else len

-- what a request does with these bytes, of data of this length, and the kind of its answer
abbrev pub CallDoes : Request → List ℕ → ℕ → Held → Held → List ℕ → List ℕ → Answer → Answer → ℕ → Type 0
CallDoes request bytes len was now buffer after a b kind = Responds request bytes len was now buffer after a b × (kind ≡ b.kind)

-- the same box, at what the request makes of its value
abbrev pub kept_at : Ptr → Held → Request → List ℕ → ℕ → List ℕ → List ℕ → Answer → Answer → ℕ → Fml
kept_at p was request bytes len buffer after a b kind =
    fex Held (λ now. fsep (holds_at p now) (fex (CallDoes request bytes len was now buffer after a b kind) (λ _. ftrue)))

-- the bytes and the buffer, each at its pointer
abbrev pub passed_at : Ptr → ℕ → Ptr → ℕ → Passed → Fml
passed_at bytes bytes_len buffer buffer_len was =
    fsep (bytes_at was.given.share bytes bytes_len was.given.bytes) (bytes_at full_share buffer buffer_len was.buffer)

-- the same box and the same bytes, as far as they are read, and the buffer with what was written
abbrev pub called_at : Ptr → Ptr → ℕ → Ptr → ℕ → Request → Passed → Answer → Answer → ℕ → Fml
called_at p bytes bytes_len buffer buffer_len request was a b kind =
    fex (List ℕ) (λ after. fsep (kept_at p was.session request was.given.bytes bytes_len was.buffer after a b kind)
    (passed_at bytes (read_len request bytes_len) buffer buffer_len (record was { buffer = after })))

-- a session that may be freed, or at null none
abbrev pub held_at : Ptr → Held → Fml
held_at null_ptr session = ftrue
held_at (block_ptr b o) session = holds_at (block_ptr b o) session

-- what a request that only looks is answered, and the kind of its answer
abbrev pub LookDoes : Request → Held → Answer → Answer → ℕ → Type 0
LookDoes request was a b kind = LooksAt request was a b × (kind ≡ b.kind)
