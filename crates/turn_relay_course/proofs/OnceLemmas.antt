-- In one life each server is tried once.
use Rattle.std.proofs.Common.{◌≡◌, ◌∙◌, ℕ, ◌+◌, ◌-◌, ◌^◌, ◌<◌, ◌≤◌, ◌||◌, ◌&&◌, min, nat_lt, not, Bool, true, false, if◌then◌else◌}
use Rattle.std.proofs.Common.{List, [], ◌∷◌, length, Some, None, arith, refl, subst, sym}
use Rattle.std.proofs.lemmas.Bool.{ltb-true}
use Rattle.turn_relay_tries.specs.Failures.{after_failure, is_last}
use Rattle.turn_relay_tries.specs.declared.causes.Cause.{Cause}
use Rattle.turn_relay_course.specs.Course.{begun_try, ends_in, failed_in, had_address, is_own_error, is_resting, left_in, opened_in}
use Rattle.turn_relay_course.specs.Course.{ready_in, restored_in}
use Rattle.turn_relay_course.specs.Runs.{Call, begin_times, begun_by, step, with_time}
use Rattle.turn_relay_course.specs.Runs.Call.{Begin, Ready, Heard, Opened, Restored, Failed, Leave}
use Rattle.turn_relay_course.specs.declared.course.Course.{Course}
use Rattle.turn_relay_course.specs.declared.course.Phase.{Phase}
use Rattle.turn_relay_course.specs.declared.course.Phase.TheVariants as At
use Rattle.turn_relay_course.specs.declared.reopen.Reopen.{Reopen}
use Rattle.turn_relay_course.specs.declared.reopen.Reopen.TheVariants.{Never}
use Rattle.turn_relay_course.proofs.SpaceLemmas.{call-stays}

-- the tries that may still begin in one life: those of the servers behind this one, and its own if it did not begin yet
abbrev pub tries_left : Phase → ℕ → ℕ → ℕ
tries_left At.Resting server servers = 1 + (servers - (server + 1))
tries_left (At.Over why) server servers = 0
tries_left _ server servers = servers - (server + 1)

abbrev pub left_of : Course → ℕ
left_of c = tries_left c.phase c.server c.servers

le-same : (n : ℕ) → n ≤ n
le-same n = omega arith

-- ---- calls that begin no try

same : (p : Phase) (c : Course) → p ≡ c.phase → left_of c ≤ tries_left p c.server c.servers
same p c is = subst (λ (q : Phase). tries_left q c.server c.servers ≤ tries_left p c.server c.servers) is (le-same (tries_left p c.server c.servers))

ready : (p : Phase) (now : ℕ) (c : Course) → p ≡ c.phase → left_of (ready_in p now c) ≤ tries_left p c.server c.servers
ready At.Resting now c is = same At.Resting c is
ready At.Asking now c is = le-same (c.servers - (c.server + 1))
ready (At.Trying until) now c is = same (At.Trying until) c is
ready At.Restoring now c is = same At.Restoring c is
ready (At.Up since) now c is = same (At.Up since) c is
ready (At.Over why) now c is = same (At.Over why) c is

opened : (p : Phase) (c : Course) → p ≡ c.phase → left_of (opened_in p c) ≤ tries_left p c.server c.servers
opened At.Resting c is = same At.Resting c is
opened At.Asking c is = same At.Asking c is
opened (At.Trying until) c is = le-same (c.servers - (c.server + 1))
opened At.Restoring c is = same At.Restoring c is
opened (At.Up since) c is = same (At.Up since) c is
opened (At.Over why) c is = same (At.Over why) c is

restored : (p : Phase) (now : ℕ) (c : Course) → p ≡ c.phase → left_of (restored_in p now c) ≤ tries_left p c.server c.servers
restored At.Resting now c is = same At.Resting c is
restored At.Asking now c is = same At.Asking c is
restored (At.Trying until) now c is = same (At.Trying until) c is
restored At.Restoring now c is = le-same (c.servers - (c.server + 1))
restored (At.Up since) now c is = same (At.Up since) c is
restored (At.Over why) now c is = same (At.Over why) c is

left : (p : Phase) (c : Course) → p ≡ c.phase → left_of (left_in p c) ≤ tries_left p c.server c.servers
left At.Resting c is = omega arith
left At.Asking c is = omega arith
left (At.Trying until) c is = omega arith
left At.Restoring c is = omega arith
left (At.Up since) c is = omega arith
left (At.Over why) c is = same (At.Over why) c is

-- ---- a failure

-- the next server is behind the one that was tried, if there is one
behind : (is_next : Bool) (server servers : ℕ) (cause : Cause) → servers < 2 ^ 64 → nat_lt (min (server + 1) (2 ^ 64 - 1)) servers ≡ is_next →
    tries_left (if not is_next then At.Over cause else At.Resting) (if is_next then min (server + 1) (2 ^ 64 - 1) else 0) servers ≤ servers - (server + 1)
behind true server servers cause few is =
    let below : min (server + 1) (2 ^ 64 - 1) < servers = ltb-true _ _ is in
    omega (arith, few, below)
behind false server servers cause few is = omega arith

ends : (own had : Bool) (server servers : ℕ) (cause : Cause) → servers < 2 ^ 64 →
    (let next = min (server + 1) (2 ^ 64 - 1) in
    tries_left (if own || (had || not (nat_lt next servers)) then At.Over cause else At.Resting) (if nat_lt next servers then next else 0) servers)
    ≤ servers - (server + 1)
ends true had server servers cause few = omega arith
ends false true server servers cause few = omega arith
ends false false server servers cause few = behind (nat_lt (min (server + 1) (2 ^ 64 - 1)) servers) server servers cause few refl

-- the servers of one life that is over are not tried
life-ends : (r : Reopen) (own last : Bool) (cause : Cause) (c : Course) → r ≡ Never → c.servers < 2 ^ 64 →
    (let next = min (c.server + 1) (2 ^ 64 - 1) in
    tries_left (if own || ends_in r last c then At.Over cause else At.Resting) (if nat_lt next c.servers then next else 0) c.servers)
    ≤ c.servers - (c.server + 1)
life-ends r own last cause c never few =
    subst (λ (q : Reopen). (let next = min (c.server + 1) (2 ^ 64 - 1) in
    tries_left (if own || ends_in q last c then At.Over cause else At.Resting) (if nat_lt next c.servers then next else 0) c.servers)
    ≤ c.servers - (c.server + 1)) (sym never) (ends own (had_address c.phase) c.server c.servers cause few)

down : (cause : Cause) (now : ℕ) (c : Course) → c.reopen ≡ Never → c.servers < 2 ^ 64 → left_of (failed_in At.Asking cause now c) ≤ c.servers - (c.server + 1)
down cause now c never few = life-ends c.reopen (is_own_error cause) (is_last (after_failure cause now c.failures)) cause c never few

fails : (p : Phase) (cause : Cause) (now : ℕ) (c : Course) → p ≡ c.phase → c.reopen ≡ Never → c.servers < 2 ^ 64 →
    left_of (failed_in p cause now c) ≤ tries_left p c.server c.servers
fails At.Resting cause now c is never few = same At.Resting c is
fails At.Asking cause now c is never few = down cause now c never few
fails (At.Trying until) cause now c is never few = down cause now c never few
fails At.Restoring cause now c is never few = down cause now c never few
fails (At.Up since) cause now c is never few = down cause now c never few
fails (At.Over why) cause now c is never few = same (At.Over why) c is

-- ---- a try that begins

abbrev pub left_if : Bool → Phase → Course → ℕ
left_if true p c = c.servers - (c.server + 1)
left_if false p c = tries_left p c.server c.servers

begun : (is_due : Bool) (now : ℕ) (c : Course) →
    (let then_is : Bool × Course = if is_due then (true, begun_try now c) else (false, c) in left_of then_is.1) ≡ left_if is_due c.phase c
begun true now c = refl
begun false now c = refl

begins : (p : Phase) (is_time : Bool) (now : ℕ) (c : Course) (times : List ℕ) → length times ≤ left_if (is_resting p && is_time) p c →
    length (with_time (if is_resting p && is_time then Some now else None) times) ≤ tries_left p c.server c.servers
begins At.Resting true now c times few = omega (arith, few)
begins At.Resting false now c times few = few
begins At.Asking is_time now c times few = few
begins (At.Trying until) is_time now c times few = few
begins At.Restoring is_time now c times few = few
begins (At.Up since) is_time now c times few = few
begins (At.Over why) is_time now c times few = few

-- ---- a run

at-most : (n few many : ℕ) → n ≤ few → few ≤ many → n ≤ many
at-most n few many a b = omega (arith, a, b)

call-once : (call : Call) (c : Course) (times : List ℕ) → c.reopen ≡ Never → c.servers < 2 ^ 64 → length times ≤ left_of (step call c) →
    length (with_time (begun_by call c) times) ≤ left_of c
call-once (Begin now) c times never few once =
    let is_time = not (nat_lt now c.tries.due) in
    begins c.phase is_time now c times (subst (λ (n : ℕ). length times ≤ n) (begun (is_resting c.phase && is_time) now c) once)
call-once (Ready now) c times never few once = at-most _ _ _ once (ready c.phase now c refl)
call-once Heard c times never few once = once
call-once Opened c times never few once = at-most _ _ _ once (opened c.phase c refl)
call-once (Restored now) c times never few once = at-most _ _ _ once (restored c.phase now c refl)
call-once (Failed cause now) c times never few once = at-most _ _ _ once (fails c.phase cause now c refl never few)
call-once Leave c times never few once = at-most _ _ _ once (left c.phase c refl)

pub run-once : (calls : List Call) (c : Course) → c.reopen ≡ Never → c.servers < 2 ^ 64 → length (begin_times calls c) ≤ left_of c
run-once [] c never few = omega arith
run-once (call ∷ calls) c never few =
    let stays = call-stays call c in
    let never-after : (step call c).reopen ≡ Never = stays.reopen ∙ never in
    let few-after : (step call c).servers < 2 ^ 64 = subst (λ (n : ℕ). n < 2 ^ 64) (sym stays.servers) few in
    call-once call c (begin_times calls (step call c)) never few (run-once calls (step call c) never-after few-after)
