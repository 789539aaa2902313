-- Tries are spaced.
use Rattle.std.proofs.Common.{◌≡◌, ◌∙◌, ℕ, ◌*◌, ◌-◌, ◌≤◌, ◌&&◌, min, nat_lt, not, Bool, true, false, if◌then◌else◌, List, [], ◌∷◌, Some, None, arith, refl, subst, sym}
use Rattle.std.proofs.lemmas.Bool.{lt-ltb, ltb-false}
use Rattle.std.proofs.Math.Nat.{mul-div-le}
use Rattle.turn_agent.specs.TransactionIds.{next_id}
use Rattle.turn_relay_tries.specs.Backoff.{drawn_wait, lot_of, next_wait}
use Rattle.turn_relay_tries.specs.Tries.{after, after_slow_try, first_tries}
use Rattle.turn_relay_tries.specs.Tries as Trying
use Rattle.turn_relay_tries.specs.declared.backoff.Backoff.{Backoff}
use Rattle.turn_relay_tries.specs.declared.causes.Cause.{Cause}
use Rattle.turn_relay_tries.specs.declared.tries.Tries.{Tries}
use Rattle.turn_relay_tries.proofs.WaitLemmas.{waits-least}
use Rattle.turn_relay_course.specs.Course.{begun_try, failed_in, is_resting, is_too_slow, left_in, opened_in, ready_in, restored_in, tries_after, tries_by, tries_in}
use Rattle.turn_relay_course.specs.Laws.{AreSpaced, is_begun, least_wait}
use Rattle.turn_relay_course.specs.Runs.{AreSoon, Call, IsSoon, IsSoonIn, begin_times, begun_by, step, with_time}
use Rattle.turn_relay_course.specs.Runs.Call.{Begin, Ready, Heard, Opened, Restored, Failed, Leave}
use Rattle.turn_relay_course.specs.declared.course.Course.{Course}
use Rattle.turn_relay_course.specs.declared.course.Phase.{Phase}
use Rattle.turn_relay_course.specs.declared.course.Phase.TheVariants as At
use Rattle.turn_relay_course.specs.declared.reopen.Reopen.{Reopen}
use Rattle.turn_relay_course.specs.declared.reopen.Reopen.TheVariants.{Always}

-- ---- times

-- what is spaced from a time on is spaced from a sooner one on
pub spaced-sooner : (b : Backoff) (sooner due wait : ℕ) (times : List ℕ) → sooner ≤ due → AreSpaced b due wait times → AreSpaced b sooner wait times
spaced-sooner b sooner due wait [] le spaced = tt
spaced-sooner b sooner due wait (time ∷ times) le spaced = (omega (arith, le, spaced.0), spaced.1)

-- a random part leaves at least the least wait
pub least-drawn : (b : Backoff) (wait number : ℕ) → least_wait b wait ≤ drawn_wait b wait (lot_of number)
least-drawn b wait number =
    let few : lot_of number ≤ 4_294_967_296 = omega arith in
    let most = waits-least wait (min b.jitter 1_000) (lot_of number) few in
    let part = mul-div-le (wait * (1_000 - min b.jitter 1_000)) 1_000 in
    omega (arith, most, part)

after-sooner : (now sooner wait : ℕ) → sooner ≤ wait → after now sooner ≤ after now wait
after-sooner now sooner wait le = omega (arith, le)

-- ---- calls that begin no try

pub record Keeps (c next : Course) : Type 0 where
  pub reopen : next.reopen ≡ c.reopen
  pub servers : next.servers ≡ c.servers
  pub backoff : next.backoff ≡ c.backoff
  pub wait : next.tries.wait ≡ c.tries.wait
  pub due : c.tries.due ≤ next.tries.due

le-same : (n : ℕ) → n ≤ n
le-same n = omega arith

same : (c : Course) → Keeps c c
same c = record { reopen = refl; servers = refl; backoff = refl; wait = refl; due = le-same c.tries.due }

ready : (p : Phase) (now : ℕ) (c : Course) → Keeps c (ready_in p now c)
ready At.Resting now c = same c
ready At.Asking now c = record { reopen = refl; servers = refl; backoff = refl; wait = refl; due = le-same c.tries.due }
ready (At.Trying until) now c = same c
ready At.Restoring now c = same c
ready (At.Up since) now c = same c
ready (At.Over why) now c = same c

opened : (p : Phase) (c : Course) → Keeps c (opened_in p c)
opened At.Resting c = same c
opened At.Asking c = same c
opened (At.Trying until) c = record { reopen = refl; servers = refl; backoff = refl; wait = refl; due = le-same c.tries.due }
opened At.Restoring c = same c
opened (At.Up since) c = same c
opened (At.Over why) c = same c

restored : (p : Phase) (now : ℕ) (c : Course) → Keeps c (restored_in p now c)
restored At.Resting now c = same c
restored At.Asking now c = same c
restored (At.Trying until) now c = same c
restored At.Restoring now c = record { reopen = refl; servers = refl; backoff = refl; wait = refl; due = le-same c.tries.due }
restored (At.Up since) now c = same c
restored (At.Over why) now c = same c

left : (p : Phase) (c : Course) → Keeps c (left_in p c)
left At.Resting c = record { reopen = refl; servers = refl; backoff = refl; wait = refl; due = le-same c.tries.due }
left At.Asking c = record { reopen = refl; servers = refl; backoff = refl; wait = refl; due = le-same c.tries.due }
left (At.Trying until) c = record { reopen = refl; servers = refl; backoff = refl; wait = refl; due = le-same c.tries.due }
left At.Restoring c = record { reopen = refl; servers = refl; backoff = refl; wait = refl; due = le-same c.tries.due }
left (At.Up since) c = record { reopen = refl; servers = refl; backoff = refl; wait = refl; due = le-same c.tries.due }
left (At.Over why) c = same c

-- ---- failures

-- a failure keeps the wait, and rests
pub record Rests (now : ℕ) (was tries : Tries) : Type 0 where
  pub wait : tries.wait ≡ was.wait
  pub due : was.due ≤ tries.due
  pub rest : after now 200_000_000 ≤ tries.due

after-failure : (now : ℕ) (t : Tries) → Rests now t (Trying.after_failure now t)
after-failure now t = record { wait = refl; due = omega arith; rest = omega arith }

slow : (is_slow heard : Bool) (now : ℕ) (t : Tries) → Rests now t (Trying.after_failure now (if is_slow then after_slow_try heard t else t))
slow true heard now t = record { wait = refl; due = omega arith; rest = omega arith }
slow false heard now t = after-failure now t

end : (is_soon : Bool) (b : Backoff) (now : ℕ) (t : Tries) → is_soon ≡ true → Rests now t (if is_soon then Trying.after_failure now t else first_tries b)
end true b now t soon = after-failure now t
end false b now t soon = absurd (no soon)
  where
    no : false ≡ true → ⊥
    no h = grind (arith, h)

pub tries-rest : (p : Phase) (cause : Cause) (now : ℕ) (c : Course) → IsSoonIn p now → Rests now c.tries (tries_in p cause now c)
tries-rest At.Resting cause now c soon = slow (is_too_slow cause) c.is_heard now c.tries
tries-rest At.Asking cause now c soon = slow (is_too_slow cause) c.is_heard now c.tries
tries-rest (At.Trying until) cause now c soon = slow (is_too_slow cause) c.is_heard now c.tries
tries-rest At.Restoring cause now c soon = slow (is_too_slow cause) c.is_heard now c.tries
tries-rest (At.Up since) cause now c soon =
    end (nat_lt now (after since 60_000_000_000)) c.backoff now c.tries (lt-ltb now (after since 60_000_000_000) soon)
tries-rest (At.Over why) cause now c soon = slow (is_too_slow cause) c.is_heard now c.tries

-- a relay that comes back
pub back-rest : (cause : Cause) (now : ℕ) (c : Course) → c.reopen ≡ Always → IsSoonIn c.phase now → Rests now c.tries (tries_after cause now c)
back-rest cause now c always soon =
    subst (λ (r : Reopen). Rests now c.tries (tries_by r cause now c)) (sym always) (tries-rest c.phase cause now c soon)

fails : (p : Phase) (cause : Cause) (now : ℕ) (c : Course) → Rests now c.tries (tries_after cause now c) → Keeps c (failed_in p cause now c)
fails At.Resting cause now c r = same c
fails At.Asking cause now c r = record { reopen = refl; servers = refl; backoff = refl; wait = r.wait; due = r.due }
fails (At.Trying until) cause now c r = record { reopen = refl; servers = refl; backoff = refl; wait = r.wait; due = r.due }
fails At.Restoring cause now c r = record { reopen = refl; servers = refl; backoff = refl; wait = r.wait; due = r.due }
fails (At.Up since) cause now c r = record { reopen = refl; servers = refl; backoff = refl; wait = r.wait; due = r.due }
fails (At.Over why) cause now c r = same c

-- no try is due within 0.2 s of the end of one
pub fails-rest : (p : Phase) (cause : Cause) (now : ℕ) (c : Course) → Rests now c.tries (tries_after cause now c) → is_begun p ≡ true →
    after now 200_000_000 ≤ (failed_in p cause now c).tries.due
fails-rest At.Resting cause now c r begun = absurd (no begun)
  where
    no : false ≡ true → ⊥
    no h = grind (arith, h)
fails-rest At.Asking cause now c r begun = r.rest
fails-rest (At.Trying until) cause now c r begun = r.rest
fails-rest At.Restoring cause now c r begun = r.rest
fails-rest (At.Up since) cause now c r begun = r.rest
fails-rest (At.Over why) cause now c r begun = absurd (no begun)
  where
    no : false ≡ true → ⊥
    no h = grind (arith, h)

-- ---- a call

kept : (c next : Course) (times : List ℕ) → Keeps c next → AreSpaced next.backoff next.tries.due next.tries.wait times →
    AreSpaced c.backoff c.tries.due c.tries.wait times
kept c next times k spaced =
    let by-backoff = subst (λ (b : Backoff). AreSpaced b next.tries.due next.tries.wait times) k.backoff spaced in
    let by-wait = subst (λ (w : ℕ). AreSpaced c.backoff next.tries.due w times) k.wait by-backoff in
    spaced-sooner c.backoff c.tries.due next.tries.due c.tries.wait times k.due by-wait

-- a try begins at its time
due-now : (is_resting : Bool) (now due : ℕ) → (is_resting && not (nat_lt now due)) ≡ true → due ≤ now
due-now true now due h = by (nat_lt now due) refl h
  where
    by : (b : Bool) → nat_lt now due ≡ b → not b ≡ true → due ≤ now
    by true is h' = grind (arith, h')
    by false is h' = ltb-false now due is
due-now false now due h = grind (arith, h)

begins : (is_due : Bool) (now : ℕ) (c : Course) (times : List ℕ) → (is_resting c.phase && not (nat_lt now c.tries.due)) ≡ is_due →
    (let then_is : Bool × Course = if is_due then (true, begun_try now c) else (false, c) in AreSpaced then_is.1.backoff then_is.1.tries.due then_is.1.tries.wait times) →
    AreSpaced c.backoff c.tries.due c.tries.wait (with_time (if is_due then Some now else None) times)
begins true now c times due spaced =
    let least = least_wait c.backoff c.tries.wait in
    let drawn = drawn_wait c.backoff c.tries.wait (lot_of (next_id c.numbers)) in
    let sooner = after-sooner now least drawn (least-drawn c.backoff c.tries.wait (next_id c.numbers)) in
    let spaced-on = spaced-sooner c.backoff (after now least) (after now drawn) (next_wait c.backoff c.tries.wait) times sooner spaced in
    (due-now (is_resting c.phase) now c.tries.due due, spaced-on)
begins false now c times due spaced = spaced

call-spaced : (call : Call) (c : Course) (times : List ℕ) → c.reopen ≡ Always → IsSoon call c →
    AreSpaced (step call c).backoff (step call c).tries.due (step call c).tries.wait times →
    AreSpaced c.backoff c.tries.due c.tries.wait (with_time (begun_by call c) times)
call-spaced (Begin now) c times always soon spaced = begins (is_resting c.phase && not (nat_lt now c.tries.due)) now c times refl spaced
call-spaced (Ready now) c times always soon spaced = kept c _ times (ready c.phase now c) spaced
call-spaced Heard c times always soon spaced = spaced
call-spaced Opened c times always soon spaced = kept c _ times (opened c.phase c) spaced
call-spaced (Restored now) c times always soon spaced = kept c _ times (restored c.phase now c) spaced
call-spaced (Failed cause now) c times always soon spaced = kept c _ times (fails c.phase cause now c (back-rest cause now c always soon)) spaced
call-spaced Leave c times always soon spaced = kept c _ times (left c.phase c) spaced

-- ---- what no call changes

pub record Stays (c next : Course) : Type 0 where
  pub reopen : next.reopen ≡ c.reopen
  pub servers : next.servers ≡ c.servers

stay : (c next : Course) → Keeps c next → Stays c next
stay c next k = record { reopen = k.reopen; servers = k.servers }

begin-stays : (is_due : Bool) (now : ℕ) (c : Course) →
    (let then_is : Bool × Course = if is_due then (true, begun_try now c) else (false, c) in Stays c then_is.1)
begin-stays true now c = record { reopen = refl; servers = refl }
begin-stays false now c = record { reopen = refl; servers = refl }

fails-stays : (p : Phase) (cause : Cause) (now : ℕ) (c : Course) → Stays c (failed_in p cause now c)
fails-stays At.Resting cause now c = record { reopen = refl; servers = refl }
fails-stays At.Asking cause now c = record { reopen = refl; servers = refl }
fails-stays (At.Trying until) cause now c = record { reopen = refl; servers = refl }
fails-stays At.Restoring cause now c = record { reopen = refl; servers = refl }
fails-stays (At.Up since) cause now c = record { reopen = refl; servers = refl }
fails-stays (At.Over why) cause now c = record { reopen = refl; servers = refl }

pub call-stays : (call : Call) (c : Course) → Stays c (step call c)
call-stays (Begin now) c = begin-stays (is_resting c.phase && not (nat_lt now c.tries.due)) now c
call-stays (Ready now) c = stay c _ (ready c.phase now c)
call-stays Heard c = record { reopen = refl; servers = refl }
call-stays Opened c = stay c _ (opened c.phase c)
call-stays (Restored now) c = stay c _ (restored c.phase now c)
call-stays (Failed cause now) c = fails-stays c.phase cause now c
call-stays Leave c = stay c _ (left c.phase c)

-- ---- a run

pub run-spaced : (calls : List Call) (c : Course) → c.reopen ≡ Always → AreSoon calls c → AreSpaced c.backoff c.tries.due c.tries.wait (begin_times calls c)
run-spaced [] c always soon = tt
run-spaced (call ∷ calls) c always soon =
    let always-after : (step call c).reopen ≡ Always = (call-stays call c).reopen ∙ always in
    call-spaced call c (begin_times calls (step call c)) always soon.0 (run-spaced calls (step call c) always-after soon.1)
