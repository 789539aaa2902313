-- Realm and algorithm stay, from input to input too.
use Rattle.turn_client_laws.proofs.Common.{not, cond, List, [], ◌∷◌, Some, None, refl, ap, ◌∙◌, inl, inr, Contains}
use Rattle.turn_client_laws.proofs.Machine.{begins_message, State, Mode, Control, Waiting, Stream, Call, bind_step, Outcome, Handled, Ignored, channel_sent, is_channel_frame, is_message, message_step}
use Rattle.turn_client_laws.proofs.Machine.{state_after, state_after_all, Has, has-append}
use Rattle.turn_client_laws.proofs.Laws.{Input, handled, processed, DiffersInStreams, InputsLead, KeepsRealm, bind-keeps, call-keeps, keeps-same, message-keeps, contains-has}
use Rattle.turn_client_laws.proofs.MoveLemmas.{by_test}
use Rattle.turn_client_runs.specs.Inputs.{handled_in}
use Rattle.turn_client_runs.proofs.InputsOfRuns.{leads-or}

same-realm : (s : State) → KeepsRealm s s
same-realm s = (keeps-same s).2

pub then-realm : (s t u : State) → KeepsRealm s t → KeepsRealm t u → KeepsRealm s u
then-realm s t u first second c e = let (d, f, r, a) = first c e in let (d', f', r', a') = second d f in (d', f', r' ∙ r, a' ∙ a)

differs-realm : (s t : State) → DiffersInStreams s t → KeepsRealm s t
differs-realm s t differs c e = (c, ap (λ (x : State). x.held) differs.others ∙ e, refl, refl)

-- ---- one input

-- a whole message, or else this
whole-realm : (one : Input) (other : Outcome × State) → KeepsRealm one.before other.1
    → KeepsRealm one.before (cond {A = Outcome × State} (is_message one.bytes) (message_step one.bytes one.time one.before) other).1
whole-realm one other h =
    by_test (KeepsRealm one.before) (is_message one.bytes) (message_step one.bytes one.time one.before) other (message-keeps one.bytes one.time one.before).2 h

input_in_mode : (m : Mode) (one : Input) (stream : Stream) → KeepsRealm one.before (processed (record one { stream = Some (record stream { mode = m }) })).1
input_in_mode Control one stream =
    by_test (KeepsRealm one.before) (not (begins_message one.bytes)) (channel_sent one.before one.bytes, one.before) _ (same-realm one.before)
    (whole-realm one (Handled, one.before) (same-realm one.before))
input_in_mode Waiting one stream =
    by_test (KeepsRealm one.before) (not (begins_message one.bytes)) (Ignored, one.before) _ (same-realm one.before)
    (by_test (KeepsRealm one.before) (is_message one.bytes) (Handled, bind_step stream.local one.bytes one.time one.before) (Handled, one.before)
    (bind-keeps stream.local one.bytes one.time one.before).2 (same-realm one.before))
input_in_mode m one stream = same-realm one.before

input-realm : (one : Input) → KeepsRealm one.before (processed one).1
input-realm one = elim one.stream as (λ o. KeepsRealm one.before (processed (record one { stream = o })).1) [
  | None ↦ whole-realm one _ (by_test (KeepsRealm one.before) (is_channel_frame one.bytes) (channel_sent one.before one.bytes, one.before) (Ignored, one.before)
      (same-realm one.before) (same-realm one.before))
  | Some stream ↦ input_in_mode stream.mode one stream
]

-- ---- inputs in sequence

lead-realm : (inputs : List Input) (s t : State) → InputsLead inputs s t → KeepsRealm s t
lead-realm [] s t lead = differs-realm s t lead
lead-realm (one ∷ later) s t (first, lead) =
    then-realm s one.before t (differs-realm s one.before first)
    (then-realm one.before (processed one).1 t (input-realm one) (lead-realm later (processed one).1 t lead))

-- realm and algorithm stay up to the input, and after it
abbrev Stays : State → State → Input → Type 0
Stays s t one = KeepsRealm s one.before × KeepsRealm (processed one).1 t

lead-input : (inputs : List Input) (s t : State) → InputsLead inputs s t → (one : Input) → Has one inputs → Stays s t one
lead-input [] s t lead one there = absurd there
lead-input (other ∷ later) s t (first, lead) one (inl e) =
    rw e (differs-realm s other.before first, lead-realm later (processed other).1 t lead)
lead-input (other ∷ later) s t (first, lead) one (inr there) =
    let rest = lead-input later (processed other).1 t lead one there in
    (then-realm s other.before one.before (differs-realm s other.before first) (then-realm other.before (processed other).1 one.before (input-realm other) rest.0), rest.1)

-- ---- a run

call-input : (call : Call) (s : State) (one : Input) → Has one (handled call s) → Stays s (state_after call s) one
call-input call s one there = elim (leads-or call s) [
  | inl lead ↦ lead-input (handled call s) s (state_after call s) lead one there
  | inr nothing ↦ absurd (rw nothing at there)
]

behind-realm : (s : State) (calls : List Call) → KeepsRealm s (state_after_all s calls)
behind-realm s [] = same-realm s
behind-realm s (call ∷ calls) = then-realm s (state_after call s) (state_after_all (state_after call s) calls) (call-keeps call s).2 (behind-realm (state_after call s) calls)

run-input : (s : State) (calls : List Call) (one : Input) → Has one (handled_in s calls) → Stays s (state_after_all s calls) one
run-input s [] one there = absurd there
run-input s (call ∷ calls) one there =
    let t = state_after call s in
    elim (has-append one (handled call s) (handled_in t calls) there) [
      | inl here ↦ let now = call-input call s one here in (now.0, then-realm (processed one).1 t (state_after_all t calls) now.1 (behind-realm t calls))
      | inr later ↦ let rest = run-input t calls one later in (then-realm s t one.before (call-keeps call s).2 rest.0, rest.1)
    ]

pub inputs-realm : (s : State) (calls : List Call) (one : Input) → Contains (handled_in s calls) one → KeepsRealm s one.before × KeepsRealm one.before (state_after_all s calls)
inputs-realm s calls one there =
    let stays = run-input s calls one (contains-has one (handled_in s calls) there) in
    (stays.0, then-realm one.before (processed one).1 (state_after_all s calls) (input-realm one) stays.1)

pub inputs-after : (s : State) (calls : List Call) (one : Input) → Contains (handled_in s calls) one → KeepsRealm (processed one).1 (state_after_all s calls)
inputs-after s calls one there = (run-input s calls one (contains-has one (handled_in s calls) there)).1
