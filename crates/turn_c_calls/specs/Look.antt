-- What a request that only looks at a client is answered.
use Rattle.std.specs.Prelude.{◌≡◌, ◌==◌, not, if◌then◌else◌, slice_get, Result, Ok, Err}
use Rattle.turn_client_api.specs.Calls.{relayed_addresses_of}
use Rattle.turn_client_api.specs.State.{State}
use Rattle.turn_client_calls.specs.Checks.{needed}
use Rattle.turn_client_grants.specs.NextPermission.{next_permission}
use Rattle.turn_c_calls.specs.Answer.{next_permission_answer, of_kind, relayed_answer}
use Rattle.turn_c_calls.specs.Arms.{have_permission_answer, permissions_answer}
use Rattle.turn_c_calls.specs.Held.{Held}
use Rattle.turn_c_calls.specs.Judge.{fault_code}
use Rattle.turn_c_calls.specs.Request.{kind_in, peer_ip_of, relayed_of, time_of}
use Rattle.turn_c_calls.specs.declared.answer.Answer.{Answer}
use Rattle.turn_c_calls.specs.declared.code.TheConstants.{NEXT_PERMISSION}
use Rattle.turn_c_calls.specs.declared.fault.Fault.{Fault}
use Rattle.turn_c_calls.specs.declared.fault.Fault.TheVariants as Faults
use Rattle.turn_c_calls.specs.declared.request.Kind.{Kind}
use Rattle.turn_c_calls.specs.declared.request.Kind.TheVariants as Kinds
use Rattle.turn_c_calls.specs.declared.request.Request.{Request}

-- what the answer becomes, or why it stays; the request is of this kind
abbrev pub looked_as : Request → State → Kind → Result (Answer → Answer) Fault
looked_as r s Kinds.RelayedAddresses = Ok (relayed_answer (slice_get (relayed_addresses_of s) r.id))
looked_as r s Kinds.Permissions = needed (relayed_of r) Faults.Call (λ relayed. Ok (permissions_answer r.id s relayed))
looked_as r s Kinds.HavePermission = needed (peer_ip_of r) Faults.Call (λ peer. Ok (have_permission_answer s peer))
looked_as r s _ = Err Faults.Call

abbrev pub looked : Request → State → Result (Answer → Answer) Fault
looked r s = needed (time_of r.time) Faults.Time (λ now. needed (kind_in r) Faults.Call (looked_as r s))

-- what the answer becomes to a request for the next permission, or why it stays
abbrev pub next_looked : Request → State → Result (Answer → Answer) Fault
next_looked r s = needed (time_of r.time) Faults.Time (λ now.
    if not (r.reserved == 0) then Err Faults.Call
    else needed (relayed_of r) Faults.Call (λ relayed. Ok (next_permission_answer (next_permission relayed.0 relayed.1 r.id s))))

-- the same of any request
abbrev pub sight : Request → State → Result (Answer → Answer) Fault
sight r s = if r.kind == NEXT_PERMISSION then next_looked r s else looked r s

abbrev pub Looks : Result (Answer → Answer) Fault → Answer → Answer → Type 0
Looks (Ok says) a b = b ≡ says a
Looks (Err fault) a b = ⊥

abbrev pub LacksSight : Result (Answer → Answer) Fault → Fault → Answer → Answer → Type 0
LacksSight (Ok says) fault a b = ⊥
LacksSight (Err refused) fault a b = (fault ≡ refused) × (b ≡ a)

-- the answer, whose kind alone has changed if the request is refused
abbrev pub look_answer : Result (Answer → Answer) Fault → Answer → Answer
look_answer (Ok says) a = says a
look_answer (Err fault) a = of_kind (fault_code fault) a

-- what is answered by a session that is only read
abbrev pub LooksAt : Request → Held → Answer → Answer → Type 0
LooksAt request session a b = b ≡ look_answer (sight request session.client) a
