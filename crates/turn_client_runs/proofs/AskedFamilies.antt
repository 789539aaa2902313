-- An ALLOCATE whose success grants an allocation requests the families of which the client still requests
-- an address, and is signed.
use Rattle.turn_client_laws.proofs.Common.{◌≡◌, List, [], refl, subst, true, Contains}
use Rattle.turn_client_laws.proofs.Machine.{id_of, is_outstanding, Transaction, State, Call, Purpose, ForAllocation, Phase, New, Requesting, Authenticating, purposes_of}
use Rattle.turn_client_laws.proofs.Laws.{Input, handled, AllocatesInOrder, IsAllocate, IsAwaited, listing, contains-has, has-contains, before-kept, purpose-with}
use Rattle.turn_client_runs.specs.Granted.{AsksForItsFamily}
use Rattle.turn_client_runs.proofs.SignedLemmas.{AreSigned, Signs, SignsIn, StaySigned, StaySigned-IsKept}

-- what calls keep, each input of a call finds
pub inputs-signed : (call : Call) (s : State) → AllocatesInOrder s × Signs s → (one : Input) → Contains (handled call s) one → AllocatesInOrder one.before × Signs one.before
inputs-signed call s order one among = before-kept StaySigned StaySigned-IsKept call s one among order

-- if a reply may grant, and answers an ALLOCATE, the first challenge was answered
module _ (one : Input) (order : AllocatesInOrder one.before) (signs : Signs one.before) (heard : one.before.phase ≡ Requesting → ⊥) (awaited : IsAwaited one.bytes one.before)
    (asked : IsAllocate (id_of one.bytes) one.before) where
  answers-signed : AreSigned one.before.config one.before.held one.before.transactions
  answers-signed = by one.before.phase refl
    where
      in_phase : (p : Phase) → one.before.phase ≡ p → SignsIn p one.before.config one.before.held one.before.transactions
      in_phase p e = subst (λ (q : Phase). SignsIn q one.before.config one.before.held one.before.transactions) e signs

      none : one.before.transactions ≡ [] → ⊥
      none e = let no : is_outstanding (id_of one.bytes) [] ≡ true = subst (λ (xs : List Transaction). is_outstanding (id_of one.bytes) xs ≡ true) e awaited in cc

      by : (p : Phase) → one.before.phase ≡ p → AreSigned one.before.config one.before.held one.before.transactions
      by New e = absurd (none (in_phase New e))
      by Requesting e = absurd (heard e)
      by Authenticating e = (in_phase Authenticating e).1
      by p e = absurd (order.0.1 (rw e (λ u. u)) (id_of one.bytes) asked)

pub asks-family : (one : Input) → AllocatesInOrder one.before × Signs one.before → (one.before.phase ≡ Requesting → ⊥) → IsAwaited one.bytes one.before → (p : Purpose)
    → Contains (purposes_of (id_of one.bytes) one.before) p → AsksForItsFamily p one
asks-family one (order, signs) heard awaited ForAllocation answers =
    let there = purpose-with (id_of one.bytes) ForAllocation one.before (contains-has ForAllocation (purposes_of (id_of one.bytes) one.before) answers) in
    let asked = has-contains (listing (id_of one.bytes) ForAllocation) one.before.listed there in
    record {
      families = order.1 (id_of one.bytes) asked awaited;
      signed = λ x here named. answers-signed one order signs heard awaited asked x (contains-has x one.before.transactions here);
    }
asks-family one kept heard awaited p answers = tt
