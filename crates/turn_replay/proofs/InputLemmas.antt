-- Reads from a reader, in order.
use Rattle.std.proofs.Common.{◌≡◌, ℕ, ◌<◌, ◌≤◌, Bool, List, [], ◌++◌, length, Option, Some, None, sym, ap, ◌∙◌, arith, append_assoc}
use Rattle.std.proofs.lemmas.List.{append-nil, length-append, length-take, take_all, take-append-le}
use Rattle.std.specs.Io.KnownBytes.{Consumes, IsAtEnd}
use Rattle.turn_replay.specs.Answer.{IsRead, LosesMore, ReadsMore, ReadsSome, trace_bytes}
use Rattle.turn_replay.specs.declared.input.InputError.{InputError}
use Rattle.turn_replay.specs.declared.input.InputError.TheVariants as ReadFault

-- the bytes of two reads, joined
Consumes-append : (old mid new : Option (List ℕ)) (a b : List ℕ) → Consumes old mid a → Consumes mid new b → Consumes old new (a ++ b)
Consumes-append None mid new a b h k = tt
Consumes-append (Some xs) None new a b h k = absurd h
Consumes-append (Some xs) (Some ys) None a b h k = absurd k
Consumes-append (Some xs) (Some ys) (Some zs) a b h k = h ∙ ap (λ rest. a ++ rest) k ∙ sym (append_assoc a b zs)

-- the invariant of the loop of reads
abbrev pub Kept : Option (List ℕ) → Option (List ℕ) → List ℕ → Type 0
Kept old new bytes = Consumes old new bytes × (length bytes ≤ 1048577)

pub kept_more : (old mid new : Option (List ℕ)) (before after : List ℕ) (goes_on : Bool) → Kept old mid before → ReadsMore mid new before after goes_on → Kept old new after
kept_more old mid new before after goes_on k r =
    (rw r.appended (Consumes-append old mid new before r.more k.0 r.consumed), r.few)

-- a read that failed gave no more than one byte more than a trace may have
pub lost_more : (old mid new : Option (List ℕ)) (before : List ℕ) (error : InputError) → Kept old mid before → LosesMore mid new before error → ReadsSome old new
lost_more old mid new before ReadFault.ReadFailed k lost =
    let few = k.1 in
    (before ++ [], Consumes-append old mid new before [] k.0 lost, rw (append-nil before) few)
lost_more old mid new before ReadFault.OutOfMemory k (more, consumed, few) =
    (before ++ more, Consumes-append old mid new before more k.0 consumed, omega (arith, few, length-append before more))

-- what was read whole is not more than that
pub read_some : (old new : Option (List ℕ)) (bytes : List ℕ) → IsRead old new bytes → ReadsSome old new
read_some None new bytes r = ([], tt, omega arith)
read_some (Some xs) None bytes r = absurd r.consumed
read_some (Some xs) (Some ys) bytes r =
    let all : bytes ≡ trace_bytes xs = r.all in
    (bytes, r.consumed, rw all (omega (arith, length-take 1048577 xs)))

-- one byte more than a trace may have was read
pub read_when_full : (old new : Option (List ℕ)) (bytes : List ℕ) → Kept old new bytes → 1048576 < length bytes → IsRead old new bytes
read_when_full None new bytes k full = record { all = tt; consumed = tt }
read_when_full (Some xs) None bytes k full = absurd k.0
read_when_full (Some xs) (Some ys) bytes k full =
    let few = k.1 in
    let all : bytes ≡ trace_bytes xs = sym (ap trace_bytes k.0 ∙ take-append-le 1048577 bytes ys (omega arith) ∙ take_all 1048577 bytes few) in
    record { all = all; consumed = k.0 }

-- the end of the input is reached
pub read_at_end : (old new : Option (List ℕ)) (bytes : List ℕ) → Kept old new bytes → IsAtEnd new → IsRead old new bytes
read_at_end None new bytes k end = record { all = tt; consumed = tt }
read_at_end (Some xs) None bytes k end = absurd k.0
read_at_end (Some xs) (Some ys) bytes k end =
    let few = k.1 in
    let same : xs ≡ bytes = k.0 ∙ ap (λ rest. bytes ++ rest) end ∙ append-nil bytes in
    record { all = sym (ap trace_bytes same ∙ take_all 1048577 bytes few); consumed = k.0 }
