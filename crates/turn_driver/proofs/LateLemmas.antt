-- A loop that wakes up late.
use Rattle.turn_client_laws.proofs.Common.{◌≡◌, ◌∙◌, ℕ, ◌+◌, ◌^◌, ◌≤◌, max, min, Bool, true, false, cond, List, [], ◌∷◌, ◌++◌, Option, Some, None, ap, arith, inl, inr, is_some, subst, sym}
use Rattle.turn_client_laws.proofs.Common.{AllByRecursion}
use Rattle.turn_client_laws.proofs.Machine.{Transmit, State, Call, Poll, PollEvent, PollRecv, PollTransmit, Recv, next_transmit, state_after, state_after_all}
use Rattle.turn_client_runs.specs.Late.{IsLate, since_next}
use Rattle.turn_client_runs.specs.OnTime.{time_of_all}
use Rattle.turn_driver.specs.Late.{AllLate, BeginsLate, IsLateLoop, LoopsAreLate}
use Rattle.turn_driver.specs.Next.{IsRestful}
use Rattle.turn_driver.specs.OnTime.{Iteration, calls_in, calls_of}
use Rattle.turn_driver.specs.Run.{IsAsk, hand_in_calls}
use Rattle.turn_driver.specs.declared.task.Rest.{Rest}
use Rattle.turn_driver.specs.declared.task.Rest.TheVariants.{Until, Now, Ended}
use Rattle.turn_driver.proofs.OnTimeLemmas.{packet-same}

module _ (late : ℕ) where
  -- a call at this time is not too late
  abbrev Comes : ℕ → ℕ → ℕ → State → Type 0
  Comes since before now s = (start : ℕ) × IsLate late since before start now s

  again : (since now : ℕ) (s : State) → since ≤ now → now ≤ since + late → now ≤ 2 ^ 62 → IsLate late since now since now s
  again since now s from soon range = record {
    later = omega arith;
    in_range = range;
    from = omega arith;
    begun = from;
    soon = soon;
    free = λ time after early. absurd (omega (arith, after, early));
  }

  unreported : (since before now : ℕ) (s : State) → Comes since before now s → Comes since before now (state_after PollEvent s)
  unreported since before now s (start, is) = (
    start,
    record {
      later = is.later;
      in_range = is.in_range;
      from = is.from;
      begun = is.begun;
      soon = is.soon;
      free = λ time after early. packet-same (max time before) s _ ∙ is.free time after early;
    },
  )

  -- after calls until this time the others go on
  abbrev Rests : ℕ → ℕ → ℕ → State → List Call → List Call → Type 0
  Rests since before now s calls more =
      time_of_all before calls ≡ now → ((after : ℕ) → after ≤ now → now ≤ after + late → AllLate late after now (state_after_all s calls) more)
      → AllLate late since before s (calls ++ more)

  -- one more call, and then the others
  asked : (now since before : ℕ) (s : State) (call : Call) (calls more : List Call) → since ≤ before → before ≤ since + late → Comes since before now s → IsAsk now call
      → ((from last : ℕ) (t : State) → from ≤ last → last ≤ from + late → Comes from last now t → Rests from last now t calls more)
      → Rests since before now s (call ∷ calls) more
  asked now since before s call calls more from soon (start, is) ask later = by ask
    where
      begun : start ≤ now
      begun = is.begun

      late_by : now ≤ start + late
      late_by = is.soon

      next : (t : State) (after : ℕ) → after ≤ now → now ≤ after + late → Rests after now now t calls more
      next t after a b = later after now t a b (after, again after now t a b is.in_range)

      least : (b : Bool) → cond b now start ≤ now
      least true = omega arith
      least false = begun

      most : (b : Bool) → now ≤ cond b now start + late
      most true = omega arith
      most false = late_by

      reads : Rests since before now s (PollRecv now ∷ calls) more
      reads ends others = (start, is, next (state_after (PollRecv now) s) start begun late_by ends others)

      polls : Rests since before now s (Poll now ∷ calls) more
      polls ends others = (start, is, next (state_after (Poll now) s) start begun late_by ends others)

      transmits : Rests since before now s (PollTransmit now ∷ calls) more
      transmits ends others = (
        start,
        is,
        next (state_after (PollTransmit now) s) (since_next (PollTransmit now) s start) (least (is_some (next_transmit now s))) (most (is_some (next_transmit now s))) ends others,
      )

      reports : Rests since before now s (PollEvent ∷ calls) more
      reports ends others = (
        since,
        again since before s from soon (let l = is.later in let r = is.in_range in omega (arith, l, r)),
        later since before (state_after PollEvent s) from soon (unreported since before now s (start, is)) ends others,
      )

      by : IsAsk now call → Rests since before now s (call ∷ calls) more
      by (inl e) = subst (λ (c : Call). Rests since before now s (c ∷ calls) more) (sym e) reads
      by (inr (inl e)) = subst (λ (c : Call). Rests since before now s (c ∷ calls) more) (sym e) polls
      by (inr (inr (inl e))) = subst (λ (c : Call). Rests since before now s (c ∷ calls) more) (sym e) reports
      by (inr (inr (inr e))) = subst (λ (c : Call). Rests since before now s (c ∷ calls) more) (sym e) transmits

  asks : (now since before : ℕ) (s : State) (calls more : List Call) → since ≤ before → before ≤ since + late → Comes since before now s → AllByRecursion (IsAsk now) calls
      → Rests since before now s calls more
  asks now since before s [] more from soon comes all = λ ends others.
      subst (λ (b : ℕ). AllLate late since b s more) (sym ends) (others since (omega (arith, from, ends)) (omega (arith, soon, ends)))
  asks now since before s (call ∷ calls) more from soon comes (ask, all) =
      asked now since before s call calls more from soon comes ask (λ after last t a b on. asks now after last t calls more a b on all)

  iterates : (came : Option (Transmit (List ℕ))) (now since before : ℕ) (s : State) (calls more : List Call) → since ≤ before → before ≤ since + late → Comes since before now s
      → AllByRecursion (IsAsk now) calls → Rests since before now s (hand_in_calls came now ++ calls) more
  iterates None now since before s calls more from soon comes all = asks now since before s calls more from soon comes all
  iterates (Some packet) now since before s calls more from soon (start, is) all = λ ends others. (
    start,
    is,
    asks now start now (state_after (Recv packet now) s) calls more is.begun is.soon (start, again start now (state_after (Recv packet now) s) is.begun is.soon is.in_range) all ends others,
  )

  goes-on : (rest : Rest) (since now next : ℕ) (s : State) → since ≤ now → now ≤ since + late → now ≤ 2 ^ 62 → IsRestful rest now s → BeginsLate late rest now next → Comes since now next s
  goes-on (Until deadline) since now next s from soon range (later, idle) (begins, until, in_range) = (
    min next deadline,
    record {
      later = begins;
      in_range = in_range;
      from = omega (arith, from, begins, later);
      begun = omega arith;
      soon = omega (arith, until);
      free = λ time after early.
          ap (λ (p : Option (Transmit (List ℕ)) × State). p.0) (idle.sends_nothing (max time now) (omega arith) (omega (arith, early, later)));
    },
  )
  goes-on Now since now next s from soon range restful same = subst (λ (t : ℕ). Comes since now t s) (sym same) (since, again since now s from soon range)
  goes-on Ended since now next s from soon range restful none = absurd none

  loops : (rest : Rest) (since now : ℕ) (s : State) (loop : List Iteration) → since ≤ now → now ≤ since + late → now ≤ 2 ^ 62 → IsRestful rest now s → IsLateLoop late rest now s loop
      → AllLate late since now s (calls_of loop)
  loops rest since now s [] from soon range restful loop = tt
  loops rest since now s (one ∷ later) from soon range restful (on, all, ends, rests, others) =
      let (start, is) = goes-on rest since now one.now s from soon range restful on in
      iterates one.came one.now since now s one.asks (calls_of later) from soon (start, is) all ends
      (λ after a b. loops one.rest after one.now (state_after_all s (calls_in one)) later a b is.in_range rests others)

pub loops-late : LoopsAreLate
loops-late late rest before s loop range restful is = loops late rest before before s loop (omega arith) (omega arith) range restful is
