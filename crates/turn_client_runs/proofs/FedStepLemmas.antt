-- All steps after a stream was fed return the whole of its bytes.
use Rattle.turn_client_laws.proofs.Common.{◌≡◌, ℕ, zero, suc, ◌<◌, Bool, true, false, cond, List, [], ◌∷◌, ◌++◌, length, map, drop, take, flat_map, Option, Some, None, refl, ap, sym, subst, ◌∙◌}
use Rattle.turn_client_laws.proofs.Common.{arith, flat_map-append, append-nil, is_some, SocketAddr}
use Rattle.turn_client_laws.proofs.Machine.{Drained, behind, begins_no_frame, frame_len, frame_len-IsWhole, State, Mode, Control, Waiting, Bound, Broken, Stream, Payload, Outcome, Handled, broken_at}
use Rattle.turn_client_laws.proofs.Machine.{frame_step, is_ready, put_back, sent_by, stream_at, next_frame_step, detached_frame_step, with_bytes}
use Rattle.turn_client_laws.proofs.Laws.{IsAsideFrom, frame-bytes, frame-aside, broken-aside, bytes-twice}
use Rattle.std.proofs.lemmas.List.{length-drop}
use Rattle.turn_client_runs.specs.Cut.{bytes_at, outcome_payloads, left, one_by_one, whole}
use Rattle.turn_client_runs.proofs.AllStepsLemmas.{all-first, all-rest, all_steps, gives_then}
use Rattle.turn_client_runs.proofs.FollowLemmas.{IsFramed, IsThere, Suits, SuitsMode, control-framed, waiting-framed}
use Rattle.turn_client_runs.proofs.StreamAtLemmas.{IsAlone, aside-alone, broken-empty, broken-found, bytes-found, fed-found, found-local}
use Rattle.turn_client_runs.proofs.WholeLemmas.{bound-whole, unless, whole-breaks, whole-frame, whole-partial}

-- In the first state the stream at this local address holds this rest, and in the second nothing: they
-- differ in nothing else.
pub record IsLeft (a : SocketAddr) (c : Bool) (u t : State) (rest : List ℕ) : Type 0 where
  pub after : u ≡ with_bytes a rest t
  pub empty : with_bytes a [] t ≡ t
  pub held : bytes_at a u ≡ rest
  pub suits : Suits c (stream_at a u)

-- The result of steps is that of the whole.
pub record Agrees (a : SocketAddr) (c : Bool) (p : List Payload × State) (d : Drained State Payload) : Type 0 where
  pub given : flat_map (one_by_one c) p.0 ≡ d.given
  pub leaves : IsLeft a c p.1 d.state d.rest

agrees-by : (a : SocketAddr) (c : Bool) (p q : List Payload × State) (d e : Drained State Payload) → p ≡ q → d ≡ e → Agrees a c q e → Agrees a c p d
agrees-by a c p q d e same is h = rw (same, is) h

-- if nothing more is processed
pub rest-left : (a : SocketAddr) (c : Bool) (t : State) (stream : Stream) (rest : List ℕ) → IsAlone a t → stream_at a t ≡ Some stream → SuitsMode c stream.mode
    → IsLeft a c (with_bytes a rest t) t rest
rest-left a c t stream rest alone e suits =
    let found = bytes-found a rest t stream e in
    record { after = refl; empty = alone.empty; held = rw found refl; suits = rw found suits }

pub empty-left : (a : SocketAddr) (c : Bool) (t : State) (stream : Stream) → IsAlone a t → stream_at a t ≡ Some stream → SuitsMode c stream.mode → IsLeft a c t t []
empty-left a c t stream alone e suits = subst (λ (u : State). IsLeft a c u t []) alone.empty (rest-left a c t stream [] alone e suits)

pub none-left : (a : SocketAddr) (c : Bool) (t : State) → IsAlone a t → stream_at a t ≡ None → IsLeft a c t t []
none-left a c t alone e = record { after = sym alone.empty; empty = alone.empty; held = rw e refl; suits = rw e tt }

module _ (a : SocketAddr) (now : ℕ) where
  -- ---- the step of the stream that is fed

  abbrev pub fed : Stream → List ℕ → Stream
  fed stream bytes = record stream { bytes = bytes }

  -- it holds nothing while its frame is processed
  out-alone : (stream : Stream) (bytes : List ℕ) (t : State) → IsAlone a t → stream.local ≡ a → with_bytes stream.local [] (with_bytes a bytes t) ≡ t
  out-alone stream bytes t alone at_a =
      ap (λ (l : SocketAddr). with_bytes l [] (with_bytes a bytes t)) at_a ∙ (bytes-twice a bytes [] t ∙ alone.empty)

  step-fed : (stream : Stream) (bytes : List ℕ) (t : State) → IsAlone a t → stream_at a t ≡ Some stream
      → next_frame_step (fed stream bytes) now (with_bytes a bytes t) ≡ detached_frame_step (fed stream bytes) now t
  step-fed stream bytes t alone e = ap (detached_frame_step (fed stream bytes) now) (out-alone stream bytes t alone (found-local a t stream e))

  -- a stream that is not ready, while no other is
  waits-fed : (n : ℕ) (stream : Stream) (bytes : List ℕ) (t : State) → IsAlone a t → stream_at a t ≡ Some stream → is_ready (fed stream bytes) ≡ false
      → all_steps n now (with_bytes a bytes t) ≡ ([], with_bytes a bytes t)
  waits-fed n stream bytes t alone e waits = all-rest n now (with_bytes a bytes t) (fed-found a bytes t stream alone e ∙ rw waits refl)

  pub ready-fed : (n : ℕ) (stream : Stream) (bytes : List ℕ) (t : State) → IsAlone a t → stream_at a t ≡ Some stream → is_ready (fed stream bytes) ≡ true
      → all_steps (suc n) now (with_bytes a bytes t) ≡ gives_then (all_steps n now) (detached_frame_step (fed stream bytes) now t)
  ready-fed n stream bytes t alone e ready =
      all-first n now (with_bytes a bytes t) (fed stream bytes) (fed-found a bytes t stream alone e ∙ rw ready refl)
      ∙ ap (gives_then (all_steps n now)) (step-fed stream bytes t alone e)

  -- ---- a broken stream

  broken-alone : (t : State) → IsAlone a t → IsAlone a (broken_at a t)
  broken-alone t alone = aside-alone a t (broken_at a t) (broken-aside a t) (broken-empty a t) alone.distinct alone.others

  -- no step follows after a stream broke
  broken-rests : (n : ℕ) (stream : Stream) (t : State) → IsAlone a t → stream_at a t ≡ Some stream → all_steps n now (broken_at a t) ≡ ([], broken_at a t)
  broken-rests n stream t alone e =
      let u = broken_at a t in
      let rests = waits-fed n (record stream { mode = Broken; bytes = [] }) [] u (broken-alone t alone) (broken-found a t stream e) refl in
      subst (λ (v : State). all_steps n now v ≡ ([], v)) (broken-empty a t) rests

  -- ---- a bound stream

  bound-agrees : (n : ℕ) (t : State) (stream : Stream) (peer : SocketAddr) (bytes : List ℕ) → IsAlone a t → stream_at a t ≡ Some (record stream { mode = Bound peer })
      → Agrees a false (all_steps (suc n) now (with_bytes a bytes t)) (whole a now t bytes)
  bound-agrees n t stream peer [] alone e =
      let u = record stream { mode = Bound peer } in
      agrees-by a false _ ([], with_bytes a [] t) _ (left t []) (waits-fed (suc n) u [] t alone e refl) (bound-whole a now t peer stream e [])
      (record { given = refl; leaves = rest-left a false t u [] alone e tt })
  bound-agrees n t stream peer (b ∷ bytes) alone e =
      let u = record stream { mode = Bound peer } in
      let rests : all_steps n now t ≡ ([], t) = subst (λ (v : State). all_steps n now v ≡ ([], v)) alone.empty (waits-fed n u [] t alone e refl) in
      agrees-by a false _ (sent_by peer (b ∷ bytes) None ∷ [], t) _ _
      (ready-fed n u (b ∷ bytes) t alone e refl ∙ ap (λ (q : List Payload × State). (sent_by peer (b ∷ bytes) None ∷ q.0, q.1)) rests)
      (bound-whole a now t peer stream e (b ∷ bytes))
      (record { given = append-nil (map (λ b. sent_by peer (b ∷ []) None) (b ∷ bytes)); leaves = empty-left a false t u alone e tt })

  -- ---- a stream of frames

  suits-broken : (c : Bool) → SuitsMode c Broken
  suits-broken true = tt
  suits-broken false = tt

  -- after so many steps more, for a rest that is shorter
  abbrev Later : Bool → ℕ → Type 0
  Later c n = (t : State) (rest : List ℕ) → length rest < n → IsAlone a t → IsThere c a t → Agrees a c (all_steps n now (with_bytes a rest t)) (whole a now t rest)

  -- For a stream of frames at this local address.
  module _ (c : Bool) (m : Mode) (is : IsFramed c m) (stream : Stream) (t : State) (alone : IsAlone a t) (e : stream_at a t ≡ Some (record stream { mode = m })) where
    abbrev here : Stream
    here = record stream { mode = m }

    local-is : stream.local ≡ a
    local-is = found-local a t here e

    readiness : (bytes : List ℕ) (o : Option ℕ) → cond (begins_no_frame bytes) (Some (length bytes)) (frame_len bytes) ≡ o → is_ready (fed here bytes) ≡ is_some o
    readiness bytes o f = ap is_some (is.ready stream bytes ∙ f)

    -- no frame begins so
    breaks : (n : ℕ) (bytes : List ℕ) → begins_no_frame bytes ≡ true → Agrees a c (all_steps (suc n) now (with_bytes a bytes t)) (whole a now t bytes)
    breaks n [] f = cc
    breaks n (b ∷ bytes) f =
        let u = broken_at a t in
        let step-is : detached_frame_step (fed here (b ∷ bytes)) now t ≡ (Handled, u) = is.steps (record stream { bytes = b ∷ bytes }) now t
        ∙ rw f (ap (λ (l : SocketAddr). (Handled, broken_at l t)) local-is) in
        agrees-by a c _ ([], u) _ (left u [])
        (ready-fed n here (b ∷ bytes) t alone e (readiness (b ∷ bytes) (Some (length (b ∷ bytes))) (rw f refl))
        ∙ (ap (gives_then (all_steps n now)) step-is ∙ broken-rests n here t alone e))
        (whole-breaks a now c m is stream t e (b ∷ bytes) f)
        (record { given = refl; leaves = empty-left a c u (record stream { mode = Broken; bytes = [] }) (broken-alone t alone) (broken-found a t here e) (suits-broken c) })

    -- no whole frame is present
    partial : (n : ℕ) (bytes : List ℕ) → begins_no_frame bytes ≡ false → frame_len bytes ≡ None → Agrees a c (all_steps (suc n) now (with_bytes a bytes t)) (whole a now t bytes)
    partial n bytes f g =
        agrees-by a c _ ([], with_bytes a bytes t) _ (left t bytes)
        (waits-fed (suc n) here bytes t alone e (readiness bytes None (unless _ _ _ f ∙ g)))
        (whole-partial a now c m is stream t e bytes f g)
        (record { given = refl; leaves = rest-left a c t here bytes alone e is.suits })

    -- what the frame leaves
    framed-alone : (frame : List ℕ) → IsAlone a (frame_step here frame now t).1
    framed-alone frame =
        let p = frame_step here frame now t in
        let empty : p.1 ≡ with_bytes a [] p.1 = ap (λ (v : State). (frame_step here frame now v).1) (sym alone.empty) ∙ ap (λ (q : Outcome × State). q.1) (frame-bytes a [] here frame now t) in
        aside-alone a t p.1 (subst (λ (l : SocketAddr). IsAsideFrom l t p.1) local-is (frame-aside here frame now t)) (sym empty) alone.distinct alone.others

    -- the first frame has so many bytes
    gives : (n : ℕ) (bytes : List ℕ) (k : ℕ) → begins_no_frame bytes ≡ false → frame_len bytes ≡ Some k → length bytes < suc n → Later c n
        → Agrees a c (all_steps (suc n) now (with_bytes a bytes t)) (whole a now t bytes)
    gives n bytes k f g few later =
        let w = frame_len-IsWhole bytes k g in
        let frame = take k bytes in
        let rest = drop k bytes in
        let p = frame_step here frame now t in
        let shorter : length rest < n = rw length-drop (omega (arith, w.least, w.within, few)) in
        let step-is : detached_frame_step (fed here bytes) now t ≡ (p.0, with_bytes a rest p.1) =
        is.steps (record stream { bytes = bytes }) now t
        ∙ rw (g, f) (ap (put_back stream.local rest) (is.same stream bytes frame now t) ∙ ap (λ (l : SocketAddr). put_back l rest p) local-is) in
        let q = all_steps n now (with_bytes a rest p.1) in
        let more = later p.1 rest shorter (framed-alone frame) (is.stays a stream frame now t e) in
        agrees-by a c _ (outcome_payloads p.0 ++ q.0, q.1) _ (behind (outcome_payloads p.0) (whole a now p.1 rest))
        (ready-fed n here bytes t alone e (readiness bytes (Some k) (unless _ _ _ f ∙ g)) ∙ ap (gives_then (all_steps n now)) step-is)
        (whole-frame a now c m is stream t e bytes k f g)
        (record {
          given =
              flat_map-append (one_by_one c) (outcome_payloads p.0) q.0
              ∙ (ap (λ (l : List Payload). l ++ flat_map (one_by_one c) q.0) (is.counts stream frame now t)
              ∙ ap (λ (l : List Payload). outcome_payloads p.0 ++ l) more.given);
          leaves = more.leaves;
        })

    framed-agrees : (n : ℕ) (bytes : List ℕ) → length bytes < suc n → Later c n → Agrees a c (all_steps (suc n) now (with_bytes a bytes t)) (whole a now t bytes)
    framed-agrees n bytes few later = by (begins_no_frame bytes) refl (frame_len bytes) refl
      where
        by : (b : Bool) → begins_no_frame bytes ≡ b → (o : Option ℕ) → frame_len bytes ≡ o → Agrees a c (all_steps (suc n) now (with_bytes a bytes t)) (whole a now t bytes)
        by true f o g = breaks n bytes f
        by false f None g = partial n bytes f g
        by false f (Some k) g = gives n bytes k f g few later

    -- its own step is the first of all, and while it waits there is none
    pub framed-first : (n : ℕ) (bytes : List ℕ) → gives_then (all_steps n now) (detached_frame_step (fed here bytes) now t) ≡ all_steps (suc n) now (with_bytes a bytes t)
    framed-first n bytes = by (begins_no_frame bytes) refl (frame_len bytes) refl
      where
        Goal : Type 0
        Goal = gives_then (all_steps n now) (detached_frame_step (fed here bytes) now t) ≡ all_steps (suc n) now (with_bytes a bytes t)

        ready : is_ready (fed here bytes) ≡ true → Goal
        ready r = sym (ready-fed n here bytes t alone e r)

        by : (b : Bool) → begins_no_frame bytes ≡ b → (o : Option ℕ) → frame_len bytes ≡ o → Goal
        by true f o g = ready (readiness bytes (Some (length bytes)) (rw f refl))
        by false f (Some k) g = ready (readiness bytes (Some k) (unless _ _ _ f ∙ g))
        by false f None g =
            let waits = readiness bytes None (unless _ _ _ f ∙ g) in
            let step-is : detached_frame_step (fed here bytes) now t ≡ (Handled, with_bytes a bytes t) =
            is.steps (record stream { bytes = bytes }) now t ∙ rw (g, f) (ap (λ (l : SocketAddr). (Handled, with_bytes l bytes t)) local-is) in
            ap (gives_then (all_steps n now)) step-is
            ∙ (waits-fed n here bytes t alone e waits ∙ sym (waits-fed (suc n) here bytes t alone e waits))

  -- ---- any stream that is not broken

  in-mode : (c : Bool) (m : Mode) (stream : Stream) (t : State) → SuitsMode c m → (m ≡ Broken → ⊥) → IsAlone a t → stream_at a t ≡ Some (record stream { mode = m }) → (n : ℕ) (bytes : List ℕ)
      → length bytes < suc n → Later c n → Agrees a c (all_steps (suc n) now (with_bytes a bytes t)) (whole a now t bytes)
  in-mode true Control stream t suits unbroken alone e n bytes few later = framed-agrees true Control control-framed stream t alone e n bytes few later
  in-mode false Waiting stream t suits unbroken alone e n bytes few later = framed-agrees false Waiting waiting-framed stream t alone e n bytes few later
  in-mode false (Bound peer) stream t suits unbroken alone e n bytes few later = bound-agrees n t stream peer bytes alone e
  in-mode true Broken stream t suits unbroken alone e n bytes few later = absurd (unbroken refl)
  in-mode false Broken stream t suits unbroken alone e n bytes few later = absurd (unbroken refl)
  in-mode c m stream t suits unbroken alone e n bytes few later = absurd suits

  -- more steps than bytes give the whole
  pub steps-whole : (c : Bool) (n : ℕ) (t : State) (bytes : List ℕ) → length bytes < n → IsAlone a t → IsThere c a t → Agrees a c (all_steps n now (with_bytes a bytes t)) (whole a now t bytes)
  steps-whole c zero t bytes few alone there = absurd (omega (arith, few))
  steps-whole c (suc n) t bytes few alone there =
      in-mode c there.stream.mode there.stream t there.suits there.unbroken alone there.found n bytes few (λ u rest less still is. steps-whole c n u rest less still is)
