-- Checks of a path in a row, in which nothing was received.
use Rattle.std.proofs.Common.{◌≡◌, ℕ, zero, suc, ◌≤◌, true, List, [], ◌∷◌, Option, Some, None, ap, subst, inl, inr, arith, ltb}
use Rattle.std.proofs.lemmas.Bool.{cases_Bool, ltb-false, ltb-true}
use Rattle.turn_session_path.specs.Prober.{after_other, after_probe_answer}
use Rattle.turn_session_path.specs.declared.asked.Asked.{Asked}
use Rattle.turn_session_path.specs.declared.path.Path.{Path}
use Rattle.turn_session_path.specs.declared.prober.Prober.{Prober}
use Rattle.turn_session_path.specs.declared.round.CheckRequest.{CheckRequest}
use Rattle.turn_session_path.specs.declared.round.CheckRequest.TheVariants.{Binding, BarePermission}
use Rattle.std.specs.Option.{option_map}
use Rattle.turn_session_laws.specs.PathEnds.{AreSilent}
use Rattle.turn_session_laws.specs.PathRuns.{PathCall, is_quiet, path_after}

-- ---- fewer checks

-- without the one that is under way
pub forget : (first : Path) (n began : ℕ) (before : List PathCall) → AreSilent first n (Some began) before → AreSilent first n None before
forget first zero began before h = tt
forget first (suc n) began [] h = absurd h
forget first (suc n) began (call ∷ before) (inl x) = (x.0, inl (forget first (suc n) began before x.1))
forget first (suc n) began (call ∷ before) (inr x) = (ap (λ (c : PathCall). is_quiet c (path_after first before)) x.0, inl x.2)

-- without the first
one-less : (first : Path) (n : ℕ) (under : Option ℕ) (before : List PathCall) → AreSilent first (suc n) under before → AreSilent first n under before
one-less first zero None before h = tt
one-less first (suc n) None [] h = absurd h
one-less first (suc n) None (call ∷ before) (quiet, inl x) = (quiet, inl (one-less first (suc n) None before x))
one-less first (suc n) None (call ∷ before) (quiet, inr x) = (quiet, inr (x.0, x.1, x.2, x.3, one-less first n (Some x.1) before x.4))
one-less first n (Some began) [] h = absurd h
one-less first n (Some began) (call ∷ before) (inl x) = inl (x.0, one-less first n (Some began) before x.1)
one-less first n (Some began) (call ∷ before) (inr x) = inr (x.0, x.1, one-less first n None before x.2)

pub fewer : (first : Path) (m n : ℕ) (under : Option ℕ) (before : List PathCall) → n ≤ m → AreSilent first m under before → AreSilent first n under before
fewer first zero n under before le h = let same : zero ≡ n = omega arith in subst (λ (k : ℕ). AreSilent first k under before) same h
fewer first (suc m) n under before le h = elim (cases_Bool (ltb m n)) [
  | inl above ↦ let same : suc m ≡ n = let more = ltb-true m n above in omega arith in subst (λ (k : ℕ). AreSilent first k under before) same h
  | inr below ↦ fewer first m n under before (ltb-false m n below) (one-less first m under before h)
]

-- ---- a call in which nothing was received

pub goes-on : (first : Path) (n : ℕ) (under : Option ℕ) (call : PathCall) (before : List PathCall) → is_quiet call (path_after first before) ≡ true
    → AreSilent first n under before → AreSilent first n under (call ∷ before)
goes-on first zero None call before quiet h = tt
goes-on first (suc n) None call before quiet h = (quiet, inl h)
goes-on first n (Some began) call before quiet h = inl (quiet, h)

-- ---- the probes of a path

abbrev pub under_way : Option Asked → Option ℕ
under_way None = None
under_way (Some asked) = Some asked.round.began

abbrev pub ProbesOf : Path → Option Prober → List PathCall → Type 0
ProbesOf first None before = Unit {0}
ProbesOf first (Some q) before = AreSilent first q.probes.unanswered (under_way q.asked) before

pub probes-go_on : (first : Path) (q : Option Prober) (call : PathCall) (before : List PathCall) → is_quiet call (path_after first before) ≡ true
    → ProbesOf first q before → ProbesOf first q (call ∷ before)
probes-go_on first None call before quiet h = tt
probes-go_on first (Some q) call before quiet h = goes-on first q.probes.unanswered (under_way q.asked) call before quiet h

-- none is silent once something was received
other-none : (first : Path) (now : ℕ) (q : Prober) (asked : Option Asked) (calls : List PathCall)
    → let t = after_other now (record q { asked = asked }) in AreSilent first t.probes.unanswered (under_way t.asked) calls
other-none first now q None calls = tt
other-none first now q (Some asked) calls = tt

pub received-none : (first : Path) (now : ℕ) (q : Option Prober) (calls : List PathCall) → ProbesOf first (option_map (after_other now) q) calls
received-none first now None calls = tt
received-none first now (Some q) calls = other-none first now q q.asked calls

answered-by : (first : Path) (request : CheckRequest) (now : ℕ) (q : Prober) (calls : List PathCall)
    → ProbesOf first (Some (after_probe_answer request now q)) calls
answered-by first Binding now q calls = tt
answered-by first BarePermission now q calls = tt

pub answered-none : (first : Path) (request : CheckRequest) (now : ℕ) (q : Option Prober) (calls : List PathCall)
    → ProbesOf first (option_map (after_probe_answer request now) q) calls
answered-none first request now None calls = tt
answered-none first request now (Some q) calls = answered-by first request now q calls
