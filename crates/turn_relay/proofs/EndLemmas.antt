-- The end of a session whose server names another one.
use Rattle.std.proofs.Common.{◌≡◌, ◌∙◌, ℕ, false, List, [], ◌∷◌, ◌++◌, inr, refl, subst}
use Rattle.std.specs.declared.net.socket_addr.SocketAddr.{SocketAddr}
use Rattle.turn_relay_tries.specs.Redirects.{after_redirect, is_followed}
use Rattle.turn_relay_lives.specs.declared.link.Link.{Link}
use Rattle.turn_relay.specs.Ending.{RedirectsLater, TakesOverLater, asked_too}
use Rattle.turn_relay.specs.RelayState.{RelayState}

same-redirects : (to : SocketAddr) (left : ℕ) (asked : List SocketAddr) → is_followed to left asked ≡ false → after_redirect to left asked ≡ left
same-redirects to left asked shut = rw shut refl

-- the one that it names is not asked, and what the session had could not all be wanted again
pub not-sent-on : (link : Link) (to : SocketAddr) (u was r : RelayState) (first left : ℕ) (noted asked : List SocketAddr) → u ≡ was
    → noted ≡ u.asked ++ link.attempt.to ∷ [] → first ≡ u.redirects → is_followed to first noted ≡ false
    → left ≡ after_redirect to first noted → asked ≡ noted
    → TakesOverLater link.socket (record u { redirects = left; asked = asked }) r → RedirectsLater link to was r
not-sent-on link to u was r first left noted asked is notes firsts shut lefts asks later =
    let kept : left ≡ u.redirects = lefts ∙ same-redirects to first noted shut ∙ firsts in
    let all : asked ≡ u.asked ++ link.attempt.to ∷ [] = asks ∙ notes in
    let stays : is_followed to u.redirects (u.asked ++ link.attempt.to ∷ []) ≡ false = rw (← firsts, ← notes) shut in
    let state : record u { redirects = left; asked = asked } ≡ asked_too link u = rw (kept, all) refl in
    let after : TakesOverLater link.socket (asked_too link u) r =
    subst (λ (t : RelayState). TakesOverLater link.socket t r) state later in
    let first-later : RedirectsLater link to u r = inr (stays, after) in
    subst (λ (w : RelayState). RedirectsLater link to w r) is first-later
