use Rattle.std.proofs.Common.{◌≡◌, List, [], ◌∷◌, Some, None, refl}
use Rattle.turn_session_book.specs.declared.causes.Why.{Why}
use Rattle.turn_session_book.specs.declared.events.Event.{Event}
use Rattle.turn_session_book.specs.declared.events.Event.TheVariants as Events
use Rattle.turn_session_book.specs.declared.open_requests.OpenRequest.{OpenRequest}
use Rattle.turn_session_life.specs.declared.life.Phase.{Phase}
use Rattle.turn_session_life.specs.declared.life.Phase.TheVariants.{Opening, Open, Leaving, Over}
use Rattle.turn_session_life.specs.declared.life.Report.{Report}
use Rattle.turn_session_life.specs.declared.life.Report.TheVariants.{NotYet, Due, Done}
use Rattle.turn_session_client.specs.NotedState.{NotedState}
use Rattle.turn_session_client.specs.Reporting.{reported_step}
use Rattle.turn_session_laws.proofs.ends.over_is_last.Goals as goal

abbrev noted : List Event → NotedState → NotedState
noted events s = record s { notes = record s.notes { book = record s.notes.book { events = events } } }

-- a session at each place of its life, with nothing that was noted
abbrev at : NotedState → Report → Phase → Report → Report → List OpenRequest → NotedState
at s heard phase ending over requests = record s {
  life = record { phase = phase; heard = heard; ending = ending; over = over };
  notes = record s.notes { book = record s.notes.book { requests = requests; events = [] } };
}

last-of : (s : NotedState) (heard : Report) (phase : Phase) (ending over : Report) (requests : List OpenRequest) (why : Why)
    → (reported_step (at s heard phase ending over requests)).0 ≡ Some (Events.Over why)
    → (reported_step (reported_step (at s heard phase ending over requests)).1).0 ≡ None
last-of s Due phase ending over requests why is = cc
last-of s NotYet Opening ending over requests why is = cc
last-of s NotYet Open ending over requests why is = cc
last-of s NotYet (Leaving leave) Due over requests why is = cc
last-of s NotYet (Leaving leave) NotYet over (r ∷ requests) why is = cc
last-of s NotYet (Leaving leave) NotYet NotYet [] why is = cc
last-of s NotYet (Leaving leave) NotYet Done [] why is = cc
last-of s NotYet (Leaving leave) NotYet Due [] why is = refl
last-of s NotYet (Leaving leave) Done over (r ∷ requests) why is = cc
last-of s NotYet (Leaving leave) Done NotYet [] why is = cc
last-of s NotYet (Leaving leave) Done Done [] why is = cc
last-of s NotYet (Leaving leave) Done Due [] why is = refl
last-of s NotYet (Over cause) Due over requests why is = cc
last-of s NotYet (Over cause) NotYet over (r ∷ requests) why is = cc
last-of s NotYet (Over cause) NotYet NotYet [] why is = cc
last-of s NotYet (Over cause) NotYet Done [] why is = cc
last-of s NotYet (Over cause) NotYet Due [] why is = refl
last-of s NotYet (Over cause) Done over (r ∷ requests) why is = cc
last-of s NotYet (Over cause) Done NotYet [] why is = cc
last-of s NotYet (Over cause) Done Done [] why is = cc
last-of s NotYet (Over cause) Done Due [] why is = refl
last-of s Done Opening ending over requests why is = cc
last-of s Done Open ending over requests why is = cc
last-of s Done (Leaving leave) Due over requests why is = cc
last-of s Done (Leaving leave) NotYet over (r ∷ requests) why is = cc
last-of s Done (Leaving leave) NotYet NotYet [] why is = cc
last-of s Done (Leaving leave) NotYet Done [] why is = cc
last-of s Done (Leaving leave) NotYet Due [] why is = refl
last-of s Done (Leaving leave) Done over (r ∷ requests) why is = cc
last-of s Done (Leaving leave) Done NotYet [] why is = cc
last-of s Done (Leaving leave) Done Done [] why is = cc
last-of s Done (Leaving leave) Done Due [] why is = refl
last-of s Done (Over cause) Due over requests why is = cc
last-of s Done (Over cause) NotYet over (r ∷ requests) why is = cc
last-of s Done (Over cause) NotYet NotYet [] why is = cc
last-of s Done (Over cause) NotYet Done [] why is = cc
last-of s Done (Over cause) NotYet Due [] why is = refl
last-of s Done (Over cause) Done over (r ∷ requests) why is = cc
last-of s Done (Over cause) Done NotYet [] why is = cc
last-of s Done (Over cause) Done Done [] why is = cc
last-of s Done (Over cause) Done Due [] why is = refl

last : (s : NotedState) (why : Why) (events : List Event) → events ≡ []
    → (reported_step (noted events s)).0 ≡ Some (Events.Over why) → (reported_step (reported_step (noted events s)).1).0 ≡ None
last s why [] none is = last-of s s.life.heard s.life.phase s.life.ending s.life.over s.notes.book.requests why is
last s why (event ∷ later) none is = cc

pub returns : goal.returns
returns c = record { last = λ s why none is. last s why s.notes.book.events none is }
