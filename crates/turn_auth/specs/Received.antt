-- A challenge that was read in a message, as contracts see it.
use Rattle.turn_auth.specs.LongTerm.{Challenge}
use Rattle.turn_auth.specs.declared.received_challenge.ReceivedChallenge.TheInside.{Inside}

abbrev pub received_view : Inside → Challenge
received_view received = record {
  realm = received.realm.now;
  nonce = received.nonce.now;
  algorithm = received.algorithm;
  password_algorithms = received.password_algorithms.items;
}
