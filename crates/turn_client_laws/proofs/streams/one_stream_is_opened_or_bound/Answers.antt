use Rattle.turn_client_laws.proofs.AnyStreamsEffects.{bind-alike, socket-alike}
use Rattle.turn_client_laws.proofs.streams.one_stream_is_opened_or_bound.Goals as goal

pub returns : goal.returns
returns c = record {
  opened = λ id tuple peer local now streams s. socket-alike streams id tuple peer local now s;
  bound = λ local message now streams s. bind-alike streams local message now s;
}
